-- What the code's reader has been given, in the words of the formats.
use Rattle.std.specs.Prelude.{◌≡◌, length, Ok, Err, Result}
use Rattle.short_list.specs.Items.{items_of}
use Rattle.refusal.specs.declared.Refusal.{Refusal}
use Rattle.refusal.specs.Answers.{Answer, told_by}
use Rattle.request.specs.declared.given.Given.{Given}
use Rattle.request.specs.Request as said

-- the attributes' cells as far as they are given
abbrev pub given_in : Given → said.Given
given_in g = items_of g.cells

-- what is given after a step, or its refusal, is as laid down, for as many attributes as before
abbrev pub Stepped : Answer said.Given → Given → Result (Unit {0}) Refusal → Given → Type 0
Stepped a before (Ok u) after = (a ≡ Ok (given_in after)) × (length (given_in after) ≡ length (given_in before))
Stepped a before (Err e) after = a ≡ Err (told_by e)
