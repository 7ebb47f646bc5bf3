-- One field of a sheet: its tag may follow, and what it says is entered.
use Rattle.std.proofs.Common.{◌≡◌, ℕ, Bool, true, cond, Ok, Err, Result, sym, ap, ◌∙◌, subst}
use Rattle.std.proofs.lemmas.Bool.{cond-true}
use Rattle.refusal.specs.declared.Refusal.{Refusal}
use Rattle.refusal.specs.Answers.{Told, Answer, refuse, and_then}
use Rattle.fields.specs.Fields.{Framed, Said, said_by}

module _ {X : Type 0} (at : ℕ) (f : Framed) (passes : Bool) (enter : Said → Answer X) (tag : passes ≡ true) where
  -- a tag that may follow leaves it to what the field says
  tag_passes : cond passes (and_then (said_by at f) enter) (refuse 11 at) ≡ and_then (said_by at f) enter
  tag_passes = cond-true passes (and_then (said_by at f) enter) (refuse 11 at) tag

  -- what the field says is entered
  pub enters : (s : Said) → Ok s ≡ said_by at f → cond passes (and_then (said_by at f) enter) (refuse 11 at) ≡ enter s
  enters s e = tag_passes ∙ ap (λ a. and_then a enter) (sym e)

  -- or the field is refused
  pub enters_in_vain : (t : Told) → Err t ≡ said_by at f → cond passes (and_then (said_by at f) enter) (refuse 11 at) ≡ Err t
  enters_in_vain t e = tag_passes ∙ ap (λ a. and_then a enter) (sym e)

-- what is promised of a refusal holds where a `?` hands it on
pub handed_on_as : {X : Type 0} (Promised : Result X Refusal → Type 0) (r : Result X Refusal) (y e : Refusal) → r ≡ Err y → y ≡ e → Promised (Err e) → Promised r
handed_on_as Promised r y e p q h = subst Promised (sym (p ∙ ap Err q)) h
