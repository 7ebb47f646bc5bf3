-- The code's answers in the words of the input.
use Rattle.std.specs.Prelude.{◌≡◌, Ok, Err, Result}
use Rattle.refusal.specs.Answers.{Answer, told_by}
use Rattle.vocabulary.specs.Record.{cells_of}
use Rattle.location.specs.declared.Location.{Location}
use Rattle.location.specs.declared.Failure.{Failure}
use Rattle.location.specs.declared.Failure.TheVariants.{Refused, OutOfMemory}
use Rattle.location.specs.Located.{Place}

-- a location of the code as a place: its grid number and its cells
abbrev pub place_shown : Location → Place
place_shown l = record { grid_number = l.number; cells = cells_of l.cells }

-- the answer is the one laid down, or memory was lacking
abbrev pub Answered : {X Y : Type 0} → (X → Y) → Result X Failure → Answer Y → Type 0
Answered show (Ok x) a = Ok (show x) ≡ a
Answered show (Err (Refused r)) a = Err (told_by r) ≡ a
Answered show (Err OutOfMemory) a = Unit {0}
