-- The code's walk through the fields of a sheet.
use Rattle.std.specs.Prelude.{◌≡◌, ℕ, ◌<◌, ◌≤◌, List, length, Some, None, Ok, Err, Option, Result}
use Rattle.refusal.specs.declared.Refusal.{Refusal}
use Rattle.refusal.specs.Answers.{told_by, told}
use Rattle.fields.specs.declared.RawField.{RawField}
use Rattle.fields.specs.declared.sheet.Fields.{Fields}
use Rattle.fields.specs.Fields.{field_at}
use Rattle.fields.specs.Shown.{found, EndsWithin}

-- the walk stands at a place of the bytes
pub record StandsAt (bs : List ℕ) (at : ℕ) (f : Fields) : Type 0 where
  pub of_the_bytes : f.bytes.now ≡ bs
  pub at_the_place : f.at ≡ at

-- a walk through a sheet stands at its first byte; a sheet that is too long is refused
abbrev pub OpensSheet : List ℕ → Result Fields Refusal → Type 0
OpensSheet bs (Ok f) = StandsAt bs 0 f × (length bs ≤ 65535)
OpensSheet bs (Err e) = (told_by e ≡ told 14 0) × (65535 < length bs)

-- a walk goes on to the next field, or ends at one that is refused, or at the end of the bytes
abbrev pub NextField : Fields → Option (Result RawField Refusal) → Fields → Type 0
NextField before None after = (after ≡ before) × (length before.bytes.now ≤ before.at)
NextField before (Some (Ok f)) after = (before.at < length before.bytes.now) × (Ok (found f) ≡ field_at before.bytes.now before.at) × EndsWithin before.bytes.now before.at f × StandsAt before.bytes.now f.next after
NextField before (Some (Err e)) after = (before.at < length before.bytes.now) × (Err (told_by e) ≡ field_at before.bytes.now before.at) × StandsAt before.bytes.now (length before.bytes.now) after
