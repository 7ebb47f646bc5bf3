-- What is decided of a whole sheet, once the walk through its fields has ended.
use Rattle.std.proofs.Common.{◌≡◌, ℕ, ◌≤◌, List, length, Ok, Err, sym, ◌∙◌}
use Rattle.refusal.specs.Answers.{Told}
use Rattle.fields.specs.Fields.{reading}
use Rattle.fields.proofs.Reading.{sheet_refused, sheet_ended}
use Rattle.algebra.specs.Tables.{Tables}
use Rattle.vocabulary.specs.Vocabulary.{Attribute}
use Rattle.policy.specs.Walking.{Walked, begun, step, finish}
use Rattle.policy.specs.Walks.{decided_by}
use Rattle.policy.proofs.Walked.{walk-decides}

module _ (t : Tables) (v : List Attribute) (cells bs : List ℕ) (fits : length cells ≡ length v) (short : length bs ≤ 65535) where
  -- a refusal on the way is what is decided
  pub decided_refused : (e : Told) → reading (step t v cells) 0 begun 0 bs ≡ Err e → decided_by t v cells bs ≡ Err e
  decided_refused e q = sym (walk-decides t v cells bs fits) ∙ sheet_refused bs short (reading (step t v cells) 0 begun 0 bs) (finish t (length bs)) e q

  -- read to its end, the end decides
  pub decided_ended : (p : Walked) → reading (step t v cells) 0 begun 0 bs ≡ Ok p → finish t (length bs) p ≡ decided_by t v cells bs
  decided_ended p q = sym (sheet_ended bs short (reading (step t v cells) 0 begun 0 bs) (finish t (length bs)) p q) ∙ walk-decides t v cells bs fits
