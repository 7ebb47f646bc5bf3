-- One field of an input: a sheet that joins the others, or a request that they answer.
use Rattle.std.proofs.Common.{◌≡◌, ℕ, true, false, eqb, List, Ok, Err, sym, ap, ◌∙◌}
use Rattle.std.proofs.lemmas.Bool.{cond-true, cond-false}
use Rattle.refusal.specs.Answers.{Told, Answer, and_then}
use Rattle.algebra.specs.PermitDeny.{permit_deny}
use Rattle.fields.specs.Fields.{Framed}
use Rattle.vocabulary.specs.Vocabulary.{Attribute}
use Rattle.policy.specs.Walks.{checked_by}
use Rattle.location.specs.Located.{Place, placed}
use Rattle.decision.specs.Decided.{Arrived, with_sheet, with_line, serve}

module _ (at : ℕ) (v : List Attribute) (a : Arrived) (f : Framed) where
  -- what a sheet that is checked, and a place that is found, come to
  abbrev joining : Answer (Unit {0}) → Answer Arrived
  joining c = and_then c (λ _. Ok (with_sheet a f.content))

  abbrev answering : Answer Place → Answer Arrived
  answering p = and_then p (λ p. Ok (with_line v a p.grid_number))

  -- a sheet joins those that are there
  pub sheet_joins : eqb f.tag 0x02 ≡ true → (u : Unit {0}) → Ok u ≡ checked_by permit_deny.size v f.content → Ok (with_sheet a f.content) ≡ serve at v a f
  sheet_joins t u e = ap joining e ∙ sym (cond-true (eqb f.tag 0x02) (joining (checked_by permit_deny.size v f.content)) (answering (placed at v f)) t)

  module _ (t : eqb f.tag 0x02 ≡ false) where
    -- a request is refused
    pub request_refused : (r : Told) → Err r ≡ placed at v f → Err r ≡ serve at v a f
    request_refused r e = ap answering e ∙ sym (cond-false (eqb f.tag 0x02) (joining (checked_by permit_deny.size v f.content)) (answering (placed at v f)) t)

    -- a request is answered by the sheets that are there
    pub request_answered : (p : Place) → Ok p ≡ placed at v f → Ok (with_line v a p.grid_number) ≡ serve at v a f
    request_answered p e = ap answering e ∙ sym (cond-false (eqb f.tag 0x02) (joining (checked_by permit_deny.size v f.content)) (answering (placed at v f)) t)
