use Rattle.std.proofs.Common.{◌≡◌, false, length, get_or, sym, refl, ◌∙◌, ⊎_elim, arith, below_more}
use Rattle.std.proofs.lemmas.List.{get_or_past}
use Rattle.std.proofs.lemmas.Bool.{cases_lt, both_ways, eqb-true, eq-eqb}
use Rattle.table.proofs.find.Goals as goal
use Rattle.table.proofs.find.Goals.{else-is_marked-via-then-is_marked+else-alike, else-is_marked-via-else-is_marked}

pub returns : goal.returns
returns c s m a =
    ⊎_elim (λ l. c.loop-number.invariant s (omega arith) m a)
    (λ l. let z : get_or c.args.marking.now.bytes.now s 0 ≡ 0 = get_or_past c.args.marking.now.bytes.now s 0 l in omega arith) (cases_lt s (length c.args.marking.now.bytes.now))

pub returns-then-alike : goal.returns-then-alike
returns-then-alike c =
    (omega arith, eqb-true (get_or c.args.marking.now.bytes.now c.loop-number.number 0) 1 (sym c.if-is_marked.ensures), c.if-alike.ensures.0 refl)

pub loop-number-preserved : goal.loop-number-preserved
loop-number-preserved c =
    below_more _ _ c.loop-number.invariant
    (λ m a.
    elim c.else-is_marked.branch [
      | else-is_marked-via-then-is_marked+else-alike w ↦ both_ways false refl (w.if-alike.ensures.1 a)
      | else-is_marked-via-else-is_marked w ↦ both_ways false refl (w.if-is_marked.ensures ∙ eq-eqb (get_or c.args.marking.now.bytes.now c.loop-number.number 0) 1 m)
    ])
