use Rattle.std.proofs.Common.{length, sym, ap, arith}
use Rattle.short_list.proofs.Few.{few_items}
use Rattle.vocabulary.proofs.Placing.{cut_below}
use Rattle.vocabulary.proofs.record.Vocabulary.cut.Goals as goal

pub overflow_cast-result : goal.overflow_cast-result
overflow_cast-result c =
    let few = few_items c.in_ok-bounds.bounds in
    let same = ap length c.as_slice.ensures in
    let below = cut_below c.as_slice.result.now _ c.in_ok-place.place (sym c.in_ok-place.ensures) in
    record { fits = omega arith }
