use Rattle.std.proofs.Common.{length, sym, ap, arith}
use Rattle.short_list.proofs.Few.{few_items}
use Rattle.vocabulary.proofs.Cutting.{cell_ends_within}
use Rattle.vocabulary.proofs.record.Vocabulary.number_cell.Goals as goal

pub overflow_cast-result : goal.overflow_cast-result
overflow_cast-result c =
    let few = few_items c.in_ok-cuts.cuts in
    let same = ap length c.as_slice.ensures in
    let below = cell_ends_within 0 c.as_slice.result.now _ c.in_ok-cell.cell (sym c.in_ok-cell.ensures) in
    record { fits = omega arith }
