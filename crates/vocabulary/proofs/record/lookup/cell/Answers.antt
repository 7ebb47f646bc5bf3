use Rattle.std.proofs.Common.{arith}
use Rattle.std.proofs.lemmas.Int.{to_z-of_z}
use Rattle.vocabulary.proofs.Cutting.{above, under, past}
use Rattle.vocabulary.proofs.record.lookup.cell.Goals as goal

pub returns-then-i-eq0 : goal.returns-then-i-eq0
returns-then-i-eq0 c = grind (arith, to_z-of_z, above)

pub returns-else-i-eq0 : goal.returns-else-i-eq0
returns-else-i-eq0 c = grind (arith, to_z-of_z, above)

pub loop-i-preserved : goal.loop-i-preserved
loop-i-preserved c = grind (arith, to_z-of_z, under)

pub returns : goal.returns
returns c = grind (arith, to_z-of_z, past)
