use Rattle.std.proofs.Common.{◌≡◌, arith}
use Rattle.algebra.proofs.Groupings.{sum_of_three_lem}
use Rattle.algebra.proofs.sum_of_three.Goals as goal

pub returns : goal.returns
returns g c =
    let s = c.args.algebra.now in
    let laws = g.met.G.Algebra in
    let size = c.size-size.ensures in
    let summed : c.sum-2.result ≡ (g.G.Algebra.tables s).sum ((g.G.Algebra.tables s).sum c.args.a c.args.b) c.args.c = cc in
    sum_of_three_lem (g.G.Algebra.tables s) (laws.short_cuts s) (laws.regrouping s) _ _ _ _ (omega arith) (omega arith) (omega arith) summed
