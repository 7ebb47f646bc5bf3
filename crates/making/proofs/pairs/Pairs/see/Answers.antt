use Rattle.std.proofs.Common.{refl}
use Rattle.making.proofs.Pairing.{seen_to_branch, not_settled}
use Rattle.making.proofs.pairs.Pairs.see.Goals as goal

pub returns-in-Some : goal.returns-in-Some
returns-in-Some g c =
    let s = c.in-Some.ensures in
    record { seen_as_it_is = λ k marks. s.1 k c.args.level.now.counts.now c.args.level.now.nodes.now marks c.args.level.now.number; settled_just_at_once = λ k marks sound st. (λ e. s.0, λ a. refl) }

pub returns-in-None : goal.returns-in-None
returns-in-None g c =
    let t = g.A.Algebra.tables c.args.self.now.algebra.now in
    let o = c.args.self.now.operator in
    record {
      seen_as_it_is =
          seen_to_branch o t c.args.level.now.counts.now c.args.level.now.nodes.now c.args.level.now.number c.args.pair c.first_level.result c.first_level.ensures c.in-None.ensures
          c.branches_within.result c.branches_within.ensures;
      settled_just_at_once =
          not_settled o t c.args.level.now.counts.now c.args.level.now.nodes.now c.args.level.now.number c.args.pair c.first_level.result c.first_level.ensures c.in-None.ensures
          c.branches_within.result c.branches_within.ensures;
    }
