use Rattle.making.proofs.Negating.{negations_lead}
use Rattle.making.proofs.negated.NegatedPlaces.child.Goals as goal

pub returns : goal.returns
returns g c =
    record {
      leads_to_the_cell =
          λ k marks.
          negations_lead (g.A.Algebra.tables c.args.self.now.algebra.now) k c.args.level.now.counts.now c.args.level.now.nodes.now marks c.args.level.now.number c.args.place c.args.cell c.next.result c.next.ensures;
    }
