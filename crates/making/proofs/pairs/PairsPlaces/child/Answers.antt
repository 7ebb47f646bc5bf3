use Rattle.making.proofs.Pairing.{pairs_lead}
use Rattle.making.proofs.pairs.PairsPlaces.child.Goals as goal

pub returns : goal.returns
returns g c =
    record {
      leads_to_the_cell =
          λ k marks.
          pairs_lead c.args.self.now.operator (g.A.Algebra.tables c.args.self.now.algebra.now) k c.args.level.now.counts.now c.args.level.now.nodes.now marks c.args.level.now.number c.args.place c.args.cell
          (record { left = c.next.result; right = c.next-2.result }) c.next.ensures c.next-2.ensures;
    }
