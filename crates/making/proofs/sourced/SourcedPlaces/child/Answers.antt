use Rattle.making.proofs.Spanning.{spans_lead}
use Rattle.making.proofs.sourced.SourcedPlaces.child.Goals as goal

pub returns : goal.returns
returns g c =
    record {
      leads_to_the_cell =
          λ k marks.
          spans_lead (g.S.Source.meaning c.args.self.now.source.now) k c.args.level.now.counts.now c.args.level.now.nodes.now marks c.args.level.now.number c.args.place c.cells.result c.args.cell
          (record { first = c.along-first.result; count = c.share-count.result }) c.cells.ensures c.share-count.ensures c.along-first.ensures;
    }
