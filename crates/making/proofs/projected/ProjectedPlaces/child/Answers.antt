use Rattle.std.proofs.Common.{ℕ, cond, ap, ◌∙◌}
use Rattle.diagram.specs.declared.Link.TheVariants.{Decision}
use Rattle.diagram.specs.Diagram.{next}
use Rattle.making.proofs.Masking.{child_of, projections_lead}
use Rattle.making.proofs.projected.ProjectedPlaces.child.Goals as goal

pub returns-then-has_bit : goal.returns-then-has_bit
returns-then-has_bit c =
    record {
      leads_to_the_cell =
          λ k marks.
          projections_lead c.args.self.now.masks.now c.args.self.now.decisions k c.args.level.now.counts.now c.args.level.now.nodes.now marks c.args.level.now.number c.args.place c.args.cell c.next.result
          (c.next.ensures
          ∙ ap (λ b. cond b (next c.args.level.now.nodes.now c.args.level.now.number c.args.place c.args.cell) (Decision 0)) c.if-has_bit.ensures
          ∙ ap (λ (m : ℕ). child_of c.args.level.now.nodes.now m c.args.level.now.number c.args.place c.args.cell) c.mask.ensures);
    }

pub returns-else-has_bit : goal.returns-else-has_bit
returns-else-has_bit c =
    record {
      leads_to_the_cell =
          λ k marks.
          projections_lead c.args.self.now.masks.now c.args.self.now.decisions k c.args.level.now.counts.now c.args.level.now.nodes.now marks c.args.level.now.number c.args.place c.args.cell (Decision 0)
          (ap (λ b. cond b (next c.args.level.now.nodes.now c.args.level.now.number c.args.place c.args.cell) (Decision 0)) c.if-has_bit.ensures
          ∙ ap (λ (m : ℕ). child_of c.args.level.now.nodes.now m c.args.level.now.number c.args.place c.args.cell) c.mask.ensures);
    }
