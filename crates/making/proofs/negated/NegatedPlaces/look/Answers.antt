use Rattle.making.specs.Negations.{negation_stands, negation_says}
use Rattle.making.proofs.Seeing.{same_places}
use Rattle.making.proofs.Negating.{negations_settle, negations_branch}
use Rattle.making.proofs.negated.NegatedPlaces.look.Goals as goal

pub returns-in-Decision : goal.returns-in-Decision
returns-in-Decision g c =
    let t = g.A.Algebra.tables c.args.self.now.algebra.now in
    let laws = g.met.A.Algebra.short_cuts c.args.self.now.algebra.now in
    record {
      same_places = same_places (negation_stands t) (negation_says t);
      keeps_what_was_kept = λ first h. h;
      seen_as_it_is =
          λ k marks.
          negations_settle t k c.args.level.now.counts.now c.args.level.now.nodes.now marks c.args.level.now.number c.args.place laws c.in-Decision.d c.negation.result c.in-Decision.is c.negation.ensures;
    }

pub returns-in-Record : goal.returns-in-Record
returns-in-Record g c =
    let t = g.A.Algebra.tables c.args.self.now.algebra.now in
    record {
      same_places = same_places (negation_stands t) (negation_says t);
      keeps_what_was_kept = λ first h. h;
      seen_as_it_is =
          negations_branch t c.args.level.now.counts.now c.args.level.now.nodes.now c.args.level.now.number c.args.place c.in-Record.r c.level_of.result c.in-Record.is c.level_of.ensures
          c.branches_within.result c.branches_within.ensures;
    }
