use Rattle.std.proofs.Common.{◌≡◌, ℕ, cond, List, Some, None, Option, sym, refl, subst, rules}
use Rattle.std.specs.Prelude.{MatchOption}
use Rattle.diagram.specs.declared.Node.{Node}
use Rattle.diagram.specs.declared.Link.{Link}
use Rattle.places.specs.Places.{SeenAs}
use Rattle.places.specs.declared.Seen.{Seen}
use Rattle.places.specs.declared.Seen.TheVariants.{Settled, Branches}
use Rattle.diagram.specs.declared.Link.TheVariants.{Decision}
use Rattle.pages.specs.Projection.{has_bit}
use Rattle.diagram.specs.Diagram.{decision}
use Rattle.making.specs.Projections.{projection_stands, projection_says, FirstBranch}
use Rattle.making.proofs.Seeing.{same_places}
use Rattle.making.proofs.Masking.{projections_settle_nothing, projections_skip, projections_settle}
use Rattle.making.proofs.projected.ProjectedPlaces.look.Goals as goal

-- what is seen: the first branch, or where there is none the decision that is kept
seen_by : (masks : List ℕ) (decisions : ℕ) (shape : List ℕ) (nodes : List Node) (j : ℕ) (l : Link) (r : Option ℕ) (seen : Seen) → FirstBranch masks shape nodes j l r
    → MatchOption r (seen ≡ Settled (Decision (cond (has_bit decisions (decision l)) (decision l) 0))) (λ at. seen ≡ Branches at)
    → SeenAs (projection_stands masks) (projection_says masks decisions) shape nodes j l seen
seen_by masks decisions shape nodes j l None seen w is =
    subst (SeenAs (projection_stands masks) (projection_says masks decisions) shape nodes j l) (sym is)
    (λ k marks. projections_settle masks decisions k shape nodes marks j l (cond (has_bit decisions (decision l)) (decision l) 0) w refl)
seen_by masks decisions shape nodes j l (Some at) seen w is =
    subst (SeenAs (projection_stands masks) (projection_says masks decisions) shape nodes j l) (sym is)
    (w.0, w.1, λ k marks. projections_skip masks decisions k shape nodes marks j at l w.1 w.2)

pub returns-then-eq : goal.returns-then-eq
returns-then-eq c =
    let masks = c.args.self.now.masks.now in
    let decisions = c.args.self.now.decisions in
    record {
      same_places = same_places (projection_stands masks) (projection_says masks decisions);
      keeps_what_was_kept = λ first h. h;
      seen_as_it_is =
          λ k marks. projections_settle_nothing masks decisions k c.args.level.now.counts.now c.args.level.now.nodes.now marks c.args.level.now.number c.args.place (search rules);
    }

pub returns-clause-seen_as_it_is : goal.returns-clause-seen_as_it_is
returns-clause-seen_as_it_is c =
    let masks = c.args.self.now.masks.now in
    let decisions = c.args.self.now.decisions in
    let level = c.args.level.now in
    let d : ℕ = decision c.args.place in
    let is : MatchOption c.first_branch.result (c.map_or_else.result ≡ Settled (Decision (cond (has_bit decisions d) d 0))) (λ at. c.map_or_else.result ≡ Branches at) = search rules in
    seen_by masks decisions level.counts.now level.nodes.now level.number c.args.place c.first_branch.result c.map_or_else.result c.first_branch.ensures is
