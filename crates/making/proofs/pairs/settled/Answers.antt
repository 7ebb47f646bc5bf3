use Rattle.std.proofs.Common.{◌≡◌, ap, inl, inr, rules}
use Rattle.diagram.specs.declared.Link.TheVariants.{Decision}
use Rattle.making.specs.Pairs.{is_decision}
use Rattle.making.proofs.Pairing.{settled_by_decisions, settled_by_same, settled_by_left, settled_by_right}
use Rattle.making.proofs.pairs.settled.Goals as goal

pub returns-then-eq : goal.returns-then-eq
returns-then-eq g c =
    let t = g.A.Algebra.tables c.args.algebra.now in
    let laws = g.met.A.Algebra.short_cuts c.args.algebra.now in
    let same : c.args.pair.left ≡ c.args.pair.right = search rules in (
      inr (inl same),
      λ k shape nodes marks j.
          settled_by_same c.args.operator t laws k shape nodes marks j c.args.pair c.keeps_same.result c.kept.result same (c.keeps_same.ensures t laws) c.kept.ensures,
    )

pub returns-then-eq-2 : goal.returns-then-eq-2
returns-then-eq-2 g c =
    let t = g.A.Algebra.tables c.args.algebra.now in
    let laws = g.met.A.Algebra.short_cuts c.args.algebra.now in
    let same : c.args.pair.left ≡ Decision 0 = search rules in (
      inr (inr (inl same)),
      λ k shape nodes marks j.
          settled_by_right c.args.operator t laws k shape nodes marks j c.args.pair c.keeps_right.result c.kept-then-eq-2.result same (c.keeps_right.ensures t laws) c.kept-then-eq-2.ensures,
    )

pub returns-then-eq-3 : goal.returns-then-eq-3
returns-then-eq-3 g c =
    let t = g.A.Algebra.tables c.args.algebra.now in
    let laws = g.met.A.Algebra.short_cuts c.args.algebra.now in
    let same : c.args.pair.right ≡ Decision 0 = search rules in (
      inr (inr (inr same)),
      λ k shape nodes marks j.
          settled_by_left c.args.operator t laws k shape nodes marks j c.args.pair c.keeps_left.result c.kept-then-eq-3.result same (c.keeps_left.ensures t laws) c.kept-then-eq-3.ensures,
    )

pub returns-in-Decision-Decision : goal.returns-in-Decision-Decision
returns-in-Decision-Decision g c =
    let t = g.A.Algebra.tables c.args.algebra.now in
    let laws = g.met.A.Algebra.short_cuts c.args.algebra.now in
    let left = c.in-Decision-Decision.is-0 in
    let right = c.in-Decision-Decision.is-1 in (
      inl (ap is_decision left, ap is_decision right),
      λ k shape nodes marks j.
          settled_by_decisions c.args.operator t laws k shape nodes marks j c.args.pair c.in-Decision-Decision.a c.in-Decision-Decision.b c.apply.result left right c.apply.ensures,
    )
