use Rattle.std.proofs.Common.{◌≡◌, ◌/◌, ◌%◌, rules, sym, subst}
use Rattle.algebra.specs.Laws.{ShortCutLaws, RegroupingLaws}
use Rattle.algebra.specs.Layout.{laid_out}
use Rattle.algebra.proofs.Copying.{answered, copy_means_the_same}
use Rattle.algebra.proofs.copied.CopiedTables.of.Goals as goal

pub invariant_of-result : goal.invariant_of-result
invariant_of-result g c =
    let s = c.args.algebra.now in
    let t = g.G.Algebra.tables s in
    let laws = g.met.G.Algebra in
    let same : laid_out c.size.result c.from_fn.result c.from_fn-2.result c.negations_of.result ≡ t =
    copy_means_the_same t (laws.short_cuts s) _ _ _ _ c.size.ensures
    (answered (λ i. t.sum (i / 16) (i % 16)) c.from_fn.ensures.items (λ i v f k. search rules))
    (answered (λ i. t.meet (i / 16) (i % 16)) c.from_fn-2.ensures.items (λ i v f k. search rules))
    c.negations_of.ensures
    in
    let short_cuts = subst ShortCutLaws (sym same) (laws.short_cuts s) in
    record { size_at_most_16 = short_cuts.size_at_most_16; short_cuts = ∣ short_cuts ∣₁; regrouping = ∣ subst RegroupingLaws (sym same) (laws.regrouping s) ∣₁ }

pub returns : goal.returns
returns g c =
    let t = g.G.Algebra.tables c.args.algebra.now in
    copy_means_the_same t (g.met.G.Algebra.short_cuts c.args.algebra.now) _ _ _ _ c.size.ensures
    (answered (λ i. t.sum (i / 16) (i % 16)) c.from_fn.ensures.items (λ i v f k. search rules))
    (answered (λ i. t.meet (i / 16) (i % 16)) c.from_fn-2.ensures.items (λ i v f k. search rules))
    c.negations_of.ensures
