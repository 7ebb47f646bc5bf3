use Rattle.std.proofs.Common.{◌≡◌, ℕ, ◌<◌, take, sym, ap, ◌∙◌, subst}
use Rattle.std.proofs.lemmas.List.{take_all}
use Rattle.short_list.specs.Items.{items_of}
use Rattle.vocabulary.specs.Counted.{counts_in}
use Rattle.vocabulary.specs.Grid.{grid, Narrow}
use Rattle.vocabulary.proofs.Entering.{shape_of_lem, size_of}
use Rattle.vocabulary.proofs.Truncated.{proper_out}
use Rattle.vocabulary.proofs.Walked.{grid_positive, shape_narrow}
use Rattle.vocabulary.proofs.record.Vocabulary.shape.Goals as goal

pub invariant_of-result : goal.invariant_of-result
invariant_of-result c =
    let v = c.args.self.now.attributes in
    let bs = c.args.self.now.sheet.now in
    let whole : take c.loop-attribute.attribute-index (items_of v.items) ≡ items_of v.items =
    ap (take c.loop-attribute.attribute-index) (sym c.as_slice-attribute-items.ensures) ∙ take_all _ _ c.loop-attribute-test.false ∙ c.as_slice-attribute-items.ensures
    in
    let filled : items_of c.loop-attribute.counts ≡ counts_in (items_of v.items) = c.loop-attribute.invariant ∙ ap counts_in whole in
    let kinds = (proper_out c.args.self.now.proper).kinds_are_proper in
    let full : 0 < v.size = subst (λ (n : ℕ). 0 < n) (size_of bs v) (grid_positive _ kinds) in
    let narrow = subst Narrow (shape_of_lem bs (items_of v.items) ∙ sym filled) (shape_narrow _ kinds) in
    record { sized = v.sized ∙ ap grid (sym filled); not_empty = full; small = v.small; narrow = ∣ narrow ∣₁ }

pub returns : goal.returns
returns c =
    let v = c.args.self.now.attributes in
    let whole : take c.loop-attribute.attribute-index (items_of v.items) ≡ items_of v.items =
    ap (take c.loop-attribute.attribute-index) (sym c.as_slice-attribute-items.ensures) ∙ take_all _ _ c.loop-attribute-test.false ∙ c.as_slice-attribute-items.ensures
    in
    c.loop-attribute.invariant ∙ ap counts_in whole ∙ sym (shape_of_lem c.args.self.now.sheet.now (items_of v.items))
