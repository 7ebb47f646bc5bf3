use Rattle.std.proofs.Common.{◌≡◌, take}
use Rattle.short_list.specs.Items.{items_of}
use Rattle.vocabulary.specs.Counted.{counts_in}
use Rattle.vocabulary.proofs.record.Vocabulary.shape.Given as goal

abbrev pub invariant-loop-attribute : goal.invariant-loop-attribute
invariant-loop-attribute l = items_of l.counts ≡ counts_in (take l.attribute-index (items_of l.self.attributes.items))
