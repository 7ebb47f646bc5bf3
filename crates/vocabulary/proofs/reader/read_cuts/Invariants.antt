use Rattle.std.proofs.Common.{◌≡◌, map, take}
use Rattle.short_list.specs.Items.{items_of}
use Rattle.fields.specs.Words.{number_of}
use Rattle.vocabulary.proofs.reader.read_cuts.Given as goal

abbrev pub invariant-loop-four : goal.invariant-loop-four
invariant-loop-four l = items_of l.cuts ≡ map number_of (take l.four-index l.numbers)
