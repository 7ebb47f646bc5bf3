-- What a source holds that was read from a grid list.
use Rattle.std.specs.Prelude.{ℕ, List, take}
use Rattle.vocabulary.specs.Grid.{grid}
use Rattle.vocabulary.specs.Record.{counts_of}
use Rattle.policy.specs.declared.grid.GridSource.{GridSource}
use Rattle.policy.specs.Meaning.{Meaning}
use Rattle.policy.specs.Lists.{codes_meaning}

-- a code for each grid number
abbrev pub codes_held : GridSource → List ℕ
codes_held s = take (grid (counts_of s.shape)) s.codes

-- what its codes mean
abbrev pub meaning_of : GridSource → Meaning
meaning_of s = codes_meaning (counts_of s.shape) s.size s.codes
