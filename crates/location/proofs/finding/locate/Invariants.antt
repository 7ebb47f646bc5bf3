use Rattle.std.proofs.Common.{[], map, vec_items}
use Rattle.vocabulary.specs.Record.{attributes_of}
use Rattle.location.proofs.Locating.{place_next}
use Rattle.location.specs.Shown.{place_shown}
use Rattle.location.proofs.Serving.{ServedSoFar}
use Rattle.location.proofs.finding.locate.Given as goal

abbrev pub invariant-loop-raw : goal.invariant-loop-raw
invariant-loop-raw l = ServedSoFar [] place_next (λ v ps. ps) l.input (attributes_of l.vocabulary) l.raw-iterator (map place_shown (vec_items l.locations))
