use Rattle.vocabulary.specs.Record.{attributes_of}
use Rattle.location.proofs.Serving.{ServedSoFar}
use Rattle.decision.specs.Decided.{nothing_yet, serve, reported}
use Rattle.decision.specs.Serving.{arrived_shown}
use Rattle.decision.proofs.deciding.decide.Given as goal

abbrev pub invariant-loop-raw : goal.invariant-loop-raw
invariant-loop-raw l = ServedSoFar nothing_yet serve reported l.input (attributes_of l.vocabulary) l.raw-iterator (arrived_shown l.arrived)
