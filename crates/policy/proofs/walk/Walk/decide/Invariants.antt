use Rattle.fields.specs.Fields.{reading}
use Rattle.fields.proofs.Walking.{ReadSoFar}
use Rattle.vocabulary.specs.Record.{attributes_of}
use Rattle.policy.specs.Walking.{step, begun}
use Rattle.policy.specs.Walks.{state_in}
use Rattle.policy.proofs.walk.Walk.decide.Given as goal

abbrev pub invariant-loop-raw : goal.invariant-loop-raw
invariant-loop-raw g l =
    let one = step (g.A.Algebra.tables l.self.algebra.now) (attributes_of l.self.vocabulary.now) l.self.cells.now in
    ReadSoFar one (reading one 0 begun 0 l.sheet) l.sheet l.raw-iterator (state_in l.state)
