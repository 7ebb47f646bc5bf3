use Rattle.std.proofs.Common.{◌≡◌, ◌+◌, length}
use Rattle.fields.specs.Written.{written}
use Rattle.vocabulary.specs.Record.{attributes_of}
use Rattle.request.specs.Request.{request_for}
use Rattle.request.proofs.Piecewise.{rest}
use Rattle.request.proofs.writing.write_cells.Given as goal

abbrev pub invariant-loop-i : goal.invariant-loop-i
invariant-loop-i l =
    (l.at + length (rest (attributes_of l.vocabulary) l.cells l.i) ≡ length (request_for (attributes_of l.vocabulary) l.cells))
    × (written l.out l.at (rest (attributes_of l.vocabulary) l.cells l.i) ≡ written l.initial.out 0 (request_for (attributes_of l.vocabulary) l.cells))
