use Rattle.std.proofs.Common.{◌≡◌, ◌+◌, length}
use Rattle.vocabulary.specs.Record.{attributes_of}
use Rattle.request.specs.Request.{request_for}
use Rattle.request.proofs.Piecewise.{rest}
use Rattle.request.proofs.writing.request_len.Given as goal

abbrev pub invariant-loop-i : goal.invariant-loop-i
invariant-loop-i l = l.len + length (rest (attributes_of l.vocabulary) l.cells l.i) ≡ length (request_for (attributes_of l.vocabulary) l.cells)
