use Rattle.std.proofs.Common.{ℕ, List, length, ap, arith}
use Rattle.vocabulary.specs.Vocabulary.{Attribute}
use Rattle.vocabulary.specs.Record.{attributes_of}
use Rattle.vocabulary.proofs.Truncated.{proper_out}
use Rattle.request.proofs.Piecewise.{request_short, next-length, rest-none}
use Rattle.request.proofs.writing.request_len.Goals as goal

pub field_len-len-requires : goal.field_len-len-requires
field_len-len-requires c =
    let v : List Attribute = attributes_of c.args.vocabulary.now in
    let cells : List ℕ = c.args.cells.now in
    let proper = proper_out c.args.vocabulary.now.proper in
    let short = request_short v cells proper c.requires in
    let next = next-length v cells proper c.requires c.loop-i.i c.loop-i-test.true in
    let inv = c.loop-i.invariant in
    omega arith

pub overflow_add-len : goal.overflow_add-len
overflow_add-len c =
    let v : List Attribute = attributes_of c.args.vocabulary.now in
    let cells : List ℕ = c.args.cells.now in
    let proper = proper_out c.args.vocabulary.now.proper in
    let short = request_short v cells proper c.requires in
    let next = next-length v cells proper c.requires c.loop-i.i c.loop-i-test.true in
    let inv = c.loop-i.invariant in
    let len = c.field_len-len.ensures in
    record { fits = omega arith }

pub loop-i-preserved : goal.loop-i-preserved
loop-i-preserved c =
    let v : List Attribute = attributes_of c.args.vocabulary.now in
    let cells : List ℕ = c.args.cells.now in
    let proper = proper_out c.args.vocabulary.now.proper in
    let next = next-length v cells proper c.requires c.loop-i.i c.loop-i-test.true in
    let inv = c.loop-i.invariant in
    let len = c.field_len-len.ensures in
    omega arith

pub returns : goal.returns
returns c =
    let none = ap length (rest-none (attributes_of c.args.vocabulary.now) c.args.cells.now c.loop-i.i (omega arith)) in
    let inv = c.loop-i.invariant in
    omega arith
