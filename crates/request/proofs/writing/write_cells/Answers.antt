use Rattle.std.proofs.Common.{ℕ, ◌+◌, List, sym, ap, ◌∙◌, ap₂, arith}
use Rattle.fields.specs.Written.{written}
use Rattle.fields.proofs.Putting.{written_none}
use Rattle.vocabulary.specs.Vocabulary.{Attribute}
use Rattle.vocabulary.specs.Record.{attributes_of}
use Rattle.vocabulary.proofs.Truncated.{proper_out}
use Rattle.request.proofs.Piecewise.{rest, request_short, next-length, next-written, rest-none}
use Rattle.request.proofs.writing.write_cells.Goals as goal

pub write_cell-at-requires : goal.write_cell-at-requires
write_cell-at-requires c =
    let v : List Attribute = attributes_of c.args.vocabulary.now in
    let cells : List ℕ = c.args.cells.now in
    let proper = proper_out c.args.vocabulary.now.proper in
    let t = c.requires.cells_are_of_the_shape in
    let short = request_short v cells proper t in
    let next = next-length v cells proper t c.loop-i.i c.loop-i-test.true in
    let inv = c.loop-i.invariant.0 in
    let room = c.requires.room_is_left in
    let kept = c.loop-i.auto.out in
    record { field_is_short = omega arith; room_is_left = omega arith }

pub loop-i-preserved : goal.loop-i-preserved
loop-i-preserved c =
    let v : List Attribute = attributes_of c.args.vocabulary.now in
    let cells : List ℕ = c.args.cells.now in
    let i : ℕ = c.loop-i.i in
    let proper = proper_out c.args.vocabulary.now.proper in
    let t = c.requires.cells_are_of_the_shape in
    let next = next-length v cells proper t i c.loop-i-test.true in
    let inv = c.loop-i.invariant.0 in
    let room = c.requires.room_is_left in
    let kept = c.loop-i.auto.out in
    let after = c.write_cell-at.ensures.answers_the_place_after in (
      omega arith,
      ap₂ (λ o n. written o n (rest v cells (i + 1))) c.write_cell-at.ensures.field_is_written after ∙ sym (next-written v cells proper t c.loop-i.out c.loop-i.at i c.loop-i-test.true (omega arith)) ∙ c.loop-i.invariant.1,
    )

pub returns : goal.returns
returns c =
    let v : List Attribute = attributes_of c.args.vocabulary.now in
    let cells : List ℕ = c.args.cells.now in
    sym (written_none c.loop-i.out c.loop-i.at) ∙ ap (written c.loop-i.out c.loop-i.at) (sym (rest-none v cells c.loop-i.i (omega arith))) ∙ c.loop-i.invariant.1
