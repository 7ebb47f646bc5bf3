use Rattle.std.proofs.Common.{◌≡◌, ℕ, ◌+◌, List, ◌++◌, length, drop, ap, ◌∙◌, arith}
use Rattle.vocabulary.specs.Vocabulary.{Attribute}
use Rattle.vocabulary.specs.Record.{attributes_of}
use Rattle.vocabulary.proofs.Truncated.{proper_out}
use Rattle.request.specs.Request.{request_for}
use Rattle.request.proofs.Piecewise.{has_room, reads_as}
use Rattle.request.proofs.writing.write_request.Goals as goal

pub write_cells-requires : goal.write_cells-requires
write_cells-requires c =
    let h = has_room (attributes_of c.args.vocabulary.now) c.args.cells.now (length c.args.out.now) c.in_ok-len.len c.in_ok-len.ensures in
    record { cells_are_of_the_shape = h.0; room_is_left = h.2 }

pub returns : goal.returns
returns c =
    let v : List Attribute = attributes_of c.args.vocabulary.now in
    let cells : List ℕ = c.args.cells.now in
    let was : List ℕ = c.args.out.now in
    let n : ℕ = c.in_ok-len.len in
    let h = has_room v cells (length was) n c.in_ok-len.ensures in
    let same = h.1 in
    let end : 0 + length (request_for v cells) ≡ n = omega arith in
    let memory : c.write_cells.new.out ≡ request_for v cells ++ drop n was = c.write_cells.ensures ∙ ap (λ k. request_for v cells ++ drop k was) end in
    record {
      length_is_the_one_laid_down = c.in_ok-len.ensures;
      memory_holds_the_request = memory;
      request_is_read_back = reads_as v cells (proper_out c.args.vocabulary.now.proper) h.0 n (drop n was) c.write_cells.new.out same memory;
    }
