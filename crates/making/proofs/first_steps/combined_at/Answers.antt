use Rattle.std.proofs.Common.{ℕ, List, Some, refl, ap, ◌∙◌}
use Rattle.vocabulary.specs.Grid.{grid}
use Rattle.vocabulary.specs.Record.{counts_of}
use Rattle.making.specs.Operators.{operator_of}
use Rattle.making.specs.Spans.{decisions_at}
use Rattle.making.proofs.Starting.{no_roots, cleared_again, first_has_room, second_has_room, third_has_room, third_decides}
use Rattle.making.proofs.first_steps.combined_at.Goals as goal

pub returns-in_err-left : goal.returns-in_err-left
returns-in_err-left g c =
    let t = g.A.Algebra.tables c.args.algebra.now in
    let shape = counts_of c.args.memory.now.shape.now in
    let p : List ℕ = decisions_at (g.S.Source.meaning c.args.first.now).decision (grid shape) 0 in
    let q : List ℕ = decisions_at (g.T.Source.meaning c.args.second.now).decision (grid shape) 0 in
    record {
      same_nodes = c.import.ensures.same_nodes;
      same_bytes = c.import.ensures.same_bytes;
      same_shape = c.import.ensures.same_shape;
      bytes_are_cleared = c.import.ensures.bytes_are_cleared;
      decides_by_the_operator = λ d e enough inside.
          absurd (first_has_room t.size shape (operator_of c.args.operator t) p q c.args.memory.now.nodes.now enough c.import.new.memory.nodes.now
          (c.in_err-left.ensures.made_beside_the_roots t.size (no_roots t.size shape c.args.memory.now.nodes.now) d));
    }

pub returns-in_err-right : goal.returns-in_err-right
returns-in_err-right g c =
    let t = g.A.Algebra.tables c.args.algebra.now in
    let shape = counts_of c.args.memory.now.shape.now in
    let p : List ℕ = decisions_at (g.S.Source.meaning c.args.first.now).decision (grid shape) 0 in
    let q : List ℕ = decisions_at (g.T.Source.meaning c.args.second.now).decision (grid shape) 0 in
    record {
      same_nodes = c.import-2.ensures.same_nodes ∙ c.import.ensures.same_nodes;
      same_bytes = c.import-2.ensures.same_bytes ∙ c.import.ensures.same_bytes;
      same_shape = c.import-2.ensures.same_shape ∙ c.import.ensures.same_shape;
      bytes_are_cleared = cleared_again c.args.memory.now.bytes.now c.import.new.memory.bytes.now c.import-2.new.memory.bytes.now c.import.ensures.bytes_are_cleared c.import-2.ensures.bytes_are_cleared;
      decides_by_the_operator = λ d e enough inside.
          let first = c.in_ok-left.ensures.made_beside_the_roots t.size (no_roots t.size shape c.args.memory.now.nodes.now) d in
          absurd (second_has_room t.size shape (operator_of c.args.operator t) p q c.args.memory.now.nodes.now enough c.import.new.memory.nodes.now c.in_ok-left.left first c.import-2.new.memory.nodes.now
          ((rw c.import.ensures.same_shape at c.in_err-right.ensures.made_beside_the_roots) t.size first.root_or_lack.all_roots_are_sound e));
    }

pub returns-in_err-root : goal.returns-in_err-root
returns-in_err-root g c =
    let t = g.A.Algebra.tables c.args.algebra.now in
    let shape = counts_of c.args.memory.now.shape.now in
    let p : List ℕ = decisions_at (g.S.Source.meaning c.args.first.now).decision (grid shape) 0 in
    let q : List ℕ = decisions_at (g.T.Source.meaning c.args.second.now).decision (grid shape) 0 in
    let twice = cleared_again c.args.memory.now.bytes.now c.import.new.memory.bytes.now c.import-2.new.memory.bytes.now c.import.ensures.bytes_are_cleared c.import-2.ensures.bytes_are_cleared in
    record {
      same_nodes = c.combine.ensures.same_nodes ∙ c.import-2.ensures.same_nodes ∙ c.import.ensures.same_nodes;
      same_bytes = c.combine.ensures.same_bytes ∙ c.import-2.ensures.same_bytes ∙ c.import.ensures.same_bytes;
      same_shape = c.combine.ensures.same_shape ∙ c.import-2.ensures.same_shape ∙ c.import.ensures.same_shape;
      bytes_are_cleared = cleared_again c.args.memory.now.bytes.now c.import-2.new.memory.bytes.now c.combine.new.memory.bytes.now twice c.combine.ensures.bytes_are_cleared;
      decides_by_the_operator = λ d e enough inside.
          let first = c.in_ok-left.ensures.made_beside_the_roots t.size (no_roots t.size shape c.args.memory.now.nodes.now) d in
          let second = (rw c.import.ensures.same_shape at c.in_ok-right.ensures.made_beside_the_roots) t.size first.root_or_lack.all_roots_are_sound e in
          let all = second.root_or_lack.all_roots_are_sound in
          absurd (third_has_room t.size shape (operator_of c.args.operator t) p q c.args.memory.now.nodes.now enough c.import.new.memory.nodes.now c.in_ok-left.left first c.import-2.new.memory.nodes.now c.in_ok-right.right second c.combine.new.memory.nodes.now
          ((rw (c.import-2.ensures.same_shape ∙ c.import.ensures.same_shape) at c.in_err-root.ensures.made_beside_the_roots) all all.each_root_fits.1.0 all.each_root_fits.0));
    }

pub returns : goal.returns
returns g c =
    let t = g.A.Algebra.tables c.args.algebra.now in
    let shape = counts_of c.args.memory.now.shape.now in
    let m = g.S.Source.meaning c.args.first.now in
    let n = g.T.Source.meaning c.args.second.now in
    let p : List ℕ = decisions_at m.decision (grid shape) 0 in
    let q : List ℕ = decisions_at n.decision (grid shape) 0 in
    let twice = cleared_again c.args.memory.now.bytes.now c.import.new.memory.bytes.now c.import-2.new.memory.bytes.now c.import.ensures.bytes_are_cleared c.import-2.ensures.bytes_are_cleared in
    record {
      same_nodes = c.combine.ensures.same_nodes ∙ c.import-2.ensures.same_nodes ∙ c.import.ensures.same_nodes;
      same_bytes = c.combine.ensures.same_bytes ∙ c.import-2.ensures.same_bytes ∙ c.import.ensures.same_bytes;
      same_shape = c.combine.ensures.same_shape ∙ c.import-2.ensures.same_shape ∙ c.import.ensures.same_shape;
      bytes_are_cleared = cleared_again c.args.memory.now.bytes.now c.import-2.new.memory.bytes.now c.combine.new.memory.bytes.now twice c.combine.ensures.bytes_are_cleared;
      decides_by_the_operator = λ d e enough inside.
          let first = c.in_ok-left.ensures.made_beside_the_roots t.size (no_roots t.size shape c.args.memory.now.nodes.now) d in
          let second = (rw c.import.ensures.same_shape at c.in_ok-right.ensures.made_beside_the_roots) t.size first.root_or_lack.all_roots_are_sound e in
          let all = second.root_or_lack.all_roots_are_sound in
          let third = (rw (c.import-2.ensures.same_shape ∙ c.import.ensures.same_shape) at c.in_ok-root.ensures.made_beside_the_roots) all all.each_root_fits.1.0 all.each_root_fits.0 in
          ap Some (c.decide.ensures ∙ third_decides t.size shape (operator_of c.args.operator t) p q c.args.memory.now.nodes.now enough c.import.new.memory.nodes.now c.in_ok-left.left first c.import-2.new.memory.nodes.now c.in_ok-right.right second
          m.decision n.decision refl refl c.args.cells.now inside c.combine.new.memory.nodes.now c.in_ok-root.root third);
    }
