use Rattle.std.proofs.Common.{ap, ◌∙◌, arith, rules}
use Rattle.vocabulary.specs.Record.{counts_of}
use Rattle.making.proofs.Carried.{carried}
use Rattle.making.proofs.Spanning.{spans_keep, spans_fill}
use Rattle.making.proofs.calls.import.Goals as goal

pub returns : goal.returns
returns g c =
    let m = g.S.Source.meaning c.args.source.now in
    let counts = counts_of c.args.memory.now.shape.now in
    let back = carried g.S.Source.meaning c.make_beside.new.places _ c.args.source.now c.make_beside.ensures.keeps_what_was_kept in
    let same = back.0 in
    let stays = back.1 in
    record {
      same_nodes = c.make_beside.ensures.same_nodes;
      same_bytes = c.make_beside.ensures.same_bytes;
      same_shape = c.make_beside.ensures.same_shape;
      bytes_are_cleared = c.make_beside.ensures.bytes_are_cleared;
      meaning_stays = ap g.S.Source.meaning (search rules) ∙ stays;
      made_beside_the_roots = λ k sound codes.
          c.make_beside.ensures.made_beside_the_roots k sound (spans_keep m k counts) (spans_fill m k counts)
          (λ marks closed. record { numbers_of_what_is_left = c.size.ensures.product_of_the_counts; numbers_are_small = omega (arith, c.size.ensures.at_most_4096); decisions_are_codes = codes });
    }
