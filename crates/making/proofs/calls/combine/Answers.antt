use Rattle.std.proofs.Common.{refl}
use Rattle.vocabulary.specs.Record.{counts_of}
use Rattle.vocabulary.proofs.Walked.{counts_are_filled}
use Rattle.reaching.specs.Roots.{roots_in}
use Rattle.beside.proofs.Upholding.{fits_marked}
use Rattle.making.proofs.Pairing.{pairs_keep, pairs_fill}
use Rattle.making.proofs.calls.combine.Goals as goal

pub returns : goal.returns
returns g c =
    let t = g.A.Algebra.tables c.args.algebra.now in
    let o = c.args.operator in
    let shape = c.args.memory.now.shape.now in
    record {
      same_nodes = c.make_beside.ensures.same_nodes;
      same_bytes = c.make_beside.ensures.same_bytes;
      same_shape = c.make_beside.ensures.same_shape;
      bytes_are_cleared = c.make_beside.ensures.bytes_are_cleared;
      made_beside_the_roots = λ sound left right.
          c.make_beside.ensures.made_beside_the_roots t.size sound (pairs_keep o t t.size (counts_of shape)) (pairs_fill o t t.size (counts_of shape))
          (λ marks closed.
          let fits = fits_marked t.size (counts_of shape) c.args.memory.now.nodes.now (roots_in c.args.roots.now) marks (counts_are_filled shape) sound closed in
          record { codes_of_the_algebra = refl; left_fits = fits c.args.left left; right_fits = fits c.args.right right });
    }
