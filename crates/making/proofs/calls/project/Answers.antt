use Rattle.vocabulary.specs.Record.{counts_of}
use Rattle.vocabulary.proofs.Walked.{counts_are_filled}
use Rattle.reaching.specs.Roots.{roots_in}
use Rattle.beside.proofs.Upholding.{fits_marked}
use Rattle.making.proofs.Masking.{projections_keep, projections_fill}
use Rattle.making.proofs.calls.project.Goals as goal

pub returns : goal.returns
returns c =
    let masks = c.args.masks.now in
    let shape = c.args.memory.now.shape.now in
    record {
      same_nodes = c.make_beside.ensures.same_nodes;
      same_bytes = c.make_beside.ensures.same_bytes;
      same_shape = c.make_beside.ensures.same_shape;
      bytes_are_cleared = c.make_beside.ensures.bytes_are_cleared;
      made_beside_the_roots = λ k code many sound fits.
          c.make_beside.ensures.made_beside_the_roots k sound (projections_keep masks c.args.decisions k (counts_of shape)) (projections_fill masks c.args.decisions k (counts_of shape))
          (λ marks closed.
          record {
            as_many_masks_as_attributes = many;
            zero_is_a_code = code;
            link_fits = fits_marked k (counts_of shape) c.args.memory.now.nodes.now (roots_in c.args.roots.now) marks (counts_are_filled shape) sound closed c.args.link fits;
          });
    }
