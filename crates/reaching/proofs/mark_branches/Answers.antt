use Rattle.std.proofs.Common.{sym, ◌∙◌, ap₂}
use Rattle.reaching.specs.Roots.{marked_by}
use Rattle.reaching.proofs.Linked.{first_more}
use Rattle.reaching.proofs.mark_branches.Goals as goal

pub loop-cell-preserved : goal.loop-cell-preserved
loop-cell-preserved c = (
  c.mark_link.ensures.same_bytes ∙ c.loop-cell.invariant.0,
  c.mark_link.ensures.record_is_marked ∙ ap₂ marked_by c.branch-node.ensures c.loop-cell.invariant.1 ∙ sym (first_more c.args.node.now c.loop-cell.cell c.args.marking.now.bytes.now),
)
