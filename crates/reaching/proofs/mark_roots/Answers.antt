use Rattle.std.proofs.Common.{◌+◌, get_or, drop, None, sym, ap, ◌∙◌}
use Rattle.std.proofs.lemmas.List.{drop_more, at_drop_all}
use Rattle.reaching.specs.Roots.{roots_in, marked_by_all}
use Rattle.reaching.proofs.Linked.{roots_more}
use Rattle.reaching.proofs.mark_roots.Goals as goal

pub loop-root-preserved : goal.loop-root-preserved
loop-root-preserved c =
    let roots = c.args.roots.now in
    let i = c.loop-root.root-index in
    let marks = c.loop-root.marking.bytes.now in (
      c.mark_root.ensures.same_bytes ∙ c.loop-root.invariant.0,
      ap (marked_by_all (roots_in (drop (i + 1) roots))) c.mark_root.ensures.record_is_marked
          ∙ sym (ap (λ os. marked_by_all (roots_in os) marks) (drop_more roots i None c.loop-root-test.true) ∙ roots_more (get_or roots i None) (drop (i + 1) roots) marks)
          ∙ c.loop-root.invariant.1,
    )

pub returns : goal.returns
returns c = record {
  same_bytes = c.loop-root.invariant.0;
  records_of_the_roots_are_marked = sym (at_drop_all (λ os. marked_by_all (roots_in os) c.loop-root.marking.bytes.now) c.args.roots.now c.loop-root.root-index c.loop-root-test.false) ∙ c.loop-root.invariant.1;
}
