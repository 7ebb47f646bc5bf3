use Rattle.std.proofs.Common.{sym, refl, ◌∙◌, subst, add-one}
use Rattle.reaching.specs.Swept.{ClosedBelow}
use Rattle.reaching.proofs.Sweeping.{keeps_on, all_closed}
use Rattle.reaching.proofs.close.Goals as goal

pub loop-level-preserved : goal.loop-level-preserved
loop-level-preserved c =
    let inv = c.loop-level.invariant in
    let marks = c.loop-level.marking.bytes.now in (
      c.sweep.ensures.same_bytes ∙ inv.0,
      keeps_on c.args.marking.now.bytes.now marks c.sweep.new.marking.bytes.now inv.1 c.sweep.ensures.marks_stay,
      λ k roots sound many h.
          subst (ClosedBelow c.args.counts.now c.args.nodes.now roots c.sweep.new.marking.bytes.now) (sym (add-one c.loop-level.level))
          (c.sweep.ensures.one_level_more_is_closed k c.args.counts.now roots sound (inv.1.as_many_bytes ∙ many) refl (inv.2 k roots sound many h)),
    )

pub returns : goal.returns
returns c =
    let inv = c.loop-level.invariant in
    record {
      same_bytes = inv.0;
      marks_stay = inv.1;
      marks_are_closed = λ k roots sound many h. all_closed k c.args.counts.now c.args.nodes.now roots sound c.loop-level.marking.bytes.now c.loop-level.level c.loop-level-test.false (inv.2 k roots sound many h);
    }
