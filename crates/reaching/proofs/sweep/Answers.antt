use Rattle.std.proofs.Common.{◌+◌, sym, refl, ◌∙◌, subst, arith}
use Rattle.reaching.specs.Swept.{StaysMarked}
use Rattle.reaching.proofs.Sweeping.{SweptTo, one_keeps, keeps_itself, keeps_on, sweep_begins, swept_more, sweep_ends}
use Rattle.reaching.proofs.sweep.Goals as goal

pub loop-number-init : goal.loop-number-init
loop-number-init c = (refl, keeps_itself c.args.marking.now.bytes.now, λ k shape roots sound many cells h. sweep_begins shape c.args.nodes.now roots c.args.level c.args.marking.now.bytes.now h)

pub loop-number-preserved : goal.loop-number-preserved
loop-number-preserved c =
    let inv = c.loop-number.invariant in
    let before = c.args.marking.now.bytes.now in
    let marks = c.loop-number.marking.bytes.now in
    let after = c.sweep_one.ensures.branches_of_a_live_record_are_marked in (
      c.sweep_one.ensures.same_bytes ∙ inv.0,
      keeps_on before marks _ inv.1 (subst (StaysMarked marks) (sym after) (one_keeps c.args.level c.args.cells _ c.loop-number.number marks)),
      λ k shape roots sound many cells h.
          subst (λ ms. SweptTo shape c.args.nodes.now roots c.args.level ms (c.loop-number.number + 1)) (sym after)
          (swept_more k shape c.args.nodes.now roots sound c.args.level marks (inv.1.as_many_bytes ∙ many) c.loop-number.number (inv.2 k shape roots sound many cells h) c.args.cells cells),
    )

pub returns : goal.returns
returns c =
    let inv = c.loop-number.invariant in
    record {
      same_bytes = inv.0;
      marks_stay = inv.1;
      one_level_more_is_closed = λ k shape roots sound many cells h.
          sweep_ends shape c.args.nodes.now roots c.args.level c.loop-number.marking.bytes.now c.loop-number.number (omega (arith, inv.1.as_many_bytes, many)) (inv.2 k shape roots sound many cells h);
    }
