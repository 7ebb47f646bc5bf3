use Rattle.std.proofs.Common.{◌≡◌, length, sym, ap, ◌∙◌, subst}
use Rattle.std.proofs.lemmas.List.{length-replicate}
use Rattle.reaching.specs.Roots.{roots_in}
use Rattle.reaching.specs.Swept.{ClosedBelow}
use Rattle.reaching.proofs.Linked.{length_marked}
use Rattle.reaching.proofs.Sweeping.{roots_begin}
use Rattle.reaching.proofs.mark_reached.Goals as goal

pub returns : goal.returns
returns c =
    let roots = roots_in c.args.roots.now in
    let before = c.args.marking.now.bytes.now in
    let begun = c.mark_roots.ensures.records_of_the_roots_are_marked in
    let long : length c.mark_roots.new.marking.bytes.now ≡ length before = ap length begun ∙ length_marked roots before in
    record {
      same_bytes = c.close.ensures.same_bytes ∙ c.mark_roots.ensures.same_bytes;
      as_many_bytes = c.close.ensures.marks_stay.as_many_bytes ∙ long;
      just_what_is_reached_is_live = λ k sound none.
          c.close.ensures.marks_are_closed k roots sound (long ∙ ap length none ∙ length-replicate _ 0)
          (subst (λ ms. ClosedBelow c.args.counts.now c.args.nodes.now roots ms 0) (sym begun) (roots_begin k c.args.counts.now c.args.nodes.now roots before sound none));
    }
