use Rattle.std.proofs.Common.{◌≡◌, ℕ, length, replicate, sym, ap, ◌∙◌, rules}
use Rattle.std.proofs.lemmas.List.{length-replicate}
use Rattle.marking.specs.Marks.{tally}
use Rattle.diagram.proofs.Marking.{size_marks}
use Rattle.reaching.specs.Roots.{roots_in}
use Rattle.reaching.proofs.count_reached.Goals as goal

pub returns : goal.returns
returns c =
    let marks = c.mark_reached.new.marking.bytes.now in
    let clear = c.new-marking.ensures.starts_clear in
    let long : length marks ≡ length c.args.bytes.now = c.mark_reached.ensures.as_many_bytes ∙ ap length clear ∙ length-replicate (length c.args.bytes.now) 0 in
    record {
      bytes_are_cleared = search rules ∙ ap (λ (n : ℕ). replicate n 0) long;
      size_of_their_pages = λ k filled sound many.
          c.count.ensures
          ∙ ap (λ (n : ℕ). tally n marks) (long ∙ many)
          ∙ sym (size_marks k c.args.counts.now c.args.nodes.now _ sound.what_they_reach_is_sound filled (roots_in c.args.roots.now) sound.each_root_fits marks
          (c.mark_reached.ensures.just_what_is_reached_is_live k sound (clear ∙ ap (λ (n : ℕ). replicate n 0) many)));
    }
