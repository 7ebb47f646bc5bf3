use Rattle.std.proofs.Common.{◌≡◌, ℕ, ◌≤◌, length, replicate, sym, refl, ap, ◌∙◌, subst, arith, rules}
use Rattle.std.proofs.lemmas.List.{length-replicate}
use Rattle.vocabulary.specs.Grid.{Narrow}
use Rattle.vocabulary.specs.Record.{counts_of}
use Rattle.vocabulary.proofs.Walked.{counts_are_few, counts_are_narrow, counts_are_filled}
use Rattle.diagram.specs.Marks.{Closed}
use Rattle.reaching.specs.Roots.{roots_in, SoundRoots}
use Rattle.beside.proofs.Upholding.{WalkBuilds, walked_beside}
use Rattle.beside.proofs.Memory.make_beside.Goals as goal

pub build-requires : goal.build-requires
build-requires g c =
    let memory = c.args.self.now in
    let many : length c.mark_reached.new.marking.bytes.now ≡ length memory.nodes.now =
    c.mark_reached.ensures.as_many_bytes ∙ ap length c.new-marking.ensures.starts_clear ∙ length-replicate (length memory.bytes.now) 0 ∙ memory.one_byte_a_record
    in
    let few : length c.counts-2.result.now ≤ 8 = omega (arith, ap length c.counts-2.ensures, counts_are_few memory.shape.now) in
    record {
      one_byte_a_record = many;
      at_most_2048_records = memory.at_most_2048_records;
      narrow = subst Narrow (sym c.counts-2.ensures) (counts_are_narrow memory.shape.now);
      at_most_eight_attributes = few;
      one_slot_an_attribute = omega (arith, few, c.requires);
    }

pub returns : goal.returns
returns g c =
    let memory = c.args.self.now in
    let shape = memory.shape.now in
    let roots = roots_in c.args.roots.now in
    let marks = c.mark_reached.new.marking.bytes.now in
    let stands = g.P.Places.stands c.args.places.now in
    let says = g.P.Places.says c.args.places.now in
    let clear = c.new-marking.ensures.starts_clear in
    let long : length c.build.new.marking.bytes.now ≡ length memory.bytes.now =
    c.build.ensures.live_stays.marking_is_as_long ∙ c.mark_reached.ensures.as_many_bytes ∙ ap length clear ∙ length-replicate (length memory.bytes.now) 0
    in
    record {
      same_nodes = refl;
      same_bytes = refl;
      same_shape = refl;
      bytes_are_cleared = search rules ∙ ap (λ (n : ℕ). replicate n 0) long;
      keeps_what_was_kept = c.build.ensures.keeps_what_was_kept;
      made_beside_the_roots = λ k sound keep fill stand.
          let closed =
          subst (λ counts. SoundRoots k counts memory.nodes.now roots → Closed counts memory.nodes.now roots marks) c.counts.ensures
          (λ s. c.mark_reached.ensures.just_what_is_reached_is_live k s (clear ∙ ap (λ (n : ℕ). replicate n 0) memory.one_byte_a_record)) sound
          in
          walked_beside stands says k (counts_of shape) memory.nodes.now roots marks c.build.new.nodes c.build.new.marking.bytes.now c.args.start c.build.result (counts_are_filled shape) sound closed
          (subst (WalkBuilds stands says k (counts_of shape) memory.nodes.now roots marks c.build.new.nodes c.build.new.marking.bytes.now c.args.start c.build.result) c.counts-2.ensures (c.build.ensures.builds_the_page k))
          keep fill (stand marks closed);
    }
