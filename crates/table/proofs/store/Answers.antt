use Rattle.std.proofs.Common.{set, sym, refl, subst, inr, rules}
use Rattle.table.specs.Made.{Stored}
use Rattle.table.proofs.Storing.{stored_anew}
use Rattle.table.proofs.store.Goals as goal

pub returns : goal.returns
returns c =
    let v = c.in_ok-number.ensures in
    let fresh = c.requires.none_is_alike in
    record {
      same_bytes = c.mark.ensures.same_bytes;
      found_or_taken =
          inr (record { in_memory = search rules; was_not_live = v.1; none_was_alike = fresh; one_record_written = refl; one_byte_written = c.mark.ensures.one_byte_written });
      stays_sound =
          λ k shape sound proper.
          subst (λ ms. Stored k shape c.args.nodes.now c.args.marking.now.bytes.now (set c.args.nodes.now c.in_ok-number.number c.args.wanted.now) ms c.args.wanted.now c.in_ok-number.number)
          (sym c.mark.ensures.one_byte_written)
          (stored_anew k shape c.args.nodes.now c.args.marking.now.bytes.now c.args.wanted.now c.in_ok-number.number sound proper (search rules) v.0 v.1 fresh);
    }
