use Rattle.std.proofs.Common.{Some, None, sym, refl, subst, inr, rules}
use Rattle.pages.specs.Pages.{runs}
use Rattle.marking.specs.Marks.{Marked}
use Rattle.table.specs.Built.{Built}
use Rattle.table.proofs.Reducing.{made_is_proper, record_stored, record_missing}
use Rattle.table.proofs.record_of.Goals as goal

pub returns-in_err-number : goal.returns-in_err-number
returns-in_err-number c =
    let differs = c.requires.one_differs in
    let missing = c.in_err-number.ensures in
    record {
      same_bytes = missing.same_bytes;
      one_link_or_one_record = inr (record { one_differs = differs; number = None; answers_its_link = c.from_residual.ensures; found_or_made = missing.found_or_taken });
      builds_the_page =
          λ k shape first marks P h.
          subst (Built k shape first (Marked marks) c.make.new.nodes (Marked c.make.new.marking.bytes.now) c.args.level (runs c.args.cells P)) (sym c.from_residual.ensures)
          (record_missing k shape first _ c.args.nodes.now c.args.marking.now.bytes.now c.args.level P c.args.cells c.args.branches h (search rules) differs c.make.new.nodes c.make.new.marking.bytes.now missing.found_or_taken);
    }

pub returns : goal.returns
returns c =
    let differs = c.requires.one_differs in
    let made = c.in_ok-number.ensures in
    record {
      same_bytes = made.same_bytes;
      one_link_or_one_record = inr (record { one_differs = differs; number = Some c.in_ok-number.number; answers_its_link = refl; found_or_made = made.found_or_taken });
      builds_the_page =
          λ k shape first marks P h.
          record_stored k shape first _ c.args.nodes.now c.args.marking.now.bytes.now c.args.level P c.args.cells c.args.branches h (search rules) differs c.make.new.nodes c.make.new.marking.bytes.now c.in_ok-number.number
          (made.stays_sound k shape h.branches_are_built.memory_has_grown.still_sound
          (made_is_proper k shape first _ c.args.nodes.now _ c.args.level P c.args.cells c.args.branches h (search rules) differs));
    }
