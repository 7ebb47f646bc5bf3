use Rattle.std.proofs.Common.{sym, refl}
use Rattle.std.proofs.lemmas.List.{set_past}
use Rattle.marking.proofs.Marking.mark.Goals as goal

pub returns-else-number-self : goal.returns-else-number-self
returns-else-number-self c = record {
  same_bytes = refl;
  one_byte_written = sym (set_past c.args.self.now.bytes.now c.args.number 1 c.if-number-self.false);
}
