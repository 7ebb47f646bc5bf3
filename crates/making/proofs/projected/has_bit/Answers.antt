use Rattle.std.proofs.Common.{◌≡◌, ◌^◌, ◌<◌, false, ltb, sym, ◌∙◌, arith, rules}
use Rattle.making.proofs.Masking.{no_further_bit}
use Rattle.making.proofs.projected.has_bit.Goals as goal

pub returns-else-bit-lt16 : goal.returns-else-bit-lt16
returns-else-bit-lt16 c =
    let past : ltb c.args.bit 16 ≡ false = search rules in
    let small : c.args.mask < 2 ^ 16 = search rules in
    past ∙ sym (no_further_bit c.args.mask c.args.bit small (omega arith))
