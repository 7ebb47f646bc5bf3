use Rattle.std.proofs.Common.{◌≡◌, ◌+◌, ◌-◌, take, drop, length, sym, ap, ap₂, ◌∙◌}
use Rattle.std.proofs.lemmas.List.{take_rest}
use Rattle.fields.specs.Parts.{pair_now}
use Rattle.fields.specs.Fields.{when}
use Rattle.fields.proofs.Bytes.{no_sides, sides_of_sign, parts_kept}
use Rattle.fields.proofs.words.split_name.Goals as goal

pub returns-in_err-i : goal.returns-in_err-i
returns-in_err-i c = ap pair_now c.from_residual.ensures ∙ sym (no_sides c.args.s.now c.in_err-i.ensures)

pub returns : goal.returns
returns c =
    let s = c.args.s.now in
    let i = c.in_ok-i.i in
    let rest : take (length s - (i + 1)) (drop (i + 1) s) ≡ drop (i + 1) s = take_rest s (i + 1) in
    ap pair_now c.then_some.ensures
    ∙ parts_kept c.is_name.result _
    ∙ ap₂ (λ t r. when t (take i s, r)) c.is_name.ensures rest
    ∙ sym (sides_of_sign s i c.in_ok-i.ensures)
