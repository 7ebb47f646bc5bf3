use Rattle.std.proofs.Common.{◌≡◌, ◌+◌, ◌-◌, ◌<◌, ◌≤◌, length, take, drop, sym, ap, ◌∙◌, ap₂, subst, arith, length-drop, MatchOption}
use Rattle.std.proofs.lemmas.List.{drop-drop, length-take-le, take_rest}
use Rattle.fields.proofs.raw.next_field.Goals as goal

pub returns-clause-field_ends_within : goal.returns-clause-field_ends_within
returns-clause-field_ends_within c =
    let sheet = c.args.sheet.now in
    let at = c.args.at in
    let rest = c.in_ok-head.rest.now in
    let size = c.from-size.result in
    let front = take (length sheet - at) (drop at sheet) in
    let parts = subst (λ o. MatchOption o (length front < 3) (λ p. (p.0.now ≡ take 3 front) × (p.1.now ≡ drop 3 front) × (length p.1.now + 3 ≡ length front))) c.in_ok-head.ensures.ok_part c.split_first_chunk.ensures.cases in
    let left : take (length sheet - at) (drop at sheet) ≡ drop at sheet = take_rest sheet at in
    let behind : rest ≡ drop (at + 3) sheet = parts.1 ∙ ap (drop 3) left ∙ drop-drop 3 at sheet in
    let long : length (take size rest) ≡ size = length-take-le size rest c.if-rest-size.false in
    let room : length rest ≡ length sheet - (at + 3) = ap length behind ∙ length-drop (at + 3) sheet in
    let whole : length rest + 3 ≡ length sheet - at = parts.2 ∙ ap length left ∙ length-drop at sheet in
    let fits : size ≤ length rest = c.if-rest-size.false in
    record {
      place_is = omega arith;
      moves_on = omega arith;
      within = omega arith;
      content_lies = ap₂ take (sym long) behind;
      content_fits = omega arith;
    }
