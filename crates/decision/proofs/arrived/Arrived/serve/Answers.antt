use Rattle.std.proofs.Common.{◌≡◌, true, false, eqb, [], ◌∷◌, ◌++◌, map, Ok, vec_items, ap, ◌∙◌, arith}
use Rattle.std.proofs.lemmas.List.{map-append}
use Rattle.std.proofs.lemmas.Result.{err_from_is_err_and}
use Rattle.std.proofs.lemmas.Bool.Decides.{nat_tests}
use Rattle.fields.specs.Parts.{list_now}
use Rattle.fields.specs.Shown.{bare}
use Rattle.vocabulary.specs.Record.{attributes_of}
use Rattle.location.specs.Shown.{place_shown}
use Rattle.location.proofs.Serving.{refusal_handed_on}
use Rattle.decision.specs.Decided.{decisions_at}
use Rattle.decision.specs.Shown.{line_shown}
use Rattle.decision.specs.Serving.{arrived_shown}
use Rattle.decision.proofs.Arriving.{sheet_joins, request_refused, request_answered}
use Rattle.decision.proofs.arrived.Arrived.serve.Goals as goal

pub returns-in_err-number : goal.returns-in_err-number
returns-in_err-number c =
    let raw = c.args.raw.now in
    let p = err_from_is_err_and c.from_residual-in_err-number.result c.from_residual-in_err-number.ensures.1 in
    let t : eqb raw.tag 0x02 ≡ false = grind (arith, nat_tests) in
    refusal_handed_on _ _ _ _ p.1 _ p.2 (request_refused raw.at (attributes_of c.args.vocabulary.now) (arrived_shown c.args.self.now) (bare raw) t _ c.in_err-number.ensures)

pub returns-in_ok-push : goal.returns-in_ok-push
returns-in_ok-push c =
    let raw = c.args.raw.now in
    let a = c.args.self.now in
    let t : eqb raw.tag 0x02 ≡ true = grind (arith, nat_tests) in
    ap (λ ss. Ok (record { sheets = ss; lines = map line_shown (vec_items a.lines) })) (ap (map list_now) c.in_ok-push.ensures.items ∙ map-append list_now (vec_items a.sheets) _)
    ∙ sheet_joins raw.at (attributes_of c.args.vocabulary.now) (arrived_shown a) (bare raw) t _ c.in_ok-check.ensures

pub returns-in_ok-push-2 : goal.returns-in_ok-push-2
returns-in_ok-push-2 c =
    let raw = c.args.raw.now in
    let a = c.args.self.now in
    let v = attributes_of c.args.vocabulary.now in
    let found = c.in_ok-number.field-0 in
    let t : eqb raw.tag 0x02 ≡ false = grind (arith, nat_tests) in
    let answered : line_shown c.in_ok-line.line ≡ decisions_at v (map list_now (vec_items a.sheets)) found.number =
    c.in_ok-line.ensures ∙ ap (λ ss. decisions_at v (map list_now ss) found.number) c.as_slice.ensures.value
    in
    ap (λ ls. Ok (record { sheets = map list_now (vec_items a.sheets); lines = ls }))
    (ap (map line_shown) c.in_ok-push-2.ensures.items
    ∙ map-append line_shown (vec_items a.lines) _
    ∙ ap (λ l. map line_shown (vec_items a.lines) ++ l ∷ []) answered)
    ∙ request_answered raw.at v (arrived_shown a) (bare raw) t (place_shown found) c.in_ok-number.ensures
