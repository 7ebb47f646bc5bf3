use Rattle.std.proofs.Common.{◌≡◌, ℕ, ◌+◌, ◌<◌, ◌≤◌, List, [], ◌∷◌, ◌++◌, map, length, get_or, drop, vec_items, sym, ap, ◌∙◌, ap₂, arith}
use lib.ListN.{get_or-map}
use Rattle.std.proofs.lemmas.List.{length-map, map-append}
use Rattle.fields.specs.Parts.{list_now}
use Rattle.vocabulary.specs.Grid.{grid}
use Rattle.vocabulary.specs.Vocabulary.{shape_of}
use Rattle.vocabulary.specs.Record.{attributes_of}
use Rattle.decision.specs.Differing.{Difference, decision_at, how_many_differ, difference, against}
use Rattle.decision.specs.Shown.{difference_shown}
use Rattle.decision.proofs.Compared.{compared_more, compared_all}
use Rattle.decision.proofs.differing.compare_behind.Goals as goal

pub loop-j-preserved : goal.loop-j-preserved
loop-j-preserved c =
    let v = attributes_of c.args.vocabulary.now in
    let sheets = c.args.sheets.now in
    let ss : List (List ℕ) = map list_now sheets in
    let i = c.args.i in
    let j = c.loop-j.j in
    let s : List ℕ = get_or ss i [] in
    let before : List Difference = map difference_shown (vec_items c.loop-j.differences) in
    let all = length-map sheets list_now in
    let taken = c.loop-j-test.true in
    let within : j < length ss = omega arith in
    let numbers : c.how_many_differ-numbers.result ≡ how_many_differ (decision_at v s) (decision_at v (get_or ss j [])) (grid (shape_of v)) =
    c.how_many_differ-numbers.ensures
    ∙ ap₂ (λ a b. how_many_differ (decision_at v a) (decision_at v b) (grid (shape_of v))) (sym (get_or-map list_now sheets i _)) (sym (get_or-map list_now sheets j _))
    in
    let pushed : map difference_shown (vec_items c.push.new.self) ≡ before ++ difference v i s j (get_or ss j []) ∷ [] =
    ap (map difference_shown) c.in_ok-push.ensures.items
    ∙ map-append difference_shown (vec_items c.loop-j.differences) _
    ∙ ap (λ n. before ++ record { first = i; second = j; numbers = n } ∷ []) numbers
    in
    ap (λ ds. ds ++ against v i s (j + 1) (drop (j + 1) ss)) pushed ∙ compared_more v ss i s j before _ within c.loop-j.invariant

pub returns : goal.returns
returns c =
    let ss : List (List ℕ) = map list_now c.args.sheets.now in
    let all = length-map c.args.sheets.now list_now in
    let left = c.loop-j-test.false in
    let end : length ss ≤ c.loop-j.j = omega arith in
    compared_all (attributes_of c.args.vocabulary.now) ss c.args.i (get_or ss c.args.i []) c.loop-j.j _ _ end c.loop-j.invariant
