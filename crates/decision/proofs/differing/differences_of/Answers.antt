use Rattle.std.proofs.Common.{ℕ, ◌+◌, ◌<◌, ◌≤◌, List, ◌++◌, map, length, drop, ap, ◌∙◌, arith}
use Rattle.std.proofs.lemmas.List.{length-map}
use Rattle.fields.specs.Parts.{list_now}
use Rattle.vocabulary.specs.Record.{attributes_of}
use Rattle.decision.specs.Differing.{differences_from}
use Rattle.decision.specs.Shown.{difference_shown}
use Rattle.decision.proofs.Compared.{differences_more, differences_all}
use Rattle.decision.proofs.differing.differences_of.Goals as goal

pub loop-i-init : goal.loop-i-init
loop-i-init c = ap (λ ds. map difference_shown ds ++ differences_from (attributes_of c.args.vocabulary.now) 0 (map list_now c.args.sheets.now)) c.new-differences.ensures.items

pub loop-i-preserved : goal.loop-i-preserved
loop-i-preserved c =
    let v = attributes_of c.args.vocabulary.now in
    let ss : List (List ℕ) = map list_now c.args.sheets.now in
    let i = c.loop-i.i in
    let all = length-map c.args.sheets.now list_now in
    let taken = c.loop-i-test.true in
    let within : i < length ss = omega arith in
    ap (λ ds. ds ++ differences_from v (i + 1) (drop (i + 1) ss)) c.in_ok-compare_behind.ensures ∙ differences_more v ss i _ _ within c.loop-i.invariant

pub returns : goal.returns
returns c =
    let ss : List (List ℕ) = map list_now c.args.sheets.now in
    let all = length-map c.args.sheets.now list_now in
    let left = c.loop-i-test.false in
    let end : length ss ≤ c.loop-i.i = omega arith in
    differences_all (attributes_of c.args.vocabulary.now) ss c.loop-i.i _ _ end c.loop-i.invariant
