use Rattle.std.proofs.Common.{◌≡◌, map, Ok, sym, ap, ◌∙◌, ap₂}
use Rattle.std.proofs.lemmas.Result.{err_from_is_err_and}
use Rattle.fields.specs.Parts.{list_now}
use Rattle.fields.specs.Shown.{bare}
use Rattle.vocabulary.specs.Record.{attributes_of}
use Rattle.location.proofs.Serving.{served_to, first_refused, vocabulary_refused, vocabulary_read, walk_truncated, walk_refused, walk_served, walk_ended, refusal_handed_on, failure_handed_on}
use Rattle.decision.specs.Differing.{differences_from}
use Rattle.decision.specs.Decided.{nothing_yet, serve, reported}
use Rattle.decision.specs.Shown.{line_shown}
use Rattle.decision.specs.Serving.{arrived_shown}
use Rattle.decision.proofs.deciding.decide.Goals as goal

pub returns-in_err-first : goal.returns-in_err-first
returns-in_err-first c =
    let p = err_from_is_err_and c.from_residual.result c.from_residual.ensures.1 in
    refusal_handed_on _ _ _ _ p.1 _ p.2 (first_refused nothing_yet serve reported c.args.input.now _ c.in_err-first.ensures.field_is_the_first)

pub returns-in_err-vocabulary : goal.returns-in_err-vocabulary
returns-in_err-vocabulary c =
    let first = c.in_ok-first.first in
    let p = err_from_is_err_and c.from_residual-in_err-vocabulary.result c.from_residual-in_err-vocabulary.ensures.1 in
    refusal_handed_on _ _ _ _ p.1 _ p.2
    (vocabulary_refused nothing_yet serve reported c.args.input.now (bare first) first.next c.in_ok-first.ensures.field_is_the_first _
    (sym c.in_err-vocabulary.ensures.attributes_are_those_laid_down))

pub loop-raw-init : goal.loop-raw-init
loop-raw-init c =
    let bs = c.args.input.now in
    let first = c.in_ok-first.first in
    let v = attributes_of c.in_ok-vocabulary.vocabulary in
    let none : arrived_shown (record { sheets = c.new.result; lines = c.new-2.result }) ≡ nothing_yet =
    ap₂ (λ ss ls. record { sheets = map list_now ss; lines = map line_shown ls }) c.new.ensures.items c.new-2.ensures.items
    in
    let opened = vocabulary_read nothing_yet serve reported bs (bare first) first.next c.in_ok-first.ensures.field_is_the_first v (sym c.in_ok-vocabulary.ensures.attributes_are_those_laid_down) in
    served_to nothing_yet serve reported bs v first.next _ _ nothing_yet _ opened c.from_place-raw-items.ensures c.into_iter-raw-iterator.ensures.into_iter_gives none

pub returns-in_err-raw : goal.returns-in_err-raw
returns-in_err-raw c =
    let p = err_from_is_err_and c.from_residual-in_err-raw.result c.from_residual-in_err-raw.ensures.1 in
    refusal_handed_on _ _ _ _ p.1 _ p.2
    (walk_truncated nothing_yet serve reported c.args.input.now _ _ _ c.loop-raw.invariant c.in-Some.raw _ c.next.new.self c.in-Some.ensures.steps c.in_err-raw.was)

pub returns-in_err-serve : goal.returns-in_err-serve
returns-in_err-serve c =
    let p = err_from_is_err_and c.from_residual-in_err-serve.result c.from_residual-in_err-serve.ensures.1 in
    let raw = c.in_ok-raw.raw in
    let v = attributes_of c.in_ok-vocabulary.vocabulary in
    let a = arrived_shown c.loop-raw.arrived in
    failure_handed_on _ _ _ _ p.1 (λ (_ : Unit {0}). a) (serve raw.at v a (bare raw)) _ p.2 c.in_err-serve.ensures
    (walk_refused nothing_yet serve reported c.args.input.now v _ a c.loop-raw.invariant c.in-Some.raw raw c.next.new.self c.in-Some.ensures.steps c.in_ok-raw.was)

pub loop-raw-preserved : goal.loop-raw-preserved
loop-raw-preserved c =
    let v = attributes_of c.in_ok-vocabulary.vocabulary in
    let a = arrived_shown c.loop-raw.arrived in
    walk_served nothing_yet serve reported c.args.input.now v _ a c.loop-raw.invariant c.in-Some.raw c.in_ok-raw.raw c.next.new.self c.in-Some.ensures.steps c.in_ok-raw.was _ c.in_ok-serve.ensures

pub returns : goal.returns
returns c =
    let v = attributes_of c.in_ok-vocabulary.vocabulary in
    let a = arrived_shown c.loop-raw.arrived in
    ap (λ ds. Ok (record { lines = a.lines; differences = ds })) (c.in_ok-differences.ensures ∙ ap (λ ss. differences_from v 0 (map list_now ss)) c.as_slice.ensures.value)
    ∙ walk_ended nothing_yet serve reported c.args.input.now v _ a c.loop-raw.invariant c.in-None.ensures.steps.1
