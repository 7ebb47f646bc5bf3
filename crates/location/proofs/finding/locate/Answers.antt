use Rattle.std.proofs.Common.{◌≡◌, [], ◌∷◌, ◌++◌, map, vec_items, sym, ap, ◌∙◌, subst}
use Rattle.std.proofs.lemmas.List.{map-append}
use Rattle.std.proofs.lemmas.Result.{err_from_is_err_and}
use Rattle.fields.specs.Shown.{bare}
use Rattle.vocabulary.specs.Record.{attributes_of}
use Rattle.location.specs.Shown.{place_shown}
use Rattle.location.proofs.Locating.{place_next, place_refused, place_found, served_is_located}
use Rattle.location.proofs.Serving.{ServedSoFar, served_to, first_refused, vocabulary_refused, vocabulary_read, walk_truncated, walk_refused, walk_served, walk_ended, refusal_handed_on}
use Rattle.location.proofs.finding.locate.Goals as goal

pub returns-in_err-first : goal.returns-in_err-first
returns-in_err-first c =
    let p = err_from_is_err_and c.from_residual.result c.from_residual.ensures.1 in
    refusal_handed_on _ _ _ _ p.1 _ p.2 (first_refused [] place_next (λ v ps. ps) c.args.input.now _ c.in_err-first.ensures.field_is_the_first ∙ served_is_located c.args.input.now)

pub returns-in_err-vocabulary : goal.returns-in_err-vocabulary
returns-in_err-vocabulary c =
    let first = c.in_ok-first.first in
    let p = err_from_is_err_and c.from_residual-in_err-vocabulary.result c.from_residual-in_err-vocabulary.ensures.1 in
    refusal_handed_on _ _ _ _ p.1 _ p.2
    (vocabulary_refused [] place_next (λ v ps. ps) c.args.input.now (bare first) first.next c.in_ok-first.ensures.field_is_the_first _
    (sym c.in_err-vocabulary.ensures.attributes_are_those_laid_down)
    ∙ served_is_located c.args.input.now)

pub loop-raw-init : goal.loop-raw-init
loop-raw-init c =
    let bs = c.args.input.now in
    let first = c.in_ok-first.first in
    let v = attributes_of c.in_ok-vocabulary.vocabulary in
    let opened = vocabulary_read [] place_next (λ v ps. ps) bs (bare first) first.next c.in_ok-first.ensures.field_is_the_first v (sym c.in_ok-vocabulary.ensures.attributes_are_those_laid_down) in
    served_to [] place_next (λ v ps. ps) bs v first.next _ _ [] _ opened c.from_place-raw-items.ensures c.into_iter-raw-iterator.ensures.into_iter_gives (ap (map place_shown) c.new-locations.ensures.items)

pub returns-in_err-raw : goal.returns-in_err-raw
returns-in_err-raw c =
    let p = err_from_is_err_and c.from_residual-in_err-raw.result c.from_residual-in_err-raw.ensures.1 in
    refusal_handed_on _ _ _ _ p.1 _ p.2
    (walk_truncated [] place_next (λ v ps. ps) c.args.input.now _ _ _ c.loop-raw.invariant c.in-Some.raw _ c.next.new.self c.in-Some.ensures.steps c.in_err-raw.was ∙ served_is_located c.args.input.now)

pub returns-in_err-find : goal.returns-in_err-find
returns-in_err-find c =
    let p = err_from_is_err_and c.from_residual-in_err-find.result c.from_residual-in_err-find.ensures.1 in
    let raw = c.in_ok-raw.raw in
    let v = attributes_of c.in_ok-vocabulary.vocabulary in
    refusal_handed_on _ _ _ _ p.1 _ p.2
    (walk_refused [] place_next (λ v ps. ps) c.args.input.now v _ _ c.loop-raw.invariant c.in-Some.raw raw c.next.new.self c.in-Some.ensures.steps c.in_ok-raw.was _
    (place_refused raw.at v _ (bare raw) _ c.in_err-find.ensures)
    ∙ served_is_located c.args.input.now)

pub loop-raw-preserved : goal.loop-raw-preserved
loop-raw-preserved c =
    let bs = c.args.input.now in
    let raw = c.in_ok-raw.raw in
    let v = attributes_of c.in_ok-vocabulary.vocabulary in
    let l = c.in_ok-find.field-0 in
    let pushed : vec_items c.push.new.self ≡ vec_items c.loop-raw.locations ++ l ∷ [] = c.in_ok-push.ensures.items in
    subst (ServedSoFar [] place_next (λ v ps. ps) bs v c.next.new.self) (sym (ap (map place_shown) pushed ∙ map-append place_shown (vec_items c.loop-raw.locations) (l ∷ [])))
    (walk_served [] place_next (λ v ps. ps) bs v _ _ c.loop-raw.invariant c.in-Some.raw raw c.next.new.self c.in-Some.ensures.steps c.in_ok-raw.was _
    (place_found raw.at v (map place_shown (vec_items c.loop-raw.locations)) (bare raw) (place_shown l) c.in_ok-find.ensures))

pub returns : goal.returns
returns c = walk_ended [] place_next (λ v ps. ps) c.args.input.now _ _ _ c.loop-raw.invariant c.in-None.ensures.steps.1 ∙ served_is_located c.args.input.now
