use Rattle.std.proofs.Common.{◌≡◌, get_or, ℤ, sym, ap, ◌∙◌, ap₂, w32, SFits, of_z, to_z, rules}
use Rattle.std.proofs.lemmas.Int.{to_z-of_z}
use Rattle.fields.specs.Words.{number_of}
use Rattle.fields.specs.declared.Field.TheVariants.{Range}
use Rattle.fields.specs.Shown.{said}
use Rattle.fields.specs.Ways.{way_number}
use Rattle.vocabulary.specs.Lookup.{attribute_at}
use Rattle.vocabulary.specs.Record.{attributes_of}
use Rattle.policy.specs.Sheets.{range_cells}
use Rattle.policy.specs.Tallies.{tally_of}
use Rattle.policy.specs.Walking.{enter}
use Rattle.policy.specs.Walks.{seen_in, state_in, among, noting}
use Rattle.policy.specs.declared.walk.State.TheVariants.{Ruled}
use Rattle.policy.proofs.Seeing.{condition_noted}
use Rattle.policy.proofs.walk.Walk.enter.Goals as goal

pub returns-in_ok-i-in-Range-Ruled : goal.returns-in_ok-i-in-Range-Ruled
returns-in_ok-i-in-Range-Ruled g c =
    let w = c.args.self.now in
    let v = attributes_of w.vocabulary.now in
    let at = c.args.raw.now.at in
    let f = c.in-Range-Ruled in
    let j = f.rule in
    let i = c.in_ok-i-in-Range-Ruled.i in
    let is-field : c.args.field ≡ Range f.name f.from f.to = cc in
    let is-state : c.args.state ≡ Ruled j = cc in
    let x : ℤ = c.number.result in
    let y : ℤ = c.number-in-Range-Ruled.result in
    let x-fits : SFits w32 x = search rules in
    let y-fits : SFits w32 y = search rules in
    let from : to_z w32 (of_z w32 x) ≡ number_of f.from.now = to_z-of_z w32 x x-fits ∙ c.number.ensures in
    let to : to_z w32 (of_z w32 y) ≡ number_of f.to.now = to_z-of_z w32 y y-fits ∙ c.number-in-Range-Ruled.ensures in
    c.note-in-Range-Ruled.ensures
    ∙ ap (noting at j i) (c.is_in_range.ensures ∙ ap₂ (λ x y. among (get_or w.cells.now i 0) (range_cells (attribute_at v i).kind x y)) from to)
    ∙ condition_noted v w.cells.now at (way_number j.way) (tally_of j.tally) j.decision (seen_in j.seen) f.name.now (λ kind. range_cells kind (number_of f.from.now) (number_of f.to.now)) i c.in_ok-i-in-Range-Ruled.ensures.place_of_the_name
    ∙ sym (ap₂ (λ s x. enter (g.A.Algebra.tables w.algebra.now) v w.cells.now at (state_in s) (said x)) is-state is-field)
