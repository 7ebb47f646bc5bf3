use Rattle.std.proofs.Common.{◌≡◌, map, Some, sym, ap, ◌∙◌, arith}
use Rattle.short_list.proofs.Few.{few_items}
use Rattle.vocabulary.specs.Vocabulary.{place}
use Rattle.vocabulary.specs.Parts.{name_at, names_in}
use Rattle.vocabulary.proofs.Entering.{how_many_names}
use Rattle.vocabulary.proofs.Known.{place-below}
use Rattle.vocabulary.proofs.record.Vocabulary.value_cell.Goals as goal

pub overflow_cast-result : goal.overflow_cast-result
overflow_cast-result c =
    let names = c.in-Valued.names in
    let bs = c.args.self.now.sheet.now in
    let cell = c.in_ok-cell-in-Valued.cell in
    let few = few_items names in
    let long = how_many_names bs names in
    let stands : place c.args.value.now (names_in bs names) ≡ Some cell =
    sym (c.in_ok-cell-in-Valued.ensures ∙ ap (λ xs. place c.args.value.now (map (name_at bs) xs)) c.as_slice.ensures)
    in
    let below = place-below c.args.value.now (names_in bs names) cell stands in
    record { fits = omega arith }
