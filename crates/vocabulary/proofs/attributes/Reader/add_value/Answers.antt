use Rattle.std.proofs.Common.{◌≡◌, suc, ◌+◌, ◌<◌, true, false, [], ◌∷◌, ◌++◌, map, length, Ok, Err, refl, sym, ap, ◌∙◌, arith}
use Rattle.std.proofs.lemmas.List.{map-append}
use Rattle.short_list.specs.Items.{items_of}
use Rattle.refusal.specs.Answers.{told_by}
use Rattle.vocabulary.specs.Vocabulary.{listing, place}
use Rattle.vocabulary.specs.Parts.{name_at, names_in, attributes_in}
use Rattle.vocabulary.proofs.Entering.{known_by, how_many_names, size_of, value_known, value_new, grid_over, grid_fits, named-at}
use Rattle.vocabulary.proofs.attributes.Reader.add_value.Goals as goal

pub returns-then-is_some : goal.returns-then-is_some
returns-then-is_some c =
    let bs = c.args.self.now.sheet.now in
    let names = names_in bs c.args.names in
    let long = how_many_names bs c.args.names in
    let few : length names < 16 = omega arith in
    let found = c.find.ensures ∙ ap (λ xs. place c.args.value.now (map (name_at bs) xs)) c.as_slice.ensures in
    value_known c.args.raw.now.at _ _ names c.args.value.now few (known_by c.args.value.now names c.find.result true found c.if-is_some.ensures)
    ∙ ap (λ r. Err (told_by r)) (sym c.refused-then-is_some.ensures)

pub returns-then-self-len-gt4096 : goal.returns-then-self-len-gt4096
returns-then-self-len-gt4096 c =
    let bs = c.args.self.now.sheet.now in
    let names = names_in bs c.args.names in
    let long = how_many_names bs c.args.names in
    let few : length names < 16 = omega arith in
    let one : suc (length names) ≡ c.len-2.result + 1 = omega arith in
    let found = c.find.ensures ∙ ap (λ xs. place c.args.value.now (map (name_at bs) xs)) c.as_slice.ensures in
    value_new c.args.raw.now.at _ _ names c.args.value.now few (known_by c.args.value.now names c.find.result false found c.if-is_some.ensures)
    ∙ grid_over c.args.raw.now.at _ _ _ _ _ (size_of bs c.args.self.now.whole) one c.if-self-len-gt4096.true
    ∙ ap (λ r. Err (told_by r)) (sym c.refused-then-self-len-gt4096.ensures)

pub returns : goal.returns
returns c =
    let bs = c.args.self.now.sheet.now in
    let names = names_in bs c.args.names in
    let long = how_many_names bs c.args.names in
    let few : length names < 16 = omega arith in
    let one : suc (length names) ≡ c.len-2.result + 1 = omega arith in
    let found = c.find.ensures ∙ ap (λ xs. place c.args.value.now (map (name_at bs) xs)) c.as_slice.ensures in
    let span = c.span_of.ensures in
    let more : names ++ c.args.value.now ∷ [] ≡ names_in bs c.add.new.self =
    ap (λ w. names ++ w ∷ []) (named-at bs c.args.raw.now c.args.value.now c.span_of.result c.requires.named_by span.begins_behind_the_head span.as_long_as_the_content)
    ∙ sym (ap (map (name_at bs)) c.add.ensures ∙ map-append (name_at bs) (items_of c.args.names) (c.span_of.result ∷ []))
    in (
      value_new c.args.raw.now.at _ _ names c.args.value.now few (known_by c.args.value.now names c.find.result false found c.if-is_some.ensures)
          ∙ grid_fits c.args.raw.now.at _ _ _ _ _ (size_of bs c.args.self.now.whole) one c.if-self-len-gt4096.false
          ∙ ap (λ ns. Ok (listing (attributes_in bs c.args.self.now.whole) (name_at bs c.args.name) ns)) more,
      refl,
    )
