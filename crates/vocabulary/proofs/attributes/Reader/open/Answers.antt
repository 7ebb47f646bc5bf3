use Rattle.std.proofs.Common.{◌≡◌, ◌<◌, true, false, map, length, Ok, Err, refl, sym, ap, ◌∙◌, arith}
use mir.Val.{bool_byte}
use Rattle.refusal.specs.Answers.{told_by}
use Rattle.short_list.specs.Items.{items_of}
use Rattle.vocabulary.specs.Vocabulary.{opened, open_attribute, names_of, whole_so_far}
use Rattle.vocabulary.specs.Parts.{attribute_in, attributes_in, progress}
use Rattle.vocabulary.proofs.Entering.{known_by, how_many_attributes, how_many_joined, name_known, name_new, named-at}
use Rattle.vocabulary.proofs.attributes.Reader.open.Goals as goal

pub returns-then-is_some : goal.returns-then-is_some
returns-then-is_some c =
    let bs = c.args.self.now.sheet.now in
    let v = attributes_in bs c.join.new.self in
    let whole : v ≡ whole_so_far (progress c.args.self.now) = ap (map (attribute_in bs)) c.join.ensures ∙ c.last-last.ensures.joins_those_that_are_whole in
    let many = how_many_attributes bs c.join.new.self ∙ ap length c.join.ensures ∙ how_many_joined (items_of c.args.self.now.whole.items) c.last-last.result in
    let few : length v < 8 = omega (arith, many, ap bool_byte c.is_some.ensures, c.from.ensures, c.len.ensures.number_of_items, c.if-len-from-ge8.false) in
    ap (λ w. open_attribute c.args.raw.now.at w c.args.name.now) (sym whole)
    ∙ name_known c.args.raw.now.at v c.args.name.now few (known_by c.args.name.now (names_of v) c.find.result true c.find.ensures c.if-is_some.ensures)
    ∙ ap (λ r. Err (told_by r)) (sym c.refused-then-is_some.ensures)

pub returns : goal.returns
returns c =
    let bs = c.args.self.now.sheet.now in
    let v = attributes_in bs c.join.new.self in
    let whole : v ≡ whole_so_far (progress c.args.self.now) = ap (map (attribute_in bs)) c.join.ensures ∙ c.last-last.ensures.joins_those_that_are_whole in
    let many = how_many_attributes bs c.join.new.self ∙ ap length c.join.ensures ∙ how_many_joined (items_of c.args.self.now.whole.items) c.last-last.result in
    let few : length v < 8 = omega (arith, many, ap bool_byte c.is_some.ensures, c.from.ensures, c.len.ensures.number_of_items, c.if-len-from-ge8.false) in
    let span = c.span_of.ensures in (
      ap (λ w. open_attribute c.args.raw.now.at w c.args.name.now) (sym whole)
          ∙ name_new c.args.raw.now.at v c.args.name.now few (known_by c.args.name.now (names_of v) c.find.result false c.find.ensures c.if-is_some.ensures)
          ∙ ap (λ m. Ok (opened v m)) (named-at bs c.args.raw.now c.args.name.now c.span_of.result c.requires span.begins_behind_the_head span.as_long_as_the_content),
      refl,
    )
