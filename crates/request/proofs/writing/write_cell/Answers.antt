use Rattle.std.proofs.Common.{◌≡◌, ℕ, ◌+◌, List, ◌∷◌, ◌++◌, length, ℤ, ap, ◌∙◌, arith, w32, SFits, rules}
use Rattle.std.proofs.lemmas.Int.{to_z-of_z}
use Rattle.fields.specs.Words.{number_bytes}
use Rattle.fields.specs.Fields.{framed, field_bytes}
use Rattle.fields.specs.Written.{written}
use Rattle.vocabulary.specs.Vocabulary.{Attribute}
use Rattle.vocabulary.specs.Lookup.{by_name, by_number}
use Rattle.vocabulary.specs.Record.{attributes_of}
use Rattle.request.proofs.Piecewise.{field_is, size_is}
use Rattle.request.proofs.writing.write_cell.Goals as goal

pub write_field-requires : goal.write_field-requires
write_field-requires c =
    let v : List Attribute = attributes_of c.args.vocabulary.now in
    let s = size_is v c.args.i c.args.cell c.name-name.result.now (by_name c.in-Name.value.now) c.name-name.ensures c.in-Name.ensures in
    let short = c.requires.field_is_short in
    let room = c.requires.room_is_left in
    record { room_is_left = omega arith; length_fits_two_bytes = omega arith }

pub write_field-requires-in-Number : goal.write_field-requires-in-Number
write_field-requires-in-Number c =
    let v : List Attribute = attributes_of c.args.vocabulary.now in
    let s = size_is v c.args.i c.args.cell c.name-name.result.now (by_number c.in-Number.number) c.name-name.ensures c.in-Number.ensures in
    let four : length c.number_bytes.result ≡ 4 = ap length c.number_bytes.ensures in
    let short = c.requires.field_is_short in
    let room = c.requires.room_is_left in
    record { room_is_left = omega arith; length_fits_two_bytes = omega arith }

pub returns-in-Name : goal.returns-in-Name
returns-in-Name c =
    let v : List Attribute = attributes_of c.args.vocabulary.now in
    let name = c.name-name.result.now in
    let label = by_name c.in-Name.value.now in
    record {
      answers_the_place_after =
          c.write_field.ensures.answers_the_place_after
          ∙ ap (λ n. c.args.at + n) (size_is v c.args.i c.args.cell name label c.name-name.ensures c.in-Name.ensures);
      field_is_written =
          c.write_field.ensures.field_is_written
          ∙ ap (written c.args.out.now c.args.at) (field_is v c.args.i c.args.cell name label c.name-name.ensures c.in-Name.ensures);
    }

pub returns-in-Number : goal.returns-in-Number
returns-in-Number c =
    let v : List Attribute = attributes_of c.args.vocabulary.now in
    let out : List ℕ = c.args.out.now in
    let at : ℕ = c.args.at in
    let name : List ℕ = c.name-name.result.now in
    let z : ℤ = c.in-Number.number in
    let fits : SFits w32 z = search rules in
    let bytes : c.number_bytes.result ≡ number_bytes z = c.number_bytes.ensures ∙ ap number_bytes (to_z-of_z w32 z fits) in
    record {
      answers_the_place_after =
          c.write_field-in-Number.ensures.answers_the_place_after
          ∙ ap (λ g. at + (4 + length name + length g)) bytes
          ∙ ap (λ n. at + n) (size_is v c.args.i c.args.cell name (by_number z) c.name-name.ensures c.in-Number.ensures);
      field_is_written =
          c.write_field-in-Number.ensures.field_is_written
          ∙ ap (λ g. written out at (field_bytes (framed 0x32 (name ++ 0x3D ∷ g)))) bytes
          ∙ ap (written out at) (field_is v c.args.i c.args.cell name (by_number z) c.name-name.ensures c.in-Number.ensures);
    }
