use Rattle.std.proofs.Common.{◌≡◌, ℕ, ◌≤◌, List, [], ◌∷◌, ◌++◌, length, ap, ◌∙◌, arith, length-append}
use Rattle.fields.specs.Written.{written}
use Rattle.fields.proofs.Putting.{then_written, field_whole}
use Rattle.fields.proofs.write.write_field.Goals as goal

pub returns : goal.returns
returns c =
    let out : List ℕ = c.args.out.now in
    let at : ℕ = c.args.at in
    let head : List ℕ = c.head.result in
    let name : List ℕ = c.args.name.now in
    let given : List ℕ = c.args.given.now in
    let inside : at ≤ length out = omega arith in
    let three : length head ≡ 3 = ap length c.head.ensures in
    let n1 = c.put-named.ensures.answers_the_place_after in
    let n2 = c.put-sign.ensures.answers_the_place_after in
    let n3 = c.put-value.ensures.answers_the_place_after in
    let s2 = length-append head name in
    let s3 = length-append (head ++ name) (0x3D ∷ []) in
    let to-name = then_written out at _ c.put-sign.new.out head name c.put-named.result inside c.put-named.ensures.bytes_are_written n1 c.put-sign.ensures.bytes_are_written in
    let to-sign = then_written out at _ c.put-value.new.out (head ++ name) (0x3D ∷ []) c.put-sign.result inside to-name (omega arith) c.put-value.ensures.bytes_are_written in
    let to_end = then_written out at _ c.put.new.out ((head ++ name) ++ 0x3D ∷ []) given c.put-value.result inside to-sign (omega arith) c.put.ensures.bytes_are_written in
    let n4 = c.put.ensures.answers_the_place_after in
    record {
      answers_the_place_after = omega arith;
      field_is_written =
          to_end
          ∙ ap (λ h. written out at (((h ++ name) ++ 0x3D ∷ []) ++ given)) c.head.ensures
          ∙ ap (written out at) (field_whole c.args.tag _ name given (omega arith));
    }
