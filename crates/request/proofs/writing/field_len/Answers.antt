use Rattle.std.proofs.Common.{◌+◌, length, ap, ◌∙◌, arith}
use Rattle.vocabulary.specs.Record.{attributes_of, label_shown}
use Rattle.request.proofs.Piecewise.{size_is}
use Rattle.request.proofs.writing.field_len.Goals as goal

pub overflow_add-result-2 : goal.overflow_add-result-2
overflow_add-result-2 c =
    let s = size_is (attributes_of c.args.vocabulary.now) c.args.i c.args.cell c.name.result.now (label_shown c.label.result) c.name.ensures c.label.ensures in
    let g = c.given_len-given.ensures in
    let h = c.requires in
    record { fits = omega arith }

pub returns : goal.returns
returns c =
    ap (λ n. 4 + length c.name.result.now + n) c.given_len-given.ensures
    ∙ size_is (attributes_of c.args.vocabulary.now) c.args.i c.args.cell c.name.result.now (label_shown c.label.result) c.name.ensures c.label.ensures
