use Rattle.std.proofs.Common.{map, sym, ap, ◌∙◌}
use Rattle.std.proofs.lemmas.List.{take_all}
use Rattle.fields.specs.Words.{number_of}
use Rattle.fields.proofs.Bytes.{numbers_of_chunks}
use Rattle.vocabulary.proofs.reader.read_cuts.Goals as goal

pub returns : goal.returns
returns c =
    c.loop-four.invariant ∙ ap (map number_of) (take_all _ _ c.loop-four-test.false) ∙ ap (map number_of) c.as_chunks.ensures.front
    ∙ sym (numbers_of_chunks c.args.bytes.now)
