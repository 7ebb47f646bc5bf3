use Rattle.std.proofs.Common.{map, sym, ap, ◌∙◌, rules}
use lib.Signed.{lt_z}
use Rattle.std.proofs.lemmas.List.Sorted.{answers_always}
use Rattle.fields.specs.Words.{number_of, rises}
use Rattle.fields.proofs.Bytes.{numbers_of_chunks, rises_by_chunks}
use Rattle.fields.proofs.words.is_rising.Goals as goal

pub returns : goal.returns
returns c =
    rises_by_chunks c.as_chunks.result.0.now c.is_sorted_by.result (c.is_sorted_by.ensures.cases (λ x y. lt_z (number_of x) (number_of y)) (answers_always _ _ _ (λ f a r g h. search rules)))
    ∙ ap rises (ap (map number_of) c.as_chunks.ensures.front ∙ sym (numbers_of_chunks c.args.s.now))
