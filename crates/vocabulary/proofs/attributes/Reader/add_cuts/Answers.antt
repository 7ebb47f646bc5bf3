use Rattle.std.proofs.Common.{◌≡◌, ◌-◌, length, Ok, Err, refl, sym, ap, ◌∙◌, arith}
use Rattle.refusal.specs.Answers.{told_by}
use Rattle.fields.specs.Words.{numbers_of}
use Rattle.vocabulary.specs.Vocabulary.{bounded}
use Rattle.vocabulary.specs.Parts.{name_at, attributes_in}
use Rattle.vocabulary.proofs.Entering.{size_of, grid_over, grid_fits}
use Rattle.vocabulary.proofs.attributes.Reader.add_cuts.Goals as goal

pub returns-then-self-saturating_sub-gt4096 : goal.returns-then-self-saturating_sub-gt4096
returns-then-self-saturating_sub-gt4096 c =
    let same = ap length c.read_cuts-cuts.ensures in
    let long = c.len.ensures.number_of_items in
    let cells : length (numbers_of c.args.numbers.now) - 1 ≡ c.saturating_sub.result = omega arith in
    grid_over c.args.raw.now.at _ _ _ _ _ (size_of c.args.self.now.sheet.now c.args.self.now.whole) cells c.if-self-saturating_sub-gt4096.true
    ∙ ap (λ r. Err (told_by r)) (sym c.refused.ensures)

pub returns : goal.returns
returns c =
    let bs = c.args.self.now.sheet.now in
    let same = ap length c.read_cuts-cuts.ensures in
    let long = c.len.ensures.number_of_items in
    let cells : length (numbers_of c.args.numbers.now) - 1 ≡ c.saturating_sub.result = omega arith in (
      grid_fits c.args.raw.now.at _ _ _ _ _ (size_of bs c.args.self.now.whole) cells c.if-self-saturating_sub-gt4096.false
          ∙ ap (λ zs. Ok (bounded (attributes_in bs c.args.self.now.whole) (name_at bs c.args.name) zs)) (sym c.read_cuts-cuts.ensures),
      refl,
    )
