-- One field of a request: what it gives, and that it gives it anywhere.
use Rattle.std.proofs.Common.{◌≡◌, ℕ, ◌||◌, eqb, List, [], get_or, set, Some, None, Ok, Option, refl, ap, ◌∙◌, zero-le}
use Rattle.std.proofs.lemmas.Bool.{cond-true}
use Rattle.refusal.specs.Answers.{Answer, refuse, and_then, given}
use Rattle.fields.specs.Fields.{Framed, Said, attribute, value, cuts, way, rule, choice, range, measure, said_by}
use Rattle.fields.proofs.Answering.{not_both, same_value, and_then_value, given_value, either_way, Follows}
use Rattle.fields.proofs.Reading.{read_on}
use Rattle.fields.proofs.Saying.{said_follows}
use Rattle.vocabulary.specs.Vocabulary.{Kind, valued, Attribute, named, names_of, place}
use Rattle.vocabulary.specs.Lookup.{value_cell, number_cell}
use Rattle.request.specs.Request.{Given, give_once, give, take_in, ask, ReadingGoesOn}

-- this holds of any step
pub reading_goes_on_lem : ReadingGoesOn
reading_goes_on_lem v s t at x y e = read_on (ask v) s t at x y 0 zero-le e

-- where the attribute stands at i, has the cell c and is not yet given, it is given c
pub gives : (v : List Attribute) (at : ℕ) (st : Given) (a : List ℕ) (cell : Kind → Option ℕ) (i c : ℕ) → place a (names_of v) ≡ Some i → cell (get_or v i (named [] (valued []))).kind ≡ Some c → get_or st i None ≡ None
    → give v at st a cell ≡ Ok (set st i (Some c))
gives v at st a cell i c p q n =
    ap (λ o. given o 23 at (λ j. given (cell (get_or v j (named [] (valued []))).kind) 24 at (λ d. give_once at st j d (get_or st j None)))) p
    ∙ ap (λ o. given o 24 at (λ d. give_once at st i d (get_or st i None))) q
    ∙ ap (give_once at st i c) n

-- what gave y after st gives one cell to one attribute that was open, and does so at any place after anything that leaves it open
pub record Gave (one : ℕ → Given → Answer Given) (st y : Given) : Type 0 where
  pub index : ℕ
  pub cell : ℕ
  pub was_open : get_or st index None ≡ None
  pub becomes : set st index (Some cell) ≡ y
  pub anywhere : (at : ℕ) (x : Given) → get_or x index None ≡ None → one at x ≡ Ok (set x index (Some cell))

-- giving once succeeds where the attribute is open
once_value : (at : ℕ) (st : Given) (i c : ℕ) (o : Option ℕ) (y : Given) → give_once at st i c o ≡ Ok y → (o ≡ None) × (set st i (Some c) ≡ y)
once_value at st i c None y e = (refl, same_value (set st i (Some c)) y e)
once_value at st i c (Some d) y e = absurd (not_both _ y e)

-- so does a name with a cell, for its attribute and its cell are found without the place and without what is given
gave_by_name : (v : List Attribute) (at : ℕ) (st y : Given) (a : List ℕ) (cell : Kind → Option ℕ) → give v at st a cell ≡ Ok y → Gave (λ at x. give v at x a cell) st y
gave_by_name v at st y a cell e =
    let p = given_value (place a (names_of v)) 23 at (λ j. given (cell (get_or v j (named [] (valued []))).kind) 24 at (λ d. give_once at st j d (get_or st j None))) y e in
    let i : ℕ = p.0 in
    let q = given_value (cell (get_or v i (named [] (valued []))).kind) 24 at (λ d. give_once at st i d (get_or st i None)) y p.2 in
    let c : ℕ = q.0 in
    let r = once_value at st i c (get_or st i None) y q.2 in
    record { index = i; cell = c; was_open = r.0; becomes = r.1; anywhere = λ at' x n. gives v at' x a cell i c p.1 q.1 n }

-- so does what a field says, for only a choice and a measure give
gave_by_said : (v : List Attribute) (at : ℕ) (st y : Given) (s : Said) → take_in v at st s ≡ Ok y → Gave (λ at x. take_in v at x s) st y
gave_by_said v at st y (choice a w) e = gave_by_name v at st y a (λ k. value_cell k w) e
gave_by_said v at st y (measure a x) e = gave_by_name v at st y a (λ k. number_cell k x) e
gave_by_said v at st y (attribute n) e = absurd (not_both _ y e)
gave_by_said v at st y (value w) e = absurd (not_both _ y e)
gave_by_said v at st y (cuts zs) e = absurd (not_both _ y e)
gave_by_said v at st y (way b) e = absurd (not_both _ y e)
gave_by_said v at st y (rule b) e = absurd (not_both _ y e)
gave_by_said v at st y (range a x z) e = absurd (not_both _ y e)

-- so does a field, for what it says does not hang on the place
pub gave : (v : List Attribute) (at : ℕ) (st y : Given) (f : Framed) → ask v at st f ≡ Ok y → Gave (λ at x. ask v at x f) st y
gave v at st y f e =
    either_way (eqb f.tag 0x31 || eqb f.tag 0x32) (and_then (said_by at f) (take_in v at st)) (refuse 11 at) (Ok y) (Gave (λ at x. ask v at x f) st y) e
    (λ t d.
    let r = and_then_value (said_by at f) (take_in v at st) y d in
    let g : Gave (λ at x. take_in v at x r.0) st y = gave_by_said v at st y r.0 r.2 in
    record {
      index = g.index;
      cell = g.cell;
      was_open = g.was_open;
      becomes = g.becomes;
      anywhere =
          λ at' x n.
          cond-true (eqb f.tag 0x31 || eqb f.tag 0x32) (and_then (said_by at' f) (take_in v at' x)) (refuse 11 at') t
          ∙ ap (λ a. and_then a (take_in v at' x)) (said_follows at at' f r.0 r.1)
          ∙ g.anywhere at' x n;
    })
    (λ t d. absurd (not_both _ y d))

-- so the value of a field does not hang on the place
pub ask_follows : (v : List Attribute) (at at' : ℕ) (st : Given) (f : Framed) → Follows (ask v at st f) (ask v at' st f)
ask_follows v at at' st f y e = let g = gave v at st y f e in g.anywhere at' st g.was_open ∙ ap Ok g.becomes
