-- A sum of three codes in other groupings and orders.
use Rattle.std.proofs.Common.{◌≡◌, ℕ, ◌<◌, sym, ap, ◌∙◌, lt-ltb}
use Rattle.algebra.specs.Tables.{Tables}
use Rattle.algebra.specs.Laws.{ShortCutLaws, RegroupingLaws}
use Rattle.algebra.specs.Threes.{SumOfThree, within_all}

-- Below the size a guard is passed.
within_all-below : (k a b c r : ℕ) → a < k → b < k → c < k → within_all k a b c r ≡ r
within_all-below k a b c r ha hb hc = simp (lt-ltb a k ha, lt-ltb b k hb, lt-ltb c k hc)

-- Regroup to exchange the last two, and exchange the first two where they stand.
pub sum_of_three_lem : (t : Tables) → ShortCutLaws t → RegroupingLaws t → (a b c r : ℕ) → a < t.size → b < t.size → c < t.size → r ≡ t.sum (t.sum a b) c → SumOfThree t a b c r
sum_of_three_lem t short_cuts regrouping a b c r ha hb hc e =
    let assoc = regrouping.sum_associates in
    let comm = short_cuts.sum_commutes in
    let last : r ≡ t.sum a (t.sum b c) = e ∙ assoc a b c ha hb hc in
    record {
      first_two_summed_first = e ∙ sym (within_all-below t.size a b c (t.sum (t.sum a b) c) ha hb hc);
      last_two_summed_first = last ∙ sym (within_all-below t.size a b c (t.sum a (t.sum b c)) ha hb hc);
      first_two_exchanged = e ∙ ap (λ x. t.sum x c) (comm a b ha hb) ∙ sym (within_all-below t.size b a c (t.sum (t.sum b a) c) hb ha hc);
      last_two_exchanged = last ∙ ap (t.sum a) (comm b c hb hc) ∙ sym (assoc a c b ha hc hb) ∙ sym (within_all-below t.size a c b (t.sum (t.sum a c) b) ha hc hb);
    }
