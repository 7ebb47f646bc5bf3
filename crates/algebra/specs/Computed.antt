-- The laws of tables that are written out, by one test that is computed at every code, every pair and every triple.
use Rattle.std.specs.Prelude.{◌≡◌, ℕ, zero, suc, ◌<◌, ◌≤◌, Bool, true, false, ◌==◌, nat_le, nat_lt, refl}
use Rattle.std.proofs.Common.{subst, sym, ⊎_elim, eq-or-lt_of_le, le_of_suc-le-suc, not-suc-le-zero, ltb-true, leb-true, eqb-true, lt-ltb, le-ltb}
use Rattle.std.proofs.lemmas.Bool.{cases_lt}
use Rattle.algebra.specs.Tables.{Tables, bounded, square, row, within}
use Rattle.algebra.specs.Laws.{ShortCutLaws, RegroupingLaws}

unfoldable pub also : Bool → Bool → Bool
also true b = b
also false b = false

-- Where two tests pass together, the first passes.
left : (a b : Bool) → also a b ≡ true → a ≡ true
unfolding also
left true b t = refl
left false b t = t

-- Where two tests pass together, the second passes.
right : (a b : Bool) → also a b ≡ true → b ≡ true
unfolding also
right true b t = t
right false true t = refl
right false false t = t

-- the test f passes at each number below k
unfoldable pub each : ℕ → (ℕ → Bool) → Bool
each zero f = true
each (suc k) f = also (f k) (each k f)

-- A number below k is the last one or below it.
at_each : (k : ℕ) (f : ℕ → Bool) → each k f ≡ true → (a : ℕ) → a < k → f a ≡ true
unfolding each
at_each zero f t a h = absurd (not-suc-le-zero h)
at_each (suc k) f t a h =
    ⊎_elim (λ (e : a ≡ k). subst (λ (m : ℕ). f m ≡ true) (sym e) (left _ _ t)) (λ (l : a < k). at_each k f (right _ _ t) a l)
    (eq-or-lt_of_le (le_of_suc-le-suc h))

-- Each row passes, and in it each number.
at_pair : (k : ℕ) (f : ℕ → ℕ → Bool) → each k (λ a. each k (f a)) ≡ true → (a b : ℕ) → a < k → b < k → f a b ≡ true
at_pair k f t a b ha hb = at_each k (f a) (at_each k (λ a. each k (f a)) t a ha) b hb

-- Each pair passes, and with it each number.
at_triple : (k : ℕ) (f : ℕ → ℕ → ℕ → Bool) → each k (λ a. each k (λ b. each k (f a b))) ≡ true → (a b c : ℕ) → a < k → b < k → c < k → f a b c ≡ true
at_triple k f t a b c ha hb hc = at_each k (f a b) (at_pair k (λ a b. each k (f a b)) t a b ha hb) c hc

-- Past the size nothing is looked up.
pub row_past : (k : ℕ) (f : ℕ → ℕ) (a : ℕ) → k ≤ a → row k f a ≡ 0
row_past k f a h = rw (le-ltb a k h)

pub square_past_left : (k : ℕ) (f : ℕ → ℕ → ℕ) (a b : ℕ) → k ≤ a → square k f a b ≡ 0
square_past_left k f a b h = row_past k (λ a. within k b (f a b)) a h

-- Whether the row is below the size or not, the column is not.
pub square_past_right : (k : ℕ) (f : ℕ → ℕ → ℕ) (a b : ℕ) → k ≤ b → square k f a b ≡ 0
square_past_right k f a b h =
    ⊎_elim (λ (l : a < k). rw (lt-ltb a k l, le-ltb b k h)) (λ (l : k ≤ a). square_past_left k f a b l) (cases_lt a k)

module _ (t : Tables) where
  abbrev pub size_passes : Bool
  size_passes = also (nat_le 2 t.size) (also (nat_le t.size 16) (t.negation 0 == 0))

  abbrev pub code_passes : ℕ → Bool
  code_passes a =
      also (t.sum a a == a)
      (also (t.sum a 0 == a) (also (t.meet a a == a) (also (t.meet a 0 == 0) (also (nat_lt (t.negation a) t.size) (t.negation (t.negation a) == a)))))

  abbrev pub pair_passes : ℕ → ℕ → Bool
  pair_passes a b =
      also (t.sum a b == t.sum b a) (also (t.meet a b == t.meet b a) (also (nat_lt (t.sum a b) t.size) (nat_lt (t.meet a b) t.size)))

  abbrev pub triple_passes : ℕ → ℕ → ℕ → Bool
  triple_passes a b c = t.sum (t.sum a b) c == t.sum a (t.sum b c)

  -- every law, everywhere below the size
  abbrev pub passes : Bool
  passes =
      also size_passes
      (also (each t.size code_passes)
      (also (each t.size (λ a. each t.size (pair_passes a))) (each t.size (λ a. each t.size (λ b. each t.size (triple_passes a b))))))

module _ (k : ℕ) (sum meet : ℕ → ℕ → ℕ) (negation : ℕ → ℕ) where
  abbrev tables : Tables
  tables = bounded k sum meet negation

  -- Below the size the test says each law, and past it the answers are 0.
  pub short_cuts_of : passes tables ≡ true → ShortCutLaws tables
  short_cuts_of t =
      let size = left _ _ t in
      let code = at_each k (code_passes tables) (left _ _ (right _ _ t)) in
      let pair = at_pair k (pair_passes tables) (left _ _ (right _ _ (right _ _ t))) in
      record {
        size_at_least_2 = leb-true _ _ (left _ _ size);
        size_at_most_16 = leb-true _ _ (left _ _ (right _ _ size));
        sum_commutes = λ a b ha hb. eqb-true _ _ (left _ _ (pair a b ha hb));
        sum_with_itself_is_itself = λ a ha. eqb-true _ _ (left _ _ (code a ha));
        sum_with_zero_is_the_other = λ a ha. eqb-true _ _ (left _ _ (right _ _ (code a ha)));
        sum_below_size = λ a b ha hb. ltb-true _ _ (left _ _ (right _ _ (right _ _ (pair a b ha hb))));
        sum_zero_past_size_left = square_past_left k sum;
        sum_zero_past_size_right = square_past_right k sum;
        meet_commutes = λ a b ha hb. eqb-true _ _ (left _ _ (right _ _ (pair a b ha hb)));
        meet_with_itself_is_itself = λ a ha. eqb-true _ _ (left _ _ (right _ _ (right _ _ (code a ha))));
        meet_with_zero_is_zero = λ a ha. eqb-true _ _ (left _ _ (right _ _ (right _ _ (right _ _ (code a ha)))));
        meet_below_size = λ a b ha hb. ltb-true _ _ (right _ _ (right _ _ (right _ _ (pair a b ha hb))));
        meet_zero_past_size_left = square_past_left k meet;
        meet_zero_past_size_right = square_past_right k meet;
        negation_of_zero_is_zero = eqb-true _ _ (right _ _ (right _ _ size));
        negation_below_size = λ a ha. ltb-true _ _ (left _ _ (right _ _ (right _ _ (right _ _ (right _ _ (code a ha))))));
        negation_zero_past_size = row_past k negation;
      }

  -- The test says both laws at every triple and every code.
  pub regrouping_of : passes tables ≡ true → RegroupingLaws tables
  regrouping_of t = record {
    sum_associates = λ a b c ha hb hc. eqb-true _ _ (at_triple k (triple_passes tables) (right _ _ (right _ _ (right _ _ t))) a b c ha hb hc);
    negating_twice_gives_back = λ a ha. eqb-true _ _ (right _ _ (right _ _ (right _ _ (right _ _ (right _ _ (at_each k (code_passes tables) (left _ _ (right _ _ t)) a ha))))));
  }
