-- An array that is filled from its start.
use Rattle.std.proofs.Common.{◌≡◌, ℕ, ◌+◌, ◌<◌, ◌≤◌, min, ◌≢◌, List, length, get_or, take, set, ◌∙◌, arith, length-set, length-take, get_or-set_other, get_or-set_same, below_more}
use Rattle.std.proofs.lemmas.List.{ext_get_or, get_or-take}

-- one entry more: the others stay, and this one is written
pub filled : {X : Type 0} (d : X) (xs : List X) (i n : ℕ) (v : X) (f : ℕ → X) → length xs ≡ n → i < n → v ≡ f i → ((k : ℕ) → k < i → get_or xs k d ≡ f k)
    → (length (set xs i v) ≡ n) × ((k : ℕ) → k < i + 1 → get_or (set xs i v) k d ≡ f k)
filled d xs i n v f long lt e before =
    let il : i < length xs = omega arith in (
      length-set xs i v ∙ long,
      below_more _ _ (λ k h. let ne : k ≢ i = omega arith in rw get_or-set_other (before k h)) (get_or-set_same xs i v d il ∙ e),
    )

-- the filled entries are the list, if they agree with it at each place
pub front_is : {X : Type 0} (d : X) (xs ys : List X) (n : ℕ) → n ≤ length xs → length ys ≡ n → ((k : ℕ) → k < n → get_or xs k d ≡ get_or ys k d) → take n xs ≡ ys
front_is d xs ys n h l e =
    let long : length (take n xs) ≡ length ys = simp length-take (omega arith) in
    ext_get_or d (take n xs) ys long (λ i k. let m : i < min n (length xs) = simp length-take at k in let lt : i < n = omega arith in get_or-take n xs i d lt ∙ e i lt)
