-- Codes of a grid list: which pass, and what they mean.
use Rattle.std.proofs.Common.{◌≡◌, ℕ, zero, suc, ◌+◌, ◌-◌, ◌<◌, ◌≤◌, Bool, true, false, cond, ltb, leb, List, [], ◌∷◌, ◌++◌, length, get_or, take, drop, replicate, Some, None, Ok, zero-add, sym, refl, ap, ◌∙◌, subst, ⊎_elim, add-zero, arith, ltb-true, leb-true, le-ltb, lt-ltb, eq-eqb}
use lib.ListN.{get_or-replicate, length-replicate}
use Rattle.std.specs.List.{position, position_or_len}
use Rattle.std.proofs.Math.Seq.{get_or-append_right}
use Rattle.std.proofs.lemmas.List.Sums.{fails_before_first, passes_at_first}
use Rattle.std.proofs.lemmas.Bool.Decides.{nat_tests}
use Rattle.std.proofs.lemmas.List.{get_or_past, get_or_append_left, get_or-drop}
use Rattle.std.proofs.lemmas.Bool.{cases_lt}
use Rattle.refusal.specs.Answers.{refuse, and_then}
use Rattle.fields.proofs.Answering.{not_both, and_then_value, either_way}
use Rattle.vocabulary.specs.Grid.{grid}
use Rattle.vocabulary.proofs.Filled.{front_is}
use Rattle.policy.specs.Lists.{checked_from, codes_of, codes_meaning, AllBelow}

-- codes that are all below k pass
pub all_pass : (k at : ℕ) (cs : List ℕ) → ((j : ℕ) → j < length cs → get_or cs j 0 < k) → Ok cs ≡ checked_from k at cs
all_pass k at [] below = refl
all_pass k at (c ∷ cs) below =
    let lt : c < k = below 0 (omega arith) in
    simp (lt-ltb c k lt) (ap (λ r. and_then r (λ ds. Ok (c ∷ ds))) (all_pass k (suc at) cs (λ j h. below (suc j) (omega arith))))

-- the first code that is not below k is refused at its byte
pub first_refused : (k at i : ℕ) (cs : List ℕ) → i < length cs → ((j : ℕ) → j < i → get_or cs j 0 < k) → k ≤ get_or cs i 0 → refuse 13 (at + i) ≡ checked_from k at cs
first_refused k at i [] within below not = absurd (omega arith)
first_refused k at zero (c ∷ cs) within below not = simp (le-ltb c k not) (ap (λ n. refuse 13 n) (add-zero at))
first_refused k at (suc i) (c ∷ cs) within below not =
    let lt : c < k = below 0 (omega arith) in
    let moved : at + suc i ≡ suc at + i = omega arith in
    simp (lt-ltb c k lt)
    (ap (λ n. refuse 13 n) moved ∙ ap (λ r. and_then r (λ ds. Ok (c ∷ ds))) (first_refused k (suc at) i cs (omega arith) (λ j h. below (suc j) (omega arith)) not))

-- so the first code that is not below k is refused, and where there is none the list passes
pub checked_by_position : (k : ℕ) (cs : List ℕ) → checked_from k 0 cs ≡ elim (position (λ c. leb k c) cs) [ None ↦ Ok cs | Some i ↦ refuse 13 i ]
checked_by_position k cs = go (ltb (position_or_len (λ c. leb k c) cs) (length cs)) refl
  where
    below : (j : ℕ) → j < position_or_len (λ c. leb k c) cs → get_or cs j 0 < k
    below j h = let e = fails_before_first (λ c. leb k c) cs j 0 h in grind (arith, nat_tests)

    go : (b : Bool) → ltb (position_or_len (λ c. leb k c) cs) (length cs) ≡ b
        → checked_from k 0 cs ≡ elim (cond b (Some (position_or_len (λ c. leb k c) cs)) None) [ None ↦ Ok cs | Some i ↦ refuse 13 i ]
    go true e =
        let i : ℕ = position_or_len (λ c. leb k c) cs in
        let within : i < length cs = ltb-true _ _ e in
        sym (ap (λ n. refuse 13 n) (sym (zero-add i)) ∙ first_refused k 0 i cs within below (leb-true k _ (passes_at_first (λ c. leb k c) cs 0 within)))
    go false e = sym (all_pass k 0 cs (λ j h. below j (grind (arith, nat_tests))))

pub refused_at_position : (k : ℕ) (cs : List ℕ) (i : ℕ) → Some i ≡ position (λ c. leb k c) cs → refuse 13 i ≡ checked_from k 0 cs
refused_at_position k cs i e = ap (λ o. elim o [ None ↦ Ok cs | Some i ↦ refuse 13 i ]) e ∙ sym (checked_by_position k cs)

pub passes_with_none : (k : ℕ) (cs : List ℕ) → None ≡ position (λ c. leb k c) cs → Ok cs ≡ checked_from k 0 cs
passes_with_none k cs e = ap (λ o. elim o [ None ↦ Ok cs | Some i ↦ refuse 13 i ]) e ∙ sym (checked_by_position k cs)

-- what passes is below k, since any other code is refused
pub passed_below : (k at : ℕ) (cs ds : List ℕ) → checked_from k at cs ≡ Ok ds → (j : ℕ) → j < length cs → get_or cs j 0 < k
passed_below k at [] ds e j h = absurd (omega arith)
passed_below k at (c ∷ cs) ds e j h =
    either_way (ltb c k) _ _ _ (get_or (c ∷ cs) j 0 < k) e
    (λ t p. let q = and_then_value (checked_from k (suc at) cs) (λ ds. Ok (c ∷ ds)) ds p in step (ltb-true c k t) (passed_below k (suc at) cs q.0 q.1) j h)
    (λ t p. absurd (not_both _ ds p))
  where
    step : c < k → ((j : ℕ) → j < length cs → get_or cs j 0 < k) → (j : ℕ) → j < suc (length cs) → get_or (c ∷ cs) j 0 < k
    step first rest zero h = first
    step first rest (suc j) h = rest j (omega arith)

-- the codes that a list holds, and 0 behind them
abbrev pub Holds : List ℕ → List ℕ → Type 0
Holds codes list = (g : ℕ) → get_or codes g 0 ≡ get_or list g 0

-- codes of a list that passes are below k, and so is the 0 behind them
pub held_below : (k : ℕ) (codes list : List ℕ) → 0 < k → Holds codes list → Ok list ≡ checked_from k 0 list → AllBelow k codes
held_below k codes list some held passed g =
    subst (λ (d : ℕ). d < k) (sym (held g))
    (⊎_elim (λ (h : g < length list). passed_below k 0 list list (sym passed) g h) (λ (h : length list ≤ g). subst (λ (d : ℕ). d < k) (sym (get_or_past list g 0 h)) some)
    (cases_lt g (length list)))

-- codes that agree everywhere mean the same
pub same_meaning : (shape : List ℕ) (k : ℕ) (codes list : List ℕ) → Holds codes list → codes_meaning shape k codes ≡ codes_meaning shape k list
same_meaning shape k codes list held =
    λ i. record { shape = shape; size = k; decision = λ g. cond (ltb g (grid shape)) (held g i) 0 }

-- a list of just the grid size that passes is what its codes hold
pub list_held : (shape : List ℕ) (k : ℕ) (codes list : List ℕ) → length list ≡ grid shape → grid shape ≤ length codes → Holds codes list → Ok list ≡ checked_from k 0 list → Ok (take (grid shape) codes) ≡ codes_of shape k list
list_held shape k codes list long room held passed =
    simp (eq-eqb (length list) (grid shape) long) (ap (λ (cs : List ℕ). Ok cs) (front_is 0 codes list (grid shape) room long (λ j h. held j)) ∙ passed)

-- a list in front of zeros holds the list, for what lies past it is 0 in both
pub held_in : (list : List ℕ) (m : ℕ) (codes : List ℕ) → codes ≡ list ++ drop (length list) (replicate m 0) → Holds codes list
held_in list m codes e g =
    let n : ℕ = length list in
    ap (λ xs. get_or xs g 0) e
    ∙ ⊎_elim (λ (h : g < length list). get_or_append_left list (drop n (replicate m 0)) 0 g h)
    (λ (h : length list ≤ g). get_or-append_right list (drop n (replicate m 0)) g 0 h ∙ get_or-drop n (replicate m 0) (g - n) 0 ∙ zeros (n + (g - n)) ∙ sym (get_or_past list g 0 h))
    (cases_lt g (length list))
  where
    zeros : (i : ℕ) → ◌≡◌ {A = ℕ} (get_or (replicate m 0) i 0) 0
    zeros i = ⊎_elim (λ (h : i < m). get_or-replicate m i 0 0 h) (λ (h : m ≤ i). get_or_past (replicate m 0) i 0 (simp length-replicate h)) (cases_lt i m)

-- a list of just the grid size whose first code beyond is refused is refused there
pub refused_of_size : (shape : List ℕ) (k : ℕ) (list : List ℕ) (i : ℕ) → length list ≡ grid shape → Some i ≡ position (λ c. leb k c) list → refuse 13 i ≡ codes_of shape k list
refused_of_size shape k list i long e = simp (eq-eqb (length list) (grid shape) long) (refused_at_position k list i e)
