-- The work that is left falls with each turn.
use Rattle.std.proofs.Common.{◌≡◌, ℕ, zero, suc, ◌+◌, ◌-◌, ◌*◌, ◌<◌, ◌≤◌, List, [], ◌∷◌, length, get_or, drop, ap, ◌∙◌, subst, mul-le-mul_right, suc-mul, arith, drop-cons, drop-drop}
use Rattle.building.specs.Work.{opening_work}

-- to open a place takes two turns at least
pub two_turns : (ns : List ℕ) → 2 ≤ opening_work ns
two_turns [] = omega arith
two_turns (n ∷ ns) = omega arith

-- a place that is opened leaves less, in its first cell and in the others
pub open_falls : (shape : List ℕ) (j : ℕ) → j < length shape → (u : ℕ)
    → opening_work (drop (j + 1) shape) + ((get_or shape j 0 - 1) * opening_work (drop (suc j) shape) + 1 + u) < opening_work (drop j shape) + u
open_falls shape j low u =
    let n : ℕ = get_or shape j 0 in
    let w : ℕ = opening_work (drop (suc j) shape) in
    let e : opening_work (drop j shape) ≡ 3 + suc n * w = ap opening_work (drop-cons shape j 0 low) in
    let o : j + 1 ≡ suc j = omega arith in
    let d : opening_work (drop (j + 1) shape) ≡ w = ap (λ (i : ℕ). opening_work (drop i shape)) o in
    let b : (n - 1) * w ≤ n * w = mul-le-mul_right w (omega arith) in
    omega (arith, suc-mul n w)

-- a frame that goes on with its next cell leaves less
pub cell_falls : (shape : List ℕ) (j c : ℕ) → c + 1 < get_or shape j 0 → (u : ℕ)
    → opening_work (drop (j + 1) shape) + ((get_or shape j 0 - suc (c + 1)) * opening_work (drop (suc j) shape) + 1 + u) < 1 + ((get_or shape j 0 - suc c) * opening_work (drop (suc j) shape) + 1 + u)
cell_falls shape j c l u =
    let n : ℕ = get_or shape j 0 in
    let w : ℕ = opening_work (drop (suc j) shape) in
    let m : ℕ = n - suc (c + 1) in
    let o : j + 1 ≡ suc j = omega arith in
    let d : opening_work (drop (j + 1) shape) ≡ w = ap (λ (i : ℕ). opening_work (drop i shape)) o in
    let s : n - suc c ≡ suc m = omega arith in
    let t : (n - suc c) * w ≡ suc m * w = ap (λ (i : ℕ). i * w) s in
    omega (arith, suc-mul m w)

work_drop : (m : ℕ) (ns : List ℕ) → opening_work (drop m ns) ≤ opening_work ns
work_drop zero ns = omega arith
work_drop (suc m) [] = omega arith
work_drop (suc m) (n ∷ ns) = let h = work_drop m ns in omega (arith, suc-mul n (opening_work ns))

-- at a later level there is no more to do
pub later_is_less : (shape : List ℕ) (j i : ℕ) → j ≤ i → opening_work (drop i shape) ≤ opening_work (drop j shape)
later_is_less shape j i l =
    let e : j + (i - j) ≡ i = omega arith in
    subst (λ m. opening_work m ≤ opening_work (drop j shape)) (drop-drop (i - j) j shape ∙ ap (λ (m : ℕ). drop m shape) e) (work_drop (i - j) (drop j shape))
