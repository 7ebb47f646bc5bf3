-- Names: when two are the same, what a name is made of, and the name before the sign '='.
use Rattle.std.proofs.Common.{◌≡◌, ℕ, suc, ◌<◌, ◌≤◌, Bool, true, false, cond, ◌&&◌, ◌||◌, eqb, ltb, leb, List, [], ◌∷◌, ◌++◌, length, take, drop, Some, None, Decides, Option, refl, ap, ◌∙◌, subst, ap₂, ⊎_elim, arith, length-append}
use Rattle.std.specs.List.{AllByRecursion}
use Rattle.std.proofs.lemmas.List.{take_at}
use Rattle.std.proofs.lemmas.Bool.{both_ways, and_parts, and_from, or_cases, eqb-true, eq-eqb, leb-true, ltb-true, lt-ltb, cases_Bool, cond-true, cond-false}
use Rattle.fields.specs.Words.{name_byte, name_bytes, is_name, equal, before, sides}

-- ---- when two names are the same
-- a name equals itself, for each of its bytes does
pub equal_self : (p : List ℕ) → equal p p ≡ true
equal_self [] = refl
equal_self (x ∷ p) = and_from (eqb x x) (equal p p) (eq-eqb x x refl) (equal_self p)

-- equal names are the same, for all their bytes are
pub equal-same : (p q : List ℕ) → equal p q ≡ true → p ≡ q
equal-same [] [] e = refl
equal-same [] (y ∷ q) e = absurd (both_ways false refl e)
equal-same (x ∷ p) [] e = absurd (both_ways false refl e)
equal-same (x ∷ p) (y ∷ q) e =
    let t = and_parts (eqb x y) (equal p q) e in
    ap₂ ◌∷◌ (eqb-true x y t.0) (equal-same p q t.1)

-- both together: the test tells whether two names are the same
pub equal-decides : (p q : List ℕ) → Decides (equal p q) (p ≡ q)
equal-decides p q = (equal-same p q, λ e. subst (λ r. equal p r ≡ true) e (equal_self p))

-- names that are not the same fail the test, for if they passed they were the same
pub not_equal : (p q : List ℕ) → (p ≡ q → ⊥) → equal p q ≡ false
not_equal p q n = ⊎_elim (λ t. absurd (n (equal-same p q t))) (λ t. t) (cases_Bool (equal p q))

-- ---- what a name is made of
pub name_parts : (n : List ℕ) → is_name n ≡ true → (1 ≤ length n) × (length n ≤ 16) × (name_bytes n ≡ true)
name_parts n h =
    let a = and_parts (ltb 0 (length n)) (leb (length n) 16 && name_bytes n) h in
    let b = and_parts (leb (length n) 16) (name_bytes n) a.1 in
    (ltb-true 0 (length n) a.0, leb-true (length n) 16 b.0, b.1)

-- a byte of a name is below 123, for the small letters stand above digits and hyphen
pub name_byte_below : (b : ℕ) → name_byte b ≡ true → b < 123
name_byte_below b h =
    ⊎_elim (λ t. let q = leb-true b 122 (and_parts (leb 97 b) (leb b 122) t).1 in omega arith)
    (λ t. ⊎_elim (λ u. let q = leb-true b 57 (and_parts (leb 48 b) (leb b 57) u).1 in omega arith) (λ u. let q = eqb-true b 45 u in omega arith) (or_cases (leb 48 b && leb b 57) (eqb b 45) t))
    (or_cases (leb 97 b && leb b 122) ((leb 48 b && leb b 57) || eqb b 45) h)

-- so a name is made of bytes
pub name_octets : (n : List ℕ) → name_bytes n ≡ true → AllByRecursion (λ b. b < 256) n
name_octets [] h = tt
name_octets (b ∷ n) h = let p = and_parts (name_byte b) (name_bytes n) h in let l = name_byte_below b p.0 in (omega arith, name_octets n p.1)

-- ---- the two sides of the sign '='
-- before the first sign stands the whole name, for the sign is no byte of a name
pub before_name : (n w : List ℕ) → name_bytes n ≡ true → before (n ++ 0x3D ∷ w) ≡ length n
before_name [] w h = refl
before_name (b ∷ n) w h =
    let p = and_parts (name_byte b) (name_bytes n) h in
    let other : eqb b 0x3D ≡ false =
    ⊎_elim (λ t. absurd (both_ways (name_byte 0x3D) refl (subst (λ (x : ℕ). name_byte x ≡ true) (eqb-true b 0x3D t) p.0))) (λ t. t) (cases_Bool (eqb b 0x3D))
    in
    cond-false (eqb b 0x3D) 0 (suc (before (n ++ 0x3D ∷ w))) other ∙ ap suc (before_name n w p.1)

-- what stands after a front and one byte more
pub drop_past : (p : List ℕ) (x : ℕ) (w : List ℕ) → drop (suc (length p)) (p ++ x ∷ w) ≡ w
drop_past [] x w = refl
drop_past (b ∷ p) x w = drop_past p x w

-- a name, the sign and anything: the sides are the name and the rest
pub sides_of : (n w : List ℕ) → is_name n ≡ true → sides (n ++ 0x3D ∷ w) ≡ Some (n, w)
sides_of n w h =
    let c : List ℕ = n ++ 0x3D ∷ w in
    let b : before c ≡ length n = before_name n w (name_parts n h).2 in
    let l : take (before c) c ≡ n = ap (λ (m : ℕ). take m c) b ∙ take_at n (0x3D ∷ w) (length n) refl in
    let r : drop (suc (before c)) c ≡ w = ap (λ (m : ℕ). drop (suc m) c) b ∙ drop_past n 0x3D w in
    let s : before c < length c = simp length-append (omega arith) in
    let all : Option (List ℕ × List ℕ) = Some (n, w) in
    ap₂ (λ (x y : List ℕ). cond {A = Option (List ℕ × List ℕ)} (ltb (before c) (length c) && is_name x) (Some (x, y)) None) l r
    ∙ cond-true (ltb (before c) (length c) && is_name n) all None (and_from (ltb (before c) (length c)) (is_name n) (lt-ltb (before c) (length c) s) h)

-- sides are found only at a proper name, for the test asks for it
pub sides_name : (c : List ℕ) (x : List ℕ × List ℕ) → sides c ≡ Some x → is_name x.0 ≡ true
sides_name c x e = go (ltb (before c) (length c) && is_name (take (before c) c)) refl e
  where
    go : (b : Bool) → (ltb (before c) (length c) && is_name (take (before c) c)) ≡ b → cond {A = Option (List ℕ × List ℕ)} b (Some (take (before c) c, drop (suc (before c)) c)) None ≡ Some x → is_name x.0 ≡ true
    go false t d = let z : ◌≡◌ {A = ℕ} 0 1 = cc in absurd (omega arith)
    go true t d =
        let q : take (before c) c ≡ x.0 = cc in
        subst (λ n. is_name n ≡ true) q (and_parts (ltb (before c) (length c)) (is_name (take (before c) c)) t).1
