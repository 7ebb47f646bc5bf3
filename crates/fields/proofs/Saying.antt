-- What fields say: what is said is well formed, it does not hang on the place, and fields that are written say what was written.
use Rattle.std.proofs.Common.{◌≡◌, ℕ, ◌%◌, ◌≤◌, Bool, true, false, cond, ◌&&◌, ◌||◌, eqb, leb, List, [], ◌∷◌, ◌++◌, length, get_or, drop, ℤ, Some, Ok, Option, refl, ap, ◌∙◌, subst, ap₂, arith, length-append, w32, SFits}
use Rattle.std.specs.List.{AllByRecursion}
use Rattle.std.proofs.lemmas.Bool.{and_parts, and_from, leb-true, le-leb, cond-true}
use Rattle.refusal.specs.Answers.{Answer, refuse, and_then, given}
use Rattle.fields.specs.Words.{is_name, number_of, number_bytes, numbers_of, rises, sides}
use Rattle.fields.specs.Fields.{Framed, Said, attribute, value, cuts, way, rule, choice, range, measure, formed, between, when, name_in, cuts_in, byte_in, way_in, sides_in, choice_said, range_said, measure_said, said_by}
use Rattle.fields.proofs.Answering.{not_both, same_value, and_then_value, given_value, either_way, Follows, follows_refusal, follows_cond, follows_and_then, follows_given}
use Rattle.fields.proofs.Naming.{name_parts, sides_of, sides_name}
use Rattle.fields.proofs.Numbering.{number_back, number_fits, numbers_fit, length_numbers}

-- ---- the parts of what is well formed
-- an option that is kept under a test passed it
pub when_value : {X : Type 0} (b : Bool) (x y : X) → when b x ≡ Some y → (b ≡ true) × (x ≡ y)
when_value true x y e = (refl, cc)
when_value false x y e = let z : ◌≡◌ {A = ℕ} 0 1 = cc in absurd (omega arith)

-- what is formed has an allowed length and is there
pub formed_value : {X : Type 0} (at : ℕ) (allowed : Bool) (o : Option X) (x : X) → formed at allowed o ≡ Ok x → (allowed ≡ true) × (o ≡ Some x)
formed_value at true o x e = let r = given_value o 13 at Ok x e in (refl, r.1 ∙ ap Some (same_value r.0 x r.2))
formed_value at false o x e = absurd (not_both _ x e)

-- and the other way round
pub formed_of : {X : Type 0} (at : ℕ) (allowed : Bool) (o : Option X) (x : X) → allowed ≡ true → o ≡ Some x → formed at allowed o ≡ Ok x
formed_of at allowed o x t e = cond-true allowed (given o 13 at Ok) (refuse 12 at) t ∙ ap (λ p. given p 13 at Ok) e

-- a length between two bounds, as numbers
pub between-parts : (low high : ℕ) (c : List ℕ) → between low high c ≡ true → (low ≤ length c) × (length c ≤ high)
between-parts low high c e = let t = and_parts (leb low (length c)) (leb (length c) high) e in (leb-true low (length c) t.0, leb-true (length c) high t.1)

-- and the other way round
pub between_of : (low high : ℕ) (c : List ℕ) → low ≤ length c → length c ≤ high → between low high c ≡ true
between_of low high c p q = and_from (leb low (length c)) (leb (length c) high) (le-leb low (length c) p) (le-leb (length c) high q)

-- ---- what is said is well formed
abbrev pub WellSaid : Said → Type 0
WellSaid (attribute n) = is_name n ≡ true
WellSaid (value n) = is_name n ≡ true
WellSaid (cuts zs) = (2 ≤ length zs) × (length zs ≤ 17) × AllByRecursion (SFits w32) zs × (rises zs ≡ true)
WellSaid (way b) = (1 ≤ b) × (b ≤ 4)
WellSaid (rule b) = Unit {0}
WellSaid (choice a w) = (is_name a ≡ true) × (is_name w ≡ true)
WellSaid (range a x y) = (is_name a ≡ true) × SFits w32 x × SFits w32 y
WellSaid (measure a x) = (is_name a ≡ true) × SFits w32 x

-- a name that is read is one, for it is tested
pub name_in_lem : (at : ℕ) (c n : List ℕ) → name_in at c ≡ Ok n → is_name n ≡ true
name_in_lem at c n e =
    let r = when_value (is_name c) c n (formed_value at (between 1 16 c) (when (is_name c) c) n e).1 in
    subst (λ x. is_name x ≡ true) r.1 r.0

-- cuts that are read are 2 to 17 that rise, for 8 to 68 bytes hold so many
pub cuts_in_lem : (at : ℕ) (c : List ℕ) (zs : List ℤ) → cuts_in at c ≡ Ok zs → WellSaid (cuts zs)
cuts_in_lem at c zs e =
    let f = formed_value at (between 8 68 c && eqb (length c % 4) 0) (when (rises (numbers_of c)) (numbers_of c)) zs e in
    let b = between-parts 8 68 c (and_parts (between 8 68 c) (eqb (length c % 4) 0) f.0).0 in
    let r = when_value (rises (numbers_of c)) (numbers_of c) zs f.1 in
    let l = length_numbers c in
    let b0 = b.0 in
    let b1 = b.1 in
    subst (λ x. WellSaid (cuts x)) r.1 (omega arith, omega arith, numbers_fit c, r.0)

-- a way that is read is one of four, for it is tested
pub way_in_lem : (at : ℕ) (c : List ℕ) (b : ℕ) → way_in at c ≡ Ok b → WellSaid (way b)
way_in_lem at c b e =
    let r = and_then_value (byte_in at c) (λ x. cond (leb 1 x && leb x 4) (Ok x) (refuse 13 at)) b e in
    either_way (leb 1 r.0 && leb r.0 4) (Ok r.0) (refuse 13 at) (Ok b) (WellSaid (way b)) r.2
    (λ t d.
    let p = and_parts (leb 1 r.0) (leb r.0 4) t in
    subst (λ x. WellSaid (way x)) (same_value r.0 b d) (leb-true 1 r.0 p.0, leb-true r.0 4 p.1))
    (λ t d. absurd (not_both _ b d))

-- two sides that are said begin with a name, and the second passes its test
pub sides-said : (at low high : ℕ) (good : List ℕ → Bool) (say : List ℕ × List ℕ → Said) (c : List ℕ) (s : Said)
    → and_then (sides_in at low high c) (λ x. cond (good x.1) (Ok (say x)) (refuse 13 at)) ≡ Ok s
    → (x : List ℕ × List ℕ) × (is_name x.0 ≡ true) × (good x.1 ≡ true) × (say x ≡ s)
sides-said at low high good say c s e =
    let r = and_then_value (sides_in at low high c) (λ x. cond (good x.1) (Ok (say x)) (refuse 13 at)) s e in
    let x : List ℕ × List ℕ = r.0 in
    let Goal : Type 0 = (x : List ℕ × List ℕ) × (is_name x.0 ≡ true) × (good x.1 ≡ true) × (say x ≡ s) in
    either_way (good x.1) (Ok (say x)) (refuse 13 at) (Ok s) Goal r.2
    (λ t d. (x, sides_name c x (formed_value at (between low high c) (sides c) x r.1).1, t, same_value (say x) s d))
    (λ t d. absurd (not_both _ s d))

-- what is made of a part that is read is well formed if it is so for each part
well_made : {X : Type 0} (r : Answer X) (say : X → Said) (s : Said) → ((x : X) → r ≡ Ok x → WellSaid (say x)) → and_then r (λ x. Ok (say x)) ≡ Ok s → WellSaid s
well_made r say s h d = let q = and_then_value r (λ x. Ok (say x)) s d in subst WellSaid (same_value (say q.0) s q.2) (h q.0 q.1)

-- whatever a field says is well formed, tag by tag
pub well_said : (at : ℕ) (f : Framed) (s : Said) → said_by at f ≡ Ok s → WellSaid s
well_said at f s e =
    let c : List ℕ = f.content in
    either_way (eqb f.tag 0x10) _ _ (Ok s) (WellSaid s) e (λ t. well_made (name_in at c) attribute s (name_in_lem at c))
    (λ t0 e0. either_way (eqb f.tag 0x11) _ _ (Ok s) (WellSaid s) e0 (λ t. well_made (name_in at c) value s (name_in_lem at c))
    (λ t1 e1. either_way (eqb f.tag 0x12) _ _ (Ok s) (WellSaid s) e1 (λ t. well_made (cuts_in at c) cuts s (cuts_in_lem at c))
    (λ t2 e2. either_way (eqb f.tag 0x1F) _ _ (Ok s) (WellSaid s) e2 (λ t. well_made (way_in at c) way s (way_in_lem at c))
    (λ t3 e3. either_way (eqb f.tag 0x20) _ _ (Ok s) (WellSaid s) e3 (λ t. well_made (byte_in at c) rule s (λ b d. tt))
    (λ t4 e4. either_way (eqb f.tag 0x21 || eqb f.tag 0x31) _ _ (Ok s) (WellSaid s) e4
    (λ t d. let q = sides-said at 3 33 is_name (λ x. choice x.0 x.1) c s d in subst WellSaid q.3 (q.1, q.2))
    (λ t5 e5. either_way (eqb f.tag 0x22) _ _ (Ok s) (WellSaid s) e5
    (λ t d. let q = sides-said at 10 25 (λ w. eqb (length w) 8) (λ x. range x.0 (number_of x.1) (number_of (drop 4 x.1))) c s d in
    subst WellSaid q.3 (q.1, number_fits q.0.1, number_fits (drop 4 q.0.1)))
    (λ t6 e6. either_way (eqb f.tag 0x32) _ _ (Ok s) (WellSaid s) e6
    (λ t d. let q = sides-said at 6 21 (λ w. eqb (length w) 4) (λ x. measure x.0 (number_of x.1)) c s d in subst WellSaid q.3 (q.1, number_fits q.0.1))
    (λ t7 e7. absurd (not_both _ s e7)))))))))

-- ---- what is said does not hang on the place, for the place is used in refusals only
formed_follows : {X : Type 0} (at at' : ℕ) (allowed : Bool) (o : Option X) → Follows (formed at allowed o) (formed at' allowed o)
formed_follows at at' allowed o =
    follows_cond allowed (given o 13 at Ok) (refuse 12 at) (given o 13 at' Ok) (refuse 12 at') (follows_given o 13 at at' Ok Ok (λ x y e. e)) (follows_refusal _ _)

-- so does what is made of a part
made_follows : {X : Type 0} (r r' : Answer X) (say : X → Said) → Follows r r' → Follows (and_then r (λ x. Ok (say x))) (and_then r' (λ x. Ok (say x)))
made_follows r r' say h = follows_and_then r r' (λ x. Ok (say x)) (λ x. Ok (say x)) h (λ x y e. e)

-- so does what a field says, tag by tag
pub said_follows : (at at' : ℕ) (f : Framed) → Follows (said_by at f) (said_by at' f)
said_follows at at' f =
    let c : List ℕ = f.content in
    let name : Follows (name_in at c) (name_in at' c) = formed_follows at at' (between 1 16 c) (when (is_name c) c) in
    let two : (low high : ℕ) (good : List ℕ → Bool) (say : List ℕ × List ℕ → Said)
    → Follows (and_then (sides_in at low high c) (λ x. cond (good x.1) (Ok (say x)) (refuse 13 at))) (and_then (sides_in at' low high c) (λ x. cond (good x.1) (Ok (say x)) (refuse 13 at'))) =
    λ low high good say.
    follows_and_then (sides_in at low high c) (sides_in at' low high c) _ _ (formed_follows at at' (between low high c) (sides c))
    (λ x. follows_cond (good x.1) (Ok (say x)) (refuse 13 at) (Ok (say x)) (refuse 13 at') (λ y e. e) (follows_refusal _ _))
    in
    let byte : Follows (byte_in at c) (byte_in at' c) = formed_follows at at' (eqb (length c) 1) (Some (get_or c 0 0)) in
    follows_cond (eqb f.tag 0x10) _ _ _ _ (made_follows (name_in at c) (name_in at' c) attribute name)
    (follows_cond (eqb f.tag 0x11) _ _ _ _ (made_follows (name_in at c) (name_in at' c) value name)
    (follows_cond (eqb f.tag 0x12) _ _ _ _
    (made_follows (cuts_in at c) (cuts_in at' c) cuts (formed_follows at at' (between 8 68 c && eqb (length c % 4) 0) (when (rises (numbers_of c)) (numbers_of c))))
    (follows_cond (eqb f.tag 0x1F) _ _ _ _
    (made_follows (way_in at c) (way_in at' c) way
    (follows_and_then (byte_in at c) (byte_in at' c) _ _ byte (λ b. follows_cond (leb 1 b && leb b 4) (Ok b) (refuse 13 at) (Ok b) (refuse 13 at') (λ y e. e) (follows_refusal _ _))))
    (follows_cond (eqb f.tag 0x20) _ _ _ _ (made_follows (byte_in at c) (byte_in at' c) rule byte)
    (follows_cond (eqb f.tag 0x21 || eqb f.tag 0x31) _ _ _ _ (two 3 33 is_name (λ x. choice x.0 x.1))
    (follows_cond (eqb f.tag 0x22) _ _ _ _ (two 10 25 (λ w. eqb (length w) 8) (λ x. range x.0 (number_of x.1) (number_of (drop 4 x.1))))
    (follows_cond (eqb f.tag 0x32) _ _ _ _ (two 6 21 (λ w. eqb (length w) 4) (λ x. measure x.0 (number_of x.1)))
    (follows_refusal _ _))))))))

-- ---- fields that are written
-- a name, the sign and what passes its test are read as the two sides
pub sides-written : (at low high : ℕ) (good : List ℕ → Bool) (say : List ℕ × List ℕ → Said) (n w : List ℕ) → is_name n ≡ true → good w ≡ true
    → low ≤ length (n ++ 0x3D ∷ w) → length (n ++ 0x3D ∷ w) ≤ high
    → and_then (sides_in at low high (n ++ 0x3D ∷ w)) (λ x. cond (good x.1) (Ok (say x)) (refuse 13 at)) ≡ Ok (say (n, w))
sides-written at low high good say n w h g p q =
    let c : List ℕ = n ++ 0x3D ∷ w in
    let both : List ℕ × List ℕ = (n, w) in
    ap (λ r. and_then r (λ x. cond (good x.1) (Ok (say x)) (refuse 13 at))) (formed_of at (between low high c) (sides c) both (between_of low high c p q) (sides_of n w h))
    ∙ cond-true (good w) (Ok (say both)) (refuse 13 at) g

-- a written choice says its two names, for two names and the sign have 3 to 33 bytes
pub choice_written : (at : ℕ) (n w : List ℕ) → is_name n ≡ true → is_name w ≡ true → choice_said at (n ++ 0x3D ∷ w) ≡ Ok (choice n w)
choice_written at n w h g =
    let p = name_parts n h in
    let q = name_parts w g in
    sides-written at 3 33 is_name (λ x. choice x.0 x.1) n w h g (simp length-append (omega arith)) (simp length-append (omega arith))

-- a written range says its two numbers, for a name, the sign and eight bytes have 10 to 25 bytes
pub range_written : (at : ℕ) (n : List ℕ) (x y : ℤ) → is_name n ≡ true → SFits w32 x → SFits w32 y → range_said at (n ++ 0x3D ∷ (number_bytes x ++ number_bytes y)) ≡ Ok (range n x y)
range_written at n x y h f g =
    let p = name_parts n h in
    let w : List ℕ = number_bytes x ++ number_bytes y in
    sides-written at 10 25 (λ u. eqb (length u) 8) (λ u. range u.0 (number_of u.1) (number_of (drop 4 u.1))) n w h refl (simp length-append (omega arith)) (simp length-append (omega arith))
    ∙ ap₂ (λ a b. Ok (range n a b)) (number_back x (number_bytes y) f) (number_back y [] g)

-- a written measure says its number, for a name, the sign and four bytes have 6 to 21 bytes
pub measure_written : (at : ℕ) (n : List ℕ) (z : ℤ) → is_name n ≡ true → SFits w32 z → measure_said at (n ++ 0x3D ∷ number_bytes z) ≡ Ok (measure n z)
measure_written at n z h f =
    let p = name_parts n h in
    sides-written at 6 21 (λ u. eqb (length u) 4) (λ u. measure u.0 (number_of u.1)) n (number_bytes z) h refl (simp length-append (omega arith)) (simp length-append (omega arith))
    ∙ ap (λ x. Ok (measure n x)) (number_back z [] f)
