-- Answers one after the other.
use Rattle.std.proofs.Common.{◌≡◌, ℕ, Bool, true, false, cond, Some, None, Ok, Err, Option, Result, sym, refl, ap, ◌∙◌, arith}
use Rattle.refusal.specs.declared.Refusal.{Refusal}
use Rattle.refusal.specs.Answers.{Told, Answer, told_by, answer_by, and_then, given}

-- a refusal is not a value, for they are different variants
pub not_both : {X : Type 0} (t : Told) (x : X) → Err t ≡ Ok x → ⊥
not_both t x e = let z : ◌≡◌ {A = ℕ} 0 1 = cc in omega arith

-- two values that are the same answer are the same, for a variant keeps what it holds
pub same_value : {X : Type 0} (x y : X) → ◌≡◌ {A = Answer X} (Ok x) (Ok y) → x ≡ y
same_value x y e = cc

-- and so are two refusals
pub same_refusal : {X : Type 0} (y z : Told) → ◌≡◌ {A = Answer X} (Err y) (Err z) → y ≡ z
same_refusal y z e = ap (λ a. elim a [ Ok x ↦ y | Err w ↦ w ]) e

-- a refusal that a `?` hands on is the answer
pub handed_back : {X Z : Type 0} (g : Z → X) (r : Result Z Refusal) (e : Refusal) (a : Answer X) → (y : Refusal) × (r ≡ Err y) × (y ≡ e) → a ≡ Err (told_by e) → answer_by g r ≡ a
handed_back g r e a p q = ap (answer_by g) p.1 ∙ ap (λ (y : Refusal). Err (told_by y)) p.2 ∙ sym q

-- going on in the same way gives the same, for the way is taken at one value only
pub and_then_same : {X Y : Type 0} (r : Answer X) (f g : X → Answer Y) → ((x : X) → f x ≡ g x) → and_then r f ≡ and_then r g
and_then_same (Ok x) f g h = h x
and_then_same (Err t) f g h = refl

-- what is a value in the end had a value before, for a refusal is handed on
pub and_then_value : {X Y : Type 0} (r : Answer X) (f : X → Answer Y) (y : Y) → and_then r f ≡ Ok y → (x : X) × (r ≡ Ok x) × (f x ≡ Ok y)
and_then_value (Ok x) f y e = (x, refl, e)
and_then_value (Err t) f y e = absurd (not_both t y e)

-- the same where an option is asked for, for without one there is a refusal
pub given_value : {X Y : Type 0} (o : Option X) (n at : ℕ) (f : X → Answer Y) (y : Y) → given o n at f ≡ Ok y → (x : X) × (o ≡ Some x) × (f x ≡ Ok y)
given_value (Some x) n at f y e = (x, refl, e)
given_value None n at f y e = absurd (not_both _ y e)

-- a condition that gives z gives it by one of its two ways
pub either_way : {X : Type 0} (b : Bool) (x y z : X) (P : Type 0) → cond b x y ≡ z → (b ≡ true → x ≡ z → P) → (b ≡ false → y ≡ z → P) → P
either_way true x y z P e t f = t refl e
either_way false x y z P e t f = f refl e

-- ---- answers with the same values, whatever they refuse
-- each value of the first is the value of the second
abbrev pub Follows : {X : Type 0} → Answer X → Answer X → Type 0
Follows {X} r r' = (x : X) → r ≡ Ok x → r' ≡ Ok x

-- a refusal has no value
pub follows_refusal : {X : Type 0} (t : Told) (r : Answer X) → Follows (Err t) r
follows_refusal t r x e = absurd (not_both t x e)

-- one condition takes the same way in both
pub follows_cond : {X : Type 0} (b : Bool) (p q p' q' : Answer X) → Follows p p' → Follows q q' → Follows (cond b p q) (cond b p' q')
follows_cond true p q p' q' f g = f
follows_cond false p q p' q' f g = g

-- the second goes on from the value of the first
pub follows_and_then : {X Y : Type 0} (r r' : Answer X) (f g : X → Answer Y) → Follows r r' → ((x : X) → Follows (f x) (g x)) → Follows (and_then r f) (and_then r' g)
follows_and_then r r' f g h i y e = let q = and_then_value r f y e in ap (λ a. and_then a g) (h q.0 q.1) ∙ i q.0 y q.2

-- an option that is asked for is there in both or in none
pub follows_given : {X Y : Type 0} (o : Option X) (n at at' : ℕ) (f g : X → Answer Y) → ((x : X) → Follows (f x) (g x)) → Follows (given o n at f) (given o n at' g)
follows_given None n at at' f g h = follows_refusal _ _
follows_given (Some x) n at at' f g h = h x
