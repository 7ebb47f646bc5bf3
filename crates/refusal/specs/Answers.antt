-- Answers in the subject's words: a value, or a refusal with number, place and layer.
use Rattle.std.specs.Prelude.{ℕ, Some, None, Ok, Err, Option, Result}
use Rattle.refusal.specs.declared.Refusal.{Refusal}
use Rattle.refusal.specs.Numbers.{number_of, layer_of}

-- what a refusal tells
pub record Told : Type 0 where
  pub number : ℕ
  pub place : ℕ
  pub layer : ℕ

-- a refusal by its number and place; the number gives the layer
abbrev pub told : ℕ → ℕ → Told
told n at = record { number = n; place = at; layer = layer_of n }

-- what the code's refusal tells
abbrev pub told_by : Refusal → Told
told_by r = told (number_of r.cause) r.place

-- a value, or a refusal
abbrev pub Answer : Type 0 → Type 0
Answer X = Result X Told

-- refused with number n at a place
abbrev pub refuse : {X : Type 0} → ℕ → ℕ → Answer X
refuse n at = Err (told n at)

-- go on with the value, or hand the refusal on
abbrev pub and_then : {X Y : Type 0} → Answer X → (X → Answer Y) → Answer Y
and_then (Ok x) f = f x
and_then (Err t) f = Err t

-- refused with number n at a place unless there is an x
abbrev pub given : {X Y : Type 0} → Option X → ℕ → ℕ → (X → Answer Y) → Answer Y
given None n at f = refuse n at
given (Some x) n at f = f x

-- the code's answer, its value by what it means
abbrev pub answer_by : {X Y : Type 0} → (X → Y) → Result X Refusal → Answer Y
answer_by f (Ok x) = Ok (f x)
answer_by f (Err r) = Err (told_by r)
