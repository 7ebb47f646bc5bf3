-- How answers follow one another: a refusal is handed on, a value is gone on with.
use Rattle.std.proofs.Common.{◌≡◌, Bool, cond, Ok, Err, Result, ap, ◌∙◌}
use Rattle.refusal.specs.declared.Refusal.{Refusal}
use Rattle.refusal.specs.Answers.{Answer, told_by, and_then, answer_by}

module _ {X Y : Type 0} (a : Answer X) where
  -- a `?` hands the refusal on
  pub handed_on : {Z : Type 0} (g : Z → Y) (f : X → Answer Y) (r : Result Z Refusal) (y e : Refusal) → r ≡ Err y → y ≡ e → Err (told_by e) ≡ a → answer_by g r ≡ and_then a f
  handed_on g f r y e p q h = ap (answer_by g) p ∙ ap (λ (z : Refusal). Err (told_by z)) q ∙ ap (λ (b : Answer X). and_then b f) h

  -- a value is gone on with
  pub gone_on : (f : X → Answer Y) (x : X) → Ok x ≡ a → f x ≡ and_then a f
  gone_on f x h = ap (λ (b : Answer X). and_then b f) h

  -- a value is gone on with if it passes a test
  pub tested : (good : X → Bool) (pass : X → Answer Y) (fail : Answer Y) (b : Bool) (x : X) → Ok x ≡ a → b ≡ good x → cond b (pass x) fail ≡ and_then a (λ x. cond (good x) (pass x) fail)
  tested good pass fail b x h t = ap (λ (d : Bool). cond d (pass x) fail) t ∙ ap (λ (b : Answer X). and_then b (λ x. cond (good x) (pass x) fail)) h
