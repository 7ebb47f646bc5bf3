-- A policy sheet asked for a grid number.
use Rattle.std.proofs.Common.{◌≡◌, ℕ, suc, ◌%◌, Bool, true, false, ltb, List, [], ◌∷◌, length, Some, Ok, Err, Result, sym, refl, ap, ◌∙◌, arith}
use lib.ListN.{length-map}
use Rattle.std.proofs.lemmas.Bool.{cond-true}
use Rattle.std.specs.Result.{result_unwrap_or}
use Rattle.refusal.specs.declared.Refusal.{Refusal}
use Rattle.refusal.specs.Answers.{Told, Answer, and_then, told_by, answer_by}
use Rattle.fields.specs.Parts.{itself}
use Rattle.fields.specs.Fields.{when}
use Rattle.fields.proofs.Answering.{not_both, same_value, same_refusal}
use Rattle.algebra.specs.Tables.{Tables}
use Rattle.vocabulary.specs.Grid.{grid, cells_at, cells_if}
use Rattle.vocabulary.specs.Vocabulary.{Attribute, shape_of, count}
use Rattle.policy.specs.Rules.{Rule, decides}
use Rattle.policy.specs.Sheets.{policy_of, decided_at, sheet_meaning}
use Rattle.policy.specs.Walks.{decided_by}

-- a grid number has a cell for each attribute
cells_many : (ns : List ℕ) (g : ℕ) → length (cells_at ns g) ≡ length ns
cells_many [] g = refl
cells_many (n ∷ ns) g = ap suc (cells_many ns (g % grid ns))

-- what is there where it is asked for passed the test
passed : (b : Bool) (xs cs : List ℕ) → Some cs ≡ when b xs → (b ≡ true) × (cs ≡ xs)
passed true xs cs e = (refl, cc)
passed false xs cs e = let z : ◌≡◌ {A = ℕ} 0 1 = cc in absurd (omega arith)

-- the cells of a number are found by the shape of the vocabulary
pub cells_found : (v : List Attribute) (ns cells cs : List ℕ) (g : ℕ) → ns ≡ shape_of v → cs ≡ cells → Some cells ≡ cells_if ns g → Some cs ≡ cells_if (shape_of v) g
cells_found v ns cells cs g n c e = ap Some c ∙ e ∙ ap (λ ms. cells_if ms g) n

-- the cells are as many as the attributes
pub as_many : (v : List Attribute) (g : ℕ) (cs : List ℕ) → Some cs ≡ cells_if (shape_of v) g → length cs ≡ length v
as_many v g cs found =
    let p = passed (ltb g (grid (shape_of v))) (cells_at (shape_of v) g) cs found in
    ap length p.1 ∙ cells_many (shape_of v) g ∙ length-map v (λ a. count a.kind)

-- what is answered is decided, and where the sheet is refused nothing is
decided_or_zero : (t : Tables) (cells : List ℕ) (a : Answer (ℕ × List Rule)) (r : Result ℕ Refusal) → answer_by itself r ≡ and_then a (λ x. Ok (decides t x.0 x.1 cells)) → result_unwrap_or r 0 ≡ decided_at t a cells
decided_or_zero t cells (Ok x) (Ok d) e = same_value d _ e
decided_or_zero t cells (Err y) (Ok d) e = absurd (not_both y d (sym e))
decided_or_zero t cells (Ok x) (Err y) e = absurd (not_both (told_by y) _ e)
decided_or_zero t cells (Err z) (Err y) e = refl

-- in the grid a sheet means what is decided at the cells
pub answers : (t : Tables) (v : List Attribute) (bs : List ℕ) (g : ℕ) (cs : List ℕ) → Some cs ≡ cells_if (shape_of v) g → (r : Result ℕ Refusal) → answer_by itself r ≡ decided_by t v cs bs
    → result_unwrap_or r 0 ≡ (sheet_meaning t v bs).decision g
answers t v bs g cs found r e =
    let p = passed (ltb g (grid (shape_of v))) (cells_at (shape_of v) g) cs found in
    decided_or_zero t cs (policy_of v t.size bs) r e
    ∙ ap (decided_at t (policy_of v t.size bs)) p.1 ∙ sym (cond-true (ltb g (grid (shape_of v))) _ 0 p.0)

-- a sheet that is refused anywhere is refused
pub refused_anywhere : (t : Tables) (cells : List ℕ) (a : Answer (ℕ × List Rule)) (y : Told) → Err y ≡ and_then a (λ x. Ok (decides t x.0 x.1 cells)) → ◌≡◌ {A = Answer (Unit {0})} (Err y) (and_then a (λ x. Ok (tt {0})))
refused_anywhere t cells (Ok x) y e = absurd (not_both y _ e)
refused_anywhere t cells (Err z) y e = ap (λ w. Err w) (same_refusal y z e)
