-- One more attribute: its cells multiply the grid.
use Rattle.std.proofs.Common.{◌≡◌, ℕ, ◌*◌, List, [], ◌∷◌, ◌++◌, sym, ap, ap₂, ◌∙◌, mul_assoc, one-mul, mul-one}
use Rattle.std.proofs.lemmas.List.{map-append}
use Rattle.vocabulary.specs.declared.parts.Attribute.{Attribute}
use Rattle.vocabulary.specs.Grid.{grid}
use Rattle.vocabulary.specs.Counted.{cells_in, counts_in}

-- the last count is one more factor
pub grid_push : (ns : List ℕ) (n : ℕ) → grid (ns ++ n ∷ []) ≡ grid ns * n
grid_push [] n = mul-one n ∙ sym (one-mul n)
grid_push (m ∷ ns) n = ap (λ (g : ℕ). m * g) (grid_push ns n) ∙ sym (mul_assoc m (grid ns) n)

pub size_push : (xs : List Attribute) (a : Attribute) (size cells : ℕ) → size ≡ grid (counts_in xs) → cells ≡ cells_in a.kind → size * cells ≡ grid (counts_in (xs ++ a ∷ []))
size_push xs a size cells e c =
    let counts : counts_in (xs ++ a ∷ []) ≡ counts_in xs ++ cells_in a.kind ∷ [] = map-append (λ (x : Attribute). cells_in x.kind) xs (a ∷ []) in
    ap₂ (λ (s k : ℕ). s * k) e c ∙ sym (ap grid counts ∙ grid_push (counts_in xs) (cells_in a.kind))
