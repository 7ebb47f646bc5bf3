-- Grid numbers of a source as places: a span of them says what the source means there.
use Rattle.std.specs.Prelude.{◌≡◌, ℕ, zero, suc, ◌+◌, ◌^◌, ◌<◌, List, [], ◌∷◌, drop}
use Rattle.vocabulary.specs.Grid.{grid}
use Rattle.policy.specs.Meaning.{Meaning}
use Rattle.places.specs.Places.{Standing, Paging}
use Rattle.making.specs.declared.sourced.Span.{Span}

-- the decisions at n grid numbers, from the first on
abbrev pub decisions_at : (ℕ → ℕ) → ℕ → ℕ → List ℕ
decisions_at decision zero first = []
decisions_at decision (suc n) first = decision first ∷ decisions_at decision n (suc first)

-- a span has the grid numbers of the shape left at level j, and what the source decides are codes below k
pub record Spans (m : Meaning) (k : ℕ) (shape : List ℕ) (j : ℕ) (p : Span) : Type 0 where
  pub numbers_of_what_is_left : p.count ≡ grid (drop j shape)
  pub numbers_are_small : p.first + p.count < 2 ^ 32
  pub decisions_are_codes : (g : ℕ) → m.decision g < k

-- a span stands where it has the grid numbers that are left
abbrev pub span_stands : Meaning → Standing Span
span_stands m k shape nodes marks j p = Spans m k shape j p

-- a span says what the source means at its grid numbers
abbrev pub span_says : Meaning → Paging Span
span_says m shape nodes j p = decisions_at m.decision (grid (drop j shape)) p.first
