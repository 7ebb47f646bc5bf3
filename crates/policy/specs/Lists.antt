-- Grid lists: a code for each grid number.
use Rattle.std.specs.Prelude.{ℕ, suc, ◌<◌, cond, List, [], ◌∷◌, length, Ok, ◌==◌, nat_lt, slice_index}
use Rattle.refusal.specs.Answers.{Answer, refuse, and_then}
use Rattle.vocabulary.specs.Grid.{grid}
use Rattle.policy.specs.Meaning.{Meaning}

-- each code is below k; the first that is not is refused at its byte
abbrev pub checked_from : ℕ → ℕ → List ℕ → Answer (List ℕ)
checked_from k at [] = Ok []
checked_from k at (c ∷ cs) = cond (nat_lt c k) (and_then (checked_from k (suc at) cs) (λ ds. Ok (c ∷ ds))) (refuse 13 at)

-- a grid list has just as many codes as the grid has numbers
abbrev pub codes_of : List ℕ → ℕ → List ℕ → Answer (List ℕ)
codes_of shape k list = cond (length list == grid shape) (checked_from k 0 list) (refuse 12 0)

-- codes mean themselves, and 0 beyond the grid
abbrev pub codes_meaning : List ℕ → ℕ → List ℕ → Meaning
codes_meaning shape k codes = record { shape = shape; size = k; decision = λ g. cond (nat_lt g (grid shape)) (slice_index codes g) 0 }

-- every code is below k
abbrev pub AllBelow : ℕ → List ℕ → Type 0
AllBelow k codes = (i : ℕ) → slice_index codes i < k
