-- Sheets compared with those behind them, one after the other.
use Rattle.std.proofs.Common.{◌≡◌, ℕ, ◌+◌, ◌<◌, ◌≤◌, List, [], ◌∷◌, ◌++◌, length, get_or, drop, sym, ap, ◌∙◌, append_assoc, add-one}
use Rattle.std.proofs.lemmas.List.{append-nil, drop_more, drop_all}
use Rattle.vocabulary.specs.Vocabulary.{Attribute}
use Rattle.decision.specs.Differing.{Difference, difference, against, differences_from}

module _ (v : List Attribute) (ss : List (List ℕ)) where
  -- sheet i against those from j on: against sheet j, and then against those behind j
  pub compared_more : (i : ℕ) (s : List ℕ) (j : ℕ) (before whole : List Difference) → j < length ss → before ++ against v i s j (drop j ss) ≡ whole
      → (before ++ difference v i s j (get_or ss j []) ∷ []) ++ against v i s (j + 1) (drop (j + 1) ss) ≡ whole
  compared_more i s j before whole h e =
      append_assoc before (difference v i s j (get_or ss j []) ∷ []) (against v i s (j + 1) (drop (j + 1) ss))
      ∙ ap (λ (k : ℕ). before ++ difference v i s j (get_or ss j []) ∷ against v i s k (drop (j + 1) ss)) (add-one j)
      ∙ ap (λ ts. before ++ against v i s j ts) (sym (drop_more ss j [] h))
      ∙ e

  -- the sheets from i on: sheet i against those behind it, and then the sheets behind i
  pub differences_more : (i : ℕ) (before whole : List Difference) → i < length ss → before ++ differences_from v i (drop i ss) ≡ whole
      → (before ++ against v i (get_or ss i []) (i + 1) (drop (i + 1) ss)) ++ differences_from v (i + 1) (drop (i + 1) ss) ≡ whole
  differences_more i before whole h e =
      append_assoc before (against v i (get_or ss i []) (i + 1) (drop (i + 1) ss)) (differences_from v (i + 1) (drop (i + 1) ss))
      ∙ ap (λ (k : ℕ). before ++ (against v i (get_or ss i []) k (drop (i + 1) ss) ++ differences_from v k (drop (i + 1) ss))) (add-one i)
      ∙ ap (λ ts. before ++ differences_from v i ts) (sym (drop_more ss i [] h))
      ∙ e

  -- behind the last sheet there is none to compare with
  pub compared_all : (i : ℕ) (s : List ℕ) (j : ℕ) (before whole : List Difference) → length ss ≤ j → before ++ against v i s j (drop j ss) ≡ whole → before ≡ whole
  compared_all i s j before whole h e = sym (append-nil before) ∙ ap (λ ts. before ++ against v i s j ts) (sym (drop_all j ss h)) ∙ e

  -- and none to start from
  pub differences_all : (i : ℕ) (before whole : List Difference) → length ss ≤ i → before ++ differences_from v i (drop i ss) ≡ whole → before ≡ whole
  differences_all i before whole h e = sym (append-nil before) ∙ ap (λ ts. before ++ differences_from v i ts) (sym (drop_all i ss h)) ∙ e
