-- Collecting the cells that were given.
use Rattle.std.proofs.Common.{◌≡◌, ℕ, ◌+◌, ◌<◌, ◌≤◌, List, [], ◌∷◌, ◌++◌, length, get_or, drop, Some, None, Ok, Err, sym, refl, ap, ◌∙◌, append_assoc}
use Rattle.std.proofs.lemmas.List.{at_drop_more, at_drop_all, append-nil}
use Rattle.refusal.specs.Answers.{Answer, refuse, and_then}
use Rattle.request.specs.Request.{Given, all_given}

-- these cells, and then the others
abbrev pub after : List ℕ → Answer (List ℕ) → Answer (List ℕ)
after cs a = and_then a (λ ds. Ok (cs ++ ds))

-- none were collected
pub after_none : (a : Answer (List ℕ)) → a ≡ after [] a
after_none (Ok ds) = refl
after_none (Err t) = refl

-- one more is collected
after_more : (cs : List ℕ) (c : ℕ) (a : Answer (List ℕ)) → after cs (and_then a (λ ds. Ok (c ∷ ds))) ≡ after (cs ++ c ∷ []) a
after_more cs c (Ok ds) = ap Ok (sym (append_assoc cs (c ∷ []) ds))
after_more cs c (Err t) = refl

module _ (end : ℕ) (st : Given) (cs : List ℕ) (i : ℕ) where
  pub collected : i < length st → (c : ℕ) → get_or st i None ≡ Some c → after cs (all_given end (drop i st)) ≡ after (cs ++ c ∷ []) (all_given end (drop (i + 1) st))
  collected h c e =
      ap (after cs) (at_drop_more (all_given end) st i None h ∙ ap (λ o. all_given end (o ∷ drop (i + 1) st)) e) ∙ after_more cs c (all_given end (drop (i + 1) st))

  pub missing : i < length st → get_or st i None ≡ None → after cs (all_given end (drop i st)) ≡ refuse 26 end
  missing h e = ap (after cs) (at_drop_more (all_given end) st i None h ∙ ap (λ o. all_given end (o ∷ drop (i + 1) st)) e)

  pub whole : length st ≤ i → after cs (all_given end (drop i st)) ≡ Ok cs
  whole h = ap (after cs) (at_drop_all (all_given end) st i h) ∙ ap Ok (append-nil cs)
