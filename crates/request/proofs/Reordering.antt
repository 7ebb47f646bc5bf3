-- What a request gives does not depend on the order of its fields.
use Rattle.std.proofs.Common.{◌≡◌, ℕ, true, leb, List, [], ◌∷◌, ◌++◌, length, get_or, set, Some, None, Ok, Option, sym, refl, ap, ◌∙◌, subst, ⊎_elim, arith, length-append}
use Rattle.std.proofs.lemmas.List.{get_or-set_same, get_or-set_other, set_comm, set_past}
use Rattle.std.proofs.lemmas.Bool.{cases_eq, cases_lt, cond-true}
use Rattle.refusal.specs.Answers.{refuse, and_then}
use Rattle.fields.specs.Fields.{Framed, field_bytes, sheet_bytes, reading}
use Rattle.fields.proofs.Answering.{not_both, and_then_value, either_way, Follows, follows_and_then}
use Rattle.fields.proofs.Reading.{Takes, goes_whole, goes_from_takes, takes_from-reading}
use Rattle.vocabulary.specs.Vocabulary.{Attribute}
use Rattle.request.specs.Request.{Given, ask, all_given, none_given, request_of, Reordered, none, keep, swap, then, OrderDoesNotMatter}
use Rattle.request.proofs.Giving.{Gave, gave, ask_follows}

-- two cells can be given in either order
record Swaps (st : Given) (i j c d : ℕ) : Type 0 where
  second_open : get_or st j None ≡ None
  first_open : get_or (set st j (Some d)) i None ≡ None
  same_end : set (set st j (Some d)) i (Some c) ≡ set (set st i (Some c)) j (Some d)

-- to one attribute no two cells are given, unless it stands past the end, where nothing changes
swaps_same : (st : Given) (i c d : ℕ) → get_or st i None ≡ None → get_or (set st i (Some c)) i None ≡ None → Swaps st i i c d
swaps_same st i c d p q =
    ⊎_elim (λ l. let z : ◌≡◌ {A = ℕ} 0 1 = cc (get_or-set_same st i (Some c) None l) in absurd (omega arith))
    (λ l.
    let a : set st i (Some c) ≡ st = set_past st i (Some c) l in
    let b : set st i (Some d) ≡ st = set_past st i (Some d) l in
    record {
      second_open = p;
      first_open = ap (λ x. get_or x i None) b ∙ p;
      same_end = ap (λ x. set x i (Some c)) b ∙ a ∙ sym b ∙ ap (λ x. set x i (Some d)) (sym a);
    })
    (cases_lt i (length st))

-- two attributes stand in different places of the list
swaps_other : (st : Given) (i j c d : ℕ) → (i ≡ j → ⊥) → get_or st i None ≡ None → get_or (set st i (Some c)) j None ≡ None → Swaps st i j c d
swaps_other st i j c d n p q =
    record {
      second_open = sym (get_or-set_other st i j (Some c) None (λ e. n (sym e))) ∙ q;
      first_open = get_or-set_other st j i (Some d) None n ∙ p;
      same_end = set_comm st j i (Some d) (Some c) (λ e. n (sym e));
    }

-- attributes are the same or not
swaps : (st : Given) (i j c d : ℕ) → get_or st i None ≡ None → get_or (set st i (Some c)) j None ≡ None → Swaps st i j c d
swaps st i j c d p q =
    ⊎_elim (λ e. subst (λ (k : ℕ). Swaps st i k c d) e (swaps_same st i c d p (subst (λ (k : ℕ). get_or (set st i (Some c)) k None ≡ None) (sym e) q))) (λ n. swaps_other st i j c d n p q)
    (cases_eq i j)

module _ (v : List Attribute) where
  -- two neighbours can change places, for each gives its cell anywhere
  takes_swapped : (f g : Framed) (fs : List Framed) (s y : Given) → Takes (ask v) s (f ∷ g ∷ fs) y → Takes (ask v) s (g ∷ f ∷ fs) y
  takes_swapped f g fs s y t =
      let first : Gave (λ at x. ask v at x f) s t.0 = gave v 0 s t.0 f (t.1 0) in
      let second : Gave (λ at x. ask v at x g) t.0 t.2.0 = gave v 0 t.0 t.2.0 g (t.2.1 0) in
      let i : ℕ = first.index in
      let j : ℕ = second.index in
      let c : Option ℕ = Some first.cell in
      let d : Option ℕ = Some second.cell in
      let w : Swaps s i j first.cell second.cell =
      swaps s i j first.cell second.cell first.was_open (subst (λ x. get_or x j None ≡ None) (sym first.becomes) second.was_open)
      in
      let end : set (set s j d) i c ≡ t.2.0 = w.same_end ∙ ap (λ x. set x j d) first.becomes ∙ second.becomes in (
        set s j d,
        λ at. second.anywhere at s w.second_open,
        (t.2.0, λ at. first.anywhere at (set s j d) w.first_open ∙ ap Ok end, t.2.2),
      )

  -- so fields can be put in any order, one change after the other
  takes_reordered : {fs gs : List Framed} → Reordered fs gs → (s y : Given) → Takes (ask v) s fs y → Takes (ask v) s gs y
  takes_reordered none s y t = t
  takes_reordered (keep f r) s y t = (t.0, t.1, takes_reordered r t.0 y t.2)
  takes_reordered (swap f g fs) s y t = takes_swapped f g fs s y t
  takes_reordered (then p q) s y t = takes_reordered q s y (takes_reordered p s y t)

-- the order does not change how many bytes there are
length_reordered : {fs gs : List Framed} → Reordered fs gs → length (sheet_bytes fs) ≡ length (sheet_bytes gs)
length_reordered none = refl
length_reordered (keep f {fs} {gs} r) =
    let l = length_reordered r in
    let a = length-append (field_bytes f) (sheet_bytes fs) in
    let b = length-append (field_bytes f) (sheet_bytes gs) in
    omega arith
length_reordered (swap f g fs) =
    let a = length-append (field_bytes f) (field_bytes g ++ sheet_bytes fs) in
    let b = length-append (field_bytes g) (sheet_bytes fs) in
    let c = length-append (field_bytes g) (field_bytes f ++ sheet_bytes fs) in
    let d = length-append (field_bytes f) (sheet_bytes fs) in
    omega arith
length_reordered (then p q) = length_reordered p ∙ length_reordered q

-- the cells that are given do not hang on where the sheet ends
all_given_follows : (end end' : ℕ) (st : Given) → Follows (all_given end st) (all_given end' st)
all_given_follows end end' [] x e = e
all_given_follows end end' (None ∷ st) x e = absurd (not_both _ x e)
all_given_follows end end' (Some c ∷ st) x e =
    follows_and_then (all_given end st) (all_given end' st) (λ cs. Ok (c ∷ cs)) (λ cs. Ok (c ∷ cs)) (all_given_follows end end' st) (λ cs y d. d) x e

-- all fields are taken in the other order, to the same end, and this end is all that the cells come from
pub order_does_not_matter_lem : OrderDoesNotMatter
order_does_not_matter_lem v fs gs cells r e =
    let bs : List ℕ = sheet_bytes fs in
    let cs : List ℕ = sheet_bytes gs in
    either_way (leb (length bs) 65535) (and_then (reading (ask v) 0 (none_given v) 0 bs) (all_given (length bs))) (refuse 14 0) (Ok cells) (request_of v cs ≡ Ok cells) e
    (λ t d.
    let q = and_then_value (reading (ask v) 0 (none_given v) 0 bs) (all_given (length bs)) cells d in
    let y : Given = q.0 in
    let taken : Takes (ask v) (none_given v) gs y = takes_reordered v r (none_given v) y (takes_from-reading (ask v) (ask_follows v) fs 0 (none_given v) y q.1) in
    cond-true (leb (length cs) 65535) (and_then (reading (ask v) 0 (none_given v) 0 cs) (all_given (length cs))) (refuse 14 0) (subst (λ (n : ℕ). leb n 65535 ≡ true) (length_reordered r) t)
    ∙ ap (λ a. and_then a (all_given (length cs))) (goes_whole (ask v) (none_given v) y gs (goes_from_takes (ask v) (none_given v) y gs taken) 0)
    ∙ all_given_follows (length bs) (length cs) y cells q.2)
    (λ t d. absurd (not_both _ cells d))
