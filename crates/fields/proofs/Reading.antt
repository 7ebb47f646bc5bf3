-- Reading field by field: one field whatever follows, one run of bytes after another, and one turn of a loop over a sheet.
use Rattle.std.proofs.Common.{◌≡◌, ℕ, zero, suc, ◌+◌, ◌*◌, ◌/◌, ◌%◌, ◌<◌, ◌≤◌, Bool, true, false, cond, ◌&&◌, leb, List, [], ◌∷◌, ◌++◌, length, get_or, take, drop, Ok, Err, sym, refl, ap, ◌∙◌, subst, ap₂, append_assoc, add-zero, arith, length-append}
use Rattle.std.proofs.lemmas.List.{append-nil, take_at, drop_at, take-append-le, drop-append-le, get_or_append_left, get_or-drop, drop-drop, length-drop, at_drop_more, at_drop_all}
use Rattle.std.proofs.lemmas.Bool.{le-leb, leb-true, cond-true}
use Rattle.std.proofs.lemmas.Bool.Decides.{nat_tests}
use Rattle.refusal.specs.Answers.{Told, Answer, refuse, and_then}
use Rattle.fields.specs.Fields.{Framed, framed, field_bytes, sheet_bytes, size_in, size_at, field_at, reading, limited}
use Rattle.fields.proofs.Answering.{not_both, same_value, and_then_same, and_then_value, either_way, Follows}

-- the bytes of two runs of fields are those of the first and then those of the second, by induction over the first
pub sheet_append : (fs gs : List Framed) → sheet_bytes (fs ++ gs) ≡ sheet_bytes fs ++ sheet_bytes gs
sheet_append [] gs = refl
sheet_append (f ∷ fs) gs = ap (λ r. field_bytes f ++ r) (sheet_append fs gs) ∙ sym (append_assoc (field_bytes f) (sheet_bytes fs) (sheet_bytes gs))

-- the two length bytes of n tell n, for n is 256 times the quotient and the rest
size_back : (n : ℕ) (r : List ℕ) → size_in ((n / 256) ∷ (n % 256) ∷ r) ≡ n
size_back n r = omega arith

-- the length behind the tag at a place is the length of the field at that place
size-at : (bs : List ℕ) (at : ℕ) → size_in (drop (at + 1) bs) ≡ size_at bs at
size-at bs at =
    let e0 : at + 1 + 0 ≡ at + 1 = omega arith in
    let e1 : at + 1 + 1 ≡ at + 2 = omega arith in
    ap₂ (λ (x y : ℕ). x * 256 + y) (get_or-drop (at + 1) bs 0 0 ∙ ap (λ (i : ℕ). get_or bs i 0) e0) (get_or-drop (at + 1) bs 1 0 ∙ ap (λ (i : ℕ). get_or bs i 0) e1)

-- whether a field ends within what is left can be told from the whole, for what is left is shorter by what stands before it
ends_within : (n at whole left : ℕ) → at < whole → left + (at + 1) ≡ whole → leb (2 + n) left ≡ (leb (at + 3) whole && leb (at + 3 + n) whole)
ends_within n at whole left h e = grind (arith, nat_tests)

module _ {S : Type 0} (step : ℕ → S → Framed → Answer S) where
  -- bytes to skip are dropped, one at a time
  pub skipped : (k : ℕ) (bs : List ℕ) (at : ℕ) (s : S) → reading step at s k bs ≡ reading step (at + k) s 0 (drop k bs)
  skipped zero bs at s = ap (λ (a : ℕ). reading step a s 0 bs) (sym (add-zero at))
  skipped (suc k) [] at s = refl
  skipped (suc k) (b ∷ bs) at s = skipped k bs (suc at) s ∙ ap (λ (a : ℕ). reading step a s 0 (drop k bs)) (omega arith)

  -- a field's bytes are read as that field, whatever follows, for its length bytes tell where it ends
  pub field_read : (f : Framed) (t : List ℕ) (at : ℕ) (s : S)
      → reading step at s 0 (field_bytes f ++ t) ≡ and_then (step at s f) (λ s'. reading step (at + length (field_bytes f)) s' 0 t)
  field_read f t at s =
      let n : ℕ = length f.content in
      let bs : List ℕ = (n / 256) ∷ (n % 256) ∷ (f.content ++ t) in
      let e : size_in bs ≡ n = size_back n (f.content ++ t) in
      let l : 2 + n ≤ length bs = simp length-append (omega arith) in
      ap (λ (m : ℕ).
      cond (leb (2 + m) (length bs)) (and_then (step at s (framed f.tag (take m (f.content ++ t)))) (λ s'. reading step (suc at) s' (2 + m) bs)) (refuse 10 at)) e
      ∙ cond-true (leb (2 + n) (length bs)) (and_then (step at s (framed f.tag (take n (f.content ++ t)))) (λ s'. reading step (suc at) s' (2 + n) bs)) (refuse 10 at) (le-leb (2 + n) (length bs) l)
      ∙ ap (λ c. and_then (step at s (framed f.tag c)) (λ s'. reading step (suc at) s' (2 + n) bs)) (take_at f.content t n refl)
      ∙ and_then_same (step at s f) (λ s'. reading step (suc at) s' (2 + n) bs) (λ s'. reading step (at + length (field_bytes f)) s' 0 t)
      (λ s'.
      skipped (2 + n) bs (suc at) s'
      ∙ ap₂ (λ (a : ℕ) (r : List ℕ). reading step a s' 0 r) (omega arith) (sym (drop-drop n 2 bs) ∙ drop_at f.content t n refl))

  -- reading u and then t is reading t from the state after u, for u ends at the end of a field
  pub read_on : (u t : List ℕ) (at : ℕ) (s s' : S) (k : ℕ) → k ≤ length u → reading step at s k u ≡ Ok s' → reading step at s k (u ++ t) ≡ reading step (at + length u) s' 0 t
  read_on [] t at s s' zero h e = let q : s ≡ s' = cc in ap₂ (λ (a : ℕ) (x : S). reading step a x 0 t) (sym (add-zero at)) q
  read_on [] t at s s' (suc k) h e = absurd (omega arith)
  read_on (b ∷ u) t at s s' (suc k) h e = read_on u t (suc at) s s' k (omega arith) e ∙ ap (λ (a : ℕ). reading step a s' 0 t) (omega arith)
  read_on (b ∷ u) t at s s' zero h e =
      go (leb (2 + size_in u) (length u)) refl e (λ x i d. read_on u t (suc at) x s' (2 + size_in u) i d ∙ ap (λ (a : ℕ). reading step a s' 0 t) (omega arith))
    where
      go : (g : Bool) → leb (2 + size_in u) (length u) ≡ g
          → cond g (and_then (step at s (framed b (take (size_in u) (drop 2 u)))) (λ x. reading step (suc at) x (2 + size_in u) u)) (refuse 10 at) ≡ Ok s'
          → ((x : S) → 2 + size_in u ≤ length u → reading step (suc at) x (2 + size_in u) u ≡ Ok s' → reading step (suc at) x (2 + size_in u) (u ++ t) ≡ reading step (at + length (b ∷ u)) s' 0 t)
          → reading step at s 0 (b ∷ (u ++ t)) ≡ reading step (at + length (b ∷ u)) s' 0 t
      go false g d i = absurd (not_both _ s' d)
      go true g d i =
          let l : 2 + size_in u ≤ length u = leb-true (2 + size_in u) (length u) g in
          let l0 : 0 < length u = omega arith in
          let l1 : 1 < length u = omega arith in
          let z : size_in (u ++ t) ≡ size_in u = ap₂ (λ (x y : ℕ). x * 256 + y) (get_or_append_left u t 0 0 l0) (get_or_append_left u t 0 1 l1) in
          let m : 2 + size_in u ≤ length (u ++ t) = simp length-append (omega arith) in
          let c : take (size_in u) (drop 2 (u ++ t)) ≡ take (size_in u) (drop 2 u) =
          ap (take (size_in u)) (drop-append-le 2 u t (omega arith)) ∙ take-append-le (size_in u) (drop 2 u) t (simp length-drop (omega arith))
          in
          let r = and_then_value (step at s (framed b (take (size_in u) (drop 2 u)))) (λ x. reading step (suc at) x (2 + size_in u) u) s' d in
          ap (λ (n : ℕ). cond (leb (2 + n) (length (u ++ t))) (and_then (step at s (framed b (take n (drop 2 (u ++ t))))) (λ x. reading step (suc at) x (2 + n) (u ++ t))) (refuse 10 at)) z
          ∙ cond-true (leb (2 + size_in u) (length (u ++ t))) (and_then (step at s (framed b (take (size_in u) (drop 2 (u ++ t))))) (λ x. reading step (suc at) x (2 + size_in u) (u ++ t))) (refuse 10 at)
          (le-leb (2 + size_in u) (length (u ++ t)) m)
          ∙ ap (λ q. and_then (step at s (framed b q)) (λ x. reading step (suc at) x (2 + size_in u) (u ++ t))) c
          ∙ ap (λ q. and_then q (λ x. reading step (suc at) x (2 + size_in u) (u ++ t))) r.1
          ∙ i r.0 l r.2

  -- what every step keeps is kept by reading, by induction over the bytes
  pub kept : (P : S → Type 0) → ((at : ℕ) (s s' : S) (f : Framed) → P s → step at s f ≡ Ok s' → P s') → (bs : List ℕ) (at : ℕ) (s s' : S) (k : ℕ) → P s → reading step at s k bs ≡ Ok s' → P s'
  kept P each [] at s s' zero p e = subst P (same_value s s' e) p
  kept P each [] at s s' (suc k) p e = subst P (same_value s s' e) p
  kept P each (b ∷ bs) at s s' (suc k) p e = kept P each bs (suc at) s s' k p e
  kept P each (b ∷ bs) at s s' zero p e =
      let f : Framed = framed b (take (size_in bs) (drop 2 bs)) in
      let on : S → Answer S = λ x. reading step (suc at) x (2 + size_in bs) bs in
      either_way (leb (2 + size_in bs) (length bs)) (and_then (step at s f) on) (refuse 10 at) (Ok s') (P s') e
      (λ t d. let r = and_then_value (step at s f) on s' d in kept P each bs (suc at) r.0 s' (2 + size_in bs) (each at s r.0 f p r.1) r.2)
      (λ t d. absurd (not_both _ s' d))

  -- ---- one turn of a loop: what is left of the sheet bs from a place on
  -- at the end of the sheet nothing is left to read
  pub at_end : (bs : List ℕ) (at : ℕ) (s : S) → length bs ≤ at → reading step at s 0 (drop at bs) ≡ Ok s
  at_end bs at s h = at_drop_all (reading step at s 0) bs at h

  -- before the end the field at this place is read, and what follows it from there, for both tell one length
  pub at_field : (bs : List ℕ) (at : ℕ) (s : S) → at < length bs
      → reading step at s 0 (drop at bs) ≡ and_then (field_at bs at) (λ x. and_then (step at s x.0) (λ s'. reading step x.1 s' 0 (drop x.1 bs)))
  at_field bs at s h =
      let r : List ℕ = drop (at + 1) bs in
      let n : ℕ = size_at bs at in
      let tag : ℕ = get_or bs at 0 in
      let l : length r + (at + 1) ≡ length bs = simp length-drop (omega arith) in
      let e2 : at + 1 + 2 ≡ at + 3 = omega arith in
      let fits : Bool = leb (at + 3) (length bs) && leb (at + 3 + n) (length bs) in
      at_drop_more (reading step at s 0) bs at 0 h
      ∙ ap (λ (m : ℕ). cond (leb (2 + m) (length r)) (and_then (step at s (framed tag (take m (drop 2 r)))) (λ s'. reading step (suc at) s' (2 + m) r)) (refuse 10 at)) (size-at bs at)
      ∙ ap (λ b. cond b (and_then (step at s (framed tag (take n (drop 2 r)))) (λ s'. reading step (suc at) s' (2 + n) r)) (refuse 10 at)) (ends_within n at (length bs) (length r) h l)
      ∙ ap (λ c. cond fits (and_then (step at s (framed tag (take n c))) (λ s'. reading step (suc at) s' (2 + n) r)) (refuse 10 at)) (drop-drop 2 (at + 1) bs ∙ ap (λ (i : ℕ). drop i bs) e2)
      ∙ last fits (framed tag (take n (drop (at + 3) bs)))
    where
      last : (b : Bool) (f : Framed)
          → cond b (and_then (step at s f) (λ s'. reading step (suc at) s' (2 + size_at bs at) (drop (at + 1) bs))) (refuse 10 at)
          ≡ and_then {X = Framed × ℕ} (cond b (Ok (f, at + 3 + size_at bs at)) (refuse 10 at)) (λ x. and_then (step at s x.0) (λ s'. reading step x.1 s' 0 (drop x.1 bs)))
      last false f = refl
      last true f =
          let n : ℕ = size_at bs at in
          let e : at + 1 + (2 + n) ≡ at + 3 + n = omega arith in
          let a : suc at + (2 + n) ≡ at + 3 + n = omega arith in
          and_then_same (step at s f) (λ s'. reading step (suc at) s' (2 + n) (drop (at + 1) bs)) (λ s'. reading step (at + 3 + n) s' 0 (drop (at + 3 + n) bs))
          (λ s'.
          skipped (2 + n) (drop (at + 1) bs) (suc at) s'
          ∙ ap₂ (λ (i : ℕ) (q : List ℕ). reading step i s' 0 q) a (drop-drop (2 + n) (at + 1) bs ∙ ap (λ (i : ℕ). drop i bs) e))

  -- where no field can be read the sheet is refused so
  pub truncated_at : (bs : List ℕ) (at : ℕ) (s : S) (t : Told) → at < length bs → field_at bs at ≡ Err t → reading step at s 0 (drop at bs) ≡ Err t
  truncated_at bs at s t h e = at_field bs at s h ∙ ap (λ r. and_then r (λ x. and_then (step at s x.0) (λ s'. reading step x.1 s' 0 (drop x.1 bs)))) e

  -- where a field is read the step is taken and what follows is read
  pub field_at_lem : (bs : List ℕ) (at : ℕ) (s : S) (f : Framed) (next : ℕ) → at < length bs → field_at bs at ≡ Ok (f, next)
      → reading step at s 0 (drop at bs) ≡ and_then (step at s f) (λ s'. reading step next s' 0 (drop next bs))
  field_at_lem bs at s f next h e = at_field bs at s h ∙ ap (λ r. and_then r (λ x. and_then (step at s x.0) (λ s'. reading step x.1 s' 0 (drop x.1 bs)))) e

  -- a field that the step refuses refuses the sheet
  pub refused_at : (bs : List ℕ) (at : ℕ) (s : S) (f : Framed) (next : ℕ) (t : Told) → at < length bs → field_at bs at ≡ Ok (f, next) → step at s f ≡ Err t
      → reading step at s 0 (drop at bs) ≡ Err t
  refused_at bs at s f next t h e r = field_at_lem bs at s f next h e ∙ ap (λ a. and_then a (λ s'. reading step next s' 0 (drop next bs))) r

  -- after a field that the step takes, reading goes on behind it
  pub goes_on_at : (bs : List ℕ) (at : ℕ) (s : S) (f : Framed) (next : ℕ) (s' : S) → at < length bs → field_at bs at ≡ Ok (f, next) → step at s f ≡ Ok s'
      → reading step at s 0 (drop at bs) ≡ reading step next s' 0 (drop next bs)
  goes_on_at bs at s f next s' h e r = field_at_lem bs at s f next h e ∙ ap (λ a. and_then a (λ x. reading step next x 0 (drop next bs))) r

  -- ---- fields that lead from one state to another, wherever they stand and whatever follows
  abbrev pub Goes : S → List Framed → S → Type 0
  Goes s fs s' = (at : ℕ) (t : List ℕ) → reading step at s 0 (sheet_bytes fs ++ t) ≡ reading step (at + length (sheet_bytes fs)) s' 0 t

  -- no field leaves the state as it is
  pub goes_none : (s : S) → Goes s [] s
  goes_none s at t = ap (λ (a : ℕ). reading step a s 0 t) (sym (add-zero at))

  -- fields after fields lead on, for their bytes stand one after the other
  pub goes_append : (s x y : S) (fs gs : List Framed) → Goes s fs x → Goes x gs y → Goes s (fs ++ gs) y
  goes_append s x y fs gs p q at t =
      let e : length (sheet_bytes (fs ++ gs)) ≡ length (sheet_bytes fs) + length (sheet_bytes gs) = ap length (sheet_append fs gs) ∙ length-append (sheet_bytes fs) (sheet_bytes gs) in
      ap (λ u. reading step at s 0 (u ++ t)) (sheet_append fs gs)
      ∙ ap (reading step at s 0) (append_assoc (sheet_bytes fs) (sheet_bytes gs) t)
      ∙ p at (sheet_bytes gs ++ t)
      ∙ q (at + length (sheet_bytes fs)) t
      ∙ ap (λ (a : ℕ). reading step a y 0 t) (omega arith)

  -- one field that the step takes at any place, and then fields that lead on
  pub goes_more : (s x y : S) (f : Framed) (fs : List Framed) → ((at : ℕ) → step at s f ≡ Ok x) → Goes x fs y → Goes s (f ∷ fs) y
  goes_more s x y f fs p q at t =
      let e : length (field_bytes f ++ sheet_bytes fs) ≡ length (field_bytes f) + length (sheet_bytes fs) = length-append (field_bytes f) (sheet_bytes fs) in
      ap (reading step at s 0) (append_assoc (field_bytes f) (sheet_bytes fs) t)
      ∙ field_read f (sheet_bytes fs ++ t) at s
      ∙ ap (λ r. and_then r (λ z. reading step (at + length (field_bytes f)) z 0 (sheet_bytes fs ++ t))) (p at)
      ∙ q (at + length (field_bytes f)) t
      ∙ ap (λ (a : ℕ). reading step a y 0 t) (omega arith)

  -- fields that lead from one state to another and end the sheet give the second
  pub goes_whole : (s s' : S) (fs : List Framed) → Goes s fs s' → (at : ℕ) → reading step at s 0 (sheet_bytes fs) ≡ Ok s'
  goes_whole s s' fs g at = ap (reading step at s 0) (sym (append-nil (sheet_bytes fs))) ∙ g at []

  -- ---- fields that the step takes one by one, at any place
  abbrev pub Takes : S → List Framed → S → Type 0
  Takes s [] s' = s ≡ s'
  Takes s (f ∷ fs) s' = (x : S) × ((at : ℕ) → step at s f ≡ Ok x) × Takes x fs s'

  -- such fields lead from one state to another, one after the other
  pub goes_from_takes : (s s' : S) (fs : List Framed) → Takes s fs s' → Goes s fs s'
  goes_from_takes s s' [] e = subst (Goes s []) e (goes_none s)
  goes_from_takes s s' (f ∷ fs) t = goes_more s t.0 s' f fs t.1 (goes_from_takes t.0 s' fs t.2)

  -- fields that were read were taken one by one, if the value of a step does not hang on the place
  pub takes_from-reading : ((at at' : ℕ) (s : S) (f : Framed) → Follows (step at s f) (step at' s f)) → (fs : List Framed) (at : ℕ) (s s' : S) → reading step at s 0 (sheet_bytes fs) ≡ Ok s' → Takes s fs s'
  takes_from-reading placeless [] at s s' e = same_value s s' e
  takes_from-reading placeless (f ∷ fs) at s s' e =
      let next : ℕ = at + length (field_bytes f) in
      let r = and_then_value (step at s f) (λ x. reading step next x 0 (sheet_bytes fs)) s' (sym (field_read f (sheet_bytes fs) at s) ∙ e) in
      (r.0, λ at'. placeless at at' s f r.0 r.1, takes_from-reading placeless fs next r.0 s' r.2)

-- ---- a whole sheet
module _ {S X : Type 0} (bs : List ℕ) (short : length bs ≤ 65535) (read : Answer S) (end : S → Answer X) where
  -- a sheet that is not too long is read
  within_limit : limited bs (and_then read end) ≡ and_then read end
  within_limit = cond-true (leb (length bs) 65535) (and_then read end) (refuse 14 0) (le-leb (length bs) 65535 short)

  -- a refusal on the way is the answer
  pub sheet_refused : (t : Told) → read ≡ Err t → limited bs (and_then read end) ≡ Err t
  sheet_refused t e = within_limit ∙ ap (λ r. and_then r end) e

  -- read to its end, the end decides
  pub sheet_ended : (s : S) → read ≡ Ok s → limited bs (and_then read end) ≡ end s
  sheet_ended s e = within_limit ∙ ap (λ r. and_then r end) e
