-- Lists made by `runs`: their length, their chunks, and that they are made of one another only piece by piece.
use Rattle.std.proofs.Common.{◌≡◌, ℕ, zero, suc, ◌+◌, ◌-◌, ◌*◌, ◌<◌, ◌≤◌, List, [], ◌∷◌, ◌++◌, map, length, get_or, take, drop, sym, refl, ap, ◌∙◌, ap₂, suc-mul, zero-mul, arith, length-append}
use Rattle.std.specs.List.{AllByRecursion}
use Rattle.std.proofs.ByRecursion.{All-append}
use Rattle.std.proofs.lemmas.List.{take_at, drop_at, drop-drop, map-append, get_or_append_left, get_or-append_right}
use Rattle.pages.specs.Pages.{runs, chunk}

-- the empty list is no other list, for constructors differ
pub nil_cons : {X : Type 0} (x : X) (xs : List X) → [] ≡ x ∷ xs → ⊥
nil_cons x xs e = let z : ◌≡◌ {A = ℕ} 0 1 = cc in omega arith

-- two lists that begin with lists of one length agree in both pieces, by induction on the first
pub append_split : {X : Type 0} (xs ys us vs : List X) → length xs ≡ length ys → xs ++ us ≡ ys ++ vs → (xs ≡ ys) × (us ≡ vs)
append_split [] [] us vs l e = (refl, e)
append_split [] (y ∷ ys) us vs l e = absurd (omega arith)
append_split (x ∷ xs) [] us vs l e = absurd (omega arith)
append_split (x ∷ xs) (y ∷ ys) us vs l e =
    let t : xs ++ us ≡ ys ++ vs = cc in
    let h : x ≡ y = cc in
    let i = append_split xs ys us vs (omega arith) t in
    (ap₂ ◌∷◌ h i.0, i.1)

-- where something is left from place j on, its first element stands at j and the rest from the next place on
pub drop-step : (xs : List ℕ) (j n : ℕ) (ns : List ℕ) → drop j xs ≡ n ∷ ns → (j < length xs) × (get_or xs j 0 ≡ n) × (drop (suc j) xs ≡ ns)
drop-step [] zero n ns e = absurd (nil_cons n ns e)
drop-step [] (suc j) n ns e = absurd (nil_cons n ns e)
drop-step (x ∷ xs) zero n ns e = (omega arith, cc, cc)
drop-step (x ∷ xs) (suc j) n ns e = let i = drop-step xs j n ns e in (omega arith, i.1, i.2)

-- where nothing is left the place is past the end
pub drop_end : (xs : List ℕ) (j : ℕ) → drop j xs ≡ [] → length xs ≤ j
drop_end [] j e = omega arith
drop_end (x ∷ xs) zero e = absurd (nil_cons x xs (sym e))
drop_end (x ∷ xs) (suc j) e = let i = drop_end xs j e in omega arith

-- ---- runs
module _ {X : Type 0} where
  -- n runs of length g have n * g elements
  pub length_runs : (n g : ℕ) (f : ℕ → List X) → ((c : ℕ) → length (f c) ≡ g) → length (runs n f) ≡ n * g
  length_runs zero g f h = sym (zero-mul g)
  length_runs (suc n) g f h =
      let i : length (runs n (λ c. f (suc c))) ≡ n * g = length_runs n g (λ c. f (suc c)) (λ c. h (suc c)) in
      let a : length (f 0 ++ runs n (λ c. f (suc c))) ≡ length (f 0) + length (runs n (λ c. f (suc c))) = length-append (f 0) (runs n (λ c. f (suc c))) in
      omega (arith, suc-mul n g, h 0)

  -- equal runs make equal lists
  pub runs_same : (n : ℕ) (f h : ℕ → List X) → ((c : ℕ) → c < n → f c ≡ h c) → runs n f ≡ runs n h
  runs_same zero f h e = refl
  runs_same (suc n) f h e = ap₂ ◌++◌ (e 0 (omega arith)) (runs_same n (λ c. f (suc c)) (λ c. h (suc c)) (λ c l. e (suc c) (omega arith)))

  -- lists made of runs of the same lengths are equal only where each run is
  pub runs-parts : (n : ℕ) (f h : ℕ → List X) → ((c : ℕ) → length (f c) ≡ length (h c)) → runs n f ≡ runs n h → (c : ℕ) → c < n → f c ≡ h c
  runs-parts zero f h l e c i = absurd (omega arith)
  runs-parts (suc n) f h l e zero i = (append_split (f 0) (h 0) _ _ (l 0) e).0
  runs-parts (suc n) f h l e (suc c) i =
      runs-parts n (λ c. f (suc c)) (λ c. h (suc c)) (λ c. l (suc c)) (append_split (f 0) (h 0) _ _ (l 0) e).1 c (omega arith)

  -- what holds in each run holds in all
  pub all_runs : (P : X → Type 0) (n : ℕ) (f : ℕ → List X) → ((c : ℕ) → c < n → AllByRecursion P (f c)) → AllByRecursion P (runs n f)
  all_runs P zero f h = tt
  all_runs P (suc n) f h = All-append P (f 0) (runs n (λ c. f (suc c))) (h 0 (omega arith)) (all_runs P n (λ c. f (suc c)) (λ c l. h (suc c) (omega arith)))

-- an image of runs is made of the images
pub map_runs : {X Y : Type 0} (m : X → Y) (n : ℕ) (f : ℕ → List X) → map m (runs n f) ≡ runs n (λ c. map m (f c))
map_runs m zero f = refl
map_runs m (suc n) f = map-append m (f 0) (runs n (λ c. f (suc c))) ∙ ap (λ r. map m (f 0) ++ r) (map_runs m n (λ c. f (suc c)))

-- runs of length g are the chunks of what they make, for each chunk skips those before it
pub chunk-runs-below : (n g : ℕ) (f : ℕ → List ℕ) → ((c : ℕ) → c < n → length (f c) ≡ g) → (c : ℕ) → c < n → chunk g (runs n f) c ≡ f c
chunk-runs-below zero g f h c l = absurd (omega arith)
chunk-runs-below (suc n) g f h zero l = ap (λ (m : ℕ). take g (drop m (f 0 ++ runs n (λ c. f (suc c))))) (zero-mul g) ∙ take_at (f 0) (runs n (λ c. f (suc c))) g (h 0 (omega arith))
chunk-runs-below (suc n) g f h (suc c) l =
    let rest : List ℕ = runs n (λ c. f (suc c)) in
    let m : suc c * g ≡ g + c * g = omega (arith, suc-mul c g) in
    ap (λ (m : ℕ). take g (drop m (f 0 ++ rest))) m
    ∙ ap (take g) (sym (drop-drop (c * g) g (f 0 ++ rest)))
    ∙ ap (λ q. take g (drop (c * g) q)) (drop_at (f 0) rest g (h 0 (omega arith)))
    ∙ chunk-runs-below n g (λ c. f (suc c)) (λ c i. h (suc c) (omega arith)) c (omega arith)

-- the same where every run has length g
pub chunk-runs : (n g : ℕ) (f : ℕ → List ℕ) → ((c : ℕ) → length (f c) ≡ g) → (c : ℕ) → c < n → chunk g (runs n f) c ≡ f c
chunk-runs n g f h = chunk-runs-below n g f (λ c i. h c)

-- place i of run c is place c * g + i of them all
pub get_d_runs : (n g : ℕ) (f : ℕ → List ℕ) → ((c : ℕ) → length (f c) ≡ g) → (c i : ℕ) → c < n → i < g → get_or (runs n f) (c * g + i) 0 ≡ get_or (f c) i 0
get_d_runs zero g f h c i l m = absurd (omega arith)
get_d_runs (suc n) g f h zero i l m =
    let e : 0 * g + i ≡ i = omega (arith, zero-mul g) in
    let t : i < length (f 0) = omega (arith, h 0) in
    ap (λ (k : ℕ). get_or (f 0 ++ runs n (λ c. f (suc c))) k 0) e ∙ get_or_append_left (f 0) (runs n (λ c. f (suc c))) 0 i t
get_d_runs (suc n) g f h (suc c) i l m =
    let e : suc c * g + i - g ≡ c * g + i = omega (arith, suc-mul c g) in
    get_or-append_right (f 0) (runs n (λ c. f (suc c))) g (suc c * g + i) 0 (h 0) (omega (arith, suc-mul c g))
    ∙ ap (λ (k : ℕ). get_or (runs n (λ c. f (suc c))) k 0) e
    ∙ get_d_runs n g (λ c. f (suc c)) (λ c. h (suc c)) c i (omega arith) m
