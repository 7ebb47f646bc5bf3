-- A request that is read gives cells of the shape.
use Rattle.std.proofs.Common.{◌≡◌, ℕ, zero, suc, ◌<◌, ◌||◌, eqb, leb, List, [], ◌∷◌, length, get_or, set, Some, None, Ok, Option, sym, subst, arith}
use lib.ListN.{length-map}
use Rattle.std.proofs.lemmas.List.{get_or-map}
use Rattle.refusal.specs.Answers.{refuse, and_then}
use Rattle.fields.specs.Fields.{Framed, Said, attribute, value, cuts, way, rule, choice, range, measure, said_by, reading}
use Rattle.fields.proofs.Answering.{not_both, same_value, and_then_value, given_value, either_way}
use Rattle.fields.proofs.Reading.{kept}
use Rattle.vocabulary.specs.Grid.{Cells}
use Rattle.vocabulary.specs.Vocabulary.{Kind, valued, ranged, Attribute, count, shape_of, names_of, place}
use Rattle.vocabulary.specs.Lookup.{no_attribute, attribute_at, value_cell, number_cell}
use Rattle.vocabulary.proofs.Known.{place-below}
use Rattle.vocabulary.proofs.Cutting.{cell_ends_within}
use Rattle.request.specs.Request.{Given, give_once, given_cell, give, take_in, ask, none_given, all_given, ReadGivesCells}

-- what is given so far fits the shape
abbrev Fits : List ℕ → Given → Type 0
Fits [] [] = Unit {0}
Fits [] (o ∷ st) = ⊥
Fits (n ∷ ns) [] = ⊥
Fits (n ∷ ns) (None ∷ st) = Fits ns st
Fits (n ∷ ns) (Some c ∷ st) = (c < n) × Fits ns st

-- nothing given fits
none_fits : (v : List Attribute) → Fits (shape_of v) (none_given v)
none_fits [] = tt
none_fits (a ∷ v) = none_fits v

-- one more cell fits if it is below its count
set_fits : (ns : List ℕ) (st : Given) (i c : ℕ) → Fits ns st → i < length ns → c < get_or ns i 0 → Fits ns (set st i (Some c))
set_fits [] st i c f h l = absurd (omega arith)
set_fits (n ∷ ns) [] i c f h l = absurd f
set_fits (n ∷ ns) (None ∷ st) zero c f h l = (l, f)
set_fits (n ∷ ns) (Some d ∷ st) zero c f h l = (l, f.1)
set_fits (n ∷ ns) (None ∷ st) (suc i) c f h l = set_fits ns st i c f (omega arith) l
set_fits (n ∷ ns) (Some d ∷ st) (suc i) c f h l = (f.0, set_fits ns st i c f.1 (omega arith) l)

-- all given, what fits is cells
all_cells : (ns : List ℕ) (st : Given) (end : ℕ) (cs : List ℕ) → Fits ns st → all_given end st ≡ Ok cs → Cells ns cs
all_cells [] [] end cs f e = subst (Cells []) (same_value [] cs e) tt
all_cells [] (o ∷ st) end cs f e = absurd f
all_cells (n ∷ ns) [] end cs f e = absurd f
all_cells (n ∷ ns) (None ∷ st) end cs f e = absurd (not_both _ cs e)
all_cells (n ∷ ns) (Some c ∷ st) end cs f e =
    let r = and_then_value (all_given end st) (λ ds. Ok (c ∷ ds)) cs e in
    subst (Cells (n ∷ ns)) (same_value (c ∷ r.0) cs r.2) (f.0, all_cells ns st end r.0 f.1 r.1)

-- a value's or a number's cell is below the count
value_below : (k : Kind) (w : List ℕ) (c : ℕ) → value_cell k w ≡ Some c → c < count k
value_below (valued names) w c e = place-below w names c e
value_below (ranged zs) w c e = let z : ◌≡◌ {A = ℕ} 0 1 = cc in absurd (omega arith)

number-below : (k : Kind) (x : _) (c : ℕ) → number_cell k x ≡ Some c → c < count k
number-below (valued names) x c e = let z : ◌≡◌ {A = ℕ} 0 1 = cc in absurd (omega arith)
number-below (ranged zs) x c e = let l = cell_ends_within 0 zs x c e in omega arith

module _ (v : List Attribute) where
  -- giving keeps what fits
  give_keeps : (at : ℕ) (st y : Given) (a : List ℕ) (cell : Kind → Option ℕ) → ((k : Kind) (c : ℕ) → cell k ≡ Some c → c < count k) → Fits (shape_of v) st → give v at st a cell ≡ Ok y → Fits (shape_of v) y
  give_keeps at st y a cell below f e =
      let p = given_value (place a (names_of v)) 23 at (λ i. given_cell at st i (cell (attribute_at v i).kind)) y e in
      let i : ℕ = p.0 in
      let inside : i < length v = let l = place-below a (names_of v) i p.1 in let m : length (names_of v) ≡ length v = simp length-map in omega arith in
      let q = given_value (cell (attribute_at v i).kind) 24 at (λ c. give_once at st i c (get_or st i None)) y p.2 in
      let c : ℕ = q.0 in
      let counted : get_or (shape_of v) i 0 ≡ count (attribute_at v i).kind = get_or-map (λ b. count b.kind) v i no_attribute 0 inside in
      let long : i < length (shape_of v) = simp length-map inside in
      once (get_or st i None) i c q.2 (set_fits (shape_of v) st i c f long (subst (λ (n : ℕ). c < n) (sym counted) (below (attribute_at v i).kind c q.1)))
    where
      once : (o : Option ℕ) (i c : ℕ) → give_once at st i c o ≡ Ok y → Fits (shape_of v) (set st i (Some c)) → Fits (shape_of v) y
      once None i c d g = subst (Fits (shape_of v)) (same_value (set st i (Some c)) y d) g
      once (Some b) i c d g = absurd (not_both _ y d)

  take_keeps : (at : ℕ) (st y : Given) (s : Said) → Fits (shape_of v) st → take_in v at st s ≡ Ok y → Fits (shape_of v) y
  take_keeps at st y (choice a w) f e = give_keeps at st y a (λ k. value_cell k w) (λ k. value_below k w) f e
  take_keeps at st y (measure a x) f e = give_keeps at st y a (λ k. number_cell k x) (λ k. number-below k x) f e
  take_keeps at st y (attribute n) f e = absurd (not_both _ y e)
  take_keeps at st y (value w) f e = absurd (not_both _ y e)
  take_keeps at st y (cuts zs) f e = absurd (not_both _ y e)
  take_keeps at st y (way b) f e = absurd (not_both _ y e)
  take_keeps at st y (rule b) f e = absurd (not_both _ y e)
  take_keeps at st y (range a x z) f e = absurd (not_both _ y e)

  ask_keeps : (at : ℕ) (st y : Given) (g : Framed) → Fits (shape_of v) st → ask v at st g ≡ Ok y → Fits (shape_of v) y
  ask_keeps at st y g f e =
      either_way (eqb g.tag 0x31 || eqb g.tag 0x32) (and_then (said_by at g) (take_in v at st)) (refuse 11 at) (Ok y) (Fits (shape_of v) y) e
      (λ t d. let r = and_then_value (said_by at g) (take_in v at st) y d in take_keeps at st y r.0 f r.2) (λ t d. absurd (not_both _ y d))

-- each field keeps what fits, and at the end that is cells
pub read_gives_cells_lem : ReadGivesCells
read_gives_cells_lem v bs cs e =
    either_way (leb (length bs) 65535) (and_then (reading (ask v) 0 (none_given v) 0 bs) (all_given (length bs))) (refuse 14 0) (Ok cs) (Cells (shape_of v) cs) e
    (λ t d.
    let r = and_then_value (reading (ask v) 0 (none_given v) 0 bs) (all_given (length bs)) cs d in
    all_cells (shape_of v) r.0 (length bs) cs (kept (ask v) (Fits (shape_of v)) (ask_keeps v) bs 0 (none_given v) r.0 0 (none_fits v) r.1) r.2)
    (λ t d. absurd (not_both _ cs d))
