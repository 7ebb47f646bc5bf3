-- How the progress of a vocabulary goes on, and what holds of it from field to field.
use Rattle.std.proofs.Common.{◌≡◌, ℕ, suc, ◌-◌, ◌*◌, ◌<◌, ◌≤◌, true, false, cond, leb, List, [], ◌∷◌, ◌++◌, length, Ok, sym, ap, ◌∙◌, subst, zero-le, mul-one, arith, length-append}
use Rattle.std.specs.List.{AllByRecursion}
use Rattle.std.proofs.ByRecursion.{All-push}
use Rattle.std.proofs.lemmas.List.{map_push, length_push}
use Rattle.std.proofs.lemmas.Bool.{leb-true, leb-false}
use Rattle.refusal.specs.Answers.{Answer, refuse, and_then}
use Rattle.fields.specs.Words.{is_name}
use Rattle.fields.specs.Fields.{Framed, reading, Said, attribute, value, cuts, way, rule, choice, range, measure, said_by}
use Rattle.fields.proofs.Answering.{not_both, same_value, and_then_value, either_way}
use Rattle.fields.proofs.Reading.{read_on, kept}
use Rattle.fields.proofs.Saying.{WellSaid, well_said}
use Rattle.vocabulary.specs.Grid.{grid}
use Rattle.vocabulary.specs.Vocabulary.{Kind, valued, ranged, Attribute, named, count, shape_of, names_of, is_known, Progress, start, opened, listing, bounded, may_follow, whole_so_far, open_attribute, in_grid, add_value, enter, step, finish, ReadingGoesOn, Distinct, ProperKind, Proper, ReadProper, WhatIsReadIsProper}
use Rattle.vocabulary.proofs.Gridded.{grid-append}
use Rattle.vocabulary.proofs.Known.{distinct_push}

-- this holds of any step
pub reading_goes_on_lem : ReadingGoesOn
reading_goes_on_lem s t at p q e = read_on step s t at p q 0 zero-le e

-- ---- what holds of a progress
-- an attribute of this name may follow whole ones
pub record MayFollow (v : List Attribute) (n : List ℕ) : Type 0 where
  pub whole : Proper v
  pub room : length v < 8
  pub name : is_name n ≡ true
  pub new : is_known n (names_of v) ≡ false

-- with this kind it is whole, too
pub record Filled (v : List Attribute) (n : List ℕ) (k : Kind) : Type 0 where
  pub follows : MayFollow v n
  pub kind : ProperKind k
  pub fits : grid (shape_of v) * count k ≤ 4096

-- what holds at each stage of reading
abbrev pub Sound : Progress → Type 0
Sound start = Unit {0}
Sound (opened v n) = MayFollow v n
Sound (listing v n names) = Filled v n (valued names)
Sound (bounded v n zs) = Filled v n (ranged zs)

-- no attributes are whole
pub none_proper : Proper []
none_proper = record { eight_attributes_at_most = omega arith; names_are_names = tt; names_are_distinct = tt; kinds_are_proper = tt; grid_fits = omega arith }

-- one more attribute leaves all whole, for its name is new and the grid is multiplied by its count
whole_more : (v : List Attribute) (n : List ℕ) (k : Kind) → Filled v n k → Proper (v ++ named n k ∷ [])
whole_more v n k f =
    let m : MayFollow v n = f.follows in
    let w : Proper v = m.whole in
    let l : length v < 8 = m.room in
    let g : grid (shape_of (v ++ named n k ∷ [])) ≡ grid (shape_of v) * count k =
    ap grid (map_push (λ a. count a.kind) v (named n k)) ∙ grid-append (shape_of v) (count k ∷ []) ∙ ap (λ (c : ℕ). grid (shape_of v) * c) (mul-one (count k))
    in
    let h = f.fits in
    record {
      eight_attributes_at_most = simp length-append (omega arith);
      names_are_names = All-push (λ a. is_name a.name ≡ true) v (named n k) w.names_are_names m.name;
      names_are_distinct = subst Distinct (sym (map_push (λ a. a.name) v (named n k))) (distinct_push (names_of v) n w.names_are_distinct m.new);
      kinds_are_proper = All-push (λ a. ProperKind a.kind) v (named n k) w.kinds_are_proper f.kind;
      grid_fits = omega arith;
    }

-- what has been read so far is whole
whole_so_far_lem : (p : Progress) → Sound p → Proper (whole_so_far p)
whole_so_far_lem start h = none_proper
whole_so_far_lem (opened v n) h = h.whole
whole_so_far_lem (listing v n names) h = whole_more v n (valued names) h
whole_so_far_lem (bounded v n zs) h = whole_more v n (ranged zs) h

-- ---- each field keeps it
-- an attribute is opened only if there is room and its name is new
open_keeps : (at : ℕ) (v : List Attribute) (n : List ℕ) (q : Progress) → Proper v → is_name n ≡ true → open_attribute at v n ≡ Ok q → Sound q
open_keeps at v n q w h e =
    either_way (leb 8 (length v)) (refuse 20 at) (cond (is_known n (names_of v)) (refuse 22 at) (Ok (opened v n))) (Ok q) (Sound q) e (λ t d. absurd (not_both _ q d))
    (λ r d.
    either_way (is_known n (names_of v)) (refuse 22 at) (Ok (opened v n)) (Ok q) (Sound q) d (λ t i. absurd (not_both _ q i))
    (λ u i. subst Sound (same_value (opened v n) q i) (record { whole = w; room = leb-false 8 (length v) r; name = h; new = u })))

-- a progress within the grid is the one that was asked for
in_grid_value : (at : ℕ) (v : List Attribute) (c : ℕ) (p q : Progress) → in_grid at v c p ≡ Ok q → (grid (shape_of v) * c ≤ 4096) × (p ≡ q)
in_grid_value at v c p q e =
    either_way (leb (grid (shape_of v) * c) 4096) (Ok p) (refuse 21 at) (Ok q) ((grid (shape_of v) * c ≤ 4096) × (p ≡ q)) e
    (λ t d. (leb-true (grid (shape_of v) * c) 4096 t, same_value p q d)) (λ t d. absurd (not_both _ q d))

-- a value is added only if there is room, its name is new and the grid stays small
value_keeps : (at : ℕ) (v : List Attribute) (n : List ℕ) (names : List (List ℕ)) (w : List ℕ) (q : Progress) → MayFollow v n → AllByRecursion (λ x. is_name x ≡ true) names → Distinct names → is_name w ≡ true
    → add_value at v n names w ≡ Ok q → Sound q
value_keeps at v n names w q m a d h e =
    let next : Progress = listing v n (names ++ w ∷ []) in
    either_way (leb 16 (length names)) (refuse 20 at) (cond (is_known w names) (refuse 22 at) (in_grid at v (suc (length names)) next)) (Ok q) (Sound q) e (λ t i. absurd (not_both _ q i))
    (λ r i.
    either_way (is_known w names) (refuse 22 at) (in_grid at v (suc (length names)) next) (Ok q) (Sound q) i (λ t j. absurd (not_both _ q j))
    (λ u j.
    let g = in_grid_value at v (suc (length names)) next q j in
    let l : length names < 16 = leb-false 16 (length names) r in
    let s : length (names ++ w ∷ []) ≡ suc (length names) = length_push names w ∙ omega arith in
    subst Sound g.1
    (record {
      follows = m;
      kind = (omega arith, omega arith, All-push (λ x. is_name x ≡ true) names w a h, distinct_push names w d u);
      fits = subst (λ (c : ℕ). grid (shape_of v) * c ≤ 4096) (sym s) g.0;
    })))

-- what a field says is entered as it keeps what holds
enter_keeps : (at : ℕ) (p q : Progress) (s : Said) → Sound p → WellSaid s → enter at p s ≡ Ok q → Sound q
enter_keeps at p q (attribute n) h w e = open_keeps at (whole_so_far p) n q (whole_so_far_lem p h) w e
enter_keeps at start q (value x) h w e = absurd (not_both _ q e)
enter_keeps at (opened v n) q (value x) h w e = value_keeps at v n [] x q h tt tt w e
enter_keeps at (listing v n names) q (value x) h w e = value_keeps at v n names x q h.follows h.kind.2 h.kind.3 w e
enter_keeps at (bounded v n zs) q (value x) h w e = absurd (not_both _ q e)
enter_keeps at start q (cuts ys) h w e = absurd (not_both _ q e)
enter_keeps at (opened v n) q (cuts ys) h w e =
    let g = in_grid_value at v (length ys - 1) (bounded v n ys) q e in
    subst Sound g.1 (record { follows = h; kind = w; fits = g.0 })
enter_keeps at (listing v n names) q (cuts ys) h w e = absurd (not_both _ q e)
enter_keeps at (bounded v n zs) q (cuts ys) h w e = absurd (not_both _ q e)
enter_keeps at p q (way b) h w e = absurd (not_both _ q e)
enter_keeps at p q (rule b) h w e = absurd (not_both _ q e)
enter_keeps at p q (choice a x) h w e = absurd (not_both _ q e)
enter_keeps at p q (range a x y) h w e = absurd (not_both _ q e)
enter_keeps at p q (measure a x) h w e = absurd (not_both _ q e)

-- so does each step, for what a field says is well formed
pub step_keeps : (at : ℕ) (p q : Progress) (f : Framed) → Sound p → step at p f ≡ Ok q → Sound q
step_keeps at p q f h e =
    either_way (may_follow p f.tag) (and_then (said_by at f) (enter at p)) (refuse 11 at) (Ok q) (Sound q) e
    (λ t d. let r = and_then_value (said_by at f) (enter at p) q d in enter_keeps at p q r.0 h (well_said at f r.0 r.1) r.2) (λ t d. absurd (not_both _ q d))

-- ---- a vocabulary that is read is proper
-- a vocabulary ends with a whole attribute
finish_proper : (at : ℕ) (p : Progress) (v : List Attribute) → Sound p → finish at p ≡ Ok v → ReadProper v
finish_proper at start v h e = absurd (not_both _ v e)
finish_proper at (opened w n) v h e = absurd (not_both _ v e)
finish_proper at (listing w n names) v h e =
    let one : 1 ≤ length (w ++ named n (valued names) ∷ []) = simp length-append (omega arith) in
    subst ReadProper (same_value (w ++ named n (valued names) ∷ []) v e) (record { is_proper = whole_more w n (valued names) h; one_attribute_at_least = one })
finish_proper at (bounded w n zs) v h e =
    let one : 1 ≤ length (w ++ named n (ranged zs) ∷ []) = simp length-append (omega arith) in
    subst ReadProper (same_value (w ++ named n (ranged zs) ∷ []) v e) (record { is_proper = whole_more w n (ranged zs) h; one_attribute_at_least = one })

-- each step keeps what holds of a progress, and at its end that is what a vocabulary asks
pub what_is_read_is_proper_lem : WhatIsReadIsProper
what_is_read_is_proper_lem bs v e =
    let whole : Answer (List Attribute) = and_then (reading step 0 start 0 bs) (finish (length bs)) in
    either_way (leb (length bs) 65535) whole (refuse 14 0) (Ok v) (ReadProper v) e
    (λ t d.
    let r = and_then_value (reading step 0 start 0 bs) (finish (length bs)) v d in
    finish_proper (length bs) r.0 v (kept step Sound step_keeps bs 0 start r.0 0 tt r.1) r.2)
    (λ t d. absurd (not_both _ v d))
