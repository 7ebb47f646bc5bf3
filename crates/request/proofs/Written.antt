-- A request written for cells is read as these cells.
use Rattle.std.proofs.Common.{◌≡◌, ℕ, suc, ◌+◌, ◌-◌, ◌*◌, ◌<◌, ◌≤◌, true, leb, List, [], ◌∷◌, ◌++◌, map, length, get_or, set, ℤ, pos, Some, None, Ok, sym, refl, ap, ◌∙◌, subst, append_assoc, arith, length-append, w32, SFits}
use Rattle.std.specs.List.{AllByRecursion}
use Rattle.std.proofs.lemmas.List.{get_or_at, set_at, length-map, get_or-map}
use Rattle.std.proofs.ByRecursion.{All-get_or}
use Rattle.std.proofs.lemmas.Bool.{le-leb, cond-true}
use Rattle.refusal.specs.Answers.{refuse, and_then}
use Rattle.fields.specs.Words.{is_name, number_bytes}
use Rattle.fields.specs.Fields.{field_bytes, reading}
use Rattle.fields.proofs.Naming.{name_parts}
use Rattle.fields.proofs.Reading.{Goes, goes_none, goes_more, goes_whole}
use Rattle.fields.proofs.Saying.{choice_written, measure_written}
use Rattle.vocabulary.specs.Grid.{Cells}
use Rattle.vocabulary.specs.Vocabulary.{Kind, valued, ranged, Attribute, named, count, shape_of, names_of, place, ProperKind, Proper}
use Rattle.vocabulary.proofs.Known.{place_at}
use Rattle.vocabulary.proofs.Cutting.{cell_of_cut}
use Rattle.vocabulary.specs.Lookup.{value_cell, number_cell}
use Rattle.request.specs.Request.{Given, take_in, ask, all_given, none_given, field_for, fields_for, request_for, RequestsReadBack}
use Rattle.request.proofs.Giving.{gives}

-- what stands for an attribute past the last one
abbrev none : Attribute
none = named [] (valued [])

module _ (v : List Attribute) (proper : Proper v) (i : ℕ) (h : i < length v) where
  -- names of a proper vocabulary are names
  name_good : is_name (get_or v i none).name ≡ true
  name_good = All-get_or (λ a. is_name a.name ≡ true) v i none h proper.names_are_names

  -- the name of an attribute is found where the attribute stands, for names are distinct
  name_place : place (get_or v i none).name (names_of v) ≡ Some i
  name_place =
      let m : i < length (names_of v) = simp length-map h in
      ap (λ n. place n (names_of v)) (sym (get_or-map (λ a. a.name) v i none [] h)) ∙ place_at (names_of v) i m proper.names_are_distinct

  -- kinds of a proper vocabulary are proper
  kind_good : (kind : Kind) → (get_or v i none).kind ≡ kind → ProperKind kind
  kind_good kind e = subst ProperKind e (All-get_or (λ a. ProperKind a.kind) v i none h proper.kinds_are_proper)

  -- the field written for a cell gives this cell, for a value is found by its name and a cut lies in the cell that it begins
  field_gives : (kind : Kind) → (get_or v i none).kind ≡ kind → (c : ℕ) → c < count kind → (st : Given) → get_or st i None ≡ None
      → (at : ℕ) → ask v at st (field_for (get_or v i none).name kind c) ≡ Ok (set st i (Some c))
  field_gives (valued names) e c l st n at =
      let q : ProperKind (valued names) = kind_good (valued names) e in
      let w : List ℕ = get_or names c [] in
      ap (λ r. and_then r (take_in v at st)) (choice_written at (get_or v i none).name w name_good (All-get_or (λ x. is_name x ≡ true) names c [] l q.2))
      ∙ gives v at st (get_or v i none).name (λ k. value_cell k w) i c name_place (ap (λ k. value_cell k w) e ∙ place_at names c l q.3) n
  field_gives (ranged zs) e c l st n at =
      let q : ProperKind (ranged zs) = kind_good (ranged zs) e in
      let z : ℤ = get_or zs c (pos 0) in
      let l1 : c < length zs - 1 = l in
      let l2 : suc c < length zs = omega arith in
      let fits : SFits w32 z = All-get_or (SFits w32) zs c (pos 0) (omega arith) q.2 in
      ap (λ r. and_then r (take_in v at st)) (measure_written at (get_or v i none).name z name_good fits)
      ∙ gives v at st (get_or v i none).name (λ k. number_cell k z) i c name_place (ap (λ k. number_cell k z) e ∙ cell_of_cut zs c l2 q.3) n

module _ (whole : List Attribute) (proper : Proper whole) where
  -- the fields for the attributes that are left give their cells, one after the other
  fields_go : (v front : List Attribute) (cells : List ℕ) (done : Given) → front ++ v ≡ whole → length done ≡ length front → Cells (shape_of v) cells
      → Goes (ask whole) (done ++ none_given v) (fields_for v cells) (done ++ map Some cells)
  fields_go [] front [] done e l n = goes_none (ask whole) (done ++ [])
  fields_go [] front (c ∷ cells) done e l n = absurd n
  fields_go (a ∷ v) front [] done e l n = absurd n
  fields_go (a ∷ v) front (c ∷ cells) done e l n =
      let i : ℕ = length front in
      let here : get_or whole i none ≡ a = ap (λ w. get_or w i none) (sym e) ∙ get_or_at front a v none i refl in
      let h : i < length whole = subst (λ w. i < length w) e (simp length-append (omega arith)) in
      let blank : Given = none_given v in
      let one : (at : ℕ) → ask whole at (done ++ None ∷ blank) (field_for a.name a.kind c) ≡ Ok (done ++ Some c ∷ blank) =
      λ at.
      subst (λ x. ask whole at (done ++ None ∷ blank) (field_for x.name a.kind c) ≡ Ok (done ++ Some c ∷ blank)) here
      (field_gives whole proper i h a.kind (ap (λ x. x.kind) here) c n.0 (done ++ None ∷ blank) (get_or_at done None blank None i l) at ∙ ap Ok (set_at done None blank (Some c) i l))
      in
      goes_more (ask whole) (done ++ None ∷ blank) (done ++ Some c ∷ blank) (done ++ Some c ∷ map Some cells) (field_for a.name a.kind c) (fields_for v cells) one
      (subst (λ x. Goes (ask whole) x (fields_for v cells) (done ++ Some c ∷ map Some cells)) (append_assoc done (Some c ∷ []) blank)
      (subst (λ x. Goes (ask whole) ((done ++ Some c ∷ []) ++ blank) (fields_for v cells) x) (append_assoc done (Some c ∷ []) (map Some cells))
      (fields_go v (front ++ a ∷ []) cells (done ++ Some c ∷ []) (append_assoc front (a ∷ []) v ∙ e) (simp length-append (omega arith)) n.1)))

-- where every cell is given these are the cells
all_given_lem : (end : ℕ) (cells : List ℕ) → all_given end (map Some cells) ≡ Ok cells
all_given_lem end [] = refl
all_given_lem end (c ∷ cells) = ap (λ r. and_then r (λ cs. Ok (c ∷ cs))) (all_given_lem end cells)

-- a field that is written has at most 36 bytes: tag, length, two names of at most 16 bytes and the sign
field_length : (n : List ℕ) (kind : Kind) (c : ℕ) → is_name n ≡ true → ProperKind kind → c < count kind → length (field_bytes (field_for n kind c)) ≤ 36
field_length n (valued names) c h q l =
    let p = name_parts n h in
    let r = name_parts (get_or names c []) (All-get_or (λ x. is_name x ≡ true) names c [] l q.2) in
    let s : length (n ++ 0x3D ∷ get_or names c []) ≡ length n + suc (length (get_or names c [])) = length-append n (0x3D ∷ get_or names c []) in
    omega arith
field_length n (ranged zs) c h q l =
    let p = name_parts n h in
    let s : length (n ++ 0x3D ∷ number_bytes (get_or zs c (pos 0))) ≡ length n + 5 = length-append n (0x3D ∷ number_bytes (get_or zs c (pos 0))) in
    omega arith

-- so the fields have at most 36 bytes an attribute
fields_length : (v : List Attribute) (cells : List ℕ) → AllByRecursion (λ a. is_name a.name ≡ true) v → AllByRecursion (λ a. ProperKind a.kind) v → Cells (shape_of v) cells → length (request_for v cells) ≤ 36 * length v
fields_length [] cells p q n = omega arith
fields_length (a ∷ v) [] p q n = absurd n
fields_length (a ∷ v) (c ∷ cells) p q n =
    let one = field_length a.name a.kind c p.0 q.0 n.0 in
    let rest = fields_length v cells p.1 q.1 n.1 in
    let s = length-append (field_bytes (field_for a.name a.kind c)) (request_for v cells) in
    omega arith

-- the fields give all cells, and eight of them have at most 288 bytes
pub requests_read_back_lem : RequestsReadBack
requests_read_back_lem v cells proper n =
    let bs : List ℕ = request_for v cells in
    let eight = proper.eight_attributes_at_most in
    let l = fields_length v cells proper.names_are_names proper.kinds_are_proper n in
    let short : length bs ≤ 65535 = omega arith in
    record {
      reads_as_its_cells =
          cond-true (leb (length bs) 65535) (and_then (reading (ask v) 0 (none_given v) 0 bs) (all_given (length bs))) (refuse 14 0) (le-leb (length bs) 65535 short)
          ∙ ap (λ r. and_then r (all_given (length bs))) (goes_whole (ask v) (none_given v) (map Some cells) (fields_for v cells) (fields_go v proper v [] cells [] refl refl n) 0)
          ∙ all_given_lem (length bs) cells;
      fits_in_288_bytes = omega arith;
    }
