-- A request field by field: how long each field is, and what is left after some of them.
use Rattle.std.proofs.Common.{◌≡◌, ℕ, suc, ◌+◌, ◌<◌, ◌≤◌, Bool, true, false, cond, leb, List, [], ◌∷◌, ◌++◌, length, get_or, take, drop, is_some, Ok, sym, refl, ap, ◌∙◌, ap₂, arith, length-append}
use lib.ListN.{length-map}
use Rattle.std.proofs.lemmas.List.{drop_more, drop_all, take_at}
use Rattle.std.proofs.lemmas.Bool.{leb-true}
use Rattle.refusal.specs.Answers.{Answer, refuse}
use Rattle.fields.specs.Fields.{field_bytes}
use Rattle.fields.specs.Written.{written}
use Rattle.fields.proofs.Answering.{either_way, same_value, not_both}
use Rattle.fields.proofs.Putting.{written_on}
use Rattle.fields.specs.Fields.{when}
use Rattle.vocabulary.specs.Grid.{Cells, number, are_cells, number_if}
use Rattle.vocabulary.proofs.Gridded.{cells_are_tested_lem}
use Rattle.vocabulary.specs.Vocabulary.{Attribute, count, shape_of, Proper}
use Rattle.vocabulary.specs.Lookup.{no_attribute, attribute_at, Label, by_name, by_number, label_of}
use Rattle.request.specs.Request.{field_by, request_of, request_for}
use Rattle.request.specs.Writing.{given_bytes, field_bytes_at, written_length, ReadsAs}
use Rattle.request.proofs.Written.{requests_read_back_lem}

-- ---- cells of a shape
-- the test tells cells of the shape
are_cells_lem : (ns cs : List ℕ) → are_cells ns cs ≡ true → Cells ns cs
are_cells_lem ns cs t = (cells_are_tested_lem ns cs).what_passes_is_cells t

-- there is a grid number just for cells of the shape
pub numbered : (ns cs : List ℕ) → is_some (number_if ns cs) ≡ are_cells ns cs
numbered ns cs = go (are_cells ns cs)
  where
    go : (b : Bool) → is_some (when b (number ns cs)) ≡ b
    go true = refl
    go false = refl

-- they are as many as the counts
cells_many : (ns cs : List ℕ) → Cells ns cs → length cs ≡ length ns
cells_many [] [] q = refl
cells_many [] (c ∷ cs) q = absurd q
cells_many (n ∷ ns) [] q = absurd q
cells_many (n ∷ ns) (c ∷ cs) q = ap suc (cells_many ns cs q.1)

-- a shape has a count for each attribute
pub shape_many : (v : List Attribute) → length (shape_of v) ≡ length v
shape_many v = length-map v (λ a. count a.kind)

-- ---- one field
-- tag, length and sign make four bytes beside the name and what is given
pub field_size : (n : List ℕ) (l : Label) → length (field_bytes (field_by n l)) ≡ 4 + length n + length (given_bytes l)
field_size n (by_name w) = simp length-append (omega arith)
field_size n (by_number z) = simp length-append (omega arith)

-- a name and a label that are those of attribute i make up the field that gives it its cell
module _ (v : List Attribute) (i c : ℕ) (name : List ℕ) (l : Label) (n : name ≡ (attribute_at v i).name) (e : l ≡ label_of (attribute_at v i).kind c) where
  -- equal parts make equal fields
  pub field_is : field_bytes (field_by name l) ≡ field_bytes_at v i c
  field_is = ap₂ (λ m k. field_bytes (field_by m k)) n e

  -- so the field has the size of its parts
  pub size_is : 4 + length name + length (given_bytes l) ≡ length (field_bytes_at v i c)
  size_is = sym (field_size name l) ∙ ap length field_is

-- ---- what is left of a request after the fields of i attributes
abbrev pub rest : List Attribute → List ℕ → ℕ → List ℕ
rest v cells i = request_for (drop i v) (drop i cells)

module _ (v : List Attribute) (cells : List ℕ) where
  -- the next field stands before the others, for both lists have a next element
  pub rest_more : (i : ℕ) → i < length v → i < length cells → rest v cells i ≡ field_bytes_at v i (get_or cells i 0) ++ rest v cells (i + 1)
  rest_more i h l = ap₂ request_for (drop_more v i no_attribute h) (drop_more cells i 0 l)

  -- nothing is left after the last cell, whatever attributes are
  pub rest-none : (i : ℕ) → length cells ≤ i → rest v cells i ≡ []
  rest-none i l = ap (request_for (drop i v)) (drop_all i cells l) ∙ no_cells (drop i v)
    where
      no_cells : (w : List Attribute) → request_for w [] ≡ []
      no_cells [] = refl
      no_cells (a ∷ w) = refl

-- ---- the request for cells of a proper vocabulary's shape
module _ (v : List Attribute) (cells : List ℕ) (proper : Proper v) (t : are_cells (shape_of v) cells ≡ true) where
  -- there is a cell for each attribute, for the shape has a count for each
  pub as_many : length cells ≡ length v
  as_many = cells_many (shape_of v) cells (are_cells_lem (shape_of v) cells t) ∙ shape_many v

  -- the request is short, as any that reads back
  pub request_short : length (request_for v cells) ≤ 288
  request_short = (requests_read_back_lem v cells proper (are_cells_lem (shape_of v) cells t)).fits_in_288_bytes

  -- so each cell has its field
  pub next_field : (i : ℕ) → i < length cells → rest v cells i ≡ field_bytes_at v i (get_or cells i 0) ++ rest v cells (i + 1)
  next_field i l = let m = as_many in rest_more v cells i (omega arith) l

  -- a field and what is left after it are as long as what was left before it
  pub next-length : (i : ℕ) → i < length cells → length (rest v cells i) ≡ length (field_bytes_at v i (get_or cells i 0)) + length (rest v cells (i + 1))
  next-length i l = ap length (next_field i l) ∙ length-append (field_bytes_at v i (get_or cells i 0)) (rest v cells (i + 1))

  -- writing what is left is writing a field and then what is left after it
  pub next-written : (out : List ℕ) (at i : ℕ) → i < length cells → at ≤ length out
      → written out at (rest v cells i) ≡ written (written out at (field_bytes_at v i (get_or cells i 0))) (at + length (field_bytes_at v i (get_or cells i 0))) (rest v cells (i + 1))
  next-written out at i l h = ap (written out at) (next_field i l) ∙ sym (written_on out at (field_bytes_at v i (get_or cells i 0)) (rest v cells (i + 1)) h)

  -- memory that begins with the request is read as the cells, for its first bytes are the request
  pub reads_as : (n : ℕ) (tail memory : List ℕ) → n ≡ length (request_for v cells) → memory ≡ request_for v cells ++ tail → ReadsAs v cells memory n
  reads_as n tail memory e m =
      let back = requests_read_back_lem v cells proper (are_cells_lem (shape_of v) cells t) in
      let first : take n memory ≡ request_for v cells = ap (take n) m ∙ take_at (request_for v cells) tail n (sym e) in
      let short = back.fits_in_288_bytes in
      record { reads_as_the_cells = ap (request_of v) first ∙ back.reads_as_its_cells; fits_in_288_bytes = omega arith }

-- where a length is laid down, the cells are of the shape and there is room, for else it is refused
pub has_room : (v : List Attribute) (cells : List ℕ) (room n : ℕ) → Ok n ≡ written_length v cells room
    → (are_cells (shape_of v) cells ≡ true) × (n ≡ length (request_for v cells)) × (length (request_for v cells) ≤ room)
has_room v cells room n e =
    let len : ℕ = length (request_for v cells) in
    let inner : Answer ℕ = cond (leb len room) (Ok len) (refuse 45 0) in
    let Goal : Type 0 = (are_cells (shape_of v) cells ≡ true) × (n ≡ len) × (len ≤ room) in
    either_way (are_cells (shape_of v) cells) inner (refuse 47 0) (Ok n) Goal (sym e)
    (λ t d. either_way (leb len room) (Ok len) (refuse 45 0) (Ok n) Goal d (λ l f. (t, sym (same_value len n f), leb-true len room l)) (λ l f. absurd (not_both _ n f)))
    (λ t d. absurd (not_both _ n d))
