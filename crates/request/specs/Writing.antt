-- Writing the request for cells.
use Rattle.std.specs.Prelude.{◌≡◌, ℕ, ◌≤◌, cond, List, ◌++◌, length, take, drop, Ok, Err, Result, nat_le}
use Rattle.refusal.specs.declared.Refusal.{Refusal}
use Rattle.refusal.specs.Answers.{Answer, refuse}
use Rattle.fields.specs.Words.{number_bytes}
use Rattle.fields.specs.Fields.{field_bytes}
use Rattle.vocabulary.specs.Grid.{are_cells}
use Rattle.vocabulary.specs.Vocabulary.{Attribute, shape_of}
use Rattle.vocabulary.specs.Lookup.{attribute_at, Label, by_name, by_number}
use Rattle.request.specs.Request.{field_for, request_of, request_for}

-- what stands after the sign in the field for a label
abbrev pub given_bytes : Label → List ℕ
given_bytes (by_name w) = w
given_bytes (by_number z) = number_bytes z

-- the bytes of the field that gives attribute i its cell
abbrev pub field_bytes_at : List Attribute → ℕ → ℕ → List ℕ
field_bytes_at v i c = field_bytes (field_for (attribute_at v i).name (attribute_at v i).kind c)

-- how long the request for cells is: 47 unless they are cells of the shape, 45 where there is no room for it
abbrev pub written_length : List Attribute → List ℕ → ℕ → Answer ℕ
written_length v cells room =
    cond (are_cells (shape_of v) cells)
    (cond (nat_le (length (request_for v cells)) room) (Ok (length (request_for v cells))) (refuse 45 0))
    (refuse 47 0)

-- memory after the call: the request and then what stood there, or at a refusal all as it was
abbrev pub memory_after : List ℕ → List ℕ → Result ℕ Refusal → List ℕ
memory_after request memory (Ok n) = request ++ drop n memory
memory_after request memory (Err e) = memory

-- the first n bytes of memory are read as the cells, and 288 bytes always do
pub record ReadsAs (v : List Attribute) (cells memory : List ℕ) (n : ℕ) : Type 0 where
  pub reads_as_the_cells : request_of v (take n memory) ≡ Ok cells
  pub fits_in_288_bytes : n ≤ 288
