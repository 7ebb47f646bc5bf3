-- Fields: how they lie in bytes, what each says, and reading as a fold over fields.
use Rattle.std.specs.Prelude.{ℕ, zero, suc, ◌+◌, ◌*◌, ◌/◌, ◌%◌, Bool, cond, ◌&&◌, ◌||◌, List, [], ◌∷◌, ◌++◌, length, take, drop, ℤ, Some, None, Ok, Option, ◌==◌, nat_le, slice_index}
use Rattle.refusal.specs.Answers.{Answer, refuse, and_then, given}
use Rattle.fields.specs.Words.{is_name, number_of, numbers_of, rises, sides}

-- a field: its tag and its content
pub record Framed : Type 0 where
  pub tag : ℕ
  pub content : List ℕ

-- the field of a tag and a content
abbrev pub framed : ℕ → List ℕ → Framed
framed t c = record { tag = t; content = c }

-- its bytes: the tag, the length in two bytes with the high byte first, the content
abbrev pub field_bytes : Framed → List ℕ
field_bytes f = f.tag ∷ (length f.content / 256) ∷ (length f.content % 256) ∷ f.content

-- fields one after the other
abbrev pub sheet_bytes : List Framed → List ℕ
sheet_bytes [] = []
sheet_bytes (f ∷ fs) = field_bytes f ++ sheet_bytes fs

-- the length that stands after a tag
abbrev pub size_in : List ℕ → ℕ
size_in bs = slice_index bs 0 * 256 + slice_index bs 1

-- the length of the field at a place
abbrev pub size_at : List ℕ → ℕ → ℕ
size_at bs at = slice_index bs (at + 1) * 256 + slice_index bs (at + 2)

-- the field at a place and the place after it; 10 where the bytes end inside it
abbrev pub field_at : List ℕ → ℕ → Answer (Framed × ℕ)
field_at bs at =
    cond (nat_le (at + 3) (length bs) && nat_le (at + 3 + size_at bs at) (length bs))
    (Ok (framed (slice_index bs at) (take (size_at bs at) (drop (at + 3) bs)), at + 3 + size_at bs at))
    (refuse 10 at)

-- bytes are read field by field, from a state and a place; the bytes of a field that has been read are skipped
abbrev pub reading : {S : Type 0} → (ℕ → S → Framed → Answer S) → ℕ → S → ℕ → List ℕ → Answer S
reading step at s zero [] = Ok s
reading step at s zero (tag ∷ bs) =
    cond (nat_le (2 + size_in bs) (length bs))
    (and_then (step at s (framed tag (take (size_in bs) (drop 2 bs)))) (λ s'. reading step (suc at) s' (2 + size_in bs) bs))
    (refuse 10 at)
reading step at s (suc skip) [] = Ok s
reading step at s (suc skip) (b ∷ bs) = reading step (suc at) s skip bs

-- a sheet has at most 65,535 bytes
abbrev pub limited : {X : Type 0} → List ℕ → Answer X → Answer X
limited bs a = cond (nat_le (length bs) 65535) a (refuse 14 0)

-- ---- what a field says
pub data Said : Type 0 where
  attribute : List ℕ → Said
  value : List ℕ → Said
  cuts : List ℤ → Said
  way : ℕ → Said
  rule : ℕ → Said
  choice : List ℕ → List ℕ → Said
  range : List ℕ → ℤ → ℤ → Said
  measure : List ℕ → ℤ → Said

-- refused by 12 if the length is not allowed, by 13 if the content is not well formed
abbrev pub formed : {X : Type 0} → ℕ → Bool → Option X → Answer X
formed at allowed x = cond allowed (given x 13 at Ok) (refuse 12 at)

-- a content has at least low and at most high bytes
abbrev pub between : ℕ → ℕ → List ℕ → Bool
between low high c = nat_le low (length c) && nat_le (length c) high

-- a value where the test holds, and none elsewhere
abbrev pub when : {X : Type 0} → Bool → X → Option X
when b x = cond b (Some x) None

-- 1 to 16 bytes of a name
abbrev pub name_in : ℕ → List ℕ → Answer (List ℕ)
name_in at c = formed at (between 1 16 c) (when (is_name c) c)

-- 2 to 17 rising numbers
abbrev pub cuts_in : ℕ → List ℕ → Answer (List ℤ)
cuts_in at c = formed at (between 8 68 c && length c % 4 == 0) (when (rises (numbers_of c)) (numbers_of c))

-- one byte
abbrev pub byte_in : ℕ → List ℕ → Answer ℕ
byte_in at c = formed at (length c == 1) (Some (slice_index c 0))

-- one byte from 1 to 4
abbrev pub way_in : ℕ → List ℕ → Answer ℕ
way_in at c = and_then (byte_in at c) (λ b. cond (nat_le 1 b && nat_le b 4) (Ok b) (refuse 13 at))

-- the name before the first 0x3D and what stands after it
abbrev pub sides_in : ℕ → ℕ → ℕ → List ℕ → Answer (List ℕ × List ℕ)
sides_in at low high c = formed at (between low high c) (sides c)

-- an attribute's name and a value's name
abbrev pub choice_said : ℕ → List ℕ → Answer Said
choice_said at c = and_then (sides_in at 3 33 c) (λ x. cond (is_name x.1) (Ok (choice x.0 x.1)) (refuse 13 at))

-- an attribute's name and two numbers
abbrev pub range_said : ℕ → List ℕ → Answer Said
range_said at c =
    and_then (sides_in at 10 25 c)
    (λ x. cond (length x.1 == 8) (Ok (range x.0 (number_of x.1) (number_of (drop 4 x.1)))) (refuse 13 at))

-- an attribute's name and one number
abbrev pub measure_said : ℕ → List ℕ → Answer Said
measure_said at c = and_then (sides_in at 6 21 c) (λ x. cond (length x.1 == 4) (Ok (measure x.0 (number_of x.1))) (refuse 13 at))

-- what a field says, by its tag
abbrev pub said_by : ℕ → Framed → Answer Said
said_by at f =
    cond (f.tag == 0x10) (and_then (name_in at f.content) (λ n. Ok (attribute n)))
    (cond (f.tag == 0x11) (and_then (name_in at f.content) (λ n. Ok (value n)))
    (cond (f.tag == 0x12) (and_then (cuts_in at f.content) (λ zs. Ok (cuts zs)))
    (cond (f.tag == 0x1F) (and_then (way_in at f.content) (λ b. Ok (way b)))
    (cond (f.tag == 0x20) (and_then (byte_in at f.content) (λ b. Ok (rule b)))
    (cond (f.tag == 0x21 || f.tag == 0x31) (choice_said at f.content)
    (cond (f.tag == 0x22) (range_said at f.content)
    (cond (f.tag == 0x32) (measure_said at f.content)
    (refuse 11 at))))))))
