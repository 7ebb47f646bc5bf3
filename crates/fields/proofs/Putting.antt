-- Writing one run of bytes after the other.
use Rattle.std.proofs.Common.{◌≡◌, ℕ, ◌+◌, ◌-◌, ◌/◌, ◌%◌, ◌≤◌, List, [], ◌∷◌, ◌++◌, length, take, drop, sym, refl, ap, ◌∙◌, ap₂, append_assoc, arith, length-append}
use borrow.Rule.Slice.PartMut.{put_mid}
use lib.Seq.{paste}
use Rattle.std.proofs.lemmas.List.{take-append-drop}
use Rattle.std.proofs.lemmas.Slice.{put_mid-paste}
use Rattle.std.proofs.lemmas.List.Edits.{paste_all, paste-paste}
use Rattle.fields.specs.Fields.{framed, field_bytes}
use Rattle.fields.specs.Written.{written}

module _ (out : List ℕ) (at : ℕ) where
  -- a part of memory that holds the bytes now is the bytes written there
  pub part-written : (part bytes : List ℕ) → part ≡ bytes → put_mid at (at + length bytes - at) out part ≡ written out at bytes
  part-written part bytes e =
      let n : length bytes ≡ at + length bytes - at = omega arith in
      put_mid-paste at (at + length bytes - at) out part bytes (length bytes) e n refl ∙ paste_all out at bytes (length bytes) refl

  -- nothing written leaves memory as it was, for what stands before and after is all
  pub written_none : written out at [] ≡ out
  written_none = ap (λ n. take at out ++ drop n out) (omega arith) ∙ take-append-drop at out

  -- what is written right after a run makes the run longer, for the second writing leaves the first
  pub written_on : (s t : List ℕ) → at ≤ length out → written (written out at s) (at + length s) t ≡ written out at (s ++ t)
  written_on s t h =
      ap (λ o. written o (at + length s) t) (sym (paste_all out at s (length s) refl))
      ∙ sym (paste_all (paste out at s (length s)) (at + length s) t (length t) refl)
      ∙ paste-paste out at s t (length s) (length t) refl refl h
      ∙ paste_all out at (s ++ t) (length s + length t) (sym (length-append s t))
      ∙ ap (λ n. take at out ++ ((s ++ t) ++ drop (at + n) out)) (sym (length-append s t))

  -- the same for memory o after s and p after t
  pub then_written : (o p s t : List ℕ) (n : ℕ) → at ≤ length out → o ≡ written out at s → n ≡ at + length s → p ≡ written o n t → p ≡ written out at (s ++ t)
  then_written o p s t n h e l d = d ∙ ap₂ (λ q m. written q m t) e l ∙ written_on s t h

-- tag and length, name, sign and what is given make up the field, for the length is that of the content
pub field_whole : (tag n : ℕ) (name given : List ℕ) → n ≡ length name + 1 + length given
    → (((tag ∷ (n / 256) ∷ (n % 256) ∷ []) ++ name) ++ 0x3D ∷ []) ++ given ≡ field_bytes (framed tag (name ++ 0x3D ∷ given))
field_whole tag n name given e =
    let c : List ℕ = name ++ 0x3D ∷ given in
    let l : n ≡ length c = simp length-append (omega arith) in
    ap (λ r. tag ∷ (n / 256) ∷ (n % 256) ∷ r) (append_assoc name (0x3D ∷ []) given) ∙ ap (λ (m : ℕ). tag ∷ (m / 256) ∷ (m % 256) ∷ c) l
