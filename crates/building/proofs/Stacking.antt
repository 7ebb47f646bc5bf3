-- The frames on a stack, the newest first.
use Rattle.std.proofs.Common.{◌≡◌, ℕ, ◌+◌, ◌≤◌, List, [], ◌∷◌, reverse, length, take, sym, refl, ap, ◌∙◌, add-one, length-append, length-take-le}
use mathlib.Core.List.{reverse-append}
use Rattle.stack.specs.Entries.{with_newest, Newest}
use Rattle.building.specs.Work.{frames}

-- the newest entry is the first frame
pub frames_onto : {T : Type 0} (older after : List T) (x : T) → after ≡ with_newest older x → reverse after ≡ x ∷ reverse older
frames_onto older after x e = ap reverse e ∙ reverse-append older (x ∷ [])

-- so the entry that was popped stood before the frames that are left
pub frames_popped : {T : Type 0} (slots slots' : List T) (len left : ℕ) (x : T) → Newest slots len x left → slots' ≡ slots → frames slots len ≡ x ∷ frames slots' left
frames_popped slots slots' len left x newest same = frames_onto _ _ x newest.x_is_newest ∙ ap (λ s. x ∷ frames s left) (sym same)

length_turned : {T : Type 0} (xs : List T) → length (reverse xs) ≡ length xs
length_turned [] = refl
length_turned (x ∷ xs) = ap length (reverse-append (x ∷ []) xs) ∙ length-append (reverse xs) (x ∷ []) ∙ ap (λ (n : ℕ). n + 1) (length_turned xs) ∙ add-one (length xs)

-- there are as many frames as entries
pub frames-length : {T : Type 0} (slots : List T) (n : ℕ) → n ≤ length slots → length (frames slots n) ≡ n
frames-length slots n h = length_turned (take n slots) ∙ length-take-le n slots h
