-- What a stack holds, and what a push and a pop do to it.
use Rattle.std.specs.Prelude.{◌≡◌, ℕ, ◌+◌, ◌<◌, ◌≤◌, List, [], ◌∷◌, ◌++◌, reverse, length, take, slice_set}

-- the entries are the first slots, the newest last
abbrev pub entries : {T : Type 0} → List T → ℕ → List T
entries slots len = take len slots

-- the list with one more entry, the newest
abbrev pub with_newest : {T : Type 0} → List T → T → List T
with_newest older x = older ++ (x ∷ [])

-- x was pushed: there was room, and only the slot past the entries is written
pub record Pushed {T : Type 0} (slots : List T) (len : ℕ) (x : T) (slots_after : List T) (len_after : ℕ) : Type 0 where
  pub there_was_room : len < length slots
  pub one_entry_more : len_after ≡ len + 1
  pub one_slot_written : slots_after ≡ slice_set slots len x
  pub x_is_newest : entries slots_after len_after ≡ with_newest (entries slots len) x

-- nothing was pushed: every slot holds an entry, and all stays
pub record Refused {T : Type 0} (slots : List T) (len : ℕ) (slots_after : List T) (len_after : ℕ) : Type 0 where
  pub was_full : len ≡ length slots
  pub len_kept : len_after ≡ len
  pub slots_kept : slots_after ≡ slots

-- x is the newest of the entries, and so many are older
pub record Newest {T : Type 0} (slots : List T) (len : ℕ) (x : T) (older : ℕ) : Type 0 where
  pub all_others_are_older : older + 1 ≡ len
  pub x_is_newest : entries slots len ≡ with_newest (entries slots older) x

-- nothing was popped: there was no entry, and there is none
pub record Empty (len len_after : ℕ) : Type 0 where
  pub was_empty : len ≡ 0
  pub stays_empty : len_after ≡ 0

-- every item had a slot, where it is left, and the items stand in reverse
pub record Reversed {T : Type 0} (slots slots_after items items_after : List T) : Type 0 where
  pub slots_suffice : length items ≤ length slots
  pub slots_hold_the_items : take (length items) slots_after ≡ items
  pub last_comes_first : items_after ≡ reverse items

-- there are fewer slots than items, and the items stay
pub record TooFewSlots {T : Type 0} (slots items items_after : List T) : Type 0 where
  pub slots_do_not_suffice : length slots < length items
  pub items_kept : items_after ≡ items
