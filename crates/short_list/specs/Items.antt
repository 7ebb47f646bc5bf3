-- What a short list holds.
use Rattle.std.specs.Prelude.{◌≡◌, ℕ, ◌<◌, List, [], ◌∷◌, ◌++◌, length, take, Ok, Err, Result}
use Rattle.short_list.specs.declared.ShortList.{ShortList}
use Rattle.short_list.specs.declared.Full.{Full}

-- the items, in order
abbrev pub items_of : {T : Type 0} {n : ℕ} → ShortList T n → List T
items_of l = take l.len l.items

-- an item was added at the end, or there is one in each place and the list is as it was
abbrev pub Added : {T : Type 0} {n : ℕ} → ShortList T n → T → Result (Unit {0}) Full → ShortList T n → Type 0
Added {T} {n} before x (Ok u) after = (length (items_of before) < n) × (items_of after ≡ items_of before ++ x ∷ [])
Added {T} {n} before x (Err e) after = (length (items_of before) ≡ n) × (after ≡ before)
