-- How many items a short list has.
use Rattle.std.proofs.Common.{ℕ, ◌≤◌, length, arith}
use Rattle.std.proofs.lemmas.List.{length-take}
use Rattle.short_list.specs.declared.ShortList.{ShortList}
use Rattle.short_list.specs.Items.{items_of}

-- no more than it has places, for they stand in the places
pub few_items : {T : Type 0} {n : ℕ} (l : ShortList T n) → length (items_of l) ≤ n
few_items l = let f = l.few in omega (arith, length-take l.len l.items)
