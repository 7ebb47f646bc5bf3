use Rattle.std.proofs.Common.{◌≡◌, ◌+◌, ◌++◌, reverse, length, take}
use Rattle.stack.proofs.reverse_by_stack.Given as goal

-- the items so far are the entries
abbrev pub invariant-loop-x : goal.invariant-loop-x
invariant-loop-x g l =
    (l.stack.len ≡ l.x-index) × (take l.stack.len l.stack.slots.now ≡ take l.x-index l.x-items) × (length l.stack.slots.now ≡ length l.initial.stack.slots.now) × (l.stack.slots.ghost_name ≡ l.initial.stack.slots.ghost_name)

-- what was written, and then the entries from the newest on, is what the entries were, from the newest on
abbrev pub invariant-loop-item : goal.invariant-loop-item
invariant-loop-item g l =
    (l.item-index + l.stack.len ≡ length l.initial.items) × (l.stack.slots.now ≡ l.initial.stack.slots.now) × (l.stack.slots.ghost_name ≡ l.initial.stack.slots.ghost_name) × (take l.item-index l.items ++ reverse (take l.stack.len l.stack.slots.now) ≡ reverse (take l.initial.stack.len l.initial.stack.slots.now))
