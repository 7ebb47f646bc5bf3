-- How much is left to do for a building walk, whatever node memory holds.
use Rattle.std.specs.Prelude.{ℕ, suc, ◌+◌, ◌-◌, ◌*◌, List, [], ◌∷◌, reverse, drop, slice_index}
use Rattle.stack.specs.Entries.{entries}
use Rattle.building.specs.declared.Frame.{Frame}
use Rattle.building.specs.declared.Turn.{Turn}
use Rattle.building.specs.declared.Turn.TheVariants.{Open, Hand, End}

-- the frames on the stack, the newest first
abbrev pub frames : {T : Type 0} → List T → ℕ → List T
frames slots len = reverse (entries slots len)

-- a bound of the turns that opening a place takes, by the counts of the attributes that are left
abbrev pub opening_work : List ℕ → ℕ
opening_work [] = 2
opening_work (n ∷ ns) = 3 + suc n * opening_work ns

-- a bound of the turns that the frames take for their other cells
abbrev pub waiting_work : {Place : Type 0} → List ℕ → List (Frame Place) → ℕ
waiting_work shape [] = 0
waiting_work shape (f ∷ fs) = (slice_index shape f.level - suc f.cell) * opening_work (drop (suc f.level) shape) + 1 + waiting_work shape fs

-- a bound of the turns from a turn on
abbrev pub work_left : {Place : Type 0} → List ℕ → List (Frame Place) → Turn Place → ℕ
work_left shape fs (Open j p) = opening_work (drop j shape) + waiting_work shape fs
work_left shape fs (Hand l) = 1 + waiting_work shape fs
work_left shape fs (End r) = 0
