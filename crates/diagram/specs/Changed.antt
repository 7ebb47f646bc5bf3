-- What stays of a sound set of records when node memory or the set changes.
use Rattle.std.specs.Prelude.{◌≡◌, ℕ, ◌<◌, ◌≤◌, Bool, true, false, ◌⊎◌, List, length, drop, slice_set}
use Rattle.std.specs.List.{AllByRecursion}
use Rattle.diagram.specs.declared.Node.{Node}
use Rattle.diagram.specs.declared.Link.{Link}
use Rattle.diagram.specs.Diagram.{node, page, met, part}
use Rattle.diagram.specs.Sound.{Fit, Proper, Alike, Sound, OfEverySoundSet, Agree, Met}

-- with nothing live, any node memory is sound
abbrev pub NothingLiveIsSound : Type 0
NothingLiveIsSound = (k : ℕ) (shape : List ℕ) (nodes : List Node) (live : ℕ → Bool) → ((r : ℕ) → live r ≡ false) → Sound k shape nodes (λ r. live r ≡ true)

-- in another memory the set is still sound, and its links and records mean what they meant
pub record StaysIn (nodes' : List Node) (k : ℕ) (shape : List ℕ) (nodes : List Node) (Live : ℕ → Type 0) : Type 0 where
  pub still_sound : Sound k shape nodes' Live
  pub links_still_fit : (j : ℕ) (l : Link) → Fit k nodes Live j l → Fit k nodes' Live j l
  pub pages_are_kept : (j : ℕ) (l : Link) → Fit k nodes Live j l → page nodes' j (drop j shape) l ≡ page nodes j (drop j shape) l
  pub same_records_are_met : (j : ℕ) (l : Link) → Fit k nodes Live j l → met nodes' j (drop j shape) l ≡ met nodes j (drop j shape) l
  pub parts_are_kept : (r : ℕ) → Live r → part nodes' shape r ≡ part nodes shape r

-- a sound set stays in every memory, not shorter, that has the same in the live records
abbrev pub MemoryThatAgreesServes : Type 0
MemoryThatAgreesServes =
    OfEverySoundSet λ k shape nodes Live. (nodes' : List Node) → Agree Live nodes nodes' → length nodes ≤ length nodes' → StaysIn nodes' k shape nodes Live

-- so it stays when a record is written that is not live
abbrev pub OtherRecordsMayBeWritten : Type 0
OtherRecordsMayBeWritten = OfEverySoundSet λ k shape nodes Live. (r : ℕ) (x : Node) → (Live r → ⊥) → StaysIn (slice_set nodes r x) k shape nodes Live

-- what is met from roots is live and sound by itself, and the roots may stand on it
pub record ReachedFrom (roots : List Link) (k : ℕ) (shape : List ℕ) (nodes : List Node) (Live : ℕ → Type 0) : Type 0 where
  pub only_live_records : (r : ℕ) → Met nodes shape roots r → Live r
  pub sound_by_itself : Sound k shape nodes (Met nodes shape roots)
  pub roots_stand_on_it : AllByRecursion (Fit k nodes (Met nodes shape roots) 0) roots

-- so roots may go, and what the others reach is sound
abbrev pub WhatRootsReachIsSound : Type 0
WhatRootsReachIsSound =
    OfEverySoundSet λ k shape nodes Live. (roots : List Link) → AllByRecursion (Fit k nodes Live 0) roots → ReachedFrom roots k shape nodes Live

-- a proper record that is like no live one may be put in the place of one that is not live, and be live
abbrev pub OneMoreRecordIsSound : Type 0
OneMoreRecordIsSound =
    OfEverySoundSet λ k shape nodes Live.
    (r : ℕ) (x : Node) (more : ℕ → Bool) → r < length nodes → (Live r → ⊥) → Proper k shape nodes Live x → ((s : ℕ) → Live s → Alike (node nodes s) x → ⊥)
    → ((s : ℕ) → Live s → more s ≡ true) → ((s : ℕ) → more s ≡ true → Live s ⊎ (s ≡ r)) → Sound k shape (slice_set nodes r x) (λ s. more s ≡ true)
