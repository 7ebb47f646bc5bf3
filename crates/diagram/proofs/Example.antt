-- The worked records are sound.
use Rattle.std.proofs.Common.{◌≡◌, ℕ, zero, suc, ◌<◌, ◌≤◌, ◌≢◌, get_or, replicate, refl, arith}
use Rattle.std.proofs.lemmas.Bool.{ltb-true}
use Rattle.pages.specs.Worked.{shape}
use Rattle.diagram.specs.declared.Link.{Link}
use Rattle.diagram.specs.declared.Link.TheVariants.{Decision, Record}
use Rattle.diagram.specs.Diagram.{node, link}
use Rattle.vocabulary.specs.Grid.{Filled}
use Rattle.diagram.specs.Sound.{Fit, Proper, Alike}
use Rattle.diagram.specs.Worked.{in_two_cells, records, Both, WorkedDiagram}

-- a list of one element has just that at every place, if it is the default too
same_everywhere : (l : Link) (n c : ℕ) → get_or (replicate n l) c l ≡ l
same_everywhere l zero c = refl
same_everywhere l (suc n) zero = refl
same_everywhere l (suc n) (suc c) = same_everywhere l n c

-- each attribute has two cells
filled : Filled shape
filled zero h = omega arith
filled (suc zero) h = omega arith
filled (suc (suc zero)) h = omega arith
filled (suc (suc (suc j))) h = absurd (omega arith)

-- a record that branches in two cells is proper where its two links may stand one level on and differ
two_cells : (j : ℕ) (a b : Link) → j < 3 → get_or shape j 0 ≡ 2 → Fit 3 records Both (suc j) a → Fit 3 records Both (suc j) b → b ≢ a → Proper 3 shape records Both (in_two_cells j a b)
two_cells j a b inside two fa fb differ =
    record {
      at_an_attribute = inside;
      branches_lead_on = λ c h. onward c (omega arith);
      two_branches_differ = (1, omega arith, differ);
      others_are_blank = λ c h. blank_past c (omega arith);
    }
  where
    onward : (c : ℕ) → c < 2 → Fit 3 records Both (suc j) (link (in_two_cells j a b) c)
    onward zero h = fa
    onward (suc zero) h = fb
    onward (suc (suc c)) h = absurd (omega arith)

    blank_past : (c : ℕ) → 2 ≤ c → link (in_two_cells j a b) c ≡ Decision 0
    blank_past zero h = absurd (omega arith)
    blank_past (suc zero) h = absurd (omega arith)
    blank_past (suc (suc c)) h = same_everywhere (Decision 0) 14 c

-- record 0 branches by what is done, record 1 by the role
proper : (r : ℕ) → Both r → Proper 3 shape records Both (node records r)
proper zero v = two_cells 1 (Decision 0) (Decision 2) (omega arith) refl (omega arith) (omega arith) (λ e. let z : ◌≡◌ {A = ℕ} 0 2 = cc in omega arith)
proper (suc zero) v = two_cells 0 (Record 0) (Decision 1) (omega arith) refl (refl, omega arith) (omega arith) (λ e. let z : ◌≡◌ {A = ℕ} 0 1 = cc in omega arith)
proper (suc (suc r)) v = let h = ltb-true (suc (suc r)) 2 v in absurd (omega arith)

-- they differ in level
unlike : (r s : ℕ) → Both r → Both s → Alike (node records r) (node records s) → r ≡ s
unlike zero zero u v h = refl
unlike (suc zero) (suc zero) u v h = refl
unlike zero (suc zero) u v h = let e = h.0 in absurd (omega arith)
unlike (suc zero) zero u v h = let e = h.0 in absurd (omega arith)
unlike (suc (suc r)) s u v h = let h = ltb-true (suc (suc r)) 2 u in absurd (omega arith)
unlike zero (suc (suc s)) u v h = let h = ltb-true (suc (suc s)) 2 v in absurd (omega arith)
unlike (suc zero) (suc (suc s)) u v h = let h = ltb-true (suc (suc s)) 2 v in absurd (omega arith)

-- the rest is computed
pub worked : WorkedDiagram
worked =
    record {
      each_attribute_has_cells = filled;
      both_are_sound = record { in_memory = λ r v. ltb-true r 2 v; each_is_proper = proper; none_is_there_twice = unlike };
      root_may_stand = (refl, omega arith);
      root_denotes_the_page = refl;
      both_are_met = refl;
      writing_at_home_is_denied = refl;
    }
