-- A walk through a sheet answers what the rules of the sheet decide.
use Rattle.std.proofs.Common.{◌≡◌, ℕ, zero, suc, ◌+◌, ◌-◌, ◌<◌, Bool, true, false, cond, ◌&&◌, ◌||◌, eqb, ltb, leb, List, [], ◌∷◌, ◌++◌, map, length, get_or, take, drop, set, replicate, ℤ, Some, None, Ok, Err, Option, sym, refl, ap, ◌∙◌, ap₂, append-nil, arith}
use mathlib.Core.Bool.{or_assoc}
use Rattle.std.proofs.lemmas.Bool.{ltb-true}
use Rattle.refusal.specs.Answers.{Answer, refuse, and_then, given}
use Rattle.fields.specs.Fields.{Framed, framed, size_in, reading, limited, when, Said, attribute, value, cuts, way, rule, choice, range, measure, said_by}
use Rattle.algebra.specs.Tables.{Tables}
use Rattle.vocabulary.specs.Vocabulary.{Kind, Attribute, names_of, place}
use Rattle.vocabulary.specs.Lookup.{attribute_at, value_cell, cut_of}
use Rattle.policy.specs.Rules.{Rule, is_among, matches, deciding, first_of, sum_from, sum_of, only_of, combine, decides}
use Rattle.policy.specs.Sheets as sheet
use Rattle.policy.specs.Sheets.{cells_from, between, range_cells, choice_cells, adding, Progress, start, headed as whole, ruled, policy_of}
use Rattle.policy.specs.Walking.{Tally, no_tally, tallied, Seen, all_met, was_met, closed, Walked, begun, headed, judging, may_follow, enter_way, open_rule, enter_rule, noted, enter_condition, enter, step, settled, finish, walk_of, WalkDecides}
use Rattle.policy.proofs.Combined.{deciding_more}

-- ---- readers side by side
-- if one map takes each step of a reader to a step of another, it takes what the first reads to what the second reads, field by field
module _ {S R : Type 0} (from : ℕ → S → Framed → Answer S) (onto : ℕ → R → Framed → Answer R) (image : S → R)
    (each : (at : ℕ) (s : S) (f : Framed) → onto at (image s) f ≡ and_then (from at s f) (λ q. Ok (image q))) where
  pub read_alike : (bs : List ℕ) (at : ℕ) (s : S) (k : ℕ) → reading onto at (image s) k bs ≡ and_then (reading from at s k bs) (λ q. Ok (image q))
  read_alike [] at s zero = refl
  read_alike [] at s (suc k) = refl
  read_alike (b ∷ bs) at s (suc k) = read_alike bs (suc at) s k
  read_alike (b ∷ bs) at s zero =
      let f : Framed = framed b (take (size_in bs) (drop 2 bs)) in
      go (leb (2 + size_in bs) (length bs)) (onto at (image s) f) (from at s f) (each at s f) (λ q. read_alike bs (suc at) q (2 + size_in bs))
    where
      go : (fits : Bool) (r : Answer R) (a : Answer S) → r ≡ and_then a (λ q. Ok (image q))
          → ((q : S) → reading onto (suc at) (image q) (2 + size_in bs) bs ≡ and_then (reading from (suc at) q (2 + size_in bs) bs) (λ q. Ok (image q)))
          → cond fits (and_then r (λ x. reading onto (suc at) x (2 + size_in bs) bs)) (refuse 10 at)
          ≡ and_then (cond fits (and_then a (λ x. reading from (suc at) x (2 + size_in bs) bs)) (refuse 10 at)) (λ q. Ok (image q))
      go false r a e on = refl
      go true r (Ok q) e on = ap (λ z. and_then z (λ x. reading onto (suc at) x (2 + size_in bs) bs)) e ∙ on q
      go true r (Err t) e on = ap (λ z. and_then z (λ x. reading onto (suc at) x (2 + size_in bs) bs)) e

-- ---- what is known of the cells
-- of one attribute: nothing where no cell is named, else whether its cell is among those named
abbrev pub seen : List ℕ → ℕ → Option Bool
seen [] c = None
seen (d ∷ ds) c = Some (is_among c (d ∷ ds))

-- of each attribute
abbrev pub seen_all : List (List ℕ) → List ℕ → Seen
seen_all [] cells = []
seen_all (ds ∷ named) [] = []
seen_all (ds ∷ named) (c ∷ cells) = seen ds c ∷ seen_all named cells

-- no condition misses its cell exactly where the rule matches, attribute by attribute
pub met_is_matching : (named : List (List ℕ)) (cells : List ℕ) → all_met (seen_all named cells) ≡ matches named cells
met_is_matching [] cells = refl
met_is_matching (ds ∷ named) [] = refl
met_is_matching ([] ∷ named) (c ∷ cells) = met_is_matching named cells
met_is_matching ((d ∷ ds) ∷ named) (c ∷ cells) = ap (λ b. is_among c (d ∷ ds) && b) (met_is_matching named cells)

-- a cell is among two lists if it is among one of them, for the test goes through both
pub among_either : (c : ℕ) (xs ys : List ℕ) → is_among c (xs ++ ys) ≡ (is_among c xs || is_among c ys)
among_either c [] ys = refl
among_either c (x ∷ xs) ys = ap (λ b. eqb c x || b) (among_either c xs ys) ∙ sym (or_assoc (eqb c x) (is_among c xs) (is_among c ys))

-- cells named after others are met as well, for conditions on one attribute are alternatives
pub seen_more : (ds : List ℕ) (c e : ℕ) (es : List ℕ) → seen (ds ++ e ∷ es) c ≡ Some (was_met (seen ds c) || is_among c (e ∷ es))
seen_more [] c e es = refl
seen_more (d ∷ ds) c e es = ap Some (among_either c (d ∷ ds) (e ∷ es))

-- a condition changes what is known of its attribute alone; past the last one nothing changes
pub seen-noted : (named : List (List ℕ)) (cells : List ℕ) (i e : ℕ) (es : List ℕ)
    → seen_all (set named i (get_or named i [] ++ e ∷ es)) cells ≡ noted cells (seen_all named cells) i (e ∷ es)
seen-noted [] cells i e es = refl
seen-noted (ds ∷ named) [] zero e es = refl
seen-noted (ds ∷ named) [] (suc i) e es = refl
seen-noted (ds ∷ named) (c ∷ cells) zero e es = ap (λ o. o ∷ seen_all named cells) (seen_more ds c e es)
seen-noted (ds ∷ named) (c ∷ cells) (suc i) e es = ap (λ s. seen ds c ∷ s) (seen-noted named cells i e es)

-- nothing is known where no cell is named
pub seen_none : (n : ℕ) (cells : List ℕ) → length cells ≡ n → seen_all (replicate n []) cells ≡ replicate n None
seen_none zero cells e = refl
seen_none (suc n) [] e = absurd (omega arith)
seen_none (suc n) (c ∷ cells) e = ap (λ (s : Seen). None ∷ s) (seen_none n cells (omega arith))

-- ---- a condition names a cell
-- where cells are answered there is at least one
abbrev pub NamesSome : Option (List ℕ) → Type 0
NamesSome None = Unit {0}
NamesSome (Some []) = ⊥
NamesSome (Some (c ∷ cs)) = Unit {0}

-- a value has one cell
pub choice_names_some : (k : Kind) (w : List ℕ) → NamesSome (choice_cells k w)
choice_names_some k w = go (value_cell k w)
  where
    go : (o : Option ℕ) → NamesSome (elim o [ None ↦ None | Some c ↦ Some (c ∷ []) ])
    go None = tt
    go (Some c) = tt

-- a number of cells above 0 has a first
cells_some : (i n : ℕ) → 0 < n → NamesSome (Some (cells_from i n))
cells_some i zero h = absurd (omega arith)
cells_some i (suc n) h = tt

-- a range ends above where it begins, so it has a cell
pub range_names_some : (k : Kind) (x y : ℤ) → NamesSome (range_cells k x y)
range_names_some k x y = go (cut_of k x) (cut_of k y)
  where
    ways : (b : Bool) (i j : ℕ) → (b ≡ true → i < j) → NamesSome (when b (cells_from i (j - i)))
    ways false i j h = tt
    ways true i j h = let l = h refl in cells_some i (j - i) (omega arith)

    go : (o p : Option ℕ) → NamesSome (between o p)
    go None p = tt
    go (Some i) None = tt
    go (Some i) (Some j) = ways (ltb i j) i j (ltb-true i j)

-- ---- tallies
-- decisions combined one after the other
abbrev pub tally_by : (Tally → ℕ → ℕ) → Tally → List ℕ → Tally
tally_by more y [] = y
tally_by more y (d ∷ ds) = tally_by more (record { none = false; value = more y d }) ds

abbrev pub tally_of : Tables → ℕ → List ℕ → Tally
tally_of t w ds = tally_by (tallied t w) no_tally ds

-- one decision more is combined last
pub tally_more : (more : Tally → ℕ → ℕ) (y : Tally) (ds : List ℕ) (d : ℕ) → tally_by more y (ds ++ d ∷ []) ≡ record { none = false; value = more (tally_by more y ds) d }
tally_more more y [] d = refl
tally_more more y (e ∷ ds) d = tally_more more (record { none = false; value = more y e }) ds d

-- a rule that ends adds its decision to the tally if it matches
pub tally-closed : (t : Tables) (w : ℕ) (cells : List ℕ) (rules : List Rule) (r : Rule)
    → closed t w (tally_of t w (deciding rules cells)) r.decision (seen_all r.named cells) ≡ tally_of t w (deciding (rules ++ r ∷ []) cells)
tally-closed t w cells rules r =
    let y : Tally = tally_of t w (deciding rules cells) in
    ap (λ b. cond b (record { none = false; value = tallied t w y r.decision }) y) (met_is_matching r.named cells)
    ∙ sym (last (matches r.named cells))
    ∙ sym (ap (tally_of t w) (deciding_more rules r cells))
  where
    last : (b : Bool) → tally_of t w (deciding rules cells ++ cond b (r.decision ∷ []) [])
        ≡ cond b (record { none = false; value = tallied t w (tally_of t w (deciding rules cells)) r.decision }) (tally_of t w (deciding rules cells))
    last true = tally_more (tallied t w) no_tally (deciding rules cells) r.decision
    last false = ap (tally_of t w) (append-nil (deciding rules cells))

-- a tally that has a value
abbrev some : ℕ → Tally
some x = record { none = false; value = x }

-- the first stays, whatever follows
first_stays : (x : ℕ) (ds : List ℕ) → (tally_by (λ y d. cond y.none d y.value) (some x) ds).value ≡ x
first_stays x [] = refl
first_stays x (d ∷ ds) = first_stays x ds

-- so the first decision is the value, and 0 if there is none
tally_first : (ds : List ℕ) → (tally_by (λ y d. cond y.none d y.value) no_tally ds).value ≡ first_of ds
tally_first [] = refl
tally_first (d ∷ ds) = first_stays d ds

-- a sum goes on, grouped to the left
sum_goes_on : (sum : ℕ → ℕ → ℕ) (x : ℕ) (ds : List ℕ) → (tally_by (λ y d. cond y.none d (sum y.value d)) (some x) ds).value ≡ sum_from sum x ds
sum_goes_on sum x [] = refl
sum_goes_on sum x (d ∷ ds) = sum_goes_on sum (sum x d) ds

-- so the value is the sum, from the first decision on
tally-sum : (sum : ℕ → ℕ → ℕ) (ds : List ℕ) → (tally_by (λ y d. cond y.none d (sum y.value d)) no_tally ds).value ≡ sum_of sum ds
tally-sum sum [] = refl
tally-sum sum (d ∷ ds) = sum_goes_on sum d ds

-- after a second decision the value is 0 for good
nothing_stays : (ds : List ℕ) → (tally_by (λ y d. cond y.none d 0) (some 0) ds).value ≡ 0
nothing_stays [] = refl
nothing_stays (d ∷ ds) = nothing_stays ds

-- so the value is the only decision, as long as there is one only
tally_only : (ds : List ℕ) → (tally_by (λ y d. cond y.none d 0) no_tally ds).value ≡ only_of ds
tally_only [] = refl
tally_only (d ∷ []) = refl
tally_only (d ∷ e ∷ ds) = nothing_stays ds

-- a sum of negations goes on as a sum of the negated decisions
negated_goes_on : (sum : ℕ → ℕ → ℕ) (not : ℕ → ℕ) (x : ℕ) (ds : List ℕ)
    → (tally_by (λ y d. cond y.none (not d) (sum y.value (not d))) (some x) ds).value ≡ sum_from sum x (map not ds)
negated_goes_on sum not x [] = refl
negated_goes_on sum not x (d ∷ ds) = negated_goes_on sum not (sum x (not d)) ds

-- so the value is the sum of the negations, from the first on
tally_negated : (sum : ℕ → ℕ → ℕ) (not : ℕ → ℕ) (ds : List ℕ)
    → (tally_by (λ y d. cond y.none (not d) (sum y.value (not d))) no_tally ds).value ≡ sum_of sum (map not ds)
tally_negated sum not [] = refl
tally_negated sum not (d ∷ ds) = negated_goes_on sum not (not d) ds

-- a settled tally is what the way makes of the decisions, way by way
pub settled_is_combined : (t : Tables) (w : ℕ) (ds : List ℕ) → settled t w (tally_of t w ds) ≡ combine t w ds
settled_is_combined t w ds = go (eqb w 1) (eqb w 2) (eqb w 3)
  where
    more : Bool → Bool → Bool → Tally → ℕ → ℕ
    more a b c y d =
        cond a (cond y.none d y.value)
        (cond b (cond y.none d (t.sum y.value d))
        (cond c (cond y.none d 0)
        (cond y.none (t.negation d) (t.sum y.value (t.negation d)))))

    go : (a b c : Bool)
        → cond a (tally_by (more a b c) no_tally ds).value (cond b (tally_by (more a b c) no_tally ds).value (cond c (tally_by (more a b c) no_tally ds).value (t.negation (tally_by (more a b c) no_tally ds).value)))
        ≡ cond a (first_of ds) (cond b (sum_of t.sum ds) (cond c (only_of ds) (t.negation (sum_of t.sum (map t.negation ds)))))
    go true b c = tally_first ds
    go false true c = tally-sum t.sum ds
    go false false true = tally_only ds
    go false false false = ap t.negation (tally_negated t.sum t.negation ds)

-- ---- the walk beside the reader
-- what a walk keeps of what has been read
abbrev pub kept_of : Tables → List ℕ → Progress → Walked
kept_of t cells start = begun
kept_of t cells (whole w) = headed w
kept_of t cells (ruled w rules r) = judging w (tally_of t w (deciding rules cells)) r.decision (seen_all r.named cells)

module _ (t : Tables) (v : List Attribute) (cells : List ℕ) (fits : length cells ≡ length v) where
  abbrev Kept : Progress → Answer Walked
  Kept q = Ok (kept_of t cells q)

  -- a way comes first in both
  way_kept : (at : ℕ) (p : Progress) (w : ℕ) → enter_way at (kept_of t cells p) w ≡ and_then (sheet.enter_way at p w) Kept
  way_kept at start w = refl
  way_kept at (whole x) w = refl
  way_kept at (ruled x rules r) w = refl

  -- a rule that begins has named no cell, so nothing is known of its cells
  rule_opened : (at w : ℕ) (y : Tally) (rules : List Rule) (d : ℕ) → y ≡ tally_of t w (deciding rules cells)
      → open_rule (length v) t.size at w y d ≡ and_then (sheet.open_rule v t.size at w rules d) Kept
  rule_opened at w y rules d e = go (leb 1 d && ltb d t.size)
    where
      go : (b : Bool) → cond b (Ok (judging w y d (replicate (length v) None))) (refuse 13 at)
          ≡ and_then (cond b (Ok (ruled w rules (record { decision = d; named = replicate (length v) [] }))) (refuse 13 at)) Kept
      go false = refl
      go true = ap₂ (λ (x : Tally) (s : Seen). Ok (judging w x d s)) e (sym (seen_none (length v) cells fits))

  -- the rule before it counts if it matches
  rule_kept : (at : ℕ) (p : Progress) (d : ℕ) → enter_rule t (length v) at (kept_of t cells p) d ≡ and_then (sheet.enter_rule v t.size at p d) Kept
  rule_kept at start d = refl
  rule_kept at (whole w) d = rule_opened at w no_tally [] d refl
  rule_kept at (ruled w rules r) d = rule_opened at w (closed t w (tally_of t w (deciding rules cells)) r.decision (seen_all r.named cells)) (rules ++ r ∷ []) d (tally-closed t w cells rules r)

  -- a condition that names a cell is noted as it is added
  condition_kept : (at : ℕ) (p : Progress) (a : List ℕ) (named : Kind → Option (List ℕ)) → ((k : Kind) → NamesSome (named k))
      → enter_condition v cells at (kept_of t cells p) a named ≡ and_then (sheet.enter_condition v at p a named) Kept
  condition_kept at start a named h = refl
  condition_kept at (whole w) a named h = refl
  condition_kept at (ruled w rules r) a named h = go (place a (names_of v))
    where
      add : (i : ℕ) (o : Option (List ℕ)) → NamesSome o
          → given o 24 at (λ cs. Ok (judging w (tally_of t w (deciding rules cells)) r.decision (noted cells (seen_all r.named cells) i cs)))
          ≡ and_then (given o 24 at (λ cs. Ok (ruled w rules (adding r i cs)))) Kept
      add i None n = refl
      add i (Some []) n = absurd n
      add i (Some (c ∷ cs)) n = ap (λ (s : Seen). Ok (judging w (tally_of t w (deciding rules cells)) r.decision s)) (sym (seen-noted r.named cells i c cs))

      go : (o : Option ℕ)
          → given o 23 at (λ i. given (named (attribute_at v i).kind) 24 at (λ cs. Ok (judging w (tally_of t w (deciding rules cells)) r.decision (noted cells (seen_all r.named cells) i cs))))
          ≡ and_then (given o 23 at (λ i. given (named (attribute_at v i).kind) 24 at (λ cs. Ok (ruled w rules (adding r i cs))))) Kept
      go None = refl
      go (Some i) = add i (named (attribute_at v i).kind) (h (attribute_at v i).kind)

  -- whatever a field says is entered alike: a way, a rule and a condition as above, and all else is refused by both
  said_kept : (at : ℕ) (p : Progress) (s : Said) → enter t v cells at (kept_of t cells p) s ≡ and_then (sheet.enter v t.size at p s) Kept
  said_kept at p (way w) = way_kept at p w
  said_kept at p (rule d) = rule_kept at p d
  said_kept at p (choice a w) = condition_kept at p a (λ k. choice_cells k w) (λ k. choice_names_some k w)
  said_kept at p (range a x y) = condition_kept at p a (λ k. range_cells k x y) (λ k. range_names_some k x y)
  said_kept at p (attribute n) = refl
  said_kept at p (value w) = refl
  said_kept at p (cuts zs) = refl
  said_kept at p (measure a x) = refl

  -- the same tags may follow, for they depend on how far the reader is, which the walk keeps
  follows_kept : (p : Progress) (tag : ℕ) → may_follow (kept_of t cells p) tag ≡ sheet.may_follow p tag
  follows_kept start tag = refl
  follows_kept (whole w) tag = refl
  follows_kept (ruled w rules r) tag = refl

  -- one field takes the walk to what it keeps of what the reader has then read
  pub step_kept : (at : ℕ) (p : Progress) (f : Framed) → step t v cells at (kept_of t cells p) f ≡ and_then (sheet.step v t.size at p f) (λ q. Ok (kept_of t cells q))
  step_kept at p f =
      ap (λ b. cond b (and_then (said_by at f) (enter t v cells at (kept_of t cells p))) (refuse 11 at)) (follows_kept p f.tag)
      ∙ go (sheet.may_follow p f.tag) (said_by at f)
    where
      go : (b : Bool) (a : Answer Said)
          → cond b (and_then a (enter t v cells at (kept_of t cells p))) (refuse 11 at) ≡ and_then (cond b (and_then a (sheet.enter v t.size at p)) (refuse 11 at)) Kept
      go false a = refl
      go true (Ok s) = said_kept at p s
      go true (Err e) = refl

  -- at the end the last rule counts if it matches, and the tally is settled
  pub finish_kept : (at : ℕ) (p : Progress) → finish t at (kept_of t cells p) ≡ and_then (sheet.finish at p) (λ x. Ok (decides t x.0 x.1 cells))
  finish_kept at start = refl
  finish_kept at (whole w) = ap Ok (settled_is_combined t w [])
  finish_kept at (ruled w rules r) =
      ap (λ y. Ok (settled t w y)) (tally-closed t w cells rules r) ∙ ap Ok (settled_is_combined t w (deciding (rules ++ r ∷ []) cells))

  -- field by field the walk keeps what it needs of what is read, and both end alike
  pub walk_answers : (bs : List ℕ) → walk_of t v cells bs ≡ and_then (policy_of v t.size bs) (λ x. Ok (decides t x.0 x.1 cells))
  walk_answers bs =
      ap (λ a. limited bs (and_then a (finish t (length bs)))) (read_alike (sheet.step v t.size) (step t v cells) (kept_of t cells) step_kept bs 0 start 0)
      ∙ go (leb (length bs) 65535) (reading (sheet.step v t.size) 0 start 0 bs)
    where
      go : (b : Bool) (a : Answer Progress)
          → cond b (and_then (and_then a Kept) (finish t (length bs))) (refuse 14 0)
          ≡ and_then (cond b (and_then a (sheet.finish (length bs))) (refuse 14 0)) (λ x. Ok (decides t x.0 x.1 cells))
      go false a = refl
      go true (Ok p) = finish_kept (length bs) p
      go true (Err e) = refl

-- none of the ways needs that 0 negated is 0: without a decision both sides negate 0 in the fourth
pub walk-decides : WalkDecides
walk-decides t v cells bs fits = walk_answers t v cells fits bs
