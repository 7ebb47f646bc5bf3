-- What a policy sheet means is lawful: its decisions are codes.
use Rattle.std.proofs.Common.{◌≡◌, ℕ, ◌<◌, Bool, true, false, cond, ◌&&◌, ltb, leb, List, [], ◌∷◌, ◌++◌, length, Ok, Err, Option, refl, subst, arith}
use Rattle.std.specs.List.{AllByRecursion}
use Rattle.std.proofs.ByRecursion.{All-push}
use Rattle.std.proofs.lemmas.Bool.{cond-false}
use Rattle.std.proofs.lemmas.Bool.Decides.{nat_tests}
use Rattle.refusal.specs.Answers.{Answer, refuse, and_then, given}
use Rattle.fields.specs.Fields.{Framed, reading, Said, attribute, value, cuts, way, rule, choice, range, measure, said_by}
use Rattle.fields.proofs.Answering.{not_both, same_value, and_then_value, given_value, either_way}
use Rattle.fields.proofs.Reading.{kept}
use Rattle.algebra.specs.Tables.{Tables}
use Rattle.algebra.specs.Laws.{ShortCutLaws}
use Rattle.algebra.specs.Truncated as truncated
use Rattle.vocabulary.specs.Grid.{grid, cells_at}
use Rattle.vocabulary.specs.Vocabulary.{Kind, Attribute, shape_of, names_of, place}
use Rattle.vocabulary.specs.Lookup.{attribute_at}
use Rattle.policy.specs.Meaning.{Lawful}
use Rattle.policy.specs.Rules.{Rule}
use Rattle.policy.specs.Sheets.{Progress, start, headed, ruled, adding, may_follow, open_rule, enter_rule, add_condition, enter_condition, enter_way, enter, step, finish, policy_of, choice_cells, range_cells, decided_at, sheet_meaning}
use Rattle.policy.proofs.Combined.{decided-below}

-- the rule decides a code
abbrev Below : ℕ → Rule → Type 0
Below k r = r.decision < k

-- so do all rules that are read so far
abbrev AllCodes : ℕ → Progress → Type 0
AllCodes k start = Unit {0}
AllCodes k (headed w) = Unit {0}
AllCodes k (ruled w rules r) = AllByRecursion (Below k) rules × Below k r

module _ (v : List Attribute) (k : ℕ) where
  -- a rule that is opened decides a code, for others are refused
  opened : (at w : ℕ) (rules : List Rule) (d : ℕ) (q : Progress) → AllByRecursion (Below k) rules → open_rule v k at w rules d ≡ Ok q → AllCodes k q
  opened at w rules d q a e =
      either_way (leb 1 d && ltb d k) _ (refuse 13 at) (Ok q) (AllCodes k q) e
      (λ t f. let below : d < k = grind (arith, nat_tests) in subst (AllCodes k) (same_value _ q f) (a, below))
      (λ t f. absurd (not_both _ q f))

  -- a condition leaves the decision as it is
  conditioned : (at w : ℕ) (rules : List Rule) (r : Rule) (a : List ℕ) (cells : Kind → Option (List ℕ)) (q : Progress) → AllByRecursion (Below k) rules → Below k r → add_condition v at w rules r a cells ≡ Ok q → AllCodes k q
  conditioned at w rules r a cells q all b e =
      let x = given_value (place a (names_of v)) 23 at (λ i. given (cells (attribute_at v i).kind) 24 at (λ cs. Ok (ruled w rules (adding r i cs)))) q e in
      let y = given_value (cells (attribute_at v x.0).kind) 24 at (λ cs. Ok (ruled w rules (adding r x.0 cs))) q x.2 in
      subst (AllCodes k) (same_value _ q y.2) (all, b)

  -- a field that may follow is a way, a rule or a condition
  way_entered : (at : ℕ) (p : Progress) (w : ℕ) (q : Progress) → enter_way at p w ≡ Ok q → AllCodes k q
  way_entered at start w q e = subst (AllCodes k) (same_value _ q e) tt
  way_entered at (headed x) w q e = absurd (not_both _ q e)
  way_entered at (ruled x rules r) w q e = absurd (not_both _ q e)

  rule_entered : (at : ℕ) (p : Progress) (d : ℕ) (q : Progress) → AllCodes k p → enter_rule v k at p d ≡ Ok q → AllCodes k q
  rule_entered at start d q h e = absurd (not_both _ q e)
  rule_entered at (headed w) d q h e = opened at w [] d q tt e
  rule_entered at (ruled w rules r) d q h e = opened at w (rules ++ r ∷ []) d q (All-push (Below k) rules r h.0 h.1) e

  condition_entered : (at : ℕ) (p : Progress) (a : List ℕ) (cells : Kind → Option (List ℕ)) (q : Progress) → AllCodes k p → enter_condition v at p a cells ≡ Ok q → AllCodes k q
  condition_entered at start a cells q h e = absurd (not_both _ q e)
  condition_entered at (headed w) a cells q h e = absurd (not_both _ q e)
  condition_entered at (ruled w rules r) a cells q h e = conditioned at w rules r a cells q h.0 h.1 e

  entered : (at : ℕ) (p : Progress) (s : Said) (q : Progress) → AllCodes k p → enter v k at p s ≡ Ok q → AllCodes k q
  entered at p (way w) q h e = way_entered at p w q e
  entered at p (rule d) q h e = rule_entered at p d q h e
  entered at p (choice a w) q h e = condition_entered at p a (λ kind. choice_cells kind w) q h e
  entered at p (range a x y) q h e = condition_entered at p a (λ kind. range_cells kind x y) q h e
  entered at p (attribute n) q h e = absurd (not_both _ q e)
  entered at p (value w) q h e = absurd (not_both _ q e)
  entered at p (cuts zs) q h e = absurd (not_both _ q e)
  entered at p (measure a x) q h e = absurd (not_both _ q e)

  -- so every field keeps to codes
  stepped : (at : ℕ) (p q : Progress) (f : Framed) → AllCodes k p → step v k at p f ≡ Ok q → AllCodes k q
  stepped at p q f h e =
      either_way (may_follow p f.tag) (and_then (said_by at f) (enter v k at p)) (refuse 11 at) (Ok q) (AllCodes k q) e
      (λ t d. let x = and_then_value (said_by at f) (enter v k at p) q d in entered at p x.0 q h x.2)
      (λ t d. absurd (not_both _ q d))

  -- and the rules of the whole sheet do
  finished : (end : ℕ) (p : Progress) (x : ℕ × List Rule) → AllCodes k p → finish end p ≡ Ok x → AllByRecursion (Below k) x.1
  finished end start x h e = absurd (not_both _ x e)
  finished end (headed w) x h e = subst (λ y. AllByRecursion (Below k) y.1) (same_value _ x e) tt
  finished end (ruled w rules r) x h e = subst (λ y. AllByRecursion (Below k) y.1) (same_value _ x e) (All-push (Below k) rules r h.0 h.1)

  -- a policy that is read has rules that decide codes
  pub rules_decide_codes : (bs : List ℕ) (x : ℕ × List Rule) → policy_of v k bs ≡ Ok x → AllByRecursion (Below k) x.1
  rules_decide_codes bs x e =
      either_way (leb (length bs) 65535) (and_then (reading (step v k) 0 start 0 bs) (finish (length bs))) (refuse 14 0) (Ok x) (AllByRecursion (Below k) x.1) e
      (λ t d.
      let y = and_then_value (reading (step v k) 0 start 0 bs) (finish (length bs)) x d in
      finished (length bs) y.0 x (kept (step v k) (AllCodes k) (λ at s s' f. stepped at s s' f) bs 0 start y.0 0 tt y.1) y.2)
      (λ t d. absurd (not_both _ x d))

module _ (t : Tables) (laws : ShortCutLaws t) (v : List Attribute) (bs : List ℕ) where
  some_code : 0 < t.size
  some_code = let two = laws.size_at_least_2 in omega arith

  -- whatever a sheet is read as, its decisions are codes
  at_cells : (a : Answer (ℕ × List Rule)) → policy_of v t.size bs ≡ a → (cells : List ℕ) → decided_at t a cells < t.size
  at_cells (Ok x) e cells = decided-below t laws x.0 x.1 cells (rules_decide_codes v t.size bs x e)
  at_cells (Err e) f cells = some_code

  in_grid_lem : (b : Bool) (d : ℕ) → d < t.size → cond b d 0 < t.size
  in_grid_lem true d h = h
  in_grid_lem false d h = some_code

  pub sheet_lawful : Lawful (sheet_meaning t v bs)
  sheet_lawful =
      record {
        decisions_below_the_size = λ g. in_grid_lem (ltb g (grid (shape_of v))) _ (at_cells (policy_of v t.size bs) refl (cells_at (shape_of v) g));
        zero_beyond_the_grid = λ g h. cond-false (ltb g (grid (shape_of v))) _ 0 (grind (arith, nat_tests));
      }

-- the same where the laws are known of a copy of the tables
pub lawful_sheet : (t : Tables) (v : List Attribute) (bs : List ℕ) → ∥ ShortCutLaws t ∥₁ → ∥ Lawful (sheet_meaning t v bs) ∥₁
lawful_sheet t v bs laws = ∣ sheet_lawful t (truncated.short_cuts laws) v bs ∣₁
