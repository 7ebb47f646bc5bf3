-- Two worked policy sheets over the worked vocabulary, under permit and deny.
use Rattle.std.specs.Prelude.{◌≡◌, ℕ, List, [], ◌∷◌, ◌++◌, map, pos, Ok, codes}
use Rattle.refusal.specs.Answers.{refuse}
use Rattle.fields.specs.Words.{number_bytes}
use Rattle.fields.specs.Fields.{framed, sheet_bytes}
use Rattle.algebra.specs.PermitDeny.{permit_deny}
use Rattle.request.specs.Example.{example_vocabulary}
use Rattle.policy.specs.Sheets.{policy_of, sheet_meaning}

-- permit role=fitter, then deny act=write; the first rule that matches decides
abbrev pub first_sheet : List ℕ
first_sheet =
    sheet_bytes
    (framed 0x1F (1 ∷ []) ∷ framed 0x20 (1 ∷ []) ∷ framed 0x21 (codes "role=fitter") ∷ framed 0x20 (2 ∷ []) ∷ framed 0x21 (codes "act=write") ∷ [])

-- permit role=home, act=write, out from 70 up to 350
abbrev pub second_sheet : List ℕ
second_sheet =
    sheet_bytes
    (framed 0x1F (1 ∷ [])
    ∷ framed 0x20 (1 ∷ [])
    ∷ framed 0x21 (codes "role=home")
    ∷ framed 0x21 (codes "act=write")
    ∷ framed 0x22 (codes "out=" ++ (number_bytes (pos 70) ++ number_bytes (pos 350)))
    ∷ [])

-- a condition from 350 to 350, on the first rule
abbrev pub empty_range : List ℕ
empty_range = sheet_bytes (framed 0x1F (1 ∷ []) ∷ framed 0x20 (1 ∷ []) ∷ framed 0x22 (codes "out=" ++ (number_bytes (pos 350) ++ number_bytes (pos 350))) ∷ [])

-- the decisions of a sheet for the eight grid numbers
abbrev pub page_of : List ℕ → List ℕ
page_of bs = map (sheet_meaning permit_deny example_vocabulary bs).decision (0 ∷ 1 ∷ 2 ∷ 3 ∷ 4 ∷ 5 ∷ 6 ∷ 7 ∷ [])

-- two sheets over the example vocabulary, what they are read as and what they mean
pub record WorkedSheets : Type 0 where
  pub first_sheet_has_two_rules :
      policy_of example_vocabulary 3 first_sheet
      ≡ Ok (1, record { decision = 1; named = (1 ∷ []) ∷ [] ∷ [] ∷ [] } ∷ record { decision = 2; named = [] ∷ (1 ∷ []) ∷ [] ∷ [] } ∷ [])
  pub first_sheet_means_its_page : page_of first_sheet ≡ 0 ∷ 0 ∷ 2 ∷ 2 ∷ 1 ∷ 1 ∷ 1 ∷ 1 ∷ []
  pub second_sheet_means_its_page : page_of second_sheet ≡ 0 ∷ 0 ∷ 0 ∷ 1 ∷ 0 ∷ 0 ∷ 0 ∷ 0 ∷ []
  pub range_that_is_empty_is_refused : policy_of example_vocabulary 3 empty_range ≡ refuse 24 8
  pub decision_of_the_size_is_refused : policy_of example_vocabulary 3 (sheet_bytes (framed 0x1F (1 ∷ []) ∷ framed 0x20 (3 ∷ []) ∷ [])) ≡ refuse 13 4
  pub no_rule_is_a_sheet : policy_of example_vocabulary 3 (sheet_bytes (framed 0x1F (4 ∷ []) ∷ [])) ≡ Ok (4, [])
  pub empty_sheet_is_refused : policy_of example_vocabulary 3 [] ≡ refuse 10 0
