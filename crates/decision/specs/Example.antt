-- A worked input: the worked vocabulary and the two worked sheets, with a request before, between and after the sheets.
use Rattle.std.specs.Prelude.{◌≡◌, ℕ, List, [], ◌∷◌, ◌++◌, pos, Ok, codes}
use Rattle.refusal.specs.Answers.{refuse}
use Rattle.fields.specs.Words.{number_bytes}
use Rattle.fields.specs.Fields.{Framed, framed, sheet_bytes}
use Rattle.request.specs.Example.{example_vocabulary, example_sheet}
use Rattle.policy.specs.Example.{first_sheet, second_sheet, empty_range}
use Rattle.decision.specs.Differing.{differences_from}
use Rattle.decision.specs.Decided.{decided}

-- somebody at home writes at 7 degrees
abbrev pub home_writes : Framed
home_writes = framed 0x04 (sheet_bytes (framed 0x31 (codes "role=home") ∷ framed 0x31 (codes "act=write") ∷ framed 0x32 (codes "out=" ++ number_bytes (pos 70)) ∷ []))

-- fields behind the worked vocabulary
abbrev pub behind_vocabulary : List Framed → List ℕ
behind_vocabulary fs = sheet_bytes (framed 0x01 example_sheet ∷ fs)

-- nothing before any sheet, deny by the first, deny and permit by both; the sheets differ at six of the eight grid numbers
pub record WorkedReports : Type 0 where
  pub requests_are_decided_by_the_sheets_before_them :
      decided (behind_vocabulary (home_writes ∷ framed 0x02 first_sheet ∷ home_writes ∷ framed 0x02 second_sheet ∷ home_writes ∷ []))
      ≡ Ok (record { lines = [] ∷ (2 ∷ []) ∷ (2 ∷ 1 ∷ []) ∷ []; differences = record { first = 0; second = 1; numbers = 6 } ∷ [] })
  pub sheet_given_twice_differs_nowhere : differences_from example_vocabulary 0 (first_sheet ∷ first_sheet ∷ []) ≡ record { first = 0; second = 1; numbers = 0 } ∷ []
  pub empty_input_is_refused : decided [] ≡ refuse 10 0
  pub second_vocabulary_is_refused : decided (behind_vocabulary (framed 0x01 example_sheet ∷ [])) ≡ refuse 11 68
  pub refused_sheet_is_the_answer : decided (behind_vocabulary (home_writes ∷ framed 0x02 empty_range ∷ [])) ≡ refuse 24 8
