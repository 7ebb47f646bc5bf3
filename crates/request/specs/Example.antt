-- A worked vocabulary, and requests over it.
use Rattle.std.specs.Prelude.{◌≡◌, ℕ, List, [], ◌∷◌, ◌++◌, ℤ, pos, negsuc, Ok, codes}
use Rattle.refusal.specs.Answers.{refuse}
use Rattle.fields.specs.Words.{number_bytes}
use Rattle.fields.specs.Fields.{framed, sheet_bytes}
use Rattle.vocabulary.specs.Vocabulary.{valued, ranged, Attribute, named, vocabulary_of}
use Rattle.request.specs.Request.{request_of}

-- role: home, fitter; act: read, write; out: cuts -200, 70, 350
abbrev pub example_vocabulary : List Attribute
example_vocabulary =
    named (codes "role") (valued (codes "home" ∷ codes "fitter" ∷ []))
    ∷ named (codes "act") (valued (codes "read" ∷ codes "write" ∷ []))
    ∷ named (codes "out") (ranged (negsuc 199 ∷ pos 70 ∷ pos 350 ∷ []))
    ∷ []

-- the sheet that says so
abbrev pub example_sheet : List ℕ
example_sheet =
    sheet_bytes
    (framed 0x10 (codes "role")
    ∷ framed 0x11 (codes "home")
    ∷ framed 0x11 (codes "fitter")
    ∷ framed 0x10 (codes "act")
    ∷ framed 0x11 (codes "read")
    ∷ framed 0x11 (codes "write")
    ∷ framed 0x10 (codes "out")
    ∷ framed 0x12 (number_bytes (negsuc 199) ++ (number_bytes (pos 70) ++ number_bytes (pos 350)))
    ∷ [])

-- role=home, act=read, out=number
abbrev pub request_at : ℤ → List ℕ
request_at x = sheet_bytes (framed 0x31 (codes "role=home") ∷ framed 0x31 (codes "act=read") ∷ framed 0x32 (codes "out=" ++ number_bytes x) ∷ [])

-- the sheet is read as the vocabulary, and cuts bound cells: one that has no cell is refused with number 24 at the third field
pub record WorkedRequests : Type 0 where
  pub sheet_says_the_vocabulary : vocabulary_of example_sheet ≡ Ok example_vocabulary
  pub at_the_first_cut : request_of example_vocabulary (request_at (negsuc 199)) ≡ Ok (0 ∷ 0 ∷ 0 ∷ [])
  pub just_below_a_cut : request_of example_vocabulary (request_at (pos 69)) ≡ Ok (0 ∷ 0 ∷ 0 ∷ [])
  pub at_a_cut : request_of example_vocabulary (request_at (pos 70)) ≡ Ok (0 ∷ 0 ∷ 1 ∷ [])
  pub just_below_the_last_cut : request_of example_vocabulary (request_at (pos 349)) ≡ Ok (0 ∷ 0 ∷ 1 ∷ [])
  pub below_the_first_cut : request_of example_vocabulary (request_at (negsuc 200)) ≡ refuse 24 23
  pub at_the_last_cut : request_of example_vocabulary (request_at (pos 350)) ≡ refuse 24 23
