-- What is located: a vocabulary, then requests, each in a field of its own.
use Rattle.std.specs.Prelude.{ℕ, cond, List, [], ◌∷◌, ◌++◌, length, Ok, ◌==◌}
use Rattle.refusal.specs.Answers.{Answer, refuse, and_then}
use Rattle.fields.specs.Fields.{Framed, reading}
use Rattle.vocabulary.specs.Grid.{number}
use Rattle.vocabulary.specs.Vocabulary.{Attribute, shape_of, vocabulary_of}
use Rattle.request.specs.Request.{request_of}

-- a grid number and the cells that it stands for
pub record Place : Type 0 where
  pub grid_number : ℕ
  pub cells : List ℕ

-- where cells lie in the grid of a vocabulary
abbrev pub place_of : List Attribute → List ℕ → Place
place_of v cs = record { grid_number = number (shape_of v) cs; cells = cs }

-- where the request in a field 0x04 lies
abbrev pub placed : ℕ → List Attribute → Framed → Answer Place
placed at v f = cond (f.tag == 0x04) (and_then (request_of v f.content) (λ cs. Ok (place_of v cs))) (refuse 11 at)

-- how far an input has been read: no vocabulary yet, or a vocabulary and the places so far
pub data Progress : Type 0 where
  waiting : Progress
  serving : List Attribute → List Place → Progress

-- a field 0x01 with the vocabulary, then fields 0x04 with a request each
abbrev pub step : ℕ → Progress → Framed → Answer Progress
step at waiting f = cond (f.tag == 0x01) (and_then (vocabulary_of f.content) (λ v. Ok (serving v []))) (refuse 11 at)
step at (serving v ps) f = and_then (placed at v f) (λ p. Ok (serving v (ps ++ p ∷ [])))

-- an input has a vocabulary at least
abbrev pub finish : ℕ → Progress → Answer (List Place)
finish at waiting = refuse 10 at
finish at (serving v ps) = Ok ps

-- the places of the requests of an input
abbrev pub located : List ℕ → Answer (List Place)
located bs = and_then (reading step 0 waiting 0 bs) (finish (length bs))
