-- Inputs of the programs: a vocabulary, then fields that are served with it, one after the other.
use Rattle.std.specs.Prelude.{ℕ, cond, List, length, Ok, ◌==◌}
use Rattle.refusal.specs.Answers.{Answer, refuse, and_then}
use Rattle.fields.specs.Fields.{Framed, field_at, reading}
use Rattle.vocabulary.specs.Vocabulary.{Attribute, vocabulary_of}

-- how far an input has been read: no vocabulary yet, or a vocabulary and what the fields behind it have come to
pub data Progress (S : Type 0) : Type 0 where
  waiting : Progress S
  serving : List Attribute → S → Progress S

-- a field 0x01 with the vocabulary, then fields that are served with it
abbrev pub step : {S : Type 0} → S → (ℕ → List Attribute → S → Framed → Answer S) → ℕ → Progress S → Framed → Answer (Progress S)
step start serve at waiting f = cond (f.tag == 0x01) (and_then (vocabulary_of f.content) (λ v. Ok (serving v start))) (refuse 11 at)
step start serve at (serving v s) f = and_then (serve at v s f) (λ s'. Ok (serving v s'))

-- an input has a vocabulary at least
abbrev pub finish : {S X : Type 0} → (List Attribute → S → X) → ℕ → Progress S → Answer X
finish result at waiting = refuse 10 at
finish result at (serving v s) = Ok (result v s)

-- what an input comes to: from a start, each field behind the vocabulary is served, and the result is told at the end
abbrev pub served : {S X : Type 0} → S → (ℕ → List Attribute → S → Framed → Answer S) → (List Attribute → S → X) → List ℕ → Answer X
served start serve result bs = and_then (reading (step start serve) 0 waiting 0 bs) (finish result (length bs))

-- the first field, which must be a vocabulary's, and the place behind it
abbrev pub vocabulary_field : List ℕ → Answer (Framed × ℕ)
vocabulary_field bs = and_then (field_at bs 0) (λ x. cond (x.0.tag == 0x01) (Ok x) (refuse 11 0))
