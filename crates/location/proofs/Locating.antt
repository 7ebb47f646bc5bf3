-- One request of an input, and requests one after the other.
use Rattle.std.proofs.Common.{◌≡◌, ℕ, zero, suc, ◌+◌, Bool, true, false, cond, eqb, leb, List, [], ◌∷◌, ◌++◌, length, take, drop, Some, Ok, Err, sym, refl, ap, ◌∙◌}
use Rattle.std.proofs.lemmas.Bool.{cond-true, cond-false}
use Rattle.refusal.specs.Answers.{Told, Answer, refuse, and_then}
use Rattle.fields.specs.Fields.{Framed, framed, size_in, when, reading}
use Rattle.vocabulary.specs.Grid.{Cells, number, number_if}
use Rattle.vocabulary.specs.Vocabulary.{Attribute, vocabulary_of}
use Rattle.vocabulary.proofs.Gridded.{cells_are_tested_lem}
use Rattle.request.specs.Request.{request_of}
use Rattle.location.specs.Located.{Place, place_of, placed, located}
use Rattle.location.specs.Located as input
use Rattle.location.specs.Served.{Progress, waiting, serving, step, finish, served}

module _ (at : ℕ) (v : List Attribute) (f : Framed) where
  -- another tag
  pub other_tag : eqb f.tag 0x04 ≡ false → placed at v f ≡ refuse 11 at
  other_tag t = cond-false (eqb f.tag 0x04) (and_then (request_of v f.content) (λ cs. Ok (place_of v cs))) (refuse 11 at) t

  read : eqb f.tag 0x04 ≡ true → placed at v f ≡ and_then (request_of v f.content) (λ cs. Ok (place_of v cs))
  read t = cond-true (eqb f.tag 0x04) (and_then (request_of v f.content) (λ cs. Ok (place_of v cs))) (refuse 11 at) t

  -- a request that is refused
  pub request_refused : (t : Told) → eqb f.tag 0x04 ≡ true → Err t ≡ request_of v f.content → placed at v f ≡ Err t
  request_refused t e h = read e ∙ ap (λ a. and_then a (λ cs. Ok (place_of v cs))) (sym h)

  -- and one that is read
  pub request_read : (cs : List ℕ) → eqb f.tag 0x04 ≡ true → Ok cs ≡ request_of v f.content → placed at v f ≡ Ok (place_of v cs)
  request_read cs e h = read e ∙ ap (λ a. and_then a (λ cs. Ok (place_of v cs))) (sym h)

-- cells of the shape have their grid number
pub number_there : (shape cs : List ℕ) → Cells shape cs → number_if shape cs ≡ Some (number shape cs)
number_there shape cs h = ap (λ b. when b (number shape cs)) ((cells_are_tested_lem shape cs).cells_pass h)

-- ---- one request after the other
-- a further request has a further place
abbrev pub place_next : ℕ → List Attribute → List Place → Framed → Answer (List Place)
place_next at v ps f = and_then (placed at v f) (λ p. Ok (ps ++ p ∷ []))

module _ (at : ℕ) (v : List Attribute) (ps : List Place) (f : Framed) where
  -- a request that has no place
  pub place_refused : (t : Told) → Err t ≡ placed at v f → Err t ≡ place_next at v ps f
  place_refused t e = ap (λ a. and_then a (λ p. Ok (ps ++ p ∷ []))) e

  -- and one that has
  pub place_found : (p : Place) → Ok p ≡ placed at v f → Ok (ps ++ p ∷ []) ≡ place_next at v ps f
  place_found p e = ap (λ a. and_then a (λ p. Ok (ps ++ p ∷ []))) e

-- ---- requests are served like any other fields
-- where the steps of two readings agree through a map of their states, so do the readings, by induction over the bytes
module _ {S T : Type 0} (one : ℕ → S → Framed → Answer S) (other : ℕ → T → Framed → Answer T) (to : S → T) (agree : (at : ℕ) (s : S) (f : Framed) → other at (to s) f ≡ and_then (one at s f) (λ x. Ok (to x))) where
  read_through : (bs : List ℕ) (at : ℕ) (s : S) (k : ℕ) → reading other at (to s) k bs ≡ and_then (reading one at s k bs) (λ x. Ok (to x))
  read_through [] at s zero = refl
  read_through [] at s (suc k) = refl
  read_through (b ∷ bs) at s (suc k) = read_through bs (suc at) s k
  read_through (b ∷ bs) at s zero = go (leb (2 + size_in bs) (length bs)) (λ x. read_through bs (suc at) x (2 + size_in bs))
    where
      turn : (a : Answer S)
          → ((x : S) → reading other (suc at) (to x) (2 + size_in bs) bs ≡ and_then (reading one (suc at) x (2 + size_in bs) bs) (λ x. Ok (to x)))
          → and_then (and_then a (λ x. Ok (to x))) (λ x. reading other (suc at) x (2 + size_in bs) bs)
          ≡ and_then (and_then a (λ x. reading one (suc at) x (2 + size_in bs) bs)) (λ x. Ok (to x))
      turn (Ok x) i = i x
      turn (Err t) i = refl

      go : (g : Bool)
          → ((x : S) → reading other (suc at) (to x) (2 + size_in bs) bs ≡ and_then (reading one (suc at) x (2 + size_in bs) bs) (λ x. Ok (to x)))
          → cond g (and_then (other at (to s) (framed b (take (size_in bs) (drop 2 bs)))) (λ x. reading other (suc at) x (2 + size_in bs) bs)) (refuse 10 at)
          ≡ and_then (cond g (and_then (one at s (framed b (take (size_in bs) (drop 2 bs)))) (λ x. reading one (suc at) x (2 + size_in bs) bs)) (refuse 10 at)) (λ x. Ok (to x))
      go false i = refl
      go true i =
          ap (λ a. and_then a (λ x. reading other (suc at) x (2 + size_in bs) bs)) (agree at s (framed b (take (size_in bs) (drop 2 bs))))
          ∙ turn (one at s (framed b (take (size_in bs) (drop 2 bs)))) i

-- how far an input has been read
abbrev progress : Progress (List Place) → input.Progress
progress waiting = input.waiting
progress (serving v ps) = input.serving v ps

-- a vocabulary that is read opens both
opens : (b : Bool) (a : Answer (List Attribute)) (at : ℕ)
    → cond b (and_then a (λ v. Ok (input.serving v []))) (refuse 11 at) ≡ and_then (cond b (and_then a (λ v. Ok (serving v []))) (refuse 11 at)) (λ s. Ok (progress s))
opens true (Ok v) at = refl
opens true (Err t) at = refl
opens false a at = refl

-- a place is added in both
goes_on : (a : Answer Place) (v : List Attribute) (ps : List Place)
    → and_then a (λ p. Ok (input.serving v (ps ++ p ∷ []))) ≡ and_then (and_then (and_then a (λ p. Ok (ps ++ p ∷ []))) (λ qs. Ok (serving v qs))) (λ s. Ok (progress s))
goes_on (Ok p) v ps = refl
goes_on (Err t) v ps = refl

one_field : (at : ℕ) (s : Progress (List Place)) (f : Framed) → input.step at (progress s) f ≡ and_then (step [] place_next at s f) (λ s. Ok (progress s))
one_field at waiting f = opens (eqb f.tag 0x01) (vocabulary_of f.content) at
one_field at (serving v ps) f = goes_on (placed at v f) v ps

-- both end alike
ends : (at : ℕ) (a : Answer (Progress (List Place))) → and_then (and_then a (λ s. Ok (progress s))) (input.finish at) ≡ and_then a (finish (λ v ps. ps) at)
ends at (Ok waiting) = refl
ends at (Ok (serving v ps)) = refl
ends at (Err t) = refl

-- the places of an input are what its requests come to, served one after the other
pub served_is_located : (bs : List ℕ) → served [] place_next (λ v ps. ps) bs ≡ located bs
served_is_located bs =
    sym (ap (λ a. and_then a (input.finish (length bs))) (read_through (step [] place_next) input.step progress one_field bs 0 waiting 0) ∙ ends (length bs) (reading (step [] place_next) 0 waiting 0 bs))
