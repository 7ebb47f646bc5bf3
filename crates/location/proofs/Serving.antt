-- The vocabulary of an input and its fields, one after the other; what a `?` hands on.
use Rattle.std.proofs.Common.{◌≡◌, ℕ, ◌<◌, ◌≤◌, Bool, true, false, cond, eqb, List, [], ◌∷◌, length, drop, Some, Ok, Err, Result, sym, refl, ap, ◌∙◌, subst, ap₂, arith}
use Rattle.refusal.specs.declared.Refusal.{Refusal}
use Rattle.refusal.specs.Answers.{Told, told_by, Answer, refuse, and_then}
use Rattle.fields.specs.Fields.{Framed, field_at, reading}
use Rattle.fields.specs.declared.RawField.{RawField}
use Rattle.fields.specs.declared.sheet.Fields.{Fields}
use Rattle.fields.specs.Shown.{bare}
use Rattle.fields.specs.Sheet.{StandsAt, NextField}
use Rattle.fields.proofs.Answering.{and_then_same}
use Rattle.fields.proofs.Reading.{at_end, at_field, truncated_at, refused_at, goes_on_at}
use Rattle.vocabulary.specs.Vocabulary.{Attribute, vocabulary_of}
use Rattle.location.specs.declared.Failure.{Failure}
use Rattle.location.specs.declared.Failure.TheVariants.{Refused, OutOfMemory}
use Rattle.location.specs.Served.{Progress, waiting, serving, step, finish, served, vocabulary_field}
use Rattle.location.specs.Shown.{Answered}

-- ---- the first field
-- what is made of it
abbrev as_vocabulary : Framed × ℕ → Answer (Framed × ℕ)
as_vocabulary x = cond (eqb x.0.tag 0x01) (Ok x) (refuse 11 0)

-- the vocabulary in it, and the place behind it
abbrev opened : List ℕ → Answer (List Attribute × ℕ)
opened bs = and_then (vocabulary_field bs) (λ x. and_then (vocabulary_of x.0.content) (λ v. Ok (v, x.1)))

-- going on twice is going on once, for a refusal is handed on both times
regrouped : {X Y Z : Type 0} (a : Answer X) (f : X → Answer Y) (g : Y → Answer Z) → and_then a (λ x. and_then (f x) g) ≡ and_then (and_then a f) g
regrouped (Ok x) f g = refl
regrouped (Err t) f g = refl

module _ {S X : Type 0} (start : S) (serve : ℕ → List Attribute → S → Framed → Answer S) (result : List Attribute → S → X) where
  -- what an input comes to if its fields from a place on are served from a state
  abbrev pub served_from : List ℕ → List Attribute × ℕ → S → Answer X
  served_from bs o s = and_then (reading (step start serve) o.1 (serving o.0 s) 0 (drop o.1 bs)) (finish result (length bs))

  -- a vocabulary opens the input, or is refused
  vocabulary_opens : (bs : List ℕ) (a : Answer (List Attribute)) (n : ℕ)
      → and_then (and_then (and_then a (λ v. Ok (serving v start))) (λ s. reading (step start serve) n s 0 (drop n bs))) (finish result (length bs))
      ≡ and_then (and_then a (λ v. Ok (v, n))) (λ o. served_from bs o start)
  vocabulary_opens bs (Ok v) n = refl
  vocabulary_opens bs (Err t) n = refl

  -- the first field opens the input if its tag is a vocabulary's, and otherwise is refused
  first_opens : (bs : List ℕ) (f : Framed) (b : Bool) (n : ℕ)
      → and_then (and_then (cond b (and_then (vocabulary_of f.content) (λ v. Ok (serving v start))) (refuse 11 0)) (λ s. reading (step start serve) n s 0 (drop n bs))) (finish result (length bs))
      ≡ and_then (and_then {X = Framed × ℕ} (cond b (Ok (f, n)) (refuse 11 0)) (λ x. and_then (vocabulary_of x.0.content) (λ v. Ok (v, x.1)))) (λ o. served_from bs o start)
  first_opens bs f true n = vocabulary_opens bs (vocabulary_of f.content) n
  first_opens bs f false n = refl

  -- an input is opened, and then its other fields are served; an empty one is refused either way
  opens_and_serves : (bs : List ℕ) → served start serve result bs ≡ and_then (opened bs) (λ o. served_from bs o start)
  opens_and_serves [] = refl
  opens_and_serves (b ∷ bs) =
      let s : List ℕ = b ∷ bs in
      let after : Framed × ℕ → Answer (Progress S) = λ x. and_then (step start serve 0 waiting x.0) (λ p. reading (step start serve) x.1 p 0 (drop x.1 s)) in
      let read : Framed × ℕ → Answer (List Attribute × ℕ) = λ x. and_then (vocabulary_of x.0.content) (λ v. Ok (v, x.1)) in
      let begun : Framed × ℕ → Answer (List Attribute × ℕ) = λ x. and_then (as_vocabulary x) read in
      ap (λ a. and_then a (finish result (length s))) (at_field (step start serve) s 0 waiting (omega arith))
      ∙ sym (regrouped (field_at s 0) after (finish result (length s)))
      ∙ and_then_same (field_at s 0) (λ x. and_then (after x) (finish result (length s))) (λ x. and_then (begun x) (λ o. served_from s o start))
      (λ x. first_opens s x.0 (eqb x.0.tag 0x01) x.1)
      ∙ regrouped (field_at s 0) begun (λ o. served_from s o start)
      ∙ ap (λ a. and_then a (λ o. served_from s o start)) (regrouped (field_at s 0) as_vocabulary read)

  module _ (bs : List ℕ) where
    -- the fields before a place are served, and have come to a state
    abbrev pub Reached : List Attribute → ℕ → S → Type 0
    Reached v at s = served start serve result bs ≡ served_from bs (v, at) s

    opening_leads : (a : Answer (Framed × ℕ)) → a ≡ vocabulary_field bs
        → and_then (and_then a (λ x. and_then (vocabulary_of x.0.content) (λ v. Ok (v, x.1)))) (λ o. served_from bs o start) ≡ served start serve result bs
    opening_leads a e =
        ap (λ a. and_then (and_then a (λ x. and_then (vocabulary_of x.0.content) (λ v. Ok (v, x.1)))) (λ o. served_from bs o start)) e ∙ sym (opens_and_serves bs)

    -- the first field is not a vocabulary's
    pub first_refused : (t : Told) → Err t ≡ vocabulary_field bs → Err t ≡ served start serve result bs
    first_refused t e = opening_leads (Err t) e

    module _ (f : Framed) (next : ℕ) (e : Ok (f, next) ≡ vocabulary_field bs) where
      -- the vocabulary is refused
      pub vocabulary_refused : (t : Told) → vocabulary_of f.content ≡ Err t → Err t ≡ served start serve result bs
      vocabulary_refused t q = ap (λ a. and_then (and_then a (λ v. Ok (v, next))) (λ o. served_from bs o start)) (sym q) ∙ opening_leads (Ok (f, next)) e

      -- the vocabulary is read: behind it nothing is served yet
      pub vocabulary_read : (v : List Attribute) → vocabulary_of f.content ≡ Ok v → Reached v next start
      vocabulary_read v q = sym (opening_leads (Ok (f, next)) e) ∙ ap (λ a. and_then (and_then a (λ v. Ok (v, next))) (λ o. served_from bs o start)) q

    module _ (v : List Attribute) (at : ℕ) (s : S) (reached : Reached v at s) where
      -- the input ends here
      pub input_ended : length bs ≤ at → Ok (result v s) ≡ served start serve result bs
      input_ended h = sym (reached ∙ ap (λ a. and_then a (finish result (length bs))) (at_end (step start serve) bs at (serving v s) h))

      -- the next field is cut short
      pub field_truncated : at < length bs → (t : Told) → Err t ≡ field_at bs at → Err t ≡ served start serve result bs
      field_truncated h t e = sym (reached ∙ ap (λ a. and_then a (finish result (length bs))) (truncated_at (step start serve) bs at (serving v s) t h (sym e)))

      module _ (h : at < length bs) (f : Framed) (next : ℕ) (e : Ok (f, next) ≡ field_at bs at) where
        served_by : (a : Answer S) → a ≡ serve at v s f → step start serve at (serving v s) f ≡ and_then a (λ s'. Ok (serving v s'))
        served_by a q = ap (λ a. and_then a (λ s'. Ok (serving v s'))) (sym q)

        -- the next field is refused
        pub field_refused : (t : Told) → Err t ≡ serve at v s f → Err t ≡ served start serve result bs
        field_refused t q = sym (reached ∙ ap (λ a. and_then a (finish result (length bs))) (refused_at (step start serve) bs at (serving v s) f next t h (sym e) (served_by (Err t) q)))

        -- the next field is served
        pub field_served : (s' : S) → Ok s' ≡ serve at v s f → Reached v next s'
        field_served s' q = reached ∙ ap (λ a. and_then a (finish result (length bs))) (goes_on_at (step start serve) bs at (serving v s) f next (serving v s') h (sym e) (served_by (Ok s') q))

    -- the walk is in the input, and the fields before its place are served
    pub record ServedSoFar (v : List Attribute) (it : Fields) (s : S) : Type 0 where
      pub same_bytes : it.bytes.now ≡ bs
      pub reached : Reached v it.at s

    -- a walk that begins where a state is reached
    pub served_to : (v : List Attribute) (at : ℕ) (first it : Fields) (s t : S) → Reached v at s → StandsAt bs at first → it ≡ first → t ≡ s → ServedSoFar v it t
    served_to v at first it s t r h e f =
        record {
          same_bytes = ap (λ (i : Fields). i.bytes.now) e ∙ h.of_the_bytes;
          reached = r ∙ ap₂ (λ (i : ℕ) (x : S). served_from bs (v, i) x) (sym (ap (λ (i : Fields). i.at) e ∙ h.at_the_place)) (sym f);
        }

    module _ (v : List Attribute) (it : Fields) (s : S) (so_far : ServedSoFar v it s) where
      -- the walk ends here
      pub walk_ended : length it.bytes.now ≤ it.at → Ok (result v s) ≡ served start serve result bs
      walk_ended h = input_ended v it.at s so_far.reached (subst (λ x. length x ≤ it.at) so_far.same_bytes h)

      -- its next field is cut short
      pub walk_truncated : (r : Result RawField Refusal) (e : Refusal) (after : Fields) → NextField it (Some r) after → r ≡ Err e → Err (told_by e) ≡ served start serve result bs
      walk_truncated r e after m q =
          let n = subst (λ x. NextField it (Some x) after) q m in
          field_truncated v it.at s so_far.reached (subst (λ x. it.at < length x) so_far.same_bytes n.0) (told_by e) (n.1 ∙ ap (λ x. field_at x it.at) so_far.same_bytes)

      module _ (r : Result RawField Refusal) (raw : RawField) (after : Fields) (m : NextField it (Some r) after) (q : r ≡ Ok raw) where
        lies : (Ok (bare raw, raw.next) ≡ field_at bs it.at) × (it.at < length bs)
        lies =
            let n = subst (λ x. NextField it (Some x) after) q m in
            (n.1 ∙ ap (λ x. field_at x it.at) so_far.same_bytes, subst (λ x. it.at < length x) so_far.same_bytes n.0)

        -- its next field is refused
        pub walk_refused : (t : Told) → Err t ≡ serve raw.at v s (bare raw) → Err t ≡ served start serve result bs
        walk_refused t e =
            let n = subst (λ x. NextField it (Some x) after) q m in
            field_refused v it.at s so_far.reached lies.1 (bare raw) raw.next lies.0 t (e ∙ ap (λ (i : ℕ). serve i v s (bare raw)) n.2.place_is)

        -- its next field is served
        pub walk_served : (s' : S) → Ok s' ≡ serve raw.at v s (bare raw) → ServedSoFar v after s'
        walk_served s' e =
            let n = subst (λ x. NextField it (Some x) after) q m in
            record {
              same_bytes = n.3.of_the_bytes ∙ so_far.same_bytes;
              reached = field_served v it.at s so_far.reached lies.1 (bare raw) raw.next lies.0 s' (e ∙ ap (λ (i : ℕ). serve i v s (bare raw)) n.2.place_is)
                  ∙ ap (λ (i : ℕ). served_from bs (v, i) s') (sym n.3.at_the_place);
            }

-- ---- what a `?` hands on
module _ {X Y : Type 0} (show : X → Y) (r : Result X Failure) (y : Failure) (a : Answer Y) (e : r ≡ Err y) where
  -- a refusal
  pub refusal_handed_on : (f : Refusal) → y ≡ Refused f → Err (told_by f) ≡ a → Answered show r a
  refusal_handed_on f q h = subst (λ x. Answered show x a) (sym (e ∙ ap Err q)) h

  -- lack of memory
  pub memory_lacking : y ≡ OutOfMemory → Answered show r a
  memory_lacking q = subst (λ x. Answered show x a) (sym (e ∙ ap Err q)) tt

  -- what a part of the answer was refused for, or lack of memory
  pub failure_handed_on : {Z W : Type 0} (part : Z → W) (b : Answer W) (x : Failure) → y ≡ x → Answered part (Err x) b → ((t : Told) → Err t ≡ b → Err t ≡ a) → Answered show r a
  failure_handed_on part b (Refused f) q h way = refusal_handed_on f q (way (told_by f) h)
  failure_handed_on part b OutOfMemory q h way = memory_lacking q
