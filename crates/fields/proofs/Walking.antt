-- A walk through the fields of a sheet: what has been read so far, and one turn of a loop over them.
use Rattle.std.proofs.Common.{◌≡◌, ℕ, ◌<◌, ◌≤◌, List, length, drop, Some, Ok, Err, Result, sym, ap, ◌∙◌, subst, ap₂, arith}
use Rattle.std.proofs.lemmas.Bool.{cond-false}
use Rattle.std.proofs.lemmas.Bool.Decides.{nat_tests}
use Rattle.refusal.specs.declared.Refusal.{Refusal}
use Rattle.refusal.specs.Answers.{Told, Answer, told_by, refuse}
use Rattle.fields.specs.declared.RawField.{RawField}
use Rattle.fields.specs.declared.sheet.Fields.{Fields}
use Rattle.fields.specs.Fields.{Framed, reading, field_at, limited}
use Rattle.fields.specs.Shown.{bare}
use Rattle.fields.specs.Sheet.{StandsAt, NextField, OpensSheet}
use Rattle.fields.proofs.Reading.{at_end, truncated_at, refused_at, goes_on_at}

module _ {S : Type 0} (step : ℕ → S → Framed → Answer S) (whole : Answer S) (bs : List ℕ) where
  -- the walk is in these bytes, and the whole is what reading on from its state gives
  pub record ReadSoFar (it : Fields) (s : S) : Type 0 where
    pub same_bytes : it.bytes.now ≡ bs
    pub whole_is_what_follows : whole ≡ reading step it.at s 0 (drop it.at bs)

module _ {S : Type 0} (step : ℕ → S → Framed → Answer S) (bs : List ℕ) (at : ℕ) (s : S) where
  -- nothing is read yet where the walk stands, so the whole is what follows from there
  pub read_from : (first it : Fields) (t : S) → StandsAt bs at first → it ≡ first → t ≡ s → ReadSoFar step (reading step at s 0 (drop at bs)) bs it t
  read_from first it t h e f =
      record {
        same_bytes = ap (λ (i : Fields). i.bytes.now) e ∙ h.of_the_bytes;
        whole_is_what_follows = ap₂ (λ (i : ℕ) (x : S). reading step i x 0 (drop i bs)) (sym (ap (λ (i : Fields). i.at) e ∙ h.at_the_place)) (sym f);
      }

module _ {S : Type 0} (step : ℕ → S → Framed → Answer S) (whole : Answer S) (bs : List ℕ) (it : Fields) (s : S) (h : ReadSoFar step whole bs it s) where
  -- at the end of the bytes the state is the answer
  pub read_to_the_end : length it.bytes.now ≤ it.at → whole ≡ Ok s
  read_to_the_end l = h.whole_is_what_follows ∙ at_end step bs it.at s (subst (λ x. length x ≤ it.at) h.same_bytes l)

  -- where no field can be read the whole is refused so
  pub field_refused : (r : Result RawField Refusal) (e : Refusal) (after : Fields) → NextField it (Some r) after → r ≡ Err e → whole ≡ Err (told_by e)
  field_refused r e after m q =
      let n = subst (λ x. NextField it (Some x) after) q m in
      h.whole_is_what_follows
      ∙ truncated_at step bs it.at s (told_by e) (subst (λ x. it.at < length x) h.same_bytes n.0) (sym (n.1 ∙ ap (λ x. field_at x it.at) h.same_bytes))

  -- a field that the step refuses refuses the whole
  pub step_refused : (f : Result RawField Refusal) (raw : RawField) (after : Fields) (t : Told) → NextField it (Some f) after → f ≡ Ok raw → step raw.at s (bare raw) ≡ Err t → whole ≡ Err t
  step_refused f raw after t m q r =
      let n = subst (λ x. NextField it (Some x) after) q m in
      h.whole_is_what_follows
      ∙ refused_at step bs it.at s (bare raw) raw.next t (subst (λ x. it.at < length x) h.same_bytes n.0) (sym (n.1 ∙ ap (λ x. field_at x it.at) h.same_bytes))
      (ap (λ (i : ℕ). step i s (bare raw)) (sym n.2.place_is) ∙ r)

  -- after a field that the step takes, reading goes on behind it
  pub read_further : (f : Result RawField Refusal) (raw : RawField) (after : Fields) (s' : S) → NextField it (Some f) after → f ≡ Ok raw → step raw.at s (bare raw) ≡ Ok s' → ReadSoFar step whole bs after s'
  read_further f raw after s' m q r =
      let n = subst (λ x. NextField it (Some x) after) q m in
      record {
        same_bytes = n.3.of_the_bytes ∙ h.same_bytes;
        whole_is_what_follows = h.whole_is_what_follows
            ∙ goes_on_at step bs it.at s (bare raw) raw.next s' (subst (λ x. it.at < length x) h.same_bytes n.0) (sym (n.1 ∙ ap (λ x. field_at x it.at) h.same_bytes))
            (ap (λ (i : ℕ). step i s (bare raw)) (sym n.2.place_is) ∙ r)
            ∙ ap (λ (i : ℕ). reading step i s' 0 (drop i bs)) (sym n.3.at_the_place);
      }

-- a sheet that is too long is refused before its first field
pub too_long : {X : Type 0} (bs : List ℕ) (a : Answer X) (e : Refusal) → OpensSheet bs (Err e) → limited bs a ≡ Err (told_by e)
too_long bs a e h = let l = h.1 in cond-false _ a (refuse 14 0) (grind (arith, nat_tests)) ∙ ap Err (sym h.0)
