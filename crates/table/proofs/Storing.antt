-- Memory that grows, and a sound set with one more record.
use Rattle.std.proofs.Common.{◌≡◌, ℕ, ◌<◌, ◌⊎◌, List, length, get_or, set, Some, None, Option, sym, ap, ◌∙◌, subst, inl, inr, ⊎_elim, arith, length-set}
use Rattle.std.proofs.lemmas.List.{get_or_past, get_or-set_same, get_or-set_other}
use Rattle.std.proofs.lemmas.Bool.{cases_eq, cases_lt}
use Rattle.marking.specs.Marks.{Marked}
use Rattle.diagram.specs.declared.Node.{Node}
use Rattle.diagram.specs.declared.Link.{Link}
use Rattle.diagram.specs.Diagram.{blank, node, link}
use Rattle.diagram.specs.Sound.{Proper, Sound}
use Rattle.diagram.specs.Growing.{Grown}
use Rattle.diagram.proofs.Changing.{one_more}
use Rattle.diagram.proofs.Denoting.{agree_set}
use Rattle.table.specs.Made.{NoneIsAlike, Taken, Made, LiveStays, Stored}
use Rattle.table.specs.Reduced.{Reduced}

-- memory that has grown and grows again has grown
pub grown_twice :
    (k : ℕ) (shape : List ℕ) (nodes : List Node) (Live : ℕ → Type 0) (nodes' : List Node) (Live' : ℕ → Type 0) (nodes'' : List Node) (Live'' : ℕ → Type 0)
    → Grown k shape nodes Live nodes' Live' → Grown k shape nodes' Live' nodes'' Live'' → Grown k shape nodes Live nodes'' Live''
grown_twice k shape nodes Live nodes' Live' nodes'' Live'' h g =
    record {
      memory_is_as_long = g.memory_is_as_long ∙ h.memory_is_as_long;
      still_sound = g.still_sound;
      live_records_stay = λ r v. g.live_records_stay r (h.live_stays_live r v) ∙ h.live_records_stay r v;
      live_stays_live = λ r v. g.live_stays_live r (h.live_stays_live r v);
    }

-- a marked record has a byte
marked_below : (marks : List ℕ) (s : ℕ) → Marked marks s → s < length marks
marked_below marks s m = ⊎_elim (λ l. l) (λ l. let z = get_or_past marks s 0 l in absurd (omega arith)) (cases_lt s (length marks))

-- ---- what is live stays
module _ (nodes : List Node) (marks : List ℕ) where
  -- where nothing is written
  pub unwritten : (nodes' : List Node) (marks' : List ℕ) → nodes' ≡ nodes → marks' ≡ marks → LiveStays nodes marks nodes' marks'
  unwritten nodes' marks' n m =
      record {
        memory_is_as_long = ap length n;
        marking_is_as_long = ap length m;
        live_records_stay = λ r v. ap (λ ns. node ns r) n;
        live_stays_live = λ r v. ap (λ ms. get_or ms r 0) m ∙ v;
      }

  -- marking one more record leaves the marks that there are
  marks_stay : (r : ℕ) → (s : ℕ) → Marked marks s → Marked (set marks r 1) s
  marks_stay r s m =
      ⊎_elim (λ (q : s ≡ r). ap (λ (i : ℕ). get_or (set marks i 1) s 0) (sym q) ∙ get_or-set_same marks s 1 0 (marked_below marks s m)) (λ q. get_or-set_other marks r s 1 0 q ∙ m) (cases_eq s r)

  -- where a record is taken that was not live
  taken_stays : (nodes' : List Node) (marks' : List ℕ) (x : Node) (r : ℕ) → Taken nodes marks nodes' marks' x r → LiveStays nodes marks nodes' marks'
  taken_stays nodes' marks' x r t =
      record {
        memory_is_as_long = ap length t.one_record_written ∙ length-set nodes r x;
        marking_is_as_long = ap length t.one_byte_written ∙ length-set marks r 1;
        live_records_stay =
            λ s v. ap (λ ns. node ns s) t.one_record_written ∙ get_or-set_other nodes r s x blank (λ (q : s ≡ r). t.was_not_live (subst (Marked marks) q v));
        live_stays_live = λ s v. ap (λ ms. get_or ms s 0) t.one_byte_written ∙ marks_stay r s v;
      }

  -- by what finding or making a record leaves
  pub made_stays : (nodes' : List Node) (marks' : List ℕ) (x : Node) (o : Option ℕ) → Made nodes marks nodes' marks' x o → LiveStays nodes marks nodes' marks'
  made_stays nodes' marks' x (Some r) h = ⊎_elim (λ f. unwritten nodes' marks' f.nodes_stay f.marks_stay) (λ t. taken_stays nodes' marks' x r t) h
  made_stays nodes' marks' x None h = unwritten nodes' marks' h.nodes_stay h.marks_stay

  -- by what reducing branches leaves
  pub reduced_stays : (nodes' : List Node) (marks' : List ℕ) (j n : ℕ) (branches : List Link) (o : Option Link) → Reduced nodes marks nodes' marks' j n branches o → LiveStays nodes marks nodes' marks'
  reduced_stays nodes' marks' j n branches o h =
      ⊎_elim (λ f. unwritten nodes' marks' f.nodes_stay f.marks_stay) (λ t. made_stays nodes' marks' (record { level = j; branches = branches }) t.number t.found_or_made) h

-- twice
pub stays_twice :
    (nodes : List Node) (marks : List ℕ) (nodes' : List Node) (marks' : List ℕ) (nodes'' : List Node) (marks'' : List ℕ) → LiveStays nodes marks nodes' marks' → LiveStays nodes' marks' nodes'' marks''
    → LiveStays nodes marks nodes'' marks''
stays_twice nodes marks nodes' marks' nodes'' marks'' h g =
    record {
      memory_is_as_long = g.memory_is_as_long ∙ h.memory_is_as_long;
      marking_is_as_long = g.marking_is_as_long ∙ h.marking_is_as_long;
      live_records_stay = λ r v. g.live_records_stay r (h.live_stays_live r v) ∙ h.live_records_stay r v;
      live_stays_live = λ r v. g.live_stays_live r (h.live_stays_live r v);
    }

module _ (k : ℕ) (shape : List ℕ) (nodes : List Node) (marks : List ℕ) (x : Node) (r : ℕ) (sound : Sound k shape nodes (Marked marks)) where
  -- a record that was not live takes x, which no live one is like
  pub stored_anew : Proper k shape nodes (Marked marks) x → length marks ≡ length nodes → r < length marks → (Marked marks r → ⊥) → NoneIsAlike nodes marks x
      → Stored k shape nodes marks (set nodes r x) (set marks r 1) x r
  stored_anew proper e l free fresh =
      record {
        memory_has_grown =
            record {
              memory_is_as_long = length-set nodes r x;
              still_sound = one_more k shape nodes (Marked marks) (Marked (set marks r 1)) sound r x (omega arith) free proper fresh more least;
              live_records_stay = agree_set k shape nodes (Marked marks) sound r x free;
              live_stays_live = more;
            };
        is_live = get_or-set_same marks r 1 0 l;
        is_alike = (ap (λ (y : Node). y.level) new, λ c _. ap (λ (y : Node). link y c) new);
        no_other_came = least;
      }
    where
      more : (s : ℕ) → Marked marks s → Marked (set marks r 1) s
      more = marks_stay nodes marks r

      least : (s : ℕ) → Marked (set marks r 1) s → Marked marks s ⊎ (s ≡ r)
      least s m = ⊎_elim (λ q. inr q) (λ q. inl (sym (get_or-set_other marks r s 1 0 q) ∙ m)) (cases_eq s r)

      new : node (set nodes r x) r ≡ x
      new = get_or-set_same nodes r x blank (omega arith)
