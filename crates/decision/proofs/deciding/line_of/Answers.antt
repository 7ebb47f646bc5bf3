use Rattle.std.proofs.Common.{ℕ, List, Ok, sym, ◌∙◌, rules}
use Rattle.std.proofs.lemmas.Iterator.{YieldsList-from_slice, YieldsList-from_map_by}
use Rattle.std.proofs.lemmas.Iterator.Consumers.{map_from_collect}
use Rattle.std.proofs.lemmas.Simd.{map-map}
use Rattle.algebra.specs.PermitDeny.{code_of}
use Rattle.fields.specs.Parts.{list_now}
use Rattle.vocabulary.specs.Record.{attributes_of}
use Rattle.decision.specs.Differing.{decision_at}
use Rattle.decision.proofs.deciding.line_of.Goals as goal

pub returns : goal.returns
returns c =
    let decide : List ℕ → ℕ = λ s. decision_at (attributes_of c.args.vocabulary.now) s c.args.number in
    map_from_collect {E = ℕ} (Ok c.in_ok-decisions.decisions) c.in_ok-decisions.ensures.ran
    (YieldsList-from_map_by _ code_of (λ s. decide (list_now s)) (YieldsList-from_slice c.args.sheets.now cc) c.map.ensures.closure (λ x r q k. search rules))
    ∙ sym (map-map decide list_now c.args.sheets.now)
