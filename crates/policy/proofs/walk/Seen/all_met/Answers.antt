use Rattle.std.proofs.Common.{not, ◌∙◌, rules, tests}
use Rattle.std.proofs.lemmas.Iterator.{YieldsList-from_slice}
use Rattle.std.proofs.lemmas.Iterator.Search.{all_from_yields_List}
use Rattle.policy.specs.Walks.{seen_in, missed}
use Rattle.policy.proofs.Seeing.{none_is_missed}
use Rattle.policy.proofs.walk.Seen.all_met.Goals as goal

pub returns : goal.returns
returns c =
    let seen = seen_in c.args.self.now in
    all_from_yields_List (λ o. not (missed o)) _ _ _ c.all.ensures.ran (YieldsList-from_slice seen cc) (λ x b q k. search (rules, tests)) ∙ none_is_missed seen
