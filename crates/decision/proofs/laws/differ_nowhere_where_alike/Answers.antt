use Rattle.vocabulary.specs.Grid.{grid}
use Rattle.vocabulary.specs.Vocabulary.{shape_of}
use Rattle.decision.specs.Differing.{decision_at}
use Rattle.decision.proofs.Counted.{none_where_alike, alike_where_none}
use Rattle.decision.proofs.laws.differ_nowhere_where_alike.Goals as goal

pub returns : goal.returns
returns c v s t =
    record {
      none_differ_where_all_are_alike = none_where_alike (decision_at v s) (decision_at v t) (grid (shape_of v));
      all_are_alike_where_none_differ = alike_where_none (decision_at v s) (decision_at v t) (grid (shape_of v));
    }
