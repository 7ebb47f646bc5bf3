use Rattle.std.proofs.Common.{refl, inl}
use Rattle.table.proofs.Reducing.{one_link}
use Rattle.table.proofs.reduce.Goals as goal

pub returns-else-one_differs : goal.returns-else-one_differs
returns-else-one_differs c =
    let same = c.if-one_differs.ensures.false_where_all_are_the_same refl in
    record {
      same_bytes = refl;
      one_link_or_one_record = inl (record { all_the_same = same; answers_that_link = refl; nodes_stay = refl; marks_stay = refl });
      builds_the_page = λ k shape first marks P h. one_link k shape first _ c.args.nodes.now _ c.args.level P c.args.cells c.args.branches h same;
    }
