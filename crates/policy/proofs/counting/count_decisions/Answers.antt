use Rattle.std.proofs.Common.{arith}
use Rattle.policy.proofs.Counted.{at_most_all}
use Rattle.policy.proofs.counting.count_decisions.Goals as goal

pub overflow_add-counts : goal.overflow_add-counts
overflow_add-counts g c =
    let decision = (g.S.Source.meaning c.args.source.now).decision in
    let code = c.consult-code.result in
    let is = c.loop-number.invariant.2 code c.if-code-lt16.true in
    let most = at_most_all decision code c.loop-number.number in
    let small = c.size-number-end.ensures.at_most_4096 in
    omega arith
