use Rattle.std.proofs.Common.{◌≡◌, ◌<◌, ◌≤◌, length, leb, ap, ◌∙◌, arith}
use Rattle.std.specs.List.{position}
use Rattle.vocabulary.specs.Grid.{grid}
use Rattle.vocabulary.specs.Record.{counts_of}
use Rattle.policy.specs.Lists.{codes_of, codes_meaning}
use Rattle.policy.proofs.Codes.{held_below, held_in, passes_with_none, refused_of_size, same_meaning, list_held}
use Rattle.policy.proofs.grid.GridSource.read.Goals as goal

pub invariant_of-result : goal.invariant_of-result
invariant_of-result g c =
    let list = c.args.list.now in
    let laws = g.met.A.Algebra.short_cuts c.args.algebra.now in
    let least = laws.size_at_least_2 in
    let size = c.size-size.ensures in
    let some : 0 < c.size-size.result = omega arith in
    record {
      some_code = some;
      all_below = ∣ held_below c.size-size.result c.held-codes.result list some (held_in list 4096 _ c.held-codes.ensures.codes_then_zeros) (passes_with_none _ list c.in_default.ensures) ∣₁;
    }

pub returns : goal.returns
returns g c =
    let shape = counts_of c.args.shape in
    let list = c.args.list.now in
    let sized = c.size.ensures.product_of_the_counts in
    let small = c.size.ensures.at_most_4096 in
    let long : length list ≡ grid shape = omega arith in
    let roomy = c.held-codes.ensures.room_for_the_largest_grid in
    let room : grid shape ≤ length c.held-codes.result = omega arith in
    let held = held_in list 4096 _ c.held-codes.ensures.codes_then_zeros in
    record {
      codes_of_the_list =
          list_held shape c.size-size.result c.held-codes.result list long room held (passes_with_none _ list c.in_default.ensures)
          ∙ ap (λ k. codes_of shape k list) c.size-size.ensures;
      means_the_list = same_meaning shape c.size-size.result c.held-codes.result list held ∙ ap (λ k. codes_meaning shape k list) c.size-size.ensures;
    }

pub returns-in-Some-clause-codes_of_the_list : goal.returns-in-Some-clause-codes_of_the_list
returns-in-Some-clause-codes_of_the_list g c =
    let sized = c.size.ensures.product_of_the_counts in
    refused_of_size (counts_of c.args.shape) _ c.args.list.now c.in-Some.place (omega arith) (c.in-Some.ensures ∙ ap (λ k. position (λ d. leb k d) c.args.list.now) c.size-size.ensures)
