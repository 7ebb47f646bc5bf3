use Rattle.std.proofs.Common.{refl}
use Rattle.pages.proofs.laws.worked_pages.Goals as goal

pub returns : goal.returns
returns c =
    record {
      first_has_size_2 = refl;
      second_has_size_3 = refl;
      sum_at_each_number = refl;
      sum_has_size_3 = refl;
      the_three_have_size_8 = refl;
      first_before_second_is_the_first = refl;
      second_before_first_is_the_sum = refl;
    }
