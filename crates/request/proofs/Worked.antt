-- The worked requests, by computing.
use Rattle.std.proofs.Common.{refl}
use Rattle.request.specs.Example.{WorkedRequests}

-- every one of these is a computation
pub worked_requests_lem : WorkedRequests
worked_requests_lem =
    record {
      sheet_says_the_vocabulary = refl;
      at_the_first_cut = refl;
      just_below_a_cut = refl;
      at_a_cut = refl;
      just_below_the_last_cut = refl;
      below_the_first_cut = refl;
      at_the_last_cut = refl;
    }
