use Rattle.std.proofs.Common.{refl}
use Rattle.decision.proofs.laws.worked_reports.Goals as goal

pub returns : goal.returns
returns c = record {
  requests_are_decided_by_the_sheets_before_them = refl;
  sheet_given_twice_differs_nowhere = refl;
  empty_input_is_refused = refl;
  second_vocabulary_is_refused = refl;
  refused_sheet_is_the_answer = refl;
}
