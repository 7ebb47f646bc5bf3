use Rattle.std.proofs.Common.{arith}
use Rattle.vocabulary.proofs.Spans.{span_within}
use Rattle.vocabulary.proofs.names.name_at.Goals as goal

pub returns : goal.returns
returns c = span_within c.args.sheet.now c.args.span.from c.args.span.len c.min-from.result c.min-size.result (omega arith) (omega arith)
