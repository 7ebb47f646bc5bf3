use Rattle.std.proofs.Common.{◌∙◌}
use Rattle.making.proofs.Spanning.{same_spans, spans_settle}
use Rattle.making.proofs.sourced.SourcedPlaces.look.Goals as goal

pub returns-else-level : goal.returns-else-level
returns-else-level g c =
    let m = g.S.Source.meaning c.args.self.now.source.now in
    record {
      same_places = same_spans m (g.S.Source.meaning c.consult.new.self) c.consult.ensures.meaning_stays;
      keeps_what_was_kept = λ first h. (h.0, c.consult.ensures.meaning_stays ∙ h.1);
      seen_as_it_is =
          λ k marks.
          spans_settle m k c.args.level.now.counts.now c.args.level.now.nodes.now marks c.args.level.now.number c.args.place c.if-level.false c.consult.result c.consult.ensures.answers_by_its_meaning;
    }
