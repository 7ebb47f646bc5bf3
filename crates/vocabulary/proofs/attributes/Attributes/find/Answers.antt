use Rattle.std.proofs.Common.{map, sym, ap, ◌∙◌}
use Rattle.short_list.specs.Items.{items_of}
use Rattle.vocabulary.specs.Vocabulary.{place}
use Rattle.vocabulary.specs.Parts.{name_at}
use Rattle.vocabulary.proofs.Entering.{names_of_lem}
use Rattle.vocabulary.proofs.attributes.Attributes.find.Goals as goal

pub returns : goal.returns
returns c =
    let bs = c.args.sheet.now in
    c.find.ensures
    ∙ ap (λ xs. place c.args.name.now (map (λ a. name_at bs a.name) xs)) c.as_slice.ensures
    ∙ ap (place c.args.name.now) (sym (names_of_lem bs (items_of c.args.self.now.items)))
