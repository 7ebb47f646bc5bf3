use Rattle.std.proofs.Common.{◌≡◌, get_or, sym, ◌∙◌, rules}
use Rattle.diagram.specs.declared.Link.TheVariants.{Decision}
use Rattle.diagram.proofs.Asked.{link_read}
use Rattle.diagram.proofs.Node.branch.Goals as goal

pub returns : goal.returns
returns c =
    let read : c.unwrap_or.result ≡ get_or c.args.self.now.branches c.args.cell (Decision 0) = search rules in
    read ∙ sym (link_read c.args.self.now c.args.cell (search rules))
