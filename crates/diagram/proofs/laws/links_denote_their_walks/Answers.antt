use Rattle.diagram.proofs.Walks.{links_denote}
use Rattle.diagram.proofs.laws.links_denote_their_walks.Goals as goal

pub returns : goal.returns
returns c = links_denote
