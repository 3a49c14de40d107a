use Rattle.tree_words.proofs.Steps.{gives_path}
use Rattle.tree_words.proofs.laws.paths_stand.Goals as goal

pub returns : goal.returns
returns c = gives_path
