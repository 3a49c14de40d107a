use Rattle.tree_laws.proofs.Found.{finds_something}
use Rattle.tree_laws.proofs.Walks.{follows_path}
use Rattle.tree_laws.proofs.laws.walks_follow_paths.Goals as goal

pub returns-clause-finds : goal.returns-clause-finds
returns-clause-finds c = finds_something

pub returns-clause-follows : goal.returns-clause-follows
returns-clause-follows c = follows_path
