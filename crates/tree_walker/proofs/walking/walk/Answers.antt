use Rattle.std.proofs.Common.{length}
use Rattle.tree_walker.specs.Walking.{most_fetches}
use Rattle.tree_walker.proofs.Walks.{over_words, walk_maps}
use Rattle.tree_walker.proofs.walking.walk.Goals as goal

pub returns-clause-mapped : goal.returns-clause-mapped
returns-clause-mapped g c =
    walk_maps (length (g.M.Memory.known c.args.memory.now).words) c.args.area c.args.v c.walk_on.ensures.walks.fetches most_fetches
    c.args.root c.walk_on.result.found c.walk_on.ensures.walks.walks

pub returns-clause-over : goal.returns-clause-over
returns-clause-over g c still = over_words c.args.root c.args.v c.args.area c.walk_on.result _ _ c.walk_on.ensures.walks still
