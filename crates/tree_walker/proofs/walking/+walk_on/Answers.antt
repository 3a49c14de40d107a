use Rattle.std.proofs.Common.{◌≢◌, ◌≤◌, arith}
use Rattle.tree_walker.proofs.Walks.{ended, went_on}
use Rattle.tree_walker.proofs.walking.+walk_on.Goals as goal

pub returns-in-Ends-clause-walks : goal.returns-in-Ends-clause-walks
returns-in-Ends-clause-walks g t c =
    let stands : c.args.address ≢ 0 = omega arith in
    let one : 1 ≤ c.args.left = omega arith in
    ended c.args.left c.args.address c.args.v c.args.area c.fetch-words.result c.words.result c.in-Ends.found _ _ stands one
    c.fetch-words.ensures c.words.ensures c.in-Ends.ensures

pub returns-in-GoesOn-clause-walks : goal.returns-in-GoesOn-clause-walks
returns-in-GoesOn-clause-walks g t c =
    let stands : c.args.address ≢ 0 = omega arith in
    let one : 1 ≤ c.args.left = omega arith in
    went_on c.args.left c.args.address c.args.v c.in-GoesOn.next c.args.area c.fetch-words.result c.words.result c.walk_on-end.result _ _ _
    stands one c.fetch-words.ensures c.words.ensures c.in-GoesOn.ensures c.walk_on-end.ensures.walks
