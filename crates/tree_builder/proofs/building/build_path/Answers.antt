use Rattle.std.proofs.Common.{◌≤◌, length, arith}
use Rattle.tree_builder.proofs.Going.{shows_at, top_low}
use Rattle.tree_words.proofs.Places.{is_node_by_length}
use Rattle.tree_words.proofs.Showing.{one_layout}
use Rattle.tree_builder.proofs.Growing.{Growth, agree_taken, builds, lacks_some, leaf_low, lowest_is_node}
use Rattle.tree_builder.proofs.building.build_path.Goals as goal

pub make_nodes-made-requires-clause-enough : goal.make_nodes-made-requires-clause-enough
make_nodes-made-requires-clause-enough g c =
    let may = c.requires.may in
    let way = c.find_way-way.ensures.way may.layout may.shows in
    may.enough c.find_way-way.result.lacking (record {
      top = c.find_way-way.result.top;
      root_level = way.goes.root_level;
      leaf = c.find_way-way.result.leaf;
      over = way.goes.over;
      lacks = way.lacks;
    })

pub make_nodes-made-requires-clause-low : goal.make_nodes-made-requires-clause-low
make_nodes-made-requires-clause-low g c =
    let may = c.requires.may in
    let way = c.find_way-way.ensures.way may.layout may.shows in
    let most = way.goes.most in
    omega (arith, most, top_low (g.R.Runs.runs c.args.runs.now) c.find_way-way.result.top c.find_way-way.ensures.are way.goes.root_level)

pub make_nodes-made-requires-clause-among : goal.make_nodes-made-requires-clause-among
make_nodes-made-requires-clause-among g c =
    let may = c.requires.may in
    (c.find_way-way.ensures.way may.layout may.shows).goes.over.has

pub link_path-requires-clause-low : goal.link_path-requires-clause-low
link_path-requires-clause-low g c =
    let may = c.requires.may in
    let way = c.find_way-way.ensures.way may.layout may.shows in
    let most = way.goes.most in
    omega (arith, most, top_low (g.R.Runs.runs c.args.runs.now) c.find_way-way.result.top c.find_way-way.ensures.are way.goes.root_level)

pub link_path-requires-clause-some : goal.link_path-requires-clause-some
link_path-requires-clause-some g c =
    let runs = g.R.Runs.runs c.args.runs.now in
    let may = c.requires.may in
    let way = c.find_way-way.ensures.way may.layout may.shows in
    lacks_some runs may.layout c.args.v c.find_way-way.result way may.uncovered

pub link_path-requires-clause-node : goal.link_path-requires-clause-node
link_path-requires-clause-node g c = λ some.
    let runs = g.R.Runs.runs c.args.runs.now in
    let may = c.requires.may in
    let way = c.find_way-way.ensures.way may.layout may.shows in
    let shows = shows_at (g.M.Memory.known c.args.memory.now).words c.args.root runs may.layout c.find_way-way.result.top way.goes.root_level may.shows in
    let longer : length (g.M.Memory.known c.args.memory.now).words ≤ length (g.M.Memory.known c.make_nodes-made.new.memory).words
    = omega (arith, c.make_nodes-made.ensures.size) in
    is_node_by_length (g.M.Memory.known c.args.memory.now).words (g.M.Memory.known c.make_nodes-made.new.memory).words c.find_way-way.result.lowest longer
    (lowest_is_node (g.M.Memory.known c.args.memory.now).words runs may.layout c.args.v c.find_way-way.result shows.0 way some)

pub overflow_add-way : goal.overflow_add-way
overflow_add-way g c =
    let runs = g.R.Runs.runs c.args.runs.now in
    let may = c.requires.may in
    let way = c.find_way-way.ensures.way may.layout may.shows in
    omega (arith, leaf_low runs c.args.v c.find_way-way.result.leaf c.find_way-way.ensures.are way.goes.over)

pub returns : goal.returns
returns g c = λ old shown.
    let runs = g.R.Runs.runs c.args.runs.now in
    let words = (g.M.Memory.known c.args.memory.now).words in
    let may = c.requires.may in
    let way = c.find_way-way.ensures.way old shown in
    let shows = shows_at words c.args.root runs old c.find_way-way.result.top way.goes.root_level shown in
    let agree = one_layout words c.args.root runs may.layout old may.shows shown in
    let growth : Growth = record {
      runs = runs;
      v = c.args.v;
      root = c.args.root;
      way = c.find_way-way.result;
      old = old;
      old_pool = c.args.pool.now;
      new_pool = c.make_nodes-made.new.pool;
      before = g.M.Memory.known c.args.memory.now;
      between = g.M.Memory.known c.make_nodes-made.new.memory;
      after = g.M.Memory.known c.link_path.new.memory;
      last = c.make_nodes-made.result;
      new_root = c.link_path.result;
      are = c.find_way-way.ensures.are;
      shows = shows.0;
      root_is = shows.1;
      taken = agree_taken c.args.pool.now may.layout old agree may.taken;
      room = may.room;
      way_is = way;
      some = lacks_some runs may.layout c.args.v c.find_way-way.result (c.find_way-way.ensures.way may.layout may.shows) may.uncovered;
      makes = c.make_nodes-made.ensures;
      links = c.link_path.ensures;
    } in
    builds growth c.border_of.result c.border_of-2.result c.border_of.ensures c.border_of-2.ensures
