use Rattle.tree_builder.proofs.way.nodes_needed.Goals as goal

pub returns : goal.returns
returns g c = λ layout shows.
    let way = c.find_way.ensures.way layout shows in
    record {
      top = c.find_way.result.top;
      root_level = way.goes.root_level;
      leaf = c.find_way.result.leaf;
      over = way.goes.over;
      lacks = way.lacks;
    }
