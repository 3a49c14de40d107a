-- A whole tree is the part of its root.
use Rattle.std.proofs.Common.{◌≡◌, ℕ, ◌+◌, ◌≤◌, List, sym, subst}
use Rattle.host_memory.specs.Pool.{IsTaken, Pool, free_of}
use Rattle.tree_shape.specs.Shape.{highest}
use Rattle.tree_shape.proofs.Beginnings.{few_runs}
use Rattle.tree_shape.proofs.Spans.{low_top}
use Rattle.tree_words.specs.Pools.{AreTaken}
use Rattle.tree_words.specs.Shown.{Layout}
use Rattle.tree_pruner.specs.Dropping.{DropsTree, HasTree}
use Rattle.tree_pruner.specs.Parts.{DropsPart, HasPart, IsInPart}
use Rattle.tree_pruner.proofs.Parts.{Under, part_of_tree, part_under, tree_in_part}

taken_under : (pool : Pool) (layout : Layout) → AreTaken pool layout → (level k address : ℕ) → IsInPart layout level k address → IsTaken pool address
taken_under pool layout taken level k address part =
    let u : Under layout level k address = part_under layout level k address part in
    subst (λ (a : ℕ). IsTaken pool a) (sym u.is) (taken u.at u.j u.stands)

pub tree_part : (pool : Pool) (words : List ℕ) (root : ℕ) → HasTree pool words root → HasPart pool words root highest
tree_part pool words root tree = record {
  runs = tree.runs;
  top = tree.shows.top;
  layout = tree.layout;
  shows = tree.shows.shows;
  level = tree.shows.top;
  k = 0;
  low = low_top _ tree.shows.top (few_runs tree.runs tree.are_runs) tree.shows.shows.root_level;
  is = tree.shows.root_is;
  taken = taken_under pool tree.layout tree.taken tree.shows.top 0;
}

pub tree_gone : (words : List ℕ) (root count : ℕ) (old new : Pool) → DropsPart words root old new → free_of new ≡ free_of old + count → DropsTree words root count old new
tree_gone words root count old new drops more runs layout are shows =
    let frees = drops runs shows.top layout shows.top 0 shows.shows shows.root_is in
    record {
      each = λ address. (
        λ taken.
            let both = (frees.each address).0 taken in
            (both.0, λ of. both.1 (tree_in_part words runs shows.top layout shows.shows address of)),
        λ both. (frees.each address).1 (both.0, λ part. both.1 (part_of_tree layout shows.top 0 address part)),
      );
      count_is = more;
      as_many = frees.as_many;
    }

pub tree_more : (pool new : Pool) (words : List ℕ) (root : ℕ) → HasTree pool words root → DropsPart words root pool new → free_of pool ≤ free_of new
tree_more pool new words root tree drops =
    let frees = drops tree.runs tree.shows.top tree.layout tree.shows.top 0 tree.shows.shows tree.shows.root_is in
    frees.more
