-- What words show of a tree of which nothing stands.
use Rattle.std.proofs.Common.{◌≡◌, ℕ, List, length, sym, ◌∙◌}
use Rattle.nesc_base.specs.declared.runs.Run.{Run}
use Rattle.tree_shape.proofs.Spans.{one_top}
use Rattle.tree_words.specs.Shown.{Layout, Shows}

-- where nothing stands, the tree of any runs is shown
pub shows_none : (words : List ℕ) (root : ℕ) (runs : List Run) (layout : Layout) → root ≡ 0
    → ((level k : ℕ) → layout level k ≡ 0) → Shows words root runs layout
shows_none words root runs layout zero none =
    let top = (one_top (length runs)).some in
    record {
      top = top.0;
      root_is = zero ∙ sym (none top.0 0);
      shows = record {
        root_level = top.1;
        nodes = λ level k stands. absurd (stands (none level k));
        parents = λ level k under stands. absurd (stands (none level k));
        placed = λ level k stands. absurd (stands (none level k));
        says = λ level k stands. absurd (stands (none level k));
        apart = λ level k other j stands same. absurd (stands (none level k));
      };
    }
