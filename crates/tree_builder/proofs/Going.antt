-- Going down a path.
use Rattle.std.proofs.Common.{◌≡◌, ◌≢◌, inl, inr, ℕ, zero, suc, ◌+◌, ◌-◌, ◌^◌, ◌<◌, ◌≤◌, List, length, Some, slice_get, refl, sym, ap, ◌∙◌, subst, arith}
use Rattle.std.proofs.Math.Nat.{eq-or-lt_of_le}
use Rattle.nesc_base.specs.Memory.{IsNodeOf, node_at}
use Rattle.nesc_base.specs.declared.runs.Run.{Run}
use Rattle.nesc_base.specs.Runs.{AreRuns}
use Rattle.tree_shape.specs.Shape.{IsLeafOver, IsTop, children, highest, node_over}
use Rattle.tree_shape.proofs.Beginnings.{few_runs}
use Rattle.tree_shape.proofs.Paths.{node_there, over_above, over_root}
use Rattle.tree_shape.proofs.Spans.{low_top, same_top}
use Rattle.tree_words.specs.Shown.{Layout, Shows, ShowsAt, Stands}
use Rattle.tree_builder.specs.declared.way.Way.{Way}
use Rattle.tree_builder.specs.Ways.{GoesDown, IsNext, IsWay, slot, slot_word}
use Rattle.tree_words.proofs.NodeWords.{is_child}
use Rattle.tree_words.proofs.Paths.{stands_above}
use Rattle.tree_words.proofs.Showing.{child_word, stands_or_not}
use Rattle.tree_builder.proofs.Filling.{slot_of_over}

pub some_by : (n m : ℕ) → (n ≡ 0 → m ≡ 0) → m ≢ 0 → 0 < n
some_by zero m none some = absurd (some (none refl))
some_by (suc n) m none some = omega arith

pub top_low : (runs : List Run) (top : ℕ) → AreRuns runs → IsTop (length runs) top → top ≤ highest
top_low runs top are at = low_top (length runs) top (few_runs runs are) at

-- the words show the tree with its root at this level
pub shows_at : (words : List ℕ) (root : ℕ) (runs : List Run) (layout : Layout) (top : ℕ) → IsTop (length runs) top → Shows words root runs layout
    → ShowsAt words runs top layout × (root ≡ layout top 0)
shows_at words root runs layout top at shows =
    let same = same_top (length runs) shows.top top shows.shows.root_level at in
    (subst (λ (level : ℕ). ShowsAt words runs level layout) same shows.shows, subst (λ (level : ℕ). root ≡ layout level 0) same shows.root_is)

-- at the root
pub goes_from : (words : List ℕ) (root : ℕ) (runs : List Run) (layout : Layout) (v top leaf : ℕ) → AreRuns runs → IsTop (length runs) top → IsLeafOver runs v leaf
    → Shows words root runs layout
    → (let way : Way = record { top = top; leaf = leaf; lacking = top + 1; lowest = 0 } in GoesDown runs layout v way × IsNext layout way root)
goes_from words root runs layout v top leaf are at over shows =
    let root_at = (shows_at words root runs layout top at shows).1 in
    let first = over_root runs top v leaf are at over in (
      record {
        root_level = at;
        over = over;
        most = omega arith;
        have = λ level low high. absurd (omega arith);
        lowest = λ low. absurd (omega arith);
        none = λ _. refl;
      },
      record {
        lower = λ below is.
            let level : top ≡ below = omega arith in
            root_at ∙ ap (λ (k : ℕ). layout top k) (sym first) ∙ ap (λ (l : ℕ). layout l (node_over l leaf)) level;
        end = λ none. absurd (omega arith);
      },
    )

-- a level lower
pub goes_on : (runs : List Run) (layout : Layout) (v : ℕ) (way : Way) (next : ℕ) → GoesDown runs layout v way → IsNext layout way next → next ≢ 0
    → GoesDown runs layout v (record { top = way.top; leaf = way.leaf; lacking = way.lacking - 1; lowest = next })
goes_on runs layout v way next goes is some =
    let lacking : 0 < way.lacking = some_by way.lacking next is.end some in
    let most = goes.most in
    let one : way.lacking ≡ way.lacking - 1 + 1 = omega arith in
    let here = is.lower (way.lacking - 1) one in
    record {
      root_level = goes.root_level;
      over = goes.over;
      most = omega arith;
      have = λ level low high. elim (eq-or-lt_of_le low) [
        | inl same ↦ λ none. some (here ∙ ap (λ (l : ℕ). layout l (node_over l way.leaf)) same ∙ none)
        | inr less ↦ goes.have level (omega arith) high
      ];
      lowest = λ low. here;
      none = λ all. absurd (omega arith);
    }

-- what the word in the slot of the path says
pub slot_says : (words : List ℕ) (runs : List Run) (top : ℕ) (layout : Layout) (v leaf below : ℕ) → AreRuns runs → IsLeafOver runs v leaf → ShowsAt words runs top layout
    → below < top → Stands layout (below + 1) (node_over (below + 1) leaf)
    → slice_get (node_at words (layout (below + 1) (node_over (below + 1) leaf))) (slot_word (slot below leaf)) ≡ Some (layout below (node_over below leaf))
slot_says words runs top layout v leaf below are over shows less stands =
    let under : below ≤ top = omega arith in
    let there = node_there runs top v leaf below are over under in
    let child = is_child runs top below (node_over below leaf) there in
    let among = subst (λ (k : ℕ). slot below leaf < children (length runs) below k) (sym (over_above below leaf)) child.0 in
    child_word words runs top layout shows below (node_over (below + 1) leaf) (slot below leaf) stands among
    ∙ ap (λ (k : ℕ). Some (layout below k)) (slot_of_over below leaf)

-- where the next node stands
pub next_is_node : (words : List ℕ) (runs : List Run) (top : ℕ) (layout : Layout) (v : ℕ) (way : Way) (next : ℕ) → ShowsAt words runs top layout
    → IsNext layout way next → next ≢ 0 → IsNodeOf words next
next_is_node words runs top layout v way next shows is some =
    let lacking : 0 < way.lacking = some_by way.lacking next is.end some in
    let one : way.lacking ≡ way.lacking - 1 + 1 = omega arith in
    let here = is.lower (way.lacking - 1) one in
    let stands : Stands layout (way.lacking - 1) (node_over (way.lacking - 1) way.leaf) = λ none. some (here ∙ none) in
    subst (λ (a : ℕ). IsNodeOf words a) (sym here) (shows.placed (way.lacking - 1) (node_over (way.lacking - 1) way.leaf) stands)

-- an address that is shown is a number of 32 bits
pub low_address : (words : List ℕ) (runs : List Run) (top : ℕ) (layout : Layout) → ShowsAt words runs top layout → length words < 2 ^ 32
    → (level k : ℕ) → layout level k < 2 ^ 32
low_address words runs top layout shows short level k = elim (stands_or_not layout level k) [
  | inl none ↦ omega arith
  | inr stands ↦ let within = (shows.placed level k stands).within in omega arith
]

-- what is in the slot of the next node, once it is reached
pub next_says : (words : List ℕ) (runs : List Run) (layout : Layout) (v : ℕ) (way : Way) (next : ℕ) → AreRuns runs → ShowsAt words runs way.top layout
    → GoesDown runs layout v way → IsNext layout way next → next ≢ 0 → (below : ℕ) → way.lacking - 1 ≡ below + 1
    → slice_get (node_at words next) (slot_word (slot below way.leaf)) ≡ Some (layout below (node_over below way.leaf))
next_says words runs layout v way next are shows goes is some below at =
    let lacking : 0 < way.lacking = some_by way.lacking next is.end some in
    let most = goes.most in
    let two : way.lacking ≡ below + 1 + 1 = omega arith in
    let here = is.lower (below + 1) two in
    let stands : Stands layout (below + 1) (node_over (below + 1) way.leaf) = λ none. some (here ∙ none) in
    let less : below < way.top = omega arith in
    ap (λ (a : ℕ). slice_get (node_at words a) (slot_word (slot below way.leaf))) here
    ∙ slot_says words runs way.top layout v way.leaf below are goes.over shows less stands

pub zero_by : (n : ℕ) → (n ≢ 0 → ⊥) → n ≡ 0
zero_by zero some = refl
zero_by (suc n) some = absurd (some (λ is. absurd (omega arith)))

-- at the end
pub goes_to_end : (words : List ℕ) (runs : List Run) (layout : Layout) (v : ℕ) (way : Way) (next : ℕ) → ShowsAt words runs way.top layout → GoesDown runs layout v way
    → IsNext layout way next → next ≡ 0 → IsWay runs layout v way
goes_to_end words runs layout v way next shows goes is none =
    let most = goes.most in
    record {
      goes = goes;
      lacks = record {
        most = goes.most;
        lack = λ level less. zero_by (layout level (node_over level way.leaf)) (λ stands.
            let low : level ≤ way.lacking - 1 = omega arith in
            let high : way.lacking - 1 ≤ way.top = omega arith in
            let one : way.lacking ≡ way.lacking - 1 + 1 = omega arith in
            stands_above words runs way.top way.leaf layout shows level (way.lacking - 1) low high stands (sym (is.lower (way.lacking - 1) one) ∙ none));
        have = goes.have;
      };
    }
