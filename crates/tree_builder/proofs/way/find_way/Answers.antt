use Rattle.std.proofs.Common.{◌≡◌, ◌≢◌, ℕ, ◌+◌, ◌-◌, ◌<◌, ◌^◌, List, length, Some, slice_get, sym, ◌∙◌, subst, arith}
use Rattle.std.proofs.lemmas.Option.{same_Some}
use Rattle.tree_shape.specs.Shape.{IsTop, node_over}
use Rattle.nesc_base.specs.Memory.{node_at}
use Rattle.tree_builder.specs.Ways.{slot, slot_word}
use Rattle.tree_shape.proofs.Beginnings.{few_runs}
use Rattle.tree_builder.proofs.Going.{goes_from, goes_on, goes_to_end, low_address, next_is_node, next_says, shows_at, some_by, top_low}
use Rattle.tree_builder.proofs.way.find_way.Goals as goal

pub top_of-top-requires : goal.top_of-top-requires
top_of-top-requires g c = omega (arith, c.count.ensures.count, few_runs (g.R.Runs.runs c.args.runs.now) c.count.ensures.are)

less_by_one : (n : ℕ) → 0 < n → n - 1 < n
less_by_one n some = omega arith

-- the word says so
abbrev said_at : List ℕ → ℕ → ℕ → ℕ → ℕ → Type 0
said_at words node below leaf address = slice_get (node_at words node) (slot_word (slot below leaf)) ≡ Some address

pub overflow_add-way : goal.overflow_add-way
overflow_add-way g c =
    let runs = g.R.Runs.runs c.args.runs.now in
    let top_is = subst (λ (n : ℕ). IsTop n c.top_of-top.result) c.count.ensures.count c.top_of-top.ensures in
    let top = top_low runs c.top_of-top.result c.count.ensures.are top_is in
    omega (arith, top)

pub loop-next-init : goal.loop-next-init
loop-next-init g c = λ layout shows.
    let top_is = subst (λ (n : ℕ). IsTop n c.top_of-top.result) c.count.ensures.count c.top_of-top.ensures in
    goes_from (g.M.Memory.known c.args.memory.now).words c.args.root (g.R.Runs.runs c.args.runs.now) layout c.args.v c.top_of-top.result
    c.leaf_over.result c.count.ensures.are top_is c.leaf_over.ensures shows

pub overflow_sub-way : goal.overflow_sub-way
overflow_sub-way g c =
    let now = c.loop-next.invariant c.requires.shows.0 c.requires.shows.1 in
    let some : c.loop-next.next ≢ 0 = omega arith in
    omega (arith, some_by c.loop-next.way.lacking c.loop-next.next now.1.end some)

pub next_below-next-requires-clause-node : goal.next_below-next-requires-clause-node
next_below-next-requires-clause-node g c = λ _.
    let words = (g.M.Memory.known c.args.memory.now).words in
    let runs = g.R.Runs.runs c.args.runs.now in
    let layout = c.requires.shows.0 in
    let now = c.loop-next.invariant layout c.requires.shows.1 in
    let some : c.loop-next.next ≢ 0 = omega arith in
    let shows = shows_at words c.args.root runs layout c.loop-next.way.top now.0.root_level c.requires.shows.1 in
    next_is_node words runs c.loop-next.way.top layout c.args.v c.loop-next.way c.loop-next.next shows.0 now.1 some

pub next_below-next-requires-clause-low : goal.next_below-next-requires-clause-low
next_below-next-requires-clause-low g c =
    let runs = g.R.Runs.runs c.args.runs.now in
    let now = c.loop-next.invariant c.requires.shows.0 c.requires.shows.1 in
    let most = now.0.most in
    omega (arith, top_low runs c.loop-next.way.top c.count.ensures.are now.0.root_level, most)

pub next_below-next-requires-clause-small : goal.next_below-next-requires-clause-small
next_below-next-requires-clause-small g c = λ address inner says.
    let words = (g.M.Memory.known c.args.memory.now).words in
    let runs = g.R.Runs.runs c.args.runs.now in
    let layout = c.requires.shows.0 in
    let now = c.loop-next.invariant layout c.requires.shows.1 in
    let some : c.loop-next.next ≢ 0 = omega arith in
    let below : ℕ = c.loop-next.way.lacking - 1 - 1 in
    let at : c.loop-next.way.lacking - 1 ≡ below + 1 = omega arith in
    let shows = shows_at words c.args.root runs layout c.loop-next.way.top now.0.root_level c.requires.shows.1 in
    let is = next_says words runs layout c.args.v c.loop-next.way c.loop-next.next c.count.ensures.are shows.0 now.0 now.1 some below at in
    let short : length words < 2 ^ 32 = omega (arith, c.words-words.ensures) in
    let same : address ≡ layout below (node_over below c.loop-next.way.leaf)
    = same_Some address (layout below (node_over below c.loop-next.way.leaf)) (sym says ∙ is) in
    omega (arith, same, low_address words runs c.loop-next.way.top layout shows.0 short below (node_over below c.loop-next.way.leaf))

pub loop-next-smaller : goal.loop-next-smaller
loop-next-smaller g c =
    let now = c.loop-next.invariant c.requires.shows.0 c.requires.shows.1 in
    let some : c.loop-next.next ≢ 0 = omega arith in
    let lacking = some_by c.loop-next.way.lacking c.loop-next.next now.1.end some in
    less_by_one c.loop-next.way.lacking lacking

pub loop-next-preserved : goal.loop-next-preserved
loop-next-preserved g c = λ layout shown.
    let words = (g.M.Memory.known c.args.memory.now).words in
    let runs = g.R.Runs.runs c.args.runs.now in
    let now = c.loop-next.invariant layout shown in
    let some : c.loop-next.next ≢ 0 = omega arith in
    let shows = shows_at words c.args.root runs layout c.loop-next.way.top now.0.root_level shown in (
      goes_on runs layout c.args.v c.loop-next.way c.loop-next.next now.0 now.1 some,
      record {
        lower = λ below at.
            let inner : 0 < c.loop-next.way.lacking - 1 = omega arith in
            let same : c.loop-next.way.lacking - 1 - 1 ≡ below = omega arith in
            let is = next_says words runs layout c.args.v c.loop-next.way c.loop-next.next c.count.ensures.are shows.0 now.0 now.1 some below at in
            let said = subst (λ (b : ℕ). said_at words c.loop-next.next b c.loop-next.way.leaf c.next_below-next.result) same
            (c.next_below-next.ensures.inner inner) in
            same_Some c.next_below-next.result (layout below (node_over below c.loop-next.way.leaf)) (sym said ∙ is);
        end = λ none. c.next_below-next.ensures.leaf none;
      },
    )

pub returns-clause-way : goal.returns-clause-way
returns-clause-way g c = λ layout shown.
    let words = (g.M.Memory.known c.args.memory.now).words in
    let runs = g.R.Runs.runs c.args.runs.now in
    let now = c.loop-next.invariant layout shown in
    let none : c.loop-next.next ≡ 0 = omega arith in
    let shows = shows_at words c.args.root runs layout c.loop-next.way.top now.0.root_level shown in
    goes_to_end words runs layout c.args.v c.loop-next.way c.loop-next.next shows.0 now.0 now.1 none
