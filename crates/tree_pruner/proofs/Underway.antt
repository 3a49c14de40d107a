-- Some functions have had their turns to give up their trees, and others have not.
use Rattle.std.proofs.Common.{◌≡◌, ◌≢◌, inl, inr, ℕ, ◌+◌, ◌-◌, ◌%◌, ◌^◌, ◌<◌, ◌≤◌, List, [], ◌∷◌, ◌++◌, length, drop, refl, sym, ap, subst, ◌∙◌, append-nil, append_assoc, arith}
use Rattle.std.specs.Prelude.{slice_index}
use Rattle.std.proofs.lemmas.Bool.{cases_eq}
use Rattle.std.proofs.lemmas.List.{drop_all, length-set}
use Rattle.nesc_base.specs.declared.runs.Run.{Run}
use Rattle.nesc_requests.specs.Machine.{most_functions}
use Rattle.host_memory.specs.Pool.{free_of}
use Rattle.tree_words.specs.Shown.{Layout}
use Rattle.tree_pruner.specs.Dropping.{GivesNodesBack}
use Rattle.tree_pruner.specs.Reclaiming.{AreTrees, DropsRoot, GivesUp, Grove, Reclaims, ReclaimsFor, TakesTurn, mask_of, turn_of, without_trees}
use Rattle.tree_pruner.specs.Roots.{IsFunction, root_of}
use Rattle.tree_pruner.proofs.Groves.{all_given_back, gives_up, one_more_gone, root_gone, root_stays, tree_there, trees_left}
use Rattle.tree_pruner.proofs.Turns.{mask_all, mask_append, turn_at, turns}

-- Each function that has a root has its turn yet to come.
abbrev pub Wait : ℕ → ℕ → Grove → Type 0
Wait f turn now = (g : ℕ) → IsFunction g → root_of now.roots g ≢ 0 → turn ≤ (g + 15 - f) % 16

-- The trees that there were at first, of which some have gone: what the later functions do completes it.
pub record Underway (runs : ℕ → List Run) (layouts : ℕ → Layout) (f needed turn mask : ℕ) (words : List ℕ) (old now : Grove) : Type 0 where
  pub gone : List ℕ
  pub mask_is : mask ≡ mask_of gone
  pub left : AreTrees now.pool words now.roots runs (without_trees gone layouts)
  pub as_many : length now.pool.taken ≡ length old.pool.taken
  pub rooted : length now.roots ≡ length old.roots
  pub rest : (victims : List ℕ) (new : Grove) → Reclaims layouts needed (drop turn (turn_of f)) now victims new
      → Reclaims layouts needed (turn_of f) old (gone ++ victims) new

pub none_gone : (runs : ℕ → List Run) (layouts : ℕ → Layout) (f needed : ℕ) (words : List ℕ) (old : Grove)
    → AreTrees old.pool words old.roots runs layouts → Underway runs layouts f needed 0 0 words old old
none_gone runs layouts f needed words old trees = record {
  gone = [];
  mask_is = refl;
  left = trees;
  as_many = refl;
  rooted = refl;
  rest = λ victims new reclaims. reclaims;
}

-- One turn

module _ (runs : ℕ → List Run) (layouts : ℕ → Layout) (f needed turn mask g bit : ℕ) (words : List ℕ) (old now next : Grove)
    (function : IsFunction g) (turns : drop turn (turn_of f) ≡ g ∷ drop (turn + 1) (turn_of f)) (few : free_of now.pool < needed)
    (under : Underway runs layouts f needed turn mask words old now) where
  -- what this function and the later ones do completes it
  before : (victims : List ℕ) (new : Grove) → Reclaims layouts needed (g ∷ drop (turn + 1) (turn_of f)) now victims new
      → Reclaims layouts needed (turn_of f) old (under.gone ++ victims) new
  before victims new reclaims =
      under.rest victims new (subst (λ (later : List ℕ). Reclaims layouts needed later now victims new) (sym turns) reclaims)

  passed : root_of now.roots g ≡ 0 → bit ≡ 0 → Underway runs layouts f needed (turn + 1) (mask + bit) words old now
  passed zero none = record {
    gone = under.gone;
    mask_is = (let is = under.mask_is in omega arith);
    left = under.left;
    as_many = under.as_many;
    rooted = under.rooted;
    rest = λ victims new reclaims. before victims new (inr (inl (few, zero, reclaims)));
  }

  taken : DropsRoot words g bit now next → Underway runs layouts f needed (turn + 1) (mask + bit) words old next
  taken drops =
      let current : ℕ → Layout = without_trees under.gone layouts in
      let there = tree_there now.pool words now.roots runs layouts under.gone g function under.left drops.stood in
      let gives : GivesUp current g now next = gives_up words runs current g bit now next function under.left drops in
      let own : GivesUp layouts g now next = record {
        stood = drops.stood;
        count = gives.count;
        nodes = subst (λ (layout : Layout). GivesNodesBack layout gives.count now.pool next.pool) there gives.nodes;
        root = drops.root;
      } in
      record {
        gone = under.gone ++ g ∷ [];
        mask_is = (
            let is = under.mask_is in
            let both = mask_append under.gone (g ∷ []) in
            let bit_is = drops.bit_is in
            omega arith);
        left = subst (λ (those : ℕ → Layout). AreTrees next.pool words next.roots runs those) (sym (one_more_gone layouts under.gone g))
            (trees_left words runs current g now next function under.left gives);
        as_many = gives.nodes.as_many ∙ under.as_many;
        rooted = ap (λ (roots : List ℕ). length roots) drops.root ∙ length-set now.roots (g - 1) 0 ∙ under.rooted;
        rest = λ victims new reclaims.
            subst (λ (all : List ℕ). Reclaims layouts needed (turn_of f) old all new) (sym (append_assoc under.gone (g ∷ []) victims))
            (before (g ∷ victims) new (inr (inr (few, (next, victims, own, refl, reclaims)))));
      }

  pub turn_taken : TakesTurn words g bit now next → Underway runs layouts f needed (turn + 1) (mask + bit) words old next
  turn_taken (inl (zero, none, same)) =
      subst (λ (after : Grove). Underway runs layouts f needed (turn + 1) (mask + bit) words old after) (sym same) (passed zero none)
  turn_taken (inr drops) = taken drops

-- Whose turn is over

pub all_wait : (f : ℕ) (now : Grove) → Wait f 0 now
all_wait f now g function stood = omega arith

-- the number of a function's turn is its own alone
own_turn : (f turn g h : ℕ) → IsFunction f → IsFunction g → turn < most_functions → h ≡ slice_index (turn_of f) turn
    → turn ≡ (g + 15 - f) % 16 → g ≡ h
own_turn f turn g h function other among is same =
    let at = turn_at f turn function among in
    let first = function.first in
    let last = function.last in
    let one = other.first in
    let end = other.last in
    omega arith

wait_later : (words : List ℕ) (f turn h bit : ℕ) (now next : Grove) → IsFunction f → IsFunction h → turn < most_functions
    → h ≡ slice_index (turn_of f) turn → Wait f turn now → root_of next.roots h ≡ 0
    → ((g : ℕ) → IsFunction g → g ≢ h → root_of next.roots g ≡ root_of now.roots g) → Wait f (turn + 1) next
wait_later words f turn h bit now next function own among is wait gone stay g other stood = elim (cases_eq g h) [
  | inl same ↦ absurd (stood (ap (λ (n : ℕ). root_of next.roots n) same ∙ gone))
  | inr apart ↦
      let from = wait g other (λ zero. stood (stay g other apart ∙ zero)) in
      let not : turn ≢ (g + 15 - f) % 16 = λ same. apart (own_turn f turn g h function other among is same) in
      omega arith
]

pub one_less_waits : (words : List ℕ) (f turn h bit : ℕ) (now next : Grove) → IsFunction f → IsFunction h → turn < most_functions
    → h ≡ slice_index (turn_of f) turn → TakesTurn words h bit now next → Wait f turn now → Wait f (turn + 1) next
one_less_waits words f turn h bit now next function own among is (inl (zero, none, same)) wait =
    subst (λ (after : Grove). Wait f (turn + 1) after) (sym same)
    (wait_later words f turn h bit now now function own among is wait zero (λ g other apart. refl))
one_less_waits words f turn h bit now next function own among is (inr drops) wait =
    wait_later words f turn h bit now next function own among is wait
    (ap (λ (roots : List ℕ). root_of roots h) drops.root ∙ root_gone now.roots h)
    (λ g other apart. ap (λ (roots : List ℕ). root_of roots g) drops.root ∙ root_stays now.roots g h other own apart)

-- after the last turn no function has a root
pub none_waits : (f turn : ℕ) (now : Grove) → most_functions ≤ turn → Wait f turn now → (g : ℕ) → IsFunction g → root_of now.roots g ≡ 0
none_waits f turn now past wait g function = elim (cases_eq (root_of now.roots g) 0) [
  | inl zero ↦ zero
  | inr stood ↦ absurd (let late = wait g function stood in omega arith)
]

-- The mask

-- the bits of the functions whose turn is yet to come fit beside the mask
abbrev pub Fits : ℕ → ℕ → ℕ → Type 0
Fits f turn mask = mask + mask_of (drop turn (turn_of f)) < 2 ^ 16

bit_at_most : (words : List ℕ) (g bit : ℕ) (now next : Grove) → TakesTurn words g bit now next → bit ≤ 2 ^ (g - 1)
bit_at_most words g bit now next (inl (zero, none, same)) = omega arith
bit_at_most words g bit now next (inr drops) = let is = drops.bit_is in omega arith

pub mask_fits : (words : List ℕ) (f turn mask g bit : ℕ) (now next : Grove) → drop turn (turn_of f) ≡ g ∷ drop (turn + 1) (turn_of f)
    → TakesTurn words g bit now next → Fits f turn mask → Fits f (turn + 1) (mask + bit)
mask_fits words f turn mask g bit now next turns takes fits =
    let most = bit_at_most words g bit now next takes in
    let is : mask_of (drop turn (turn_of f)) ≡ 2 ^ (g - 1) + mask_of (drop (turn + 1) (turn_of f)) = ap (λ (later : List ℕ). mask_of later) turns in
    omega arith

pub first_fits : (f : ℕ) → IsFunction f → Fits f 0 0
first_fits f function = let all = mask_all f function in omega arith

-- The end

module _ (runs : ℕ → List Run) (layouts : ℕ → Layout) (f needed turn mask : ℕ) (words : List ℕ) (old now : Grove)
    (under : Underway runs layouts f needed turn mask words old now) where
  ended : Reclaims layouts needed (drop turn (turn_of f)) now [] now → needed ≤ free_of now.pool
      → ReclaimsFor runs layouts f needed mask words old now
  ended none enough = record {
    victims = under.gone;
    reclaims = subst (λ (all : List ℕ). Reclaims layouts needed (turn_of f) old all now) (append-nil under.gone) (under.rest [] now none);
    mask_is = under.mask_is;
    enough = enough;
    left = under.left;
    as_many = under.as_many;
    rooted = under.rooted;
  }

  -- enough nodes are free while it is the turn of function g
  pub enough_free : (g : ℕ) → drop turn (turn_of f) ≡ g ∷ drop (turn + 1) (turn_of f) → needed ≤ free_of now.pool
      → ReclaimsFor runs layouts f needed mask words old now
  enough_free g turns enough = ended
      (subst (λ (later : List ℕ). Reclaims layouts needed later now [] now) (sym turns) (inl (enough, refl, refl))) enough

  -- each function has had its turn
  pub all_turns : IsFunction f → most_functions ≤ turn → Wait f turn now → needed ≤ length old.pool.taken
      → ReclaimsFor runs layouts f needed mask words old now
  all_turns function past wait within =
      let many = turns f function in
      let none = all_given_back now.pool words now.roots runs (without_trees under.gone layouts) under.left (none_waits f turn now past wait) in
      let size = under.as_many in
      ended
      (subst (λ (later : List ℕ). Reclaims layouts needed later now [] now) (sym (drop_all turn (turn_of f) (omega arith))) (refl, refl))
      (omega arith)
