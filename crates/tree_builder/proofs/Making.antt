-- Making the nodes of a path, one after the other.
use Rattle.std.proofs.Common.{◌≡◌, ◌≢◌, ◌⊎◌, inl, inr, ℕ, zero, suc, ◌+◌, ◌-◌, ◌<◌, ◌≤◌, List, length, refl, sym, ap, ◌∙◌, subst, arith}
use Rattle.std.proofs.Math.Nat.{eq-or-lt_of_le}
use Rattle.std.proofs.lemmas.Bool.Decides.{eqb_tells}
use Rattle.nesc_base.specs.Memory.{KnownMemory, node_at, node_size}
use Rattle.nesc_base.specs.declared.runs.Run.{Run}
use Rattle.host_memory.specs.Pool.{HasRoom, IsAddress, IsFree, IsTaken, Pool, Takes}
use Rattle.host_memory.proofs.PoolLaws.{free_is_address, is_node_of, not_both, taken_or_free, takes}
use Rattle.tree_shape.specs.Shape.{node_over}
use Rattle.tree_words.specs.Changed.{WritesWords, with_node, with_words}
use Rattle.tree_builder.specs.Ways.{IsMade, MakesNodes, only, path_words}
use Rattle.tree_words.proofs.NodeWords.{with_node_other, words_size}
use Rattle.tree_words.proofs.Places.{is_node_by_length, puts_node}
use Rattle.tree_builder.proofs.Filling.{with_here}

-- none is made
pub makes_none : (runs : List Run) (leaf : ℕ) (pool : Pool) (memory : KnownMemory) (last : ℕ) → MakesNodes runs leaf 0 pool pool memory memory last
makes_none runs leaf pool memory last = record {
  made = λ _. 0;
  fresh = λ level less. absurd (omega arith);
  apart = λ level other less low same. absurd (omega arith);
  says = λ level less. absurd (omega arith);
  last_is = λ below is. absurd (omega arith);
  each = λ address. (
    λ taken. inl taken,
    λ either. elim either [
      | inl taken ↦ taken
      | inr of ↦ let less = of.1 in absurd (omega arith)
    ],
  );
  count_is = omega arith;
  as_many = refl;
  writes = refl;
  size = refl;
  others = λ address is none. refl;
}

-- one more is
more : (ℕ → ℕ) → ℕ → ℕ → ℕ → ℕ
more made count node level = with_node (λ l _. made l) count 0 node level 0

more_here : (made : ℕ → ℕ) (count node level : ℕ) → level ≡ count → more made count node level ≡ node
unfolding more
more_here made count node level same = with_here (λ l _. made l) count 0 node level 0 same refl

more_else : (made : ℕ → ℕ) (count node level : ℕ) → level ≢ count → more made count node level ≡ made level
unfolding more
more_else made count node level apart = with_node_other (λ l _. made l) count 0 node level 0 (inl apart)

more_below : (made : ℕ → ℕ) (count node level : ℕ) → level < count → more made count node level ≡ made level
more_below made count node level less = let apart : level ≢ count = omega arith in more_else made count node level apart

is_more : (made : ℕ → ℕ) (count node address : ℕ) → IsMade made count address → IsMade (more made count node) (count + 1) address
is_more made count node address is =
    let less = is.1 in
    (is.0, omega arith, is.2 ∙ sym (more_below made count node is.0 is.1))

is_new : (made : ℕ → ℕ) (count node address : ℕ) → address ≡ node → IsMade (more made count node) (count + 1) address
is_new made count node address same = (count, omega arith, same ∙ sym (more_here made count node count refl))

below_cases : (level count : ℕ) → level < count + 1 → (level ≡ count) ⊎ (level < count)
below_cases level count less = let le : level ≤ count = omega arith in eq-or-lt_of_le le

of_more : (made : ℕ → ℕ) (count node address : ℕ) → IsMade (more made count node) (count + 1) address → (address ≡ node) ⊎ IsMade made count address
of_more made count node address is = elim (below_cases is.0 count is.1) [
  | inl same ↦ inl (is.2 ∙ more_here made count node is.0 same)
  | inr less ↦ inr (is.0, less, is.2 ∙ more_below made count node is.0 less)
]

-- a leaf's words say nothing of a child
over_last : (runs : List Run) (leaf count last child : ℕ) → ((below : ℕ) → count ≡ below + 1 → last ≡ child)
    → path_words runs leaf count last ≡ path_words runs leaf count child
over_last runs leaf zero last child same = refl
over_last runs leaf (suc below) last child same = ap (λ (a : ℕ). path_words runs leaf (suc below) a) (same below (omega arith))

pub writes_on : (old now new : KnownMemory) → WritesWords old now → WritesWords now new → WritesWords old new
writes_on old now new first second = second ∙ ap (λ (m : KnownMemory). let k : KnownMemory = record m { words = new.words } in k) first

-- what is free now was free before the nodes were made
was_free : (runs : List Run) (leaf count : ℕ) (old_pool pool : Pool) (old now : KnownMemory) (last node : ℕ) → MakesNodes runs leaf count old_pool pool old now last
    → IsFree pool node → IsFree old_pool node
was_free runs leaf count old_pool pool old now last node makes free =
    let address = subst (λ (n : ℕ). IsAddress n node) makes.as_many (free_is_address pool node free) in
    elim (taken_or_free old_pool node address) [
      | inl taken ↦ absurd (not_both pool node ((makes.each node).1 (inl taken)) free)
      | inr was ↦ was
    ]

pub makes_more : (runs : List Run) (leaf count : ℕ) (old_pool pool new_pool : Pool) (old now new : KnownMemory) (last node : ℕ) (words : List ℕ)
    → HasRoom (length old.words) old_pool → MakesNodes runs leaf count old_pool pool old now last → Takes pool node new_pool
    → (let put : KnownMemory = record now { words = with_words now.words node words } in new ≡ put) → words ≡ path_words runs leaf count last
    → MakesNodes runs leaf (count + 1) old_pool new_pool old new node
makes_more runs leaf count old_pool pool new_pool old now new last node words room makes took stores is =
    let taken = takes pool new_pool node took in
    let made = makes.made in
    let room_now : HasRoom (length now.words) pool = omega (arith, room, makes.as_many, makes.size) in
    let room_then : HasRoom (length now.words) new_pool = omega (arith, room_now, taken.as_many) in
    let place = is_node_of now.words new_pool node room_then taken.after in
    let long : length words ≡ node_size = ap length is ∙ words_size runs (only (count - 1) (node_over (count - 1) leaf) last) count (node_over count leaf) in
    let puts = puts_node now.words node words place long in
    let news : new.words ≡ with_words now.words node words = ap (λ (m : KnownMemory). m.words) stores in
    let pooled : (level : ℕ) → level < count → IsTaken pool (made level) = λ level less. (makes.each (made level)).1 (inr (level, less, refl)) in
    let other : (address : ℕ) → IsTaken pool address → address ≢ node
    = λ address in_pool same. not_both pool node (subst (λ (a : ℕ). IsTaken pool a) same in_pool) taken.before in
    let stays : (address : ℕ) → IsTaken pool address → IsTaken new_pool address
    = λ address in_pool. (taken.others.taken address (other address in_pool)).0 in_pool in
    record {
      made = more made count node;
      fresh = λ level less. elim (below_cases level count less) [
        | inl same ↦ subst (λ (a : ℕ). IsFree old_pool a) (sym (more_here made count node level same))
            (was_free runs leaf count old_pool pool old now last node makes taken.before)
        | inr low ↦ subst (λ (a : ℕ). IsFree old_pool a) (sym (more_below made count node level low)) (makes.fresh level low)
      ];
      apart = λ level beside less near same. elim (below_cases level count less) [
        | inl top ↦ elim (below_cases beside count near) [
          | inl high ↦ top ∙ sym high
          | inr low ↦ absurd (other (made beside) (pooled beside low)
              (sym (more_below made count node beside low) ∙ sym same ∙ more_here made count node level top))
        ]
        | inr under ↦ elim (below_cases beside count near) [
          | inl high ↦ absurd (other (made level) (pooled level under)
              (sym (more_below made count node level under) ∙ same ∙ more_here made count node beside high))
          | inr low ↦ makes.apart level beside under low (sym (more_below made count node level under) ∙ same ∙ more_below made count node beside low)
        ]
      ];
      says = λ level less. elim (below_cases level count less) [
        | inl same ↦ subst (λ (l : ℕ). node_at new.words (more made count node l) ≡ path_words runs leaf l (more made count node (l - 1))) (sym same)
            (ap (λ (a : ℕ). node_at new.words a) (more_here made count node count refl)
            ∙ ap (λ (ws : List ℕ). node_at ws node) news ∙ puts.here ∙ is
            ∙ over_last runs leaf count last (more made count node (count - 1)) (λ below at.
            let low : count - 1 < count = omega arith in
            let down : below ≡ count - 1 = omega arith in
            makes.last_is below at ∙ ap made down ∙ sym (more_below made count node (count - 1) low)))
        | inr low ↦
            let down : level - 1 < count = omega arith in
            ap (λ (a : ℕ). node_at new.words a) (more_below made count node level low)
            ∙ ap (λ (ws : List ℕ). node_at ws (made level)) news
            ∙ puts.others (made level) (is_node_of now.words pool (made level) room_now (pooled level low)) (other (made level) (pooled level low))
            ∙ makes.says level low
            ∙ ap (λ (a : ℕ). path_words runs leaf level a) (sym (more_below made count node (level - 1) down))
      ];
      last_is = λ below at. let same : below ≡ count = omega arith in sym (more_here made count node below same);
      each = λ address. (
        λ in_new. elim (eqb_tells address node) [
          | inl same ↦ inr (is_new made count node address same.1)
          | inr apart ↦ elim ((makes.each address).0 ((taken.others.taken address apart.1).1 in_new)) [
            | inl before ↦ inl before
            | inr of ↦ inr (is_more made count node address of)
          ]
        ],
        λ either. elim either [
          | inl before ↦ stays address ((makes.each address).1 (inl before))
          | inr of ↦ elim (of_more made count node address of) [
            | inl same ↦ subst (λ (a : ℕ). IsTaken new_pool a) (sym same) taken.after
            | inr older ↦ stays address ((makes.each address).1 (inr older))
          ]
        ],
      );
      count_is = omega (arith, taken.one_less, makes.count_is);
      as_many = taken.as_many ∙ makes.as_many;
      writes = writes_on old now new makes.writes (stores ∙ ap (λ (ws : List ℕ). let k : KnownMemory = record now { words = ws } in k) (sym news));
      size = ap length news ∙ puts.size ∙ makes.size;
      others = λ address at not_made.
          let longer : length old.words ≤ length now.words = omega (arith, makes.size) in
          ap (λ (ws : List ℕ). node_at ws address) news
          ∙ puts.others address (is_node_by_length old.words now.words address longer at) (λ same. not_made (is_new made count node address same))
          ∙ makes.others address at (λ of. not_made (is_more made count node address of));
    }
