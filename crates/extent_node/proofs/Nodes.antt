-- Nodes keep the rules of words, and words that keep them are a node's.
use Rattle.std.proofs.Common.{◌≡◌, ◌⊎◌, ◌+◌, ◌-◌, ◌*◌, ◌<◌, ◌≤◌, ◌^◌, ℕ, zero, suc, List, MatchOption, None, Option, Some, ap, arith, inl, inr, length, map, refl, slice_get, subst, sym, ◌∙◌}
use Rattle.std.specs.List.{range_with_len}
use Rattle.std.proofs.lemmas.Bool.{cases_lt}
use Rattle.std.proofs.lemmas.List.{get_or_past, same_lists}
use Rattle.std.proofs.lemmas.List.FromFn.{get_or-map-range_with_len, length-map-range_with_len}
use Rattle.std.proofs.lemmas.Option.{get_or_from_slice_get, slice_get_within}
use Rattle.nesc_base.specs.declared.runs.Area.{Area}
use Rattle.nesc_base.specs.Files.{longest_file}
use Rattle.nesc_base.specs.Memory.{node_size}
use Rattle.extent_node.specs.Entries.{most_entries}
use Rattle.extent_node.specs.Rules.{AreInnerEntries, AreLeafEntries, CountRule, FirstRule, IsChildIn, HasHolding, Holds, HoldsNone, IsNode, IsRange, KeepAllRules, KeepsRule, KindRule, LiesIn, NumberRule, PlaceRule}
use Rattle.extent_node.specs.Laws.{AreOneNode, AreSomeNode, HaveNoBadWord}
use Rattle.extent_node.specs.Words.{AreReadable, count_word, entry_at, first_word, kind_word, node_words, place_word, word}
use Rattle.extent_node.specs.declared.entries.Entry.{Entry}
use Rattle.extent_node.specs.declared.node.Kind.{Kind}
use Rattle.extent_node.specs.declared.node.Kind.TheVariants.{Inner, Leaf}
use Rattle.extent_node.proofs.Listed.{are_node_words, stands_at, zero_of_node}

head_of : (words : List ℕ) (kind : Kind) (entries : List Entry) → words ≡ node_words kind entries → word words 0 ≡ kind_word kind
head_of words kind entries says = ap (λ (all : List ℕ). word all 0) says

pub number_of : (words : List ℕ) (kind : Kind) (entries : List Entry) → words ≡ node_words kind entries
    → word words 1 ≡ length entries
number_of words kind entries says = ap (λ (all : List ℕ). word all 1) says

zeros_of : (words : List ℕ) (kind : Kind) (entries : List Entry) → words ≡ node_words kind entries
    → (i : ℕ) → first_word (word words 1) ≤ i → word words i ≡ 0
zeros_of words kind entries says i behind =
    let number : word words 1 ≡ length entries = number_of words kind entries says in
    ap (λ (all : List ℕ). word all i) says ∙ zero_of_node kind entries i (omega arith)

-- A leaf keeps the rules.
leaf_keeps : (words : List ℕ) (memory_words : ℕ) (area : Area) (entries : List Entry) → IsNode words memory_words area Leaf entries
    → (i : ℕ) → KeepsRule words memory_words area i
leaf_keeps words memory_words area entries node i =
    let are : AreLeafEntries entries = node.are in
    let head : word words 0 ≡ 1 = head_of words Leaf entries node.says in
    let number : word words 1 ≡ length entries = number_of words Leaf entries node.says in
    let at = λ (k : ℕ) (within : k < word words 1). stands_at words Leaf entries node.says k (omega arith) in
    record {
      kind = λ e. inl head;
      number = λ e. record { few = let few : length entries ≤ most_entries = are.few in omega arith; some = λ inner. absurd (omega arith) };
      first = λ k within e. record {
        rising = λ before is leaf.
            let one : slice_get entries before ≡ Some (entry_at words before) = at before (omega arith) in
            let next : slice_get entries (before + 1) ≡ Some (entry_at words (before + 1)) = at (before + 1) (omega arith) in
            rw is (are.rising before (entry_at words before) (entry_at words (before + 1)) one next);
        joined = λ before is inner. absurd (omega arith);
      };
      count = λ k within e. are.each k (entry_at words k) (at k within);
      place = λ k within e. record {
        in_area = λ leaf. node.inside k (entry_at words k) (at k within);
        in_memory = λ inner. absurd (omega arith);
      };
      other = λ behind. zeros_of words Leaf entries node.says i behind;
    }

-- An inner node does.
inner_keeps : (words : List ℕ) (memory_words : ℕ) (area : Area) (entries : List Entry) → IsNode words memory_words area Inner entries
    → (i : ℕ) → KeepsRule words memory_words area i
inner_keeps words memory_words area entries node i =
    let are : AreInnerEntries entries = node.are in
    let head : word words 0 ≡ 2 = head_of words Inner entries node.says in
    let number : word words 1 ≡ length entries = number_of words Inner entries node.says in
    let at = λ (k : ℕ) (within : k < word words 1). stands_at words Inner entries node.says k (omega arith) in
    record {
      kind = λ e. inr head;
      number = λ e. record {
        few = let few : length entries ≤ most_entries = are.few in omega arith;
        some = λ inner. let some : 1 ≤ length entries = are.some in omega arith;
      };
      first = λ k within e. record {
        rising = λ before is leaf. absurd (omega arith);
        joined = λ before is inner.
            let one : slice_get entries before ≡ Some (entry_at words before) = at before (omega arith) in
            let next : slice_get entries (before + 1) ≡ Some (entry_at words (before + 1)) = at (before + 1) (omega arith) in
            rw is (are.joined before (entry_at words before) (entry_at words (before + 1)) one next);
      };
      count = λ k within e. are.each k (entry_at words k) (at k within);
      place = λ k within e. record {
        in_area = λ leaf. absurd (omega arith);
        in_memory = λ inner. node.inside k (entry_at words k) (at k within);
      };
      other = λ behind. zeros_of words Inner entries node.says i behind;
    }

pub node_keeps : (words : List ℕ) (memory_words : ℕ) (area : Area) (kind : Kind) (entries : List Entry)
    → IsNode words memory_words area kind entries → (i : ℕ) → KeepsRule words memory_words area i
node_keeps words memory_words area Leaf entries node i = leaf_keeps words memory_words area entries node i
node_keeps words memory_words area Inner entries node i = inner_keeps words memory_words area entries node i

-- The entries of words, in a list

abbrev pub entries_in : List ℕ → List Entry
entries_in words = map (entry_at words) (range_with_len 0 (word words 1))

pub length-entries_in : (words : List ℕ) → length (entries_in words) ≡ word words 1
length-entries_in words = length-map-range_with_len (entry_at words) 0 (word words 1)

pub in_list : (words : List ℕ) (k : ℕ) (entry : Entry) → slice_get (entries_in words) k ≡ Some entry
    → (k < word words 1) × (entry_at words k ≡ entry)
in_list words k entry stands =
    let few : length (entries_in words) ≡ word words 1 = length-entries_in words in
    let less : k < length (entries_in words) = slice_get_within (entries_in words) k entry stands in
    let within : k < word words 1 = omega arith in
    let zero_ : 0 + k ≡ k = omega arith in (
      within,
      sym (get_or-map-range_with_len (entry_at words) 0 (word words 1) k k entry within zero_)
          ∙ get_or_from_slice_get (entries_in words) k entry entry stands,
    )

-- a node's list is the one that its words have
pub entries_are : (words : List ℕ) (kind : Kind) (entries : List Entry) → words ≡ node_words kind entries → entries ≡ entries_in words
entries_are words kind entries says =
    let number : word words 1 ≡ length entries = number_of words kind entries says in
    let few : length (entries_in words) ≡ word words 1 = length-entries_in words in
    let long : length entries ≡ length (entries_in words) = omega arith in
    same_lists entries (entries_in words) long
    (λ k none within.
    let less : k < word words 1 = omega arith in
    let zero_ : 0 + k ≡ k = omega arith in
    get_or_from_slice_get entries k (entry_at words k) none (stands_at words kind entries says k within)
    ∙ sym (get_or-map-range_with_len (entry_at words) 0 (word words 1) k k none less zero_))

-- Words that keep the rules have the words of a leaf, or of an inner node.

zero_behind : (words : List ℕ) (memory_words : ℕ) (area : Area) → length words ≡ node_size → KeepAllRules words memory_words area
    → (i : ℕ) → first_word (word words 1) ≤ i → (i < node_size) ⊎ (node_size ≤ i) → word words i ≡ 0
zero_behind words memory_words area long keep i behind (inl within) = (keep i within).other behind
zero_behind words memory_words area long keep i behind (inr past) = get_or_past words i 0 (omega arith)

kept_words : (words : List ℕ) (memory_words : ℕ) (area : Area) (kind : Kind) → length words ≡ node_size
    → KeepAllRules words memory_words area → word words 0 ≡ kind_word kind → words ≡ node_words kind (entries_in words)
kept_words words memory_words area kind long keep head =
    let number : NumberRule words = (keep 1 (omega arith)).number refl in
    let few : length (entries_in words) ≡ word words 1 = length-entries_in words in
    let at_most : word words 1 ≤ most_entries = number.few in
    are_node_words words kind (entries_in words) long (omega arith) head (sym few)
    (λ k entry stands. (in_list words k entry stands).1)
    (λ i behind. zero_behind words memory_words area long keep i (omega arith) (cases_lt i node_size))

kept_ranges : (words : List ℕ) (memory_words : ℕ) (area : Area) → KeepAllRules words memory_words area
    → (k : ℕ) (entry : Entry) → slice_get (entries_in words) k ≡ Some entry → IsRange entry.first entry.count
kept_ranges words memory_words area keep k entry stands =
    let number : NumberRule words = (keep 1 (omega arith)).number refl in
    let at_most : word words 1 ≤ most_entries = number.few in
    let at : (k < word words 1) × (entry_at words k ≡ entry) = in_list words k entry stands in
    let rule : CountRule words k = (keep (count_word k) (omega arith)).count k at.0 refl in
    subst (λ (e : Entry). IsRange e.first e.count) at.1 rule

kept_firsts : (words : List ℕ) (memory_words : ℕ) (area : Area) → KeepAllRules words memory_words area
    → (k : ℕ) → k < word words 1 → FirstRule words k
kept_firsts words memory_words area keep k within =
    let number : NumberRule words = (keep 1 (omega arith)).number refl in
    let at_most : word words 1 ≤ most_entries = number.few in
    (keep (first_word k) (omega arith)).first k within refl

kept_places : (words : List ℕ) (memory_words : ℕ) (area : Area) → KeepAllRules words memory_words area
    → (k : ℕ) → k < word words 1 → PlaceRule words memory_words area k
kept_places words memory_words area keep k within =
    let number : NumberRule words = (keep 1 (omega arith)).number refl in
    let at_most : word words 1 ≤ most_entries = number.few in
    (keep (place_word k) (omega arith)).place k within refl

kept_leaf : (words : List ℕ) (memory_words : ℕ) (area : Area) → length words ≡ node_size → KeepAllRules words memory_words area
    → word words 0 ≡ 1 → IsNode words memory_words area Leaf (entries_in words)
kept_leaf words memory_words area long keep head =
    let number : NumberRule words = (keep 1 (omega arith)).number refl in
    let few : length (entries_in words) ≡ word words 1 = length-entries_in words in
    let at_most : word words 1 ≤ most_entries = number.few in
    record {
      says = kept_words words memory_words area Leaf long keep head;
      are = record {
        few = omega arith;
        each = kept_ranges words memory_words area keep;
        rising = λ k entry next stands follows.
            let at : (k < word words 1) × (entry_at words k ≡ entry) = in_list words k entry stands in
            let behind : (k + 1 < word words 1) × (entry_at words (k + 1) ≡ next) = in_list words (k + 1) next follows in
            rw (← at.1, ← behind.1) ((kept_firsts words memory_words area keep (k + 1) behind.0).rising k refl head);
      };
      inside = λ k entry stands.
          let at : (k < word words 1) × (entry_at words k ≡ entry) = in_list words k entry stands in
          subst (λ (e : Entry). LiesIn area e.place e.count) at.1 ((kept_places words memory_words area keep k at.0).in_area head);
    }

kept_inner : (words : List ℕ) (memory_words : ℕ) (area : Area) → length words ≡ node_size → KeepAllRules words memory_words area
    → word words 0 ≡ 2 → IsNode words memory_words area Inner (entries_in words)
kept_inner words memory_words area long keep head =
    let number : NumberRule words = (keep 1 (omega arith)).number refl in
    let few : length (entries_in words) ≡ word words 1 = length-entries_in words in
    let at_most : word words 1 ≤ most_entries = number.few in
    let some : 1 ≤ word words 1 = number.some head in
    record {
      says = kept_words words memory_words area Inner long keep head;
      are = record {
        some = omega arith;
        few = omega arith;
        each = kept_ranges words memory_words area keep;
        joined = λ k entry next stands follows.
            let at : (k < word words 1) × (entry_at words k ≡ entry) = in_list words k entry stands in
            let behind : (k + 1 < word words 1) × (entry_at words (k + 1) ≡ next) = in_list words (k + 1) next follows in
            rw (← at.1, ← behind.1) ((kept_firsts words memory_words area keep (k + 1) behind.0).joined k refl head);
      };
      inside = λ k entry stands.
          let at : (k < word words 1) × (entry_at words k ≡ entry) = in_list words k entry stands in
          subst (λ (e : Entry). IsChildIn memory_words e.place) at.1 ((kept_places words memory_words area keep k at.0).in_memory head);
    }

pub kept_node : (words : List ℕ) (memory_words : ℕ) (area : Area) (kind : Kind) → length words ≡ node_size
    → KeepAllRules words memory_words area → word words 0 ≡ kind_word kind → IsNode words memory_words area kind (entries_in words)
kept_node words memory_words area Leaf long keep head = kept_leaf words memory_words area long keep head
kept_node words memory_words area Inner long keep head = kept_inner words memory_words area long keep head

-- The laws

kind_of_word : (kind other : Kind) → kind_word kind ≡ kind_word other → kind ≡ other
kind_of_word Leaf Leaf same = refl
kind_of_word Leaf Inner same = absurd (omega arith)
kind_of_word Inner Leaf same = absurd (omega arith)
kind_of_word Inner Inner same = refl

pub some_node : (words : List ℕ) (memory_words : ℕ) (area : Area) → AreSomeNode words memory_words area
some_node words memory_words area long keep =
    elim ((keep 0 (omega arith)).kind refl) [
      | inl head ↦ (Leaf, entries_in words, kept_leaf words memory_words area long keep head)
      | inr head ↦ (Inner, entries_in words, kept_inner words memory_words area long keep head)
    ]

pub one_node : (words : List ℕ) → AreOneNode words
one_node words kind other entries others says said = (
  kind_of_word kind other (sym (head_of words kind entries says) ∙ head_of words other others said),
  entries_are words kind entries says ∙ sym (entries_are words other others said),
)

pub no_bad_word : (words : List ℕ) (memory_words : ℕ) (area : Area) → HaveNoBadWord words memory_words area
no_bad_word words memory_words area kind entries node = (
  λ j less. node_keeps words memory_words area kind entries node j,
  λ i bad. bad.breaks (node_keeps words memory_words area kind entries node i),
)

-- What a node's words say of a block

pub held_in_list : (words : List ℕ) (kind : Kind) (entries : List Entry) (v k : ℕ) → words ≡ node_words kind entries
    → k < word words 1 → Holds (entry_at words k) v → HasHolding entries v (entry_at words k)
held_in_list words kind entries v k says within holds =
    let number : word words 1 ≡ length entries = number_of words kind entries says in
    (k, stands_at words kind entries says k (omega arith), holds)

pub none_in_list : (words : List ℕ) (kind : Kind) (entries : List Entry) (v : ℕ) → words ≡ node_words kind entries
    → ((k : ℕ) → k < word words 1 → ¬ Holds (entry_at words k) v) → HoldsNone entries v
none_in_list words kind entries v says none k entry stands holds =
    let same : entries ≡ entries_in words = entries_are words kind entries says in
    let there : slice_get (entries_in words) k ≡ Some entry = sym (ap (λ (all : List Entry). slice_get all k) same) ∙ stands in
    let at : (k < word words 1) × (entry_at words k ≡ entry) = in_list words k entry there in
    none k at.0 (subst (λ (e : Entry). Holds e v) (sym at.1) holds)

pub found_in_list : (words : List ℕ) (kind : Kind) (entries : List Entry) (v : ℕ) (found : Option Entry)
    → words ≡ node_words kind entries
    → MatchOption found ((k : ℕ) → k < word words 1 → ¬ Holds (entry_at words k) v)
    (λ entry. (k : ℕ) × (k < word words 1) × (entry ≡ entry_at words k) × Holds entry v)
    → MatchOption found (HoldsNone entries v) (λ entry. HasHolding entries v entry)
found_in_list words kind entries v None says none = none_in_list words kind entries v says none
found_in_list words kind entries v (Some entry) says (k, within, is, holds) =
    subst (λ (e : Entry). HasHolding entries v e) (sym is)
    (held_in_list words kind entries v k says within (subst (λ (e : Entry). Holds e v) is holds))

-- Each word of a node is a number of 32 bits.

thirds : (n : ℕ) → (k : ℕ) × ((n ≡ 3 * k) ⊎ ((n ≡ 1 + 3 * k) ⊎ (n ≡ 2 + 3 * k)))
thirds zero = (0, inl refl)
thirds (suc zero) = (0, inr (inl refl))
thirds (suc (suc zero)) = (0, inr (inr refl))
thirds (suc (suc (suc n))) =
    let rest = thirds n in (
      suc rest.0,
      elim rest.1 [
        | inl e ↦ inl (omega arith)
        | inr others ↦ inr (elim others [ inl e ↦ inl (omega arith) | inr e ↦ inr (omega arith) ])
      ],
    )

small_range : (words : List ℕ) (k : ℕ) → CountRule words k
    → (word words (first_word k) < 2 ^ 32) × (word words (count_word k) < 2 ^ 32)
small_range words k rule =
    let filed : word words (first_word k) + word words (count_word k) ≤ longest_file = rule.filed in
    (omega arith, omega arith)

small_child : (memory_words address : ℕ) → memory_words < 2 ^ 32 → IsChildIn memory_words address → address < 2 ^ 32
small_child memory_words address small (inl none) = omega arith
small_child memory_words address small (inr child) = let within : address + node_size ≤ memory_words = child.within in omega arith

small_place : (words : List ℕ) (memory_words : ℕ) (area : Area) (k : ℕ) → memory_words < 2 ^ 32 → area.to < 2 ^ 32 → KindRule words
    → PlaceRule words memory_words area k → word words (place_word k) < 2 ^ 32
small_place words memory_words area k small few (inl leaf) rule =
    let end : word words (place_word k) + word words (count_word k) ≤ area.to = (rule.in_area leaf).to in omega arith
small_place words memory_words area k small few (inr inner) rule =
    small_child memory_words (word words (place_word k)) small (rule.in_memory inner)

small_entry : (words : List ℕ) (memory_words : ℕ) (area : Area) → memory_words < 2 ^ 32 → area.to < 2 ^ 32
    → KeepAllRules words memory_words area → (k : ℕ) → k < word words 1 → (i : ℕ)
    → (i ≡ first_word k) ⊎ ((i ≡ count_word k) ⊎ (i ≡ place_word k)) → word words i < 2 ^ 32
small_entry words memory_words area small few keep k within i at =
    let number : NumberRule words = (keep 1 (omega arith)).number refl in
    let at_most : word words 1 ≤ most_entries = number.few in
    let count : CountRule words k = (keep (count_word k) (omega arith)).count k within refl in
    elim at [
      | inl e ↦ rw e ((small_range words k count).0)
      | inr others ↦ elim others [
        | inl e ↦ rw e ((small_range words k count).1)
        | inr e ↦ rw e (small_place words memory_words area k small few ((keep 0 (omega arith)).kind refl) (kept_places words memory_words area keep k within))
      ]
    ]

small_head : (words : List ℕ) → KindRule words → word words 0 < 2 ^ 32
small_head words (inl leaf) = omega arith
small_head words (inr inner) = omega arith

small_among : (words : List ℕ) (memory_words : ℕ) (area : Area) → length words ≡ node_size → memory_words < 2 ^ 32
    → area.to < 2 ^ 32 → KeepAllRules words memory_words area → (i : ℕ) → word words (2 + i) < 2 ^ 32
small_among words memory_words area long small few keep i =
    elim (cases_lt (2 + i) (first_word (word words 1))) [
      | inl within ↦
          let at = thirds i in
          small_entry words memory_words area small few keep at.0 (elim at.1 [ inl e ↦ omega arith | inr others ↦ elim others [ inl e ↦ omega arith | inr e ↦ omega arith ] ])
          (2 + i) (elim at.1 [ inl e ↦ inl (omega arith) | inr others ↦ inr (elim others [ inl e ↦ inl (omega arith) | inr e ↦ inr (omega arith) ]) ])
      | inr behind ↦
          let zero_ : word words (2 + i) ≡ 0 = zero_behind words memory_words area long keep (2 + i) behind (cases_lt (2 + i) node_size) in
          omega arith
    ]

pub kept_readable : (words : List ℕ) (memory_words : ℕ) (area : Area) → length words ≡ node_size → memory_words < 2 ^ 32
    → area.to < 2 ^ 32 → KeepAllRules words memory_words area → AreReadable words
kept_readable words memory_words area long small few keep =
    let number : NumberRule words = (keep 1 (omega arith)).number refl in
    let at_most : word words 1 ≤ most_entries = number.few in
    record {
      few = at_most;
      small = λ i. elim (cases_lt i 2) [
        | inl low ↦ elim (cases_lt i 1) [
          | inl first ↦ let e : i ≡ 0 = omega arith in rw e (small_head words ((keep 0 (omega arith)).kind refl))
          | inr second ↦ let e : i ≡ 1 = omega arith in let less : word words 1 < 2 ^ 32 = omega arith in rw e less
        ]
        | inr high ↦ let e : i ≡ 2 + (i - 2) = omega arith in rw e (small_among words memory_words area long small few keep (i - 2))
      ];
    }

-- what a node's words are read as
pub read_as : (words : List ℕ) (memory_words : ℕ) (area : Area) (kind : Kind) (entries listed : List Entry)
    → IsNode words memory_words area kind entries → listed ≡ entries_in words → IsNode words memory_words area kind listed
read_as words memory_words area kind entries listed node is =
    subst (λ (all : List Entry). IsNode words memory_words area kind all) (entries_are words kind entries node.says ∙ sym is) node
