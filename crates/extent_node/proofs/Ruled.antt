-- Words that keep the rule of where they stand, by the rule of that place alone.
use Rattle.std.proofs.Common.{◌≡◌, ◌+◌, ◌<◌, ◌≤◌, ℕ, IsTrue, List, arith, below_more, false, refl, subst}
use Rattle.nesc_base.specs.declared.runs.Area.{Area}
use Rattle.extent_node.specs.Entries.{most_entries}
use Rattle.extent_node.specs.Rules.{CountRule, FirstRule, IsFirstBad, KeepBelow, KeepsRule, KindRule, NumberRule, PlaceRule}
use Rattle.extent_node.specs.Words.{count_word, first_word, place_word, word}

pub keeps_kind : (words : List ℕ) (memory_words : ℕ) (area : Area) → KindRule words → KeepsRule words memory_words area 0
keeps_kind words memory_words area rule = record {
  kind = λ e. rule;
  number = λ e. absurd (omega arith);
  first = λ k h e. absurd (omega arith);
  count = λ k h e. absurd (omega arith);
  place = λ k h e. absurd (omega arith);
  other = λ h. absurd (omega arith);
}

pub keeps_number : (words : List ℕ) (memory_words : ℕ) (area : Area) → NumberRule words → KeepsRule words memory_words area 1
keeps_number words memory_words area rule = record {
  kind = λ e. absurd (omega arith);
  number = λ e. rule;
  first = λ k h e. absurd (omega arith);
  count = λ k h e. absurd (omega arith);
  place = λ k h e. absurd (omega arith);
  other = λ h. absurd (omega arith);
}

pub keeps_first : (words : List ℕ) (memory_words : ℕ) (area : Area) (k : ℕ) → k < word words 1 → FirstRule words k
    → KeepsRule words memory_words area (first_word k)
keeps_first words memory_words area k one rule = record {
  kind = λ e. absurd (omega arith);
  number = λ e. absurd (omega arith);
  first = λ j h e. let same : k ≡ j = omega arith in subst (λ (i : ℕ). FirstRule words i) same rule;
  count = λ j h e. absurd (omega arith);
  place = λ j h e. absurd (omega arith);
  other = λ h. absurd (omega arith);
}

pub keeps_count : (words : List ℕ) (memory_words : ℕ) (area : Area) (k : ℕ) → k < word words 1 → CountRule words k
    → KeepsRule words memory_words area (count_word k)
keeps_count words memory_words area k one rule = record {
  kind = λ e. absurd (omega arith);
  number = λ e. absurd (omega arith);
  first = λ j h e. absurd (omega arith);
  count = λ j h e. let same : k ≡ j = omega arith in subst (λ (i : ℕ). CountRule words i) same rule;
  place = λ j h e. absurd (omega arith);
  other = λ h. absurd (omega arith);
}

pub keeps_place : (words : List ℕ) (memory_words : ℕ) (area : Area) (k : ℕ) → k < word words 1
    → PlaceRule words memory_words area k → KeepsRule words memory_words area (place_word k)
keeps_place words memory_words area k one rule = record {
  kind = λ e. absurd (omega arith);
  number = λ e. absurd (omega arith);
  first = λ j h e. absurd (omega arith);
  count = λ j h e. absurd (omega arith);
  place = λ j h e. let same : k ≡ j = omega arith in subst (λ (i : ℕ). PlaceRule words memory_words area i) same rule;
  other = λ h. absurd (omega arith);
}

pub keeps_other : (words : List ℕ) (memory_words : ℕ) (area : Area) (i : ℕ) → first_word (word words 1) ≤ i → word words i ≡ 0
    → KeepsRule words memory_words area i
keeps_other words memory_words area i behind zero = record {
  kind = λ e. absurd (omega arith);
  number = λ e. absurd (omega arith);
  first = λ j h e. absurd (omega arith);
  count = λ j h e. absurd (omega arith);
  place = λ j h e. absurd (omega arith);
  other = λ h. zero;
}

-- Where the words below the three of an entry keep their rules.

pub below_count : (words : List ℕ) (memory_words : ℕ) (area : Area) (k : ℕ) → k < word words 1
    → KeepBelow words memory_words area (first_word k) → FirstRule words k → KeepBelow words memory_words area (count_word k)
below_count words memory_words area k one below rule j less =
    below_more (KeepsRule words memory_words area) (first_word k) below (keeps_first words memory_words area k one rule) j (omega arith)

pub below_place : (words : List ℕ) (memory_words : ℕ) (area : Area) (k : ℕ) → k < word words 1
    → KeepBelow words memory_words area (first_word k) → FirstRule words k → CountRule words k
    → KeepBelow words memory_words area (place_word k)
below_place words memory_words area k one below first rule j less =
    below_more (KeepsRule words memory_words area) (count_word k) (below_count words memory_words area k one below first)
    (keeps_count words memory_words area k one rule) j (omega arith)

pub below_next : (words : List ℕ) (memory_words : ℕ) (area : Area) (k : ℕ) → k < word words 1
    → KeepBelow words memory_words area (first_word k) → FirstRule words k → CountRule words k → PlaceRule words memory_words area k
    → KeepBelow words memory_words area (first_word (k + 1))
below_next words memory_words area k one below first count rule j less =
    below_more (KeepsRule words memory_words area) (place_word k) (below_place words memory_words area k one below first count)
    (keeps_place words memory_words area k one rule) j (omega arith)

-- The first bad word is one of the three.

pub bad_first : (words : List ℕ) (memory_words : ℕ) (area : Area) (k : ℕ) → k < word words 1 → k < most_entries
    → KeepBelow words memory_words area (first_word k) → ¬ FirstRule words k
    → IsFirstBad words memory_words area (first_word k)
bad_first words memory_words area k one few below breaks = record {
  among = omega arith;
  below = below;
  breaks = λ keeps. breaks (keeps.first k one refl);
}

pub bad_count : (words : List ℕ) (memory_words : ℕ) (area : Area) (k : ℕ) → k < word words 1 → k < most_entries
    → KeepBelow words memory_words area (first_word k) → FirstRule words k → ¬ CountRule words k
    → IsFirstBad words memory_words area (count_word k)
bad_count words memory_words area k one few below first breaks = record {
  among = omega arith;
  below = below_count words memory_words area k one below first;
  breaks = λ keeps. breaks (keeps.count k one refl);
}

pub bad_place : (words : List ℕ) (memory_words : ℕ) (area : Area) (k : ℕ) → k < word words 1 → k < most_entries
    → KeepBelow words memory_words area (first_word k) → FirstRule words k → CountRule words k → ¬ PlaceRule words memory_words area k
    → IsFirstBad words memory_words area (place_word k)
bad_place words memory_words area k one few below first count breaks = record {
  among = omega arith;
  below = below_place words memory_words area k one below first count;
  breaks = λ keeps. breaks (keeps.place k one refl);
}

pub never_so : IsTrue false → ⊥
never_so e = cc
