-- The words of a node, looked at one by one, and words that are a node's since each of them says so.
use Rattle.std.proofs.Common.{◌≡◌, ◌+◌, ◌-◌, ◌*◌, ◌<◌, ◌≤◌, ℕ, zero, suc, List, [], ◌∷◌, ◌++◌, Option, Some, ap, arith, get_or, length, refl, replicate, slice_get, sym, ◌∙◌}
use Rattle.std.proofs.lemmas.List.{get_or-append_right}
use Rattle.std.proofs.lemmas.Option.{slice_get-get_or}
use Rattle.extent_node.specs.Entries.{most_entries}
use Rattle.extent_node.specs.Words.{entry_at, entry_words, first_word, kind_word, node_words, word}
use Rattle.extent_node.specs.declared.entries.Entry.{Entry}
use Rattle.extent_node.specs.declared.node.Kind.{Kind}

-- three words as an entry, the first of them three times k words on
abbrev three : List ℕ → ℕ → Entry
three words k = record { first = get_or words (3 * k) 0; count = get_or words (1 + 3 * k) 0; place = get_or words (2 + 3 * k) 0 }

same_entry : (a b c x y z : ℕ) → a ≡ x → b ≡ y → c ≡ z
    → (let one : Entry = record { first = a; count = b; place = c } in let other : Entry = record { first = x; count = y; place = z } in one ≡ other)
same_entry a b c x y z p q r = rw (p, q, r) refl

at_same : (words : List ℕ) (i j : ℕ) → i ≡ j → get_or words i 0 ≡ get_or words j 0
at_same words i j same = ap (λ (n : ℕ). get_or words n 0) same

three_behind : (a b c : ℕ) (words : List ℕ) (k : ℕ) → three (a ∷ b ∷ c ∷ words) (suc k) ≡ three words k
three_behind a b c words k =
    let all : List ℕ = a ∷ b ∷ c ∷ words in
    same_entry _ _ _ _ _ _ (at_same all (3 * suc k) (suc (suc (suc (3 * k)))) (omega arith))
    (at_same all (1 + 3 * suc k) (suc (suc (suc (1 + 3 * k)))) (omega arith))
    (at_same all (2 + 3 * suc k) (suc (suc (suc (2 + 3 * k)))) (omega arith))

pub entry_is_three : (a b : ℕ) (words : List ℕ) (k : ℕ) → entry_at (a ∷ b ∷ words) k ≡ three words k
entry_is_three a b words k =
    let all : List ℕ = a ∷ b ∷ words in
    same_entry _ _ _ _ _ _ (at_same all (2 + 3 * k) (suc (suc (3 * k))) (omega arith))
    (at_same all (3 + 3 * k) (suc (suc (1 + 3 * k))) (omega arith))
    (at_same all (4 + 3 * k) (suc (suc (2 + 3 * k))) (omega arith))

three_of : (entries : List Entry) (rest : List ℕ) (k : ℕ) (entry : Entry) → slice_get entries k ≡ Some entry
    → three (entry_words entries ++ rest) k ≡ entry
three_of [] rest k entry stands = cc
three_of (e ∷ entries) rest zero entry stands = cc
three_of (e ∷ entries) rest (suc k) entry stands =
    three_behind e.first e.count e.place (entry_words entries ++ rest) k ∙ three_of entries rest k entry stands

length-entry_words : (entries : List Entry) → length (entry_words entries) ≡ 3 * length entries
length-entry_words [] = refl
length-entry_words (e ∷ entries) = omega (arith, length-entry_words entries)

abbrev zeros_of_length : ℕ → List ℕ
zeros_of_length n = replicate n 0

zeros_everywhere : (n i : ℕ) → get_or (zeros_of_length n) i 0 ≡ 0
zeros_everywhere zero i = refl
zeros_everywhere (suc n) zero = refl
zeros_everywhere (suc n) (suc i) = zeros_everywhere n i

pub zero_behind_two : (a b i : ℕ) → 2 ≤ i → word (a ∷ b ∷ zeros_of_length 30) i ≡ 0
zero_behind_two a b i behind =
    let all : List ℕ = a ∷ b ∷ zeros_of_length 30 in
    at_same all i (suc (suc (i - 2))) (omega arith) ∙ zeros_everywhere 30 (i - 2)

-- The words of a node.

pub kind_at : (kind : Kind) (entries : List Entry) → word (node_words kind entries) 0 ≡ kind_word kind
kind_at kind entries = refl

pub number_at : (kind : Kind) (entries : List Entry) → word (node_words kind entries) 1 ≡ length entries
number_at kind entries = refl

pub entry_of_node : (kind : Kind) (entries : List Entry) (k : ℕ) (entry : Entry) → slice_get entries k ≡ Some entry
    → entry_at (node_words kind entries) k ≡ entry
entry_of_node kind entries k entry stands =
    entry_is_three (kind_word kind) (length entries) (entry_words entries ++ zeros_of_length (30 - 3 * length entries)) k
    ∙ three_of entries (zeros_of_length (30 - 3 * length entries)) k entry stands

pub zero_of_node : (kind : Kind) (entries : List Entry) (i : ℕ) → first_word (length entries) ≤ i
    → word (node_words kind entries) i ≡ 0
zero_of_node kind entries i behind =
    let zeros : List ℕ = zeros_of_length (30 - 3 * length entries) in
    let at : i ≡ suc (suc (i - 2)) = omega arith in
    at_same (node_words kind entries) i (suc (suc (i - 2))) at
    ∙ get_or-append_right (entry_words entries) zeros (3 * length entries) (i - 2) 0 (length-entry_words entries) (omega arith)
    ∙ zeros_everywhere (30 - 3 * length entries) (i - 2 - 3 * length entries)

-- Words that are a node's.

all_zeros : (words : List ℕ) → ((i : ℕ) → get_or words i 0 ≡ 0) → words ≡ zeros_of_length (length words)
all_zeros [] zeros = refl
all_zeros (w ∷ words) zeros =
    let first : w ≡ 0 = zeros 0 in
    let rest : words ≡ zeros_of_length (length words) = all_zeros words (λ i. zeros (suc i)) in
    cc

built : (entries : List Entry) (words : List ℕ) → 3 * length entries ≤ length words
    → ((k : ℕ) (entry : Entry) → slice_get entries k ≡ Some entry → three words k ≡ entry)
    → ((i : ℕ) → 3 * length entries ≤ i → get_or words i 0 ≡ 0)
    → words ≡ entry_words entries ++ zeros_of_length (length words - 3 * length entries)
built [] words long each zeros =
    let all : words ≡ zeros_of_length (length words) = all_zeros words (λ i. zeros i (omega arith)) in
    let count : length words ≡ length words - 0 = omega arith in
    all ∙ ap zeros_of_length count
built (e ∷ entries) [] long each zeros = absurd (omega arith)
built (e ∷ entries) (a ∷ []) long each zeros = absurd (omega arith)
built (e ∷ entries) (a ∷ b ∷ []) long each zeros = absurd (omega arith)
built (e ∷ entries) (a ∷ b ∷ c ∷ words) long each zeros =
    let first : three (a ∷ b ∷ c ∷ words) 0 ≡ e = each 0 e refl in
    let rest : words ≡ entry_words entries ++ zeros_of_length (length words - 3 * length entries) =
    built entries words (omega arith)
    (λ k entry stands. sym (three_behind a b c words k) ∙ each (suc k) entry stands)
    (λ i behind. zeros (suc (suc (suc i))) (omega arith)) in
    let count : length words - 3 * length entries ≡ length (a ∷ b ∷ c ∷ words) - 3 * length (e ∷ entries) = omega arith in
    let one : a ≡ e.first = ap (λ (entry : Entry). entry.first) first in
    let two : b ≡ e.count = ap (λ (entry : Entry). entry.count) first in
    let three_ : c ≡ e.place = ap (λ (entry : Entry). entry.place) first in
    let end : zeros_of_length (length words - 3 * length entries) ≡ zeros_of_length (length (a ∷ b ∷ c ∷ words) - 3 * length (e ∷ entries)) =
    ap zeros_of_length count in
    cc

pub are_node_words : (words : List ℕ) (kind : Kind) (entries : List Entry) → length words ≡ 32 → length entries ≤ most_entries
    → word words 0 ≡ kind_word kind → word words 1 ≡ length entries
    → ((k : ℕ) (entry : Entry) → slice_get entries k ≡ Some entry → entry_at words k ≡ entry)
    → ((i : ℕ) → first_word (length entries) ≤ i → word words i ≡ 0)
    → words ≡ node_words kind entries
are_node_words [] kind entries long few head number each zeros = absurd (omega arith)
are_node_words (a ∷ []) kind entries long few head number each zeros = absurd (omega arith)
are_node_words (a ∷ b ∷ words) kind entries long few head number each zeros =
    let count : length words ≡ 30 = omega arith in
    let rest : words ≡ entry_words entries ++ zeros_of_length (length words - 3 * length entries) =
    built entries words (omega arith)
    (λ k entry stands. sym (entry_is_three a b words k) ∙ each k entry stands)
    (λ i behind. zeros (suc (suc i)) (omega arith)) in
    let end : zeros_of_length (length words - 3 * length entries) ≡ zeros_of_length (30 - 3 * length entries) =
    ap (λ (n : ℕ). zeros_of_length (n - 3 * length entries)) count in
    cc

-- an entry that stands in a node's list is what its words say
pub stands_at : (words : List ℕ) (kind : Kind) (entries : List Entry) → words ≡ node_words kind entries → (k : ℕ) → k < length entries
    → slice_get entries k ≡ Some (entry_at words k)
stands_at words kind entries says k within =
    let none : Entry = record { first = 0; count = 0; place = 0 } in
    let stands : slice_get entries k ≡ Some (get_or entries k none) = slice_get-get_or entries k none within in
    let same : entry_at (node_words kind entries) k ≡ get_or entries k none = entry_of_node kind entries k (get_or entries k none) stands in
    stands ∙ ap (λ (entry : Entry). let some : Option Entry = Some entry in some) (sym same)
    ∙ ap (λ (all : List ℕ). let some : Option Entry = Some (entry_at all k) in some) (sym says)
