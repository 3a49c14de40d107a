-- The words of a node, and of all others, after words were put.
use Rattle.std.proofs.Common.{◌≡◌, ◌≢◌, ◌⊎◌, inl, inr, ℕ, zero, suc, ◌+◌, ◌-◌, ◌%◌, ◌<◌, ◌≤◌, List, [], ◌∷◌, ◌++◌, length, take, drop, get_or, Some, slice_get, refl, sym, ap, ◌∙◌, arith, length-append, length-drop, length-take}
use Rattle.std.specs.Prelude.{slice_set}
use Rattle.std.proofs.lemmas.Bool.{cases_lt}
use Rattle.std.proofs.lemmas.List.{append_assoc, drop-set-add, drop_more, get_or-append_right, get_or-drop, get_or-set_other, get_or-take, get_or_append_left, length-set, length-take-le, same_lists, set_at, take_more}
use Rattle.std.proofs.lemmas.Option.{slice_get-get_or}
use Rattle.nesc_base.specs.Memory.{IsNodeOf, node_at, node_size}
use Rattle.tree_words.specs.Changed.{with_words}
use Rattle.tree_words.specs.Laws.{PutsNode, PutsWord}

-- whether a node may stand at an address is said by how many words there are
pub is_node_by_length : (old new : List ℕ) (address : ℕ) → length old ≤ length new → IsNodeOf old address → IsNodeOf new address
is_node_by_length old new address longer is = let within = is.within in record { aligned = is.aligned; within = omega arith }

pub length_node_at : (words : List ℕ) (node : ℕ) → IsNodeOf words node → length (node_at words node) ≡ node_size
length_node_at words node is = let within = is.within in omega (arith, length-take 32 (drop node words), length-drop node words)

get_node_at : (words : List ℕ) (node j d : ℕ) → j < node_size → get_or (node_at words node) j d ≡ get_or words (node + j) d
get_node_at words node j d within = get_or-take 32 (drop node words) j d within ∙ get_or-drop node words j d

-- word j of a node is that of the memory
pub node_at_word : (words : List ℕ) (node j : ℕ) → IsNodeOf words node → j < node_size → slice_get (node_at words node) j ≡ slice_get words (node + j)
node_at_word words node j is within =
    let there = is.within in
    let among : node + j < length words = omega arith in
    let under : j < length (node_at words node) = omega (arith, length_node_at words node is) in
    slice_get-get_or (node_at words node) j 0 under ∙ ap (λ (word : ℕ). Some word) (get_node_at words node j 0 within)
    ∙ sym (slice_get-get_or words (node + j) 0 among)

-- nodes with the same words, one by one
same_node : (one other : List ℕ) (node : ℕ) → IsNodeOf one node → IsNodeOf other node
    → ((j d : ℕ) → j < node_size → get_or one (node + j) d ≡ get_or other (node + j) d) → node_at one node ≡ node_at other node
same_node one other node is isnt alike =
    let long : length (node_at one node) ≡ length (node_at other node) = length_node_at one node is ∙ sym (length_node_at other node isnt) in
    same_lists (node_at one node) (node_at other node) long (λ j d within.
    let less : j < 32 = omega (arith, length_node_at one node is) in
    get_node_at one node j d less ∙ alike j d less ∙ sym (get_node_at other node j d less))

-- two nodes have no word in common
pub beside : (node other j : ℕ) → node % node_size ≡ 0 → other % node_size ≡ 0 → other ≢ node → j < node_size
    → (other + j < node) ⊎ (node + node_size ≤ other + j)
beside node other j aligned lies apart within = elim (cases_lt other node) [
  | inl less ↦ inl (omega arith)
  | inr most ↦ elim (cases_lt node other) [
    | inl more ↦ inr (omega arith)
    | inr same ↦ absurd (apart (omega arith))
  ]
]

-- Words put in the place of others

pub length_with : (words : List ℕ) (at : ℕ) (put : List ℕ) → at + length put ≤ length words → length (with_words words at put) ≡ length words
length_with words at put fits =
    omega (arith, length-append (take at words ++ put) (drop (at + length put) words), length-append (take at words) put, length-take at words, length-drop (at + length put) words)

length_front : (words : List ℕ) (at : ℕ) (put : List ℕ) → at + length put ≤ length words → length (take at words ++ put) ≡ at + length put
length_front words at put fits = omega (arith, length-append (take at words) put, length-take at words)

pub with_here : (words : List ℕ) (at : ℕ) (put : List ℕ) (j d : ℕ) → at + length put ≤ length words → j < length put
    → get_or (with_words words at put) (at + j) d ≡ get_or put j d
with_here words at put j d fits within =
    let front : at + j < length (take at words ++ put) = omega (arith, length_front words at put fits) in
    let begin : length (take at words) ≡ at = omega (arith, length-take at words) in
    let low : at ≤ at + j = omega arith in
    let same : at + j - at ≡ j = omega arith in
    get_or_append_left (take at words ++ put) (drop (at + length put) words) d (at + j) front
    ∙ get_or-append_right (take at words) put at (at + j) d begin low
    ∙ ap (λ (i : ℕ). get_or put i d) same

pub with_below : (words : List ℕ) (at : ℕ) (put : List ℕ) (i d : ℕ) → at + length put ≤ length words → i < at
    → get_or (with_words words at put) i d ≡ get_or words i d
with_below words at put i d fits less =
    let front : i < length (take at words ++ put) = omega (arith, length_front words at put fits) in
    let begin : i < length (take at words) = omega (arith, length-take at words) in
    get_or_append_left (take at words ++ put) (drop (at + length put) words) d i front
    ∙ get_or_append_left (take at words) put d i begin
    ∙ get_or-take at words i d less

pub with_behind : (words : List ℕ) (at : ℕ) (put : List ℕ) (i d : ℕ) → at + length put ≤ length words → at + length put ≤ i
    → get_or (with_words words at put) i d ≡ get_or words i d
with_behind words at put i d fits past =
    let same : at + length put + (i - (at + length put)) ≡ i = omega arith in
    get_or-append_right (take at words ++ put) (drop (at + length put) words) (at + length put) i d (length_front words at put fits) past
    ∙ get_or-drop (at + length put) words (i - (at + length put)) d
    ∙ ap (λ (k : ℕ). get_or words k d) same

pub with_beside : (words : List ℕ) (at : ℕ) (put : List ℕ) (i d : ℕ) → at + length put ≤ length words → (i < at) ⊎ (at + length put ≤ i)
    → get_or (with_words words at put) i d ≡ get_or words i d
with_beside words at put i d fits (inl less) = with_below words at put i d fits less
with_beside words at put i d fits (inr past) = with_behind words at put i d fits past

pub puts_node : (words : List ℕ) (node : ℕ) (put : List ℕ) → IsNodeOf words node → length put ≡ node_size → PutsNode words node put
puts_node words node put is size =
    let there = is.within in
    let fits : node + length put ≤ length words = omega arith in
    let long : length (with_words words node put) ≡ length words = length_with words node put fits in
    let least : length words ≤ length (with_words words node put) = omega arith in
    let stays : (other : ℕ) → IsNodeOf words other → IsNodeOf (with_words words node put) other =
    λ other lies. is_node_by_length words (with_words words node put) other least lies in
    record {
      size = long;
      here = same_lists (node_at (with_words words node put) node) put (length_node_at (with_words words node put) node (stays node is) ∙ sym size) (λ j d within.
          let less : j < 32 = omega (arith, length_node_at (with_words words node put) node (stays node is)) in
          let among : j < length put = omega arith in
          get_node_at (with_words words node put) node j d less ∙ with_here words node put j d fits among);
      others = λ other lies apart. same_node (with_words words node put) words other (stays other lies) lies (λ j d within.
          with_beside words node put (other + j) d fits (elim (beside node other j is.aligned lies.aligned apart within) [
            | inl less ↦ inl less
            | inr past ↦ inr (omega arith)
          ]));
    }

-- One more word put behind those that were
pub with_more : (words : List ℕ) (at : ℕ) (put : List ℕ) (i d : ℕ) → i < length put → at + length put ≤ length words
    → slice_set (with_words words at (take i put)) (at + i) (get_or put i d) ≡ with_words words at (take (i + 1) put)
with_more words at put i d within fits =
    let front : List ℕ = take at words ++ take i put in
    let word : ℕ = get_or put i d in
    let rest : List ℕ = drop (at + i + 1) words in
    let few : i ≤ length put = omega arith in
    let more : i + 1 ≤ length put = omega arith in
    let fewer : at + length (take i put) ≡ at + i = omega (arith, length-take-le i put few) in
    let longer : at + i + 1 ≡ at + length (take (i + 1) put) = omega (arith, length-take-le (i + 1) put more) in
    let begin : length front ≡ at + i = omega (arith, length-append (take at words) (take i put), length-take at words, length-take-le i put few) in
    let among : at + i < length words = omega arith in
    let behind : drop (at + length (take i put)) words ≡ get_or words (at + i) d ∷ rest =
    ap (λ (n : ℕ). drop n words) fewer ∙ drop_more words (at + i) d among in
    ap (λ (tail : List ℕ). slice_set (front ++ tail) (at + i) word) behind
    ∙ set_at front (get_or words (at + i) d) rest word (at + i) begin
    ∙ sym (append_assoc front (word ∷ []) rest)
    ∙ ap (λ (head : List ℕ). head ++ rest) (append_assoc (take at words) (take i put) (word ∷ []) ∙ ap (λ (new : List ℕ). take at words ++ new) (sym (take_more put i d within)))
    ∙ ap (λ (n : ℕ). (take at words ++ take (i + 1) put) ++ drop n words) longer

-- One word

take-set_in : (n : ℕ) (words : List ℕ) (i word : ℕ) → take n (slice_set words i word) ≡ slice_set (take n words) i word
take-set_in zero words i word = refl
take-set_in (suc n) [] i word = refl
take-set_in (suc n) (w ∷ words) zero word = refl
take-set_in (suc n) (w ∷ words) (suc i) word = ap (λ (rest : List ℕ). w ∷ rest) (take-set_in n words i word)

pub puts_word : (words : List ℕ) (node j word : ℕ) → IsNodeOf words node → j < node_size → PutsWord words node j word
puts_word words node j word is within =
    let long : length (slice_set words (node + j) word) ≡ length words = length-set words (node + j) word in
    let least : length words ≤ length (slice_set words (node + j) word) = omega arith in
    record {
      size = long;
      here = ap (λ (rest : List ℕ). take 32 rest) (drop-set-add node words j word) ∙ take-set_in 32 (drop node words) j word;
      others = λ other lies apart.
          same_node (slice_set words (node + j) word) words other (is_node_by_length words (slice_set words (node + j) word) other least lies) lies (λ i d less.
          let away : other + i ≢ node + j = λ same. elim (beside node other i is.aligned lies.aligned apart less) [
            | inl low ↦ omega arith
            | inr high ↦ omega arith
          ] in
          get_or-set_other words (node + j) (other + i) word d away);
    }
