-- Over the words of a memory a walk ends in one way.
use Rattle.std.proofs.Common.{◌≡◌, ◌-◌, ◌≤◌, ℕ, List, [], ◌∷◌, None, Option, Some, ap, arith, inl, inr, length, map, refl, subst, sym, ◌∙◌}
use Rattle.std.proofs.lemmas.Bool.{cases_order}
use Rattle.nesc_base.specs.declared.runs.Area.{Area}
use Rattle.extent_node.specs.declared.entries.Entry.{Entry}
use Rattle.extent_node.specs.declared.node.Kind.{Kind}
use Rattle.extent_node.specs.declared.node.Kind.TheVariants.{Inner, Leaf}
use Rattle.extent_node.specs.Rules.{AreEntries, IsFirstBad, IsNode}
use Rattle.extent_node.proofs.Apart.{one_holds}
use Rattle.extent_node.proofs.Nodes.{node_keeps, one_node}
use Rattle.tree_walker.specs.declared.found.Found.{Found}
use Rattle.tree_walker.specs.declared.found.Verdict.{Verdict}
use Rattle.tree_walker.specs.declared.found.Verdict.TheVariants.{Ends, GoesOn}
use Rattle.tree_walker.specs.Walking.{EndsAt, Fetch, Follows, IsFetched, IsHolder, Says, WalksOn, bad_at, inner, inner_says, leaf, leaf_says, no_node, pruned, standing, too_deep}

one_first_bad : (words : List ℕ) (memory_words : ℕ) (area : Area) (i j : ℕ) → IsFirstBad words memory_words area i
    → IsFirstBad words memory_words area j → i ≡ j
one_first_bad words memory_words area i j one other =
    elim (cases_order i j) [
      | inl same ↦ same
      | inr apart ↦ elim apart [ inl less ↦ absurd (one.breaks (other.below i less)) | inr more ↦ absurd (other.breaks (one.below j more)) ]
    ]

never_bad : (words : List ℕ) (memory_words : ℕ) (area : Area) (i : ℕ) (kind : Kind) (entries : List Entry)
    → IsFirstBad words memory_words area i → IsNode words memory_words area kind entries → ⊥
never_bad words memory_words area i kind entries bad node = bad.breaks (node_keeps words memory_words area kind entries node i)

one_holder : (kind : Kind) (entries : List Entry) (v : ℕ) (holder other : Option Entry) → AreEntries kind entries
    → IsHolder entries v holder → IsHolder entries v other → holder ≡ other
one_holder kind entries v None None are one same = refl
one_holder kind entries v None (Some entry) are none (k, stands, holds) = absurd (none k entry stands holds)
one_holder kind entries v (Some entry) None are (k, stands, holds) none = absurd (none k entry stands holds)
one_holder kind entries v (Some entry) (Some other) are one same =
    ap (λ (e : Entry). let some : Option Entry = Some e in some) (one_holds kind entries v entry other are one same)

-- the holder among the entries of two nodes that have the same words
same_holder : (words : List ℕ) (memory_words : ℕ) (area : Area) (kind other : Kind) (entries others : List Entry) (v : ℕ)
    (holder held : Option Entry) → IsNode words memory_words area kind entries → IsNode words memory_words area other others
    → IsHolder entries v holder → IsHolder others v held → holder ≡ held
same_holder words memory_words area kind other entries others v holder held node same holds also =
    let is : entries ≡ others = (one_node words kind other entries others node.says same.says).1 in
    one_holder kind entries v holder held node.are holds (subst (λ (all : List Entry). IsHolder all v held) (sym is) also)

never_two_kinds : (words : List ℕ) (memory_words : ℕ) (area : Area) (entries others : List Entry)
    → IsNode words memory_words area Leaf entries → IsNode words memory_words area Inner others → ⊥
never_two_kinds words memory_words area entries others node same =
    let is : Leaf ≡ Inner = (one_node words Leaf Inner entries others node.says same.says).0 in cc

one_verdict : (memory_words : ℕ) (area : Area) (v : ℕ) (fetch : Fetch) (verdict other : Verdict)
    → Says memory_words area v fetch verdict → Says memory_words area v fetch other → verdict ≡ other
one_verdict memory_words area v fetch verdict other (no_node i bad says) (no_node j worse said) =
    says ∙ (ap (λ (n : ℕ). let end : Verdict = Ends (bad_at fetch.address n) in end) (one_first_bad fetch.given memory_words area i j bad worse) ∙ sym said)
one_verdict memory_words area v fetch verdict other (no_node i bad says) (leaf entries holder node holds said) =
    absurd (never_bad fetch.given memory_words area i Leaf entries bad node)
one_verdict memory_words area v fetch verdict other (no_node i bad says) (inner entries holder node holds said) =
    absurd (never_bad fetch.given memory_words area i Inner entries bad node)
one_verdict memory_words area v fetch verdict other (leaf entries holder node holds said) (no_node i bad says) =
    absurd (never_bad fetch.given memory_words area i Leaf entries bad node)
one_verdict memory_words area v fetch verdict other (inner entries holder node holds said) (no_node i bad says) =
    absurd (never_bad fetch.given memory_words area i Inner entries bad node)
one_verdict memory_words area v fetch verdict other (leaf entries holder node holds says) (inner others held same also said) =
    absurd (never_two_kinds fetch.given memory_words area entries others node same)
one_verdict memory_words area v fetch verdict other (inner entries holder node holds says) (leaf others held same also said) =
    absurd (never_two_kinds fetch.given memory_words area others entries same node)
one_verdict memory_words area v fetch verdict other (leaf entries holder node holds says) (leaf others held same also said) =
    says ∙ (ap (λ (h : Option Entry). let end : Verdict = Ends (leaf_says h) in end)
    (same_holder fetch.given memory_words area Leaf Leaf entries others v holder held node same holds also) ∙ sym said)
one_verdict memory_words area v fetch verdict other (inner entries holder node holds says) (inner others held same also said) =
    says ∙ (ap (inner_says fetch.address)
    (same_holder fetch.given memory_words area Inner Inner entries others v holder held node same holds also) ∙ sym said)

one_end : (left address : ℕ) (found other : Found) → EndsAt left address found → EndsAt left address other → found ≡ other
one_end left address found other (pruned none is) (pruned same also) = is ∙ sym also
one_end left address found other (pruned none is) (too_deep stands same also) = absurd (stands none)
one_end left address found other (too_deep stands same also) (pruned none is) = absurd (stands none)
one_end left address found other (too_deep stands none is) (too_deep stood same also) = is ∙ sym also

-- no walk ends where another fetches
never_ends : (left address : ℕ) (found : Found) (fetch : Fetch) → EndsAt left address found → IsFetched left address fetch → ⊥
never_ends left address found fetch (pruned none is) fetched = fetched.stands none
never_ends left address found fetch (too_deep stands none is) fetched = let one : 1 ≤ left = fetched.one_left in omega arith

no_address : (words addresses : List ℕ) → map (standing words) addresses ≡ [] → addresses ≡ []
no_address words [] none = refl
no_address words (a ∷ addresses) none = cc

-- where two walks go on alike, they find the same if what is behind the first fetch does
one_after : (words : List ℕ) (area : Area) (v left a b : ℕ) (addresses others : List ℕ) (found other : Found) (verdict : Verdict) → a ≡ b
    → ((next : ℕ) → WalksOn (length words) area v (left - 1) next (map (standing words) addresses) found
    → WalksOn (length words) area v (left - 1) next (map (standing words) others) other → (found ≡ other) × (addresses ≡ others))
    → Follows verdict (λ next. WalksOn (length words) area v (left - 1) next (map (standing words) addresses) found) (map (standing words) addresses) found
    → Follows verdict (λ next. WalksOn (length words) area v (left - 1) next (map (standing words) others) other) (map (standing words) others) other
    → (found ≡ other) × (a ∷ addresses ≡ b ∷ others)
one_after words area v left a b addresses others found other (Ends end) same rest one also =
    let none : addresses ≡ [] = no_address words addresses one.0 in
    let no_other : others ≡ [] = no_address words others also.0 in
    (one.1 ∙ sym also.1, cc)
one_after words area v left a b addresses others found other (GoesOn next) same rest one also =
    let both : (found ≡ other) × (addresses ≡ others) = rest next one also in
    (both.0, cc)

pub one_way : (words : List ℕ) (area : Area) (v : ℕ) (addresses others : List ℕ) (left root : ℕ) (found other : Found)
    → WalksOn (length words) area v left root (map (standing words) addresses) found
    → WalksOn (length words) area v left root (map (standing words) others) other
    → (found ≡ other) × (addresses ≡ others)
one_way words area v [] [] left root found other ends also = (one_end left root found other ends also, refl)
one_way words area v [] (b ∷ others) left root found other ends walk =
    absurd (never_ends left root found (standing words b) ends walk.1)
one_way words area v (a ∷ addresses) [] left root found other walk ends =
    absurd (never_ends left root other (standing words a) ends walk.1)
one_way words area v (a ∷ addresses) (b ∷ others) left root found other (verdict, is, says, follows) (second, also, said, later) =
    let at : a ≡ root = is.there in
    let same : a ≡ b = at ∙ sym also.there in
    let agree : verdict ≡ second =
    one_verdict (length words) area v (standing words a) verdict second says
    (subst (λ (n : ℕ). Says (length words) area v (standing words n) second) (sym same) said) in
    one_after words area v left a b addresses others found other verdict same
    (λ next one also. one_way words area v addresses others (left - 1) next found other one also)
    follows
    (subst (λ (w : Verdict).
    Follows w (λ next. WalksOn (length words) area v (left - 1) next (map (standing words) others) other) (map (standing words) others) other)
    (sym agree) later)
