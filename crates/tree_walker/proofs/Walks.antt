-- Walks, fetch by fetch.
use Rattle.std.proofs.Common.{◌≡◌, ◌≢◌, ◌+◌, ◌-◌, ◌≤◌, ℕ, List, [], ◌∷◌, ◌++◌, None, Option, Some, ap, arith, inl, inr, length, map, refl, subst, sym, ◌∙◌}
use Rattle.std.proofs.lemmas.List.{append-nil, append_assoc, length-map}
use Rattle.nesc_base.specs.declared.runs.Area.{Area}
use Rattle.nesc_base.specs.Fault.{Rose}
use Rattle.nesc_base.specs.Memory.{Fetches, KnownMemory, Lists, node_at}
use Rattle.extent_node.specs.declared.entries.Entry.{Entry}
use Rattle.extent_node.specs.declared.node.BadNode.{BadNode}
use Rattle.extent_node.specs.declared.node.Kind.{Kind}
use Rattle.extent_node.specs.declared.node.Kind.TheVariants.{Inner, Leaf}
use Rattle.extent_node.specs.Rules.{AreLeafEntries, IsChildIn, IsFirstBad, IsNode}
use Rattle.tree_walker.specs.declared.found.Found.{Found}
use Rattle.tree_walker.specs.declared.found.Found.TheVariants.{Bad, Pruned}
use Rattle.tree_walker.specs.declared.found.Verdict.{Verdict}
use Rattle.tree_walker.specs.declared.found.Verdict.TheVariants.{Ends, GoesOn}
use Rattle.tree_walker.specs.declared.found.WalkEnd.{WalkEnd}
use Rattle.tree_walker.specs.Walking.{AreFetched, EndsAt, Fetch, IsHolder, IsMappedInto, IsRoot, MapsInto, Says, Walks, WalksOn, WalksOver, addresses_of, bad_at, inner, inner_says, leaf, leaf_says, most_fetches, no_node, pruned, standing, too_deep}

-- Fetches, one after the other

lists_none : (fetched : Option (List ℕ)) → Lists [] fetched fetched
lists_none None = tt
lists_none (Some addresses) = (addresses, refl, sym (append-nil addresses))

pub none_made : (known : KnownMemory) → AreFetched [] known known
none_made known = record { words = refl; listed = lists_none known.fetched; never_falls = omega arith; gave = λ still. refl }

lists_first : (address : ℕ) (addresses : List ℕ) (old next new : Option (List ℕ)) → Lists (address ∷ []) old next
    → Lists addresses next new → Lists (address ∷ addresses) old new
lists_first address addresses old next None one more = tt
lists_first address addresses old next (Some all) one more =
    let first : Lists (address ∷ []) old (Some more.0) =
    subst (λ (told : Option (List ℕ)). Lists (address ∷ []) old told) more.1 one in (
      first.0,
      first.1,
      more.2 ∙ ap (λ (before : List ℕ). before ++ addresses) first.2 ∙ append_assoc first.0 (address ∷ []) addresses,
    )

rose_before : (old next new : ℕ) → next ≤ new → Rose old next → Rose old new
rose_before old next new later (inl more) = inl (omega arith)
rose_before old next new later (inr end) = inr (omega arith)

rose_later : (old next new : ℕ) → old ≤ next → Rose next new → Rose old new
rose_later old next new earlier (inl more) = inl (omega arith)
rose_later old next new earlier (inr end) = inr end

gave_first : (address : ℕ) (given : List ℕ) (old next new : KnownMemory) → Fetches address given old next → next.bent ≤ new.bent
    → ¬ Rose old.bent new.bent → given ≡ node_at old.words address
gave_first address given old next new fetches later still =
    elim fetches.gives [ inl same ↦ same | inr rose ↦ absurd (still (rose_before old.bent next.bent new.bent later rose)) ]

pub one_made : (address : ℕ) (given : List ℕ) (later : List Fetch) (old next new : KnownMemory) → Fetches address given old next
    → AreFetched later next new → AreFetched ((record { address = address; given = given }) ∷ later) old new
one_made address given later old next new fetches made =
    let same : next.words ≡ old.words = fetches.words in
    record {
      words = made.words ∙ same;
      listed = lists_first address (addresses_of later) old.fetched next.fetched new.fetched fetches.listed made.listed;
      never_falls = let one : old.bent ≤ next.bent = fetches.never_falls in let more : next.bent ≤ new.bent = made.never_falls in omega arith;
      gave = λ still.
          let first : given ≡ node_at old.words address = gave_first address given old next new fetches made.never_falls still in
          let rest : later ≡ map (standing next.words) (addresses_of later) =
          made.gave (λ rose. still (rose_later old.bent next.bent new.bent fetches.never_falls rose)) in
          let there : later ≡ map (standing old.words) (addresses_of later) =
          rest ∙ ap (λ (words : List ℕ). map (standing words) (addresses_of later)) same in
          let one : Fetch = record { address = address; given = given } in
          let is : one ≡ standing old.words address =
          ap (λ (words : List ℕ). let fetch : Fetch = record { address = address; given = words } in fetch) first in
          cc;
    }

-- What fetched words say

pub bad_judged : (memory_words : ℕ) (area : Area) (v address : ℕ) (words : List ℕ) (bad : BadNode) → bad.address ≡ address
    → IsFirstBad words memory_words area bad.word → Says memory_words area v (record { address = address; given = words }) (Ends (Bad bad))
bad_judged memory_words area v address words bad there first =
    no_node bad.word first (ap (λ (a : ℕ). let verdict : Verdict = Ends (bad_at a bad.word) in verdict) there)

pub leaf_judged : (memory_words : ℕ) (area : Area) (v address : ℕ) (words : List ℕ) (kind : Kind) (entries : List Entry)
    (holder : Option Entry) (found : Found) → kind ≡ Leaf → IsNode words memory_words area kind entries
    → IsHolder entries v holder → found ≡ leaf_says holder
    → Says memory_words area v (record { address = address; given = words }) (Ends found)
leaf_judged memory_words area v address words kind entries holder found is node holds says =
    leaf entries holder (subst (λ (k : Kind). IsNode words memory_words area k entries) is node) holds
    (ap (λ (f : Found). let verdict : Verdict = Ends f in verdict) says)

pub inner_judged : (memory_words : ℕ) (area : Area) (v address : ℕ) (words : List ℕ) (kind : Kind) (entries : List Entry)
    (holder : Option Entry) (verdict : Verdict) → kind ≡ Inner → IsNode words memory_words area kind entries
    → IsHolder entries v holder → verdict ≡ inner_says address holder
    → Says memory_words area v (record { address = address; given = words }) verdict
inner_judged memory_words area v address words kind entries holder verdict is node holds says =
    inner entries holder (subst (λ (k : Kind). IsNode words memory_words area k entries) is node) holds says

-- where the way goes on a node may stand
child_of_holder : (memory_words : ℕ) (area : Area) (v address next : ℕ) (words : List ℕ) (entries : List Entry) (holder : Option Entry)
    → IsNode words memory_words area Inner entries → IsHolder entries v holder → GoesOn next ≡ inner_says address holder
    → IsChildIn memory_words next
child_of_holder memory_words area v address next words entries None node holds says = cc
child_of_holder memory_words area v address next words entries (Some entry) node (k, stands, holds) says =
    let same : next ≡ entry.place = cc in
    rw same (node.inside k entry stands)

child_of : (memory_words : ℕ) (area : Area) (v next : ℕ) (fetch : Fetch) → Says memory_words area v fetch (GoesOn next)
    → IsChildIn memory_words next
child_of memory_words area v next fetch (no_node word first says) = cc
child_of memory_words area v next fetch (leaf entries holder node holds says) = cc
child_of memory_words area v next fetch (inner entries holder node holds says) =
    child_of_holder memory_words area v fetch.address next fetch.given entries holder node holds says

root_of_child : (words : List ℕ) (next : ℕ) → IsChildIn (length words) next → IsRoot words next
root_of_child words next (inl none) = inl none
root_of_child words next (inr child) = inr (record { aligned = child.aligned; within = child.within })

pub leads_to_root : (memory_words : ℕ) (area : Area) (v next : ℕ) (fetch : Fetch) (words : List ℕ) → memory_words ≡ length words
    → Says memory_words area v fetch (GoesOn next) → IsRoot words next
leads_to_root memory_words area v next fetch words size says =
    root_of_child words next (subst (λ (n : ℕ). IsChildIn n next) size (child_of memory_words area v next fetch says))

-- Walks

pub is_pruned : (left address v : ℕ) (area : Area) (known : KnownMemory) → address ≡ 0
    → Walks left address v area (record { found = Pruned; fetched = 0 }) known known
is_pruned left address v area known zero_ = record { fetches = []; made = none_made known; walks = pruned zero_ refl; counted = refl }

pub is_too_deep : (left address v : ℕ) (area : Area) (known : KnownMemory) → address ≢ 0 → left ≡ 0
    → Walks left address v area (record { found = bad_at address 0; fetched = 0 }) known known
is_too_deep left address v area known stands none = record {
  fetches = [];
  made = none_made known;
  walks = too_deep stands none refl;
  counted = refl;
}

pub ended : (left address v : ℕ) (area : Area) (given : List ℕ) (memory_words : ℕ) (found : Found) (old new : KnownMemory)
    → address ≢ 0 → 1 ≤ left → Fetches address given old new → memory_words ≡ length new.words
    → Says memory_words area v (record { address = address; given = given }) (Ends found)
    → Walks left address v area (record { found = found; fetched = 1 }) old new
ended left address v area given memory_words found old new stands one fetches size says =
    let fetch : Fetch = record { address = address; given = given } in
    let same : memory_words ≡ length old.words = size ∙ ap length fetches.words in
    record {
      fetches = fetch ∷ [];
      made = one_made address given [] old new new fetches (none_made new);
      walks = (
        Ends found,
        record { stands = stands; one_left = one; there = refl },
        subst (λ (n : ℕ). Says n area v fetch (Ends found)) same says,
        (refl, refl),
      );
      counted = refl;
    }

pub went_on : (left address v next : ℕ) (area : Area) (given : List ℕ) (memory_words : ℕ) (end : WalkEnd) (old mid new : KnownMemory)
    → address ≢ 0 → 1 ≤ left → Fetches address given old mid → memory_words ≡ length mid.words
    → Says memory_words area v (record { address = address; given = given }) (GoesOn next)
    → Walks (left - 1) next v area end mid new
    → Walks left address v area (record { found = end.found; fetched = 1 + end.fetched }) old new
went_on left address v next area given memory_words end old mid new stands one fetches size says later =
    let fetch : Fetch = record { address = address; given = given } in
    let same : memory_words ≡ length old.words = size ∙ ap length fetches.words in
    let words : length mid.words ≡ length old.words = ap length fetches.words in
    record {
      fetches = fetch ∷ later.fetches;
      made = one_made address given later.fetches old mid new fetches later.made;
      walks = (
        GoesOn next,
        record { stands = stands; one_left = one; there = refl },
        subst (λ (n : ℕ). Says n area v fetch (GoesOn next)) same says,
        subst (λ (n : ℕ). WalksOn n area v (left - 1) next later.fetches end.found) words later.walks,
      );
      counted = let count : end.fetched ≡ length later.fetches = later.counted in omega arith;
    }

pub over_words : (root v : ℕ) (area : Area) (end : WalkEnd) (old new : KnownMemory) → Walks most_fetches root v area end old new
    → ¬ Rose old.bent new.bent → WalksOver root v area end old new
over_words root v area end old new walks still = record {
  addresses = addresses_of walks.fetches;
  walk = subst (λ (fetches : List Fetch). WalksOn (length old.words) area v most_fetches root fetches end.found) (walks.made.gave still) walks.walks;
  listed = walks.made.listed;
  counted = walks.counted ∙ sym (length-map walks.fetches (λ (fetch : Fetch). fetch.address));
}

-- A run that is found

holder_maps : (memory_words : ℕ) (area : Area) (v : ℕ) (words : List ℕ) (entries : List Entry) (holder : Option Entry) (found : Found)
    → IsNode words memory_words area Leaf entries → IsHolder entries v holder → found ≡ leaf_says holder → IsMappedInto area v found
holder_maps memory_words area v words entries None found node holds says = subst (IsMappedInto area v) (sym says) tt
holder_maps memory_words area v words entries (Some entry) found node (k, stands, holds) says =
    let are : AreLeafEntries entries = node.are in
    let maps : MapsInto area v (record { first = entry.first; count = entry.count; place = entry.place }) =
    record { from = holds.from; below = holds.below; range = are.each k entry stands; inside = node.inside k entry stands } in
    subst (IsMappedInto area v) (sym says) maps

said_maps : (memory_words : ℕ) (area : Area) (v : ℕ) (fetch : Fetch) (found : Found) → Says memory_words area v fetch (Ends found)
    → IsMappedInto area v found
said_maps memory_words area v fetch found (no_node word first says) =
    let is : found ≡ bad_at fetch.address word = cc in subst (IsMappedInto area v) (sym is) tt
said_maps memory_words area v fetch found (leaf entries holder node holds says) =
    let is : found ≡ leaf_says holder = cc in
    holder_maps memory_words area v fetch.given entries holder found node holds is
said_maps memory_words area v fetch found (inner entries None node holds says) =
    let is : found ≡ bad_at fetch.address 1 = cc in subst (IsMappedInto area v) (sym is) tt
said_maps memory_words area v fetch found (inner entries (Some entry) node holds says) = cc

end_maps : (left address v : ℕ) (area : Area) (found : Found) → EndsAt left address found → IsMappedInto area v found
end_maps left address v area found (pruned none is) = subst (IsMappedInto area v) (sym is) tt
end_maps left address v area found (too_deep stands none is) = subst (IsMappedInto area v) (sym is) tt

pub walk_maps : (memory_words : ℕ) (area : Area) (v : ℕ) (fetches : List Fetch) (left address : ℕ) (found : Found)
    → WalksOn memory_words area v left address fetches found → IsMappedInto area v found
walk_maps memory_words area v [] left address found ends = end_maps left address v area found ends
walk_maps memory_words area v (fetch ∷ later) left address found (Ends end, is, says, follows) =
    subst (IsMappedInto area v) (sym follows.1) (said_maps memory_words area v fetch end says)
walk_maps memory_words area v (fetch ∷ later) left address found (GoesOn next, is, says, follows) =
    walk_maps memory_words area v later (left - 1) next found follows

pub fetches_few : (memory_words : ℕ) (area : Area) (v : ℕ) (fetches : List Fetch) (left address : ℕ) (found : Found)
    → WalksOn memory_words area v left address fetches found → length fetches ≤ left
fetches_few memory_words area v [] left address found ends = omega arith
fetches_few memory_words area v (fetch ∷ later) left address found (Ends end, is, says, follows) =
    let none : length later ≡ 0 = ap length follows.0 in
    let one : 1 ≤ left = is.one_left in
    omega arith
fetches_few memory_words area v (fetch ∷ later) left address found (GoesOn next, is, says, follows) =
    let few : length later ≤ left - 1 = fetches_few memory_words area v later (left - 1) next found follows in
    let one : 1 ≤ left = is.one_left in
    omega arith
