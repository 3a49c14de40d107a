-- The law of a memory's list of fetches.
use Rattle.std.proofs.Common.{◌≡◌, ℕ, List, [], ◌∷◌, ◌++◌, Option, None, Some, refl, sym, ap, ◌∙◌, subst, append_assoc}
use Rattle.std.proofs.lemmas.List.{append-nil}
use Rattle.std.proofs.lemmas.Option.{none-some, same_Some}
use Rattle.nesc_base.specs.Memory.{KnownMemory, Lists}
use Rattle.host_memory.specs.Words.{FetchesAll, HasFetched}

-- no fetch leaves the list
pub lists_none : (fetched : Option (List ℕ)) → Lists [] fetched fetched
lists_none None = tt
lists_none (Some before) = (before, refl, sym (append-nil before))

-- where addresses come behind, and then more, both are behind
pub lists_on : (first second : List ℕ) (a b c : Option (List ℕ)) → Lists first a b → Lists second b c → Lists (first ++ second) a c
lists_on first second a b None one next = tt
lists_on first second a None (Some all) one next = absurd (none-some next.0 next.1)
lists_on first second a (Some middle) (Some all) one next =
    let same : middle ≡ next.0 = same_Some middle next.0 next.1 in
    (one.0, one.1, next.2 ∙ ap (λ (xs : List ℕ). xs ++ second) (sym same ∙ one.2) ∙ append_assoc one.0 first second)

-- the addresses of fetches, one after the other, stand behind those of before
pub listed : (nodes : List ℕ) (old new : KnownMemory) → FetchesAll nodes old new → HasFetched nodes old new
listed [] old new same = subst (λ m. HasFetched [] old m) (sym same) (record { words = refl; bent = refl; listed = lists_none old.fetched })
listed (node ∷ nodes) old new all =
    let one = all.fetches in
    let more : HasFetched nodes all.next new = listed nodes all.next new all.rest in
    record {
      words = more.words ∙ one.words;
      bent = more.bent ∙ one.bent;
      listed = lists_on (node ∷ []) nodes old.fetched all.next.fetched new.fetched one.listed more.listed;
    }
