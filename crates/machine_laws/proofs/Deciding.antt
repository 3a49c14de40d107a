-- Whether a file has a name, or has one and no room, and whether a number is left for one more file.
use Rattle.std.proofs.Common.{◌≡◌, ◌≢◌, ℕ, zero, suc, nat_lt, lt-ltb, ltb-true, ◌+◌, ◌<◌, ◌≤◌, ◌&&◌, ◌⊎◌, inl, inr, ⊎_elim, Bool, true, false, List, [], ◌∷◌, length, Option, Some, None, IsSome, refl, sym, ap, ◌∙◌, subst, arith}
use Rattle.std.specs.Cmp.{unsigned_tied}
use Rattle.std.specs.FinMap.{get, keys, contains_key-keys}
use Rattle.std.specs.List.{list_any}
use Rattle.std.specs.Option.{is_some}
use Rattle.std.specs.Ordering.{nat_cmp, eq_by_cmp}
use Rattle.std.specs.Str.{bytes_eq}
use Rattle.std.proofs.lemmas.Bool.{and_parts, both_ways, cases_Bool, cases_eq, cases_lt, eqb-true, false≢true, or_cases}
use Rattle.std.proofs.lemmas.Slice.Eq.{bytes_eq-Decides}
use Rattle.nesc_base.specs.Files.{File, Files, IsFileSet}
use Rattle.file_model.specs.Files.{HasName, IsFull, IsLowestUnused, IsUnnamed, unheld}
use Rattle.file_model.proofs.OneChange.{lowest_one, nothing_there}

-- Files of which something is said

-- it is so of one of the files, with its number, or of none
abbrev pub Decided : (ℕ → File → Type 0) → Type 0
Decided P = ((n : ℕ) × (file : File) × P n file) ⊎ ((n : ℕ) (file : File) → ¬ P n file)

module _ (P : ℕ → File → Type 0) where
  -- the one that was found
  abbrev pub found : Decided P → Option (ℕ × File)
  found (inl one) = Some (one.0, one.1)
  found (inr none) = None

  pub found-Some : (decided : Decided P) (n : ℕ) (file : File) → ((m : ℕ) (other : File) → P m other → (m ≡ n) × (other ≡ file)) → P n file
      → found decided ≡ Some (n, file)
  found-Some (inl one) n file alone is = let same = alone one.0 one.1 one.2 in λ i. Some (same.0 i, same.1 i)
  found-Some (inr none) n file alone is = absurd (none n file is)

  pub found-None : (decided : Decided P) → ((n : ℕ) (file : File) → ¬ P n file) → found decided ≡ None
  found-None (inl one) none = absurd (none one.0 one.1 one.2)
  found-None (inr others) none = refl

  -- what comes to the same
  decided_as : (Q : ℕ → File → Type 0) → ((n : ℕ) (file : File) → P n file → Q n file) → ((n : ℕ) (file : File) → Q n file → P n file)
      → Decided P → Decided Q
  decided_as Q there back (inl one) = inl (one.0, one.1, there one.0 one.1 one.2)
  decided_as Q there back (inr none) = inr (λ n file is. none n file (back n file is))

-- A test of each file

-- the file of this number passes the test
abbrev Passes : Files → (File → Bool) → ℕ → File → Type 0
Passes files p n file = (get files n ≡ Some file) × (p file ≡ true)

-- none of these numbers is that of a file that passes
abbrev FailAmong : Files → (File → Bool) → List ℕ → Type 0
FailAmong files p numbers = (n : ℕ) → list_any (eq_by_cmp nat_cmp n) numbers ≡ true → (file : File) → ¬ Passes files p n file

-- what is found at one number passes or fails
passes_at : (files : Files) (p : File → Bool) (n : ℕ) (at : Option File) → get files n ≡ at
    → ((file : File) × Passes files p n file) ⊎ ((file : File) → ¬ Passes files p n file)
passes_at files p n None at = inr (λ file passes. let none : None ≡ Some file = sym at ∙ passes.0 in cc)
passes_at files p n (Some one) at =
    ⊎_elim (λ (is : p one ≡ true). inl (one, (at, is)))
    (λ (fails : p one ≡ false). inr (λ file passes.
    let same : one ≡ file = cc (sym at ∙ passes.0) in
    both_ways (p one) fails (ap p same ∙ passes.1)))
    (cases_Bool (p one))

-- the same number
tied : (m n : ℕ) → eq_by_cmp nat_cmp m n ≡ true → m ≡ n
tied m n e = eqb-true m n (sym (unsigned_tied m n) ∙ e)

-- a file of one of these numbers passes, or none of them
passes_among : (files : Files) (p : File → Bool) (numbers : List ℕ)
    → ((n : ℕ) × (file : File) × Passes files p n file) ⊎ FailAmong files p numbers
passes_among files p [] = inr (λ n among file passes. absurd (false≢true among))
passes_among files p (k ∷ numbers) =
    elim (passes_at files p k (get files k) refl) [
      | inl one ↦ inl (k, one.0, one.1)
      | inr here ↦ elim (passes_among files p numbers) [
        | inl one ↦ inl one
        | inr others ↦ inr (λ n among.
            ⊎_elim (λ (e : eq_by_cmp nat_cmp n k ≡ true). subst (λ (m : ℕ). (file : File) → ¬ Passes files p m file) (sym (tied n k e)) here) (others n)
            (or_cases (eq_by_cmp nat_cmp n k) (list_any (eq_by_cmp nat_cmp n) numbers) among))
      ]
    ]

-- a file passes, or none does: a number of a file is among the keys
passes_or_not : (files : Files) (p : File → Bool) → Decided (Passes files p)
passes_or_not files p =
    ⊎_elim inl
    (λ (none : FailAmong files p (keys files)). inr (λ n file passes. none n (sym (contains_key-keys files n) ∙ ap is_some passes.0) file passes))
    (passes_among files p (keys files))

-- Names

-- one file has the name
pub named_one : (files : Files) (name : List ℕ) (m n : ℕ) (file other : File) → IsFileSet files → HasName files name m file → HasName files name n other
    → (m ≡ n) × (file ≡ other)
named_one files name m n file other set first second =
    let number = set.apart m n file other first.stands second.stands (first.named ∙ sym second.named) in
    let stands : Some file ≡ Some other = sym first.stands ∙ ap (get files) number ∙ second.stands in
    (number, cc)

module _ (files : Files) (name : List ℕ) where
  -- a file has the name, or none has
  pub named_or_not : Decided (HasName files name)
  named_or_not =
      let decides = λ (file : File). bytes_eq-Decides file.name name in
      decided_as (Passes files (λ file. bytes_eq file.name name)) (HasName files name)
      (λ n file passes. record { stands = passes.0; named = (decides file).0 passes.1 })
      (λ n file has. (has.stands, (decides file).1 has.named))
      (passes_or_not files (λ file. bytes_eq file.name name))

  -- where none has it
  pub unnamed_if : ((n : ℕ) (file : File) → ¬ HasName files name n file) → IsUnnamed files name
  unnamed_if none n file stands named = none n file (record { stands = stands; named = named })

  -- the file of the name with its number, if there is one
  abbrev pub named_file : Option (ℕ × File)
  named_file = found (HasName files name) named_or_not

  pub named_file-Some : (n : ℕ) (file : File) → IsFileSet files → HasName files name n file → named_file ≡ Some (n, file)
  named_file-Some n file set named =
      found-Some (HasName files name) named_or_not n file (λ m other has. named_one files name m n other file set has named) named

  pub named_file-None : IsUnnamed files name → named_file ≡ None
  named_file-None unnamed = found-None (HasName files name) named_or_not (λ n file has. unnamed n file has.stands has.named)

-- Room

-- the file has the name, and of its n blocks from v on more are not held than data blocks are free
pub record IsCrowded (files : Files) (name : List ℕ) (v n are_free : ℕ) (number : ℕ) (file : File) : Type 0 where
  pub named : HasName files name number file
  pub few : are_free < length (unheld file v n)

module _ (files : Files) (name : List ℕ) (v n are_free : ℕ) where
  abbrev crowded : ℕ → File → Type 0
  crowded = IsCrowded files name v n are_free

  abbrev is_crowded : File → Bool
  is_crowded file = bytes_eq file.name name && nat_lt are_free (length (unheld file v n))

  is_crowded-true : (file : File) → file.name ≡ name → are_free < length (unheld file v n) → is_crowded file ≡ true
  is_crowded-true file named few = λ i. (bytes_eq-Decides file.name name).1 named i && lt-ltb _ _ few i

  pub crowded_or_not : Decided crowded
  crowded_or_not =
      decided_as (Passes files is_crowded) crowded
      (λ number file passes.
      let parts = and_parts (bytes_eq file.name name) (nat_lt are_free (length (unheld file v n))) passes.1 in
      record { named = record { stands = passes.0; named = (bytes_eq-Decides file.name name).0 parts.0 }; few = ltb-true _ _ parts.1 })
      (λ number file is. (is.named.stands, is_crowded-true file is.named.named is.few))
      (passes_or_not files is_crowded)

  -- where none is
  pub room_if : ((number : ℕ) (file : File) → ¬ crowded number file) → (number : ℕ) (file : File) → HasName files name number file
      → length (unheld file v n) ≤ are_free
  room_if none number file named =
      ⊎_elim (λ (few : are_free < length (unheld file v n)). absurd (none number file (record { named = named; few = few })))
      (λ (room : length (unheld file v n) ≤ are_free). room) (cases_lt are_free (length (unheld file v n)))

  -- the file of the name that is crowded, if there is one
  abbrev pub crowded_file : Option (ℕ × File)
  crowded_file = found crowded crowded_or_not

  pub crowded_file-Some : (number : ℕ) (file : File) → IsFileSet files → crowded number file → crowded_file ≡ Some (number, file)
  crowded_file-Some number file set is =
      found-Some crowded crowded_or_not number file (λ m other has. named_one files name m number other file set has.named is.named) is

  pub crowded_file-None : ((number : ℕ) (file : File) → ¬ crowded number file) → crowded_file ≡ None
  crowded_file-None = found-None crowded crowded_or_not

-- Numbers

-- each number below is used
abbrev IsUsedBelow : Files → ℕ → Type 0
IsUsedBelow files n = (m : ℕ) → 1 ≤ m → m < n → IsSome (get files m)

-- one more
used_more : (files : Files) (n : ℕ) → IsUsedBelow files n → IsSome (get files n) → IsUsedBelow files (n + 1)
used_more files n below here m first last =
    ⊎_elim (λ (e : m ≡ n). subst (λ (k : ℕ). IsSome (get files k)) (sym e) here)
    (λ (apart : m ≢ n). let earlier : m < n = omega arith in below m first earlier) (cases_eq m n)

-- a number is used or not
used_or_not : {X : Type 0} (found : Option X) → IsSome found ⊎ (found ≡ None)
used_or_not None = inr refl
used_or_not (Some x) = inl refl

-- from n on, with so many numbers left, one is the lowest that is unused, or each is used
unused_from : (files : Files) (n left : ℕ) → 1 ≤ n → n + left ≡ 33 → IsUsedBelow files n
    → ((m : ℕ) × IsLowestUnused files m) ⊎ IsFull files
unused_from files n zero first all below = inr (λ m low high. let under : m < n = omega arith in below m low under)
unused_from files n (suc left) first all below =
    let later : 1 ≤ n + 1 = omega arith in
    let fewer : n + 1 + left ≡ 33 = omega arith in
    let within : n ≤ 32 = omega arith in
    elim (used_or_not (get files n)) [
      | inl used ↦ unused_from files (n + 1) left later fewer (used_more files n below used)
      | inr unused ↦ inl (n, record { first = first; among = within; unused = unused; lower = below })
    ]

-- a number is the lowest that is unused, or each is used
pub unused_or_full : (files : Files) → ((n : ℕ) × IsLowestUnused files n) ⊎ IsFull files
unused_or_full files = unused_from files 1 32 (omega arith) (omega arith) (λ m low high. absurd (omega arith))

module _ (files : Files) where
  abbrev pub unused : ((n : ℕ) × IsLowestUnused files n) ⊎ IsFull files → Option ℕ
  unused (inl lowest) = Some lowest.0
  unused (inr full) = None

  unused-Some : (n : ℕ) (decided : ((n : ℕ) × IsLowestUnused files n) ⊎ IsFull files) → IsLowestUnused files n → unused decided ≡ Some n
  unused-Some n (inl other) lowest = ap Some (lowest_one files other.0 n other.1 lowest)
  unused-Some n (inr full) lowest = absurd (nothing_there _ lowest.unused (full n lowest.first lowest.among))

  unused-None : (decided : ((n : ℕ) × IsLowestUnused files n) ⊎ IsFull files) → IsFull files → unused decided ≡ None
  unused-None (inl lowest) full = absurd (nothing_there _ lowest.1.unused (full lowest.0 lowest.1.first lowest.1.among))
  unused-None (inr full) other = refl

  -- the lowest number that is unused, if there is one
  abbrev pub lowest_unused : Option ℕ
  lowest_unused = unused (unused_or_full files)

  pub lowest_unused-Some : (n : ℕ) → IsLowestUnused files n → lowest_unused ≡ Some n
  lowest_unused-Some n = unused-Some n (unused_or_full files)

  pub lowest_unused-None : IsFull files → lowest_unused ≡ None
  lowest_unused-None = unused-None (unused_or_full files)
