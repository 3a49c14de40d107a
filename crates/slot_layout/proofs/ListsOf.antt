-- Reading the list of a slot: what stands where in it, and when there is none.
use Rattle.std.proofs.Common.{◌/◌, ◌≡◌, ◌≢◌, ℕ, zero, suc, ◌+◌, ◌-◌, ◌*◌, ◌<◌, ◌≤◌, ◌⊎◌, inl, inr, List, [], ◌∷◌, ◌++◌, length, take, drop, set, slice_index, slice_get, Some, refl, sym, ap, ◌∙◌, arith, append_assoc, length-append, length-take}
use Rattle.std.proofs.lemmas.Bool.{cases_lt}
use Rattle.std.proofs.lemmas.List.{drop_more, drop-append-le, take-append-drop, get_or_append_left, get_or-append_right, get_or-set_other, get_or-set_same, get_or-take}
use Rattle.std.proofs.lemmas.Option.{slice_get-get_or, slice_get_within, get_or_from_slice_get}
use borrow.Author.Count.{below_more}
use Rattle.std.specs.List.{AllByRecursion}
use Rattle.byteorder.specs.Endian.{little_number}
use Rattle.byteorder.specs.Numbers.{little_number-reads_back}
use Rattle.nesc_base.specs.declared.block.Block.{Block}
use Rattle.nesc_base.specs.declared.geometry.Geometry.{Geometry}
use Rattle.nesc_base.specs.Geometry.{IsGeometry, list_blocks, slot_room, table_at, total}
use Rattle.slot_layout.specs.Bytes.{four_bytes, spelled}
use Rattle.slot_layout.specs.Targets.{AreTargets, IsListOf}
use Rattle.slot_layout.specs.Whole.{AreWhole, IsWhole}
use Rattle.slot_layout.proofs.Spelled.{AreBytes, drop-numbers, length-numbers, spelled_numbers}
use Rattle.slot_layout.proofs.TargetsRead.{AreRead, number}

-- what holds of each holds at each place, and the other way round
all_at : (P : ℕ → Type 0) (xs : List ℕ) → AllByRecursion P xs → (k : ℕ) → k < length xs → P (slice_index xs k)
all_at P [] all k below = absurd (omega arith)
all_at P (x ∷ xs) all zero below = all.0
all_at P (x ∷ xs) all (suc k) below = all_at P xs all.1 k (omega arith)

all_from : (P : ℕ → Type 0) (xs : List ℕ) → ((k : ℕ) → k < length xs → P (slice_index xs k)) → AllByRecursion P xs
all_from P [] each = tt
all_from P (x ∷ xs) each = (each 0 (omega arith), all_from P xs (λ k below. each (suc k) (omega arith)))

-- the count and each target fit in four bytes
number_fits : (geometry : Geometry) (targets : List ℕ) → IsGeometry geometry → AreTargets geometry targets → (k : ℕ) → k ≤ length targets → slice_index (length targets ∷ targets) k < 4294967296
number_fits geometry targets sizes good zero within = let room = good.room in omega arith
number_fits geometry targets sizes good (suc k) within =
    let below : slice_index targets k < total geometry = all_at (λ at. at < total geometry) targets good.below k (omega arith) in
    omega arith

-- the numbers of a list are its count and its targets
pub number_of_list : (geometry : Geometry) (blocks : List Block) (targets : List ℕ) → IsGeometry geometry → IsListOf geometry blocks targets
    → (k : ℕ) → k ≤ length targets → number blocks k ≡ slice_index (length targets ∷ targets) k
number_of_list geometry blocks targets sizes is k within =
    let bytes : List ℕ = spelled (λ (block : Block). block.0) blocks in
    let numbers : List ℕ = length targets ∷ targets in
    let here : ℕ = slice_index numbers k in
    let rest : List ℕ = drop (4 + 4 * length targets) bytes in
    let behind : List ℕ = spelled four_bytes (drop (k + 1) numbers) in
    let split : bytes ≡ spelled four_bytes numbers ++ rest = sym (take-append-drop (4 + 4 * length targets) bytes) ∙ ap (λ (bs : List ℕ). bs ++ rest) is.spelling in
    let size : 4 * k ≤ length (spelled four_bytes numbers) = omega (arith, length-numbers numbers) in
    let from : drop (4 * k) (spelled four_bytes numbers) ≡ four_bytes here ++ behind = drop-numbers k numbers ∙ ap (spelled four_bytes) (drop_more numbers k 0 (omega arith)) in
    let at : drop (4 * k) bytes ≡ four_bytes here ++ (behind ++ rest) =
    ap (drop (4 * k)) split ∙ drop-append-le (4 * k) (spelled four_bytes numbers) rest size ∙ ap (λ (bs : List ℕ). bs ++ rest) from ∙ append_assoc (four_bytes here) behind rest in
    ap (little_number 4) at ∙ little_number-reads_back 4 here (behind ++ rest) (number_fits geometry targets sizes is.good k within)

-- a target of a list, by its number
target_of_list : (geometry : Geometry) (blocks : List Block) (targets : List ℕ) → IsGeometry geometry → IsListOf geometry blocks targets
    → (k : ℕ) → k < length targets → number blocks (k + 1) ≡ slice_index targets k
target_of_list geometry blocks targets sizes is k below =
    let next : k + 1 ≡ suc k = omega arith in
    ap (number blocks) next ∙ number_of_list geometry blocks targets sizes is (suc k) (omega arith)

-- the next target of a list is no less than `least`
least_of_list : (geometry : Geometry) (blocks : List Block) (targets into : List ℕ) (i least : ℕ) → IsGeometry geometry → IsListOf geometry blocks targets
    → AreRead geometry blocks into i least → i < length targets → least ≤ slice_index targets i
least_of_list geometry blocks targets into zero least sizes is read below =
    let first : least ≡ table_at geometry = read.first refl in
    let from : table_at geometry ≤ slice_index targets 0 = all_at (λ at. table_at geometry ≤ at) targets is.good.from 0 below in
    omega arith
least_of_list geometry blocks targets into (suc j) least sizes is read below =
    let later : least ≡ number blocks (j + 1) + 1 = read.later j (omega arith) in
    let before : number blocks (j + 1) ≡ slice_index targets j = target_of_list geometry blocks targets sizes is j (omega arith) in
    let rises : slice_index targets j < slice_index targets (suc j) =
    is.good.rising j (suc j) (slice_index targets j) (slice_index targets (suc j)) (omega arith) (slice_get-get_or targets j 0 (omega arith)) (slice_get-get_or targets (suc j) 0 below) in
    omega arith

-- a target that is less than `least` or not below the end is none of a list
pub no_target : (geometry : Geometry) (blocks : List Block) (targets into : List ℕ) (i least target : ℕ) → IsGeometry geometry → IsListOf geometry blocks targets
    → AreRead geometry blocks into i least → i < number blocks 0 → target ≡ number blocks (i + 1) → (target < least) ⊎ (total geometry ≤ target) → ⊥
no_target geometry blocks targets into i least target sizes is read below here bad =
    let count : number blocks 0 ≡ length targets = number_of_list geometry blocks targets sizes is 0 (omega arith) in
    let is_target : target ≡ slice_index targets i = here ∙ target_of_list geometry blocks targets sizes is i (omega arith) in
    let low : least ≤ slice_index targets i = least_of_list geometry blocks targets into i least sizes is read (omega arith) in
    let high : slice_index targets i < total geometry = all_at (λ at. at < total geometry) targets is.good.below i (omega arith) in
    elim bad [ inl lower ↦ absurd (omega arith) | inr higher ↦ absurd (omega arith) ]

whole_behind : (block : Block) (blocks : List Block) (n : ℕ) → AreWhole (block ∷ blocks) (suc n) → AreWhole blocks n
whole_behind block blocks n whole = let some = whole.some in record { some = omega arith; each = λ b other below. whole.each (suc b) other (omega arith) }

-- the bytes of blocks that have all their bytes
bytes_of_blocks : (blocks : List Block) (n : ℕ) → AreWhole blocks n → AreBytes (spelled (λ block. block.0) blocks) (1024 * n)
bytes_of_blocks blocks zero whole = record { some = omega arith; each = λ k below. absurd (omega arith) }
bytes_of_blocks [] (suc n) whole = absurd (let some = whole.some in omega arith)
bytes_of_blocks (block ∷ blocks) (suc n) whole =
    let here : IsWhole block = whole.each 0 block (omega arith) in
    let size : length block.0 ≡ 1024 = here.size in
    let rest : List ℕ = spelled (λ (block : Block). block.0) blocks in
    let others : AreBytes rest (1024 * n) = bytes_of_blocks blocks n (whole_behind block blocks n whole) in
    let some : 1024 * n ≤ length rest = others.some in
    record {
      some = omega (arith, length-append block.0 rest);
      each = λ k below. elim (cases_lt k 1024) [
        | inl inside ↦ rw (get_or_append_left block.0 rest 0 k (omega arith)) (here.bytes k)
        | inr past ↦ rw (get_or-append_right block.0 rest 1024 k 0 size past) (others.each (k - 1024) (omega arith))
      ];
    }

-- so many bytes of them, where they have those
bytes_fewer : (xs : List ℕ) (m n : ℕ) → m ≤ n → AreBytes xs n → AreBytes xs m
bytes_fewer xs m n fewer bytes = let some = bytes.some in record { some = omega arith; each = λ k below. bytes.each k (omega arith) }

pub whole_fewer : (blocks : List Block) (m n : ℕ) → m ≤ n → AreWhole blocks n → AreWhole blocks m
whole_fewer blocks m n fewer whole = let some = whole.some in record { some = omega arith; each = λ b other below. whole.each b other (omega arith) }

each_number : (blocks : List Block) (targets : List ℕ) → number blocks 0 ≡ length targets → ((k : ℕ) → k < length targets → slice_index targets k ≡ number blocks (k + 1))
    → (k : ℕ) → k < length (length targets ∷ targets) → number blocks k ≡ slice_index (length targets ∷ targets) k
each_number blocks targets count at zero below = count
each_number blocks targets count at (suc k) below =
    let next : suc k ≡ k + 1 = omega arith in
    ap (number blocks) next ∙ sym (at k (omega arith))

-- what has been read is the list
pub list_is_read : (geometry : Geometry) (blocks : List Block) (into : List ℕ) (count least : ℕ) → length blocks ≡ list_blocks geometry → count ≡ number blocks 0
    → count ≤ slot_room geometry → count ≤ length into → AreRead geometry blocks into count least → IsListOf geometry blocks (take count into)
list_is_read geometry blocks into count least size count_is within room read =
    let bytes : List ℕ = spelled (λ (block : Block). block.0) blocks in
    let targets : List ℕ = take count into in
    let numbers : List ℕ = length targets ∷ targets in
    let many : length targets ≡ count = omega (arith, length-take count into) in
    let at : (k : ℕ) → k < count → slice_index targets k ≡ number blocks (k + 1) = λ k below. get_or-take count into k 0 below ∙ read.filled k below in
    let got : (k a : ℕ) → slice_get targets k ≡ Some a → k < count → a ≡ number blocks (k + 1) = λ k a is below. sym (get_or_from_slice_get targets k a 0 is) ∙ at k below in
    let are : AreBytes bytes (4 * length numbers) = bytes_fewer bytes (4 * length numbers) (1024 * (count / 256 + 1)) (omega arith) (bytes_of_blocks blocks (count / 256 + 1) read.whole) in
    let length_is : 4 + 4 * length targets ≡ 4 * length numbers = omega arith in
    record {
      count = size;
      good = record {
        room = omega arith;
        rising = λ i j a b before at_i at_j.
            let inside : j < length targets = slice_get_within targets j b at_j in
            let first : a ≡ number blocks (i + 1) = got i a at_i (omega arith) in
            let second : b ≡ number blocks (j + 1) = got j b at_j (omega arith) in
            let rises : number blocks (i + 1) < number blocks (j + 1) = read.rising i j before (omega arith) in
            omega arith;
        from = all_from (λ t. table_at geometry ≤ t) targets (λ k below. rw (at k (omega arith)) (read.from k (omega arith)));
        below = all_from (λ t. t < total geometry) targets (λ k below. rw (at k (omega arith)) (read.below k (omega arith)));
      };
      spelling = ap (λ n. take n bytes) length_is ∙ spelled_numbers numbers bytes are (each_number blocks targets (sym count_is ∙ sym many) (λ k below. at k (omega arith)));
    }

pub none_whole : (blocks : List Block) → AreWhole blocks 0
none_whole blocks = record { some = omega arith; each = λ b other below. absurd (omega arith) }

-- the blocks up to the next number
pub whole_so_far : (geometry : Geometry) (blocks : List Block) (into : List ℕ) (i least : ℕ) → AreRead geometry blocks into i least → AreWhole blocks ((i + 1) / 256)
whole_so_far geometry blocks into i least read = whole_fewer blocks ((i + 1) / 256) (i / 256 + 1) (omega arith) read.whole

-- one more target has been read
pub read_more : (geometry : Geometry) (blocks : List Block) (into : List ℕ) (i least target : ℕ) → AreRead geometry blocks into i least → AreWhole blocks ((i + 1) / 256 + 1)
    → target ≡ number blocks (i + 1) → least ≤ target → target < total geometry → i < length into → AreRead geometry blocks (set into i target) (i + 1) (target + 1)
read_more geometry blocks into i least target read whole is low high within =
    let up : table_at geometry ≤ least = read.least_from in
    record {
      whole = whole;
      filled = below_more (λ k. slice_index (set into i target) k ≡ number blocks (k + 1)) i
          (λ k below. let other : k ≢ i = λ same. absurd (omega arith) in get_or-set_other into i k target 0 other ∙ read.filled k below)
          (get_or-set_same into i target 0 within ∙ is);
      rising = λ j k before below. below_more (λ n. (m : ℕ) → m < n → number blocks (m + 1) < number blocks (n + 1)) i
          (λ n inside m less. read.rising m n less inside)
          (λ m less. let under : number blocks (m + 1) < least = read.under m less in omega arith) k below j before;
      from = below_more (λ k. table_at geometry ≤ number blocks (k + 1)) i read.from (omega arith);
      below = below_more (λ k. number blocks (k + 1) < total geometry) i read.below (omega arith);
      under = below_more (λ k. number blocks (k + 1) < target + 1) i (λ k below. let under : number blocks (k + 1) < least = read.under k below in omega arith) (omega arith);
      least_from = omega arith;
      first = λ none. absurd (omega arith);
      later = λ k last. let same : i ≡ k = omega arith in ap (λ n. n + 1) (is ∙ ap (λ n. number blocks (n + 1)) same);
    }
