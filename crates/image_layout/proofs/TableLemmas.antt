-- The spelling of an entry of the table, read back, and the entries of a block that is a table.
use Rattle.std.proofs.Common.{◌≡◌, ℕ, zero, suc, ◌-◌, ◌<◌, ◌≤◌, List, [], ◌∷◌, Option, Some, None, length, take, drop, get_or, slice_get, replicate, refl, subst, sym, ap, ◌∙◌, arith, rules, length-append}
use Rattle.std.proofs.lemmas.List.{length-replicate, take_at, take_rest}
use Rattle.std.proofs.lemmas.List.Elements.{All-from_recursion}
use Rattle.std.proofs.lemmas.Option.{get_or_from_slice_get, slice_get-get_or, slice_get_within}
use Rattle.std.specs.List.{slice_range}
use Rattle.byteorder.specs.Endian.{little_number}
use Rattle.byteorder.specs.Numbers.{little_number-reads_back}
use Rattle.nesc_base.specs.declared.block.Block.{Block}
use Rattle.slot_layout.specs.Bytes.{padded}
use Rattle.image_layout.specs.Table.{Fits, IsTable, entry_bytes, table_block}
use Rattle.image_layout.specs.declared.table.TableEntry.{TableEntry}
use Rattle.slot_layout.proofs.Pieces.{piece, spelled-piece}

-- the name stands behind 8 bytes, as long as the second byte says
pub name_at : (bytes : List ℕ) (entry : TableEntry) (n : ℕ) → bytes ≡ entry_bytes (Some entry) → n ≡ get_or bytes 1 0
    → slice_range (take (length bytes - 8) (drop 8 bytes)) 0 n ≡ entry.name
name_at bytes entry n is at =
    let long : n - 0 ≡ length entry.name = omega (arith, at, ap (λ b. get_or b 1 0) is) in
    ap (λ m. take m (take (length bytes - 8) (drop 8 bytes))) long
    ∙ ap (take (length entry.name)) (take_rest bytes 8 ∙ ap (drop 8) is)
    ∙ take_at entry.name (replicate (24 - length entry.name) 0) (length entry.name) refl

-- the length stands behind 4 bytes
pub length_at : (bytes : List ℕ) (entry : TableEntry) → bytes ≡ entry_bytes (Some entry) → entry.length ≤ 1048576
    → little_number 4 (take (length bytes - 4) (drop 4 bytes)) ≡ entry.length
length_at bytes entry is fits =
    ap (little_number 4) (take_rest bytes 4 ∙ ap (drop 4) is)
    ∙ little_number-reads_back 4 entry.length (padded 24 entry.name) (omega arith)

-- two entries of one spelling are one
entry_bytes-one : (one other : Option TableEntry) → Fits one → Fits other → entry_bytes one ≡ entry_bytes other → one ≡ other
entry_bytes-one None None fits fits' same = refl
entry_bytes-one None (Some other) fits fits' same = absurd (omega (arith, ap (λ b. get_or b 0 0) same))
entry_bytes-one (Some one) None fits fits' same = absurd (omega (arith, ap (λ b. get_or b 0 0) same))
entry_bytes-one (Some one) (Some other) fits fits' same =
    let bytes = entry_bytes (Some one) in
    let name : one.name ≡ other.name =
    sym (name_at bytes one (get_or bytes 1 0) refl refl) ∙ name_at bytes other (get_or bytes 1 0) same refl in
    let size : one.length ≡ other.length = sym (length_at bytes one refl fits.1) ∙ length_at bytes other same fits'.1 in
    let entry_with : List ℕ → ℕ → Option TableEntry = λ n l. Some (record { name = n; length = l }) in
    ap (λ n. entry_with n one.length) name ∙ ap (entry_with other.name) size

-- an entry that there may be has 32 bytes
length-entry_bytes : (entry : Option TableEntry) → Fits entry → length (entry_bytes entry) ≡ 32
length-entry_bytes None fits = refl
length-entry_bytes (Some entry) fits =
    let short : length entry.name ≤ 24 = search (rules, fits.0) in
    simp (length-append, length-replicate) (omega arith)

-- an entry of a table, by its place
pub entry_at : (block : Block) (entries : List (Option TableEntry)) → IsTable block entries → (k : ℕ) → k < 32
    → (entry : Option TableEntry) × (slice_get entries k ≡ Some entry) × Fits entry × (piece 32 k block.0 ≡ entry_bytes entry)
unfolding table_block
entry_at block entries table k below =
    let entry = get_or entries k None in
    let count = table.good.count in
    let within : k < length entries = omega arith in
    let at : slice_get entries k ≡ Some entry = slice_get-get_or entries k None within in
    let fit : (j : ℕ) (x : Option TableEntry) → slice_get entries j ≡ Some x → Fits x =
    λ j x is. subst Fits (get_or_from_slice_get entries j x None is)
    (All-from_recursion Fits entries table.good.fit j None (slice_get_within entries j x is)) in
    let here : piece 32 k block.0 ≡ entry_bytes entry =
    ap (λ (b : Block). piece 32 k b.0) table.spelling
    ∙ spelled-piece entry_bytes 32 entries (λ j x is. length-entry_bytes x (fit j x is)) k entry at in
    (entry, at, fit k entry at, here)

-- and it is the only one there
pub entry_at-one : (block : Block) (entries : List (Option TableEntry)) → IsTable block entries → (k : ℕ) (entry : Option TableEntry) → k < 32
    → Fits entry → piece 32 k block.0 ≡ entry_bytes entry → slice_get entries k ≡ Some entry
entry_at-one block entries table k entry below fits here =
    let there = entry_at block entries table k below in
    there.1 ∙ ap Some (entry_bytes-one there.0 entry there.2 fits (sym there.3 ∙ here))

-- the front of a list has its items
pub slice_get-take : {X : Type 0} (xs : List X) (n k : ℕ) → k < n → slice_get (take n xs) k ≡ slice_get xs k
slice_get-take [] zero k below = refl
slice_get-take [] (suc n) k below = refl
slice_get-take (x ∷ xs) zero k below = absurd (omega arith)
slice_get-take (x ∷ xs) (suc n) zero below = refl
slice_get-take (x ∷ xs) (suc n) (suc k) below = slice_get-take xs n k (omega arith)
