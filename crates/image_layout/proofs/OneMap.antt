-- A map block and the whole map are read in one way.
use Rattle.std.proofs.Common.{◌≡◌, ℕ, zero, suc, ◌+◌, ◌*◌, ◌/◌, ◌%◌, ◌^◌, ◌<◌, List, [], ◌∷◌, Option, Some, None, take, drop, get_or, slice_get, refl, sym, ap, ◌∙◌, arith}
use Rattle.std.proofs.lemmas.Option.{slice_get-get_or}
use Rattle.byteorder.specs.Endian.{little_number}
use Rattle.byteorder.specs.Numbers.{little_number-reads_back}
use Rattle.nesc_base.specs.declared.block.Block.{Block}
use Rattle.nesc_base.specs.declared.geometry.Geometry.{Geometry}
use Rattle.nesc_base.specs.Places.{Owner}
use Rattle.image_layout.specs.declared.table.TableEntry.{TableEntry}
use Rattle.slot_layout.specs.Bytes.{four_bytes}
use Rattle.image_layout.specs.Opens.{IsMap, entries_in, lengths_of}
use Rattle.image_layout.specs.Owners.{AreOwners, owner_block, owner_bytes}
use Rattle.image_layout.proofs.OneReading.{same_items}
use Rattle.image_layout.proofs.OwnersLemmas.{IsSpelledWhole, if_good, length-owner_bytes, spelled_whole}
use Rattle.slot_layout.proofs.Pieces.{piece, spelled-piece}
use Rattle.image_layout.proofs.TableLemmas.{slice_get-take}

-- an owner's bytes begin with its file
file_spelled : (owner : Owner) → owner.0.0 < 2 ^ 16 → little_number 2 (owner_bytes (Some owner)) ≡ owner.0.0
file_spelled owner fits = little_number-reads_back 2 owner.0.0 (0 ∷ 0 ∷ four_bytes owner.1) fits

-- owners that are spelled alike are one
owner_bytes-one : (one other : Option Owner) → IsSpelledWhole one → IsSpelledWhole other → owner_bytes one ≡ owner_bytes other → one ≡ other
owner_bytes-one None None whole whole' same = refl
owner_bytes-one None (Some other) whole whole' same = absurd (whole'.0 (sym (file_spelled other whole'.1) ∙ ap (little_number 2) (sym same)))
owner_bytes-one (Some one) None whole whole' same = absurd (whole.0 (sym (file_spelled one whole.1) ∙ ap (little_number 2) same))
owner_bytes-one (Some one) (Some other) whole whole' same =
    let file : one.0.0 ≡ other.0.0 = sym (file_spelled one whole.1) ∙ ap (little_number 2) same ∙ file_spelled other whole'.1 in
    let place : one.1 ≡ other.1 =
    sym (little_number-reads_back 4 one.1 [] whole.2) ∙ ap (λ bytes. little_number 4 (drop 4 bytes)) same ∙ little_number-reads_back 4 other.1 [] whole'.2 in
    let owner_of : ℕ → ℕ → Option Owner = λ n v. Some (record { 0 = n }, v) in
    ap (λ n. owner_of n one.1) file ∙ ap (owner_of other.0.0) place

-- each of a map block is spelled whole, at its place
module _ (lengths : List (Option ℕ)) (entries : ℕ) (block : Block) (owners : List (Option Owner)) (are : AreOwners lengths entries block owners) where
  whole_there : (k : ℕ) (owner : Option Owner) → slice_get owners k ≡ Some owner → IsSpelledWhole owner
  whole_there k owner at = spelled_whole lengths entries k owner (if_good lengths entries k owners owner at are.good)

  spelled_there : (k : ℕ) (owner : Option Owner) → slice_get owners k ≡ Some owner → piece 8 k block.0 ≡ owner_bytes owner
  unfolding owner_block
  spelled_there k owner at = ap (λ (b : Block). piece 8 k b.0) are.spelling ∙ spelled-piece owner_bytes 8 owners (λ j x is. length-owner_bytes x) k owner at

-- so a block is no two map blocks
pub one_owners : (lengths : List (Option ℕ)) (entries : ℕ) (block : Block) (one other : List (Option Owner))
    → AreOwners lengths entries block one → AreOwners lengths entries block other → one ≡ other
one_owners lengths entries block one other first second =
    let count = first.count in
    let count' = second.count in
    same_items one other (count ∙ sym count') (λ k below.
    let here : slice_get one k ≡ Some (get_or one k None) = slice_get-get_or one k None below in
    let there : slice_get other k ≡ Some (get_or other k None) = slice_get-get_or other k None (omega arith) in
    let same : owner_bytes (get_or one k None) ≡ owner_bytes (get_or other k None) =
    sym (spelled_there lengths entries block one first k _ here) ∙ spelled_there lengths entries block other second k _ there in
    here ∙ ap Some (owner_bytes-one _ _ (whole_there lengths entries block one first k _ here) (whole_there lengths entries block other second k _ there) same) ∙ sym there)

-- what is left of a list has its items
pub slice_get-drop : {X : Type 0} (n : ℕ) (xs : List X) (k : ℕ) → slice_get (drop n xs) k ≡ slice_get xs (n + k)
slice_get-drop zero xs k = let same : k ≡ 0 + k = omega arith in ap (slice_get xs) same
slice_get-drop (suc n) [] k = refl
slice_get-drop (suc n) (x ∷ xs) k = let same : suc (n + k) ≡ suc n + k = omega arith in slice_get-drop n xs k ∙ ap (slice_get (x ∷ xs)) same

-- an item of a list, in the 128 in which it stands
pub slice_get-among : {X : Type 0} (xs : List X) (k : ℕ) → slice_get (take 128 (drop (128 * (k / 128)) xs)) (k % 128) ≡ slice_get xs k
slice_get-among xs k =
    let same : 128 * (k / 128) + k % 128 ≡ k = omega arith in
    slice_get-take (drop (128 * (k / 128)) xs) 128 (k % 128) (omega arith) ∙ slice_get-drop (128 * (k / 128)) xs (k % 128) ∙ ap (slice_get xs) same

-- an image has no two maps
pub one_map : (geometry : Geometry) (laid : List Block) (entries : List (Option TableEntry)) (one other : List (Option Owner))
    → IsMap geometry laid entries one → IsMap geometry laid entries other → one ≡ other
one_map geometry laid entries one other first second =
    let count = first.count in
    same_items one other (count ∙ sym second.count) (λ k below.
    let b : ℕ = k / 128 in
    let same : take 128 (drop (128 * b) one) ≡ take 128 (drop (128 * b) other) =
    one_owners (lengths_of entries) (entries_in geometry b) _ _ _ (first.each b (omega arith)) (second.each b (omega arith)) in
    sym (slice_get-among one k) ∙ ap (λ (xs : List (Option Owner)). slice_get xs (k % 128)) same ∙ slice_get-among other k)
