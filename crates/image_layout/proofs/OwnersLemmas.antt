-- The owners of a block that is a map block.
use Rattle.std.proofs.Common.{◌≡◌, ◌≢◌, ℕ, ◌^◌, ◌<◌, true, false, not, List, Option, Some, None, IfSome, length, get_or, slice_get, refl, ap, ◌∙◌, arith}
use Rattle.std.proofs.lemmas.Option.{slice_get-get_or}
use Rattle.std.proofs.lemmas.Slice.Eq.{bytes_eq-Decides}
use Rattle.std.specs.Str.{bytes_eq}
use Rattle.nesc_base.specs.declared.block.Block.{Block}
use Rattle.nesc_base.specs.Places.{Owner}
use Rattle.image_layout.specs.Owners.{AreOwners, MayOwn, owner_block, owner_bytes}
use Rattle.slot_layout.proofs.Pieces.{piece, spelled-piece}

-- an entry has 8 bytes
pub length-owner_bytes : (owner : Option Owner) → length (owner_bytes owner) ≡ 8
length-owner_bytes None = refl
length-owner_bytes (Some owner) = refl

-- both of an owner's numbers fit the bytes that they are spelled in
abbrev pub IsSpelledWhole : Option Owner → Type 0
IsSpelledWhole owner = IfSome owner (λ o. (o.0.0 ≢ 0) × (o.0.0 < 2 ^ 16) × (o.1 < 2 ^ 32))

-- those of an owner that there may be do
pub spelled_whole : (lengths : List (Option ℕ)) (entries k : ℕ) (owner : Option Owner) → IfSome owner (MayOwn lengths entries k)
    → IsSpelledWhole owner
spelled_whole lengths entries k None may = tt
spelled_whole lengths entries k (Some owner) may = (may.numbered, may.in_two_bytes, may.in_four_bytes)

-- an owner that each may have, from what holds of each owner that there is
pub if_good : (lengths : List (Option ℕ)) (entries k : ℕ) (owners : List (Option Owner)) (owner : Option Owner) → slice_get owners k ≡ Some owner
    → ((j : ℕ) (o : Owner) → slice_get owners j ≡ Some (Some o) → MayOwn lengths entries j o) → IfSome owner (MayOwn lengths entries k)
if_good lengths entries k owners None at good = tt
if_good lengths entries k owners (Some owner) at good = good k owner at

-- the owner at a place of a map block
pub owner_at : (lengths : List (Option ℕ)) (entries : ℕ) (block : Block) (owners : List (Option Owner)) → AreOwners lengths entries block owners
    → (k : ℕ) → k < 128 → (owner : Option Owner) × IfSome owner (MayOwn lengths entries k) × (piece 8 k block.0 ≡ owner_bytes owner)
unfolding owner_block
owner_at lengths entries block owners are k below =
    let owner = get_or owners k None in
    let count = are.count in
    let within : k < length owners = omega arith in
    let at : slice_get owners k ≡ Some owner = slice_get-get_or owners k None within in
    let here : piece 8 k block.0 ≡ owner_bytes owner =
    ap (λ (b : Block). piece 8 k b.0) are.spelling
    ∙ spelled-piece owner_bytes 8 owners (λ j x is. length-owner_bytes x) k owner at in
    (owner, if_good lengths entries k owners owner at are.good, here)

-- lists that are not the same are told apart
pub told_apart : (xs ys : List ℕ) → true ≡ not (bytes_eq xs ys) → xs ≡ ys → ⊥
told_apart xs ys told same =
    let yes : bytes_eq xs ys ≡ true = (bytes_eq-Decides xs ys).1 same in
    let no : true ≡ false = told ∙ ap not yes in
    cc
