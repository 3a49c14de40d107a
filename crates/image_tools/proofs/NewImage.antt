-- An image of a superblock and zeros opens with no files.
use Rattle.std.proofs.Common.{◌≡◌, ℕ, zero, suc, ◌+◌, ◌-◌, ◌*◌, ◌<◌, ◌≤◌, List, [], ◌∷◌, ◌++◌, length, take, drop, get_or, replicate, Option, Some, None, refl, sym, ap, subst, ◌∙◌, inr, arith, false, length-append}
use Rattle.std.specs.Prelude.{IsSome, is_some, option_map, slice_get, unwrap_or}
use Rattle.std.specs.FinMap.{empty, get, get-empty}
use Rattle.std.specs.List.{AllByRecursion, range_with_len}
use Rattle.std.specs.Ordering.{nat_cmp}
use Rattle.std.proofs.Math.ListN.{length-set}
use Rattle.std.proofs.lemmas.List.{length-replicate, drop-replicate, take-replicate, replicate-append-replicate, get_or_append_left}
use Rattle.std.proofs.lemmas.List.FromFn.{get_or-range_with_len, length-range_with_len}
use Rattle.nesc_base.specs.declared.block.Block.{Block}
use Rattle.nesc_base.specs.declared.geometry.Geometry.{Geometry}
use Rattle.nesc_base.specs.Block.{zero_block}
use Rattle.nesc_base.specs.Files.{File}
use Rattle.nesc_base.specs.Geometry.{IsGeometry, map_at, map_blocks, slot_at, table_at, total}
use Rattle.slot_layout.specs.Bytes.{block_of_bytes, spelled}
use Rattle.slot_layout.specs.Gate.{is_open}
use Rattle.slot_layout.proofs.Alike.{zero_gate}
use Rattle.image_layout.specs.Opens.{HasParts, entries_in, lengths_of}
use Rattle.image_layout.specs.Owners.{AreOwners, owner_block, owner_bytes}
use Rattle.slot_layout.specs.Slots.{Lays, block_at}
use Rattle.nesc_base.specs.Places.{HeldAt, Owner}
use Rattle.std.proofs.lemmas.Bool.{false≢true}
use Rattle.image_layout.specs.Super.{superblock}
use Rattle.image_layout.specs.Table.{AreEntries, Fits, entry_bytes, table_block}
use Rattle.image_tools.specs.Make.{OpensAsNew, cleared, made, cleared_at}
use Rattle.image_tools.proofs.Zeros.{block_at-set_other, block_at-set_same, block_at-cleared_at, length-cleared_at}

-- a list of nothing has no something
none_there : {X : Type 0} (n i : ℕ) → unwrap_or (slice_get {X = Option X} (replicate n None) i) None ≡ None
none_there zero i = refl
none_there (suc n) zero = refl
none_there (suc n) (suc i) = none_there n i

some_nowhere : {X : Type 0} (n i : ℕ) (x : X) → slice_get {X = Option X} (replicate n None) i ≡ Some (Some x) → ⊥
some_nowhere zero i x is = cc
some_nowhere (suc n) zero x is = cc
some_nowhere (suc n) (suc i) x is = some_nowhere n i x is

-- items that are spelled as zeros
spelled-zeros : {X : Type 0} (spell : X → List ℕ) (size : ℕ) (x : X) → spell x ≡ replicate size 0 → (n : ℕ) → spelled spell (replicate n x) ≡ replicate (n * size) 0
spelled-zeros spell size x is zero = let none : 0 * size ≡ 0 = omega arith in rw none refl
spelled-zeros spell size x is (suc n) =
    let more : size + n * size ≡ suc n * size = omega arith in
    ap (λ (bytes : List ℕ). bytes ++ spelled spell (replicate n x)) is ∙ ap (λ (bytes : List ℕ). replicate size 0 ++ bytes) (spelled-zeros spell size x is n)
    ∙ replicate-append-replicate size (n * size) 0 ∙ ap (λ k. replicate k 0) more

zero_table : zero_block ≡ table_block (replicate 32 None)
unfolding zero_block table_block
zero_table = ap block_of_bytes (sym (spelled-zeros entry_bytes 32 None refl 32))

zero_owners : zero_block ≡ owner_block (replicate 128 None)
unfolding zero_block owner_block
zero_owners = ap block_of_bytes (sym (spelled-zeros owner_bytes 8 None refl 128))

nothing_fits : (n : ℕ) → AllByRecursion Fits (replicate n None)
nothing_fits zero = tt
nothing_fits (suc n) = (tt, nothing_fits n)

no_entries : AreEntries (replicate 32 None)
no_entries = record {
  count = refl;
  fit = nothing_fits 32;
  apart = λ i j one other at_i at_j same. absurd (some_nowhere 32 i one at_i);
}

-- a map block of zeros, by its part of the owners
free_block : (lengths : List (Option ℕ)) (entries blocks b : ℕ) (block : Block) → b < blocks → block ≡ zero_block
    → AreOwners lengths entries block (take 128 (drop (128 * b) (replicate (128 * blocks) None)))
free_block lengths entries blocks b block below zeros =
    let free : List (Option Owner) = replicate 128 None in
    let enough : 128 ≤ 128 * blocks - 128 * b = omega arith in
    let part : take 128 (drop (128 * b) (replicate (128 * blocks) None)) ≡ free = ap (take 128) (drop-replicate (128 * b) (128 * blocks) None) ∙ take-replicate 128 (128 * blocks - 128 * b) None enough in
    let all_free : AreOwners lengths entries block free = record {
      count = refl;
      good = λ k owner is. absurd (some_nowhere 128 k owner is);
      spelling = zeros ∙ zero_owners;
    } in
    subst (AreOwners lengths entries block) (sym part) all_free

-- what has to stand in a new image
pub record IsBlank (geometry : Geometry) (image : List Block) : Type 0 where
  pub sizes : IsGeometry geometry
  pub enough : total geometry ≤ length image
  pub super : block_at image 0 ≡ superblock geometry
  pub gate : block_at image (slot_at geometry 1) ≡ zero_block
  pub table : block_at image (table_at geometry) ≡ zero_block
  pub map : (b : ℕ) → b < map_blocks geometry → block_at image (map_at geometry + b) ≡ zero_block

blank_lays : (geometry : Geometry) (image : List Block) → IsBlank geometry image → Lays geometry image image
blank_lays geometry image blank = record {
  slots = 0;
  replayed = record {
    most = omega arith;
    opened = λ k first last. absurd (omega (arith, first, last));
    closed = inr (ap is_open blank.gate ∙ zero_gate);
  };
  over = refl;
}

blank_parts : (geometry : Geometry) (image : List Block) → IsBlank geometry image → HasParts geometry image (replicate 32 None) (replicate (128 * map_blocks geometry) None)
blank_parts geometry image blank = record {
  table = record { good = no_entries; spelling = blank.table ∙ zero_table };
  owned = record {
    count = length-replicate (128 * map_blocks geometry) None;
    each = λ b below. free_block (lengths_of (replicate 32 None)) (entries_in geometry b) (map_blocks geometry) b (block_at image (map_at geometry + b)) below (blank.map b below);
  };
  once = λ k owner repeats. some_nowhere (128 * map_blocks geometry) k owner repeats.0;
}

nowhere : (n : ℕ) → IsSome (get (empty {K = ℕ} {X = File} {R = nat_cmp}) n) → ⊥
nowhere n some = let none : IsSome {T = File} None = subst IsSome (get-empty {X = File} nat_cmp n) some in false≢true none

no_value : {X Y : Type 0} (f : X → Y) (o : Option X) → o ≡ None → option_map f o ≡ None
no_value f o none = ap (option_map f) none

no_file : (n : ℕ) (file : File) → get (empty {K = ℕ} {X = File} {R = nat_cmp}) n ≡ Some file → ⊥
no_file n file is =
    let none : get (empty {K = ℕ} {X = File} {R = nat_cmp}) n ≡ None = get-empty nat_cmp n in
    cc

blank_opens : (geometry : Geometry) (image : List Block) → IsBlank geometry image → OpensAsNew geometry image
blank_opens geometry image blank = record {
  laid = image;
  divided = record { some = omega (arith, blank.enough); super = record { sizes = blank.sizes; spelling = blank.super }; enough = blank.enough };
  lays = blank_lays geometry image blank;
  has = record {
    entries = replicate 32 None;
    owners = replicate (128 * map_blocks geometry) None;
    parts = blank_parts geometry image blank;
    are_files = record {
      none = get-empty nat_cmp 0;
      named = λ e. no_value _ _ (get-empty nat_cmp (e + 1)) ∙ sym (none_there 32 e);
      held = λ n v file block is. absurd (no_file n file is);
    };
    are_places = record {
      filed = λ n. ap is_some (get-empty {X = HeldAt} nat_cmp n) ∙ sym (ap is_some (get-empty {X = File} nat_cmp n));
      each = λ n v at stands. absurd (nowhere n stands);
    };
  };
}

-- the places of the map and of the last block stand behind five others
length-cleared : (geometry : Geometry) → length (cleared geometry) ≡ 6 + map_blocks geometry
length-cleared geometry =
    let many : length (range_with_len (map_at geometry) (map_blocks geometry)) ≡ map_blocks geometry = length-range_with_len (map_at geometry) (map_blocks geometry) in
    omega (arith, length-append (range_with_len (map_at geometry) (map_blocks geometry)) ((total geometry - 1) ∷ []))

-- such is the image that is made
made_at : (geometry : Geometry) (image : List Block) (i at : ℕ) → i < 6 + map_blocks geometry → get_or (cleared geometry) i 0 ≡ at → 1 ≤ at → block_at (made geometry image) at ≡ zero_block
made_at geometry image i at within is behind =
    block_at-set_other (cleared_at (cleared geometry) image) 0 at (superblock geometry) (λ same. omega (arith, same))
    ∙ block_at-cleared_at (cleared geometry) image i at (omega (arith, length-cleared geometry)) is

map_place : (geometry : Geometry) (b : ℕ) → b < map_blocks geometry → get_or (cleared geometry) (suc (suc (suc (suc (suc b))))) 0 ≡ map_at geometry + b
map_place geometry b below =
    let run : List ℕ = range_with_len (map_at geometry) (map_blocks geometry) in
    let many : length run ≡ map_blocks geometry = length-range_with_len (map_at geometry) (map_blocks geometry) in
    get_or_append_left run ((total geometry - 1) ∷ []) 0 b (omega (arith, many)) ∙ get_or-range_with_len (map_at geometry) (map_blocks geometry) b 0 below

made_is_blank : (geometry : Geometry) (image : List Block) → IsGeometry geometry → total geometry ≤ length image → IsBlank geometry (made geometry image)
made_is_blank geometry image sizes enough =
    let base : List Block = cleared_at (cleared geometry) image in
    let base_length : length base ≡ length image = length-cleared_at (cleared geometry) image in
    record {
      sizes = sizes;
      enough = omega (arith, base_length, length-set base 0 (superblock geometry));
      super = block_at-set_same base 0 (superblock geometry) (omega (arith, base_length));
      gate = made_at geometry image 0 (slot_at geometry 1) (omega arith) refl (omega arith);
      table = made_at geometry image 4 (table_at geometry) (omega arith) refl (omega arith);
      map = λ b below. made_at geometry image (suc (suc (suc (suc (suc b))))) (map_at geometry + b) (omega arith) (map_place geometry b below) (omega arith);
    }

pub made_opens : (geometry : Geometry) (image : List Block) → IsGeometry geometry → total geometry ≤ length image → OpensAsNew geometry (made geometry image)
made_opens geometry image sizes enough = blank_opens geometry (made geometry image) (made_is_blank geometry image sizes enough)
