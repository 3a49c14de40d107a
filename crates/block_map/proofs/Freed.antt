-- Which data blocks are free, by the bits.
use Rattle.std.proofs.Common.{◌≡◌, ℕ, ◌+◌, ◌-◌, ◌<◌, Bool, true, false, List, Option, Some, None, length, map, slice_get, refl, sym, ap, ◌∙◌, arith}
use Rattle.std.specs.Prelude.{is_none}
use Rattle.std.specs.Option.{option_map}
use Rattle.std.proofs.lemmas.Bool.{false≢true}
use Rattle.std.proofs.lemmas.Option.{none-some, same_Some, slice_get-map, slice_get_within}
use Rattle.block_map.specs.Bits.{AreClear, IsLowestSet}
use Rattle.block_map.specs.Map.{BlockMap, IsFull, IsLowestFree}

-- a bit is set where nobody owns the data block
set_bit : {X : Type 0} (owners : List (Option X)) (bits : List Bool) (k : ℕ) → bits ≡ map is_none owners → slice_get owners k ≡ Some None → slice_get bits k ≡ Some true
set_bit owners bits k marked is =
    ap (λ b. slice_get b k) marked ∙ slice_get-map is_none owners k ∙ ap (option_map is_none) is

-- and nowhere else
only_none : {X : Type 0} (owner : Option (Option X)) → option_map is_none owner ≡ Some true → owner ≡ Some None
only_none None is = absurd (none-some true is)
only_none (Some None) is = refl
only_none (Some (Some x)) is = absurd (false≢true (same_Some false true is))

pub bit_set : {X : Type 0} (owners : List (Option X)) (bits : List Bool) (k : ℕ) → bits ≡ map is_none owners → slice_get bits k ≡ Some true → slice_get owners k ≡ Some None
bit_set owners bits k marked is =
    only_none (slice_get owners k) (sym (slice_get-map is_none owners k) ∙ ap (λ b. slice_get b k) (sym marked) ∙ is)

pub full : (blocks : BlockMap) (bits : List Bool) → bits ≡ map is_none blocks.owners → AreClear bits → IsFull blocks
full blocks bits marked clear at free = clear (at - blocks.from) (set_bit blocks.owners bits (at - blocks.from) marked free.free)

pub lowest_within : {X : Type 0} (owners : List (Option X)) (bits : List Bool) (k : ℕ) → bits ≡ map is_none owners → IsLowestSet bits k → k < length owners
lowest_within owners bits k marked lowest = slice_get_within owners k None (bit_set owners bits k marked lowest.set)

-- the lowest bit that is set is that of the lowest free data block
pub lowest_free : (blocks : BlockMap) (bits : List Bool) (k : ℕ) → bits ≡ map is_none blocks.owners → IsLowestSet bits k → IsLowestFree blocks (blocks.from + k)
lowest_free blocks bits k marked lowest =
    let free : slice_get blocks.owners k ≡ Some None = bit_set blocks.owners bits k marked lowest.set in
    let place : blocks.from + k - blocks.from ≡ k = omega arith in
    record {
      free = record {
        place = (omega arith, omega (arith, slice_get_within blocks.owners k None free));
        free = ap (slice_get blocks.owners) place ∙ free;
      };
      lowest = λ other before is.
          false≢true (same_Some false true (sym (lowest.lowest (other - blocks.from) (omega (arith, before, is.place.0))) ∙ set_bit blocks.owners bits (other - blocks.from) marked is.free));
    }
