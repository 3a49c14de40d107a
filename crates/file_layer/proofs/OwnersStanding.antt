-- Whose blocks stand where the owners say, and what files are known by that.
use Rattle.std.proofs.Common.{◌≡◌, ◌↔◌, ℕ, zero, suc, ◌-◌, ◌*◌, List, [], ◌∷◌, ◌++◌, length, replicate, None, Some, IsSome, slice_get, refl, arith}
use Rattle.std.specs.Prelude.{is_some}
use Rattle.std.specs.FinMap.{get}
use Rattle.nesc_base.specs.Geometry.{area_from, block_owners, map_blocks}
use Rattle.nesc_base.specs.Places.{IsOwned, Owns, Places}
use Rattle.block_map.specs.Map.{StandsAt}
use Rattle.image_layout.specs.Opens.{ArePlaces}
use Rattle.file_layer.proofs.Padded.{stands_in_front, stands_with_more}
use Rattle.file_layer.specs.Knowing.{FileSet}
use Rattle.file_layer.specs.Layer.{Layer, owners_of}

-- owners that the map blocks have stand where those in memory do
pub owned_as_stands : (files : Layer) → files.map.from ≡ area_from files.geometry → (n v at : ℕ) → IsOwned (area_from files.geometry) (owners_of files) n v at ↔ StandsAt files.map n v at
owned_as_stands files from n v at =
    let behind : ℕ = block_owners * map_blocks files.geometry - files.geometry.blocks in (
      λ owned.
          let place = owned.5 in
          (owned.0, owned.1, stands_in_front files.map.owners behind owned.0 owned.1 owned.2, owned.3, owned.4, omega (arith, place, from)),
      λ stands.
          let place = stands.5 in
          (stands.0, stands.1, stands_with_more files.map.owners (replicate behind None) stands.0 (Some stands.1) stands.2, stands.3, stands.4, omega (arith, place, from)),
    )

-- places are those of the owners where they are those in memory
pub placed_as_stands : (files : Layer) (set : FileSet) (places : Places) → files.map.from ≡ area_from files.geometry → ((n : ℕ) → is_some (get places n) ≡ is_some (get set n))
    → ((n v at : ℕ) → IsSome (get set n) → Owns places n v at ↔ StandsAt files.map n v at) → ArePlaces files.geometry (owners_of files) set places
placed_as_stands files set places from filed each = record {
  filed = filed;
  each = λ n v at some. (
    λ owns. (owned_as_stands files from n v at).1 ((each n v at some).0 owns),
    λ owned. (each n v at some).1 ((owned_as_stands files from n v at).0 owned),
  );
}

-- lists of one length stay alike with more behind them
pub alike_with_more : {X : Type 0} (xs ys more : List X) (k : ℕ) → length xs ≡ length ys → slice_get xs k ≡ slice_get ys k → slice_get (xs ++ more) k ≡ slice_get (ys ++ more) k
alike_with_more [] [] more k long same = refl
alike_with_more [] (y ∷ ys) more k long same = absurd (omega arith)
alike_with_more (x ∷ xs) [] more k long same = absurd (omega arith)
alike_with_more (x ∷ xs) (y ∷ ys) more zero long same = same
alike_with_more (x ∷ xs) (y ∷ ys) more (suc k) long same = alike_with_more xs ys more k (omega arith) same
