-- The owners of a map block, copied one after another from the data blocks in memory.
use Rattle.std.proofs.Common.{◌≡◌, ℕ, zero, suc, ◌+◌, ◌-◌, ◌*◌, ◌<◌, ◌≤◌, inl, inr, List, [], ◌∷◌, ◌++◌, Option, Some, None, drop, length, replicate, slice_get, take, refl, sym, ap, ◌∙◌, arith, length-take}
use Rattle.std.specs.Prelude.{slice_set}
use Rattle.std.proofs.lemmas.Bool.{cases_eq, cases_lt}
use Rattle.std.proofs.lemmas.List.{length-replicate, length-set}
use Rattle.std.proofs.lemmas.Option.{slice_get_past}
use Rattle.nesc_base.specs.Geometry.{block_owners, map_blocks}
use Rattle.nesc_base.specs.Places.{Owner}
use Rattle.nesc_base.proofs.Differing.{same_by_places, slice_get-set_other, slice_get-set_same}
use Rattle.image_layout.proofs.OneMap.{slice_get-drop}
use Rattle.image_layout.proofs.TableLemmas.{slice_get-take}
use Rattle.file_layer.specs.Layer.{IsLayer, Layer, owners_of}

-- the first so many of those from a place on are copied, and none stands behind them
pub record AreCopied (all : List (Option Owner)) (first count : ℕ) (owners : List (Option Owner)) : Type 0 where
  pub size : length owners ≡ 128
  pub these : (j : ℕ) → j < count → slice_get owners j ≡ slice_get all (first + j)
  pub none : (j : ℕ) → count ≤ j → j < 128 → slice_get owners j ≡ Some None

slice_get-replicate : {X : Type 0} (n k : ℕ) (x : X) → k < n → slice_get (replicate n x) k ≡ Some x
slice_get-replicate zero k x below = absurd (omega arith)
slice_get-replicate (suc n) zero x below = refl
slice_get-replicate (suc n) (suc k) x below = slice_get-replicate n k x (omega arith)

pub copied_none : (all : List (Option Owner)) (first count : ℕ) (owners : List (Option Owner)) → count ≡ 0 → owners ≡ replicate 128 None → AreCopied all first count owners
copied_none all first count owners zero_yet is = record {
  size = ap length is ∙ length-replicate {A = Option Owner} 128 None;
  these = λ j below. absurd (omega (arith, below, zero_yet));
  none = λ j past below. ap (λ (os : List (Option Owner)). slice_get os j) is ∙ slice_get-replicate 128 j None below;
}

pub copied_more : (all : List (Option Owner)) (first count next : ℕ) (owners new : List (Option Owner)) (owner : Option Owner) → next ≡ count + 1 → count < 128
    → slice_get all (first + count) ≡ Some owner → new ≡ slice_set owners count owner → AreCopied all first count owners → AreCopied all first next new
copied_more all first count next owners new owner more within there is copied = record {
  size = ap length is ∙ length-set owners count owner ∙ copied.size;
  these = λ j below. ap (λ (os : List (Option Owner)). slice_get os j) is ∙ elim (cases_eq j count) [
    | inl same ↦
        let size = copied.size in
        ap (slice_get (slice_set owners count owner)) same ∙ slice_get-set_same owners count owner (omega (arith, size, within)) ∙ sym there
        ∙ ap (λ i. slice_get all (first + i)) (sym same)
    | inr apart ↦ slice_get-set_other owners count j owner apart ∙ copied.these j (omega (arith, apart, below, more))
  ];
  none = λ j past below.
      ap (λ (os : List (Option Owner)). slice_get os j) is ∙ slice_get-set_other owners count j owner (λ same. omega (arith, same, past, more))
      ∙ copied.none j (omega (arith, past, more)) below;
}

-- What stands among all

-- an owner of a data block
stands_before : {X : Type 0} (xs ys : List X) (k : ℕ) → k < length xs → slice_get (xs ++ ys) k ≡ slice_get xs k
stands_before [] ys k below = absurd (omega arith)
stands_before (x ∷ xs) ys zero below = refl
stands_before (x ∷ xs) ys (suc k) below = stands_before xs ys k (omega arith)

-- and none behind the last of them
stands_behind : {X : Type 0} (xs ys : List X) (k j : ℕ) → k ≡ length xs + j → slice_get (xs ++ ys) k ≡ slice_get ys j
stands_behind [] ys k j at = let same : k ≡ j = omega (arith, at) in ap (slice_get ys) same
stands_behind (x ∷ xs) ys zero j at = absurd (omega (arith, at))
stands_behind (x ∷ xs) ys (suc k) j at = stands_behind xs ys k j (omega (arith, at))

module _ (files : Layer) (layer : IsLayer files) where
  pub owner_of_data : (k : ℕ) → k < files.geometry.blocks → slice_get (owners_of files) k ≡ slice_get files.map.owners k
  owner_of_data k below =
      let count = layer.count in
      stands_before files.map.owners (replicate (block_owners * map_blocks files.geometry - files.geometry.blocks) None) k (omega (arith, count, below))

  none_behind : (k : ℕ) → files.geometry.blocks ≤ k → k < 128 * map_blocks files.geometry → slice_get (owners_of files) k ≡ Some None
  none_behind k past below =
      let count = layer.count in
      let rest : ℕ = 128 * map_blocks files.geometry - files.geometry.blocks in
      stands_behind files.map.owners (replicate rest None) k (k - files.geometry.blocks) (omega (arith, count, past))
      ∙ slice_get-replicate rest (k - files.geometry.blocks) None (omega (arith, past, below))

  -- once all data blocks of a map block are done, its owners are those of the map block
  pub copied_all : (b count : ℕ) (owners : List (Option Owner)) → b < map_blocks files.geometry → count ≤ 128
      → (count < 128 → files.geometry.blocks ≤ 128 * b + count) → AreCopied (owners_of files) (128 * b) count owners
      → owners ≡ take block_owners (drop (block_owners * b) (owners_of files))
  copied_all b count owners last few done copied =
      let all : List (Option Owner) = owners_of files in
      let among : (j : ℕ) → j < 128 → slice_get (take 128 (drop (128 * b) all)) j ≡ slice_get all (128 * b + j) =
      λ j below. slice_get-take (drop (128 * b) all) 128 j below ∙ slice_get-drop (128 * b) all j in
      same_by_places owners (take 128 (drop (128 * b) all)) (λ j. elim (cases_lt j 128) [
        | inl below ↦ elim (cases_lt j count) [
          | inl early ↦ copied.these j early ∙ sym (among j below)
          | inr late ↦ copied.none j late below ∙ sym (among j below ∙ none_behind (128 * b + j) (omega (arith, late, below, done)) (omega (arith, last, below)))
        ]
        | inr past ↦
            let size = copied.size in
            slice_get_past owners j (omega (arith, size, past))
            ∙ sym (slice_get_past (take 128 (drop (128 * b) all)) j (omega (arith, past, length-take 128 (drop (128 * b) all))))
      ])
