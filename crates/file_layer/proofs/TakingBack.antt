-- Data blocks that are given back.
use Rattle.std.proofs.Common.{◌≡◌, ℕ, ◌-◌, inl, inr, List, Option, None, Some, slice_get, sym, ap, ◌∙◌, subst, arith}
use Rattle.std.specs.Prelude.{slice_set}
use Rattle.std.proofs.lemmas.Bool.{cases_eq}
use Rattle.std.proofs.lemmas.List.{length-set}
use Rattle.std.proofs.lemmas.Option.{none-some, same_Some, slice_get_within}
use Rattle.nesc_base.specs.Places.{Owner}
use Rattle.nesc_base.proofs.Differing.{slice_get-set_other, slice_get-set_same}
use Rattle.block_map.specs.Map.{with_owner}
use Rattle.host_journal.specs.Journal.{Journal, forgetting}
use Rattle.host_journal.proofs.Belonging.{stay_sound}
use Rattle.file_layer.specs.Layer.{Fits, IsLayer, Layer}

-- an owner that stands once a data block is free stood before
pub stood_before : (owners : List (Option Owner)) (at k : ℕ) (owner : Owner) → slice_get (slice_set owners at None) k ≡ Some (Some owner) → slice_get owners k ≡ Some (Some owner)
stood_before owners at k owner is = elim (cases_eq k at) [
  | inl same ↦
      let within = slice_get_within (slice_set owners at None) k (Some owner) is in
      let there : slice_get (slice_set owners at None) at ≡ Some None = slice_get-set_same owners at None (omega (arith, within, same, length-set owners at None)) in
      absurd (none-some owner (same_Some None (Some owner) (sym there ∙ ap (slice_get (slice_set owners at None)) (sym same) ∙ is)))
  | inr apart ↦ sym (slice_get-set_other owners at k None apart) ∙ is
]

-- with one data block free
abbrev pub without : Layer → ℕ → Layer
without files at = record files { map = with_owner files.map at None }

layer_without : (files : Layer) (at : ℕ) → IsLayer files → IsLayer (without files at)
layer_without files at layer = record {
  sizes = layer.sizes;
  entries = layer.entries;
  from = layer.from;
  count = length-set files.map.owners (at - files.map.from) None ∙ layer.count;
  may = λ k owner is. layer.may k owner (stood_before files.map.owners (at - files.map.from) k owner is);
  once = λ j k owner one other.
      layer.once j k owner (stood_before files.map.owners (at - files.map.from) j owner one) (stood_before files.map.owners (at - files.map.from) k owner other);
}

pub fits_without : (files : Layer) (journal after : Journal) (at : ℕ) → Fits files journal → after ≡ forgetting journal at → Fits (without files at) after
fits_without files journal after at fits is = subst (λ (j : Journal). Fits (without files at) j) (sym is) (record {
  layer = layer_without files at fits.layer;
  sound = (stay_sound {D = ⊥} (λ (none : ⊥). absurd none) journal at).forget.sound fits.sound;
  same = fits.same;
})
