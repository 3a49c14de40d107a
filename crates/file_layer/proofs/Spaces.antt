-- What is answered of blocks of a file of a length, by what is known in memory.
use Rattle.std.proofs.Common.{◌≡◌, ℕ, ◌+◌, ◌-◌, ◌<◌, ◌≤◌, Option, None, Some, refl, length, option_map, sym, ap, ◌∙◌, arith}
use Rattle.std.specs.Prelude.{min, nat_lt, not, unwrap_or}
use Rattle.std.specs.List.{filter}
use Rattle.std.specs.FinMap.{get}
use Rattle.nesc_base.specs.Files.{File, file_at}
use Rattle.nesc_base.specs.Places.{Places}
use Rattle.block_map.specs.Map.{count_free}
use Rattle.file_model.specs.Files.{unheld, unheld_below}
use Rattle.file_layer.specs.Answers.{HasSpace, IsPast, IsWithin, LacksSpace}
use Rattle.file_layer.specs.Knowing.{FileSet, Knows}
use Rattle.file_layer.specs.Layer.{IsLayer, Layer, is_held, lacking, lacking_below}
use Rattle.file_layer.proofs.Known.{free_alike, no_file, unheld_alike}
use Rattle.file_layer.proofs.Passing.{pass_below}
use Rattle.file_layer.proofs.NamedFiles.{mapped}

-- there is a file of this length
abbrev pub IsLong : FileSet → ℕ → ℕ → Type 0
IsLong set n long = option_map (λ (held : File). held.length) (get set n) ≡ Some long

pub is_past : (set : FileSet) (n long v count : ℕ) → IsLong set n long → long < v + count → IsPast set n v count
is_past set n long v count is past =
    let file = mapped (λ (held : File). held.length) (get set n) long is in
    record { file = file.0; stands = file.1; past = omega (arith, file.2, past) }

pub is_within : (set : FileSet) (n long v count : ℕ) → IsLong set n long → v + count ≤ long → IsWithin set n v count
is_within set n long v count is within =
    let file = mapped (λ (held : File). held.length) (get set n) long is in
    record { file = file.0; stands = file.1; within = omega (arith, file.2, within) }

module _ (files : Layer) (set : FileSet) (places : Places) (layer : IsLayer files) (knows : Knows files set places) where
  -- so many are not held
  lacked : (n v count needed : ℕ) (file : File) → get set n ≡ Some file → needed ≡ length (lacking files n v (v + count - v)) → needed ≡ length (unheld file v count)
  lacked n v count needed file stands counted =
      let width : v + count - v ≡ count = omega arith in
      let here : file_at set n ≡ file = ap (λ o. unwrap_or o no_file) stands in
      counted ∙ ap (λ k. length (lacking files n v k)) width ∙ ap length (sym (unheld_alike files set places layer knows n v count))
      ∙ ap (λ (f : File). length (unheld f v count)) here

  pub lacks_space : (n long v count are_free needed : ℕ) → IsLong set n long → v + count ≤ long → are_free ≡ count_free files.map.owners → needed ≡ length (lacking files n v (v + count - v)) → are_free < needed
      → LacksSpace files.geometry.blocks set n v count are_free needed
  lacks_space n long v count are_free needed is within counted_free counted few =
      let file = mapped (λ (held : File). held.length) (get set n) long is in
      record {
        file = file.0;
        stands = file.1;
        within = omega (arith, file.2, within);
        free = counted_free ∙ sym (free_alike files set places layer knows);
        lacked = lacked n v count needed file.0 file.1 counted;
        few = few;
      }

  pub has_space : (n long v count are_free needed : ℕ) → IsLong set n long → v + count ≤ long → are_free ≡ count_free files.map.owners → needed ≡ length (lacking files n v (v + count - v)) → needed ≤ are_free
      → HasSpace files.geometry.blocks set n v count needed
  has_space n long v count are_free needed is within counted_free counted enough =
      let file = mapped (λ (held : File). held.length) (get set n) long is in
      record {
        file = file.0;
        stands = file.1;
        within = omega (arith, file.2, within);
        counted = lacked n v count needed file.0 file.1 counted;
        enough = omega (arith, enough, counted_free, free_alike files set places layer knows);
      }

  -- those below the length that are not held end with the file
  pub unheld_below_ends : (n v count below ends : ℕ) → (file_at set n).length ≡ below → ends ≡ min (v + count) below → length (unheld_below (file_at set n) v count) ≡ length (lacking files n v (ends - v))
  unheld_below_ends n v count below ends long ending =
      let width : ends - v ≡ min (v + count) below - v = omega (arith, ending) in
      ap (λ l. length (filter (λ at. nat_lt at l) (unheld (file_at set n) v count))) long
      ∙ ap (λ xs. length (filter (λ at. nat_lt at below) xs)) (unheld_alike files set places layer knows n v count)
      ∙ ap length (pass_below (λ at. not (is_held files n at)) below v count (ends - v) width)

-- so of an entry
pub lacking_below_ends : (files : Layer) (n v count below ends : ℕ) → ends ≡ min (v + count) below → lacking_below files n below v count ≡ lacking files n v (ends - v)
lacking_below_ends files n v count below ends ending =
    let width : ends - v ≡ min (v + count) below - v = omega (arith, ending) in
    pass_below (λ at. not (is_held files n at)) below v count (ends - v) width

-- the length of a file, or 0 where there is none
pub length_or_none : (o : Option File) → unwrap_or (option_map (λ (held : File). held.length) o) 0 ≡ (unwrap_or o no_file).length
length_or_none None = refl
length_or_none (Some file) = refl
