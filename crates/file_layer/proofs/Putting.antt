-- Blocks that are held are put, one after another.
use Rattle.std.proofs.Common.{◌≡◌, inl, inr, ℕ, ◌+◌, ◌<◌, ◌≤◌, Bool, List, [], ◌∷◌, ◌++◌, length, take, Some, refl, sym, ap, ◌∙◌, subst, arith}
use Rattle.std.specs.FinMap.{insert}
use Rattle.std.specs.Prelude.{is_some, slice_get}
use Rattle.std.proofs.lemmas.Bool.{cases_eq}
use Rattle.std.proofs.lemmas.List.{length-take-le, take_all, take_more}
use Rattle.std.proofs.lemmas.Option.{get_or_from_slice_get, slice_get_within}
use Rattle.nesc_base.specs.declared.block.Block.{Block}
use Rattle.nesc_base.specs.declared.geometry.Geometry.{Geometry}
use Rattle.nesc_base.specs.Files.{Files}
use Rattle.nesc_base.specs.Geometry.{area_from}
use Rattle.nesc_base.specs.Places.{Owns, Places}
use Rattle.nesc_base.proofs.Maps.{get-insert_other}
use Rattle.block_map.specs.Map.{StandsAt}
use Rattle.host_journal.specs.Journal.{IsJournal, Journal, staging}
use Rattle.host_journal.specs.Staged.{MayStage, Staged}
use Rattle.host_journal.proofs.Belonging.{stay_sound}
use Rattle.file_model.specs.Files.{LeadsTo, Puts, puts_from}
use Rattle.file_model.specs.Files.{with_block}
use Rattle.file_model.proofs.Writing.{puts_more}
use Rattle.file_layer.specs.Changing.{GoesOn, IsOfBlocks, Stages}
use Rattle.file_layer.specs.Filling.{PutsBut, left_of}
use Rattle.file_layer.specs.Knowing.{FileSet}
use Rattle.file_layer.specs.Layer.{Fits, IsLayer, IsUsed, Layer}
use Rattle.file_layer.specs.Staging.{IsLeft, ShowsBut}
use Rattle.file_layer.proofs.Giving.{file_there, shows_staged}
use Rattle.file_layer.proofs.Growing.{entry_there}
use Rattle.file_layer.proofs.Known.{owns_where_stands}
use Rattle.file_layer.proofs.SoFar.{counts_one}

-- the first so many of the blocks are put
abbrev pub PutsTo : ℕ → List Bool → ℕ → ℕ → List Block → Layer → Staged → Staged → Type 0
PutsTo k marks n v blocks files before after =
    (kept : List Block) (set : Files) (places : Places) → ShowsBut marks (left_of n v (v + length blocks)) files before kept set places
    → (others : Files) × LeadsTo set (puts_from n v (take k blocks)) others × ShowsBut marks (left_of n (v + k) (v + length blocks)) files after kept others places

pub record StagesTo (n v k : ℕ) (blocks : List Block) (files : Layer) (before after : Journal) : Type 0 where
  pub puts : (marks : List Bool) → PutsTo k marks n v blocks files before.staged after.staged
  pub stages : Stages (IsOfBlocks files.map n v (length blocks)) k before after
  pub goes : GoesOn before after

pub stages_begin : (n v : ℕ) (blocks : List Block) (files : Layer) (journal : Journal) → IsJournal journal → StagesTo n v 0 blocks files journal journal
stages_begin n v blocks files journal sound = record {
  puts = λ marks kept set places shows.
      let here : v ≡ v + 0 = omega arith in
      (set, refl, subst (λ (w : ℕ). ShowsBut marks (left_of n w (v + length blocks)) files journal.staged kept set places) here shows);
  stages = record { counted = omega arith; others = λ at other. refl };
  goes = record { sound = sound; same_geometry = refl; same_start = refl };
}

-- what is not left out any more
still_left : (n v end m w : ℕ) → ¬ IsLeft (left_of n (v + 1) end) m w → ¬ ((m ≡ n) × (w ≡ v)) → ¬ IsLeft (left_of n v end) m w
still_left n v end m w shown other left = elim (cases_eq w v) [
  | inl same ↦ other (left.0, same)
  | inr apart ↦ shown (left.0, omega (arith, left.1, apart), left.2)
]

-- one block that is held is put
puts_one : (marks : List Bool) (n v end at : ℕ) (block : Block) (files : Layer) (staged : Staged) (kept : List Block) (set : FileSet) (places : Places) → IsLayer files → IsUsed files n → StandsAt files.map n v at
    → ShowsBut marks (left_of n v end) files staged kept set places
    → (others : Files) × Puts set n v block others × ShowsBut marks (left_of n (v + 1) end) files (insert staged at block) kept others places
puts_one marks n v end at block files staged kept set places layer used stands shows =
    let entry = entry_there files n used in
    let found = file_there files set places layer shows.knows n entry.0 entry.1 in
    let owns : Owns places n v at = (owns_where_stands files set places layer shows.knows n v at).1 stands in (
      insert set n (with_block found.0 v block),
      record { file = found.0; stands = found.1; held = (shows.knows.held n v found.0 found.1).1 (ap is_some owns); result = refl },
      shows_staged marks (left_of n v end) files staged kept set places layer shows (left_of n (v + 1) end) n v at block found.0 found.1 owns (still_left n v end),
    )

module _ (n v k at : ℕ) (block : Block) (blocks : List Block) (files : Layer) (before after : Journal) (fits : Fits files before) (so_far : StagesTo n v k blocks files before after)
    (used : IsUsed files n) (stands : StandsAt files.map n (v + k) at) (is : slice_get blocks k ≡ Some block) where
  within : k < length blocks
  within = slice_get_within blocks k block is

  one_more : take (k + 1) blocks ≡ take k blocks ++ block ∷ []
  one_more = take_more blocks k block within ∙ ap (λ (b : Block). take k blocks ++ b ∷ []) (get_or_from_slice_get blocks k block block is)

  puts_next : (marks : List Bool) → PutsTo (k + 1) marks n v blocks files before.staged (insert after.staged at block)
  puts_next marks kept set places shows =
      let (others, leads, shown) = so_far.puts marks kept set places shows in
      let (later, puts, so) = puts_one marks n (v + k) (v + length blocks) at block files after.staged kept others places fits.layer used stands shown in
      let there : v + k ≡ v + length (take k blocks) = ap (λ w. v + w) (sym (length-take-le k blocks (omega (arith, within)))) in
      let next : v + k + 1 ≡ v + (k + 1) = omega arith in (
        later,
        subst (λ (bs : List Block). LeadsTo set (puts_from n v bs) later) (sym one_more)
            (puts_more set n v (take k blocks) others block later leads (subst (λ (w : ℕ). Puts others n w block later) there puts)),
        subst (λ (w : ℕ). ShowsBut marks (left_of n w (v + length blocks)) files (insert after.staged at block) kept later places) next so,
      )

  same_image : files.geometry ≡ after.geometry
  same_image = sym fits.same ∙ sym so_far.goes.same_geometry

  at_data : (area_from after.geometry ≤ at) × MayStage after.geometry at
  at_data =
      let layer = fits.layer in
      let inside : stands.0 < length files.map.owners = slice_get_within files.map.owners stands.0 (Some stands.1) stands.2 in
      subst (λ (g : Geometry). (area_from g ≤ at) × MayStage g at) same_image
      (omega (arith, stands.5, layer.from), (omega (arith, stands.5, layer.from), omega (arith, stands.5, inside, layer.from, layer.count)))

  pub room_next : before.count + length blocks ≤ before.geometry.slack → after.count < after.geometry.slack
  room_next room =
      let slack : after.geometry.slack ≡ before.geometry.slack = ap (λ (g : Geometry). g.slack) so_far.goes.same_geometry in
      omega (arith, slack, room, within, so_far.stages.counted)

  pub stages_next : (behind : Journal) → before.count + length blocks ≤ before.geometry.slack → behind ≡ staging after at block → StagesTo n v (k + 1) blocks files before behind
  stages_next behind room behind_is = subst (λ (j : Journal). StagesTo n v (k + 1) blocks files before j) (sym behind_is) (record {
    puts = puts_next;
    stages = record {
      counted = omega (arith, counts_one after at k at_data.0, so_far.stages.counted);
      others = λ q other. elim (cases_eq q at) [
        | inl same ↦ absurd (other (v + k, omega arith, omega (arith, within), subst (λ (p : ℕ). StandsAt files.map n (v + k) p) (sym same) stands))
        | inr apart ↦ get-insert_other after.staged at block q apart ∙ so_far.stages.others q other
      ];
    };
    goes = record {
      sound = ((stay_sound {D = ⊥} (λ none. absurd none) after at).stage block at_data.1 (λ _. room_next room)).sound so_far.goes.sound;
      same_geometry = so_far.goes.same_geometry;
      same_start = so_far.goes.same_start;
    };
  })

-- all of them
pub puts_all : (marks : List Bool) (n v k : ℕ) (blocks : List Block) (files : Layer) (before after : Journal) → StagesTo n v k blocks files before after → k ≡ length blocks
    → PutsBut marks n v blocks files before.staged after.staged
puts_all marks n v k blocks files before after so_far all kept set places shows =
    let (others, leads, shown) = so_far.puts marks kept set places shows in (
      others,
      subst (λ (bs : List Block). LeadsTo set (puts_from n v bs) others) (take_all k blocks (omega (arith, all))) leads,
      subst (λ (w : ℕ). ShowsBut marks (left_of n (v + w) (v + length blocks)) files after.staged kept others places) all shown,
    )
