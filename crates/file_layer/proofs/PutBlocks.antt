-- A block that is staged for the place of a held block is that block of its file.
use Rattle.std.proofs.Common.{◌≡◌, ◌≢◌, ℕ, ◌<◌, true, inl, inr, List, Option, Some, None, length, option_map, slice_get, refl, sym, ap, ◌∙◌, arith}
use Rattle.std.specs.Prelude.{IsSome, is_some, slice_set}
use Rattle.std.specs.FinMap.{get, insert}
use Rattle.std.specs.Option.{option_and_then}
use Rattle.std.proofs.lemmas.Bool.{cases_eq}
use Rattle.std.proofs.lemmas.Option.{none-some, same_Some}
use Rattle.nesc_base.specs.declared.block.Block.{Block}
use Rattle.nesc_base.specs.Files.{File}
use Rattle.nesc_base.specs.Geometry.{area_from}
use Rattle.nesc_base.specs.Places.{AreApart, HeldAt, IsOwned, Owner, Owns, Places, place_of}
use Rattle.nesc_base.proofs.Differing.{slice_get-set_other, slice_get-set_same}
use Rattle.nesc_base.proofs.Maps.{get-insert_other, get-insert_same}
use Rattle.image_layout.proofs.OpenedFiles.{some_there}
use Rattle.slot_layout.proofs.Alike.{length-laid_over}
use Rattle.host_journal.specs.Journal.{Journal, staging}
use Rattle.host_journal.specs.Staged.{fresh_of, now_of, targets_of}
use Rattle.host_journal.proofs.Overlaid.{stages_one}
use Rattle.file_layer.specs.Changing.{PutsAt}
use Rattle.file_layer.specs.Knowing.{FileSet, Knows, entry_for}
use Rattle.file_layer.specs.Layer.{Fits, Layer, owners_of}
use Rattle.file_layer.proofs.LaidParts.{parts_alike}
use Rattle.file_layer.proofs.LayerOwners.{owner_within}
use Rattle.file_layer.proofs.ShownFiles.{is_some_at}

-- where a block owns a place there are places for its file
owns_some : (held : Option HeldAt) (v at : ℕ) → option_and_then (λ (h : HeldAt). get h v) held ≡ Some at → is_some held ≡ true
owns_some None v at owns = absurd (none-some at owns)
owns_some (Some held) v at owns = refl

module _ (files : Layer) (set : FileSet) (places : Places) (knows : Knows files set places) where
  -- a block that owns a place is of a file, and the place has it as its owner
  owned_by_file : (n v at : ℕ) → Owns places n v at → IsSome (get set n)
  owned_by_file n v at owns = sym (knows.placed.filed n) ∙ owns_some (get places n) v at owns

  owned_there : (n v at : ℕ) → Owns places n v at → IsOwned (area_from files.geometry) (owners_of files) n v at
  owned_there n v at owns = (knows.placed.each n v at (owned_by_file n v at owns)).0 owns

  -- so no two blocks own one place
  pub known_apart : AreApart places
  known_apart m v n w at one_owns other_owns =
      let one = owned_there m v at one_owns in
      let other = owned_there n w at other_owns in
      let place : one.0 ≡ other.0 = omega (arith, one.5, other.5) in
      let same : one.1 ≡ other.1 = same_Some one.1 other.1 (same_Some (Some one.1) (Some other.1) (sym one.2 ∙ ap (slice_get (owners_of files)) place ∙ other.2)) in
      (sym one.3 ∙ ap (λ (o : Owner). o.0.0) same ∙ other.3, sym one.4 ∙ ap (λ (o : Owner). o.1) same ∙ other.4)

-- the file with a block put
abbrev with_block : File → ℕ → Block → File
with_block file v block = record file { body = insert file.body v block }

-- a file of some after the put of a block is one from before, or the one in which it is put
data Remains (set : FileSet) (n v : ℕ) (block : Block) (file : File) (m : ℕ) (other : File) : Type 0 where
  here : m ≡ n → with_block file v block ≡ other → Remains set n v block file m other
  before : m ≢ n → get set m ≡ Some other → Remains set n v block file m other

module _ (set : FileSet) (n v : ℕ) (block : Block) (file : File) (stands : get set n ≡ Some file) (held : IsSome (get file.body v)) where
  abbrev after : FileSet
  after = insert set n (with_block file v block)

  remains : (m : ℕ) (other : File) → get after m ≡ Some other → Remains set n v block file m other
  remains m other there = elim (cases_eq m n) [
    | inl same ↦ here same (same_Some (with_block file v block) other (sym (get-insert_same set n (with_block file v block)) ∙ ap (get after) (sym same) ∙ there))
    | inr apart ↦ before apart (sym (get-insert_other set n (with_block file v block) m apart) ∙ there)
  ]

  -- nothing but what the block holds has changed
  named_alike : (m : ℕ) → option_map entry_for (get after m) ≡ option_map entry_for (get set m)
  named_alike m = elim (cases_eq m n) [
    | inl same ↦
        ap (λ k. option_map entry_for (get after k)) same ∙ ap (option_map entry_for) (get-insert_same set n (with_block file v block))
        ∙ sym (ap (λ k. option_map entry_for (get set k)) same ∙ ap (option_map entry_for) stands)
    | inr apart ↦ ap (option_map entry_for) (get-insert_other set n (with_block file v block) m apart)
  ]

  there_alike : (m : ℕ) → is_some (get after m) ≡ is_some (get set m)
  there_alike m = elim (cases_eq m n) [
    | inl same ↦
        ap (λ k. is_some (get after k)) same ∙ ap is_some (get-insert_same set n (with_block file v block))
        ∙ sym (ap (λ k. is_some (get set k)) same ∙ ap is_some stands)
    | inr apart ↦ ap is_some (get-insert_other set n (with_block file v block) m apart)
  ]

  -- the same blocks are held
  held_alike : (w : ℕ) → is_some (get (with_block file v block).body w) ≡ is_some (get file.body w)
  held_alike w = elim (cases_eq w v) [
    | inl same ↦
        ap (λ k. is_some (get (with_block file v block).body k)) same ∙ ap is_some (get-insert_same file.body v block)
        ∙ sym (ap (λ k. is_some (get file.body k)) same ∙ held)
    | inr apart ↦ ap is_some (get-insert_other file.body v block w apart)
  ]

  known_after : (files : Layer) (places : Places) → Knows files set places → Knows files after places
  known_after files places knows = record {
    named = λ m. named_alike m ∙ knows.named m;
    placed = record {
      filed = λ m. knows.placed.filed m ∙ sym (there_alike m);
      each = λ m w at some. knows.placed.each m w at (sym (there_alike m) ∙ some);
    };
    held = λ m w other there. elim (remains m other there) [
      | here same is ↦
          let alike : is_some (get other.body w) ≡ is_some (get file.body w) = ap (λ (f : File). is_some (get f.body w)) (sym is) ∙ held_alike w in
          let known = knows.held m w file (ap (get set) same ∙ stands) in
          (λ some. known.0 (sym alike ∙ some), λ some. alike ∙ known.1 some)
      | before apart stood ↦ knows.held m w other stood
    ];
  }

  -- each block stands at its place
  reads_after : (now : List Block) (places : Places) (at : ℕ) → AreApart places → Owns places n v at → at < length now
      → ((m w place : ℕ) (other : File) → get set m ≡ Some other → Owns places m w place → get other.body w ≡ slice_get now place)
      → (m w place : ℕ) (other : File) → get after m ≡ Some other → Owns places m w place → get other.body w ≡ slice_get (slice_set now at block) place
  reads_after now places at apart owns within reads m w place other there owned = elim (cases_eq place at) [
    | inl same ↦
        let one : (m ≡ n) × (w ≡ v) = apart m w n v at (owned ∙ ap (λ (p : ℕ). Some p) same) owns in
        put_there one.0 one.1 same (remains m other there)
    | inr elsewhere ↦
        put_elsewhere (λ same_file same_place. elsewhere (same_Some place at (sym owned ∙ ap (λ k. place_of places k w) same_file ∙ ap (place_of places n) same_place ∙ owns)))
        (remains m other there) ∙ sym (slice_get-set_other now at place block elsewhere)
  ]
    where
      put_there : m ≡ n → w ≡ v → place ≡ at → Remains set n v block file m other → get other.body w ≡ slice_get (slice_set now at block) place
      put_there same_file same_place same (here is_file is) =
          ap (λ (f : File). get f.body w) (sym is) ∙ ap (get (insert file.body v block)) same_place ∙ get-insert_same file.body v block
          ∙ sym (ap (slice_get (slice_set now at block)) same ∙ slice_get-set_same now at block within)
      put_there same_file same_place same (before other_file stood) = absurd (other_file same_file)

      put_elsewhere : (m ≡ n → w ≡ v → ⊥) → Remains set n v block file m other → get other.body w ≡ slice_get now place
      put_elsewhere not_here (here is_file is) =
          ap (λ (f : File). get f.body w) (sym is) ∙ get-insert_other file.body v block w (λ same. not_here is_file same)
          ∙ reads m w place file (ap (get set) is_file ∙ stands) owned
      put_elsewhere not_here (before other_file stood) = reads m w place other stood owned

pub puts_at : (files : Layer) (journal : Journal) → Fits files journal → PutsAt files journal
puts_at files journal fits n v at block kept set places shows owns =
    let now : List Block = now_of journal.staged kept in
    let file = some_there (get set n) (owned_by_file files set places shows.knows n v at owns) in
    let held : IsSome (get file.0.body v) = (shows.knows.held n v file.0 file.1).1 (is_some_at (place_of places n v) at owns) in
    let owned = owned_there files set places shows.knows n v at owns in
    let place = owned.5 in
    let below = owner_within files fits.layer owned.0 owned.1 owned.2 in
    let within : at < length now = let whole = shows.whole in omega (arith, place, below, whole, length-laid_over (targets_of journal.staged) (fresh_of journal.staged) kept) in
    let is : now_of (staging journal at block).staged kept ≡ slice_set now at block = stages_one journal.staged kept at block in
    let others : FileSet = after set n v block file.0 file.1 held in
    let reads : (m w q : ℕ) (other : File) → get others m ≡ Some other → Owns places m w q → get other.body w ≡ slice_get (slice_set now at block) q =
    reads_after set n v block file.0 file.1 held now places at (known_apart files set places shows.knows) owns within shows.stands in (
      others,
      record { file = file.0; stands = file.1; held = held; result = refl },
      record {
        whole = shows.whole;
        parts = parts_alike files.geometry now (now_of (staging journal at block).staged kept) files.table (owners_of files)
            (λ q from before_area. ap (λ (blocks : List Block). slice_get blocks q) is ∙ slice_get-set_other now at q block (λ same. omega (arith, same, place, before_area))) shows.parts;
        knows = known_after set n v block file.0 file.1 held files places shows.knows;
        stands = λ m w q other there owned_so. reads m w q other there owned_so ∙ ap (λ (blocks : List Block). slice_get blocks q) (sym is);
      },
    )
