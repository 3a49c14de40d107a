-- What is staged, laid over the blocks that are kept, place by place.
use Rattle.std.proofs.Common.{◌≡◌, inl, inr, ℕ, zero, suc, ◌<◌, true, false, cond, T, List, [], ◌∷◌, map, slice_get, Option, None, Some, IsSome, refl, sym, ap, ◌∙◌, arith}
use Rattle.std.specs.Prelude.{slice_set, unwrap_or}
use Rattle.std.specs.declared.cmp.Ordering.{Ordering}
use Rattle.std.specs.declared.cmp.Ordering.TheVariants.{Less, Equal, Greater}
use Rattle.std.specs.FinMap.{empty, entries, entries_sorted, find, get, get-empty, get-entries, insert, is_sorted, remove}
use Rattle.std.specs.FinMap.Entries.{below_all}
use Rattle.std.specs.Ordering.{eq_by_cmp, is_eq, is_lt, nat_cmp}
use Rattle.std.proofs.lemmas.Bool.{cases_eq}
use Rattle.nesc_base.specs.declared.block.Block.{Block}
use Rattle.nesc_base.specs.Block.{zero_block}
use Rattle.nesc_base.specs.Geometry.{slot_at, table_at}
use Rattle.nesc_base.proofs.Differing.{same_by_places, slice_get-set_other}
use Rattle.nesc_base.proofs.Maps.{get-insert_other, get-insert_same, get-remove_other, get-remove_same, tied_other, tied_same}
use Rattle.slot_layout.specs.Gate.{is_open}
use Rattle.slot_layout.specs.Slots.{laid_over}
use Rattle.slot_layout.proofs.Alike.{slot_below}
use Rattle.host_journal.specs.Journal.{IsJournal, Journal}
use Rattle.host_journal.specs.Laws.{ForgetsOne, KeepsGates, StagesOne}
use Rattle.host_journal.specs.Staged.{Staged, now_of}
use Rattle.host_journal.proofs.Keys.{back, front}

-- the block that is staged, if one is, in place of the one that is kept, if there is one
abbrev pub over : Option Block → Option Block → Option Block
over None kept = kept
over (Some block) None = None
over (Some block) (Some old) = Some block

-- a block put in a list stands over the one that was there
over_set : (image : List Block) (at : ℕ) (block : Block) → slice_get (slice_set image at block) at ≡ over (Some block) (slice_get image at)
over_set [] at block = refl
over_set (old ∷ image) zero block = refl
over_set (old ∷ image) (suc at) block = over_set image at block

-- what is put last stands over all others
over_over : (block : Block) (staged kept : Option Block) → over (Some block) (over staged kept) ≡ over (Some block) kept
over_over block None kept = refl
over_over block (Some other) None = refl
over_over block (Some other) (Some old) = refl

-- Entries in rising order

not_tied : (order : Ordering) → T (is_lt order) → is_eq order ≡ false
not_tied Less less = refl
not_tied Equal less = absurd less
not_tied Greater less = refl

-- a key below all others is not among them
not_among : (k : ℕ) (es : List (ℕ × Block)) → T (below_all nat_cmp k es) → find nat_cmp k es ≡ None
not_among k [] below = refl
not_among k (e ∷ es) below =
    ap (λ b. cond b (Some e.1) (find nat_cmp k es)) (not_tied (nat_cmp k e.0) (front _ _ below)) ∙ not_among k es (back _ _ below)

-- the blocks of the entries laid over an image
abbrev laid_by : List (ℕ × Block) → List Block → List Block
laid_by es image = laid_over (map (λ e. e.0) es) (map (λ e. e.1) es) image

get-laid_by : (es : List (ℕ × Block)) (image : List Block) (at : ℕ) → T (is_sorted nat_cmp es) → slice_get (laid_by es image) at ≡ over (find nat_cmp at es) (slice_get image at)
get-laid_by [] image at sorted = refl
get-laid_by (e ∷ es) image at sorted =
    let rest = get-laid_by es (slice_set image e.0 e.1) at (back _ _ sorted) in
    elim (cases_eq at e.0) [
      | inl same ↦
          let none : find nat_cmp at es ≡ None = ap (λ k. find nat_cmp k es) same ∙ not_among e.0 es (front _ _ sorted) in
          let there : slice_get (slice_set image e.0 e.1) at ≡ over (Some e.1) (slice_get image at) =
          ap (slice_get (slice_set image e.0 e.1)) same ∙ over_set image e.0 e.1 ∙ ap (λ k. over (Some e.1) (slice_get image k)) (sym same) in
          let tied : eq_by_cmp nat_cmp at e.0 ≡ true = ap (λ k. eq_by_cmp nat_cmp k e.0) same ∙ tied_same e.0 in
          rest ∙ ap (λ o. over o (slice_get (slice_set image e.0 e.1) at)) none ∙ there
          ∙ sym (ap (λ b. over (cond b (Some e.1) (find nat_cmp at es)) (slice_get image at)) tied)
      | inr apart ↦
          rest ∙ ap (over (find nat_cmp at es)) (slice_get-set_other image e.0 at e.1 apart)
          ∙ sym (ap (λ b. over (cond b (Some e.1) (find nat_cmp at es)) (slice_get image at)) (tied_other at e.0 apart))
    ]

-- each block is the one that is staged for its place, or else the one that is kept
pub get-now : (staged : Staged) (kept : List Block) (at : ℕ) → slice_get (now_of staged kept) at ≡ over (get staged at) (slice_get kept at)
get-now staged kept at =
    get-laid_by (entries staged) kept at (entries_sorted staged) ∙ ap (λ o. over o (slice_get kept at)) (sym (get-entries staged at))

-- where nothing is staged it is the one that is kept
pub get-now_kept : (staged : Staged) (kept : List Block) (at : ℕ) → get staged at ≡ None → slice_get (now_of staged kept) at ≡ slice_get kept at
get-now_kept staged kept at none = get-now staged kept at ∙ ap (λ o. over o (slice_get kept at)) none

-- What changes make of them

pub now-empty : (kept : List Block) → now_of empty kept ≡ kept
now-empty kept = same_by_places _ _ (λ at. get-now_kept empty kept at (get-empty nat_cmp at))

pub stages_one : (staged : Staged) → StagesOne staged
stages_one staged kept at block = same_by_places _ _ (λ i. elim (cases_eq i at) [
  | inl same ↦
      let here : slice_get (now_of (insert staged at block) kept) at ≡ over (Some block) (slice_get kept at) =
      get-now (insert staged at block) kept at ∙ ap (λ o. over o (slice_get kept at)) (get-insert_same staged at block) in
      let there : slice_get (slice_set (now_of staged kept) at block) at ≡ over (Some block) (slice_get kept at) =
      over_set (now_of staged kept) at block ∙ ap (over (Some block)) (get-now staged kept at) ∙ over_over block (get staged at) (slice_get kept at) in
      ap (slice_get (now_of (insert staged at block) kept)) same ∙ here ∙ sym there ∙ sym (ap (slice_get (slice_set (now_of staged kept) at block)) same)
  | inr apart ↦
      get-now (insert staged at block) kept i ∙ ap (λ o. over o (slice_get kept i)) (get-insert_other staged at block i apart)
      ∙ sym (slice_get-set_other (now_of staged kept) at i block apart ∙ get-now staged kept i)
])

pub forgets_one : (staged : Staged) (kept : List Block) (at : ℕ) → ForgetsOne staged kept at
forgets_one staged kept at = record {
  here = get-now_kept (remove staged at) kept at (get-remove_same staged at);
  others = λ other apart.
      get-now (remove staged at) kept other ∙ ap (λ o. over o (slice_get kept other)) (get-remove_other staged at other apart) ∙ sym (get-now staged kept other);
}

-- Gates

none_there : (o : Option Block) → ¬ IsSome o → o ≡ None
none_there None none = refl
none_there (Some block) none = absurd (none refl)

-- nothing is staged below the table
pub none_below : (journal : Journal) → IsJournal journal → (at : ℕ) → at < table_at journal.geometry → get journal.staged at ≡ None
none_below journal sound at below = none_there (get journal.staged at) (λ some. let may = sound.within at some in omega (arith, may.0, below))

pub keeps_gates : (journal : Journal) → KeepsGates journal
keeps_gates journal sound kept closed k some most =
    let below : slot_at journal.geometry k < table_at journal.geometry = omega (arith, slot_below journal.geometry k some most) in
    ap (λ o. is_open (unwrap_or o zero_block)) (get-now_kept journal.staged kept (slot_at journal.geometry k) (none_below journal sound (slot_at journal.geometry k) below))
    ∙ closed k some most
