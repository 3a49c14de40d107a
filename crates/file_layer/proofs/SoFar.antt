-- What a loop over blocks of a file has done so far: those below one are held.
use Rattle.std.proofs.Common.{◌≡◌, inl, inr, ℕ, ◌+◌, ◌-◌, ◌<◌, ◌≤◌, Bool, true, false, List, [], ◌∷◌, ◌++◌, length, min, replicate, take, Some, refl, sym, ap, ◌∙◌, subst, arith}
use Rattle.std.specs.FinMap.{insert}
use Rattle.std.specs.Prelude.{◌==◌, if◌then◌else◌, MatchOption, is_some, Option, None, slice_get, unwrap_or}
use Rattle.std.proofs.lemmas.Bool.{cases_Bool, cases_eq, cases_lt, false≢true}
use Rattle.std.proofs.lemmas.Bool.Decides.{nat_tests}
use Rattle.std.proofs.lemmas.List.{length-append, length_push, take_all, take_at}
use Rattle.nesc_base.specs.declared.block.Block.{Block}
use Rattle.nesc_base.specs.declared.geometry.Geometry.{Geometry}
use Rattle.nesc_base.specs.declared.numbers.FileNo.{FileNo}
use Rattle.nesc_base.specs.Block.{zero_block}
use Rattle.nesc_base.specs.Geometry.{area_from}
use Rattle.nesc_base.specs.Places.{Owner}
use Rattle.nesc_base.proofs.Maps.{get-insert_other}
use Rattle.block_map.specs.Map.{IsFreeAt, IsFull, IsLowestFree, IsUnheld, StandsAt, count_free}
use Rattle.image_layout.specs.declared.table.TableEntry.{TableEntry}
use Rattle.host_journal.specs.Journal.{IsJournal, Journal, is_data, staging}
use Rattle.host_journal.specs.Staged.{MayStage, Staged}
use Rattle.host_journal.proofs.Belonging.{stay_sound}
use Rattle.file_layer.specs.Changing.{GoesOn, Stages}
use Rattle.file_layer.specs.Filling.{FillsBut, Grows, IsGiven, left_of, nothing_left}
use Rattle.file_layer.specs.Layer.{Fits, IsLayer, IsUsed, Layer, entry_of, is_held, lacking}
use Rattle.file_layer.specs.Staging.{IsLeft, Left, marking}
use Rattle.file_layer.proofs.Filled.{fills_begins, fills_given, fills_held}
use Rattle.file_layer.proofs.Growing.{count_free-given, entry_there, full_counts, given, given_here, given_more, given_stays, given_was, grows_begins, grows_more, is_given, layer_given}
use Rattle.file_layer.proofs.Lacking.{held_where_stands, lacking_held, lacking_rest, lacking_unheld, not_held}

-- so many blocks of the file from v on below `at` came to be held, and behind them nothing has changed
pub record GrowsTo (n v at : ℕ) (marks : List Bool) (old now : Layer) : Type 0 where
  pub from : v ≤ at
  pub grows : Grows (length (lacking old n v (at - v))) marks old now
  pub ahead : (w : ℕ) → at ≤ w → IsUnheld old.map n w → IsUnheld now.map n w

lacking_none : (files : Layer) (n v : ℕ) → lacking files n v (v - v) ≡ []
lacking_none files n v = let none : v - v ≡ 0 = omega arith in ap (lacking files n v) none

pub to_begins : (n v : ℕ) (marks : List Bool) (files : Layer) → IsLayer files → marks ≡ replicate 512 false → GrowsTo n v v marks files files
to_begins n v marks files layer none = record {
  from = omega arith;
  grows = subst (λ (blocks : List ℕ). Grows (length blocks) marks files files) (sym (lacking_none files n v)) (grows_begins marks files layer none);
  ahead = λ w from unheld. unheld;
}

module _ (n v at : ℕ) (marks : List Bool) (old now : Layer) (layer : IsLayer old) (so_far : GrowsTo n v at marks old now) where
  -- a block that is held was held before
  was_held : (p : ℕ) → StandsAt now.map n at p → is_held old n at ≡ true
  was_held p stands = elim (cases_Bool (is_held old n at)) [
    | inl held ↦ held
    | inr not_so ↦
        absurd (so_far.ahead at (omega arith) (λ q owned. false≢true (sym not_so ∙ held_where_stands old n at q owned)) p stands)
  ]

  -- one that is not was not
  pub was_not_held : IsUnheld now.map n at → is_held old n at ≡ false
  was_not_held unheld = not_held old n at (λ p owned. unheld (now.map.from + owned.0) (owned.0, owned.1, so_far.grows.stay owned.0 owned.1 owned.2, owned.3, owned.4, refl))

  pub same_lacking : (p : ℕ) → StandsAt now.map n at p → lacking old n v (at + 1 - v) ≡ lacking old n v (at - v)
  same_lacking p stands = lacking_held old n v at so_far.from (was_held p stands)

  pub one_lacking : IsUnheld now.map n at → lacking old n v (at + 1 - v) ≡ lacking old n v (at - v) ++ at ∷ []
  one_lacking unheld = lacking_unheld old n v at so_far.from (was_not_held unheld)

  -- past a block that is held
  pub to_skips : (p : ℕ) → StandsAt now.map n at p → GrowsTo n v (at + 1) marks old now
  to_skips p stands = record {
    from = omega (arith, so_far.from);
    grows = subst (λ (blocks : List ℕ). Grows (length blocks) marks old now) (sym (same_lacking p stands)) so_far.grows;
    ahead = λ w from. so_far.ahead w (omega arith);
  }

entry_alike : (old now : Layer) (n : ℕ) → now.table ≡ old.table → entry_of now n ≡ entry_of old n
entry_alike old now n same = ap (λ (table : List (Option TableEntry)). if n == 0 then None else unwrap_or (slice_get table (n - 1)) None) same

ahead_given : (files : Layer) (file : FileNo) (at place w : ℕ) → IsFreeAt files.map place → at + 1 ≤ w → IsUnheld files.map file.0 w → IsUnheld (given files file at place).map file.0 w
ahead_given files file at place w free from unheld p owned = elim (given_was files file at place free owned.0 owned.1 owned.2) [
  | inl here ↦
      let same : at ≡ w = sym (ap (λ (o : Owner). o.1) here.1) ∙ owned.4 in
      omega (arith, same, from)
  | inr was ↦ unheld (files.map.from + owned.0) (owned.0, owned.1, was, owned.3, owned.4, refl)
]

module _ (file : FileNo) (v at place : ℕ) (marks : List Bool) (old now : Layer) (layer : IsLayer old) (so_far : GrowsTo file.0 v at marks old now) (unheld : IsUnheld now.map file.0 at) (lowest : IsLowestFree now.map place)
    (used : IsUsed old file.0) (below : (entry : TableEntry) → entry_of old file.0 ≡ Some entry → at < entry.length) where
  entry_before : (e : TableEntry) × (entry_of old file.0 ≡ Some e)
  entry_before = entry_there old file.0 used

  abbrev entry : TableEntry
  entry = entry_before.0

  used_now : entry_of now file.0 ≡ Some entry
  used_now = entry_alike old now file.0 so_far.grows.table ∙ entry_before.1

  at_below : at < entry.length
  at_below = below entry entry_before.1

  -- the next block gets the lowest free data block
  pub to_more : GrowsTo file.0 v (at + 1) (marking now.geometry marks place) old (given now file at place)
  to_more = record {
    from = omega (arith, so_far.from);
    grows = subst (λ (count : ℕ). Grows count (marking now.geometry marks place) old (given now file at place))
        (sym (ap length (one_lacking file.0 v at marks old now layer so_far unheld) ∙ length_push (lacking old file.0 v (at - v)) at))
        (grows_more (length (lacking old file.0 v (at - v))) marks old now file at place layer so_far.grows lowest.free
        (layer_given now file at place lowest.free entry so_far.grows.layer used_now at_below unheld));
    ahead = λ w from none. ahead_given now file at place w lowest.free from (so_far.ahead w (omega (arith, from)) none);
  }

  -- it is left out until something is staged there
  pub fills_to : (left : Left) (before after : Staged) → IsLeft left file.0 at → FillsBut file.0 (lacking old file.0 v (at - v)) marks left old before now after
      → FillsBut file.0 (lacking old file.0 v (at + 1 - v)) (marking now.geometry marks place) left old before (given now file at place) after
  fills_to left before after is_left fills =
      subst (λ (blocks : List ℕ). FillsBut file.0 blocks (marking now.geometry marks place) left old before (given now file at place) after) (sym (one_lacking file.0 v at marks old now layer so_far unheld))
      (fills_given file at place entry (lacking old file.0 v (at - v)) marks old now before after so_far.grows.layer so_far.grows.geometry so_far.grows.counted used_now at_below lowest unheld left is_left fills)

  -- a block of zeros is staged there at once
  pub holds_to : (before after : Staged) → FillsBut file.0 (lacking old file.0 v (at - v)) marks nothing_left old before now after
      → FillsBut file.0 (lacking old file.0 v (at + 1 - v)) (marking now.geometry marks place) nothing_left old before (given now file at place) (insert after place zero_block)
  holds_to before after fills =
      subst (λ (blocks : List ℕ). FillsBut file.0 blocks (marking now.geometry marks place) nothing_left old before (given now file at place) (insert after place zero_block))
      (sym (one_lacking file.0 v at marks old now layer so_far unheld))
      (fills_held file at place entry (lacking old file.0 v (at - v)) marks old now before after so_far.grows.layer so_far.grows.geometry so_far.grows.counted used_now at_below lowest unheld fills)

-- Giving alone

-- each of these blocks of the file from v on below `at` is held, and what those hold that were given a data block is left out
pub record GivesTo (n v end at : ℕ) (marks : List Bool) (old now : Layer) : Type 0 where
  pub to : GrowsTo n v at marks old now
  pub held : (w : ℕ) → v ≤ w → w < at → ¬ IsUnheld now.map n w
  pub shows : (staged : Staged) → FillsBut n (lacking old n v (at - v)) marks (left_of n v end) old staged now staged

pub gives_begins : (n v end : ℕ) (marks : List Bool) (files : Layer) → IsLayer files → marks ≡ replicate 512 false → GivesTo n v end v marks files files
gives_begins n v end marks files layer none = record {
  to = to_begins n v marks files layer none;
  held = λ w from below. absurd (omega arith);
  shows = λ staged. subst (λ (blocks : List ℕ). FillsBut n blocks marks (left_of n v end) files staged files staged) (sym (lacking_none files n v)) (fills_begins n marks (left_of n v end) files staged);
}

held_below : (n v at : ℕ) (now : Layer) → ((w : ℕ) → v ≤ w → w < at → ¬ IsUnheld now.map n w) → ¬ IsUnheld now.map n at → (w : ℕ) → v ≤ w → w < at + 1 → ¬ IsUnheld now.map n w
held_below n v at now held here w from below = elim (cases_eq w at) [
  | inl same ↦ λ unheld. here (subst (λ (u : ℕ). IsUnheld now.map n u) same unheld)
  | inr apart ↦ held w from (omega arith)
]

pub gives_skips : (n v end at p : ℕ) (marks : List Bool) (old now : Layer) → IsLayer old → GivesTo n v end at marks old now → StandsAt now.map n at p → GivesTo n v end (at + 1) marks old now
gives_skips n v end at p marks old now layer so_far stands = record {
  to = to_skips n v at marks old now layer so_far.to p stands;
  held = held_below n v at now so_far.held (λ unheld. unheld p stands);
  shows = λ staged. subst (λ (blocks : List ℕ). FillsBut n blocks marks (left_of n v end) old staged now staged) (sym (same_lacking n v at marks old now layer so_far.to p stands)) (so_far.shows staged);
}

held_given : (files : Layer) (file : FileNo) (at place w : ℕ) → IsFreeAt files.map place → ¬ IsUnheld files.map file.0 w → ¬ IsUnheld (given files file at place).map file.0 w
held_given files file at place w free held unheld =
    held (λ p owned. unheld p (owned.0, owned.1, given_stays files file at place free owned.0 owned.1 owned.2, owned.3, owned.4, owned.5))

here_held : (files : Layer) (file : FileNo) (at place : ℕ) → IsFreeAt files.map place → ¬ IsUnheld (given files file at place).map file.0 at
here_held files file at place free unheld =
    unheld (files.map.from + (place - files.map.from)) (place - files.map.from, (file, at), given_here files file at place free, refl, refl, refl)

pub gives_more_to : (file : FileNo) (v end at place : ℕ) (marks later : List Bool) (old now new : Layer) → IsLayer old → GivesTo file.0 v end at marks old now → at < end
    → IsUnheld now.map file.0 at → IsLowestFree now.map place → IsUsed old file.0 → ((entry : TableEntry) → entry_of old file.0 ≡ Some entry → at < entry.length)
    → new ≡ given now file at place → later ≡ marking now.geometry marks place → GivesTo file.0 v end (at + 1) later old new
gives_more_to file v end at place marks later old now new layer so_far inside unheld lowest used below new_is later_is =
    subst (λ (files : Layer). GivesTo file.0 v end (at + 1) later old files) (sym new_is)
    (subst (λ (ms : List Bool). GivesTo file.0 v end (at + 1) ms old (given now file at place)) (sym later_is) (record {
      to = to_more file v at place marks old now layer so_far.to unheld lowest used below;
      held = held_below file.0 v at (given now file at place) (λ w from under. held_given now file at place w lowest.free (so_far.held w from under)) (here_held now file at place lowest.free);
      shows = λ staged. fills_to file v at place marks old now layer so_far.to unheld lowest used below (left_of file.0 v end) staged staged (refl, so_far.to.from, inside) (so_far.shows staged);
    }))

-- What is answered

pub if_some : (r : Option ℕ) (P : Type 0) (Q : ℕ → Type 0) → MatchOption r P Q → is_some r ≡ true → (p : ℕ) × Q p
if_some None P Q is some = absurd (false≢true some)
if_some (Some p) P Q is some = (p, is)

pub if_none : (r : Option ℕ) (P : Type 0) (Q : ℕ → Type 0) → MatchOption r P Q → is_some r ≡ false → P
if_none None P Q is none = is
if_none (Some p) P Q is none = absurd (false≢true (sym none))

-- one block that is not held lies between those below it and all
pub lacking_within : (n v at end : ℕ) (marks : List Bool) (old now : Layer) → IsLayer old → GrowsTo n v at marks old now → at < end → IsUnheld now.map n at
    → length (lacking old n v (at - v)) < length (lacking old n v (end - v))
lacking_within n v at end marks old now layer so_far inside unheld =
    let all = ap length (lacking_rest old n v (at + 1) end (omega (arith, so_far.from)) (omega arith)) ∙ length-append (lacking old n v (at + 1 - v)) (lacking old n (at + 1) (end - (at + 1))) in
    let front = ap length (one_lacking n v at marks old now layer so_far unheld) ∙ length_push (lacking old n v (at - v)) at in
    omega (arith, all, front)

-- those that are free are enough, so one is
pub gives_next : (file : FileNo) (v end at : ℕ) (marks later : List Bool) (old now new : Layer) → IsLayer old → GivesTo file.0 v end at marks old now → at < end → IsUnheld now.map file.0 at
    → IsUsed old file.0 → ((entry : TableEntry) → entry_of old file.0 ≡ Some entry → v < end → end ≤ entry.length) → length (lacking old file.0 v (end - v)) ≤ count_free old.map.owners
    → (r : Option ℕ) → MatchOption r (IsFull now.map × (new ≡ now)) (λ place. IsLowestFree now.map place × (new ≡ given now file at place))
    → (U : Type 0) → MatchOption r U (λ place. later ≡ marking now.geometry marks place) → GivesTo file.0 v end (at + 1) later old new
gives_next file v end at marks later old now new layer so_far inside unheld used within enough None is U marked =
    absurd (omega (arith, full_counts now is.0, so_far.to.grows.fewer, enough, lacking_within file.0 v at end marks old now layer so_far.to inside unheld))
gives_next file v end at marks later old now new layer so_far inside unheld used within enough (Some place) is U marked =
    gives_more_to file v end at place marks later old now new layer so_far inside unheld is.0 used
    (λ entry stands. let below = within entry stands (omega (arith, so_far.to.from, inside)) in omega (arith, below, inside)) is.1 marked

all_over : (v end at : ℕ) → v ≤ at → end ≤ at → (v < at → at ≤ end) → at - v ≡ end - v
all_over v end at from over inside = elim (cases_lt v at) [
  | inl some ↦ ap (λ a. a - v) (omega (arith, inside some, over))
  | inr none ↦ omega (arith, from, over, none)
]

-- all of them
pub gives_all : (n v end at : ℕ) (marks : List Bool) (old now : Layer) → GivesTo n v end at marks old now → end ≤ at → (v < at → at ≤ end)
    → (staged : Staged) → FillsBut n (lacking old n v (end - v)) marks (left_of n v end) old staged now staged
gives_all n v end at marks old now so_far over inside staged =
    let from = so_far.to.from in
    let same : at - v ≡ end - v = all_over v end at from over inside in
    subst (λ (count : ℕ). FillsBut n (lacking old n v count) marks (left_of n v end) old staged now staged) same (so_far.shows staged)

-- Staging zeros too

pub record HoldsTo (n v at count : ℕ) (marks : List Bool) (old now : Layer) (before after : Journal) : Type 0 where
  pub to : GrowsTo n v at marks old now
  pub counted : count ≡ length (lacking old n v (at - v))
  pub shows : FillsBut n (lacking old n v (at - v)) marks nothing_left old before.staged now after.staged
  pub stages : Stages (IsGiven old.geometry old.map now.map) count before after
  pub goes : GoesOn before after

pub holds_begins : (n v : ℕ) (marks : List Bool) (files : Layer) (journal : Journal) → IsLayer files → IsJournal journal → marks ≡ replicate 512 false → HoldsTo n v v 0 marks files files journal journal
holds_begins n v marks files journal layer sound none = record {
  to = to_begins n v marks files layer none;
  counted = sym (ap length (lacking_none files n v));
  shows = subst (λ (blocks : List ℕ). FillsBut n blocks marks nothing_left files journal.staged files journal.staged) (sym (lacking_none files n v)) (fills_begins n marks nothing_left files journal.staged);
  stages = record { counted = omega arith; others = λ at other. refl };
  goes = record { sound = sound; same_geometry = refl; same_start = refl };
}

pub holds_skips : (n v at count p : ℕ) (marks : List Bool) (old now : Layer) (before after : Journal) → IsLayer old → HoldsTo n v at count marks old now before after → StandsAt now.map n at p
    → HoldsTo n v (at + 1) count marks old now before after
holds_skips n v at count p marks old now before after layer so_far stands =
    let same = same_lacking n v at marks old now layer so_far.to p stands in
    record {
      to = to_skips n v at marks old now layer so_far.to p stands;
      counted = so_far.counted ∙ sym (ap length same);
      shows = subst (λ (blocks : List ℕ). FillsBut n blocks marks nothing_left old before.staged now after.staged) (sym same) so_far.shows;
      stages = so_far.stages;
      goes = so_far.goes;
    }

pub counts_one : (journal : Journal) (at count : ℕ) → area_from journal.geometry ≤ at → journal.count + (if is_data journal.geometry at then 1 else 0) ≡ journal.count + 1
counts_one journal at count behind = grind (arith, nat_tests)

pub sound_with : (journal : Journal) (at : ℕ) → MayStage journal.geometry at → (area_from journal.geometry ≤ at → journal.count < journal.geometry.slack) → IsJournal journal → IsJournal (staging journal at zero_block)
sound_with journal at may room sound = ((stay_sound {D = ⊥} (λ none. absurd none) journal at).stage zero_block may room).sound sound

-- a block of zeros is staged where one more is given
stages_one_more : (count : ℕ) (marks : List Bool) (old now : Layer) (before after : Journal) (file : FileNo) (at place many : ℕ) → IsLayer old → Grows many marks old now → IsFreeAt now.map place
    → area_from after.geometry ≤ place → Stages (IsGiven old.geometry old.map now.map) count before after
    → Stages (IsGiven old.geometry old.map (given now file at place).map) (count + 1) before (staging after place zero_block)
stages_one_more count marks old now before after file at place many layer grows free behind stages = record {
  counted = omega (arith, counts_one after place count behind, stages.counted);
  others = λ q other. elim (cases_eq q place) [
    | inl same ↦ absurd (other (subst (IsGiven old.geometry old.map (given now file at place).map) (sym same) (is_given many marks old now file at place layer grows free)))
    | inr apart ↦ get-insert_other after.staged place zero_block q apart ∙ stages.others q (λ was. other (given_more many marks old now file at place layer grows free q was))
  ];
}

pub holds_more_to : (file : FileNo) (v at place count : ℕ) (marks later : List Bool) (old now new : Layer) (before after behind : Journal) → IsLayer old → HoldsTo file.0 v at count marks old now before after
    → IsUnheld now.map file.0 at → IsLowestFree now.map place → IsUsed old file.0 → ((entry : TableEntry) → entry_of old file.0 ≡ Some entry → at < entry.length)
    → area_from after.geometry ≤ place → MayStage after.geometry place → after.count < after.geometry.slack
    → new ≡ given now file at place → later ≡ marking now.geometry marks place → behind ≡ staging after place zero_block → HoldsTo file.0 v (at + 1) (count + 1) later old new before behind
holds_more_to file v at place count marks later old now new before after behind layer so_far unheld lowest used below data_there may room new_is later_is behind_is =
    let grows = so_far.to.grows in
    subst (λ (files : Layer). HoldsTo file.0 v (at + 1) (count + 1) later old files before behind) (sym new_is)
    (subst (λ (ms : List Bool). HoldsTo file.0 v (at + 1) (count + 1) ms old (given now file at place) before behind) (sym later_is)
    (subst (λ (j : Journal). HoldsTo file.0 v (at + 1) (count + 1) (marking now.geometry marks place) old (given now file at place) before j) (sym behind_is) (record {
      to = to_more file v at place marks old now layer so_far.to unheld lowest used below;
      counted = omega (arith, so_far.counted, ap length (one_lacking file.0 v at marks old now layer so_far.to unheld), length_push (lacking old file.0 v (at - v)) at);
      shows = holds_to file v at place marks old now layer so_far.to unheld lowest used below before.staged after.staged so_far.shows;
      stages = stages_one_more count marks old now before after file at place (length (lacking old file.0 v (at - v))) layer grows lowest.free data_there so_far.stages;
      goes = record {
        sound = sound_with after place may (λ _. room) so_far.goes.sound;
        same_geometry = so_far.goes.same_geometry;
        same_start = so_far.goes.same_start;
      };
    })))

-- Where a block of zeros is staged

module _ (file : FileNo) (v at end count place : ℕ) (marks : List Bool) (old now : Layer) (before after : Journal) (fits : Fits old before) (so_far : HoldsTo file.0 v at count marks old now before after)
    (lowest : IsLowestFree now.map place) where
  same_image : now.geometry ≡ after.geometry
  same_image = so_far.to.grows.geometry ∙ sym fits.same ∙ sym so_far.goes.same_geometry

  -- it is the place of a data block
  pub place_there : (area_from after.geometry ≤ place) × MayStage after.geometry place
  place_there =
      let layer = so_far.to.grows.layer in
      let from = lowest.free.place.0 in
      let below = lowest.free.place.1 in
      subst (λ (g : Geometry). (area_from g ≤ place) × MayStage g place) same_image
      (omega (arith, from, layer.from), (omega (arith, from, layer.from), omega (arith, below, layer.from, layer.count)))

  -- and there is room for it
  pub room_there : at < end → IsUnheld now.map file.0 at → before.count + min (length (lacking old file.0 v (end - v))) (count_free old.map.owners) ≤ before.geometry.slack → after.count < after.geometry.slack
  room_there inside unheld room =
      let some = count_free-given now.map.owners (place - now.map.from) (file, at) lowest.free.free in
      let within = lacking_within file.0 v at end marks old now fits.layer so_far.to inside unheld in
      let slack : after.geometry.slack ≡ before.geometry.slack = ap (λ (g : Geometry). g.slack) so_far.goes.same_geometry in
      omega (arith, some, within, slack, room, so_far.counted, so_far.stages.counted, so_far.to.grows.fewer)

  -- one more comes to be held
  pub holds_next : (later : List Bool) (new : Layer) (behind : Journal) (zero : Block) → at < end → IsUnheld now.map file.0 at → IsUsed old file.0
      → ((entry : TableEntry) → entry_of old file.0 ≡ Some entry → v < end → end ≤ entry.length)
      → before.count + min (length (lacking old file.0 v (end - v))) (count_free old.map.owners) ≤ before.geometry.slack
      → new ≡ given now file at place → later ≡ marking now.geometry marks place → behind ≡ staging after place zero → zero ≡ zero_block → HoldsTo file.0 v (at + 1) (count + 1) later old new before behind
  holds_next later new behind zero inside unheld used within room new_is later_is behind_is zero_is =
      holds_more_to file v at place count marks later old now new before after behind fits.layer so_far unheld lowest used
      (λ entry stands. let below = within entry stands (omega (arith, so_far.to.from, inside)) in omega (arith, below, inside))
      place_there.0 place_there.1 (room_there inside unheld room) new_is later_is (behind_is ∙ ap (staging after place) zero_is)

-- How many come to be held, and which

module _ (n v at end count : ℕ) (marks : List Bool) (old now : Layer) (before after : Journal) (layer : IsLayer old) (so_far : HoldsTo n v at count marks old now before after) where
  -- where none is free any more
  pub count_full : at < end → IsUnheld now.map n at → IsFull now.map → count ≡ min (length (lacking old n v (end - v))) (count_free old.map.owners)
  count_full inside unheld full =
      omega (arith, full_counts now full, so_far.to.grows.fewer, so_far.counted, lacking_within n v at end marks old now layer so_far.to inside unheld)

  pub shows_full : (later : List Bool) (new : Layer) → at < end → new ≡ now → later ≡ marks → FillsBut n (take count (lacking old n v (end - v))) later nothing_left old before.staged new after.staged
  shows_full later new inside new_is later_is =
      let front : take count (lacking old n v (end - v)) ≡ lacking old n v (at - v) =
      ap (take count) (lacking_rest old n v at end so_far.to.from (omega arith)) ∙ take_at (lacking old n v (at - v)) (lacking old n at (end - at)) count (sym so_far.counted) in
      subst (λ (files : Layer). FillsBut n (take count (lacking old n v (end - v))) later nothing_left old before.staged files after.staged) (sym new_is)
      (subst (λ (ms : List Bool). FillsBut n (take count (lacking old n v (end - v))) ms nothing_left old before.staged now after.staged) (sym later_is)
      (subst (λ (blocks : List ℕ). FillsBut n blocks marks nothing_left old before.staged now after.staged) (sym front) so_far.shows))

  -- and where all of them are held
  all_counted : end ≤ at → (v < at → at ≤ end) → count ≡ length (lacking old n v (end - v))
  all_counted over inside = so_far.counted ∙ ap (λ w. length (lacking old n v w)) (all_over v end at so_far.to.from over inside)

  pub count_all : end ≤ at → (v < at → at ≤ end) → count ≡ min (length (lacking old n v (end - v))) (count_free old.map.owners)
  count_all over inside =
      let all = all_counted over inside in
      omega (arith, all, so_far.to.grows.fewer, so_far.counted)

  pub shows_all : end ≤ at → (v < at → at ≤ end) → FillsBut n (take count (lacking old n v (end - v))) marks nothing_left old before.staged now after.staged
  shows_all over inside =
      let whole : lacking old n v (at - v) ≡ take count (lacking old n v (end - v)) =
      ap (lacking old n v) (all_over v end at so_far.to.from over inside) ∙ sym (take_all count (lacking old n v (end - v)) (omega (arith, all_counted over inside))) in
      subst (λ (blocks : List ℕ). FillsBut n blocks marks nothing_left old before.staged now after.staged) whole so_far.shows
