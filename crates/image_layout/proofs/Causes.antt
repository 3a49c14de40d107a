-- What each cause of a refusal contradicts, and that it has one place.
use Rattle.std.proofs.Common.{◌≡◌, ◌⊎◌, ℕ, ◌+◌, ◌*◌, ◌<◌, List, [], length, Option, Some, slice_get, drop, take, inl, inr, sym, ap, ◌∙◌, arith, subst}
use Rattle.std.proofs.lemmas.Bool.{cases_lt}
use Rattle.std.proofs.lemmas.Option.{same_Some}
use Rattle.nesc_base.specs.declared.block.Block.{Block}
use Rattle.nesc_base.specs.declared.geometry.Geometry.{Geometry}
use Rattle.nesc_base.specs.Geometry.{map_at, table_at, total}
use Rattle.nesc_base.specs.Places.{Owner}
use Rattle.image_layout.specs.declared.table.TableEntry.{TableEntry}
use Rattle.image_layout.specs.Opens.{IsMap, IsMapBlock, Repeats}
use Rattle.image_layout.specs.declared.fault.ImageFault.TheVariants.{BadList, BadTable, BadOwner, TwiceOwned}
use Rattle.image_layout.specs.Refusal.{IsRefused, LacksBlocks, LacksSuper}
use Rattle.slot_layout.specs.Slots.{Lays, block_at, list_at, list_of}
use Rattle.image_layout.specs.Super.{IsSuperblock}
use Rattle.image_layout.specs.Table.{IsTable}
use Rattle.slot_layout.specs.Targets.{IsListOf}
use Rattle.slot_layout.proofs.OneLaid.{list_before, list_there}
use Rattle.image_layout.proofs.OneReading.{one_superblock}
use Rattle.image_layout.proofs.OneParts.{Divided, Laid, Mapped, Said, Single, Tabled, same_divided, same_laid, same_mapped, same_tabled}

-- the first of all numbers that have it is one
one_first : (F : ℕ → Type 0) (b c : ℕ) → F b → F c → ((j : ℕ) → j < b → ¬ F j) → ((j : ℕ) → j < c → ¬ F j) → b ≡ c
one_first F b c here there none none' = elim (cases_lt b c) [
  | inl less ↦ absurd (none' b less here)
  | inr high ↦ elim (cases_lt c b) [ inl less ↦ absurd (none c less there) | inr low ↦ omega arith ]
]

module _ (image : List Block) where
  -- Each cause contradicts the part that it is of. Block 0 is no superblock:
  pub no_super : (place : ℕ) → LacksSuper image place → (image ≡ []) ⊎ ((geometry : Geometry) × IsSuperblock (block_at image 0) geometry) → ⊥
  no_super place refused good = let some = refused.some in elim good [
    | inl none ↦ let empty : length image ≡ 0 = ap length none in omega arith
    | inr is ↦ refused.none is.0 is.1
  ]

  -- there are too few blocks:
  pub no_blocks : (place : ℕ) → LacksBlocks image place → Divided image → ⊥
  no_blocks place refused good = let some = good.divided.some in elim refused.few [
    | inl none ↦ let empty : length image ≡ 0 = ap length none in omega arith
    | inr few ↦
        let same : few.0 ≡ good.geometry = one_superblock (block_at image 0) few.0 good.geometry few.1 good.divided.super in
        let size : total few.0 ≡ total good.geometry = ap (λ (g : Geometry). total g) same in
        let short = few.2 in
        let enough = good.divided.enough in
        omega arith
  ]

  -- what is good where the cause is another: the parts before it
  abbrev pub list_stage : (place : ℕ) → IsRefused image (BadList place) → Divided image
  list_stage place refused = record { geometry = refused.0; divided = refused.1 }

  abbrev pub table_stage : (place : ℕ) → IsRefused image (BadTable place) → Laid image
  table_stage place refused = record { from = record { geometry = refused.geometry; divided = refused.divided }; laid = refused.laid; lays = refused.lays }

  abbrev pub owners_stage : (place : ℕ) → IsRefused image (BadOwner place) → Tabled image
  owners_stage place refused = record {
    from = record { from = record { geometry = refused.geometry; divided = refused.divided }; laid = refused.laid; lays = refused.lays };
    entries = refused.has.entries;
    table = refused.has.table;
  }

  abbrev pub twice_stage : (owner : Owner) → IsRefused image (TwiceOwned owner.0 owner.1) → Mapped image
  twice_stage owner refused = record {
    from = record {
      from = record { from = record { geometry = refused.geometry; divided = refused.divided }; laid = refused.laid; lays = refused.lays };
      entries = refused.has.entries;
      table = refused.has.table;
    };
    owners = refused.has.owners;
    owned = refused.has.owned;
  }

  -- a slot has no list:
  pub no_list : (place : ℕ) → IsRefused image (BadList place) → Laid image → ⊥
  no_list place refused good =
      let lays : Lays refused.0 image good.laid =
      subst (λ (g : Geometry). Lays g image good.laid) (same_divided image good.from (list_stage place refused)) good.lays in
      let list = list_there refused.0 image good.laid lays refused.2.before refused.2.most refused.2.opened in
      refused.2.none list.0 list.1

  -- there is no table:
  pub no_table : (place : ℕ) → IsRefused image (BadTable place) → Tabled image → ⊥
  no_table place refused good =
      let table : IsTable (block_at refused.laid (table_at refused.geometry)) good.entries =
      subst (λ (r : Geometry × List Block). IsTable (block_at r.1 (table_at r.0)) good.entries) (same_laid image good.from (table_stage place refused)) good.table in
      refused.has.none good.entries table

  -- a map block is none:
  pub no_owners : (place : ℕ) → IsRefused image (BadOwner place) → Mapped image → ⊥
  no_owners place refused good =
      let owned : IsMap refused.geometry refused.laid refused.has.entries good.owners =
      subst (λ (r : Geometry × List Block × List (Option TableEntry)). IsMap r.0 r.1 r.2 good.owners) (same_tabled image good.from (owners_stage place refused)) good.owned in
      refused.has.none (take 128 (drop (128 * refused.has.b) good.owners)) (owned.each refused.has.b refused.has.last)

  -- an owner stands twice:
  pub no_twice : (owner : Owner) → IsRefused image (TwiceOwned owner.0 owner.1) → Single image → ⊥
  no_twice owner refused good =
      let owners : refused.has.owners ≡ good.from.owners = ap (λ (r : Said). r.3) (same_mapped image (twice_stage owner refused) good.from) in
      good.once refused.has.k owner (subst (λ (os : List (Option Owner)). Repeats os refused.has.k owner) owners refused.has.repeats)

  -- two causes of one kind have one place: the first slot with no list
  pub one_list_place : (place other : ℕ) → IsRefused image (BadList place) → IsRefused image (BadList other) → other ≡ place
  one_list_place place other first second =
      let same : second.0 ≡ first.0 = same_divided image (list_stage other second) (list_stage place first) in
      let Lacks : Geometry → ℕ → Type 0 = λ g b. (targets : List ℕ) → ¬ IsListOf g (list_of g image (b + 1)) targets in
      let none : Lacks first.0 second.2.before = subst (λ g. Lacks g second.2.before) same second.2.none in
      let before : (b : ℕ) → b < first.2.before → ¬ Lacks first.0 b =
      λ b less lacks. let list = list_before first.0 image first.2.before first.2.laid first.2.over b less in lacks list.0 list.1 in
      let before' : (b : ℕ) → b < second.2.before → ¬ Lacks second.0 b =
      λ b less lacks. let list = list_before second.0 image second.2.before second.2.laid second.2.over b less in lacks list.0 list.1 in
      let before'' : (b : ℕ) → b < second.2.before → ¬ Lacks first.0 b = subst (λ g. (b : ℕ) → b < second.2.before → ¬ Lacks g b) same before' in
      let one : first.2.before ≡ second.2.before = one_first (Lacks first.0) first.2.before second.2.before first.2.none none before before'' in
      second.2.at ∙ ap (λ g. list_at g (second.2.before + 1)) same ∙ ap (λ b. list_at first.0 (b + 1)) (sym one) ∙ sym first.2.at

  -- the table
  pub one_table_place : (place other : ℕ) → IsRefused image (BadTable place) → IsRefused image (BadTable other) → other ≡ place
  one_table_place place other first second =
      let same : second.geometry ≡ first.geometry = ap (λ (r : Geometry × List Block). r.0) (same_laid image (table_stage other second) (table_stage place first)) in
      second.has.at ∙ ap (λ (g : Geometry). table_at g) same ∙ sym first.has.at

  -- the first map block that is none
  pub one_owners_place : (place other : ℕ) → IsRefused image (BadOwner place) → IsRefused image (BadOwner other) → other ≡ place
  one_owners_place place other first second =
      let Read : Type 0 = Geometry × List Block × List (Option TableEntry) in
      let same : ◌≡◌ {A = Read} (second.geometry, second.laid, second.has.entries) (first.geometry, first.laid, first.has.entries) =
      same_tabled image (owners_stage other second) (owners_stage place first) in
      let Lacks : Read → ℕ → Type 0 = λ r b. (owners : List (Option Owner)) → ¬ IsMapBlock r.0 r.1 r.2 b owners in
      let read : Read = (first.geometry, first.laid, first.has.entries) in
      let none : Lacks read second.has.b = subst (λ r. Lacks r second.has.b) same second.has.none in
      let before' : (b : ℕ) → b < second.has.b → ¬ Lacks (second.geometry, second.laid, second.has.entries) b =
      λ b less lacks. let good = second.has.before b less in lacks good.0 good.1 in
      let one : first.has.b ≡ second.has.b = one_first (Lacks read) first.has.b second.has.b first.has.none none
      (λ b less lacks. let good = first.has.before b less in lacks good.0 good.1)
      (subst (λ r. (b : ℕ) → b < second.has.b → ¬ Lacks r b) same before') in
      second.has.at ∙ ap (λ (r : Read). map_at r.0 + second.has.b) same ∙ ap (λ b. map_at first.geometry + b) (sym one) ∙ sym first.has.at

  -- and the owner of the first data block that repeats one
  pub one_twice : (owner other : Owner) → IsRefused image (TwiceOwned owner.0 owner.1) → IsRefused image (TwiceOwned other.0 other.1) → other ≡ owner
  one_twice owner other first second =
      let same : second.has.owners ≡ first.has.owners = ap (λ (r : Said). r.3) (same_mapped image (twice_stage other second) (twice_stage owner first)) in
      let Twice : List (Option Owner) → ℕ → Type 0 = λ owners k. (o : Owner) × Repeats owners k o in
      let repeats : Repeats first.has.owners second.has.k other = subst (λ owners. Repeats owners second.has.k other) same second.has.repeats in
      let none' : (j : ℕ) → j < second.has.k → ¬ Twice second.has.owners j = λ j less twice. second.has.first j twice.0 less twice.1 in
      let one : first.has.k ≡ second.has.k = one_first (Twice first.has.owners) first.has.k second.has.k (owner, first.has.repeats) (other, repeats)
      (λ j less twice. first.has.first j twice.0 less twice.1)
      (subst (λ owners. (j : ℕ) → j < second.has.k → ¬ Twice owners j) same none') in
      same_owner other owner (sym repeats.0 ∙ ap (slice_get first.has.owners) (sym one) ∙ first.has.repeats.0)
    where
      same_owner : (o o' : Owner) → Some (Some o) ≡ Some (Some o') → o ≡ o'
      same_owner o o' is = same_Some o o' (same_Some (Some o) (Some o') is)
