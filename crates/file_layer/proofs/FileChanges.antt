-- A file is made, deleted or given another length: the table with its entry, and the files and places with it.
use Rattle.std.proofs.Common.{◌≡◌, ◌≢◌, ◌↔◌, ◌⊎◌, inl, inr, ℕ, zero, suc, ◌+◌, ◌-◌, ◌<◌, ◌≤◌, ◌==◌, false, List, [], ◌∷◌, Option, None, Some, IsSome, length, option_map, slice_get, refl, sym, ap, ◌∙◌, subst, arith}
use Rattle.std.specs.Prelude.{IsTrue, if◌then◌else◌, is_some, slice_set, unwrap_or}
use Rattle.std.specs.Cmp.{nat_cmp_total}
use Rattle.std.specs.FinMap.{FinMap, empty, get, get-empty, insert, len, nat_cmp-IsAntisymmetric, remove, same_map}
use Rattle.std.specs.List.{AllByRecursion}
use Rattle.std.specs.Option.{option_and_then}
use Rattle.std.specs.Ordering.{nat_cmp}
use Rattle.std.proofs.lemmas.Bool.{cases_eq, cases_lt, false≢true}
use Rattle.std.proofs.lemmas.Option.{none-some, same_Some}
use Rattle.nesc_base.specs.declared.block.Block.{Block}
use Rattle.nesc_base.specs.declared.geometry.Geometry.{Geometry}
use Rattle.nesc_base.specs.Files.{File, file_at, longest_file}
use Rattle.nesc_base.specs.Geometry.{table_at}
use Rattle.nesc_base.specs.Name.{is_name}
use Rattle.nesc_base.specs.Places.{HeldAt, Owns, Places, place_of}
use Rattle.nesc_base.proofs.Maps.{get-insert_other, get-insert_same, get-remove_other, get-remove_same}
use Rattle.block_map.specs.Map.{HoldsNoneFrom, StandsAt, count_held}
use Rattle.file_model.specs.Files.{IsLowestUnused, IsUnnamed, below}
use Rattle.file_model.specs.Places.{with_file}
use Rattle.image_layout.specs.declared.table.TableEntry.{TableEntry}
use Rattle.image_layout.specs.Table as table
use Rattle.image_layout.specs.Table.{AreEntries, table_block}
use Rattle.host_journal.specs.Journal.{Journal, staging}
use Rattle.host_journal.specs.Staged.{now_of}
use Rattle.file_layer.specs.Changing.{Forgets, GoesOn, IsCreated, IsDeleted, IsResized, IsShortened, IsTable, Leads, Stages}
use Rattle.file_layer.specs.Knowing.{FileSet, Knows, entry_for}
use Rattle.file_layer.specs.Layer.{Fits, IsLayer, IsUsed, Layer, entry_of, with_length}
use Rattle.file_layer.proofs.Entries.{IsFresh, entries_set, entry_at, entry_if_used, entry_tabled, used_if_stands}
use Rattle.file_layer.proofs.Known.{held_count_alike, owns_where_stands}
use Rattle.file_layer.proofs.Shortening.{file_if_used}
use Rattle.file_layer.proofs.Tabling.{HasRoom, Replaced, fits_tabled, shows_tabled, stages_tabled}

-- Maps from numbers

module _ {X : Type 0} (m : FinMap nat_cmp X) (k : ℕ) (x : X) where
  one_at_all : (one other : FinMap nat_cmp X) → get one k ≡ get other k → ((q : ℕ) → q ≢ k → get one q ≡ get other q) → one ≡ other
  one_at_all one other here others = same_map nat_cmp_total nat_cmp-IsAntisymmetric one other
      (λ q. elim (cases_eq q k) [ inl same ↦ ap (get one) same ∙ here ∙ sym (ap (get other) same) | inr apart ↦ others q apart ])

  -- what was inserted goes with what was there
  remove_inserted : remove (insert m k x) k ≡ remove m k
  remove_inserted = one_at_all (remove (insert m k x) k) (remove m k) (get-remove_same (insert m k x) k ∙ sym (get-remove_same m k))
      (λ q apart. get-remove_other (insert m k x) k q apart ∙ get-insert_other m k x q apart ∙ sym (get-remove_other m k q apart))

  -- what is inserted last stays
  insert_again : (y : X) → insert (insert m k x) k y ≡ insert m k y
  insert_again y = one_at_all (insert (insert m k x) k y) (insert m k y) (get-insert_same (insert m k x) k y ∙ sym (get-insert_same m k y))
      (λ q apart. get-insert_other (insert m k x) k y q apart ∙ get-insert_other m k x q apart ∙ sym (get-insert_other m k y q apart))

-- Journals that go on

pub goes_on : (before between after : Journal) → GoesOn before between → GoesOn between after → GoesOn before after
goes_on before between after first second = record {
  sound = second.sound;
  same_geometry = second.same_geometry ∙ first.same_geometry;
  same_start = second.same_start ∙ first.same_start;
}

pub one_geometry : (old mid : Layer) (before between : Journal) → Fits old before → Fits mid between → GoesOn before between → mid.geometry ≡ old.geometry
one_geometry old mid before between fits fits_mid goes = sym fits_mid.same ∙ goes.same_geometry ∙ fits.same

-- A change of the table that may be made

pub record Retables (files : Layer) (entries : List (Option TableEntry)) (n : ℕ) (entry : Option TableEntry) (journal : Journal) : Type 0 where
  pub fits : Fits files journal
  pub numbered : 1 ≤ n
  pub among : n ≤ 32
  pub is : entries ≡ slice_set files.table (n - 1) entry
  pub good : AreEntries entries
  pub room : (v at : ℕ) → StandsAt files.map n v at → HasRoom entry v

pub fits_retabled : (files : Layer) (entries : List (Option TableEntry)) (n : ℕ) (entry : Option TableEntry) (journal : Journal) → Retables files entries n entry journal → Fits (record files { table = entries }) journal
fits_retabled files entries n entry journal to = fits_tabled files entries n entry journal to.fits to.numbered to.among to.is to.good to.room

pub entry_retabled : (old files : Layer) (entries : List (Option TableEntry)) (n : ℕ) (entry : Option TableEntry) (journal : Journal) → Retables files entries n entry journal → files.table ≡ old.table
    → (m : ℕ) → entry_of (record files { table = entries }) m ≡ (if m == n then entry else entry_of old m)
entry_retabled old files entries n entry journal to same m =
    let was : entry_of files m ≡ entry_of old m = ap (λ es. if m == 0 then None else unwrap_or (slice_get es (m - 1)) None) same in
    entry_tabled files to.fits.layer.entries.count entries n entry to.numbered to.among to.is m ∙ ap (λ o. if m == n then entry else o) was

pub stages_retabled : (old files : Layer) (entries : List (Option TableEntry)) (n : ℕ) (entry : Option TableEntry) (before journal after : Journal) → Retables files entries n entry journal
    → after ≡ staging journal (table_at files.geometry) (table_block entries) → files.geometry ≡ old.geometry → (P : ℕ → Type 0) → Stages P 0 before journal
    → Stages (λ at. IsTable old.geometry at ⊎ P at) 0 before after
stages_retabled old files entries n entry before journal after to staged same P stages =
    subst (λ g. Stages (λ at. IsTable g at ⊎ P at) 0 before after) same
    (stages_tabled files entries n entry journal to.fits to.numbered to.among to.is to.good to.room after staged P before stages)

-- the table is staged then
pub table_staged : (geometry other : Geometry) (entries : List (Option TableEntry)) (journal after : Journal) → after ≡ staging journal (table_at other) (table_block entries) → other ≡ geometry
    → get after.staged (table_at geometry) ≡ Some (table_block entries)
table_staged geometry other entries journal after staged same =
    subst (λ g. get after.staged (table_at g) ≡ Some (table_block entries)) same
    (ap (λ (j : Journal). get j.staged (table_at other)) staged ∙ get-insert_same journal.staged (table_at other) (table_block entries))

-- and what is forgotten stays so, for the table is no data block
pub forgets_retabled : (old files : Layer) (block : Block) (journal after : Journal) → Fits files journal → after ≡ staging journal (table_at files.geometry) block → Forgets old.map files.map journal
    → Forgets old.map files.map after
forgets_retabled old files block journal after fits staged forgets at changed free =
    let from = fits.layer.from in
    let low = free.place.0 in
    ap (λ (j : Journal). get j.staged at) staged ∙ get-insert_other journal.staged (table_at files.geometry) block at (λ same. omega (arith, same, from, low)) ∙ forgets at changed free

all_at : (P : Option TableEntry → Type 0) (xs : List (Option TableEntry)) (k : ℕ) (x : Option TableEntry) → AllByRecursion P xs → slice_get xs k ≡ Some x → P x
all_at P [] k x all is = absurd (none-some x is)
all_at P (y ∷ xs) zero x all is = subst P (same_Some y x is) all.0
all_at P (y ∷ xs) (suc k) x all is = all_at P xs k x all.1 is

-- An answer that names an entry

pub used_if_some : {X : Type 0} (f : TableEntry → X) (o : Option TableEntry) (r : Option X) → r ≡ option_map f o → IsSome r → IsSome o
used_if_some f None r is some = subst IsSome is some
used_if_some f (Some entry) r is some = refl

pub unused_if_none : {X : Type 0} (f : TableEntry → X) (o : Option TableEntry) (r : Option X) → r ≡ option_map f o → ¬ IsSome r → o ≡ None
unused_if_none f None r is none = refl
unused_if_none f (Some entry) r is none = absurd (none (subst IsSome (sym is) refl))

no_file_if_none : (o : Option File) → option_map entry_for o ≡ None → o ≡ None
no_file_if_none None is = refl
no_file_if_none (Some file) is = absurd (none-some (entry_for file) (sym is))

pub no_file_if_unused : (files : Layer) (set : FileSet) (places : Places) (n : ℕ) → Knows files set places → entry_of files n ≡ None → get set n ≡ None
no_file_if_unused files set places n knows none = no_file_if_none (get set n) (knows.named n ∙ none)

-- A file goes

module _ (n : ℕ) (mid : Layer) (between : Journal) (entries : List (Option TableEntry)) (gone : HoldsNoneFrom mid.map n 0) where
  none_stands : (v at : ℕ) → ¬ StandsAt mid.map n v at
  none_stands v at stands = gone v (omega arith) at stands

  pub deleting : IsUsed mid n → Fits mid between → entries ≡ slice_set mid.table (n - 1) None → Retables mid entries n None between
  deleting used fits is =
      let entry = entry_if_used mid fits.layer.entries.count n used in
      let among = entry.among in
      let numbered = entry.numbered in
      record {
        fits = fits;
        numbered = numbered;
        among = among;
        is = is;
        good = subst AreEntries (sym is) (entries_set mid.table (n - 1) None fits.layer.entries (omega (arith, among, numbered)) tt (λ j one other apart at some. absurd (none-some other some)));
        room = λ v at stands. absurd (none_stands v at stands);
      }

  removed : (laid : List Block) (set : FileSet) (places : Places) → Replaced mid n None laid set places (remove set n) (remove places n)
  removed laid set places =
      let no_file : get (remove set n) n ≡ None = get-remove_same set n in
      let no_place : (v : ℕ) → place_of (remove places n) n v ≡ None = λ v. ap (option_and_then (λ (held : HeldAt). get held v)) (get-remove_same places n) in
      record {
        same_files = λ m apart. get-remove_other set n m apart;
        same_places = λ m apart. get-remove_other places n m apart;
        named = ap (option_map entry_for) no_file;
        filed = ap is_some (get-remove_same places n) ∙ sym (ap is_some no_file);
        owns = λ v at. ((λ owns. absurd (none-some at (sym (no_place v) ∙ owns))), (λ stands. absurd (none_stands v at stands)));
        held = λ v file there. absurd (none-some file (sym no_file ∙ there));
        stands = λ v at file there. absurd (none-some file (sym no_file ∙ there));
      }

  pub leads_deleted : (old : Layer) (before after : Journal) (to : Retables mid entries n None between) → Leads (IsShortened n 0) old before mid between → after ≡ staging between (table_at mid.geometry) (table_block entries)
      → Leads (IsDeleted n) old before (record mid { table = entries }) after
  leads_deleted old before after to leads staged kept set places shows =
      let shorter = leads kept set places shows in
      let cut = shorter.2 in (
        remove shorter.0 n,
        remove shorter.1 n,
        record {
          deletes = record {
            stands = subst IsSome (sym cut.stands) refl;
            result = ap (λ s. remove s n) cut.result ∙ remove_inserted set n (record cut.file { body = below 0 cut.file.body });
          };
          gone = ap (λ p. remove p n) cut.cut ∙ remove_inserted places n _;
        },
        shows_tabled mid entries n None between to.fits to.numbered to.among to.is to.good to.room after staged kept shorter.0 shorter.1 shorter.3 (remove shorter.0 n) (remove shorter.1 n)
            (removed (now_of between.staged kept) shorter.0 shorter.1),
      )

-- A file gets another length

renamed : (o : Option TableEntry) (name : List ℕ) (length : ℕ) → Some name ≡ option_map (λ e. e.name) o → Some (record { name = name; length = length }) ≡ option_map (with_length length) o
renamed None name length is = absurd (none-some name (sym is))
renamed (Some e) name length is = ap (λ (x : List ℕ). Some (record { name = x; length = length })) (same_Some name e.name is)

if_alike : {X : Type 0} (m n : ℕ) (x y z : X) → (m ≡ n → x ≡ y) → (if m == n then x else z) ≡ (if m == n then y else z)
if_alike m n x y z same = elim (cases_eq m n) [
  | inl here ↦ ap (λ w. if m == n then w else z) (same here)
  | inr apart ↦ let no : (m == n) ≡ false = grind arith in ap (λ b. if b then x else z) no ∙ sym (ap (λ b. if b then y else z) no)
]

module _ (n length : ℕ) (name : List ℕ) (mid : Layer) (between : Journal) (entries : List (Option TableEntry)) (gone : HoldsNoneFrom mid.map n length) (named : Some name ≡ option_map (λ e. e.name) (entry_of mid n)) where
  abbrev longer : TableEntry
  longer = record { name = name; length = length }

  name_kept : (entry : TableEntry) → entry_of mid n ≡ Some entry → entry.name ≡ name
  name_kept entry used = sym (same_Some name entry.name (named ∙ ap (option_map (λ (e : TableEntry). e.name)) used))

  pub resizing : IsUsed mid n → Fits mid between → length ≤ longest_file → entries ≡ slice_set mid.table (n - 1) (Some longer) → Retables mid entries n (Some longer) between
  resizing used fits short is =
      let entry = entry_if_used mid fits.layer.entries.count n used in
      let among = entry.among in
      let numbered = entry.numbered in
      let same : entry.entry.name ≡ name = name_kept entry.entry entry.used in
      let fit = all_at table.Fits mid.table (n - 1) (Some entry.entry) fits.layer.entries.fit entry.there in
      let fresh : IsFresh mid.table (n - 1) (Some longer) = λ j one other apart at some alike.
      let here : longer ≡ other = same_Some longer other some in
      apart (fits.layer.entries.apart j (n - 1) one entry.entry at entry.there (alike ∙ sym (ap (λ (e : TableEntry). e.name) here) ∙ sym same)) in
      record {
        fits = fits;
        numbered = numbered;
        among = among;
        is = is;
        good = subst AreEntries (sym is) (entries_set mid.table (n - 1) (Some longer) fits.layer.entries (omega (arith, among, numbered)) (subst (λ (x : List ℕ). IsTrue (is_name x)) same fit.0, short) fresh);
        room = λ v at stands. elim (cases_lt v length) [ inl less ↦ less | inr past ↦ absurd (gone v past at stands) ];
      }

  -- the file with its new length, where it stood
  module _ (laid : List Block) (set : FileSet) (places : Places) (layer : IsLayer mid) (knows : Knows mid set places) (file : File) (there : get set n ≡ Some file)
      (stands : (v at : ℕ) → Owns places n v at → get file.body v ≡ slice_get laid at) where
    abbrev resized_file : File
    resized_file = record file { length = length }

    resized : Replaced mid n (Some longer) laid set places (insert set n resized_file) places
    resized =
        let here : get (insert set n resized_file) n ≡ Some resized_file = get-insert_same set n resized_file in
        let entry : entry_of mid n ≡ Some (entry_for file) = sym (knows.named n) ∙ ap (option_map entry_for) there in
        record {
          same_files = λ m apart. get-insert_other set n resized_file m apart;
          same_places = λ m apart. refl;
          named = ap (option_map entry_for) here ∙ ap (λ (x : List ℕ). Some (record { name = x; length = length })) (name_kept (entry_for file) entry);
          filed = knows.placed.filed n ∙ ap is_some there ∙ sym (ap is_some here);
          owns = λ v at. owns_where_stands mid set places layer knows n v at;
          held = λ v other at.
              let same : resized_file ≡ other = same_Some resized_file other (sym here ∙ at) in
              subst (λ (f : File). IsSome (get f.body v) ↔ IsSome (place_of places n v)) same (knows.held n v file there);
          stands = λ v at other found owns.
              let same : resized_file ≡ other = same_Some resized_file other (sym here ∙ found) in
              subst (λ (f : File). get f.body v ≡ slice_get laid at) same (stands v at owns);
        }

  pub leads_resized : (old : Layer) (before after : Journal) (to : Retables mid entries n (Some longer) between) → Leads (IsShortened n length) old before mid between → after ≡ staging between (table_at mid.geometry) (table_block entries)
      → Leads (IsResized n length) old before (record mid { table = entries }) after
  leads_resized old before after to leads staged kept set places shows =
      let shorter = leads kept set places shows in
      let cut = shorter.2 in
      let file : File = record cut.file { body = below length cut.file.body } in
      let there : get shorter.0 n ≡ Some file = ap (λ (s : FileSet). get s n) cut.result ∙ get-insert_same set n file in (
        insert shorter.0 n (record file { length = length }),
        shorter.1,
        record {
          resizes = record {
            file = cut.file;
            stands = cut.stands;
            result = ap (λ (s : FileSet). insert s n (record file { length = length })) cut.result ∙ insert_again set n file (record file { length = length });
          };
          cut = cut.cut;
        },
        shows_tabled mid entries n (Some longer) between to.fits to.numbered to.among to.is to.good to.room after staged kept shorter.0 shorter.1 shorter.3 (insert shorter.0 n (record file { length = length })) shorter.1
            (resized (now_of between.staged kept) shorter.0 shorter.1 to.fits.layer shorter.3.knows file there (λ v at owns. shorter.3.stands n v at file there owns)),
      )

  pub entry_resized : (old : Layer) (to : Retables mid entries n (Some longer) between) → mid.table ≡ old.table
      → (m : ℕ) → entry_of (record mid { table = entries }) m ≡ (if m == n then option_map (with_length length) (entry_of old m) else entry_of old m)
  entry_resized old to same m =
      let was : entry_of mid n ≡ entry_of old n = ap (λ es. if n == 0 then None else unwrap_or (slice_get es (n - 1)) None) same in
      entry_retabled old mid entries n (Some longer) between to same m
      ∙ if_alike m n (Some longer) (option_map (with_length length) (entry_of old m)) (entry_of old m) (λ here.
      renamed (entry_of old n) name length (named ∙ ap (option_map (λ (e : TableEntry). e.name)) was) ∙ sym (ap (λ q. option_map (with_length length) (entry_of old q)) here))

-- how many blocks it gave back
pub given_back : (old mid : Layer) (n length given : ℕ) (set : FileSet) (places : Places) → IsLayer old → IsLayer mid → Knows old set places
    → (others : FileSet) (elsewhere : Places) → IsShortened n length set places others elsewhere → Knows mid others elsewhere → given + count_held n mid.map.owners ≡ count_held n old.map.owners
    → (file : File) × (get set n ≡ Some file) × (given + len (below length file.body) ≡ len file.body)
given_back old mid n length given set places layer layer_mid knows others elsewhere cut knows_mid count =
    let none : File = record { name = []; length = 0; body = empty } in
    let file : File = record cut.file { body = below length cut.file.body } in
    let there : get others n ≡ Some file = ap (λ (s : FileSet). get s n) cut.result ∙ get-insert_same set n file in
    let was : len (file_at set n).body ≡ len cut.file.body = ap (λ (o : Option File). len (unwrap_or o none).body) cut.stands in
    let is : len (file_at others n).body ≡ len (below length cut.file.body) = ap (λ (o : Option File). len (unwrap_or o none).body) there in
    (cut.file, cut.stands, omega (arith, count, was, is, held_count_alike old set places layer knows n, held_count_alike mid others elsewhere layer_mid knows_mid n))

-- A file is made

-- what is said of an option that is none
pub none_if : {X : Type 0} (o : Option X) → is_some o ≡ false → o ≡ None
none_if None is = refl
none_if (Some x) is = absurd (false≢true (sym is))

-- where no file has the name no entry has
pub fresh_if_unnamed : (files : Layer) (set : FileSet) (places : Places) (n : ℕ) (entry : TableEntry) → Knows files set places → IsUnnamed set entry.name → IsFresh files.table (n - 1) (Some entry)
fresh_if_unnamed files set places n entry knows unnamed j one other apart at some same =
    let back : suc j - 1 ≡ j = omega arith in
    let used : entry_of files (suc j) ≡ Some one = entry_at files (suc j) (omega arith) ∙ ap (λ k. unwrap_or (slice_get files.table k) None) back ∙ ap (λ o. unwrap_or o None) at in
    let file = file_if_used files set places (suc j) knows (subst IsSome (sym used) refl) in
    let named : Some (entry_for file.0) ≡ Some one = sym (ap (option_map entry_for) file.1) ∙ knows.named (suc j) ∙ used in
    let here : entry ≡ other = same_Some entry other some in
    unnamed (suc j) file.0 file.1 (ap (λ (e : TableEntry). e.name) (same_Some (entry_for file.0) one named) ∙ same ∙ sym (ap (λ (e : TableEntry). e.name) here))

module _ (n : ℕ) (entry : TableEntry) (files : Layer) (journal : Journal) (entries : List (Option TableEntry)) (unused : entry_of files n ≡ None) where
  none_owned : (layer : IsLayer files) (v at : ℕ) → ¬ StandsAt files.map n v at
  none_owned layer v at stands = let used = used_if_stands files layer n v at stands in none-some used.0 (sym unused ∙ used.1)

  pub creating : Fits files journal → 1 ≤ n → n ≤ 32 → IsTrue (is_name entry.name) → entry.length ≤ longest_file → IsFresh files.table (n - 1) (Some entry) → entries ≡ slice_set files.table (n - 1) (Some entry)
      → Retables files entries n (Some entry) journal
  creating fits numbered among name short fresh is = record {
    fits = fits;
    numbered = numbered;
    among = among;
    is = is;
    good = subst AreEntries (sym is) (entries_set files.table (n - 1) (Some entry) fits.layer.entries (omega (arith, among, numbered)) (name, short) fresh);
    room = λ v at stands. absurd (none_owned fits.layer v at stands);
  }

  abbrev made : File
  made = record { name = entry.name; length = entry.length; body = empty }

  created : (laid : List Block) (set : FileSet) (places : Places) → IsLayer files → Replaced files n (Some entry) laid set places (insert set n made) (with_file places n)
  created laid set places layer =
      let here : get (insert set n made) n ≡ Some made = get-insert_same set n made in
      let no_place : (v : ℕ) → place_of (with_file places n) n v ≡ None = λ v. ap (option_and_then (λ (held : HeldAt). get held v)) (get-insert_same places n empty) ∙ get-empty {X = ℕ} nat_cmp v in
      let no_block : (v : ℕ) → get made.body v ≡ None = λ v. get-empty {X = Block} nat_cmp v in
      record {
        same_files = λ m apart. get-insert_other set n made m apart;
        same_places = λ m apart. get-insert_other places n empty m apart;
        named = ap (option_map entry_for) here;
        filed = ap is_some (get-insert_same places n empty) ∙ sym (ap is_some here);
        owns = λ v at. ((λ owns. absurd (none-some at (sym (no_place v) ∙ owns))), (λ stands. absurd (none_owned layer v at stands)));
        held = λ v file there.
            let same : made ≡ file = same_Some made file (sym here ∙ there) in (
              λ some. absurd (false≢true (subst IsSome (sym (ap (λ (f : File). get f.body v) same) ∙ no_block v) some)),
              λ some. absurd (false≢true (subst IsSome (no_place v) some)),
            );
        stands = λ v at file there owns. absurd (none-some at (sym (no_place v) ∙ owns));
      }

  -- every lower number is used
  abbrev pub LowerUsed : Type 0
  LowerUsed = (m : ℕ) → 1 ≤ m → m < n → IsUsed files m

  pub lowest_known : (set : FileSet) (places : Places) → Knows files set places → 1 ≤ n → n ≤ 32 → LowerUsed → IsLowestUnused set n
  lowest_known set places knows numbered among lower = record {
    first = numbered;
    among = among;
    unused = no_file_if_unused files set places n knows unused;
    lower = λ m some before. subst IsSome (sym (file_if_used files set places m knows (lower m some before)).1) refl;
  }

  pub leads_created : (after : Journal) (to : Retables files entries n (Some entry) journal) → after ≡ staging journal (table_at files.geometry) (table_block entries) → LowerUsed
      → ((set : FileSet) (places : Places) → Knows files set places → IsUnnamed set entry.name) → Leads (IsCreated n entry.name entry.length) files journal (record files { table = entries }) after
  leads_created after to staged lower unnamed kept set places shows = (
    insert set n made,
    with_file places n,
    record {
      creates = record {
        unnamed = unnamed set places shows.knows;
        lowest = lowest_known set places shows.knows to.numbered to.among lower;
        result = refl;
      };
      files = refl;
    },
    shows_tabled files entries n (Some entry) journal to.fits to.numbered to.among to.is to.good to.room after staged kept set places shows (insert set n made) (with_file places n)
        (created (now_of journal.staged kept) set places to.fits.layer),
  )
