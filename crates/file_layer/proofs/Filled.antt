-- One block after another comes to be held: the lists of changes and of places, and what the blocks show.
use Rattle.std.proofs.Common.{◌≡◌, ℕ, nat_eq, ◌+◌, ◌<◌, Bool, false, List, [], ◌∷◌, ◌++◌, length, Option, Some, None, IsSome, refl, sym, ap, ◌∙◌, subst, arith}
use Rattle.std.specs.FinMap.{get, insert}
use Rattle.std.specs.List.{AllByRecursion, IsDistinct}
use Rattle.std.specs.Prelude.{is_some}
use Rattle.std.proofs.lemmas.Bool.{false≢true, ne_eqb}
use Rattle.nesc_base.specs.declared.block.Block.{Block}
use Rattle.nesc_base.specs.declared.numbers.FileNo.{FileNo}
use Rattle.nesc_base.specs.declared.runs.Area.{Area}
use Rattle.nesc_base.specs.Block.{zero_block}
use Rattle.nesc_base.specs.Files.{Body, File, Files}
use Rattle.nesc_base.specs.Places.{Places, place_of}
use Rattle.nesc_base.proofs.Maps.{get-insert_same, insert-insert, insert_there}
use Rattle.block_map.specs.Map as map
use Rattle.block_map.specs.Map.{IsUnheld}
use Rattle.image_layout.specs.declared.table.TableEntry.{TableEntry}
use Rattle.host_journal.specs.Staged.{Staged}
use Rattle.file_model.specs.Files.{Holds, LeadsTo, holding, with_zeros}
use Rattle.file_model.specs.Places.{Gives, IsLowestFree, with_place}
use Rattle.file_model.specs.Files.{with_block}
use Rattle.file_model.proofs.Writing.{IsSome-insert}
use Rattle.file_layer.specs.Changing.{AreFilled}
use Rattle.file_layer.specs.Filling.{FillsBut, left_of, nothing_left}
use Rattle.file_layer.specs.Knowing.{FileSet}
use Rattle.file_layer.specs.Layer.{IsLayer, Layer, area_of, entry_of}
use Rattle.file_layer.specs.Staging.{IsLeft, Left, ShowsBut, marking}
use Rattle.file_layer.proofs.Giving.{file_there, lowest_there, shows_given, shows_staged, shows_wider}
use Rattle.file_layer.proofs.Growing.{given, layer_given}
use Rattle.file_layer.proofs.Known.{owns_where_stands}
use Rattle.file_layer.proofs.Placing.{place_of-with_same}
use Rattle.file_layer.proofs.Shown.{shows_begins}

-- Lists of blocks that come to be held

all_more : (P : ℕ → Type 0) (blocks : List ℕ) (v : ℕ) → AllByRecursion P blocks → P v → AllByRecursion P (blocks ++ v ∷ [])
all_more P [] v all one = (one, tt)
all_more P (w ∷ blocks) v all one = (all.0, all_more P blocks v all.1 one)

zeros_more : (body : Body) (blocks : List ℕ) (v : ℕ) → with_zeros body (blocks ++ v ∷ []) ≡ insert (with_zeros body blocks) v zero_block
zeros_more body [] v = refl
zeros_more body (w ∷ blocks) v = zeros_more (insert body w zero_block) blocks v

-- what is held still is where blocks of zeros come
zeros_keep : (body : Body) (blocks : List ℕ) (k : ℕ) → IsSome (get body k) → IsSome (get (with_zeros body blocks) k)
zeros_keep body [] k some = some
zeros_keep body (v ∷ blocks) k some = zeros_keep (insert body v zero_block) blocks k (IsSome-insert body v zero_block k some)

not_some : {X : Type 0} (o : Option X) → ¬ IsSome o → o ≡ None
not_some None none = refl
not_some (Some x) none = absurd (none refl)

none_not : {X : Type 0} (o : Option X) → o ≡ None → ¬ IsSome o
none_not o is some = false≢true (sym (ap is_some is) ∙ some)

-- a block that is not held is none of those that came to be held
none_of_zeros : (body : Body) (blocks : List ℕ) (v : ℕ) → get (with_zeros body blocks) v ≡ None → AllByRecursion (λ w. nat_eq w v ≡ false) blocks
none_of_zeros body [] v none = tt
none_of_zeros body (w ∷ blocks) v none = (
  ne_eqb w v (λ same.
      none_not (get (with_zeros (insert body w zero_block) blocks) v) none
      (zeros_keep (insert body w zero_block) blocks v (ap is_some (ap (get (insert body w zero_block)) (sym same) ∙ get-insert_same body w zero_block)))),
  none_of_zeros (insert body w zero_block) blocks v none,
)

distinct_more : (blocks : List ℕ) (v : ℕ) → IsDistinct nat_eq blocks → AllByRecursion (λ w. nat_eq w v ≡ false) blocks → IsDistinct nat_eq (blocks ++ v ∷ [])
unfolding IsDistinct
distinct_more [] v apart other = (tt, tt)
distinct_more (w ∷ blocks) v apart other = (all_more (λ y. nat_eq w y ≡ false) blocks v apart.0 other.0, distinct_more blocks v apart.1 other.1)

-- and then one block more
pub holds_more : (old : Files) (n : ℕ) (blocks : List ℕ) (mid : Files) (v : ℕ) (new : Files) → Holds old n blocks mid → Holds mid n (v ∷ []) new → Holds old n (blocks ++ v ∷ []) new
holds_more old n blocks mid v new first second =
    let between : File = record first.file { body = with_zeros first.file.body blocks } in
    let there : get mid n ≡ Some between = ap (λ (files : Files). get files n) first.result ∙ get-insert_same old n between in
    let same : second.file ≡ between = cc (sym second.stands ∙ there) in
    let fresh : get (with_zeros first.file.body blocks) v ≡ None = ap (λ (f : File). get f.body v) (sym same) ∙ second.fresh.0 in
    record {
      file = first.file;
      stands = first.stands;
      below = all_more (λ w. w < first.file.length) blocks v first.below (subst (λ (f : File). v < f.length) same second.below.0);
      fresh = all_more (λ w. get first.file.body w ≡ None) blocks v first.fresh
          (not_some (get first.file.body v) (λ some. none_not (get (with_zeros first.file.body blocks) v) fresh (zeros_keep first.file.body blocks v some)));
      apart = distinct_more blocks v first.apart (none_of_zeros first.file.body blocks v fresh);
      result = second.result
          ∙ ap (λ (f : File). insert mid n (record f { body = insert f.body v zero_block })) same
          ∙ ap (λ (files : Files). insert files n (record between { body = insert between.body v zero_block })) first.result
          ∙ insert-insert old n between (record between { body = insert between.body v zero_block })
          ∙ ap (λ (body : Body). insert old n (record first.file { body = body })) (sym (zeros_more first.file.body blocks v));
    }

leads_held : (old : Files) (n v : ℕ) (blocks : List ℕ) (new : Files) → Holds old n (v ∷ blocks) new → LeadsTo old (holding n (v ∷ blocks)) new
leads_held old n v blocks new held = (new, held, refl)

-- so it is of all of them as one change
pub holding_more : (old : Files) (n : ℕ) (blocks : List ℕ) (mid : Files) (v : ℕ) (new : Files) → LeadsTo old (holding n blocks) mid → Holds mid n (v ∷ []) new
    → LeadsTo old (holding n (blocks ++ v ∷ [])) new
holding_more old n [] mid v new same held = leads_held old n v [] new (subst (λ (files : Files). Holds files n (v ∷ []) new) same held)
holding_more old n (w ∷ blocks) mid v new leads held =
    leads_held old n w (blocks ++ v ∷ []) new
    (holds_more old n (w ∷ blocks) mid v new (subst (λ (files : Files). Holds old n (w ∷ blocks) files) (sym leads.2) leads.1) held)

-- and one place more
pub gives_more : (area : Area) (old : Places) (n : ℕ) (blocks : List ℕ) (mid : Places) (v at : ℕ) → Gives area old n blocks mid → IsLowestFree area mid at
    → Gives area old n (blocks ++ v ∷ []) (with_place mid n v at)
gives_more area old n [] mid v at same lowest =
    (at, subst (λ (places : Places). IsLowestFree area places at) same lowest, ap (λ (places : Places). with_place places n v at) same)
gives_more area old n (w ∷ blocks) mid v at gives lowest = (gives.0, gives.1, gives_more area (with_place old n w gives.0) n blocks mid v at gives.2 lowest)

alone : (v : ℕ) → IsDistinct nat_eq (v ∷ [])
unfolding IsDistinct
alone v = (tt, tt)

nowhere : (o : Option ℕ) → ((x : ℕ) → ¬ (o ≡ Some x)) → ¬ IsSome o
nowhere None none some = false≢true some
nowhere (Some x) none some = none x refl

-- The blocks in the middle of a change

-- at first none came to be held
pub fills_begins : (n : ℕ) (marks : List Bool) (left : Left) (files : Layer) (staged : Staged) → FillsBut n [] marks left files staged files staged
fills_begins n marks left files staged kept set places shows =
    (set, places, record { leads = refl; gives = refl }, shows_begins marks left files staged kept set places shows)

module _ (marks : List Bool) (left : Left) (now : Layer) (staged : Staged) (kept : List Block) (set : FileSet) (places : Places) (layer : IsLayer now) (shows : ShowsBut marks left now staged kept set places)
    (file : FileNo) (v at : ℕ) (entry : TableEntry) (many : length marks ≡ 512) (used : entry_of now file.0 ≡ Some entry) (below : v < entry.length) (lowest : map.IsLowestFree now.map at)
    (unheld : IsUnheld now.map file.0 v) where
  abbrev f : File
  f = (file_there now set places layer shows.knows file.0 entry used).0

  stands : get set file.0 ≡ Some f
  stands = (file_there now set places layer shows.knows file.0 entry used).1

  abbrev with_zero : FileSet
  with_zero = insert set file.0 (with_block f v zero_block)

  fresh : get f.body v ≡ None
  fresh = not_some (get f.body v) (λ some.
      nowhere (place_of places file.0 v) (λ p owns. unheld p ((owns_where_stands now set places layer shows.knows file.0 v p).0 owns))
      ((shows.knows.held file.0 v f stands).0 some))

  holds_one : Holds set file.0 (v ∷ []) with_zero
  holds_one = record {
    file = f;
    stands = stands;
    below = (omega (arith, below, (file_there now set places layer shows.knows file.0 entry used).2), tt);
    fresh = (fresh, tt);
    apart = alone v;
    result = refl;
  }

  -- these files and places, with the block of zeros
  pub filled_more : (old : Layer) (blocks : List ℕ) (set' : FileSet) (places' : Places) → now.geometry ≡ old.geometry → AreFilled (area_of old.geometry) file.0 blocks set' places' set places
      → AreFilled (area_of old.geometry) file.0 (blocks ++ v ∷ []) set' places' with_zero (with_place places file.0 v at)
  filled_more old blocks set' places' same filled = record {
    leads = holding_more set' file.0 blocks set v with_zero filled.leads holds_one;
    gives = gives_more (area_of old.geometry) places' file.0 blocks places v at filled.gives
        (subst (λ g. IsLowestFree (area_of g) places at) same (lowest_there now set places layer shows.knows at lowest));
  }

  pub shows_more : IsLeft left file.0 v → ShowsBut (marking now.geometry marks at) left (given now file v at) staged kept with_zero (with_place places file.0 v at)
  shows_more is_left = shows_given marks left now staged kept set places layer shows file v at f many lowest.free unheld stands is_left

  zero_again : insert with_zero file.0 (with_block (with_block f v zero_block) v zero_block) ≡ with_zero
  zero_again =
      ap (λ (body : Body). insert with_zero file.0 (record f { body = body })) (insert-insert f.body v zero_block zero_block)
      ∙ insert_there with_zero file.0 (with_block f v zero_block) (get-insert_same set file.0 (with_block f v zero_block))

  -- and with the block staged
  pub shows_zero : (less : Left) → IsLeft left file.0 v → ((m w : ℕ) → ¬ IsLeft less m w → ¬ ((m ≡ file.0) × (w ≡ v)) → ¬ IsLeft left m w)
      → ShowsBut (marking now.geometry marks at) less (given now file v at) (insert staged at zero_block) kept with_zero (with_place places file.0 v at)
  shows_zero less is_left still =
      subst (λ (files : FileSet). ShowsBut (marking now.geometry marks at) less (given now file v at) (insert staged at zero_block) kept files (with_place places file.0 v at)) zero_again
      (shows_staged (marking now.geometry marks at) left (given now file v at) staged kept with_zero (with_place places file.0 v at)
      (layer_given now file v at lowest.free entry layer used below unheld) (shows_more is_left) less file.0 v at zero_block (with_block f v zero_block)
      (get-insert_same set file.0 (with_block f v zero_block)) (place_of-with_same places file.0 v at) still)

-- One block more, in the middle of a change

module _ (file : FileNo) (v at : ℕ) (entry : TableEntry) (blocks : List ℕ) (marks : List Bool) (old now : Layer) (before after : Staged) (layer : IsLayer now) (same : now.geometry ≡ old.geometry)
    (many : length marks ≡ 512) (used : entry_of now file.0 ≡ Some entry) (below : v < entry.length) (lowest : map.IsLowestFree now.map at) (unheld : IsUnheld now.map file.0 v) where
  -- a data block is given to it
  pub fills_given : (left : Left) → IsLeft left file.0 v → FillsBut file.0 blocks marks left old before now after
      → FillsBut file.0 (blocks ++ v ∷ []) (marking now.geometry marks at) left old before (given now file v at) after
  fills_given left is_left fills kept set places shows =
      let (others, elsewhere, filled, shown) = fills kept set places shows in (
        with_zero marks left now after kept others elsewhere layer shown file v at entry many used below lowest unheld,
        with_place elsewhere file.0 v at,
        filled_more marks left now after kept others elsewhere layer shown file v at entry many used below lowest unheld old blocks set places same filled,
        shows_more marks left now after kept others elsewhere layer shown file v at entry many used below lowest unheld is_left,
      )

  -- and a block of zeros is staged there
  pub fills_held : FillsBut file.0 blocks marks nothing_left old before now after
      → FillsBut file.0 (blocks ++ v ∷ []) (marking now.geometry marks at) nothing_left old before (given now file v at) (insert after at zero_block)
  fills_held fills kept set places shows =
      let (others, elsewhere, filled, shown) = fills kept set places shows in
      let left : Left = left_of file.0 v (v + 1) in
      let wide : ShowsBut marks left now after kept others elsewhere = shows_wider marks nothing_left left now after kept others elsewhere (λ m w is. absurd (omega (arith, is.2))) shown in (
        with_zero marks left now after kept others elsewhere layer wide file v at entry many used below lowest unheld,
        with_place elsewhere file.0 v at,
        filled_more marks left now after kept others elsewhere layer wide file v at entry many used below lowest unheld old blocks set places same filled,
        shows_zero marks left now after kept others elsewhere layer wide file v at entry many used below lowest unheld nothing_left (refl, omega arith, omega arith)
            (λ m w none other is. other (is.0, omega (arith, is.1, is.2))),
      )
