-- What a stop leaves of a disk in memory, from one call to the next.
use Rattle.std.proofs.Common.{◌≡◌, ◌≢◌, ℕ, zero, suc, ◌<◌, ◌≤◌, ◌⊎◌, inl, inr, Bool, true, false, ◌&&◌, cond, List, [], ◌∷◌, ◌++◌, length, Contains, All, slice_set, slice_index_or, refl, sym, ◌∙◌, ap, subst, arith}
use Rattle.std.specs.Prelude.{◌↔◌}
use Rattle.std.proofs.lemmas.Bool.{cond-true, cond-false, lt-ltb, le-ltb, le-leb, lt-leb, eq-eqb, ne_eqb, cases_eq, and_left}
use Rattle.std.proofs.lemmas.List.{length-set}
use Rattle.std.proofs.lemmas.List.Elements.{All-head, All-tail, Contains-append_right}
use Rattle.std.proofs.lemmas.Map.Made.{Contains-tail}
use Rattle.nesc_base.specs.declared.block.Block.{Block}
use Rattle.nesc_base.specs.Count.{count_end, risen}
use Rattle.nesc_base.specs.Disk.{DiffersAt, Goes, IsSettled, OrUnsynced, WritesAt, here, nowhere}
use Rattle.nesc_base.proofs.Differing.{differs_itself, differs_on, differs_set, differs_wider}
use Rattle.nesc_fakes.specs.declared.mem_disk.Call.{Call}
use Rattle.nesc_fakes.specs.declared.mem_disk.Call.TheVariants.{Write, Sync}
use Rattle.nesc_fakes.specs.MemDisk.{MemDiskState, clock_of, IsSound, without, taken_back, contents_at, unsynced_by, unsynced, IsLeft, known_of}
use Rattle.nesc_fakes.specs.MemDiskLaws.{contents_at_now}

-- ---- calls one behind the other

taken_back-append : (k : ℕ) (xs ys : List Call) (blocks : List Block) → taken_back k (xs ++ ys) blocks ≡ taken_back k xs (taken_back k ys blocks)
taken_back-append k [] ys blocks = refl
taken_back-append k (x ∷ xs) ys blocks = ap (without k x) (taken_back-append k xs ys blocks)

pub unsynced-append : (k : ℕ) (xs ys : List Call) (places : List ℕ) → unsynced k (xs ++ ys) places ≡ unsynced k ys (unsynced k xs places)
unsynced-append k [] ys places = refl
unsynced-append k (x ∷ xs) ys places = unsynced-append k xs ys (unsynced_by k x places)

-- ---- calls up to k

without_earlier : (k : ℕ) (call : Call) (blocks : List Block) → clock_of call ≤ k → without k call blocks ≡ blocks
without_earlier k (Write clock at before) blocks le = cond-false _ _ _ (le-ltb k clock le)
without_earlier k (Sync clock done) blocks le = refl

taken_back_none : (k : ℕ) (calls : List Call) (blocks : List Block) → All (λ call. clock_of call ≤ k) calls → taken_back k calls blocks ≡ blocks
taken_back_none k [] blocks by_now = refl
taken_back_none k (call ∷ calls) blocks by_now =
    ap (without k call) (taken_back_none k calls blocks (All-tail (λ call. clock_of call ≤ k) call calls by_now)) ∙ without_earlier k call blocks (All-head (λ call. clock_of call ≤ k) call calls by_now)

unsynced_by_same : (j k : ℕ) (call : Call) (places : List ℕ) → clock_of call ≤ j → j ≤ k → unsynced_by k call places ≡ unsynced_by j call places
unsynced_by_same j k (Write clock at before) places le more = cond-true _ _ _ (le-leb clock k (omega arith)) ∙ sym (cond-true _ _ _ (le-leb clock j le))
unsynced_by_same j k (Sync clock done) places le more = ap (λ (b : Bool). cond (b && done) [] places) (le-leb clock k (omega arith) ∙ sym (le-leb clock j le))

unsynced_same : (j k : ℕ) (calls : List Call) (places : List ℕ) → All (λ call. clock_of call ≤ j) calls → j ≤ k → unsynced k calls places ≡ unsynced j calls places
unsynced_same j k [] places by_now more = refl
unsynced_same j k (call ∷ calls) places by_now more =
    ap (unsynced k calls) (unsynced_by_same j k call places (All-head (λ call. clock_of call ≤ j) call calls by_now) more)
    ∙ unsynced_same j k calls (unsynced_by j call places) (All-tail (λ call. clock_of call ≤ j) call calls by_now) more

-- ---- a call that comes later than k

unsynced_by_later : (k : ℕ) (call : Call) (places : List ℕ) → k < clock_of call → unsynced_by k call places ≡ places
unsynced_by_later k (Write clock at before) places lt = cond-false _ _ _ (lt-leb clock k lt)
unsynced_by_later k (Sync clock done) places lt = cond-false _ _ _ (and_left _ done (lt-leb clock k lt))

-- ---- lists

set_back : {X : Type 0} (xs : List X) (i : ℕ) (x d : X) → slice_set (slice_set xs i x) i (slice_index_or xs i d) ≡ xs
set_back [] i x d = refl
set_back (y ∷ xs) zero x d = refl
set_back {X} (y ∷ xs) (suc i) x d = ap (λ (ys : List X). y ∷ ys) (set_back xs i x d)

pub none_in : (i : ℕ) → ¬ Contains {X = ℕ} [] i
none_in i found = absurd (omega (arith, found.1))

same_places : {xs ys : List ℕ} → xs ≡ ys → (at : ℕ) → Contains xs at ↔ Contains ys at
same_places same at = ((λ is. subst (λ ps. Contains ps at) same is), (λ is. subst (λ ps. Contains ps at) (sym same) is))

-- ---- from a disk to what follows it, by a call or by none that is kept

-- a call came: the clock rose, and these were added to the calls
pub record Comes (old : MemDiskState) (clock : ℕ) (calls later : List Call) : Type 0 where
  pub sound : IsSound old.blocks old.calls old.clock
  pub bound : old.clock ≤ count_end
  pub rises : clock ≡ risen old.clock
  pub adds : calls ≡ old.calls ++ later

pub record Follows (old new : MemDiskState) (later : List Call) : Type 0 where
  pub comes : Comes old new.clock new.calls later
  pub size : length new.blocks ≡ length old.blocks
  pub back : (k : ℕ) → k < new.clock → taken_back k later new.blocks ≡ old.blocks
  pub hidden : (k : ℕ) (places : List ℕ) → k < new.clock → unsynced k later places ≡ places

module _ (old new : MemDiskState) (later : List Call) (follows : Follows old new later) where
  same_contents : (k : ℕ) → k ≤ old.clock → k < count_end → contents_at new k ≡ contents_at old k
  same_contents k le lt =
      let before : k < new.clock = omega (arith, follows.comes.rises) in
      let not_now : k ≢ new.clock = omega arith in
      cond-false _ _ _ (ne_eqb k new.clock not_now)
      ∙ ap (λ (calls : List Call). taken_back k calls new.blocks) follows.comes.adds
      ∙ taken_back-append k old.calls later new.blocks
      ∙ ap (taken_back k old.calls) (follows.back k before)
      ∙ elim (cases_eq k old.clock) [
        | inl now ↦
            let by_now = subst (λ (j : ℕ). All (λ call. clock_of call ≤ j) old.calls) (sym now) follows.comes.sound.by_now in
            taken_back_none k old.calls old.blocks by_now ∙ sym (cond-true _ _ _ (eq-eqb k old.clock now))
        | inr earlier ↦ sym (cond-false _ _ _ (ne_eqb k old.clock earlier))
      ]

  same_unsynced : (k : ℕ) → k ≤ old.clock → k < count_end → unsynced k new.calls [] ≡ unsynced k old.calls []
  same_unsynced k le lt =
      let before : k < new.clock = omega (arith, follows.comes.rises) in
      ap (λ (calls : List Call). unsynced k calls []) follows.comes.adds ∙ unsynced-append k old.calls later [] ∙ follows.hidden k _ before

  -- what a stop could leave at a clock value that is over stays what it was
  pub goes : Goes (known_of old) (known_of new)
  goes = record {
    same_size = follows.size;
    still_tells = refl;
    later = omega (arith, follows.comes.rises, follows.comes.bound);
    over = λ _ k image le lt.
        let contents = same_contents k le lt in
        let places = same_unsynced k le lt in (
          (λ left. record {
            by_now = le;
            left = subst (λ cs. DiffersAt (Contains (unsynced k old.calls [])) cs image) contents (subst (λ ps. DiffersAt (Contains ps) (contents_at new k) image) places left.left);
          }),
          (λ left. record {
            by_now = omega (arith, follows.comes.rises, follows.comes.bound);
            left = subst (λ ps. DiffersAt (Contains ps) (contents_at new k) image) (sym places) (subst (λ cs. DiffersAt (Contains (unsynced k old.calls [])) cs image) (sym contents) left.left);
          }),
        );
  }

  -- the places that are unsynced now
  abbrev places_now : List ℕ
  places_now = unsynced new.clock later (unsynced old.clock old.calls [])

  unsynced_now : unsynced new.clock new.calls [] ≡ places_now
  unsynced_now =
      ap (λ (calls : List Call). unsynced new.clock calls []) follows.comes.adds
      ∙ unsynced-append new.clock old.calls later []
      ∙ ap (unsynced new.clock later) (unsynced_same old.clock new.clock old.calls [] follows.comes.sound.by_now (omega (arith, follows.comes.rises, follows.comes.bound)))

  left_past : (k : ℕ) (image : List Block) → old.clock < k → IsLeft new k image → DiffersAt (Contains places_now) new.blocks image
  left_past k image past left =
      let now : k ≡ new.clock = omega (arith, left.by_now, follows.comes.rises) in
      let left_now : IsLeft new new.clock image = subst (λ (j : ℕ). IsLeft new j image) now left in
      subst (λ cs. DiffersAt (Contains places_now) cs image) (contents_at_now new) (subst (λ ps. DiffersAt (Contains ps) (contents_at new new.clock) image) unsynced_now left_now.left)

  -- where only these places were written, and only these are unsynced besides those that were so before
  pub writes : (places : ℕ → Type 0) → DiffersAt places old.blocks new.blocks → ((at : ℕ) → Contains places_now at → OrUnsynced places (known_of old) at) → WritesAt places (known_of old) (known_of new)
  writes places differs more = record {
    contents = λ _. differs;
    unsynced = λ _ at is. more at (subst (λ ps. Contains ps at) unsynced_now is);
    left = λ _ k image past before left.
        differs_on (OrUnsynced places (known_of old)) old.blocks new.blocks image
        (differs_wider places (OrUnsynced places (known_of old)) old.blocks new.blocks (λ at place. inl place) differs)
        (differs_wider (Contains places_now) (OrUnsynced places (known_of old)) new.blocks image more (left_past k image past left));
  }

-- ---- a call that was not kept

module _ (old new : MemDiskState) (comes : Comes old new.clock new.calls []) (blocks : new.blocks ≡ old.blocks) where
  pub follows_none : Follows old new []
  follows_none = record {
    comes = comes;
    size = ap length blocks;
    back = λ k lt. blocks;
    hidden = λ k places lt. refl;
  }

  pub writes_none : (places : ℕ → Type 0) → WritesAt places (known_of old) (known_of new)
  writes_none places = writes old new [] follows_none places (subst (λ (bs : List Block). DiffersAt places old.blocks bs) (sym blocks) (differs_itself places old.blocks)) (λ at is. inr is)

  pub same_by_none : (at : ℕ) → (known_of new).unsynced at ↔ (known_of old).unsynced at
  same_by_none = same_places (unsynced_now old new [] follows_none)

-- ---- a write

-- the call of a write that finds these blocks; d stands for the block past the end
abbrev pub write_call : MemDiskState → ℕ → Block → Call
write_call old at d = Write (risen old.clock) at (slice_index_or old.blocks at d)

contains_one : (at other : ℕ) (places : List ℕ) → Contains (at ∷ places) other ↔ (here at other ⊎ Contains places other)
contains_one at other places = (
  λ found. elim (cases_eq other at) [
    | inl same ↦ inl same
    | inr apart ↦ inr (Contains-tail at places other (λ same. apart (sym same)) found)
  ],
  λ either. elim either [
    | inl same ↦ (0, omega arith, sym same)
    | inr found ↦ Contains-append_right (at ∷ []) places other found
  ],
)

module _ (old new : MemDiskState) (at : ℕ) (block d : Block) (comes : Comes old new.clock new.calls (write_call old at d ∷ []))
    (blocks : new.blocks ≡ slice_set old.blocks at block) where
  pub follows_write : Follows old new (write_call old at d ∷ [])
  follows_write = record {
    comes = comes;
    size = ap length blocks ∙ length-set old.blocks at block;
    back = λ k lt.
        cond-true _ _ _ (lt-ltb k (risen old.clock) (omega (arith, lt, comes.rises)))
        ∙ ap (λ (bs : List Block). slice_set bs at (slice_index_or old.blocks at d)) blocks
        ∙ set_back old.blocks at block d;
    hidden = λ k places lt. unsynced_by_later k (write_call old at d) places (omega (arith, lt, comes.rises));
  }

  one_more : (places : List ℕ) → unsynced_by new.clock (write_call old at d) places ≡ at ∷ places
  one_more places = cond-true _ _ _ (le-leb (risen old.clock) new.clock (omega (arith, comes.rises)))

  pub writes_here : WritesAt (here at) (known_of old) (known_of new)
  writes_here =
      let places = unsynced old.clock old.calls [] in
      writes old new (write_call old at d ∷ []) follows_write (here at)
      (subst (λ (bs : List Block). DiffersAt (here at) old.blocks bs) (sym blocks) (differs_set old.blocks at block))
      (λ other is. (contains_one at other places).0 (subst (λ ps. Contains ps other) (one_more places) is))

  pub unsynced_by_write : (other : ℕ) → (known_of new).unsynced other ↔ OrUnsynced (here at) (known_of old) other
  unsynced_by_write other =
      let places = unsynced old.clock old.calls [] in
      let same : unsynced new.clock new.calls [] ≡ at ∷ places = unsynced_now old new (write_call old at d ∷ []) follows_write ∙ one_more places in (
        (λ is. (contains_one at other places).0 (subst (λ ps. Contains ps other) same is)),
        (λ is. subst (λ ps. Contains ps other) (sym same) ((contains_one at other places).1 is)),
      )

-- ---- a sync

among : (done : Bool) (places : List ℕ) (i : ℕ) → Contains (cond done [] places) i → Contains places i
among true places i found = absurd (none_in i found)
among false places i found = found

module _ (old new : MemDiskState) (done : Bool) (comes : Comes old new.clock new.calls (Sync (risen old.clock) done ∷ [])) (blocks : new.blocks ≡ old.blocks) where
  pub follows_sync : Follows old new (Sync (risen old.clock) done ∷ [])
  follows_sync = record {
    comes = comes;
    size = ap length blocks;
    back = λ k lt. blocks;
    hidden = λ k places lt. unsynced_by_later k (Sync (risen old.clock) done) places (omega (arith, lt, comes.rises));
  }

  synced : (places : List ℕ) → unsynced_by new.clock (Sync (risen old.clock) done) places ≡ cond done [] places
  synced places = ap (λ (b : Bool). cond (b && done) [] places) (le-leb (risen old.clock) new.clock (omega (arith, comes.rises)))

  pub writes_nowhere : WritesAt nowhere (known_of old) (known_of new)
  writes_nowhere =
      let places = unsynced old.clock old.calls [] in
      writes old new (Sync (risen old.clock) done ∷ []) follows_sync nowhere
      (subst (λ (bs : List Block). DiffersAt nowhere old.blocks bs) (sym blocks) (differs_itself nowhere old.blocks))
      (λ at is. inr (among done places at (subst (λ ps. Contains ps at) (synced places) is)))

  unsynced_after : unsynced new.clock new.calls [] ≡ cond done [] (unsynced old.clock old.calls [])
  unsynced_after = unsynced_now old new (Sync (risen old.clock) done ∷ []) follows_sync ∙ synced (unsynced old.clock old.calls [])

  pub settled_by_sync : done ≡ true → IsSettled (known_of new)
  settled_by_sync good at is =
      let none : unsynced new.clock new.calls [] ≡ [] = unsynced_after ∙ cond-true done [] (unsynced old.clock old.calls []) good in
      none_in at (subst (λ ps. Contains ps at) none is)

  pub same_by_sync : done ≡ false → (at : ℕ) → (known_of new).unsynced at ↔ (known_of old).unsynced at
  same_by_sync bad = same_places (unsynced_after ∙ cond-false done [] (unsynced old.clock old.calls []) bad)
