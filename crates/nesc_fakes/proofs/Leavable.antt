-- Whether a stop can leave an image, decided place by place.
use Rattle.std.proofs.Common.{◌≡◌, ◌≢◌, ℕ, zero, suc, ◌+◌, ◌<◌, ◌≤◌, ◌⊎◌, inl, inr, Bool, true, false, not, ◌&&◌, ◌||◌, ◌==◌, nat_le, nat_lt, cond, List, [], ◌∷◌, ◌++◌, length, Some, Contains, take, drop, slice_get, slice_set, get_or, refl, sym, ◌∙◌, ap, subst, arith}
use Rattle.std.specs.Bool.{Decides}
use Rattle.std.proofs.lemmas.Bool.{cond_both, or_cases, or_left, or_right, and_parts, and_from, eqb-true, eq-eqb, ne_eqb, cond-false, cases_eq, cases_lt, not-false}
use Rattle.std.proofs.lemmas.Bool.Decides.{Decides-eqb}
use Rattle.std.proofs.lemmas.Slice.Eq.{slice_eq-Decides}
use Rattle.std.proofs.Math.Dec.{eqb}
use Rattle.std.specs.Cmp.Lexicographic.{pointwise}
use Rattle.std.proofs.lemmas.Map.Made.{Contains-tail}
use Rattle.std.proofs.lemmas.List.{drop_more, length-set}
use Rattle.std.proofs.lemmas.Grind.{take_at_read}
use Rattle.std.proofs.lemmas.List.Elements.{Contains-append_right}
use Rattle.std.proofs.lemmas.Option.{slice_get_past, slice_get-get_or, same_Some}
use Rattle.nesc_base.specs.declared.block.Block.{Block}
use Rattle.nesc_base.specs.Disk.{DiffersAt}
use Rattle.nesc_fakes.specs.declared.mem_disk.Call.{Call}
use Rattle.nesc_fakes.specs.declared.mem_disk.Call.TheVariants.{Write, Sync}
use Rattle.nesc_fakes.specs.MemDisk.{MemDiskState, without, taken_back, contents_at, is_unsynced_by, unsynced_by, unsynced, IsLeft}
use Rattle.nesc_fakes.specs.Torn.{torn_at}
use Rattle.nesc_fakes.proofs.Images.{none_in, unsynced-append}

-- ---- as many blocks as there are

length-without : (k : ℕ) (call : Call) (blocks : List Block) → length (without k call blocks) ≡ length blocks
length-without k (Write clock at before) blocks = cond_both (nat_lt k clock) (slice_set blocks at before) blocks (λ bs. length bs ≡ length blocks) (λ _. length-set blocks at before) (λ _. refl)
length-without k (Sync clock done) blocks = refl

length-taken_back : (k : ℕ) (calls : List Call) (blocks : List Block) → length (taken_back k calls blocks) ≡ length blocks
length-taken_back k [] blocks = refl
length-taken_back k (call ∷ calls) blocks = length-without k call (taken_back k calls blocks) ∙ length-taken_back k calls blocks

pub length-contents_at : (disk : MemDiskState) (k : ℕ) → length (contents_at disk k) ≡ length disk.blocks
length-contents_at disk k = cond_both (k == disk.clock) disk.blocks (taken_back k disk.calls disk.blocks) (λ bs. length bs ≡ length disk.blocks) (λ _. refl) (λ _. length-taken_back k disk.calls disk.blocks)

pub left_whole : (disk : MemDiskState) (k : ℕ) (image : List Block) → IsLeft disk k image → length image ≡ length disk.blocks
left_whole disk k image is_left = is_left.left.whole ∙ length-contents_at disk k

-- ---- the places that are unsynced

write_decides : (in_time was : Bool) (place at : ℕ) (places : List ℕ) → Decides was (Contains places at) → Decides (was || (in_time && place == at)) (Contains (cond in_time (place ∷ places) places) at)
write_decides true was place at places before = (
  λ yes. elim (or_cases was (place == at) yes) [
    | inl was_so ↦ Contains-append_right (place ∷ []) places at (before.0 was_so)
    | inr here ↦ (0, omega arith, eqb-true place at here)
  ],
  λ found. elim (cases_eq place at) [
    | inl here ↦ or_right was (place == at) (eq-eqb place at here)
    | inr there ↦ or_left was (place == at) (before.1 (Contains-tail place places at there found))
  ],
)
write_decides false was place at places before = (
  λ yes. elim (or_cases was false yes) [ inl was_so ↦ before.0 was_so | inr never ↦ absurd (cc) ],
  λ found. or_left was false (before.1 found),
)

sync_decides : (good was : Bool) (at : ℕ) (places : List ℕ) → Decides was (Contains places at) → Decides (was && not good) (Contains (cond good [] places) at)
sync_decides true was at places before = (λ yes. let parts = and_parts was false yes in absurd (cc), λ found. absurd (none_in at found))
sync_decides false was at places before = (λ yes. before.0 (and_parts was true yes).0, λ found. and_from was true (before.1 found) refl)

call_decides : (k at : ℕ) (call : Call) (was : Bool) (places : List ℕ) → Decides was (Contains places at) → Decides (is_unsynced_by k at call was) (Contains (unsynced_by k call places) at)
call_decides k at (Write clock place before) was places decides = write_decides (nat_le clock k) was place at places decides
call_decides k at (Sync clock done) was places decides = sync_decides (nat_le clock k && done) was at places decides

unsynced_more : (k at : ℕ) (calls : List Call) (call : Call) (was : Bool) → Decides was (Contains (unsynced k calls []) at) → Decides (is_unsynced_by k at call was) (Contains (unsynced k (calls ++ call ∷ []) []) at)
unsynced_more k at calls call was decides =
    subst (λ (places : List ℕ). Decides (is_unsynced_by k at call was) (Contains places at)) (sym (unsynced-append k calls (call ∷ []) []))
    (call_decides k at call was (unsynced k calls []) decides)

-- ---- the block at a place when the clock stood at k

module _ (k at i : ℕ) (calls : List Call) (d : Call) (within : i < length calls) where
  -- the call at i didn't write it
  pub same_at_call : ((blocks : List Block) → slice_get (without k (get_or calls i d) blocks) at ≡ slice_get blocks at) → (blocks : List Block) →
      slice_get (taken_back k (drop i calls) blocks) at ≡ slice_get (taken_back k (drop (i + 1) calls) blocks) at
  same_at_call other blocks = ap (λ (rest : List Call). slice_get (taken_back k rest blocks) at) (drop_more calls i d within) ∙ other (taken_back k (drop (i + 1) calls) blocks)

  -- the call at i did
  pub found_at_call : (before : Block) → ((blocks : List Block) → at < length blocks → slice_get (without k (get_or calls i d) blocks) at ≡ Some before) → (blocks : List Block) → at < length blocks →
      slice_get (taken_back k (drop i calls) blocks) at ≡ Some before
  found_at_call before here blocks inside =
      ap (λ (rest : List Call). slice_get (taken_back k rest blocks) at) (drop_more calls i d within)
      ∙ here (taken_back k (drop (i + 1) calls) blocks) (omega (arith, length-taken_back k (drop (i + 1) calls) blocks))

  -- whether the place is unsynced behind the call at i
  pub unsynced_at_call : (was now : Bool) → now ≡ is_unsynced_by k at (get_or calls i d) was → Decides was (Contains (unsynced k (take i calls) []) at) → Decides now (Contains (unsynced k (take (i + 1) calls) []) at)
  unsynced_at_call was now is before =
      subst (λ (cs : List Call). Decides now (Contains (unsynced k cs []) at)) (sym (take_at_read calls i d within).1)
      (subst (λ (answer : Bool). Decides answer (Contains (unsynced k (take i calls ++ get_or calls i d ∷ []) []) at)) (sym is) (unsynced_more k at (take i calls) (get_or calls i d) was before))

pub contents_at_past : (disk : MemDiskState) (k : ℕ) → k ≢ disk.clock → contents_at disk k ≡ taken_back k disk.calls disk.blocks
contents_at_past disk k past = cond-false _ _ _ (ne_eqb k disk.clock past)

-- ---- an image, place by place

-- up to this place it has the block of that time wherever that was not unsynced
abbrev pub IsImageBelow : List Block → List ℕ → List Block → ℕ → Type 0
IsImageBelow contents places image n = (at : ℕ) → at < n → ¬ Contains places at → slice_get image at ≡ slice_get contents at

module _ (contents : List Block) (places : List ℕ) (image : List Block) where
  -- one place more
  pub image_more : (n : ℕ) → IsImageBelow contents places image n → (Contains places n ⊎ (slice_get image n ≡ slice_get contents n)) → IsImageBelow contents places image (n + 1)
  image_more n below here at lt none = elim (cases_eq at n) [
    | inl last ↦ elim here [
      | inl found ↦ absurd (none (subst (λ (k : ℕ). Contains places k) (sym last) found))
      | inr same ↦ subst (λ (k : ℕ). slice_get image k ≡ slice_get contents k) (sym last) same
    ]
    | inr before ↦ below at (omega arith) none
  ]

  pub image_whole : (n : ℕ) → length image ≤ n → length image ≡ length contents → IsImageBelow contents places image n → DiffersAt (Contains places) contents image
  image_whole n all whole below = record {
    whole = whole;
    others = λ at none. elim (cases_lt at n) [
      | inl inside ↦ below at inside none
      | inr past ↦ slice_get_past image at (omega arith) ∙ sym (slice_get_past contents at (omega arith))
    ];
  }

-- what the test of two blocks says of the one at a place
module _ (image : List Block) (i : ℕ) (d block : Block) (differs : Bool) (within : i < length image) (is : differs ≡ not (pointwise eqb (get_or image i d).0 block.0)) where
  decides : Decides (pointwise eqb (get_or image i d).0 block.0) ((get_or image i d).0 ≡ block.0)
  decides = slice_eq-Decides Decides-eqb (get_or image i d).0 block.0 (pointwise eqb (get_or image i d).0 block.0) refl

  pub same_block : differs ≡ false → slice_get image i ≡ Some block
  same_block alike =
      let bytes : (get_or image i d).0 ≡ block.0 = decides.0 (not-false (pointwise eqb (get_or image i d).0 block.0) (sym is ∙ alike)) in
      slice_get-get_or image i d within ∙ (λ j. Some (record { 0 = bytes j }))

  pub other_block : differs ≡ true → slice_get image i ≡ Some block → ⊥
  other_block unlike found =
      let same : get_or image i d ≡ block = same_Some (get_or image i d) block (sym (slice_get-get_or image i d within) ∙ found) in
      let test : pointwise eqb (get_or image i d).0 block.0 ≡ true = decides.1 (ap (λ (b : Block). b.0) same) in
      let alike : differs ≡ false = is ∙ ap not test in
      absurd (cc)

-- ---- an image that is made place by place

slice_get-before : {X : Type 0} (xs ys : List X) (i : ℕ) → i < length xs → slice_get (xs ++ ys) i ≡ slice_get xs i
slice_get-before [] ys i inside = absurd (omega arith)
slice_get-before (x ∷ xs) ys zero inside = refl
slice_get-before (x ∷ xs) ys (suc i) inside = slice_get-before xs ys i (omega arith)

slice_get-seam : {X : Type 0} (xs : List X) (x : X) → slice_get (xs ++ x ∷ []) (length xs) ≡ Some x
slice_get-seam [] x = refl
slice_get-seam (y ∷ xs) x = slice_get-seam xs x

module _ (contents : List Block) (places : List ℕ) (pick : ℕ) where
  -- it has the torn block at a place that is unsynced, and else what stood there
  abbrev pub IsMadeAt : List Block → ℕ → Type 0
  IsMadeAt image at = (Contains places at → slice_get image at ≡ Some (torn_at pick at)) × (¬ Contains places at → slice_get image at ≡ slice_get contents at)

  pub made_more : (image : List Block) (block : Block) (n : ℕ) → length image ≡ n → ((at : ℕ) → at < n → IsMadeAt image at)
      → (Contains places n → block ≡ torn_at pick n) → (¬ Contains places n → slice_get contents n ≡ Some block)
      → (at : ℕ) → at < n + 1 → IsMadeAt (image ++ block ∷ []) at
  made_more image block n count made torn whole at lt = elim (cases_eq at n) [
    | inl last ↦
        let here : slice_get (image ++ block ∷ []) at ≡ Some block = ap (slice_get (image ++ block ∷ [])) (last ∙ sym count) ∙ slice_get-seam image block in (
          (λ found. here ∙ ap Some (torn (subst (λ (k : ℕ). Contains places k) last found) ∙ ap (torn_at pick) (sym last))),
          (λ none. here ∙ sym (whole (λ found. none (subst (λ (k : ℕ). Contains places k) (sym last) found))) ∙ ap (slice_get contents) (sym last)),
        )
    | inr before ↦
        let same : slice_get (image ++ block ∷ []) at ≡ slice_get image at = slice_get-before image (block ∷ []) at (omega arith) in
        ((λ found. same ∙ (made at (omega arith)).0 found), (λ none. same ∙ (made at (omega arith)).1 none))
  ]
