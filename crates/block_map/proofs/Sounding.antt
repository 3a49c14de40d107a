-- What a map keeps stays sound when a data block gets an owner or loses it.
use Rattle.std.proofs.Common.{◌≡◌, ◌≢◌, inl, inr, ℕ, ◌+◌, ◌-◌, ◌<◌, ◌≤◌, ◌^◌, Bool, true, false, List, [], Option, Some, None, get_or, length, replicate, slice_get, refl, sym, ap, ◌∙◌, subst, arith}
use Rattle.std.specs.Prelude.{is_none, slice_set, unwrap_or}
use Rattle.std.proofs.lemmas.Bool.{cases_eq, cases_lt, eq-eqb, ne_eqb}
use Rattle.std.proofs.lemmas.List.{length-replicate, length-set, map-set}
use Rattle.std.proofs.lemmas.List.Sums.{count_by-le-length}
use Rattle.std.proofs.lemmas.Option.{get_or_from_slice_get, none-some, same_Some, slice_get_past, slice_get_within}
use Rattle.nesc_base.proofs.Differing.{slice_get-set_other, slice_get-set_same}
use Rattle.nesc_base.specs.declared.numbers.FileNo.{FileNo}
use Rattle.nesc_base.specs.Files.{most_files}
use Rattle.nesc_base.specs.Geometry.{most_blocks}
use Rattle.nesc_base.specs.Places.{IsOwned, Owner}
use Rattle.block_map.specs.declared.held_runs.HeldRun.{HeldRun}
use Rattle.block_map.specs.Map.{MayHold, count_free, count_held, is_of}
use Rattle.block_map.specs.Runs.{AddsOne, AreHeldRuns, IsAmong, TakesOne, blocks_in}
use Rattle.block_map.specs.Sound.{IsSound}
use Rattle.block_map.proofs.Among.{place_once}
use Rattle.block_map.proofs.Counting.{count_by-replicate, count_by-set, count_by_none, map-replicate, one_if, replicate_is, slice_get-replicate}

-- Where each data block is free

IsSound-none : (from n room : ℕ) → from + n < 2 ^ 32 → n ≤ most_blocks → n ≡ room → IsSound from (replicate n None) [] room (replicate n true) n (replicate 33 0)
IsSound-none from n room fits few enough =
    let none : Option Owner = None in
    let many : length (replicate n none) ≡ n = length-replicate n none in
    record {
      fits = omega (arith, many, fits);
      few = omega (arith, many, few);
      may = λ k owner is. absurd (none-some owner (sym (replicate_is n k none (Some owner) is)));
      rising = record {
        each = λ k held is. absurd (none-some held is);
        rising = λ j k one next before here there. absurd (none-some one here);
      };
      same = λ m v at. (λ among. absurd (none-some among.held among.stands), λ owned. absurd (none-some owned.1 (sym (replicate_is n owned.0 none (Some owned.1) owned.2))));
      count = omega (arith, many);
      enough = omega (arith, many, enough);
      marked = sym (map-replicate is_none n none);
      counted = omega (arith, count_by-replicate is_none n none);
      each = refl;
      shares = λ m within. slice_get-replicate 33 m 0 (omega (arith, within)) ∙ ap Some (omega (arith, count_by-replicate (is_of m) n none));
    }

pub IsSound-fresh : (from n room : ℕ) (owners : List (Option Owner)) (runs : List HeldRun) (bits : List Bool) → owners ≡ replicate n None → runs ≡ [] → bits ≡ replicate n true
    → from + n < 2 ^ 32 → n ≤ most_blocks → n ≡ room → IsSound from owners runs room bits n (replicate 33 0)
IsSound-fresh from n room owners runs bits free none set fits few enough = rw (free, none, set) (IsSound-none from n room fits few enough)

-- How many a file holds

-- a data block that is free or another file's is not of the file
of_other : (n : ℕ) (owner : Option Owner) → ((one : Owner) → owner ≡ Some one → one.0.0 ≢ n) → is_of n owner ≡ false
of_other n None others = refl
of_other n (Some one) others = ne_eqb one.0.0 n (others one refl)

-- no file past the last holds a data block
pub held_share : {from room free : ℕ} {owners : List (Option Owner)} {runs : List HeldRun} {bits : List Bool} {held : List ℕ} → IsSound from owners runs room bits free held → (n : ℕ)
    → unwrap_or (slice_get held n) 0 ≡ count_held n owners
held_share {from} {room} {free} {owners} {runs} {bits} {held} sound n =
    elim (cases_lt most_files n) [
      | inl past ↦
          ap (λ (o : Option ℕ). unwrap_or o 0) (slice_get_past held n (omega (arith, past, sound.each)))
          ∙ sym (count_by_none (is_of n) owners (λ k owner is. of_other n owner (λ one some same. omega (arith, same, past, (sound.may k one (is ∙ ap Some some)).among))))
      | inr within ↦ ap (λ (o : Option ℕ). unwrap_or o 0) (sound.shares n within)
    ]

-- the share of one file changes as the owner of one data block does
shares_set : (held : List ℕ) (owners : List (Option Owner)) (n k share : ℕ) (old new : Option Owner) → n ≤ most_files → length held ≡ most_files + 1
    → ((m : ℕ) → m ≤ most_files → slice_get held m ≡ Some (count_held m owners)) → slice_get owners k ≡ Some old
    → share + one_if (is_of n old) ≡ get_or held n 0 + one_if (is_of n new) → ((m : ℕ) → m ≢ n → is_of m old ≡ is_of m new)
    → (m : ℕ) → m ≤ most_files → slice_get (slice_set held n share) m ≡ Some (count_held m (slice_set owners k new))
shares_set held owners n k share old new among each shares is changes alike m within =
    elim (cases_eq m n) [
      | inl same ↦
          let had : get_or held n 0 ≡ count_held n owners = get_or_from_slice_get held n (count_held n owners) 0 (shares n among) in
          let now : share ≡ count_held n (slice_set owners k new) = omega (arith, had, changes, count_by-set (is_of n) owners k old new is) in
          ap (slice_get (slice_set held n share)) same
          ∙ slice_get-set_same held n share (omega (arith, among, each))
          ∙ ap Some (now ∙ ap (λ l. count_held l (slice_set owners k new)) (sym same))
      | inr other ↦
          let kept : count_held m owners ≡ count_held m (slice_set owners k new) = omega (arith, ap one_if (alike m other), count_by-set (is_of m) owners k old new is) in
          slice_get-set_other held n m share other ∙ shares m within ∙ ap Some kept
    ]

-- One data block

-- the same block at the same place
among_as : {runs : List HeldRun} {n v at m w place : ℕ} → IsAmong runs n v at → n ≡ m → v ≡ w → at ≡ place → IsAmong runs m w place
among_as among file block there = record {
  k = among.k;
  held = among.held;
  stands = among.stands;
  file = among.file ∙ file;
  within = record {
    from = omega (arith, among.within.from, block);
    below = omega (arith, among.within.below, block);
    place = omega (arith, among.within.place, block, there);
  };
}

-- the owner at the place of a block that the runs have
pub record IsOwnerAt (from : ℕ) (owners : List (Option Owner)) (n v at : ℕ) : Type 0 where
  pub owner : Owner
  pub past : from ≤ at
  pub stands : slice_get owners (at - from) ≡ Some (Some owner)
  pub file : owner.0.0 ≡ n
  pub block : owner.1 ≡ v

pub owner_at : {from room free : ℕ} {owners : List (Option Owner)} {runs : List HeldRun} {bits : List Bool} {held : List ℕ} → IsSound from owners runs room bits free held → (n v at : ℕ)
    → IsAmong runs n v at → IsOwnerAt from owners n v at
owner_at {from} {room} {free} {owners} sound n v at among =
    let owned : IsOwned from owners n v at = (sound.same n v at).0 among in
    let there : at - from ≡ owned.0 = omega (arith, owned.5) in
    record {
      owner = owned.1;
      past = omega (arith, owned.5);
      stands = ap (slice_get owners) there ∙ owned.2;
      file = owned.3;
      block = owned.4;
    }

pub place_within : {from room free : ℕ} {owners : List (Option Owner)} {runs : List HeldRun} {bits : List Bool} {held : List ℕ} → IsSound from owners runs room bits free held → (n v at : ℕ)
    → IsAmong runs n v at → at - from < length owners
place_within {from} {room} {free} {owners} sound n v at among =
    let there : IsOwnerAt from owners n v at = owner_at sound n v at among in
    slice_get_within owners (at - from) (Some there.owner) there.stands

-- there is memory for a run more where a data block is free
pub room_for_one : {from room free : ℕ} {owners : List (Option Owner)} {runs : List HeldRun} {bits : List Bool} {held : List ℕ} → IsSound from owners runs room bits free held → (k : ℕ)
    → slice_get owners k ≡ Some None → (blocks_in runs < room) × (1 ≤ free)
room_for_one {from} {room} {free} {owners} sound k is =
    let owner : Option Owner = Some (record { 0 = 0 }, 0) in
    let counts : count_free (slice_set owners k owner) + 1 ≡ count_free owners + 0 = count_by-set is_none owners k None owner is in
    (omega (arith, sound.count, sound.counted, sound.enough, counts), omega (arith, sound.counted, counts))

-- a count of a file's blocks is within the data blocks
pub share_within : {from room free : ℕ} {owners : List (Option Owner)} {runs : List HeldRun} {bits : List Bool} {held : List ℕ} → IsSound from owners runs room bits free held → (n : ℕ)
    → n ≤ most_files → get_or held n 0 ≤ most_blocks
share_within {from} {room} {free} {owners} {runs} {bits} {held} sound n among =
    omega (arith, get_or_from_slice_get held n (count_held n owners) 0 (sound.shares n among), count_by-le-length (is_of n) owners, sound.few)

pub IsSound-with : {from room free : ℕ} {owners : List (Option Owner)} {runs : List HeldRun} {bits : List Bool} {held : List ℕ} → IsSound from owners runs room bits free held
    → (file : FileNo) (v at : ℕ) (added : List HeldRun) (new_room : ℕ) → from ≤ at → slice_get owners (at - from) ≡ Some None → MayHold file.0 v
    → AreHeldRuns added → AddsOne runs file.0 v at added → new_room ≡ room
    → IsSound from (slice_set owners (at - from) (Some (file, v))) added new_room (slice_set bits (at - from) false) (free - 1) (slice_set held file.0 (get_or held file.0 0 + 1))
IsSound-with {from} {room} {free} {owners} {runs} {bits} {held} sound file v at added new_room past is may rising adds same_room =
    let k : ℕ = at - from in
    let owner : Option Owner = Some (file, v) in
    let none : Option Owner = None in
    let within : k < length owners = slice_get_within owners k none is in
    let many : length (slice_set owners k owner) ≡ length owners = length-set owners k owner in
    let counts : count_free (slice_set owners k owner) + 1 ≡ count_free owners + 0 = count_by-set is_none owners k none owner is in
    let new_one : (j : ℕ) (one : Owner) → j ≡ k → slice_get (slice_set owners k owner) j ≡ Some (Some one) → (file, v) ≡ one = λ j one same there.
    same_Some (file, v) one (same_Some owner (Some one) (sym (slice_get-set_same owners k owner within) ∙ ap (slice_get (slice_set owners k owner)) (sym same) ∙ there)) in
    record {
      fits = omega (arith, many, sound.fits);
      few = omega (arith, many, sound.few);
      may = λ j one there.
          elim (cases_eq j k) [
            | inl same ↦ subst (λ (o : Owner). MayHold o.0.0 o.1) (new_one j one same there) may
            | inr other ↦ sound.may j one (sym (slice_get-set_other owners k j owner other) ∙ there)
          ];
      rising = rising;
      same = λ m w place. (
        λ among.
            elim (adds.no_other m w place among) [
              | inl before ↦
                  let owned : IsOwned from owners m w place = (sound.same m w place).0 before in
                  let other : owned.0 ≢ k = λ same. none-some owned.1 (same_Some none (Some owned.1) (sym is ∙ ap (slice_get owners) (sym same) ∙ owned.2)) in
                  (owned.0, owned.1, slice_get-set_other owners k owned.0 owner other ∙ owned.2, owned.3, owned.4, owned.5)
              | inr new ↦ (k, (file, v), slice_get-set_same owners k owner within, sym new.0, sym new.1, omega (arith, new.2, past))
            ],
        λ owned.
            elim (cases_eq owned.0 k) [
              | inl same ↦
                  let one : (file, v) ≡ owned.1 = new_one owned.0 owned.1 same owned.2 in
                  among_as adds.added (ap (λ (o : Owner). o.0.0) one ∙ owned.3) (ap (λ (o : Owner). o.1) one ∙ owned.4) (omega (arith, owned.5, same, past))
              | inr other ↦
                  adds.stay m w place ((sound.same m w place).1 (owned.0, owned.1, sym (slice_get-set_other owners k owned.0 owner other) ∙ owned.2, owned.3, owned.4, owned.5))
            ],
      );
      count = omega (arith, adds.count, sound.count, many, counts, sound.counted);
      enough = omega (arith, many, sound.enough, same_room);
      marked = ap (λ b. slice_set b k false) sound.marked ∙ sym (map-set is_none owners k owner);
      counted = omega (arith, counts, sound.counted);
      each = length-set held file.0 (get_or held file.0 0 + 1) ∙ sound.each;
      shares = shares_set held owners file.0 k (get_or held file.0 0 + 1) none owner may.among sound.each sound.shares is
          (omega (arith, ap one_if (eq-eqb file.0 file.0 refl)))
          (λ m other. sym (ne_eqb file.0 m (λ same. other (sym same))));
    }

pub IsSound-without : {from room free : ℕ} {owners : List (Option Owner)} {runs : List HeldRun} {bits : List Bool} {held : List ℕ} → IsSound from owners runs room bits free held
    → (n v at : ℕ) (taken : List HeldRun) (new_room : ℕ) → IsAmong runs n v at → AreHeldRuns taken → TakesOne runs n v taken → new_room ≡ room
    → (1 ≤ get_or held n 0)
    × (IsSound from (slice_set owners (at - from) None) taken new_room (slice_set bits (at - from) true) (free + 1) (slice_set held n (get_or held n 0 - 1)))
IsSound-without {from} {room} {free} {owners} {runs} {bits} {held} sound n v at taken new_room there rising takes same_room =
    let k : ℕ = at - from in
    let none : Option Owner = None in
    let gone : IsOwnerAt from owners n v at = owner_at sound n v at there in
    let old : Option Owner = Some gone.owner in
    let within : k < length owners = slice_get_within owners k old gone.stands in
    let may : MayHold gone.owner.0.0 gone.owner.1 = sound.may k gone.owner gone.stands in
    let among : n ≤ most_files = omega (arith, gone.file, may.among) in
    let many : length (slice_set owners k none) ≡ length owners = length-set owners k none in
    let counts : count_free (slice_set owners k none) + 0 ≡ count_free owners + 1 = count_by-set is_none owners k old none gone.stands in
    let his : one_if (is_of n old) ≡ 1 = ap one_if (eq-eqb gone.owner.0.0 n gone.file) in
    let some : 1 ≤ get_or held n 0 = omega (arith, his, count_by-set (is_of n) owners k old none gone.stands, get_or_from_slice_get held n (count_held n owners) 0 (sound.shares n among)) in
    let not_there : (j : ℕ) (one : Owner) → slice_get (slice_set owners k none) j ≡ Some (Some one) → j ≢ k = λ j one is same.
    none-some one (same_Some none (Some one) (sym (slice_get-set_same owners k none within) ∙ ap (slice_get (slice_set owners k none)) (sym same) ∙ is)) in (
      some,
      record {
        fits = omega (arith, many, sound.fits);
        few = omega (arith, many, sound.few);
        may = λ j one is. sound.may j one (sym (slice_get-set_other owners k j none (not_there j one is)) ∙ is);
        rising = rising;
        same = λ m w place. (
          λ still.
              let owned : IsOwned from owners m w place = (sound.same m w place).0 (takes.no_other m w place still) in
              let other : owned.0 ≢ k = λ same.
              let one : owned.1 ≡ gone.owner = same_Some owned.1 gone.owner (same_Some (Some owned.1) old (sym owned.2 ∙ ap (slice_get owners) same ∙ gone.stands)) in
              takes.taken place (among_as still (sym owned.3 ∙ ap (λ (o : Owner). o.0.0) one ∙ gone.file) (sym owned.4 ∙ ap (λ (o : Owner). o.1) one ∙ gone.block) refl) in
              (owned.0, owned.1, slice_get-set_other owners k owned.0 none other ∙ owned.2, owned.3, owned.4, owned.5),
          λ owned.
              let other : owned.0 ≢ k = not_there owned.0 owned.1 owned.2 in
              let before : IsAmong runs m w place = (sound.same m w place).1 (owned.0, owned.1, sym (slice_get-set_other owners k owned.0 none other) ∙ owned.2, owned.3, owned.4, owned.5) in
              elim (takes.stay m w place before) [
                | inl still ↦ still
                | inr his_own ↦
                    let one : place ≡ at = place_once sound.rising (among_as before his_own.0 his_own.1 refl) there in
                    absurd (other (omega (arith, one, owned.5)))
              ],
        );
        count = omega (arith, takes.count, sound.count, many);
        enough = omega (arith, many, sound.enough, same_room);
        marked = ap (λ b. slice_set b k true) sound.marked ∙ sym (map-set is_none owners k none);
        counted = omega (arith, counts, sound.counted);
        each = length-set held n (get_or held n 0 - 1) ∙ sound.each;
        shares = shares_set held owners n k (get_or held n 0 - 1) old none among sound.each sound.shares gone.stands
            (omega (arith, his, some))
            (λ m other. ne_eqb gone.owner.0.0 m (λ same. other (sym same ∙ gone.file)));
      },
    )
