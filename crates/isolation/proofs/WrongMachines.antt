-- Machines that are not isolated, beside the right one, and what refutes each.
use Rattle.std.proofs.Common.{◌≡◌, ◌≢◌, ◌⊎◌, ℕ, cond, List, [], ◌∷◌, map, Option, Some, None, refl, sym, ap, ◌∙◌, ⊎_elim, inr, Bool, arith, length, option_map, replicate, slice_index_or, unwrap_or}
use Rattle.std.specs.FinMap.{empty, insert}
use Rattle.std.specs.Option.{option_map_or}
use Rattle.std.proofs.lemmas.Option.{none-some}
use Rattle.nesc_base.specs.Block.{zero_block}
use Rattle.nesc_base.specs.Files.{Body, File, Files, file_at}
use Rattle.nesc_base.specs.declared.block.Block.{Block}
use Rattle.nesc_base.specs.declared.numbers.FnNo.{FnNo}
use Rattle.nesc_base.proofs.Maps.{get-insert_same}
use Rattle.nesc_requests.specs.declared.event.Event.TheVariants.{Host}
use Rattle.nesc_requests.specs.declared.host.HostAnswer.TheVariants as said
use Rattle.nesc_requests.specs.declared.host.HostCommand.TheVariants.{Resize}
use Rattle.file_model.specs.Files.{Change, create, hold, read, resize}
use Rattle.plain_machine.specs.Functions.{Attached}
use Rattle.plain_machine.specs.Groups.{no_space}
use Rattle.plain_machine.specs.declared.outcome.Answer.{Answer}
use Rattle.plain_machine.specs.declared.outcome.Answer.TheVariants as happened
use Rattle.plain_machine.specs.declared.outcome.Handled.{Handled}
use Rattle.plain_machine.specs.declared.outcome.Handled.TheVariants.{NoSpace}
use Rattle.isolation.specs.History.{OwnEvent, OwnLine, changed, handled, host_changes, own_of_event, replied, restarted, ticked}
use Rattle.isolation.specs.Laws.{IsOwn}
use Rattle.isolation.specs.Solo.{HandlesAlone, Solo, SoloStep, file_after}
use Rattle.isolation.proofs.TwoGuests.{at_rest, beside, called_first, files, outcome_of, second_name}

-- A block that comes to be held keeps what an earlier owner left

-- the body with this block, which was left, at each of these places
abbrev with_left : Block → Body → List ℕ → Body
with_left left body [] = body
with_left left body (v ∷ blocks) = with_left left (insert body v left) blocks

-- what holds blocks leaves that block in them, and every other change is the right one
abbrev file_after_left : Block → Change → Option File → Option File
file_after_left left (hold n blocks) file = option_map (λ (old : File). record old { body = with_left left old.body blocks }) file
file_after_left left change file = file_after change file

-- what is read there, where there is a file
abbrev read_at : ℕ → Option File → Block
read_at v file = option_map_or (λ (file : File). read file v) file zero_block

-- a file that holds nothing
abbrev new_file : File
new_file = record { name = 97 ∷ []; length = 10; body = empty }

-- it comes to hold block 3
abbrev holds_third : Change
holds_third = hold 1 (3 ∷ [])

-- the right one reads zeros
pub reads_zeros : read_at 3 (file_after holds_third (Some new_file)) ≡ zero_block
reads_zeros = ap (λ found. unwrap_or found zero_block) (get-insert_same empty 3 zero_block)

module _ (left : Block) where
  -- the wrong one reads what was left
  pub reads_left : read_at 3 (file_after_left left holds_third (Some new_file)) ≡ left
  reads_left = ap (λ found. unwrap_or found zero_block) (get-insert_same empty 3 left)

  -- so the two are not one
  pub left_differs : left ≢ zero_block → file_after_left left holds_third (Some new_file) ≢ file_after holds_third (Some new_file)
  left_differs apart same = apart (sym reads_left ∙ ap (read_at 3) same ∙ reads_zeros)

  -- and what the wrong one shows is not the file's own: it is not zeros, and nothing brought it
  pub left_is_foreign : left ≢ zero_block → IsOwn None (changed (create 1 (97 ∷ []) 10) ∷ changed holds_third ∷ []) 3 left → ⊥
  left_is_foreign apart =
      ⊎_elim apart
      (⊎_elim (λ held. none-some held.0 held.1)
      (⊎_elim (λ never. never) (⊎_elim (λ never. never) (λ never. never))))

-- there is such a block: a byte of it is not 0
abbrev ones : Block
ones = record { 0 = replicate 1024 1 }

-- it is not the block of zeros
pub ones_are_foreign : ones ≢ zero_block
unfolding zero_block
ones_are_foreign same = let first : ◌≡◌ {A = ℕ} 1 0 = ap (λ (block : Block). slice_index_or block.0 0 0) same in omega arith

-- so for this block the two are not one
pub ones_differ : file_after_left ones holds_third (Some new_file) ≢ file_after holds_third (Some new_file)
ones_differ = left_differs ones ones_are_foreign

-- A function is told that another found no space

-- what a handling tells where the function has the file, and where it has none that there is no space
abbrev HandlesAny : FnNo → Solo → Handled → List OwnLine → Solo → Type 0
HandlesAny f old did lines new =
    HandlesAlone f old did lines new
    ⊎ ((old.desk ≡ None) × (did ≡ NoSpace) × (lines ≡ replied 3 (record { f = f; id = 1; end = no_space 0 }) ∷ []) × (new ≡ old))

-- it tells that to one that has nothing
pub told_to_another : (f : FnNo) (file : Option File) → HandlesAny f (record { now = file; last_kept = file; desk = None }) NoSpace
    (replied 3 (record { f = f; id = 1; end = no_space 0 }) ∷ []) (record { now = file; last_kept = file; desk = None })
told_to_another f file = inr (refl, refl, refl, refl)

module _ (f : FnNo) (n : ℕ) (old : Solo) (off : old.desk ≡ None) where
  -- the right one handles nothing of a function without the file, and so tells it nothing
  pub handles_none : (did : Handled) (lines : List OwnLine) (new : Solo) → SoloStep f n old (handled did) lines new → ⊥
  handles_none did lines new handles = none-some handles.desk (sym off ∙ handles.on)

  -- nor does a tick take it
  pub ticks_none : (line : Answer) (clock : Option ℕ) (failed : Bool) (lines : List OwnLine) (new : Solo)
      → SoloStep f n old (ticked line clock failed) lines new → ⊥
  ticks_none line clock failed lines new ticks = none-some ticks.desk (sym off ∙ ticks.on)

-- A file shrinks in place of another

-- what a command changes of the file, without a look at whose name it names
abbrev own_of_any_name : ℕ → Files → List ℕ → ℕ → List OwnEvent
own_of_any_name n files name len = map changed (host_changes n (file_at files n) (Resize name len))

module _ (block : Block) where
  -- the wrong one shrinks the first file where the second is to shrink
  pub shrinks_first : own_of_any_name 1 (files block) second_name 4 ≡ changed (resize 1 4) ∷ []
  shrinks_first = refl

  -- in the right one the first file has none of it
  pub shrinks_none : own_of_event 1 1 (beside block (at_rest 2)) (Host (Resize second_name 4)) (outcome_of (happened.Host said.Ok) None) (resize 2 4 ∷ []) ≡ []
  shrinks_none = ap (λ called. cond called (changed (resize 1 4) ∷ []) []) (called_first block second_name)

  -- so the two are not one
  pub shrinks_differ : own_of_any_name 1 (files block) second_name 4
      ≢ own_of_event 1 1 (beside block (at_rest 2)) (Host (Resize second_name 4)) (outcome_of (happened.Host said.Ok) None) (resize 2 4 ∷ [])
  shrinks_differ same = let counts : ◌≡◌ {A = ℕ} 1 0 = ap length (same ∙ shrinks_none) in omega arith

-- A restart leaves what the function had

-- as the right one restarts, but the function has its file and its requests as before
abbrev RestartsLeaving : Solo → List OwnLine → Solo → Type 0
RestartsLeaving old lines new = (lines ≡ []) × (new ≡ record { now = old.last_kept; last_kept = old.last_kept; desk = old.desk })

-- where it had something, no step of the right one is so
pub restart_leaves_none : (f : FnNo) (n : ℕ) (old : Solo) (desk : Attached) (lines : List OwnLine) (new : Solo) → old.desk ≡ Some desk
    → RestartsLeaving old lines new → SoloStep f n old restarted lines new → ⊥
restart_leaves_none f n old desk lines new had leaves restarts =
    let left : new.desk ≡ Some desk = ap (λ (solo : Solo). solo.desk) leaves.1 ∙ had in
    let none : new.desk ≡ None = ap (λ (solo : Solo). solo.desk) restarts.1 in
    none-some desk (sym none ∙ left)
