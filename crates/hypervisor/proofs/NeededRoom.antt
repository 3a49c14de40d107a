-- That there is room for what a command needs.
use Rattle.std.proofs.Common.{◌≡◌, ℕ, ◌≤◌, List, length, Result, Ok, Err, OnErr, IfOk, refl, sym, ap, ◌∙◌, subst, arith}
use Rattle.std.specs.Prelude.{not}
use Rattle.std.specs.List.{range_with_len}
use Rattle.std.specs.Result.{result_unwrap_or}
use Rattle.std.proofs.lemmas.List.Filters.{length-filter_both}
use Rattle.std.proofs.lemmas.List.FromFn.{length-range_with_len}
use Rattle.nesc_base.specs.declared.block.Block.{Block}
use Rattle.nesc_requests.specs.declared.host.HostCommand.TheVariants.{Put, Map}
use Rattle.file_layer.specs.declared.files.FileFault.{FileFault}
use Rattle.file_layer.specs.Layer.{HasRoomFor, IsLayer, Layer, is_held, lacking}
use Rattle.host_journal.specs.Journal.{Journal}
use Rattle.hypervisor.specs.Needing.{HasRoom, HasRoomToDo, IsEntered}
use Rattle.hypervisor.proofs.Naming.{entries_apart}

-- so many blocks are to be had for the file of a name, or none are
abbrev pub Takes : Layer → List ℕ → ℕ → ℕ → Result ℕ FileFault → Type 0
Takes files name v n result = IfOk result (λ count. (k : ℕ) × IsEntered files name k × HasRoomFor files k v n × (count ≡ length (lacking files k v n)))

abbrev pub Refuses : Layer → List ℕ → ℕ → ℕ → Result ℕ FileFault → Type 0
Refuses files name v n result = OnErr result ((k : ℕ) → IsEntered files name k → ¬ HasRoomFor files k v n)

-- no more lack than there are
few_lacking : (files : Layer) (k v n : ℕ) → length (lacking files k v n) ≤ n
few_lacking files k v n = omega (arith, length-filter_both (λ at. not (is_held files k at)) (λ at. not (not (is_held files k at))) (λ at. refl) (range_with_len v n), length-range_with_len v n)

module _ (files : Layer) (name : List ℕ) (v : ℕ) where
  pub room_if_refused : (from : List Block) (n : ℕ) (journal : Journal) → n ≡ length from → ((k : ℕ) → IsEntered files name k → ¬ HasRoomFor files k v n) → HasRoomToDo files (Put name v from) journal
  room_if_refused from n journal count none k entered room = absurd (none k entered (subst (HasRoomFor files k v) (sym count) room))

  pub few_taken : (n most : ℕ) (result : Result ℕ FileFault) → n ≤ most → Takes files name v n result → result_unwrap_or result 0 ≤ most
  few_taken n most (Ok count) few takes = omega (arith, few, takes.3, few_lacking files takes.0 v n)
  few_taken n most (Err cause) few takes = omega arith

  pub room_if_taken : (n : ℕ) (result : Result ℕ FileFault) (journal : Journal) → IsLayer files → Takes files name v n result → Refuses files name v n result
      → HasRoom journal (result_unwrap_or result 0) → HasRoomToDo files (Map name v n) journal
  room_if_taken n (Ok count) journal layer takes refuses room k entered here =
      let same : takes.0 ≡ k = entries_apart files name takes.0 k layer takes.1 entered in
      subst (HasRoom journal) (takes.3 ∙ ap (λ m. length (lacking files m v n)) same) room
  room_if_taken n (Err cause) journal layer takes refuses room k entered here = absurd (refuses k entered here)

  -- and no more room is asked for than is needed
  pub put_asks : (from : List Block) (n : ℕ) (journal : Journal) → n ≡ length from → (k : ℕ) → IsEntered files name k → HasRoomFor files k v n → HasRoomToDo files (Put name v from) journal → HasRoom journal n
  put_asks from n journal count k entered room asks = subst (HasRoom journal) (sym count) (asks k entered (subst (HasRoomFor files k v) count room))

  pub map_asks : (n : ℕ) (result : Result ℕ FileFault) (journal : Journal) → journal.count ≤ journal.geometry.slack → Takes files name v n result → HasRoomToDo files (Map name v n) journal
      → HasRoom journal (result_unwrap_or result 0)
  map_asks n (Ok count) journal within takes asks = subst (HasRoom journal) (sym takes.3) (asks takes.0 takes.1 takes.2)
  map_asks n (Err cause) journal within takes asks = omega (arith, within)
