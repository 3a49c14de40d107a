use Rattle.std.proofs.Common.{◌≡◌, ℕ, List, ◌∷◌, ◌++◌, ◌-◌, ◌*◌, ◌<◌, min, length, take, drop, slice_index, sym, ap, ◌∙◌, arith, length-drop, length-take}
use Rattle.std.proofs.lemmas.List.{get_or-drop}
use Rattle.nesc_base.specs.Block.{zero_block}
use Rattle.slot_layout.specs.Bytes.{block_of_bytes, four_bytes, padded, spelled}
use Rattle.slot_layout.specs.Targets.{list_block}
use Rattle.slot_layout.proofs.Spelled.{length-numbers, numbers_more, numbers_of_block}
use Rattle.slot_layout.proofs.targets.list_block.Goals as goal

pub loop-i-init : goal.loop-i-init
unfolding zero_block
loop-i-init c = c.zero-block.ensures

pub loop-i-preserved : goal.loop-i-preserved
loop-i-preserved c =
    let numbers : List ℕ = length c.args.targets.now ∷ c.args.targets.now in
    let from : ℕ = 256 * c.args.b in
    let i : ℕ = c.loop-i.i in
    let rest : List ℕ = drop from numbers in
    let front : List ℕ = spelled four_bytes (take i rest) in
    let left : length rest ≡ length numbers - from = length-drop from numbers in
    let below : i < length rest = omega arith in
    let size : length front ≡ 4 * i = omega (arith, length-numbers (take i rest), length-take i rest) in
    let number : c.list_number.result ≡ slice_index rest i = c.list_number.ensures ∙ sym (get_or-drop from numbers i 0) in
    c.put_number.ensures front size c.loop-i.invariant
    ∙ ap (λ n. block_of_bytes (padded 1024 (front ++ four_bytes n))) number
    ∙ ap (λ (bytes : List ℕ). block_of_bytes (padded 1024 bytes)) (sym (numbers_more rest i below))

pub returns : goal.returns
unfolding list_block
returns c =
    let numbers : List ℕ = length c.args.targets.now ∷ c.args.targets.now in
    let from : ℕ = 256 * c.args.b in
    let count : c.loop-i.i ≡ min (length numbers - from) 256 = omega arith in
    c.loop-i.invariant ∙ ap (λ (bytes : List ℕ). block_of_bytes (padded 1024 bytes)) (numbers_of_block numbers from (1024 * c.args.b) c.loop-i.i (omega arith) count)
