-- The laws of the trait `Disk`, of a disk over another that fails from some call on.
use Rattle.std.specs.Prelude.{◌≡◌, ◌<◌, ℕ, List, min, true}
use Rattle.std.proofs.Common.{subst, sym, arith}
use Rattle.nesc_base.specs.declared.block.Block.{Block}
use Rattle.nesc_base.specs.Count.{count_end}
use Rattle.nesc_base.specs.Disk.{CouldLeave, Known}
use Rattle.nesc_fakes.specs.TinyFuse.{counted, IsLeftOver}

pub reads_as_left :
    (inner : Known) (burnt : ℕ) → (inner.tells ≡ true → inner.clock < count_end → inner.left inner.clock inner.contents)
    → inner.tells ≡ true → counted inner.clock burnt < count_end
    → IsLeftOver inner burnt (counted inner.clock burnt) inner.contents
reads_as_left inner burnt law tells before =
    let now : min (counted inner.clock burnt) inner.clock ≡ inner.clock = omega arith in
    record {
      by_now = omega arith;
      inside = subst (λ k. inner.left k inner.contents) (sym now) (law tells (omega arith));
    }

pub left_now : (inner : Known) (burnt : ℕ) (image : List Block) →
    (inner.tells ≡ true → inner.clock < count_end → inner.left inner.clock image → CouldLeave inner image)
    → inner.tells ≡ true → counted inner.clock burnt < count_end
    → IsLeftOver inner burnt (counted inner.clock burnt) image → CouldLeave inner image
left_now inner burnt image law tells before left =
    let now : min (counted inner.clock burnt) inner.clock ≡ inner.clock = omega arith in
    law tells (omega arith) (subst (λ k. inner.left k image) now left.inside)
