-- What a disk over another, which fails from some call on, knows of itself, and what a stop leaves of it.
use Rattle.std.specs.Prelude.{ℕ, ◌+◌, ◌≤◌, List, min}
use Rattle.nesc_base.specs.declared.block.Block.{Block}
use Rattle.nesc_base.specs.Count.{count_end}
use Rattle.nesc_base.specs.Disk.{Known}

pub record TinyFuseState (Inner : Type 0) : Type 0 where
  -- the disk that it passes its calls on to
  pub inner : Inner
  -- how many more calls it passes on
  pub passes : ℕ
  -- how many writes and syncs it has failed itself
  pub burnt : ℕ
  -- how many calls it has failed itself
  pub failed : ℕ

-- what a count of the inner disk and one that is kept here come to
abbrev pub counted : ℕ → ℕ → ℕ
counted inner here = min (inner + here) count_end

-- A stop while the clock stood at k: it leaves what one leaves of the inner disk, whose clock stands still once calls
-- fail here.
pub record IsLeftOver (inner : Known) (burnt k : ℕ) (image : List Block) : Type 0 where
  pub by_now : k ≤ counted inner.clock burnt
  pub inside : inner.left (min k inner.clock) image

-- what is known, from what is known of the inner disk
abbrev pub fused : Known → ℕ → ℕ → Known
fused inner burnt failed = record {
  size = inner.size;
  tells = inner.tells;
  contents = inner.contents;
  clock = counted inner.clock burnt;
  left = IsLeftOver inner burnt;
  unsynced = inner.unsynced;
  faults = counted inner.faults failed;
}

abbrev pub known_of : {Inner : Type 0} → (Inner → Known) → TinyFuseState Inner → Known
known_of known fuse = fused (known fuse.inner) fuse.burnt fuse.failed
