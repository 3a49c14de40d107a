use Rattle.std.proofs.Common.{◌≡◌, ℕ, ◌<◌, [], length}
use Rattle.nesc_fakes.specs.MemDisk.{contents_at, unsynced}
use Rattle.nesc_fakes.specs.Torn.{after_draws}
use Rattle.nesc_fakes.proofs.Leavable.{IsMadeAt}
use Rattle.nesc_fakes.proofs.mem_disk.MemDisk.image.Given as goal

abbrev pub invariant-loop-at : goal.invariant-loop-at
invariant-loop-at l = record {
  count : length l.image.items ≡ l.at;
  draws : l.x ≡ after_draws l.at l.pick;
  made : (at : ℕ) → at < l.at → IsMadeAt (contents_at l.self l.k) (unsynced l.k l.self.calls []) l.pick l.image.items at;
}
