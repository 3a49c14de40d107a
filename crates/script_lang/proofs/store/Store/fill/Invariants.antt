use Rattle.std.proofs.Common.{◌≡◌, length, take}
use Rattle.script_lang.specs.Stored.{blocks_at, kept_blocks}
use Rattle.script_lang.proofs.store.Store.fill.Given as goal

-- the blocks so far are those of the run
abbrev pub invariant-loop-k : goal.invariant-loop-k
invariant-loop-k l = record {
  count : length l.into ≡ l.run.count;
  filled : take l.k l.into ≡ take l.k (blocks_at (kept_blocks l.self-inside.full.items l.self-inside.kept.items) l.run);
}
