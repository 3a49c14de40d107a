use Rattle.std.proofs.Common.{◌≡◌, ◌+◌, List, ◌++◌, Option, Some, drop, length, map}
use Rattle.nesc_base.specs.BlockText.{block_of_text}
use Rattle.script_lang.specs.Stored.{Grows}
use Rattle.script_lang.specs.Words.{each, ◌>>=◌}
use Rattle.script_lang.proofs.runs.blocks_from.Given as goal

-- what is done, and then what comes of the rest
abbrev pub onto : {B : Type 0} → List B → Option (List B) → Option (List B)
onto done rest = rest >>= λ more. Some (done ++ more)

-- the blocks so far stand behind those of before, and with those of the texts that are left they are those of all texts
abbrev pub invariant-loop-text : goal.invariant-loop-text
invariant-loop-text l = record {
  first : l.first ≡ length l.fn.store;
  count : length l.store ≡ l.first + l.text-index;
  grows : Grows l.fn.store l.store;
  read : onto (drop l.first l.store) (each block_of_text (map (λ text. text.now) (drop l.text-index l.texts))) ≡ each block_of_text (map (λ text. text.now) l.texts);
}
