-- How a request is said to have ended, in its parts.
use Rattle.std.specs.Prelude.{ℕ, List, [], codes}
use Rattle.nesc_base.specs.declared.block.Block.{Block}
use Rattle.nesc_requests.specs.declared.request.End.{End}
use Rattle.nesc_requests.specs.declared.request.End.TheVariants as end
use Rattle.nesc_requests.specs.declared.request.Request.{Request}
use Rattle.nesc_requests.specs.declared.request.Request.TheVariants.{Read}

-- the word before a number
abbrev pub end_word : End → List ℕ
end_word end.Ok = codes "ok "
end_word end.Range = codes "range "
end_word end.NoSpace = codes "nospace "
end_word end.Media = codes "media "
end_word (end.Flushed clock) = codes "flushed "

-- the number: how many blocks are done, or the clock of a flush
abbrev pub end_number : End → ℕ → ℕ
end_number (end.Flushed clock) done = clock
end_number how done = done

-- the blocks behind it: those that were read, where a read is done
abbrev pub blocks_told : End → Request → List Block
blocks_told end.Ok (Read v into) = into
blocks_told how request = []
