-- The state of the plain machine.
use Rattle.std.specs.Prelude.{ℕ, List, Option, Some, None, replicate}
use Rattle.nesc_base.specs.Files.{Files}
use Rattle.plain_machine.specs.Functions.{Function, off}
use Rattle.plain_machine.specs.declared.setting.Setting.{Setting}

pub record State : Type 0 where
  -- the files after the steps so far, and as they were kept last
  pub now : Files
  pub kept : Files
  -- each function, numbered from 1, and the number of the one that was taken last, or 0
  pub functions : List Function
  pub last : ℕ
  -- how many data blocks were staged since the files were kept
  pub count : ℕ

-- The machine before its first step: these files, which were kept last, and all functions off.
abbrev pub start : Setting → Files → State
start setting files = record {
  now = files;
  kept = files;
  functions = replicate setting.machine.functions off;
  last = 0;
  count = 0;
}

-- a commit, if there is one, at whatever clock: the files are kept as they are now
abbrev pub committed : Option ℕ → State → State
committed None state = state
committed (Some clock) state = record state { kept = state.now; count = 0 }
