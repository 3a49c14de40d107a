use Rattle.std.proofs.Common.{◌≡◌, ◌+◌}
use Rattle.toml.specs.View.{members_view, table_view}
use Rattle.script_lang.specs.Keys.{bad_key, bad_key_from}
use Rattle.script_lang.proofs.keys.Level.judge.Given as goal

-- the first bad key is that of the keys that are left
abbrev pub invariant-loop-key : goal.invariant-loop-key
invariant-loop-key l = bad_key_from l.self (l.place + 1) (members_view l.key-iterator) ≡ bad_key l.self (table_view l.table)
