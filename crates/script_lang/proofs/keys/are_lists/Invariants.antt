use Rattle.std.proofs.Common.{◌≡◌, drop}
use Rattle.toml.specs.View.{items_view}
use Rattle.script_lang.specs.Keys.{all_items, is_list_of_strings}
use Rattle.script_lang.proofs.keys.are_lists.Given as goal

-- it hangs on the values that are left
abbrev pub invariant-loop-value : goal.invariant-loop-value
invariant-loop-value l = all_items is_list_of_strings (items_view (drop l.value-index l.values)) ≡ all_items is_list_of_strings (items_view l.values)
