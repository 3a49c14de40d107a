-- Which keys the tables of a commands file may have, and with which values.
use Rattle.std.specs.Prelude.{ℕ, ◌+◌, ◌&&◌, if◌then◌else◌, Bool, true, false, List, codes, Option, Some, None, is_some}
use Rattle.std.specs.Str.{bytes_eq}
use Rattle.toml.specs.Data.{Data, array, Items, no_items, item, Members}
use Rattle.toml.specs.Data.{no_members, member, as_integer, as_str, as_table}
use Rattle.script_lang.specs.declared.fault.InputFault.{InputFault}
use Rattle.script_lang.specs.declared.fault.InputFault.TheVariants.{BadKey}
use Rattle.script_lang.specs.declared.keys.Level.{Level}
use Rattle.script_lang.specs.declared.keys.Level.TheVariants.{Top, Machine}

abbrev pub is_table : Data → Bool
is_table value = is_some (as_table value)

abbrev pub is_whole_number : Data → Bool
is_whole_number value = is_some (as_integer value)

abbrev pub is_string : Data → Bool
is_string value = is_some (as_str value)

-- all items are such values
abbrev pub all_items : (Data → Bool) → Items → Bool
all_items good no_items = true
all_items good (item value items) = good value && all_items good items

-- an array of strings, as the host has it
abbrev pub is_list_of_strings : Data → Bool
is_list_of_strings (array items) = all_items is_string items
is_list_of_strings value = false

-- an array of arrays of strings, one for each guest
abbrev pub is_list_of_guests : Data → Bool
is_list_of_guests (array items) = all_items is_list_of_strings items
is_list_of_guests value = false

-- a key of the top level has a value of its type
abbrev pub is_top_key : List ℕ → Data → Bool
is_top_key key value =
    if bytes_eq key (codes "machine") then is_table value
    else if bytes_eq key (codes "host") then is_list_of_strings value
    else if bytes_eq key (codes "guest") then is_list_of_guests value
    else false

-- so it is for a key of the table `machine`
abbrev pub is_machine_key : List ℕ → Data → Bool
is_machine_key key value =
    if bytes_eq key (codes "functions") then is_whole_number value
    else if bytes_eq key (codes "queue") then is_whole_number value
    else if bytes_eq key (codes "pool") then is_whole_number value
    else if bytes_eq key (codes "btlb") then is_whole_number value
    else false

-- the two tables, and their numbers
abbrev pub is_key : Level → List ℕ → Data → Bool
is_key Top key value = is_top_key key value
is_key Machine key value = is_machine_key key value

abbrev pub table_number : Level → ℕ
table_number Top = 0
table_number Machine = 1

-- The first key of a table that is not good, with its place, if there is one. The keys of a table stand in the order of
-- their bytes, and this is the place of the first of them.
abbrev pub bad_key_from : Level → ℕ → Members → Option InputFault
bad_key_from level place no_members = None
bad_key_from level place (member key value more) =
    if is_key level key value then bad_key_from level (place + 1) more
    else Some (BadKey (table_number level) place)

abbrev pub bad_key : Level → Members → Option InputFault
bad_key level members = bad_key_from level 1 members
