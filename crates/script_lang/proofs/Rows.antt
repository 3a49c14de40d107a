-- What some texts say, by computation.
use Rattle.std.proofs.Common.{◌≡◌, ℕ, List, [], ◌∷◌, ◌++◌, Some, None, codes, pos, negsuc, replicate, Ok, Err, refl}
use Rattle.std.specs.Char.{encode_utf8}
use Rattle.std.specs.Str.{chars, is_utf8}
use Rattle.text_kit.specs.Number.{number_of}
use Rattle.toml.proofs.OnLiterals.{toml_on_literals}
use Rattle.nesc_base.specs.Block.{zero_block}
use Rattle.nesc_base.specs.BlockText.{block_of_text}
use Rattle.nesc_base.specs.declared.numbers.FnNo.{FnNo}
use Rattle.nesc_requests.specs.Script.{Script}
use Rattle.nesc_requests.specs.declared.host.HostCommand.TheVariants.{Create, Delete, Resize, Put, Map, Get, Attach, Detach, Sync, Regs}
use Rattle.nesc_requests.specs.Machine.{default_machine}
use Rattle.nesc_requests.specs.declared.request.Request.TheVariants.{Read, Write, Flush}
use Rattle.nesc_requests.specs.declared.word.Word.TheVariants.{T, G, H, I, P, PAt, X}
use Rattle.script_lang.specs.CommandsText.{commands_of, commands_said, script_of, strings_said}
use Rattle.script_lang.specs.ScheduleText.{schedule_of}
use Rattle.script_lang.specs.ScheduleWords.{word_said}
use Rattle.script_lang.specs.declared.fault.InputFault.{InputFault}
use Rattle.script_lang.specs.declared.fault.InputFault.TheVariants.{BadToml, BadKey, BadCommand, BadWord, OverLimit}
use Rattle.script_lang.specs.declared.fault.Limit.TheVariants.{Functions, Pool, Guests, Steps}

-- the two texts refuse so
abbrev Refuses : List ℕ → InputFault → Type 0
Refuses text fault = commands_of text ≡ Err fault

abbrev RefusesOfTwo : List ℕ → InputFault → Type 0
RefusesOfTwo text fault = schedule_of 2 text ≡ Err fault

abbrev function : ℕ → FnNo
function f = record { 0 = f }

-- Schedules of two functions

no_steps : schedule_of 2 (codes "\n \t\r") ≡ Ok []
unfolding schedule_of number_of
no_steps = refl

steps : schedule_of 2 (codes "h\tt*3 g01\r\ni2 t x") ≡ Ok (H ∷ T ∷ T ∷ T ∷ G (function 1) ∷ I (function 2) ∷ T ∷ X ∷ [])
unfolding schedule_of number_of
steps = refl

bad_function : RefusesOfTwo (codes "t\n g9") (BadWord 2 2)
unfolding schedule_of number_of
bad_function = refl

no_function : RefusesOfTwo (codes "t\r g0") (BadWord 1 4)
unfolding schedule_of number_of
no_function = refl

eleven_digits : RefusesOfTwo (codes "t*00000000001") (BadWord 1 1)
unfolding schedule_of number_of
eleven_digits = refl

no_ticks : RefusesOfTwo (codes "h\n\nt*0") (BadWord 3 1)
unfolding schedule_of number_of
no_ticks = refl

too_many_ticks : RefusesOfTwo (codes "t*1048577") (OverLimit Steps (pos 1048577))
unfolding schedule_of number_of
too_many_ticks = refl

far_too_many : RefusesOfTwo (codes "h t*9999999999 q") (OverLimit Steps (pos 10000000000))
unfolding schedule_of number_of
far_too_many = refl

one_too_many : RefusesOfTwo (codes "t*1048576\nh q") (OverLimit Steps (pos 1048577))
unfolding schedule_of number_of
one_too_many = refl

bad_word_first : RefusesOfTwo (codes "t*1048576\nq h") (BadWord 2 1)
unfolding schedule_of number_of
bad_word_first = refl

-- words of trees are words, and are not served
leaf : word_said 2 (codes "p2:1048575") ≡ Some (PAt (function 2) 1048575, 1)
unfolding number_of
leaf = refl

no_leaf : word_said 2 (codes "p2:1048576") ≡ None
unfolding number_of
no_leaf = refl

tree : word_said 2 (codes "p01") ≡ Some (P (function 1), 1)
unfolding number_of
tree = refl

not_served : RefusesOfTwo (codes "h p2") (BadWord 1 3)
unfolding schedule_of number_of
not_served = refl

not_emptied : RefusesOfTwo (codes "e") (BadWord 1 1)
unfolding schedule_of number_of
not_emptied = refl

-- Commands files

nothing : commands_of [] ≡ Ok (record { machine = default_machine; host = []; guests = [] ∷ [] })
unfolding toml_on_literals commands_of script_of commands_said strings_said is_utf8 chars
nothing = refl

no_toml : Refuses (codes "host = [\"create a 4") BadToml
unfolding toml_on_literals commands_of script_of is_utf8 chars encode_utf8
no_toml = refl

no_utf8 : Refuses (codes "#" ++ 255 ∷ []) BadToml
unfolding toml_on_literals commands_of script_of is_utf8 chars encode_utf8
no_utf8 = refl

unknown_key : Refuses (codes "host = []\nguests = []") (BadKey 0 1)
unfolding toml_on_literals commands_of script_of is_utf8 chars encode_utf8
unknown_key = refl

-- the keys in the order of their bytes are guest, host, machine
no_table : Refuses (codes "machine = 2\nhost = []\nguest = []") (BadKey 0 3)
unfolding toml_on_literals commands_of script_of is_utf8 chars encode_utf8
no_table = refl

no_string : Refuses (codes "host = ['sync', 1]\nguest = [[]]") (BadKey 0 2)
unfolding toml_on_literals commands_of script_of is_utf8 chars encode_utf8
no_string = refl

no_guest : Refuses (codes "guest = [['f'], 'f']") (BadKey 0 1)
unfolding toml_on_literals commands_of script_of is_utf8 chars encode_utf8
no_guest = refl

no_whole_number : Refuses (codes "[machine]\nqueue = 4\npool = 8.0") (BadKey 1 1)
unfolding toml_on_literals commands_of script_of is_utf8 chars encode_utf8
no_whole_number = refl

-- the top level comes first
top_first : Refuses (codes "z = 1\nmachine.a = 1") (BadKey 0 2)
unfolding toml_on_literals commands_of script_of is_utf8 chars encode_utf8
top_first = refl

many_functions : Refuses (codes "host = ['q']\nmachine = {btlb = 0, functions = 17}") (OverLimit Functions (pos 17))
unfolding toml_on_literals commands_of script_of is_utf8 chars encode_utf8
many_functions = refl

few_functions : Refuses (codes "machine.functions = -1") (OverLimit Functions (negsuc 0))
unfolding toml_on_literals commands_of script_of is_utf8 chars encode_utf8
few_functions = refl

few_nodes : Refuses (codes "machine = {btlb = 65, pool = 7}") (OverLimit Pool (pos 7))
unfolding toml_on_literals commands_of script_of is_utf8 chars encode_utf8
few_nodes = refl

many_guests : Refuses (codes "host = ['q']\nguest = [['q'], []]") (OverLimit Guests (pos 2))
unfolding toml_on_literals commands_of script_of commands_said strings_said is_utf8 chars encode_utf8
many_guests = refl

bad_name : Refuses (codes "host = [\"create A 4\"]") (BadCommand 0 1)
unfolding toml_on_literals commands_of script_of commands_said strings_said number_of is_utf8 chars encode_utf8
bad_name = refl

bad_request : Refuses (codes "guest = [['f'], ['f', 'r 0 1', 'r 0 65']]\nmachine.functions = 2") (BadCommand 2 3)
unfolding toml_on_literals commands_of script_of commands_said strings_said number_of is_utf8 chars encode_utf8
bad_request = refl

host_first : Refuses (codes "guest = [['q']]\nhost = ['sync', 'sync ']") (BadCommand 0 2)
unfolding toml_on_literals commands_of script_of commands_said strings_said number_of is_utf8 chars encode_utf8
host_first = refl

-- each command and each request, for two functions
all_of_them : Script
all_of_them = record {
  machine = record { functions = 2; queue = 64; pool = 4096; btlb = 64 };
  host =
      Create (codes "a") 1048576 ∷ Delete (codes "a") ∷ Resize (codes "a") 0 ∷ Put (codes "a") 1048575 (zero_block ∷ zero_block ∷ []) ∷ Map (codes "a") 0 64
      ∷ Get (codes "a") 5 (replicate 2 zero_block) ∷ Attach (function 2) (codes "a") ∷ Detach (function 1) ∷ Sync ∷ Regs (function 2) ∷ [];
  guests = (Read 7 (replicate 1 zero_block) ∷ Write 0 (zero_block ∷ []) ∷ Flush ∷ []) ∷ [] ∷ [];
}

each_of_them : commands_of
    (codes "machine = {functions = 2, queue = 64, pool = 4096, btlb = 64}\nguest = [['r 7 1', 'w 0 z', 'f']]\n"
    ++ codes "host = ['create a 1048576', 'delete a', 'resize a 0', 'put  a 1048575 z z', 'map a 0 64', 'get a 0005 2', 'attach 2 a', 'detach 01', 'sync', 'regs 2']")
    ≡ Ok all_of_them
unfolding toml_on_literals commands_of script_of commands_said strings_said number_of is_utf8 chars encode_utf8 block_of_text all_of_them
each_of_them = refl
