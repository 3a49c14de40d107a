use Rattle.std.proofs.Common.{◌≡◌, List, map, Ok, Err, IfOk, refl, ap, subst, ◌∙◌, sym, arith, rules}
use Rattle.std.specs.List.{All}
use Rattle.toml.specs.View.{items_view, table_view}
use Rattle.nesc_requests.specs.Script.{MayAsk}
use Rattle.nesc_requests.specs.declared.host.HostCommand.{HostCommand}
use Rattle.nesc_requests.specs.declared.request.Request.{Request}
use Rattle.script_lang.specs.CommandsText.{few_guests, guests_of, guests_said, host_said, strings_of, strings_said, with_idle}
use Rattle.script_lang.specs.Entries.{command_in}
use Rattle.script_lang.specs.Kept.{requests_left}
use Rattle.script_lang.proofs.EntryLemmas.{hosts-grown, hosts-still}
use Rattle.script_lang.proofs.FitLemmas.{Fits, guests_said-fits, host_said-fits}
use Rattle.script_lang.proofs.ReadsLemmas.{IsRefusedFor-whole}
use Rattle.script_lang.proofs.ScriptLemmas.{all-count, all-kept, all-left, all-none, all-out, hosts-kept, strings_said-few, strings_said-guests, strings_said-host, strings_said-ok}
use Rattle.script_lang.proofs.script.read_parts.Goals as goal
use Rattle.script_lang.proofs.script.read_parts.Goals.{In_ok-guests}

pub returns-in_err-few_guests-clause-read : goal.returns-in_err-few_guests-clause-read
returns-in_err-few_guests-clause-read c =
    let top = table_view c.args.top.now in
    let guests = items_view c.items_at-named.result.now in
    let fault : c.from_residual.result ≡ Err c.in_err-few_guests.field-0.0 = search rules in
    rw fault
    (IsRefusedFor-whole c.in_err-few_guests.field-0.0 (few_guests c.args.machine.functions (guests_of guests)) (strings_said c.args.machine top)
    (λ f is. strings_said-few c.args.machine top guests _ c.items_at-named.ensures refl f is) c.in_err-few_guests.ensures.read)

pub returns-in_err-host-clause-read : goal.returns-in_err-host-clause-read
returns-in_err-host-clause-read c =
    let top = table_view c.args.top.now in
    let guests = items_view c.items_at-named.result.now in
    let hosts = items_view c.items_at-strings.result.now in
    let fault : c.from_residual-in_err-host.result ≡ Err c.in_err-host.field-0.0 = search rules in
    rw fault
    (IsRefusedFor-whole c.in_err-host.field-0.0 (host_said c.args.machine.functions (strings_of hosts)) (strings_said c.args.machine top)
    (λ f is. strings_said-host c.args.machine top guests hosts c.items_at-named.ensures c.items_at-strings.ensures (guests_of guests) f c.in_ok-few_guests.ensures.read is) c.in_err-host.ensures.read)

pub returns-in_err-guests-clause-read : goal.returns-in_err-guests-clause-read
returns-in_err-guests-clause-read c =
    let top = table_view c.args.top.now in
    let guests = items_view c.items_at-named.result.now in
    let hosts = items_view c.items_at-strings.result.now in
    let commands = map (command_in c.read_host.new.store) c.in_ok-host.host.items in
    let fault : c.from_residual-in_err-guests.result ≡ Err c.in_err-guests.field-0.0 = search rules in
    rw fault
    (IsRefusedFor-whole c.in_err-guests.field-0.0 (guests_said 1 (guests_of guests)) (strings_said c.args.machine top)
    (λ f is. strings_said-guests c.args.machine top guests hosts c.items_at-named.ensures c.items_at-strings.ensures (guests_of guests) commands f c.in_ok-few_guests.ensures.read c.in_ok-host.ensures.read is) c.in_err-guests.ensures.read)

-- the host's commands are the same beside all blocks
host_same : (c : In_ok-guests) → map (command_in c.read_guests.new.store) c.in_ok-host.host.items ≡ map (command_in c.read_host.new.store) c.in_ok-host.host.items
host_same c = hosts-grown c.read_host.new.store c.read_guests.new.store c.in_ok-guests.ensures.grows c.in_ok-host.host.items c.in_ok-host.ensures.kept

pub returns-clause-read : goal.returns-clause-read
returns-clause-read c =
    let top = table_view c.args.top.now in
    let guests = items_view c.items_at-named.result.now in
    let hosts = items_view c.items_at-strings.result.now in
    let store = c.read_guests.new.store in
    let commands = map (command_in c.read_host.new.store) c.in_ok-host.host.items in
    let requests = map (requests_left store) c.in_ok-guests.guests.items in
    let functions = c.args.machine.functions in
    strings_said-ok c.args.machine top guests hosts c.items_at-named.ensures c.items_at-strings.ensures (guests_of guests) commands requests c.in_ok-few_guests.ensures.read c.in_ok-host.ensures.read c.in_ok-guests.ensures.read
    ∙ ap (λ (host : List HostCommand). Ok (record { machine = c.args.machine; host = host; guests = with_idle functions requests })) (sym (host_same (goal.at.returns-clause-read c).In_ok-guests))
    ∙ ap (λ (all : List (List Request)). Ok (record { machine = c.args.machine; host = map (command_in store) c.in_ok-host.host.items; guests = all })) (sym (all-left functions store c.in_ok-guests.guests.items c.in_ok-guests-2.guests.items c.in_ok-guests-2.ensures))

pub returns-clause-host : goal.returns-clause-host
returns-clause-host c =
    let functions = c.args.machine.functions in
    let store = c.read_guests.new.store in
    let entries = c.in_ok-host.host.items in
    let still = hosts-still c.read_host.new.store store c.in_ok-guests.ensures.grows entries c.in_ok-host.ensures.kept in
    let fit = subst (λ said. IfOk said (All (Fits functions))) c.in_ok-host.ensures.read (host_said-fits functions (strings_of (items_view c.items_at-strings.result.now))) in
    hosts-kept functions store entries still (subst (All (Fits functions)) (sym (host_same (goal.at.returns-clause-host c).In_ok-guests)) fit)

pub returns-clause-guests : goal.returns-clause-guests
returns-clause-guests c =
    let fit = subst (λ said. IfOk said (All (All MayAsk))) c.in_ok-guests.ensures.read (guests_said-fits 1 (guests_of (items_view c.items_at-named.result.now))) in
    all-kept c.args.machine.functions c.read_guests.new.store c.in_ok-guests.guests.items c.in_ok-guests-2.guests.items c.in_ok-guests-2.ensures c.in_ok-guests.ensures.fresh fit

pub returns-clause-fresh : goal.returns-clause-fresh
returns-clause-fresh c =
    all-out c.args.machine.functions c.read_guests.new.store c.in_ok-guests.guests.items c.in_ok-guests-2.guests.items c.in_ok-guests-2.ensures (omega (arith, c.in_ok-guests.ensures.count, c.in_ok-few_guests.ensures.few)) c.in_ok-guests.ensures.fresh

pub returns-clause-count : goal.returns-clause-count
returns-clause-count c =
    all-count c.args.machine.functions c.read_guests.new.store c.in_ok-guests.guests.items c.in_ok-guests-2.guests.items c.in_ok-guests-2.ensures (omega (arith, c.in_ok-guests.ensures.count, c.in_ok-few_guests.ensures.few))

pub returns-clause-none : goal.returns-clause-none
returns-clause-none c = all-none c.args.machine.functions c.read_guests.new.store c.in_ok-guests.guests.items c.in_ok-guests-2.guests.items c.in_ok-guests-2.ensures c.in_ok-guests.ensures.fresh
