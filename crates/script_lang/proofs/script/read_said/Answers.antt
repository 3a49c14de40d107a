use Rattle.std.proofs.Common.{◌≡◌, ◌+◌, ◌≤◌, Ok, Err, map, ap, subst, ◌∙◌, sym, rules}
use Rattle.std.specs.List.{sum_by}
use Rattle.toml.specs.View.{table_view}
use Rattle.nesc_requests.specs.Script.{Script}
use Rattle.script_lang.specs.CommandsText.{blocks_in_all, command_blocks, commands_said, few_blocks, strings_said}
use Rattle.script_lang.specs.Entries.{command_in, guest_entry_blocks}
use Rattle.script_lang.specs.Kept.{script_in}
use Rattle.script_lang.specs.Left.{Left, untouched}
use Rattle.script_lang.specs.Limits.{most_blocks}
use Rattle.script_lang.specs.declared.guest.Guest.{Guest}
use Rattle.script_lang.proofs.CountLemmas.{commands_said-fault, commands_said-few, commands_said-over, few_blocks-within, guests-count, hosts-count}
use Rattle.script_lang.proofs.ReadsLemmas.{IsRefusedFor-whole}
use Rattle.script_lang.proofs.ScriptLemmas.{left-untouched}
use Rattle.script_lang.proofs.script.read_said.Goals as goal
use Rattle.script_lang.proofs.script.read_said.Goals.{In_ok-all}

pub returns-in_err-parts-clause-read : goal.returns-in_err-parts-clause-read
returns-in_err-parts-clause-read c =
    let top = table_view c.args.top.now in
    let fault : c.from_residual.result ≡ Err c.in_err-parts.field-0.0 = search rules in
    rw fault (IsRefusedFor-whole c.in_err-parts.field-0.0 (strings_said c.args.machine top) (commands_said c.args.machine top) (commands_said-fault c.args.machine top) c.in_err-parts.ensures.read)

-- the script that was read
script_at : In_ok-all → Script
script_at c = script_in c.args.machine c.in_ok-parts.parts.store c.in_ok-parts.parts.host.items c.in_ok-parts.parts.guests.items

-- the blocks that are counted are its blocks
counted : (c : In_ok-all) → c.in_ok-all.all ≡ blocks_in_all (script_at c)
unfolding script_at
counted c =
    let parts = c.in_ok-parts.parts in
    let sum : c.in_ok-all.all ≡ c.in_ok-host.host + c.in_ok-guests.guests = search rules in
    let hosts = hosts-count parts.store c.args.machine.functions parts.host.items c.in_ok-parts.ensures.host in
    let guests = guests-count parts.store parts.guests.items c.in_ok-parts.ensures.none c.in_ok-parts.ensures.guests in
    let read = c.in_ok-guests.ensures ∙ ap (sum_by (λ (guest : Guest). sum_by guest_entry_blocks guest.entries.items)) c.deref.ensures.value in
    sum
    ∙ ap (λ n. n + c.in_ok-guests.guests) (c.in_ok-host.ensures ∙ sym hosts)
    ∙ ap (λ n. sum_by command_blocks (map (command_in parts.store) parts.host.items) + n) (read ∙ sym guests)

pub returns-in_err-few_blocks-clause-read : goal.returns-in_err-few_blocks-clause-read
unfolding script_at
returns-in_err-few_blocks-clause-read c =
    let at = (goal.at.returns-in_err-few_blocks-clause-read c).In_ok-all in
    let top = table_view c.args.top.now in
    let fault : c.from_residual-in_err-few_blocks.result ≡ Err c.in_err-few_blocks.field-0.0 = search rules in
    rw fault
    (IsRefusedFor-whole c.in_err-few_blocks.field-0.0 (few_blocks c.in_ok-all.all) (commands_said c.args.machine top)
    (λ f is. commands_said-over c.args.machine top (script_at at) f c.in_ok-parts.ensures.read (ap few_blocks (sym (counted at)) ∙ is)) c.in_err-few_blocks.ensures)

pub returns-clause-read : goal.returns-clause-read
unfolding script_at
returns-clause-read c =
    let at = (goal.at.returns-clause-read c).In_ok-all in
    let top = table_view c.args.top.now in
    commands_said-few c.args.machine top (script_at at) c.in_ok-all.all c.in_ok-parts.ensures.read (ap few_blocks (sym (counted at)) ∙ c.in_ok-few_blocks.ensures)
    ∙ ap (λ (left : Left). Ok left.script) (sym c.new.ensures)

pub returns-clause-blocks : goal.returns-clause-blocks
unfolding script_at
returns-clause-blocks c =
    let at = (goal.at.returns-clause-blocks c).In_ok-all in
    let within = few_blocks-within c.in_ok-all.all c.in_ok-all.all c.in_ok-few_blocks.ensures in
    subst (λ (left : Left). blocks_in_all left.script ≤ most_blocks) (sym c.new.ensures) (subst (λ n. n ≤ most_blocks) (counted at) within)

pub returns-clause-untouched : goal.returns-clause-untouched
returns-clause-untouched c =
    let parts = c.in_ok-parts.parts in
    subst (λ (left : Left). left ≡ untouched left.script) (sym c.new.ensures) (left-untouched c.args.machine parts.store parts.host.items parts.guests.items c.in_ok-parts.ensures.fresh c.in_ok-parts.ensures.none)
