use Rattle.std.proofs.Common.{◌≡◌, ℕ, ◌+◌, List, [], ◌∷◌, ◌++◌, drop, length, map, Some, ap, sym, ◌∙◌, rules}
use Rattle.std.proofs.lemmas.List.{map-append}
use Rattle.std.proofs.lemmas.List.Elements.{All-push}
use Rattle.nesc_requests.specs.declared.host.HostCommand.{HostCommand}
use Rattle.toml.specs.View.{items_view}
use Rattle.script_lang.specs.CommandsText.{each_said, strings_of}
use Rattle.script_lang.specs.Entries.{IsHostEntry, command_in}
use Rattle.script_lang.specs.HostText.{host_command_of}
use Rattle.script_lang.proofs.EntryLemmas.{hosts-grown, hosts-still, said-end, said-more, strings-end, strings-front}
use Rattle.script_lang.proofs.StepLemmas.{behind}
use Rattle.script_lang.proofs.StoreLemmas.{Grows-trans}
use Rattle.script_lang.proofs.reading.read_host.Goals as goal

pub loop-value-preserved : goal.loop-value-preserved
loop-value-preserved c =
    let f = c.args.functions in
    let values = c.args.values.now in
    let i = c.loop-value.value-index in
    let old = c.loop-value.store in
    let new = c.host_entry_of.new.store in
    let entries = c.loop-value.entries.items in
    let entry = c.in-Ok.entry in
    let done = map (command_in old) entries in
    let text = c.in-Some.text.now in
    let rest = strings_of (items_view (drop (i + 1) values)) in
    let grows = c.in-Ok.ensures.grows in
    let said : host_command_of f text ≡ Some (command_in new entry) = ap (host_command_of f) (sym c.as_bytes.ensures.value) ∙ c.in-Ok.ensures.read in
    let next : c.in_ok-index.index ≡ c.loop-value.index + 1 = search rules in
    rw c.in_ok-push_back-in-Ok.ensures.items (record {
      read =
          ap (λ (commands : List HostCommand). behind commands (each_said (host_command_of f) 0 (c.in_ok-index.index + 1) rest)) (map-append (command_in new) entries (entry ∷ []) ∙ ap (λ (commands : List HostCommand). commands ++ command_in new entry ∷ []) (hosts-grown old new grows entries c.loop-value.invariant.kept))
          ∙ ap (λ n. behind (done ++ command_in new entry ∷ []) (each_said (host_command_of f) 0 (n + 1) rest)) next
          ∙ sym (said-more (host_command_of f) 0 (c.loop-value.index + 1) text rest (command_in new entry) done said)
          ∙ ap (λ (texts : List (List ℕ)). behind done (each_said (host_command_of f) 0 (c.loop-value.index + 1) texts)) (sym (strings-front values i c.value-item.result text c.loop-value-test.true c.value-item.is c.in-Some.ensures))
          ∙ c.loop-value.invariant.read;
      kept = All-push (IsHostEntry (length new)) entries entry (hosts-still old new grows entries c.loop-value.invariant.kept) c.in-Ok.ensures.kept;
      grows = Grows-trans c.args.store.now old new c.loop-value.invariant.grows grows;
    })

pub returns-clause-read : goal.returns-clause-read
returns-clause-read c =
    let f = c.args.functions in
    let done = map (command_in c.loop-value.store) c.loop-value.entries.items in
    sym c.loop-value.invariant.read
    ∙ ap (λ (texts : List (List ℕ)). behind done (each_said (host_command_of f) 0 (c.loop-value.index + 1) texts)) (strings-end c.args.values.now c.loop-value.value-index c.loop-value-test.false)
    ∙ said-end (host_command_of f) 0 (c.loop-value.index + 1) done
