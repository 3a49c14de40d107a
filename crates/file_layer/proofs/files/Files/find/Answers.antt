use Rattle.std.proofs.Common.{◌≡◌, ◌<◌, Some, List, Option, length, slice_get, inl, inr, refl, sym, ap, ◌∙◌, arith}
use Rattle.std.proofs.lemmas.Bool.{cases_lt, false≢true}
use Rattle.std.proofs.lemmas.Option.{none-some, same_Some, slice_get_read}
use Rattle.std.proofs.lemmas.Slice.Eq.{bytes_eq-Decides}
use Rattle.image_layout.specs.declared.table.TableEntry.{TableEntry}
use Rattle.file_layer.proofs.NamedFiles.{found_by_name, none_of_name, used_by_entry}
use Rattle.file_layer.proofs.files.Files.find.Goals as goal
use Rattle.file_layer.proofs.files.Files.find.Goals.{in-Some+else-eq, in_default}

pub returns-then-eq-clause-found : goal.returns-then-eq-clause-found
returns-then-eq-clause-found c set places knows =
    let within : c.loop-e.e < length c.entries-entries.result.now = omega (arith, c.loop-e-test.true, c.entries-entries.ensures.all, ap length c.entries-entries.ensures.entries) in
    let item : slice_get c.entries-entries.result.now c.loop-e.e ≡ Some (Some c.in-Some.entry) =
    slice_get_read c.entries-entries.result.now (length c.entries-entries.result.now) c.loop-e.e c.index-entries-e.result refl within c.index-entries-e.is ∙ ap Some c.in-Some.is in
    let same : c.bytes.result.now ≡ c.bytes-in-Some.result.now = (bytes_eq-Decides c.bytes.result.now c.bytes-in-Some.result.now).0 (sym c.if-eq.ensures) in
    found_by_name c.args.self.now set places knows c.loop-e.e c.in-Some.entry c.args.name.now
    (ap (λ (es : List (Option TableEntry)). slice_get es c.loop-e.e) (sym c.entries-entries.ensures.entries) ∙ item)
    (sym c.bytes.ensures.bytes ∙ same ∙ c.bytes-in-Some.ensures.bytes)

pub returns-then-eq-clause-used : goal.returns-then-eq-clause-used
returns-then-eq-clause-used c =
    let within : c.loop-e.e < length c.entries-entries.result.now = omega (arith, c.loop-e-test.true, c.entries-entries.ensures.all, ap length c.entries-entries.ensures.entries) in
    let item : slice_get c.entries-entries.result.now c.loop-e.e ≡ Some (Some c.in-Some.entry) =
    slice_get_read c.entries-entries.result.now (length c.entries-entries.result.now) c.loop-e.e c.index-entries-e.result refl within c.index-entries-e.is ∙ ap Some c.in-Some.is in
    used_by_entry c.args.self.now c.loop-e.e c.in-Some.entry (ap (λ (es : List (Option TableEntry)). slice_get es c.loop-e.e) (sym c.entries-entries.ensures.entries) ∙ item)

pub loop-e-preserved : goal.loop-e-preserved
loop-e-preserved c k entry below is same =
    elim (cases_lt k c.loop-e.e) [
      | inl lower ↦ c.loop-e.invariant k entry lower is same
      | inr higher ↦
          let here : k ≡ c.loop-e.e = omega arith in
          let within : c.loop-e.e < length c.entries-entries.result.now = omega (arith, c.loop-e-test.true, c.entries-entries.ensures.all, ap length c.entries-entries.ensures.entries) in
          let item : slice_get c.entries-entries.result.now c.loop-e.e ≡ Some c.index-entries-e.result =
          slice_get_read c.entries-entries.result.now (length c.entries-entries.result.now) c.loop-e.e c.index-entries-e.result refl within c.index-entries-e.is in
          let this : c.index-entries-e.result ≡ Some entry = same_Some c.index-entries-e.result (Some entry) (sym item ∙ ap (slice_get c.entries-entries.result.now) (sym here) ∙ is) in
          elim c.match-entries-e.branch [
            | in-Some+else-eq w ↦
                let entry_is : w.in-Some.entry ≡ entry = same_Some w.in-Some.entry entry (sym w.in-Some.is ∙ this) in
                let named : w.bytes.result.now ≡ w.bytes-in-Some.result.now =
                w.bytes.ensures.bytes ∙ ap (λ (x : TableEntry). x.name) entry_is ∙ same ∙ sym w.bytes-in-Some.ensures.bytes in
                false≢true (w.if-eq.ensures ∙ (bytes_eq-Decides w.bytes.result.now w.bytes-in-Some.result.now).1 named)
            | in_default w ↦ none-some entry (sym w.in_default.is ∙ this)
          ]
    ]

pub returns-clause-found : goal.returns-clause-found
returns-clause-found c set places knows =
    none_of_name c.args.self.now set places knows c.args.name.now c.entries-entries.ensures.all
    (λ e entry below at.
    c.loop-e.invariant e entry (omega (arith, below, c.loop-e-test.false))
    (ap (λ (es : List (Option TableEntry)). slice_get es e) c.entries-entries.ensures.entries ∙ at))
