-- The spelling of an entry, read back.
use Rattle.std.proofs.Common.{◌≡◌, ℕ, List, Option, Some, None, get_or, sym, ap, ◌∙◌}
use Rattle.std.proofs.lemmas.Option.{same_Some}
use Rattle.nesc_base.specs.Name.{name_of}
use Rattle.image_layout.specs.declared.table.TableEntry.{TableEntry}
use Rattle.image_layout.proofs.TableLemmas.{length_at, name_at}
use Rattle.image_layout.proofs.table.candidate.Goals as goal

pub returns-clause-only : goal.returns-clause-only
returns-clause-only c None fits is = absurd (c.if-bytes-eq0.false (ap (λ b. get_or b 0 0) is))
returns-clause-only c (Some entry) fits is =
    let name : c.in_ok-name.name.now ≡ entry.name = c.in_ok-name.ensures.lookup.0.2 ∙ name_at c.args.bytes.now entry c.from.result is c.from.ensures in
    let read : Some entry.name ≡ Some c.in_ok-read.field-0 = (rw fits.0 at (sym (ap name_of name))) ∙ sym c.read.ensures ∙ c.in_ok-read.was in
    let number : c.read_u32.result ≡ entry.length = c.read_u32.ensures ∙ length_at c.args.bytes.now entry is fits.1 in
    let entry_with : List ℕ → ℕ → Option TableEntry = λ n l. Some (record { name = n; length = l }) in
    ap (λ n. entry_with n c.read_u32.result) (sym (same_Some entry.name c.in_ok-read.field-0 read)) ∙ ap (entry_with entry.name) number
