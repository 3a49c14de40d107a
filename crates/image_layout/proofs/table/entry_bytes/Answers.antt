-- What stands behind the name is what is left of the zeros.
use Rattle.std.proofs.Common.{◌≡◌, ℕ, ◌+◌, ◌-◌, drop, length, replicate, refl, ap, ◌∙◌, arith}
use Rattle.std.proofs.lemmas.List.{drop-replicate}
use Rattle.image_layout.proofs.table.entry_bytes.Goals as goal

left : (size : ℕ) → drop {A = ℕ} (8 + size - 8) (replicate 24 0) ≡ replicate (24 - size) 0
left size = drop-replicate (8 + size - 8) 24 0 ∙ ap (λ n. replicate (24 - n) 0) (omega arith)

pub returns-in-Some : goal.returns-in-Some
returns-in-Some c =
    rw (c.write_u32.ensures, c.copy_from_slice.ensures.after, c.bytes-name.ensures.bytes, c.in-Some.is, left (length c.in-Some.entry.name)) refl
