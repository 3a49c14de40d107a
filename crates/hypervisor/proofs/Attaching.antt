-- Which file each function has, as one of them gets another file or none.
use Rattle.std.proofs.Common.{◌≡◌, ◌≢◌, ℕ, ◌-◌, ◌≤◌, true, false, length, Option, Some, None, inl, inr, refl, sym, ap, ◌∙◌, arith}
use Rattle.std.specs.Prelude.{is_none, unwrap_or}
use Rattle.std.specs.Int.{bit_at}
use Rattle.std.specs.Option.{option_map_or}
use Rattle.std.proofs.lemmas.Bool.{cases_eq, false≢true}
use Rattle.std.proofs.lemmas.Option.{none-some}
use Rattle.nesc_base.specs.declared.numbers.FileNo.{FileNo}
use Rattle.nesc_requests.specs.Script.{numbered, with_numbered}
use Rattle.file_layer.specs.Layer.{IsUsed, Layer}
use Rattle.hypervisor.specs.Attachments.{AreAttachments, Attachments, file_of, is_off_in}
use Rattle.hypervisor.specs.Carrying.{KeepsUsed, OnlyIdleGo}
use Rattle.hypervisor.proofs.FunctionFiles.{entry_there}
use Rattle.hypervisor.proofs.Numbering.{length_numbered, numbered_other, numbered_same, numbered_within}

module _ (attachments : Attachments) (f : ℕ) (file : Option FileNo) (one : 1 ≤ f) (among : f ≤ length attachments) where
  pub file_same : (g : ℕ) → g ≡ f → file_of (with_numbered attachments f file) g ≡ file
  file_same g same = ap (file_of (with_numbered attachments f file)) same ∙ ap (λ o. unwrap_or o None) (numbered_same attachments f file one among)

  pub file_other : (g : ℕ) → g ≢ f → file_of (with_numbered attachments f file) g ≡ file_of attachments g
  file_other g apart = ap (λ o. unwrap_or o None) (numbered_other attachments f g file apart)

  -- a function gets a file that none has, or none
  pub attachments_with : AreAttachments attachments → ((other : FileNo) → file ≡ Some other → (g : ℕ) → file_of attachments g ≢ Some other) → AreAttachments (with_numbered attachments f file)
  attachments_with are free = record {
    few = omega (arith, are.few, length_numbered attachments f file);
    apart = λ g h other first second. elim (cases_eq g f) [
      | inl left ↦ elim (cases_eq h f) [
        | inl right ↦ left ∙ sym right
        | inr right ↦ absurd (free other (sym (file_same g left) ∙ first) h (sym (file_other h right) ∙ second))
      ]
      | inr left ↦ elim (cases_eq h f) [
        | inl right ↦ absurd (free other (sym (file_same h right) ∙ second) g (sym (file_other g left) ∙ first))
        | inr right ↦ are.apart g h other (sym (file_other g left) ∙ first) (sym (file_other h right) ∙ second)
      ]
    ];
  }

  -- Files stay used, and none goes from a function that keeps one

  pub used_with : (files : Layer) → ((other : FileNo) → file ≡ Some other → IsUsed files other.0) → KeepsUsed attachments files (with_numbered attachments f file) files
  used_with files given used g other is = elim (cases_eq g f) [
    | inl here ↦ given other (sym (file_same g here) ∙ is)
    | inr apart ↦ used g other (sym (file_other g apart) ∙ is)
  ]

  pub idle_with : (queued : ℕ) → (file ≡ None → bit_at queued (f - 1) ≡ 0) → OnlyIdleGo queued attachments (with_numbered attachments f file)
  idle_with queued idle g other had gone = elim (cases_eq g f) [
    | inl here ↦ ap (λ k. bit_at queued (k - 1)) here ∙ idle (sym (file_same g here) ∙ gone)
    | inr apart ↦ absurd (none-some other (sym gone ∙ file_other g apart ∙ had))
  ]

-- a function that is there and has no file has a number
pub off_among : (attachments : Attachments) (f : ℕ) → is_off_in attachments f ≡ true → (1 ≤ f) × (f ≤ length attachments)
off_among attachments f off = let entry = off_entry (numbered attachments f) off in numbered_within attachments f entry.0 entry.1
  where
    off_entry : (o : Option (Option FileNo)) → option_map_or is_none o false ≡ true → (entry : Option FileNo) × (o ≡ Some entry)
    off_entry None is = absurd (false≢true is)
    off_entry (Some entry) is = (entry, refl)

-- and so has one that has a file
pub file_among : (attachments : Attachments) (f : ℕ) (file : FileNo) → file_of attachments f ≡ Some file → (1 ≤ f) × (f ≤ length attachments)
file_among attachments f file is = numbered_within attachments f (Some file) (entry_there (numbered attachments f) file is)
