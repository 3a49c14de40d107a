-- A name's bytes, padded by zeros, give its fields back.
use Rattle.std.proofs.Common.{◌≡◌, ◌≤◌, ◌-◌, ℕ, List, ◌++◌, drop, length, replicate, take, sym, ap, ◌∙◌}
use Rattle.std.proofs.lemmas.List.{length-take-le, take-append-drop}
use Rattle.nesc_base.specs.Name.{longest_name}

pub counted_back : (bytes : List ℕ) (len : ℕ) → len ≤ length bytes → length (take len bytes) ≡ len
counted_back bytes len stands = length-take-le len bytes stands

pub padded_back : (bytes : List ℕ) (len : ℕ) → len ≤ length bytes → drop len bytes ≡ replicate (longest_name - len) 0
    → take len bytes ++ replicate (longest_name - length (take len bytes)) 0 ≡ bytes
padded_back bytes len stands zeros =
    ap (λ n. take len bytes ++ replicate (longest_name - n) 0) (counted_back bytes len stands)
    ∙ ap (λ (l : List ℕ). take len bytes ++ l) (sym zeros) ∙ take-append-drop len bytes
