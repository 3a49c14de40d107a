-- The pieces of a line of a text that is refused.
use Rattle.std.proofs.Common.{◌≡◌, ◌<◌, ℕ, ℤ, zero, suc, true, false, if◌then◌else◌, List, [], ◌++◌, codes, unsigned_abs, sym, ap, ◌∙◌, append_assoc, arith}
use Rattle.std.specs.Fmt.{decimal}
use Rattle.std.specs.Int.{is_negative}
use Rattle.nesc_monitor.specs.Inputs.{actor_text, whole_text}

-- pieces one behind the other, with the cause taken together
pub with_cause : (begin text gap one two three four end : List ℕ) → begin ++ (text ++ (gap ++ (one ++ (two ++ (three ++ (four ++ end))))))
    ≡ begin ++ text ++ gap ++ (one ++ two ++ three ++ four) ++ end
with_cause begin text gap one two three four end = simp append_assoc

-- a cause with a place of two numbers
pub place_line : (text kind one other : List ℕ) → codes "nesc: input " ++ (text ++ (codes " " ++ (kind ++ (one ++ (codes " " ++ (other ++ codes "\n"))))))
    ≡ codes "nesc: input " ++ text ++ codes " " ++ (kind ++ one ++ codes " " ++ other) ++ codes "\n"
place_line text kind one other = with_cause (codes "nesc: input ") text (codes " ") kind one (codes " ") other (codes "\n")

-- a string of the host, and of a guest
pub host_line : (actor n index : ℕ) (text : List ℕ) → actor ≡ 0 → n ≡ index → codes "nesc: input " ++ (text ++ (codes " h " ++ (decimal n ++ codes "\n")))
    ≡ codes "nesc: input " ++ text ++ codes " " ++ (actor_text actor ++ codes " " ++ decimal index) ++ codes "\n"
host_line zero n index text host same = rw (← same) (with_cause (codes "nesc: input ") text (codes " ") [] (codes "h") (codes " ") (decimal n) (codes "\n"))
host_line (suc m) n index text host same = absurd (omega (arith, host))

pub guest_line : (f actor n index : ℕ) (text : List ℕ) → 0 < actor → f ≡ actor → n ≡ index → codes "nesc: input " ++ (text ++ (codes " g" ++ (decimal f ++ (codes " " ++ (decimal n ++ codes "\n")))))
    ≡ codes "nesc: input " ++ text ++ codes " " ++ (actor_text actor ++ codes " " ++ decimal index) ++ codes "\n"
guest_line f zero n index text guest one other = absurd (omega (arith, guest))
guest_line f (suc m) n index text guest one other = rw (← other, one) (with_cause (codes "nesc: input ") text (codes " ") (codes "g") (decimal (suc m)) (codes " ") (decimal n) (codes "\n"))

-- a number over a limit, with its sign
pub limit_line : (text name limit sign digits whole : List ℕ) → name ≡ limit → sign ++ digits ≡ whole
    → codes "nesc: input " ++ (text ++ (codes " limit " ++ (name ++ (codes " " ++ (sign ++ (digits ++ codes "\n"))))))
    ≡ codes "nesc: input " ++ text ++ codes " " ++ (codes "limit " ++ limit ++ codes " " ++ whole) ++ codes "\n"
limit_line text name limit sign digits whole one other =
    ap (λ more. codes "nesc: input " ++ (text ++ (codes " limit " ++ (name ++ (codes " " ++ more))))) (sym (append_assoc sign digits (codes "\n")) ∙ ap (λ whole. whole ++ codes "\n") other)
    ∙ ap (λ name. codes "nesc: input " ++ (text ++ (codes " limit " ++ (name ++ (codes " " ++ (whole ++ codes "\n")))))) one
    ∙ with_cause (codes "nesc: input ") text (codes " ") (codes "limit ") limit (codes " ") whole (codes "\n")

-- the sign of a whole number that was read as it is, and its digits

module _ (count read : ℤ) (sign : List ℕ) (n : ℕ) (same : read ≡ count) (abs : n ≡ unsigned_abs count) where
  pub negative_text : is_negative read ≡ true → sign ≡ codes "-" → sign ++ decimal n ≡ whole_text count
  negative_text negative dash = rw (dash, abs) (ap (λ minus. (if minus then codes "-" else []) ++ decimal (unsigned_abs count)) (sym negative ∙ ap is_negative same))

  pub positive_text : is_negative read ≡ false → sign ≡ [] → sign ++ decimal n ≡ whole_text count
  positive_text positive none = rw (none, abs) (ap (λ minus. (if minus then codes "-" else []) ++ decimal (unsigned_abs count)) (sym positive ∙ ap is_negative same))
