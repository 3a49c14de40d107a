-- The texts of some things, written one after another.
use Rattle.std.proofs.Common.{◌≡◌, ℕ, ◌+◌, ◌-◌, ◌<◌, ◌≤◌, ◌==◌, Bool, true, false, cond, List, [], ◌∷◌, ◌++◌, length, take, drop, filter, Option, Some, option_map, Result, Ok, Err, IsErr, codes, refl, sym, ap, ◌∙◌, arith, append-nil, append_assoc}
use Rattle.std.specs.Fmt.{decimal}
use Rattle.std.specs.Int.{bit_at}
use Rattle.std.specs.List.{flat_map, range_with_len, slice_get}
use Rattle.std.proofs.lemmas.List.{take_more, take-append-drop}
use Rattle.std.proofs.lemmas.List.Concat.{flat_map-append}
use Rattle.std.proofs.lemmas.List.Folds.{flat_map-map}
use Rattle.std.proofs.lemmas.List.FromFn.{get_or-range_with_len, length-range_with_len}
use Rattle.std.proofs.lemmas.Option.{get_or_from_slice_get, slice_get-get_or}
use Rattle.nesc_base.specs.BlockText.{block_text}
use Rattle.nesc_base.specs.Sink.{Lent}
use Rattle.nesc_base.specs.declared.block.Block.{Block}
use Rattle.nesc_base.specs.declared.numbers.FnNo.{FnNo}
use Rattle.nesc_base.specs.declared.sink.WriteFault.{WriteFault}
use Rattle.nesc_requests.specs.Machine.{most_functions}
use Rattle.nesc_requests.specs.declared.request.End.{End}
use Rattle.nesc_requests.specs.declared.request.End.TheVariants as end
use Rattle.nesc_requests.specs.declared.request.Request.{Request}
use Rattle.nesc_requests.specs.declared.request.Request.TheVariants.{Read, Write, Flush}
use Rattle.nesc_requests.specs.declared.word.Word.{Word}
use Rattle.plain_machine.specs.Groups.{end_told, functions_in, group_of, line_of, path_told, reply_line_of}
use Rattle.plain_machine.specs.Lines.{block_words, commit_text, drop_text, end_text, group_text, line_text, path_text, reply_text}
use Rattle.plain_machine.specs.declared.outcome.Outcome.{Outcome}
use Rattle.trace_text.specs.Behind.{behind_text, drop_of}
use Rattle.trace_text.specs.Ends.{blocks_told, end_number, end_word}
use Rattle.text_kit.specs.Writes.{Writes}
use Rattle.text_kit.proofs.WritesLemmas.{Writes-then, Writes-cut, Writes-same}

-- the text of one block
abbrev pub block_word : Block → List ℕ
block_word block = codes " " ++ block_text block

module _ {A : Type 0} (text : A → List ℕ) (xs : List A) (k : ℕ) (x : A) (within : k < length xs) (is : slice_get xs k ≡ Some x) where
  -- one more
  texts-more : flat_map text (take k xs) ++ text x ≡ flat_map text (take (k + 1) xs)
  texts-more =
      sym (ap (flat_map text) (take_more xs k x within ∙ ap (λ last. take k xs ++ last ∷ []) (get_or_from_slice_get xs k x x is))
      ∙ flat_map-append text (take k xs) (x ∷ []) ∙ ap (λ more. flat_map text (take k xs) ++ more) (append-nil (text x)))

  -- and then the others
  texts-all : flat_map text (take k xs) ++ text x ++ flat_map text (drop (k + 1) xs) ≡ flat_map text xs
  texts-all =
      ap (λ front. front ++ flat_map text (drop (k + 1) xs)) texts-more
      ∙ sym (flat_map-append text (take (k + 1) xs) (drop (k + 1) xs)) ∙ ap (flat_map text) (take-append-drop (k + 1) xs)

  module _ {K : Type 0} {taken : K → Option (List ℕ)} {faults : K → ℕ} {lent : K → Lent} {old mid new : K} (front : Writes taken faults lent old mid (flat_map text (take k xs)) (Ok tt)) where
    -- the first of them are written, and then one more
    pub Writes-more : Writes taken faults lent mid new (text x) (Ok tt) → Writes taken faults lent old new (flat_map text (take (k + 1) xs)) (Ok tt)
    Writes-more one =
        Writes-same taken faults lent old new _ _ (Ok tt) texts-more (Writes-then taken faults lent old mid new _ (text x) (Ok tt) front one)

    -- the first of them are written, and one more is cut short
    pub Writes-broken : {fault : WriteFault} (answer : Result (Unit {0}) WriteFault) → IsErr answer → Writes taken faults lent mid new (text x) (Err fault) → Writes taken faults lent old new (flat_map text xs) answer
    Writes-broken {fault = fault} answer failed cut =
        let broken = Writes-then taken faults lent old mid new (flat_map text (take k xs)) (text x) (Err fault) front cut in
        Writes-same taken faults lent old new _ _ answer texts-all
        (Writes-cut taken faults lent old new (flat_map text (take k xs) ++ text x) (flat_map text (drop (k + 1) xs)) fault answer failed broken)

-- how a request ended, in its parts
pub end_text-told : (how : End) (done : ℕ) (request : Request) → end_word how ++ decimal (end_number how done) ++ block_words (blocks_told how request) ≡ end_text (end_told how done request)
end_text-told end.Ok done (Read v into) = refl
end_text-told end.Ok done (Write v from) = refl
end_text-told end.Ok done Flush = refl
end_text-told end.Range done request = simp append-nil
end_text-told end.NoSpace done request = simp append-nil
end_text-told end.Media done request = simp append-nil
end_text-told (end.Flushed clock) done request = simp append-nil

-- the line of a reply, piece by piece
pub reply-pieces : (f id word done blocks ending : List ℕ) → word ++ done ++ blocks ≡ ending
    → codes "r " ++ (f ++ (codes " " ++ (id ++ (codes " " ++ (word ++ (done ++ (blocks ++ (codes "\n" ++ [])))))))) ≡ codes "r " ++ f ++ codes " " ++ id ++ codes " " ++ ending ++ codes "\n"
reply-pieces f id word done blocks ending told =
    let space : List ℕ = codes " " in
    let feed : List ℕ = codes "\n" in
    let parts : word ++ (done ++ (blocks ++ feed)) ≡ ending ++ feed = sym (append_assoc (word ++ done) blocks feed ∙ append_assoc word done (blocks ++ feed)) ∙ ap (λ text. text ++ feed) told in
    let rest : List ℕ = ending ++ feed in
    ap (λ text. codes "r " ++ (f ++ (space ++ (id ++ (space ++ text))))) parts
    ∙ ap (λ text. codes "r " ++ text) (sym (
    append_assoc (f ++ space ++ id ++ space) ending feed
    ∙ append_assoc (f ++ space ++ id) space rest
    ∙ append_assoc (f ++ space) id (space ++ rest)
    ∙ append_assoc f space (id ++ (space ++ rest))))

-- the line of a function's registers, piece by piece
pub registers-pieces : (size block count kind pending : List ℕ)
    → codes "h regs " ++ (size ++ (codes " " ++ (block ++ (codes " " ++ (count ++ (codes " " ++ (kind ++ (codes " " ++ (pending ++ (codes "\n" ++ [])))))))))) ≡ codes "h " ++ (codes "regs " ++ size ++ codes " " ++ block ++ codes " " ++ count ++ codes " " ++ kind ++ codes " " ++ pending) ++ codes "\n"
registers-pieces size block count kind pending =
    let space : List ℕ = codes " " in
    ap (λ text. codes "h regs " ++ text) (nine size space block space count space kind space pending (codes "\n"))
  where
    nine : (a b c d e f g h i j : List ℕ) → a ++ (b ++ (c ++ (d ++ (e ++ (f ++ (g ++ (h ++ (i ++ j)))))))) ≡ (a ++ b ++ c ++ d ++ e ++ f ++ g ++ h ++ i) ++ j
    nine a b c d e f g h i j = simp append_assoc

-- the lines of a step: the clock of a commit before it, what happened, and the lines behind
pub group_text-parts : (word : Word) (outcome : Outcome) → commit_text outcome.before ++ line_text (line_of word outcome.answer) ++ behind_text outcome ≡ group_text (group_of word outcome)
group_text-parts word outcome =
    six (commit_text outcome.before) (line_text (line_of word outcome.answer)) (flat_map drop_text (functions_in outcome.drops)) (path_text (path_told outcome.answer outcome.built)) (commit_text outcome.after) (reply_text (option_map reply_line_of outcome.reply))
  where
    six : (a b c d e f : List ℕ) → a ++ b ++ (c ++ d ++ (e ++ f)) ≡ a ++ b ++ c ++ d ++ e ++ f
    six a b c d e f = simp append_assoc

-- the text of one more, if it passes
text-passing : {A : Type 0} (text : A → List ℕ) (x : A) (xs : List A) (others : List ℕ) (passes : Bool) → flat_map text xs ≡ others → flat_map text (cond passes (x ∷ xs) xs) ≡ cond passes (text x) [] ++ others
text-passing text x xs others true rest = ap (λ more. text x ++ more) rest
text-passing text x xs others false rest = rest

-- the texts of those that pass a test, and of the others none
texts-passing : {A : Type 0} (passes : A → Bool) (text : A → List ℕ) (xs : List A) → flat_map text (filter passes xs) ≡ flat_map (λ x. cond (passes x) (text x) []) xs
texts-passing passes text [] = refl
texts-passing passes text (x ∷ xs) = text-passing text x (filter passes xs) _ (passes x) (texts-passing passes text xs)

-- the lines of the trees that were given up are those of each function whose bit is set
pub drops-each : (bits : ℕ) → flat_map drop_text (functions_in bits) ≡ flat_map (drop_of bits) (range_with_len 1 most_functions)
drops-each bits =
    let given : ℕ → Bool = λ f. bit_at bits (f - 1) == 1 in
    let name : ℕ → FnNo = λ f. record { 0 = f } in
    flat_map-map drop_text name (filter given (range_with_len 1 most_functions)) ∙ texts-passing given (λ f. drop_text (name f)) (range_with_len 1 most_functions)

-- the functions up to a number, by their place
pub function-at : (most f : ℕ) → 1 ≤ f → f ≤ most → slice_get (range_with_len 1 most) (f - 1) ≡ Some f
function-at most f some within =
    slice_get-get_or (range_with_len 1 most) (f - 1) 0 (omega (arith, length-range_with_len 1 most))
    ∙ ap Some (omega (arith, get_or-range_with_len 1 most (f - 1) 0 (omega arith)))
