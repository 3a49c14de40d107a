-- The words so far, and what is told of them.
use Rattle.std.proofs.Common.{◌≡◌, ℕ, ◌+◌, ◌≤◌, ◌||◌, List, [], ◌∷◌, ◌++◌, cond, length, Option, Err, inl, inr, refl, sym, ap, ◌∙◌, append-nil, append_assoc, subst, arith}
use Rattle.std.specs.List.{AllByRecursion}
use Rattle.std.proofs.lemmas.Grind.{flat_map-append}
use Rattle.std.proofs.lemmas.List.{length-map}
use Rattle.std.proofs.lemmas.List.Sums.{sum_by-append}
use Rattle.nesc_base.specs.declared.block.Block.{Block}
use Rattle.nesc_base.specs.declared.sink.WriteFault.{WriteFault}
use Rattle.nesc_base.specs.Disk.{Known}
use Rattle.nesc_base.specs.Fault.{RoseBy}
use Rattle.nesc_base.specs.Places.{Places}
use Rattle.nesc_base.specs.Sink.{Appends, Grows}
use Rattle.nesc_base.proofs.DiskCalls.{settled_left}
use Rattle.nesc_base.proofs.Causes.{rose_on}
use Rattle.nesc_requests.specs.Script.{Script}
use Rattle.nesc_requests.specs.declared.word.Word.{Word}
use Rattle.plain_machine.specs.Draws.{WordTaken}
use Rattle.plain_machine.specs.Groups.{Group, told}
use Rattle.plain_machine.specs.Lines.{done_text, group_text, groups_text}
use Rattle.plain_machine.specs.Placing.{Placed}
use Rattle.plain_machine.specs.State.{State}
use Rattle.plain_machine.specs.Traces.{IsTrace}
use Rattle.plain_machine.specs.declared.setting.Setting.{Setting}
use Rattle.machine_laws.proofs.Tracing.{trace-append, trace-none}
use Rattle.text_kit.specs.Known.{AppendsPrefix, Keeps, followed_by}
use Rattle.text_kit.proofs.KnownLemmas.{Appends-append, AppendsPrefix-left, AppendsPrefix-right}
use Rattle.nesc_session.specs.Resting.{IsIn, Rests}
use Rattle.nesc_session.specs.Stepping.{OpensAs}
use Rattle.nesc_session.specs.declared.fault.StepFault.TheVariants as step
use Rattle.nesc_session.specs.declared.session.Session.{Session}
use Rattle.nesc_session.proofs.Leaving.{one_division, opens_as}
use Rattle.nesc_monitor.specs.Steps.{AreQuietBehind, ComesOfWord, FailsWord, HandsOn, IsInTime, IsQuiet, KeepsAs, Out, IsLast, LeavesWord, RanCutShort, RanToEnd, RanToFault, RunsBy, TellsWordBy, is_failed_line, is_failed_reply, media_in}
use Rattle.nesc_monitor.specs.declared.fault.RunFault.{RunFault}
use Rattle.nesc_monitor.specs.declared.fault.RunFault.TheVariants as run
use Rattle.nesc_monitor.proofs.TellLemmas.{appends_hands, appends_keeps, appends_nothing, appends_prefix, grows_itself, handed_on, hands_grows, hands_nothing, hands_on, prefix_handed}

-- Lines

texts_append : (groups others : List Group) → groups_text (groups ++ others) ≡ groups_text groups ++ groups_text others
texts_append groups others = flat_map-append group_text groups others

media_append : (groups others : List Group) → media_in (groups ++ others) ≡ media_in groups + media_in others
media_append groups others = sum_by-append (λ (group : Group). cond (is_failed_line group.line || is_failed_reply group.reply) 1 0) groups others

as_many : {setting : Setting} {places : Places} {old : State} {script : Script} {words : List Word} {groups : List Group} {new : State} {rest : Script} → IsTrace setting places old script words groups new rest → length groups ≡ length words
as_many trace =
    ap length trace.groups_told ∙ length-map trace.taken told ∙ sym (length-map trace.taken (λ (taken : WordTaken). taken.word)) ∙ ap length trace.words_taken

all_quiet-more : (groups : List Group) (group : Group) → AllByRecursion IsQuiet groups → IsQuiet group → AllByRecursion IsQuiet (groups ++ group ∷ [])
all_quiet-more [] group all quiet = (quiet, tt)
all_quiet-more (first ∷ groups) group all quiet = (all.0, all_quiet-more groups group all.1 quiet)

quiet-more : (groups : List Group) (group : Group) → AreQuietBehind groups → IsQuiet group → AreQuietBehind (groups ++ group ∷ [])
quiet-more [] group all quiet = tt
quiet-more (first ∷ groups) group all quiet = all_quiet-more groups group all quiet

rose_later : (n a b c : ℕ) → b ≤ c → RoseBy n a b → RoseBy n a c
rose_later n a b c later (inl rose) = inl (omega arith)
rose_later n a b c later (inr ended) = inr (omega arith)

-- Of these groups the early ones are handed on, and behind them at most one word has changed what the disk keeps.
record Parts (groups : List Group) (old new : Option (List ℕ)) : Type 0 where
  early : List Group
  more : List Group
  whole : early ++ more ≡ groups
  quiet : AreQuietBehind more
  handed : HandsOn old new (groups_text early)

-- what was told before is handed on before a word that may change it
parts-more : (out mid new : Out) (early more : List Group) (group : Group) → out.shown ≡ out.handed → AreQuietBehind more → HandsOn out.handed mid.handed (groups_text early) → Appends out.shown mid.shown (groups_text (early ++ more))
    → Grows mid.handed new.handed → IsInTime mid group new → Parts ((early ++ more) ++ group ∷ []) out.handed new.handed
parts-more out mid new early more group empty quiet handed all grew (inl still) = record {
  early = early;
  more = more ++ group ∷ [];
  whole = sym (append_assoc early more (group ∷ []));
  quiet = quiet-more more group quiet still;
  handed = hands_on out.handed mid.handed new.handed (groups_text early) handed grew;
}
parts-more out mid new early more group empty quiet handed all grew (inr on) = record {
  early = early ++ more;
  more = group ∷ [];
  whole = refl;
  quiet = tt;
  handed = subst (λ (known : Option (List ℕ)). HandsOn known new.handed (groups_text (early ++ more))) empty (appends_hands out.shown mid.shown new.handed (groups_text (early ++ more)) all on);
}

-- the disk keeps the files that were kept
keeps_files : (session : Session) (disk : Known) (kept : List Block) (state : State) (placed : Placed) → Rests session disk → IsIn session disk kept state placed → KeepsAs session.setting.geometry state.kept disk
keeps_files session disk kept state placed rests is =
    let reads = opens_as session.journal.geometry session.setting.geometry disk.contents kept state.kept placed.kept (one_division session disk rests) is.has_kept.gates is.stands.kept_files is.has_kept.stands in
    record { reads = reads; stops = λ image could. subst (OpensAs session.setting.geometry state.kept) (sym (settled_left disk image could is.has_kept.settled)) reads }

-- Some of the words were taken, and their lines are told in this way, those of the early ones handed on: the session is in the state
-- to which they led.
pub record TellsFirst (takes : Option (List ℕ) → Option (List ℕ) → List ℕ → Type 0) (setting : Setting) (places : Places) (old : State) (script : Script) (words : List Word)
    (session : Session) (before disk : Known) (rest : Script) (left : List Word) (out told : Out) : Type 0 where
  pub done : List Word
  pub early : List Group
  pub more : List Group
  pub now : State
  pub moved : Placed
  pub kept : List Block
  pub whole : done ++ left ≡ words
  pub trace : IsTrace setting places old script done (early ++ more) now rest
  pub is_in : IsIn session disk kept now moved
  pub media : RoseBy (media_in (early ++ more)) before.faults disk.faults
  pub quiet : AreQuietBehind more
  pub handed : HandsOn out.handed told.handed (groups_text early)
  pub all : takes out.shown told.shown (groups_text (early ++ more))

module _ (setting : Setting) (places : Places) (old : State) (script : Script) (words : List Word) (before : Known) (out : Out) where
  -- before the first word
  pub first_none : (session : Session) (placed : Placed) (kept : List Block) → IsIn session before kept old placed → TellsFirst Appends setting places old script words session before before script words out out
  first_none session placed kept is = record {
    done = [];
    early = [];
    more = [];
    now = old;
    moved = placed;
    kept = kept;
    whole = refl;
    trace = trace-none setting places old script;
    is_in = is;
    media = inl (omega arith);
    quiet = tt;
    handed = hands_nothing out.handed;
    all = appends_nothing out.shown;
  }

  module _ (session : Session) (disk : Known) (rest : Script) (left : List Word) (mid : Out) (first : TellsFirst Appends setting places old script words session before disk rest left out mid)
      (empty : out.shown ≡ out.handed) where
    -- one word more
    module _ (takes : Option (List ℕ) → Option (List ℕ) → List ℕ → Type 0)
        (join : (old mid new : Option (List ℕ)) (text more : List ℕ) → Appends old mid text → takes mid new more → takes old new (text ++ more)) where
      pub first_more : (word : Word) (more : List Word) (next : Session) (later : Known) (behind : Script) (new : Out) → left ≡ word ∷ more → disk.faults ≤ later.faults → Grows mid.handed new.handed
          → TellsWordBy takes setting first.now rest word next disk later behind mid new → TellsFirst takes setting places old script words next before later behind more out new
      first_more word more next later behind new is never_falls grew step =
          let groups : List Group = first.early ++ first.more in
          let parts = parts-more out mid new first.early first.more step.group empty first.quiet first.handed first.all grew step.in_time in
          let whole = sym parts.whole in
          let trace = trace-append setting places old script first.done (word ∷ []) groups (step.group ∷ []) first.now step.next rest behind first.trace (step.trace places) in
          let media = rose_on (media_in groups) (media_in (step.group ∷ [])) before.faults disk.faults later.faults never_falls first.media step.media in
          let all = join out.shown mid.shown new.shown (groups_text groups) (groups_text (step.group ∷ [])) first.all step.tells in
          record {
            done = first.done ++ word ∷ [];
            early = parts.early;
            more = parts.more;
            now = step.next;
            moved = step.moved;
            kept = step.kept;
            whole = append_assoc first.done (word ∷ []) more ∙ ap (λ words. first.done ++ words) (sym is) ∙ first.whole;
            trace = let P : List Group → Type 0 = λ groups. IsTrace setting places old script (first.done ++ word ∷ []) groups step.next behind in subst P whole trace;
            is_in = step.is_in;
            media = let P : List Group → Type 0 = λ groups. RoseBy (media_in groups) before.faults later.faults in
                subst P whole (subst (λ (n : ℕ). RoseBy n before.faults later.faults) (sym (media_append groups (step.group ∷ []))) media);
            quiet = parts.quiet;
            handed = parts.handed;
            all = let P : List Group → Type 0 = λ groups. takes out.shown new.shown (groups_text groups) in
                subst P whole (subst (takes out.shown new.shown) (sym (texts_append groups (step.group ∷ []))) all);
          }

    -- the next one was not taken
    pub first_left : (next : Session) (later : Known) (new : Out) → disk.faults ≤ later.faults → Grows mid.handed new.handed → LeavesWord first.now first.moved first.kept next later mid new
        → TellsFirst Appends setting places old script words next before later rest left out new
    first_left next later new never_falls grew leaves = record {
      done = first.done;
      early = first.early;
      more = first.more;
      now = first.now;
      moved = first.moved;
      kept = first.kept;
      whole = first.whole;
      trace = first.trace;
      is_in = leaves.is_in;
      media = rose_later (media_in (first.early ++ first.more)) before.faults disk.faults later.faults never_falls first.media;
      quiet = first.quiet;
      handed = hands_on out.handed mid.handed new.handed (groups_text first.early) first.handed grew;
      all = appends_keeps out.shown mid.shown new.shown (groups_text (first.early ++ first.more)) first.all leaves.same;
    }

    -- the disk failed in its step
    pub runs_to_fault : (word : Word) (more : List Word) (later : Known) (new : Out) → left ≡ word ∷ more → disk.faults ≤ later.faults → FailsWord setting first.now rest word disk later mid new
        → RanToFault setting places old script words before later out.handed new.handed
    runs_to_fault word more later new is never_falls fails =
        let groups : List Group = first.early ++ first.more in
        record {
          done = first.done;
          word = word;
          left = more;
          groups = groups;
          end = first.now;
          rest = rest;
          event = fails.event;
          whole = ap (λ words. first.done ++ words) (sym is) ∙ first.whole;
          trace = first.trace;
          draws = fails.draws;
          asks = fails.asks;
          tells = subst (λ (known : Option (List ℕ)). Appends known new.handed (groups_text groups)) empty (appends_keeps out.shown mid.shown new.handed (groups_text groups) first.all fails.handed);
          stops = fails.stops;
          media = rose_on (media_in groups) 1 before.faults disk.faults later.faults never_falls first.media fails.rose;
        }

    -- no word is left, and the last line is told and handed on
    pub runs_to_end : (told new : Option (List ℕ)) (pending : List ℕ) → Rests session disk → session.setting ≡ setting → left ≡ [] → Appends mid.shown told (done_text (length words))
        → Keeps told (followed_by new pending) → pending ≡ [] → RanToEnd setting places old script words before disk out.handed new
    runs_to_end told new pending rests same none done kept flushed =
        let groups : List Group = first.early ++ first.more in
        let all : first.done ≡ words = sym (append-nil first.done) ∙ ap (λ words. first.done ++ words) (sym none) ∙ first.whole in
        let count : length words ≡ length groups = ap length (sym all) ∙ sym (as_many first.trace) in
        let told_all = Appends-append out.shown mid.shown told (groups_text groups) (done_text (length words)) first.all done in
        let on : Appends out.shown new (groups_text groups ++ done_text (length words)) =
        appends_keeps out.shown told new (groups_text groups ++ done_text (length words)) told_all (handed_on told new pending flushed kept) in
        record {
          groups = groups;
          end = first.now;
          rest = rest;
          trace = let P : List Word → Type 0 = λ words. IsTrace setting places old script words groups first.now rest in subst P all first.trace;
          tells = let P : Option (List ℕ) → ℕ → Type 0 = λ known n. Appends known new (groups_text groups ++ done_text n) in subst (P out.handed) count (subst (λ (known : Option (List ℕ)). P known (length words)) empty on);
          keeps = subst (λ (setting : Setting). KeepsAs setting.geometry first.now.kept disk) same (keeps_files session disk first.kept first.now first.moved rests first.is_in);
          media = first.media;
        }

  -- the sink failed, and took only the front of what was gathered
  pub runs_short : (takes : Option (List ℕ) → Option (List ℕ) → List ℕ → Type 0) (session : Session) (disk : Known) (rest : Script) (left : List Word) (mid : Out)
      → (first : TellsFirst takes setting places old script words session before disk rest left out mid) → out.shown ≡ out.handed → Rests session disk → session.setting ≡ setting
      → (last : List ℕ) (new : Option (List ℕ)) (pending : List ℕ) → IsLast words left last → Grows mid.handed new
      → AppendsPrefix out.shown (followed_by new pending) (groups_text (first.early ++ first.more) ++ last) → RanCutShort setting places old script words before disk out.handed new
  runs_short takes session disk rest left mid first empty rests same last new pending is_last grew tells =
      let early = hands_on out.handed mid.handed new (groups_text first.early) first.handed grew in
      let text : List ℕ = groups_text (first.early ++ first.more) ++ last in
      record {
        done = first.done;
        left = left;
        early = first.early;
        more = first.more;
        end = first.now;
        rest = rest;
        last = last;
        whole = first.whole;
        trace = first.trace;
        quiet = first.quiet;
        is_last = is_last;
        tells = prefix_handed out.handed new pending text (subst (λ (known : Option (List ℕ)). AppendsPrefix known (followed_by new pending) text) empty tells) (hands_grows out.handed new (groups_text first.early) early);
        tells_early = early;
        keeps = subst (λ (setting : Setting). KeepsAs setting.geometry first.now.kept disk) same (keeps_files session disk first.kept first.now first.moved rests first.is_in);
        media = first.media;
      }

  -- a word was not taken, or its lines were cut short
  module _ (session : Session) (disk : Known) (rest : Script) (left : List Word) (mid : Out) (first : TellsFirst Appends setting places old script words session before disk rest left out mid)
      (empty : out.shown ≡ out.handed) (word : Word) (more : List Word) (is : left ≡ word ∷ more) (next : Session) (later : Known) (behind : Script) (new : Out) (pending : List ℕ)
      (showing : new.shown ≡ followed_by new.handed pending) (same : next.setting ≡ setting) (never_falls : disk.faults ≤ later.faults) (grew : Grows mid.handed new.handed) where
    cut_before : Rests next later → LeavesWord first.now first.moved first.kept next later mid new → RanCutShort setting places old script words before later out.handed new.handed
    cut_before rests leaves =
        let so_far = first_left session disk rest left mid first empty next later new never_falls grew leaves in
        let text : List ℕ = groups_text (so_far.early ++ so_far.more) in
        runs_short Appends next later rest left new so_far empty rests same [] new.handed pending (inl refl) (grows_itself new.handed)
        (subst (λ (known : Option (List ℕ)). AppendsPrefix out.shown known (text ++ [])) showing (AppendsPrefix-left out.shown new.shown text [] (appends_prefix out.shown new.shown text so_far.all)))

    cut_within : Rests next later → TellsWordBy AppendsPrefix setting first.now rest word next disk later behind mid new → RanCutShort setting places old script words before later out.handed new.handed
    cut_within rests step =
        let so_far = first_more session disk rest left mid first empty AppendsPrefix AppendsPrefix-right word more next later behind new is never_falls grew step in
        let text : List ℕ = groups_text (so_far.early ++ so_far.more) in
        runs_short AppendsPrefix next later behind more new so_far empty rests same [] new.handed pending (inl refl) (grows_itself new.handed)
        (subst (λ (known : Option (List ℕ)). AppendsPrefix out.shown known (text ++ [])) showing (AppendsPrefix-left out.shown new.shown text [] so_far.all))

    pub runs_by_fault : (fault : RunFault) → ((write : WriteFault) → fault ≡ run.Write write → Rests next later)
        → ComesOfWord setting first.now first.moved first.kept rest word next disk later behind mid new (Err fault) → RunsBy (Err fault) setting places old script words before later out.handed new.handed
    runs_by_fault (run.Write write) rests (inl leaves) = cut_before (rests write refl) leaves
    runs_by_fault (run.Write write) rests (inr step) = cut_within (rests write refl) step
    runs_by_fault (run.Step (step.Disk fault)) rests fails = runs_to_fault session disk rest left mid first empty word more later new is never_falls fails
    runs_by_fault (run.Step (step.Image fault)) rests none = absurd none
