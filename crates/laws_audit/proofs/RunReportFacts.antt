-- The report of a run fits.
use Rattle.std.proofs.Common.{◌≡◌, ℕ, ◌+◌, Bool, true, false, nat_le, nat_lt, if◌then◌else◌, List, [], ◌∷◌, ◌++◌, length, Option, Some}
use Rattle.std.proofs.Common.{None, Result, Ok, Err, refl, sym, ◌∙◌, ap, append-nil}
use Rattle.std.specs.List.{flat_map}
use Rattle.std.proofs.Math.Seq.{drop-length}
use Rattle.std.proofs.lemmas.Grind.{flat_map-append}
use Rattle.pam_base.specs.declared.code.Code.{Code}
use Rattle.pam_base.specs.declared.call.Func.{Func}
use Rattle.pam_base.specs.declared.call.Func.TheVariants as funcs
use Rattle.pam_base.specs.declared.call.AppCall.{AppCall}
use Rattle.pam_base.specs.declared.call.AppCall.TheVariants as calls
use Rattle.pam_base.specs.declared.call.Step.{Step as Asked}
use Rattle.pam_base.specs.declared.fault.ScriptKind.{ScriptKind}
use Rattle.item_store.specs.Access.{is_refused as is_refused_item}
use Rattle.item_store.specs.declared.access.Access.TheVariants.{ApplicationSets, ApplicationGets}
use Rattle.env_list.specs.Environment.{is_refused as is_refused_text}
use Rattle.service_load.specs.declared.load_fault.LoadFault.{LoadFault}
use Rattle.script_lang.specs.declared.line.Line.{Line}
use Rattle.script_lang.specs.declared.line.Line.TheVariants as lines
use Rattle.script_lang.specs.Line.{parsed}
use Rattle.record_reader.specs.Run.{after, run_items}
use Rattle.record_reader.specs.LineRun.{Run, step_at, run_lines}
use Rattle.conv_port.specs.Conv.{ConvState}
use Rattle.dispatch_core.specs.Lines.{names_of}
use Rattle.pam_room.specs.Module.{Player}
use Rattle.pam_room.specs.State.{PlainWorld}
use Rattle.service_load.specs.Stacks.{Stacks}
use Rattle.pam_handle.specs.Handle.{PlainHandle}
use Rattle.pam_library.specs.declared.outcome.Answer.TheVariants as answers
use Rattle.pam_library.specs.Outcome.{PlainOutcome, answers_only}
use Rattle.pam_library.specs.Slots.{PlainSlot, closed, opened, slot_at}
use Rattle.pam_library.specs.SlotStep.{SlotStepped, filed_in, other_pending, unless_pending, is_refused_for_flags, stack_step, open_step}
use Rattle.pam_library.specs.SlotStep.{closed_step, slot_step, opened_by}
use Rattle.pam_library.specs.Step.{Stepped, stepped_at, stepped}
use Rattle.report_step.specs.Cleaned.{filed_text}
use Rattle.report_step.specs.Step.{step_text}
use Rattle.cmd_run.specs.State.{RunState, Setting, kept_at}
use Rattle.cmd_run.specs.Step.{applied_or_refused, line_step}
use Rattle.report_lines.specs.Line.{Block, Shown, block_text, blocks_text}
use Rattle.session_audit.specs.Fits.{SlotLog, fold_on, fold, after_block}
use Rattle.session_audit.specs.Sound.{AreSound}
use Rattle.session_audit.proofs.Sound.{folds_sound}
use Rattle.laws_audit.specs.Report.{shown_of, all_told, command_of, blocks_by, reported}
use Rattle.laws_audit.specs.Ranges.{ByRemainders}
use Rattle.laws_audit.specs.Step.{places_of, HaveStacks}
use Rattle.laws_audit.specs.Run.{blocks_asked, line_blocks, blocks_on, run_blocks, OnState, HaveAlong}
use Rattle.laws_audit.proofs.PrintedBlockFacts.{reports_print}
use Rattle.laws_audit.proofs.LibraryStepFacts.{steps_fit}

-- ---- a step without a result has no text

module _ (players : List Player) (number_of : Code → ℕ → ℕ) where
  -- whether a result is empty, and then what the step is
  abbrev Silent : Asked → SlotStepped → Type 0
  Silent step s = shown_of s.outcome.answer ≡ None → step_text (names_of players) step s.outcome s.world.process.ledger ≡ []

  silent_if : (b : Bool) (step : Asked) (s t : SlotStepped) → Silent step s → Silent step t → Silent step (if b then s else t)
  silent_if true step s t one two = one
  silent_if false step s t one two = two

  shown_isnt : {A : Type 0} (x : A) {P : Type 0} → Some x ≡ None → P
  shown_isnt x is = absurd (cc)

  nothing_text : (step : Asked) (w : PlainWorld) → step_text (names_of players) step (answers_only (filed_in w) answers.Nothing) w.process.ledger ≡ []
  nothing_text step w = ap (λ (xs : List _). flat_map (filed_text step.number (names_of players) w.process.ledger.births) xs ++ [])
      (drop-length w.process.ledger.filed)

  unless_silent : (found : Option Func) (step : Asked) (slot : PlainSlot) (w : PlainWorld) (s : SlotStepped) → Silent step s
      → Silent step (unless_pending found slot w s)
  unless_silent None step slot w s silent = silent
  unless_silent (Some func) step slot w s silent = λ e. absurd (cc)

  stack_silent : (func : Func) (flags : ℕ) (step : Asked) (h : PlainHandle) (w : PlainWorld) → Silent step (stack_step players number_of func flags h w)
  stack_silent func flags step h w = silent_if (is_refused_for_flags func flags) step _ _ (λ e. absurd (cc))
      (unless_silent (other_pending h.pending func) step (opened h) w _ (λ e. absurd (cc)))

  open_silent : (call : AppCall) (step : Asked) (h : PlainHandle) (w : PlainWorld) → Silent step (open_step players number_of h w call)
  open_silent (calls.Start service user) step h w = λ e. absurd (cc)
  open_silent (calls.End status) step h w = λ e. absurd (cc)
  open_silent (calls.Authenticate flags) step h w = stack_silent funcs.Authenticate flags step h w
  open_silent (calls.SetCred flags) step h w = stack_silent funcs.SetCred flags step h w
  open_silent (calls.AcctMgmt flags) step h w = stack_silent funcs.AcctMgmt flags step h w
  open_silent (calls.OpenSession flags) step h w = stack_silent funcs.OpenSession flags step h w
  open_silent (calls.CloseSession flags) step h w = stack_silent funcs.CloseSession flags step h w
  open_silent (calls.ChAuthTok flags) step h w = stack_silent funcs.ChAuthTok flags step h w
  open_silent (calls.SetItem item value) step h w = silent_if (is_refused_item ApplicationSets item) step _ _ (λ e. absurd (cc)) (λ e. absurd (cc))
  open_silent (calls.GetItem item) step h w = silent_if (is_refused_item ApplicationGets item) step _ _ (λ e. absurd (cc)) (λ e. absurd (cc))
  open_silent (calls.PutEnv text) step h w = silent_if (is_refused_text text h.room.transaction.env) step _ _ (λ e. absurd (cc)) (λ e. absurd (cc))
  open_silent (calls.GetEnv name) step h w = λ e. absurd (cc)
  open_silent calls.EnvList step h w = λ e. absurd (cc)
  open_silent (calls.FailDelay micros) step h w = λ e. absurd (cc)
  open_silent (calls.DelayFn on) step h w = λ e. absurd (cc)
  open_silent (calls.Reply text) step h w = λ e. nothing_text step w

  start_silent : (step : Asked) (names : List (List ℕ)) (conv : ConvState) (filed : ℕ) (w : PlainWorld) (answer : Result PlainHandle LoadFault)
      → Silent step (opened_by names conv filed w answer)
  start_silent step names conv filed w (Ok h) = λ e. absurd (cc)
  start_silent step names conv filed w (Err fault) = λ e. absurd (cc)

  closed_silent : (call : AppCall) (step : Asked) (place : ℕ) (conv : ConvState) (w : PlainWorld)
      → Silent step (closed_step players number_of place conv w call)
  closed_silent (calls.Start service user) step place conv w = start_silent step (names_of players) conv (filed_in w) _ _
  closed_silent (calls.End status) step place conv w = λ e. absurd (cc)
  closed_silent (calls.Authenticate flags) step place conv w = λ e. absurd (cc)
  closed_silent (calls.SetCred flags) step place conv w = λ e. absurd (cc)
  closed_silent (calls.AcctMgmt flags) step place conv w = λ e. absurd (cc)
  closed_silent (calls.OpenSession flags) step place conv w = λ e. absurd (cc)
  closed_silent (calls.CloseSession flags) step place conv w = λ e. absurd (cc)
  closed_silent (calls.ChAuthTok flags) step place conv w = λ e. absurd (cc)
  closed_silent (calls.SetItem item value) step place conv w = λ e. absurd (cc)
  closed_silent (calls.GetItem item) step place conv w = λ e. absurd (cc)
  closed_silent (calls.PutEnv text) step place conv w = λ e. absurd (cc)
  closed_silent (calls.GetEnv name) step place conv w = λ e. absurd (cc)
  closed_silent calls.EnvList step place conv w = λ e. absurd (cc)
  closed_silent (calls.FailDelay micros) step place conv w = λ e. absurd (cc)
  closed_silent (calls.DelayFn on) step place conv w = λ e. absurd (cc)
  closed_silent (calls.Reply text) step place conv w = λ e. nothing_text step w

  slot_silent : (step : Asked) (slot : PlainSlot) (w : PlainWorld) → Silent step (slot_step players number_of step.number slot w step.call)
  slot_silent step (closed conv) w = closed_silent step.call step step.number conv w
  slot_silent step (opened h) w = open_silent step.call step _ w

  -- the text of a step's blocks is its report
  prints_by : (by : ByRemainders) (step : Asked) (outcome : PlainOutcome) (w : PlainWorld) (shown : Option Shown) → shown_of outcome.answer ≡ shown
      → (shown_of outcome.answer ≡ None → step_text (names_of players) step outcome w.process.ledger ≡ [])
      → blocks_text (reported (names_of players) step outcome w.process.ledger) ≡ step_text (names_of players) step outcome w.process.ledger
  prints_by by step outcome w (Some x) is silent = reports_print by (names_of players) step outcome w.process.ledger x is
  prints_by by step outcome w None is silent = ap (λ (x : Option Shown). blocks_text
      (blocks_by step.number (command_of step.call) (all_told (names_of players) outcome w.process.ledger) x)) is ∙ sym (silent is)

  found_prints : (by : ByRemainders) (slots : List PlainSlot) (w : PlainWorld) (step : Asked) (found : Option PlainSlot)
      → (let s = stepped_at players number_of slots w step.number step.call found in
      blocks_text (reported (names_of players) step s.outcome s.world.process.ledger) ≡ step_text (names_of players) step s.outcome s.world.process.ledger)
  found_prints by slots w step None = let s : Stepped = stepped_at players number_of slots w step.number step.call None in
      prints_by by step s.outcome s.world _ refl (λ e. absurd (cc))
  found_prints by slots w step (Some slot) =
      let s : SlotStepped = slot_step players number_of step.number slot w step.call in prints_by by step s.outcome s.world _ refl (slot_silent step slot w)

  pub step_prints : (by : ByRemainders) (slots : List PlainSlot) (w : PlainWorld) (step : Asked)
      → (let s = stepped players number_of slots w step in
      blocks_text (reported (names_of players) step s.outcome s.world.process.ledger) ≡ step_text (names_of players) step s.outcome s.world.process.ledger)
  unfolding stepped
  step_prints by slots w step = found_prints by slots w step (slot_at slots step.number)

-- ---- lines, one after another

by_first : (stacks : Stacks) (first : Option (List SlotLog)) (one two : List Block) (next : List SlotLog)
    → ((places : List SlotLog) → fold stacks places one ≡ Some next → fold stacks places (one ++ two) ≡ fold stacks next two)
    → fold_on stacks first (λ p. fold stacks p one) ≡ Some next → fold_on stacks first (λ p. fold stacks p (one ++ two)) ≡ fold stacks next two
by_first stacks None one two next each is = absurd (cc)
by_first stacks (Some places) one two next each is = each places is

pub fold-append : (stacks : Stacks) (places : List SlotLog) (one two : List Block) (next : List SlotLog) → fold stacks places one ≡ Some next
    → fold stacks places (one ++ two) ≡ fold stacks next two
fold-append stacks places [] two next is = let e : places ≡ next = cc in ap (λ (x : List SlotLog). fold stacks x two) e
fold-append stacks places (b ∷ one) two next is = by_first stacks (after_block stacks places b) one two next
    (λ first is'. fold-append stacks first one two next is') is

module _ (by : ByRemainders) (setting : Setting) (stacks : Stacks) where
  -- the result of a line, and its blocks: they fit, and their text is its report
  abbrev LineFits : RunState → Result (RunState × List ℕ) ScriptKind → List Block → Type 0
  LineFits s (Ok x) blocks = (fold stacks (places_of s.slots) blocks ≡ Some (places_of x.0.slots)) × (blocks_text blocks ≡ x.1)
  LineFits s (Err kind) blocks = blocks ≡ []

  asked_fits : (s : RunState) (read : Result Line ScriptKind) → HaveStacks stacks s.slots → AreSound stacks (places_of s.slots)
      → LineFits s (applied_or_refused setting s read) (blocks_asked setting s read)
  asked_fits s (Ok lines.Blank) have sound = (refl, refl)
  asked_fits s (Ok (lines.Step step)) have sound =
      (steps_fit setting.players setting.delay stacks s.slots s.world step have sound, step_prints setting.players setting.delay by s.slots s.world step)
  asked_fits s (Ok (lines.At moment)) have sound = (refl, refl)
  asked_fits s (Ok (lines.Random word)) have sound = (refl, refl)
  asked_fits s (Ok (lines.Caller caller)) have sound = (refl, refl)
  asked_fits s (Err kind) have sound = refl

  line_if : (b : Bool) (s : RunState) (kind : ScriptKind) (r : Result (RunState × List ℕ) ScriptKind) (blocks : List Block) → LineFits s r blocks
      → LineFits s (if b then Err kind else r) (if b then [] else blocks)
  line_if true s kind r blocks fits = refl
  line_if false s kind r blocks fits = fits

  line_fits : (n : ℕ) (s : RunState) (line : List ℕ) → HaveStacks stacks s.slots → AreSound stacks (places_of s.slots)
      → LineFits (kept_at setting n s) (step_at (line_step setting) n s line) (line_blocks setting n s line)
  unfolding step_at line_step
  line_fits n s line have sound =
      let now : RunState = (kept_at setting n s) in
      line_if (nat_le 65536 n) now _ _ _ (line_if (nat_lt 513 (length line)) now _ _ _ (asked_fits now (parsed line) have sound))

  -- lines that have n lines before them
  pub record LinesFit (s : RunState) (r : Run RunState) (blocks : List Block) : Type 0 where
    pub fits : fold stacks (places_of s.slots) blocks ≡ Some (places_of r.last.slots)
    pub text : blocks_text blocks ≡ r.text

  lines_on : (n : ℕ) (s : RunState) (x : Result (RunState × List ℕ) ScriptKind) (blocks : List Block) (next : RunState → Run RunState)
      (rest : RunState → List Block) (Along : RunState → Type 0)
      → LineFits (kept_at setting n s) x blocks → AreSound stacks (places_of s.slots) → OnState setting x (λ t. HaveStacks stacks t.slots × Along t)
      → ((t : RunState) → HaveStacks stacks t.slots → AreSound stacks (places_of t.slots) → Along t → LinesFit t (next t) (rest t))
      → LinesFit s (after n s x next) (blocks ++ blocks_on setting x rest)
  lines_on n s (Err kind) blocks next rest Along fits sound have each =
      let none : blocks ++ [] ≡ [] = append-nil blocks ∙ fits in
      record { fits = ap (λ (bs : List Block). fold stacks (places_of s.slots) bs) none; text = ap blocks_text none }
  lines_on n s (Ok x) blocks next rest Along fits sound have each =
      let past_end : LinesFit x.0 (next x.0) (rest x.0) = each x.0 have.0
      (folds_sound stacks (places_of s.slots) blocks (places_of x.0.slots) sound fits.0) have.1 in
      record {
        fits = fold-append stacks (places_of s.slots) blocks (rest x.0) (places_of x.0.slots) fits.0 ∙ past_end.fits;
        text = flat_map-append block_text blocks (rest x.0) ∙ ap (λ (t : List ℕ). t ++ blocks_text (rest x.0)) fits.1
            ∙ ap (λ (t : List ℕ). x.1 ++ t) past_end.text;
      }

  pub lines_fit : (n : ℕ) (s : RunState) (ls : List (List ℕ)) → HaveStacks stacks s.slots → AreSound stacks (places_of s.slots)
      → HaveAlong setting stacks n s ls
      → LinesFit s (run_lines (line_step setting) n s ls) (run_blocks setting n s ls)
  unfolding run_items
  lines_fit n s [] have sound along = record { fits = refl; text = refl }
  lines_fit n s (l ∷ ls) have sound along =
      lines_on n s (step_at (line_step setting) n s l) (line_blocks setting n s l) (λ t. run_lines (line_step setting) (n + 1) t ls)
      (λ t. run_blocks setting (n + 1) t ls)
      (λ t. HaveAlong setting stacks (n + 1) t ls) (line_fits n s l have sound) sound along
      (λ t have' sound' along'. lines_fit (n + 1) t ls have' sound' along')
