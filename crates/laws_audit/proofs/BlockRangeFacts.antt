-- The blocks of a run are in the ranges of what is printed.
use Rattle.std.proofs.Common.{◌≡◌, ℕ, zero, suc, ◌+◌, ◌<◌, ◌^◌, Bool, true, false, nat_le, nat_lt, ◌&&◌, if◌then◌else◌, List, [], ◌∷◌, ◌++◌}
use Rattle.std.proofs.Common.{map, length, drop, slice_get, unwrap_or, Option, Some, None, Result, Ok, Err, refl, sym, ◌∙◌, ap, subst}
use Rattle.std.proofs.Common.{arith, append_assoc, length-append, length-set}
use Rattle.std.specs.List.{flat_map, AllByRecursion}
use Rattle.std.proofs.lemmas.Nat.{mod_below}
use Rattle.std.proofs.lemmas.List.{map-append}
use Rattle.pam_base.specs.declared.code.Code.{Code}
use Rattle.pam_base.specs.declared.call.AppCall.{AppCall}
use Rattle.pam_base.specs.declared.call.Step.{Step as Asked}
use Rattle.pam_base.specs.declared.fault.ScriptKind.{ScriptKind}
use Rattle.conv_port.specs.declared.message.Message.{Message}
use Rattle.env_list.specs.Environment.{Variable, variable_text, is_refused as is_refused_text}
use Rattle.data_cleanup.specs.Ledger.{PlainLedger}
use Rattle.data_cleanup.specs.declared.datum.Birth.{Birth}
use Rattle.data_cleanup.specs.declared.receipt.Receipt.{Receipt}
use Rattle.data_cleanup.specs.declared.receipt.Filed.{Filed}
use Rattle.script_lang.specs.declared.line.Line.{Line}
use Rattle.script_lang.specs.declared.line.Line.TheVariants as lines
use Rattle.script_lang.specs.Line.{parsed}
use Rattle.record_reader.specs.LineRun.{step_at}
use Rattle.pam_room.specs.Module.{Player}
use Rattle.pam_room.specs.State.{PlainWorld}
use Rattle.pam_room.specs.declared.visits.Visit.{Visit}
use Rattle.dispatch_core.specs.Lines.{names_of}
use Rattle.pam_handle.specs.declared.wait.Wait.{Wait}
use Rattle.service_load.specs.Stacks.{Stacks}
use Rattle.pam_library.specs.declared.outcome.Answer.{Answer}
use Rattle.pam_library.specs.declared.outcome.Answer.TheVariants as answers
use Rattle.pam_library.specs.Outcome.{PlainOutcome}
use Rattle.pam_library.specs.Slots.{PlainSlot, closed, opened, slot_at}
use Rattle.pam_library.specs.SlotStep.{SlotStepped, filed_in, is_refused_for_flags, other_pending, unless_pending, stack_step, open_step}
use Rattle.pam_library.specs.SlotStep.{closed_step, slot_step, opened_by}
use Rattle.pam_library.specs.Step.{stepped_at, stepped}
use Rattle.pam_handle.specs.Handle.{PlainHandle}
use Rattle.conv_port.specs.Conv.{ConvState}
use Rattle.service_load.specs.declared.load_fault.LoadFault.{LoadFault}
use Rattle.item_store.specs.Access.{is_refused as is_refused_item}
use Rattle.item_store.specs.declared.access.Access.TheVariants.{ApplicationSets, ApplicationGets}
use Rattle.pam_base.specs.declared.call.Func.{Func}
use Rattle.pam_base.specs.declared.call.Func.TheVariants as funcs
use Rattle.pam_base.specs.declared.call.AppCall.TheVariants as calls
use Rattle.cmd_run.specs.State.{RunState, Setting, kept_at}
use Rattle.cmd_run.specs.Step.{line_step}
use Rattle.cmd_run.specs.Closings.{world_after}
use Rattle.report_lines.specs.Line.{ToldLine, told_visit, Shown, Command, Block, AreBytes, IsLong, byte_of, bytes_of, long_of, IsSeen, IsTold}
use Rattle.report_lines.specs.Line.{IsShown, IsResult, AreBlocks}
use Rattle.session_audit.specs.Laws.{AreSeen}
use Rattle.session_audit.specs.Fits.{SlotLog, place_at, with_place, visits_told, is_none, after_result, is_bad_number, with_after}
use Rattle.session_audit.specs.Fits.{after_at, after_block, fold_on, fold}
use Rattle.laws_audit.specs.Report.{message_told, visit_told, missing_told, variable_told, receipt_told, filed_told, cleanups_told}
use Rattle.laws_audit.specs.Report.{waited_told, variables_told, all_told, command_of, shown_of, blocks_by, reported}
use Rattle.laws_audit.specs.Run.{blocks_asked, line_blocks, blocks_on, run_blocks, closing_blocks}
use Rattle.script_lang.proofs.TransactionNumberFacts.{reads_numbers}

-- what is recorded is in its ranges, except for lines run
abbrev IsToldBut : ToldLine → Type 0
IsToldBut (told_visit v) = Unit {0}
IsToldBut t = IsTold t

pub record IsBlockBut (b : Block) : Type 0 where
  pub number : b.number < 2 ^ 32
  pub told : AllByRecursion IsToldBut b.told
  pub result : IsResult b.result

abbrev pub AreBlocksBut : List Block → Type 0
AreBlocksBut blocks = AllByRecursion IsBlockBut blocks

told_whole : (told : List ToldLine) → AllByRecursion IsToldBut told → AllByRecursion IsSeen (visits_told told) → AllByRecursion IsTold told
told_whole [] all seen = tt
told_whole (told_visit v ∷ told) all seen = (seen.0, told_whole told all.1 seen.1)
told_whole (t ∷ told) all seen = (all.0, told_whole told all.1 seen)

pub blocks_whole : (blocks : List Block) → AreBlocksBut blocks → AreSeen blocks → AreBlocks blocks
blocks_whole [] all seen = tt
blocks_whole (b ∷ blocks) all seen = (
  record { number = all.0.number; told = told_whole b.told all.0.told seen.0; result = all.0.result },
  blocks_whole blocks all.1 seen.1,
)

are_long : (n : ℕ) → IsLong (long_of n)
are_long n = mod_below n (2 ^ 64) (omega arith)

are_bytes : (text : List ℕ) → AreBytes (bytes_of text)
are_bytes [] = tt
are_bytes (b ∷ text) = (mod_below b 256 (omega arith), are_bytes text)

all_both : {X : Type 0} (P : X → Type 0) (xs ys : List X) → AllByRecursion P xs → AllByRecursion P ys → AllByRecursion P (xs ++ ys)
all_both P [] ys one two = two
all_both P (x ∷ xs) ys one two = (one.0, all_both P xs ys one.1 two)

-- ---- what a step reports

messages_formed : (said : List Message) → AllByRecursion IsToldBut (map message_told said)
messages_formed [] = tt
messages_formed (m ∷ said) = (are_bytes m.text, messages_formed said)

visits_formed : (trail : List Visit) → AllByRecursion IsToldBut (map visit_told trail)
visits_formed [] = tt
visits_formed (v ∷ trail) = (tt, visits_formed trail)

receipt_formed : (names : List (List ℕ)) (receipt : Receipt) (birth : Option Birth) → AllByRecursion IsToldBut (receipt_told names receipt birth)
receipt_formed names receipt (Some birth) = (
  (
    are_long receipt.id,
    mod_below receipt.status (2 ^ 32) (omega arith),
    are_long receipt.note,
    are_bytes (unwrap_or (slice_get names birth.owner) []),
    are_bytes birth.name,
  ),
  tt,
)
receipt_formed names receipt None = tt

filed_formed : (names : List (List ℕ)) (births : List Birth) (filed : List Filed) → AllByRecursion IsToldBut (flat_map (filed_told names births) filed)
filed_formed names births [] = tt
filed_formed names births (f ∷ fs) = all_both IsToldBut (filed_told names births f) _ (receipt_formed names f.receipt (slice_get births f.receipt.id))
    (filed_formed names births fs)

waited_formed : (wait : Option Wait) → AllByRecursion IsToldBut (waited_told wait)
waited_formed (Some wait) = ((are_long wait.asked, are_long wait.wait), tt)
waited_formed None = tt

missing_formed : (names : List (List ℕ)) → AllByRecursion IsToldBut (map missing_told names)
missing_formed [] = tt
missing_formed (n ∷ names) = (are_bytes n, missing_formed names)

-- ---- the result

-- a text is that of a variable
abbrev IsOne : List ℕ → Type 0
IsOne text = (v : Variable) × (text ≡ variable_text v)

abbrev AreVariables : Answer → Type 0
AreVariables (answers.List variables) = AllByRecursion IsOne variables
AreVariables answer = Unit {0}

variables_formed : (variables : List (List ℕ)) → AllByRecursion IsOne variables → AllByRecursion IsToldBut (map variable_told variables)
variables_formed [] all = tt
variables_formed (text ∷ variables) all =
    let v : Variable = all.0.0 in (
      record { name = bytes_of v.name; value = bytes_of v.value; is = ap bytes_of all.0.1 ∙ map-append byte_of v.name (61 ∷ v.value); bytes = are_bytes text },
      variables_formed variables all.1,
    )

answer_formed : (answer : Answer) → AreVariables answer → AllByRecursion IsToldBut (variables_told answer)
answer_formed (answers.List variables) all = variables_formed variables all
answer_formed answer all = tt

abbrev ShownFormed : Option Shown → Type 0
ShownFormed None = Unit {0}
ShownFormed (Some shown) = IsShown shown

shown_formed : (answer : Answer) → ShownFormed (shown_of answer)
shown_formed (answers.Refused fault) = (are_bytes fault.file, are_long fault.line)
shown_formed (answers.List variables) = are_long (length variables)
shown_formed (answers.Value (Some text)) = are_bytes text
shown_formed (answers.Value None) = tt
shown_formed answer = tt

told_formed : (names : List (List ℕ)) (outcome : PlainOutcome) (ledger : PlainLedger) → AreVariables outcome.answer
    → AllByRecursion IsToldBut (all_told names outcome ledger)
told_formed names outcome ledger all =
    all_both IsToldBut (map message_told outcome.said) _ (messages_formed outcome.said)
    (all_both IsToldBut (map visit_told outcome.trail) _ (visits_formed outcome.trail)
    (all_both IsToldBut (cleanups_told names ledger outcome.filed_from) _ (filed_formed names ledger.births (drop outcome.filed_from ledger.filed))
    (all_both IsToldBut (waited_told outcome.wait) _ (waited_formed outcome.wait)
    (all_both IsToldBut (map missing_told outcome.missing) _ (missing_formed outcome.missing) (answer_formed outcome.answer all)))))

by_formed : (number : ℕ) (command : Command) (told : List ToldLine) (shown : Option Shown) → number < 2 ^ 32 → AllByRecursion IsToldBut told → ShownFormed shown
    → AreBlocksBut (blocks_by number command told shown)
by_formed number command told None fits all is = tt
by_formed number command told (Some shown) fits all is = (record { number = fits; told = all; result = is }, tt)

reported_formed : (names : List (List ℕ)) (step : Asked) (outcome : PlainOutcome) (ledger : PlainLedger) → step.number < 2 ^ 32 → AreVariables outcome.answer
    → AreBlocksBut (reported names step outcome ledger)
reported_formed names step outcome ledger fits all = by_formed step.number (command_of step.call) _ (shown_of outcome.answer) fits
    (told_formed names outcome ledger all) (shown_formed outcome.answer)

-- ---- the results of steps

module _ (players : List Player) (number_of : Code → ℕ → ℕ) where
  abbrev Lists : SlotStepped → Type 0
  Lists s = AreVariables s.outcome.answer

  lists_if : (b : Bool) (s t : SlotStepped) → Lists s → Lists t → Lists (if b then s else t)
  lists_if true s t one two = one
  lists_if false s t one two = two

  lists_unless : (found : Option Func) (slot : PlainSlot) (w : PlainWorld) (s : SlotStepped) → Lists s → Lists (unless_pending found slot w s)
  lists_unless None slot w s lists = lists
  lists_unless (Some func) slot w s lists = tt

  stack_lists : (func : Func) (flags : ℕ) (h : PlainHandle) (w : PlainWorld) → Lists (stack_step players number_of func flags h w)
  stack_lists func flags h w = lists_if (is_refused_for_flags func flags) _ _ tt (lists_unless (other_pending h.pending func) (opened h) w _ tt)

  env_lists : (env : List Variable) → AllByRecursion IsOne (map variable_text env)
  env_lists [] = tt
  env_lists (v ∷ env) = ((v, refl), env_lists env)

  open_lists : (call : AppCall) (h : PlainHandle) (w : PlainWorld) → Lists (open_step players number_of h w call)
  open_lists (calls.Authenticate flags) h w = stack_lists funcs.Authenticate flags h w
  open_lists (calls.SetCred flags) h w = stack_lists funcs.SetCred flags h w
  open_lists (calls.AcctMgmt flags) h w = stack_lists funcs.AcctMgmt flags h w
  open_lists (calls.OpenSession flags) h w = stack_lists funcs.OpenSession flags h w
  open_lists (calls.CloseSession flags) h w = stack_lists funcs.CloseSession flags h w
  open_lists (calls.ChAuthTok flags) h w = stack_lists funcs.ChAuthTok flags h w
  open_lists (calls.SetItem item value) h w = lists_if (is_refused_item ApplicationSets item) _ _ tt tt
  open_lists (calls.GetItem item) h w = lists_if (is_refused_item ApplicationGets item) _ _ tt tt
  open_lists (calls.PutEnv text) h w = lists_if (is_refused_text text h.room.transaction.env) _ _ tt tt
  open_lists calls.EnvList h w = env_lists h.room.transaction.env
  open_lists call h w = tt

  opened_lists : (names : List (List ℕ)) (conv : ConvState) (filed : ℕ) (w : PlainWorld) (answer : Result PlainHandle LoadFault)
      → Lists (opened_by names conv filed w answer)
  opened_lists names conv filed w (Ok h) = tt
  opened_lists names conv filed w (Err fault) = tt

  closed_lists : (call : AppCall) (place : ℕ) (conv : ConvState) (w : PlainWorld) → Lists (closed_step players number_of place conv w call)
  closed_lists (calls.Start service user) place conv w = opened_lists (names_of players) conv (filed_in w) _ _
  closed_lists call place conv w = tt

  slot_lists : (call : AppCall) (place : ℕ) (slot : PlainSlot) (w : PlainWorld) → Lists (slot_step players number_of place slot w call)
  slot_lists call place (closed conv) w = closed_lists call place conv w
  slot_lists call place (opened h) w = open_lists call _ w

  found_lists : (slots : List PlainSlot) (w : PlainWorld) (step : Asked) (found : Option PlainSlot)
      → AreVariables (stepped_at players number_of slots w step.number step.call found).outcome.answer
  found_lists slots w step None = tt
  found_lists slots w step (Some slot) = slot_lists step.call step.number slot w

  step_lists : (slots : List PlainSlot) (w : PlainWorld) (step : Asked) → AreVariables (stepped players number_of slots w step).outcome.answer
  unfolding stepped
  step_lists slots w step = found_lists slots w step (slot_at slots step.number)

-- ---- lines and implicit ends

pub both_formed : (one two : List Block) → AreBlocksBut one → AreBlocksBut two → AreBlocksBut (one ++ two)
both_formed one two first second = all_both IsBlockBut one two first second

module _ (setting : Setting) where
  asked_formed : (s : RunState) (line : List ℕ) (read : Result Line ScriptKind) → parsed line ≡ read → AreBlocksBut (blocks_asked setting s read)
  asked_formed s line (Ok (lines.Step step)) is =
      reported_formed (names_of setting.players) step (stepped setting.players setting.delay s.slots s.world step).outcome
      (stepped setting.players setting.delay s.slots s.world step).world.process.ledger (reads_numbers line step is)
      (step_lists setting.players setting.delay s.slots s.world step)
  asked_formed s line (Ok lines.Blank) is = tt
  asked_formed s line (Ok (lines.At moment)) is = tt
  asked_formed s line (Ok (lines.Random word)) is = tt
  asked_formed s line (Ok (lines.Caller caller)) is = tt
  asked_formed s line (Err kind) is = tt

  formed_if : (b : Bool) (blocks : List Block) → AreBlocksBut blocks → AreBlocksBut (if b then [] else blocks)
  formed_if true blocks all = tt
  formed_if false blocks all = all

  line_formed : (n : ℕ) (s : RunState) (line : List ℕ) → AreBlocksBut (line_blocks setting n s line)
  line_formed n s line = formed_if (nat_le 65536 n) _ (formed_if (nat_lt 513 (length line)) _ (asked_formed (kept_at setting n s) line (parsed line) refl))

  on_formed : (x : Result (RunState × List ℕ) ScriptKind) (rest : RunState → List Block) → ((t : RunState) → AreBlocksBut (rest t))
      → AreBlocksBut (blocks_on setting x rest)
  on_formed (Ok x) rest each = each x.0
  on_formed (Err kind) rest each = tt

  pub run_formed : (n : ℕ) (s : RunState) (ls : List (List ℕ)) → AreBlocksBut (run_blocks setting n s ls)
  run_formed n s [] = tt
  run_formed n s (l ∷ ls) = both_formed (line_blocks setting n s l) _ (line_formed n s l)
      (on_formed (step_at (line_step setting) n s l) _ (λ t. run_formed (n + 1) t ls))

-- at most n places
pub closings_formed : (players : List Player) (status : Code) (front slots : List PlainSlot) (w : PlainWorld) (n : ℕ) → length (front ++ slots) ≡ n → n < 2 ^ 32
    → AreBlocksBut (closing_blocks players status front slots w)
closings_formed players status front [] w n is small = tt
closings_formed players status front (closed conv ∷ slots) w n is small =
    closings_formed players status (front ++ closed conv ∷ []) slots w n (ap length (append_assoc front (closed conv ∷ []) slots) ∙ is) small
closings_formed players status front (opened h ∷ slots) w n is small =
    let within : length front + 1 < 2 ^ 32 = omega (arith, is, length-append front (opened h ∷ slots)) in (
      record {
        number = within;
        told = filed_formed (names_of players) (world_after players status h w).process.ledger.births
            (drop (length w.process.ledger.filed) (world_after players status h w).process.ledger.filed);
        result = tt;
      },
      closings_formed players status (front ++ closed h.room.conv ∷ []) slots (world_after players status h w) n
          (ap length (append_assoc front (closed h.room.conv ∷ []) slots) ∙ length-append front (closed h.room.conv ∷ slots)
          ∙ sym (length-append front (opened h ∷ slots)) ∙ is) small,
    )

-- ---- how many places

with_length : (places : List SlotLog) (number : ℕ) (place : SlotLog) → length (with_place places number place) ≡ length places
with_length places zero place = refl
with_length places (suc i) place = length-set places i place

module _ (stacks : Stacks) where
  abbrev SoMany : ℕ → Option (List SlotLog) → Type 0
  SoMany n None = Unit {0}
  SoMany n (Some places) = length places ≡ n

  after_many : (places : List SlotLog) (number : ℕ) (next : Option SlotLog) → SoMany (length places) (with_after stacks places number next)
  after_many places number (Some place) = with_length places number place
  after_many places number None = tt

  many_if : (b : Bool) (places : List SlotLog) → SoMany (length places) (if b then Some places else None)
  many_if true places = refl
  many_if false places = tt

  at_many : (places : List SlotLog) (b : Block) (found : Option SlotLog) → SoMany (length places) (after_at stacks places b found)
  at_many places b None = many_if (is_bad_number stacks b.result && is_none (visits_told b.told)) places
  at_many places b (Some place) = after_many places b.number (after_result stacks place (visits_told b.told) b.result)

  on_many : (n : ℕ) (next : Option (List SlotLog)) (f : List SlotLog → Option (List SlotLog)) → SoMany n next
      → ((places : List SlotLog) → length places ≡ n → SoMany n (f places)) → SoMany n (fold_on stacks next f)
  on_many n None f many each = tt
  on_many n (Some places) f many each = each places many

  fold_many : (places : List SlotLog) (blocks : List Block) (n : ℕ) → length places ≡ n → SoMany n (fold stacks places blocks)
  fold_many places [] n is = is
  fold_many places (b ∷ blocks) n is =
      on_many n (after_block stacks places b) _ (subst (λ (m : ℕ). SoMany m (after_block stacks places b)) is (at_many places b (place_at places b.number)))
      (λ next is'. fold_many next blocks n is')

  pub fold_length : (places : List SlotLog) (blocks : List Block) (next : List SlotLog) → fold stacks places blocks ≡ Some next → length next ≡ length places
  fold_length places blocks next is = subst (SoMany (length places)) is (fold_many places blocks (length places) refl)
