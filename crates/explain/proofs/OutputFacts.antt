-- What is to be written, from what was read and from the arguments.
use Rattle.std.proofs.Common.{◌≡◌, ◌≤◌, ℕ, Bool, true, false, List, length, Option, Some, None, Result, Ok, Err, inl, inr, sym, subst}
use Rattle.std.specs.Prelude.{IfOk, nat_lt}
use Rattle.std.proofs.lemmas.Bool.{lt-ltb, le-ltb}
use Rattle.pam_outside.specs.Counts.{RisesIf}
use Rattle.pam_outside.specs.Files.{VaultState}
use Rattle.pam_outside.specs.Streams.{SinkState}
use Rattle.session_audit.specs.control_words.specs.Stack.{Stack}
use Rattle.session_audit.specs.service_load.specs.declared.rule_type.RuleType.{RuleType}
use Rattle.session_audit.specs.service_load.specs.FirstFault.{Counts, Stop}
use Rattle.session_audit.specs.service_load.specs.Load.{directory_exists, loaded}
use Rattle.session_audit.specs.service_load.specs.Loading.{texts_of}
use Rattle.session_audit.specs.service_load.specs.Stacks.{stacks_of}
use Rattle.session_audit.specs.service_load.specs.Tree.{tree}
use Rattle.explain_origins.specs.Placed.{sources_at}
use Rattle.explain_report.specs.explain_lines.specs.Origins.{Sources}
use Rattle.explain.specs.declared.explaining.Output.{Output}
use Rattle.cmd_audit.specs.declared.transcript.Transcript.{Transcript}
use Rattle.cmd_audit.specs.declared.transcript.Transcript.TheVariants.{Whole, TooLong, Unread}
use Rattle.explain.specs.Explained.{Explains, ExplainsBy, IsExplained, OrUnread, Written, explained_of, refused_explained, unread_explained}
use Rattle.cmd_audit.specs.Transcript.{IsRead, IsShort, is_unread}
use Rattle.explain.specs.Program.{Answers, PlainTarget, Ends, Exits, ExplainsIf, ExplainsInput, ExplainsRead, IsOutputOfInput, IsOutputOfRead}
use Rattle.explain.specs.Program.{too_long_written, usage_written}

-- ---- what was read

module _ (old new : VaultState) (root service : List ℕ) (before now : ℕ) where
  whole_input : (e : Output) (text left : List ℕ) → text ≡ left → length text ≤ 1048576 → Explains (λ w. IsExplained e w) old root service text new
      → ExplainsInput (λ w. IsExplained e w) old root service left new before now
  whole_input e text left same short is =
      let fits : nat_lt 1048576 (length left) ≡ false = le-ltb 1048576 (length left) (subst (λ (l : List ℕ). length l ≤ 1048576) same short) in
      inl (subst (λ (b : Bool). ExplainsIf b (λ w. IsExplained e w) old root service left new) (sym fits)
      (subst (λ (l : List ℕ). Explains (λ w. IsExplained e w) old root service l new) same is))

  pub given_by : {E : Type 0} (r : Result Output E) (report : Transcript) (left : List ℕ)
      → IsRead report left → IsShort report → RisesIf (is_unread report) before now
      → IfOk r (λ e. ExplainsRead (λ w. IsExplained e w) report old root service new)
      → IfOk r (λ e. ExplainsInput (λ w. IsExplained e w) old root service left new before now)
  given_by (Ok e) (Whole text) left read short rises is = whole_input e text left read short is
  given_by (Ok e) TooLong left read short rises is =
      inl (subst (λ (b : Bool). ExplainsIf b (λ w. IsExplained e w) old root service left new) (sym (lt-ltb 1048576 (length left) read)) is)
  given_by (Ok e) Unread left read short rises is = inr (is, rises)
  given_by (Err x) report left read short rises is = tt

pub shown_input : {E : Type 0} (r : Result Output E) (report : Transcript) (input_before input_now before now : ℕ)
    → RisesIf (is_unread report) input_before input_now
    → IfOk r (λ e. IsOutputOfRead e report before now) → IfOk r (λ e. IsOutputOfInput e input_before input_now before now)
shown_input (Ok e) report input_before input_now before now rises shows = record { report = report; read = rises; shown = shows }
shown_input (Err x) report input_before input_now before now rises shows = tt

-- ---- the arguments

module _ (words : Option PlainTarget) (old new : VaultState) (input : List ℕ) (before now : ℕ) where
  pub given_for : {E : Type 0} (r : Result Output E) (root service : List ℕ) → ◌≡◌ {A = Option PlainTarget} (Some (record { root = root; service = service })) words
      → IfOk r (λ e. ExplainsInput (λ w. IsExplained e w) old root service input new before now)
      → IfOk r (λ e. Answers (λ w. IsExplained e w) words old input new before now)
  given_for r root service is given =
      subst (λ (o : Option PlainTarget). IfOk r (λ e. Answers (λ w. IsExplained e w) o old input new before now)) is given

  pub usage_given : {E : Type 0} (r : Result Output E) → None ≡ words → IfOk r (λ e. IsExplained e usage_written)
      → IfOk r (λ e. Answers (λ w. IsExplained e w) words old input new before now)
  usage_given (Ok e) none is = subst (λ (o : Option PlainTarget). Answers (λ w. IsExplained e w) o old input new before now) none is
  usage_given (Err x) none is = tt

-- ---- what is written

-- another property of it
module _ (P Q : Written → Type 0) (also : (w : Written) → P w → Q w) where
  or_unread : (w : Written) (vault : VaultState) → OrUnread P w vault → OrUnread Q w vault
  or_unread w vault (inl p) = inl (also w p)
  or_unread w vault (inr p) = inr (also unread_explained p.0, p.1)

  by_result : (looked : Result Counts Stop) (stack : RuleType → Stack) (sources : Sources) (report : List ℕ) (vault : VaultState)
      → ExplainsBy P looked stack sources report vault → ExplainsBy Q looked stack sources report vault
  by_result (Ok counts) stack sources report vault p = or_unread (explained_of (stacks_of stack) sources report) vault p
  by_result (Err stop) stack sources report vault p = also (refused_explained stop.fault) p

  by_length : (long : Bool) (old : VaultState) (root service input : List ℕ) (new : VaultState)
      → ExplainsIf long P old root service input new → ExplainsIf long Q old root service input new
  by_length true old root service input new p = also too_long_written p
  by_length false old root service input new p =
      by_result (loaded old root service) (tree (texts_of root old) (directory_exists old root) service)
      (sources_at (texts_of root old) (directory_exists old root) service) input new p

  by_input : (old : VaultState) (root service input : List ℕ) (new : VaultState) (before now : ℕ)
      → ExplainsInput P old root service input new before now → ExplainsInput Q old root service input new before now
  by_input old root service input new before now (inl p) = inl (by_length (nat_lt 1048576 (length input)) old root service input new p)
  by_input old root service input new before now (inr p) = inr (also unread_explained p.0, p.1)

  answers_too : (words : Option PlainTarget) (old : VaultState) (input : List ℕ) (new : VaultState) (before now : ℕ)
      → Answers P words old input new before now → Answers Q words old input new before now
  answers_too None old input new before now p = also usage_written p
  answers_too (Some words) old input new before now p = by_input old words.root words.service input new before now p

pub ends_so : (status : ℕ) (e : Output) (words : Option PlainTarget) (old : VaultState) (input : List ℕ) (new : VaultState) (before now : ℕ)
    (out_old out_new : SinkState)
    → Answers (λ w. IsExplained e w) words old input new before now → ((w : Written) → IsExplained e w → Exits status w out_old out_new)
    → Ends status words old input new before now out_old out_new
ends_so status e words old input new before now out_old out_new given exits =
    inr (answers_too (λ w. IsExplained e w) (λ w. Exits status w out_old out_new) exits words old input new before now given)
