-- The text of a step's report is that of its block.
use Rattle.std.proofs.Common.{◌≡◌, ℕ, List, [], ◌∷◌, ◌++◌, map, length, drop, slice_get, unwrap_or, codes, Option, Some, None, refl, ◌∙◌}
use Rattle.std.proofs.Common.{ap, append_assoc, append-nil}
use Rattle.std.specs.List.{flat_map}
use Rattle.std.specs.Fmt.{decimal}
use Rattle.std.proofs.lemmas.Grind.{flat_map-append}
use Rattle.std.proofs.lemmas.List.Folds.{flat_map-map}
use Rattle.pam_base.specs.declared.code.Code.{Code}
use Rattle.pam_base.specs.declared.call.AppCall.{AppCall}
use Rattle.pam_base.specs.declared.call.AppCall.TheVariants as calls
use Rattle.pam_base.specs.declared.call.Step.{Step}
use Rattle.script_lang.specs.Command.{word_of_call}
use Rattle.data_cleanup.specs.Ledger.{PlainLedger}
use Rattle.data_cleanup.specs.declared.datum.Birth.{Birth}
use Rattle.data_cleanup.specs.declared.receipt.Receipt.{Receipt}
use Rattle.data_cleanup.specs.declared.receipt.Filed.{Filed}
use Rattle.pam_handle.specs.declared.wait.Wait.{Wait}
use Rattle.pam_library.specs.declared.outcome.Answer.{Answer}
use Rattle.pam_library.specs.declared.outcome.Answer.TheVariants as answers
use Rattle.pam_library.specs.Outcome.{PlainOutcome}
use Rattle.report_step.specs.Said.{message_text, messages_text}
use Rattle.report_step.specs.Visited.{visits_text}
use Rattle.report_step.specs.Cleaned.{cleanup_text, receipt_text, filed_text, cleanups_text}
use Rattle.report_step.specs.Waited.{waited_text}
use Rattle.report_step.specs.Missing.{all_missing_text}
use Rattle.report_step.specs.Answered.{answer_text}
use Rattle.report_step.specs.Closing.{closing_text}
use Rattle.report_step.specs.Step.{step_text}
use Rattle.pam_base.specs.Quote.{quoted_text}
use Rattle.pam_base.specs.Style.{style_number}
use Rattle.pam_base.specs.Fault.{fault_number, fault_name}
use Rattle.conv_port.specs.declared.message.Message.{Message}
use Rattle.laws_audit.specs.Ranges.{ByRemainders}
use Rattle.report_lines.specs.Line.{bytes_of, word_of, long_of, number_words, ToldLine, told_cleanup, Shown, command_word, told_text}
use Rattle.report_lines.specs.Line.{all_told_text, shown_words, code_words, words_text, block_text, blocks_text, status_words, missing_text}
use Rattle.report_lines.specs.Line.{variable_text}
use Rattle.laws_audit.specs.Report.{message_told, visit_told, missing_told, variable_told, receipt_told, filed_told, waited_told}
use Rattle.laws_audit.specs.Report.{variables_told, all_told, command_of, shown_of, reported, blocks_by, closing_reported}

-- two parts before a text
joined : (n : ℕ) (one two : List ToldLine) (r x y : List ℕ) → all_told_text n one ≡ x → all_told_text n two ++ r ≡ y → all_told_text n (one ++ two) ++ r ≡ x ++ y
joined n one two r x y is_x is_y =
    ap (λ (t : List ℕ). t ++ r) (flat_map-append (told_text n) one two) ∙ append_assoc (all_told_text n one) (all_told_text n two) r
    ∙ ap (λ (t : List ℕ). t ++ (all_told_text n two ++ r)) is_x ∙ ap (λ (t : List ℕ). x ++ t) is_y

pub word_is : (call : AppCall) → command_word (command_of call) ≡ word_of_call call
word_is (calls.Start service user) = refl
word_is (calls.End status) = refl
word_is (calls.Authenticate flags) = refl
word_is (calls.SetCred flags) = refl
word_is (calls.AcctMgmt flags) = refl
word_is (calls.OpenSession flags) = refl
word_is (calls.CloseSession flags) = refl
word_is (calls.ChAuthTok flags) = refl
word_is (calls.SetItem item value) = refl
word_is (calls.GetItem item) = refl
word_is (calls.PutEnv text) = refl
word_is (calls.GetEnv name) = refl
word_is calls.EnvList = refl
word_is (calls.FailDelay micros) = refl
word_is (calls.DelayFn on) = refl
word_is (calls.Reply text) = refl

-- the lines of a result: those of its variables and its code
abbrev answer_prints_as : ℕ → List ℕ → Answer → Option Shown → List ℕ
answer_prints_as n command answer (Some shown) = all_told_text n (variables_told answer) ++ words_text n command (shown_words shown)
answer_prints_as n command answer None = []

module _ (by : ByRemainders) where
  messages_print : (n : ℕ) (said : List Message) → all_told_text n (map message_told said) ≡ messages_text n said
  messages_print n [] = refl
  messages_print n (m ∷ said) =
      ap (λ (q : List ℕ). (decimal n ++ (codes " say " ++ (decimal (style_number m.style) ++ (codes " " ++ (q ++ codes "\n")))))
      ++ all_told_text n (map message_told said)) (by.quoted m.text)
      ∙ ap (λ (t : List ℕ). message_text n m ++ t) (messages_print n said)

  missing_print : (n : ℕ) (names : List (List ℕ)) → all_told_text n (map missing_told names) ≡ all_missing_text n names
  missing_print n [] = refl
  missing_print n (name ∷ names) =
      ap (λ (q : List ℕ). (decimal n ++ (codes " note missing " ++ (q ++ codes "\n"))) ++ all_told_text n (map missing_told names)) (by.quoted name)
      ∙ ap (λ (t : List ℕ). missing_text n name ++ t) (missing_print n names)

  variables_print : (n : ℕ) (variables : List (List ℕ)) → all_told_text n (map variable_told variables) ≡ flat_map (variable_text n) variables
  variables_print n [] = refl
  variables_print n (v ∷ variables) =
      ap (λ (q : List ℕ). (decimal n ++ (codes " env " ++ (q ++ codes "\n"))) ++ all_told_text n (map variable_told variables)) (by.quoted v)
      ∙ ap (λ (t : List ℕ). variable_text n v ++ t) (variables_print n variables)

  cleanup_prints : (n : ℕ) (receipt : Receipt) (owner datum : List ℕ)
      → told_text n (told_cleanup (record {
        id = long_of receipt.id;
        status = word_of receipt.status;
        note = long_of receipt.note;
        owner = bytes_of owner;
        datum = bytes_of datum;
      })) ≡ cleanup_text n receipt owner datum
  cleanup_prints n receipt owner datum =
      let text : List ℕ → List ℕ → List ℕ → List ℕ → List ℕ → List ℕ = λ i s e o d. decimal n
      ++ (codes " clean " ++ (i ++ (codes " " ++ (s ++ (codes " " ++ (e ++ (codes " " ++ (o ++ (codes " " ++ (d ++ codes "\n")))))))))) in
      ap (λ (i : List ℕ). text i (status_words (word_of receipt.status)) (number_words (long_of receipt.note)) (quoted_text (bytes_of owner))
      (quoted_text (bytes_of datum))) (by.long receipt.id)
      ∙ ap (λ (s : List ℕ). text (number_words receipt.id) s (number_words (long_of receipt.note)) (quoted_text (bytes_of owner))
      (quoted_text (bytes_of datum))) (by.status receipt.status)
      ∙ ap (λ (e : List ℕ). text (number_words receipt.id) (status_words receipt.status) e (quoted_text (bytes_of owner)) (quoted_text (bytes_of datum)))
      (by.long receipt.note)
      ∙ ap (λ (o : List ℕ). text (number_words receipt.id) (status_words receipt.status) (number_words receipt.note) o (quoted_text (bytes_of datum)))
      (by.quoted owner)
      ∙ ap (λ (d : List ℕ). text (number_words receipt.id) (status_words receipt.status) (number_words receipt.note) (quoted_text owner) d) (by.quoted datum)

  receipt_prints : (n : ℕ) (names : List (List ℕ)) (receipt : Receipt) (birth : Option Birth)
      → all_told_text n (receipt_told names receipt birth) ≡ receipt_text n names receipt birth
  receipt_prints n names receipt (Some birth) = append-nil _ ∙ cleanup_prints n receipt (unwrap_or (slice_get names birth.owner) []) birth.name
  receipt_prints n names receipt None = refl

  filed_prints : (n : ℕ) (names : List (List ℕ)) (births : List Birth) (filed : List Filed)
      → all_told_text n (flat_map (filed_told names births) filed) ≡ flat_map (filed_text n names births) filed
  filed_prints n names births [] = refl
  filed_prints n names births (f ∷ fs) =
      flat_map-append (told_text n) (filed_told names births f) (flat_map (filed_told names births) fs)
      ∙ ap (λ (t : List ℕ). t ++ all_told_text n (flat_map (filed_told names births) fs)) (receipt_prints n names f.receipt (slice_get births f.receipt.id))
      ∙ ap (λ (t : List ℕ). filed_text n names births f ++ t) (filed_prints n names births fs)

  waited_prints : (n : ℕ) (wait : Option Wait) → all_told_text n (waited_told wait) ≡ waited_text n wait
  waited_prints n (Some wait) =
      let text : List ℕ → List ℕ → List ℕ = λ a m. decimal n ++ (codes " wait "
      ++ (code_words wait.code ++ (codes " " ++ (a ++ (codes " " ++ (m ++ codes "\n")))))) in
      append-nil (text (number_words (long_of wait.asked)) (number_words (long_of wait.wait)))
      ∙ ap (λ (a : List ℕ). text a (number_words (long_of wait.wait))) (by.long wait.asked)
      ∙ ap (λ (m : List ℕ). text (number_words wait.asked) m) (by.long wait.wait)
  waited_prints n None = refl

  answer_prints : (n : ℕ) (command : List ℕ) (answer : Answer) → answer_prints_as n command answer (shown_of answer) ≡ answer_text n command answer
  answer_prints n command (answers.Code code) = refl
  answer_prints n command (answers.Refused fault) =
      ap (λ (q : List ℕ). words_text n command (codes "refused " ++ (q ++
      (codes " " ++ (number_words (long_of fault.line) ++ (codes " " ++ (fault_name fault.kind ++ (codes " " ++ decimal (fault_number fault.kind)))))))))
      (by.quoted fault.file)
      ∙ ap (λ (l : List ℕ). words_text n command (codes "refused " ++ (quoted_text fault.file
      ++ (codes " " ++ (l ++ (codes " " ++ (fault_name fault.kind ++ (codes " " ++ decimal (fault_number fault.kind))))))))) (by.long fault.line)
  answer_prints n command (answers.Value (Some text)) = ap (λ (q : List ℕ). words_text n command (codes "set " ++ q)) (by.quoted text)
  answer_prints n command (answers.Value None) = refl
  answer_prints n command (answers.List variables) = ap (λ (t : List ℕ). t ++ words_text n command (number_words (long_of (length variables))))
      (variables_print n variables)
      ∙ ap (λ (c : List ℕ). flat_map (variable_text n) variables ++ words_text n command c) (by.long (length variables))
  answer_prints n command answers.NotOpen = refl
  answer_prints n command answers.AlreadyOpen = refl
  answer_prints n command answers.BadNumber = refl
  answer_prints n command (answers.Pending func) = refl
  answer_prints n command answers.Nothing = refl

  -- a step's text, if it has a result
  shown_prints : (names : List (List ℕ)) (step : Step) (outcome : PlainOutcome) (ledger : PlainLedger) (shown : Option Shown) (x : Shown)
      → shown ≡ Some x → answer_prints_as step.number (command_word (command_of step.call)) outcome.answer shown
      ≡ answer_text step.number (command_word (command_of step.call)) outcome.answer
      → blocks_text (blocks_by step.number (command_of step.call) (all_told names outcome ledger) shown) ≡ step_text names step outcome ledger
  shown_prints names step outcome ledger None x is prints = absurd (cc)
  shown_prints names step outcome ledger (Some shown) x is prints =
      let n : ℕ = step.number in
      let word : List ℕ = command_word (command_of step.call) in
      append-nil _
      ∙ joined n _ _ _ _ _ (messages_print n outcome.said)
      (joined n _ _ _ _ _ (flat_map-map (told_text n) visit_told outcome.trail)
      (joined n _ _ _ _ _ (filed_prints n names ledger.births (drop outcome.filed_from ledger.filed))
      (joined n _ _ _ _ _ (waited_prints n outcome.wait)
      (joined n _ _ _ _ _ (missing_print n outcome.missing) prints))))
      ∙ ap (λ (command : List ℕ). messages_text n outcome.said ++ (visits_text n outcome.trail
      ++ (cleanups_text n names ledger outcome.filed_from ++ (waited_text n outcome.wait
      ++ (all_missing_text n outcome.missing ++ answer_text n command outcome.answer)))))
      (word_is step.call)

  -- A step with a result is reported by its block.
  pub reports_print : (names : List (List ℕ)) (step : Step) (outcome : PlainOutcome) (ledger : PlainLedger) (x : Shown) → shown_of outcome.answer ≡ Some x
      → blocks_text (reported names step outcome ledger) ≡ step_text names step outcome ledger
  reports_print names step outcome ledger x is =
      shown_prints names step outcome ledger (shown_of outcome.answer) x is (answer_prints step.number (command_word (command_of step.call)) outcome.answer)

  -- the same for a transaction that the program ended
  pub closings_print : (names : List (List ℕ)) (handle : ℕ) (status : Code) (ledger : PlainLedger) (filed_from : ℕ)
      → block_text (closing_reported names handle status ledger filed_from) ≡ closing_text names handle status ledger filed_from
  closings_print names handle status ledger filed_from =
      ap (λ (t : List ℕ). t ++ words_text handle (codes "closed") (code_words status)) (filed_prints handle names ledger.births (drop filed_from ledger.filed))
