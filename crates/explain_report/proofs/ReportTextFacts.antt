-- The text of a report, line after line.
use Rattle.std.proofs.Common.{◌≡◌, ℕ, suc, ◌+◌, ◌-◌, ◌<◌, ◌≤◌, Bool, true, false, if◌then◌else◌, List, [], ◌∷◌, ◌++◌, map, length, get_or}
use Rattle.std.proofs.Common.{Option, Some, None, refl, sym, ◌∙◌, ap, append_assoc, append-nil}
use Rattle.std.specs.Prelude.{string_bytes}
use Rattle.std.specs.Option.{option_map}
use Rattle.std.proofs.lemmas.List.{map-append}
use Rattle.std.proofs.lemmas.Option.{slice_get-map}
use Rattle.pam_base.specs.declared.code.Code.{Code}
use Rattle.pam_base.specs.declared.call.Func.{Func}
use Rattle.service_load.specs.Stacks.{Stacks}
use Rattle.handler_chain.specs.Retell.{telling, RecordedLine as Visit}
use Rattle.pass_replay.specs.dispatch_core.specs.Calls.{Held}
use Rattle.pass_replay.specs.Told.{visits_in}
use Rattle.handler_chain.specs.declared.seen.RecordedLine.{RecordedLine}
use Rattle.report_lines.specs.Line.{ToldLine, Result, block_of}
use Rattle.report_lines.specs.declared.form.Form.{Form}
use Rattle.report_lines.specs.declared.form.Form.TheVariants as forms
use Rattle.report_lines.specs.declared.form.ReportedOutcome.{ReportedOutcome}
use Rattle.report_lines.specs.Form.{told_of, result_of, says_of}
use Rattle.report_lines.specs.Says.{Says, tells, results}
use Rattle.session_audit.specs.Checked.{told_in, place_of}
use Rattle.session_audit.specs.Fits.{SlotLog, place_at, visits_told, is_refused_change, after_block}
use Rattle.session_audit.specs.declared.place.SlotLog as held
use Rattle.session_audit.specs.Whole.{formless}
use Rattle.session_audit.proofs.CheckedBlockFacts.{visits_are}
use Rattle.session_audit.proofs.FirstDifferenceFacts.{get_some}
use Rattle.explain_calls.specs.Calls.{call_text, refused_text}
use Rattle.explain_lines.specs.Origins.{Sources}
use Rattle.explain_report.specs.declared.explainer.Explainer.{Explainer}
use Rattle.explain_report.specs.Report.{Takes, block_text, called_text, explained_from, left_of, text_after}

module _ (stacks : Stacks) (sources : Sources) where
  -- a line before the result
  pub told_more : (places : List SlotLog) (told more : List (Option RecordedLine)) (visit : Option RecordedLine) (lines : List (Option Says)) → more ≡ told ++ visit ∷ []
      → explained_from stacks sources places (told_in told ++ told_of visit ∷ []) lines ≡ explained_from stacks sources places (told_in more) lines
  told_more places told more visit lines is =
      ap (λ (ts : List ToldLine). explained_from stacks sources places ts lines) (sym (map-append told_of told (visit ∷ [])) ∙ ap told_in (sym is))

  -- a result that fits
  pub result_fits : (number : ℕ) (places new_logs : List SlotLog) (told : List ToldLine) (result : Result) (text after : List ℕ) (lines : List (Option Says))
      → after ≡ text ++ block_text stacks sources number (place_at places number) (visits_told told) result
      → after_block stacks places (block_of number told result) ≡ Some new_logs
      → text ++ explained_from stacks sources places told (Some (results number result) ∷ lines) ≡ after ++ explained_from stacks sources new_logs [] lines
  result_fits number places new_logs told result text after lines adds fits =
      let own : List ℕ = block_text stacks sources number (place_at places number) (visits_told told) result in
      let left : List SlotLog → List ℕ = λ next. explained_from stacks sources next [] lines in
      ap (λ (next : Option (List SlotLog)). text ++ (own ++ text_after stacks sources next left)) fits
      ∙ sym (append_assoc text own (left new_logs)) ∙ ap (λ (xs : List ℕ). xs ++ left new_logs) (sym adds)

  -- a result that doesn't
  pub result_differs : (number : ℕ) (places : List SlotLog) (told : List ToldLine) (result : Result) (text after : List ℕ) (lines : List (Option Says))
      → after ≡ text ++ block_text stacks sources number (place_at places number) (visits_told told) result
      → after_block stacks places (block_of number told result) ≡ None
      → text ++ explained_from stacks sources places told (Some (results number result) ∷ lines) ≡ after
  result_differs number places told result text after lines adds differs =
      let own : List ℕ = block_text stacks sources number (place_at places number) (visits_told told) result in
      let left : List SlotLog → List ℕ = λ next. explained_from stacks sources next [] lines in
      ap (λ (next : Option (List SlotLog)). text ++ (own ++ text_after stacks sources next left)) differs
      ∙ ap (λ (xs : List ℕ). text ++ xs) (append-nil own) ∙ sym adds

  -- ---- what is left to write

  pub takes_told : (old new : Explainer) (form : Option Form) (line : Option Says) (number : ℕ) (visit : Option RecordedLine) → option_map says_of form ≡ line
      → form ≡ Some (forms.Told number visit)
      → string_bytes new.text ≡ string_bytes old.text → new.places.items ≡ old.places.items → new.told.items ≡ old.told.items ++ visit ∷ []
      → Takes stacks sources old line true new
  takes_told old new form line number visit read is text places told = λ lines.
      let line_is : line ≡ Some (tells number (told_of visit)) = sym read ∙ ap (option_map says_of) is in
      ap (λ (l : Option Says). string_bytes old.text ++ left_of stacks sources old (l ∷ lines)) line_is
      ∙ ap (λ (xs : List ℕ). string_bytes old.text ++ xs) (told_more (map place_of old.places.items) old.told.items new.told.items visit lines told)
      ∙ ap (λ ps. string_bytes old.text ++ explained_from stacks sources (map place_of ps) (told_in new.told.items) lines) (sym places)
      ∙ ap (λ (xs : List ℕ). xs ++ left_of stacks sources new lines) (sym text)

  pub takes_last : (old new : Explainer) (form : Option Form) (line : Option Says) → option_map says_of form ≡ line → form ≡ Some forms.Last
      → string_bytes new.text ≡ string_bytes old.text → Takes stacks sources old line false new
  takes_last old new form line read is text = λ lines.
      let line_is : line ≡ option_map says_of (Some forms.Last) = sym read ∙ ap (option_map says_of) is in
      ap (λ (l : Option Says). string_bytes old.text ++ left_of stacks sources old (l ∷ lines)) line_is
      ∙ append-nil (string_bytes old.text) ∙ sym text

  pub takes_none : (old new : Explainer) (form : Option Form) (line : Option Says) → option_map says_of form ≡ line → form ≡ None
      → string_bytes new.text ≡ string_bytes old.text → Takes stacks sources old line false new
  takes_none old new form line read is text = λ lines.
      let line_is : line ≡ None = sym read ∙ ap (option_map says_of) is in
      ap (λ (l : Option Says). string_bytes old.text ++ left_of stacks sources old (l ∷ lines)) line_is
      ∙ append-nil (string_bytes old.text) ∙ sym text

  pub takes_fits : (old new : Explainer) (number : ℕ) (outcome : ReportedOutcome)
      → string_bytes new.text ≡ string_bytes old.text ++ block_text stacks sources number (place_at (map place_of old.places.items) number)
      (visits_told (told_in old.told.items)) (result_of outcome)
      → after_block stacks (map place_of old.places.items) (block_of number (told_in old.told.items) (result_of outcome))
      ≡ Some (map place_of new.places.items)
      → new.told.items ≡ [] → Takes stacks sources old (Some (results number (result_of outcome))) true new
  takes_fits old new number outcome adds fits none = λ lines.
      result_fits number (map place_of old.places.items) (map place_of new.places.items) (told_in old.told.items) (result_of outcome) (string_bytes old.text)
      (string_bytes new.text) lines adds fits
      ∙ ap (λ (ts : List (Option RecordedLine)). string_bytes new.text ++ explained_from stacks sources (map place_of new.places.items) (told_in ts) lines) (sym none)

  pub takes_differs : (old new : Explainer) (number : ℕ) (outcome : ReportedOutcome)
      → string_bytes new.text ≡ string_bytes old.text ++ block_text stacks sources number (place_at (map place_of old.places.items) number)
      (visits_told (told_in old.told.items)) (result_of outcome)
      → after_block stacks (map place_of old.places.items) (block_of number (told_in old.told.items) (result_of outcome)) ≡ None
      → Takes stacks sources old (Some (results number (result_of outcome))) false new
  takes_differs old new number outcome adds differs = λ lines.
      result_differs number (map place_of old.places.items) (told_in old.told.items) (result_of outcome) (string_bytes old.text) (string_bytes new.text) lines
      adds differs

  -- ---- a stack call

  pub call_refused : (number : ℕ) (func : Func) (code : Code) (h : Held) (vs : List Visit) → is_refused_change func code vs ≡ true
      → refused_text number ≡ called_text stacks sources number func code h vs
  call_refused number func code h vs is = ap (λ (b : Bool). if b then refused_text number else call_text stacks sources number func h (telling vs)) (sym is)

  pub call_goes : (number : ℕ) (func : Func) (code : Code) (h : Held) (told : List (Option RecordedLine))
      → is_refused_change func code (visits_told (told_in told)) ≡ false
      → call_text stacks sources number func h (telling (visits_in told)) ≡ called_text stacks sources number func code h (visits_told (told_in told))
  call_goes number func code h told is =
      ap (λ (vs : List Visit). call_text stacks sources number func h (telling vs)) (sym (visits_are told))
      ∙ ap (λ (b : Bool). if b then refused_text number else call_text stacks sources number func h (telling (visits_told (told_in told)))) (sym is)

  -- ---- at the end

  -- bytes after the last newline have no text
  pub nothing_left : (e : Explainer) (rest : List ℕ) → left_of stacks sources e (formless rest) ≡ []
  nothing_left e [] = refl
  nothing_left e (b ∷ rest) = refl

-- the place of a number
pub at_place : (places : List held.SlotLog) (i number : ℕ) (p d : held.SlotLog) → number ≡ suc i → i < length places → p ≡ get_or places i d
    → Some (place_of p) ≡ place_at (map place_of places) number
at_place places i number p d is within read =
    sym (ap (place_at (map place_of places)) is ∙ slice_get-map place_of places i ∙ ap (option_map place_of) (get_some places i p d within read))
