-- The text of a report's stack calls (this project's own), block by block, with what each
-- transaction holds before the block.
use Rattle.std.specs.Prelude.{◌≡◌, ℕ, if◌then◌else◌, Bool, true, false, List, [], ◌∷◌, ◌++◌, map, string_bytes, Option, Some, None}
use Rattle.pam_base.specs.declared.code.Code.{Code}
use Rattle.pam_base.specs.declared.call.Func.{Func}
use Rattle.service_load.specs.Stacks.{Stacks}
use Rattle.handler_chain.specs.Retell.{RecordedLine, telling}
use Rattle.pass_replay.specs.dispatch_core.specs.Calls.{Held}
use Rattle.report_lines.specs.Line.{ToldLine, shows_code, runs, Result, answered, closed_by_program, block_of}
use Rattle.report_lines.specs.Says.{Says, tells, results, lasts}
use Rattle.session_audit.specs.Checked.{told_in, place_of}
use Rattle.session_audit.specs.Fits.{SlotLog, shut, running, place_at, visits_told, is_refused_change, after_block}
use Rattle.explain_lines.specs.Origins.{Sources}
use Rattle.explain_report.specs.declared.explainer.Explainer.{Explainer}
use Rattle.explain_calls.specs.Calls.{call_text, refused_text}

module _ (stacks : Stacks) (sources : Sources) where
  -- a stack call of a transaction, with its code
  abbrev pub called_text : ℕ → Func → Code → Held → List RecordedLine → List ℕ
  called_text number func code h vs =
      if is_refused_change func code vs then refused_text number
      else call_text stacks sources number func h (telling vs)

  -- a block; only a stack call with a code of an open transaction has a text
  abbrev pub block_text : ℕ → Option SlotLog → List RecordedLine → Result → List ℕ
  block_text number (Some (running h)) vs (answered (runs func) (shows_code code)) =
      called_text number func code h vs
  block_text number place vs result = []

  abbrev pub text_after : Option (List SlotLog) → (List SlotLog → List ℕ) → List ℕ
  text_after None next = []
  text_after (Some places) next = next places

  -- the text of some lines, after these slots and the lines of the block that has begun
  abbrev pub explained_from : List SlotLog → List ToldLine → List (Option Says) → List ℕ
  explained_from places told [] = []
  explained_from places told (None ∷ lines) = []
  explained_from places told (Some (lasts last) ∷ lines) = []
  explained_from places told (Some (tells number t) ∷ lines) =
      explained_from places (told ++ t ∷ []) lines
  explained_from places told (Some (results number result) ∷ lines) =
      block_text number (place_at places number) (visits_told told) result
      ++ text_after (after_block stacks places (block_of number told result))
      (λ new_logs. explained_from new_logs [] lines)

  -- what an explainer still has to write for some lines
  abbrev pub left_of : Explainer → List (Option Says) → List ℕ
  left_of e lines = explained_from (map place_of e.places.items) (told_in e.told.items) lines

  -- a line was taken: its text was added, and it goes on or ends there
  abbrev pub Takes : Explainer → Option Says → Bool → Explainer → Type 0
  Takes old line true new = (lines : List (Option Says)) →
      string_bytes old.text ++ left_of old (line ∷ lines)
      ≡ string_bytes new.text ++ left_of new lines
  Takes old line false new = (lines : List (Option Says)) →
      string_bytes old.text ++ left_of old (line ∷ lines) ≡ string_bytes new.text
