-- The report of a whole run fits.
use Rattle.std.proofs.Common.{◌≡◌, ℕ, zero, suc, ◌+◌, ◌^◌, List, [], ◌∷◌, ◌++◌, length, replicate, drop, slice_get, slice_set, Option, Some}
use Rattle.std.proofs.Common.{Ok, refl, sym, ◌∙◌, ap, subst, append_assoc, add-one, arith}
use Rattle.std.proofs.lemmas.List.{length-map}
use Rattle.std.specs.Option.{option_map}
use Rattle.std.proofs.lemmas.Grind.{flat_map-append}
use Rattle.pam_base.specs.declared.code.Code.{Code}
use Rattle.pam_base.specs.declared.fault.ScriptKind.{ScriptKind}
use Rattle.record_reader.specs.declared.ending.Ending.TheVariants.{Done, ReadFault, Refused}
use Rattle.record_reader.specs.Run.{come_to, run_of}
use Rattle.record_reader.specs.LineRun.{Run, run_lines}
use Rattle.record_reader.specs.LineTurns.{Ending, Reports}
use Rattle.dispatch_core.specs.Lines.{names_of}
use Rattle.pam_room.specs.Module.{Player}
use Rattle.pam_room.specs.State.{PlainWorld}
use Rattle.service_load.specs.Stacks.{Stacks}
use Rattle.pam_library.specs.Slots.{PlainSlot, closed, opened, slot_at, with_slot}
use Rattle.cmd_run.specs.State.{Setting, RunState}
use Rattle.cmd_run.specs.Step.{line_step, Fails}
use Rattle.cmd_run.specs.Closings.{world_after, text_of_end, closings_after, closings, closings_text}
use Rattle.cmd_run.specs.Whole.{ending_status, last_line}
use Rattle.handler_chain.specs.Retell.{RecordedLine}
use Rattle.report_lines.specs.Line.{Block, closed_by_program, block_text, blocks_text, last_text, AreBlocks, IsLast}
use Rattle.session_audit.specs.Fits.{SlotLog, shut, running, with_place, all_shut, fold_on, fold, after_block, after_at, after_result, with_after}
use Rattle.session_audit.specs.Sound.{ArePrintable, AreSound}
use Rattle.pam_handle.specs.StackCalls.{held_in}
use Rattle.laws_audit.specs.Report.{closing_reported}
use Rattle.laws_audit.specs.Step.{place_of, places_of, HaveStacks}
use Rattle.laws_audit.specs.Run.{run_blocks, lines_looked, closing_blocks, last_of, RunsFitIf, ScriptsFitIf}
use Rattle.laws_audit.proofs.PrintedBlockFacts.{closings_print}
use Rattle.laws_audit.proofs.LibraryStepFacts.{place_at-of, with_place-of, filed_visits}
use Rattle.std.specs.Fmt.{decimal}
use Rattle.std.specs.Prelude.{codes}
use Rattle.std.proofs.lemmas.Nat.{mod_below}
use Rattle.pam_base.specs.Fault.{script_fault_number, script_fault_name}
use Rattle.session_audit.proofs.StackLineFacts.{fits_seen}
use Rattle.laws_audit.proofs.OutOfRangeFacts.{by_remainders}
use Rattle.laws_audit.specs.Ranges.{ByRemainders}
use Rattle.laws_audit.proofs.BlockRangeFacts.{blocks_whole, both_formed, run_formed, closings_formed, fold_length}
use Rattle.laws_audit.proofs.OpenStackFacts.{starts_have}
use Rattle.laws_audit.proofs.RunReportFacts.{fold-append, LinesFit, lines_fit}

-- ---- the place after some others

get_after : (front : List PlainSlot) (x : PlainSlot) (slots : List PlainSlot) → slice_get (front ++ x ∷ slots) (length front) ≡ Some x
get_after [] x slots = refl
get_after (y ∷ front) x slots = get_after front x slots

set_past : (front : List PlainSlot) (x y : PlainSlot) (slots : List PlainSlot) → slice_set (front ++ x ∷ slots) (length front) y ≡ front ++ y ∷ slots
set_past [] x y slots = refl
set_past (z ∷ front) x y slots = ap (λ (xs : List PlainSlot). z ∷ xs) (set_past front x y slots)

slot_after : (front : List PlainSlot) (x : PlainSlot) (slots : List PlainSlot) → slot_at (front ++ x ∷ slots) (length front + 1) ≡ Some x
slot_after front x slots = ap (slot_at (front ++ x ∷ slots)) (add-one (length front)) ∙ get_after front x slots

with_after_slot : (front : List PlainSlot) (x y : PlainSlot) (slots : List PlainSlot)
    → with_slot (front ++ x ∷ slots) (length front + 1) y ≡ front ++ y ∷ slots
with_after_slot front x y slots = ap (λ (n : ℕ). with_slot (front ++ x ∷ slots) n y) (add-one (length front)) ∙ set_past front x y slots

module _ (players : List Player) (status : Code) (stacks : Stacks) where
  -- what follows fits, and leads to some places
  record FitsOn (places : List SlotLog) (blocks : List Block) : Type 0 where
    new_logs : List SlotLog
    fits : fold stacks places blocks ≡ Some new_logs

  moved : (front slots : List PlainSlot) (x : PlainSlot) (blocks : List Block) → FitsOn (places_of ((front ++ x ∷ []) ++ slots)) blocks
      → FitsOn (places_of (front ++ x ∷ slots)) blocks
  moved front slots x blocks f = subst (λ (l : List PlainSlot). FitsOn (places_of l) blocks) (append_assoc front (x ∷ []) slots) f

  one_closed : (front slots : List PlainSlot) (h : _) (y : PlainSlot) (w v : PlainWorld) → place_of y ≡ shut
      → (let b = closing_reported (names_of players) (length front + 1) status v.process.ledger (length w.process.ledger.filed) in
      after_block stacks (places_of (front ++ opened h ∷ slots)) b ≡ Some (places_of (front ++ y ∷ slots)))
  one_closed front slots h y w v is =
      let slots' : List PlainSlot = front ++ opened h ∷ slots in
      let b : Block = closing_reported (names_of players) (length front + 1) status v.process.ledger (length w.process.ledger.filed) in
      ap (after_at stacks (places_of slots') b) (place_at-of slots' (length front + 1) ∙ ap (option_map place_of) (slot_after front (opened h) slots))
      ∙ ap (λ (vs : List RecordedLine). with_after stacks (places_of slots') (length front + 1)
      (after_result stacks (running (held_in h)) vs (closed_by_program status)))
      (filed_visits (names_of players) v.process.ledger.births (drop (length w.process.ledger.filed) v.process.ledger.filed))
      ∙ ap (λ (p : SlotLog). Some (with_place (places_of slots') (length front + 1) p)) (sym is)
      ∙ ap (λ (x : List SlotLog). Some x) (with_place-of slots' (length front + 1) y ∙ ap places_of (with_after_slot front (opened h) y slots))

  closings_fit : (front slots : List PlainSlot) (w : PlainWorld) → FitsOn (places_of (front ++ slots)) (closing_blocks players status front slots w)
  closings_fit front [] w = record { new_logs = places_of (front ++ []); fits = refl }
  closings_fit front (closed conv ∷ slots) w = moved front slots (closed conv) _ (closings_fit (front ++ closed conv ∷ []) slots w)
  closings_fit front (opened h ∷ slots) w =
      let v : PlainWorld = world_after players status h w in
      let y : PlainSlot = closed h.room.conv in
      let rest : FitsOn (places_of (front ++ y ∷ slots)) (closing_blocks players status (front ++ y ∷ []) slots v) =
      moved front slots y _ (closings_fit (front ++ y ∷ []) slots v) in
      record {
        new_logs = rest.new_logs;
        fits = ap (λ (x : Option (List SlotLog)). fold_on stacks x (λ p. fold stacks p (closing_blocks players status (front ++ y ∷ []) slots v)))
            (one_closed front slots h y w v refl) ∙ rest.fits;
      }

  closings_print_all : (by : ByRemainders) (front slots : List PlainSlot) (w : PlainWorld)
      → blocks_text (closing_blocks players status front slots w) ≡ closings_text (closings_after players status front slots w)
  unfolding closings_after
  closings_print_all by front [] w = refl
  closings_print_all by front (closed conv ∷ slots) w = closings_print_all by (front ++ closed conv ∷ []) slots w
  closings_print_all by front (opened h ∷ slots) w =
      let v : PlainWorld = world_after players status h w in
      let text : List ℕ = blocks_text (closing_blocks players status (front ++ closed h.room.conv ∷ []) slots v) in
      ap (λ (t : List ℕ). t ++ text) (closings_print by (names_of players) (length front + 1) status v.process.ledger (length w.process.ledger.filed))
      ∙ ap (λ (t : List ℕ). text_of_end players status (length front + 1) w v ++ t) (closings_print_all by (front ++ closed h.room.conv ∷ []) slots v)

-- ---- the start

sound_shut : (stacks : Stacks) (n : ℕ) → AreSound stacks (replicate n shut)
sound_shut stacks zero = tt
sound_shut stacks (suc n) = (tt, sound_shut stacks n)

shut_stacks : (stacks : Stacks) (slots : List PlainSlot) (n : ℕ) → places_of slots ≡ replicate n shut → HaveStacks stacks slots
shut_stacks stacks [] n is = tt
shut_stacks stacks (closed conv ∷ slots) zero is = absurd (cc)
shut_stacks stacks (closed conv ∷ slots) (suc n) is = (tt, shut_stacks stacks slots n (let e : places_of slots ≡ replicate n shut = cc in e))
shut_stacks stacks (opened h ∷ slots) zero is = absurd (cc)
shut_stacks stacks (opened h ∷ slots) (suc n) is = absurd (let e : running (held_in h) ≡ shut = cc in let f : ⊥ = cc in f)

-- ---- the whole run

last_prints : (by : ByRemainders) (ending : Ending) (n : ℕ) → last_line ending n ≡ last_text (last_of ending n)
last_prints by Done n = refl
last_prints by ReadFault n = refl
last_prints by (Refused kind) n =
    sym (ap (λ (l : List ℕ). codes "script " ++ (l ++ (codes " " ++ (script_fault_name kind
    ++ (codes " " ++ (decimal (script_fault_number kind) ++ codes "\n")))))) (by.long (n + 1)))

last_ends : (ending : Ending) (n : ℕ) → IsLast (last_of ending n)
last_ends Done n = tt
last_ends ReadFault n = tt
last_ends (Refused kind) n = mod_below (n + 1) (2 ^ 64) (omega arith)

record Comes (setting : Setting) (lines : List (List ℕ)) (start last : RunState) (n : ℕ) (body : List ℕ) : Type 0 where
  refused : Option ScriptKind
  is : run_lines (line_step setting) 0 start lines ≡ come_to body last n refused

comes : (setting : Setting) (ending : Ending) (n : ℕ) (start last : RunState) (input taken left body : List ℕ)
    → Reports (line_step setting) (Fails setting) (Ok ending) n start last input taken left body
    → Comes setting (lines_looked setting ending input taken) start last n body
unfolding run_of
comes setting Done n start last input taken left body reports = record { refused = _; is = reports.1 }
comes setting ReadFault n start last input taken left body reports = record { refused = _; is = reports }
comes setting (Refused kind) n start last input taken left body reports = record { refused = _; is = reports.0 }

pub runs_fit : (AreSuch : Stacks → Type 0) (prints : (stacks : Stacks) → AreSuch stacks → ArePrintable stacks) → RunsFitIf AreSuch
runs_fit AreSuch prints setting stacks ending start end input taken left text e such shuts finds =
    let printable : ArePrintable stacks = prints stacks such in
    let by : ByRemainders = by_remainders in
    let ls : List (List ℕ) = lines_looked setting ending input taken in
    let c : Comes setting ls start e.last e.lines e.body = comes setting ending e.lines start e.last input taken left e.body e.comes in
    let have : HaveStacks stacks start.slots = shut_stacks stacks start.slots 16 shuts in
    let sound : AreSound stacks (places_of start.slots) = subst (AreSound stacks) (sym shuts) (sound_shut stacks 16) in
    let r : LinesFit by setting stacks start (run_lines (line_step setting) 0 start ls) (run_blocks setting 0 start ls) =
    lines_fit by setting stacks 0 start ls have sound (starts_have setting stacks 0 start ls have finds) in
    let first : fold stacks all_shut (run_blocks setting 0 start ls) ≡ Some (places_of e.last.slots) =
    ap (λ (p : List SlotLog). fold stacks p (run_blocks setting 0 start ls)) (sym shuts) ∙ r.fits
    ∙ ap (λ (x : Run RunState). Some (places_of x.last.slots)) c.is in
    let body : blocks_text (run_blocks setting 0 start ls) ≡ e.body = r.text ∙ ap (λ (x : Run RunState). x.text) c.is in
    let closes : List Block = closing_blocks setting.players (ending_status ending) [] e.last.slots e.last.world in
    let f : FitsOn setting.players (ending_status ending) stacks (places_of e.last.slots) closes =
    closings_fit setting.players (ending_status ending) stacks [] e.last.slots e.last.world in
    let printed : blocks_text (run_blocks setting 0 start ls ++ closes) ≡ e.body ++ closings_text (closings setting.players (ending_status ending) e.last) =
    flat_map-append block_text (run_blocks setting 0 start ls) closes ∙ ap (λ (t : List ℕ). t ++ blocks_text closes) body
    ∙ ap (λ (t : List ℕ). e.body ++ t) (closings_print_all setting.players (ending_status ending) stacks by [] e.last.slots e.last.world) in
    let sixteen : length e.last.slots ≡ 16 = sym (length-map e.last.slots place_of)
    ∙ fold_length stacks all_shut (run_blocks setting 0 start ls) (places_of e.last.slots) first in
    let whole : fold stacks all_shut (run_blocks setting 0 start ls ++ closes) ≡ Some f.new_logs =
    fold-append stacks all_shut (run_blocks setting 0 start ls) closes (places_of e.last.slots) first ∙ f.fits in
    let all_formed : AreBlocks (run_blocks setting 0 start ls ++ closes) =
    blocks_whole (run_blocks setting 0 start ls ++ closes) (both_formed (run_blocks setting 0 start ls) closes (run_formed setting 0 start ls)
    (closings_formed setting.players (ending_status ending) [] e.last.slots e.last.world 16 sixteen (omega arith)))
    (fits_seen stacks all_shut (run_blocks setting 0 start ls ++ closes) f.new_logs printable whole) in
    record {
      blocks = run_blocks setting 0 start ls ++ closes;
      last = last_of ending e.lines;
      printed = e.whole ∙ sym (append_assoc e.body (closings_text (closings setting.players (ending_status ending) e.last)) (last_line ending e.lines))
          ∙ ap (λ (t : List ℕ). t ++ last_line ending e.lines) (sym printed)
          ∙ ap (λ (t : List ℕ). blocks_text (run_blocks setting 0 start ls ++ closes) ++ t) (last_prints by ending e.lines);
      formed = all_formed;
      ended = last_ends ending e.lines;
      places = f.new_logs;
      fits = whole;
    }

pub scripts_fit : (AreSuch : Stacks → Type 0) (prints : (stacks : Stacks) → AreSuch stacks → ArePrintable stacks) → ScriptsFitIf AreSuch
scripts_fit AreSuch prints setting stacks ending start end x y p q r such shuts finds =
    (r.sink, runs_fit AreSuch prints setting stacks ending start end x.left r.taken y.left r.text r.outcome such shuts finds)
