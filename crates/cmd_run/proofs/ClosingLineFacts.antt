-- The lines with which a number is closed, in two runs that are alike for it; and all that both runs have in common.
use Rattle.std.proofs.Common.{◌≡◌, ℕ, zero, suc, ◌+◌, ◌≤◌, List, [], ◌∷◌, ◌++◌, length, take, drop, codes, Option, Some, None, slice_get}
use Rattle.std.proofs.Common.{refl, sym, ap, ◌∙◌, subst, arith, append_assoc}
use Rattle.std.proofs.Math.Path.{fun_ext}
use Rattle.std.proofs.Math.Seq.{take-append_seam}
use Rattle.std.specs.List.{flat_map, range_with_len}
use Rattle.std.specs.Option.{option_map}
use Rattle.pam_base.specs.declared.call.AppCall.TheVariants.{End}
use Rattle.pam_base.specs.declared.code.Code.{Code}
use Rattle.pam_base.specs.Code.{number_of}
use Rattle.data_cleanup.specs.Ledger.{PlainLedger}
use Rattle.data_cleanup.specs.declared.datum.Birth.{Birth}
use Rattle.data_cleanup.specs.declared.receipt.Filed.{Filed}
use Rattle.data_cleanup.specs.declared.receipt.Receipt.{Receipt}
use Rattle.report_step.specs.dispatch_core.specs.Lines.{names_of}
use Rattle.report_step.specs.pam_room.specs.State.{PlainWorld}
use Rattle.report_step.specs.pam_handle.specs.Handle.{PlainHandle}
use Rattle.report_step.specs.pam_library.specs.Alike.{Cleaned, ComeToSame, cleaned_after, slot_without_ids}
use Rattle.report_step.specs.pam_library.specs.Slots.{PlainSlot, closed, opened}
use Rattle.report_step.specs.pam_library.specs.Step.{Stepped, stepped, stepped_at}
use Rattle.report_step.specs.report_lines.specs.Line.{code_words, number_words, words_text}
use Rattle.report_step.specs.Cleaned.{receipt_text}
use Rattle.report_step.specs.Closing.{closing_text}
use Rattle.cmd_run.specs.Closings.{all_closed, closings, closings_after, closings_text, world_after}
use Rattle.cmd_run.specs.Isolation.{MadeStep, GoesAsAlone, IsQuietStart, LeaveFiles, all_closing_texts, alone, steps_among}
use Rattle.cmd_run.specs.Isolation.{closed_text_with, closing_text_with, closing_without_ids, filed_text_with, receipt_text_with}
use Rattle.cmd_run.specs.Isolation.{state_past, world_after_places, world_left}
use Rattle.cmd_run.specs.State.{RunState, Setting, state_of}
use Rattle.cmd_run.specs.Step.{line_step}
use Rattle.record_reader.specs.LineRun.{run_lines}
use Rattle.cmd_run.proofs.TwoRunsEndFacts.{at_front, closed_alike, end_step, ends_alike, ends_from, ends_next, left_after, one_longer}
use Rattle.cmd_run.proofs.IsolatedRunFacts.{Alike, GoAlike, OtherCalls, OwnCalls, cleaned_text, cleanups_seen, from_start, outcomes_seen, report_seen}

-- ---- slots in a list

splits : (slots : List PlainSlot) (k : ℕ) (x : PlainSlot) → slice_get slots k ≡ Some x → drop k slots ≡ x ∷ drop (suc k) slots
splits [] k x is = absurd cc
splits (y ∷ slots) zero x is = cc
splits (y ∷ slots) (suc k) x is = splits slots k x is

is_within : (slots : List PlainSlot) (k : ℕ) (x : PlainSlot) → slice_get slots k ≡ Some x → k ≤ length slots
is_within [] k x is = absurd cc
is_within (y ∷ slots) zero x is = omega arith
is_within (y ∷ slots) (suc k) x is = let rest : k ≤ length slots = is_within slots k x is in omega (arith, rest)

module _ (setting : Setting) (status : Code) where
  -- ---- some slots are ended, one after another

  record EndedUpTo (i k : ℕ) (s : RunState) (rest : List PlainSlot) (w : PlainWorld) : Type 0 where
    front : List PlainSlot
    long : length front ≡ i + k
    is : ends_from setting status i k s ≡ state_of (front ++ rest) w

  ends_some : (k i : ℕ) (front slots : List PlainSlot) (w : PlainWorld) → i ≡ length front → k ≤ length slots →
      EndedUpTo i k (state_of (front ++ slots) w) (drop k slots) (world_after_places setting.players status (take k slots) w)
  unfolding ends_from world_after_places
  ends_some zero i front slots w at fits = record { front = front; long = omega (arith, at); is = refl }
  ends_some (suc k) i front [] w at fits = absurd (omega arith)
  ends_some (suc k) i front (x ∷ slots) w at fits =
      let more : List PlainSlot = front ++ left_after setting status x ∷ [] in
      let v : PlainWorld = world_left setting.players status x w in
      let next : suc i ≡ length more = ap suc at ∙ sym (one_longer front (left_after setting status x)) in
      let rest : EndedUpTo (suc i) k (state_of (more ++ slots) v) (drop k slots) (world_after_places setting.players status (take k slots) v) =
      ends_some k (suc i) more slots v next (omega arith) in
      record {
        front = rest.front;
        long = omega (arith, rest.long);
        is =
            ap (ends_from setting status (suc i) k) (ends_next setting status x front slots i w at)
            ∙ ap (λ (l : List PlainSlot). ends_from setting status (suc i) k (state_of l v))
            (sym (append_assoc front (left_after setting status x ∷ []) slots))
            ∙ rest.is;
      }

  -- ---- what is written for a slot

  abbrev words_for : ℕ → Stepped → List ℕ
  words_for number t =
      flat_map (cleaned_text number (names_of setting.players)) (cleaned_after t.outcome.filed_from t.world.process.ledger)
      ++ words_text number (codes "closed") (code_words status)

  abbrev end_of : ℕ → List PlainSlot → PlainWorld → Stepped
  end_of k slots w = stepped setting.players setting.delay slots w (end_step setting status (suc k))

  written : (k : ℕ) (front rest : List PlainSlot) (h : PlainHandle) (w : PlainWorld) → k ≡ length front →
      closed_text_with setting.players status (λ (id : ℕ). []) (suc k) w (Some (opened h)) ≡ words_for (suc k) (end_of k (front ++ opened h ∷ rest) w)
  unfolding stepped
  written k front rest h w at =
      let slots : List PlainSlot = front ++ opened h ∷ rest in
      let found : slice_get slots k ≡ Some (opened h) = subst (λ (j : ℕ). slice_get slots j ≡ Some (opened h)) (sym at) (at_front front rest (opened h)) in
      let after : PlainLedger = (world_after setting.players status h w).process.ledger in
      ap (λ (text : List ℕ). text ++ words_text (suc k) (codes "closed") (code_words status))
      (cleanups_seen (suc k) (names_of setting.players) after.births (drop (length w.process.ledger.filed) after.filed))
      ∙ ap (λ (p : Option PlainSlot). words_for (suc k) (stepped_at setting.players setting.delay slots w (suc k) (End (number_of status)) p)) (sym found)

  module _ (k : ℕ) (own : OwnCalls) (other : OtherCalls) where
    abbrev place_of : RunState → PlainWorld
    place_of s = world_after_places setting.players status (take k s.slots) s.world

    abbrev text_by : RunState → Option PlainSlot → List ℕ
    text_by s p = closed_text_with setting.players status (λ (id : ℕ). []) (suc k) (place_of s) p

    record Reached (s : RunState) (x : PlainSlot) : Type 0 where
      front : List PlainSlot
      long : k ≡ length front
      is : ends_from setting status 0 k s ≡ state_of (front ++ x ∷ drop (suc k) s.slots) (place_of s)

    reached : (s : RunState) (x : PlainSlot) → slice_get s.slots k ≡ Some x → Reached s x
    reached s x at =
        let e : EndedUpTo 0 k s (drop k s.slots) (place_of s) = ends_some k 0 [] s.slots s.world refl (is_within s.slots k x at) in
        record {
          front = e.front;
          long = omega (arith, e.long);
          is = e.is ∙ ap (λ (l : List PlainSlot). state_of (e.front ++ l) (place_of s)) (splits s.slots k x at);
        }

    both_open : (s t : RunState) (h g : PlainHandle) → Alike setting (suc k) s t → slice_get s.slots k ≡ Some (opened h)
        → slice_get t.slots k ≡ Some (opened g) →
        text_by s (Some (opened h)) ≡ text_by t (Some (opened g))
    both_open s t h g alike first second =
        let a : Reached s (opened h) = reached s (opened h) first in
        let b : Reached t (opened g) = reached t (opened g) second in
        let ended : Alike setting (suc k) (ends_from setting status 0 k s) (ends_from setting status 0 k t) =
        ends_alike setting status (suc k) own other k 0 s t alike in
        let x : RunState = state_of (a.front ++ opened h ∷ drop (suc k) s.slots) (place_of s) in
        let y : RunState = state_of (b.front ++ opened g ∷ drop (suc k) t.slots) (place_of t) in
        let now : Alike setting (suc k) x y = subst (λ (z : RunState). Alike setting (suc k) x z) b.is
        (subst (λ (z : RunState). Alike setting (suc k) z (ends_from setting status 0 k t)) a.is ended) in
        let same : ComeToSame (suc k) (end_of k x.slots x.world) (end_of k y.slots y.world) =
        own setting.players setting.delay (end_step setting status (suc k)) x.slots y.slots x.world y.world now in
        written k a.front (drop (suc k) s.slots) h (place_of s) a.long
        ∙ ap (λ (cs : List Cleaned). flat_map (cleaned_text (suc k) (names_of setting.players)) cs ++ words_text (suc k) (codes "closed") (code_words status))
        same.cleaned
        ∙ sym (written k b.front (drop (suc k) t.slots) g (place_of t) b.long)

    by_places : (s t : RunState) (p q : Option PlainSlot) → Alike setting (suc k) s t → slice_get s.slots k ≡ p → slice_get t.slots k ≡ q →
        option_map slot_without_ids p ≡ option_map slot_without_ids q → text_by s p ≡ text_by t q
    by_places s t None None alike first second same = refl
    by_places s t None (Some (closed d)) alike first second same = absurd cc
    by_places s t None (Some (opened g)) alike first second same = absurd cc
    by_places s t (Some (closed c)) None alike first second same = absurd cc
    by_places s t (Some (closed c)) (Some (closed d)) alike first second same = refl
    by_places s t (Some (closed c)) (Some (opened g)) alike first second same = absurd cc
    by_places s t (Some (opened h)) None alike first second same = absurd cc
    by_places s t (Some (opened h)) (Some (closed d)) alike first second same = absurd cc
    by_places s t (Some (opened h)) (Some (opened g)) alike first second same = both_open s t h g alike first second

    place_alike : (s t : RunState) → Alike setting (suc k) s t → text_by s (slice_get s.slots k) ≡ text_by t (slice_get t.slots k)
    place_alike s t alike =
        subst (λ (q : Option PlainSlot). text_by s (slice_get s.slots k) ≡ text_by t q) refl
        (by_places s t (slice_get s.slots k) (slice_get t.slots k) alike refl refl alike.place)

  closing_alike : (number : ℕ) → OwnCalls → OtherCalls → (s t : RunState) → Alike setting number s t →
      closing_without_ids setting.players status s number ≡ closing_without_ids setting.players status t number
  closing_alike zero own other s t alike = refl
  closing_alike (suc k) own other s t alike = place_alike k own other s t alike

  -- ---- the lines of all implicit ends are those of each number, in order

  plain_words : (number : ℕ) (ledger : PlainLedger) (n : ℕ) →
      closing_text (names_of setting.players) number status ledger n
      ≡ flat_map (filed_text_with number_words number (names_of setting.players) ledger.births) (drop n ledger.filed)
      ++ words_text number (codes "closed") (code_words status)
  plain_words number ledger n =
      ap (λ (f : Filed → List ℕ). flat_map f (drop n ledger.filed) ++ words_text number (codes "closed") (code_words status))
      (fun_ext (λ (f : Filed). by f.receipt (slice_get ledger.births f.receipt.id)))
    where
      by : (r : Receipt) (found : Option Birth)
          → receipt_text number (names_of setting.players) r found ≡ receipt_text_with number_words number (names_of setting.players) r found
      by r None = refl
      by r (Some b) = refl

  after_one : (front : List PlainSlot) (x : PlainSlot) (w : PlainWorld) →
      world_after_places setting.players status (front ++ x ∷ []) w ≡ world_left setting.players status x (world_after_places setting.players status front w)
  unfolding world_after_places
  after_one [] x w = refl
  after_one (y ∷ front) x w = after_one front x (world_left setting.players status y w)

  -- a slot, and those after it
  abbrev place_text : ℕ → PlainWorld → PlainSlot → List ℕ
  place_text number w x = closed_text_with setting.players status number_words number w (Some x)

  one_place : (i : ℕ) (x : PlainSlot) (front slots : List PlainSlot) (w : PlainWorld) → i ≡ length front →
      closings_text (closings_after setting.players status front (x ∷ slots) w)
      ≡ place_text (suc i) w x ++ closings_text (closings_after setting.players status (front ++ left_after setting status x ∷ []) slots
      (world_left setting.players status x w))
  unfolding closings_after
  one_place i (closed conv) front slots w at = refl
  one_place i (opened h) front slots w at =
      let after : PlainLedger = (world_after setting.players status h w).process.ledger in
      let number : length front + 1 ≡ suc i = omega (arith, at) in
      let rest : List ℕ = closings_text (closings_after setting.players status (front ++ closed h.room.conv ∷ []) slots
      (world_after setting.players status h w)) in
      ap (λ (m : ℕ). closing_text (names_of setting.players) m status after (length w.process.ledger.filed) ++ rest) number
      ∙ ap (λ (text : List ℕ). text ++ rest) (plain_words (suc i) after (length w.process.ledger.filed))

  texts_by_number : (slots front before : List PlainSlot) (i : ℕ) (w : PlainWorld) → i ≡ length front → i ≡ length before →
      closings_text (closings_after setting.players status front slots (world_after_places setting.players status before w))
      ≡ flat_map (closing_text_with setting.players status number_words (state_of (before ++ slots) w)) (range_with_len (suc i) (length slots))
  unfolding closings_after
  texts_by_number [] front before i w at followed = refl
  texts_by_number (x ∷ slots) front before i w at followed =
      let now : PlainWorld = world_after_places setting.players status before w in
      let all : List PlainSlot = before ++ x ∷ slots in
      let more : List PlainSlot = before ++ x ∷ [] in
      let next : List PlainSlot = front ++ left_after setting status x ∷ [] in
      let taken : take i all ≡ before = subst (λ (j : ℕ). take j all ≡ before) (sym followed) (take-append_seam before (x ∷ slots)) in
      let found : slice_get all i ≡ Some x = subst (λ (j : ℕ). slice_get all j ≡ Some x) (sym followed) (at_front before slots x) in
      let here : closing_text_with setting.players status number_words (state_of all w) (suc i) ≡ place_text (suc i) now x =
      ap (λ (l : List PlainSlot). closed_text_with setting.players status number_words (suc i) (world_after_places setting.players status l w)
      (slice_get all i)) taken
      ∙ ap (closed_text_with setting.players status number_words (suc i) now) found in
      let rest : closings_text (closings_after setting.players status next slots (world_after_places setting.players status more w))
      ≡ flat_map (closing_text_with setting.players status number_words (state_of (more ++ slots) w)) (range_with_len (suc (suc i)) (length slots)) =
      texts_by_number slots next more (suc i) w (ap suc at ∙ sym (one_longer front (left_after setting status x)))
      (ap suc followed ∙ sym (one_longer before x)) in
      let one_more : suc (suc i) ≡ suc i + 1 = omega arith in
      one_place i x front slots now at
      ∙ ap (λ (v : PlainWorld). place_text (suc i) now x ++ closings_text (closings_after setting.players status next slots v)) (sym (after_one before x w))
      ∙ ap (λ (text : List ℕ). place_text (suc i) now x ++ text) rest
      ∙ ap (λ (l : List PlainSlot). place_text (suc i) now x ++ flat_map (closing_text_with setting.players status number_words (state_of l w))
      (range_with_len (suc (suc i)) (length slots))) (append_assoc before (x ∷ []) slots)
      ∙ ap (λ (m : ℕ). place_text (suc i) now x ++ flat_map (closing_text_with setting.players status number_words (state_of all w))
      (range_with_len m (length slots))) one_more
      ∙ ap (λ (text : List ℕ). text ++ flat_map (closing_text_with setting.players status number_words (state_of all w))
      (range_with_len (suc i + 1) (length slots))) (sym here)

  pub closings_are : (s : RunState) → closings_text (closings setting.players status s) ≡ all_closing_texts setting.players status s
  unfolding world_after_places
  closings_are s = texts_by_number s.slots [] [] 0 s.world refl refl

-- ---- all that both runs have in common

pub goes_as_alone : OwnCalls → OtherCalls → (setting : Setting) (number n : ℕ) (s : RunState) (script : List (List ℕ)) → IsQuietStart s
    → LeaveFiles setting number n s script → GoesAsAlone setting number n s script
goes_as_alone own other setting number n s script start stays =
    let cs : List MadeStep = steps_among setting number n s script in
    let ds : List MadeStep = steps_among setting number n s (alone number script) in
    let x : RunState = state_past setting n s script in
    let y : RunState = state_past setting n s (alone number script) in
    let both : GoAlike setting number cs ds (run_lines (line_step setting) n s script) (run_lines (line_step setting) n s (alone number script)) =
    from_start setting number own other n s script start stays in
    let ended : (status : Code) → Alike setting number (all_closed setting.players status x) (all_closed setting.players status y) =
    λ status. closed_alike setting status number own other x y both.last in
    record {
      outcomes = outcomes_seen cs ds both.came;
      births = λ i. (both.last.shown i).births;
      receipts = λ i. (both.last.shown i).receipts;
      ended_births = λ status i. ((ended status).shown i).births;
      ended_receipts = λ status i. ((ended status).shown i).receipts;
      closing = λ status. closing_alike setting status number own other x y both.last;
      report = report_seen (names_of setting.players) cs ds both.came;
      lines = both.lines;
      refused = both.refused;
    }
