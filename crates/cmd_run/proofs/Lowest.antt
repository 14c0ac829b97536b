-- The lowest open transaction is ended: what is left of the implicit ends.
use Rattle.std.proofs.Common.{◌≡◌, ℕ, suc, ◌+◌, ◌<◌, ◌≤◌, List, [], ◌∷◌, ◌++◌, length, Option, Some, None, refl, sym, ap, subst, ◌∙◌}
use Rattle.std.proofs.Common.{append_assoc, append-nil, length-append, reverse, arith}
use Rattle.std.specs.Prelude.{slice_set, option_map, IfSome, IfNone}
use Rattle.report_step.specs.conv_port.specs.Conv.{ConvState}
use Rattle.data_cleanup.specs.Cleanup.{receipts_for}
use Rattle.pam_base.specs.declared.code.Code.{Code}
use Rattle.pam_base.specs.Code.{number_of}
use Rattle.report_step.specs.pam_room.specs.Module.{Player, notes_of}
use Rattle.report_step.specs.pam_room.specs.State.{PlainWorld}
use Rattle.report_step.specs.pam_handle.specs.Handle.{PlainHandle}
use Rattle.report_step.specs.pam_library.specs.Slots.{PlainSlot, NoneIsOpen, closed, opened, with_slot}
use Rattle.report_step.specs.pam_library.specs.Closing.{ClosedOne, ClosesAs, first_open, ended_at, closed_one}
use Rattle.cmd_run.specs.State.{RunState, state_of}
use Rattle.cmd_run.specs.Closings.{Closing, EndsNext, all_closed, last_state, open_count, world_after, text_of_end, closings_after, closings}

-- ---- one slot in place of another

set-followed : (front rest : List PlainSlot) (old new : PlainSlot) → slice_set (front ++ old ∷ rest) (length front) new ≡ front ++ new ∷ rest
set-followed [] rest old new = refl
set-followed (x ∷ front) rest old new = ap (λ (xs : List PlainSlot). x ∷ xs) (set-followed front rest old new)

count-followed : (front rest : List PlainSlot) (h : PlainHandle) → open_count (front ++ closed h.room.conv ∷ rest) < open_count (front ++ opened h ∷ rest)
unfolding open_count
count-followed [] rest h = omega arith
count-followed (closed conv ∷ front) rest h = count-followed front rest h
count-followed (opened g ∷ front) rest h = omega (arith, count-followed front rest h)

-- ---- the first open slot

module _ (players : List Player) (status : Code) where
  -- the open transaction with the lowest number, if the first slot has the number n: those before it are closed
  record Opens (n : ℕ) (slots : List PlainSlot) (number : ℕ) (h : PlainHandle) : Type 0 where
    before : List PlainSlot
    after : List PlainSlot
    parts : slots ≡ before ++ opened h ∷ after
    number_is : number ≡ n + length before
    skip : (front rest : List PlainSlot) (w : PlainWorld)
        → closings_after players status front (before ++ rest) w ≡ closings_after players status (front ++ before) rest w

  opens_here : (n number : ℕ) (g h : PlainHandle) (slots : List PlainSlot) → n ≡ number → g ≡ h → Opens n (opened g ∷ slots) number h
  opens_here n number g h slots e f = record {
    before = [];
    after = slots;
    parts = ap (λ (x : PlainHandle). opened x ∷ slots) f;
    number_is = omega (arith, e);
    skip = λ front rest w. ap (λ (l : List PlainSlot). closings_after players status l rest w) (sym (append-nil front));
  }

  opens_later : (n number : ℕ) (conv : ConvState) (h : PlainHandle) (slots : List PlainSlot) → Opens (n + 1) slots number h
      → Opens n (closed conv ∷ slots) number h
  unfolding closings_after
  opens_later n number conv h slots o = record {
    before = closed conv ∷ o.before;
    after = o.after;
    parts = ap (λ (l : List PlainSlot). closed conv ∷ l) o.parts;
    number_is = omega (arith, o.number_is);
    skip = λ front rest w. o.skip (front ++ closed conv ∷ []) rest w ∙ ap (λ (l : List PlainSlot). closings_after players status l rest w)
        (append_assoc front (closed conv ∷ []) o.before);
  }

  find : (n : ℕ) (slots : List PlainSlot) (number : ℕ) (h : PlainHandle) → first_open n slots ≡ Some (number, h) → Opens n slots number h
  find n [] number h e = absurd cc
  find n (closed conv ∷ slots) number h e = opens_later n number conv h slots (find (n + 1) slots number h e)
  find n (opened g ∷ slots) number h e =
      let f : ◌≡◌ {A = ℕ × PlainHandle} (n, g) (number, h) = cc in
      opens_here n number g h slots (ap (λ (x : ℕ × PlainHandle). x.0) f) (ap (λ (x : ℕ × PlainHandle). x.1) f)

  -- what is left once it was ended
  core : (before after : List PlainSlot) (h : PlainHandle) (w : PlainWorld)
      → ((front rest : List PlainSlot) (v : PlainWorld) → closings_after players status front (before ++ rest) v
      ≡ closings_after players status (front ++ before) rest v)
      → closings players status (state_of (before ++ opened h ∷ after) w)
      ≡ record {
        text = text_of_end players status (length before + 1) w (world_after players status h w);
        state = state_of (before ++ closed h.room.conv ∷ after) (world_after players status h w);
      }
      ∷ closings players status (state_of (before ++ closed h.room.conv ∷ after) (world_after players status h w))
  unfolding closings_after
  core before after h w skip =
      skip [] (opened h ∷ after) w
      ∙ ap (λ (cs : List Closing). record {
        text = text_of_end players status (length before + 1) w (world_after players status h w);
        state = state_of (before ++ closed h.room.conv ∷ after) (world_after players status h w);
      } ∷ cs)
      (sym (skip [] (closed h.room.conv ∷ after) (world_after players status h w)))

  abbrev ended : List PlainSlot → PlainWorld → ℕ × PlainHandle → ClosedOne
  ended slots w found = ended_at (notes_of players) (number_of status) slots w found

  abbrev Ended : List PlainSlot → PlainWorld → ClosedOne → Type 0
  Ended slots w c = EndsNext players status c.number (state_of slots w) (state_of c.slots c.world)

  by_parts : (slots : List PlainSlot) (w : PlainWorld) (number : ℕ) (h : PlainHandle) → Opens 1 slots number h → Ended slots w (ended slots w (number, h))
  by_parts slots w number h o =
      let k : number ≡ suc (length o.before) = omega (arith, o.number_is) in
      let l : length o.before + 1 ≡ number = omega (arith, o.number_is) in
      let set : with_slot slots number (closed h.room.conv) ≡ o.before ++ closed h.room.conv ∷ o.after =
      rw (k, o.parts) (set-followed o.before o.after (opened h) (closed h.room.conv)) in
      record {
        first = rw (set, o.parts, ← l) (core o.before o.after h w o.skip);
        fewer = rw (set, o.parts) (count-followed o.before o.after h);
        receipts = omega (
          arith,
          length-append w.process.ledger.filed (receipts_for (notes_of players) (number_of status) (length w.process.ledger.births)
              (reverse h.room.transaction.datums.live)),
        );
      }

  by_found : (slots : List PlainSlot) (w : PlainWorld) (c : ClosedOne) (o : Option (ℕ × PlainHandle)) → first_open 1 slots ≡ o
      → option_map (ended slots w) o ≡ Some c → Ended slots w c
  by_found slots w c None e f = absurd cc
  by_found slots w c (Some found) e f =
      let is : ended slots w found ≡ c = cc in
      subst (λ (x : ClosedOne). Ended slots w x) is (by_parts slots w found.0 found.1 (find 1 slots found.0 found.1 e))

  pub closes_one : (slots : List PlainSlot) (w : PlainWorld) (c : ClosedOne) → closed_one (notes_of players) (number_of status) slots w ≡ Some c
      → Ended slots w c
  unfolding closed_one
  closes_one slots w c e = by_found slots w c (first_open 1 slots) refl e

  -- if no transaction is open, there is no implicit end
  none_past : (n : ℕ) (front slots : List PlainSlot) (w : PlainWorld) → first_open n slots ≡ None → closings_after players status front slots w ≡ []
  unfolding closings_after
  none_past n front [] w e = refl
  none_past n front (closed conv ∷ slots) w e = none_past (n + 1) (front ++ closed conv ∷ []) slots w e
  none_past n front (opened h ∷ slots) w e = absurd cc

  none_found : (slots : List PlainSlot) (w : PlainWorld) (o : Option (ℕ × PlainHandle)) → first_open 1 slots ≡ o → option_map (ended slots w) o ≡ None
      → first_open 1 slots ≡ None
  none_found slots w None e f = e
  none_found slots w (Some found) e f = absurd cc

  pub closes_none : (slots : List PlainSlot) (w : PlainWorld) → closed_one (notes_of players) (number_of status) slots w ≡ None
      → closings players status (state_of slots w) ≡ []
  unfolding closed_one
  closes_none slots w e = none_past 1 [] slots w (none_found slots w (first_open 1 slots) refl e)

  none_of : (front slots : List PlainSlot) (w : PlainWorld) → NoneIsOpen slots → closings_after players status front slots w ≡ []
  unfolding closings_after
  none_of front [] w none = refl
  none_of front (closed conv ∷ slots) w none = none_of (front ++ closed conv ∷ []) slots w none.1
  none_of front (opened h ∷ slots) w none = absurd cc

  pub closings_none : (slots : List PlainSlot) (w : PlainWorld) → NoneIsOpen slots → closings players status (state_of slots w) ≡ []
  closings_none slots w none = none_of [] slots w none

  pub none_left : (slots : List PlainSlot) (w : PlainWorld) → NoneIsOpen slots → all_closed players status (state_of slots w) ≡ state_of slots w
  none_left slots w none = ap (last_state (state_of slots w)) (closings_none slots w none)

  -- one transaction was ended, and then the others
  pub one_then : (number : ℕ) (s t : RunState) → EndsNext players status number s t → all_closed players status s ≡ all_closed players status t
  one_then number s t e = ap (last_state s) e.first

  -- ---- what an end of the lowest one returns

  ends_by : (number : ℕ) (slots next : List PlainSlot) (w v : PlainWorld) (o : Option ClosedOne)
      → closed_one (notes_of players) (number_of status) slots w ≡ o → ClosesAs o (Some number) slots w next v
      → EndsNext players status number (state_of slots w) (state_of next v)
  ends_by number slots next w v None e h = absurd (let none = h.0 in cc)
  ends_by number slots next w v (Some c) e h =
      let n : number ≡ c.number = (let same = h.0 in cc) in
      rw (n, h.1, h.2) (closes_one slots w c e)

  pub ends_next : (number : ℕ) (slots next : List PlainSlot) (w v : PlainWorld)
      → ClosesAs (closed_one (notes_of players) (number_of status) slots w) (Some number) slots w next v
      → EndsNext players status number (state_of slots w) (state_of next v)
  ends_next number slots next w v h = ends_by number slots next w v _ refl h

  stays_by : (slots next : List PlainSlot) (w v : PlainWorld) (o : Option ClosedOne) → ClosesAs o None slots w next v → state_of next v ≡ state_of slots w
  stays_by slots next w v None h = rw (h.1, h.2) refl
  stays_by slots next w v (Some c) h = absurd (let some = h.0 in cc)

  pub stays_none : (slots next : List PlainSlot) (w v : PlainWorld)
      → ClosesAs (closed_one (notes_of players) (number_of status) slots w) None slots w next v → state_of next v ≡ state_of slots w
  stays_none slots next w v h = stays_by slots next w v _ h

  pub receipts_by : (answer : Option ℕ) (slots next : List PlainSlot) (w v : PlainWorld)
      → ClosesAs (closed_one (notes_of players) (number_of status) slots w) answer slots w next v
      → length w.process.ledger.filed ≤ length v.process.ledger.filed
  receipts_by None slots next w v h = rw (ap (λ (t : RunState). t.world) (stays_none slots next w v h)) (omega arith)
  receipts_by (Some number) slots next w v h = (ends_next number slots next w v h).receipts

  pub some_ends : (answer : Option ℕ) (slots next : List PlainSlot) (w v : PlainWorld)
      → ClosesAs (closed_one (notes_of players) (number_of status) slots w) answer slots w next v
      → IfSome answer (λ (number : ℕ). EndsNext players status number (state_of slots w) (state_of next v))
  some_ends None slots next w v h = tt
  some_ends (Some number) slots next w v h = ends_next number slots next w v h

  pub none_stays : (answer : Option ℕ) (slots next : List PlainSlot) (w v : PlainWorld)
      → ClosesAs (closed_one (notes_of players) (number_of status) slots w) answer slots w next v
      → IfNone answer (state_of next v ≡ state_of slots w)
  none_stays None slots next w v h = stays_none slots next w v h
  none_stays (Some number) slots next w v h = tt
