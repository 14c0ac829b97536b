-- A call in one slot, in two runs that are alike for its number.
use Rattle.std.proofs.Common.{◌≡◌, ℕ, Bool, true, false, if◌then◌else◌, List, [], ◌++◌, length, map, max, reverse, Option, Some, None, Result, Ok, Err, refl, sym, ap, ◌∙◌, subst, append_assoc}
use Rattle.std.proofs.lemmas.List.{append-nil}
use Rattle.pam_base.specs.declared.code.Code.{Code}
use Rattle.pam_base.specs.declared.code.Code.TheVariants as codes
use Rattle.pam_base.specs.declared.call.Func.{Func}
use Rattle.pam_base.specs.declared.call.AppCall.{AppCall}
use Rattle.pam_base.specs.declared.call.AppCall.TheVariants as calls
use Rattle.conv_port.specs.Conv.{ConvState}
use Rattle.data_cleanup.specs.Cleanup.{Notes, receipts_for}
use Rattle.data_cleanup.specs.declared.receipt.Filed.{Filed}
use Rattle.pam_outside.specs.Files.{no_locks}
use Rattle.pam_handle.specs.env_list.specs.Environment.{Variable, is_refused as is_refused_text, after_put, value_of, variable_text}
use Rattle.fail_delay.specs.Delay.{counted_request}
use Rattle.pam_handle.specs.item_store.specs.Items.{text_of, with_text}
use Rattle.pam_handle.specs.item_store.specs.Access.{is_refused as is_refused_item}
use Rattle.pam_handle.specs.item_store.specs.declared.access.Access.TheVariants.{ApplicationSets, ApplicationGets}
use Rattle.pam_handle.specs.service_load.specs.declared.load_fault.LoadFault.{LoadFault}
use Rattle.pam_handle.specs.service_load.specs.FirstFault.{Counts, Stop}
use Rattle.pam_handle.specs.service_load.specs.Load.{loaded}
use Rattle.pam_handle.specs.dispatch_core.specs.Lines.{names_of}
use Rattle.pam_handle.specs.pam_room.specs.Module.{Player, notes_of}
use Rattle.pam_handle.specs.pam_room.specs.State.{PlainRoom, PlainWorld, State, state_of}
use Rattle.pam_handle.specs.Call.{Called, called}
use Rattle.pam_handle.specs.End.{world_after_end}
use Rattle.pam_handle.specs.service_load.specs.Stacks.{Stacks}
use Rattle.pam_handle.specs.Handle.{PlainHandle, in_room}
use Rattle.pam_handle.specs.Items.{all_told, missing_from, with_delay_function, with_environment, with_items}
use Rattle.pam_handle.specs.Start.{new_handle, stacks_under, started, started_by}
use Rattle.pam_handle.specs.StackCalls.{stack_call}
use Rattle.pam_library.specs.declared.outcome.Answer.{Answer}
use Rattle.pam_library.specs.declared.outcome.Answer.TheVariants as answers
use Rattle.pam_library.specs.Alike.{Cleaned, IsRecordedAt, datum_without_id, receipts_on, room_without_ids, shown_to, slot_without_ids, told_in}
use Rattle.pam_library.specs.Outcome.{answers_only}
use Rattle.pam_library.specs.Slots.{PlainSlot, closed, opened, is_open}
use Rattle.pam_library.specs.StackOf.{stack_of}
use Rattle.pam_library.specs.SlotStep.{SlotStepped, answered, closed_step, ended, filed_in, is_refused_for_flags, offered, open_step, open_step_by, opened_by, other_pending, slot_step, stack_step, succeeded, told_by, unless_pending}
use Rattle.pam_library.proofs.SameFilesLoadFacts.{CountsTwins, LookTwins, StopTwins, loaded_twins, quiet_with_calls}
use Rattle.pam_library.proofs.RecordedDataFacts.{cleanings, cleanings_without_ids, filed_of_births, filed_own, no_cleanings_of_another, receipts_filed, turned_recorded, turned_without_ids}
use Rattle.pam_library.proofs.Twins.{Kept, KeptIn, RecordedIn, Touches, Twins, touched}
use Rattle.pam_library.proofs.Twofold.{CalledTwins, stack_call_goes}

module _ (n number : ℕ) (first second : PlainWorld) where
  abbrev Both : State → State → Type 0
  Both a b = Twins n number first second a b

  pub record PlaceTwins (a b : SlotStepped) : Type 0 where
    pub slot : slot_without_ids a.slot ≡ slot_without_ids b.slot
    pub told : told_in a.outcome ≡ told_in b.outcome
    pub shown : shown_to n a.world ≡ shown_to n b.world
    pub first_kept : KeptIn n number first a.world
    pub second_kept : KeptIn n number second b.world
    pub first_data : IsRecordedAt number a.world.process.ledger.births a.slot
    pub second_data : IsRecordedAt number b.world.process.ledger.births b.slot

  -- ---- a result without anything to report

  pub record WorldTwins (v w : PlainWorld) : Type 0 where
    pub shown : shown_to n v ≡ shown_to n w
    pub first_kept : KeptIn n number first v
    pub second_kept : KeptIn n number second w

  closed_twins : (conv : ConvState) (v w : PlainWorld) (answer : Answer) → WorldTwins v w
      → PlaceTwins (answered (closed conv) v answer) (answered (closed conv) w answer)
  closed_twins conv v w answer t = record { slot = refl; told = refl; shown = t.shown; first_kept = t.first_kept; second_kept = t.second_kept; first_data = tt; second_data = tt }

  opened_twins : (x : PlainHandle) (r : PlainRoom) (v w : PlainWorld) (a b : Answer) → a ≡ b → Both (state_of x.room v) (state_of r w)
      → PlaceTwins (answered (opened x) v a) (answered (opened (in_room r x)) w b)
  opened_twins x r v w a b same t =
      let room : room_without_ids x.room ≡ room_without_ids r = t.room in
      record {
        slot = λ i. opened (in_room (room i) x);
        told = λ i. answers_only 0 (same i);
        shown = t.world;
        first_kept = t.first_kept;
        second_kept = t.second_kept;
        first_data = t.first_data;
        second_data = t.second_data;
      }

  -- only the room changes
  changed_room : (u : PlainRoom → PlainRoom) → Touches n number u → (x : PlainHandle) (r : PlainRoom) (v w : PlainWorld) (a : Answer)
      → Both (state_of x.room v) (state_of r w) →
      PlaceTwins (answered (opened (in_room (u x.room) x)) v a) (answered (opened (in_room (u r) x)) w a)
  changed_room u touches x r v w a t = opened_twins (in_room (u x.room) x) (u r) v w a a refl (touched n number u touches first second (state_of x.room v) (state_of r w) t)

  -- ---- an end

  cleaned : (note : Notes) (status : ℕ) (start : PlainWorld) (x : PlainHandle) (v : PlainWorld) → KeptIn n number start v → RecordedIn n number x.room v →
      receipts_on n (world_after_end note status x v).process.ledger ≡ receipts_on n v.process.ledger ++ cleanings n number note status (reverse x.room.transaction.datums.live)
  cleaned note status start x v k d =
      receipts_filed n number note status (length v.process.ledger.births) v.process.ledger.births v.process.ledger.filed (reverse x.room.transaction.datums.live)
      (turned_recorded number v.process.ledger.births x.room.transaction.datums.live d.live)

  kept_at_end : (note : Notes) (status : ℕ) (start : PlainWorld) (x : PlainHandle) (v : PlainWorld) → KeptIn n number start v
      → RecordedIn n number x.room v → KeptIn n number start (world_after_end note status x v)
  kept_at_end note status start x v k d = record {
    quiet = k.quiet;
    clock_is = k.clock_is;
    root_is = k.root_is;
    caller_is = k.caller_is;
    filed = filed_of_births number note status (length v.process.ledger.births) v.process.ledger.births v.process.ledger.filed (reverse x.room.transaction.datums.live) k.filed
        (turned_recorded number v.process.ledger.births x.room.transaction.datums.live d.live);
    added = k.added;
    births = k.births;
    more = k.more ++ receipts_for note status (length v.process.ledger.births) (reverse x.room.transaction.datums.live);
    filed_is = ap (λ (l : List Filed). l ++ receipts_for note status (length v.process.ledger.births) (reverse x.room.transaction.datums.live)) k.filed_is
        ∙ append_assoc start.process.ledger.filed k.more (receipts_for note status (length v.process.ledger.births) (reverse x.room.transaction.datums.live));
    more_own = filed_own number note status (length v.process.ledger.births) v.process.ledger.births k.more (reverse x.room.transaction.datums.live) k.more_own
        (turned_recorded number v.process.ledger.births x.room.transaction.datums.live d.live);
    other_births = k.other_births;
    other_receipts = λ other.
        cleaned note status start x v k d
        ∙ ap (λ (l : List Cleaned). receipts_on n v.process.ledger ++ l) (no_cleanings_of_another n number note status (reverse x.room.transaction.datums.live) other)
        ∙ append-nil (receipts_on n v.process.ledger)
        ∙ k.other_receipts other;
  }

  shown_at_end : (note : Notes) (status : ℕ) (x : PlainHandle) (r : PlainRoom) (v w : PlainWorld) → Both (state_of x.room v) (state_of r w) →
      receipts_on n (world_after_end note status x v).process.ledger ≡ receipts_on n (world_after_end note status (in_room r x) w).process.ledger
  shown_at_end note status x r v w t =
      let receipts : receipts_on n v.process.ledger ≡ receipts_on n w.process.ledger = λ i. (t.world i).receipts in
      let live : map datum_without_id x.room.transaction.datums.live ≡ map datum_without_id r.transaction.datums.live = λ i. (t.room i).transaction.datums.live in
      let turned : map datum_without_id (reverse x.room.transaction.datums.live) ≡ map datum_without_id (reverse r.transaction.datums.live) =
      turned_without_ids x.room.transaction.datums.live ∙ (λ i. reverse (live i)) ∙ sym (turned_without_ids r.transaction.datums.live) in
      let same : cleanings n number note status (reverse x.room.transaction.datums.live) ≡ cleanings n number note status (reverse r.transaction.datums.live) =
      sym (cleanings_without_ids n number note status (reverse x.room.transaction.datums.live))
      ∙ (λ i. cleanings n number note status (turned i))
      ∙ cleanings_without_ids n number note status (reverse r.transaction.datums.live) in
      cleaned note status first x v t.first_kept t.first_data ∙ (λ i. receipts i ++ same i) ∙ sym (cleaned note status second (in_room r x) w t.second_kept t.second_data)

  ended_twins : (note : Notes) (status : ℕ) (x : PlainHandle) (r : PlainRoom) (v w : PlainWorld) → Both (state_of x.room v) (state_of r w)
      → PlaceTwins (ended note status x v) (ended note status (in_room r x) w)
  ended_twins note status x r v w t =
      let receipts : receipts_on n (world_after_end note status x v).process.ledger ≡ receipts_on n (world_after_end note status (in_room r x) w).process.ledger = shown_at_end note status x r v w t in
      record {
        slot = λ i. closed (t.room i).conv;
        told = refl;
        shown = λ i. record (t.world i) { receipts = receipts i };
        first_kept = kept_at_end note status first x v t.first_kept t.first_data;
        second_kept = kept_at_end note status second (in_room r x) w t.second_kept t.second_data;
        first_data = tt;
        second_data = tt;
      }

  -- ---- what is to report is handed out

  abbrev told_room : PlainRoom → PlainRoom
  told_room r = record r { transaction = record r.transaction { said = []; trail = [] } }

  told_room_touches : Touches n number told_room
  told_room_touches = record { same = λ r. refl; datums = λ r. refl; handle = λ r. refl }

  handed_out : (before after : ℕ) (c d : Called) → CalledTwins n number first second c d
      → PlaceTwins (told_by before (answers.Code c.code) c) (told_by after (answers.Code d.code) d)
  handed_out before after c d t =
      let r : PlainRoom = d.handle.room in
      let e : Called = called c.code (in_room r c.handle) d.world in
      let room : room_without_ids c.handle.room ≡ room_without_ids r = t.state.room in
      let main : PlaceTwins (told_by before (answers.Code c.code) c) (told_by after (answers.Code e.code) e) = record {
        slot = λ i. opened (in_room (told_room (room i)) (record c.handle { waited = None }));
        told = λ i. record {
          said = (room i).transaction.said;
          trail = (room i).transaction.trail;
          filed_from = 0;
          wait = c.handle.waited;
          missing = [];
          answer = answers.Code c.code;
        };
        shown = t.state.world;
        first_kept = t.state.first_kept;
        second_kept = t.state.second_kept;
        first_data = record { handle_is = t.state.first_data.handle_is; live = t.state.first_data.live; gone = t.state.first_data.gone };
        second_data = record { handle_is = t.state.second_data.handle_is; live = t.state.second_data.live; gone = t.state.second_data.gone };
      } in
      subst (λ (x : Called). PlaceTwins (told_by before (answers.Code c.code) c) (told_by after (answers.Code x.code) x)) t.rest main

  -- ---- a call in an open slot

  module _ (players : List Player) (delay : Code → ℕ → ℕ) (x : PlainHandle) (r : PlainRoom) (v w : PlainWorld) (t : Twins n number first second (state_of x.room v) (state_of r w)) where
    unless_twins : (found : Option Func) (a b : SlotStepped) → PlaceTwins a b
        → PlaceTwins (unless_pending found (opened x) v a) (unless_pending found (opened (in_room r x)) w b)
    unless_twins None a b both = both
    unless_twins (Some func) a b both = opened_twins x r v w (answers.Pending func) (answers.Pending func) refl t

    stack_twins : (func : Func) (flags : ℕ) → PlaceTwins (stack_step players delay func flags x v) (stack_step players delay func flags (in_room r x) w)
    stack_twins func flags =
        let c : Called = stack_call players delay func flags x v in
        let d : Called = stack_call players delay func flags (in_room r x) w in
        let runs : PlaceTwins (told_by (filed_in v) (answers.Code c.code) c) (told_by (filed_in w) (answers.Code d.code) d) =
        handed_out (filed_in v) (filed_in w) c d (stack_call_goes n number first second delay players func flags x r v w t) in
        elim (is_refused_for_flags func flags) as (λ (b : Bool). PlaceTwins
        (if b then answered (opened x) v (answers.Code codes.SystemErr) else unless_pending (other_pending x.pending func) (opened x) v (told_by (filed_in v) (answers.Code c.code) c))
        (if b then answered (opened (in_room r x)) w (answers.Code codes.SystemErr) else unless_pending (other_pending x.pending func) (opened (in_room r x)) w (told_by (filed_in w) (answers.Code d.code) d))) [
          | true ↦ opened_twins x r v w (answers.Code codes.SystemErr) (answers.Code codes.SystemErr) refl t
          | false ↦ unless_twins (other_pending x.pending func) (told_by (filed_in v) (answers.Code c.code) c) (told_by (filed_in w) (answers.Code d.code) d) runs
        ]

    abbrev put_as : List ℕ → List Variable → PlainHandle → PlainWorld → SlotStepped
    put_as text env h u =
        if is_refused_text text env then answered (opened h) u (answers.Code codes.BadItem)
        else succeeded (opened (with_environment (after_put text env) h)) u

    put_twins : (text : List ℕ) → PlaceTwins (put_as text x.room.transaction.env x v) (put_as text r.transaction.env (in_room r x) w)
    put_twins text =
        let env : List Variable = x.room.transaction.env in
        let main : PlaceTwins (put_as text env x v) (put_as text env (in_room r x) w) =
        elim (is_refused_text text env) as (λ (b : Bool). PlaceTwins
        (if b then answered (opened x) v (answers.Code codes.BadItem) else succeeded (opened (with_environment (after_put text env) x)) v)
        (if b then answered (opened (in_room r x)) w (answers.Code codes.BadItem) else succeeded (opened (with_environment (after_put text env) (in_room r x))) w)) [
          | true ↦ opened_twins x r v w (answers.Code codes.BadItem) (answers.Code codes.BadItem) refl t
          | false ↦ changed_room (λ (s : PlainRoom). record s { transaction = record s.transaction { env = after_put text env } }) (record { same = λ s. refl; datums = λ s. refl; handle = λ s. refl }) x r v w (answers.Code codes.Success) t
        ] in
        subst (λ (e : List Variable). PlaceTwins (put_as text env x v) (put_as text e (in_room r x) w)) (λ i. (t.room i).transaction.env) main

    open_twins_by : (stack : Option (Func × ℕ)) (call : AppCall) → PlaceTwins (open_step_by players delay stack x v call) (open_step_by players delay stack (in_room r x) w call)
    open_twins_by (Some stack) call = stack_twins stack.0 stack.1
    open_twins_by None (calls.Start service user) = opened_twins x r v w answers.AlreadyOpen answers.AlreadyOpen refl t
    open_twins_by None (calls.End status) = ended_twins (notes_of players) status x r v w t
    open_twins_by None (calls.SetItem item value) = elim (is_refused_item ApplicationSets item) as (λ (b : Bool). PlaceTwins
        (if b then answered (opened x) v (answers.Code codes.BadItem) else succeeded (opened (with_items (with_text x.room.transaction.items item value) x)) v)
        (if b then answered (opened (in_room r x)) w (answers.Code codes.BadItem) else succeeded (opened (with_items (with_text r.transaction.items item value) (in_room r x))) w)) [
          | true ↦ opened_twins x r v w (answers.Code codes.BadItem) (answers.Code codes.BadItem) refl t
          | false ↦ changed_room (λ (s : PlainRoom). record s { transaction = record s.transaction { items = with_text s.transaction.items item value } }) (record { same = λ s. refl; datums = λ s. refl; handle = λ s. refl }) x r v w (answers.Code codes.Success) t
        ]
    open_twins_by None (calls.GetItem item) = elim (is_refused_item ApplicationGets item) as (λ (b : Bool). PlaceTwins
        (if b then answered (opened x) v (answers.Code codes.BadItem) else answered (opened x) v (answers.Value (text_of x.room.transaction.items item)))
        (if b then answered (opened (in_room r x)) w (answers.Code codes.BadItem) else answered (opened (in_room r x)) w (answers.Value (text_of r.transaction.items item)))) [
          | true ↦ opened_twins x r v w (answers.Code codes.BadItem) (answers.Code codes.BadItem) refl t
          | false ↦ opened_twins x r v w (answers.Value (text_of x.room.transaction.items item)) (answers.Value (text_of r.transaction.items item)) (λ i. answers.Value (text_of (t.room i).transaction.items item)) t
        ]
    open_twins_by None (calls.PutEnv text) = put_twins text
    open_twins_by None (calls.GetEnv name) = opened_twins x r v w (answers.Value (value_of name x.room.transaction.env)) (answers.Value (value_of name r.transaction.env)) (λ i. answers.Value (value_of name (t.room i).transaction.env)) t
    open_twins_by None calls.EnvList = opened_twins x r v w (answers.List (map variable_text x.room.transaction.env)) (answers.List (map variable_text r.transaction.env)) (λ i. answers.List (map variable_text (t.room i).transaction.env)) t
    open_twins_by None (calls.FailDelay micros) =
        changed_room (λ (s : PlainRoom). record s { transaction = record s.transaction { delay = max (counted_request micros) s.transaction.delay } }) (record { same = λ s. refl; datums = λ s. refl; handle = λ s. refl }) x r v w (answers.Code codes.Success) t
    open_twins_by None (calls.DelayFn on) = opened_twins (with_delay_function on x) r v w (answers.Code codes.Success) (answers.Code codes.Success) refl t
    open_twins_by None (calls.Reply text) =
        changed_room (λ (s : PlainRoom). record s { conv = offered text s.conv }) (record { same = λ s. refl; datums = λ s. refl; handle = λ s. refl }) x r v w answers.Nothing t
    open_twins_by None call = opened_twins x r v w answers.Nothing answers.Nothing refl t

    pub open_twins : (call : AppCall) → PlaceTwins (open_step players delay x v call) (open_step players delay (in_room r x) w call)
    open_twins call = open_twins_by (stack_of call) call

  -- ---- a start

  module _ (players : List Player) (conv : ConvState) (v w : PlainWorld) (t : WorldTwins v w) (service : List ℕ) (user : Option (List ℕ)) where
    abbrev begun : Stacks → PlainHandle
    begun stacks = new_handle number service user conv (names_of players) stacks

    abbrev start_as : Result Counts Stop → Stacks → PlainWorld → SlotStepped
    start_as found stacks u = let s = started_by begun found stacks u in opened_by (names_of players) conv (filed_in u) s.world s.answer

    called_so_often : (start : PlainWorld) (u : PlainWorld) (calls : ℕ) → KeptIn n number start u
        → Rattle.pam_library.proofs.SameFilesLoadFacts.QuietAt u.vault.fails calls → Kept n number start (record u.vault { calls = calls }) u.clock u.process
    called_so_often start u calls k quiet = record {
      quiet = quiet_with_calls u.vault calls quiet;
      clock_is = k.clock_is;
      root_is = k.root_is;
      caller_is = k.caller_is;
      filed = k.filed;
      added = k.added;
      births = k.births;
      more = k.more;
      filed_is = k.filed_is;
      more_own = k.more_own;
      other_births = k.other_births;
      other_receipts = k.other_receipts;
    }

    start_by : (a b : Result Counts Stop) (stacks others : Stacks) → stacks ≡ others → LookTwins v.vault.fails w.vault.fails a b
        → PlaceTwins (start_as a stacks v) (start_as b others w)
    start_by (Ok c) (Ok d) stacks others same twins = record {
      slot = λ i. opened (begun (same i));
      told = λ i. record (answers_only 0 (answers.Code codes.Success)) { missing = missing_from (names_of players) (same i) };
      shown = t.shown;
      first_kept = called_so_often first v c.calls t.first_kept twins.first;
      second_kept = called_so_often second w d.calls t.second_kept twins.second;
      first_data = record { handle_is = refl; live = tt; gone = tt };
      second_data = record { handle_is = refl; live = tt; gone = tt };
    }
    start_by (Err s) (Err u) stacks others same twins = record {
      slot = refl;
      told = ap (λ (x : Stop). answers_only 0 (answers.Refused x.fault)) twins.rest;
      shown = t.shown;
      first_kept = called_so_often first v s.calls t.first_kept twins.first;
      second_kept = called_so_often second w u.calls t.second_kept twins.second;
      first_data = tt;
      second_data = tt;
    }
    start_by (Ok c) (Err s) stacks others same twins = absurd twins
    start_by (Err s) (Ok c) stacks others same twins = absurd twins

    start_twins : (delay : Code → ℕ → ℕ)
        → PlaceTwins (closed_step players delay number conv v (calls.Start service user)) (closed_step players delay number conv w (calls.Start service user))
    start_twins delay =
        start_by (loaded v.vault v.process.root service) (loaded w.vault w.process.root service) (stacks_under v.vault v.process.root service) (stacks_under w.vault w.process.root service)
        (λ i. stacks_under (record { files = (t.shown i).files; locks = no_locks; calls = 0; fails = [] }) (t.shown i).root service)
        (loaded_twins v.vault w.vault v.process.root w.process.root service (λ i. (t.shown i).files) (λ i. (t.shown i).root) t.first_kept.quiet t.second_kept.quiet)

  -- ---- a call in a slot

  module _ (players : List Player) (delay : Code → ℕ → ℕ) where
    closed_step_twins : (conv : ConvState) (v w : PlainWorld) → WorldTwins v w → (call : AppCall)
        → PlaceTwins (closed_step players delay number conv v call) (closed_step players delay number conv w call)
    closed_step_twins conv v w t (calls.Start service user) = start_twins players conv v w t service user delay
    closed_step_twins conv v w t (calls.Reply text) = closed_twins (offered text conv) v w answers.Nothing t
    closed_step_twins conv v w t call = closed_twins conv v w answers.NotOpen t

    abbrev handle_in : PlainHandle → PlainSlot → PlainHandle
    handle_in h (closed conv) = h
    handle_in h (opened x) = x

    abbrev conv_in : ConvState → PlainSlot → ConvState
    conv_in c (closed conv) = conv
    conv_in c (opened x) = c

    abbrev IsOpen : Bool → Type 0
    IsOpen true = Unit {0}
    IsOpen false = ⊥

    pub place_twins : (a b : PlainSlot) (v w : PlainWorld) (call : AppCall) → slot_without_ids a ≡ slot_without_ids b → WorldTwins v w →
        IsRecordedAt number v.process.ledger.births a → IsRecordedAt number w.process.ledger.births b →
        PlaceTwins (slot_step players delay number a v call) (slot_step players delay number b w call)
    place_twins (closed c) (closed d) v w call same t p q =
        subst (λ (x : ConvState). PlaceTwins (closed_step players delay number c v call) (closed_step players delay number x w call)) (λ i. conv_in c (same i)) (closed_step_twins c v w t call)
    place_twins (opened x) (opened y) v w call same t p q =
        let handles : in_room (room_without_ids x.room) x ≡ in_room (room_without_ids y.room) y = λ i. handle_in x (same i) in
        let is : in_room y.room x ≡ y = λ i. in_room y.room (handles i) in
        let both : Both (state_of x.room v) (state_of y.room w) = record {
          room = λ i. (handles i).room;
          world = t.shown;
          first_kept = t.first_kept;
          second_kept = t.second_kept;
          first_data = p;
          second_data = q;
        } in
        subst (λ (h : PlainHandle). PlaceTwins (open_step players delay (all_told x) v call) (open_step players delay (all_told h) w call)) is
        (open_twins players delay (all_told x) (told_room y.room) v w (touched n number told_room told_room_touches first second (state_of x.room v) (state_of y.room w) both) call)
    place_twins (closed c) (opened y) v w call same t p q = absurd (subst IsOpen (sym (ap is_open same)) tt)
    place_twins (opened x) (closed d) v w call same t p q = absurd (subst IsOpen (ap is_open same) tt)

-- ---- first the number of cleanup records before a call

opened_from : (names : List (List ℕ)) (conv : ConvState) (filed : ℕ) (w : PlainWorld) (r : Result PlainHandle LoadFault)
    → (opened_by names conv filed w r).outcome.filed_from ≡ filed
opened_from names conv filed w (Ok h) = refl
opened_from names conv filed w (Err fault) = refl

unless_from : (found : Option Func) (h : PlainHandle) (w : PlainWorld) (s : SlotStepped) → s.outcome.filed_from ≡ filed_in w
    → (unless_pending found (opened h) w s).outcome.filed_from ≡ filed_in w
unless_from None h w s is = is
unless_from (Some func) h w s is = refl

either_from : (b : Bool) (w : PlainWorld) (s u : SlotStepped) → s.outcome.filed_from ≡ filed_in w → u.outcome.filed_from ≡ filed_in w
    → (if b then s else u).outcome.filed_from ≡ filed_in w
either_from true w s u is other = is
either_from false w s u is other = other

module _ (players : List Player) (delay : Code → ℕ → ℕ) where
  stack_from : (func : Func) (flags : ℕ) (h : PlainHandle) (w : PlainWorld) → (stack_step players delay func flags h w).outcome.filed_from ≡ filed_in w
  stack_from func flags h w =
      let c : Called = stack_call players delay func flags h w in
      let s : SlotStepped = told_by (filed_in w) (answers.Code c.code) c in
      either_from (is_refused_for_flags func flags) w (answered (opened h) w (answers.Code codes.SystemErr)) (unless_pending (other_pending h.pending func) (opened h) w s) refl (unless_from (other_pending h.pending func) h w s refl)

  open_from : (stack : Option (Func × ℕ)) (h : PlainHandle) (w : PlainWorld) (call : AppCall) → (open_step_by players delay stack h w call).outcome.filed_from ≡ filed_in w
  open_from (Some stack) h w call = stack_from stack.0 stack.1 h w
  open_from None h w (calls.SetItem item value) =
      either_from (is_refused_item ApplicationSets item) w (answered (opened h) w (answers.Code codes.BadItem)) (succeeded (opened (with_items (with_text h.room.transaction.items item value) h)) w) refl refl
  open_from None h w (calls.GetItem item) =
      either_from (is_refused_item ApplicationGets item) w (answered (opened h) w (answers.Code codes.BadItem)) (answered (opened h) w (answers.Value (text_of h.room.transaction.items item))) refl refl
  open_from None h w (calls.PutEnv text) =
      either_from (is_refused_text text h.room.transaction.env) w (answered (opened h) w (answers.Code codes.BadItem)) (succeeded (opened (with_environment (after_put text h.room.transaction.env) h)) w) refl refl
  open_from None h w call = refl

  closed_from : (place : ℕ) (conv : ConvState) (w : PlainWorld) (call : AppCall) → (closed_step players delay place conv w call).outcome.filed_from ≡ filed_in w
  closed_from place conv w (calls.Start service user) =
      opened_from (names_of players) conv (filed_in w) (started place service user conv (names_of players) w).world (started place service user conv (names_of players) w).answer
  closed_from place conv w call = refl

  pub filed_from_is : (place : ℕ) (slot : PlainSlot) (w : PlainWorld) (call : AppCall)
      → (slot_step players delay place slot w call).outcome.filed_from ≡ filed_in w
  filed_from_is place (closed conv) w call = closed_from place conv w call
  filed_from_is place (opened h) w call = open_from (stack_of call) (all_told h) w call
