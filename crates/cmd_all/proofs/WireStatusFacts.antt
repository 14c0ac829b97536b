-- What the status of a run of frames says.
use Rattle.std.proofs.Common.{◌≡◌, ◌⊎◌, inl, inr, ℕ, ◌<◌, if◌then◌else◌, List, [], ◌∷◌, ◌++◌, length, Option, Some, None, Result, Ok, Err}
use Rattle.std.proofs.Common.{IfOk, refl, sym, ap, ◌∙◌, subst, arith}
use Rattle.std.specs.Int.{w16, to_be_bytes}
use Rattle.std.specs.Prelude.{nat_eq}
use Rattle.pam_outside.specs.Streams.{SinkState, SourceState}
use Rattle.pam_library.specs.Slots.{PlainSlot}
use Rattle.cmd_wire.specs.pam_wire.specs.Frame.{sized}
use Rattle.cmd_wire.specs.pam_wire.specs.Stream.{IsOpen}
use Rattle.pam_outside.specs.Counts.{RisesIf}
use Rattle.record_reader.specs.Turns.{has_read_fault}
use Rattle.record_reader.specs.declared.ending.Ending.{Ending}
use Rattle.record_reader.specs.declared.ending.Ending.TheVariants.{Done, ReadFault, Refused}
use Rattle.record_reader.specs.declared.ending.Stop.{Stop}
use Rattle.record_reader.specs.declared.ending.Stop.TheVariants.{NoMemory, WriteFault}
use Rattle.cmd_wire.specs.frame_stream.specs.declared.fault.FrameFault.{FrameFault}
use Rattle.cmd_wire.specs.frame_stream.specs.declared.fault.FrameFault.TheVariants.{BadFrame, TooManyFrames}
use Rattle.cmd_run.specs.State.{Setting}
use Rattle.cmd_wire.specs.Reading.{EndsAtBytes, ReadsFrames}
use Rattle.cmd_wire.specs.Whole.{Answers, Completes}
use Rattle.cmd_all.specs.declared.exit.Exit.TheVariants as exits
use Rattle.cmd_all.specs.Exit.{exit_status, frames_exit}
use Rattle.cmd_all.specs.Run.{opening}
use Rattle.cmd_all.specs.Setup.{Around, Object}
use Rattle.cmd_all.specs.Wire.{AnswersBy, IsReadThrough, IsWireStatus, ReadsFramesBy, Serves, WireCompletes}

-- ---- the ending of a status

abbrev ending_of : ℕ → Option (Ending FrameFault)
ending_of n =
    if nat_eq n (exit_status exits.Done) then Some Done
    else if nat_eq n (exit_status exits.ReadFault) then Some ReadFault
    else if nat_eq n (exit_status exits.BadFrame) then Some (Refused BadFrame)
    else if nat_eq n (exit_status exits.TooManyFrames) then Some (Refused TooManyFrames) else None

found_again : (ending : Ending FrameFault) → ending_of (exit_status (frames_exit (Ok ending))) ≡ Some ending
found_again Done = refl
found_again ReadFault = refl
found_again (Refused BadFrame) = refl
found_again (Refused TooManyFrames) = refl

is_ending : (result : Result (Ending FrameFault) Stop) (ending : Ending FrameFault)
    → exit_status (frames_exit result) ≡ exit_status (frames_exit (Ok ending)) → result ≡ Ok ending
is_ending (Ok found) ending same =
    let e : Some found ≡ Some ending = sym (found_again found) ∙ ap ending_of same ∙ found_again ending in
    let f : found ≡ ending = cc in
    ap Ok f
is_ending (Err NoMemory) ending same =
    let e : None ≡ Some ending = ap ending_of same ∙ found_again ending in
    absurd (cc)
is_ending (Err WriteFault) ending same =
    let e : None ≡ Some ending = ap ending_of same ∙ found_again ending in
    absurd (cc)

no_ending : {A : Type 0} (status : ℕ) (ending : Ending FrameFault) → status ≡ exit_status exits.NoMemory → status ≡ exit_status (frames_exit (Ok ending)) → A
no_ending status ending four is =
    let e : Err NoMemory ≡ Ok ending = is_ending (Err NoMemory) ending (sym four ∙ is) in
    absurd (cc)

-- ---- the statuses of other commands

not_seven : {A : Type 0} (result : Result (Ending FrameFault) Stop) → exit_status (frames_exit result) ≡ exit_status exits.LineRefused → A
not_seven (Ok Done) is = absurd (omega (arith, is))
not_seven (Ok ReadFault) is = absurd (omega (arith, is))
not_seven (Ok (Refused BadFrame)) is = absurd (omega (arith, is))
not_seven (Ok (Refused TooManyFrames)) is = absurd (omega (arith, is))
not_seven (Err NoMemory) is = absurd (omega (arith, is))
not_seven (Err WriteFault) is = absurd (omega (arith, is))

pub no_fault_read : (status before now : ℕ) → IsWireStatus status → (IsReadThrough status → now ≡ before)
    → (status ≡ exit_status exits.Done) ⊎ (status ≡ exit_status exits.LineRefused) → now ≡ before
no_fault_read status before now known through (inl zero) = through (inl zero)
no_fault_read status before now known through (inr seven) = not_seven known.0 (sym known.1 ∙ seven)

-- a source that was read to its end, or to what is refused, didn't fail
through_by : (result : Result (Ending FrameFault) Stop) (before now : ℕ)
    → IfOk result (λ ending. RisesIf (has_read_fault (Ok (Some ending))) before now) → IsReadThrough (exit_status (frames_exit result)) → now ≡ before
through_by (Ok Done) before now rises is = rises
through_by (Ok (Refused BadFrame)) before now rises is = rises
through_by (Ok (Refused TooManyFrames)) before now rises is = rises
through_by (Ok ReadFault) before now rises (inl is) = absurd (omega (arith, is))
through_by (Ok ReadFault) before now rises (inr (inl is)) = absurd (omega (arith, is))
through_by (Ok ReadFault) before now rises (inr (inr is)) = absurd (omega (arith, is))
through_by (Err NoMemory) before now rises (inl is) = absurd (omega (arith, is))
through_by (Err NoMemory) before now rises (inr (inl is)) = absurd (omega (arith, is))
through_by (Err NoMemory) before now rises (inr (inr is)) = absurd (omega (arith, is))
through_by (Err WriteFault) before now rises (inl is) = absurd (omega (arith, is))
through_by (Err WriteFault) before now rises (inr (inl is)) = absurd (omega (arith, is))
through_by (Err WriteFault) before now rises (inr (inr is)) = absurd (omega (arith, is))

pub through : (result : Result (Ending FrameFault) Stop) (status : ℕ) → status ≡ exit_status (frames_exit result) → (before now : ℕ)
    → IfOk result (λ ending. RisesIf (has_read_fault (Ok (Some ending))) before now)
    → IsReadThrough status → now ≡ before
through result status is before now rises read = through_by result before now rises (subst IsReadThrough is read)

-- ---- what is answered

module _ (setting : Setting) (status : ℕ) (slots : List PlainSlot) (root : List ℕ) (world : Around) (input : Object SourceState) (output : Object SinkState) where
  pub answered : Serves setting status slots root world input output
      → AnswersBy setting status (opening slots root world.old) world.new input.old input.new output.old output.new
  answered (inl s) = λ ending is. record {
    end = s.end;
    world_is = s.world_is;
    all = subst (λ (r : Result (Ending FrameFault) Stop).
        Answers setting r (opening slots root world.old) s.end input.old input.new output.old output.new) (is_ending s.result ending (sym s.is ∙ is)) s.answers;
  }
  answered (inr n) = λ ending is. no_ending status ending n.0 is

-- ---- what the bytes say

module _ (result : Result (Ending FrameFault) Stop) (status : ℕ) (is : status ≡ exit_status (frames_exit result)) where
  pub read_by : (x y : SourceState) → ReadsFrames result x y → ReadsFramesBy status x y
  read_by x y r = record {
    taken = r.taken;
    source = r.source;
    reads = r.reads;
    ends = r.ends;
    by = λ ending e. subst (λ (s : Result (Ending FrameFault) Stop). EndsAtBytes s r.taken y.left) (is_ending result ending (sym is ∙ e)) r.by;
    looks = r.looks;
  }

  by_either : (ending : Ending FrameFault) → (result ≡ Ok ending) ⊎ (result ≡ Err NoMemory)
      → (status ≡ exit_status (frames_exit (Ok ending))) ⊎ (status ≡ exit_status exits.NoMemory)
  by_either ending (inl e) = inl (is ∙ ap exit_status (ap frames_exit e))
  by_either ending (inr e) = inr (is ∙ ap exit_status (ap frames_exit e))

  pub completes_by : (input : List ℕ) (R W : Type 0) → Completes result input R W → WireCompletes status input R W
  completes_by input R W complete = λ steps rest fault bytes spells no_read no_write. by_either _ (complete steps rest fault bytes spells no_read no_write)

-- if an allocation fails nothing is read
some_after : (xs ys : List ℕ) → 0 < length ys → 0 < length (xs ++ ys)
some_after [] ys some = some
some_after (x ∷ xs) ys some = omega arith

nothing_is_open : IsOpen []
nothing_is_open = record {
  body = 0 ∷ 0 ∷ [];
  more = sized (0 ∷ 0 ∷ []);
  body_is = (omega arith, omega arith);
  some = some_after (to_be_bytes w16 2) (0 ∷ 0 ∷ []) (omega arith);
  parts = refl;
}

pub no_frame_read : (status : ℕ) (x : SourceState) → status ≡ exit_status exits.NoMemory → ReadsFramesBy status x x
no_frame_read status x four = record {
  taken = [];
  source = refl;
  reads = omega arith;
  ends = omega arith;
  by = λ ending is. no_ending status ending four is;
  looks = record {
    early = [];
    late = [];
    parts = refl;
    room = omega arith;
    steps = [];
    rest = [];
    spells = record {
      frames = record { framed = tt; parts = refl };
      few = omega arith;
      followed = (nothing_is_open, λ e. refl, λ e. refl);
    };
  };
}
