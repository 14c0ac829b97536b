-- Calls one after another.
use Rattle.std.proofs.Common.{◌≡◌, ℕ, ◌≤◌, List, [], ◌∷◌, ◌++◌, length, Option, Some, None, refl, sym, ap, ◌∙◌, length-append, reverse, arith}
use Rattle.pam_base.specs.declared.call.AppCall.{AppCall}
use Rattle.pam_base.specs.declared.call.AppCall.TheVariants as calls
use Rattle.data_cleanup.specs.DataList.{PlainDataList}
use Rattle.data_cleanup.specs.Ledger.{PlainLedger}
use Rattle.data_cleanup.specs.Cleanup.{Notes, receipts_for}
use Rattle.data_cleanup.specs.Due.{Event, birth, ends}
use Rattle.data_cleanup.specs.Grows.{Grows}
use Rattle.data_cleanup.specs.Modelled.{Lists}
use Rattle.data_cleanup.specs.Moves.{Moves}
use Rattle.report_step.specs.pam_library.specs.AnyWorld.{SpendsAs, SpendsAt, end_at}
use Rattle.report_step.specs.pam_library.specs.Closing.{end_of}
use Rattle.report_step.specs.pam_library.specs.Calls.{MoveOn, Moved, last_ledger, last_lists}
use Rattle.report_step.specs.pam_library.specs.Slots.{PlainSlot, closed, opened}
use Rattle.pam_base.specs.Code.{number_of}
use Rattle.pam_base.specs.declared.code.Code.{Code}
use Rattle.cmd_run.specs.Ends.{EndsAre, IsStatusOf, IsEndStep}
use Rattle.cmd_run.specs.AnyWorld.{AllEndsAre, ProceedsBy}

-- ---- cleanup records stay

grown : (note : Notes) (modules : ℕ) (old new : PlainDataList) (before after : PlainLedger) → Grows note modules old before new after
    → length before.filed ≤ length after.filed
grown note modules old new before after g = rw g.filed (omega (arith, length-append before.filed g.receipts))

spent : (note : Notes) (modules : ℕ) (call : AppCall) (old new : PlainDataList) (before after : PlainLedger)
    → SpendsAs note modules call old before new after → length before.filed ≤ length after.filed
spent note modules (calls.End status) old new before after e = rw e.ledger
    (omega (arith, length-append before.filed (receipts_for note status (length before.births) (reverse old.live))))
spent note modules (calls.Start service user) old new before after g = grown note modules old new before after g
spent note modules (calls.Authenticate flags) old new before after g = grown note modules old new before after g
spent note modules (calls.SetCred flags) old new before after g = grown note modules old new before after g
spent note modules (calls.AcctMgmt flags) old new before after g = grown note modules old new before after g
spent note modules (calls.OpenSession flags) old new before after g = grown note modules old new before after g
spent note modules (calls.CloseSession flags) old new before after g = grown note modules old new before after g
spent note modules (calls.ChAuthTok flags) old new before after g = grown note modules old new before after g
spent note modules (calls.SetItem item value) old new before after g = grown note modules old new before after g
spent note modules (calls.GetItem item) old new before after g = grown note modules old new before after g
spent note modules (calls.PutEnv text) old new before after g = grown note modules old new before after g
spent note modules (calls.GetEnv name) old new before after g = grown note modules old new before after g
spent note modules calls.EnvList old new before after g = grown note modules old new before after g
spent note modules (calls.FailDelay micros) old new before after g = grown note modules old new before after g
spent note modules (calls.DelayFn on) old new before after g = grown note modules old new before after g
spent note modules (calls.Reply text) old new before after g = grown note modules old new before after g

pub receipts_stay : (note : Notes) (modules : ℕ) (slot : Option PlainSlot) (call : AppCall) (old new : PlainDataList) (before after : PlainLedger)
    → SpendsAt note modules slot call old before new after → length before.filed ≤ length after.filed
receipts_stay note modules None call old new before after u = rw u.ledger (omega arith)
receipts_stay note modules (Some (closed conv)) call old new before after u = rw u.ledger (omega arith)
receipts_stay note modules (Some (opened h)) call old new before after s = spent note modules call old new before after s

-- ---- calls

module _ (Is : ℕ → ℕ → Type 0) (note : Notes) where
  pub nothing_done : (before after : PlainLedger) (lists next : Lists) → after ≡ before → next ≡ lists → ProceedsBy Is note before lists after next
  nothing_done before after lists next l e = record { went = record { calls = []; moves = tt; ledger = sym l; lists_are = sym e }; ends_are = tt }

  pub one_call : (before after : PlainLedger) (lists next : Lists) (ended : List Event) → Moves note 17 ended before lists after next
      → EndsAre Is ended → ProceedsBy Is note before lists after next
  one_call before after lists next ended m are = record {
    went = record { calls = record { ended = ended; ledger = after; lists = next } ∷ []; moves = (m, tt); ledger = refl; lists_are = refl };
    ends_are = (are, tt);
  }

  moves-append : (xs ys : List Moved) (ledger : PlainLedger) (lists : Lists) → MoveOn note 17 ledger lists xs
      → MoveOn note 17 (last_ledger ledger xs) (last_lists lists xs) ys → MoveOn note 17 ledger lists (xs ++ ys)
  moves-append [] ys ledger lists a b = b
  moves-append (x ∷ xs) ys ledger lists a b = (a.0, moves-append xs ys x.ledger x.lists a.1 b)

  ledger-append : (xs ys : List Moved) (ledger : PlainLedger) → last_ledger ledger (xs ++ ys) ≡ last_ledger (last_ledger ledger xs) ys
  ledger-append [] ys ledger = refl
  ledger-append (x ∷ xs) ys ledger = ledger-append xs ys x.ledger

  lists-append : (xs ys : List Moved) (lists : Lists) → last_lists lists (xs ++ ys) ≡ last_lists (last_lists lists xs) ys
  lists-append [] ys lists = refl
  lists-append (x ∷ xs) ys lists = lists-append xs ys x.lists

  ends-append : (xs ys : List Moved) → AllEndsAre Is xs → AllEndsAre Is ys → AllEndsAre Is (xs ++ ys)
  ends-append [] ys a b = b
  ends-append (x ∷ xs) ys a b = (a.0, ends-append xs ys a.1 b)

  pub goes_on : (a b c : PlainLedger) (k l m : Lists) → ProceedsBy Is note a k b l → ProceedsBy Is note b l c m → ProceedsBy Is note a k c m
  goes_on a b c k l m x y = record {
    went = record {
      calls = x.went.calls ++ y.went.calls;
      moves = moves-append x.went.calls y.went.calls a k x.went.moves (rw (x.went.ledger, x.went.lists_are) y.went.moves);
      ledger = ledger-append x.went.calls y.went.calls a ∙ ap (λ (t : PlainLedger). last_ledger t y.went.calls) x.went.ledger ∙ y.went.ledger;
      lists_are = lists-append x.went.calls y.went.calls k ∙ ap (λ (t : Lists). last_lists t y.went.calls) x.went.lists_are ∙ y.went.lists_are;
    };
    ends_are = ends-append x.went.calls y.went.calls x.ends_are y.ends_are;
  }

-- ends among these are among those
module _ (Is Are : ℕ → ℕ → Type 0) (so : (number status : ℕ) → Is number status → Are number status) where
  ends_so : (events : List Event) → EndsAre Is events → EndsAre Are events
  ends_so [] are = tt
  ends_so (birth b ∷ events) are = ends_so events are
  ends_so (ends number status ∷ events) are = (so number status are.0, ends_so events are.1)

  all_so : (calls : List Moved) → AllEndsAre Is calls → AllEndsAre Are calls
  all_so [] are = tt
  all_so (m ∷ calls) are = (ends_so m.ended are.0, all_so calls are.1)

  pub proceeds_so : (note : Notes) (before after : PlainLedger) (lists next : Lists) → ProceedsBy Is note before lists after next
      → ProceedsBy Are note before lists after next
  proceeds_so note before after lists next p = record { went = p.went; ends_are = all_so p.went.calls p.ends_are }

-- the end that a call makes, if it makes one
pub call_ends : (slot : Option PlainSlot) (number : ℕ) (call : AppCall)
    → EndsAre (IsEndStep (record { number = number; call = call })) (end_at slot number call)
call_ends None number call = tt
call_ends (Some (closed conv)) number call = tt
call_ends (Some (opened h)) number (calls.End status) = (refl, tt)
call_ends (Some (opened h)) number (calls.Start service user) = tt
call_ends (Some (opened h)) number other = tt

-- the end of the open transaction of the lowest number
pub closing_ends : (code : Code) (status : ℕ) (number : Option ℕ) → status ≡ number_of code → EndsAre (IsStatusOf code) (end_of status number)
closing_ends code status None e = tt
closing_ends code status (Some n) e = (e, tt)
