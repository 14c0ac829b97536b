-- Logins computed: a plain program that does what the definition says, and test cases of it: one that succeeds, with and
-- without a new token; for each kind of call one that it denies; and one whose start is refused.
use Rattle.std.proofs.Common.{◌≡◌, ℕ, Bool, true, false, List, [], ◌∷◌, ◌++◌, Option, Some, None, Result, Ok, inl, codes, refl}
use Rattle.std.specs.Fmt.{digits}
use Rattle.pam_base.specs.declared.code.Code.{Code}
use Rattle.pam_base.specs.declared.code.Code.TheVariants.{Success}
use Rattle.pam_base.specs.declared.call.AppCall.{AppCall}
use Rattle.pam_base.specs.declared.call.AppCall.TheVariants.{Start}
use Rattle.pam_base.specs.declared.call.Func.{Func}
use Rattle.pam_base.specs.declared.call.Func.TheVariants as funcs
use Rattle.pam_outside.specs.Files.{no_locks}
use Rattle.pam_outside.specs.Paths.{path_of}
use Rattle.cmd_run.specs.conf_lex.specs.Answer.{answer_to}
use Rattle.cmd_run.specs.conf_lex.specs.Lexing.{answer_at}
use Rattle.cmd_run.specs.conf_lex.specs.Reading.{first_piece, pieces_after}
use Rattle.cmd_run.specs.service_load.specs.Entry.{entry_of}
use Rattle.cmd_run.specs.service_load.specs.FirstFault.{look}
use Rattle.cmd_run.specs.service_load.specs.Order.{items}
use Rattle.cmd_run.specs.service_load.specs.Tree.{nodes}
use Rattle.cmd_run.specs.pam_room.specs.Call.{PlainCall}
use Rattle.cmd_run.specs.pam_room.specs.Module.{NamedData, Player, SeenRoom, Sight, length_note, never_breaks, same_locks}
use Rattle.cmd_run.specs.pam_library.specs.AnyWorld.{is_refused}
use Rattle.cmd_run.specs.pam_library.specs.Slots.{PlainSlot, closed}
use Rattle.cmd_run.specs.pam_library.specs.Step.{stepped}
use Rattle.cmd_run.specs.pam_library.specs.declared.outcome.Answer.{Answer}
use Rattle.cmd_run.specs.State.{RunState, Setting, kept_at, setting_of, state_of}
use Rattle.record_reader.specs.declared.ending.Stop.{Stop}
use Rattle.cmd_login.specs.declared.attempt.Verdict.{Verdict}
use Rattle.cmd_login.specs.declared.attempt.Verdict.TheVariants.{Passed, Denied, Refused}
use Rattle.cmd_login.specs.declared.calls.LoginCall.{LoginCall}
use Rattle.cmd_login.specs.Calls.{accepts, call_of, code_in, is_due, last_place, login_calls}
use Rattle.cmd_login.specs.Login.{AfterStart, FinalVerdict, GoesThrough, Judged, LastLine, MakesCall, Part, Then, TriesLogin, Turn, UnlessRefused, answer_line}
use Rattle.cmd_login.specs.Login.{denied_line, end_call, end_code, verdict_by}
use Rattle.cmd_login.specs.Told.{exact_calls, made_in, state_made}

-- ---- the program

-- what a part returned, the state after it, and what it wrote
record Done (T : Type 0) : Type 0 where
  pub value : T
  pub after : RunState
  pub text : List ℕ

abbrev returned : {T : Type 0} → T → RunState → Done T
returned t s = record { value = t; after = s; text = [] }

abbrev with_text : {T : Type 0} → List ℕ → Done T → Done T
with_text text d = record d { text = text ++ d.text }

module _ (setting : Setting) where
  abbrev called : ℕ → AppCall → RunState → Done Answer
  called place call s = let answer = (made_in setting call (kept_at setting place s)).outcome.answer in
      record { value = answer; after = state_made setting call (kept_at setting place s); text = answer_line call answer }

  abbrev judged : Bool → Code → (Code → RunState → Done (Option Code)) → RunState → Done (Option Code)
  judged true code others s = others code s
  judged false code others s = returned (Some code) s

  abbrev turn : Bool → LoginCall → Code → (Code → RunState → Done (Option Code)) → RunState → Done (Option Code)
  turn false c last others s = others last s
  turn true c last others s = let d = called c.place (call_of c) s in
      with_text d.text (judged (accepts c.accepted (code_in d.value)) (code_in d.value) others d.after)

  gone_through : List LoginCall → Code → RunState → Done (Option Code)
  gone_through [] last s = returned None s
  gone_through (c ∷ calls) last s = turn (is_due c.when last) c last (gone_through calls) s

  abbrev last_text : Option Code → List ℕ
  last_text None = []
  last_text (Some code) = denied_line code

  abbrev ended : Option Code → RunState → Done Verdict
  ended denied s = let d = called last_place (end_call (end_code denied)) s in
      record { value = verdict_by denied; after = d.after; text = d.text ++ last_text denied }

  abbrev started : RunState → Done Verdict
  started s = let d = gone_through login_calls Success s in with_text d.text (ended d.value d.after)

  abbrev unless_refused : Bool → RunState → Done Verdict
  unless_refused true s = returned Refused s
  unless_refused false s = started s

  abbrev logged_in : List ℕ → Option (List ℕ) → RunState → Done Verdict
  logged_in service user s = let d = called 0 (Start service user) s in
      with_text d.text (unless_refused (is_refused d.value) d.after)

-- ---- it does what the definition says

abbrev Meets : {T : Type 0} → Setting → Part T → RunState → Done T → Type 0
Meets setting Does s d = Does (exact_calls setting) s (Ok d.value) d.after d.text

module _ (setting : Setting) where
  calls : (place : ℕ) (call : AppCall) (s : RunState) → Meets setting (MakesCall place call) s (called setting place call s)
  calls place call s = inl (record { answer = (called setting place call s).value; made = (refl, refl); line = (refl, refl) })

  after_call : {T : Type 0} (place : ℕ) (call : AppCall) (Next : Answer → Part T) (s : RunState) (d : Done T)
      → Meets setting (Next (called setting place call s).value) (called setting place call s).after d
      → Meets setting (Then (MakesCall place call) Next) s (with_text (called setting place call s).text d)
  after_call place call Next s d next = inl (record {
    done = (called setting place call s).value;
    middle = (called setting place call s).after;
    front = (called setting place call s).text;
    back = d.text;
    text_is = refl;
    begins = calls place call s;
    follows = next;
  })

  judges : (goes : Bool) (code : Code) (Others : Code → Part (Option Code)) (others : Code → RunState → Done (Option Code))
      → ((last : Code) (s : RunState) → Meets setting (Others last) s (others last s)) → (s : RunState)
      → Meets setting (Judged goes code Others) s (judged setting goes code others s)
  judges true code Others others meets s = meets code s
  judges false code Others others meets s = (refl, refl, refl)

  turns : (due : Bool) (c : LoginCall) (last : Code) (Others : Code → Part (Option Code)) (others : Code → RunState → Done (Option Code))
      → ((last : Code) (s : RunState) → Meets setting (Others last) s (others last s)) → (s : RunState)
      → Meets setting (Turn due c last Others) s (turn setting due c last others s)
  turns false c last Others others meets s = meets last s
  turns true c last Others others meets s =
      let d = called setting c.place (call_of c) s in
      after_call c.place (call_of c) (λ answer. Judged (accepts c.accepted (code_in answer)) (code_in answer) Others) s
      (judged setting (accepts c.accepted (code_in d.value)) (code_in d.value) others d.after)
      (judges (accepts c.accepted (code_in d.value)) (code_in d.value) Others others meets d.after)

  goes_through : (table : List LoginCall) (last : Code) (s : RunState) → Meets setting (GoesThrough table last) s (gone_through setting table last s)
  unfolding gone_through
  goes_through [] last s = (refl, refl, refl)
  goes_through (c ∷ table) last s = turns (is_due c.when last) c last (GoesThrough table) (gone_through setting table) (goes_through table) s

  ends : (denied : Option Code) (s : RunState) → Meets setting (FinalVerdict denied) s (ended setting denied s)
  ends None s = after_call last_place (end_call Success) (λ answer. LastLine None) s (returned Passed (called setting last_place (end_call Success) s).after)
      (refl, refl, refl)
  ends (Some code) s = after_call last_place (end_call code) (λ answer. LastLine (Some code)) s
      (record { value = Denied code; after = (called setting last_place (end_call code) s).after; text = denied_line code })
      (refl, refl, refl)

  starts : (s : RunState) → Meets setting AfterStart s (started setting s)
  starts s = let d = gone_through setting login_calls Success s in inl (record {
    done = d.value;
    middle = d.after;
    front = d.text;
    back = (ended setting d.value d.after).text;
    text_is = refl;
    begins = goes_through login_calls Success s;
    follows = ends d.value d.after;
  })

  unless : (refused : Bool) (s : RunState) → Meets setting (UnlessRefused refused) s (unless_refused setting refused s)
  unless true s = (refl, refl, refl)
  unless false s = starts s

  logs_in : (service : List ℕ) (user : Option (List ℕ)) (s : RunState) → Meets setting (TriesLogin service user) s (logged_in setting service user s)
  logs_in service user s =
      let d = called setting 0 (Start service user) s in
      inl (after_call 0 (Start service user) (λ answer. UnlessRefused (is_refused answer)) s
      (unless_refused setting (is_refused d.value) d.after) (unless (is_refused d.value) d.after))

-- ---- test cases

-- a module that returns a code by the function, and sets module data when it authenticates
abbrev answers_by : (Func → Code) → Player
answers_by by = record {
  name = codes "p";
  plays = λ (call : PlainCall) (room : SeenRoom) (datums : List NamedData) (sight : Sight).
      record { code = by call.func; room = room; births = []; files = sight.files; locks = same_locks; calls = 0; draws = 0 };
  note = length_note;
  breaks = never_breaks;
}

abbrev with_answers : (Func → Code) → Setting
with_answers by = setting_of (answers_by by ∷ []) (λ code asked. 0)

abbrev place : PlainSlot
place = closed (record { offers = []; waits = false; handed = [] })

-- a service with a line of each type
abbrev start : RunState
start = state_of (place ∷ []) (record {
  vault = record {
    files = record {
      path = codes "/r/etc/pam.d/t";
      bytes =
          codes "auth required p\naccount required p\npassword required p\nsession required p";
    } ∷ [];
    locks = no_locks;
    calls = 0;
    fails = [];
  };
  clock = record { moment = 0; word = 0; draws = 0 };
  nap = record { waits = 0; sum = 0 };
  process = record { ledger = record { births = []; filed = [] }; root = codes "/r"; caller = 0 };
})

abbrev login_by : (Func → Code) → List ℕ
login_by by = (logged_in (with_answers by) (codes "t") None start).text

abbrev all_succeed : Func → Code
all_succeed func = Code.Success

passed : login_by all_succeed
    ≡ codes "1 start SUCCESS 0\n1 authenticate SUCCESS 0\n1 acct_mgmt SUCCESS 0\n1 setcred SUCCESS 0\n1 open_session SUCCESS 0\n1 close_session SUCCESS 0\n1 setcred SUCCESS 0\n1 end SUCCESS 0\n"
unfolding gone_through stepped digits look items answer_to answer_at pieces_after first_piece entry_of nodes path_of
passed = refl

denied_when_authenticating : Func → Code
denied_when_authenticating funcs.Authenticate = Code.AuthErr
denied_when_authenticating func = Code.Success

denied : login_by denied_when_authenticating ≡ codes "1 start SUCCESS 0\n1 authenticate AUTH_ERR 7\n1 end SUCCESS 0\ndenied AUTH_ERR 7\n"
unfolding denied_when_authenticating gone_through stepped digits look items answer_to answer_at pieces_after first_piece entry_of nodes path_of
denied = refl

-- a token that is too old is changed
too_old : Func → Code
too_old funcs.AcctMgmt = Code.NewAuthtokReqd
too_old func = Code.Success

renewed : login_by too_old
    ≡ codes "1 start SUCCESS 0\n1 authenticate SUCCESS 0\n1 acct_mgmt NEW_AUTHTOK_REQD 12\n1 chauthtok SUCCESS 0\n1 setcred SUCCESS 0\n1 open_session SUCCESS 0\n"
    ++ codes "1 close_session SUCCESS 0\n1 setcred SUCCESS 0\n1 end SUCCESS 0\n"
unfolding too_old gone_through stepped digits look items answer_to answer_at pieces_after first_piece entry_of nodes path_of
renewed = refl

-- an account that has expired, and what may go wrong after the session
expired : Func → Code
expired funcs.AcctMgmt = Code.AcctExpired
expired func = Code.Success

account_denied : login_by expired ≡ codes "1 start SUCCESS 0\n1 authenticate SUCCESS 0\n1 acct_mgmt ACCT_EXPIRED 13\n1 end SUCCESS 0\ndenied ACCT_EXPIRED 13\n"
unfolding expired gone_through stepped digits look items answer_to answer_at pieces_after first_piece entry_of nodes path_of
account_denied = refl

session_stays : Func → Code
session_stays funcs.CloseSession = Code.SessionErr
session_stays func = Code.Success

passed_all_the_same : login_by session_stays
    ≡ codes "1 start SUCCESS 0\n1 authenticate SUCCESS 0\n1 acct_mgmt SUCCESS 0\n1 setcred SUCCESS 0\n1 open_session SUCCESS 0\n1 close_session SESSION_ERR 14\n"
    ++ codes "1 setcred SUCCESS 0\n1 end SUCCESS 0\n"
unfolding session_stays gone_through stepped digits look items answer_to answer_at pieces_after first_piece entry_of nodes path_of
passed_all_the_same = refl

-- a service that doesn't exist
refused : (logged_in (with_answers all_succeed) (codes "u") None start).text ≡ codes "refused /etc/pam.d/u 0 NoService 15\n"
unfolding gone_through stepped digits look items answer_to answer_at pieces_after first_piece entry_of nodes path_of
refused = refl
