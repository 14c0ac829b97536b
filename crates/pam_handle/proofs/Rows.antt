-- Test cases computed on the definitions, with small modules made for them.
use Rattle.std.proofs.Common.{◌≡◌, ℕ, ◌+◌, ◌*◌, ◌%◌, Bool, true, false, List, [], ◌∷◌, map, Some, None, is_ok, length, min, codes, if◌then◌else◌, refl}
use Rattle.dispatch_core.specs.env_list.specs.Environment.{after_put, is_refused, value_of}
use Rattle.dispatch_core.specs.conv_port.specs.declared.offer.Offer.{Offer}
use Rattle.dispatch_core.specs.conv_port.specs.declared.offer.Offer.TheVariants.{Answer, Later}
use Rattle.dispatch_core.specs.control_words.specs.declared.control.Action.{Action}
use Rattle.dispatch_core.specs.control_words.specs.declared.control.Action.TheVariants as actions
use Rattle.dispatch_core.specs.control_words.specs.declared.nodes.Rule.{Rule}
use Rattle.dispatch_core.specs.control_words.specs.Control.{usual}
use Rattle.dispatch_core.specs.control_words.specs.Keyword.{required, sufficient, optional}
use Rattle.dispatch_core.specs.control_words.specs.Stack.{Stack, none, line}
use Rattle.dispatch_core.specs.Lines.{names_of}
use Rattle.item_store.specs.Items.{text_of, with_text}
use Rattle.pam_base.specs.declared.code.Code.{Code}
use Rattle.pam_base.specs.declared.code.Code.TheVariants as returns
use Rattle.pam_base.specs.declared.call.Func.{Func}
use Rattle.pam_base.specs.declared.call.Func.TheVariants.{Authenticate, SetCred, OpenSession, CloseSession, ChAuthTok}
use Rattle.pam_base.specs.declared.item.ItemName.TheVariants.{Tty, User}
use Rattle.pam_base.specs.declared.style.Style.TheVariants.{EchoOn}
use Rattle.data_cleanup.specs.declared.receipt.Filed.{Filed}
use Rattle.data_cleanup.specs.declared.receipt.Receipt.{Receipt}
use Rattle.dispatch_core.specs.pam_outside.specs.Files.{no_locks}
use Rattle.dispatch_core.specs.pam_room.specs.Call.{has_flag, prelim_check}
use Rattle.dispatch_core.specs.pam_room.specs.Module.{NamedData, Note, Played, Player, Plays, Sight, answered, never_breaks, notes_of}
use Rattle.dispatch_core.specs.pam_room.specs.Say.{Spoken, speak}
use Rattle.dispatch_core.specs.pam_room.specs.State.{PlainWorld, world_of}
use Rattle.dispatch_core.specs.pam_room.specs.declared.visits.Visit.{Visit}
use Rattle.pam_handle.specs.declared.wait.Wait.{Wait}
use Rattle.dispatch_core.specs.service_load.specs.Stacks.{Stacks}
use Rattle.pam_handle.specs.Handle.{PlainHandle}
use Rattle.dispatch_core.specs.Pending.{pending_func}
use Rattle.pam_handle.specs.Call.{Called}
use Rattle.pam_handle.specs.End.{world_after_end}
use Rattle.pam_handle.specs.Items.{all_told, missing_from, with_delay_function, with_environment, with_items, with_request}
use Rattle.pam_handle.specs.Start.{new_handle}
use Rattle.pam_handle.specs.StackCalls.{stack_call}

-- ---- modules

-- a module whose code depends on the function and on whether it is the first pass of a change of
-- token
abbrev answers : (Func → Bool → Code) → Plays
answers f call room held sight = answered (f call.func (has_flag call.flags prelim_check)) room sight

-- a module that sets some data
abbrev sets : List NamedData → Plays
sets ds call room held sight = record (answered returns.Success room sight) { births = ds }

abbrev asked_for : List NamedData → Spoken → Sight → Played
asked_for ds spoken sight = record (answered (if is_ok spoken.answer then returns.Success else returns.ConvErr) spoken.room sight) { births = ds }

-- a module that sets some data and then asks
abbrev sets_and_asks : List NamedData → Plays
sets_and_asks ds call room held sight = asked_for ds (speak (record { style = EchoOn; text = codes "Q" } ∷ []) room) sight

abbrev datum : List ℕ → List ℕ → NamedData
datum name payload = record { name = name; payload = payload }

-- 256 times the payload's length, and the last byte of the status
abbrev noted : Note
noted payload status = 256 * length payload + status % 256

abbrev player : List ℕ → Plays → Player
player name plays = record { name = name; plays = plays; note = noted; breaks = never_breaks }

-- ---- transactions

abbrev by : List ℕ → List Action → Rule
by path control = record { silent = false; control = control; path = path; args = [] }

abbrev stacks : Stack → Stack → Stack → Stacks
stacks auth password session = record { auth = auth; account = none; password = password; session = session }

-- transaction 1 of the user joe, with these modules
abbrev started_with : List Player → List Offer → Stacks → PlainHandle
started_with players offers s = new_handle 1 (codes "t") (Some (codes "joe")) (record { offers = offers; waits = false; handed = [] }) (names_of players) s

abbrev world : ℕ → PlainWorld
world word = world_of (record { files = []; locks = no_locks; calls = 0; fails = [] }) (record { moment = 0; word = word; draws = 0 }) (record { waits = 0; sum = 0 }) (record { ledger = record { births = []; filed = [] }; root = []; caller = 0 })

-- the application's delay function: at most 3 seconds
abbrev three_seconds : Code → ℕ → ℕ
three_seconds code asked = min asked 3000000

abbrev calls : List Player → Func → ℕ → PlainHandle → PlainWorld → Called
calls players func flags h w = stack_call players three_seconds func flags h w

-- the codes of the lines that were run
abbrev answers_of : Called → List Code
answers_of c = map (λ (v : Visit). v.answer) c.handle.room.transaction.trail

abbrev places_of : Called → List ℕ
places_of c = map (λ (v : Visit). v.place) c.handle.room.transaction.trail

-- after its record was taken
abbrev told : Called → PlainHandle
told c = all_told c.handle

-- ---- setcred uses the codes that authenticate cached

abbrev cred_err : Func → Bool → Code
cred_err SetCred first = returns.CredErr
cred_err func first = returns.Success

abbrev succeeds : Func → Bool → Code
succeeds func first = returns.Success

abbrev two : List Player
two = player (codes "a") (answers cred_err) ∷ player (codes "b") (answers succeeds) ∷ []

abbrev sufficient_first : PlainHandle
sufficient_first = started_with two [] (stacks (line (by (codes "a.so") sufficient) (line (by (codes "b.so") required) none)) none none)

abbrev first_authenticated : Called
first_authenticated = calls two Authenticate 0 sufficient_first (world 0)

first_authenticated-code : first_authenticated.code ≡ returns.Success
first_authenticated-code = refl

first_authenticated-places : places_of first_authenticated ≡ 1 ∷ []
first_authenticated-places = refl

first_credentials-code : (calls two SetCred 2 (told first_authenticated) (world 0)).code ≡ returns.CredErr
first_credentials-code = refl

first_credentials-places : places_of (calls two SetCred 2 (told first_authenticated) (world 0)) ≡ 1 ∷ []
first_credentials-places = refl

-- without an authentication nothing is cached, and the flags 0 are PAM_ESTABLISH_CRED
abbrev unavailable : Func → Bool → Code
unavailable func first = returns.CredUnavail

abbrev loose : Called
loose = calls (player (codes "a") (answers unavailable) ∷ []) SetCred 0 (started_with (player (codes "a") (answers unavailable) ∷ []) [] (stacks (line (by (codes "a") required) none) none none)) (world 0)

loose-code : loose.code ≡ returns.CredUnavail
loose-code = refl

loose_again-code : (calls (player (codes "a") (answers unavailable) ∷ []) SetCred 0 loose.handle (world 0)).code ≡ returns.CredUnavail
loose_again-code = refl

-- a jump that was taken is taken again
abbrev jumps : PlainHandle
jumps = started_with two [] (stacks (line (by (codes "a") (usual (actions.Jump 1) actions.Ignore actions.Ignore)) (line (by (codes "b") required) (line (by (codes "b") required) none))) none none)

abbrev jumped : Called
jumped = calls two Authenticate 0 jumps (world 0)

jumped-places : places_of jumped ≡ 1 ∷ 3 ∷ []
jumped-places = refl

jumped_credentials-code : (calls two SetCred 2 (told jumped) (world 0)).code ≡ returns.CredErr
jumped_credentials-code = refl

jumped_credentials-places : places_of (calls two SetCred 2 (told jumped) (world 0)) ≡ 1 ∷ 3 ∷ []
jumped_credentials-places = refl

-- a present IGNORE doesn't count, even if the cached code ends the list
abbrev ignores : Func → Bool → Code
ignores SetCred first = returns.Ignore
ignores func first = returns.Success

abbrev ignoring : List Player
ignoring = player (codes "a") (answers ignores) ∷ player (codes "b") (answers succeeds) ∷ []

abbrev ignored : Called
ignored = calls ignoring Authenticate 0 (started_with ignoring [] (stacks (line (by (codes "a") sufficient) (line (by (codes "b") required) none)) none none)) (world 0)

ignored_credentials-code : (calls ignoring SetCred 2 (told ignored) (world 0)).code ≡ returns.PermDenied
ignored_credentials-code = refl

ignored_credentials-answers : answers_of (calls ignoring SetCred 2 (told ignored) (world 0)) ≡ returns.Ignore ∷ []
ignored_credentials-answers = refl

-- ---- sessions

abbrev session_err : Func → Bool → Code
session_err CloseSession first = returns.SessionErr
session_err func first = returns.Success

abbrev session_player : List Player
session_player = player (codes "a") (answers session_err) ∷ []

abbrev session : PlainHandle
session = started_with session_player [] (stacks none none (line (by (codes "a") optional) none))

abbrev session_opened : Called
session_opened = calls session_player OpenSession 0 session (world 0)

session_opened-code : session_opened.code ≡ returns.Success
session_opened-code = refl

session_closed-code : (calls session_player CloseSession 0 (told session_opened) (world 0)).code ≡ returns.SessionErr
session_closed-code = refl

session_closed_again-code : (calls session_player CloseSession 0 (told (calls session_player CloseSession 0 (told session_opened) (world 0))) (world 0)).code ≡ returns.SessionErr
session_closed_again-code = refl

never_opened-code : (calls session_player CloseSession 0 session (world 0)).code ≡ returns.PermDenied
never_opened-code = refl

-- ---- a change of token

abbrev tries_again : Func → Bool → Code
tries_again func true = returns.TryAgain
tries_again func false = returns.Success

abbrev changes : (Func → Bool → Code) → ℕ → Called
changes f flags = calls (player (codes "a") (answers f) ∷ []) ChAuthTok flags (started_with (player (codes "a") (answers f) ∷ []) [] (stacks none (line (by (codes "a") required) none) none)) (world 0)

checked-code : (changes tries_again 0).code ≡ returns.TryAgain
checked-code = refl

checked-answers : answers_of (changes tries_again 0) ≡ returns.TryAgain ∷ []
checked-answers = refl

changed-code : (changes succeeds 0).code ≡ returns.Success
changed-code = refl

changed-answers : answers_of (changes succeeds 0) ≡ returns.Success ∷ returns.Success ∷ []
changed-answers = refl

refused_flags-code : (changes succeeds 0x4000).code ≡ returns.SystemErr
refused_flags-code = refl

refused_flags-answers : answers_of (changes succeeds 0x4000) ≡ []
refused_flags-answers = refl

-- ---- data and the end

abbrev receipt : ℕ → ℕ → ℕ → Receipt
receipt id status note = record { id = id; status = status; note = note }

abbrev receipts : PlainWorld → List Receipt
receipts w = map (λ (f : Filed). f.receipt) w.process.ledger.filed

abbrev with_data : List NamedData → Called
with_data ds = calls (player (codes "a") (sets ds) ∷ []) Authenticate 0 (started_with (player (codes "a") (sets ds) ∷ []) [] (stacks (line (by (codes "a") required) none) none none)) (world 0)

abbrev end_of : List NamedData → ℕ → PlainWorld
end_of ds status = world_after_end (notes_of (player (codes "a") (sets ds) ∷ [])) status (with_data ds).handle (with_data ds).world

abbrev thrice : List NamedData
thrice = datum (codes "a") (codes "x") ∷ datum (codes "a") (codes "yy") ∷ datum (codes "a") (codes "zzz") ∷ []

thrice-swept : receipts (with_data thrice).world ≡ receipt 0 0x20000000 256 ∷ receipt 1 0x20000000 512 ∷ []
thrice-swept = refl

thrice-ended : receipts (end_of thrice 0x40000007) ≡ receipt 0 0x20000000 256 ∷ receipt 1 0x20000000 512 ∷ receipt 2 0x40000007 775 ∷ []
thrice-ended = refl

abbrev in_turn : List NamedData
in_turn = datum (codes "a") (codes "1") ∷ datum (codes "b") (codes "22") ∷ datum (codes "a") (codes "333") ∷ []

in_turn-ended : receipts (end_of in_turn 0) ≡ receipt 0 0x20000000 256 ∷ receipt 1 0 512 ∷ receipt 2 0 768 ∷ []
in_turn-ended = refl

-- ---- the environment and items

abbrev put : List ℕ → PlainHandle → PlainHandle
put text h = with_environment (after_put text h.room.transaction.env) h

abbrev two_variables : PlainHandle
two_variables = put (codes "A") (put (codes "B=") (put (codes "A=1") session))

deleted_twice : is_refused (codes "A") two_variables.room.transaction.env ≡ true
deleted_twice = refl

empty_value : value_of (codes "B") two_variables.room.transaction.env ≡ Some []
empty_value = refl

deleted_value : value_of (codes "A") two_variables.room.transaction.env ≡ None
deleted_value = refl

abbrev on_terminal : PlainHandle
on_terminal = with_items (with_text session.room.transaction.items Tty (Some (codes "pts/1"))) session

terminal-text : text_of on_terminal.room.transaction.items Tty ≡ Some (codes "pts/1")
terminal-text = refl

started-user : text_of session.room.transaction.items User ≡ Some (codes "joe")
started-user = refl

-- ---- delays

abbrev denies : Func → Bool → Code
denies func first = returns.AuthErr

abbrev denying : PlainHandle
denying = started_with (player (codes "a") (answers denies) ∷ []) [] (stacks (line (by (codes "a") required) none) none none)

abbrev denied : PlainHandle → ℕ → Called
denied h word = calls (player (codes "a") (answers denies) ∷ []) Authenticate 0 h (world word)

abbrev wait : ℕ → ℕ → Wait
wait asked n = record { code = returns.AuthErr; asked = asked; wait = n }

abbrev delayed : Called
delayed = denied (with_delay_function true (with_request 3000000 denying)) 1

delayed-wait : delayed.handle.waited ≡ Some (wait 3000001 3000000)
delayed-wait = refl

delayed-rest : delayed.world.nap.sum ≡ 3000000
delayed-rest = refl

-- the request is dropped; a delay function that is on is called all the same
delayed_again-wait : (denied (told delayed) 1).handle.waited ≡ Some (wait 0 0)
delayed_again-wait = refl

delayed_again-rest : (denied (told delayed) 1).world.nap.waits ≡ 0
delayed_again-rest = refl

-- if it is off, the requested delay is waited after a failure
undelayed-wait : (denied (with_request 3000000 denying) 0).handle.waited ≡ Some (wait 3000000 3000000)
undelayed-wait = refl

unasked-wait : (denied denying 0).handle.waited ≡ None
unasked-wait = refl

-- ---- calls that are incomplete

abbrev asking : List Player
asking = player (codes "a") (sets_and_asks (datum (codes "a") (codes "x") ∷ [])) ∷ []

abbrev put_off : Called
put_off = calls asking Authenticate 0 (started_with asking (Later ∷ Answer (codes "y") ∷ []) (stacks (line (by (codes "a") required) none) none none)) (world 0)

put_off-code : put_off.code ≡ returns.Incomplete
put_off-code = refl

put_off-answers : answers_of put_off ≡ returns.Incomplete ∷ []
put_off-answers = refl

put_off-pending : pending_func put_off.handle.pending ≡ Some Authenticate
put_off-pending = refl

put_off-ended : receipts (world_after_end (notes_of asking) 5 put_off.handle put_off.world) ≡ receipt 0 5 261 ∷ []
put_off-ended = refl

-- another call is aborted, and nothing changes
aborted-code : (calls asking SetCred 2 put_off.handle put_off.world).code ≡ returns.Abort
aborted-code = refl

aborted-handle : (calls asking SetCred 2 put_off.handle put_off.world).handle ≡ put_off.handle
aborted-handle = refl

-- it is resumed, and ends
abbrev gone_on : Called
gone_on = calls asking Authenticate 0 put_off.handle put_off.world

gone_on-code : gone_on.code ≡ returns.Success
gone_on-code = refl

gone_on-pending : pending_func gone_on.handle.pending ≡ None
gone_on-pending = refl

-- a module that returns INCOMPLETE itself leaves its call incomplete each time
abbrev incomplete : Func → Bool → Code
incomplete func first = returns.Incomplete

abbrev never : List Player
never = player (codes "a") (answers incomplete) ∷ []

abbrev never_done : Called
never_done = calls never Authenticate 0 (started_with never [] (stacks (line (by (codes "a") required) none) none none)) (world 0)

never_done-code : never_done.code ≡ returns.Incomplete
never_done-code = refl

never_done_again-code : (calls never Authenticate 0 never_done.handle (world 0)).code ≡ returns.Incomplete
never_done_again-code = refl

-- ---- missing modules

missing-names : missing_from (codes "a" ∷ []) (stacks (line (by (codes "/lib/a.so") required) (line (by (codes "b.so") required) none)) (line (record (by (codes "b") required) { silent = true }) none) (line (by (codes "b") optional) none))
    ≡ codes "b" ∷ codes "b" ∷ []
missing-names = refl
