-- Test cases of steps, computed on the definitions.
use Rattle.std.proofs.Common.{◌≡◌, ℕ, true, false, List, [], ◌∷◌, Some, None, refl}
use Rattle.std.specs.Prelude.{codes, replicate}
use Rattle.std.specs.Option.{option_map}
use Rattle.pam_base.specs.declared.code.Code.{Code}
use Rattle.pam_base.specs.declared.code.Code.TheVariants as codes
use Rattle.pam_base.specs.declared.call.Func.TheVariants as funcs
use Rattle.pam_base.specs.declared.call.AppCall.{AppCall}
use Rattle.pam_base.specs.declared.call.AppCall.TheVariants as calls
use Rattle.pam_base.specs.declared.call.Step.{Step}
use Rattle.pam_base.specs.declared.item.ItemName.TheVariants.{Service, Tty}
use Rattle.conv_port.specs.Conv.{ConvState}
use Rattle.conv_port.specs.declared.offer.Offer.TheVariants.{Answer}
use Rattle.pam_handle.specs.control_words.specs.Keyword.{required}
use Rattle.pam_handle.specs.control_words.specs.Stack.{Stack, none, line}
use Rattle.pam_handle.specs.pam_room.specs.Module.{Player, SeenRoom, NamedData, Sight, length_note, never_breaks, notes_of, same_locks}
use Rattle.pam_handle.specs.pam_room.specs.Call.{PlainCall}
use Rattle.pam_handle.specs.pam_room.specs.State.{PlainWorld}
use Rattle.pam_handle.specs.conf_lex.specs.Reading.{first_piece, pieces_after}
use Rattle.pam_handle.specs.conf_lex.specs.Lexing.{answer_at}
use Rattle.pam_handle.specs.conf_lex.specs.Answer.{answer_to}
use Rattle.pam_handle.specs.service_load.specs.Entry.{entry_of}
use Rattle.pam_handle.specs.service_load.specs.Tree.{nodes}
use Rattle.pam_handle.specs.service_load.specs.Order.{items}
use Rattle.pam_handle.specs.service_load.specs.FirstFault.{look}
use Rattle.pam_handle.specs.service_load.specs.Stacks.{Stacks}
use Rattle.pam_handle.specs.Handle.{PlainHandle}
use Rattle.pam_handle.specs.Start.{new_handle}
use Rattle.pam_library.specs.declared.outcome.Answer.{Answer as StepAnswer}
use Rattle.pam_library.specs.declared.outcome.Answer.TheVariants as answers
use Rattle.pam_library.specs.Outcome.{answers_only}
use Rattle.pam_library.specs.Slots.{PlainSlot, closed, opened, slot_at, is_open_at}
use Rattle.pam_library.specs.Step.{Stepped, stepped}
use Rattle.pam_library.specs.Closing.{ClosedOne, closed_one}
use Rattle.pam_outside.specs.Files.{no_locks}
use Rattle.pam_outside.specs.Paths.{path_of}

-- ---- two modules: one sets module data, the other returns INCOMPLETE since its conversation has no reply

abbrev sets_datum : Player
sets_datum = record {
  name = codes "p";
  plays = λ (call : PlainCall) (room : SeenRoom) (datums : List NamedData) (sight : Sight). record { code = codes.Success; room = room; births = record { name = codes "a"; payload = codes "x" } ∷ []; files = sight.files; locks = same_locks; calls = 0; draws = 0 };
  note = length_note;
  breaks = never_breaks;
}

abbrev is_put_off : Player
is_put_off = record {
  name = codes "q";
  plays = λ (call : PlainCall) (room : SeenRoom) (datums : List NamedData) (sight : Sight). record { code = codes.Success; room = record room { put_off = true }; births = []; files = sight.files; locks = same_locks; calls = 0; draws = 0 };
  note = length_note;
  breaks = never_breaks;
}

abbrev players : List Player
players = sets_datum ∷ is_put_off ∷ []

-- an application's delay function, which is off
abbrev number_of : Code → ℕ → ℕ
number_of code asked = 0

-- ---- sixteen slots, a world, and a transaction whose stacks have one line each

abbrev no_offers : ConvState
no_offers = record { offers = []; waits = false; handed = [] }

abbrev all_closed : List PlainSlot
all_closed = replicate 16 (closed no_offers)

abbrev at_first : PlainWorld
at_first = record {
  vault = record { files = record { path = codes "/r/etc/pam.d/t"; bytes = codes "auth required p" } ∷ []; locks = no_locks; calls = 0; fails = [] };
  clock = record { moment = 0; word = 0; draws = 0 };
  nap = record { waits = 0; sum = 0 };
  process = record { ledger = record { births = []; filed = [] }; root = codes "/r"; caller = 65534 };
}

abbrev one : List ℕ → Stack
one path = line (record { silent = false; control = required; path = path; args = [] }) none

abbrev by : List ℕ → Stacks
by path = record { auth = one path; account = one path; password = one path; session = one path }

abbrev of_joe : ℕ → List ℕ → PlainHandle
of_joe number path = new_handle number (codes "t") (Some (codes "joe")) no_offers (codes "p" ∷ codes "q" ∷ []) (by path)

-- the first slot open with one module, and the third
abbrev first_open : List ℕ → List PlainSlot
first_open path = opened (of_joe 1 path) ∷ replicate 15 (closed no_offers)

abbrev first_and_third : List PlainSlot
first_and_third = opened (of_joe 1 (codes "p")) ∷ closed no_offers ∷ opened (of_joe 3 (codes "p")) ∷ replicate 13 (closed no_offers)

abbrev step : ℕ → AppCall → Step
step number call = record { number = number; call = call }

abbrev of_step : List PlainSlot → ℕ → AppCall → Stepped
of_step slots number call = stepped players number_of slots at_first (step number call)

-- the result, if nothing is to report and the slots stay
record OnlyAnswers (slots : List PlainSlot) (number : ℕ) (call : AppCall) (answer : StepAnswer) : Type 0 where
  outcome : (of_step slots number call).outcome ≡ answers_only 0 answer
  slots_are : (of_step slots number call).slots ≡ slots
  world_is : (of_step slots number call).world ≡ at_first

-- ---- number, slot and pending call are checked first

bad_number : OnlyAnswers (first_open (codes "p")) 17 (calls.Start (codes "t") None) answers.BadNumber
unfolding stepped
bad_number = record { outcome = refl; slots_are = refl; world_is = refl }

number_before_place : OnlyAnswers (first_open (codes "p")) 0 (calls.End 0) answers.BadNumber
unfolding stepped
number_before_place = record { outcome = refl; slots_are = refl; world_is = refl }

already_open : OnlyAnswers (first_open (codes "p")) 1 (calls.Start (codes "t") None) answers.AlreadyOpen
unfolding stepped
already_open = record { outcome = refl; slots_are = refl; world_is = refl }

not_open : OnlyAnswers (first_open (codes "p")) 2 (calls.End 0) answers.NotOpen
unfolding stepped
not_open = record { outcome = refl; slots_are = refl; world_is = refl }

-- pam_chauthtok(3)'s own flags
pass_flag : OnlyAnswers (first_open (codes "p")) 1 (calls.ChAuthTok 0x4000) (answers.Code codes.SystemErr)
unfolding stepped
pass_flag = record { outcome = refl; slots_are = refl; world_is = refl }

bad_item : OnlyAnswers (first_open (codes "p")) 1 (calls.SetItem Service None) (answers.Code codes.BadItem)
unfolding stepped
bad_item = record { outcome = refl; slots_are = refl; world_is = refl }

unset : OnlyAnswers (first_open (codes "p")) 1 (calls.GetItem Tty) (answers.Value None)
unfolding stepped
unset = record { outcome = refl; slots_are = refl; world_is = refl }

-- ---- a reply waits in a closed slot for the next transaction there

replied : Stepped
replied = of_step (first_open (codes "p")) 2 (calls.Reply (codes "y"))

reply_stays : replied.slots ≡ opened (of_joe 1 (codes "p")) ∷ closed (record { offers = Answer (codes "y") ∷ []; waits = false; handed = [] }) ∷ replicate 14 (closed no_offers)
unfolding stepped replied
reply_stays = refl

reply_answer : replied.outcome ≡ answers_only 0 answers.Nothing
unfolding stepped replied
reply_answer = refl

-- ---- a start

started_second : Stepped
started_second = of_step (first_open (codes "p")) 2 (calls.Start (codes "T") (Some (codes "joe")))

start_answer : started_second.outcome ≡ answers_only 0 (answers.Code codes.Success)
unfolding stepped started_second look items answer_to answer_at pieces_after first_piece entry_of nodes path_of
start_answer = refl

start_opens : is_open_at (slot_at started_second.slots 2) ≡ true
unfolding stepped started_second look items answer_to answer_at pieces_after first_piece entry_of nodes path_of
start_opens = refl

-- a missing module is reported
missing_told : (stepped (is_put_off ∷ []) number_of all_closed at_first (step 1 (calls.Start (codes "t") None))).outcome.missing ≡ codes "p" ∷ []
unfolding stepped look items answer_to answer_at pieces_after first_piece entry_of nodes path_of
missing_told = refl

-- ---- module data are set, and cleaned up at the end; the other transaction stays

authenticated : Stepped
authenticated = of_step first_and_third 1 (calls.Authenticate 0)

visited : authenticated.outcome ≡ record { said = []; trail = record { place = 1; path = codes "p"; answer = codes.Success } ∷ []; filed_from = 0; wait = None; missing = []; answer = answers.Code codes.Success }
unfolding stepped authenticated
visited = refl

born : authenticated.world.process.ledger.births ≡ record { id = 0; handle = 1; owner = 0; name = codes "a"; payload = codes "x" } ∷ []
unfolding stepped authenticated
born = refl

third_stays : slot_at authenticated.slots 3 ≡ Some (opened (of_joe 3 (codes "p")))
unfolding stepped authenticated
third_stays = refl

ended_first : Stepped
ended_first = stepped players number_of authenticated.slots authenticated.world (step 1 (calls.End 7))

cleaned : ended_first.world.process.ledger.filed ≡ record { receipt = record { id = 0; status = 7; note = 1 }; mark = 1 } ∷ []
unfolding stepped authenticated ended_first
cleaned = refl

end_answer : ended_first.outcome ≡ answers_only 0 (answers.Code codes.Success)
unfolding stepped authenticated ended_first
end_answer = refl

end_closes : slot_at ended_first.slots 1 ≡ Some (closed no_offers)
unfolding stepped authenticated ended_first
end_closes = refl

-- ---- a pending call is resumed first, except that a transaction may end

put_off : Stepped
put_off = of_step (first_open (codes "q")) 1 (calls.Authenticate 0)

put_off_answer : put_off.outcome.answer ≡ answers.Code codes.Incomplete
unfolding stepped put_off
put_off_answer = refl

other_call : Stepped
other_call = stepped players number_of put_off.slots put_off.world (step 1 (calls.SetCred 2))

pending_first : other_call.outcome ≡ answers_only 0 (answers.Pending funcs.Authenticate)
unfolding stepped put_off other_call
pending_first = refl

ended_anyway : (stepped players number_of put_off.slots put_off.world (step 1 (calls.End 5))).outcome.answer ≡ answers.Code codes.Success
unfolding stepped put_off
ended_anyway = refl

-- ---- the lowest number is ended first

lowest : option_map (λ (c : ClosedOne). c.number) (closed_one (notes_of players) 26 first_and_third at_first) ≡ Some 1
unfolding closed_one
lowest = refl

none_open : option_map (λ (c : ClosedOne). c.number) (closed_one (notes_of players) 26 all_closed at_first) ≡ None
unfolding closed_one
none_open = refl
