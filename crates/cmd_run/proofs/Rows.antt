-- Test cases of runs, computed: a call on a closed transaction, a time, and a word that isn't a
-- command; and two transactions.
use Rattle.std.specs.Prelude.{◌≡◌, ℕ, true, false, nat_le, if◌then◌else◌, List, [], ◌∷◌, ◌++◌, length, Some, codes, refl, replicate}
use Rattle.std.proofs.Common.{inl, sym, ◌∙◌}
use Rattle.std.specs.Fmt.{digits}
use Rattle.pam_base.specs.declared.fault.ScriptKind.TheVariants.{BadWord}
use Rattle.pam_base.specs.Lines.{cut, lines_of}
use Rattle.pam_base.specs.Words.{words_of}
use Rattle.pam_outside.specs.Paths.{path_of}
use Rattle.pam_outside.specs.Files.{File, no_locks}
use Rattle.report_step.specs.conf_lex.specs.Answer.{answer_to}
use Rattle.report_step.specs.conf_lex.specs.Lexing.{answer_at}
use Rattle.report_step.specs.conf_lex.specs.Reading.{first_piece, pieces_after}
use Rattle.pam_base.specs.declared.code.Code.TheVariants as Code
use Rattle.report_step.specs.pam_room.specs.Call.{PlainCall}
use Rattle.report_step.specs.pam_room.specs.Module.{NamedData, Player, SeenRoom, Sight, length_note, never_breaks, same_locks}
use Rattle.report_step.specs.pam_room.specs.State.{PlainWorld}
use Rattle.report_step.specs.service_load.specs.Entry.{entry_of}
use Rattle.report_step.specs.service_load.specs.FirstFault.{look}
use Rattle.report_step.specs.service_load.specs.Order.{items}
use Rattle.report_step.specs.service_load.specs.Tree.{nodes}
use Rattle.report_step.specs.pam_library.specs.Slots.{PlainSlot, closed}
use Rattle.report_step.specs.pam_library.specs.Step.{stepped}
use Rattle.record_reader.specs.declared.ending.Ending.TheVariants.{ReadFault, Refused}
use Rattle.record_reader.specs.Looked.{last_looked, looked}
use Rattle.record_reader.specs.Run.{come_to, run_items, run_of as run_of_items}
use Rattle.record_reader.specs.LineRun.{step_at, run_of}
use Rattle.cmd_run.specs.State.{RunState, Setting, setting_of, state_of}
use Rattle.cmd_run.specs.Ends.{HasEnd, IsEndOfRun}
use Rattle.cmd_run.specs.Isolation.{LeaveFiles, alone, texts_among}
use Rattle.cmd_run.specs.Step.{at_moment, line_step}
use Rattle.cmd_run.specs.Closings.{closings_after}
use Rattle.cmd_run.specs.Whole.{last_words}

setting : Setting
setting = setting_of [] (λ code asked. 0)

places : List PlainSlot
places = replicate 16 (closed (record { offers = []; waits = false; handed = [] }))

world : PlainWorld
world = record {
  vault = record { files = []; locks = no_locks; calls = 0; fails = [] };
  clock = record { moment = 0; word = 0; draws = 0 };
  nap = record { waits = 0; sum = 0 };
  process = record { ledger = record { births = []; filed = [] }; root = codes "/r"; caller = 0 };
}

start : RunState
start = state_of places world

refused_third_line : run_of (line_step setting) 0 start (codes "end 1 0\nat 5\nx\nend 2 0") false
    ≡ come_to (codes "1 end not open\n") (state_of places (at_moment 5 world)) 2 (Some BadWord)
unfolding start setting places world run_of_items run_items step_at line_step looked last_looked cut words_of stepped digits
refused_third_line = refl

its_last_words : last_words [] (Refused BadWord) 2 start ≡ codes "script 3 BadWord 1\n"
unfolding start places world closings_after digits
its_last_words = refl

words_of_a_read_fault : last_words [] ReadFault 2 start ≡ codes "read fault\n"
unfolding start places world closings_after
words_of_a_read_fault = refl

-- ---- ends

-- the second line asks for the end of transaction 3, with a status of 32 bits
end_with_a_high_bit : HasEnd (codes "at 5\nend 3 0x80000007\nx") 3 2147483655
unfolding lines_of cut words_of
end_with_a_high_bit = record { line = codes "end 3 0x80000007"; before = codes "at 5" ∷ []; followed = codes "x" ∷ []; among = refl; asks = refl }

-- after the lines a transaction is ended with ABORT if one was refused
end_after_a_refused_line : IsEndOfRun true (codes "x") 3 26
end_after_a_refused_line = λ told. inl (inl (Refused BadWord, refl))

-- ---- two transactions, and the first of them alone: its lines are the same except for the id of its data

abbrev sets_datum : Player
sets_datum = record {
  name = codes "p";
  plays = λ (call : PlainCall) (room : SeenRoom) (datums : List NamedData) (sight : Sight).
      record {
        code = Code.Success;
        room = room;
        births = record { name = codes "a"; payload = codes "x" } ∷ [];
        files = sight.files;
        locks = same_locks;
        calls = 0;
        draws = 0;
      };
  note = length_note;
  breaks = never_breaks;
}

abbrev with_module : Setting
with_module = setting_of (sets_datum ∷ []) (λ code asked. 0)

abbrev service_files : List File
service_files = record { path = codes "/r/etc/pam.d/t"; bytes = codes "auth required p" } ∷ []

abbrev with_service : RunState
with_service = state_of (closed (record { offers = []; waits = false; handed = [] }) ∷ closed (record { offers = []; waits = false; handed = [] })
    ∷ []) (record {
      vault = record { files = service_files; locks = no_locks; calls = 0; fails = [] };
      clock = record { moment = 0; word = 0; draws = 0 };
      nap = record { waits = 0; sum = 0 };
      process = record { ledger = record { births = []; filed = [] }; root = codes "/r"; caller = 0 };
    })

abbrev interleaved : List (List ℕ)
interleaved = codes "start 1 t" ∷ codes "start 2 t" ∷ codes "authenticate 2" ∷ codes "authenticate 1" ∷ codes "end 1 0" ∷ []

its_lines : texts_among with_module 1 0 with_service interleaved
    ≡ codes "1 start SUCCESS 0\n" ∷ codes "1 line 1 p SUCCESS 0\n1 authenticate SUCCESS 0\n" ∷ codes "1 clean 1 00000000 1 p a\n1 end SUCCESS 0\n" ∷ []
unfolding step_at line_step words_of stepped digits look items answer_to answer_at pieces_after first_piece entry_of nodes path_of
its_lines = refl

its_lines_alone : texts_among with_module 1 0 with_service (alone 1 interleaved)
    ≡ codes "1 start SUCCESS 0\n" ∷ codes "1 line 1 p SUCCESS 0\n1 authenticate SUCCESS 0\n" ∷ codes "1 clean 0 00000000 1 p a\n1 end SUCCESS 0\n" ∷ []
unfolding step_at line_step words_of stepped digits look items answer_to answer_at pieces_after first_piece entry_of nodes path_of
its_lines_alone = refl

by_these : {a c : List File} (b : List File) → a ≡ b → c ≡ b → a ≡ c
by_these b first second = first ∙ sym second

others_leave_files : LeaveFiles with_module 1 0 with_service interleaved
unfolding step_at line_step words_of stepped digits look items answer_to answer_at pieces_after first_piece entry_of nodes path_of
others_leave_files = (λ e. absurd cc, (λ e. by_these service_files refl refl, (λ e. by_these service_files refl refl, (λ e. absurd cc, (λ e. absurd cc, tt)))))

-- ---- a step on another number that changes a file: the law's premise fails, and so does its conclusion

-- a module whose code depends on whether it has been called before, which it writes into a file
abbrev notes_in_file : Player
notes_in_file = record {
  name = codes "p";
  plays = λ (call : PlainCall) (room : SeenRoom) (datums : List NamedData) (sight : Sight). record {
    code = if nat_le 2 (length sight.files) then Code.AuthErr else Code.Success;
    room = room;
    births = [];
    files = sight.files ++ record { path = codes "/r/f"; bytes = [] } ∷ [];
    locks = same_locks;
    calls = 1;
    draws = 0;
  };
  note = length_note;
  breaks = never_breaks;
}

abbrev with_file : Setting
with_file = setting_of (notes_in_file ∷ []) (λ code asked. 0)

abbrev one_before_the_other : List (List ℕ)
one_before_the_other = codes "start 1 t" ∷ codes "start 2 t" ∷ codes "authenticate 2" ∷ codes "authenticate 1" ∷ []

its_lines_after_the_file : texts_among with_file 1 0 with_service one_before_the_other
    ≡ codes "1 start SUCCESS 0\n" ∷ codes "1 line 1 p AUTH_ERR 7\n1 authenticate AUTH_ERR 7\n" ∷ []
unfolding step_at line_step words_of stepped digits look items answer_to answer_at pieces_after first_piece entry_of nodes path_of
its_lines_after_the_file = refl

its_lines_without_the_file : texts_among with_file 1 0 with_service (alone 1 one_before_the_other)
    ≡ codes "1 start SUCCESS 0\n" ∷ codes "1 line 1 p SUCCESS 0\n1 authenticate SUCCESS 0\n" ∷ []
unfolding step_at line_step words_of stepped digits look items answer_to answer_at pieces_after first_piece entry_of nodes path_of
its_lines_without_the_file = refl
