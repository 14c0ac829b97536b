-- Test cases, computed on the definitions.
use Rattle.std.proofs.Common.{◌≡◌, ℕ, false, List, [], ◌∷◌, Some, None, codes, refl}
use Rattle.pam_base.specs.declared.code.Code.TheVariants as returns
use Rattle.pam_base.specs.declared.call.Func.TheVariants.{OpenSession}
use Rattle.pam_base.specs.Lines.{cut, lines_of}
use Rattle.env_list.specs.Environment.{Variable}
use Rattle.item_store.specs.Items.{no_texts}
use Rattle.pam_outside.specs.Files.{File, no_locks}
use Rattle.module_acts.specs.pam_room.specs.State.{PlainRoom, new_transaction, room_of, scene_of}
use Rattle.module_acts.specs.pam_room.specs.Module.{Played, failing_of, seen_of, sight_of}
use Rattle.pam_base.specs.Parts.{parts_of}
use Rattle.account_db.specs.Entries.{entries_of}
use Rattle.pam_outside.specs.Paths.{path_of}
use Rattle.module_acts.specs.Content.{content_of}
use Rattle.module_acts.specs.Act.{answers, reads_file, reads_passwds, sees_items}
use Rattle.mod_env.specs.declared.value.Piece.TheVariants.{Byte, Variable as Var, Item}
use Rattle.mod_env.specs.Conf.{conf_of, values_of}
use Rattle.mod_env.specs.Env.{env_plays, put_in, puts_env, sees_env, sets_by, sets_variable}
use Rattle.mod_env.specs.EnvFile.{assignments_of}
use Rattle.mod_env.specs.Expand.{expansion_of}
use Rattle.mod_env.specs.Marks.{marks_of}
use Rattle.mod_env.specs.Value.{pieces_of}

-- a line, and its one reading
abbrev line : List ℕ
line = codes "A DEFAULT=x${B} OVERRIDE=@{PAM_TTY}"

reading : conf_of line ≡ Some (record {
  name = codes "A";
  values = record { default = Some (Byte 120 ∷ Var (codes "B") ∷ []); overriding = Some (Item (codes "PAM_TTY") ∷ []) };
} ∷ [])
unfolding marks_of values_of pieces_of lines_of cut
reading = refl

-- an unclosed place, an unclosed quote, a quote that closes too early, a backslash at the end, and another word
unclosed : conf_of (codes "A DEFAULT=${B") ≡ None
unfolding marks_of values_of pieces_of lines_of cut
unclosed = refl

unquoted : conf_of (codes "A DEFAULT=\"x") ≡ None
unfolding marks_of values_of pieces_of lines_of cut
unquoted = refl

closed_early : conf_of (codes "A DEFAULT=\"x\"y") ≡ None
unfolding marks_of values_of pieces_of lines_of cut
closed_early = refl

stray : conf_of (codes "A DEFAULT=x\\") ≡ None
unfolding marks_of values_of pieces_of lines_of cut
stray = refl

another : conf_of (codes "A DEFAULT=x y") ≡ None
unfolding marks_of values_of pieces_of lines_of cut
another = refl

-- a backslash makes white space, quotes and sigils plain
plain : conf_of (codes "A DEFAULT=\\ \\\"\\${") ≡ Some (record {
  name = codes "A";
  values = record { default = Some (Byte 32 ∷ Byte 34 ∷ Byte 36 ∷ Byte 123 ∷ []); overriding = None };
} ∷ [])
unfolding marks_of values_of pieces_of lines_of cut
plain = refl

-- environment(5)
assignments : assignments_of (codes "# c\nexport A=\"1 2\"\nB='x\n C=y \nD-E=z\n") ≡ codes "A=1 2" ∷ codes "B='x" ∷ codes "C=y " ∷ []
unfolding assignments_of lines_of cut
assignments = refl

-- B is 1 and TTY isn't set
abbrev b_is_1 : List Variable
b_is_1 = record { name = codes "B"; value = codes "1" } ∷ []

abbrev room : PlainRoom
room = let t = new_transaction 1 in room_of (record t { items = record no_texts { user = Some (codes "joe") }; env = b_is_1 }) (record { offers = []; waits = false; handed = [] })

abbrev open_with : List File → List ℕ → Played
open_with files fails =
    env_plays (record { func = OpenSession; flags = 0; args = [] }) (seen_of room) []
    (sight_of (scene_of room (record { files = files; locks = no_locks; calls = 0; fails = fails }) (record { moment = 0; word = 0; draws = 0 }) (record { ledger = record { births = []; filed = [] }; root = codes "/r"; caller = 65534 })))

abbrev conf : File
conf = record { path = codes "/r/etc/security/pam_env.conf"; bytes = line }

opened : (open_with (conf ∷ []) []).code ≡ returns.Success
unfolding answers sees_items sees_env sets_variable sets_by expansion_of puts_env put_in reads_file reads_passwds content_of path_of failing_of entries_of parts_of assignments_of marks_of values_of pieces_of lines_of cut
opened = refl

sets : (open_with (conf ∷ []) []).room.env ≡ record { name = codes "B"; value = codes "1" } ∷ record { name = codes "A"; value = codes "x1" } ∷ []
unfolding answers sees_items sees_env sets_variable sets_by expansion_of puts_env put_in reads_file reads_passwds content_of path_of failing_of entries_of parts_of assignments_of marks_of values_of pieces_of lines_of cut
sets = refl

-- each of the two calls fails in turn
first_fails : (open_with (conf ∷ []) (1 ∷ [])).code ≡ returns.ServiceErr
unfolding answers sees_items sees_env sets_variable sets_by expansion_of puts_env put_in reads_file reads_passwds content_of path_of failing_of entries_of parts_of assignments_of marks_of values_of pieces_of lines_of cut
first_fails = refl

second_fails : (open_with (conf ∷ []) (2 ∷ [])).room.env ≡ b_is_1
unfolding answers sees_items sees_env sets_variable sets_by expansion_of puts_env put_in reads_file reads_passwds content_of path_of failing_of entries_of parts_of assignments_of marks_of values_of pieces_of lines_of cut
second_fails = refl
