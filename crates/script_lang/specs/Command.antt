-- The commands of the script, as a table (this project's own; the calls are those of pam(3)).
use Rattle.std.specs.Prelude.{ℕ, List, [], ◌∷◌, Option, codes, option_map}
use Rattle.std.specs.Str.{bytes_eq}
use Rattle.std.specs.List.{find}
use Rattle.std.specs.Option.{option_or}
use Rattle.pam_base.specs.declared.call.AppCall.{AppCall}
use Rattle.pam_base.specs.declared.call.CallName.TheVariants as names
use Rattle.pam_base.specs.declared.call.Func.{Func}
use Rattle.pam_base.specs.Call.{all_calls, call_word, func_word, name_of_call}
use Rattle.script_lang.specs.declared.place.Form.TheVariants.{Number, Moment, Random, Service, Name, Item, Switch, Text}
use Rattle.script_lang.specs.declared.place.Position.{Position}
use Rattle.script_lang.specs.declared.place.Position.TheVariants.{Wanted, Optional, Nothing}
use Rattle.script_lang.specs.declared.command.Command.{Command}
use Rattle.script_lang.specs.declared.command.Command.TheVariants as commands

-- a command's word
abbrev pub command_word : Command → List ℕ
command_word (commands.Call call) = call_word call
command_word commands.At = codes "at"
command_word commands.Random = codes "random"
command_word commands.Caller = codes "caller"

-- a call's number of a transaction, and which words may follow it
abbrev pub call_places : Position → Position → List Position
call_places second third = Wanted Number ∷ second ∷ third ∷ []

-- which words may follow a command's
abbrev pub places_of : Command → List Position
places_of (commands.Call names.Start) = call_places (Wanted Service) (Optional Name)
places_of (commands.Call names.End) = call_places (Wanted Number) Nothing
places_of (commands.Call (names.Run func)) = call_places (Optional Number) Nothing
places_of (commands.Call names.SetItem) = call_places (Wanted Item) (Optional Text)
places_of (commands.Call names.GetItem) = call_places (Wanted Item) Nothing
places_of (commands.Call names.PutEnv) = call_places (Wanted Text) Nothing
places_of (commands.Call names.GetEnv) = call_places (Wanted Name) Nothing
places_of (commands.Call names.EnvList) = call_places Nothing Nothing
places_of (commands.Call names.FailDelay) = call_places (Wanted Number) Nothing
places_of (commands.Call names.DelayFn) = call_places (Wanted Switch) Nothing
places_of (commands.Call names.Reply) = call_places (Wanted Text) Nothing
places_of commands.At = Wanted Moment ∷ Nothing ∷ Nothing ∷ []
places_of commands.Random = Wanted Random ∷ Nothing ∷ Nothing ∷ []
places_of commands.Caller = Wanted Number ∷ Nothing ∷ Nothing ∷ []

-- the commands that set something for all transactions
abbrev pub settings : List Command
settings = commands.At ∷ commands.Random ∷ commands.Caller ∷ []

-- the command that a word names
abbrev pub command_of_word : List ℕ → Option Command
command_of_word word =
    option_or (option_map commands.Call (find (λ call. bytes_eq (call_word call) word) all_calls))
    (find (λ setting. bytes_eq (command_word setting) word) settings)

-- the word of a call, and that of the stack call that runs a function of modules
abbrev pub word_of_call : AppCall → List ℕ
word_of_call call = call_word (name_of_call call)

abbrev pub word_of_func : Func → List ℕ
word_of_func func = func_word func
