-- Commands by their words.
use Rattle.std.proofs.Common.{◌≡◌, Bool, true, false, cond, List, [], ◌∷◌, Some, unwrap_or, refl}
use Rattle.std.specs.List.{find}
use Rattle.report_lines.specs.Line.{Command, starts}
use Rattle.pam_base.specs.declared.call.CallName.{CallName}
use Rattle.pam_base.specs.declared.call.CallName.TheVariants as names
use Rattle.pam_base.specs.Call.{all_calls}
use Rattle.report_lines.specs.Form.{command_of}
use Rattle.report_lines.specs.Words.{all_commands}

abbrev commands_of : List CallName → List Command
commands_of [] = []
commands_of (x ∷ xs) = command_of x ∷ commands_of xs

named_if : (p : Command → Bool) (x : CallName) (xs : List CallName) (b : Bool) → command_of (unwrap_or (find (λ c. p (command_of c)) xs) names.Start) ≡ unwrap_or (find p (commands_of xs)) starts
    → command_of (unwrap_or (cond b (Some x) (find (λ c. p (command_of c)) xs)) names.Start) ≡ unwrap_or (cond b (Some (command_of x)) (find p (commands_of xs))) starts
named_if p x xs true more = refl
named_if p x xs false more = more

named_by : (p : Command → Bool) (xs : List CallName) → command_of (unwrap_or (find (λ c. p (command_of c)) xs) names.Start) ≡ unwrap_or (find p (commands_of xs)) starts
named_by p [] = refl
named_by p (x ∷ xs) = named_if p x xs (p (command_of x)) (named_by p xs)

pub named_is : (p : Command → Bool) → command_of (unwrap_or (find (λ c. p (command_of c)) all_calls) names.Start) ≡ unwrap_or (find p all_commands) starts
named_is p = named_by p all_calls
