-- What the lines of a stack return for a call of modules (pam.conf(5), Linux-PAM Module Writers' Guide).
use Rattle.std.specs.Prelude.{ℕ, List, map}
use Rattle.pam_base.specs.declared.call.Func.{Func}
use Rattle.control_words.specs.declared.nodes.Rule.{Rule}
use Rattle.handler_chain.specs.FlatLines.{module_of}
use Rattle.pam_room.specs.State.{State}
use Rattle.pam_room.specs.Call.{PlainCall}
use Rattle.pam_room.specs.Module.{Player}
use Rattle.pam_room.specs.Serve.{serve_line}
use Rattle.handler_chain.specs.Pass.{Answering}

abbrev pub names_of : List Player → List (List ℕ)
names_of players = map (λ (p : Player). p.name) players

-- the call of a line's module
abbrev pub call_of : Func → ℕ → Rule → PlainCall
call_of func flags rule = record { func = func; flags = flags; args = rule.args }

-- the line of a rule with this number is run: the first module that its path names serves the call
abbrev pub answers_by : List Player → Func → ℕ → Answering State
answers_by players func flags rule place s =
    let a = serve_line players (module_of (names_of players) rule) place rule.path
    (call_of func flags rule) s in
    record { answer = a.answer; state = a.state }
