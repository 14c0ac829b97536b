-- Which codes a module returns (this project's own).
use Rattle.std.specs.Prelude.{◌≡◌, ◌⊎◌, ℕ, List, [], ◌∷◌}
use Rattle.pam_base.specs.declared.code.Code.{Code}
use Rattle.pam_base.specs.declared.call.Func.{Func}
use Rattle.pam_room.specs.Call.{PlainCall}
use Rattle.pam_room.specs.Module.{NamedData, Plays, SeenRoom, Sight}

-- a code is one of these
abbrev pub IsOneOf : Code → List Code → Type 0
IsOneOf code [] = ⊥
IsOneOf code (c ∷ cs) = (code ≡ c) ⊎ IsOneOf code cs

-- whatever the arguments, the transaction, its data, the conversation, the files, the accesses that
-- fail, the time and the caller, a call returns one of the codes listed for its function
abbrev pub ReturnsOf : Plays → (Func → List Code) → Type 0
ReturnsOf plays codes =
    (call : PlainCall) (room : SeenRoom) (held : List NamedData) (sight : Sight)
    → IsOneOf (plays call room held sight).code (codes call.func)

-- for each function and each code there are arguments with which the function returns this code,
-- whatever it finds; the flags are none
abbrev pub ReturnsEach : Plays → Type 0
ReturnsEach plays =
    (func : Func) (code : Code) → (args : List (List ℕ))
    × ((room : SeenRoom) (held : List NamedData) (sight : Sight)
    → (plays (record { func = func; flags = 0; args = args }) room held sight).code ≡ code)
