-- What is done, if no code is returned at once, is what the module's definition says.
use Rattle.std.proofs.Common.{◌≡◌, Option, None, Result, Ok, Err, IfOk}
use Rattle.pam_base.specs.declared.code.Code.{Code}
use Rattle.pam_base.specs.declared.fault.NoMemory.{NoMemory}
use Rattle.pam_room.specs.Call.{PlainCall}
use Rattle.pam_room.specs.Module.{Plays, PlaysIn}
use Rattle.pam_room.specs.State.{Scene}
use Rattle.module_acts.specs.Act.{Act, unless_answered}
use Rattle.module_acts.specs.Returns.{Follows}

pub decided : (plays : Plays) (call : PlainCall) (at_once : Option Code) (does : Act) (old new : Scene) (r : Result Code NoMemory) → None ≡ at_once
    → ((code : Code) → Follows (unless_answered at_once does) old code new → PlaysIn plays call old code new)
    → IfOk r (λ code. Follows does old code new) → IfOk r (λ code. PlaysIn plays call old code new)
decided plays call at_once does old new (Ok code) is law h = law code (rw (← is) h)
decided plays call at_once does old new (Err e) is law h = h
