-- pam_permit(8): every call succeeds. That it asks for no user is this project's own.
use Rattle.std.specs.Prelude.{Some, codes}
use Rattle.std.specs.Option.{option_or}
use Rattle.pam_base.specs.declared.code.Code.TheVariants.{Success}
use Rattle.pam_base.specs.declared.call.Func.{Func}
use Rattle.pam_base.specs.declared.call.Func.TheVariants.{Authenticate, SetCred, AcctMgmt, OpenSession, CloseSession, ChAuthTok}
use Rattle.pam_room.specs.Module.{Plays, SeenRoom, answered}

-- an unset user becomes nobody
abbrev pub with_nobody : SeenRoom → SeenRoom
with_nobody room = record room {
  items = record room.items
      { user = option_or room.items.user (Some (codes "nobody")) };
}

abbrev pub permitted : Func → SeenRoom → SeenRoom
permitted Authenticate room = with_nobody room
permitted SetCred room = room
permitted AcctMgmt room = room
permitted OpenSession room = room
permitted CloseSession room = room
permitted ChAuthTok room = room

abbrev pub permit_plays : Plays
permit_plays call room held sight = answered Success (permitted call.func room) sight
