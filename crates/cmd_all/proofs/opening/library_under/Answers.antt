use Rattle.std.proofs.Common.{ap, refl}
use Rattle.pam_room.specs.State.{PlainWorld}
use Rattle.cmd_all.proofs.opening.library_under.Goals as goal

pub returns : goal.returns
returns g c = record {
  opened = record {
    players = c.in_ok-library.ensures.players;
    slots = c.in_ok-library.ensures.slots;
    tells = c.in_ok-library.ensures.tells;
    gives = c.in_ok-library.ensures.gives;
    world_is = rw c.in_ok-root.ensures at c.set_root.ensures.world_is;
    none_open = c.in_ok-library.ensures.none_open;
    sound = rw (ap (λ (w : PlainWorld). w.process.ledger) c.set_root.ensures.world_is) c.in_ok-library.ensures.sound;
    none_yet = c.in_ok-library.ensures.none_yet;
  };
  tells = c.set_root.ensures.tells;
  stays = tt;
}
