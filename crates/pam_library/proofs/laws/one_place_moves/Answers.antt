use Rattle.pam_library.proofs.SlotChangeFacts.{sound_of, moves_of}
use Rattle.pam_library.proofs.laws.one_place_moves.Goals as goal

pub returns-clause-sound : goal.returns-clause-sound
returns-clause-sound c = λ note names modules slots number old new call before after sound there placed spends numbered.
    sound_of c.growth_holds.ensures c.end_holds.ensures c.nothing_grows.ensures note names modules slots number old new call before after (record { sound = sound; there = there; placed = placed; numbered = numbered }) spends

pub returns-clause-moves : goal.returns-clause-moves
returns-clause-moves c = λ note names modules slots number old new call before after sound there placed spends numbered.
    moves_of c.growth_moves.ensures c.end_moves.ensures c.nothing_moves.ensures note names modules slots number old new call before after (record { sound = sound; there = there; placed = placed; numbered = numbered }) spends
