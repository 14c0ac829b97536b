-- What a pass does with real objects too, over several steps.
use Rattle.std.proofs.Common.{◌≡◌, ℕ, List, [], ◌++◌, refl, sym, ◌∙◌, ap, subst, append_assoc, arith}
use Rattle.std.proofs.lemmas.List.{append-nil}
use Rattle.pam_room.specs.data_cleanup.specs.Cleanup.{Notes}
use Rattle.pam_room.specs.data_cleanup.specs.DataList.{PlainDataList}
use Rattle.pam_room.specs.data_cleanup.specs.Ledger.{PlainLedger}
use Rattle.pam_room.specs.data_cleanup.specs.Grows.{Grows}
use Rattle.pam_room.specs.State.{PlainTransaction, PlainProcess}
use Rattle.pam_room.specs.Stays.{IsReady, Stays}
use Rattle.pam_room.specs.declared.visits.Visit.{Visit}
use Rattle.dispatch_core.specs.AnyWorld.{GoesSoundly}

-- nothing was done
pub sound_none : (note : Notes) (modules : ℕ) (t : PlainTransaction) (p : PlainProcess)
    → Grows note modules t.datums p.ledger t.datums p.ledger → GoesSoundly note modules t t p p
sound_none note modules t p grows = record {
  stays = record { handle = refl; data_handle = refl; service = refl; delay = omega arith; said = ([], sym (append-nil t.said)); root = refl; caller = refl };
  trail = ([], sym (append-nil t.trail));
  grows = grows;
}

-- what is seen of a transaction is the same
pub sound_same : (note : Notes) (modules : ℕ) (t u : PlainTransaction) (p : PlainProcess) → u ≡ t
    → Grows note modules t.datums p.ledger t.datums p.ledger → GoesSoundly note modules t u p p
sound_same note modules t u p same grows = subst (λ (x : PlainTransaction). GoesSoundly note modules t x p p) (sym same) (sound_none note modules t p grows)

pub ready_same : (modules : ℕ) (t u : PlainTransaction) (p : PlainProcess) → u ≡ t → IsReady modules t p → IsReady modules u p
ready_same modules t u p same ready = subst (λ (x : PlainTransaction). IsReady modules x p) (sym same) ready

-- a module ran out of memory, and its line isn't recorded as run
pub sound_unrun : (note : Notes) (modules : ℕ) (x y : PlainTransaction) (a b : PlainProcess) → Stays x y a b
    → Grows note modules x.datums a.ledger y.datums b.ledger
    → y.trail ≡ x.trail → GoesSoundly note modules x y a b
sound_unrun note modules x y a b stays grows same = record { stays = stays; trail = ([], same ∙ sym (append-nil x.trail)); grows = grows }

pub sound_more : ((x y z : PlainTransaction) (a b c : PlainProcess) → Stays x y a b → Stays y z b c → Stays x z a c)
    → ((note : Notes) (modules : ℕ) (x y z : PlainDataList) (a b c : PlainLedger) → Grows note modules x a y b → Grows note modules y b z c
    → Grows note modules x a z c)
    → (note : Notes) (modules : ℕ) (x y z : PlainTransaction) (a b c : PlainProcess)
    → GoesSoundly note modules x y a b → GoesSoundly note modules y z b c → GoesSoundly note modules x z a c
sound_more staying growing note modules x y z a b c s t = record {
  stays = staying x y z a b c s.stays t.stays;
  trail = (s.trail.0 ++ t.trail.0, t.trail.1 ∙ ap (λ (v : List Visit). v ++ t.trail.0) s.trail.1 ∙ append_assoc x.trail _ _);
  grows = growing note modules _ _ _ _ _ _ s.grows t.grows;
}
