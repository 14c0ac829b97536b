-- A call that asks the user for one item: what it does to a transaction and its conversation (pam_get_user(3),
-- pam_get_authtok(3); the form is this project's own).
use Rattle.std.specs.Prelude.{◌≡◌, ◌≢◌, ◌⊎◌, ℕ, Bool, None, Result, Err, IsTrue, OnOk, OnErr, List, [], ◌∷◌, ◌++◌}
use Rattle.pam_base.specs.declared.fault.ConvErr.{ConvErr}
use Rattle.pam_base.specs.declared.fault.Refuse.{Refuse}
use Rattle.pam_base.specs.declared.fault.Refuse.TheVariants as refusals
use Rattle.pam_base.specs.declared.item.ItemName.{ItemName}
use Rattle.pam_base.specs.declared.style.Style.{Style}
use Rattle.item_store.specs.Items.{text_of, with_text}
use Rattle.conv_port.specs.Conv.{ConvState}
use Rattle.pam_room.specs.Module.{SeenRoom}
use Rattle.pam_room.specs.Plain.{seen_in}
use Rattle.pam_room.specs.Say.{AfterPrompt, Asks, ConvErrIsCounted, RepliedAtMostOnce, signs}
use Rattle.pam_room.specs.declared.transaction.Transaction.{Transaction}

-- a transaction and its conversation: whether that is modelled, what it holds, and its counts
pub record Talk : Type 0 where
  pub transaction : Transaction
  pub tells : Bool
  pub holds : ConvState
  pub faults : ℕ
  pub deferrals : ℕ

abbrev pub talk_by : {Conv : Type 0} → (Conv → Bool) → (Conv → ConvState) → (Conv → ℕ) → (Conv → ℕ)
    → Transaction → Conv → Talk
talk_by tells holds faults deferrals transaction conv = record {
  transaction = transaction;
  tells = tells conv;
  holds = holds conv;
  faults = faults conv;
  deferrals = deferrals conv;
}

-- One message is sent, unless the item is set already, and the item is set to its reply. What was
-- asked is exact if the conversation is modelled; all else holds with real objects too.
pub record AsksOnce {T : Type 0} (result : Result T (Refuse ConvErr)) (item : ItemName)
    (style : Style) (prompt : List ℕ) (asked : SeenRoom → AfterPrompt) (old new : Talk) : Type 0 where
  pub tells : new.tells ≡ old.tells
  pub told : IsTrue old.tells → Asks result (asked (seen_in old.transaction old.holds))
      (seen_in new.transaction new.holds)
  -- if an allocation fails, the conversation is as it was, or has replied to this question alone
  pub at_most_once : IsTrue old.tells → result ≡ Err refusals.NoMemory
      → RepliedAtMostOnce style prompt old.holds new.holds
  pub shows : ConvErrIsCounted result
      (signs old.faults old.deferrals old.transaction.put_off)
      (signs new.faults new.deferrals new.transaction.put_off)
  pub set : OnOk result (text_of new.transaction.items item ≢ None)
  pub refused : OnErr result (new.transaction.items ≡ old.transaction.items)
  pub items : new.transaction.items ≡ with_text old.transaction.items item
      (text_of new.transaction.items item)
  pub said : (new.transaction.said ≡ old.transaction.said)
      ⊎ (new.transaction.said ≡ old.transaction.said
      ++ record { style = style; text = prompt } ∷ [])
  pub others : new.transaction ≡ record old.transaction {
    items = new.transaction.items;
    said = new.transaction.said;
    put_off = new.transaction.put_off;
  }
