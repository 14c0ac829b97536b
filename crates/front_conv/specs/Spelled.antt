-- What a conversation holds with a modelled front end, which sends nothing but replies (this project's own).
use Rattle.std.specs.Prelude.{◌≢◌, ℕ, Bool, true, false, ◌&&◌, if◌then◌else◌, is_some, map, Option}
use Rattle.std.specs.Prelude.{Some, None, Result, Ok, Err, List, [], ◌∷◌, ◌++◌, codes, IsTrue}
use Rattle.conv_port.specs.declared.conv.ConvFault.{ConvFault}
use Rattle.conv_port.specs.declared.message.Reply.{Reply}
use Rattle.conv_port.specs.declared.offer.Offer.TheVariants.{Answer}
use Rattle.conv_port.specs.Conv.{ConvState}
use Rattle.pam_wire.specs.Read.{step_of}
use Rattle.front_conv.specs.declared.cause.Cause.{Cause}
use Rattle.front_conv.specs.declared.cause.Cause.TheVariants as causes
use Rattle.front_conv.specs.Front.{FrontState, fault_of, is_open, reply_in}

-- ---- the replies in some bytes, the first bytes of a frame being taken already

-- a reply and the texts after it; none if there is no reply
abbrev pub reply_then : Option (List ℕ) → List (List ℕ) → List (List ℕ)
reply_then None texts = []
reply_then (Some text) texts = text ∷ texts

-- their texts, up to a frame that isn't one
abbrev pub texts_from : List ℕ → List ℕ → List (List ℕ)
texts_from part [] = []
texts_from part (b ∷ bs) = if is_open (part ++ b ∷ []) then texts_from (part ++ b ∷ []) bs
    else reply_then (reply_in (step_of (part ++ b ∷ []))) (texts_from [] bs)

-- whether there is nothing else, but perhaps the beginning of a frame at the end
abbrev pub only_from : List ℕ → List ℕ → Bool
only_from part [] = true
only_from part (b ∷ bs) = if is_open (part ++ b ∷ []) then only_from (part ++ b ∷ []) bs
    else is_some (reply_in (step_of (part ++ b ∷ []))) && only_from [] bs

-- The replies of a front end whose bytes aren't known: a text in their place, by which contracts tell such a
-- conversation from others. It isn't modelled, so nothing follows from the text.
abbrev pub unknown_texts : List (List ℕ)
unknown_texts = codes "the replies of the front end" ∷ []

abbrev pub texts_in : Option (List ℕ) → List (List ℕ)
texts_in None = unknown_texts
texts_in (Some bytes) = texts_from [] bytes

abbrev pub only_in : Option (List ℕ) → Bool
only_in None = false
only_in (Some bytes) = only_from [] bytes

-- ---- a conversation

-- the front end with the replies that are still to come: before an exchange whose replies may be lost, that one
abbrev pub source_of : {F : Type 0} → Option F → F → F
source_of None front = front
source_of (Some before) front = before

module _ {F : Type 0} where
  -- a front end that can't fail, and sends nothing but replies
  abbrev pub is_modelled : (F → Bool) → (F → Option (List ℕ)) → F → Bool
  is_modelled tells incoming f = tells f && only_in (incoming f)

  -- what was modelled when it was handed in is so as long as no reply is lost
  abbrev pub IsKept : (F → Bool) → (F → Option (List ℕ)) → F → F → Option F → Type 0
  IsKept tells incoming begun front None =
      IsTrue (is_modelled tells incoming begun) → IsTrue (is_modelled tells incoming front)
  IsKept tells incoming begun front (Some before) = Unit {0}

  -- its replies: those that the front end still sends, and those that were offered
  abbrev pub held : (F → Option (List ℕ)) → FrontState F → ConvState
  held incoming c = record {
    offers = map Answer (texts_in (incoming (source_of c.lost c.front)) ++ c.offered);
    waits = true;
    handed = c.handed;
  }

-- ---- an exchange

-- a front end that can't fail is no cause
pub record IsSteady (result : Result (List Reply) Cause) : Type 0 where
  pub read : result ≢ Err causes.Unread
  pub written : result ≢ Err causes.Unwritten

abbrev pub answered : Result (List Reply) Cause → Result (List Reply) ConvFault
answered (Ok replies) = Ok replies
answered (Err cause) = Err (fault_of cause)

-- whether replies that came may be lost
abbrev pub loses_replies : Cause → Bool
loses_replies causes.NoMemory = true
loses_replies causes.Ended = true
loses_replies causes.Unwritten = false
loses_replies causes.Declined = false
loses_replies causes.Later = false
loses_replies causes.Unread = false
loses_replies causes.Odd = false
