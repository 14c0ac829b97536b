-- What a conversation in memory holds (this project's own).
use Rattle.std.specs.Prelude.{◌≡◌, ℕ, ◌≤◌, true, false, List, [], ◌∷◌, ◌++◌, drop, length, nat_le, Option, Some, None}
use Rattle.std.specs.List.{AllByRecursion}
use Rattle.conv_port.specs.declared.message.Message.{Message}
use Rattle.conv_port.specs.declared.message.Reply.{Reply}
use Rattle.conv_port.specs.declared.offer.Offer.{Offer}
use Rattle.conv_port.specs.declared.offer.Offer.TheVariants.{Answer, Later}
use Rattle.pam_base.specs.Style.{is_prompt}
use Rattle.conv_port.specs.Message.{prompt_count}
use Rattle.conv_port.specs.Conv.{ready_replies, replies_from}

-- the offers that aren't taken yet, its two counts, and the exchanges that were passed to it, in order
pub record QueueState : Type 0 where
  pub offers : List Offer
  pub faults : ℕ
  pub deferrals : ℕ
  pub handed : List (List Message)

abbrev pub IsShort : Offer → Type 0
IsShort (Answer text) = length text ≤ 512
IsShort Later = Unit {0}

-- every reply has at most 512 bytes
abbrev pub AreShort : List Offer → Type 0
AreShort offers = AllByRecursion IsShort offers

-- the offers that aren't taken yet, and the exchanges that were passed to it, in order
pub record PlainQueue : Type 0 where
  pub offers : List Offer
  pub handed : List (List Message)

-- One exchange: if there are enough replies, each prompt takes one, in order; if not, none is
-- taken. The messages were passed to it.
abbrev pub Exchanges : Option (List Reply) → List Message → PlainQueue → PlainQueue → Type 0
Exchanges (Some replies) messages old new =
    (nat_le (prompt_count messages) (length (ready_replies old.offers)) ≡ true)
    × (replies ≡ replies_from (ready_replies old.offers) messages)
    × (new ≡ record {
      offers = drop (prompt_count messages) old.offers;
      handed = old.handed ++ messages ∷ [];
    })
Exchanges None messages old new =
    (nat_le (prompt_count messages) (length (ready_replies old.offers)) ≡ false)
    × (new ≡ record old { handed = old.handed ++ messages ∷ [] })

-- one message of an exchange: a prompt takes the first reply, and any other message has the empty one
pub record TakesReply (m : Message) (r : Reply) (before after : List Offer) : Type 0 where
  pub prompt : is_prompt m.style ≡ true → before ≡ Answer r.text ∷ after
  pub other : is_prompt m.style ≡ false → (r.text ≡ []) × (after ≡ before)
