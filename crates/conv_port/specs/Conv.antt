-- What a modelled conversation holds, and what it returns because of that (this project's own: pam_conv(3) leaves open
-- where replies come from; PAM_CONV_AGAIN is the code of one that has none yet).
use Rattle.std.specs.Prelude.{◌≡◌, ℕ, Bool, true, false, ◌||◌, nat_le, if◌then◌else◌, List, [], ◌∷◌, ◌++◌, length, drop, codes, Result, Ok, Err, OnOk, OnErr}
use Rattle.std.specs.Str.{bytes_eq}
use Rattle.conv_port.specs.declared.conv.ConvFault.{ConvFault}
use Rattle.conv_port.specs.declared.conv.ConvFault.TheVariants.{NoMemory, Gone, Again}
use Rattle.conv_port.specs.declared.message.Message.{Message}
use Rattle.conv_port.specs.declared.message.Reply.{Reply}
use Rattle.conv_port.specs.declared.offer.Offer.{Offer}
use Rattle.conv_port.specs.declared.offer.Offer.TheVariants.{Answer, Later}
use Rattle.pam_base.specs.Style.{is_prompt}
use Rattle.conv_port.specs.Message.{prompt_count}

-- The offers that aren't taken yet, in order, and whether the conversation waits if there are too few. One that waits
-- holds no marks. And all that was passed to it: each exchange with its messages, in order, including those without
-- replies.
pub record ConvState : Type 0 where
  pub offers : List Offer
  pub waits : Bool
  pub handed : List (List Message)

-- the replies before the first mark
abbrev pub ready_replies : List Offer → List (List ℕ)
ready_replies [] = []
ready_replies (Answer text ∷ offers) = text ∷ ready_replies offers
ready_replies (Later ∷ offers) = []

abbrev pub starts_with_mark : List Offer → Bool
starts_with_mark [] = false
starts_with_mark (Answer text ∷ offers) = false
starts_with_mark (Later ∷ offers) = true

-- without the first mark, if there is one
abbrev pub without_mark : List Offer → List Offer
without_mark [] = []
without_mark (Answer text ∷ offers) = Answer text ∷ offers
without_mark (Later ∷ offers) = offers

abbrev pub first_text : List (List ℕ) → List ℕ
first_text [] = []
first_text (text ∷ texts) = text

-- each prompt takes the next text, and any other message has the empty reply
abbrev pub replies_from : List (List ℕ) → List Message → List Reply
replies_from texts [] = []
replies_from texts (m ∷ ms) = if is_prompt m.style
    then record { text = first_text texts } ∷ replies_from (drop 1 texts) ms
    else record { text = [] } ∷ replies_from texts ms

-- whether there is a reply for each prompt
abbrev pub has_replies : ConvState → List Message → Bool
has_replies s messages = nat_le (prompt_count messages) (length (ready_replies s.offers))

-- The result of an exchange, unless memory runs out. If a reply is missing, a conversation that waits and one with a
-- mark at the beginning return Again, and any other returns Gone.
abbrev pub answer_to : ConvState → List Message → Result (List Reply) ConvFault
answer_to s messages =
    if has_replies s messages then Ok (replies_from (ready_replies s.offers) messages)
    else if s.waits || starts_with_mark s.offers then Err Again else Err Gone

-- What it holds after it. A mark makes one exchange return Again. If a reply is missing, none is taken. These messages
-- were passed to it.
abbrev pub state_after : ConvState → List Message → ConvState
state_after s messages =
    if has_replies s messages then record s {
      offers = drop (prompt_count messages) s.offers;
      handed = s.handed ++ messages ∷ [];
    }
    else if s.waits then record s { handed = s.handed ++ messages ∷ [] }
    else record s { offers = without_mark s.offers; handed = s.handed ++ messages ∷ [] }

-- an exchange: exactly that result; or memory ran out, and then nothing changed
abbrev pub Answers : Result (List Reply) ConvFault → List Message → ConvState → ConvState → Type 0
Answers (Ok replies) messages old new = (answer_to old messages ≡ Ok replies)
    × (new ≡ state_after old messages)
Answers (Err Gone) messages old new = (answer_to old messages ≡ Err Gone)
    × (new ≡ state_after old messages)
Answers (Err Again) messages old new = (answer_to old messages ≡ Err Again)
    × (new ≡ state_after old messages)
Answers (Err NoMemory) messages old new = new ≡ old

-- what a text offers: the six bytes \later are a mark
abbrev pub offer_of : List ℕ → Offer
offer_of text = if bytes_eq text (codes "\\later") then Later else Answer text

-- the same for a conversation that may wait: any text is a reply
abbrev pub offer_taken : Bool → List ℕ → Offer
offer_taken waits text = if waits then Answer text else offer_of text

-- an offer is added after the others; or memory ran out, and then nothing changed
pub record TakesOffer {E : Type 0} (result : Result (Unit {0}) E) (text : List ℕ)
    (old new : ConvState) : Type 0 where
  pub ok : OnOk result (new ≡ record old { offers = old.offers ++ offer_taken old.waits text ∷ [] })
  pub err : OnErr result (new ≡ old)
