-- Every reply that a queue gives is a reply to its message.
use Rattle.std.proofs.Common.{◌≡◌, ℕ, zero, suc, ◌≤◌, Bool, true, false, if◌then◌else◌, List, [], ◌∷◌, length, drop, refl, arith}
use Rattle.std.specs.List.{AllByRecursion}
use Rattle.conv_port.specs.declared.message.Message.{Message}
use Rattle.conv_port.specs.declared.message.Reply.{Reply}
use Rattle.conv_port.specs.declared.offer.Offer.{Offer}
use Rattle.conv_port.specs.declared.offer.Offer.TheVariants.{Answer, Later}
use Rattle.pam_base.specs.Style.{is_prompt}
use Rattle.conv_port.specs.Message.{AreReplies}
use Rattle.conv_port.specs.Conv.{ready_replies, replies_from, first_text}
use Rattle.conv_port.specs.Queue.{AreShort}

abbrev AreWithin : List (List ℕ) → Type 0
AreWithin texts = AllByRecursion (λ (text : List ℕ). length text ≤ 512) texts

ready_within : (offers : List Offer) → AreShort offers → AreWithin (ready_replies offers)
ready_within [] all = tt
ready_within (Answer text ∷ offers) all = (all.0, ready_within offers all.1)
ready_within (Later ∷ offers) all = tt

first_within : (texts : List (List ℕ)) → AreWithin texts → length (first_text texts) ≤ 512
first_within [] all = omega arith
first_within (text ∷ texts) all = all.0

rest_within : (texts : List (List ℕ)) → AreWithin texts → AreWithin (drop 1 texts)
rest_within [] all = tt
rest_within (text ∷ texts) all = all.1

fitting : (texts : List (List ℕ)) (messages : List Message) → AreWithin texts → AreReplies messages (replies_from texts messages)
fitting texts [] all = tt
fitting texts (m ∷ ms) all = by (is_prompt m.style) refl (fitting (drop 1 texts) ms (rest_within texts all)) (fitting texts ms all)
  where
    by : (b : Bool) → is_prompt m.style ≡ b → AreReplies ms (replies_from (drop 1 texts) ms) → AreReplies ms (replies_from texts ms)
        → AreReplies (m ∷ ms) (if b then record { text = first_text texts } ∷ replies_from (drop 1 texts) ms else record { text = [] } ∷ replies_from texts ms)
    by true e taken kept = (record { short = first_within texts all; silent = λ no. absurd cc }, taken)
    by false e taken kept = (record { short = omega arith; silent = λ no. refl }, kept)

pub replies_fit : (offers : List Offer) (messages : List Message) (replies : List Reply) → AreShort offers
    → replies ≡ replies_from (ready_replies offers) messages → AreReplies messages replies
replies_fit offers messages replies all is = rw is (fitting (ready_replies offers) messages (ready_within offers all))

pub short_rest : (n : ℕ) (offers : List Offer) → AreShort offers → AreShort (drop n offers)
short_rest zero offers all = all
short_rest (suc n) [] all = tt
short_rest (suc n) (o ∷ os) all = short_rest n os all.1
