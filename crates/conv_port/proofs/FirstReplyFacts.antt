-- Each prompt of an exchange takes the first reply.
use Rattle.std.proofs.Common.{◌≡◌, ℕ, suc, ◌+◌, ◌<◌, ◌≤◌, Bool, true, false, List, [], ◌∷◌, ◌++◌, length, drop, refl, sym, ap, ◌∙◌, append_assoc, get_or, drop-cons, length-drop, arith}
use Rattle.std.proofs.lemmas.List.{nil_from_length}
use Rattle.conv_port.specs.declared.message.Message.{Message}
use Rattle.conv_port.specs.declared.message.Reply.{Reply}
use Rattle.conv_port.specs.declared.offer.Offer.{Offer}
use Rattle.conv_port.specs.declared.offer.Offer.TheVariants.{Answer}
use Rattle.pam_base.specs.Style.{is_prompt}
use Rattle.conv_port.specs.Message.{prompt_count}
use Rattle.conv_port.specs.Conv.{ready_replies, replies_from}
use Rattle.conv_port.specs.Queue.{TakesReply}

-- some messages have their replies, and those for the others are there
pub record IsTaking (messages rest : List Message) (before now : List Offer) (done : List Reply) : Type 0 where
  pub replies : done ++ replies_from (ready_replies now) rest ≡ replies_from (ready_replies before) messages
  pub offers : drop (prompt_count rest) now ≡ drop (prompt_count messages) before
  pub enough : prompt_count rest ≤ length (ready_replies now)

pub takes_first : (m : Message) (ms : List Message) (offers : List Offer) → prompt_count (m ∷ ms) ≤ length (ready_replies offers)
    → is_prompt m.style ≡ true → 0 < length (ready_replies offers)
takes_first m ms offers enough is = let h : 1 + prompt_count ms ≤ length (ready_replies offers) = rw is at enough in omega (arith, h)

abbrev reply : List ℕ → Reply
reply text = record { text = text }

reply_is : (r : Reply) (text : List ℕ) → r.text ≡ text → r ≡ record { text = text }
reply_is r text e = ap reply e

passed : (n : ℕ) (x : Offer) (xs : List Offer) → drop n xs ≡ drop (1 + n) (x ∷ xs)
passed n x xs = let e : suc n ≡ 1 + n = omega arith in ap (λ k. drop k (x ∷ xs)) e

by_prompt : (messages ms : List Message) (m : Message) (before now after : List Offer) (done : List Reply) (r : Reply) → is_prompt m.style ≡ true
    → now ≡ Answer r.text ∷ after → IsTaking messages (m ∷ ms) before now done → IsTaking messages ms before after (done ++ r ∷ [])
by_prompt messages ms m before now after done r is took t =
    let replies : done ++ r ∷ replies_from (ready_replies after) ms ≡ replies_from (ready_replies before) messages = rw (is, took) at t.replies in
    let offers : drop (1 + prompt_count ms) (Answer r.text ∷ after) ≡ drop (prompt_count messages) before = rw (is, took) at t.offers in
    let enough : 1 + prompt_count ms ≤ length (ready_replies (Answer r.text ∷ after)) = rw (is, took) at t.enough in
    record {
      replies = append_assoc done (r ∷ []) (replies_from (ready_replies after) ms) ∙ replies;
      offers = passed (prompt_count ms) (Answer r.text) after ∙ offers;
      enough = omega (arith, enough);
    }

by_other : (messages ms : List Message) (m : Message) (before now after : List Offer) (done : List Reply) (r : Reply) → is_prompt m.style ≡ false
    → r.text ≡ [] → after ≡ now → IsTaking messages (m ∷ ms) before now done → IsTaking messages ms before after (done ++ r ∷ [])
by_other messages ms m before now after done r is empty same t =
    let replies : done ++ record { text = [] } ∷ replies_from (ready_replies now) ms ≡ replies_from (ready_replies before) messages = rw is at t.replies in
    let offers : drop (0 + prompt_count ms) now ≡ drop (prompt_count messages) before = rw is at t.offers in
    let none : prompt_count ms ≡ 0 + prompt_count ms = omega arith in
    let enough : 0 + prompt_count ms ≤ length (ready_replies now) = rw is at t.enough in
    record {
      replies = append_assoc done (r ∷ []) (replies_from (ready_replies after) ms) ∙ rw (same, reply_is r [] empty) replies;
      offers = rw (same, none) offers;
      enough = rw same (omega (arith, enough));
    }

-- one message has its reply
pub one_more : (messages ms : List Message) (m : Message) (before now after : List Offer) (done : List Reply) (r : Reply)
    → TakesReply m r now after → IsTaking messages (m ∷ ms) before now done → IsTaking messages ms before after (done ++ r ∷ [])
one_more messages ms m before now after done r took t = by (is_prompt m.style) refl
  where
    by : (b : Bool) → is_prompt m.style ≡ b → IsTaking messages ms before after (done ++ r ∷ [])
    by true e = by_prompt messages ms m before now after done r e (took.prompt e) t
    by false e = by_other messages ms m before now after done r e (took.other e).0 (took.other e).1 t

pub next_of : (messages : List Message) (i : ℕ) (m : Message) → i < length messages → m ≡ get_or messages i m → drop i messages ≡ m ∷ drop (i + 1) messages
next_of messages i m lt is =
    let e : suc i ≡ i + 1 = omega arith in
    drop-cons messages i m lt ∙ ap (λ (x : Message). x ∷ drop (suc i) messages) (sym is) ∙ ap (λ k. m ∷ drop k messages) e

pub none_after : (messages : List Message) (i : ℕ) → length messages ≤ i → drop i messages ≡ []
none_after messages i le = nil_from_length (drop i messages) (omega (arith, length-drop i messages, le))
