-- When an exchange gets no replies.
use Rattle.std.proofs.Common.{◌≡◌, ◌≢◌, ◌↔◌, ℕ, ◌<◌, Bool, true, false, ◌||◌, leb, List, [], ◌∷◌, length, Result, Ok, Err, refl, sym, ◌∙◌, arith}
use Rattle.std.specs.Bool.{if◌then◌else◌}
use Rattle.conv_port.specs.declared.conv.ConvFault.{ConvFault}
use Rattle.conv_port.specs.declared.conv.ConvFault.TheVariants.{Again, Gone}
use Rattle.conv_port.specs.declared.message.Message.{Message}
use Rattle.conv_port.specs.declared.message.Reply.{Reply}
use Rattle.conv_port.specs.declared.offer.Offer.{Offer}
use Rattle.conv_port.specs.declared.offer.Offer.TheVariants.{Answer, Later}
use Rattle.conv_port.specs.Message.{HasPrompt, prompt_count}
use Rattle.conv_port.specs.Conv.{ConvState, answer_to, has_replies, ready_replies, replies_from, starts_with_mark}

-- the result, from the results of the tests
answered : Bool → Bool → List Reply → Result (List Reply) ConvFault
answered enough off replies = if enough then Ok replies else if off then Err Again else Err Gone

put_off : (enough off : Bool) (replies : List Reply) → (answered enough off replies ≡ Err Again) ↔ ((enough ≡ false) × (off ≡ true))
unfolding answered
put_off true off replies = (λ e. absurd cc, λ both. absurd cc)
put_off false true replies = (λ e. (refl, refl), λ both. refl)
put_off false false replies = (λ e. absurd cc, λ both. absurd cc)

ended : (enough off : Bool) (replies : List Reply) → (answered enough off replies ≡ Err Gone) ↔ ((enough ≡ false) × (off ≡ false))
unfolding answered
ended true off replies = (λ e. absurd cc, λ both. absurd cc)
ended false true replies = (λ e. absurd cc, λ both. absurd cc)
ended false false replies = (λ e. (refl, refl), λ both. refl)

too_few : (p n : ℕ) → (leb p n ≡ false) ↔ (n < p)
too_few p n = (λ e. grind arith, λ lt. grind arith)

-- a mark at the beginning leaves no reply before it
none_ready : (offers : List Offer) → starts_with_mark offers ≡ true → length (ready_replies offers) ≡ 0
none_ready [] e = absurd cc
none_ready (Answer text ∷ offers) e = absurd cc
none_ready (Later ∷ offers) e = refl

answer_is : (s : ConvState) (messages : List Message) (off : Bool) → (s.waits || starts_with_mark s.offers) ≡ off
    → answer_to s messages ≡ answered (has_replies s messages) off (replies_from (ready_replies s.offers) messages)
unfolding answered
answer_is s messages off e = rw e refl

pub again : (s : ConvState) (messages : List Message) → s.waits ≡ false
    → (answer_to s messages ≡ Err Again) ↔ (HasPrompt messages × (starts_with_mark s.offers ≡ true))
again s messages waits =
    let is = answer_is s messages (starts_with_mark s.offers) (rw waits refl) in
    let cases = put_off (has_replies s messages) (starts_with_mark s.offers) (replies_from (ready_replies s.offers) messages) in
    let few = too_few (prompt_count messages) (length (ready_replies s.offers)) in (
      λ e. let both = cases.0 (sym is ∙ e) in let lt = few.0 both.0 in (omega (arith, lt), both.1),
      λ both. let none = none_ready s.offers both.1 in is ∙ cases.1 (few.1 (omega (arith, none, both.0)), both.1),
    )

pub gone : (s : ConvState) (messages : List Message) → s.waits ≡ false
    → (answer_to s messages ≡ Err Gone) ↔ ((length (ready_replies s.offers) < prompt_count messages) × (starts_with_mark s.offers ≡ false))
gone s messages waits =
    let is = answer_is s messages (starts_with_mark s.offers) (rw waits refl) in
    let cases = ended (has_replies s messages) (starts_with_mark s.offers) (replies_from (ready_replies s.offers) messages) in
    let few = too_few (prompt_count messages) (length (ready_replies s.offers)) in (
      λ e. let both = cases.0 (sym is ∙ e) in (few.0 both.0, both.1),
      λ both. is ∙ cases.1 (few.1 both.0, both.1),
    )

pub waiting : (s : ConvState) (messages : List Message) → s.waits ≡ true
    → (answer_to s messages ≡ Err Again) ↔ (length (ready_replies s.offers) < prompt_count messages)
waiting s messages waits =
    let is = answer_is s messages true (rw waits refl) in
    let cases = put_off (has_replies s messages) true (replies_from (ready_replies s.offers) messages) in
    let few = too_few (prompt_count messages) (length (ready_replies s.offers)) in (
      λ e. few.0 (cases.0 (sym is ∙ e)).0,
      λ lt. is ∙ cases.1 (few.1 lt, refl),
    )

pub never_gone : (s : ConvState) (messages : List Message) → s.waits ≡ true → answer_to s messages ≢ Err Gone
never_gone s messages waits e =
    let is = answer_is s messages true (rw waits refl) in
    let off = ((ended (has_replies s messages) true (replies_from (ready_replies s.offers) messages)).0 (sym is ∙ e)).1 in
    absurd cc
