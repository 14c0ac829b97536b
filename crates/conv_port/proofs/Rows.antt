-- Test cases: exchanges, computed on the definition.
use Rattle.std.proofs.Common.{◌≡◌, ℕ, true, false, List, [], ◌∷◌, Ok, Err, codes, ◌++◌, replicate, refl}
use Rattle.pam_base.specs.declared.style.Style.TheVariants.{EchoOff, EchoOn, TextInfo}
use Rattle.conv_port.specs.declared.conv.ConvFault.TheVariants.{Gone, Again}
use Rattle.conv_port.specs.declared.message.Message.{Message}
use Rattle.conv_port.specs.declared.message.Reply.{Reply}
use Rattle.conv_port.specs.declared.offer.Offer.{Offer}
use Rattle.conv_port.specs.declared.offer.Offer.TheVariants.{Answer, Later}
use Rattle.conv_port.specs.Terminal.{all_shown, past_line, after_replies, has_lines, typed_line, typed_replies}
use Rattle.conv_port.specs.Conv.{ConvState, answer_to, state_after, offer_taken}

abbrev ready : List Offer → ConvState
ready offers = record { offers = offers; waits = false; handed = [] }

-- the same, after one exchange
abbrev handed_on : List Message → ConvState → ConvState
handed_on messages s = record s { handed = messages ∷ [] }

abbrev waiting : List Offer → ConvState
waiting offers = record { offers = offers; waits = true; handed = [] }

abbrev a_reply : List ℕ → Reply
a_reply text = record { text = text }

-- a text, and two prompts
abbrev two_prompts : List Message
two_prompts =
    record { style = TextInfo; text = codes "hi" }
    ∷ record { style = EchoOn; text = codes "login: " }
    ∷ record { style = EchoOff; text = codes "Password: " } ∷ []

abbrev a_text : List Message
a_text = record { style = TextInfo; text = codes "hi" } ∷ []

-- each prompt takes the next reply
replies_in_order : answer_to (ready (Answer (codes "joe") ∷ Answer (codes "x") ∷ Later ∷ [])) two_prompts ≡ Ok (a_reply [] ∷ a_reply (codes "joe") ∷ a_reply (codes "x") ∷ [])
replies_in_order = refl

mark_stays_after : state_after (ready (Answer (codes "joe") ∷ Answer (codes "x") ∷ Later ∷ [])) two_prompts ≡ handed_on two_prompts (ready (Later ∷ []))
mark_stays_after = refl

-- a mark after too few replies ends the exchange, and no reply is taken
too_few : answer_to (ready (Answer (codes "joe") ∷ Later ∷ Answer (codes "x") ∷ [])) two_prompts ≡ Err Gone
too_few = refl

none_taken : state_after (ready (Answer (codes "joe") ∷ Later ∷ Answer (codes "x") ∷ [])) two_prompts ≡ handed_on two_prompts (ready (Answer (codes "joe") ∷ Later ∷ Answer (codes "x") ∷ []))
none_taken = refl

-- a mark at the beginning makes it incomplete, and is taken
put_off : answer_to (ready (Later ∷ Answer (codes "joe") ∷ [])) two_prompts ≡ Err Again
put_off = refl

mark_taken : state_after (ready (Later ∷ Answer (codes "joe") ∷ [])) two_prompts ≡ handed_on two_prompts (ready (Answer (codes "joe") ∷ []))
mark_taken = refl

-- without a prompt a mark stays
no_prompt : answer_to (ready (Later ∷ [])) a_text ≡ Ok (a_reply [] ∷ [])
no_prompt = refl

mark_untouched : state_after (ready (Later ∷ [])) a_text ≡ handed_on a_text (ready (Later ∷ []))
mark_untouched = refl

-- a conversation that waits returns Again if a reply is missing, and keeps its replies
waits : answer_to (waiting (Answer (codes "joe") ∷ [])) two_prompts ≡ Err Again
waits = refl

keeps : state_after (waiting (Answer (codes "joe") ∷ [])) two_prompts ≡ handed_on two_prompts (waiting (Answer (codes "joe") ∷ []))
keeps = refl

-- six bytes are a mark, and only for a conversation that doesn't wait
a_mark : offer_taken false (codes "\\later") ≡ Later
a_mark = refl

no_mark : offer_taken false (codes "\\later ") ≡ Answer (codes "\\later ")
no_mark = refl

never_a_mark : offer_taken true (codes "\\later") ≡ Answer (codes "\\later")
never_a_mark = refl

-- ---- a terminal

-- a line, and the bytes after its newline
a_line : typed_line (codes "joe\nx\n") ≡ codes "joe"
a_line = refl

past_it : past_line (codes "joe\nx\n") ≡ codes "x\n"
past_it = refl

-- an empty line is a reply
empty_line : typed_line (codes "\nx") ≡ []
empty_line = refl

after_empty : past_line (codes "\nx") ≡ codes "x"
after_empty = refl

-- the last line may lack its newline
last_line : typed_line (codes "joe") ≡ codes "joe"
last_line = refl

after_last : past_line (codes "joe") ≡ []
after_last = refl

-- 512 bytes are a reply, and leave their newline
full_line : typed_line (replicate 512 97 ++ codes "\nx") ≡ replicate 512 97
full_line = refl

after_full : past_line (replicate 512 97 ++ codes "\nx") ≡ codes "\nx"
after_full = refl

-- 513 bytes are two replies
over_full : past_line (replicate 513 97 ++ codes "\nx") ≡ codes "a\nx"
over_full = refl

-- an exchange, with what is shown, and what is left
exchange : typed_replies two_prompts (codes "joe\nx\ny") ≡ a_reply [] ∷ a_reply (codes "joe") ∷ a_reply (codes "x") ∷ []
exchange = refl

left : after_replies two_prompts (codes "joe\nx\ny") ≡ codes "y"
left = refl

seen : all_shown two_prompts ≡ codes "hi\nlogin: Password: "
seen = refl

-- there is nothing left for the second prompt
no_reply : has_lines two_prompts (codes "joe\n") ≡ false
no_reply = refl
