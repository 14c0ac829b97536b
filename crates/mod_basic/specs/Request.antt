-- What an argument of pam_probe asks for (this project's own).
use Rattle.std.specs.Prelude.{ℕ, ◌+◌, ◌==◌, if◌then◌else◌, Option, Some, None, List, take, drop, codes}
use Rattle.std.specs.Option.{option_map, option_or, unwrap_or}
use Rattle.std.specs.List.{position}
use Rattle.pam_base.specs.Number.{is_numeral, value_of_digits}
use Rattle.pam_base.specs.declared.style.Style.{Style}
use Rattle.pam_base.specs.declared.style.Style.TheVariants.{EchoOn, TextInfo}
use Rattle.fail_delay.specs.Delay.{counted_request}
use Rattle.pam_room.specs.Call.{value_in}
use Rattle.mod_basic.specs.declared.request.Request.{Request}
use Rattle.mod_basic.specs.declared.request.Request.TheVariants as requests

-- to set module data, by name and payload; to send a message; to request a delay; or nothing
pub data PlainRequest : Type 0 where
  set_data : List ℕ → List ℕ → PlainRequest
  send : Style → List ℕ → PlainRequest
  delay : ℕ → PlainRequest
  nothing : PlainRequest

-- set=NAME:PAYLOAD; the name ends at the first colon, and without one nothing is set
abbrev pub split_at : Option ℕ → List ℕ → PlainRequest
split_at (Some colon) text = set_data (take colon text) (drop (colon + 1) text)
split_at None text = nothing

abbrev pub named_payload : List ℕ → PlainRequest
named_payload text = split_at (position (λ b. b == 58) text) text

-- delay=MICROSECONDS, in 1 to 10 digits; a longer request than one minute counts as one minute
abbrev pub delay_of : List ℕ → PlainRequest
delay_of word = if is_numeral word then delay (counted_request (value_of_digits word)) else nothing

-- say=TEXT and ask=TEXT
abbrev pub said : List ℕ → PlainRequest
said text = send TextInfo text

abbrev pub asked : List ℕ → PlainRequest
asked text = send EchoOn text

abbrev pub request_of : List ℕ → PlainRequest
request_of arg = unwrap_or
    (option_or (option_map named_payload (value_in (codes "set=") arg))
    (option_or (option_map said (value_in (codes "say=") arg))
    (option_or (option_map asked (value_in (codes "ask=") arg))
    (option_map delay_of (value_in (codes "delay=") arg)))))
    nothing

-- the plain value of the code's type for a request
abbrev pub plain_request : Request → PlainRequest
plain_request (requests.SetData name payload) = set_data name.now payload.now
plain_request (requests.Send style text) = send style text.now
plain_request (requests.Delay micros) = delay micros
plain_request requests.Nothing = nothing
