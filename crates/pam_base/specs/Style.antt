-- The styles of messages, by the table of numbers in pam_conv(3) and _pam_types.h.
use Rattle.std.specs.Prelude.{ℕ, Bool, true, false}
use Rattle.pam_base.specs.declared.style.Style.{Style}
use Rattle.pam_base.specs.declared.style.Style.TheVariants.{EchoOff, EchoOn, ErrorMsg, TextInfo}

-- the number of a style
abbrev pub style_number : Style → ℕ
style_number EchoOff = 1
style_number EchoOn = 2
style_number ErrorMsg = 3
style_number TextInfo = 4

-- whether a message of this style is a prompt, which needs a reply
abbrev pub is_prompt : Style → Bool
is_prompt EchoOff = true
is_prompt EchoOn = true
is_prompt ErrorMsg = false
is_prompt TextInfo = false
