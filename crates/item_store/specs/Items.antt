-- The items of a transaction, pam_set_item(3): a text or nothing for each, except the conversation
-- and the delay function, which aren't texts.
use Rattle.std.specs.Prelude.{ℕ, List, Option, None}
use Rattle.pam_base.specs.declared.item.ItemName.{ItemName}
use Rattle.pam_base.specs.declared.item.ItemName.TheVariants.{Service, User, Tty, Rhost, Conv, AuthTok, OldAuthTok, Ruser, UserPrompt, FailDelay, XDisplay, XAuthData, AuthTokType}

-- what contracts see of the items
pub record ItemTexts : Type 0 where
  pub service : Option (List ℕ)
  pub user : Option (List ℕ)
  pub tty : Option (List ℕ)
  pub rhost : Option (List ℕ)
  pub auth_tok : Option (List ℕ)
  pub old_auth_tok : Option (List ℕ)
  pub ruser : Option (List ℕ)
  pub user_prompt : Option (List ℕ)
  pub x_display : Option (List ℕ)
  pub x_auth_data : Option (List ℕ)
  pub auth_tok_type : Option (List ℕ)

-- no item is set
abbrev pub no_texts : ItemTexts
no_texts = record {
  service = None;
  user = None;
  tty = None;
  rhost = None;
  auth_tok = None;
  old_auth_tok = None;
  ruser = None;
  user_prompt = None;
  x_display = None;
  x_auth_data = None;
  auth_tok_type = None;
}

-- the text of an item, or nothing if it isn't set
abbrev pub text_of : ItemTexts → ItemName → Option (List ℕ)
text_of items Service = items.service
text_of items User = items.user
text_of items Tty = items.tty
text_of items Rhost = items.rhost
text_of items Conv = None
text_of items AuthTok = items.auth_tok
text_of items OldAuthTok = items.old_auth_tok
text_of items Ruser = items.ruser
text_of items UserPrompt = items.user_prompt
text_of items FailDelay = None
text_of items XDisplay = items.x_display
text_of items XAuthData = items.x_auth_data
text_of items AuthTokType = items.auth_tok_type

-- the items with this text, or with nothing, for one of them
abbrev pub with_text : ItemTexts → ItemName → Option (List ℕ) → ItemTexts
with_text items Service text = record items { service = text }
with_text items User text = record items { user = text }
with_text items Tty text = record items { tty = text }
with_text items Rhost text = record items { rhost = text }
with_text items Conv text = items
with_text items AuthTok text = record items { auth_tok = text }
with_text items OldAuthTok text = record items { old_auth_tok = text }
with_text items Ruser text = record items { ruser = text }
with_text items UserPrompt text = record items { user_prompt = text }
with_text items FailDelay text = items
with_text items XDisplay text = record items { x_display = text }
with_text items XAuthData text = record items { x_auth_data = text }
with_text items AuthTokType text = record items { auth_tok_type = text }

-- the items with both tokens unset
abbrev pub without_tokens : ItemTexts → ItemTexts
without_tokens items = record items { auth_tok = None; old_auth_tok = None }
