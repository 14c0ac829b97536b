-- The definitions computed on test cases.
use Rattle.std.proofs.Common.{◌≡◌, [], ◌∷◌, filter, Some, None, codes, refl}
use Rattle.pam_base.specs.declared.item.ItemName.TheVariants.{Service, User, Tty, Conv, AuthTok, OldAuthTok, FailDelay}
use Rattle.pam_base.specs.Item.{all_items}
use Rattle.item_store.specs.declared.access.Access.TheVariants.{ApplicationSets, ApplicationGets, ModuleSets, ModuleGets}
use Rattle.item_store.specs.Access.{is_refused}
use Rattle.item_store.specs.Items.{ItemTexts, no_texts, text_of, with_text, without_tokens}

-- of all thirteen items, those that are refused
application_sets : filter (is_refused ApplicationSets) all_items ≡ Service ∷ Conv ∷ AuthTok ∷ OldAuthTok ∷ FailDelay ∷ []
application_sets = refl

application_gets : filter (is_refused ApplicationGets) all_items ≡ Conv ∷ AuthTok ∷ OldAuthTok ∷ FailDelay ∷ []
application_gets = refl

module_sets : filter (is_refused ModuleSets) all_items ≡ Service ∷ Conv ∷ FailDelay ∷ []
module_sets = refl

module_gets : filter (is_refused ModuleGets) all_items ≡ Conv ∷ FailDelay ∷ []
module_gets = refl

-- a terminal is set, read and unset
abbrev on_terminal : ItemTexts
on_terminal = with_text no_texts Tty (Some (codes "pts/1"))

terminal : text_of on_terminal Tty ≡ Some (codes "pts/1")
terminal = refl

no_user : text_of on_terminal User ≡ None
no_user = refl

unset : with_text on_terminal Tty None ≡ no_texts
unset = refl

-- both tokens are cleared, and the terminal stays
cleared : without_tokens (with_text (with_text on_terminal AuthTok (Some (codes "x"))) OldAuthTok (Some (codes "y"))) ≡ on_terminal
cleared = refl
