-- Which items are refused as bad ones: pam_set_item(3) and pam_get_item(3) for the tokens; that SERVICE,
-- CONV and FAIL_DELAY are refused too is this project's own.
use Rattle.std.specs.Prelude.{Bool, List, [], ◌∷◌, ◌==◌}
use Rattle.std.specs.List.{list_any}
use Rattle.pam_base.specs.declared.item.ItemName.{ItemName}
use Rattle.pam_base.specs.declared.item.ItemName.TheVariants.{Service, Conv, AuthTok, OldAuthTok, FailDelay}
use Rattle.pam_base.specs.Item.{item_number}
use Rattle.item_store.specs.declared.access.Access.{Access}
use Rattle.item_store.specs.declared.access.Access.TheVariants.{ApplicationSets, ApplicationGets, ModuleSets, ModuleGets}

-- the table of refused items
abbrev pub refused_items : Access → List ItemName
refused_items ApplicationSets = Service ∷ Conv ∷ AuthTok ∷ OldAuthTok ∷ FailDelay ∷ []
refused_items ApplicationGets = Conv ∷ AuthTok ∷ OldAuthTok ∷ FailDelay ∷ []
refused_items ModuleSets = Service ∷ Conv ∷ FailDelay ∷ []
refused_items ModuleGets = Conv ∷ FailDelay ∷ []

-- whether the item is among them
abbrev pub is_refused : Access → ItemName → Bool
is_refused access item =
    list_any (λ refused. item_number refused == item_number item) (refused_items access)
