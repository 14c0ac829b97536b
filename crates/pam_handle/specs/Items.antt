-- The calls that run no stack: items, environment, delays, conversations and missing modules (pam_set_item(3),
-- pam_putenv(3), pam_fail_delay(3); that missing modules are reported is this project's own).
use Rattle.std.specs.Prelude.{ℕ, Bool, ◌||◌, if◌then◌else◌, None, is_some, List, [], ◌∷◌, ◌++◌, max}
use Rattle.item_store.specs.Items.{ItemTexts}
use Rattle.dispatch_core.specs.env_list.specs.Environment.{Variable}
use Rattle.dispatch_core.specs.fail_delay.specs.Delay.{counted_request}
use Rattle.dispatch_core.specs.conv_port.specs.Conv.{ConvState}
use Rattle.dispatch_core.specs.control_words.specs.declared.nodes.Rule.{Rule}
use Rattle.dispatch_core.specs.control_words.specs.Module.{name_of_module}
use Rattle.dispatch_core.specs.control_words.specs.Stack.{Stack, none, line, sub}
use Rattle.dispatch_core.specs.handler_chain.specs.FlatLines.{module_of}
use Rattle.dispatch_core.specs.pam_room.specs.State.{PlainTransaction}
use Rattle.dispatch_core.specs.service_load.specs.Stacks.{Stacks}
use Rattle.pam_handle.specs.Handle.{PlainHandle, in_room}

abbrev pub with_transaction : PlainTransaction → PlainHandle → PlainHandle
with_transaction t h = in_room (record h.room { transaction = t }) h

abbrev pub with_items : ItemTexts → PlainHandle → PlainHandle
with_items items h = with_transaction (record h.room.transaction { items = items }) h

abbrev pub with_environment : List Variable → PlainHandle → PlainHandle
with_environment env h = with_transaction (record h.room.transaction { env = env }) h

-- a requested delay, in microseconds
abbrev pub with_request : ℕ → PlainHandle → PlainHandle
with_request micros h =
    with_transaction (record h.room.transaction
    { delay = max (counted_request micros) h.room.transaction.delay }) h

abbrev pub with_delay_function : Bool → PlainHandle → PlainHandle
with_delay_function on h = record h { delay_on = on }

abbrev pub with_conversation : ConvState → PlainHandle → PlainHandle
with_conversation conv h = in_room (record h.room { conv = conv }) h

-- the transaction with no message, line or wait left to report
abbrev pub all_told : PlainHandle → PlainHandle
all_told h = record (with_transaction (record h.room.transaction { said = []; trail = [] }) h)
    { waited = None }

-- ---- missing modules

-- a line whose module is missing and that isn't silent about it
abbrev pub missing_of : List (List ℕ) → Rule → List (List ℕ)
missing_of names rule = if rule.silent || is_some (module_of names rule) then []
    else name_of_module rule.path ∷ []

-- the names of the missing modules that the lines of a stack name, in written order
abbrev pub missing_in : List (List ℕ) → Stack → List (List ℕ)
missing_in names none = []
missing_in names (line rule rest) = missing_of names rule ++ missing_in names rest
missing_in names (sub inner rest) = missing_in names inner ++ missing_in names rest

abbrev pub missing_from : List (List ℕ) → Stacks → List (List ℕ)
missing_from names s = missing_in names s.auth
    ++ (missing_in names s.account ++ (missing_in names s.password ++ missing_in names s.session))
