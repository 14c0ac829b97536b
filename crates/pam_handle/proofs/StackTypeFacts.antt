-- The stack of a type among the four of a transaction.
use Rattle.std.proofs.Common.{◌≡◌, ℕ, List, refl, sym, ◌∙◌, ap}
use Rattle.pam_base.specs.declared.call.Func.{Func}
use Rattle.dispatch_core.specs.control_words.specs.Stack.{Stack}
use Rattle.dispatch_core.specs.handler_chain.specs.Chain.{ChainView}
use Rattle.dispatch_core.specs.pam_room.specs.State.{PlainRoom}
use Rattle.dispatch_core.specs.service_load.specs.ByType.{at_type, with_type}
use Rattle.dispatch_core.specs.service_load.specs.declared.by_type.ByType.{ByType}
use Rattle.dispatch_core.specs.service_load.specs.declared.rule_type.RuleType.{RuleType}
use Rattle.dispatch_core.specs.service_load.specs.declared.rule_type.RuleType.TheVariants.{Auth, Account, Password, Session}
use Rattle.dispatch_core.specs.service_load.specs.Stacks.{Stacks}
use Rattle.pam_handle.specs.Handle.{PlainHandle, in_room}
use Rattle.pam_handle.specs.Passes.{stack_at, stack_type}
use Rattle.pam_handle.specs.Plain.{stacks_in}
use Rattle.pam_handle.specs.declared.chains.Chains.{Chains}

-- all are for the same modules
pub names_at : (chains : Chains) (type : RuleType) → (at_type chains.by_type type).names ≡ chains.by_type.auth.names
names_at chains Auth = refl
names_at chains Account = chains.account_names
names_at chains Password = chains.password_names
names_at chains Session = chains.session_names

stack_is : (chains : Chains) (type : RuleType) → stack_at (stacks_in chains) type ≡ (at_type chains.by_type type).nodes
stack_is chains Auth = refl
stack_is chains Account = refl
stack_is chains Password = refl
stack_is chains Session = refl

-- the chain of a call's type is that of the call's stack
pub stack_of_call : (chains : Chains) (func : Func) (type : RuleType) (chain : ChainView) → type ≡ stack_type func → chain ≡ at_type chains.by_type type
    → stack_at (stacks_in chains) (stack_type func) ≡ chain.nodes
stack_of_call chains func type chain t is = ap (λ (x : RuleType). stack_at (stacks_in chains) x) (sym t) ∙ stack_is chains type ∙ ap (λ (k : ChainView). k.nodes) (sym is)

abbrev stacks_by : ByType ChainView → Stacks
stacks_by b = record {
  auth = b.auth.nodes;
  account = b.account.nodes;
  password = b.password.nodes;
  session = b.session.nodes;
}

same_stacks : (b : ByType ChainView) (type : RuleType) (chain : ChainView) → chain.nodes ≡ (at_type b type).nodes → stacks_by (with_type b type chain) ≡ stacks_by b
same_stacks b Auth chain is = ap (λ (stack : Stack). record (stacks_by b) { auth = stack }) is
same_stacks b Account chain is = ap (λ (stack : Stack). record (stacks_by b) { account = stack }) is
same_stacks b Password chain is = ap (λ (stack : Stack). record (stacks_by b) { password = stack }) is
same_stacks b Session chain is = ap (λ (stack : Stack). record (stacks_by b) { session = stack }) is

same_names : (b : ByType ChainView) (type : RuleType) (chain : ChainView) → chain.names ≡ (at_type b type).names → (with_type b type chain).auth.names ≡ b.auth.names
same_names b Auth chain is = is
same_names b Account chain is = refl
same_names b Password chain is = refl
same_names b Session chain is = refl

-- a pass over one of the four changes nothing of the transaction except its room
pub others_stay : (h : PlainHandle) (room : PlainRoom) (b : ByType ChainView) (type : RuleType) (chain later : ChainView) → chain ≡ at_type b type → later.nodes ≡ chain.nodes → later.names ≡ chain.names
    → h.stacks ≡ stacks_by b → h.names ≡ b.auth.names
    → record h { room = room; stacks = stacks_by (with_type b type later); names = (with_type b type later).auth.names } ≡ in_room room h
others_stay h room b type chain later is nodes names s n =
    ap (λ (x : Stacks). record h { room = room; stacks = x; names = (with_type b type later).auth.names }) (same_stacks b type later (nodes ∙ ap (λ (k : ChainView). k.nodes) is) ∙ sym s)
    ∙ ap (λ (x : List (List ℕ)). record h { room = room; names = x }) (same_names b type later (names ∙ ap (λ (k : ChainView). k.names) is) ∙ sym n)
