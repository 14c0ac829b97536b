-- What is written of a service, by the results of the load and of the second reading.
use Rattle.std.proofs.Common.{◌≡◌, ℕ, List, Result, Ok, Err, inl, inr, refl, sym, ap, subst}
use Rattle.std.specs.Prelude.{IfOk, IsTrue}
use Rattle.pam_base.specs.declared.fault.Failed.{Failed}
use Rattle.pam_base.specs.declared.fault.Refuse.{Refuse}
use Rattle.pam_base.specs.declared.fault.Refuse.TheVariants.{NoMemory, Named}
use Rattle.pam_outside.specs.Files.{VaultState}
use Rattle.explain_lines.specs.control_words.specs.Stack.{Stack}
use Rattle.service_load.specs.declared.load_fault.LoadFault.{LoadFault}
use Rattle.service_load.specs.declared.rule_type.RuleType.{RuleType}
use Rattle.service_load.specs.Trees.{Trees}
use Rattle.service_load.specs.FirstFault.{Counts, Stop}
use Rattle.service_load.specs.Kinds.{IfNamed}
use Rattle.service_load.specs.Load.{AreTrees, LoadsBy, LoadsTrees, directory_exists, loaded}
use Rattle.service_load.specs.Loading.{CountsFaults, OnlyCalls, texts_of}
use Rattle.service_load.specs.Stacks.{Stacks, stacks_of}
use Rattle.service_load.specs.Tree.{tree}
use Rattle.service_load.specs.Trees.{stacks_of_trees}
use Rattle.explain_origins.specs.Placed.{sources_at}
use Rattle.explain_origins.specs.Reading.{CountsReads, ends_failing}
use Rattle.explain_lines.specs.Origins.{Sources}
use Rattle.ways.specs.declared.saying.Output.{Output}
use Rattle.ways.specs.Said.{Says, SaysBy, IsWritten, IsSaidWith, IsRefused, OrUnread, IsOutputOf, IsOutputBy, One, Tells}

-- ---- the second reading

pub told_with : {E : Type 0} (r : Result Output E) (found : Result Sources (Refuse Failed)) (service : List ℕ) (stacks : Stacks) (sources : Sources)
    (report : List ℕ) (vault : VaultState)
    → IfOk found (λ s. s ≡ sources) → IfNamed found (λ f. IsTrue (ends_failing vault))
    → IfOk r (λ e. IsSaidWith e service stacks found report) → IfOk r (λ e. OrUnread (λ w. IsWritten e w) (Tells service stacks sources report) vault)
told_with (Ok e) (Ok s) service stacks sources report vault same planned is =
    inl (subst (λ (x : Sources). One (λ w. IsWritten e w) (Tells service stacks x report)) same is)
told_with (Ok e) (Err (Named f)) service stacks sources report vault same planned is = inr (is, planned)
told_with (Ok e) (Err NoMemory) service stacks sources report vault same planned is = absurd is
told_with (Err x) found service stacks sources report vault same planned is = tt

pub shows_with : {E : Type 0} (r : Result Output E) (found : Result Sources (Refuse Failed)) (service : List ℕ) (stacks : Stacks) (report : List ℕ)
    (before now : ℕ)
    → CountsReads found before now → IfOk r (λ e. IsSaidWith e service stacks found report) → IfOk r (λ e. IsOutputBy e service stacks report before now)
shows_with (Ok e) (Ok s) service stacks report before now counts is = inl (record { sources = s; said = is; no_fault = counts })
shows_with (Ok e) (Err (Named f)) service stacks report before now counts is = inr (record { nothing = is; failed = counts })
shows_with (Ok e) (Err NoMemory) service stacks report before now counts is = absurd is
shows_with (Err x) found service stacks report before now counts is = tt

-- ---- the load

stacks_are : (trees : Trees) (stack : RuleType → Stack) → AreTrees trees stack → stacks_of_trees trees ≡ stacks_of stack
stacks_are trees stack are = rw (are.auth, are.account, are.password, are.session) refl

-- the rules are where they were before the load
sources_stay : (root service : List ℕ) (first mid : VaultState) → OnlyCalls first mid
    → sources_at (texts_of root mid) (directory_exists mid root) service ≡ sources_at (texts_of root first) (directory_exists first root) service
sources_stay root service first mid only = ap (λ (v : VaultState). sources_at (texts_of root v) (directory_exists v root) service) only

by_load : {E : Type 0} (r : Result Output E) (trees : Trees) (looked : Result Counts Stop) (mid new : VaultState) (service : List ℕ) (stack : RuleType → Stack)
    (found sources : Sources) (report : List ℕ)
    → LoadsTrees trees looked mid stack → found ≡ sources → IfOk r (λ e. OrUnread (λ w. IsWritten e w) (Tells service (stacks_of_trees trees) found report) new)
    → IfOk r (λ e. SaysBy (λ w. IsWritten e w) looked service stack sources report new)
by_load (Ok e) trees looked mid new service stack found sources report loads same is =
    subst (λ (l : Result Counts Stop). SaysBy (λ w. IsWritten e w) l service stack sources report new) (sym loads.no_fault)
    (subst (λ (s : Stacks). OrUnread (λ w. IsWritten e w) (Tells service s sources report) new) (stacks_are trees stack loads.trees_are)
    (subst (λ (s : Sources). OrUnread (λ w. IsWritten e w) (Tells service (stacks_of_trees trees) s report) new) same is))
by_load (Err x) trees looked mid new service stack found sources report loads same is = tt

pub loaded_so : {E : Type 0} (r : Result Output E) (trees : Trees) (first mid new : VaultState) (root service report : List ℕ)
    → LoadsTrees trees (loaded first root service) mid (tree (texts_of root first) (directory_exists first root) service) → OnlyCalls first mid
    → IfOk r (λ e. OrUnread (λ w. IsWritten e w) (Tells service (stacks_of_trees trees) (sources_at (texts_of root mid) (directory_exists mid root) service) report)
    new)
    → IfOk r (λ e. Says (λ w. IsWritten e w) first root service report new)
loaded_so r trees first mid new root service report loads stays is =
    by_load r trees (loaded first root service) mid new service (tree (texts_of root first) (directory_exists first root) service)
    (sources_at (texts_of root mid) (directory_exists mid root) service) (sources_at (texts_of root first) (directory_exists first root) service) report
    loads (sources_stay root service first mid stays) is

refused_by_load : {E : Type 0} (r : Result Output E) (stop : Refuse LoadFault) (looked : Result Counts Stop) (mid : VaultState) (service : List ℕ)
    (stack : RuleType → Stack) (sources : Sources) (report : List ℕ)
    → LoadsBy (Err stop) looked mid stack → IfOk r (λ e. IsRefused e stop) → IfOk r (λ e. SaysBy (λ w. IsWritten e w) looked service stack sources report mid)
refused_by_load (Ok e) (Named fault) looked mid service stack sources report fails is =
    subst (λ (l : Result Counts Stop). SaysBy (λ w. IsWritten e w) l service stack sources report mid) (sym fails) is
refused_by_load (Ok e) NoMemory looked mid service stack sources report fails is = absurd is
refused_by_load (Err x) stop looked mid service stack sources report fails is = tt

pub refused_so : {E : Type 0} (r : Result Output E) (stop : Refuse LoadFault) (first mid : VaultState) (root service report : List ℕ)
    → LoadsBy (Err stop) (loaded first root service) mid (tree (texts_of root first) (directory_exists first root) service) → IfOk r (λ e. IsRefused e stop)
    → IfOk r (λ e. Says (λ w. IsWritten e w) first root service report mid)
refused_so r stop first mid root service report fails is =
    refused_by_load r stop (loaded first root service) mid service (tree (texts_of root first) (directory_exists first root) service)
    (sources_at (texts_of root first) (directory_exists first root) service) report fails is

-- ---- the same with any files

pub loaded_shows : {E : Type 0} (r : Result Output E) (service : List ℕ) (stacks : Stacks) (report : List ℕ) (before mid now : ℕ) → mid ≡ before
    → IfOk r (λ e. IsOutputBy e service stacks report mid now) → IfOk r (λ e. IsOutputOf e service report before now)
loaded_shows (Ok e) service stacks report before mid now same shows = inl (stacks, subst (λ (b : ℕ). IsOutputBy e service stacks report b now) same shows)
loaded_shows (Err x) service stacks report before mid now same shows = tt

pub refused_shows : {E : Type 0} (r : Result Output E) (stop : Refuse LoadFault) (service report : List ℕ) (before now : ℕ)
    → CountsFaults {A = Trees} (Err stop) before now
    → IfOk r (λ e. IsRefused e stop) → IfOk r (λ e. IsOutputOf e service report before now)
refused_shows (Ok e) (Named fault) service report before now counts is = inr (record { fault = fault; refused = is; counts = counts })
refused_shows (Ok e) NoMemory service report before now counts is = absurd is
refused_shows (Err x) stop service report before now counts is = tt
