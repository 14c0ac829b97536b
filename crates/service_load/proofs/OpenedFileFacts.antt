-- The result of opening a file, along the items that it adds.
use Rattle.std.proofs.Common.{◌≡◌, ℕ, suc, ◌+◌, ◌-◌, ◌≤◌, ◌<◌, Bool, true, false, cond, List, [], ◌∷◌, ◌++◌, map, length, Option, Some, None, Result, Ok, Err, refl, sym, ap, ◌∙◌, arith, inl, inr}
use Rattle.std.specs.Prelude.{IsSomeAnd, ◌⊎◌}
use Rattle.std.specs.Option.{option_map}
use Rattle.std.proofs.lemmas.Bool.{lt-ltb, le-ltb, le-leb, lt-leb}
use Rattle.pam_base.specs.declared.fault.Refuse.{Refuse}
use Rattle.pam_base.specs.declared.fault.Refuse.TheVariants as refusals
use Rattle.pam_base.specs.declared.fault.FaultKind.{FaultKind}
use Rattle.pam_base.specs.declared.fault.FaultKind.TheVariants.{FileTooLong, TooDeep, TooManyFiles, ReadFailed}
use Rattle.pam_outside.specs.Counts.{fails_next}
use Rattle.pam_outside.specs.Files.{VaultState, counted}
use Rattle.control_words.specs.conf_lex.specs.Answer.{answer_to}
use Rattle.control_words.specs.conf_lex.specs.declared.token.RawRule.{RawRule}
use Rattle.control_words.specs.conf_lex.specs.declared.token.LexFault.{LexFault}
use Rattle.service_load.specs.declared.entry.ConfigEntry.{ConfigEntry}
use Rattle.service_load.specs.declared.load_fault.LoadFault.{LoadFault}
use Rattle.service_load.specs.declared.loader.Loader.{Loader}
use Rattle.service_load.specs.declared.opener.Opener.{Opener as Because}
use Rattle.service_load.specs.declared.opener.Opener.TheVariants as openers
use Rattle.service_load.specs.declared.rule_file.RuleFile.{RuleFile}
use Rattle.service_load.specs.declared.rule_type.RuleType.{RuleType}
use Rattle.service_load.specs.Answers.{Answers, IsRefusal, result_map}
use Rattle.service_load.specs.Checking.{with_entry, checked_entries, entries_held, entries_of_type}
use Rattle.service_load.specs.Entry.{entry_of}
use Rattle.service_load.specs.Files.{plain_file, FileContent, absent, faulty, holds, held, held_text, rules_held, is_in_directory, entries_of, all_fine}
use Rattle.service_load.specs.FirstFault.{Counts, Stop, fault_at, opening_fault, asked, absent_file, checked_rule, held_file, going_on, look}
use Rattle.service_load.specs.Loading.{counts_of, opener_of, Opens, IfCalled, opened_answer, items_at, nodes_at, entries_items, entries_nodes}
use Rattle.service_load.specs.Order.{Item, opening, checked, Opener, file_items, items}
use Rattle.service_load.specs.Tree.{serves, nodes, nodes_of}

-- a text that is too long has that fault
pub held_long : (service text : Option (List ℕ)) → IsSomeAnd text (λ bytes. 65536 < length bytes)
    → held_text service text ≡ faulty (record { line = 0; kind = FileTooLong })
unfolding answer_to
held_long service (Some text) long = rw (lt-ltb 65536 (length text) long) refl
held_long service None long = absurd long

pub long_answers : (type : RuleType) (b in_directory : Bool) (name : List ℕ) (service text : Option (List ℕ)) (r : Refuse LoadFault) → b ≡ false
    → IsSomeAnd text (λ bytes. 65536 < length bytes) → IsRefusal r (fault_at name 0 FileTooLong)
    → Answers {A = Option (List ConfigEntry)} (Err r) (opened_answer b name (result_map (option_map (entries_of_type type)) (entries_held in_directory (held_text service text))))
long_answers type b in_directory name service text (refusals.Named f) fine long refused = rw (fine, held_long service text long, refused) refl
long_answers type b in_directory name service text refusals.NoMemory fine long refused = tt

-- a service's file, and that of `other` if the service exists, need not exist
pub needs_nothing : (because : Because) (counts : Counts) → (because ≡ openers.Service) ⊎ (because ≡ openers.Other)
    → absent_file counts (opener_of because) ≡ Ok counts
needs_nothing because counts (inl is) = rw is refl
needs_nothing because counts (inr is) = rw is refl

-- the counts after a call of `Vault`
pub asked_is : (was is : Loader) (old new : VaultState) → is ≡ record was { openings = was.openings + 1 } → new ≡ counted old
    → counts_of is new ≡ asked (counts_of was old)
asked_is was is old new one called = rw (one, called) refl

pub asked_if : (r : Refuse LoadFault) (was is : Loader) (old new : VaultState) → is ≡ record was { openings = was.openings + 1 }
    → IfCalled {A = Option (List ConfigEntry)} (Err r) (new ≡ counted old)
    → IfCalled {A = Option (List ConfigEntry)} (Err r) (counts_of is new ≡ asked (counts_of was old))
asked_if (refusals.Named f) was is old new one called = asked_is was is old new one called
asked_if refusals.NoMemory was is old new one called = tt

-- ---- the rules of a file, checked

module _ (texts : List ℕ → Option (List ℕ)) (fails : List ℕ) where
  -- nothing is left
  pub going_nowhere : (r : Result Counts Stop) → going_on r (λ c. look texts fails c []) ≡ r
  unfolding look
  going_nowhere (Ok c) = refl
  going_nowhere (Err s) = refl

module _ (texts : List ℕ → Option (List ℕ)) (fails : List ℕ) (file : RuleFile) where
  fine_on : (line : ℕ) (x : Result ConfigEntry FaultKind) (more : Result (List ConfigEntry) LexFault) (es : List ConfigEntry) → with_entry line x more ≡ Ok es
      → (e : ConfigEntry) × (fs : List ConfigEntry) × (x ≡ Ok e) × (more ≡ Ok fs) × (es ≡ e ∷ fs)
  fine_on line (Ok e) (Ok fs) es is = (e, fs, refl, refl, cc)
  fine_on line (Ok e) (Err f) es is = absurd cc
  fine_on line (Err kind) more es is = absurd cc

  -- rules without a fault are passed
  look_fine : (counts : Counts) (rules : List RawRule) (es : List ConfigEntry) (more : List Item) → checked_entries (is_in_directory file) rules ≡ Ok es
      → look texts fails counts (map (checked file) rules ++ more) ≡ look texts fails counts more
  unfolding look
  look_fine counts [] es more is = refl
  look_fine counts (r ∷ rs) es more is =
      let first = fine_on r.line (entry_of (is_in_directory file) r) (checked_entries (is_in_directory file) rs) es is in
      rw first.2 (look_fine counts rs first.1 more first.3)

  all_are_fine : (rules : List RawRule) (es : List ConfigEntry) → checked_entries (is_in_directory file) rules ≡ Ok es → all_fine (is_in_directory file) rules ≡ true
  all_are_fine [] es is = refl
  all_are_fine (r ∷ rs) es is =
      let first = fine_on r.line (entry_of (is_in_directory file) r) (checked_entries (is_in_directory file) rs) es is in
      rw first.2 (all_are_fine rs first.1 first.3)

  nil_is : (es : List ConfigEntry) → ◌≡◌ {A = Result (List ConfigEntry) LexFault} (Ok []) (Ok es) → [] ≡ es
  nil_is es is = cc

  entries_are : (rules : List RawRule) (es : List ConfigEntry) → checked_entries (is_in_directory file) rules ≡ Ok es → entries_of (is_in_directory file) rules ≡ es
  entries_are [] es is = nil_is es is
  entries_are (r ∷ rs) es is =
      let first = fine_on r.line (entry_of (is_in_directory file) r) (checked_entries (is_in_directory file) rs) es is in
      rw first.2 (ap (λ (l : List ConfigEntry). first.0 ∷ l) (entries_are rs first.1 first.3) ∙ sym first.4)

  -- the first rule with a fault stops the check
  same_fault : (f g : LexFault) → ◌≡◌ {A = Result (List ConfigEntry) LexFault} (Err g) (Err f) → f ≡ g
  same_fault f g is = cc

  fault_on : (counts : Counts) (line : ℕ) (x : Result ConfigEntry FaultKind) (more : Result (List ConfigEntry) LexFault) (f : LexFault) (rest : Counts → Result Counts Stop)
      → with_entry line x more ≡ Err f
      → (more ≡ Err f → rest counts ≡ Err (record { fault = fault_at file.name f.line f.kind; calls = counts.calls }))
      → going_on (checked_rule counts file.name line x) rest ≡ Err (record { fault = fault_at file.name f.line f.kind; calls = counts.calls })
  fault_on counts line (Ok e) (Ok fs) f rest is more = absurd cc
  fault_on counts line (Ok e) (Err g) f rest is more = more is
  fault_on counts line (Err kind) more f rest is on = rw (same_fault f (record { line = line; kind = kind }) is) refl

  look_fault : (counts : Counts) (rules : List RawRule) (f : LexFault) (more : List Item) → checked_entries (is_in_directory file) rules ≡ Err f
      → look texts fails counts (map (checked file) rules ++ more) ≡ Err (record { fault = fault_at file.name f.line f.kind; calls = counts.calls })
  unfolding look
  look_fault counts [] f more is = absurd cc
  look_fault counts (r ∷ rs) f more is =
      fault_on counts r.line (entry_of (is_in_directory file) r) (checked_entries (is_in_directory file) rs) f (λ (c : Counts). look texts fails c (map (checked file) rs ++ more)) is (look_fault counts rs f more)

  -- ---- a file that is opened

  module _ (type : RuleType) (opener : Opener) (level : ℕ) where
    -- what a load meets at it
    items_are : level ≤ 16
        → items_at texts level type opener file ≡ opening file level opener ∷ file_items (items_at texts (level + 1) type) type file (rules_held (held texts file))
    unfolding items
    items_are low =
        let left : 17 - level ≡ suc (16 - level) = omega arith in
        let deeper : 16 - level ≡ 17 - (level + 1) = omega arith in
        let same : 16 - (16 - level) ≡ level = omega arith in
        let rules = rules_held (held texts file) in
        ap (λ (n : ℕ). items texts n type opener file) left
        ∙ ap (λ (n : ℕ). opening file n opener ∷ file_items (items texts (16 - level) type) type file rules) same
        ∙ ap (λ (n : ℕ). opening file level opener ∷ file_items (items texts n type) type file rules) deeper

    -- and its nodes
    nodes_are : level ≤ 16 → nodes_at texts level type file ≡ entries_nodes texts level type (entries_of (is_in_directory file) (rules_held (held texts file)))
    unfolding nodes
    nodes_are low =
        let left : 17 - level ≡ suc (16 - level) = omega arith in
        let deeper : 16 - level ≡ 17 - (level + 1) = omega arith in
        let entries = entries_of (is_in_directory file) (rules_held (held texts file)) in
        ap (λ (n : ℕ). nodes texts n type file) left
        ∙ ap (λ (n : ℕ). nodes_of (λ name. nodes texts n type (plain_file name)) type entries) deeper

    module _ (was is : Counts) where
      stopped : (r : Refuse LoadFault) (f : LoadFault) → IsRefusal r f
          → look texts fails was (items_at texts level type opener file) ≡ Err (record { fault = f; calls = is.calls })
          → Opens texts (Err r) fails was is level type opener file
      stopped (refusals.Named g) f same looked = rw same looked
      stopped refusals.NoMemory f same looked = tt

      -- too deep
      pub opens_deep : (r : Refuse LoadFault) → 16 < level → level ≤ 17 → is ≡ was → IsRefusal r (opening_fault file.name opener TooDeep)
          → Opens texts (Err r) fails was is level type opener file
      unfolding items look
      opens_deep r high low same refused =
          let none : 17 - level ≡ 0 = omega arith in
          stopped r (opening_fault file.name opener TooDeep) refused (rw (none, same) refl)

      -- one file too many
      pub opens_many : (r : Refuse LoadFault) → level ≤ 16 → 256 ≤ was.openings → is ≡ was → IsRefusal r (opening_fault file.name opener TooManyFiles)
          → Opens texts (Err r) fails was is level type opener file
      unfolding look
      opens_many r low many same refused =
          stopped r (opening_fault file.name opener TooManyFiles) refused (rw (items_are low, le-ltb 16 level low, le-leb 256 was.openings many, same) refl)

      -- `Vault` is called
      asks : (more : List Item) → level ≤ 16 → was.openings < 256
          → look texts fails was (opening file level opener ∷ more) ≡ going_on (cond (fails_next was.calls fails) (Err (record { fault = fault_at file.name 0 ReadFailed; calls = (asked was).calls })) (held_file (asked was) file opener (held texts file))) (λ c. look texts fails c more)
      unfolding look
      asks more low few = rw (le-ltb 16 level low, lt-leb 256 was.openings few) refl

      -- the access is set to fail
      look_failing : level ≤ 16 → was.openings < 256 → fails_next was.calls fails ≡ true
          → look texts fails was (items_at texts level type opener file) ≡ Err (record { fault = fault_at file.name 0 ReadFailed; calls = (asked was).calls })
      look_failing low few failing = rw (items_are low) (asks _ low few ∙ rw failing refl)

      -- it isn't, and the file holds this
      look_asked : (h : FileContent) → level ≤ 16 → was.openings < 256 → fails_next was.calls fails ≡ false → held texts file ≡ h
          → look texts fails was (items_at texts level type opener file) ≡ going_on (held_file (asked was) file opener h) (λ c. look texts fails c (file_items (items_at texts (level + 1) type) type file (rules_held h)))
      look_asked h low few fine in_it = rw (items_are low, in_it) (asks (file_items (items_at texts (level + 1) type) type file (rules_held h)) low few ∙ rw (fine, in_it) refl)

      look_absent : level ≤ 16 → was.openings < 256 → fails_next was.calls fails ≡ false → held texts file ≡ absent
          → look texts fails was (items_at texts level type opener file) ≡ absent_file (asked was) opener
      look_absent low few fine in_it = look_asked absent low few fine in_it ∙ going_nowhere texts fails (absent_file (asked was) opener)

      look_rules : (rules : List RawRule) (es : List ConfigEntry) → level ≤ 16 → was.openings < 256 → fails_next was.calls fails ≡ false
          → held texts file ≡ holds rules → checked_entries (is_in_directory file) rules ≡ Ok es
          → look texts fails was (items_at texts level type opener file) ≡ look texts fails (asked was) (entries_items texts level type file.name es)
      look_rules rules es low few fine in_it checks =
          look_asked (holds rules) low few fine in_it
          ∙ rw (all_are_fine rules es checks, entries_are rules es checks) (look_fine (asked was) rules es (entries_items texts level type file.name es) checks)

      -- the result of a read is the file's entries
      rules_some : (es : List ConfigEntry) (rules : List RawRule) (x : Result (List ConfigEntry) LexFault) → checked_entries (is_in_directory file) rules ≡ x
          → ◌≡◌ {A = Result (Option (List ConfigEntry)) LexFault} (result_map Some x) (Ok (Some es)) → checked_entries (is_in_directory file) rules ≡ Ok es
      rules_some es rules (Ok fs) checks e = checks ∙ (let same : fs ≡ es = cc in ap Ok same)
      rules_some es rules (Err f) checks e = absurd cc

      as_lex : {A : Type 0} (r : Result A LexFault) (x : A) → opened_answer false file.name r ≡ Ok x → r ≡ Ok x
      as_lex (Ok y) x e = let same : y ≡ x = cc in ap Ok same
      as_lex (Err f) x e = absurd cc

      some_by : (b : Bool) (h : FileContent) (es : List ConfigEntry) → level ≤ 16 → was.openings < 256 → is ≡ asked was → fails_next was.calls fails ≡ b
          → held texts file ≡ h → opened_answer b file.name (entries_held (is_in_directory file) h) ≡ Ok (Some es)
          → Opens texts (Ok (Some es)) fails was is level type opener file
      some_by true h es low few same failing in_it e = absurd cc
      some_by false absent es low few same failing in_it e = absurd cc
      some_by false (faulty f) es low few same failing in_it e = absurd cc
      some_by false (holds rules) es low few same failing in_it e =
          let checks = rules_some es rules (checked_entries (is_in_directory file) rules) refl (as_lex (entries_held (is_in_directory file) (holds rules)) (Some es) e) in (
            look_rules rules es low few failing in_it checks ∙ ap (λ (c : Counts). look texts fails c (entries_items texts level type file.name es)) (sym same),
            nodes_are low ∙ rw (in_it, entries_are rules es checks) refl,
            rw in_it refl,
          )

      pub opens_some : (es : List ConfigEntry) → level ≤ 16 → was.openings < 256 → is ≡ asked was
          → opened_answer (fails_next was.calls fails) file.name (entries_held (is_in_directory file) (held texts file)) ≡ Ok (Some es)
          → Opens texts (Ok (Some es)) fails was is level type opener file
      opens_some es low few same e = some_by (fails_next was.calls fails) (held texts file) es low few same refl refl e

      -- the file doesn't exist
      none_map : (x : Result (List ConfigEntry) LexFault) → ◌≡◌ {A = Result (Option (List ConfigEntry)) LexFault} (result_map Some x) (Ok None) → ⊥
      none_map (Ok es) e = cc
      none_map (Err f) e = cc

      none_by : (b : Bool) (h : FileContent) → fails_next was.calls fails ≡ b → held texts file ≡ h
          → opened_answer b file.name (entries_held (is_in_directory file) h) ≡ Ok None
          → (fails_next was.calls fails ≡ false) × (held texts file ≡ absent)
      none_by true h failing in_it e = absurd cc
      none_by false absent failing in_it e = (failing, in_it)
      none_by false (faulty f) failing in_it e = absurd cc
      none_by false (holds rules) failing in_it e = absurd (none_map (checked_entries (is_in_directory file) rules) (as_lex (entries_held (is_in_directory file) (holds rules)) None e))

      pub is_not_there : opened_answer (fails_next was.calls fails) file.name (entries_held (is_in_directory file) (held texts file)) ≡ Ok None
          → (fails_next was.calls fails ≡ false) × (held texts file ≡ absent)
      is_not_there e = none_by (fails_next was.calls fails) (held texts file) refl refl e

      looked_absent : level ≤ 16 → was.openings < 256
          → opened_answer (fails_next was.calls fails) file.name (entries_held (is_in_directory file) (held texts file)) ≡ Ok None
          → look texts fails was (items_at texts level type opener file) ≡ absent_file (asked was) opener
      looked_absent low few e = look_absent low few (is_not_there e).0 (is_not_there e).1

      pub opens_none : level ≤ 16 → was.openings < 256 → is ≡ asked was
          → opened_answer (fails_next was.calls fails) file.name (entries_held (is_in_directory file) (held texts file)) ≡ Ok None
          → absent_file (asked was) opener ≡ Ok (asked was) → Opens texts (Ok None) fails was is level type opener file
      unfolding look
      opens_none low few same e passes = (looked_absent low few e ∙ passes ∙ ap Ok (sym same), nodes_are low ∙ rw (is_not_there e).1 refl, rw (is_not_there e).1 refl)

      pub opens_absent : (r : Refuse LoadFault) (f : LoadFault) → level ≤ 16 → was.openings < 256 → is ≡ asked was
          → opened_answer (fails_next was.calls fails) file.name (entries_held (is_in_directory file) (held texts file)) ≡ Ok None
          → absent_file (asked was) opener ≡ Err (record { fault = f; calls = (asked was).calls }) → IsRefusal r f
          → Opens texts (Err r) fails was is level type opener file
      opens_absent r f low few same e stops refused = stopped r f refused (looked_absent low few e ∙ stops ∙ rw same refl)

      -- the file couldn't be read, or has a fault
      rules_err : (f : LexFault) (rules : List RawRule) (x : Result (List ConfigEntry) LexFault) → checked_entries (is_in_directory file) rules ≡ x
          → ◌≡◌ {A = Result (Option (List ConfigEntry)) LexFault} (result_map Some x) (Err f) → checked_entries (is_in_directory file) rules ≡ Err f
      rules_err f rules (Ok fs) checks e = absurd cc
      rules_err f rules (Err g) checks e = checks ∙ (let same : g ≡ f = cc in ap Err same)

      lex_err : {A : Type 0} (r : Result A LexFault) (f : LoadFault) → opened_answer false file.name r ≡ Err f
          → (g : LexFault) × (r ≡ Err g) × (f ≡ fault_at file.name g.line g.kind)
      lex_err (Ok y) f e = absurd cc
      lex_err (Err g) f e = (g, refl, sym cc)

      err_held : (h : FileContent) (g : LexFault) → level ≤ 16 → was.openings < 256 → fails_next was.calls fails ≡ false → held texts file ≡ h
          → entries_held (is_in_directory file) h ≡ Err g
          → look texts fails was (items_at texts level type opener file) ≡ Err (record { fault = fault_at file.name g.line g.kind; calls = (asked was).calls })
      err_held absent g low few fine in_it e = absurd cc
      err_held (faulty f) g low few fine in_it e = let same : f ≡ g = cc in look_asked (faulty f) low few fine in_it ∙ rw same refl
      err_held (holds rules) g low few fine in_it e =
          look_asked (holds rules) low few fine in_it ∙ look_fault (asked was) rules g _ (rules_err g rules (checked_entries (is_in_directory file) rules) refl e)

      err_by : (b : Bool) (f : LoadFault) → level ≤ 16 → was.openings < 256 → fails_next was.calls fails ≡ b
          → opened_answer b file.name (entries_held (is_in_directory file) (held texts file)) ≡ Err f
          → look texts fails was (items_at texts level type opener file) ≡ Err (record { fault = f; calls = (asked was).calls })
      err_by true f low few failing e = let same : fault_at file.name 0 ReadFailed ≡ f = cc in look_failing low few failing ∙ rw same refl
      err_by false f low few fine e =
          let read = lex_err (entries_held (is_in_directory file) (held texts file)) f e in
          err_held (held texts file) read.0 low few fine refl read.1 ∙ ap (λ (fault : LoadFault). Err (record { fault = fault; calls = (asked was).calls })) (sym read.2)

      pub opens_err : (r : Refuse LoadFault) → level ≤ 16 → was.openings < 256 → IfCalled {A = Option (List ConfigEntry)} (Err r) (is ≡ asked was)
          → Answers {A = Option (List ConfigEntry)} (Err r) (opened_answer (fails_next was.calls fails) file.name (entries_held (is_in_directory file) (held texts file)))
          → Opens texts (Err r) fails was is level type opener file
      opens_err refusals.NoMemory low few same e = tt
      opens_err (refusals.Named f) low few same e = err_by (fails_next was.calls fails) f low few refl e ∙ rw same refl

-- ---- the entries that serve a type alone

module _ (type : RuleType) (name : List ℕ) where
  some_served : (b : Bool) (found : Result (Option (List ConfigEntry)) LexFault) (es : List ConfigEntry)
      → opened_answer b name (result_map (option_map (entries_of_type type)) found) ≡ Ok (Some es)
      → (all : List ConfigEntry) × (opened_answer b name found ≡ Ok (Some all)) × (es ≡ entries_of_type type all)
  some_served true found es e = absurd cc
  some_served false (Ok None) es e = absurd cc
  some_served false (Ok (Some all)) es e = (all, refl, sym cc)
  some_served false (Err f) es e = absurd cc

  pub none_served : (b : Bool) (found : Result (Option (List ConfigEntry)) LexFault)
      → opened_answer b name (result_map (option_map (entries_of_type type)) found) ≡ Ok None → opened_answer b name found ≡ Ok None
  none_served true found e = absurd cc
  none_served false (Ok None) e = refl
  none_served false (Ok (Some all)) e = absurd cc
  none_served false (Err f) e = absurd cc

  pub err_served : (b : Bool) (found : Result (Option (List ConfigEntry)) LexFault) (r : Refuse LoadFault)
      → Answers {A = Option (List ConfigEntry)} (Err r) (opened_answer b name (result_map (option_map (entries_of_type type)) found))
      → Answers {A = Option (List ConfigEntry)} (Err r) (opened_answer b name found)
  err_served true found (refusals.Named f) e = let same : fault_at name 0 ReadFailed ≡ f = cc in ap Err same
  err_served false (Ok None) (refusals.Named f) e = absurd cc
  err_served false (Ok (Some all)) (refusals.Named f) e = absurd cc
  err_served false (Err g) (refusals.Named f) e = let same : fault_at name g.line g.kind ≡ f = cc in ap Err same
  err_served b found refusals.NoMemory e = tt

-- an entry that doesn't serve the type adds nothing
module _ (texts : List ℕ → Option (List ℕ)) (level : ℕ) (type : RuleType) where
  items_by : (b : Bool) (name : List ℕ) (e : ConfigEntry) (es all : List ConfigEntry) → serves type e.rule_type ≡ b
      → entries_items texts level type name es ≡ entries_items texts level type name all
      → entries_items texts level type name (cond b (e ∷ es) es) ≡ entries_items texts level type name (e ∷ all)
  items_by true name e es all is same = rw same refl
  items_by false name e es all is same = rw is same

  items_served : (name : List ℕ) (entries : List ConfigEntry)
      → entries_items texts level type name (entries_of_type type entries) ≡ entries_items texts level type name entries
  items_served name [] = refl
  items_served name (e ∷ es) = items_by (serves type e.rule_type) name e (entries_of_type type es) es refl (items_served name es)

  nodes_by : (b : Bool) (e : ConfigEntry) (es all : List ConfigEntry) → serves type e.rule_type ≡ b
      → entries_nodes texts level type es ≡ entries_nodes texts level type all
      → entries_nodes texts level type (cond b (e ∷ es) es) ≡ entries_nodes texts level type (e ∷ all)
  nodes_by true e es all is same = rw same refl
  nodes_by false e es all is same = rw is same

  nodes_served : (entries : List ConfigEntry) → entries_nodes texts level type (entries_of_type type entries) ≡ entries_nodes texts level type entries
  nodes_served [] = refl
  nodes_served (e ∷ es) = nodes_by (serves type e.rule_type) e (entries_of_type type es) es refl (nodes_served es)

  pub opens_served : (fails : List ℕ) (was is : Counts) (opener : Opener) (file : RuleFile) (es : List ConfigEntry) → level ≤ 16 → was.openings < 256 → is ≡ asked was
      → opened_answer (fails_next was.calls fails) file.name (result_map (option_map (entries_of_type type)) (entries_held (is_in_directory file) (held texts file))) ≡ Ok (Some es)
      → Opens texts (Ok (Some es)) fails was is level type opener file
  opens_served fails was is opener file es low few same e =
      let found = some_served type file.name (fails_next was.calls fails) (entries_held (is_in_directory file) (held texts file)) es e in
      rw (found.2, items_served file.name found.0, nodes_served found.0) (opens_some texts fails file type opener level was is found.0 low few same found.1)
