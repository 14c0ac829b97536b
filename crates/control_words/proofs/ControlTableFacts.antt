-- The table that is filled entry by entry.
use Rattle.std.proofs.Common.{◌≡◌, ◌<◌, ◌≤◌, ℕ, ◌+◌, Bool, true, false, cond, eqb, List, [], ◌∷◌, ◌++◌, length, take, get_or, map, Option, Some, None, Result, Ok, Err, append_assoc, refl, sym, ap, ◌∙◌, arith}
use Rattle.std.proofs.lemmas.List.{append-nil, map-append, take_all, take_more, take_more_set}
use Rattle.std.proofs.Math.ListN.{set}
use Rattle.std.specs.List.{cons_option, filter, filter_map, find, last_or, list_any}
use Rattle.std.specs.Option.{option_and_then}
use Rattle.std.specs.Result.{result_ok}
use Rattle.std.specs.Str.{bytes_eq, str_to_ascii_lowercase}
use Rattle.std.proofs.lemmas.List.Elements.{filter-append, filter_map-append}
use Rattle.std.proofs.lemmas.Slice.Eq.{bytes_eq-Decides}
use Rattle.std.specs.Prelude.{codes as codes_of_text}
use Rattle.pam_base.specs.declared.code.Code.{Code}
use Rattle.pam_base.specs.declared.code.Code.TheVariants as codes
use Rattle.pam_base.specs.Code.{all_codes, code_of_word, name_of, number_of, other_words}
use Rattle.control_words.specs.declared.bracket.ControlFault.{ControlFault}
use Rattle.control_words.specs.declared.table.Table.{Table}
use Rattle.control_words.specs.declared.control.Action.{Action}
use Rattle.control_words.specs.Bracket.{action_among, action_of_word, control_of_entries, control_unless, fault_of_entry, is_code, is_default, last_action, names}
use Rattle.control_words.specs.Entries.{ControlPair}
use Rattle.control_words.specs.Table.{filled, named_with, all_actions, table_of}

module _ (choose : Option Action → Action) (actions : List Action) (named : List (Option Action)) (i : ℕ) where
  -- one more code gets its action
  pub put_next : (action : Action) → i < length actions → i < length named → take i actions ≡ map choose (take i named) → action ≡ choose (get_or named i None)
      → take (i + 1) (set actions i action) ≡ map choose (take (i + 1) named)
  put_next action room there so_far is =
      take_more_set actions i action room ∙ ap (λ (front : List Action). front ++ action ∷ []) so_far
      ∙ ap (λ (a : Action). map choose (take i named) ++ a ∷ []) is
      ∙ sym (map-append choose (take i named) (get_or named i None ∷ [])) ∙ ap (map choose) (sym (take_more named i None there))

  pub put_all : (n : ℕ) → n ≤ i → length actions ≡ n → length named ≡ n → take i actions ≡ map choose (take i named) → actions ≡ map choose named
  put_all n end a b so_far = sym (take_all i actions (omega arith)) ∙ so_far ∙ ap (map choose) (take_all i named (omega arith))

-- ---- one more entry

pub filled-code : (table : Table) (name word : List ℕ) (code : Code) (action : Action) (place : ℕ) → is_default name ≡ false → code_of_word name ≡ Some code
    → action_of_word word ≡ Ok action → place ≡ number_of code
    → ◌≡◌ {A = Table} record { named = set table.named place (Some action); default = table.default } (filled table record { name = name; action = word })
filled-code table name word code action place other named is at = rw (other, named, is, at) refl

last-end : {A : Type 0} (o : Option A) (xs : List A) (x : A) → last_or o (xs ++ x ∷ []) ≡ Some x
last-end o [] x = refl
last-end o (y ∷ xs) x = last-end (Some y) xs x

module _ (test : List ℕ → Bool) (seen : List ControlPair) (entry : ControlPair) where
  abbrev pub said : Option Action
  said = result_ok (action_of_word entry.action)

  abbrev passing : List ControlPair
  passing = filter (λ e. test e.name) seen

  last_by_test : (passes : Bool)
      → option_and_then (λ e. result_ok (action_of_word e.action)) (last_or None (passing ++ cond passes (entry ∷ []) [])) ≡ cond passes said (option_and_then (λ e. result_ok (action_of_word e.action)) (last_or None passing))
  last_by_test true = ap (option_and_then (λ (e : ControlPair). result_ok (action_of_word e.action))) (last-end None passing entry)
  last_by_test false = ap (λ (es : List ControlPair). option_and_then (λ (e : ControlPair). result_ok (action_of_word e.action)) (last_or None es)) (append-nil passing)

  pub last_action-more : last_action test (seen ++ entry ∷ []) ≡ cond (test entry.name) said (last_action test seen)
  last_action-more = ap (λ (es : List ControlPair). option_and_then (λ (e : ControlPair). result_ok (action_of_word e.action)) (last_or None es)) (filter-append (λ (e : ControlPair). test e.name) seen (entry ∷ [])) ∙ last_by_test (test entry.name)

-- a code's place is set, and no other
named_with-set : (code : Code) (action : Option Action) (old : Code → Option Action)
    → map (λ c. cond (eqb (number_of code) (number_of c)) action (old c)) all_codes ≡ set (map old all_codes) (number_of code) action
named_with-set codes.Success action old = refl
named_with-set codes.OpenErr action old = refl
named_with-set codes.SymbolErr action old = refl
named_with-set codes.ServiceErr action old = refl
named_with-set codes.SystemErr action old = refl
named_with-set codes.BufErr action old = refl
named_with-set codes.PermDenied action old = refl
named_with-set codes.AuthErr action old = refl
named_with-set codes.CredInsufficient action old = refl
named_with-set codes.AuthinfoUnavail action old = refl
named_with-set codes.UserUnknown action old = refl
named_with-set codes.MaxTries action old = refl
named_with-set codes.NewAuthtokReqd action old = refl
named_with-set codes.AcctExpired action old = refl
named_with-set codes.SessionErr action old = refl
named_with-set codes.CredUnavail action old = refl
named_with-set codes.CredExpired action old = refl
named_with-set codes.CredErr action old = refl
named_with-set codes.NoModuleData action old = refl
named_with-set codes.ConvErr action old = refl
named_with-set codes.AuthtokErr action old = refl
named_with-set codes.AuthtokRecoveryErr action old = refl
named_with-set codes.AuthtokLockBusy action old = refl
named_with-set codes.AuthtokDisableAging action old = refl
named_with-set codes.TryAgain action old = refl
named_with-set codes.Ignore action old = refl
named_with-set codes.Abort action old = refl
named_with-set codes.AuthtokExpired action old = refl
named_with-set codes.ModuleUnknown action old = refl
named_with-set codes.BadItem action old = refl
named_with-set codes.ConvAgain action old = refl
named_with-set codes.Incomplete action old = refl

-- `default` isn't the word of a code
abbrev code_of_folded : List ℕ → Option Code
code_of_folded folded = find (λ code. list_any (λ word. bytes_eq folded (str_to_ascii_lowercase word)) (name_of code ∷ other_words code)) all_codes

default-no_code : (name : List ℕ) → is_default name ≡ true → code_of_word name ≡ None
default-no_code name e = ap code_of_folded ((bytes_eq-Decides (str_to_ascii_lowercase name) (codes_of_text "default")).0 e)

module _ (seen : List ControlPair) (entry : ControlPair) where
  abbrev old_table : List (Option Action)
  old_table = (table_of seen).named

  new_table : (table_of (seen ++ entry ∷ [])).named ≡ map (λ code. cond (names code entry.name) (said (names code) seen entry) (last_action (names code) seen)) all_codes
  new_table = λ i. map (λ code. last_action-more (names code) seen entry i) all_codes

  as_set : (named : Option Code)
      → map (λ code. cond (is_code code named) (result_ok (action_of_word entry.action)) (last_action (names code) seen)) all_codes ≡ named_with named (result_ok (action_of_word entry.action)) old_table
  as_set None = refl
  as_set (Some code) = named_with-set code (result_ok (action_of_word entry.action)) (λ c. last_action (names c) seen)

  named-by : (named : Option Code) → code_of_word entry.name ≡ named
      → (table_of (seen ++ entry ∷ [])).named ≡ named_with named (result_ok (action_of_word entry.action)) old_table
  named-by named e = new_table ∙ ap (λ (n : Option Code). map (λ code. cond (is_code code n) (result_ok (action_of_word entry.action)) (last_action (names code) seen)) all_codes) e ∙ as_set named

  default-by : (is : Bool) → is_default entry.name ≡ is
      → last_action is_default (seen ++ entry ∷ []) ≡ cond is (result_ok (action_of_word entry.action)) (last_action is_default seen)
  default-by is e = last_action-more is_default seen entry ∙ ap (λ (b : Bool). cond b (result_ok (action_of_word entry.action)) (last_action is_default seen)) e

  table-by : (is : Bool) → is_default entry.name ≡ is
      → table_of (seen ++ entry ∷ []) ≡ cond is (record (table_of seen) { default = result_ok (action_of_word entry.action) })
      (record (table_of seen) { named = named_with (code_of_word entry.name) (result_ok (action_of_word entry.action)) old_table })
  table-by true e = λ i. record { named = named-by None (default-no_code entry.name e) i; default = default-by true e i }
  table-by false e = λ i. record { named = named-by (code_of_word entry.name) refl i; default = default-by false e i }

  pub table_of-more : table_of (seen ++ entry ∷ []) ≡ filled (table_of seen) entry
  table_of-more = table-by (is_default entry.name) refl

abbrev as_ok : List Action → Result (List Action) ControlFault
as_ok control = Ok control

-- ---- the loop: some entries of the whole list were read, and fill the table

pub record Filled (whole left : List ControlPair) (table : Table) : Type 0 where
  pub seen : List ControlPair
  pub parts : whole ≡ seen ++ left
  pub fine : filter_map fault_of_entry seen ≡ []
  pub same : table ≡ table_of seen

pub filled-none : (whole left : List ControlPair) (table : Table) → whole ≡ left → table ≡ table_of [] → Filled whole left table
filled-none whole left table all same = record { seen = []; parts = all; fine = refl; same = same }

module _ (whole left : List ControlPair) (table : Table) (so_far : Filled whole left table) where
  pub filled-all : (control : List Action) → left ≡ [] → control ≡ all_actions table
      → ◌≡◌ {A = Result (List Action) ControlFault} (Ok control) (control_of_entries whole)
  filled-all control none is =
      let all : whole ≡ so_far.seen = so_far.parts ∙ ap (λ (l : List ControlPair). so_far.seen ++ l) none ∙ append-nil so_far.seen in
      let fine : filter_map fault_of_entry whole ≡ [] = ap (filter_map fault_of_entry) all ∙ so_far.fine in
      let same : control ≡ map (action_among whole) all_codes = is ∙ ap all_actions so_far.same ∙ sym (ap (λ (es : List ControlPair). map (action_among es) all_codes) all) in
      ap (λ (c : List Action). as_ok c) same ∙ sym (ap (λ (faults : List ControlFault). control_unless faults whole) fine)

  module _ (entry : ControlPair) (more : List ControlPair) (cut : left ≡ entry ∷ more) where
    faults : filter_map fault_of_entry whole ≡ cons_option (fault_of_entry entry) (filter_map fault_of_entry more)
    faults =
        ap (filter_map fault_of_entry) (so_far.parts ∙ ap (λ (l : List ControlPair). so_far.seen ++ l) cut) ∙ filter_map-append fault_of_entry so_far.seen (entry ∷ more)
        ∙ ap (λ (front : List ControlFault). front ++ filter_map fault_of_entry (entry ∷ more)) so_far.fine

    pub filled-fault : (fault : ControlFault) → fault_of_entry entry ≡ Some fault
        → ◌≡◌ {A = Result (List Action) ControlFault} (Err fault) (control_of_entries whole)
    filled-fault fault e =
        let first : filter_map fault_of_entry whole ≡ fault ∷ filter_map fault_of_entry more = faults ∙ ap (λ (o : Option ControlFault). cons_option o (filter_map fault_of_entry more)) e in
        sym (ap (λ (fs : List ControlFault). control_unless fs whole) first)

    pub filled-more : (after : Table) → fault_of_entry entry ≡ None → after ≡ filled table entry → Filled whole more after
    filled-more after e is = record {
      seen = so_far.seen ++ entry ∷ [];
      parts = so_far.parts ∙ ap (λ (l : List ControlPair). so_far.seen ++ l) cut ∙ sym (append_assoc so_far.seen (entry ∷ []) more);
      fine = filter_map-append fault_of_entry so_far.seen (entry ∷ [])
          ∙ ap (λ (front : List ControlFault). front ++ filter_map fault_of_entry (entry ∷ [])) so_far.fine ∙ ap (λ (o : Option ControlFault). cons_option o []) e;
      same = is ∙ ap (λ (t : Table). filled t entry) so_far.same ∙ sym (table_of-more so_far.seen entry);
    }
