-- What the entries of a file add, one after another.
use Rattle.std.proofs.Common.{◌≡◌, ℕ, ◌+◌, ◌-◌, ◌≤◌, ◌<◌, length, Bool, true, false, cond, List, [], ◌∷◌, ◌++◌, Option, Some, None, Result, Ok, Err, refl, sym, ap, subst, ◌∙◌, arith}
use Rattle.std.specs.Prelude.{OnOk}
use Rattle.std.proofs.lemmas.Bool.{lt-leb, le-leb}
use Rattle.pam_base.specs.declared.fault.Refuse.{Refuse}
use Rattle.pam_base.specs.declared.fault.Refuse.TheVariants as refusals
use Rattle.pam_base.specs.declared.fault.FaultKind.TheVariants.{TooManyLines}
use Rattle.pam_outside.specs.Files.{VaultState}
use Rattle.control_words.specs.declared.nodes.Rule.{Rule}
use Rattle.control_words.specs.Stack.{Stack, none, line, sub, joined, lines_in, depth}
use Rattle.service_load.specs.declared.entry.RuleContent.{RuleContent}
use Rattle.service_load.specs.declared.entry.RuleContent.TheVariants.{Line, Include, Substack}
use Rattle.service_load.specs.declared.entry.ConfigEntry.{ConfigEntry}
use Rattle.service_load.specs.declared.inclusion.Inclusion.{Inclusion}
use Rattle.service_load.specs.declared.load_fault.LoadFault.{LoadFault}
use Rattle.service_load.specs.declared.loader.Loader.{Loader}
use Rattle.service_load.specs.declared.rule_file.RuleFile.{RuleFile}
use Rattle.service_load.specs.declared.rule_type.RuleType.{RuleType}
use Rattle.service_load.specs.Files.{plain_file}
use Rattle.service_load.specs.FirstFault.{Counts, Stop, fault_at, take_one, going_on, look}
use Rattle.service_load.specs.Loading.{texts_of, counts_of, Looks, OnlyCalls, AddsLine, Opens, Brings, Grows, load_state, entry_items_at, entry_nodes_at, items_at, nodes_at, entries_items, entries_nodes, TakesContent, brought_in}
use Rattle.service_load.specs.Order.{Item, Opener, by_rule, made, content_items}
use Rattle.service_load.specs.Tree.{content_nodes}

-- ---- stacks, one after another

pub joined-none : (s : Stack) → joined s none ≡ s
joined-none none = refl
joined-none (line rule rest) = ap (line rule) (joined-none rest)
joined-none (sub inner rest) = ap (sub inner) (joined-none rest)

pub joined-joined : (a b c : Stack) → joined (joined a b) c ≡ joined a (joined b c)
joined-joined none b c = refl
joined-joined (line rule rest) b c = ap (line rule) (joined-joined rest b c)
joined-joined (sub inner rest) b c = ap (sub inner) (joined-joined rest b c)

lines-joined : (a b : Stack) → lines_in (joined a b) ≡ lines_in a + lines_in b
lines-joined none b = omega arith
lines-joined (line rule rest) b = omega (arith, lines-joined rest b)
lines-joined (sub inner rest) b = omega (arith, lines-joined rest b)

depth-joined : (n : ℕ) (a b : Stack) → depth a ≤ n → depth b ≤ n → depth (joined a b) ≤ n
depth-joined n none b la lb = lb
depth-joined n (line rule rest) b la lb = depth-joined n rest b la lb
depth-joined n (sub inner rest) b la lb = omega (arith, la, depth-joined n rest b (omega (arith, la)) lb)

-- ---- the loop over a file's entries

-- no entry is left
pub nothing_left : (left : List ConfigEntry) (n : ℕ) → n ≡ 0 → n ≡ length left → left ≡ []
nothing_left [] n zero counted = refl
nothing_left (e ∷ es) n zero counted = absurd (omega (arith, zero, counted))

-- one fewer entry is left
pub more_left : (old left : List ConfigEntry) (e : ConfigEntry) (n m : ℕ) → old ≡ e ∷ left → m + 1 ≡ n → n ≡ length old → m ≡ length left
more_left old left e n m steps fewer counted = omega (arith, ap length steps, fewer, counted)

-- ---- with real objects too

pub grows_none : (level : ℕ) (was : Loader) (s : Stack) → level ≤ 16 → Grows level was was s s
grows_none level was s low = record { within = low; lines = refl; few = λ few. few; deep = λ n le left. le }

pub grows_line : (level : ℕ) (is : Loader) (now : Stack) (rule : Rule) → level ≤ 16 → is.lines < 4096
    → Grows level is (record is { lines = is.lines + 1 }) now (joined now (line rule none))
grows_line level is now rule low few = record {
  within = low;
  lines = omega (arith, lines-joined now (line rule none));
  few = λ _. omega arith;
  deep = λ n le left. depth-joined n now (line rule none) le (omega arith);
}

-- by a file that is included, one level deeper
pub grows_in : (level : ℕ) (is on : Loader) (now inner : Stack) (as_substack : Bool) → Grows (level + 1) is on none inner
    → Grows level is on now (joined now (brought_in as_substack inner))
grows_in level is on now inner true g = record {
  within = omega (arith, g.within);
  lines = omega (arith, g.lines, lines-joined now (sub inner none));
  few = g.few;
  deep = λ n le left.
      let below : depth inner ≤ n - 1 = g.deep (n - 1) (omega arith) (omega (arith, g.within, left)) in
      depth-joined n now (sub inner none) le (omega (arith, below, g.within, left));
}
grows_in level is on now inner false g = record {
  within = omega (arith, g.within);
  lines = omega (arith, g.lines, lines-joined now inner);
  few = g.few;
  deep = λ n le left. depth-joined n now inner le (g.deep n (omega arith) (omega (arith, left)));
}

-- by one entry after another
pub grows_on : (level : ℕ) (was is on : Loader) (before now after : Stack) → Grows level was is before now → Grows level is on now after
    → Grows level was on before after
grows_on level was is on before now after g h = record {
  within = g.within;
  lines = omega (arith, g.lines, h.lines);
  few = λ few. h.few (g.few few);
  deep = λ n le left. h.deep n (g.deep n le left) left;
}

-- ---- a check

module _ (texts : List ℕ → Option (List ℕ)) (fails : List ℕ) where
  on-on : (r : Result Counts Stop) (f g : Counts → Result Counts Stop) → going_on (going_on r f) g ≡ going_on r (λ c. going_on (f c) g)
  on-on (Ok c) f g = refl
  on-on (Err s) f g = refl

  on-same : (r : Result Counts Stop) (f g : Counts → Result Counts Stop) → ((c : Counts) → f c ≡ g c) → going_on r f ≡ going_on r g
  on-same (Ok c) f g same = same c
  on-same (Err s) f g same = refl

  -- along some items and those after them
  pub look-append : (counts : Counts) (xs ys : List Item)
      → look texts fails counts (xs ++ ys) ≡ going_on (look texts fails counts xs) (λ c. look texts fails c ys)
  unfolding look
  look-append counts [] ys = refl
  look-append counts (x ∷ xs) ys =
      on-same (take_one texts fails counts x) (λ c. look texts fails c (xs ++ ys)) (λ c. going_on (look texts fails c xs) (λ d. look texts fails d ys)) (λ c. look-append c xs ys)
      ∙ sym (on-on (take_one texts fails counts x) (λ c. look texts fails c xs) (λ c. look texts fails c ys))

  pub look_past : (counts now : Counts) (xs ys : List Item) → look texts fails counts xs ≡ Ok now → look texts fails counts (xs ++ ys) ≡ look texts fails now ys
  look_past counts now xs ys past = look-append counts xs ys ∙ rw past refl

  pub look_stops : (counts : Counts) (s : Stop) (xs ys : List Item) → look texts fails counts xs ≡ Err s → look texts fails counts (xs ++ ys) ≡ Err s
  look_stops counts s xs ys stops = look-append counts xs ys ∙ rw stops refl

  -- what all entries add is what was added so far and what those that are left add
  pub record Going (was is : Counts) (level : ℕ) (type : RuleType) (name : List ℕ) (all left : List ConfigEntry) (before now : Stack) : Type 0 where
    pub looks : look texts fails was (entries_items texts level type name all) ≡ look texts fails is (entries_items texts level type name left)
    pub nodes : joined before (entries_nodes texts level type all) ≡ joined now (entries_nodes texts level type left)

  module _ (was is : Counts) (level : ℕ) (type : RuleType) (name : List ℕ) (all left : List ConfigEntry) (before now : Stack) (e : ConfigEntry) where
    abbrev its_items : List Item
    its_items = entry_items_at texts level type name e

    abbrev its_nodes : Stack
    its_nodes = entry_nodes_at texts level type e

    -- an entry whose items were passed, and whose nodes were added
    pub going_past : (on : Counts) (after : Stack) → Going was is level type name all (e ∷ left) before now → look texts fails is its_items ≡ Ok on
        → after ≡ joined now its_nodes → Going was on level type name all left before after
    going_past on after g past added = record {
      looks = g.looks ∙ look_past is on its_items (entries_items texts level type name left) past;
      nodes = g.nodes ∙ sym (joined-joined now its_nodes (entries_nodes texts level type left)) ∙ ap (λ (s : Stack). joined s (entries_nodes texts level type left)) (sym added);
    }

    -- an entry that stops the check
    pub going_stops : (s : Stop) → Going was is level type name all (e ∷ left) before now → look texts fails is its_items ≡ Err s
        → look texts fails was (entries_items texts level type name all) ≡ Err s
    going_stops s g stops = g.looks ∙ look_stops is s its_items (entries_items texts level type name left) stops

  -- a line, which fits or is one too many
  look_line : (counts : Counts) (name : List ℕ) (number : ℕ) → counts.lines < 4096
      → look texts fails counts (made name number ∷ []) ≡ Ok (record counts { lines = counts.lines + 1 })
  unfolding look
  look_line counts name number few = rw (lt-leb 4096 counts.lines few) refl

  look_line_over : (counts : Counts) (name : List ℕ) (number : ℕ) → 4096 ≤ counts.lines
      → look texts fails counts (made name number ∷ []) ≡ Err (record { fault = fault_at name number TooManyLines; calls = counts.calls })
  unfolding look
  look_line_over counts name number many = rw (le-leb 4096 counts.lines many) refl

  -- if the file that an entry includes stops the load, so does the entry
  pub file_stops : (r : Refuse LoadFault) (is on : Counts) (items its : List Item) → its ≡ items
      → Looks {A = Bool} (Err r) (look texts fails is items) on → Looks {A = Option Inclusion} (Err r) (look texts fails is its) on
  file_stops (refusals.Named f) is on items its same looks = rw same looks
  file_stops refusals.NoMemory is on items its same looks = tt

  -- if one entry stops the load, so do all
  pub all_stop : (r : Refuse LoadFault) (was is on : Counts) (level : ℕ) (type : RuleType) (name : List ℕ) (all left : List ConfigEntry) (before now : Stack) (e : ConfigEntry)
      → Going was is level type name all (e ∷ left) before now
      → Looks {A = Option Inclusion} (Err r) (look texts fails is (entry_items_at texts level type name e)) on → Looks {A = Bool} (Err r) (look texts fails was (entries_items texts level type name all)) on
  all_stop (refusals.Named f) was is on level type name all left before now e g looks = going_stops was is level type name all left before now e (record { fault = f; calls = on.calls }) g looks
  all_stop refusals.NoMemory was is on level type name all left before now e g looks = tt

  line_stops : (r : Refuse LoadFault) (was is : Loader) (before after : Stack) (vault : VaultState) (name : List ℕ) (number : ℕ) (rule : Rule)
      → AddsLine {A = Option Inclusion} (Err r) was is before after name number rule
      → Looks {A = Option Inclusion} (Err r) (look texts fails (counts_of was vault) (made name number ∷ [])) (counts_of is vault)
  line_stops (refusals.Named f) was is before after vault name number rule adds = rw adds.2 (look_line_over (counts_of was vault) name number adds.0)
  line_stops refusals.NoMemory was is before after vault name number rule adds = tt

  -- an entry that is refused, one that is passed with its line, and one that includes a file
  module _ (vault : VaultState) (was is : Loader) (before after : Stack) (level : ℕ) (type : RuleType) (name : List ℕ) (number : ℕ) where
    abbrev items_if : Bool → RuleContent → List Item
    items_if serving content = cond serving (content_items (items_at texts (level + 1) type) name number content) []

    abbrev nodes_if : Bool → RuleContent → Stack
    nodes_if serving content = cond serving (content_nodes (λ file. nodes_at texts (level + 1) type (plain_file file)) content) none

    pub taking_stops : (serving : Bool) (content : RuleContent) (r : Refuse LoadFault)
        → TakesContent serving content (Err r) was is before after name number
        → Looks {A = Option Inclusion} (Err r) (look texts fails (counts_of was vault) (items_if serving content)) (counts_of is vault)
    taking_stops false content r takes = absurd cc
    taking_stops true (Line rule) r takes = line_stops r was is before after vault name number rule takes.0
    taking_stops true (Include file) r takes = absurd cc
    taking_stops true (Substack file) r takes = absurd cc

    pub taking_looks : (serving : Bool) (content : RuleContent) → TakesContent serving content (Ok None) was is before after name number
        → look texts fails (counts_of was vault) (items_if serving content) ≡ Ok (counts_of is vault)
    unfolding look
    taking_looks false content takes = rw takes.1 refl
    taking_looks true (Line rule) takes = rw takes.0.1 (look_line (counts_of was vault) name number takes.0.0)
    taking_looks true (Include file) takes = absurd cc
    taking_looks true (Substack file) takes = absurd cc

    pub taking_adds : (serving : Bool) (content : RuleContent) → TakesContent serving content (Ok None) was is before after name number
        → after ≡ joined before (nodes_if serving content)
    taking_adds false content takes = takes.2 ∙ sym (joined-none before)
    taking_adds true (Line rule) takes = takes.0.2
    taking_adds true (Include file) takes = absurd cc
    taking_adds true (Substack file) takes = absurd cc

    pub taking_grows : (serving : Bool) (content : RuleContent) → level ≤ 16 → TakesContent serving content (Ok None) was is before after name number
        → Grows level was is before after
    taking_grows false content low takes = rw (takes.1, takes.2) (grows_none level was before low)
    taking_grows true (Line rule) low takes = rw (takes.0.1, takes.0.2) (grows_line level was before rule low takes.0.0)
    taking_grows true (Include file) low takes = absurd cc
    taking_grows true (Substack file) low takes = absurd cc

    -- what such an entry adds is what the file adds
    pub record BringsIn (serving : Bool) (content : RuleContent) (i : Inclusion) : Type 0 where
      pub items : items_if serving content ≡ items_at texts (level + 1) type (by_rule name i.line) i.file
      pub nodes : nodes_if serving content ≡ brought_in i.as_substack (nodes_at texts (level + 1) type i.file)
      pub loader : is ≡ was
      pub stack : after ≡ before

    same_inclusion : (i j : Inclusion) → ◌≡◌ {A = Result (Option Inclusion) (Refuse LoadFault)} (Ok (Some i)) (Ok (Some j)) → i ≡ j
    same_inclusion i j e = cc

    pub taking_file : (serving : Bool) (content : RuleContent) (i : Inclusion)
        → TakesContent serving content (Ok (Some i)) was is before after name number → BringsIn serving content i
    taking_file false content i takes = absurd cc
    taking_file true (Line rule) i takes = absurd cc
    taking_file true (Include file) i takes = let same = same_inclusion i (record { line = number; file = plain_file file; as_substack = false }) takes.0 in record { items = rw same refl; nodes = rw same refl; loader = takes.1; stack = takes.2 }
    taking_file true (Substack file) i takes = let same = same_inclusion i (record { line = number; file = plain_file file; as_substack = true }) takes.0 in record { items = rw same refl; nodes = rw same refl; loader = takes.1; stack = takes.2 }

  pub going_none : (was : Counts) (level : ℕ) (type : RuleType) (name : List ℕ) (all : List ConfigEntry) (before : Stack)
      → Going was was level type name all all before before
  going_none was level type name all before = record { looks = refl; nodes = refl }

  -- all entries were processed
  going_end : (was is : Counts) (level : ℕ) (type : RuleType) (name : List ℕ) (all : List ConfigEntry) (before now : Stack)
      → Going was is level type name all [] before now → look texts fails was (entries_items texts level type name all) ≡ Ok is
  unfolding look
  going_end was is level type name all before now g = g.looks

-- ---- over files of which only the calls have changed

-- what a part of a load adds, stated for the files as they were
pub record Since {A : Type 0} (r : Result A (Refuse LoadFault)) (root : List ℕ) (first old new : VaultState) (was is : Loader) (items : List Item) (before after added : Stack) : Type 0 where
  pub looks : Looks r (look (texts_of root first) first.fails (counts_of was old) items) (counts_of is new)
  pub nodes : OnOk r (after ≡ joined before added)
  pub stays : OnlyCalls first new

pub since : {A : Type 0} (r : Result A (Refuse LoadFault)) (root : List ℕ) (first old new : VaultState) (was is : Loader) (items : (List ℕ → Option (List ℕ)) → List Item) (before after : Stack) (added : (List ℕ → Option (List ℕ)) → Stack)
    → OnlyCalls first old → Brings r (texts_of root old) (load_state was old) (load_state is new) (items (texts_of root old)) before after (added (texts_of root old))
    → Since r root first old new was is (items (texts_of root first)) before after (added (texts_of root first))
since r root first old new was is items before after added only brings =
    let P : VaultState → Type 0 = λ v. Brings r (texts_of root v) (load_state was v) (load_state is new) (items (texts_of root v)) before after (added (texts_of root v)) in
    let b : P (record first { calls = old.calls }) = subst P only brings in
    record { looks = b.looks; nodes = b.nodes; stays = b.stays }

-- what an included file adds
pub file_since : (r : Result Bool (Refuse LoadFault)) (root : List ℕ) (first old new : VaultState) (was is : Loader) (level : ℕ) (type : RuleType) (name : List ℕ) (i : Inclusion) (inner : Stack)
    → OnlyCalls first old
    → Brings r (texts_of root old) (load_state was old) (load_state is new)
    (items_at (texts_of root old) (level + 1) type (by_rule name i.line) i.file) none inner (nodes_at (texts_of root old) (level + 1) type i.file)
    → Since r root first old new was is (items_at (texts_of root first) (level + 1) type (by_rule name i.line) i.file) none inner (nodes_at (texts_of root first) (level + 1) type i.file)
file_since r root first old new was is level type name i inner =
    since r root first old new was is (λ texts. items_at texts (level + 1) type (by_rule name i.line) i.file) none inner (λ texts. nodes_at texts (level + 1) type i.file)

-- ---- a file

module _ (root : List ℕ) (first old now : VaultState) (was opened is : Loader) (level : ℕ) (type : RuleType) (opener : Opener) (file : RuleFile) (entries : List ConfigEntry) (before after : Stack) where
  -- it was opened
  abbrev IsOpened : Type 0
  IsOpened = Opens (texts_of root first) (Ok (Some entries)) first.fails (counts_of was first) (counts_of opened old) level type opener file

  abbrev whole : Type 0
  whole = Brings {A = Bool} (Ok true) (texts_of root first) (load_state was first) (load_state is now)
      (items_at (texts_of root first) level type opener file) before after (nodes_at (texts_of root first) level type file)

  -- and processed to its end
  pub brings_all : IsOpened
      → Going (texts_of root first) first.fails (counts_of opened old) (counts_of is now) level type file.name entries [] before after
      → OnlyCalls first now → whole
  brings_all opens g only = record {
    looks = opens.0 ∙ going_end (texts_of root first) first.fails (counts_of opened old) (counts_of is now) level type file.name entries before after g;
    nodes = sym (joined-none after) ∙ sym g.nodes ∙ ap (λ (s : Stack). joined before s) (sym opens.1);
    stays = only;
  }

  -- or up to an entry that stopped the load
  pub brings_stop : (r : Refuse LoadFault) → IsOpened
      → Looks {A = Bool} (Err r) (look (texts_of root first) first.fails (counts_of opened old) (entries_items (texts_of root first) level type file.name entries)) (counts_of is now)
      → OnlyCalls first now
      → Brings {A = Bool} (Err r) (texts_of root first) (load_state was first) (load_state is now)
      (items_at (texts_of root first) level type opener file) before after (nodes_at (texts_of root first) level type file)
  brings_stop (refusals.Named f) opens looks only = record { looks = opens.0 ∙ looks; nodes = tt; stays = only }
  brings_stop refusals.NoMemory opens looks only = record { looks = tt; nodes = tt; stays = only }

  -- it doesn't exist, and doesn't have to
  pub brings_absent : Opens (texts_of root first) (Ok None) first.fails (counts_of was first) (counts_of is now) level type opener file
      → after ≡ before → OnlyCalls first now
      → Brings {A = Bool} (Ok false) (texts_of root first) (load_state was first) (load_state is now)
      (items_at (texts_of root first) level type opener file) before after (nodes_at (texts_of root first) level type file)
  unfolding look
  brings_absent opens same only = record { looks = opens.0; nodes = same ∙ sym (joined-none before) ∙ ap (λ (s : Stack). joined before s) (sym opens.1); stays = only }
