-- The pass by index over the lines of a nested list does what the walk of that list does.
use Rattle.std.proofs.Common.{◌≡◌, ℕ, zero, suc, ◌+◌, ◌<◌, ◌≤◌, Bool, true, false, true≢false, if◌then◌else◌, nat_le, List, [], ◌∷◌, ◌++◌, length, drop, refl, sym, ◌∙◌, ap, subst, append_assoc, append-nil, zero-add, add-zero, add-one, arith}
use Rattle.std.proofs.lemmas.Bool.Decides.{nat_tests}
use Rattle.control_words.specs.declared.control.Action.{Action}
use Rattle.control_words.specs.declared.control.Action.TheVariants as actions
use Rattle.control_words.specs.Control.{action_at}
use Rattle.control_words.specs.Stack.{Stack, none, line, sub, count, lines_in}
use Rattle.handler_chain.specs.FlatLines.{FlatLine, flat_line, flat_lines, pending, lines_in_first}
use Rattle.dispatch_core.proofs.StackLineFacts.{flat_lines-count}
use Rattle.handler_chain.specs.declared.opinion.Opinion.{Opinion}
use Rattle.handler_chain.specs.declared.pass_kind.PassKind.{PassKind}
use Rattle.handler_chain.specs.Opinion.{acted, opening}
use Rattle.handler_chain.specs.Walk.{Serving, Served, Walked, walked, halted, ends, Next, after, stop, next_of, new_or_overrun, onward, walk, pass}
use Rattle.dispatch_core.specs.EntryStates.{Entries, entered}
use Rattle.dispatch_core.specs.Index.{passed, run, run_from}
use Rattle.dispatch_core.proofs.EntryStateFacts.{entered_none, entered_under, entered_first, entered_closed, pending_none, pending_line, pending_sum}

-- a list goes on with one of its own lines
jump_fits : (b : Bool) (n left : ℕ) → (b ≡ true → n ≤ left) → passed (if b then after n else stop) left ≤ left
jump_fits true n left fits = fits refl
jump_fits false n left fits = omega arith

if_fits : (b : Bool) (left : ℕ) → passed (if b then stop else after 0) left ≤ left
if_fits true left = omega arith
if_fits false left = omega arith

next_fits : (a : Action) (left : ℕ) (new : Opinion) → passed (next_of a left new) left ≤ left
next_fits actions.Ignore left new = omega arith
next_fits actions.Ok left new = omega arith
next_fits actions.Done left new = if_fits (ends actions.Done new) left
next_fits actions.Bad left new = omega arith
next_fits actions.Die left new = omega arith
next_fits actions.Reset left new = omega arith
next_fits (actions.Jump n) left new = jump_fits (nat_le n left) n left (λ h. grind (arith, nat_tests))

module _ {State : Type 0} (kind : PassKind) (serve : Serving State) where
  skip_over : (xs ys : List FlatLine) (k at : ℕ) (f : Entries) (o : Opinion) (s : State)
      → run kind serve (xs ++ ys) (length xs + k) at f o s ≡ run kind serve ys k (at + length xs) f o s
  skip_over [] ys k at f o s =
      ap (λ n. run kind serve ys n at f o s) (zero-add k) ∙ ap (λ n. run kind serve ys k n f o s) (sym (add-zero at))
  skip_over (x ∷ xs) ys k at f o s =
      ap (λ n. run kind serve (x ∷ (xs ++ ys)) n at f o s) (let e : suc (length xs) + k ≡ suc (length xs + k) = omega arith in e)
      ∙ skip_over xs ys k (at + 1) f o s
      ∙ ap (λ n. run kind serve ys k n f o s) (let e : at + 1 + length xs ≡ at + suc (length xs) = omega arith in e)

  pub skip_to : (xs : List FlatLine) (k at : ℕ) (f : Entries) (o : Opinion) (s : State)
      → run kind serve xs k at f o s ≡ run kind serve (drop k xs) 0 (at + k) f o s
  skip_to [] zero at f o s = refl
  skip_to [] (suc k) at f o s = refl
  skip_to (x ∷ xs) zero at f o s = ap (λ n. run kind serve (x ∷ xs) 0 n f o s) (sym (add-zero at))
  skip_to (x ∷ xs) (suc k) at f o s =
      skip_to xs k (at + 1) f o s ∙ ap (λ n. run kind serve (drop k xs) 0 n f o s) (let e : at + 1 + k ≡ at + suc k = omega arith in e)

  -- with all nodes skipped, nothing is walked
  all_passed : (t : Stack) (at : ℕ) (entry o : Opinion) (s : State) → walk kind serve (count t) t at entry o s ≡ walked o s
  all_passed none at entry o s = refl
  all_passed (line rule rest) at entry o s =
      ap (λ k. walk kind serve k (line rule rest) at entry o s) (add-one (count rest)) ∙ all_passed rest (at + 1) entry o s
  all_passed (sub inner rest) at entry o s =
      ap (λ k. walk kind serve k (sub inner rest) at entry o s) (add-one (count rest)) ∙ all_passed rest (at + lines_in inner) entry o s

  onward_is : (next : Next) (rest : Stack) (at : ℕ) (entry o : Opinion) (s : State)
      → onward next (λ n. walk kind serve n rest at entry o s) (walked o s) ≡ walk kind serve (passed next (count rest)) rest at entry o s
  onward_is (after n) rest at entry o s = refl
  onward_is stop rest at entry o s = sym (all_passed rest at entry o s)

  -- where a walk has ended: incomplete, or on to the lines that follow
  abbrev past_end : Walked State → List FlatLine → ℕ → Entries → Walked State
  past_end w more at f = if w.stopped then w else run kind serve more 0 at f w.opinion w.state

  -- A run ends as a walk over n lines does, with entry states that hold for the lists that go on.
  record Lands (start w : Walked State) (lines level opens at : ℕ) (o : Opinion) (f : Entries) (more : List FlatLine) : Type 0 where
    entries : Entries
    kept : w.stopped ≡ false → (k : ℕ) → k ≤ level → entered level (pending lines opens) w.opinion entries k ≡ entered level opens o f k
    goes : start ≡ past_end w more at entries

  lands_from : (start start' w : Walked State) (lines level opens at : ℕ) (o : Opinion) (f : Entries) (more : List FlatLine)
      → start' ≡ start → Lands start w lines level opens at o f more → Lands start' w lines level opens at o f more
  lands_from start start' w lines level opens at o f more is lands = record { entries = lands.entries; kept = lands.kept; goes = is ∙ lands.goes }

  lands_more : (start w : Walked State) (lines lines' level opens opens' at at' : ℕ) (o o' : Opinion) (f f' : Entries) (more : List FlatLine)
      → pending lines opens ≡ pending lines' opens' → ((k : ℕ) → k ≤ level → entered level opens o f k ≡ entered level opens' o' f' k) → at ≡ at'
      → Lands start w lines level opens at o f more → Lands start w lines' level opens' at' o' f' more
  lands_more start w lines lines' level opens opens' at at' o o' f f' more pend same place lands = record {
    entries = lands.entries;
    kept = λ on k le. ap (λ n. entered level n w.opinion lands.entries k) (sym pend) ∙ lands.kept on k le ∙ same k le;
    goes = lands.goes ∙ ap (λ n. past_end w more n lands.entries) place;
  }

  -- a line that may be incomplete
  lands_if : (b : Bool) (start w : Walked State) (lines level opens at : ℕ) (o : Opinion) (f : Entries) (more : List FlatLine) (s : State)
      → Lands start w lines level opens at o f more → Lands (if b then halted o s else start) (if b then halted o s else w) lines level opens at o f more
  lands_if true start w lines level opens at o f more s lands = record { entries = f; kept = λ on. absurd (true≢false on); goes = refl }
  lands_if false start w lines level opens at o f more s lands = lands

  -- a substack, and what follows it
  lands_sub : (b : Bool) (start inside w : Walked State) (lines lines' level opens at at' : ℕ) (o entry : Opinion) (f : Entries) (first more : List FlatLine)
      → inside.stopped ≡ b → entered level opens o f level ≡ entry
      → Lands start inside lines (level + 1) (opens + 1) at o f first
      → ((e : Entries) → entered level (pending lines opens) inside.opinion e level ≡ entry → Lands (run kind serve first 0 at e inside.opinion inside.state) w lines' level (pending lines opens) at' inside.opinion e more)
      → Lands start (if b then inside else w) (lines + lines') level opens at' o f more
  lands_sub true start inside w lines lines' level opens at at' o entry f first more is ready lands onto = record {
    entries = lands.entries;
    kept = λ on. absurd (true≢false (sym is ∙ on));
    goes = lands.goes ∙ ap (λ b. if b then inside else run kind serve first 0 at lands.entries inside.opinion inside.state) is ∙ ap (λ b. if b then inside else run kind serve more 0 at' lands.entries inside.opinion inside.state) (sym is);
  }
  lands_sub false start inside w lines lines' level opens at at' o entry f first more is ready lands onto =
      let same : (k : ℕ) → k ≤ level → entered level (pending lines opens) inside.opinion lands.entries k ≡ entered level opens o f k =
      λ k le. sym (entered_closed lines level opens inside.opinion lands.entries k le) ∙ lands.kept is k (omega arith) ∙ entered_under level opens o f k le in
      lands_more start w lines' (lines + lines') level (pending lines opens) opens at' at' inside.opinion o lands.entries f more
      (pending_sum lines lines' opens) same refl
      (lands_from _ start w lines' level (pending lines opens) at' inside.opinion lands.entries more
      (lands.goes ∙ ap (λ b. if b then inside else run kind serve first 0 at lands.entries inside.opinion inside.state) is)
      (onto lands.entries (same level (omega arith) ∙ ready)))

  walks : (t : Stack) (n level opens at : ℕ) (f : Entries) (entry o : Opinion) (s : State) (more : List FlatLine)
      → n ≤ count t → entered level opens o f level ≡ entry → (0 < n → opens ≡ 0)
      → Lands (run kind serve (flat_lines level opens t ++ more) (lines_in_first n t) at f o s) (walk kind serve n t at entry o s) (lines_in t) level opens (at + lines_in t) o f more
  walks none zero level opens at f entry o s more within ready closed = record {
    entries = f;
    kept = λ on k le. refl;
    goes = ap (λ n. run kind serve more 0 n f o s) (sym (add-zero at));
  }
  walks none (suc n) level opens at f entry o s more within ready closed = absurd (omega arith)
  walks (line rule rest) (suc n) level opens at f entry o s more within ready closed =
      let none_open : opens ≡ 0 = closed (omega arith) in
      lands_more _ _ (lines_in rest) (lines_in rest + 1) level 0 opens (at + 1 + lines_in rest) (at + (lines_in rest + 1)) o o f f more
      (pending_none (lines_in rest) ∙ sym (pending_line (lines_in rest) opens)) (λ k le. ap (λ n. entered level n o f k) (sym none_open)) (omega arith)
      (lands_from _ _ _ (lines_in rest) level 0 (at + 1 + lines_in rest) o f more
      (ap (λ k. run kind serve (flat_line rule level opens rest ∷ (flat_lines level 0 rest ++ more)) k at f o s) (add-one (lines_in_first n rest)))
      (walks rest n level 0 (at + 1) f entry o s more (omega arith) (ap (λ n. entered level n o f level) (sym none_open) ∙ ready) (λ some. refl)))
  walks (line rule rest) zero level opens at f entry o s more within ready closed =
      let v : Served State = serve rule at s in
      let a : Action = action_at rule.control v.deciding in
      let g : Entries = entered level opens o f in
      let left : ℕ = count rest in
      let new : Opinion → Opinion = λ e. acted kind a v.answer v.deciding e o in
      let next : Next = next_of a left (new entry) in
      let last : Opinion = new_or_overrun a left (new entry) in
      let w : Walked State = onward next (λ n. walk kind serve n rest (at + 1) entry last v.state) (walked last v.state) in
      let goes : Opinion → Walked State = λ e. run kind serve (flat_lines level 0 rest ++ more) (lines_in_first (passed (next_of a left (new e)) left) rest) (at + 1) g (new_or_overrun a left (new e)) v.state in
      let ahead : Lands (goes entry) (walk kind serve (passed next left) rest (at + 1) entry last v.state) (lines_in rest) level 0 (at + 1 + lines_in rest) last g more =
      walks rest (passed next left) level 0 (at + 1) g entry last v.state more (next_fits a left (new entry)) (entered_none level last g level ∙ ready) (λ some. refl) in
      let on : Lands (goes entry) w (lines_in rest + 1) level opens (at + (lines_in rest + 1)) o f more =
      lands_more (goes entry) w (lines_in rest) (lines_in rest + 1) level 0 opens (at + 1 + lines_in rest) (at + (lines_in rest + 1)) last o g f more
      (pending_none (lines_in rest) ∙ sym (pending_line (lines_in rest) opens)) (λ k le. entered_none level last g k) (omega arith)
      (subst (λ (x : Walked State). Lands (goes entry) x (lines_in rest) level 0 (at + 1 + lines_in rest) last g more) (sym (onward_is next rest (at + 1) entry last v.state)) ahead) in
      subst (λ (e : Opinion). Lands (if v.stopped then halted o v.state else goes e) (if v.stopped then halted o v.state else w) (lines_in rest + 1) level opens (at + (lines_in rest + 1)) o f more) (sym ready)
      (lands_if v.stopped (goes entry) w (lines_in rest + 1) level opens (at + (lines_in rest + 1)) o f more v.state on)
  walks (sub inner rest) (suc n) level opens at f entry o s more within ready closed =
      let none_open : opens ≡ 0 = closed (omega arith) in
      let still : ℕ = pending (lines_in inner) opens in
      let none_still : still ≡ 0 = ap (pending (lines_in inner)) none_open ∙ pending_none (lines_in inner) in
      let inside : List FlatLine = flat_lines (level + 1) (opens + 1) inner in
      let lines : length inside ≡ lines_in inner = flat_lines-count inner (level + 1) (opens + 1) in
      let past : List FlatLine = flat_lines level still rest ++ more in
      lands_more _ _ (lines_in rest) (lines_in inner + lines_in rest) level still opens (at + lines_in inner + lines_in rest) (at + (lines_in inner + lines_in rest)) o o f f more
      (pending_sum (lines_in inner) (lines_in rest) opens) (λ k le. ap (λ n. entered level n o f k) (none_still ∙ sym none_open)) (omega arith)
      (lands_from _ _ _ (lines_in rest) level still (at + lines_in inner + lines_in rest) o f more
      (ap (λ (xs : List FlatLine). run kind serve xs (lines_in inner + lines_in_first n rest) at f o s) (append_assoc inside (flat_lines level still rest) more)
      ∙ ap (λ k. run kind serve (inside ++ past) (k + lines_in_first n rest) at f o s) (sym lines)
      ∙ skip_over inside past (lines_in_first n rest) at f o s
      ∙ ap (λ k. run kind serve past (lines_in_first n rest) (at + k) f o s) lines)
      (walks rest n level still (at + lines_in inner) f entry o s more (omega arith) (ap (λ n. entered level n o f level) (none_still ∙ sym none_open) ∙ ready) (λ some. none_still)))
  walks (sub inner rest) zero level opens at f entry o s more within ready closed =
      let inside : Walked State = walk kind serve zero inner at o o s in
      let still : ℕ = pending (lines_in inner) opens in
      let past : List FlatLine = flat_lines level still rest ++ more in
      lands_from _ _ _ (lines_in inner + lines_in rest) level opens (at + (lines_in inner + lines_in rest)) o f more
      (ap (λ (xs : List FlatLine). run kind serve xs 0 at f o s) (append_assoc (flat_lines (level + 1) (opens + 1) inner) (flat_lines level still rest) more))
      (lands_sub inside.stopped _ inside (walk kind serve zero rest (at + lines_in inner) entry inside.opinion inside.state)
      (lines_in inner) (lines_in rest) level opens (at + lines_in inner) (at + (lines_in inner + lines_in rest)) o entry f past more refl ready
      (walks inner zero (level + 1) (opens + 1) at f o o s past (omega arith) (entered_first level opens o f) (λ some. absurd (omega arith)))
      (λ e ready'. subst (λ n. Lands (run kind serve past 0 (at + lines_in inner) e inside.opinion inside.state) (walk kind serve zero rest (at + lines_in inner) entry inside.opinion inside.state) (lines_in rest) level still n inside.opinion e more)
      (let g : at + lines_in inner + lines_in rest ≡ at + (lines_in inner + lines_in rest) = omega arith in g)
      (walks rest zero level still (at + lines_in inner) e entry inside.opinion inside.state more (omega arith) ready' (λ some. absurd (omega arith)))))

  after_nothing : (w : Walked State) (b : Bool) → w.stopped ≡ b → (if b then w else walked w.opinion w.state) ≡ w
  after_nothing w true is = refl
  after_nothing w false is = ap (λ (b : Bool). let r : Walked State = record { opinion = w.opinion; state = w.state; stopped = b } in r) (sym is)

  -- the pass by index over a whole stack is its walk
  pub run_is_pass : (stack : Stack) (s : State) → run_from kind serve stack 0 (λ k. opening) opening s ≡ pass kind serve stack s
  run_is_pass stack s =
      let w : Walked State = pass kind serve stack s in
      let lands = walks stack 0 0 0 1 (λ k. opening) opening opening s [] (omega arith) (entered_none 0 opening (λ k. opening) 0) (λ some. refl) in
      ap (λ (xs : List FlatLine). run kind serve xs 0 1 (λ k. opening) opening s) (sym (append-nil (flat_lines 0 0 stack))) ∙ lands.goes ∙ after_nothing w w.stopped refl
