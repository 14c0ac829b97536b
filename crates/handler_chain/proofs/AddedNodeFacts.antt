-- Entries and positions, as the lines of a list are added one node at a time.
use Rattle.std.proofs.Common.{◌≡◌, ℕ, zero, suc, ◌+◌, ◌-◌, ◌<◌, ◌≤◌, List, [], ◌∷◌, ◌++◌, length, get_or, refl, sym, ◌∙◌, ap, subst, append_assoc, append-nil, length-append, add-zero, zero-add, arith}
use Rattle.control_words.specs.Stack.{Stack, none, line, sub, count, lines_in, depth}
use Rattle.handler_chain.specs.declared.chain_line.ChainLine.{ChainLine}
use Rattle.handler_chain.specs.FlatLines.{FlatLine, module_of, flat_lines, pending, lines_in_first}
use Rattle.handler_chain.specs.Flat.{IsBlock, AreLines, AddsList, positions_after}

get_or-before : (xs ys : List ℕ) (i : ℕ) → i < length xs → get_or (xs ++ ys) i 0 ≡ get_or xs i 0
get_or-before [] ys i within = absurd (omega (arith, within))
get_or-before (x ∷ xs) ys zero within = refl
get_or-before (x ∷ xs) ys (suc i) within = get_or-before xs ys i (omega arith)

get_or-past_end : (xs ys : List ℕ) (i : ℕ) → get_or (xs ++ ys) (length xs + i) 0 ≡ get_or ys i 0
get_or-past_end [] ys i = ap (λ n. get_or ys n 0) (zero-add i)
get_or-past_end (x ∷ xs) ys i = ap (λ n. get_or (x ∷ (xs ++ ys)) n 0) (let e : length (x ∷ xs) + i ≡ suc (length xs + i) = omega arith in e) ∙ get_or-past_end xs ys i

-- the positions of a list are those that were added
positions_after-count : (t : Stack) (first : ℕ) → length (positions_after first t) ≡ count t
positions_after-count none first = refl
positions_after-count (line rule rest) first = omega (arith, positions_after-count rest (first + 1))
positions_after-count (sub inner rest) first = omega (arith, positions_after-count rest (first + lines_in inner))

positions_after-placed : (t : Stack) (first n : ℕ) → n ≤ count t → get_or (first ∷ positions_after first t) n 0 ≡ first + lines_in_first n t
positions_after-placed t first zero within = sym (add-zero first)
positions_after-placed none first (suc n) within = absurd (omega arith)
positions_after-placed (line rule rest) first (suc n) within = omega (arith, positions_after-placed rest (first + 1) n (omega arith))
positions_after-placed (sub inner rest) first (suc n) within = omega (arith, positions_after-placed rest (first + lines_in inner) n (omega arith))

pub block_marked : (positions : List ℕ) (first : ℕ) (t : Stack) → IsBlock (positions ++ first ∷ positions_after first t) (length positions) first t
block_marked positions first t = record {
  room = omega (arith, length-append positions (first ∷ positions_after first t), positions_after-count t first);
  placed = λ n within. get_or-past_end positions (first ∷ positions_after first t) n ∙ positions_after-placed t first n within;
}

pub block_kept : (positions more : List ℕ) (start first : ℕ) (t : Stack) → IsBlock positions start first t → IsBlock (positions ++ more) start first t
block_kept positions more start first t block = record {
  room = omega (arith, length-append positions more, block.room);
  placed = λ n within. get_or-before positions more (start + n) (omega (arith, block.room)) ∙ block.placed n within;
}

pub block_line : (positions : List ℕ) (start first : ℕ) (rule : _) (rest : Stack) → IsBlock positions start first (line rule rest)
    → IsBlock positions (start + 1) (first + 1) rest
block_line positions start first rule rest block = record {
  room = omega (arith, block.room);
  placed = λ n within. ap (λ i. get_or positions i 0) (let e : start + 1 + n ≡ start + suc n = omega arith in e) ∙ block.placed (suc n) (omega arith) ∙ (let e : first + (lines_in_first n rest + 1) ≡ first + 1 + lines_in_first n rest = omega arith in e);
}

pub block_sub : (positions : List ℕ) (start first : ℕ) (inner rest : Stack) → IsBlock positions start first (sub inner rest)
    → IsBlock positions (start + 1) (first + lines_in inner) rest
block_sub positions start first inner rest block = record {
  room = omega (arith, block.room);
  placed = λ n within. ap (λ i. get_or positions i 0) (let e : start + 1 + n ≡ start + suc n = omega arith in e) ∙ block.placed (suc n) (omega arith) ∙ (let e : first + (lines_in inner + lines_in_first n rest) ≡ first + lines_in inner + lines_in_first n rest = omega arith in e);
}

module _ (names : List (List ℕ)) where
  are_kept : (positions more : List ℕ) (i : ℕ) (ss : List FlatLine) (es : List ChainLine) → AreLines names positions i ss es
      → AreLines names (positions ++ more) i ss es
  are_kept positions more i [] [] are = tt
  are_kept positions more i (s ∷ ss) (e ∷ es) are =
      let first = are.0 in
      (record { rule = first.rule; module_number = first.module_number; level = first.level; opens = first.opens; left = first.left; past_end = block_kept positions more e.past_end (i + 1) s.rest first.past_end }, are_kept positions more (i + 1) ss es are.1)
  are_kept positions more i [] (e ∷ es) are = are
  are_kept positions more i (s ∷ ss) [] are = are

  are_joined : (positions : List ℕ) (i : ℕ) (ss ts : List FlatLine) (es fs : List ChainLine) → AreLines names positions i ss es
      → AreLines names positions (i + length es) ts fs → AreLines names positions i (ss ++ ts) (es ++ fs)
  are_joined positions i [] ts [] fs are more = subst (λ n. AreLines names positions n ts fs) (add-zero i) more
  are_joined positions i (s ∷ ss) ts (e ∷ es) fs are more =
      (are.0, are_joined positions (i + 1) ss ts es fs are.1 (subst (λ n. AreLines names positions n ts fs) (let e : i + suc (length es) ≡ i + 1 + length es = omega arith in e) more))
  are_joined positions i [] ts (e ∷ es) fs are more = absurd are
  are_joined positions i (s ∷ ss) ts [] fs are more = absurd are

  pub adds_none : (level opens : ℕ) (es : List ChainLine) (ps : List ℕ) → AddsList names level opens none es es ps ps
  adds_none level opens es ps = record { more = []; added = sym (append-nil es); positions = []; placed = sym (append-nil ps); are = tt }

  pub adds_marked : (level opens : ℕ) (t : Stack) (es es' : List ChainLine) (ps qs ps' : List ℕ) → AddsList names level opens t es es' (ps ++ qs) ps'
      → AddsList names level opens t es es' ps ps'
  adds_marked level opens t es es' ps qs ps' adds = record {
    more = adds.more;
    added = adds.added;
    positions = qs ++ adds.positions;
    placed = adds.placed ∙ append_assoc ps qs adds.positions;
    are = adds.are;
  }

  pub adds_line : (level opens : ℕ) (rest : Stack) (es es' : List ChainLine) (ps ps' : List ℕ) (e : ChainLine)
      → e.module_number ≡ module_of names e.rule → e.level ≡ level → e.opens ≡ opens → e.left ≡ count rest → IsBlock ps e.past_end (length es + 1) rest
      → AddsList names level 0 rest (es ++ e ∷ []) es' ps ps' → AddsList names level opens (line e.rule rest) es es' ps ps'
  adds_line level opens rest es es' ps ps' e named at_level opened left block adds = record {
    more = e ∷ adds.more;
    added = adds.added ∙ append_assoc es (e ∷ []) adds.more;
    positions = adds.positions;
    placed = adds.placed;
    are = (
      record { rule = refl; module_number = named; level = at_level; opens = opened; left = left; past_end = subst (λ (p : List ℕ). IsBlock p e.past_end (length es + 1) rest) (sym adds.placed) (block_kept ps adds.positions e.past_end (length es + 1) rest block) },
      subst (λ n. AreLines names ps' n (flat_lines level 0 rest) adds.more) (length-append es (e ∷ [])) adds.are,
    );
  }

  pub adds_sub : (level opens : ℕ) (inner rest : Stack) (es es1 es' : List ChainLine) (ps ps1 ps' : List ℕ)
      → AddsList names (level + 1) (opens + 1) inner es es1 ps ps1 → AddsList names level (pending (lines_in inner) opens) rest es1 es' ps1 ps' → AddsList names level opens (sub inner rest) es es' ps ps'
  adds_sub level opens inner rest es es1 es' ps ps1 ps' first second = record {
    more = first.more ++ second.more;
    added = second.added ∙ ap (λ (xs : List ChainLine). xs ++ second.more) first.added ∙ append_assoc es first.more second.more;
    positions = first.positions ++ second.positions;
    placed = second.placed ∙ ap (λ (xs : List ℕ). xs ++ second.positions) first.placed ∙ append_assoc ps first.positions second.positions;
    are =
        are_joined ps' (length es) _ _ first.more second.more
        (subst (λ (p : List ℕ). AreLines names p (length es) (flat_lines (level + 1) (opens + 1) inner) first.more) (sym second.placed) (are_kept ps1 second.positions (length es) _ first.more first.are))
        (subst (λ n. AreLines names ps' n (flat_lines level (pending (lines_in inner) opens) rest) second.more) (ap length first.added ∙ length-append es first.more) second.are);
  }

  -- a list of which the first nodes have been added: `here` is what is left of it
  pub record IsAdding (level opens : ℕ) (whole : Stack) (old : List ChainLine) (before : List ℕ) (here : Stack) (now : List ChainLine) (positions : List ℕ) (past_end pend left : ℕ) : Type 0 where
    pub adds : (es : List ChainLine) (ps : List ℕ) → AddsList names level pend here now es positions ps → AddsList names level opens whole old es before ps
    pub block : IsBlock positions past_end (length now) here
    pub remain : left ≡ count here
    pub few : length now + lines_in here ≤ 4096
    pub lines : length now + lines_in here ≡ length old + lines_in whole
    pub shallow : depth here ≤ depth whole
    pub opened : pend ≤ level

  pub adding_start : (level opens : ℕ) (whole : Stack) (old : List ChainLine) (before positions : List ℕ) (past_end first left : ℕ)
      → positions ≡ before ++ first ∷ positions_after first whole → first ≡ length old → past_end ≡ length before → left ≡ count whole → length old + lines_in whole ≤ 4096 → opens ≤ level
      → IsAdding level opens whole old before whole old positions past_end opens left
  adding_start level opens whole old before positions past_end first left is from start counted few opened = record {
    adds = λ es ps adds. adds_marked level opens whole old es before (first ∷ positions_after first whole) ps (subst (λ (p : List ℕ). AddsList names level opens whole old es p ps) is adds);
    block = rw (is, start, ← from) (block_marked before first whole);
    remain = counted;
    few = few;
    lines = refl;
    shallow = omega arith;
    opened = opened;
  }

  pub adding_line : (level opens : ℕ) (whole : Stack) (old : List ChainLine) (before : List ℕ) (here rest : Stack) (now new : List ChainLine) (positions : List ℕ) (past_end pend left : ℕ) (e : ChainLine)
      → IsAdding level opens whole old before here now positions past_end pend left → here ≡ line e.rule rest → e.module_number ≡ module_of names e.rule → e.level ≡ level → e.opens ≡ pend → e.left ≡ left - 1 → e.past_end ≡ past_end + 1 → new ≡ now ++ e ∷ []
      → IsAdding level opens whole old before rest new positions (past_end + 1) 0 (left - 1)
  adding_line level opens whole old before here rest now new positions past_end pend left e adding is named at_level opened remain place added =
      let lines = ap lines_in is in
      let nodes = ap count is in
      let deep = ap depth is in
      let block : IsBlock positions (past_end + 1) (length now + 1) rest = block_line positions past_end (length now) e.rule rest (subst (λ (t : Stack). IsBlock positions past_end (length now) t) is adding.block) in
      let longer : length new ≡ length now + 1 = ap length added ∙ length-append now (e ∷ []) in
      record {
        adds = λ es ps adds. adding.adds es ps (rw is (adds_line level pend rest now es positions ps e named at_level opened (remain ∙ (let g : left - 1 ≡ count rest = omega (arith, nodes, adding.remain) in g)) (rw place block)
            (subst (λ (n : List ChainLine). AddsList names level 0 rest n es positions ps) added adds)));
        block = rw longer block;
        remain = omega (arith, nodes, adding.remain);
        few = omega (arith, lines, longer, adding.few);
        lines = omega (arith, lines, longer, adding.lines);
        shallow = omega (arith, deep, adding.shallow);
        opened = omega arith;
      }

  pub adding_sub : (level opens : ℕ) (whole : Stack) (old : List ChainLine) (before : List ℕ) (here inner rest : Stack) (now new : List ChainLine) (positions positions' : List ℕ) (past_end pend pend' left : ℕ)
      → IsAdding level opens whole old before here now positions past_end pend left → here ≡ sub inner rest → AddsList names (level + 1) (pend + 1) inner now new positions positions' → length new ≡ length now + lines_in inner
      → pend' ≡ pending (lines_in inner) pend → pend' ≤ level
      → IsAdding level opens whole old before rest new positions' (past_end + 1) pend' (left - 1)
  adding_sub level opens whole old before here inner rest now new positions positions' past_end pend pend' left adding is first longer then opened =
      let lines = ap lines_in is in
      let nodes = ap count is in
      let deep = ap depth is in
      let block : IsBlock positions (past_end + 1) (length now + lines_in inner) rest = block_sub positions past_end (length now) inner rest (subst (λ (t : Stack). IsBlock positions past_end (length now) t) is adding.block) in
      record {
        adds = λ es ps adds. adding.adds es ps (rw is (adds_sub level pend inner rest now new es positions positions' ps first (subst (λ n. AddsList names level n rest new es positions' ps) then adds)));
        block = rw (first.placed, longer) (block_kept positions first.positions (past_end + 1) (length now + lines_in inner) rest block);
        remain = omega (arith, nodes, adding.remain);
        few = omega (arith, lines, longer, adding.few);
        lines = omega (arith, lines, longer, adding.lines);
        shallow = omega (arith, deep, adding.shallow);
        opened = opened;
      }

  pub adding_end : (level opens : ℕ) (whole : Stack) (old : List ChainLine) (before : List ℕ) (here : Stack) (now : List ChainLine) (positions : List ℕ) (past_end pend left : ℕ)
      → IsAdding level opens whole old before here now positions past_end pend left → here ≡ none → AddsList names level opens whole old now before positions × (length now ≡ length old + lines_in whole)
  adding_end level opens whole old before here now positions past_end pend left adding is =
      let lines = ap lines_in is in
      (adding.adds now positions (rw is (adds_none level pend now positions)), omega (arith, lines, adding.lines))

pub pending_some : (lines opens : ℕ) → 0 < lines → 0 ≡ pending lines opens
pending_some zero opens some = absurd (omega arith)
pending_some (suc lines) opens some = refl

pub pending_none : (lines opens : ℕ) → lines ≤ 0 → opens ≡ pending lines opens
pending_none zero opens few = refl
pending_none (suc lines) opens few = absurd (omega arith)
