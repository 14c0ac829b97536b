-- A new hash leaves every other byte as it was.
use Rattle.std.proofs.Common.{◌≡◌, ◌⊎◌, inl, inr, ℕ, Bool, true, false, cond, List, [], ◌∷◌, ◌++◌, refl, sym, ap, ◌∙◌, append_assoc, subst}
use Rattle.std.proofs.lemmas.List.{append-nil}
use Rattle.std.specs.List.{join_with_byte}
use Rattle.std.proofs.lemmas.List.Splits.{join_with_byte-slice_split}
use Rattle.pam_base.specs.Parts.{parts_of}
use Rattle.account_db.specs.Entries.{is_line_of}
use Rattle.account_db.specs.Replace.{Placed, changed_line, changed_lines, with_hash}

-- what follows a line: nothing, or a newline and the next lines
abbrev tail_of : List (List ℕ) → List ℕ
tail_of [] = []
tail_of (l ∷ ls) = 10 ∷ join_with_byte 10 (l ∷ ls)

join_is : (l : List ℕ) (ls : List (List ℕ)) → join_with_byte 10 (l ∷ ls) ≡ l ++ tail_of ls
join_is l [] = sym (append-nil l)
join_is l (m ∷ ls) = refl

further : (more front line back : List ℕ) → more ++ (front ++ line ++ back) ≡ (more ++ front) ++ line ++ back
further more front line back = sym (append_assoc more (front ++ line) back) ∙ ap (λ (x : List ℕ). x ++ back) (sym (append_assoc more front line))

module _ (user hash : List ℕ) (day : ℕ) where
  abbrev changed : List (List ℕ) → List (List ℕ)
  changed lines = changed_lines user hash day lines

  -- what a change of the lines means for their text
  abbrev Is : List ℕ → List ℕ → Type 0
  Is old new = (new ≡ old) ⊎ Placed user hash day old new

  past_end : (front old new : List ℕ) → Is old new → Is (front ++ old) (front ++ new)
  past_end front old new (inl same) = inl (ap (λ (x : List ℕ). front ++ x) same)
  past_end front old new (inr p) = inr (record {
    front = front ++ p.front;
    line = p.line;
    back = p.back;
    is_users = p.is_users;
    old_is = ap (λ (x : List ℕ). front ++ x) p.old_is ∙ further front p.front p.line p.back;
    new_is = ap (λ (x : List ℕ). front ++ x) p.new_is ∙ further front p.front (changed_line hash day p.line) p.back;
  })

  -- the lines after an unchanged one
  tails_by : (b : Bool) (m : List ℕ) (ms : List (List ℕ)) → Is (join_with_byte 10 (m ∷ ms)) (join_with_byte 10 (cond b (changed_line hash day m ∷ ms) (m ∷ changed ms)))
      → Is (tail_of (m ∷ ms)) (tail_of (cond b (changed_line hash day m ∷ ms) (m ∷ changed ms)))
  tails_by true m ms h = past_end (10 ∷ []) _ _ h
  tails_by false m ms h = past_end (10 ∷ []) _ _ h

  tails : (ls : List (List ℕ)) → Is (join_with_byte 10 ls) (join_with_byte 10 (changed ls)) → Is (tail_of ls) (tail_of (changed ls))
  tails [] h = inl refl
  tails (m ∷ ms) h = tails_by (is_line_of user m) m ms h

  by_line : (b : Bool) (l : List ℕ) (ls : List (List ℕ)) → is_line_of user l ≡ b → Is (tail_of ls) (tail_of (changed ls))
      → Is (join_with_byte 10 (l ∷ ls)) (join_with_byte 10 (cond b (changed_line hash day l ∷ ls) (l ∷ changed ls)))
  by_line true l ls e h = inr (record {
    front = [];
    line = l;
    back = tail_of ls;
    is_users = e;
    old_is = join_is l ls;
    new_is = join_is (changed_line hash day l) ls;
  })
  by_line false l ls e h = rw (join_is l ls, join_is l (changed ls)) (past_end l (tail_of ls) (tail_of (changed ls)) h)

  joined : (ls : List (List ℕ)) → Is (join_with_byte 10 ls) (join_with_byte 10 (changed ls))
  joined [] = inl refl
  joined (l ∷ ls) = by_line (is_line_of user l) l ls refl (tails ls (joined ls))

  pub placed : (text : List ℕ) → Is text (with_hash user hash day text)
  unfolding with_hash parts_of
  placed text = subst (λ (t : List ℕ). Is t (with_hash user hash day text)) (join_with_byte-slice_split 10 text) (joined (parts_of 10 text))
