use Rattle.std.proofs.Common.{◌≡◌, ◌++◌, ◌∷◌, [], List, ℕ, Bool, true, false, ap, sym, ◌∙◌, append-nil, append_assoc, drop_of_length-le, get_or}
use Rattle.pam_base.specs.declared.code.Code.TheVariants.{Success}
use Rattle.service_print.specs.Controls.{entry_text}
use Rattle.service_print.proofs.ControlEntryFacts.{spaced_on, entering_some, entering_none, entering_end}
use Rattle.service_print.proofs.control.add_entries.Goals as goal
use Rattle.service_print.proofs.control.add_entries.Goals.{then-has_entry+in_ok-add_entry, then-not-is_first+in_ok-push, else-not-is_first, else-has_entry}

spaced_entry : (line first new entry : List ℕ) (is_first : Bool) → is_first ≡ false → first ≡ line ++ 32 ∷ [] → new ≡ first ++ entry
    → new ≡ line ++ spaced_on is_first (entry ∷ [])
spaced_entry line first new entry is_first which one other = rw (which, other, one) (simp (append_assoc, append-nil))

first_entry : (line first new entry : List ℕ) (is_first : Bool) → is_first ≡ true → first ≡ line → new ≡ first ++ entry
    → new ≡ line ++ spaced_on is_first (entry ∷ [])
first_entry line first new entry is_first which one other = rw (which, other, one) (simp append-nil)

pub loop-code-preserved : goal.loop-code-preserved
loop-code-preserved c =
    elim c.if-has_entry.branch [
      | then-has_entry+in_ok-add_entry w ↦
          let has = sym (w.if-has_entry.ensures) in
          let added : w.add_entry.new.line.items ≡ c.loop-code.line.items ++ spaced_on c.loop-code.is_first (entry_text c.args.control.now (get_or c.args.codes.now c.loop-code.code-index Success) ∷ []) =
          elim w.if-not-is_first.branch [
            | then-not-is_first+in_ok-push w' ↦
                spaced_entry _ _ _ _ _ w'.if-not-is_first.true (ap (λ v. v.items) w'.line-is ∙ w'.in_ok-push.ensures.items) w.in_ok-add_entry.ensures
            | else-not-is_first w' ↦ first_entry _ _ _ _ _ w'.if-not-is_first.false (ap (λ v. v.items) w'.line-is) w.in_ok-add_entry.ensures
          ]
          in
          rw (w.line-is, w.is_first-is) (entering_some _ _ _ _ _ _ _ _ c.loop-code.invariant c.loop-code-test.true has added)
      | else-has_entry w ↦ rw (w.line-is, w.is_first-is) (entering_none _ _ _ _ _ _ _ c.loop-code.invariant c.loop-code-test.true (sym w.if-has_entry.ensures))
    ]

pub returns : goal.returns
returns c = entering_end _ _ _ _ _ c.loop-code.invariant (drop_of_length-le c.args.codes.now c.loop-code-test.false)
