-- The lines of a script that is written line by line.
use Rattle.std.proofs.Common.{◌≡◌, ℕ, ◌==◌, Bool, true, false, if◌then◌else◌, List, [], ◌∷◌, ◌++◌, refl, ap, ◌∙◌, append_assoc}
use Rattle.std.specs.List.{AllByRecursion, flat_map}
use Rattle.pam_base.specs.Bytes.{has_byte}
use Rattle.pam_base.specs.Lines.{Cut, cut, last_line, lines_of, lines_of-line, onto}
use Rattle.script_lang.specs.Line.{parsed}
use Rattle.cmd_run.specs.Isolation.{alone, is_on_another, script_alone, step_in, with_newline}

-- it has no newline
abbrev IsOneLine : List ℕ → Type 0
IsOneLine line = has_byte 10 line ≡ false

joined : (ls : List (List ℕ)) → AllByRecursion IsOneLine ls → lines_of (flat_map with_newline ls) ≡ ls
unfolding lines_of cut
joined [] each = refl
joined (l ∷ ls) each =
    ap lines_of (append_assoc l (10 ∷ []) (flat_map with_newline ls))
    ∙ lines_of-line l (flat_map with_newline ls) each.0
    ∙ ap (λ (rest : List (List ℕ)). l ∷ rest) (joined ls each.1)

AreLines : Cut → Type 0
AreLines c = AllByRecursion IsOneLine c.lines × IsOneLine c.rest

onto_lines : (b : ℕ) (ls : List (List ℕ)) (rest : List ℕ) → (b == 10) ≡ false → AllByRecursion IsOneLine ls → IsOneLine rest → AreLines (onto b ls rest)
unfolding AreLines
onto_lines b [] rest other each one = (tt, rw other one)
onto_lines b (l ∷ ls) rest other each one = ((rw other each.0, each.1), one)

cut_lines : (bytes : List ℕ) → AreLines (cut bytes)
unfolding cut AreLines
cut_lines [] = (tt, refl)
cut_lines (b ∷ bs) =
    let more : AllByRecursion IsOneLine (cut bs).lines × IsOneLine (cut bs).rest = cut_lines bs in
    elim (b == 10) as (λ (x : Bool). (b == 10) ≡ x → AreLines (if x then record { lines = [] ∷ (cut bs).lines; rest = (cut bs).rest }
    else onto b (cut bs).lines (cut bs).rest)) [
      | true ↦ λ e. ((refl, more.0), more.1)
      | false ↦ λ e. onto_lines b (cut bs).lines (cut bs).rest e more.0 more.1
    ] refl

with_last : (ls : List (List ℕ)) (rest : List ℕ) → AllByRecursion IsOneLine ls → IsOneLine rest → AllByRecursion IsOneLine (ls ++ last_line rest)
with_last [] [] each one = tt
with_last [] (b ∷ bs) each one = (one, tt)
with_last (l ∷ ls) rest each one = (each.0, with_last ls rest each.1 one)

alone_lines : (number : ℕ) (ls : List (List ℕ)) → AllByRecursion IsOneLine ls → AllByRecursion IsOneLine (alone number ls)
alone_lines number [] each = tt
alone_lines number (l ∷ ls) each = (
  elim (is_on_another number (step_in (parsed l))) as (λ (b : Bool). IsOneLine (if b then [] else l)) [ true ↦ refl | false ↦ each.0 ],
  alone_lines number ls each.1,
)

pub script_lines : (number : ℕ) (text : List ℕ) → lines_of (script_alone number text) ≡ alone number (lines_of text)
unfolding lines_of AreLines
script_lines number text =
    let c : AllByRecursion IsOneLine (cut text).lines × IsOneLine (cut text).rest = cut_lines text in
    joined (alone number (lines_of text)) (alone_lines number (lines_of text) (with_last (cut text).lines (cut text).rest c.0 c.1))
