-- The entries of a control, written one after another.
use Rattle.std.proofs.Common.{◌≡◌, ℕ, Bool, true, false, List, [], ◌∷◌, ◌++◌, map, refl, sym, ap, ◌∙◌, append_assoc, append-nil, cond, ◌+◌, ◌<◌, get_or, length, drop}
use Rattle.std.proofs.lemmas.List.{drop_more}
use Rattle.std.specs.List.{filter, flat_map}
use Rattle.pam_base.specs.declared.code.Code.{Code}
use Rattle.control_words.specs.declared.control.Action.{Action}
use Rattle.service_print.specs.Tokens.{spaced, after_space}
use Rattle.service_print.specs.Controls.{entry_text, entries_among, has_entry}

-- fields, the first of which has a space before it unless it is the first of all
abbrev pub spaced_on : Bool → List (List ℕ) → List ℕ
spaced_on true fields = spaced fields
spaced_on false fields = flat_map after_space fields

pub entries_among-some : (control : List Action) (code : Code) (codes : List Code) → has_entry control code ≡ true
    → entries_among control (code ∷ codes) ≡ entry_text control code ∷ entries_among control codes
unfolding entries_among
entries_among-some control code codes has = ap (λ b. map (entry_text control) (cond b (code ∷ filter (has_entry control) codes) (filter (has_entry control) codes))) has

pub entries_among-none : (control : List Action) (code : Code) (codes : List Code) → has_entry control code ≡ false
    → entries_among control (code ∷ codes) ≡ entries_among control codes
unfolding entries_among
entries_among-none control code codes has = ap (λ b. map (entry_text control) (cond b (code ∷ filter (has_entry control) codes) (filter (has_entry control) codes))) has

pub entries_among-end : (control : List Action) → entries_among control [] ≡ []
unfolding entries_among
entries_among-end control = refl

-- an entry was written, with a space before it unless it is the first
pub one_more : (is_first : Bool) (line entry : List ℕ) (more : List (List ℕ))
    → line ++ spaced_on is_first (entry ∷ more) ≡ ((line ++ spaced_on is_first (entry ∷ [])) ++ spaced_on false more)
one_more true line entry more = simp append_assoc
one_more false line entry more = simp append_assoc

-- the entry of the code at an index was written
pub entering_some : (control : List Action) (codes : List Code) (i : ℕ) (default : Code) (is_first : Bool) (line new all : List ℕ)
    → line ++ spaced_on is_first (entries_among control (drop i codes)) ≡ all → i < length codes → has_entry control (get_or codes i default) ≡ true
    → new ≡ line ++ spaced_on is_first (entry_text control (get_or codes i default) ∷ [])
    → new ++ spaced_on false (entries_among control (drop (i + 1) codes)) ≡ all
entering_some control codes i default is_first line new all so_far within has added =
    let entry = entry_text control (get_or codes i default) in
    let more = entries_among control (drop (i + 1) codes) in
    let here : entries_among control (drop i codes) ≡ entry ∷ more = ap (entries_among control) (drop_more codes i default within) ∙ entries_among-some control (get_or codes i default) (drop (i + 1) codes) has in
    ap (λ (t : List ℕ). t ++ spaced_on false more) added
    ∙ sym (one_more is_first line entry more)
    ∙ ap (λ (es : List (List ℕ)). line ++ spaced_on is_first es) (sym here)
    ∙ so_far

pub entering_none : (control : List Action) (codes : List Code) (i : ℕ) (default : Code) (is_first : Bool) (line all : List ℕ)
    → line ++ spaced_on is_first (entries_among control (drop i codes)) ≡ all → i < length codes → has_entry control (get_or codes i default) ≡ false
    → line ++ spaced_on is_first (entries_among control (drop (i + 1) codes)) ≡ all
entering_none control codes i default is_first line all so_far within has =
    let here : entries_among control (drop i codes) ≡ entries_among control (drop (i + 1) codes) = ap (entries_among control) (drop_more codes i default within) ∙ entries_among-none control (get_or codes i default) (drop (i + 1) codes) has in
    ap (λ (es : List (List ℕ)). line ++ spaced_on is_first es) (sym here) ∙ so_far

pub entering_end : (control : List Action) (codes : List Code) (is_first : Bool) (line all : List ℕ)
    → line ++ spaced_on is_first (entries_among control codes) ≡ all → codes ≡ [] → line ≡ all
unfolding entries_among
entering_end control codes true line all so_far none = sym (append-nil line) ∙ ap (λ (cs : List Code). line ++ spaced_on true (entries_among control cs)) (sym none) ∙ so_far
entering_end control codes false line all so_far none = sym (append-nil line) ∙ ap (λ (cs : List Code). line ++ spaced_on false (entries_among control cs)) (sym none) ∙ so_far
