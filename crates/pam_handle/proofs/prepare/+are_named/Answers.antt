use Rattle.std.proofs.Common.{◌≡◌, ◌≤◌, ◌-◌, ◌∙◌, ℕ, List, [], ◌∷◌, ap, sym, drop, get_or, length, map, take, arith, rules}
use Rattle.std.proofs.lemmas.List.{take_rest}
use Rattle.pam_handle.proofs.prepare.+are_named.Goals as goal

-- the first name is the first module's, and the others are those of the others
named_on : {M : Type 0} (label : M → List ℕ) (mods : List M) (names : List (List ℕ)) (handler : M) (name : List ℕ)
    → 1 ≤ length mods → 1 ≤ length names → handler ≡ get_or mods 0 handler → name ≡ get_or names 0 name → label handler ≡ name
    → take (length names - 1) (drop 1 names) ≡ map label (take (length mods - 1) (drop 1 mods)) → names ≡ map label mods
named_on label [] names handler name some one h n same rest = absurd (omega (arith, some))
named_on label (m ∷ mods) [] handler name some one h n same rest = absurd (omega (arith, one))
named_on label (m ∷ mods) (x ∷ names) handler name some one h n same rest =
    let first : x ≡ label m = sym n ∙ sym same ∙ ap label h in
    let others : names ≡ map label mods = sym (take_rest (x ∷ names) 1) ∙ rest ∙ ap (map label) (take_rest (m ∷ mods) 1) in
    cc

pub returns-then-eq : goal.returns-then-eq
returns-then-eq g t c = λ is.
    let same : c.name_of.result.now ≡ c.bytes.result.now = search rules in
    named_on _ c.args.mods.now c.args.names.now c.handler-item.result c.name-item.result (search rules) (search rules) c.handler-item.is c.name-item.is
    (sym c.name_of.ensures ∙ same ∙ c.bytes.ensures) (c.are_named.ensures is)
