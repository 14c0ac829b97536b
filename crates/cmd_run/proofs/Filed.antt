-- If no transaction is open, none has data.
use Rattle.std.proofs.Common.{◌≡◌, ℕ, zero, suc, Bool, true, false, List, [], ◌∷◌, Option, Some, None, refl, sym, ap, ◌∙◌}
use Rattle.std.specs.Prelude.{slice_get}
use Rattle.report_step.specs.pam_library.specs.Slots.{PlainSlot, NoneIsOpen, closed, opened, is_open, data_in, lists_of}

closed_at : (slots : List PlainSlot) (i : ℕ) (slot : PlainSlot) → NoneIsOpen slots → slice_get slots i ≡ Some slot → is_open slot ≡ false
closed_at [] i slot none e = absurd cc
closed_at (x ∷ slots) zero slot none e =
    let same : x ≡ slot = cc in
    ap is_open (sym same) ∙ none.0
closed_at (x ∷ slots) (suc i) slot none e = closed_at slots i slot none.1 e

no_data_at : (slots : List PlainSlot) (i : ℕ) (o : Option PlainSlot) → NoneIsOpen slots → slice_get slots i ≡ o → (data_in (suc i) o).live ≡ []
no_data_at slots i None none e = refl
no_data_at slots i (Some (closed conv)) none e = refl
no_data_at slots i (Some (opened h)) none e =
    let is : ◌≡◌ {A = Bool} true false = closed_at slots i (opened h) none e in
    absurd cc

pub no_data : (slots : List PlainSlot) → NoneIsOpen slots → (handle : ℕ) → (lists_of slots handle).live ≡ []
no_data slots none zero = refl
no_data slots none (suc i) = no_data_at slots i (slice_get slots i) none refl
