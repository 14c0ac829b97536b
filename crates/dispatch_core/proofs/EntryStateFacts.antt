-- Entry states by level, as substacks are entered.
use Rattle.std.proofs.Common.{◌≡◌, ◌≢◌, ◌<◌, List, length, slice_set, ℕ, zero, suc, ◌+◌, ◌≤◌, true, false, ◌&&◌, nat_le, nat_lt, refl, sym, ◌∙◌, ap, zero-add, add-one, arith}
use Rattle.std.proofs.lemmas.Bool.Decides.{nat_tests}
use Rattle.std.proofs.lemmas.Grind.{get_or-set_at}
use Rattle.std.proofs.lemmas.List.{get_or-set_other}
use Rattle.handler_chain.specs.Opinion.{opening}
use Rattle.handler_chain.specs.FlatLines.{pending}
use Rattle.handler_chain.specs.declared.opinion.Opinion.{Opinion}
use Rattle.dispatch_core.specs.EntryStates.{Entries, entry_at, entered}

pub entered_none : (level : ℕ) (o : Opinion) (f : Entries) (k : ℕ) → entered level 0 o f k ≡ f k
entered_none level o f k = let test : (nat_le k level && nat_lt level (k + 0)) ≡ false = grind (arith, nat_tests) in rw test refl

pub entered_under : (level opens : ℕ) (o : Opinion) (f : Entries) (k : ℕ) → k ≤ level → entered (level + 1) (opens + 1) o f k ≡ entered level opens o f k
entered_under level opens o f k le =
    let test : (nat_le k (level + 1) && nat_lt (level + 1) (k + (opens + 1))) ≡ (nat_le k level && nat_lt level (k + opens)) = grind (arith, nat_tests) in rw test refl

pub entered_first : (level opens : ℕ) (o : Opinion) (f : Entries) → entered (level + 1) (opens + 1) o f (level + 1) ≡ o
entered_first level opens o f =
    let test : (nat_le (level + 1) (level + 1) && nat_lt (level + 1) (level + 1 + (opens + 1))) ≡ true = grind (arith, nat_tests) in rw test refl

pub entered_closed : (lines level opens : ℕ) (o : Opinion) (f : Entries) (k : ℕ) → k ≤ level
    → entered (level + 1) (pending lines (opens + 1)) o f k ≡ entered level (pending lines opens) o f k
entered_closed zero level opens o f k le = entered_under level opens o f k le
entered_closed (suc lines) level opens o f k le = entered_none (level + 1) o f k ∙ sym (entered_none level o f k)

pub pending_none : (lines : ℕ) → pending lines 0 ≡ 0
pending_none zero = refl
pending_none (suc lines) = refl

pub pending_line : (lines opens : ℕ) → pending (lines + 1) opens ≡ 0
pending_line lines opens = ap (λ n. pending n opens) (add-one lines)

pub pending_sum : (first second opens : ℕ) → pending second (pending first opens) ≡ pending (first + second) opens
pending_sum zero second opens = ap (λ n. pending n opens) (sym (zero-add second))
pending_sum (suc first) second opens = pending_none second ∙ ap (λ n. pending n opens) (let e : suc (first + second) ≡ suc first + second = omega arith in e)

pub entry_at-set_same : (xs : List Opinion) (i n : ℕ) (o : Opinion) → n ≡ i → i < length xs → entry_at (slice_set xs i o) n ≡ o
entry_at-set_same xs i n o same within = get_or-set_at xs i n o opening same within

pub entry_at-set_other : (xs : List Opinion) (i n : ℕ) (o : Opinion) → n ≢ i → entry_at (slice_set xs i o) n ≡ entry_at xs n
entry_at-set_other xs i n o other = get_or-set_other xs i n o opening other
