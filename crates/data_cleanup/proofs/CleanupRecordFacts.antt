-- Data are taken one after another, and each gets its cleanup record.
use Rattle.std.proofs.Common.{◌≡◌, ℕ, ◌+◌, ◌≤◌, Bool, true, false, cond, if◌then◌else◌, eqb, List, [], ◌∷◌, ◌++◌, length, reverse, refl, sym, ap, subst, ◌∙◌, append_assoc, arith}
use Rattle.std.specs.List.{AllByRecursion}
use Rattle.std.proofs.lemmas.List.{map-append, reverse-append, append-nil}
use Rattle.std.proofs.lemmas.List.Folds.{list_any-append}
use Rattle.data_cleanup.specs.Datum.{PlainDatum}
use Rattle.data_cleanup.specs.Ledger.{PlainLedger, is_filed}
use Rattle.data_cleanup.specs.Cleanup.{Notes, AwaitsCleanup, AwaitCleanup, IsCleaningUp, times, receipts_for, ledger_after}
use Rattle.data_cleanup.specs.declared.receipt.Filed.{Filed}
use Rattle.data_cleanup.specs.declared.receipt.Receipt.{Receipt}

pub times-append : (id : ℕ) (xs ys : List PlainDatum) → times id (xs ++ ys) ≡ times id xs + times id ys
times-append id [] ys = omega arith
times-append id (x ∷ xs) ys = omega (arith, times-append id xs ys)

pub all-append : {A : Type 0} (P : A → Type 0) (xs ys : List A) → AllByRecursion P xs → AllByRecursion P ys → AllByRecursion P (xs ++ ys)
all-append P [] ys a b = b
all-append P (x ∷ xs) ys a b = (a.0, all-append P xs ys a.1 b)

pub all-front : {A : Type 0} (P : A → Type 0) (xs ys : List A) → AllByRecursion P (xs ++ ys) → AllByRecursion P xs
all-front P [] ys a = tt
all-front P (x ∷ xs) ys a = (a.0, all-front P xs ys a.1)

pub all-back : {A : Type 0} (P : A → Type 0) (xs ys : List A) → AllByRecursion P (xs ++ ys) → AllByRecursion P ys
all-back P [] ys a = a
all-back P (x ∷ xs) ys a = all-back P xs ys a.1

pub begins : (note : Notes) (status : ℕ) (before : PlainLedger) (all : List PlainDatum) → IsCleaningUp note status before all before all
begins note status before all = record { births = refl; filed = refl }

one_more : (note : Notes) (status : ℕ) (before : PlainLedger) (all : List PlainDatum) (now next : PlainLedger) (left rest : List PlainDatum) (d : PlainDatum)
    → IsCleaningUp note status before all now left → left ≡ d ∷ rest
    → next ≡ record { births = now.births; filed = now.filed ++ record { receipt = record { id = d.id; status = status; note = note d.owner d.payload status }; mark = length now.births } ∷ [] }
    → IsCleaningUp note status before all next rest
one_more note status before all now next left rest d t took filed =
    let f : Filed = record { receipt = record { id = d.id; status = status; note = note d.owner d.payload status }; mark = length now.births } in
    record {
      births = ap (λ (l : PlainLedger). l.births) filed ∙ t.births;
      filed = ap (λ (l : PlainLedger). l.filed ++ receipts_for note status (length before.births) rest) filed
          ∙ append_assoc now.filed (f ∷ []) (receipts_for note status (length before.births) rest)
          ∙ rw t.births (rw took at t.filed);
    }

pub goes_on : (note : Notes) (status : ℕ) (before : PlainLedger) (all : List PlainDatum) (now next : PlainLedger) (left rest : List PlainDatum) (d : PlainDatum) (receipt : Receipt)
    → IsCleaningUp note status before all now left → left ≡ d ∷ rest
    → receipt ≡ record { id = d.id; status = status; note = note d.owner d.payload status }
    → next ≡ record { births = now.births; filed = now.filed ++ record { receipt = receipt; mark = length now.births } ∷ [] }
    → IsCleaningUp note status before all next rest
goes_on note status before all now next left rest d receipt t took is filed = one_more note status before all now next left rest d t took (rw is at filed)

ledger_is : (bs cs : _) (fs gs : List Filed) → bs ≡ cs → fs ≡ gs
    → ◌≡◌ {A = PlainLedger} (record { births = bs; filed = fs }) (record { births = cs; filed = gs })
ledger_is bs cs fs gs e f = cc

pub ends : (note : Notes) (status : ℕ) (before : PlainLedger) (all : List PlainDatum) (now : PlainLedger) (left : List PlainDatum)
    → IsCleaningUp note status before all now left → left ≡ [] → now ≡ ledger_after note status all before
ends note status before all now left t none =
    let filed : now.filed ++ [] ≡ before.filed ++ receipts_for note status (length before.births) all = rw none at t.filed in
    ledger_is _ _ _ _ t.births (sym (append-nil now.filed) ∙ filed)

unfiled_still : (ledger : PlainLedger) (f : Filed) (id : ℕ) → is_filed ledger id ≡ false → eqb id f.receipt.id ≡ false
    → is_filed (record { births = ledger.births; filed = ledger.filed ++ f ∷ [] }) id ≡ false
unfiled_still ledger f id outstanding apart = rw (map-append, list_any-append) (rw (outstanding, apart) refl)

apart : (b : Bool) (n : ℕ) → cond b 1 0 + n ≡ 0 → b ≡ false
apart true n e = absurd (omega (arith, e))
apart false n e = refl

none_left : (b : Bool) (n : ℕ) → cond b 1 0 + n ≡ 0 → n ≡ 0
none_left true n e = absurd (omega (arith, e))
none_left false n e = omega (arith, e)

-- data elsewhere in the list have another id
still_await : (modules : ℕ) (ledger : PlainLedger) (f : Filed) (ds : List PlainDatum) → times f.receipt.id ds ≡ 0
    → AllByRecursion (AwaitsCleanup modules ledger) ds
    → AllByRecursion (AwaitsCleanup modules (record { births = ledger.births; filed = ledger.filed ++ f ∷ [] })) ds
still_await modules ledger f [] none all = tt
still_await modules ledger f (x ∷ xs) none all = (
  record {
    outstanding = record { born = all.0.outstanding.born; unfiled = unfiled_still ledger f x.id all.0.outstanding.unfiled (apart _ _ none) };
    owner = all.0.owner;
  },
  still_await modules ledger f xs (none_left _ _ none) all.1,
)

eqb_same : (n : ℕ) → eqb n n ≡ true
eqb_same n = grind arith

none_more : (id : ℕ) (ds : List PlainDatum) → (if eqb id id then 1 else 0) + times id ds ≤ 1 → times id ds ≡ 0
none_more id ds le = let h : 1 + times id ds ≤ 1 = rw (eqb_same id) at le in omega (arith, h)

less : (b : Bool) (n : ℕ) → cond b 1 0 + n ≤ 1 → n ≤ 1
less true n le = omega (arith, le)
less false n le = omega (arith, le)

-- the first data get their cleanup record, and the others still wait for theirs
pub others_await : (modules : ℕ) (ledger next : PlainLedger) (all rest : List PlainDatum) (d : PlainDatum) (receipt : Receipt)
    → AwaitCleanup modules ledger all → all ≡ d ∷ rest
    → receipt.id ≡ d.id → next ≡ record { births = ledger.births; filed = ledger.filed ++ record { receipt = receipt; mark = length ledger.births } ∷ [] }
    → AwaitCleanup modules next rest
others_await modules ledger next all rest d receipt o is same filed =
    let f : Filed = record { receipt = receipt; mark = length ledger.births } in
    let o' : AwaitCleanup modules ledger (d ∷ rest) = subst (AwaitCleanup modules ledger) is o in
    subst (λ (l : PlainLedger). AwaitCleanup modules l rest) (sym filed) (record {
      each = still_await modules ledger f rest (rw same (none_more d.id rest (o'.once d.id))) o'.each.1;
      once = λ id. less _ _ (o'.once id);
    })

pub next_awaits : (modules : ℕ) (ledger : PlainLedger) (all rest : List PlainDatum) (d : PlainDatum) → AwaitCleanup modules ledger all
    → all ≡ d ∷ rest → AwaitsCleanup modules ledger d
next_awaits modules ledger all rest d o is = let o' : AwaitCleanup modules ledger (d ∷ rest) = subst (AwaitCleanup modules ledger) is o in o'.each.0

pub all-reverse : {A : Type 0} (P : A → Type 0) (xs : List A) → AllByRecursion P xs → AllByRecursion P (reverse xs)
all-reverse P [] a = tt
all-reverse {A} P (x ∷ xs) a = subst (AllByRecursion P) (sym (reverse-append (x ∷ []) xs)) (all-append P (reverse xs) (x ∷ []) (all-reverse P xs a.1) (a.0, tt))

times-reverse : (id : ℕ) (xs : List PlainDatum) → times id (reverse xs) ≡ times id xs
times-reverse id [] = refl
times-reverse id (x ∷ xs) = ap (times id) (reverse-append (x ∷ []) xs) ∙ omega (arith, times-append id (reverse xs) (x ∷ []), times-reverse id xs)

-- in the other order they are open too
pub await_reverse : (modules : ℕ) (ledger : PlainLedger) (ds : List PlainDatum) → AwaitCleanup modules ledger ds → AwaitCleanup modules ledger (reverse ds)
await_reverse modules ledger ds o = record { each = all-reverse _ ds o.each; once = λ id. rw (times-reverse id ds) (o.once id) }

pub newest_first : (xs ys : List PlainDatum) (d : PlainDatum) → xs ≡ ys ++ d ∷ [] → reverse xs ≡ d ∷ reverse ys
newest_first xs ys d e = ap reverse e ∙ reverse-append ys (d ∷ [])
