-- Data that a module sets, one after another.
use Rattle.std.proofs.Common.{◌≡◌, ℕ, ◌+◌, List, [], ◌∷◌, ◌++◌, length, refl, sym, ap, ◌∙◌, append_assoc, arith, length-append}
use Rattle.std.specs.List.{AllByRecursion}
use Rattle.std.proofs.lemmas.List.{append-nil}
use Rattle.data_cleanup.specs.DataList.{PlainDataList, birth_of, hold, hold_all}
use Rattle.data_cleanup.specs.Ledger.{PlainLedger}
use Rattle.data_cleanup.specs.Sets.{IsBy, Sets}
use Rattle.data_cleanup.specs.declared.datum.Birth.{Birth}
use Rattle.pam_room.specs.Module.{HasSet, NamedData, births_of}

births-append : (id handle owner : ℕ) (xs ys : List NamedData)
    → births_of id handle owner (xs ++ ys) ≡ births_of id handle owner xs ++ births_of (id + length xs) handle owner ys
births-append id handle owner [] ys = ap (λ k. births_of k handle owner ys) (let e : id ≡ id + 0 = omega arith in e)
births-append id handle owner (x ∷ xs) ys =
    ap (λ (bs : List Birth). birth_of id handle owner x.name x.payload ∷ bs) (
    births-append (id + 1) handle owner xs ys
    ∙ ap (λ k. births_of (id + 1) handle owner xs ++ births_of k handle owner ys) (let e : id + 1 + length xs ≡ id + length (x ∷ xs) = omega arith in e)
    )

births-length : (id handle owner : ℕ) (xs : List NamedData) → length (births_of id handle owner xs) ≡ length xs
births-length id handle owner [] = refl
births-length id handle owner (x ∷ xs) = let e = births-length (id + 1) handle owner xs in omega (arith, e)

births_by : (id handle owner : ℕ) (xs : List NamedData) → AllByRecursion (IsBy handle owner) (births_of id handle owner xs)
births_by id handle owner [] = tt
births_by id handle owner (x ∷ xs) = (record { handle_is = refl; owner_is = refl }, births_by (id + 1) handle owner xs)

hold_all-append : (h : PlainDataList) (xs ys : List Birth) → hold_all h (xs ++ ys) ≡ hold_all (hold_all h xs) ys
hold_all-append h [] ys = refl
hold_all-append h (x ∷ xs) ys = hold_all-append (hold h x) xs ys

hold_all-handle : (h : PlainDataList) (bs : List Birth) → (hold_all h bs).handle ≡ h.handle
hold_all-handle h [] = refl
hold_all-handle h (b ∷ bs) = hold_all-handle (hold h b) bs

module _ (owner : ℕ) where
  pub set_none : (list : PlainDataList) (ledger : PlainLedger) → HasSet owner [] list ledger list ledger
  set_none list ledger = record { list = refl; ledger = ap (λ (bs : List Birth). record ledger { births = bs }) (sym (append-nil ledger.births)) }

  pub set_handle : (ds : List NamedData) (x y : PlainDataList) (a b : PlainLedger) → HasSet owner ds x a y b → y.handle ≡ x.handle
  set_handle ds x y a b s = ap (λ (l : PlainDataList). l.handle) s.list ∙ hold_all-handle x (births_of (length a.births) x.handle owner ds)

  pub set_sets : (ds : List NamedData) (x y : PlainDataList) (a b : PlainLedger) → HasSet owner ds x a y b → Sets owner x a y b
  set_sets ds x y a b s = record {
    added = births_of (length a.births) x.handle owner ds;
    births = ap (λ (l : PlainLedger). l.births) s.ledger;
    each = births_by (length a.births) x.handle owner ds;
    list = s.list;
    filed = ap (λ (l : PlainLedger). l.filed) s.ledger;
  }

  pub set_more : (ds es : List NamedData) (x y z : PlainDataList) (a b c : PlainLedger) → HasSet owner ds x a y b → HasSet owner es y b z c
      → HasSet owner (ds ++ es) x a z c
  set_more ds es x y z a b c s t =
      let handle = set_handle ds x y a b s in
      let grown : length b.births ≡ length a.births + length ds = ap (λ (l : PlainLedger). length l.births) s.ledger ∙ length-append a.births (births_of (length a.births) x.handle owner ds) ∙ ap (λ n. length a.births + n) (births-length (length a.births) x.handle owner ds) in
      let more : births_of (length a.births) x.handle owner (ds ++ es) ≡ births_of (length a.births) x.handle owner ds ++ births_of (length b.births) y.handle owner es = births-append (length a.births) x.handle owner ds es ∙ rw (grown, handle) refl in
      record {
        list = t.list ∙ ap (λ (l : PlainDataList). hold_all l (births_of (length b.births) y.handle owner es)) s.list ∙ sym (hold_all-append x (births_of (length a.births) x.handle owner ds) (births_of (length b.births) y.handle owner es)) ∙ ap (hold_all x) (sym more);
        ledger = t.ledger ∙ ap (λ (l : PlainLedger). record l { births = l.births ++ births_of (length b.births) y.handle owner es }) s.ledger
            ∙ ap (λ (bs : List Birth). record a { births = bs }) (append_assoc a.births _ _ ∙ ap (λ (bs : List Birth). a.births ++ bs) (sym more));
      }
