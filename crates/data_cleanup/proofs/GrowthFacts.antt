-- Growth is transitive.
use Rattle.std.proofs.Common.{◌≡◌, ℕ, ◌≤◌, List, [], ◌∷◌, ◌++◌, length, map, refl, sym, ap, subst, ◌∙◌, append_assoc, arith, length-append}
use Rattle.std.specs.List.{AllByRecursion}
use Rattle.std.proofs.lemmas.List.{append-nil}
use Rattle.data_cleanup.specs.Datum.{PlainDatum}
use Rattle.data_cleanup.specs.DataList.{PlainDataList, with_datum, data_named, datum_of}
use Rattle.data_cleanup.specs.Ledger.{PlainLedger}
use Rattle.data_cleanup.specs.Cleanup.{Notes}
use Rattle.data_cleanup.specs.Grows.{with_births, replacements, AreSwept, IsOf, Grows}
use Rattle.data_cleanup.specs.declared.datum.Birth.{Birth}
use Rattle.data_cleanup.specs.declared.receipt.Filed.{Filed}
use Rattle.data_cleanup.proofs.CleanupRecordFacts.{all-append}

with_births-append : (live : List PlainDatum) (xs ys : List Birth) → with_births live (xs ++ ys) ≡ with_births (with_births live xs) ys
with_births-append live [] ys = refl
with_births-append live (x ∷ xs) ys = with_births-append (with_datum live (datum_of x)) xs ys

replacements-append : (live : List PlainDatum) (xs ys : List Birth)
    → replacements live (xs ++ ys) ≡ replacements live xs ++ replacements (with_births live xs) ys
replacements-append live [] ys = refl
replacements-append live (x ∷ xs) ys =
    ap (λ (rs : List (PlainDatum × ℕ)). map (λ (d : PlainDatum). (d, x.id)) (data_named live x.name) ++ rs) (replacements-append (with_datum live (datum_of x)) xs ys)
    ∙ sym (append_assoc (map (λ (d : PlainDatum). (d, x.id)) (data_named live x.name)) (replacements (with_datum live (datum_of x)) xs) (replacements (with_births live (x ∷ xs)) ys))

swept-more : (note : Notes) (m n : ℕ) (rs : List (PlainDatum × ℕ)) (fs : List Filed) → m ≤ n → AreSwept note m rs fs → AreSwept note n rs fs
swept-more note m n [] [] le s = tt
swept-more note m n (r ∷ rs) (f ∷ fs) le s = (record { id = s.0.id; status = s.0.status; by_owner = s.0.by_owner; after = s.0.after; within = omega (arith, s.0.within) }, swept-more note m n rs fs le s.1)
swept-more note m n [] (f ∷ fs) le s = absurd s
swept-more note m n (r ∷ rs) [] le s = absurd s

swept-append : (note : Notes) (n : ℕ) (rs : List (PlainDatum × ℕ)) (fs : List Filed) (qs : List (PlainDatum × ℕ)) (gs : List Filed)
    → AreSwept note n rs fs → AreSwept note n qs gs → AreSwept note n (rs ++ qs) (fs ++ gs)
swept-append note n [] [] qs gs s t = t
swept-append note n (r ∷ rs) (f ∷ fs) qs gs s t = (s.0, swept-append note n rs fs qs gs s.1 t)
swept-append note n [] (f ∷ fs) qs gs s t = absurd s
swept-append note n (r ∷ rs) [] qs gs s t = absurd s

pub list_is : (m n : ℕ) (xs ys : List PlainDatum) → m ≡ n → xs ≡ ys
    → ◌≡◌ {A = PlainDataList} (record { handle = m; live = xs; gone = [] }) (record { handle = n; live = ys; gone = [] })
list_is m n xs ys e f = cc

pub grows_transitive : (note : Notes) (modules : ℕ) (x y z : PlainDataList) (a b c : PlainLedger) → Grows note modules x a y b
    → Grows note modules y b z c → Grows note modules x a z c
grows_transitive note modules x y z a b c g h =
    let longer : length b.births ≤ length c.births = rw h.births (omega (arith, length-append b.births h.added)) in
    let handle : y.handle ≡ x.handle = ap (λ (l : PlainDataList). l.handle) g.list in
    let live : y.live ≡ with_births x.live g.added = ap (λ (l : PlainDataList). l.live) g.list in
    let second : AreSwept note (length c.births) (replacements (with_births x.live g.added) h.added) h.receipts = subst (λ (l : List PlainDatum). AreSwept note (length c.births) (replacements l h.added) h.receipts) live h.swept in
    record {
      added = g.added ++ h.added;
      receipts = g.receipts ++ h.receipts;
      births = h.births ∙ rw g.births (append_assoc a.births g.added h.added);
      each = all-append _ g.added h.added g.each (subst (λ n. AllByRecursion (IsOf modules n) h.added) handle h.each);
      list = h.list ∙ list_is _ _ _ _ handle (ap (λ (l : List PlainDatum). with_births l h.added) live ∙ sym (with_births-append x.live g.added h.added));
      filed = h.filed ∙ rw g.filed (append_assoc a.filed g.receipts h.receipts);
      swept = rw replacements-append (swept-append note (length c.births) (replacements x.live g.added) g.receipts (replacements (with_births x.live g.added) h.added) h.receipts (swept-more note (length b.births) (length c.births) _ _ longer g.swept) second);
    }

with_gone : PlainDataList → List PlainDatum → PlainDataList
with_gone l gs = record { handle = l.handle; live = l.live; gone = gs }

pub grows_none : (note : Notes) (modules : ℕ) (l : PlainDataList) (a : PlainLedger) → l.gone ≡ [] → Grows note modules l a l a
unfolding with_gone
grows_none note modules l a none = record { added = []; receipts = []; births = sym (append-nil a.births); each = tt; list = ap (with_gone l) none; filed = sym (append-nil a.filed); swept = tt }
