-- The data that were set for a transaction, looked at from the newest to the oldest.
use Rattle.std.proofs.Common.{◌≡◌, ℕ, Bool, true, false, ◌||◌, eqb, arith, if◌then◌else◌, List, [], ◌∷◌, ◌++◌, map, reverse, refl, sym, ap, ◌∙◌, append_assoc}
use Rattle.std.specs.List.{list_any, flat_map, AllByRecursion}
use Rattle.std.specs.Str.{bytes_eq}
use Rattle.std.proofs.lemmas.List.{reverse-append, append-nil, map-append}
use Rattle.data_cleanup.specs.Datum.{PlainDatum}
use Rattle.data_cleanup.specs.DataList.{data_named, datum_of, with_datum}
use Rattle.data_cleanup.specs.Cleanup.{Notes, data_replace}
use Rattle.data_cleanup.specs.Grows.{replacements, with_births}
use Rattle.data_cleanup.specs.Due.{Event, birth, due, due_after, ends, first_of_each, latest, made_due, receipt_of, since_end, unreplaced_births}
use Rattle.data_cleanup.specs.declared.datum.Birth.{Birth}
use Rattle.data_cleanup.specs.declared.receipt.Receipt.{Receipt}
use Rattle.data_cleanup.specs.Holding.{data_held, receipts, replaced_data}
use Rattle.data_cleanup.proofs.DataNameFacts.{by_test, name_is, name_same, names_flip, data_named-with_datum, has, has-with_datum, Apart, apart-with_datum, renewed, placed_is}

-- the data that are there after some were set, the newest first
abbrev pub hold_back : List Birth → List PlainDatum
hold_back [] = []
hold_back (b ∷ before) = with_datum (hold_back before) (datum_of b)

pub latest_is : (births : List Birth) (n : List ℕ) → map datum_of (latest n births) ≡ data_named (hold_back births) n
latest_is [] n = refl
latest_is (b ∷ before) n = rw data_named-with_datum (by_test (bytes_eq b.name n) (λ e. rw e refl) (λ e. rw e (latest_is before n)))

pub with_births-append : (live : List PlainDatum) (xs ys : List Birth) → with_births live (xs ++ ys) ≡ with_births (with_births live xs) ys
with_births-append live [] ys = refl
with_births-append live (x ∷ xs) ys = with_births-append (with_datum live (datum_of x)) xs ys

pub with_births-reverse : (births : List Birth) → with_births [] (reverse births) ≡ hold_back births
with_births-reverse [] = refl
with_births-reverse (b ∷ before) =
    ap (with_births []) (reverse-append (b ∷ []) before)
    ∙ with_births-append [] (reverse before) (b ∷ [])
    ∙ ap (λ (l : List PlainDatum). with_datum l (datum_of b)) (with_births-reverse before)

or_true : (b : Bool) → (b || true) ≡ true
or_true true = refl
or_true false = refl

eqb_same : (n : ℕ) → eqb n n ≡ true
eqb_same n = grind arith

pub since_own : (h : ℕ) (b : Birth) (past : List Event) → b.handle ≡ h → since_end h (birth b ∷ past) ≡ b ∷ since_end h past
since_own h b past e = rw (e, eqb_same h) refl

pub since_ended : (h status : ℕ) (past : List Event) → since_end h (ends h status ∷ past) ≡ []
since_ended h status past = rw (eqb_same h) refl

receipts_of_births : (note : Notes) (status : ℕ) (bs : List Birth) → map (receipt_of note status) bs ≡ receipts note status (map datum_of bs)
receipts_of_births note status [] = refl
receipts_of_births note status (b ∷ bs) = ap (λ (rs : List Receipt). receipt_of note status b ∷ rs) (receipts_of_births note status bs)

pub receipts-append : (note : Notes) (status : ℕ) (xs ys : List PlainDatum)
    → receipts note status (xs ++ ys) ≡ receipts note status xs ++ receipts note status ys
receipts-append note status xs ys = map-append _ xs ys

-- which cleanups the data that are set for one transaction make due
data_before : (i : ℕ) (ns : List PlainDatum) (rs : List (PlainDatum × ℕ))
    → map (λ (r : PlainDatum × ℕ). r.0) (map (λ (d : PlainDatum). (d, i)) ns ++ rs) ≡ ns ++ map (λ (r : PlainDatum × ℕ). r.0) rs
data_before i [] rs = refl
data_before i (n ∷ ns) rs = ap (λ (ds : List PlainDatum). n ∷ ds) (data_before i ns rs)

pub replaced_data-cons : (live : List PlainDatum) (b : Birth) (bs : List Birth)
    → replaced_data live (b ∷ bs) ≡ data_named live b.name ++ replaced_data (with_datum live (datum_of b)) bs
replaced_data-cons live b bs = data_before b.id (data_named live b.name) (replacements (with_datum live (datum_of b)) bs)

pub due_births : (note : Notes) (h : ℕ) (past : List Event) (bs : List Birth) → AllByRecursion (λ (b : Birth). b.handle ≡ h) bs
    → due_after note past (map birth bs) ≡ receipts note data_replace (replaced_data (hold_back (since_end h past)) bs)
due_births note h past [] all = refl
due_births note h past (b ∷ bs) all =
    let live = hold_back (since_end h past) in
    let first : map (receipt_of note data_replace) (latest b.name (since_end b.handle past)) ≡ receipts note data_replace (data_named live b.name) =
    rw all.0 (receipts_of_births note data_replace (latest b.name (since_end h past)) ∙ ap (receipts note data_replace) (latest_is (since_end h past) b.name)) in
    let rest : due_after note (birth b ∷ past) (map birth bs) ≡ receipts note data_replace (replaced_data (with_datum live (datum_of b)) bs) =
    due_births note h (birth b ∷ past) bs all.1 ∙ ap (λ (r : List Birth). receipts note data_replace (replaced_data (hold_back r) bs)) (since_own h b past all.0) in
    ap (λ (rs : List Receipt). rs ++ due_after note (birth b ∷ past) (map birth bs)) first
    ∙ ap (λ (rs : List Receipt). receipts note data_replace (data_named live b.name) ++ rs) rest
    ∙ sym (receipts-append note data_replace (data_named live b.name) (replaced_data (with_datum live (datum_of b)) bs))
    ∙ ap (receipts note data_replace) (sym (replaced_data-cons live b bs))

-- which cleanups an end makes due
pub has_back : (births : List Birth) (n : List ℕ) → list_any (λ (c : Birth). bytes_eq c.name n) births ≡ has n (hold_back births)
has_back [] n = refl
has_back (b ∷ before) n = rw has-with_datum (ap (λ (t : Bool). bytes_eq b.name n || t) (has_back before n))

pub apart_back : (births : List Birth) → Apart (hold_back births)
apart_back [] = tt
apart_back (b ∷ before) = apart-with_datum (hold_back before) (datum_of b) (apart_back before)

abbrev spread : List PlainDatum → List Birth → List PlainDatum
spread live fs = flat_map (λ (f : Birth). data_named live f.name) fs

abbrev AllIn : List PlainDatum → List Birth → Type 0
AllIn live fs = AllByRecursion (λ (f : Birth). has f.name live ≡ true) fs

all_more : (live : List PlainDatum) (d : PlainDatum) (fs : List Birth) → AllIn live fs → AllIn (with_datum live d) fs
all_more live d [] all = tt
all_more live d (f ∷ fs) all = (rw (has-with_datum live d f.name, all.0) (or_true (bytes_eq d.name f.name)), all_more live d fs all.1)

all_firsts : (births : List Birth) → AllIn (hold_back births) (first_of_each births)
all_firsts [] = tt
all_firsts (b ∷ before) =
    let rest = all_more (hold_back before) (datum_of b) (first_of_each before) (all_firsts before) in
    by_test (list_any (λ (c : Birth). bytes_eq c.name b.name) before)
    (λ e. rw e rest)
    (λ e. rw e (rw (has-with_datum, name_same b.name) refl, rest))

renewed_named : (live : List PlainDatum) (d : PlainDatum) (n : List ℕ) → has n live ≡ true → data_named (with_datum live d) n ≡ renewed d (data_named live n)
renewed_named live d n here = data_named-with_datum live d n ∙ chosen live here where
  chosen : (ds : List PlainDatum) → has n ds ≡ true → (if bytes_eq d.name n then d ∷ [] else data_named ds n) ≡ renewed d (data_named ds n)
  chosen [] t = absurd cc
  chosen (x ∷ xs) t = by_test (bytes_eq x.name n)
      (λ e. rw (e, name_is x.name n e) (by_test (bytes_eq d.name n)
      (λ s. rw (s, name_is d.name n s, name_same n) refl)
      (λ s. rw (s, names_flip d.name n s) refl)))
      (λ e. rw e (chosen xs (rw e at t)))

spread_more : (live : List PlainDatum) (d : PlainDatum) (fs : List Birth) → AllIn live fs → spread (with_datum live d) fs ≡ renewed d (spread live fs)
spread_more live d [] all = refl
spread_more live d (f ∷ fs) all = rw (renewed_named live d f.name all.0, spread_more live d fs all.1) (sym (map-append _ (data_named live f.name) (spread live fs)))

renewed-reverse : (d : PlainDatum) (ds : List PlainDatum) → renewed d (reverse ds) ≡ reverse (renewed d ds)
renewed-reverse d [] = refl
renewed-reverse d (x ∷ xs) =
    let new : PlainDatum = if bytes_eq x.name d.name then d else x in
    ap (renewed d) (reverse-append (x ∷ []) xs)
    ∙ map-append _ (reverse xs) (x ∷ [])
    ∙ ap (λ (ys : List PlainDatum). ys ++ new ∷ []) (renewed-reverse d xs)
    ∙ sym (reverse-append (new ∷ []) (renewed d xs))

standing_spread : (births fs : List Birth) → map datum_of (flat_map (λ (f : Birth). latest f.name births) fs) ≡ spread (hold_back births) fs
standing_spread births [] = refl
standing_spread births (f ∷ fs) =
    map-append datum_of (latest f.name births) (flat_map (λ (g : Birth). latest g.name births) fs)
    ∙ ap (λ (ds : List PlainDatum). ds ++ map datum_of (flat_map (λ (g : Birth). latest g.name births) fs)) (latest_is births f.name)
    ∙ ap (λ (ds : List PlainDatum). data_named (hold_back births) f.name ++ ds) (standing_spread births fs)

spread_back : (births : List Birth) → spread (hold_back births) (first_of_each births) ≡ reverse (hold_back births)
spread_back [] = refl
spread_back (b ∷ before) =
    let live = hold_back before in
    let d = datum_of b in
    let more : spread (with_datum live d) (first_of_each before) ≡ reverse (renewed d live) =
    spread_more live d (first_of_each before) (all_firsts before) ∙ ap (renewed d) (spread_back before) ∙ renewed-reverse d live in
    let here : data_named (with_datum live d) b.name ≡ d ∷ [] = rw (data_named-with_datum, name_same b.name) refl in
    let is = placed_is live d (apart_back before) in
    by_test (list_any (λ (c : Birth). bytes_eq c.name b.name) before)
    (λ e. let old : has b.name live ≡ true = sym (has_back before b.name) ∙ e in
    let kept : with_datum live d ≡ renewed d live = is ∙ rw old (append-nil (renewed d live)) in
    rw e (more ∙ sym (ap reverse kept)))
    (λ e. let new : has b.name live ≡ false = sym (has_back before b.name) ∙ e in
    let longer : with_datum live d ≡ renewed d live ++ d ∷ [] = is ∙ rw new refl in
    rw e (ap (λ (ds : List PlainDatum). ds ++ spread (with_datum live d) (first_of_each before)) here ∙ ap (λ (ds : List PlainDatum). d ∷ ds) more
    ∙ sym (ap reverse longer ∙ reverse-append (renewed d live) (d ∷ []))))

pub standing_is : (births : List Birth) → map datum_of (unreplaced_births births) ≡ reverse (hold_back births)
standing_is births = standing_spread births (first_of_each births) ∙ spread_back births

pub due_end : (note : Notes) (h status : ℕ) (past : List Event)
    → due_after note past (ends h status ∷ []) ≡ receipts note status (reverse (hold_back (since_end h past)))
due_end note h status past = append-nil _ ∙ receipts_of_births note status (unreplaced_births (since_end h past)) ∙ ap (receipts note status) (standing_is (since_end h past))

pub reverse_front : {A : Type 0} (x : A) (xs past : List A) → reverse (x ∷ xs) ++ past ≡ reverse xs ++ x ∷ past
reverse_front x xs past = ap (λ l. l ++ past) (reverse-append (x ∷ []) xs) ∙ append_assoc (reverse xs) (x ∷ []) past

pub due_after-append : (note : Notes) (past xs ys : List Event)
    → due_after note past (xs ++ ys) ≡ due_after note past xs ++ due_after note (reverse xs ++ past) ys
due_after-append note past [] ys = refl
due_after-append note past (x ∷ xs) ys =
    ap (λ (rs : List Receipt). made_due note past x ++ rs) (due_after-append note (x ∷ past) xs ys ∙ ap (λ (p : List Event). due_after note (x ∷ past) xs ++ due_after note p ys) (sym (reverse_front x xs past)))
    ∙ sym (append_assoc (made_due note past x) (due_after note (x ∷ past) xs) (due_after note (reverse (x ∷ xs) ++ past) ys))

pub law_births : (note : Notes) (events : List Event) (handle : ℕ) (births : List Birth) → AllByRecursion (λ (b : Birth). b.handle ≡ handle) births
    → due note (events ++ map birth births) ≡ due note events ++ receipts note data_replace (replaced_data (data_held handle events) births)
law_births note events handle births all =
    due_after-append note [] events (map birth births)
    ∙ ap (λ (rs : List Receipt). due note events ++ rs) (rw (append-nil (reverse events))
    (due_births note handle (reverse events) births all ∙ ap (λ (l : List PlainDatum). receipts note data_replace (replaced_data l births)) (sym (with_births-reverse (since_end handle (reverse events))))))

pub law_end : (note : Notes) (events : List Event) (handle status : ℕ)
    → due note (events ++ ends handle status ∷ []) ≡ due note events ++ receipts note status (reverse (data_held handle events))
law_end note events handle status =
    due_after-append note [] events (ends handle status ∷ [])
    ∙ ap (λ (rs : List Receipt). due note events ++ rs) (rw (append-nil (reverse events))
    (due_end note handle status (reverse events) ∙ ap (λ (l : List PlainDatum). receipts note status (reverse l)) (sym (with_births-reverse (since_end handle (reverse events))))))
