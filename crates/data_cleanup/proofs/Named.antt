-- Data by name: what the calls of the map do to the list of the data.
use Rattle.std.proofs.Common.{◌≡◌, ℕ, Bool, true, false, Vec, List, [], ◌∷◌, ◌++◌, map, Option, Some, None, refl, sym, ap, subst, ◌∙◌}
use Rattle.std.specs.Global.{Global}
use Rattle.std.specs.List.{AllByRecursion, IsDistinct}
use Rattle.std.specs.Map.{keys_of, lookup}
use Rattle.std.specs.Str.{bytes_eq}
use Rattle.std.proofs.lemmas.Cmp.{nat_list_eq_equiv}
use Rattle.std.proofs.lemmas.List.{append-nil, map-append}
use Rattle.std.proofs.lemmas.Slice.Eq.{bytes_eq-Decides}
use Rattle.indexmap.specs.IndexMap.{insert_entry}
use Rattle.data_cleanup.specs.Datum.{PlainDatum}
use Rattle.data_cleanup.specs.DataList.{PlainDataList, AreApart, data_named, with_datum}
use Rattle.data_cleanup.specs.DataListInside.{AreNamed, data_of}
use Rattle.data_cleanup.proofs.Apart.{apart_front}

abbrev pub Entry : Type 0
Entry = Vec ℕ Global × PlainDatum

abbrev IsOwn : Entry → Type 0
IsOwn e = e.0.items ≡ e.1.name

-- whether two keys of the map are the same name
abbrev pub is_same : Vec ℕ Global → Vec ℕ Global → Bool
is_same one other = bytes_eq one.items other.items

-- the test of the map and that of the list
tests : (e : Entry) (name : List ℕ) → IsOwn e → bytes_eq name e.0.items ≡ bytes_eq e.1.name name
tests e name own = ap (λ (n : List ℕ). bytes_eq name n) own ∙ nat_list_eq_equiv.symm name e.1.name

-- no name occurs twice among the data
none_of : (name : List ℕ) (entries : List Entry) → AllByRecursion IsOwn entries
    → AllByRecursion (λ (k : Vec ℕ Global). bytes_eq name k.items ≡ false) (keys_of entries)
    → AllByRecursion (λ (n : List ℕ). bytes_eq name n ≡ false) (map (λ (d : PlainDatum). d.name) (data_of entries))
none_of name [] own none = none
none_of name (e ∷ es) own none = (rw own.0 at none.0, none_of name es own.1 none.1)

pub apart : (entries : List Entry) → AllByRecursion IsOwn entries → IsDistinct is_same (keys_of entries) → AreApart (data_of entries)
unfolding IsDistinct
apart [] own differ = differ
apart (e ∷ es) own differ = (rw own.0 at (none_of e.0.items es own.1 differ.0), apart es own.1 differ.1)

-- ---- data are set

abbrev set_among : List Entry → Vec ℕ Global → PlainDatum → List Entry
set_among entries key d = insert_entry is_same entries key d

own_set : (entries : List Entry) (key : Vec ℕ Global) (d : PlainDatum) → AllByRecursion IsOwn entries → key.items ≡ d.name
    → AllByRecursion IsOwn (set_among entries key d)
own_set [] key d own named = (named, own)
own_set (e ∷ es) key d own named = by (bytes_eq key.items e.0.items) refl (own_set es key d own.1 named)
  where
    by : (b : Bool) → bytes_eq key.items e.0.items ≡ b → AllByRecursion IsOwn (set_among es key d) → AllByRecursion IsOwn (set_among (e ∷ es) key d)
    by true same rest = rw same (sym ((bytes_eq-Decides key.items e.0.items).0 same) ∙ named, own.1)
    by false other rest = rw other (own.0, rest)

pub set_is : (entries : List Entry) (key : Vec ℕ Global) (d : PlainDatum) → AllByRecursion IsOwn entries → key.items ≡ d.name
    → data_of (set_among entries key d) ≡ with_datum (data_of entries) d
set_is [] key d own named = refl
set_is (e ∷ es) key d own named = by (bytes_eq e.1.name d.name) refl (set_is es key d own.1 named)
  where
    here : (b : Bool) → bytes_eq e.1.name d.name ≡ b → bytes_eq key.items e.0.items ≡ b
    here b is = ap (λ (n : List ℕ). bytes_eq n e.0.items) named ∙ tests e d.name own.0 ∙ is

    by : (b : Bool) → bytes_eq e.1.name d.name ≡ b → data_of (set_among es key d) ≡ with_datum (data_of es) d
        → data_of (set_among (e ∷ es) key d) ≡ with_datum (data_of (e ∷ es)) d
    by true is rest = rw (here true is, is) refl
    by false is rest = rw (here false is, is) (ap (λ (ds : List PlainDatum). e.1 ∷ ds) rest)

-- ---- data are looked up

abbrev one_or_none : Option PlainDatum → List PlainDatum
one_or_none None = []
one_or_none (Some d) = d ∷ []

found : (name : List ℕ) (entries : List Entry) → AllByRecursion IsOwn entries
    → data_named (data_of entries) name ≡ one_or_none (lookup (λ (k : Vec ℕ Global). bytes_eq name k.items) entries)
found name [] own = refl
found name (e ∷ es) own = by (bytes_eq e.1.name name) refl (found name es own.1)
  where
    by : (b : Bool) → bytes_eq e.1.name name ≡ b → data_named (data_of es) name ≡ one_or_none (lookup (λ (k : Vec ℕ Global). bytes_eq name k.items) es)
        → data_named (data_of (e ∷ es)) name ≡ one_or_none (lookup (λ (k : Vec ℕ Global). bytes_eq name k.items) (e ∷ es))
    by true is rest = rw (tests e name own.0 ∙ is, is) refl
    by false is rest = rw (tests e name own.0 ∙ is, is) rest

pub looked_up : (name : List ℕ) (entries : List Entry) (o : Option PlainDatum) → AreNamed entries
    → o ≡ lookup (λ (k : Vec ℕ Global). bytes_eq name k.items) entries → data_named (data_of entries) name ≡ one_or_none o
looked_up name entries o named is = found name entries named.own ∙ ap one_or_none (sym is)

-- ---- the list after data were set

pub named_after : (before entries after : List Entry) (key : Vec ℕ Global) (d : PlainDatum) (name : List ℕ) → AreNamed before → entries ≡ before
    → key.items ≡ name → d.name ≡ name → after ≡ set_among entries key d → IsDistinct is_same (keys_of after) → AreNamed after
named_after before entries after key d name named same is_key is_datum is differ =
    let own = subst (AllByRecursion IsOwn) (sym is) (own_set entries key d (subst (AllByRecursion IsOwn) (sym same) named.own) (is_key ∙ sym is_datum)) in
    record { own = own; apart = apart after own differ }

pub held_after : (h : ℕ) (before entries after : List Entry) (key : Vec ℕ Global) (d : PlainDatum) (name : List ℕ) (gs gone : List PlainDatum) (o : Option PlainDatum)
    → AreNamed before → entries ≡ before → key.items ≡ name → d.name ≡ name → after ≡ set_among entries key d
    → o ≡ lookup (is_same key) entries → gone ≡ gs ++ one_or_none o
    → ◌≡◌ {A = PlainDataList} (record { handle = h; live = data_of after; gone = gone }) (record { handle = h; live = with_datum (data_of before) d; gone = gs ++ data_named (data_of before) name })
held_after h before entries after key d name gs gone o named same is_key is_datum is old gone_is =
    let own : AllByRecursion IsOwn entries = subst (AllByRecursion IsOwn) (sym same) named.own in
    let live : data_of after ≡ with_datum (data_of entries) d = ap data_of is ∙ set_is entries key d own (is_key ∙ sym is_datum) in
    let replaced : data_named (data_of entries) key.items ≡ one_or_none o = found key.items entries own ∙ ap one_or_none (sym old) in
    let gone_all : gone ≡ gs ++ data_named (data_of entries) name = gone_is ∙ ap (λ (ds : List PlainDatum). gs ++ ds) (sym replaced ∙ ap (data_named (data_of entries)) is_key) in
    rw (← same, live, gone_all) refl

pub none_more : (gs : List PlainDatum) → gs ≡ gs ++ one_or_none None
none_more gs = sym (append-nil gs)

-- ---- the last data are taken

own_front : (front back : List Entry) → AllByRecursion IsOwn (front ++ back) → AllByRecursion IsOwn front
own_front [] back own = tt
own_front (e ∷ es) back own = (own.0, own_front es back own.1)

pub data_split : (front back : List Entry) → data_of (front ++ back) ≡ data_of front ++ data_of back
data_split front back = simp map-append

pub named_front : (front back : List Entry) → AreNamed (front ++ back) → AreNamed front
named_front front back named = record {
  own = own_front front back named.own;
  apart = apart_front (data_of front) (data_of back) (rw (data_split front back) at named.apart);
}

pub named_none : (entries : List Entry) → entries ≡ [] → AreNamed entries
unfolding IsDistinct
named_none entries none = rw none (record { own = tt; apart = tt })
