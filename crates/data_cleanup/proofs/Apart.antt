use Rattle.std.proofs.Common.{◌≡◌, ℕ, List, [], ◌∷◌, ◌++◌, map, sym, subst}
use Rattle.std.specs.List.{IsDistinct, AllByRecursion}
use Rattle.data_cleanup.specs.Datum.{PlainDatum}
use Rattle.data_cleanup.specs.DataList.{AreApart}

pub apart_empty : (ds : List PlainDatum) → ds ≡ [] → AreApart ds
unfolding IsDistinct
apart_empty ds e = subst AreApart (sym e) tt

all_front : (P : List ℕ → Type 0) (xs ys : List PlainDatum) → AllByRecursion P (map (λ (d : PlainDatum). d.name) (xs ++ ys))
    → AllByRecursion P (map (λ (d : PlainDatum). d.name) xs)
all_front P [] ys all = tt
all_front P (x ∷ xs) ys all = (all.0, all_front P xs ys all.1)

pub apart_front : (xs ys : List PlainDatum) → AreApart (xs ++ ys) → AreApart xs
unfolding IsDistinct
apart_front [] ys apart = tt
apart_front (x ∷ xs) ys apart = (all_front _ xs ys apart.0, apart_front xs ys apart.1)
