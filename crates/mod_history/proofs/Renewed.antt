-- What becomes of the lines of a history in which one user's is renewed.
use Rattle.std.proofs.Common.{◌≡◌, ℕ, zero, suc, ◌-◌, ◌<◌, Bool, true, false, not, ◌||◌, cond, List, [], ◌∷◌, ◌++◌, length, drop, Some, None, refl, sym, ap, ◌∙◌, arith}
use Rattle.std.specs.List.{AllByRecursion, last_or}
use Rattle.std.specs.Str.{bytes_eq}
use Rattle.std.proofs.lemmas.Bool.{and_parts}
use Rattle.std.proofs.lemmas.Slice.Eq.{bytes_eq-Decides}
use Rattle.mod_unix.specs.Verify.{is_locked}
use Rattle.mod_history.specs.declared.history.Remembered.{Remembered}
use Rattle.mod_history.specs.History.{IsHistory, IsLine, IsPart, are_distinct, has_name}
use Rattle.mod_history.specs.Renewal.{hashes_in, hashes_of, is_left_out, is_text, line_of, renewed, renewed_hashes, with_hash}

-- ---- names

pub same : (text : List ℕ) → bytes_eq text text ≡ true
same text = (bytes_eq-Decides text text).1 refl

flip_by : (b : Bool) (x y : List ℕ) → bytes_eq y x ≡ b → bytes_eq x y ≡ false → b ≡ false
flip_by true x y e f =
    let is : y ≡ x = (bytes_eq-Decides y x).0 e in
    let both : ◌≡◌ {A = Bool} true false = sym (same x) ∙ ap (λ (t : List ℕ). bytes_eq x t) (sym is) ∙ f in
    absurd cc
flip_by false x y e f = refl

flip : (x y : List ℕ) → bytes_eq x y ≡ false → bytes_eq y x ≡ false
flip x y e = flip_by (bytes_eq y x) x y refl e

module _ (remember : ℕ) (user hash : List ℕ) where
  abbrev pub line_renewed : Remembered → Remembered
  line_renewed r = record { name = r.name; hashes = renewed_hashes remember hash r.hashes }

  module _ (other : List ℕ) (differs : bytes_eq user other ≡ false) where
    names_new : (b : Bool) → has_name other (cond b [] (record { name = user; hashes = hash ∷ [] } ∷ [])) ≡ false
    names_new true = refl
    names_new false = rw differs refl

    names_by : (b : Bool) (r : Remembered) (rs more : List Remembered) → has_name other more ≡ has_name other rs → has_name other (cond b (line_renewed r ∷ rs) (r ∷ more)) ≡ has_name other (r ∷ rs)
    names_by true r rs more e = refl
    names_by false r rs more e = rw e refl

    names_stay : (rs : List Remembered) → has_name other (renewed remember user hash rs) ≡ has_name other rs
    names_stay [] = names_new (is_locked hash)
    names_stay (r ∷ rs) = names_by (bytes_eq r.name user) r rs (renewed remember user hash rs) (names_stay rs)

  distinct_new : (b : Bool) → are_distinct (cond b [] (record { name = user; hashes = hash ∷ [] } ∷ [])) ≡ true
  distinct_new true = refl
  distinct_new false = refl

  distinct_by : (b : Bool) (r : Remembered) (rs more : List Remembered) → are_distinct (r ∷ rs) ≡ true → (b ≡ false → has_name r.name more ≡ has_name r.name rs) → are_distinct more ≡ true
      → are_distinct (cond b (line_renewed r ∷ rs) (r ∷ more)) ≡ true
  distinct_by true r rs more e names rest = e
  distinct_by false r rs more e names rest =
      let parts = and_parts (not (has_name r.name rs)) (are_distinct rs) e in
      rw (names refl, parts.0, rest) refl

  distinct_stay : (rs : List Remembered) → are_distinct rs ≡ true → are_distinct (renewed remember user hash rs) ≡ true
  distinct_stay [] e = distinct_new (is_locked hash)
  distinct_stay (r ∷ rs) e =
      let parts = and_parts (not (has_name r.name rs)) (are_distinct rs) e in
      distinct_by (bytes_eq r.name user) r rs (renewed remember user hash rs) e (λ differs. names_stay r.name (flip r.name user differs) rs) (distinct_stay rs parts.1)

  -- ---- parts

  drop_all : (n : ℕ) (hs : List (List ℕ)) → AllByRecursion IsPart hs → AllByRecursion IsPart (drop n hs)
  drop_all zero hs all = all
  drop_all (suc n) [] all = tt
  drop_all (suc n) (h ∷ hs) all = drop_all n hs all.1

  append_all : (hs : List (List ℕ)) → AllByRecursion IsPart hs → IsPart hash → AllByRecursion IsPart (hs ++ hash ∷ [])
  append_all [] all is = (is, tt)
  append_all (h ∷ hs) all is = (all.0, append_all hs all.1 is)

  neither : (a b : Bool) → (a || b) ≡ false → a ≡ false
  neither true b e = absurd cc
  neither false b e = refl

  module _ (name : IsPart user) (part : is_locked hash ≡ false → IsPart hash) where
    with_by : (b : Bool) (hs : List (List ℕ)) → is_left_out hash hs ≡ b → AllByRecursion IsPart hs → AllByRecursion IsPart (cond b hs (hs ++ hash ∷ []))
    with_by true hs e all = all
    with_by false hs e all = append_all hs all (part (neither (is_locked hash) (is_text hash (last_or None hs)) e))

    hashes_fit : (hs : List (List ℕ)) → AllByRecursion IsPart hs → AllByRecursion IsPart (renewed_hashes remember hash hs)
    hashes_fit hs all = drop_all (length (with_hash hash hs) - remember) (with_hash hash hs) (with_by (is_left_out hash hs) hs refl all)

    new_fits : (b : Bool) → is_locked hash ≡ b → AllByRecursion IsLine (cond b [] (record { name = user; hashes = hash ∷ [] } ∷ []))
    new_fits true e = tt
    new_fits false e = ((name, (part e, tt)), tt)

    lines_by : (b : Bool) (r : Remembered) (rs more : List Remembered) → IsLine r → AllByRecursion IsLine rs → AllByRecursion IsLine more → AllByRecursion IsLine (cond b (line_renewed r ∷ rs) (r ∷ more))
    lines_by true r rs more is all rest = ((is.0, hashes_fit r.hashes is.1), all)
    lines_by false r rs more is all rest = (is, rest)

    lines_fit : (rs : List Remembered) → AllByRecursion IsLine rs → AllByRecursion IsLine (renewed remember user hash rs)
    lines_fit [] all = new_fits (is_locked hash) refl
    lines_fit (r ∷ rs) all = lines_by (bytes_eq r.name user) r rs (renewed remember user hash rs) all.0 all.1 (lines_fit rs all.1)

    pub renewed_fits : (history : List Remembered) → IsHistory history → IsHistory (renewed remember user hash history)
    renewed_fits history is = record { lines = lines_fit history is.lines; distinct = distinct_stay history is.distinct }

  -- ---- the lines of others

  module _ (other : List ℕ) (differs : bytes_eq user other ≡ false) where
    new_past : (b : Bool) → line_of other (cond b [] (record { name = user; hashes = hash ∷ [] } ∷ [])) ≡ None
    new_past true = refl
    new_past false = rw differs refl

    past_by : (b : Bool) (r : Remembered) (rs more : List Remembered) → bytes_eq r.name user ≡ b → line_of other more ≡ line_of other rs → line_of other (cond b (line_renewed r ∷ rs) (r ∷ more)) ≡ line_of other (r ∷ rs)
    past_by true r rs more e rest =
        let passed : bytes_eq r.name other ≡ false = ap (λ (t : List ℕ). bytes_eq t other) ((bytes_eq-Decides r.name user).0 e) ∙ differs in
        rw passed refl
    past_by false r rs more e rest = rw rest refl

    pub others_stay : (rs : List Remembered) → line_of other (renewed remember user hash rs) ≡ line_of other rs
    others_stay [] = new_past (is_locked hash)
    others_stay (r ∷ rs) = past_by (bytes_eq r.name user) r rs (renewed remember user hash rs) refl (others_stay rs)

  -- ---- the user's line

  module _ (some : 0 < remember) where
    first_by : (b : Bool) → is_locked hash ≡ b → hashes_of user (cond b [] (record { name = user; hashes = hash ∷ [] } ∷ [])) ≡ renewed_hashes remember hash []
    first_by true e =
        let none : 0 - remember ≡ 0 = omega arith in
        rw (e, none) refl
    first_by false e =
        let none : 1 - remember ≡ 0 = omega arith in
        rw (same user, e, none) refl

    own_by : (b : Bool) (r : Remembered) (rs more : List Remembered) → bytes_eq r.name user ≡ b → hashes_of user more ≡ renewed_hashes remember hash (hashes_of user rs)
        → hashes_of user (cond b (line_renewed r ∷ rs) (r ∷ more)) ≡ renewed_hashes remember hash (hashes_in (cond b (Some r) (line_of user rs)))
    own_by true r rs more e rest = rw e refl
    own_by false r rs more e rest = rw e rest

    pub own_renewed : (rs : List Remembered) → hashes_of user (renewed remember user hash rs) ≡ renewed_hashes remember hash (hashes_of user rs)
    own_renewed [] = first_by (is_locked hash) refl
    own_renewed (r ∷ rs) = own_by (bytes_eq r.name user) r rs (renewed remember user hash rs) refl (own_renewed rs)
