-- How an entry of shadow ages.
use Rattle.std.proofs.Common.{◌≡◌, ◌⊎◌, inl, inr, ◌≤◌, ◌<◌, ◌+◌, ◌-◌, ◌==◌, ℕ, Bool, true, false, true≢false, nat_lt, if◌then◌else◌, Option}
use Rattle.std.proofs.Common.{Some, None, refl, sym, ap, ◌∙◌, arith}
use Rattle.std.proofs.lemmas.Bool.{eqb-true, leb-true, le-leb, le-ltb, ltb-true, lt-ltb}
use Rattle.pam_base.specs.declared.code.Code.{Code}
use Rattle.pam_base.specs.declared.code.Code.TheVariants as returns
use Rattle.mod_unix.specs.Aging.{aged, code_at_age, code_after_change, is_past, is_reached}
use Rattle.laws_age.specs.Age.{AccountsExpire, LongerMaximum, NewIsNotTooOld, OnlyAges, is_at_most, step}

-- ---- by the age of the password

abbrev code_by : Bool → Bool → Code
code_by past over = if past then returns.AuthtokExpired else if over then returns.NewAuthtokReqd else returns.Success

by_tests : (p o p2 o2 : Bool) → (p ≡ true → p2 ≡ true) → (o ≡ true → o2 ≡ true) → step (code_by p o) ≤ step (code_by p2 o2)
by_tests true o true o2 a b = omega arith
by_tests true o false o2 a b = absurd (true≢false (sym (a refl)))
by_tests false true true o2 a b = omega arith
by_tests false true false true a b = omega arith
by_tests false true false false a b = absurd (true≢false (sym (b refl)))
by_tests false false p2 o2 a b = omega arith

code_bound : (p o : Bool) → step (code_by p o) ≤ 2
code_bound true o = omega arith
code_bound false true = omega arith
code_bound false false = omega arith

later_lt : (m age less more : ℕ) → less ≤ m → age ≤ more → nat_lt m age ≡ true → nat_lt less more ≡ true
later_lt m age less more a b e =
    let k : m < age = ltb-true m age e in
    lt-ltb less more (omega arith)

later_past : (m age less more : ℕ) (inactive : Option ℕ) → less ≤ m → age ≤ more → is_past age m inactive ≡ true → is_past more less inactive ≡ true
later_past m age less more (Some days) a b e = later_lt (m + days) age (less + days) more (omega arith) b e
later_past m age less more None a b e = e

age_more : (age more : ℕ) (max less inactive : Option ℕ) → age ≤ more → is_at_most less max ≡ true
    → step (code_at_age age max inactive) ≤ step (code_at_age more less inactive)
age_more age more None less inactive a b = omega arith
age_more age more (Some m) None inactive a b = absurd (true≢false (sym b))
age_more age more (Some m) (Some l) inactive a b =
    let k : l ≤ m = leb-true l m b in
    by_tests (is_past age m inactive) (nat_lt m age) (is_past more l inactive) (nat_lt l more) (later_past m age l more inactive k a)
    (later_lt m age l more k a)

age_bound : (age : ℕ) (max inactive : Option ℕ) → step (code_at_age age max inactive) ≤ 2
age_bound age None inactive = omega arith
age_bound age (Some m) inactive = code_bound (is_past age m inactive) (nat_lt m age)

-- ---- by the day of the last change

abbrev change_code : Bool → Bool → Code → Code
change_code never ahead code = if never then returns.NewAuthtokReqd else if ahead then returns.Success else code

change_by : (z n n2 : Bool) (a b : Code) → (n2 ≡ true → n ≡ true) → step a ≤ step b → step (change_code z n a) ≤ step (change_code z n2 b)
change_by true n n2 a b w h = omega arith
change_by false true n2 a b w h = omega arith
change_by false false true a b w h = absurd (true≢false (sym (w refl)))
change_by false false false a b w h = h

change_bound_by : (z n : Bool) (a : Code) → step a ≤ 2 → step (change_code z n a) ≤ 2
change_bound_by true n a h = omega arith
change_bound_by false true a h = omega arith
change_bound_by false false a h = h

change_more : (today later : ℕ) (last max less inactive : Option ℕ) → today ≤ later → is_at_most less max ≡ true
    → step (code_after_change today last max inactive) ≤ step (code_after_change later last less inactive)
change_more today later None max less inactive a b = omega arith
change_more today later (Some last) max less inactive a b =
    change_by (last == 0) (nat_lt today last) (nat_lt later last) (code_at_age (today - last) max inactive) (code_at_age (later - last) less inactive)
    (later_lt later last today last a (omega arith)) (age_more (today - last) (later - last) max less inactive (omega arith) b)

change_bound : (today : ℕ) (last max inactive : Option ℕ) → step (code_after_change today last max inactive) ≤ 2
change_bound today None max inactive = omega arith
change_bound today (Some last) max inactive = change_bound_by (last == 0) (nat_lt today last) (code_at_age (today - last) max inactive)
    (age_bound (today - last) max inactive)

-- ---- by the day on which the account expires

abbrev aged_code : Bool → Code → Code
aged_code reached code = if reached then returns.AcctExpired else code

aged_by : (r r2 : Bool) (a b : Code) → (r ≡ true → r2 ≡ true) → step a ≤ 2 → step a ≤ step b → step (aged_code r a) ≤ step (aged_code r2 b)
aged_by true true a b w k h = omega arith
aged_by true false a b w k h = absurd (true≢false (sym (w refl)))
aged_by false true a b w k h = omega arith
aged_by false false a b w k h = h

aged_bound : (r : Bool) (a : Code) → step a ≤ 2 → step (aged_code r a) ≤ 3
aged_bound true a k = omega arith
aged_bound false a k = omega arith

reached_later : (day : Option ℕ) (today later : ℕ) → today ≤ later → is_reached day today ≡ true → is_reached day later ≡ true
reached_later (Some day) today later a e =
    let k : day ≤ today = leb-true day today e in
    le-leb day later (omega arith)
reached_later None today later a e = e

same_max : (max : Option ℕ) → is_at_most max max ≡ true
same_max None = refl
same_max (Some m) = le-leb m m (omega arith)

pub longer_maximum : LongerMaximum
unfolding aged
longer_maximum today entry more is =
    aged_by (is_reached entry.expire today) (is_reached entry.expire today) (code_after_change today entry.last_change more entry.inactive)
    (code_after_change today entry.last_change entry.max entry.inactive) (λ e. e)
    (change_bound today entry.last_change more entry.inactive) (change_more today today entry.last_change more entry.max entry.inactive (omega arith) is)

pub only_ages : OnlyAges
unfolding aged
only_ages today later entry is = (
  aged_by (is_reached entry.expire today) (is_reached entry.expire later) (code_after_change today entry.last_change entry.max entry.inactive)
      (code_after_change later entry.last_change entry.max entry.inactive)
      (reached_later entry.expire today later is) (change_bound today entry.last_change entry.max entry.inactive)
      (change_more today later entry.last_change entry.max entry.max entry.inactive is (same_max entry.max)),
  aged_bound (is_reached entry.expire later) (code_after_change later entry.last_change entry.max entry.inactive)
      (change_bound later entry.last_change entry.max entry.inactive),
)

expires : (r : Bool) (a : Code) → r ≡ true → aged_code r a ≡ returns.AcctExpired
expires true a e = refl
expires false a e = absurd (true≢false (sym e))

has_expired : (r : Bool) (a : Code) → step a ≤ 2 → aged_code r a ≡ returns.AcctExpired → r ≡ true
has_expired true a k e = refl
has_expired false a k e =
    let s : step a ≡ 3 = ap step e in
    absurd (omega arith)

pub accounts_expire : AccountsExpire
unfolding aged
accounts_expire today entry =
    let from : is_reached entry.expire today ≡ true → aged today entry ≡ returns.AcctExpired =
    expires (is_reached entry.expire today) (code_after_change today entry.last_change entry.max entry.inactive) in
    let before : aged today entry ≡ returns.AcctExpired → is_reached entry.expire today ≡ true =
    has_expired (is_reached entry.expire today) (code_after_change today entry.last_change entry.max entry.inactive)
    (change_bound today entry.last_change entry.max entry.inactive) in
    record {
      from_its_day = from;
      not_before = before;
      stays = λ later is e. expires (is_reached entry.expire later) (code_after_change later entry.last_change entry.max entry.inactive)
          (reached_later entry.expire today later is (before e));
    }

-- ---- a password that was changed today

age_none : (max inactive : Option ℕ) → code_at_age 0 max inactive ≡ returns.Success
age_none None inactive = refl
age_none (Some m) None = rw (le-ltb m 0 (omega arith)) refl
age_none (Some m) (Some days) = rw (le-ltb (m + days) 0 (omega arith)) (rw (le-ltb m 0 (omega arith)) refl)

by_first : (z n : Bool) (a : Code) → z ≡ false → a ≡ returns.Success → change_code z n a ≡ returns.Success
by_first true n a z e = absurd (true≢false z)
by_first false true a z e = refl
by_first false false a z e = e

not_zero : (b : Bool) (today : ℕ) → (today == 0) ≡ b → 0 < today → b ≡ false
not_zero false today e is = refl
not_zero true today e is =
    let k : today ≡ 0 = eqb-true today 0 e in
    absurd (omega arith)

changed_today : (today : ℕ) (last max inactive : Option ℕ) → 0 < today → last ≡ Some today → code_after_change today last max inactive ≡ returns.Success
changed_today today last max inactive is e =
    let age : today - today ≡ 0 = omega arith in
    let young : code_at_age (today - today) max inactive ≡ returns.Success = ap (λ (n : ℕ). code_at_age n max inactive) age ∙ age_none max inactive in
    ap (λ (o : Option ℕ). code_after_change today o max inactive) e
    ∙ by_first (today == 0) (nat_lt today today) (code_at_age (today - today) max inactive) (not_zero (today == 0) today refl is) young

either : (r : Bool) (a : Code) → a ≡ returns.Success → (aged_code r a ≡ returns.Success) ⊎ (aged_code r a ≡ returns.AcctExpired)
either true a e = inr refl
either false a e = inl e

pub new_is_not_too_old : NewIsNotTooOld
unfolding aged
new_is_not_too_old today entry is e =
    either (is_reached entry.expire today) (code_after_change today entry.last_change entry.max entry.inactive)
    (changed_today today entry.last_change entry.max entry.inactive is e)
