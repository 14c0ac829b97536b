-- Bytes are taken from the rest of a text.
use Rattle.std.proofs.Common.{◌≡◌, ℕ, ◌-◌, ◌≤◌, ◌<◌, min, List, [], ◌++◌, length, take, drop, sym, Result, Ok, arith, length-drop}
use Rattle.pam_base.specs.declared.fault.Failed.{Failed}
use Rattle.std.proofs.lemmas.List.{take-append-drop, take_at, length-take, nil_from_length, take_all}

-- the bytes copied to the beginning of a buffer are those that came next
pub taken : (left into copied : List ℕ) (n : ℕ) → n ≤ length left → copied ≡ take n left → left ≡ take n (copied ++ drop n into) ++ drop n left
taken left into copied n le e =
    let len : length (take n left) ≡ n = omega (arith, length-take n left) in
    rw (e, take_at (take n left) (drop n into) n len) (sym (take-append-drop n left))

-- if no byte is taken, none was left
pub at_end : (left : List ℕ) (n m : ℕ) → n ≡ min (length left) m → 0 < m → n ≡ 0 → drop n left ≡ []
at_end left n m e pos z = nil_from_length (drop n left) (omega (arith, length-drop n left, e, z))

pub rest_is : (bytes : List ℕ) (at : ℕ) → take (length bytes - at) (drop at bytes) ≡ drop at bytes
rest_is bytes at = take_all (length bytes - at) (drop at bytes) (omega (arith, length-drop at bytes))

pub ok_number : (n m : ℕ) → ◌≡◌ {A = Result ℕ Failed} (Ok n) (Ok m) → n ≡ m
ok_number n m e = cc
