-- A file store without a planned failure.
use Rattle.std.proofs.Common.{◌≡◌, ℕ, zero, suc, ◌-◌, ◌^◌, Bool, true, false, ◌&&◌, List, [], refl, ap, ◌∙◌}
use Rattle.std.specs.Prelude.{nat_lt}
use Rattle.pam_outside.specs.Counts.{fails_next}
use Rattle.pam_outside.specs.Files.{File, Locks, VaultState, counted, is_failing}
use Rattle.pam_handle.specs.pam_room.specs.Module.{after_calls, failing_of}
use Rattle.pam_library.specs.Alike.{NoCallFails}

pub quiet_now : (vault : VaultState) → NoCallFails vault → is_failing vault ≡ false
unfolding failing_of
quiet_now vault quiet = quiet 0

pub quiet_counted : (vault : VaultState) → NoCallFails vault → NoCallFails (counted vault)
unfolding failing_of
quiet_counted vault quiet k = quiet (suc k)

pub quiet_after : (k : ℕ) (vault : VaultState) → NoCallFails vault → NoCallFails (after_calls k vault)
quiet_after zero vault quiet = quiet
quiet_after (suc k) vault quiet = quiet_after k (counted vault) (quiet_counted vault quiet)

with_files : (files : List File) (locks : Locks) (k : ℕ) (vault : VaultState) → is_failing (after_calls k (record vault { files = files; locks = locks })) ≡ is_failing (after_calls k vault)
with_files files locks zero vault = refl
with_files files locks (suc k) vault = with_files files locks k (counted vault)

pub quiet_with_files : (files : List File) (locks : Locks) (vault : VaultState) → NoCallFails vault → NoCallFails (record vault { files = files; locks = locks })
unfolding failing_of
quiet_with_files files locks vault quiet k = with_files files locks k vault ∙ quiet k

none_listed : (calls : ℕ) (fails : List ℕ) → fails ≡ [] → fails_next calls fails ≡ false
none_listed calls fails none = ap (fails_next calls) none ∙ (elim (nat_lt calls (2 ^ 64 - 1)) as (λ (b : Bool). (b && false) ≡ false) [ true ↦ refl | false ↦ refl ])

none_listed_after : (k : ℕ) (vault : VaultState) → vault.fails ≡ [] → is_failing (after_calls k vault) ≡ false
none_listed_after zero vault none = none_listed vault.calls vault.fails none
none_listed_after (suc k) vault none = none_listed_after k (counted vault) none

pub quiet_where_none_listed : (vault : VaultState) → vault.fails ≡ [] → NoCallFails vault
unfolding failing_of
quiet_where_none_listed vault none k = none_listed_after k vault none
