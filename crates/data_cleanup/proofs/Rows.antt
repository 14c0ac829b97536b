-- Which cleanups are due, computed on runs.
use Rattle.std.proofs.Common.{◌≡◌, ℕ, List, [], ◌∷◌, codes, refl}
use Rattle.data_cleanup.specs.Cleanup.{Notes}
use Rattle.data_cleanup.specs.DataList.{birth_of}
use Rattle.data_cleanup.specs.Due.{Event, birth, ends, due}
use Rattle.data_cleanup.specs.declared.receipt.Receipt.{Receipt}

abbrev sets : ℕ → ℕ → List ℕ → List ℕ → Event
sets id handle name payload = birth (birth_of id handle 5 name payload)

abbrev done : Notes → ℕ → ℕ → List ℕ → Receipt
done note id status payload = record { id = id; status = status; note = note 5 payload status }

-- one transaction, one name: it is set three times, and the transaction ends with 0x40000007
one_name : (note : Notes)
    → due note (sets 0 1 (codes "a") (codes "x") ∷ sets 1 1 (codes "a") (codes "yy") ∷ sets 2 1 (codes "a") (codes "zzz") ∷ ends 1 0x40000007 ∷ [])
    ≡ done note 0 0x20000000 (codes "x") ∷ done note 1 0x20000000 (codes "yy") ∷ done note 2 0x40000007 (codes "zzz") ∷ []
one_name note = refl

-- two names; the first is set again; the end cleans up the last name first
two_names : (note : Notes)
    → due note (sets 0 1 (codes "a") (codes "1") ∷ sets 1 1 (codes "b") (codes "22") ∷ sets 2 1 (codes "a") (codes "333") ∷ ends 1 0 ∷ [])
    ≡ done note 0 0x20000000 (codes "1") ∷ done note 1 0 (codes "22") ∷ done note 2 0 (codes "333") ∷ []
two_names note = refl

-- two transactions; the first ends and its number is used again, so nothing is replaced; the second doesn't end
two_transactions : (note : Notes)
    → due note (sets 0 1 (codes "a") (codes "1") ∷ sets 1 2 (codes "a") (codes "2") ∷ ends 1 0 ∷ sets 2 1 (codes "a") (codes "3") ∷ ends 1 4 ∷ [])
    ≡ done note 0 0 (codes "1") ∷ done note 2 4 (codes "3") ∷ []
two_transactions note = refl
