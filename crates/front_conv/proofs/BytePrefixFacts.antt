-- Where it becomes known what some bytes begin with.
use Rattle.std.proofs.Common.{◌≡◌, ℕ, List, [], ◌∷◌, ◌++◌}
use Rattle.pam_wire.specs.declared.prefix.FirstFrame.TheVariants.{Open}
use Rattle.pam_wire.specs.Read.{first_frame_of}

-- without their last byte some bytes are incomplete
pub record HasOpenFront (bytes : List ℕ) : Type 0 where
  pub front : List ℕ
  pub last : ℕ
  pub parts : bytes ≡ front ++ last ∷ []
  pub incomplete : first_frame_of front ≡ Open
