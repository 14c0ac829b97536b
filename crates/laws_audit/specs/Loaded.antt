-- Stacks that were loaded from files of bytes (this project's own).
use Rattle.std.specs.Prelude.{◌≡◌, ℕ, List, Ok}
use Rattle.std.specs.List.{AllByRecursion}
use Rattle.pam_outside.specs.Files.{File, VaultState, file_put}
use Rattle.service_load.specs.FirstFault.{Counts}
use Rattle.service_load.specs.Load.{loaded}
use Rattle.service_load.specs.Stacks.{Stacks}
use Rattle.pam_handle.specs.Start.{stacks_under}
use Rattle.report_lines.specs.Line.{AreBytes}
use Rattle.session_audit.specs.Sound.{ArePrintable}

-- each of these files holds bytes
abbrev pub AreOfBytes : List File → Type 0
AreOfBytes files = AllByRecursion (λ (f : File). AreBytes f.bytes) files

-- A service without a fault has these stacks, in files of bytes.
pub record AreLoaded (stacks : Stacks) : Type 0 where
  pub vault : VaultState
  pub root : List ℕ
  pub service : List ℕ
  pub counts : Counts
  pub of_bytes : AreOfBytes vault.files
  pub no_fault : loaded vault root service ≡ Ok counts
  pub stacks_are : stacks ≡ stacks_under vault root service

abbrev pub LoadedArePrintable : Type 0
LoadedArePrintable = (stacks : Stacks) → AreLoaded stacks → ArePrintable stacks

-- files of bytes stay files of bytes if one of them is set to bytes
abbrev pub SetFilesAreOfBytes : Type 0
SetFilesAreOfBytes = (path bytes : List ℕ) (files : List File) → AreBytes bytes → AreOfBytes files
    → AreOfBytes (file_put path bytes files)
