-- A printed configuration loads again (this project's own).
use Rattle.std.specs.Prelude.{◌≡◌, ℕ, Bool, List, [], ◌++◌, length, map, codes, nat_le, ◌&&◌, Result, Ok, Err, IsTrue}
use Rattle.std.specs.List.{list_all}
use Rattle.std.specs.Str.{str_to_ascii_lowercase}
use Rattle.pam_base.specs.Lines.{lines_of}
use Rattle.pam_base.specs.declared.fault.Refuse.{Refuse}
use Rattle.pam_base.specs.declared.fault.Refuse.TheVariants.{NoMemory, Named}
use Rattle.pam_base.specs.ServiceName.{is_service_name}
use Rattle.pam_outside.specs.Files.{VaultState}
use Rattle.pam_outside.specs.Files.{File as VaultFile}
use Rattle.control_words.specs.Stack.{Stack}
use Rattle.service_load.specs.declared.load_fault.LoadFault.{LoadFault}
use Rattle.service_load.specs.declared.rule_type.RuleType.{RuleType}
use Rattle.service_load.specs.Trees.{Trees}
use Rattle.service_load.specs.FirstFault.{Counts}
use Rattle.service_load.specs.Load.{directory_exists, loaded}
use Rattle.service_load.specs.Loading.{texts_of}
use Rattle.pam_outside.specs.Paths.{path_of}
use Rattle.service_load.specs.Tree.{tree}
use Rattle.service_print.specs.declared.file.File.{File}
use Rattle.service_print.specs.Printed.{stacks_in}

-- a service loads to these four stacks: its configuration has no fault, and gives them
pub record LoadsTo (vault : VaultState) (root service : List ℕ) (stack : RuleType → Stack) : Type
    0 where
  pub counts : Counts
  pub no_fault : loaded vault root service ≡ Ok counts
  pub stacks : (type : RuleType) → tree (texts_of root vault) (directory_exists vault root) service type
      ≡ stack type

-- a file in the directory of the service files, below a root (pam.d(5))
abbrev pub placed_file : List ℕ → File → VaultFile
placed_file root file = record {
  path = path_of root (codes "/etc/pam.d/" ++ file.name);
  bytes = file.text;
}

-- there are exactly these files, all in that directory, and no access to them is set to fail
pub record HoldsJust (vault : VaultState) (root : List ℕ) (files : List File) : Type 0 where
  pub files_are : vault.files ≡ map (placed_file root) files
  pub no_fails : vault.fails ≡ []

-- whether a file is within the limits of a text: 65,536 bytes, and 4,096 bytes per line
abbrev pub is_short : File → Bool
is_short file = nat_le (length file.text) 65536
    && list_all (λ line. nat_le (length line) 4096) (lines_of file.text)

-- a service's name in lower case
pub record IsLowerName (service : List ℕ) : Type 0 where
  pub name : IsTrue (is_service_name service)
  pub lower : str_to_ascii_lowercase service ≡ service

-- unless memory ran out, a load gave these four stacks
abbrev pub Gives : Result Trees (Refuse LoadFault) → (RuleType → Stack) → Type 0
Gives (Ok trees) stack = (type : RuleType) → stacks_in trees type ≡ stack type
Gives (Err (Named fault)) stack = ⊥
Gives (Err NoMemory) stack = Unit {0}
