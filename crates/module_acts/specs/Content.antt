-- What a module finds when it looks for a file (this project's own).
use Rattle.std.specs.Prelude.{◌≤◌, ℕ, Bool, true, false, ◌==◌, nat_lt, if◌then◌else◌, List, [], ◌∷◌, Option, Some, None, length}
use Rattle.pam_outside.specs.Files.{VaultState, file_at, is_failing}
use Rattle.module_acts.specs.declared.content.Content.{Content}
use Rattle.module_acts.specs.declared.content.Content.TheVariants.{Absent, Unreadable, Holds}
use Rattle.pam_outside.specs.Paths.{path_of}

-- a file with this text, of which n bytes may be read
abbrev pub text_within : ℕ → Option (List ℕ) → Content
text_within limit None = Absent
text_within limit (Some text) = if nat_lt limit (length text) then Unreadable else Holds text

-- the same, given whether the call of `Vault` is set to fail
unfoldable pub content_of : Bool → ℕ → Option (List ℕ) → Content
content_of true limit text = Unreadable
content_of false limit text = text_within limit text

-- what a read of the file with this name finds, under a root
unfoldable pub content_at : List ℕ → List ℕ → ℕ → VaultState → Content
content_at root name limit vault =
    content_of (is_failing vault) limit (file_at (path_of root name) vault.files)

-- whether a name that an argument gives is a path from the root; any other is the name of a file that doesn't exist
abbrev pub is_rooted : List ℕ → Bool
is_rooted [] = false
is_rooted (b ∷ bs) = b == 47

-- a text that was read has n bytes at most
abbrev pub IsWithin : Content → ℕ → Type 0
IsWithin (Holds text) limit = length text ≤ limit
IsWithin other limit = Unit {0}
