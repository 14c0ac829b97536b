-- Test cases: the entries of a text or its first line at fault, each limit from both sides, and a new hash for one of
-- two users.
use Rattle.std.proofs.Common.{◌≡◌, ℕ, List, [], ◌∷◌, Option, Some, None, Result, Ok, Err, codes, refl}
use Rattle.std.specs.Fmt.{digits}
use Rattle.pam_base.specs.Lines.{cut, lines_of}
use Rattle.pam_base.specs.Parts.{parts_of}
use Rattle.account_db.specs.declared.fault.DbFault.{DbFault}
use Rattle.account_db.specs.declared.group.Group.{Group}
use Rattle.account_db.specs.declared.passwd.Passwd.{Passwd}
use Rattle.account_db.specs.declared.shadow.Shadow.{Shadow}
use Rattle.account_db.specs.Entries.{entries_of}
use Rattle.account_db.specs.Group.{groups_of}
use Rattle.account_db.specs.Passwd.{passwds_of}
use Rattle.account_db.specs.Replace.{changed_line, hash_replaced, with_hash}
use Rattle.account_db.specs.Shadow.{shadows_of}
use Rattle.account_db.specs.Shells.{shells_of, without_end}

-- the line at fault
abbrev at : {E : Type 0} → ℕ → Result (List E) DbFault
at n = Err (record { line = n })

-- ---- passwd: seven fields, the name not empty, the ids 1 to 10 digits of value at most 4294967295

-- an entry with a name, two ids and a shell, and no other field
abbrev user : List ℕ → ℕ → ℕ → List ℕ → Passwd
user name uid gid shell = record {
  name = name;
  password = [];
  uid = uid;
  gid = gid;
  comment = [];
  home = [];
  shell = shell;
}

all_fields : passwds_of (codes "joe:x:1000:100:Joe:/home/joe:/bin/sh\n") ≡ Ok (record {
  name = codes "joe";
  password = codes "x";
  uid = 1000;
  gid = 100;
  comment = codes "Joe";
  home = codes "/home/joe";
  shell = codes "/bin/sh";
} ∷ [])
unfolding entries_of parts_of lines_of cut
all_fields = refl

three_fields_of_seven : passwds_of (codes "joe:x:1000") ≡ at 1
unfolding entries_of parts_of lines_of cut
three_fields_of_seven = refl

six_fields : passwds_of (codes "a::0:0::") ≡ at 1
unfolding entries_of parts_of lines_of cut
six_fields = refl

eight_fields : passwds_of (codes "a::0:0::::") ≡ at 1
unfolding entries_of parts_of lines_of cut
eight_fields = refl

empty_name : passwds_of (codes "::0:0:::") ≡ at 1
unfolding entries_of parts_of lines_of cut
empty_name = refl

-- a carriage return is part of the shell
shell_with_return : passwds_of (codes "a::0:0:::s\r\n")
    ≡ Ok (user (codes "a") 0 0 (codes "s\r") ∷ [])
unfolding entries_of parts_of lines_of cut
shell_with_return = refl

greatest_ids : passwds_of (codes "a::4294967295:4294967295:::")
    ≡ Ok (user (codes "a") 4294967295 4294967295 [] ∷ [])
unfolding entries_of parts_of lines_of cut
greatest_ids = refl

uid_too_great : passwds_of (codes "a::4294967296:0:::") ≡ at 1
unfolding entries_of parts_of lines_of cut
uid_too_great = refl

gid_too_great : passwds_of (codes "a::0:4294967296:::") ≡ at 1
unfolding entries_of parts_of lines_of cut
gid_too_great = refl

ten_digits : passwds_of (codes "a::0000000001:0000000002:::") ≡ Ok (user (codes "a") 1 2 [] ∷ [])
unfolding entries_of parts_of lines_of cut
ten_digits = refl

uid_of_eleven_digits : passwds_of (codes "a::00000000001:0:::") ≡ at 1
unfolding entries_of parts_of lines_of cut
uid_of_eleven_digits = refl

gid_of_eleven_digits : passwds_of (codes "a::0:00000000001:::") ≡ at 1
unfolding entries_of parts_of lines_of cut
gid_of_eleven_digits = refl

no_uid : passwds_of (codes "a:::0:::") ≡ at 1
unfolding entries_of parts_of lines_of cut
no_uid = refl

no_gid : passwds_of (codes "a::0::::") ≡ at 1
unfolding entries_of parts_of lines_of cut
no_gid = refl

uid_with_sign : passwds_of (codes "a::-1:0:::") ≡ at 1
unfolding entries_of parts_of lines_of cut
uid_with_sign = refl

-- ---- which lines: empty lines and those that begin with #, + or - are skipped, but counted

no_lines : passwds_of (codes "") ≡ Ok []
unfolding entries_of parts_of lines_of cut
no_lines = refl

all_passed_over : passwds_of (codes "\n# a\n+::\n-b\n") ≡ Ok []
unfolding entries_of parts_of lines_of cut
all_passed_over = refl

-- a line that begins with a space isn't a comment
space_at_fault : passwds_of (codes "\n \n") ≡ at 2
unfolding entries_of parts_of lines_of cut
space_at_fault = refl

third_line_at_fault : passwds_of (codes "# a\nb::0:0:::\nc\nd\n") ≡ at 3
unfolding entries_of parts_of lines_of cut
third_line_at_fault = refl

-- the last line is the same with its newline and without it
last_line_at_fault : passwds_of (codes "a::0:0:::\nb\n") ≡ at 2
unfolding entries_of parts_of lines_of cut
last_line_at_fault = refl

last_line_at_fault_unended : passwds_of (codes "a::0:0:::\nb") ≡ at 2
unfolding entries_of parts_of lines_of cut
last_line_at_fault_unended = refl

two_users : passwds_of (codes "a::0:0:::\n\nb::1:1:::")
    ≡ Ok (user (codes "a") 0 0 [] ∷ user (codes "b") 1 1 [] ∷ [])
unfolding entries_of parts_of lines_of cut
two_users = refl

-- ---- group: four fields, the id as above

abbrev group : List ℕ → ℕ → List (List ℕ) → Group
group name gid members = record {
  name = name;
  password = [];
  gid = gid;
  members = members;
}

wheel : groups_of (codes "wheel:x:10:root,joe") ≡ Ok (record {
  name = codes "wheel";
  password = codes "x";
  gid = 10;
  members = codes "root" ∷ codes "joe" ∷ [];
} ∷ [])
unfolding entries_of parts_of lines_of cut
wheel = refl

-- an empty field has no members, and one between two commas is empty
no_members : groups_of (codes "g::1:") ≡ Ok (group (codes "g") 1 [] ∷ [])
unfolding entries_of parts_of lines_of cut
no_members = refl

empty_member : groups_of (codes "g::1:a,,b")
    ≡ Ok (group (codes "g") 1 (codes "a" ∷ [] ∷ codes "b" ∷ []) ∷ [])
unfolding entries_of parts_of lines_of cut
empty_member = refl

-- a group may have the empty name
group_without_name : groups_of (codes "::1:") ≡ Ok (group [] 1 [] ∷ [])
unfolding entries_of parts_of lines_of cut
group_without_name = refl

three_fields : groups_of (codes "g::1") ≡ at 1
unfolding entries_of parts_of lines_of cut
three_fields = refl

five_fields : groups_of (codes "g::1::") ≡ at 1
unfolding entries_of parts_of lines_of cut
five_fields = refl

greatest_id : groups_of (codes "g::4294967295:") ≡ Ok (group (codes "g") 4294967295 [] ∷ [])
unfolding entries_of parts_of lines_of cut
greatest_id = refl

id_too_great : groups_of (codes "g::4294967296:") ≡ at 1
unfolding entries_of parts_of lines_of cut
id_too_great = refl

id_of_eleven_digits : groups_of (codes "g::00000000001:") ≡ at 1
unfolding entries_of parts_of lines_of cut
id_of_eleven_digits = refl

no_id : groups_of (codes "g:::") ≡ at 1
unfolding entries_of parts_of lines_of cut
no_id = refl

second_group_at_fault : groups_of (codes "g::1:\nh::x:\n") ≡ at 2
unfolding entries_of parts_of lines_of cut
second_group_at_fault = refl

-- ---- shadow: nine fields, six numbers of at most nine digits, which may be empty

all_days : shadows_of (codes "joe:h:1:2:3:4:5:6:r\n") ≡ Ok (record {
  name = codes "joe";
  hash = codes "h";
  last_change = Some 1;
  min = Some 2;
  max = Some 3;
  warn = Some 4;
  inactive = Some 5;
  expire = Some 6;
  reserved = codes "r";
} ∷ [])
unfolding entries_of parts_of lines_of cut
all_days = refl

-- an entry with the name a, and a number of days six times
abbrev a_with : Option ℕ → Shadow
a_with days = record {
  name = codes "a";
  hash = [];
  last_change = days;
  min = days;
  max = days;
  warn = days;
  inactive = days;
  expire = days;
  reserved = [];
}

empty_days : shadows_of (codes "a::::::::") ≡ Ok (a_with None ∷ [])
unfolding entries_of parts_of lines_of cut
empty_days = refl

nine_digits : shadows_of (codes "a::999999999:999999999:999999999:999999999:999999999:999999999:")
    ≡ Ok (a_with (Some 999999999) ∷ [])
unfolding entries_of parts_of lines_of cut
nine_digits = refl

last_change_of_ten_digits : shadows_of (codes "a::0000000001::::::") ≡ at 1
unfolding entries_of parts_of lines_of cut
last_change_of_ten_digits = refl

min_of_ten_digits : shadows_of (codes "a:::0000000001:::::") ≡ at 1
unfolding entries_of parts_of lines_of cut
min_of_ten_digits = refl

max_of_ten_digits : shadows_of (codes "a::::0000000001::::") ≡ at 1
unfolding entries_of parts_of lines_of cut
max_of_ten_digits = refl

warn_of_ten_digits : shadows_of (codes "a:::::0000000001:::") ≡ at 1
unfolding entries_of parts_of lines_of cut
warn_of_ten_digits = refl

inactive_of_ten_digits : shadows_of (codes "a::::::0000000001::") ≡ at 1
unfolding entries_of parts_of lines_of cut
inactive_of_ten_digits = refl

expire_of_ten_digits : shadows_of (codes "a:::::::0000000001:") ≡ at 1
unfolding entries_of parts_of lines_of cut
expire_of_ten_digits = refl

days_with_sign : shadows_of (codes "a::-1::::::") ≡ at 1
unfolding entries_of parts_of lines_of cut
days_with_sign = refl

eight_fields_of_nine : shadows_of (codes "a:::::::") ≡ at 1
unfolding entries_of parts_of lines_of cut
eight_fields_of_nine = refl

ten_fields : shadows_of (codes "a:::::::::") ≡ at 1
unfolding entries_of parts_of lines_of cut
ten_fields = refl

second_entry_at_fault : shadows_of (codes "a::::::::\nb:x\n") ≡ at 2
unfolding entries_of parts_of lines_of cut
second_entry_at_fault = refl

-- ---- shells: lines that begin with a slash, without white space at their end

shells : shells_of (codes "# list\n/bin/sh\n/bin/bash \n")
    ≡ codes "/bin/sh" ∷ codes "/bin/bash" ∷ []
unfolding shells_of lines_of cut without_end
shells = refl

other_lines : shells_of (codes "bin/sh\n /bin/sh\n\n/s\t\r\n") ≡ codes "/s" ∷ []
unfolding shells_of lines_of cut without_end
other_lines = refl

-- ---- a new hash

row : hash_replaced (codes "joe") (codes "new") 20000 (codes "a:x:1::::::\njoe:old:5:0:9:7:::\n")
    ≡ Ok (codes "a:x:1::::::\njoe:new:20000:0:9:7:::\n")
unfolding entries_of parts_of with_hash changed_line lines_of cut digits
row = refl

-- the first line at fault is named, whichever user's it is
other_line_at_fault : hash_replaced (codes "joe") [] 1 (codes "joe::1::::::\na\n")
    ≡ Err (record { line = 2 })
unfolding entries_of parts_of lines_of cut
other_line_at_fault = refl
