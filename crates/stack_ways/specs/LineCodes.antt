-- What is assumed of the lines of a stack, by their rule numbers from 1 on.
use Rattle.std.specs.Prelude.{◌-◌, Bool, false, List, Option, Some, None, slice_get, slice_index_or}
use Rattle.pam_base.specs.declared.code.Code.{Code}
use Rattle.pam_base.specs.Code.{number_of}
use Rattle.stack_ways.specs.declared.line_codes.LineCodes.{LineCodes}
use Rattle.stack_ways.specs.MayEnd.{CodesOf}

-- whether a code is one of those of a list with an element for each code
abbrev pub flag_at : List Bool → Code → Bool
flag_at flags code = slice_index_or flags (number_of code) false

abbrev pub line_may : Option LineCodes → Code → Bool
line_may None code = false
line_may (Some line) code = flag_at line.may code

abbrev pub line_counts : Option LineCodes → Code → Bool
line_counts None code = false
line_counts (Some line) code = flag_at line.counts code

-- the codes that are possible of each line, and those with which it counts
abbrev pub possible_in : List LineCodes → CodesOf
possible_in assumed place code = line_may (slice_get assumed (place - 1)) code

abbrev pub counts_in : List LineCodes → CodesOf
counts_in assumed place code = line_counts (slice_get assumed (place - 1)) code
