-- The states of the stack in which the lists around a line were entered, by their levels.
use Rattle.std.specs.Prelude.{ℕ, ◌+◌, ◌&&◌, if◌then◌else◌, nat_le, nat_lt, List, get_or}
use Rattle.handler_chain.specs.declared.opinion.Opinion.{Opinion}
use Rattle.handler_chain.specs.Opinion.{opening}

abbrev pub Entries : Type 0
Entries = ℕ → Opinion

abbrev pub entry_at : List Opinion → Entries
entry_at opinions level = get_or opinions level opening

-- before a line of this level, the first one of n lists, those are entered with the present state
abbrev pub entered : ℕ → ℕ → Opinion → Entries → Entries
entered level opens opinion entries k = if nat_le k level && nat_lt level (k + opens) then opinion
    else entries k
