-- Ways: the states in which a stack may end, each with the lines that counted; of several with the
-- same state, those whose lines all count in another one aren't needed.
use Rattle.std.specs.Prelude.{◌≡◌, ℕ, ◌⊎◌, List, AllPairs, Contains}
use Rattle.control_words.specs.Stack.{Stack}
use Rattle.handler_chain.specs.declared.opinion.Opinion.{Opinion}
use Rattle.handler_chain.specs.Pass.{Visit}
use Rattle.stack_ways.specs.declared.way.Way.{Way}
use Rattle.stack_ways.specs.MayEnd.{CodesOf, MayEnd, marks_of}

-- every line of one list is in the other
abbrev pub Within : List ℕ → List ℕ → Type 0
Within few many = (place : ℕ) → Contains few place → Contains many place

-- the second way says nothing more than the first
pub record Covers (way other : Way) : Type 0 where
  pub opinion : way.opinion ≡ other.opinion
  pub skip : way.skip ≡ other.skip
  pub marks : Within way.marks other.marks

pub record Covered (way : Way) (ways : List Way) : Type 0 where
  pub by : Way
  pub among : Contains ways by
  pub covers : Covers by way

-- neither of two ways covers the other
pub record Apart (way other : Way) : Type 0 where
  pub first : Covers way other → ⊥
  pub second : Covers other way → ⊥

-- of a list of ways those are left that another way doesn't cover
pub record Thinned (by : Way) (ways kept : List Way) : Type 0 where
  pub old : (way : Way) → Contains kept way → Contains ways way
  pub others : (way : Way) → Contains ways way → Contains kept way ⊎ Covers by way
  pub uncovered : (way : Way) → Contains kept way → Covers by way → ⊥
  pub apart : AllPairs Apart ways → AllPairs Apart kept

-- the new ways are the old ones and these, except covered ones
pub record Gained (These : Way → Type 0) (old new : List Way) : Type 0 where
  pub sound : (way : Way) → Contains new way → Contains old way ⊎ These way
  pub kept : (way : Way) → Contains old way → Covered way new
  pub complete : (way : Way) → These way → Covered way new

-- what one of the elements of a list leads to
pub record Each {A : Type 0} (Leads : A → Way → Type 0) (list : List A) (way : Way) : Type 0 where
  pub one : A
  pub among : Contains list one
  pub leads : Leads one way

-- a way that is listed is one in which the stack may end
pub record IsWay (possible counts : CodesOf) (stack : Stack) (at : ℕ) (entry : Opinion) (way : Way)
    : Type 0 where
  pub ran : List Visit
  pub ends : MayEnd possible 0 stack at entry entry ran way.opinion
  pub marks_are : way.marks ≡ marks_of counts ran

-- a way with this state is listed, of whose lines each was run and counted
pub record IsListed (counts : CodesOf) (ways : List Way) (ran : List Visit) (end : Opinion)
    : Type 0 where
  pub way : Way
  pub among : Contains ways way
  pub opinion : way.opinion ≡ end
  pub marks : Within way.marks (marks_of counts ran)

-- the ways in which a stack, entered in a state, may end
pub record WaysOf (possible counts : CodesOf) (stack : Stack) (at : ℕ) (entry : Opinion)
    (ways : List Way) : Type 0 where
  pub sound : (way : Way) → Contains ways way → IsWay possible counts stack at entry way
  pub complete : (ran : List Visit) (end : Opinion) → MayEnd possible 0 stack at entry entry ran end
      → IsListed counts ways ran end
