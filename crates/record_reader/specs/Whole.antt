-- A run over a whole stream, from its first byte on.
use Rattle.std.specs.Prelude.{◌≡◌, ℕ, ◌+◌, ◌≤◌, Bool, true, false, List, [], ◌++◌, length, Option, Some, None, Result, Ok, Err, OnOk}
use Rattle.pam_outside.specs.Streams.{SourceState, SinkState}
use Rattle.record_reader.specs.declared.ending.Ending.{Ending}
use Rattle.record_reader.specs.declared.ending.Ending.TheVariants.{Done, ReadFault, Refused}
use Rattle.record_reader.specs.declared.ending.Stop.{Stop}
use Rattle.record_reader.specs.Run.{Looks, ItemFails, ItemStep, come_to, run_of}
use Rattle.record_reader.specs.Turns.{StopsBy, LastRead}

abbrev pub at_last : {Kind : Type 0} → Result (Ending Kind) Stop
    → Result (Option (Ending Kind)) Stop
at_last (Ok ending) = Ok (Some ending)
at_last (Err stop) = Err stop

module _ {State Kind : Type 0} (looked : Looks) (step : ItemStep State Kind)
    (Fails : ItemFails State) where
  -- What a run says about the whole input, depending on how it ends: the input was read completely,
  -- and its result; the result of the bytes read before the source failed; the refused item, the same
  -- in the bytes read and in the whole input; or where the run stopped.
  abbrev pub Reports : Result (Ending Kind) Stop → ℕ → State → State → List ℕ → List ℕ → List ℕ
      → List ℕ → Type 0
  Reports (Ok Done) m c d input taken left text = (left ≡ [])
      × (run_of looked step 0 c input true ≡ come_to text d m None)
  Reports (Ok ReadFault) m c d input taken left text =
      run_of looked step 0 c taken false ≡ come_to text d m None
  Reports (Ok (Refused kind)) m c d input taken left text =
      (run_of looked step 0 c input true ≡ come_to text d m (Some kind))
      × (ended : Bool) × (ended ≡ true → left ≡ [])
      × (run_of looked step 0 c taken ended ≡ come_to text d m (Some kind))
  Reports (Err stop) m c d input taken left text =
      StopsBy looked step Fails stop 0 m c d taken left text

  -- a run from the first byte: the state is c before and d after it, and m items were applied
  pub record Runs (result : Result (Ending Kind) Stop) (m : ℕ) (c d : State) (x y : SourceState)
      (p q : SinkState) : Type 0 where
    pub taken : List ℕ
    pub text : List ℕ
    pub source : x.left ≡ taken ++ y.left
    pub sink : q.written ≡ p.written ++ text
    pub report : Reports result m c d x.left taken y.left text
    pub last : LastRead looked step 0 c [] taken
    pub reads : y.calls ≤ x.calls + length taken + 1
    pub ends : y.reads_at_end ≤ x.reads_at_end + 1
    pub writes : q.calls ≤ p.calls + length text + 1
    pub writes_ok : OnOk result (q.calls ≤ p.calls + length text)
