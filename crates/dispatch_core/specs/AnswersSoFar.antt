-- The return codes that a pass was given, over all its calls.
pub use Rattle.frozen_chain.specs.Paused.{past_of}
use Rattle.std.specs.Prelude.{ℕ, List}
use Rattle.pam_base.specs.declared.code.Code.{Code}

-- the codes that this call has taken, in order, those of earlier calls that are left, and the spare
-- room for more
pub record AnswersView : Type 0 where
  pub taken : List Code
  pub past : List Code
  pub room : ℕ
