-- Cached return codes, by index and by rule number.
use Rattle.std.proofs.Common.{◌≡◌, ℕ, ◌+◌, ap, add-one}
use Rattle.frozen_chain.specs.Kept.{Answers, answer_at}
use Rattle.dispatch_core.specs.Passes.{by_place}

pub by_place-next : (kept : Answers) (i : ℕ) → by_place kept (i + 1) ≡ answer_at kept i
by_place-next kept i = ap (by_place kept) (add-one i)
