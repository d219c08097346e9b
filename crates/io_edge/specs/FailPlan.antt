-- Which calls of a source or sink in memory fail, and how many calls were made and failed so far.
use Rattle.std.specs.Prelude.{ℕ, List, Contains}
use Rattle.causes.specs.Causes.{one_more}

pub record FailPlan : Type 0 where
  -- the numbers of the calls that fail, counted from 1
  pub failing : List ℕ
  pub calls : ℕ
  pub faults : ℕ

-- the plan before any call
abbrev pub planned : List ℕ → FailPlan
planned failing = record { failing = failing; calls = 0; faults = 0 }

-- the next call is listed to fail
abbrev pub IsListed : FailPlan → Type 0
IsListed plan = Contains plan.failing (one_more plan.calls)

-- the plan after one more call
abbrev pub counted : FailPlan → FailPlan
counted plan = record plan { calls = one_more plan.calls }

-- the plan after one more fault
abbrev pub failed : FailPlan → FailPlan
failed plan = record plan { faults = one_more plan.faults }
