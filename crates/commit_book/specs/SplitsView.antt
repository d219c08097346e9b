-- What contracts see of open splits.
use Rattle.std.specs.Prelude.{ℕ, List}
use Rattle.plain_list.specs.State.{OpenSplit}

-- the open splits in the order of their begins, how many were ever begun, and how many more fit without taking memory
pub record SplitsView : Type 0 where
  pub splits : List OpenSplit
  pub begun : ℕ
  pub room : ℕ
