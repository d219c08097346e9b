-- What contracts see of a source and of a sink.
use Rattle.std.specs.Prelude.{ℕ, List, Option}

pub record Input : Type 0 where
  -- the bytes that are left, if they are known
  pub left : Option (List ℕ)
  -- how often the source failed
  pub faults : ℕ

pub record Output : Type 0 where
  -- the bytes that were taken, if they are known
  pub taken : Option (List ℕ)
  -- how often the sink failed
  pub faults : ℕ
