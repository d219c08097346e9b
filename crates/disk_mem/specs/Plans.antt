-- Which calls fail: those that a plan lists by kind and number, and all beyond a bound on their number.
use Rattle.std.specs.Prelude.{ℕ, ◌+◌, ◌-◌, ◌^◌, ◌<◌, ◌==◌, nat_lt, Bool, true, false, ◌&&◌, if◌then◌else◌, List}
use Rattle.std.specs.List.{list_any}
use Rattle.disk_mem.specs.declared.plans.DiskCall.{DiskCall}
use Rattle.disk_mem.specs.declared.plans.DiskCall.TheVariants.{Attach, Len, Read, Write, Cut, Sync}
use Rattle.disk_mem.specs.declared.plans.Fail.{Fail}
use Rattle.disk_mem.specs.declared.plans.Numbers.{Numbers}
use Rattle.disk_mem.specs.declared.plans.Verdict.{Verdict}
use Rattle.disk_mem.specs.declared.plans.Verdict.TheVariants.{Passes, Fails, Past}

-- the calls that fail; how many of each kind were made; how many more may be made in all
pub record PlanView : Type 0 where
  pub failing : List Fail
  pub numbers : Numbers
  pub left : ℕ

-- the numbers before any call
abbrev pub no_calls : Numbers
no_calls = record { attach = 0; len = 0; read = 0; write = 0; cut = 0; sync = 0 }

-- each number fits in 64 bits, even after all calls that may still be made
pub record IsCounted (n : Numbers) (left : ℕ) : Type 0 where
  pub attach : n.attach + left < 2 ^ 64
  pub len : n.len + left < 2 ^ 64
  pub read : n.read + left < 2 ^ 64
  pub write : n.write + left < 2 ^ 64
  pub cut : n.cut + left < 2 ^ 64
  pub sync : n.sync + left < 2 ^ 64

-- how many calls of a kind were made
abbrev pub number_of : DiskCall → Numbers → ℕ
number_of Attach n = n.attach
number_of Len n = n.len
number_of Read n = n.read
number_of Write n = n.write
number_of Cut n = n.cut
number_of Sync n = n.sync

-- the numbers after one more call of a kind
abbrev pub counted : DiskCall → Numbers → Numbers
counted Attach n = record n { attach = n.attach + 1 }
counted Len n = record n { len = n.len + 1 }
counted Read n = record n { read = n.read + 1 }
counted Write n = record n { write = n.write + 1 }
counted Cut n = record n { cut = n.cut + 1 }
counted Sync n = record n { sync = n.sync + 1 }

-- whether two calls are of the same kind
abbrev pub is_same : DiskCall → DiskCall → Bool
is_same Attach Attach = true
is_same Len Len = true
is_same Read Read = true
is_same Write Write = true
is_same Cut Cut = true
is_same Sync Sync = true
is_same _ _ = false

-- whether the plan lists the call of this kind and number
abbrev pub is_listed : DiskCall → ℕ → List Fail → Bool
is_listed call number failing = list_any (λ f. is_same f.call call && (f.number == number)) failing

-- what happens to the next call of a kind
abbrev pub verdict_of : DiskCall → PlanView → Verdict
verdict_of call plan = if nat_lt 0 plan.left then (if is_listed call (number_of call plan.numbers + 1) plan.failing then Fails else Passes) else Past

-- the plan after this call; a call beyond the bound isn't counted
abbrev pub planned : DiskCall → PlanView → PlanView
planned call plan = if nat_lt 0 plan.left then record { failing = plan.failing; numbers = counted call plan.numbers; left = plan.left - 1 } else plan

-- whether a call is neither listed nor beyond the bound
abbrev pub is_passed : Verdict → Bool
is_passed Passes = true
is_passed Fails = false
is_passed Past = false

-- whether a call reaches the file; a call beyond the bound doesn't
abbrev pub is_made : Verdict → Bool
is_made Passes = true
is_made Fails = true
is_made Past = false
