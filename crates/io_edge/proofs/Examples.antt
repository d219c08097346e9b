-- Worked values of the definitions.
use Rattle.std.proofs.Common.{ℕ, [], ◌∷◌, Some, Ok, Err, refl, lit<, lit≤}
use Rattle.io_edge.specs.FailPlan.{planned, counted, failed, IsListed}
use Rattle.io_edge.specs.Puts.{Puts}
use Rattle.io_edge.specs.Reads.{ConsumesUpTo}
use Rattle.io_edge.specs.Views.{ReadsNext, PutsWhole}

-- where 2 is listed, the second call fails
second_is_listed : IsListed (counted (planned (2 ∷ [])))
second_is_listed = (0, lit< tt, refl)

-- a put of three bytes that fails may have passed on the first two
front_at_a_fault : Puts {T = ℕ} {E = ℕ} (Some (7 ∷ [])) (Some (7 ∷ 1 ∷ 2 ∷ [])) (1 ∷ 2 ∷ 3 ∷ []) (Err 0)
front_at_a_fault = (2, lit≤ tt, refl)

-- a read that takes at most two bytes of three
two_of_three : ConsumesUpTo 2 (Some (1 ∷ 2 ∷ 3 ∷ [])) (Some (3 ∷ []))
two_of_three = (1 ∷ 2 ∷ [], lit≤ tt, refl)

-- a read into two bytes where one is left
last_byte : ReadsNext {E = ℕ} (record { left = 5 ∷ []; plan = planned [] }) (record { left = []; plan = counted (planned []) }) (8 ∷ 9 ∷ []) (5 ∷ 9 ∷ []) (Ok 1)
last_byte = (refl, refl, refl)

-- a put that fails keeps what was there, and counts
kept_at_a_fault : PutsWhole {T = ℕ} {E = ℕ} (record { taken = 5 ∷ []; room = 1; plan = planned [] }) (record { taken = 5 ∷ []; room = 1; plan = failed (counted (planned [])) }) (6 ∷ []) (Err 0)
kept_at_a_fault = refl
