-- Worked values, computed.
use Rattle.std.specs.Prelude.{◌≡◌, [], ◌∷◌}
use Rattle.std.proofs.Common.{refl}
use Rattle.zorder.specs.Examples.{pt}
use Rattle.zorder.specs.Key.{key_of}
use Rattle.table_share.specs.Sums.{sums_of}

-- the keys are 27 and 2
two : sums_of (record { id = 7; at = pt 3 5 } ∷ record { id = 9; at = pt 1 0 } ∷ []) ≡ record { points = 2; sum = 29 }
unfolding key_of
two = refl
