-- Device calls up to the first one that failed.
use Rattle.std.specs.Prelude.{◌⊎◌, ℕ, true, false, [], ◌∷◌, ◌++◌, replicate}
use Rattle.disk_trait.specs.Drive.{Drive, Made, MadeWell}

-- The calls in between were `count` writes, cuts and syncs, and each returned `Ok`.
pub record AllWentWell (old new : Drive) : Type 0 where
  pub count : ℕ
  pub calls : MadeWell count old new

-- The calls in between were `went_well` that went well, and one that failed. No call follows that one.
pub record EndsAtFault (old new : Drive) : Type 0 where
  pub went_well : ℕ
  pub calls : Made (replicate went_well true ++ false ∷ []) old new

-- All calls went well, or the last one failed.
abbrev pub StopsAtFault : Drive → Drive → Type 0
StopsAtFault old new = AllWentWell old new ⊎ EndsAtFault old new
