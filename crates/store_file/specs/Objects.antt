-- The latest moment of the objects of a world.
use Rattle.std.specs.Prelude.{◌≡◌, ◌⊎◌, ℕ, ◌≤◌, max, [], ◌∷◌, Option, Some, None}
use Rattle.std.specs.List.{AllByRecursion}
use Rattle.plain_list.specs.declared.world.Member.{Member}
use Rattle.plain_list.specs.World.{World}

-- Some object has this moment.
abbrev pub HasMoment : ℕ → World → Type 0
HasMoment moment [] = ⊥
HasMoment moment (m ∷ world) = (m.moment ≡ moment) ⊎ HasMoment moment world

-- No object has a later moment.
abbrev pub HasNoneLater : ℕ → World → Type 0
HasNoneLater moment world = AllByRecursion (λ (m : Member). m.moment ≤ moment) world

-- The latest moment of all objects, or `None` if there is no object.
abbrev pub IsLatest : World → Option ℕ → Type 0
IsLatest world None = world ≡ []
IsLatest world (Some moment) = HasMoment moment world × HasNoneLater moment world

-- The later of two moments, if there is a first one.
abbrev pub later : Option ℕ → ℕ → ℕ
later None moment = moment
later (Some before) moment = max before moment
