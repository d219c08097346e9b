-- A visitor that keeps all objects that it meets.
use Rattle.std.specs.Prelude.{◌≡◌, false, [], ◌∷◌, ◌++◌}
use Rattle.zorder.specs.declared.points.Placed.{Placed}
use Rattle.index_view.specs.declared.gathered.Gathered.{Gathered}

-- the object was appended, unless memory ran out now or before
abbrev pub Gathers : Gathered → Placed → Gathered → Type 0
Gathers old m new = new.is_short ≡ false → (old.is_short ≡ false) × (new.objects.items ≡ old.objects.items ++ m ∷ [])
