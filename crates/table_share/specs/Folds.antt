-- One step of a fold over rows.
use Rattle.std.specs.Prelude.{◌≡◌}
use denote.Param.Members.{Shared}
use denote.Ref.{Bor}
use Rattle.bucket_versions.specs.declared.row.Row.{Row}

-- f, called with the value so far and a `&` to the row, may return the value after it
pub record FoldsRow {F T : Type 0} (g : Shared F (T × (Bor Row × Unit {0})) T) (f : F) (before : T) (row : Row) (after : T) : Type 0 where
  pub shown : Bor Row
  pub shows : shown.now ≡ row
  pub says : g.post f (before, (shown, tt)) after
