-- What the system can't do for a file.
use Rattle.std.specs.Prelude.{◌≡◌, ◌⊎◌}
use Rattle.std.specs.declared.io.ErrorKind.{ErrorKind}
use Rattle.std.specs.declared.io.ErrorKind.TheVariants.{Unsupported, InvalidInput}

-- The kinds of error that report this. No other kind does.
abbrev pub IsUnsupported : ErrorKind → Type 0
IsUnsupported kind = (kind ≡ Unsupported) ⊎ (kind ≡ InvalidInput)
