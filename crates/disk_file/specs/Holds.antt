-- Which opens a file is locked against.
use Rattle.std.specs.Prelude.{◌≡◌, ◌⊎◌, true, Result, IsErr}
use Rattle.disk_file.specs.declared.held.HeldFile.{HeldFile}

-- After a call that may change the file, this open alone has the lock. Otherwise the call failed and changed nothing.
abbrev pub IsAloneOrKept : {F : Type 0} {T E : Type 0} → HeldFile F → HeldFile F → Result T E → Type 0
IsAloneOrKept old new result = (new.is_alone ≡ true) ⊎ ((new ≡ old) × IsErr result)
