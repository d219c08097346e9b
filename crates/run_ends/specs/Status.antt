-- The exit status of each refusal.
use Rattle.std.specs.Prelude.{◌≡◌, ◌⊎◌, ℕ, Result, Ok, Err}
use Rattle.run_ends.specs.declared.refusals.Refusal.{Refusal}
use Rattle.run_ends.specs.declared.refusals.Refusal.TheVariants as refusal

abbrev pub status_of : Refusal → ℕ
status_of refusal.Usage = 2
status_of refusal.Header = 3
status_of (refusal.Csv row) = 3
status_of (refusal.Field row column) = 3
status_of refusal.NotLog = 4
status_of (refusal.OldLog version width) = 4
status_of (refusal.Damaged cell cause) = 4
status_of refusal.Source = 5
status_of (refusal.Disk cell) = 7
status_of refusal.LongInput = 8
status_of refusal.ManyRows = 8
status_of refusal.LongLog = 8
status_of refusal.LongEvents = 8
status_of refusal.Memory = 9
status_of (refusal.InUse len) = 10
status_of (refusal.Strange cell) = 4

-- whether a status is that of a run that wrote its lines, all of them (0) or a prefix (6)
abbrev pub WritesLines : ℕ → Type 0
WritesLines status = (status ≡ 0) ⊎ (status ≡ 6)

-- the status of a command after it wrote its lines, all of them or a prefix
abbrev pub written_status : {T E : Type 0} → Result T E → ℕ
written_status (Ok x) = 0
written_status (Err e) = 6
