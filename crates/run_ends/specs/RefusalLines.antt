-- The lines of refusals.
use Rattle.std.specs.Prelude.{ℕ, List, ◌++◌, Some, None, codes}
use Rattle.std.specs.Fmt.{decimal}
use Rattle.cell_format.specs.declared.cell.Cause.{Cause}
use Rattle.cell_format.specs.declared.cell.Cause.TheVariants as cause
use Rattle.run_ends.specs.declared.refusals.Refusal.{Refusal}
use Rattle.run_ends.specs.declared.refusals.Refusal.TheVariants as refusal

-- the word for a cause of damage
abbrev pub cause_text : Cause → List ℕ
cause_text cause.ShortCell = codes "short"
cause_text cause.Kind = codes "kind"
cause_text cause.Reserved = codes "reserved"
cause_text cause.BadName = codes "name"
cause_text cause.Impossible = codes "impossible"

-- the words for a refusal
abbrev pub reason_text : Refusal → List ℕ
reason_text refusal.Usage = codes "usage"
reason_text refusal.Header = codes "header"
reason_text (refusal.Csv row) = codes "row " ++ decimal row ++ codes " length"
reason_text (refusal.Field row column) = codes "row " ++ decimal row ++ codes " column " ++ decimal column
reason_text refusal.NotLog = codes "not a log"
reason_text (refusal.OldLog version width) = codes "log version " ++ decimal version ++ codes " width " ++ decimal width
reason_text (refusal.Damaged cell cause) = codes "cell " ++ decimal cell ++ codes " " ++ cause_text cause
reason_text refusal.Source = codes "source"
reason_text (refusal.Disk (Some cell)) = codes "disk cell " ++ decimal cell
reason_text (refusal.Disk None) = codes "disk"
reason_text refusal.LongInput = codes "limit bytes"
reason_text refusal.ManyRows = codes "limit rows"
reason_text refusal.LongLog = codes "limit cells"
reason_text refusal.LongEvents = codes "limit events"
reason_text refusal.Memory = codes "memory"
reason_text (refusal.InUse len) = codes "in use " ++ decimal len
reason_text (refusal.Strange cell) = codes "cell " ++ decimal cell ++ codes " strange"

-- the line of a refusal
unfoldable pub refusal_text : Refusal → List ℕ
refusal_text r = codes "refused " ++ reason_text r ++ codes "\n"
