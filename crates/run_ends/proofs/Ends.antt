-- How a run ends.
use Rattle.std.proofs.Common.{◌≡◌, inl, inr, ℕ, List, Result, Ok, Err, sym, ◌∙◌, arith}
use Rattle.std.specs.Result.{IsErr}
use Rattle.causes.specs.Causes.{Counts}
use Rattle.io_edge.specs.Puts.{Puts}
use Rattle.run_ends.specs.declared.refusals.Refusal.{Refusal}
use Rattle.run_ends.specs.declared.refusals.Refusal.TheVariants as refusal
use Rattle.run_ends.specs.Status.{status_of, WritesLines}
use Rattle.run_ends.specs.Taking.{TakesLine}
use Rattle.run_ends.specs.Ending.{EndsWriting, EndsRefused}
use Rattle.io_edge.specs.Streams.{Output}

pub takes-from_puts : {T E : Type 0} (old new : Output) (text : List ℕ) (result : Result T E) → Puts old.taken new.taken text result → Counts old.faults new.faults result → TakesLine text old new
takes-from_puts old new text (Ok x) bytes cause = inl bytes
takes-from_puts old new text (Err e) bytes cause = inr (cause.failed, (bytes.0, bytes.2))

-- a fault, handed on
pub counts-lost : {T U E F : Type 0} (before now : ℕ) (e : E) (result : Result U F) → Counts {T = T} before now (Err e) → IsErr result → Counts before now result
counts-lost before now e (Ok x) counts is = cc is
counts-lost before now e (Err f) counts is = record { later = counts.later; same = tt; failed = counts.failed }

-- a refusal's status is none of a run that writes lines
pub no-lines : (why : Refusal) (status : ℕ) → status ≡ status_of why → WritesLines status → ⊥
no-lines why status is writes = by_case why (by_line writes)
  where
    by_line : WritesLines status → WritesLines (status_of why)
    by_line (inl e) = inl (sym is ∙ e)
    by_line (inr e) = inr (sym is ∙ e)

    by_case : (r : Refusal) → WritesLines (status_of r) → ⊥
    by_case refusal.Usage (inl e) = omega (arith, e)
    by_case refusal.Usage (inr e) = omega (arith, e)
    by_case refusal.Header (inl e) = omega (arith, e)
    by_case refusal.Header (inr e) = omega (arith, e)
    by_case (refusal.Csv row) (inl e) = omega (arith, e)
    by_case (refusal.Csv row) (inr e) = omega (arith, e)
    by_case (refusal.Field row column) (inl e) = omega (arith, e)
    by_case (refusal.Field row column) (inr e) = omega (arith, e)
    by_case refusal.Source (inl e) = omega (arith, e)
    by_case refusal.Source (inr e) = omega (arith, e)
    by_case refusal.LongInput (inl e) = omega (arith, e)
    by_case refusal.LongInput (inr e) = omega (arith, e)
    by_case refusal.ManyRows (inl e) = omega (arith, e)
    by_case refusal.ManyRows (inr e) = omega (arith, e)
    by_case refusal.Memory (inl e) = omega (arith, e)
    by_case refusal.Memory (inr e) = omega (arith, e)
    by_case refusal.NotLog (inl e) = omega (arith, e)
    by_case refusal.NotLog (inr e) = omega (arith, e)
    by_case (refusal.OldLog version width) (inl e) = omega (arith, e)
    by_case (refusal.OldLog version width) (inr e) = omega (arith, e)
    by_case (refusal.Damaged cell cause) (inl e) = omega (arith, e)
    by_case (refusal.Damaged cell cause) (inr e) = omega (arith, e)
    by_case (refusal.Disk cell) (inl e) = omega (arith, e)
    by_case (refusal.Disk cell) (inr e) = omega (arith, e)
    by_case refusal.LongLog (inl e) = omega (arith, e)
    by_case refusal.LongLog (inr e) = omega (arith, e)
    by_case refusal.LongEvents (inl e) = omega (arith, e)
    by_case refusal.LongEvents (inr e) = omega (arith, e)
    by_case (refusal.InUse len) (inl e) = omega (arith, e)
    by_case (refusal.InUse len) (inr e) = omega (arith, e)
    by_case (refusal.Strange cell) (inl e) = omega (arith, e)
    by_case (refusal.Strange cell) (inr e) = omega (arith, e)

-- a refusal whose cause isn't the words has another status than 2
pub not-usage : (Cause : Refusal → Type 0) (status : ℕ) (before after : Output) → (Cause refusal.Usage → ⊥) → EndsRefused Cause status before after → status ≡ 2 → ⊥
not-usage Cause status before after never (why, cause, refuses) two = by_case why cause (sym refuses.status_is ∙ two)
  where
    by_case : (r : Refusal) → Cause r → status_of r ≡ 2 → ⊥
    by_case refusal.Usage c e = never c
    by_case refusal.Header c e = omega (arith, e)
    by_case (refusal.Csv row) c e = omega (arith, e)
    by_case (refusal.Field row column) c e = omega (arith, e)
    by_case refusal.NotLog c e = omega (arith, e)
    by_case (refusal.OldLog version width) c e = omega (arith, e)
    by_case (refusal.Damaged cell cause) c e = omega (arith, e)
    by_case refusal.Source c e = omega (arith, e)
    by_case (refusal.Disk cell) c e = omega (arith, e)
    by_case refusal.LongInput c e = omega (arith, e)
    by_case refusal.ManyRows c e = omega (arith, e)
    by_case refusal.LongLog c e = omega (arith, e)
    by_case refusal.LongEvents c e = omega (arith, e)
    by_case refusal.Memory c e = omega (arith, e)
    by_case (refusal.InUse len) c e = omega (arith, e)
    by_case (refusal.Strange cell) c e = omega (arith, e)

pub not-written : (text : List ℕ) (status : ℕ) (before after : Output) → EndsWriting text status before after → status ≡ 2 → ⊥
not-written text status before after (inl (e, all, same)) two = omega (arith, e, two)
not-written text status before after (inr (e, rose, part)) two = omega (arith, e, two)
