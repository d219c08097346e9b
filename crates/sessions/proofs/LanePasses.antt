-- What lanes leave of their passes.
use Rattle.std.proofs.Common.{ℕ, Bool, List, [], ◌∷◌, Option, Some, None, Ok, Err, sym, subst}
use Rattle.plain_list.specs.declared.ops.Op.{Op}
use Rattle.book_lock.specs.Pass.{Known}
use Rattle.sessions.specs.declared.faults.CallFault.{CallFault}
use Rattle.sessions.specs.declared.faults.Split.{Split}
use Rattle.sessions.specs.declared.store.lanes.Lane.{Lane}
use Rattle.sessions.specs.declared.store.lanes.KeptRow.{KeptRow}
use Rattle.sessions.specs.Splits.{SamePass}
use Rattle.sessions.specs.Lanes.{Tries, KeepsRow, KeepsAll, Stops, PlaysLane}
use Rattle.sessions.proofs.StepLemmas.{same-later}
use Rattle.sessions.proofs.CallLemmas.{called-same}
use Rattle.sessions.proofs.SplitLemmas.{same-none, split-same}

pub tries-same : (w : ℕ) (full : Option (List Bool)) (old new : Known) (split : Option Split) → Tries w full old new split → SamePass old new
tries-same w None old new split (none, same) = subst (SamePass old) (sym same) (same-none old)
tries-same w (Some name) old new split (s, is, ends) = split-same w name old new s ends

pub keeps-same : (w session : ℕ) (old new : Known) (row : ℕ × Op) (kept : KeptRow) → KeepsRow w session old new row kept → SamePass old new
keeps-same w session old new row kept keeps =
    same-later old keeps.mid new (called-same w session row.0 row.1 old keeps.mid (Ok keeps.done) keeps.called) (tries-same w keeps.done.full keeps.mid new kept.split keeps.tries)

pub all-same : (w session : ℕ) (old : Known) (rows : List (ℕ × Op)) (kept : List KeptRow) (new : Known) → KeepsAll w session old rows kept new → SamePass old new
all-same w session old [] [] new all = subst (SamePass old) (sym all) (same-none old)
all-same w session old [] (k ∷ kept) new all = absurd all
all-same w session old (r ∷ rows) [] new all = absurd all
all-same w session old (r ∷ rows) (k ∷ kept) new (mid, one, rest) = same-later old mid new (keeps-same w session old mid r k one) (all-same w session mid rows kept new rest)

pub stops-same : (w session : ℕ) (mid new : Known) (rest : List (ℕ × Op)) (fault : Option CallFault) → Stops w session mid new rest fault → SamePass mid new
stops-same w session mid new [] None same = subst (SamePass mid) (sym same) (same-none mid)
stops-same w session mid new [] (Some fault) none = absurd none
stops-same w session mid new (r ∷ rest) None none = absurd none
stops-same w session mid new (r ∷ rest) (Some fault) called = called-same w session r.0 r.1 mid new (Err fault) called

pub plays-same : {I D O P : Type 0} (w : ℕ) (old new : Lane I D O P) → PlaysLane w old new → SamePass old.pass new.pass
plays-same w old new plays =
    same-later old.pass plays.mid new.pass (all-same w old.session old.pass plays.front new.kept.items plays.mid plays.keeps) (stops-same w old.session plays.mid new.pass plays.rest new.fault plays.stops)
