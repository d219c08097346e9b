-- Device calls up to the first one that failed: one stretch after the other, and those of an opening.
use Rattle.std.proofs.Common.{◌⊎◌, inl, inr, ℕ, ◌+◌, Bool, true, false, List, [], ◌∷◌, ◌++◌, replicate, sym, ◌∙◌, ap, subst, append_assoc}
use Rattle.std.proofs.lemmas.List.{append-nil, replicate-append-replicate}
use Rattle.disk_trait.specs.Drive.{Drive, HasNoMore, Made, MadeWell, StopsAfter}
use Rattle.disk_trait.proofs.Calls.{made-then}
use Rattle.recovery.specs.Calls.{AllWentWell, EndsAtFault, StopsAtFault}
use Rattle.recovery.specs.Opening.{CallsRefused, CallsToOpen}
use Rattle.recovery.specs.declared.seen.OpenFault.{OpenFault}

-- No call.
pub well-none : (old new : Drive) → HasNoMore old.calls new.calls → AllWentWell old new
well-none old new none = record { count = 0; calls = λ all told. (all, none all told, sym (append-nil all)) }

-- More calls after calls that went well.
module _ (old mid new : Drive) (first : AllWentWell old mid) where
  pub well-then : AllWentWell mid new → AllWentWell old new
  well-then last = record {
    count = first.count + last.count;
    calls = subst (λ (l : List Bool). Made l old new) (replicate-append-replicate first.count last.count true)
        (made-then (replicate first.count true) (replicate last.count true) old mid new first.calls last.calls);
  }

  pub ends-then : EndsAtFault mid new → EndsAtFault old new
  ends-then last = record {
    went_well = first.count + last.went_well;
    calls = subst (λ (l : List Bool). Made l old new)
        (sym (append_assoc (replicate first.count true) (replicate last.went_well true) (false ∷ []))
        ∙ ap (λ (l : List Bool). l ++ false ∷ []) (replicate-append-replicate first.count last.went_well true))
        (made-then (replicate first.count true) (replicate last.went_well true ++ false ∷ []) old mid new first.calls last.calls);
  }

  pub stops-then : StopsAtFault mid new → StopsAtFault old new
  stops-then (inl well) = inl (well-then well)
  stops-then (inr failed) = inr (ends-then failed)

-- The calls of an opening, and of one that was refused.
pub well-opened : (cells : ℕ) (old new : Drive) → CallsToOpen cells old new → AllWentWell old new
well-opened cells old new (inl alone) = record { count = 1; calls = alone.1 }
well-opened cells old new (inr more) = record { count = 3; calls = more.1 }

pub stops-refused : (why : OpenFault) (old new : Drive) → CallsRefused why old new → StopsAtFault old new
stops-refused why old new refused = by_case refused.disk
  where
    by_case : MadeWell 1 old new ⊎ ((went_well : ℕ) × StopsAfter 2 went_well old new) → StopsAtFault old new
    by_case (inl one) = inl (record { count = 1; calls = one })
    by_case (inr (k, stops)) = inr (record { went_well = k; calls = stops.calls })
