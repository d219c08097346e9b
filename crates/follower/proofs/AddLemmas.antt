-- How a cell is added.
use Rattle.std.proofs.Common.{◌≡◌, ℕ, ◌+◌, ◌≤◌, Bool, false, List, [], ◌∷◌, ◌++◌, refl, sym, ◌∙◌, subst}
use Rattle.std.specs.Prelude.{Result, Ok, Err, is_ok, is_err, if◌then◌else◌}
use Rattle.std.proofs.lemmas.Bool.{true≢false}
use Rattle.cell_format.specs.declared.cell.Cell.{Cell}
use Rattle.disk_trait.specs.Drive.{Drive}
use Rattle.split_log.specs.Append.{Adds, Fails}
use Rattle.split_log.specs.LogView.{LogView}
use Rattle.follower.specs.Adding.{LeavesEither, IsAdded, FailsToAdd}
use Rattle.follower.specs.Holding.{FollowerView}

-- A push that didn't fail.
pub pushed : {E : Type 0} (r : Result (Unit {0}) E) (failed : Bool) (old new : List ℕ) (x y : ℕ) → failed ≡ is_err r → failed ≡ false → x ≡ y
    → new ≡ (if is_ok r then old ++ x ∷ [] else old) → new ≡ old ++ y ∷ []
pushed (Ok done) failed old new x y tested went same items = subst (λ (n : ℕ). new ≡ old ++ n ∷ []) same items
pushed (Err e) failed old new x y tested went same items = absurd (true≢false (sym tested ∙ went))

-- The follower before and after an append.
module _ {D : Type 0} (drive : D → Drive) (cell : Cell) (log now : LogView D) (w known : ℕ) (packets acks : List ℕ) (old : FollowerView D)
    (before : ◌≡◌ {A = FollowerView D} (record { disk = log.disk; width = w; state = record { held = log.cells; known = known; packets = packets; acks = acks } }) old)
    (any_moment : LeavesEither cell (drive log.disk) (drive now.disk)) where
  pub add_done : (more : List ℕ) → more ≡ acks ++ (log.cells + 1) ∷ [] → Adds cell log.cells now.cells now.failed (drive log.disk) (drive now.disk)
      → IsAdded drive cell old (record { disk = now.disk; width = w; state = record { held = now.cells; known = known; packets = packets; acks = more } })
  add_done more acks_are adds =
      subst (λ (o : FollowerView D). IsAdded drive cell o (record { disk = now.disk; width = w; state = record { held = now.cells; known = known; packets = packets; acks = more } })) before (record {
        state = λ i. record { held = adds.count i; known = known; packets = packets; acks = acks_are i };
        width = refl;
        log = adds.log;
        told = adds.told;
        calm = adds.same;
        calls = adds.calls;
        file = adds.file;
        any_moment = any_moment;
      })

  pub add_failed : (disk : D) (number : ℕ) → disk ≡ now.disk → (drive log.disk).faults ≤ (drive now.disk).faults
      → Fails cell number log.cells now.cells now.failed (drive log.disk) (drive now.disk) → FailsToAdd cell number old.state.held (drive old.disk) (drive disk)
  add_failed disk number same later fails =
      subst (λ (o : FollowerView D). FailsToAdd cell number o.state.held (drive o.disk) (drive disk)) before
      (subst (λ (d : D). FailsToAdd cell number log.cells (drive log.disk) (drive d)) (sym same)
      (record { named = fails.named; rose = fails.rose; told = fails.told; later = later; calls = (fails.broken.went_well, fails.broken.stops); file = fails.file; now = fails.either; any_moment = any_moment }))
