-- A book whose records wait from now on, or whose log a fresh one may replace from now on.
use Rattle.std.proofs.Common.{◌≡◌, ℕ, Option, None, Some, refl, sym, ap, subst, ◌∙◌}
use Rattle.std.specs.Option.{option_map}
use Rattle.plain_list.specs.State.{State}
use Rattle.disk_trait.specs.Drive.{Drive}
use Rattle.kept_log.specs.KeptView.{KeptView}
use Rattle.kept_log.specs.Journal.{KeepsIn, waits_from, moves_from}
use Rattle.kept_log.specs.Counts.{first_in}
use Rattle.kept_log.proofs.Moving.{keeps-moves}
use Rattle.kept_log.proofs.Waiting.{in-at-sync}
use Rattle.commit_book.specs.BookInside.{IsInside}
use Rattle.commit_book.specs.Room.{BeginsInRoom}
use Rattle.commit_book.specs.declared.book.Book.TheInside.{Inside}
use Rattle.commit_book.proofs.OnLog.{inside-on}

-- its log has the same opening
first-waits : {D : Type 0} (log : Option (KeptView D)) → first_in (option_map waits_from log) ≡ first_in log
first-waits None = refl
first-waits (Some log) = refl

first-moves : {D : Type 0} (log : Option (KeptView D)) → first_in (option_map moves_from log) ≡ first_in log
first-moves None = refl
first-moves (Some log) = refl

module _ {I D P : Type 0} (drive : D → Drive) (w : ℕ) (o : State) (b : Inside I D P) (journal : Option (KeptView D)) (inside : IsInside drive w o b) where
  -- and it keeps all that held of it
  pub inside-at_sync : journal ≡ option_map waits_from b.journal
      → IsInside {I = I} {P = P} drive w o (record { table = b.table; splits = b.splits; history = b.history; journal = journal; opening = b.opening })
  inside-at_sync same =
      inside-on drive w o b journal inside
      (subst (λ (first : Option ℕ). BeginsInRoom b.history.kept first o.world b.history.entries) (sym (ap first_in same ∙ first-waits b.journal)) inside.begins)
      (subst (λ (l : Option (KeptView D)). KeepsIn drive w o b.history.entries l) (sym same) (in-at-sync drive w o b.history.entries b.journal inside.on_log))

  pub inside-may_move : journal ≡ option_map moves_from b.journal
      → IsInside {I = I} {P = P} drive w o (record { table = b.table; splits = b.splits; history = b.history; journal = journal; opening = b.opening })
  inside-may_move same =
      inside-on drive w o b journal inside
      (subst (λ (first : Option ℕ). BeginsInRoom b.history.kept first o.world b.history.entries) (sym (ap first_in same ∙ first-moves b.journal)) inside.begins)
      (subst (λ (l : Option (KeptView D)). KeepsIn drive w o b.history.entries l) (sym same) (keeps-moves drive w o b.history.entries b.journal inside.on_log))
