-- A book whose log a fresh one has replaced.
use Rattle.std.proofs.Common.{◌≡◌, ℕ, ◌-◌, ◌≤◌, Bool, true, false, cond, List, [], ◌∷◌, map, Option, None, Some, refl, sym, ap, subst, arith}
use Rattle.std.specs.Prelude.{◌||◌, nat_lt}
use Rattle.std.specs.Option.{option_map}
use Rattle.std.proofs.lemmas.Bool.Decides.{nat_tests}
use Rattle.plain_list.specs.declared.entries.Entry.{Entry}
use Rattle.plain_list.specs.World.{World}
use Rattle.plain_list.specs.History.{failed_cell}
use Rattle.plain_list.specs.State.{State, OpenSplit}
use Rattle.disk_trait.specs.Drive.{Drive}
use Rattle.split_log.specs.LogView.{LogView}
use Rattle.recovery.specs.declared.seen.Seen.{Seen}
use Rattle.kept_log.specs.KeptView.{KeptView}
use Rattle.kept_log.specs.Kept.{found_state}
use Rattle.kept_log.specs.Moved.{fewer, lessen_split}
use Rattle.kept_log.specs.Journal.{KeepsIn, IsMovedFromIn, moved_to}
use Rattle.kept_log.specs.Counts.{first_in, count_after}
use Rattle.commit_book.specs.BookInside.{IsInside}
use Rattle.commit_book.specs.Moves.{first_open, splits_refusal, move_cause}
use Rattle.commit_book.specs.Room.{BeginsInRoom}
use Rattle.commit_book.specs.declared.faults.MoveFault.TheVariants.{Ahead}
use Rattle.commit_book.specs.declared.book.Book.TheInside.{Inside}
use Rattle.commit_book.proofs.OnLog.{inside-on}

-- what lets a fresh log replace the log
pub record MayMove (s : State) (h : List Entry) (begun : ℕ) : Type 0 where
  pub going : failed_cell h ≡ None
  pub rests : s.splits ≡ []
  pub least : begun ≤ s.begun

pub may_move : (s : State) (h : List Entry) (begun : ℕ) → move_cause s begun (failed_cell h) ≡ None → MayMove s h begun
may_move s h begun none = by_cell (failed_cell h) refl none
  where
    by_test : (b : Bool) → nat_lt s.begun begun ≡ b → cond b (Some (Ahead begun)) None ≡ None → begun ≤ s.begun
    by_test true is none = absurd (cc none)
    by_test false is none = grind (arith, nat_tests)

    by_splits : (os : List OpenSplit) → s.splits ≡ os → splits_refusal s begun (first_open os) ≡ None → (s.splits ≡ []) × (begun ≤ s.begun)
    by_splits [] is none = (is, by_test (nat_lt s.begun begun) refl none)
    by_splits (o ∷ os) is none = absurd (cc none)

    by_cell : (cell : Option ℕ) → failed_cell h ≡ cell → move_cause s begun cell ≡ None → MayMove s h begun
    by_cell (Some cell) is none = absurd (cc none)
    by_cell None is none = let both = by_splits s.splits refl none in record { going = is; rests = both.0; least = both.1 }

-- what was found in the fresh log is the state of the book, with lesser numbers of splits
pub found-fewer : (seen : Seen) (s : State) → seen.world ≡ s.world → seen.leaves ≡ s.leaves → s.splits ≡ [] → seen.begun ≤ s.begun
    → found_state seen ≡ fewer (s.begun - seen.begun) s
found-fewer seen s world leaves rests least =
    let begun : seen.begun ≡ s.begun - (s.begun - seen.begun) = omega (arith, least) in
    let none : map (lessen_split (s.begun - seen.begun)) s.splits ≡ [] = ap (map (lessen_split (s.begun - seen.begun))) rests in
    λ i. record { world = world i; leaves = leaves i; splits = sym none i; begun = begun i }

-- the begins of splits were within room by the number of entries alone
begins-uncounted : (k : Bool) (first : Option ℕ) (world : World) (h : List Entry) → BeginsInRoom k first world h → BeginsInRoom k None world h
begins-uncounted k first world h kept before after number name there = later (nat_lt 16000000 (count_after first world before)) _ (kept before after number name there)
  where
    later : (a b : Bool) → (a || b) ≡ false → b ≡ false
    later true b none = absurd (cc none)
    later false b none = none

module _ {D : Type 0} (entries : List Entry) (skipped : ℕ) (fresh : LogView D) (start : D) where
  -- no cells of the fresh log are counted
  pub first-moved : (log : Option (KeptView D)) → first_in (option_map (moved_to entries skipped fresh start) log) ≡ None
  first-moved None = refl
  first-moved (Some log) = refl

  -- its first opening is that of the old one
  pub moved-from : (log : Option (KeptView D)) → IsMovedFromIn log (option_map (moved_to entries skipped fresh start) log)
  moved-from None = tt
  moved-from (Some log) = record { start = refl; first = refl; at_sync = refl; moves = refl }

-- the book keeps all that held of it
pub inside-moved : {I D P : Type 0} (drive : D → Drive) (w : ℕ) (o : State) (b : Inside I D P) (journal : Option (KeptView D)) → IsInside drive w o b → first_in journal ≡ None
    → KeepsIn drive w o b.history.entries journal
    → IsInside {I = I} {P = P} drive w o (record { table = b.table; splits = b.splits; history = b.history; journal = journal; opening = b.opening })
inside-moved drive w o b journal inside none kept =
    inside-on drive w o b journal inside
    (subst (λ (first : Option ℕ). BeginsInRoom b.history.kept first o.world b.history.entries) (sym none) (begins-uncounted b.history.kept (first_in b.journal) o.world b.history.entries inside.begins)) kept
