-- The book after each step of a split.
use Rattle.std.specs.Prelude.{◌≡◌, ℕ, ◌+◌, ◌≤◌, Bool, List, [], ◌∷◌, ◌++◌, length}
use Rattle.std.specs.Arc.{arc_value}
use Rattle.index_layer.specs.Leaves.{AreUnder}
use Rattle.plain_list.specs.declared.entries.Entry.TheVariants.{Begin, Install, Abandon}
use Rattle.plain_list.specs.State.{state_after}
use Rattle.split_prepare.specs.declared.ticket.SplitTicket.{SplitTicket}
use Rattle.commit_book.specs.BookView.{BookView}
use Rattle.point_table.specs.Divisions.{Folds, Divides}

-- the split has the next number, and the leaf's rows are its base, in the bucket that is returned
pub record Begins {D : Type 0} (w : ℕ) (old new : BookView D) (name : List Bool) (ticket : SplitTicket) : Type 0 where
  pub entries : new.entries ≡ old.entries ++ Begin ticket.number name ∷ []
  pub number_is : ticket.number ≡ (state_after w old.opening old.entries).begun + 1
  pub name_is : ticket.name ≡ name
  pub folds : Folds name old.leaves new.leaves (arc_value ticket.bucket)

-- a split of this ticket can be prepared: the name has bits left for children, and the base is under it
pub record CanPrepare (w : ℕ) (ticket : SplitTicket) : Type 0 where
  pub short : length ticket.name + w ≤ 64
  pub under : AreUnder ticket.name (arc_value ticket.bucket).base

-- the leaf is replaced by its children, each with the leaf's rows under its own name
pub record Installs {D : Type 0} (w : ℕ) (old new : BookView D) (number : ℕ) (name : List Bool) : Type 0 where
  pub entries : new.entries ≡ old.entries ++ Install number ∷ []
  pub divides : Divides w name old.leaves new.leaves

-- the split ended, and the leaves are unchanged
pub record Abandons {D : Type 0} (old new : BookView D) (number : ℕ) : Type 0 where
  pub entries : new.entries ≡ old.entries ++ Abandon number ∷ []
  pub leaves : new.leaves ≡ old.leaves
