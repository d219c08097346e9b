-- Books that continue on another log.
use Rattle.std.proofs.Common.{◌≡◌, ℕ, subst, ◌∙◌}
use Rattle.plain_list.specs.History.{world_after}
use Rattle.plain_list.proofs.Histories.{state_after-world}
use Rattle.disk_trait.specs.Drive.{Drive}
use Rattle.commit_book.specs.BookInside.{IsInside, book_of}
use Rattle.commit_book.specs.BookView.{BookView}
use Rattle.commit_book.specs.declared.book.Book.TheInside.{Inside}

module _ {I D P : Type 0} (drive : D → Drive) (w : ℕ) (b : Inside I D P) (inside : IsInside drive w b.opening b) where
  -- the table has the objects that the history leaves
  pub table-world : (now : BookView D) → book_of b ≡ now → b.table.world ≡ world_after now.opening.world now.entries
  table-world now view =
      subst (λ (v : BookView D). b.table.world ≡ world_after v.opening.world v.entries) view (inside.world ∙ state_after-world w b.opening b.history.entries)
