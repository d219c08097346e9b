-- The room that is left after all that a pass has seen is that of the book that it took.
use Rattle.std.proofs.Common.{◌≡◌, ℕ, ◌+◌, false, List, length, Option, Some, None, is_some, refl, ap, ◌∙◌}
use Rattle.std.specs.Option.{option_map, option_map_or}
use Rattle.plain_list.specs.declared.entries.Entry.{Entry}
use Rattle.plain_list.specs.State.{State}
use Rattle.disk_trait.specs.Drive.{Drive}
use Rattle.log_state.specs.Changes.{cells_of}
use Rattle.kept_log.specs.KeptView.{KeptView}
use Rattle.kept_log.specs.Journal.{KeepsIn}
use Rattle.kept_log.proofs.Moving.{unmoved-count}
use Rattle.commit_book.specs.BookView.{BookView}
use Rattle.commit_book.specs.IsBook.{IsBook}
use Rattle.commit_book.specs.RoomLeft.{cells_where, room_beside, room_of}
use Rattle.book_lock.specs.declared.origin.Origin.{Origin}
use Rattle.book_lock.specs.declared.origin.LogStart.{LogStart}
use Rattle.sessions.specs.Shared.{origin_of, start_in, moves_of}
use Rattle.sessions.specs.Rooms.{IsRoom, cells_where_at}

log-cells : {D : Type 0} (drive : D → Drive) (w : ℕ) (s : State) (h : List Entry) (log : Option (KeptView D)) → KeepsIn drive w s h log
    → option_map_or (λ (start : LogStart). start.moves) (option_map (start_in drive) log) false ≡ false
    → cells_where log ≡ option_map (λ (n : ℕ). n + length (cells_of s.world h)) (option_map (λ (start : LogStart). start.cells) (option_map (start_in drive) log))
log-cells drive w s h None keeps still = refl
log-cells drive w s h (Some log) keeps still = ap Some (unmoved-count drive w s h log still keeps)

-- there are records where there is a log
has-log : {D : Type 0} (drive : D → Drive) (log : Option (KeptView D)) → is_some (cells_where log) ≡ is_some (option_map (start_in drive) log)
has-log drive None = refl
has-log drive (Some log) = refl

module _ {D : Type 0} (drive : D → Drive) (w : ℕ) (b : BookView D) (is : IsBook drive w b) (origin : Origin) (seen : List Entry) (from : origin_of drive b ≡ origin) (entries : b.entries ≡ seen) where
  pub room-seen : IsRoom origin seen (room_of b)
  room-seen = record {
    cells = cells_where b.log;
    counted = λ still. log-cells drive w b.opening b.entries b.log is.on_log (ap moves_of from ∙ still) ∙ (λ i. cells_where_at (from i) (entries i));
    logged = has-log drive b.log ∙ ap (λ (o : Origin). is_some o.log) from;
    room_is = λ i. room_beside (from i).kept (cells_where b.log) (length (entries i));
  }
