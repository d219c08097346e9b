-- What a pass knows that holds the lock while a fresh log replaces the log, or while the book is stopped.
use Rattle.std.proofs.Common.{◌≡◌, ℕ, true, false, List, [], ◌∷◌, ◌++◌, Option, Some, None, refl, sym, ap, subst, ◌∙◌}
use Rattle.std.specs.Option.{option_map, option_map_or}
use mathlib.Core.List.{IsPrefix}
use Rattle.plain_list.specs.declared.entries.Entry.{Entry}
use Rattle.plain_list.specs.declared.entries.Entry.TheVariants.{Fail}
use Rattle.disk_trait.specs.Drive.{Drive}
use Rattle.kept_log.specs.KeptView.{KeptView}
use Rattle.kept_log.specs.Journal.{moves_in, written_in}
use Rattle.commit_book.specs.BookView.{BookView}
use Rattle.commit_book.specs.IsBook.{AreBooks, AreMovedBooks, SameMoved}
use Rattle.commit_book.specs.Moves.{StopsBook, lost_stop}
use Rattle.book_lock.specs.Pass.{Known}
use Rattle.book_lock.specs.declared.origin.LogStart.{LogStart}
use Rattle.sessions.specs.Runs.{HasLooked}
use Rattle.sessions.specs.Shared.{origin_of, start_in, moves_of}
use Rattle.sessions.specs.Steps.{MayGive, WasTaken, has_added, has_given, has_seen}
use Rattle.sessions.specs.Syncs.{Stood}
use Rattle.sessions.proofs.Origins.{moved-origin, same-origin}
use Rattle.sessions.proofs.StepLemmas.{adds, fail-may, sees}

log-moves : {D : Type 0} (drive : D → Drive) (log : Option (KeptView D)) → option_map_or (λ (start : LogStart). start.moves) (option_map (start_in drive) log) false ≡ moves_in log
log-moves drive None = refl
log-moves drive (Some log) = refl

-- whether a fresh log may replace the log of a book is known from its origin
pub moves-of : {D : Type 0} (drive : D → Drive) (b : BookView D) → moves_of (origin_of drive b) ≡ moves_in b.log
moves-of drive b = log-moves drive b.log

module _ {D : Type 0} (drive : D → Drive) (w : ℕ) (b mid : BookView D) (old took back : Known) (was : WasTaken drive b old took) where
  taken-origin : took.origin ≡ old.origin
  taken-origin = ap (λ (k : Known). k.origin) was.took_is

  -- the log of the book that was taken may be replaced, if the origin says so
  pub taken-moves : moves_of old.origin ≡ true → moves_in b.log ≡ true
  taken-moves moves = sym (moves-of drive b) ∙ ap moves_of was.origin ∙ moves

  -- a book with a fresh log has the same origin, so it may be given back
  pub moved-given : SameMoved b mid → origin_of drive mid ≡ took.origin
  moved-given same = moved-origin drive b mid same ∙ was.origin ∙ sym taken-origin

  pub moved-may : mid.entries ≡ b.entries → MayGive took false mid.entries
  moved-may same = same ∙ was.entries

  -- when it was given back, it had all that the pass has seen
  pub moved-stood : AreMovedBooks drive w b mid → mid.entries ≡ b.entries → back ≡ has_given took false mid.entries → Stood drive w back
  moved-stood books same given = record {
    book = mid;
    is_book = books.after;
    entries = same ∙ was.entries ∙ sym (ap (λ (k : Known). k.seen) given);
    origin = moved-given books.origin ∙ sym (ap (λ (k : Known). k.origin) given);
  }

  -- who gives a book back with no entry more has only looked
  pub held-looked : back ≡ has_given took false mid.entries → HasLooked old back
  held-looked given =
      let is : back ≡ has_seen old took.seen = sees old took back mid.entries was.off was.took_is given in
      let seen : back.seen ≡ took.seen = ap (λ (k : Known). k.seen) is in
      record { later = subst (IsPrefix old.seen) (sym seen) was.later; alone = λ all. seen ∙ was.alone all; pass_is = is ∙ ap (has_seen old) (sym seen) }

  stopped-entries : StopsBook b mid → mid.entries ≡ took.seen ++ Fail (written_in b.log) lost_stop ∷ []
  stopped-entries stops = stops.entries ∙ ap (λ (h : List Entry). h ++ Fail (written_in b.log) lost_stop ∷ []) was.entries

  -- a book that was stopped may be given back with one entry more
  pub stopped-given : AreBooks drive w b mid → origin_of drive mid ≡ took.origin
  stopped-given books = same-origin drive b mid books.origin ∙ was.origin ∙ sym taken-origin

  pub stopped-may : StopsBook b mid → MayGive took true mid.entries
  stopped-may stops = (Fail (written_in b.log) lost_stop, stopped-entries stops, fail-may (written_in b.log) lost_stop took.seen took.own)

  -- that entry is the pass's own
  pub stopped-added : StopsBook b mid → back ≡ has_given took true mid.entries → back ≡ has_added old took.seen (Fail (written_in b.log) lost_stop)
  stopped-added stops given = adds old took back mid.entries (Fail (written_in b.log) lost_stop) was.off was.took_is (stopped-entries stops) given

  pub stopped-stood : AreBooks drive w b mid → back ≡ has_given took true mid.entries → Stood drive w back
  stopped-stood books given = record {
    book = mid;
    is_book = books.after;
    entries = sym (ap (λ (k : Known). k.seen) given);
    origin = stopped-given books ∙ sym (ap (λ (k : Known). k.origin) given);
  }
