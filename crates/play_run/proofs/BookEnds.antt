-- A book over what was found in a log.
use Rattle.std.proofs.Common.{◌≡◌, ◌∙◌, ℕ, false, List, [], Option, Some, refl, sym, ap, subst}
use Rattle.disk_trait.specs.Drive.{Drive, AttachedOne, Stays}
use Rattle.recovery.specs.declared.seen.Seen.{Seen}
use Rattle.kept_log.specs.KeptView.{KeptView, Earlier}
use Rattle.kept_log.specs.Counts.{first_of, first_in}
use Rattle.kept_log.specs.Kept.{found_state}
use Rattle.commit_book.specs.BookView.{BookView}
use Rattle.play_run.specs.Origin.{origin_of}
use Rattle.play_run.specs.inside.Books.{IsPlain, OpensFile, OpensBook}
use Rattle.play_run.proofs.OpeningFacts.{named-newest}

-- a book over what was found
pub opens-book : {D : Type 0} (drive : D → Drive) (file : List ℕ) (old : Drive) (w size : ℕ) (b : BookView D) (log : KeptView D) (seen : Seen) (start : D) (now : Drive) → OpensFile file old (drive start) now w seen
    → IsPlain log → log.first ≡ log.cells → log.start ≡ start → log.cells ≡ seen.cells → b.opening ≡ found_state seen → b.bucket ≡ size → b.log ≡ Some log → OpensBook drive file old w size b
opens-book {D = D} drive file old w size b log seen start now opens plain first here count opening bucket log_is =
    let found = opens.found in
    record {
      bucket = bucket;
      log = log;
      log_is = log_is;
      plain = plain;
      from = origin_of w found.cells;
      found = record {
        width = w;
        known = opens.known;
        first = found.cells;
        legal = found.legal;
        few = found.few;
        origin_is = refl;
        recovers = λ text told. found.recovers text (opens.stays.bytes ∙ told);
        version = λ text told. named-newest w (drive start) seen text found (opens.stays.bytes ∙ told);
      };
      width = refl;
      state = opening ∙ (λ i. record { world = found.finds.world i; leaves = found.finds.leaves i; splits = []; begun = found.finds.begun i });
      count = ap (λ (l : Option (KeptView D)). first_in l) log_is ∙ ap (λ (e : Option (Earlier D)). first_of log.first e) plain.whole ∙ ap (λ (n : ℕ). Some n) (first ∙ count ∙ found.finds.count);
      stays = subst (λ (d : D). Stays old (drive d)) (sym here) opens.stays;
      calm = subst (λ (d : D). (drive d).faults ≡ old.faults) (sym here) opens.calm;
      attached = subst (λ (d : D). AttachedOne file false old (drive d)) (sym here) opens.attached;
      shows = opens.shows;
    }
