-- A log that was just opened keeps the empty history.
use Rattle.std.proofs.Common.{◌≡◌, ℕ, List, [], ◌++◌, Some, sym, ◌∙◌, ap, inl, inr, refl, subst, arith}
use Rattle.std.proofs.lemmas.List.{append-nil}
use Rattle.cell_format.specs.declared.cell.Cell.{Cell}
use Rattle.cell_format.specs.Spelling.{newest}
use Rattle.plain_list.specs.State.{State, at_rest}
use Rattle.disk_trait.specs.Drive.{Drive, IsSynced}
use Rattle.disk_trait.specs.Moments.{LeavesNow}
use Rattle.split_log.specs.LogText.{IsLog, HoldsCells}
use Rattle.split_log.proofs.Unique.{holds-same}
use Rattle.log_state.specs.Recovers.{Recovers, state_of}
use Rattle.recovery.specs.Found.{IsFound}
use Rattle.recovery.specs.Opening.{KeepsCells, IsReady}
use Rattle.recovery.specs.declared.seen.Seen.{Seen}
use Rattle.recovery.proofs.CallLemmas.{well-opened}
use Rattle.kept_log.specs.KeptView.{KeptView}
use Rattle.kept_log.specs.Kept.{StartsWith, KeepsSince, Keeps, IsOpened, found_state}

-- If nothing is pending, a crash leaves what the bytes recover to.
pub starts-settled : (w : ℕ) (first : List Cell) (drive : Drive) (bytes : List ℕ) → IsSynced drive → drive.bytes ≡ Some bytes
    → Recovers w first bytes → StartsWith w first drive
starts-settled w first drive bytes settled told recovers = record {
  bytes = bytes;
  told = told;
  recovers = recovers;
  images = λ c left. subst (Recovers w first) (sym (settled bytes told c left)) recovers;
}

-- A crash leaves a log's cells.
pub leaves-log : (w : ℕ) (cells : List Cell) (drive : Drive) → IsLog w cells drive → LeavesNow drive (HoldsCells newest w cells)
leaves-log w cells drive log c left = record { front = log.bytes; rest = []; parts = log.durable c left ∙ sym (append-nil log.bytes); text = log.text }

-- The file is the text of the cells that its bytes recovered to.
text-opened : (w : ℕ) (s : State) (first : List Cell) (bytes : List ℕ) (start now : Drive) → IsOpened w s start now → start.bytes ≡ Some bytes → Recovers w first bytes
    → IsLog w first now
text-opened w s first bytes start now opened told recovers =
    let (cells, also, log) = opened.log bytes told in
    subst (λ (l : List Cell). IsLog w l now) (holds-same also.version recovers.version w cells first bytes also.holds recovers.holds) log

since-opened : (w : ℕ) (s : State) (first : List Cell) (start now : Drive) (failed : _) → IsOpened w s start now → StartsWith w first start
    → KeepsSince w first s [] start now failed
since-opened w s first start now failed opened starts =
    let same : first ++ [] ≡ first = append-nil first in
    let is_log : IsLog w first now = text-opened w s first starts.bytes start now opened starts.told starts.recovers in
    let any_moment = opened.any_moment starts.bytes first starts.told starts.images in
    record {
      opening = opened.state starts.bytes first starts.told starts.recovers;
      later = any_moment.later;
      history = record {
        any_moment = λ c left. (0, subst (λ (l : List Cell). Recovers w l c) (sym same) (any_moment.each c left));
        at_end = λ c left. inl (subst (λ (l : List Cell). Recovers w l c) (sym same)
            (record { version = newest; known = inr refl; holds = leaves-log w first now is_log c left; legal = starts.recovers.legal }));
        log = λ none. subst (λ (l : List Cell). IsLog w l now) (sym same) is_log;
      };
      newest = λ here. (opened.newest here).each;
    }

pub kept-opened : {D : Type 0} (drive : D → Drive) (w : ℕ) (s : State) (log : KeptView D) → log.cells ≡ log.first
    → IsOpened w s (drive log.start) (drive log.disk) → Keeps drive w s [] log
kept-opened drive w s log same opened = record {
  count = omega (arith, same);
  since = λ first starts. since-opened w s first (drive log.start) (drive log.disk) log.failed opened starts;
  text = λ first bytes told recovers none.
      subst (λ (l : List Cell). IsLog w l (drive log.disk)) (sym (append-nil first)) (text-opened w s first bytes (drive log.start) (drive log.disk) opened told recovers);
}

-- The result of opening a log says that it was opened in the state that was found.
pub opened-found : (w most : ℕ) (start now : Drive) (seen : Seen) → IsFound newest w most start seen → IsReady w seen start now → KeepsCells w start now
    → IsOpened w (found_state seen) start now
opened-found w most start now seen found ready any_moment = record {
  state = λ bytes first told recovers.
      let there = found.recovers bytes told in
      let same : first ≡ found.cells = holds-same recovers.version there.version w first found.cells bytes recovers.holds there.holds in
      ap (λ cells. at_rest (state_of w cells)) same
      ∙ (λ i. record { world = sym found.finds.world i; leaves = sym found.finds.leaves i; splits = []; begun = sym found.finds.begun i });
  log = λ bytes told. let (cells, count, recovers, log) = ready.log bytes told in (cells, recovers, log);
  any_moment = any_moment;
  newest = ready.newest;
  calls = well-opened seen.cells start now ready.calls;
  same = ready.same;
  file = ready.file;
  told = ready.told;
}
