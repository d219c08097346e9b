-- What is known of a log that stands.
use Rattle.std.proofs.Common.{◌≡◌, inr, ◌∙◌, ℕ, List, [], refl, sym, subst}
use Rattle.std.proofs.lemmas.List.{append-nil}
use Rattle.cell_format.specs.declared.cell.Cell.{Cell}
use Rattle.cell_format.specs.Spelling.{newest}
use Rattle.disk_trait.specs.Drive.{Drive}
use Rattle.recovery.specs.LogText.{IsLog, HoldsCells}
use Rattle.log_state.specs.Recovers.{IsLegalCells, Recovers}
use Rattle.zorder.specs.Width.{IsWidth}
use Rattle.recovery.proofs.Exclusive.{one_recovery}
use Rattle.recovery.proofs.HeadLemmas.{index_version}
use Rattle.recovery.proofs.WidthLemmas.{recovers_width, same_width}
use Rattle.play_run.specs.Standing.{IsStanding, HoldsLog}

-- a drive with the same bytes and no image more
pub holds-same : (w : ℕ) (cells : List Cell) (a b : Drive) → b.bytes ≡ a.bytes → ((c : List ℕ) → b.images c → a.images c) → HoldsLog w cells a → HoldsLog w cells b
holds-same w cells a b same fewer holds = record {
  bytes = holds.bytes;
  told = same ∙ holds.told;
  standing = holds.standing;
  durable = λ c left. holds.durable c (fewer c left);
}

-- a log's text
pub holds-text : (w : ℕ) (cells : List Cell) (drive : Drive) → IsWidth w → IsLegalCells w cells → IsLog w cells drive → HoldsLog w cells drive
holds-text w cells drive known legal log =
    let there : HoldsCells newest w cells log.bytes = record { front = log.bytes; rest = []; parts = sym (append-nil log.bytes); text = log.text } in
    record {
      bytes = log.bytes;
      told = log.told;
      standing = record { known = known; recovers = record { version = newest; known = inr refl; holds = there; legal = legal }; version = index_version newest w cells log.bytes there };
      durable = log.durable;
    }

-- bytes are the log of one width and one list of cells
pub one-width : (v w : ℕ) (own cells : List Cell) (bytes : List ℕ) → IsWidth v → Recovers v own bytes → IsStanding w cells bytes → v ≡ w
one-width v w own cells bytes known recovers stands = same_width v w bytes (recovers_width v own bytes known recovers) (recovers_width w cells bytes stands.known stands.recovers)

pub one-list : (v w : ℕ) (own cells : List Cell) (bytes : List ℕ) → IsWidth v → Recovers v own bytes → IsStanding w cells bytes → own ≡ cells
one-list v w own cells bytes known recovers stands =
    one_recovery w own cells bytes (subst (λ u. Recovers u own bytes) (one-width v w own cells bytes known recovers stands) recovers) stands.recovers
