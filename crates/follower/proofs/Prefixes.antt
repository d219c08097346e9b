-- The first cells of a leader, in a log.
use Rattle.std.proofs.Common.{◌≡◌, ℕ, ◌≤◌, inr, true, List, [], take, drop, Some, refl, sym, ◌∙◌, subst}
use Rattle.std.specs.Prelude.{slice_index}
use Rattle.std.proofs.lemmas.List.{append-nil, take-append-drop}
use Rattle.cell_format.specs.declared.cell.Cell.{Cell}
use Rattle.cell_format.specs.Spelling.{newest}
use Rattle.disk_trait.specs.Drive.{Drive}
use Rattle.disk_trait.specs.Moments.{LeavesNow}
use Rattle.plain_list.specs.State.{empty_state}
use Rattle.split_log.specs.LogText.{IsLog, HoldsCells}
use Rattle.split_log.proofs.Cells.{holds_front}
use Rattle.log_state.specs.Recovers.{Recovers, IsLegalCells, is_legal_cells}
use Rattle.log_state.proofs.LegalCells.{legal-front}
use Rattle.recovery.proofs.HeadLemmas.{index_version}
use Rattle.follower.specs.Holding.{RecoversFirst}

-- A crash leaves a log's cells.
pub log-leaves : (w : ℕ) (cells : List Cell) (drive : Drive) → IsLog w cells drive → LeavesNow drive (HoldsCells newest w cells)
log-leaves w cells drive log c left = holds_front w cells log.bytes [] c log.text (log.durable c left ∙ sym (append-nil log.bytes))

some_same : (a b : List ℕ) → Some a ≡ Some b → a ≡ b
some_same a b same = cc same

-- The bytes of a log hold its cells.
pub log-holds : (w : ℕ) (cells : List Cell) (drive : Drive) (bytes : List ℕ) → IsLog w cells drive → drive.bytes ≡ Some bytes → HoldsCells newest w cells bytes
log-holds w cells drive bytes log told = holds_front w cells log.bytes [] bytes log.text (some_same bytes log.bytes (sym told ∙ log.told) ∙ sym (append-nil log.bytes))

pub log-version : (w : ℕ) (cells : List Cell) (drive : Drive) (bytes : List ℕ) → IsLog w cells drive → drive.bytes ≡ Some bytes → slice_index bytes 8 ≡ newest
log-version w cells drive bytes log told = index_version newest w cells bytes (log-holds w cells drive bytes log told)

module _ (w : ℕ) (cells : List Cell) (legal : IsLegalCells w cells) where
  pub legal-take : (n : ℕ) → IsLegalCells w (take n cells)
  legal-take n =
      legal-front w empty_state (take n cells) (drop n cells) (subst (λ (l : List Cell). is_legal_cells w empty_state l ≡ true) (sym (take-append-drop n cells)) legal)

  pub recovers-held : (n : ℕ) (c : List ℕ) → HoldsCells newest w (take n cells) c → Recovers w (take n cells) c
  recovers-held n c holds = record { version = newest; known = inr refl; holds = holds; legal = legal-take n }

  pub log-recovers : (n : ℕ) (drive : Drive) → IsLog w (take n cells) drive → LeavesNow drive (Recovers w (take n cells))
  log-recovers n drive log c left = recovers-held n c (log-leaves w (take n cells) drive log c left)

  pub bytes-recover : (n : ℕ) (drive : Drive) (bytes : List ℕ) → IsLog w (take n cells) drive → drive.bytes ≡ Some bytes → Recovers w (take n cells) bytes
  bytes-recover n drive bytes log told = recovers-held n bytes (log-holds w (take n cells) drive bytes log told)

  -- At least `least`, and at most `most` of them.
  module _ (n least most : ℕ) (low : least ≤ n) (high : n ≤ most) where
    pub first-held : (c : List ℕ) → HoldsCells newest w (take n cells) c → RecoversFirst w cells least most c
    first-held c holds = record { count = n; least_is = low; most_is = high; recovers = recovers-held n c holds; version = index_version newest w (take n cells) c holds }

    pub first-log : (drive : Drive) → IsLog w (take n cells) drive → LeavesNow drive (RecoversFirst w cells least most)
    first-log drive log c left = first-held c (log-leaves w (take n cells) drive log c left)
