-- A log of no cells, written over a small file.
use Rattle.std.proofs.Common.{◌≡◌, ℕ, ◌+◌, ◌≤◌, List, [], ◌∷◌, ◌++◌, length, drop, Some, sym, ◌∙◌, ap, subst, arith, length-append}
use Rattle.std.proofs.lemmas.List.{append-nil, drop_all}
use Rattle.cell_format.specs.Spelling.{newest, header_text}
use Rattle.std.specs.Prelude.{Result, Ok, Err, OnOk, IfErr}
use Rattle.std.specs.Result.{IsErrAnd}
use Rattle.disk_trait.specs.declared.disk.DiskFault.{DiskFault}
use Rattle.disk_trait.specs.Drive.{Drive, SameFile, KeepsLaws, Stays, Writes, Syncs, Holds, Only}
use Rattle.disk_trait.specs.Moments.{LeavesNow, LeavesOnly}
use Rattle.disk_trait.proofs.Stretches.{goes_on}
use Rattle.split_log.specs.LogText.{IsLog}
use Rattle.split_log.proofs.Cells.{length-header}
use Rattle.recovery.specs.Making.{IsSmall, KeepsSmall}
use Rattle.recovery.proofs.OpeningLemmas.{leaves-stays}

pub log_made : (w : ℕ) (drive : Drive) (old piece new : List ℕ) → length old ≤ 17 → piece ≡ header_text newest w ++ 0 ∷ [] → Holds old 0 piece new → drive.bytes ≡ Some new → Only new drive.images → IsLog w [] drive
log_made w drive old piece new small is holds told only =
    let long : length piece ≡ 17 = omega (arith, ap length is, length-append (header_text newest w) (0 ∷ []), length-header newest w) in
    let none : drop (0 + length piece) old ≡ [] = drop_all (0 + length piece) old (omega (arith, long, small)) in
    let whole : new ≡ piece = holds ∙ ap (λ (l : List ℕ). piece ++ l) none ∙ append-nil piece in
    record {
      bytes = new;
      told = told;
      text = record { cells_fit = tt; commit_byte = 0; clear = λ e. cc e; text = whole ∙ is ∙ ap (λ (l : List ℕ). l ++ 0 ∷ []) (sym (append-nil (header_text newest w))) };
      durable = only;
    }

-- After a fault the claim about a success holds trivially.
pub not_made : {T E : Type 0} (result : Result T E) (fault : E) (P : Type 0) → IsErrAnd result (λ e. e ≡ fault) → OnOk result P
not_made (Ok x) fault P same = absurd same
not_made (Err e) fault P same = tt

pub refused_on : {T E : Type 0} (result : Result T E) (fault : E) (P : E → Type 0) → IsErrAnd result (λ e. e ≡ fault) → P fault → IfErr result P
refused_on (Ok x) fault P same holds = tt
refused_on (Err e) fault P same holds = subst P (sym same) holds

-- A small file stays small while it is read, written over and synced.
module _ (a b : Drive) (laws : KeepsLaws a) (stays : Stays a b) where
  pub small_stays : a.faults ≤ b.faults → SameFile a b → KeepsSmall a b
  small_stays later file = record { small = λ now. leaves-stays a b IsSmall laws now stays; in_use = λ bytes told long. stays; later = later; file = file }

  module _ {T : Type 0} (c : Drive) (piece : List ℕ) (wrote : Result T DiskFault) (short : length piece ≤ 17) (writes : Writes b c 0 piece wrote) (small : (bytes : List ℕ) → a.bytes ≡ Some bytes → length bytes ≤ 17) where
    images : LeavesNow a IsSmall → LeavesNow c IsSmall
    images now x left =
        let (d, before, torn) = writes.crash x left in
        let was : length d ≤ 17 = now d (stays.images d before) in
        omega (arith, was, short, torn.no_longer)

    written : LeavesNow a IsSmall → LeavesOnly a c IsSmall
    written now = goes_on a b c IsSmall (leaves-stays a b IsSmall laws now stays) writes.time (images now)

    pub small_written : a.faults ≤ c.faults → SameFile a c → KeepsSmall a c
    small_written later file = record { small = written; in_use = λ bytes told long. absurd (omega (arith, long, small bytes told)); later = later; file = file }

    pub small_synced : {U : Type 0} (d : Drive) (synced : Result U DiskFault) → Syncs c d synced → a.faults ≤ d.faults → SameFile a d → KeepsSmall a d
    small_synced d synced syncs later file = record {
      small = λ now. goes_on a c d IsSmall (written now) syncs.time (λ x left. images now x (syncs.crash x left));
      in_use = λ bytes told long. absurd (omega (arith, long, small bytes told));
      later = later;
      file = file;
    }
