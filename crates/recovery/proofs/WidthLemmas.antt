-- What the head of a file shows: its width, or one fault.
use Rattle.std.proofs.Common.{◌≡◌, ℕ, inl, ⊎_elim, List, Option, Some, None, length, sym, ◌∙◌, ap, subst, arith}
use Rattle.std.specs.Prelude.{slice_index}
use Rattle.disk_trait.specs.Drive.{Drive}
use Rattle.recovery.specs.declared.seen.OpenFault.{OpenFault}
use Rattle.recovery.specs.declared.seen.OpenFault.TheVariants as fault
use Rattle.cell_format.specs.declared.cell.Cell.{Cell}
use Rattle.log_state.specs.Recovers.{Recovers}
use Rattle.recovery.specs.Faults.{IsDamaged, IsTooLong, IsFault}
use Rattle.recovery.specs.Found.{IsWanted}
use Rattle.recovery.specs.Headers.{HasHeader, FailsHead, RefusesHead}
use Rattle.zorder.specs.Width.{IsWidth}
use Rattle.recovery.specs.Widths.{HasWidth}
use Rattle.recovery.specs.Wanted.{IsOtherFor}
use Rattle.recovery.proofs.HeadLemmas.{header_bytes, header_is_log, index_width}
use Rattle.recovery.proofs.Exclusive.{recovers_wanted, recovers_no_fault}

module _ (v w : ℕ) (bytes : List ℕ) (has : HasHeader v w bytes) where
  version_there : v ≡ slice_index bytes 8
  version_there = sym (ap (λ (l : List ℕ). slice_index l 8) has.parts ∙ (header_bytes v w has.rest).0)

  width_there : w ≡ slice_index bytes 9
  width_there = sym (ap (λ (l : List ℕ). slice_index l 9) has.parts ∙ (header_bytes v w has.rest).1)

  pub has_width : IsWanted 1 v → IsWidth w → HasWidth w bytes
  has_width wanted known = record { is_log = header_is_log v w bytes has; version = subst (IsWanted 1) version_there wanted; named = width_there; known = known }

  -- A log that isn't wanted is a fault.
  pub is_other : (oldest : ℕ) (wanted : Option ℕ) (most : ℕ) → IsOtherFor oldest wanted v w → IsFault oldest wanted most bytes (fault.OldLog v w)
  is_other oldest wanted most other = record { is_log = header_is_log v w bytes has; version_is = version_there; width_is = width_there; other = other }

-- The reason why no head was read is a fault in the bytes.
pub fails_head : (oldest : ℕ) (wanted : Option ℕ) (drive : Drive) (e : OpenFault) → FailsHead drive e → RefusesHead oldest wanted drive e
fails_head oldest wanted drive fault.NotLog fails = record { shows = λ bytes told most. fails bytes told; head = tt; may = λ most. tt; sound = λ other. cc other }
fails_head oldest wanted drive (fault.OldLog version width) fails = absurd fails
fails_head oldest wanted drive (fault.Damaged n why) fails = absurd fails
fails_head oldest wanted drive (fault.TooLong limit) fails = absurd fails
fails_head oldest wanted drive fault.Disk fails = record { shows = λ bytes told most. tt; head = tt; may = λ most. tt; sound = λ other. cc other }
fails_head oldest wanted drive fault.Memory fails = absurd fails

-- Bytes that recover to cells of a width that logs have.
pub recovers_width : (w : ℕ) (cells : List Cell) (bytes : List ℕ) → IsWidth w → Recovers w cells bytes → HasWidth w bytes
recovers_width w cells bytes known recovers =
    let wanted : IsWanted 1 (slice_index bytes 8) = recovers_wanted w cells bytes recovers in
    record {
      is_log = λ other. recovers_no_fault 1 w (length cells) (omega arith) bytes cells fault.NotLog recovers wanted (omega arith) tt other;
      version = wanted;
      named = sym (index_width recovers.version w cells bytes recovers.holds);
      known = known;
    }

-- A log has one width.
pub same_width : (v w : ℕ) (bytes : List ℕ) → HasWidth v bytes → HasWidth w bytes → v ≡ w
same_width v w bytes has also = has.named ∙ sym also.named

module _ (oldest most : ℕ) (bytes : List ℕ) where
  -- A fault for this width is a fault for either width.
  pub fault_seen : (w : ℕ) → HasWidth w bytes → (e : OpenFault) → IsFault oldest (Some w) most bytes e → IsFault oldest None most bytes e
  fault_seen w has fault.NotLog is = is
  fault_seen w has (fault.OldLog version width) is = record {
    is_log = is.is_log;
    version_is = is.version_is;
    width_is = is.width_is;
    other = ⊎_elim inl (λ differ. absurd (differ (is.width_is ∙ sym has.named))) is.other;
  }
  fault_seen w has (fault.Damaged n why) is = (w, has, is)
  fault_seen w has (fault.TooLong limit) is = (w, has, is)
  fault_seen w has fault.Disk is = tt
  fault_seen w has fault.Memory is = tt

  pub fault_at : (w : ℕ) → HasWidth w bytes → (e : OpenFault) → IsFault oldest None most bytes e → IsFault oldest (Some w) most bytes e
  fault_at w has fault.NotLog is = is
  fault_at w has (fault.OldLog version width) is = record {
    is_log = is.is_log;
    version_is = is.version_is;
    width_is = is.width_is;
    other = ⊎_elim inl (λ strange. absurd (⊎_elim (λ two. strange.0 (is.width_is ∙ sym has.named ∙ two)) (λ four. strange.1 (is.width_is ∙ sym has.named ∙ four)) has.known)) is.other;
  }
  fault_at w has (fault.Damaged n why) (v, also, is) = subst (λ u. IsDamaged oldest u most bytes n why) (same_width v w bytes also has) is
  fault_at w has (fault.TooLong limit) (v, also, is) = (is.0, subst (λ u. IsTooLong oldest u most bytes) (same_width v w bytes also has) is.1)
  fault_at w has fault.Disk is = tt
  fault_at w has fault.Memory is = tt
