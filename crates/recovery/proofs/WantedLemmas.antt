-- The faults of a wanted log, for a named width or for its own.
use Rattle.std.proofs.Common.{◌≡◌, ℕ, ◌≤◌, ◌⊎◌, inl, inr, ⊎_elim, List, Option, Some, None, length, refl, sym, ◌∙◌, subst, lit≤, arith}
use Rattle.std.specs.Prelude.{slice_index, IfSome}
use Rattle.causes.specs.Causes.{Rose}
use Rattle.disk_trait.specs.Drive.{Drive}
use Rattle.cell_format.specs.declared.cell.Cell.{Cell}
use Rattle.cell_format.specs.Spelling.{newest}
use Rattle.log_state.specs.Recovers.{Recovers}
use Rattle.recovery.specs.declared.seen.OpenFault.{OpenFault}
use Rattle.recovery.specs.declared.seen.OpenFault.TheVariants as fault
use Rattle.recovery.specs.declared.seen.Seen.{Seen}
use Rattle.recovery.specs.Faults.{IsFault, IsInBytes, IsOfHead, RefusesRead, ShowsFault}
use Rattle.recovery.specs.Found.{IsFound, IsWanted, IsFree}
use Rattle.recovery.specs.Reading.{FindsWanted, ReadingView, StartsFor}
use Rattle.recovery.specs.Walks.{RefusesWalk}
use Rattle.zorder.specs.Width.{IsWidth}
use Rattle.recovery.specs.Widths.{HasWidth, IsWidthOf}
use Rattle.recovery.specs.Wanted.{IsWidthFor, MayTell}
use Rattle.recovery.proofs.Exclusive.{one_fault, recovers_no_fault, told_free}
use Rattle.recovery.proofs.WalkLemmas.{first_header}
use Rattle.recovery.proofs.WidthLemmas.{has_width, recovers_width, fault_seen, fault_at}

-- The width of a wanted log is one that logs have.
pub known_for : (wanted : Option ℕ) → IfSome wanted IsWidth → (w : ℕ) → IsWidthFor wanted w → IsWidth w
known_for (Some v) known w same = subst IsWidth same known
known_for None known w is = is

-- A log whose reading began names its width.
pub starts_width : (oldest : ℕ) (wanted : Option ℕ) (most : ℕ) (drive : Drive) (r : ReadingView) → 1 ≤ oldest → StartsFor oldest wanted most drive r → IsWidthOf drive r.replay.width
starts_width oldest wanted most drive r least begun = record {
  known = begun.known;
  named = λ bytes told. has_width r.replay.version r.replay.width bytes (first_header oldest r.replay.width most drive r bytes begun.starts told)
      (record { least = omega (arith, least, begun.starts.wanted.least); most = begun.starts.wanted.most }) begun.known;
}

module _ (oldest most : ℕ) (bytes : List ℕ) where
  -- A log of a wanted width has a fault for the named width if and only if it has that fault for the wanted ones.
  pub fault_for : (wanted : Option ℕ) (w : ℕ) → IsWidthFor wanted w → HasWidth w bytes → (e : OpenFault) → IsFault oldest (Some w) most bytes e → IsFault oldest wanted most bytes e
  fault_for (Some v) w same has e is = subst (λ n. IsFault oldest (Some n) most bytes e) (sym same) is
  fault_for None w known has e is = fault_seen oldest most bytes w has e is

  pub for_width : (wanted : Option ℕ) (w : ℕ) → IsWidthFor wanted w → HasWidth w bytes → (e : OpenFault) → IsFault oldest wanted most bytes e → IsFault oldest (Some w) most bytes e
  for_width (Some v) w same has e is = subst (λ n. IsFault oldest (Some n) most bytes e) same is
  for_width None w known has e is = fault_at oldest most bytes w has e is

  module _ (least : 1 ≤ oldest) where
    -- Bytes show at most one fault.
    one_own : (e f : OpenFault) → IsInBytes e → IsInBytes f → IsFault oldest None most bytes e → IsFault oldest None most bytes f → e ≡ f
    one_own fault.NotLog fault.NotLog se sf a b = refl
    one_own fault.NotLog (fault.OldLog version width) se sf a b = absurd (b.is_log a)
    one_own fault.NotLog (fault.Damaged n why) se sf a (w, has, is) = absurd (has.is_log a)
    one_own fault.NotLog (fault.TooLong limit) se sf a (w, has, is) = absurd (has.is_log a)
    one_own fault.NotLog fault.Disk se sf a b = absurd sf
    one_own fault.NotLog fault.Memory se sf a b = absurd sf
    one_own (fault.OldLog v u) fault.NotLog se sf a b = absurd (a.is_log b)
    one_own (fault.OldLog v u) (fault.OldLog version width) se sf a b = λ i. fault.OldLog ((a.version_is ∙ sym b.version_is) i) ((a.width_is ∙ sym b.width_is) i)
    one_own (fault.OldLog v u) (fault.Damaged n why) se sf a (w, has, is) = one_fault oldest w most least bytes (fault.OldLog v u) (fault.Damaged n why) tt tt (fault_at oldest most bytes w has (fault.OldLog v u) a) is
    one_own (fault.OldLog v u) (fault.TooLong limit) se sf a (w, has, is) = one_fault oldest w most least bytes (fault.OldLog v u) (fault.TooLong limit) tt tt (fault_at oldest most bytes w has (fault.OldLog v u) a) is
    one_own (fault.OldLog v u) fault.Disk se sf a b = absurd sf
    one_own (fault.OldLog v u) fault.Memory se sf a b = absurd sf
    one_own (fault.Damaged n why) f se sf (w, has, is) b = one_fault oldest w most least bytes (fault.Damaged n why) f tt sf is (fault_at oldest most bytes w has f b)
    one_own (fault.TooLong limit) f se sf (w, has, is) b = one_fault oldest w most least bytes (fault.TooLong limit) f tt sf is (fault_at oldest most bytes w has f b)
    one_own fault.Disk f se sf a b = absurd se
    one_own fault.Memory f se sf a b = absurd se

    one_for : (wanted : Option ℕ) (e f : OpenFault) → IsInBytes e → IsInBytes f → IsFault oldest wanted most bytes e → IsFault oldest wanted most bytes f → e ≡ f
    one_for (Some w) e f se sf a b = one_fault oldest w most least bytes e f se sf a b
    one_for None e f se sf a b = one_own e f se sf a b

    module _ (wanted : Option ℕ) (old new : Drive) where
      -- A result that isn't free is the one fault.
      pub told_for : (e f : OpenFault) → IsFault oldest wanted most bytes e → (e ≡ fault.Disk → Rose old.faults new.faults) → IsInBytes f → IsFault oldest wanted most bytes f → (e ≡ f) ⊎ IsFree old new e
      told_for fault.Disk f holds rose shown is = inr (inr (rose refl))
      told_for fault.Memory f holds rose shown is = inr (inl refl)
      told_for fault.NotLog f holds rose shown is = inl (one_for wanted fault.NotLog f tt shown holds is)
      told_for (fault.OldLog version width) f holds rose shown is = inl (one_for wanted (fault.OldLog version width) f tt shown holds is)
      told_for (fault.Damaged n why) f holds rose shown is = inl (one_for wanted (fault.Damaged n why) f tt shown holds is)
      told_for (fault.TooLong limit) f holds rose shown is = inl (one_for wanted (fault.TooLong limit) f tt shown holds is)

      module _ (w : ℕ) (fits : IsWidthFor wanted w) where
        -- If the bytes recover to few enough cells, the result is free.
        pub free_for : (cells : List Cell) (e : OpenFault) → IsWidth w → IsFault oldest wanted most bytes e → (e ≡ fault.Disk → Rose old.faults new.faults) → Recovers w cells bytes → IsWanted oldest (slice_index bytes 8) → length cells ≤ most → IsFree old new e
        free_for cells e known holds rose recovers named few =
            told_free oldest w most least bytes old new e cells (for_width wanted w fits (recovers_width w cells bytes known recovers) e holds) rose recovers named few

    -- Such bytes have no fault.
    pub sound_for : (wanted : Option ℕ) (w : ℕ) → IsWidthFor wanted w → (cells : List Cell) (f : OpenFault) → IsWidth w → Recovers w cells bytes → IsWanted oldest (slice_index bytes 8) → length cells ≤ most → IsInBytes f → IsFault oldest wanted most bytes f → ⊥
    sound_for wanted w fits cells f known recovers named few shown is =
        recovers_no_fault oldest w most least bytes cells f recovers named few shown (for_width wanted w fits (recovers_width w cells bytes known recovers) f is)

-- If the head names a wanted width, a fault of the head is a free result.
pub head_free : (most w : ℕ) (bytes : List ℕ) (old new : Drive) (e : OpenFault) → HasWidth w bytes → IsOfHead e → IsFault 1 (Some w) most bytes e → (e ≡ fault.Disk → Rose old.faults new.faults) → IsFree old new e
head_free most w bytes old new fault.NotLog has head is rose = absurd (has.is_log is)
head_free most w bytes old new (fault.OldLog version width) has head is rose = absurd (⊎_elim
    (λ other. other (subst (IsWanted 1) (sym is.version_is) has.version))
    (λ other. other (is.width_is ∙ sym has.named)) is.other)
head_free most w bytes old new (fault.Damaged n why) has head is rose = absurd head
head_free most w bytes old new (fault.TooLong limit) has head is rose = absurd head
head_free most w bytes old new fault.Disk has head is rose = inr (rose refl)
head_free most w bytes old new fault.Memory has head is rose = inl refl

-- What was found in a wanted log, and why none is read.
pub finds_wanted : (oldest : ℕ) (wanted : Option ℕ) (most : ℕ) (drive : Drive) (w : ℕ) (seen : Seen) → 1 ≤ oldest → IsWidthOf drive w → IsWidthFor wanted w → IsFound oldest w most drive seen
    → FindsWanted oldest wanted most drive w seen
finds_wanted oldest wanted most drive w seen least width fits found = record {
  width = width;
  fits = fits;
  found = found;
  sound = λ bytes fault told shown is. sound_for oldest most bytes least wanted w fits found.cells fault width.known (found.recovers bytes told) (subst (IsWanted oldest) (found.named bytes told) found.wanted) found.few shown is;
}

pub refuses_read : (oldest : ℕ) (wanted : Option ℕ) (most : ℕ) (old new : Drive) (e : OpenFault) → 1 ≤ oldest → ShowsFault oldest wanted most old e → MayTell oldest wanted most e → (e ≡ fault.Disk → Rose old.faults new.faults) → RefusesRead oldest wanted most old new e
refuses_read oldest wanted most old new e least shows may rose = record {
  shows = shows;
  may = may;
  exact = λ bytes fault told shown is. told_for oldest most bytes least wanted old new e fault (shows bytes told) rose shown is;
  whole = λ w bytes cells fits known told recovers named few. free_for oldest most bytes least wanted old new w fits cells e known (shows bytes told) rose recovers named few;
  rose = rose;
}

pub refuses_walk : (wanted : Option ℕ) (most : ℕ) (old new : Drive) (e : OpenFault) → ShowsFault 1 wanted most old e → IsOfHead e → MayTell 1 wanted most e → (e ≡ fault.Disk → Rose old.faults new.faults) → RefusesWalk wanted most old new e
refuses_walk wanted most old new e shows head may rose = record {
  fault = refuses_read 1 wanted most old new e (lit≤ tt) shows may rose;
  head = head;
  named = λ bytes w told fits has. head_free most w bytes old new e has head (for_width 1 most bytes wanted w fits has e (shows bytes told)) rose;
}

-- The newest version is wanted by every opening.
pub newest_wanted : (v : ℕ) → v ≡ newest → IsWanted newest v
newest_wanted v is = record { least = omega (arith, is); most = omega (arith, is) }
