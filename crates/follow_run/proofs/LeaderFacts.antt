-- The reading of the first file.
use Rattle.std.proofs.Common.{◌≡◌, ◌⊎◌, inl, inr, ⊎_elim, ◌∙◌, ℕ, ◌≤◌, false, List, [], ◌∷◌, ◌++◌, length, Option, Some, None, Result, Ok, Err, refl, sym, ap, subst, lit≤, arith}
use Rattle.std.specs.Prelude.{IfOk, IfErr, MatchResult}
use Rattle.std.specs.Result.{IsErrAnd}
use Rattle.causes.specs.Causes.{Rose}
use Rattle.disk_trait.specs.Drive.{Drive, Stays, AttachedOne}
use Rattle.disk_trait.proofs.Calls.{attached-still}
use Rattle.cell_format.specs.declared.cell.Cell.{Cell}
use Rattle.log_state.specs.Recovers.{Recovers}
use Rattle.recovery.specs.declared.seen.OpenFault.{OpenFault}
use Rattle.recovery.specs.declared.seen.OpenFault.TheVariants as open_fault
use Rattle.recovery.specs.declared.seen.OpenRefused.{OpenRefused}
use Rattle.recovery.specs.Faults.{IsFault, IsInBytes}
use Rattle.recovery.specs.Found.{IsFree}
use Rattle.recovery.specs.Reading.{OnlyReads}
use Rattle.recovery.specs.Walks.{WalkView, ComesTo, TellsWalked, IsOfHead}
use Rattle.recovery.specs.Wanted.{MayTell}
use Rattle.recovery.specs.declared.walked.Walked.{Walked}
use Rattle.zorder.specs.Width.{IsWidth}
use Rattle.recovery.specs.Widths.{IsWidthOf, HasWidth}
use Rattle.recovery.proofs.Exclusive.{one_fault, recovers_no_fault, recovers_wanted, one_recovery}
use Rattle.recovery.proofs.OnlyReading.{stays-trans, rose-earlier}
use Rattle.recovery.proofs.WidthLemmas.{recovers_width, same_width, fault_seen, fault_at}
use Rattle.follower.specs.Holding.{most_followed}
use Rattle.run_ends.specs.declared.refusals.Refusal.{Refusal}
use Rattle.run_ends.specs.Attaching.{RefusesAttach}
use Rattle.run_ends.specs.LogFaults.{log_refusal}
use Rattle.run_ends.specs.Limits.{oldest_read}
use Rattle.run_ends.proofs.AttachFacts.{attaches-one, only-memory, reading-unattached}
use Rattle.run_ends.proofs.LogFaults.{reading-after, calm-named, calm-free}
use Rattle.log_run.proofs.DriveSteps.{calm-read, free-later}
use Rattle.follow_run.specs.declared.leader.Leader.{Leader}
use Rattle.follow_run.specs.Leading.{FindsLeader, RecoversLeader, HasLeader, ReadsLeader, LosesLeader}

-- A call that only reads, after another one.
pub reads-on : {T U V : Type 0} (a b c : Drive) (x : T) (y : U) (z : V) → OnlyReads a b (Ok x) → OnlyReads b c (Ok y) → OnlyReads a c (Ok z)
reads-on a b c x y z first second = record {
  stays = stays-trans a b c first.stays second.stays;
  later = omega (arith, first.later, second.later);
  same = second.same ∙ first.same;
  failed = λ disk. cc disk;
  file = λ all told. first.file all (second.file all told);
}

pub reads-failed : {T U V : Type 0} (a b c : Drive) (x : T) (e : OpenFault) → OnlyReads a b (Ok x) → OnlyReads {T = U} b c (Err e) → OnlyReads {T = V} a c (Err e)
reads-failed {U = U} a b c x e first second = record {
  stays = stays-trans a b c first.stays second.stays;
  later = omega (arith, first.later, second.later);
  same = λ other. second.same other ∙ first.same;
  failed = λ disk. let is : e ≡ open_fault.Disk = cc disk in rose-earlier a.faults b.faults c.faults first.later (second.failed (ap (λ (f : OpenFault). Err f) is));
  file = λ all told. first.file all (second.file all told);
}

-- The reported fault is the one that the bytes show, unless they don't decide.
module _ (w : ℕ) (bytes : List ℕ) (a b : Drive) where
  pub exact-of : (e : OpenFault) → IsFault oldest_read (Some w) most_followed bytes e → (e ≡ open_fault.Disk → Rose a.faults b.faults) → (shown : OpenFault) → IsInBytes shown → IsFault oldest_read (Some w) most_followed bytes shown → (e ≡ shown) ⊎ IsFree a b e
  exact-of open_fault.NotLog is rose f shown wrong = inl (one_fault oldest_read w most_followed (lit≤ tt) bytes open_fault.NotLog f tt shown is wrong)
  exact-of (open_fault.OldLog version width) is rose f shown wrong = inl (one_fault oldest_read w most_followed (lit≤ tt) bytes (open_fault.OldLog version width) f tt shown is wrong)
  exact-of (open_fault.Damaged number cause) is rose f shown wrong = inl (one_fault oldest_read w most_followed (lit≤ tt) bytes (open_fault.Damaged number cause) f tt shown is wrong)
  exact-of open_fault.Disk is rose f shown wrong = inr (inr (rose refl))
  exact-of open_fault.Memory is rose f shown wrong = inr (inl refl)
  exact-of (open_fault.TooLong limit) is rose f shown wrong = inl (one_fault oldest_read w most_followed (lit≤ tt) bytes (open_fault.TooLong limit) f tt shown is wrong)

  pub whole-of : (e : OpenFault) → IsFault oldest_read (Some w) most_followed bytes e → (e ≡ open_fault.Disk → Rose a.faults b.faults) → (cells : List Cell) → Recovers w cells bytes → length cells ≤ most_followed → IsFree a b e
  whole-of open_fault.NotLog is rose cells recovers few = absurd (recovers_no_fault oldest_read w most_followed (lit≤ tt) bytes cells open_fault.NotLog recovers (recovers_wanted w cells bytes recovers) few tt is)
  whole-of (open_fault.OldLog version width) is rose cells recovers few = absurd (recovers_no_fault oldest_read w most_followed (lit≤ tt) bytes cells (open_fault.OldLog version width) recovers (recovers_wanted w cells bytes recovers) few tt is)
  whole-of (open_fault.Damaged number cause) is rose cells recovers few = absurd (recovers_no_fault oldest_read w most_followed (lit≤ tt) bytes cells (open_fault.Damaged number cause) recovers (recovers_wanted w cells bytes recovers) few tt is)
  whole-of open_fault.Disk is rose cells recovers few = inr (rose refl)
  whole-of open_fault.Memory is rose cells recovers few = inl refl
  whole-of (open_fault.TooLong limit) is rose cells recovers few = absurd (recovers_no_fault oldest_read w most_followed (lit≤ tt) bytes cells (open_fault.TooLong limit) recovers (recovers_wanted w cells bytes recovers) few tt is)

-- What was found held before a call that leaves the bytes.
pub found-before : (w : ℕ) (a b : Drive) (cells : List Cell) → Stays a b → FindsLeader w b cells → FindsLeader w a cells
found-before w a b cells stays found = record { leading = found.leading; recovers = λ bytes told. found.recovers bytes (stays.bytes ∙ told) }

-- The bytes recover to no other cells and no other width, and have no fault.
pub has-leader : (w : ℕ) (drive : Drive) (cells : List Cell) → FindsLeader w drive cells → HasLeader w drive cells
has-leader w drive cells found = record {
  found = found;
  only = λ v all is.
      let mine = found.recovers is.bytes is.told in
      let same : w ≡ v = same_width w v is.bytes (recovers_width w cells is.bytes found.leading.known mine) (recovers_width v all is.bytes is.known is.recovers) in
      (same, one_recovery v cells all is.bytes (subst (λ (u : ℕ). Recovers u cells is.bytes) same mine) is.recovers);
  sound = λ bytes e told shown wrong.
      let mine = found.recovers bytes told in
      let width : HasWidth w bytes = recovers_width w cells bytes found.leading.known mine in
      recovers_no_fault oldest_read w most_followed (lit≤ tt) bytes cells e mine (recovers_wanted w cells bytes mine) found.leading.few shown (fault_at oldest_read most_followed bytes w width e wrong);
}

-- A file that was attached and read.
pub reads-leader : {T : Type 0} (file : List ℕ) (w : ℕ) (a b c : Drive) (cells : List Cell) (x : T) → Stays a b → b.faults ≡ a.faults → AttachedOne file false a b → OnlyReads b c (Ok x) → FindsLeader w b cells
    → ReadsLeader file w a c cells
reads-leader file w a b c cells x stays same attached reads found = record {
  has = has-leader w a cells (found-before w a b cells stays found);
  read = record { attached = attached-still file false a b c attached reads.file; calm = reads.same ∙ same };
  stays = stays-trans a b c stays reads.stays;
}

-- A file that was attached, but whose log wasn't read.
pub loses-leader : {T : Type 0} (file : List ℕ) (a b c : Drive) (e : OpenFault) → Stays a b → b.faults ≡ a.faults → AttachedOne file false a b → OnlyReads {T = T} b c (Err e)
    → ((bytes : List ℕ) → b.bytes ≡ Some bytes → IsFault oldest_read None most_followed bytes e) → MayTell oldest_read None most_followed e
    → ((bytes : List ℕ) (f : OpenFault) → b.bytes ≡ Some bytes → IsInBytes f → IsFault oldest_read None most_followed bytes f → (e ≡ f) ⊎ IsFree b c e)
    → ((w : ℕ) (cells : List Cell) → RecoversLeader w cells b → IsFree b c e) → LosesLeader file a c (log_refusal e)
loses-leader {T = T} file a b c e stays same attached reads wrong may exact whole =
    let later : a.faults ≤ b.faults = omega (arith, same) in
    record {
      cause = reading-after oldest_read most_followed a b c e stays later wrong may (λ disk. reads.failed (ap (λ (f : OpenFault). Err f) disk));
      exact = λ bytes f told shown is calm. calm-named a b c e f later calm (exact bytes f (stays.bytes ∙ told) shown is);
      whole = λ w cells is calm. calm-free a b c e later calm (whole w cells (record { known = is.known; bytes = is.bytes; told = stays.bytes ∙ is.told; recovers = is.recovers; few = is.few }));
      read = record {
        attached = attaches-one file false a c _ (attached-still file false a b c attached reads.file);
        calm = calm-read a.faults b.faults c.faults e same reads.same;
      };
      stays = stays-trans a b c stays reads.stays;
    }

-- A file that wasn't attached.
pub loses-attached : (file : List ℕ) (a b : Drive) (why : Refusal) → RefusesAttach file false a b why → LosesLeader file a b why
loses-attached file a b why refuses = record {
  cause = reading-unattached file false a b oldest_read most_followed why refuses;
  exact = λ bytes f told shown is calm. inr (only-memory file false a b why refuses calm);
  whole = λ w cells is calm. only-memory file false a b why refuses calm;
  read = record { attached = refuses.attached; calm = refuses.calm };
  stays = refuses.stays;
}

-- What a walk returns of its next cell, and at its end.
module _ {D : Type 0} (w : ℕ) (cells : List Cell) (a b : Drive) (walk : WalkView D) (told : Option Walked) (tells : TellsWalked w most_followed cells a b walk (Ok told)) where
  pub next-told : (walked : Walked) → told ≡ Some walked → ComesTo w most_followed (cells ++ walked.cell ∷ []) b walk
  next-told walked is = (subst (λ (o : Option Walked). TellsWalked w most_followed cells a b walk (Ok o)) is tells).0

  pub end-told : IsWidth w → ((walked : Walked) → told ≡ Some walked → ⊥) → FindsLeader w a cells
  end-told known none = by_case told none tells
    where
      by_case : (o : Option Walked) → ((walked : Walked) → o ≡ Some walked → ⊥) → TellsWalked w most_followed cells a b walk (Ok o) → FindsLeader w a cells
      by_case None never is = record { leading = record { known = known; legal = is.0.legal; few = is.0.few }; recovers = is.1 }
      by_case (Some walked) never is = absurd (never walked refl)

-- A walk that has begun along a log has its width.
pub along-width : (a b : Drive) (w : ℕ) → Stays a b → IsWidthOf b w → (bytes : List ℕ) → a.bytes ≡ Some bytes → HasWidth w bytes
along-width a b w stays is bytes told = is.named bytes (stays.bytes ∙ told)

-- A log whose width was read, and then its cells.
module _ {D T : Type 0} (drive : D → Drive) (a b : Drive) (x : T) (first : OnlyReads a b (Ok x)) (w : ℕ) (has : (bytes : List ℕ) → a.bytes ≡ Some bytes → HasWidth w bytes) (result : Result (Leader D) (OpenRefused D))
    (found : IfOk result (λ l. (l.width ≡ w) × FindsLeader w b l.cells.items))
    (wrong : IfErr result (λ e. (bytes : List ℕ) → b.bytes ≡ Some bytes → IsFault oldest_read (Some w) most_followed bytes e.cause))
    (reads : MatchResult result (λ l. OnlyReads {T = Unit {0}} b (drive l.disk) (Ok tt)) (λ e. OnlyReads {T = Unit {0}} b (drive e.disk) (Err e.cause))) where
  pub led-found : IfOk result (λ l. FindsLeader l.width a l.cells.items)
  led-found = by_case result found
    where
      by_case : (r : Result (Leader D) (OpenRefused D)) → IfOk r (λ l. (l.width ≡ w) × FindsLeader w b l.cells.items) → IfOk r (λ l. FindsLeader l.width a l.cells.items)
      by_case (Ok l) is = subst (λ (v : ℕ). FindsLeader v a l.cells.items) (sym is.0) (found-before w a b l.cells.items first.stays is.1)
      by_case (Err e) is = tt

  pub led-fault : IfErr result (λ e. (bytes : List ℕ) → a.bytes ≡ Some bytes → IsFault oldest_read None most_followed bytes e.cause)
  led-fault = by_case result wrong
    where
      by_case : (r : Result (Leader D) (OpenRefused D)) → IfErr r (λ e. (bytes : List ℕ) → b.bytes ≡ Some bytes → IsFault oldest_read (Some w) most_followed bytes e.cause)
          → IfErr r (λ e. (bytes : List ℕ) → a.bytes ≡ Some bytes → IsFault oldest_read None most_followed bytes e.cause)
      by_case (Ok l) is = tt
      by_case (Err e) is = λ bytes told. fault_seen oldest_read most_followed bytes w (has bytes told) e.cause (is bytes (first.stays.bytes ∙ told))

  pub led-exact : (bytes : List ℕ) (f : OpenFault) → a.bytes ≡ Some bytes → IsInBytes f → IsFault oldest_read None most_followed bytes f → IsErrAnd result (λ e. (e.cause ≡ f) ⊎ IsFree a (drive e.disk) e.cause)
  led-exact bytes f told shown is = by_case result found wrong reads
    where
      by_case : (r : Result (Leader D) (OpenRefused D)) → IfOk r (λ l. (l.width ≡ w) × FindsLeader w b l.cells.items) → IfErr r (λ e. (bytes : List ℕ) → b.bytes ≡ Some bytes → IsFault oldest_read (Some w) most_followed bytes e.cause)
          → MatchResult r (λ l. OnlyReads {T = Unit {0}} b (drive l.disk) (Ok tt)) (λ e. OnlyReads {T = Unit {0}} b (drive e.disk) (Err e.cause)) → IsErrAnd r (λ e. (e.cause ≡ f) ⊎ IsFree a (drive e.disk) e.cause)
      by_case (Ok l) led fault_is only = absurd ((has-leader w b l.cells.items led.1).sound bytes f (first.stays.bytes ∙ told) shown is)
      by_case (Err e) led fault_is only =
          ⊎_elim (λ same. inl same) (λ free. inr (free-later a b (drive e.disk) e.cause first.later free))
          (exact-of w bytes b (drive e.disk) e.cause (fault_is bytes (first.stays.bytes ∙ told)) (λ disk. only.failed (ap (λ (g : OpenFault). Err g) disk)) f shown (fault_at oldest_read most_followed bytes w (has bytes told) f is))

  pub led-whole : (v : ℕ) (cells : List Cell) → RecoversLeader v cells a → IfErr result (λ e. IsFree a (drive e.disk) e.cause)
  led-whole v cells recovers = by_case result wrong reads
    where
      by_case : (r : Result (Leader D) (OpenRefused D)) → IfErr r (λ e. (bytes : List ℕ) → b.bytes ≡ Some bytes → IsFault oldest_read (Some w) most_followed bytes e.cause)
          → MatchResult r (λ l. OnlyReads {T = Unit {0}} b (drive l.disk) (Ok tt)) (λ e. OnlyReads {T = Unit {0}} b (drive e.disk) (Err e.cause)) → IfErr r (λ e. IsFree a (drive e.disk) e.cause)
      by_case (Ok l) fault_is only = tt
      by_case (Err e) fault_is only =
          let same : v ≡ w = same_width v w recovers.bytes (recovers_width v cells recovers.bytes recovers.known recovers.recovers) (has recovers.bytes recovers.told) in
          free-later a b (drive e.disk) e.cause first.later
          (whole-of w recovers.bytes b (drive e.disk) e.cause (fault_is recovers.bytes (first.stays.bytes ∙ recovers.told)) (λ disk. only.failed (ap (λ (g : OpenFault). Err g) disk)) cells
          (subst (λ (u : ℕ). Recovers u cells recovers.bytes) same recovers.recovers) recovers.few)

  pub led-reads : MatchResult result (λ l. OnlyReads {T = Unit {0}} a (drive l.disk) (Ok tt)) (λ e. OnlyReads {T = Unit {0}} a (drive e.disk) (Err e.cause))
  led-reads = by_case result reads
    where
      by_case : (r : Result (Leader D) (OpenRefused D)) → MatchResult r (λ l. OnlyReads {T = Unit {0}} b (drive l.disk) (Ok tt)) (λ e. OnlyReads {T = Unit {0}} b (drive e.disk) (Err e.cause))
          → MatchResult r (λ l. OnlyReads {T = Unit {0}} a (drive l.disk) (Ok tt)) (λ e. OnlyReads {T = Unit {0}} a (drive e.disk) (Err e.cause))
      by_case (Ok l) only = reads-on a b (drive l.disk) x tt tt first only
      by_case (Err e) only = reads-failed a b (drive e.disk) x e.cause first only
