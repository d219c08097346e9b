-- A walk along the cells of a log, with a tally.
use Rattle.std.proofs.Common.{◌≡◌, ◌↔◌, inl, inr, ℕ, ◌+◌, ◌≤◌, List, [], ◌∷◌, ◌++◌, length, Option, Some, None, Result, Ok, Err, refl, sym, ◌∙◌, ap, subst, arith, append_assoc, append-nil, length-append}
use Rattle.std.proofs.lemmas.Bool.{cases_lt}
use Rattle.causes.specs.Causes.{Rose}
use Rattle.cell_format.specs.declared.cell.Cell.{Cell}
use Rattle.disk_trait.specs.Drive.{Drive, Stays}
use Rattle.log_state.specs.Recovers.{Recovers, state_of}
use Rattle.recovery.specs.declared.seen.OpenFault.{OpenFault}
use Rattle.recovery.specs.declared.seen.OpenFault.TheVariants.{Disk}
use Rattle.recovery.specs.declared.walked.Walked.{Walked}
use Rattle.recovery.specs.Faults.{IsFault, IsInBytes}
use Rattle.recovery.specs.Found.{IsFree}
use Rattle.recovery.specs.Reading.{OnlyReads}
use Rattle.recovery.specs.Walks.{ComesTo, TellsAll, TellsFault, TellsWalked, WalkView}
use Rattle.recovery.proofs.OnlyReading.{stays-trans}
use Rattle.fence_watch.specs.declared.fences.Event.{Event}
use Rattle.fence_watch.specs.declared.fences.Fence.{Fence}
use Rattle.fence_watch.specs.declared.watch.WatchFault.{WatchFault}
use Rattle.fence_watch.specs.declared.watch.WatchFault.TheVariants.{TooMany}
use Rattle.fence_watch.specs.Alongs.{IsLed, StopsAt}
use Rattle.fence_watch.specs.Tallies.{IsPast, Tallies, TalliesFrom, TallyView, events_told}
use Rattle.fence_watch.specs.Watches.{most_events}
use Rattle.fence_watch.proofs.Following.{next-behind}
use Rattle.fence_watch.proofs.Tallying.{tallies-next}

-- A walk and a tally after the same cells.
pub record AreBehind {D : Type 0} (w most : ℕ) (front begun : List Cell) (taken : List Event) (fences : List Fence) (now : Drive) (walk : WalkView D) (v : TallyView) : Type 0 where
  pub cells : List Cell
  pub begins : (more : List Cell) × (cells ≡ begun ++ more)
  pub tallies : TalliesFrom (length front) (state_of w front).world taken cells fences v
  pub came : ComesTo w most (front ++ cells) now walk

-- The same, wherever they began, with a drive that was only read.
pub record AreOnWay {D : Type 0} (first now : Drive) (start walk : WalkView D) (old v : TallyView) : Type 0 where
  pub reads : OnlyReads {T = Unit {0}} first now (Ok tt)
  pub few : length v.events ≤ most_events
  pub walks : (w most : ℕ) (cells : List Cell) → ComesTo w most cells first start → (all : List Cell) × ComesTo w most all now walk
  pub goes : (w most : ℕ) (front begun : List Cell) (taken : List Event) (fences : List Fence) → ComesTo w most (front ++ begun) first start
      → TalliesFrom (length front) (state_of w front).world taken begun fences old → AreBehind w most front begun taken fences now walk v

-- What a call of a walk returns.
pub record NextTells {D : Type 0} (now new : Drive) (walk after : WalkView D) (told : Result (Option Walked) OpenFault) : Type 0 where
  pub tells : (w most : ℕ) (cells : List Cell) → ComesTo w most cells now walk → TellsWalked w most cells now new after told
  pub exact : (w most : ℕ) (cells : List Cell) (bytes : List ℕ) (fault : OpenFault) → ComesTo w most cells now walk → now.bytes ≡ Some bytes → IsInBytes fault
      → IsFault 1 (Some w) most bytes fault → TellsFault fault now new told
  pub whole : (w most : ℕ) (all cells : List Cell) (bytes : List ℕ) → ComesTo w most cells now walk → now.bytes ≡ Some bytes → Recovers w all bytes → length all ≤ most
      → TellsAll all cells now new told

err-same : (e f : OpenFault) → ◌≡◌ {A = Result (Unit {0}) OpenFault} (Err e) (Err f) → e ≡ f
err-same e f is = cc is

why-same : (why other : WatchFault) → ◌≡◌ {A = Result (Unit {0}) WatchFault} (Err why) (Err other) → why ≡ other
why-same why other is = cc is

stays-still : (a : Drive) → Stays a a
stays-still a = record { bytes = refl; images = λ x left. left; clock = refl; since = λ t x left. left; keeps = λ t x left. left; calls = λ all told. told }

pub on-way-first : {D : Type 0} (first : Drive) (start : WalkView D) (old : TallyView) → length old.events ≤ most_events → AreOnWay first first start start old old
on-way-first first start old few = record {
  few = few;
  reads = record { stays = stays-still first; later = omega arith; same = refl; failed = λ e. cc e; file = λ all told. told };
  walks = λ w most cells came. (cells, came);
  goes = λ w most front begun taken fences came tallies. record { cells = begun; begins = ([], sym (append-nil begun)); tallies = tallies; came = came };
}

-- One more call.
module _ (first now new : Drive) (reads : OnlyReads {T = Unit {0}} first now (Ok tt)) where
  rose-first : Rose now.faults new.faults → Rose first.faults new.faults
  rose-first rose = subst (λ n. Rose n new.faults) reads.same rose

  pub reads-ok : {T : Type 0} (x : T) → OnlyReads now new (Ok x) → OnlyReads {T = Unit {0}} first new (Ok tt)
  reads-ok x next = record {
    stays = stays-trans first now new reads.stays next.stays;
    later = omega (arith, reads.later, next.later);
    same = next.same ∙ reads.same;
    failed = λ e. cc e;
    file = λ all told. reads.file all (next.file all told);
  }

  pub reads-err : {T : Type 0} (e : OpenFault) → OnlyReads {T = T} now new (Err e) → OnlyReads {T = Unit {0}} first new (Err e)
  reads-err e next = record {
    stays = stays-trans first now new reads.stays next.stays;
    later = omega (arith, reads.later, next.later);
    same = λ other. next.same other ∙ reads.same;
    failed = λ is. rose-first (next.failed (ap (λ (f : OpenFault). Err f) (err-same e Disk is)));
    file = λ all told. reads.file all (next.file all told);
  }

  free-first : (e : OpenFault) → IsFree now new e → IsFree first new e
  free-first e (inl memory) = inl memory
  free-first e (inr rose) = inr (rose-first rose)

  fault-first : (fault : OpenFault) (told : Result (Option Walked) OpenFault) → TellsFault fault now new told → TellsFault fault first new told
  fault-first fault (Ok (Some walked)) tells = tt
  fault-first fault (Ok None) tells = tells
  fault-first fault (Err e) (inl same) = inl same
  fault-first fault (Err e) (inr free) = inr (free-first e free)

  all-first : (all cells : List Cell) (told : Result (Option Walked) OpenFault) → TellsAll all cells now new told → TellsAll all cells first new told
  all-first all cells (Ok (Some walked)) tells = tt
  all-first all cells (Ok None) tells = tells
  all-first all cells (Err e) tells = free-first e tells

  module _ {D : Type 0} (w most : ℕ) (front begun : List Cell) (taken : List Event) (fences : List Fence) (walk after : WalkView D) (v : TallyView) (are : AreBehind w most front begun taken fences now walk v)
      (told : Result (Option Walked) OpenFault) (next : NextTells now new walk after told) where
    led : TellsWalked w most (front ++ are.cells) first new after told → IsLed w most front begun taken fences first new after v told
    led tells = record {
      cells = are.cells;
      begins = are.begins;
      tallies = are.tallies;
      tells = tells;
      exact = λ bytes fault known shown is. fault-first fault told (next.exact w most (front ++ are.cells) bytes fault are.came (reads.stays.bytes ∙ known) shown is);
      whole = λ all bytes known recovers few. all-first all (front ++ are.cells) told (next.whole w most all (front ++ are.cells) bytes are.came (reads.stays.bytes ∙ known) recovers few);
    }

  module _ {D : Type 0} (w most : ℕ) (front begun : List Cell) (taken : List Event) (fences : List Fence) (walk after : WalkView D) (v : TallyView) (are : AreBehind w most front begun taken fences now walk v) where
    pub led-end : NextTells now new walk after (Ok None) → IsLed w most front begun taken fences first new after v (Ok None)
    led-end next =
        let tells = next.tells w most (front ++ are.cells) are.came in
        led w most front begun taken fences walk after v are (Ok None) next (tells.0, λ bytes told. tells.1 bytes (reads.stays.bytes ∙ told))

    pub led-fault : (e : OpenFault) → NextTells now new walk after (Err e) → IsLed w most front begun taken fences first new after v (Err e)
    led-fault e next =
        let tells = next.tells w most (front ++ are.cells) are.came in
        led w most front begun taken fences walk after v are (Err e) next (tells.0, tells.1, λ bytes told. tells.2 bytes (reads.stays.bytes ∙ told))

    -- The tally makes no step, and so stays unchanged.
    pub led-cell : (walked : Walked) → NextTells now new walk after (Ok (Some walked)) → (why : WatchFault) (left : TallyView) → left ≡ v
        → (◌≡◌ {A = Result (Unit {0}) WatchFault} (Err why) (Err TooMany)) ↔ IsPast walked v → StopsAt w most front begun taken fences first new after left why walked
    unfolding led
    led-cell walked next why left same many =
        let tells = next.tells w most (front ++ are.cells) are.came in
        let stopped : StopsAt w most front begun taken fences first new after v why walked = record {
          led = led w most front begun taken fences walk after v are (Ok (Some walked)) next tells;
          full = ((λ e. many.0 (ap (λ (f : WatchFault). Err f) e)), (λ past. why-same why TooMany (many.1 past)));
          next = tells.1;
          came = subst (λ (l : List Cell). ComesTo w most l new after) (append_assoc front are.cells (walked.cell ∷ [])) tells.0;
        } in
        subst (λ (v : TallyView). StopsAt w most front begun taken fences first new after v why walked) (sym same) stopped

    pub behind-next : (walked : Walked) (next : TallyView) → TellsWalked w most (front ++ are.cells) now new after (Ok (Some walked)) → Tallies walked v next → AreBehind w most front begun taken fences new after next
    behind-next walked next tells tallies = record {
      cells = are.cells ++ walked.cell ∷ [];
      begins = (are.begins.0 ++ walked.cell ∷ [], ap (λ (l : List Cell). l ++ walked.cell ∷ []) are.begins.1 ∙ append_assoc begun are.begins.0 (walked.cell ∷ []));
      tallies = tallies-next (length front) (state_of w front).world taken are.cells fences walked v next are.tallies (next-behind w front are.cells walked tells.1) tallies;
      came = subst (λ (l : List Cell). ComesTo w most l new after) (append_assoc front are.cells (walked.cell ∷ [])) tells.0;
    }

-- The same for everything on the way.
module _ {D : Type 0} (first now new : Drive) (start walk after : WalkView D) (old v : TallyView) (way : AreOnWay first now start walk old v) where
  pub way-next : (walked : Walked) (next : TallyView) → OnlyReads now new (Ok (Some walked)) → Tallies walked v next → (IsPast walked v → ⊥)
      → ((w most : ℕ) (cells : List Cell) → ComesTo w most cells now walk → TellsWalked w most cells now new after (Ok (Some walked))) → AreOnWay first new start after old next
  way-next walked next reads tallies within tells = record {
    few = elim (cases_lt most_events (length v.events + length (events_told walked v.counts))) [
      | inl over ↦ absurd (within over)
      | inr under ↦ omega (arith, under, ap length tallies.events, length-append v.events (events_told walked v.counts))
    ];
    reads = reads-ok first now new way.reads (Some walked) reads;
    walks = λ w most cells came.
        let all = way.walks w most cells came in
        (all.0 ++ walked.cell ∷ [], (tells w most all.0 all.1).0);
    goes = λ w most front begun taken fences came tallied.
        let are = way.goes w most front begun taken fences came tallied in
        behind-next first now new way.reads w most front begun taken fences walk after v are walked next (tells w most (front ++ are.cells) are.came) tallies;
  }
