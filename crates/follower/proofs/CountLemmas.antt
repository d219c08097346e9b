-- A walk over a log whose cells are compared with the leader's.
use Rattle.std.proofs.Common.{◌≡◌, ◌≢◌, inl, inr, ⊎_elim, ℕ, ◌-◌, ◌<◌, List, [], ◌∷◌, ◌++◌, length, Option, Some, None, refl, sym, ◌∙◌, ap, subst, lit≤, arith, length-append, append_assoc}
use Rattle.std.specs.Prelude.{Result, Ok, Err, IfOk, IfErr, slice_index, MatchResult}
use Rattle.std.specs.List.{flat_map}
use Rattle.std.proofs.lemmas.Result.{IfOk-at_ok}
use Rattle.causes.specs.Causes.{Rose}
use Rattle.cell_format.specs.declared.cell.Cell.{Cell}
use Rattle.cell_format.specs.Spelling.{newest, header_text, spelling}
use Rattle.disk_trait.specs.Drive.{Drive}
use Rattle.recovery.specs.declared.seen.OpenFault.{OpenFault}
use Rattle.recovery.specs.declared.seen.OpenFault.TheVariants as open_fault
use Rattle.recovery.specs.declared.walked.Walked.{Walked}
use Rattle.recovery.specs.Faults.{IsFault, IsOldLog}
use Rattle.recovery.specs.Found.{IsWanted}
use Rattle.recovery.specs.Headers.{HasHeader}
use Rattle.recovery.specs.Reading.{OnlyReads, IsBehind}
use Rattle.recovery.specs.Wanted.{MayTell}
use Rattle.recovery.specs.Walks.{WalkView, ComesTo, TellsWalked, IsOfHead}
use Rattle.recovery.proofs.Exclusive.{named_version}
use Rattle.recovery.proofs.HeadLemmas.{header_bytes, header_is_log}
use Rattle.recovery.proofs.OnlyReading.{stays-trans}
use Rattle.follower.specs.declared.comparing.Tally.{Tally}
use Rattle.follower.specs.Comparing.{IsTally, IsOnlyRead, IsCounting, Counts, StopsCounting, IsJudged, Compares, RefusesCompare}
use Rattle.follower.specs.Opening.{most_held}

only_read-trans : (a b c : Drive) → IsOnlyRead a b → IsOnlyRead b c → IsOnlyRead a c
only_read-trans a b c first second = record {
  stays = stays-trans a b c first.stays second.stays;
  calm = second.calm ∙ first.calm;
  file = λ all told. first.file all (second.file all told);
}

-- A fault that a walk returns after its head may be returned of a log of the newest version.
behind_may : (w number : ℕ) (e : OpenFault) → IsBehind most_held number e → MayTell newest (Some w) most_held e
behind_may w number open_fault.NotLog is = absurd is
behind_may w number (open_fault.OldLog version width) is = absurd is
behind_may w number (open_fault.Damaged n why) is = omega (arith, is.0, is.1)
behind_may w number open_fault.Disk is = tt
behind_may w number open_fault.Memory is = tt
behind_may w number (open_fault.TooLong limit) is = is.0

-- So may a fault of a log of either version.
newest_may : (w : ℕ) (e : OpenFault) → MayTell 1 (Some w) most_held e → MayTell newest (Some w) most_held e
newest_may w open_fault.NotLog is = tt
newest_may w (open_fault.OldLog version width) is =
    ⊎_elim (λ old. inl (λ (wanted : IsWanted newest version). old (record { least = omega (arith, wanted.least); most = wanted.most }))) (λ other. inr other) is
newest_may w (open_fault.Damaged n why) is = is
newest_may w open_fault.Disk is = tt
newest_may w open_fault.Memory is = tt
newest_may w (open_fault.TooLong limit) is = is

-- One call of `next`.
module _ {D : Type 0} (w : ℕ) (cells : List Cell) (start now next : Drive) (walk new : WalkView D) (tally : Tally) (counting : IsCounting w cells start now walk tally) where
  pub stopped : (e : OpenFault) → ((v most : ℕ) (own : List Cell) → ComesTo v most own now walk → TellsWalked v most own now next new (Err e)) → StopsCounting w start next new e
  stopped e tells =
      let told = tells w most_held counting.own counting.came in
      record { own = counting.own; came = told.0; cause = λ bytes is. told.2 bytes (counting.reads.stays.bytes ∙ is); may = behind_may w (length counting.own) e told.1 }

  pub counted : (o : Option Walked) → ((x : Walked) → o ≡ Some x → ⊥) → ((v most : ℕ) (own : List Cell) → ComesTo v most own now walk → TellsWalked v most own now next new (Ok o)) → Counts w cells start next new tally
  counted None ends tells =
      let told = tells w most_held counting.own counting.came in
      record { own = counting.own; came = told.0; tally_is = counting.tally_is; whole = λ bytes is. told.1 bytes (counting.reads.stays.bytes ∙ is) }
  counted (Some x) ends tells = absurd (ends x refl)

  module _ (o : Option Walked) (x : Walked) (is : o ≡ Some x) (tells : (v most : ℕ) (own : List Cell) → ComesTo v most own now walk → TellsWalked v most own now next new (Ok o)) where
    came : ComesTo w most_held (counting.own ++ x.cell ∷ []) next new
    came = (subst (λ (p : Option Walked). TellsWalked w most_held counting.own now next new (Ok p)) is (tells w most_held counting.own counting.came)).0

    pub room : tally.count < most_held
    room = omega (arith, counting.tally_is.count_is, came.few, length-append counting.own (x.cell ∷ []))

    pub smaller : most_held - new.reading.number < most_held - walk.reading.number
    smaller = omega (arith, counting.came.read.count, came.read.count, came.few, length-append counting.own (x.cell ∷ []))

    pub preserved : (more : Tally) → ((own : List Cell) → IsTally cells own tally → IsTally cells (own ++ x.cell ∷ []) more) → OnlyReads now next (Ok o) → IsCounting w cells start next new more
    preserved more with_one reads = record {
      own = counting.own ++ x.cell ∷ [];
      came = came;
      tally_is = with_one counting.own counting.tally_is;
      reads = only_read-trans start now next counting.reads (record { stays = reads.stays; calm = reads.same; file = reads.file });
    }

-- A fault for a reader of both versions is one for a reader of the newest, if that is the version.
newest_fault : (w : ℕ) (bytes : List ℕ) (e : OpenFault) → slice_index bytes 8 ≡ newest → IsFault 1 (Some w) most_held bytes e → IsFault newest (Some w) most_held bytes e
newest_fault w bytes open_fault.NotLog named is = is
newest_fault w bytes (open_fault.OldLog version width) named is = record {
  is_log = is.is_log;
  version_is = is.version_is;
  width_is = is.width_is;
  other = ⊎_elim (λ old. inl (λ (wanted : IsWanted newest version). old (record { least = omega (arith, wanted.least); most = wanted.most }))) (λ other. inr other) is.other;
}
newest_fault w bytes (open_fault.Damaged number why) named is = record {
  version = is.version;
  wanted = subst (IsWanted newest) (sym named ∙ named_version is.version w is.cells is.tail bytes is.begins) (record { least = lit≤ tt; most = lit≤ tt });
  cells = is.cells;
  tail = is.tail;
  begins = is.begins;
  place = is.place;
  few = is.few;
  commit_byte = is.commit_byte;
  wrong = is.wrong;
}
newest_fault w bytes (open_fault.TooLong limit) named is = (
  is.0,
  record {
    version = is.1.version;
    wanted = subst (IsWanted newest) (sym named ∙ named_version is.1.version w is.1.cells is.1.tail bytes is.1.begins) (record { least = lit≤ tt; most = lit≤ tt });
    cells = is.1.cells;
    tail = is.1.tail;
    begins = is.1.begins;
    place = is.1.place;
    commit_byte = is.1.commit_byte;
  },
)
newest_fault w bytes open_fault.Disk named is = tt
newest_fault w bytes open_fault.Memory named is = tt

-- The same for a fault of the head, whatever the version is.
head_fault : (w : ℕ) (bytes : List ℕ) (e : OpenFault) → IsOfHead e → IsFault 1 (Some w) most_held bytes e → IsFault newest (Some w) most_held bytes e
head_fault w bytes open_fault.NotLog head is = is
head_fault w bytes (open_fault.OldLog version width) head is = record {
  is_log = is.is_log;
  version_is = is.version_is;
  width_is = is.width_is;
  other = ⊎_elim (λ old. inl (λ (wanted : IsWanted newest version). old (record { least = omega (arith, wanted.least); most = wanted.most }))) (λ other. inr other) is.other;
}
head_fault w bytes (open_fault.Damaged number why) head is = absurd head
head_fault w bytes (open_fault.TooLong limit) head is = absurd head
head_fault w bytes open_fault.Disk head is = tt
head_fault w bytes open_fault.Memory head is = tt

pub not_started : (w : ℕ) (a b : Drive) (e : OpenFault) → ((bytes : List ℕ) → a.bytes ≡ Some bytes → IsFault 1 (Some w) most_held bytes e) → IsOfHead e → MayTell 1 (Some w) most_held e → OnlyReads {T = Unit {0}} a b (Err e) → RefusesCompare w a b e
not_started w a b e fault head may reads = record {
  cause = λ bytes told. head_fault w bytes e head (fault bytes told);
  may = newest_may w e may;
  rose = λ is. reads.failed (ap (λ f. Err f) is);
  calm = reads.same;
  stays = reads.stays;
  later = reads.later;
  file = reads.file;
}

-- A log of an older version. These of its cells were walked.
old_log : {D : Type 0} (w version : ℕ) (own : List Cell) (drive : Drive) (walk : WalkView D) (bytes : List ℕ) → ComesTo w most_held own drive walk → drive.bytes ≡ Some bytes → 17 < length bytes
    → version ≡ slice_index bytes 8 → version < newest → IsOldLog newest (Some w) bytes version w
old_log w version own drive walk bytes came told long named older =
    let (len, more, begins) = came.read.begins bytes told in
    let tail : List ℕ = walk.reading.rest ++ more in
    let v : ℕ = walk.reading.replay.version in
    let u : ℕ = walk.reading.replay.width in
    let rest : List ℕ = flat_map spelling own ++ tail in
    let parts : bytes ≡ header_text v u ++ rest = begins.parts ∙ append_assoc (header_text v u) (flat_map spelling own) tail in
    let has : HasHeader v u bytes = record { rest = rest; parts = parts; long = omega (arith, long) } in
    record {
      is_log = header_is_log v u bytes has;
      version_is = named;
      width_is = sym (ap (λ (l : List ℕ). slice_index l 9) parts ∙ (header_bytes v u rest).1 ∙ came.width);
      other = inl (λ (wanted : IsWanted newest version). omega (arith, wanted.least, older));
    }

-- The walk after the call of `start`, that of `count_same`, and that of `finish`.
module _ {D : Type 0} (drive : D → Drive) (w : ℕ) (cells : List Cell) (a : Drive) (long : (bytes : List ℕ) → a.bytes ≡ Some bytes → 17 < length bytes) (first walk : WalkView D) (version : ℕ) (disk : D)
    (begins : ComesTo w most_held [] (drive first.disk) first) (start : OnlyReads {T = Unit {0}} a (drive first.disk) (Ok tt)) (result : Result Tally OpenFault)
    (done : IfOk result (Counts first.reading.replay.width cells (drive first.disk) (drive walk.disk) walk)) (failed : IfErr result (StopsCounting first.reading.replay.width (drive first.disk) (drive walk.disk) walk))
    (reads : OnlyReads (drive first.disk) (drive walk.disk) result) (same_disk : disk ≡ walk.disk)
    (named : (v most : ℕ) (own : List Cell) (bytes : List ℕ) → ComesTo v most own (drive walk.disk) walk → (drive walk.disk).bytes ≡ Some bytes → version ≡ slice_index bytes 8) where
  now_told : (bytes : List ℕ) → a.bytes ≡ Some bytes → (drive walk.disk).bytes ≡ Some bytes
  now_told bytes told = reads.stays.bytes ∙ start.stays.bytes ∙ told

  found : (tally : Tally) → result ≡ Ok tally → Counts w cells (drive first.disk) (drive walk.disk) walk tally
  found tally is = subst (λ (v : ℕ). Counts v cells (drive first.disk) (drive walk.disk) walk tally) begins.width (IfOk-at_ok (Counts first.reading.replay.width cells (drive first.disk) (drive walk.disk) walk) is done)

  calm_at : (r : Result Tally OpenFault) → (r ≢ Err open_fault.Disk) → MatchResult r (λ x. (drive walk.disk).faults ≡ (drive first.disk).faults) (λ e. e ≢ open_fault.Disk → (drive walk.disk).faults ≡ (drive first.disk).faults)
      → (drive walk.disk).faults ≡ (drive first.disk).faults
  calm_at (Ok tally) other same = same
  calm_at (Err e) other same = same (λ is. other (ap (λ f. Err f) is))

  came_at : (r : Result Tally OpenFault) → IfOk r (Counts first.reading.replay.width cells (drive first.disk) (drive walk.disk) walk) → IfErr r (StopsCounting first.reading.replay.width (drive first.disk) (drive walk.disk) walk)
      → (own : List Cell) × ComesTo w most_held own (drive walk.disk) walk
  came_at (Ok tally) ok err = (ok.own, subst (λ (v : ℕ). ComesTo v most_held ok.own (drive walk.disk) walk) begins.width ok.came)
  came_at (Err e) ok err = (err.own, subst (λ (v : ℕ). ComesTo v most_held err.own (drive walk.disk) walk) begins.width err.came)

  fault_at : (e : OpenFault) → result ≡ Err e → (bytes : List ℕ) → a.bytes ≡ Some bytes → IsFault 1 (Some w) most_held bytes e
  fault_at e is bytes told = subst (λ (v : ℕ). IsFault 1 (Some v) most_held bytes e) begins.width ((subst (λ (r : Result Tally OpenFault). IfErr r (StopsCounting first.reading.replay.width (drive first.disk) (drive walk.disk) walk)) is failed).cause bytes (start.stays.bytes ∙ told))

  version_is : (bytes : List ℕ) → a.bytes ≡ Some bytes → version ≡ slice_index bytes 8
  version_is bytes told = let (own, came) = came_at result done failed in named w most_held own bytes came (now_told bytes told)

  pub compared : (tally : Tally) → IsJudged version w result (Ok tally) → Compares w cells a (drive disk) tally.count tally.same
  compared tally is =
      let counts = found tally is.1 in
      subst (λ (d : D). Compares w cells a (drive d) tally.count tally.same) (sym same_disk) (record {
        few = counts.tally_is.few;
        within = counts.tally_is.within;
        found = λ bytes told. record {
          own = counts.own;
          openable = record { recovers = counts.whole bytes (start.stays.bytes ∙ told); version = sym (version_is bytes told) ∙ is.0; few = counts.came.few };
          count_is = counts.tally_is.count_is;
          same_is = counts.tally_is.same_is;
          other = counts.tally_is.other;
        };
        reads = record {
          stays = stays-trans a (drive first.disk) (drive walk.disk) start.stays reads.stays;
          calm = calm_at result (λ bad. cc (bad, is.1)) reads.same ∙ start.same;
          file = λ all told. start.file all (reads.file all told);
        };
      })

  -- The result for a log that isn't opened.
  told_cause : (e : OpenFault) → IsJudged version w result (Err e) → (bytes : List ℕ) → a.bytes ≡ Some bytes → IsFault newest (Some w) most_held bytes e
  told_cause e (inl passed) bytes told =
      ⊎_elim (λ new. newest_fault w bytes e (sym (version_is bytes told) ∙ new) (fault_at e passed.0 bytes told)) (λ drives. subst (IsFault newest (Some w) most_held bytes) (sym drives) tt) passed.1
  told_cause e (inr old) bytes told =
      let (own, came) = came_at result done failed in
      subst (IsFault newest (Some w) most_held bytes) (sym old.0) (old_log w version own (drive walk.disk) walk bytes came (now_told bytes told) (long bytes told) (version_is bytes told) old.1)

  told_may : (e : OpenFault) → IsJudged version w result (Err e) → MayTell newest (Some w) most_held e
  told_may e (inl passed) =
      subst (λ (v : ℕ). MayTell newest (Some v) most_held e) begins.width
      (subst (λ (r : Result Tally OpenFault). IfErr r (StopsCounting first.reading.replay.width (drive first.disk) (drive walk.disk) walk)) passed.0 failed).may
  told_may e (inr old) = subst (MayTell newest (Some w) most_held) (sym old.0) (inl (λ (wanted : IsWanted newest version). omega (arith, wanted.least, old.1)))

  told_rose : (e : OpenFault) → IsJudged version w result (Err e) → e ≡ open_fault.Disk → Rose a.faults (drive walk.disk).faults
  told_rose e (inl passed) is = omega (arith, start.same, reads.failed (passed.0 ∙ ap (λ f. Err f) is))
  told_rose e (inr old) is = absurd (cc (is, old.0))

  told_calm : (e : OpenFault) → IsJudged version w result (Err e) → e ≢ open_fault.Disk → (drive walk.disk).faults ≡ a.faults
  told_calm e (inl passed) other = calm_at result (λ bad. other (same_fault e open_fault.Disk (sym passed.0 ∙ bad))) reads.same ∙ start.same
    where
      same_fault : (x y : OpenFault) → ◌≡◌ {A = Result Tally OpenFault} (Err x) (Err y) → x ≡ y
      same_fault x y same = cc same
  told_calm e (inr old) other = calm_at result old.2 reads.same ∙ start.same

  pub not_counted : (e : OpenFault) → IsJudged version w result (Err e) → RefusesCompare w a (drive disk) e
  not_counted e is = subst (λ (d : D). RefusesCompare w a (drive d) e) (sym same_disk) (record {
    cause = told_cause e is;
    may = told_may e is;
    rose = told_rose e is;
    calm = told_calm e is;
    stays = stays-trans a (drive first.disk) (drive walk.disk) start.stays reads.stays;
    later = omega (arith, start.same, reads.later);
    file = λ all told. start.file all (reads.file all told);
  })
