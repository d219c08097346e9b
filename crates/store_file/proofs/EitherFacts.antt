-- A store over one of two files that were opened, and what happens to the other one.
use Rattle.std.proofs.Common.{◌≡◌, ◌⊎◌, inl, inr, ⊎_elim, ◌∙◌, ℕ, ◌<◌, true, List, [], ◌∷◌, length, Option, Some, None, is_some, refl, sym, ap, subst, arith}
use mathlib.Core.Bool.{true≢false}
use Rattle.causes.specs.Causes.{Rose}
use Rattle.atomic_table.specs.Seated.{TableId}
use Rattle.cell_format.specs.declared.cell.Cell.{Cell}
use Rattle.cell_format.specs.Spelling.{newest}
use Rattle.disk_trait.specs.Drive.{Drive, KeepsLaws}
use Rattle.disk_trait.specs.Moments.{LeavesOnly}
use Rattle.disk_trait.proofs.Calls.{attached-still}
use Rattle.split_log.specs.LogText.{IsLog}
use Rattle.split_log.specs.LogView.{LogView}
use Rattle.split_log.proofs.Unique.{holds-same}
use Rattle.log_state.specs.Recovers.{Recovers}
use Rattle.recovery.specs.declared.seen.Seen.{Seen}
use Rattle.recovery.specs.Making.{IsSmall}
use Rattle.recovery.proofs.CallLemmas.{well-then, well-opened}
use Rattle.recovery.proofs.OnlyReading.{rose-earlier}
use Rattle.recovery.proofs.OpeningLemmas.{leaves-trans}
use Rattle.book_lock.specs.Pass.{Known}
use Rattle.store_file.specs.declared.either.Which.{Which}
use Rattle.store_file.specs.declared.either.Which.TheVariants as side
use Rattle.store_file.specs.declared.faults.OpenCause.{OpenCause}
use Rattle.store_file.specs.declared.faults.EitherCause.{EitherCause}
use Rattle.store_file.specs.declared.faults.EitherCause.TheVariants.{Bucket, OneFile, First, Second, Differ, Disk, Memory}
use Rattle.log_compact.specs.Clearing.{Clears, FailsToClear, KeepsOrClears}
use Rattle.store_file.specs.Either.{chosen_of, other_of, IsChosen, MayGoBy, MayGoOn, FindsFile, KeepsOrEmpties, GivesUp, OpensEither, GoesNotOn, RefusesEither, RefusesBoth, IsFreeEither, CameOf, BeginsEither, BeginsNone, BeginsNeither}
use Rattle.store_file.specs.Files.{OpensFile, IsUnmade}
use Rattle.store_file.specs.Opened.{BeginsOver}
use Rattle.store_file.specs.Refused.{IsFreeCause, is_bucket}
use Rattle.store_file.proofs.FileFacts.{weaker, file-then}
use Rattle.store_file.proofs.StoreFacts.{in-old, opens-store}

some_of : (o : Option (List ℕ)) → is_some o ≡ true → (bytes : List ℕ) × (o ≡ Some bytes)
some_of None is = absurd (true≢false (sym is))
some_of (Some bytes) is = (bytes, refl)

none-by : (cells : List Cell) → length cells ≡ 0 → cells ≡ []
none-by [] is = refl
none-by (c ∷ cells) is = absurd (omega (arith, is))

-- A file that was opened.
module _ {D : Type 0} (drive : D → Drive) (w : ℕ) (file : List ℕ) (old : Drive) (start : D) (now : Drive) (seen : Seen) (laws : KeepsLaws old) (opens : OpensFile w file old (drive start) now seen) where
  cells-told : (bytes : List ℕ) → old.bytes ≡ Some bytes → IsLog w opens.found.cells now
  cells-told bytes told =
      let here = some_of (drive start).bytes (opens.readies.told ∙ ap is_some told) in
      let (cells, count, recovers, log) = opens.ready.log here.0 here.1 in
      let there = opens.found.recovers here.0 here.1 in
      subst (λ (l : List Cell). IsLog w l now) (holds-same recovers.version there.version w cells opens.found.cells here.0 recovers.holds there.holds) log

  pub finds-file : FindsFile w file opens.found.cells old now
  finds-file = record {
    attached = attached-still file true old (drive start) now opens.readies.attached opens.ready.file;
    told = opens.ready.told ∙ opens.readies.told;
    calm = opens.ready.same ∙ opens.readies.calm;
    calls = well-then old (drive start) now opens.readies.calls (well-opened seen.cells (drive start) now opens.ready.calls);
    legal = opens.found.legal;
    few = opens.found.few;
    finds = in-old drive w 0 file old start now seen opens;
    log = cells-told;
    keeps = file-then w file old (drive start) now laws opens.readies opens.keeps;
  }

-- The log of a file is emptied, or the drive fails while it is emptied.
module _ {D : Type 0} (drive : D → Drive) (w : ℕ) (file : List ℕ) (cells : List Cell) (old mid new : D) (laws : KeepsLaws (drive old)) (finds : FindsFile w file cells (drive old) (drive mid))
    (keeps : KeepsOrClears (drive mid) (drive new)) where
  in-clear : (bytes : List ℕ) → (drive old).bytes ≡ Some bytes → LeavesOnly (drive mid) (drive new) (λ c. Recovers w cells c ⊎ Recovers w [] c)
  in-clear bytes told =
      weaker (drive mid) (drive new) _ (λ c. Recovers w cells c ⊎ Recovers w [] c)
      (λ c is. ⊎_elim
      (λ none. inr (record { version = newest; known = inr refl; holds = none; legal = refl }))
      (λ all. inl (record { version = newest; known = inr refl; holds = all; legal = finds.legal })) is)
      (keeps w cells (finds.log bytes told))

  same-cells : (bytes : List ℕ) (these : List Cell) → (drive old).bytes ≡ Some bytes → 17 < length bytes → Recovers w these bytes → cells ≡ these
  same-cells bytes these told long recovers = ⊎_elim
      (λ small. absurd (omega (arith, long, small.0)))
      (λ found. holds-same found.1.version recovers.version w cells these bytes found.1.holds recovers.holds) (finds.finds bytes told)

  no-more-cells : (bytes : List ℕ) → (drive old).bytes ≡ Some bytes → IsSmall bytes → cells ≡ []
  no-more-cells bytes told is = ⊎_elim (λ small. small.1) (λ found. absurd (omega (arith, is, found.0))) (finds.finds bytes told)

  keeps-empties : KeepsOrEmpties w (drive old) (drive new)
  keeps-empties = record {
    in_use = λ bytes these told long now.
        leaves-trans (drive old) (drive mid) (drive new) (λ c. Recovers w these c ⊎ Recovers w [] c)
        (weaker (drive old) (drive mid) (Recovers w these) (λ c. Recovers w these c ⊎ Recovers w [] c) (λ c is. inl is) (finds.keeps.in_use bytes told long bytes these told now))
        (subst (λ (l : List Cell). LeavesOnly (drive mid) (drive new) (λ c. Recovers w l c ⊎ Recovers w [] c)) (same-cells bytes these told long (now bytes (laws.held bytes told))) (in-clear bytes told));
    small = λ bytes told now.
        let none = no-more-cells bytes told (now bytes (laws.held bytes told)) in
        leaves-trans (drive old) (drive mid) (drive new) (IsUnmade w) (finds.keeps.small bytes told now)
        (weaker (drive mid) (drive new) (λ c. Recovers w cells c ⊎ Recovers w [] c) (IsUnmade w)
        (λ c is. ⊎_elim (λ all. inr (subst (λ (l : List Cell). Recovers w l c) none all)) (λ empty. inr empty) is) (in-clear bytes told));
  }

  pub gives-up : (Came : Drive → Drive → Type 0) → Came (drive mid) (drive new) → GivesUp drive w Came file cells old new
  gives-up Came came = record { opened = mid; finds = finds; came = came; keeps = keeps-empties }

-- If the drive of the other file failed, the bytes don't decide the cause.
rose-other : (which : Which) {D : Type 0} (drive : D → Drive) (first second one two : D) (c : EitherCause) → Rose (drive (other_of which first second)).faults (drive (other_of which one two)).faults
    → IsFreeEither (drive first) (drive second) (drive one) (drive two) c
rose-other side.First drive first second one two c rose = inr (inr rose)
rose-other side.Second drive first second one two c rose = inr (inl rose)

-- Both files were opened, and this one is chosen.
module _ {D : Type 0} (drive : D → Drive) (laws : (d : D) → KeepsLaws (drive d)) (w bucket : ℕ) (first_file second_file : List ℕ) (first second : D) (which : Which)
    (start now : D) (seen : Seen) (opens : OpensFile w (chosen_of which first_file second_file) (drive (chosen_of which first second)) (drive start) (drive now) seen)
    (also mid : D) (other : Seen) (besides : OpensFile w (other_of which first_file second_file) (drive (other_of which first second)) (drive also) (drive mid) other)
    (may : MayGoOn which seen other) (count : ℕ) (counted : count ≡ other.cells) where
  same-count : count ≡ length besides.found.cells
  same-count = counted ∙ besides.found.finds.count

  here : FindsFile w (chosen_of which first_file second_file) opens.found.cells (drive (chosen_of which first second)) (drive now)
  here = finds-file drive w (chosen_of which first_file second_file) (drive (chosen_of which first second)) start (drive now) seen (laws (chosen_of which first second)) opens

  there : FindsFile w (other_of which first_file second_file) besides.found.cells (drive (other_of which first second)) (drive mid)
  there = finds-file drive w (other_of which first_file second_file) (drive (other_of which first second)) also (drive mid) other (laws (other_of which first second)) besides

  is-chosen : IsChosen which (length opens.found.cells) (length besides.found.cells)
  is-chosen = subst (λ (n : ℕ). IsChosen which n (length besides.found.cells)) opens.found.finds.count (subst (λ (n : ℕ). IsChosen which seen.cells n) besides.found.finds.count may.0)

  may-go : MayGoBy w opens.found.cells besides.found.cells
  may-go = ⊎_elim
      (λ none. inl (none-by besides.found.cells (sym besides.found.finds.count ∙ none)))
      (λ same. inr (sym besides.found.finds.world ∙ same ∙ opens.found.finds.world)) may.1

  pub opens-either : (spare : D) → Clears count (drive mid) (drive spare) → KeepsOrClears (drive mid) (drive spare) → (lock : TableId) (pass : Known) (points : ℕ) (latest : Option ℕ) (records : ℕ)
      → BeginsOver drive bucket seen start lock pass points latest records → OpensEither drive w bucket first_file second_file first second which lock pass points latest records spare
  unfolding opens-store
  opens-either spare cleared keeps lock pass points latest records begins = record {
    opens = opens-store drive w bucket (chosen_of which first_file second_file) (drive (chosen_of which first second)) start (drive now) seen opens lock pass points latest records begins;
    other = besides.found.cells;
    chosen = is-chosen;
    may = may-go;
    gives_up = gives-up drive w (other_of which first_file second_file) besides.found.cells (other_of which first second) mid spare (laws (other_of which first second)) there keeps (Clears (length besides.found.cells)) (subst (λ (n : ℕ). Clears n (drive mid) (drive spare)) same-count cleared);
    empty = λ bytes told. cleared.log w besides.found.cells (there.log bytes told);
  }

  module _ (one two : D) (kept : chosen_of which one two ≡ now) (keeps : KeepsOrClears (drive mid) (drive (other_of which one two))) where
    goes-not-on : (Came : List Cell → Drive → Drive → Type 0) → Came besides.found.cells (drive mid) (drive (other_of which one two)) → GoesNotOn drive w Came first_file second_file first second one two
    goes-not-on Came came = record {
      which = which;
      cells = opens.found.cells;
      other = besides.found.cells;
      chosen = is-chosen;
      may = may-go;
      stands = subst (λ (d : D). FindsFile w (chosen_of which first_file second_file) opens.found.cells (drive (chosen_of which first second)) (drive d)) (sym kept) here;
      gives_up = gives-up drive w (other_of which first_file second_file) besides.found.cells (other_of which first second) mid (other_of which one two) (laws (other_of which first second)) there keeps (Came besides.found.cells) came;
    }

    pub refuses-taken : (c : EitherCause) → is_bucket bucket ≡ true → CameOf count c (drive mid) (drive (other_of which one two))
        → RefusesEither drive w bucket first_file second_file first second one two c
    refuses-taken Disk sized came = (sized, goes-not-on (λ cells. FailsToClear) came)
    refuses-taken Memory sized came = (sized, goes-not-on (λ cells. Clears (length cells)) (subst (λ (n : ℕ). Clears n (drive mid) (drive (other_of which one two))) same-count came))
    refuses-taken Bucket sized came = absurd came
    refuses-taken OneFile sized came = absurd came
    refuses-taken Differ sized came = absurd came
    refuses-taken (First why) sized came = absurd came
    refuses-taken (Second why) sized came = absurd came

    pub free-taken : (c : EitherCause) → CameOf count c (drive mid) (drive (other_of which one two)) → IsFreeEither (drive first) (drive second) (drive one) (drive two) c
    free-taken Disk came =
        rose-other which drive first second one two Disk (rose-earlier (drive (other_of which first second)).faults (drive mid).faults (drive (other_of which one two)).faults (omega (arith, there.calm)) came.rose)
    free-taken Memory came = inl (inl refl)
    free-taken Bucket came = absurd came
    free-taken OneFile came = absurd came
    free-taken Differ came = absurd came
    free-taken (First why) came = absurd came
    free-taken (Second why) came = absurd came

-- One of the two files wasn't opened.
pub refuses-both : {D : Type 0} (drive : D → Drive) (w bucket : ℕ) (first_file second_file : List ℕ) (first second one two : D) (c : EitherCause) → is_bucket bucket ≡ true
    → RefusesBoth drive w first_file second_file first second one two c → RefusesEither drive w bucket first_file second_file first second one two c
refuses-both drive w bucket first_file second_file first second one two (First why) sized not = (sized, not.0, not.1)
refuses-both drive w bucket first_file second_file first second one two (Second why) sized not = (sized, not.0, not.1)
refuses-both drive w bucket first_file second_file first second one two Bucket sized not = absurd not
refuses-both drive w bucket first_file second_file first second one two OneFile sized not = absurd not
refuses-both drive w bucket first_file second_file first second one two Differ sized not = absurd not
refuses-both drive w bucket first_file second_file first second one two Disk sized not = absurd not
refuses-both drive w bucket first_file second_file first second one two Memory sized not = absurd not

pub free-first : (a b c d : Drive) (why : OpenCause) → IsFreeCause a c why → IsFreeEither a b c d (First why)
free-first a b c d why (inl memory) = inl (inr (inl (ap First memory)))
free-first a b c d why (inr rose) = inr (inl rose)

pub free-second : (a b c d : Drive) (why : OpenCause) → IsFreeCause b d why → IsFreeEither a b c d (Second why)
free-second a b c d why (inl memory) = inl (inr (inr (ap Second memory)))
free-second a b c d why (inr rose) = inr (inr rose)

-- The chosen one of two files that were opened, and the other one.
opened-chosen : {D : Type 0} (drive : D → Drive) (w : ℕ) (file also : List ℕ) (first second start begun now then : D) (one two : Seen) (which : Which)
    → OpensFile w file (drive first) (drive start) (drive now) one → OpensFile w also (drive second) (drive begun) (drive then) two
    → OpensFile w (chosen_of which file also) (drive (chosen_of which first second)) (drive (chosen_of which start begun)) (drive (chosen_of which now then)) (chosen_of which one two)
opened-chosen drive w file also first second start begun now then one two side.First a b = a
opened-chosen drive w file also first second start begun now then one two side.Second a b = b

opened-other : {D : Type 0} (drive : D → Drive) (w : ℕ) (file also : List ℕ) (first second start begun now then : D) (one two : Seen) (which : Which)
    → OpensFile w file (drive first) (drive start) (drive now) one → OpensFile w also (drive second) (drive begun) (drive then) two
    → OpensFile w (other_of which file also) (drive (other_of which first second)) (drive (other_of which start begun)) (drive (other_of which now then)) (other_of which one two)
opened-other drive w file also first second start begun now then one two side.First a b = b
opened-other drive w file also first second start begun now then one two side.Second a b = a

disk-chosen : {D : Type 0} (log also : LogView D) (which : Which) → (chosen_of which log also).disk ≡ chosen_of which log.disk also.disk
disk-chosen log also side.First = refl
disk-chosen log also side.Second = refl

disk-other : {D : Type 0} (log also : LogView D) (which : Which) → (other_of which log also).disk ≡ other_of which log.disk also.disk
disk-other log also side.First = refl
disk-other log also side.Second = refl

count-other : {D : Type 0} (log also : LogView D) (one two : Seen) (which : Which) → log.cells ≡ one.cells → also.cells ≡ two.cells → (other_of which log also).cells ≡ (other_of which one two).cells
count-other log also one two side.First a b = b
count-other log also one two side.Second a b = a

-- Both files were opened, with this result.
module _ {D : Type 0} (drive : D → Drive) (laws : (d : D) → KeepsLaws (drive d)) (w bucket : ℕ) (sized : is_bucket bucket ≡ true) (file also_file : List ℕ) (first second start begun : D) (one two : Seen) (log also : LogView D)
    (opens : OpensFile w file (drive first) (drive start) (drive log.disk) one) (besides : OpensFile w also_file (drive second) (drive begun) (drive also.disk) two)
    (counts : log.cells ≡ one.cells) (also_counts : also.cells ≡ two.cells) where
  pub begins-either : (which : Which) (lock : TableId) (pass : Known) (points : ℕ) (latest : Option ℕ) (records : ℕ) (spare : D)
      → BeginsEither drive bucket one two log also start begun which lock pass points latest records spare
      → OpensEither drive w bucket file also_file first second which lock pass points latest records spare
  begins-either which lock pass points latest records spare is =
      let other = disk-other log also which in
      opens-either drive laws w bucket file also_file first second which (chosen_of which start begun) (chosen_of which log.disk also.disk) (chosen_of which one two)
      (opened-chosen drive w file also_file first second start begun log.disk also.disk one two which opens besides)
      (other_of which start begun) (other_of which log.disk also.disk) (other_of which one two)
      (opened-other drive w file also_file first second start begun log.disk also.disk one two which opens besides)
      is.may (other_of which log also).cells (count-other log also one two which counts also_counts)
      spare (subst (λ (d : D). Clears (other_of which log also).cells (drive d) (drive spare)) other is.cleared) (subst (λ (d : D). KeepsOrClears (drive d) (drive spare)) other is.keeps)
      lock pass points latest records is.begins

  module _ (left right : D) where
    none-begun : (why : EitherCause) → BeginsNone drive one two log also left right why
        → RefusesEither drive w bucket file also_file first second left right why × IsFreeEither (drive first) (drive second) (drive left) (drive right) why
    none-begun why is =
        let which = is.which in
        let other = disk-other log also which in
        let kept : chosen_of which left right ≡ chosen_of which log.disk also.disk = is.kept ∙ disk-chosen log also which in
        let keeps : KeepsOrClears (drive (other_of which log.disk also.disk)) (drive (other_of which left right)) = subst (λ (d : D). KeepsOrClears (drive d) (drive (other_of which left right))) other is.keeps in
        let came : CameOf (other_of which log also).cells why (drive (other_of which log.disk also.disk)) (drive (other_of which left right)) =
        subst (λ (d : D). CameOf (other_of which log also).cells why (drive d) (drive (other_of which left right))) other is.came in
        let a = opened-chosen drive w file also_file first second start begun log.disk also.disk one two which opens besides in
        let b = opened-other drive w file also_file first second start begun log.disk also.disk one two which opens besides in
        let count = (other_of which log also).cells in
        let counted = count-other log also one two which counts also_counts in (
          refuses-taken drive laws w bucket file also_file first second which (chosen_of which start begun) (chosen_of which log.disk also.disk) (chosen_of which one two) a
              (other_of which start begun) (other_of which log.disk also.disk) (other_of which one two) b is.may count counted left right kept keeps why sized came,
          free-taken drive laws w bucket file also_file first second which (chosen_of which start begun) (chosen_of which log.disk also.disk) (chosen_of which one two) a
              (other_of which start begun) (other_of which log.disk also.disk) (other_of which one two) b is.may count counted left right kept keeps why came,
        )

    pub neither-begun : (why : EitherCause) → BeginsNeither drive one two log also left right why → RefusesEither drive w bucket file also_file first second left right why
    neither-begun Differ is = (
      sized,
      record {
        first_cells = opens.found.cells;
        second_cells = besides.found.cells;
        first_finds = subst (λ (d : D). FindsFile w file opens.found.cells (drive first) (drive d)) (sym is.0) (finds-file drive w file (drive first) start (drive log.disk) one (laws first) opens);
        second_finds = subst (λ (d : D). FindsFile w also_file besides.found.cells (drive second) (drive d)) (sym is.1) (finds-file drive w also_file (drive second) begun (drive also.disk) two (laws second) besides);
        at_odds = (
          λ none. is.2.0 (opens.found.finds.count ∙ ap length none),
          λ none. is.2.1 (besides.found.finds.count ∙ ap length none),
          λ same. is.2.2 (opens.found.finds.world ∙ same ∙ sym besides.found.finds.world),
        );
      },
    )
    neither-begun Disk is = (none-begun Disk is).0
    neither-begun Memory is = (none-begun Memory is).0
    neither-begun Bucket is = absurd is
    neither-begun OneFile is = absurd is
    neither-begun (First why) is = absurd is
    neither-begun (Second why) is = absurd is

    pub neither-free : (why : EitherCause) → BeginsNeither drive one two log also left right why → (why ≡ Differ) ⊎ IsFreeEither (drive first) (drive second) (drive left) (drive right) why
    neither-free Differ is = inl refl
    neither-free Disk is = inr (none-begun Disk is).1
    neither-free Memory is = inr (none-begun Memory is).1
    neither-free Bucket is = absurd is
    neither-free OneFile is = absurd is
    neither-free (First why) is = absurd is
    neither-free (Second why) is = absurd is

-- The same values under other names.
pub begins-placed : {D : Type 0} (drive : D → Drive) (bucket : ℕ) (one two : Seen) (log also : LogView D) (start begun : D) (which side : Which) (lock key : TableId) (pass next : Known) (points number : ℕ) (latest newer : Option ℕ)
    (records more : ℕ) (spare left : D) → side ≡ which → key ≡ lock → next ≡ pass → number ≡ points → newer ≡ latest → more ≡ records → left ≡ spare
    → BeginsEither drive bucket one two log also start begun which lock pass points latest records spare
    → BeginsEither drive bucket one two log also start begun side key next number newer more left
begins-placed drive bucket one two log also start begun which side lock key pass next points number latest newer records more spare left a b c d e f g is =
    subst (λ (x : Which). BeginsEither drive bucket one two log also start begun x key next number newer more left) (sym a)
    (subst (λ (x : TableId). BeginsEither drive bucket one two log also start begun which x next number newer more left) (sym b)
    (subst (λ (x : Known). BeginsEither drive bucket one two log also start begun which lock x number newer more left) (sym c)
    (subst (λ (x : ℕ). BeginsEither drive bucket one two log also start begun which lock pass x newer more left) (sym d)
    (subst (λ (x : Option ℕ). BeginsEither drive bucket one two log also start begun which lock pass points x more left) (sym e)
    (subst (λ (x : ℕ). BeginsEither drive bucket one two log also start begun which lock pass points latest x left) (sym f)
    (subst (λ x. BeginsEither drive bucket one two log also start begun which lock pass points latest records x) (sym g) is))))))

-- No store continues over the chosen log.
pub neither-by : {D : Type 0} (drive : D → Drive) (one two : Seen) (log also : LogView D) (first second : D) (which : Which) → MayGoOn which (chosen_of which one two) (other_of which one two)
    → chosen_of which first second ≡ (chosen_of which log also).disk → (why : EitherCause)
    → CameOf (other_of which log also).cells why (drive (other_of which log also).disk) (drive (other_of which first second)) → KeepsOrClears (drive (other_of which log also).disk) (drive (other_of which first second))
    → BeginsNeither drive one two log also first second why
neither-by drive one two log also first second which may kept Disk came keeps = record { which = which; may = may; kept = kept; came = came; keeps = keeps }
neither-by drive one two log also first second which may kept Memory came keeps = record { which = which; may = may; kept = kept; came = came; keeps = keeps }
neither-by drive one two log also first second which may kept Bucket came keeps = absurd came
neither-by drive one two log also first second which may kept OneFile came keeps = absurd came
neither-by drive one two log also first second which may kept Differ came keeps = absurd came
neither-by drive one two log also first second which may kept (First cause) came keeps = absurd came
neither-by drive one two log also first second which may kept (Second cause) came keeps = absurd came
