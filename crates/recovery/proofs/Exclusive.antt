-- Bytes show at most one result: the cells that they recover to, or one fault.
use Rattle.std.proofs.Common.{◌≡◌, ℕ, ◌+◌, ◌<◌, ◌≤◌, true, false, ◌⊎◌, inl, inr, ⊎_elim, Some, List, [], ◌∷◌, ◌++◌, length, take, drop, refl, sym, ◌∙◌, ap, subst, arith, append_assoc, length-append}
use Rattle.std.specs.Prelude.{slice_index, Result, Ok, Err}
use Rattle.std.specs.Result.{IsErrAnd}
use Rattle.causes.specs.Causes.{Rose}
use Rattle.disk_trait.specs.Drive.{Drive}
use Rattle.std.specs.List.{flat_map, AllByRecursion}
use Rattle.std.specs.Cmp.{first_so, second_so}
use Rattle.std.proofs.lemmas.Bool.{true≢false, cases_eq}
use Rattle.std.proofs.lemmas.List.{take_at, drop_at, length-take-le}
use Rattle.cell_format.specs.declared.cell.Cell.{Cell}
use Rattle.cell_format.specs.declared.cell.Cause.{Cause}
use Rattle.cell_format.specs.declared.cell.Cause.TheVariants as cause
use Rattle.cell_format.specs.declared.cell.CellFault.{CellFault}
use Rattle.cell_format.specs.declared.cell.CellFault.TheVariants as cell_fault
use Rattle.cell_format.specs.Decoding.{decoded}
use Rattle.cell_format.specs.Spelling.{IsCell, spelling, header_text, IsVersion}
use Rattle.cell_format.proofs.Decoded.{same_cell, fits-newest, length-spelling, decoded-spelling}
use Rattle.cell_format.proofs.Reading.{decoded-HasNoKind, decoded-HasReserved, decoded-HasBadName, decoded-spelled}
use Rattle.plain_list.specs.State.{State, empty_state, step}
use Rattle.split_log.specs.LogText.{front_of}
use Rattle.split_log.proofs.Cells.{length-header}
use Rattle.recovery.specs.declared.seen.OpenFault.{OpenFault}
use Rattle.recovery.specs.declared.seen.OpenFault.TheVariants as fault
use Rattle.log_state.specs.Recovers.{Recovers, is_legal_cells, is_possible_cell, entry_of, cells_after, state_of}
use Rattle.recovery.specs.Faults.{BeginsWith, IsWrong, IsDamaged, IsTooLong, IsOldLog, IsFault, IsInBytes}
use Rattle.recovery.specs.Found.{IsWanted, IsFree}
use Rattle.recovery.specs.Headers.{HasHeader}
use Rattle.recovery.proofs.HeadLemmas.{header_bytes, header_is_log, index_version}
use Rattle.recovery.proofs.ReadingLemmas.{behind_cells, set_some}

-- One list of cells continues with this cell, at the point where the other list ends.
pub record Longer (v w : ℕ) (s : State) (first second : List Cell) (tail rest : List ℕ) : Type 0 where
  pub next : Cell
  pub more : List Cell
  pub second_is : second ≡ first ++ next ∷ more
  pub tail_is : tail ≡ spelling next ++ (flat_map spelling more ++ rest)
  pub fits : IsCell v next
  pub possible : is_possible_cell w (cells_after w s first) next ≡ true

longer : (v w : ℕ) (s : State) (c : Cell) (first second : List Cell) (tail rest : List ℕ) → Longer v w (step w s (entry_of c)) first second tail rest → Longer v w s (c ∷ first) (c ∷ second) tail rest
longer v w s c first second tail rest l = record { next = l.next; more = l.more; second_is = ap (λ cs. c ∷ cs) l.second_is; tail_is = l.tail_is; fits = l.fits; possible = l.possible }

abbrev pub Compared : ℕ → ℕ → State → List Cell → List Cell → List ℕ → List ℕ → Type 0
Compared v w s first second tail rest = ((first ≡ second) × (tail ≡ rest)) ⊎ (Longer v w s first second tail rest ⊎ Longer v w s second first rest tail)

compared_more : (v w : ℕ) (s : State) (c : Cell) (first second : List Cell) (tail rest : List ℕ) → Compared v w (step w s (entry_of c)) first second tail rest → Compared v w s (c ∷ first) (c ∷ second) tail rest
compared_more v w s c first second tail rest (inl same) = inl (ap (λ cs. c ∷ cs) same.0, same.1)
compared_more v w s c first second tail rest (inr (inl l)) = inr (inl (longer v w s c first second tail rest l))
compared_more v w s c first second tail rest (inr (inr l)) = inr (inr (longer v w s c second first rest tail l))

pub compared : (v w : ℕ) (s : State) (first second : List Cell) (tail rest : List ℕ) → AllByRecursion (IsCell v) first → AllByRecursion (IsCell v) second → is_legal_cells w s first ≡ true → is_legal_cells w s second ≡ true
    → flat_map spelling first ++ tail ≡ flat_map spelling second ++ rest → Compared v w s first second tail rest
compared v w s [] [] tail rest af bf al bl e = inl (refl, e)
compared v w s [] (d ∷ second) tail rest af bf al bl e =
    inr (inl (record {
      next = d;
      more = second;
      second_is = refl;
      tail_is = e ∙ append_assoc (spelling d) (flat_map spelling second) rest;
      fits = bf.0;
      possible = first_so (is_possible_cell w s d) (is_legal_cells w (step w s (entry_of d)) second) bl;
    }))
compared v w s (c ∷ first) [] tail rest af bf al bl e =
    inr (inr (record {
      next = c;
      more = first;
      second_is = refl;
      tail_is = sym e ∙ append_assoc (spelling c) (flat_map spelling first) tail;
      fits = af.0;
      possible = first_so (is_possible_cell w s c) (is_legal_cells w (step w s (entry_of c)) first) al;
    }))
compared v w s (c ∷ first) (d ∷ second) tail rest af bf al bl e =
    let parts : spelling c ++ (flat_map spelling first ++ tail) ≡ spelling d ++ (flat_map spelling second ++ rest)
    = sym (append_assoc (spelling c) (flat_map spelling first) tail) ∙ e ∙ append_assoc (spelling d) (flat_map spelling second) rest in
    let heads : spelling c ≡ spelling d =
    sym (take_at (spelling c) (flat_map spelling first ++ tail) 32 (length-spelling c)) ∙ ap (take 32) parts ∙ take_at (spelling d) (flat_map spelling second ++ rest) 32 (length-spelling d) in
    let tails : flat_map spelling first ++ tail ≡ flat_map spelling second ++ rest =
    sym (drop_at (spelling c) (flat_map spelling first ++ tail) 32 (length-spelling c)) ∙ ap (drop 32) parts ∙ drop_at (spelling d) (flat_map spelling second ++ rest) 32 (length-spelling d) in
    let one : c ≡ d = same_cell c d (fits-newest v c af.0) (fits-newest v d bf.0) heads in
    let legal : is_legal_cells w (step w s (entry_of c)) second ≡ true =
    subst (λ x. is_legal_cells w (step w s (entry_of x)) second ≡ true) (sym one) (second_so (is_possible_cell w s d) (is_legal_cells w (step w s (entry_of d)) second) bl) in
    subst (λ x. Compared v w s (c ∷ first) (x ∷ second) tail rest) one
    (compared_more v w s c first second tail rest (compared v w (step w s (entry_of c)) first second tail rest af.1 bf.1 (second_so (is_possible_cell w s c) (is_legal_cells w (step w s (entry_of c)) first) al) legal tails))

-- The end of a reading: no possible cell that would be read follows the cells.
pub record IsEnd (v w most : ℕ) (cells : List Cell) (tail bytes : List ℕ) : Type 0 where
  pub begins : BeginsWith v w cells tail bytes
  pub some : 1 ≤ length tail
  pub few : length cells ≤ most
  pub stuck : (next : Cell) (rest : List ℕ) → IsCell v next → tail ≡ spelling next ++ rest → 1 ≤ length rest → is_possible_cell w (state_of w cells) next ≡ true → length cells < most → ⊥

no_longer : (v w most : ℕ) (first second : List Cell) (tail rest bytes : List ℕ) → IsEnd v w most first tail bytes → IsEnd v w most second rest bytes → Longer v w empty_state first second tail rest → ⊥
no_longer v w most first second tail rest bytes a b l =
    a.stuck l.next (flat_map spelling l.more ++ rest) l.fits l.tail_is (omega (arith, b.some, length-append (flat_map spelling l.more) rest)) l.possible
    (omega (arith, ap length l.second_is, length-append first (l.next ∷ l.more), b.few))

-- The version is the one that the header names.
pub behind_header : (v w : ℕ) (cells : List Cell) (tail bytes : List ℕ) → BeginsWith v w cells tail bytes → bytes ≡ header_text v w ++ (flat_map spelling cells ++ tail)
behind_header v w cells tail bytes begins = begins.parts ∙ append_assoc (header_text v w) (flat_map spelling cells) tail

pub named_version : (v w : ℕ) (cells : List Cell) (tail bytes : List ℕ) → BeginsWith v w cells tail bytes → slice_index bytes 8 ≡ v
named_version v w cells tail bytes begins = ap (λ (l : List ℕ). slice_index l 8) (behind_header v w cells tail bytes begins) ∙ (header_bytes v w (flat_map spelling cells ++ tail)).0

-- A reading ends at one place.
pub one_end_of : (v w most : ℕ) (first second : List Cell) (tail rest bytes : List ℕ) → IsEnd v w most first tail bytes → IsEnd v w most second rest bytes → (first ≡ second) × (tail ≡ rest)
one_end_of v w most first second tail rest bytes a b =
    let tails : flat_map spelling first ++ tail ≡ flat_map spelling second ++ rest =
    sym (drop_at (header_text v w) (flat_map spelling first ++ tail) 16 (length-header v w)) ∙ ap (drop 16) (sym (behind_header v w first tail bytes a.begins) ∙ behind_header v w second rest bytes b.begins)
    ∙ drop_at (header_text v w) (flat_map spelling second ++ rest) 16 (length-header v w) in
    elim (compared v w empty_state first second tail rest a.begins.cells_fit b.begins.cells_fit a.begins.legal b.begins.legal tails) [
      | inl same ↦ same
      | inr other ↦ elim other [
        | inl l ↦ absurd (no_longer v w most first second tail rest bytes a b l)
        | inr l ↦ absurd (no_longer v w most second first rest tail bytes b a l)
      ]
    ]

-- Both readings have the same version.
pub one_end : (v u w most : ℕ) (first second : List Cell) (tail rest bytes : List ℕ) → IsEnd v w most first tail bytes → IsEnd u w most second rest bytes → (first ≡ second) × (tail ≡ rest) × (v ≡ u)
one_end v u w most first second tail rest bytes a b =
    let same : v ≡ u = sym (named_version v w first tail bytes a.begins) ∙ named_version u w second rest bytes b.begins in
    let ends = one_end_of v w most first second tail rest bytes a (subst (λ n. IsEnd n w most second rest bytes) (sym same) b) in
    (ends.0, ends.1, same)

spelled_first : (next : Cell) (rest tail : List ℕ) → tail ≡ spelling next ++ rest → (slice_index tail 0 ≡ 1) × (take 32 tail ≡ spelling next) × (length tail ≡ 32 + length rest)
spelled_first next rest tail is = (ap (λ (l : List ℕ). slice_index l 0) is, ap (take 32) is ∙ take_at (spelling next) rest 32 (length-spelling next), omega (arith, ap length is, length-append (spelling next) rest, length-spelling next))

kind_reserved : ◌≡◌ {A = Result Cell CellFault} (Err cell_fault.Kind) (Err cell_fault.Reserved) → ⊥
kind_reserved e = cc e

kind_name : ◌≡◌ {A = Result Cell CellFault} (Err cell_fault.Kind) (Err cell_fault.BadName) → ⊥
kind_name e = cc e

reserved_name : ◌≡◌ {A = Result Cell CellFault} (Err cell_fault.Reserved) (Err cell_fault.BadName) → ⊥
reserved_name e = cc e

err_ok : (f : CellFault) (c : Cell) → ◌≡◌ {A = Result Cell CellFault} (Err f) (Ok c) → ⊥
err_ok f c e = cc e

-- What is wrong with the cell at the front, as its bytes are read.
abbrev ReadsWrong : ℕ → ℕ → State → List ℕ → Cause → Type 0
ReadsWrong v w s tail cause.ShortCell = length tail < 33
ReadsWrong v w s tail cause.Kind = (33 ≤ length tail) × (decoded v (take 32 tail) ≡ Err cell_fault.Kind)
ReadsWrong v w s tail cause.Reserved = (33 ≤ length tail) × (decoded v (take 32 tail) ≡ Err cell_fault.Reserved)
ReadsWrong v w s tail cause.BadName = (33 ≤ length tail) × (decoded v (take 32 tail) ≡ Err cell_fault.BadName)
ReadsWrong v w s tail cause.Impossible = (33 ≤ length tail) × (next : Cell) × (decoded v (take 32 tail) ≡ Ok next) × (is_possible_cell w s next ≡ false)

reads_wrong : (v w : ℕ) → IsVersion v → (s : State) (tail : List ℕ) (why : Cause) → IsWrong v w s tail why → ReadsWrong v w s tail why
reads_wrong v w known s tail cause.ShortCell wrong = wrong
reads_wrong v w known s tail cause.Kind wrong = (wrong.0, decoded-HasNoKind v (take 32 tail) wrong.1)
reads_wrong v w known s tail cause.Reserved wrong = (wrong.0, decoded-HasReserved v (take 32 tail) wrong.1)
reads_wrong v w known s tail cause.BadName wrong = (wrong.0, decoded-HasBadName v (take 32 tail) (length-take-le 32 tail (omega (arith, wrong.0))) wrong.1)
reads_wrong v w known s tail cause.Impossible wrong = (wrong.0, wrong.1, decoded-spelled v known (take 32 tail) wrong.1 wrong.2, wrong.3)

not_wrong : (v w : ℕ) → IsVersion v → (s : State) (next : Cell) (rest tail : List ℕ) (why : Cause) → IsCell v next → tail ≡ spelling next ++ rest → 1 ≤ length rest → is_possible_cell w s next ≡ true
    → IsWrong v w s tail why → ⊥
not_wrong v w known s next rest tail why fits is some possible wrong =
    let first = spelled_first next rest tail is in
    let reads : decoded v (take 32 tail) ≡ Ok next = ap (decoded v) first.1 ∙ decoded-spelling v known next fits in
    by_cause reads why (reads_wrong v w known s tail why wrong)
  where
    by_cause : decoded v (take 32 tail) ≡ Ok next → (why : Cause) → ReadsWrong v w s tail why → ⊥
    by_cause reads cause.ShortCell wrong = omega (arith, wrong, (spelled_first next rest tail is).2, some)
    by_cause reads cause.Kind wrong = err_ok cell_fault.Kind next (sym wrong.1 ∙ reads)
    by_cause reads cause.Reserved wrong = err_ok cell_fault.Reserved next (sym wrong.1 ∙ reads)
    by_cause reads cause.BadName wrong = err_ok cell_fault.BadName next (sym wrong.1 ∙ reads)
    by_cause reads cause.Impossible wrong =
        let e : ◌≡◌ {A = Result Cell CellFault} (Ok wrong.1) (Ok next) = sym wrong.2 ∙ reads in
        let same : wrong.1 ≡ next = cc e in
        true≢false (sym possible ∙ sym (ap (is_possible_cell w s) same) ∙ wrong.3)

-- The three ends: a clear commit byte, a faulty cell, and a set commit byte after the last cell that is read.
pub recovers_end : (w most : ℕ) (cells : List Cell) (bytes : List ℕ) (recovers : Recovers w cells bytes) → length cells ≤ most
    → IsEnd recovers.version w most cells (recovers.holds.text.commit_byte ∷ recovers.holds.rest) bytes
recovers_end w most cells bytes recovers few = record {
  begins = record {
    cells_fit = recovers.holds.text.cells_fit;
    legal = recovers.legal;
    parts = recovers.holds.parts ∙ ap (λ (l : List ℕ). l ++ recovers.holds.rest) recovers.holds.text.text ∙ append_assoc (front_of recovers.version w cells) (recovers.holds.text.commit_byte ∷ []) recovers.holds.rest;
  };
  some = omega arith;
  few = few;
  stuck = λ next rest fits is some possible lt. recovers.holds.text.clear (spelled_first next rest (recovers.holds.text.commit_byte ∷ recovers.holds.rest) is).0;
}

-- A version that is read.
pub known_version : (oldest v : ℕ) → 1 ≤ oldest → IsWanted oldest v → IsVersion v
known_version oldest v least wanted = elim (cases_eq v 1) [
  | inl first ↦ inl first
  | inr other ↦ inr (omega (arith, least, wanted.least, wanted.most, other))
]

-- A log's header is no other head, and has no other version or width.
has_header : (v w most : ℕ) (cells : List Cell) (tail bytes : List ℕ) → IsEnd v w most cells tail bytes → HasHeader v w bytes
has_header v w most cells tail bytes end = record {
  rest = flat_map spelling cells ++ tail;
  parts = behind_header v w cells tail bytes end.begins;
  long = omega (arith, (behind_cells v w cells tail bytes end.begins).1, end.some);
}

pub header_is_new : (oldest v w : ℕ) (bytes : List ℕ) (version width : ℕ) → IsWanted oldest v → HasHeader v w bytes → IsOldLog oldest (Some w) bytes version width → ⊥
header_is_new oldest v w bytes version width wanted has old = ⊎_elim
    (λ other. other (subst (IsWanted oldest) (sym (old.version_is ∙ ap (λ (l : List ℕ). slice_index l 8) has.parts ∙ (header_bytes v w has.rest).0)) wanted))
    (λ other. other (old.width_is ∙ ap (λ (l : List ℕ). slice_index l 9) has.parts ∙ (header_bytes v w has.rest).1)) old.other

-- A cell is wrong for one reason.
one_reading : (v w : ℕ) (s : State) (tail : List ℕ) (why also : Cause) → ReadsWrong v w s tail why → ReadsWrong v w s tail also → why ≡ also
one_reading v w s tail cause.ShortCell cause.ShortCell a b = refl
one_reading v w s tail cause.ShortCell cause.Kind a b = absurd (omega (arith, a, b.0))
one_reading v w s tail cause.ShortCell cause.Reserved a b = absurd (omega (arith, a, b.0))
one_reading v w s tail cause.ShortCell cause.BadName a b = absurd (omega (arith, a, b.0))
one_reading v w s tail cause.ShortCell cause.Impossible a b = absurd (omega (arith, a, b.0))
one_reading v w s tail cause.Kind cause.ShortCell a b = absurd (omega (arith, b, a.0))
one_reading v w s tail cause.Kind cause.Kind a b = refl
one_reading v w s tail cause.Kind cause.Reserved a b = absurd (kind_reserved (sym a.1 ∙ b.1))
one_reading v w s tail cause.Kind cause.BadName a b = absurd (kind_name (sym a.1 ∙ b.1))
one_reading v w s tail cause.Kind cause.Impossible a b = absurd (err_ok cell_fault.Kind b.1 (sym a.1 ∙ b.2))
one_reading v w s tail cause.Reserved cause.ShortCell a b = absurd (omega (arith, b, a.0))
one_reading v w s tail cause.Reserved cause.Kind a b = absurd (kind_reserved (sym b.1 ∙ a.1))
one_reading v w s tail cause.Reserved cause.Reserved a b = refl
one_reading v w s tail cause.Reserved cause.BadName a b = absurd (reserved_name (sym a.1 ∙ b.1))
one_reading v w s tail cause.Reserved cause.Impossible a b = absurd (err_ok cell_fault.Reserved b.1 (sym a.1 ∙ b.2))
one_reading v w s tail cause.BadName cause.ShortCell a b = absurd (omega (arith, b, a.0))
one_reading v w s tail cause.BadName cause.Kind a b = absurd (kind_name (sym b.1 ∙ a.1))
one_reading v w s tail cause.BadName cause.Reserved a b = absurd (reserved_name (sym b.1 ∙ a.1))
one_reading v w s tail cause.BadName cause.BadName a b = refl
one_reading v w s tail cause.BadName cause.Impossible a b = absurd (err_ok cell_fault.BadName b.1 (sym a.1 ∙ b.2))
one_reading v w s tail cause.Impossible cause.ShortCell a b = absurd (omega (arith, b, a.0))
one_reading v w s tail cause.Impossible cause.Kind a b = absurd (err_ok cell_fault.Kind a.1 (sym b.1 ∙ a.2))
one_reading v w s tail cause.Impossible cause.Reserved a b = absurd (err_ok cell_fault.Reserved a.1 (sym b.1 ∙ a.2))
one_reading v w s tail cause.Impossible cause.BadName a b = absurd (err_ok cell_fault.BadName a.1 (sym b.1 ∙ a.2))
one_reading v w s tail cause.Impossible cause.Impossible a b = refl

one_cause : (v w : ℕ) → IsVersion v → (s : State) (tail : List ℕ) (why also : Cause) → IsWrong v w s tail why → IsWrong v w s tail also → why ≡ also
one_cause v w known s tail why also a b = one_reading v w s tail why also (reads_wrong v w known s tail why a) (reads_wrong v w known s tail also b)

-- For a caller that wants versions from `oldest` on.
module _ (oldest w most : ℕ) (least : 1 ≤ oldest) (bytes : List ℕ) where
  pub damaged_end : (number : ℕ) (why : Cause) (d : IsDamaged oldest w most bytes number why) → IsEnd d.version w most d.cells d.tail bytes
  damaged_end number why d = record {
    begins = d.begins;
    some = set_some d.tail d.commit_byte;
    few = omega (arith, d.place, d.few);
    stuck = λ next rest fits is some possible lt. not_wrong d.version w (known_version oldest d.version least d.wanted) (state_of w d.cells) next rest d.tail why fits is some possible d.wrong;
  }

  pub long_end : (l : IsTooLong oldest w most bytes) → IsEnd l.version w most l.cells l.tail bytes
  long_end l = record {
    begins = l.begins;
    some = set_some l.tail l.commit_byte;
    few = omega (arith, l.place);
    stuck = λ next rest fits is some possible lt. omega (arith, lt, l.place);
  }

  -- A damaged cell, or one too many, comes after the header of a wanted version.
  damaged_header : (number : ℕ) (why : Cause) (d : IsDamaged oldest w most bytes number why) → HasHeader d.version w bytes
  damaged_header number why d = has_header d.version w most d.cells d.tail bytes (damaged_end number why d)

  long_header : (l : IsTooLong oldest w most bytes) → HasHeader l.version w bytes
  long_header l = has_header l.version w most l.cells l.tail bytes (long_end l)

  -- Bytes that recover to few enough cells show no fault.
  pub recovers_no_fault : (cells : List Cell) (e : OpenFault) → Recovers w cells bytes → IsWanted oldest (slice_index bytes 8) → length cells ≤ most → IsInBytes e → IsFault oldest (Some w) most bytes e → ⊥
  recovers_no_fault cells fault.NotLog recovers wanted few shown holds =
      header_is_log recovers.version w bytes (has_header recovers.version w most cells _ bytes (recovers_end w most cells bytes recovers few)) holds
  recovers_no_fault cells (fault.OldLog version width) recovers wanted few shown holds =
      let end = recovers_end w most cells bytes recovers few in
      header_is_new oldest recovers.version w bytes version width (subst (IsWanted oldest) (named_version recovers.version w cells _ bytes end.begins) wanted) (has_header recovers.version w most cells _ bytes end) holds
  recovers_no_fault cells (fault.Damaged number why) recovers wanted few shown holds =
      let same = one_end recovers.version holds.version w most cells holds.cells _ holds.tail bytes (recovers_end w most cells bytes recovers few) (damaged_end number why holds) in
      recovers.holds.text.clear (ap (λ (l : List ℕ). slice_index l 0) same.1 ∙ holds.commit_byte)
  recovers_no_fault cells (fault.TooLong limit) recovers wanted few shown holds =
      let same = one_end recovers.version holds.1.version w most cells holds.1.cells _ holds.1.tail bytes (recovers_end w most cells bytes recovers few) (long_end holds.1) in
      recovers.holds.text.clear (ap (λ (l : List ℕ). slice_index l 0) same.1 ∙ holds.1.commit_byte)
  recovers_no_fault cells fault.Disk recovers wanted few shown holds = shown
  recovers_no_fault cells fault.Memory recovers wanted few shown holds = shown

  one_damage : (n m : ℕ) (why also : Cause) → IsDamaged oldest w most bytes n why → IsDamaged oldest w most bytes m also → (n ≡ m) × (why ≡ also)
  one_damage n m why also a b =
      let same = one_end a.version b.version w most a.cells b.cells a.tail b.tail bytes (damaged_end n why a) (damaged_end m also b) in
      let wrong : IsWrong b.version w (state_of w b.cells) b.tail why =
      subst (λ v. IsWrong v w (state_of w b.cells) b.tail why) same.2 (subst (λ cs. IsWrong a.version w (state_of w cs) b.tail why) same.0 (subst (λ (l : List ℕ). IsWrong a.version w (state_of w a.cells) l why) same.1 a.wrong)) in
      (omega (arith, ap length same.0, a.place, b.place), one_cause b.version w (known_version oldest b.version least b.wanted) (state_of w b.cells) b.tail why also wrong b.wrong)

  damage_is_first : (n : ℕ) (why : Cause) → IsDamaged oldest w most bytes n why → IsTooLong oldest w most bytes → ⊥
  damage_is_first n why d l =
      let same = one_end d.version l.version w most d.cells l.cells d.tail l.tail bytes (damaged_end n why d) (long_end l) in
      omega (arith, ap length same.0, d.place, d.few, l.place)

  -- Bytes show at most one fault.
  pub one_fault : (e f : OpenFault) → IsInBytes e → IsInBytes f → IsFault oldest (Some w) most bytes e → IsFault oldest (Some w) most bytes f → e ≡ f
  one_fault fault.NotLog fault.NotLog se sf a b = refl
  one_fault fault.NotLog (fault.OldLog version width) se sf a b = absurd (b.is_log a)
  one_fault fault.NotLog (fault.Damaged n why) se sf a b = absurd (header_is_log b.version w bytes (damaged_header n why b) a)
  one_fault fault.NotLog (fault.TooLong limit) se sf a b = absurd (header_is_log b.1.version w bytes (long_header b.1) a)
  one_fault fault.NotLog fault.Disk se sf a b = absurd sf
  one_fault fault.NotLog fault.Memory se sf a b = absurd sf
  one_fault (fault.OldLog version width) fault.NotLog se sf a b = absurd (a.is_log b)
  one_fault (fault.OldLog version width) (fault.OldLog v x) se sf a b = λ i. fault.OldLog ((a.version_is ∙ sym b.version_is) i) ((a.width_is ∙ sym b.width_is) i)
  one_fault (fault.OldLog version width) (fault.Damaged n why) se sf a b = absurd (header_is_new oldest b.version w bytes version width b.wanted (damaged_header n why b) a)
  one_fault (fault.OldLog version width) (fault.TooLong limit) se sf a b = absurd (header_is_new oldest b.1.version w bytes version width b.1.wanted (long_header b.1) a)
  one_fault (fault.OldLog version width) fault.Disk se sf a b = absurd sf
  one_fault (fault.OldLog version width) fault.Memory se sf a b = absurd sf
  one_fault (fault.Damaged n why) fault.NotLog se sf a b = absurd (header_is_log a.version w bytes (damaged_header n why a) b)
  one_fault (fault.Damaged n why) (fault.OldLog version width) se sf a b = absurd (header_is_new oldest a.version w bytes version width a.wanted (damaged_header n why a) b)
  one_fault (fault.Damaged n why) (fault.Damaged m also) se sf a b = let same = one_damage n m why also a b in λ i. fault.Damaged (same.0 i) (same.1 i)
  one_fault (fault.Damaged n why) (fault.TooLong limit) se sf a b = absurd (damage_is_first n why a b.1)
  one_fault (fault.Damaged n why) fault.Disk se sf a b = absurd sf
  one_fault (fault.Damaged n why) fault.Memory se sf a b = absurd sf
  one_fault (fault.TooLong limit) fault.NotLog se sf a b = absurd (header_is_log a.1.version w bytes (long_header a.1) b)
  one_fault (fault.TooLong limit) (fault.OldLog version width) se sf a b = absurd (header_is_new oldest a.1.version w bytes version width a.1.wanted (long_header a.1) b)
  one_fault (fault.TooLong limit) (fault.Damaged n why) se sf a b = absurd (damage_is_first n why b a.1)
  one_fault (fault.TooLong limit) (fault.TooLong other) se sf a b = ap (λ m. fault.TooLong m) (a.0 ∙ sym b.0)
  one_fault (fault.TooLong limit) fault.Disk se sf a b = absurd sf
  one_fault (fault.TooLong limit) fault.Memory se sf a b = absurd sf
  one_fault fault.Disk f se sf a b = absurd se
  one_fault fault.Memory f se sf a b = absurd se

  module _ (old new : Drive) where
    -- A result that isn't free is the one fault.
    pub told_fault : (e f : OpenFault) → IsFault oldest (Some w) most bytes e → (e ≡ fault.Disk → Rose old.faults new.faults) → IsInBytes f → IsFault oldest (Some w) most bytes f → (e ≡ f) ⊎ IsFree old new e
    told_fault fault.Disk f holds rose shown is = inr (inr (rose refl))
    told_fault fault.Memory f holds rose shown is = inr (inl refl)
    told_fault fault.NotLog f holds rose shown is = inl (one_fault fault.NotLog f tt shown holds is)
    told_fault (fault.OldLog version width) f holds rose shown is = inl (one_fault (fault.OldLog version width) f tt shown holds is)
    told_fault (fault.Damaged n why) f holds rose shown is = inl (one_fault (fault.Damaged n why) f tt shown holds is)
    told_fault (fault.TooLong limit) f holds rose shown is = inl (one_fault (fault.TooLong limit) f tt shown holds is)

    pub told_free : (e : OpenFault) (cells : List Cell) → IsFault oldest (Some w) most bytes e → (e ≡ fault.Disk → Rose old.faults new.faults) → Recovers w cells bytes → IsWanted oldest (slice_index bytes 8) → length cells ≤ most → IsFree old new e
    told_free fault.Disk cells holds rose recovers wanted few = inr (rose refl)
    told_free fault.Memory cells holds rose recovers wanted few = inl refl
    told_free fault.NotLog cells holds rose recovers wanted few = absurd (recovers_no_fault cells fault.NotLog recovers wanted few tt holds)
    told_free (fault.OldLog version width) cells holds rose recovers wanted few = absurd (recovers_no_fault cells (fault.OldLog version width) recovers wanted few tt holds)
    told_free (fault.Damaged n why) cells holds rose recovers wanted few = absurd (recovers_no_fault cells (fault.Damaged n why) recovers wanted few tt holds)
    told_free (fault.TooLong limit) cells holds rose recovers wanted few = absurd (recovers_no_fault cells (fault.TooLong limit) recovers wanted few tt holds)

-- Bytes that recover are of a version that is read.
pub recovers_wanted : (w : ℕ) (cells : List Cell) (bytes : List ℕ) → Recovers w cells bytes → IsWanted 1 (slice_index bytes 8)
recovers_wanted w cells bytes recovers =
    let named : slice_index bytes 8 ≡ recovers.version = index_version recovers.version w cells bytes recovers.holds in
    ⊎_elim (λ first. record { least = omega (arith, named, first); most = omega (arith, named, first) }) (λ second. record { least = omega (arith, named, second); most = omega (arith, named, second) }) recovers.known

-- Bytes recover to one list of cells.
pub one_recovery : (w : ℕ) (first second : List Cell) (bytes : List ℕ) → Recovers w first bytes → Recovers w second bytes → first ≡ second
one_recovery w first second bytes a b =
    let most = length first + length second in
    (one_end a.version b.version w most first second _ _ bytes (recovers_end w most first bytes a (omega arith)) (recovers_end w most second bytes b (omega arith))).0
