-- What the pieces of a log say about its bytes.
use Rattle.std.proofs.Common.{◌≡◌, ◌≢◌, ℕ, ◌+◌, ◌-◌, ◌*◌, ◌<◌, ◌≤◌, min, true, List, [], ◌∷◌, ◌++◌, length, take, drop, Option, Some, None, refl, sym, ◌∙◌, ap, subst, arith, append_assoc, length-append, length-take}
use Rattle.std.specs.Prelude.{slice_index, Result, Ok, Err, IfOk}
use Rattle.std.specs.Result.{IsErrAnd}
use Rattle.disk_trait.specs.declared.disk.DiskFault.{DiskFault}
use Rattle.std.specs.List.{flat_map}
use Rattle.std.specs.Cmp.Derive.{both_true}
use Rattle.std.proofs.lemmas.List.{append-nil, take-append-drop, drop_at, drop_all, drop-take, take_all, take-append-le}
use Rattle.std.proofs.lemmas.Grind.{flat_map-append}
use Rattle.cell_format.specs.declared.cell.Cell.{Cell}
use Rattle.cell_format.specs.declared.cell.Cause.{Cause}
use Rattle.cell_format.specs.declared.cell.Cause.TheVariants as cause
use Rattle.cell_format.specs.Faults.{HasNoKind, HasReserved, HasBadName}
use Rattle.cell_format.specs.Spelling.{IsCell, Spells, spelling, header_text}
use Rattle.disk_trait.specs.Drive.{Drive, Reads}
use Rattle.plain_list.specs.State.{State, empty_state, step}
use Rattle.split_log.specs.LogText.{front_of, log_text, HoldsCells}
use Rattle.split_log.proofs.Cells.{length-front_of}
use Rattle.recovery.specs.declared.seen.OpenFault.{OpenFault}
use Rattle.recovery.specs.declared.seen.OpenFault.TheVariants as fault
use Rattle.recovery.specs.declared.walked.Walked.{Walked}
use Rattle.log_state.specs.Recovers.{IsLegalCells, is_possible_cell, entry_of, state_of}
use Rattle.recovery.specs.Faults.{BeginsWith, IsWrong, IsFault}
use Rattle.recovery.specs.Found.{IsWanted}
use Rattle.recovery.specs.Replay.{ReplayView}
use Rattle.recovery.specs.Room.{HasRoomAfter}
use Rattle.recovery.specs.Walked.{object_of, place_in, IsNextWalked}
use Rattle.recovery.specs.Pieces.{FailsAt}
use Rattle.recovery.specs.Reading.{ReadingView, HasRead, FailsIn, IsBehind, Stops, StartsFor, SameLog, HasAllThatIsLeft, IsFilled, IsEmptied, PassesOn, WalksOn, Advances, ReadsPiece}
use Rattle.recovery.specs.Headers.{HasHeader}
use Rattle.zorder.specs.Width.{IsWidth}
use Rattle.recovery.specs.Wanted.{IsWidthFor, MayTell}
use Rattle.recovery.proofs.HeadLemmas.{begins_first}
use Rattle.recovery.proofs.PieceLemmas.{all_append}
use Rattle.recovery.proofs.CellEffects.{placed_after}
use Rattle.log_state.proofs.LegalCells.{cells_after-append, legal-append}

-- The bytes after the cells decide the next commit byte and the next cell.
pub first_byte : (tail more : List ℕ) → 1 ≤ length tail → slice_index (tail ++ more) 0 ≡ slice_index tail 0
first_byte [] more some = absurd (omega (arith, some))
first_byte (b ∷ tail) more some = refl

pub set_some : (tail : List ℕ) → slice_index tail 0 ≡ 1 → 1 ≤ length tail
set_some [] set = cc
set_some (b ∷ tail) set = omega arith

wrong_on : (v w : ℕ) (s : State) (tail more : List ℕ) (why : Cause) → (length tail < 33 → length (tail ++ more) < 33) → IsWrong v w s tail why → IsWrong v w s (tail ++ more) why
wrong_on v w s tail more cause.ShortCell short wrong = short wrong
wrong_on v w s tail more cause.Kind short wrong = (omega (arith, wrong.0, length-append tail more), subst HasNoKind (sym (take-append-le 32 tail more (omega (arith, wrong.0)))) wrong.1)
wrong_on v w s tail more cause.Reserved short wrong = (omega (arith, wrong.0, length-append tail more), subst (HasReserved v) (sym (take-append-le 32 tail more (omega (arith, wrong.0)))) wrong.1)
wrong_on v w s tail more cause.BadName short wrong = (omega (arith, wrong.0, length-append tail more), subst (HasBadName v) (sym (take-append-le 32 tail more (omega (arith, wrong.0)))) wrong.1)
wrong_on v w s tail more cause.Impossible short wrong = (omega (arith, wrong.0, length-append tail more), wrong.1, subst (Spells v wrong.1) (sym (take-append-le 32 tail more (omega (arith, wrong.0)))) wrong.2, wrong.3)

-- Cells at the front, and a clear commit byte after them.
pub holds_clear : (v w : ℕ) (cells : List Cell) (tail bytes : List ℕ) → BeginsWith v w cells tail bytes → 1 ≤ length tail → slice_index tail 0 ≢ 1 → HoldsCells v w cells bytes
holds_clear v w cells [] bytes begins some clear = absurd (omega (arith, some))
holds_clear v w cells (b ∷ tail) bytes begins some clear = record {
  front = log_text v w cells b;
  rest = tail;
  parts = begins.parts ∙ sym (append_assoc (front_of v w cells) (b ∷ []) tail);
  text = record { cells_fit = begins.cells_fit; commit_byte = b; clear = clear; text = refl };
}

-- The bytes after the cells.
pub behind_cells : (v w : ℕ) (cells : List Cell) (tail bytes : List ℕ) → BeginsWith v w cells tail bytes → (drop (16 + 32 * length cells) bytes ≡ tail) × (length bytes ≡ 16 + 32 * length cells + length tail)
behind_cells v w cells tail bytes begins =
    let parts : bytes ≡ front_of v w cells ++ tail = begins.parts in (
      ap (λ (l : List ℕ). drop (16 + 32 * length cells) l) parts ∙ drop_at (front_of v w cells) tail (16 + 32 * length cells) (length-front_of v w cells),
      omega (arith, ap length parts, length-append (front_of v w cells) tail, length-front_of v w cells),
    )

-- One more cell after the first ones.
front_next : (v w : ℕ) (cells : List Cell) (c : Cell) → front_of v w cells ++ spelling c ≡ front_of v w (cells ++ c ∷ [])
front_next v w cells c =
    append_assoc (header_text v w) (flat_map spelling cells) (spelling c)
    ∙ ap (λ (l : List ℕ). header_text v w ++ l) (ap (λ (l : List ℕ). flat_map spelling cells ++ l) (sym (append-nil (spelling c))) ∙ sym (flat_map-append spelling cells (c ∷ [])))

begins_next : (v w : ℕ) (cells : List Cell) (c : Cell) (piece more bytes : List ℕ) → BeginsWith v w cells (piece ++ more) bytes → IsCell v c → take 32 piece ≡ spelling c → is_possible_cell w (state_of w cells) c ≡ true
    → BeginsWith v w (cells ++ c ∷ []) (drop 32 piece ++ more) bytes
begins_next v w cells c piece more bytes begins fits spelled possible = record {
  cells_fit = all_append (IsCell v) cells (c ∷ []) begins.cells_fit (fits, tt);
  legal = legal-append w empty_state cells (c ∷ []) begins.legal (both_true possible refl);
  parts = begins.parts
      ∙ ap (λ (l : List ℕ). front_of v w cells ++ l)
      (ap (λ (l : List ℕ). l ++ more) (sym (take-append-drop 32 piece) ∙ ap (λ (l : List ℕ). l ++ drop 32 piece) spelled) ∙ append_assoc (spelling c) (drop 32 piece) more)
      ∙ sym (append_assoc (front_of v w cells) (spelling c) (drop 32 piece ++ more))
      ∙ ap (λ (l : List ℕ). l ++ (drop 32 piece ++ more)) (front_next v w cells c);
}

-- Before the first cell.
pub starts : (oldest : ℕ) (wanted : Option ℕ) (version w most len : ℕ) (drive : Drive) (replay : ReplayView) → replay ≡ record { version = version; width = w; state = empty_state } → IsWanted oldest version → IsWidth w → IsWidthFor wanted w → 17 ≤ len
    → ((xs : List ℕ) → drive.bytes ≡ Some xs → length xs ≡ len) → ((xs : List ℕ) → drive.bytes ≡ Some xs → HasHeader version w xs)
    → StartsFor oldest wanted most drive (record { replay = replay; number = 0; most = most; len = len; rest = [] })
starts oldest wanted version w most len drive replay first is_wanted known fits long whole has =
    subst (λ r. StartsFor oldest wanted most drive (record { replay = r; number = 0; most = most; len = len; rest = [] })) (sym first) (record {
      known = known;
      fits = fits;
      starts = record {
        wanted = is_wanted;
        width = refl;
        most_is = refl;
        long = long;
        read = record { legal = refl; state = refl; count = refl; room = omega (arith, long); begins = λ xs told. (whole xs told, (has xs told).rest, begins_first version w xs (has xs told)) };
      };
    })

-- What was read holds of the drive after calls that only read.
pub has_read-stays : (cells : List Cell) (b c : Drive) (r : ReadingView) → c.bytes ≡ b.bytes → HasRead cells b r → HasRead cells c r
has_read-stays cells b c r kept read = record { legal = read.legal; state = read.state; count = read.count; room = read.room; begins = λ xs told. read.begins xs (sym kept ∙ told) }

module _ (cells : List Cell) (drive : Drive) (old : ReadingView) (read : HasRead cells drive old) where
  -- The rest of the piece is dropped, or another piece replaces it.
  pub emptied : HasRead cells drive (record old { rest = [] })
  emptied = record {
    legal = read.legal;
    state = read.state;
    count = read.count;
    room = read.room;
    begins = λ xs told. let at = read.begins xs told in (at.0, old.rest ++ at.1, at.2);
  }

  -- The bytes after the cells.
  behind : (xs : List ℕ) (told : drive.bytes ≡ Some xs) → (drop (16 + 32 * old.number) xs ≡ old.rest ++ (read.begins xs told).1) × (length xs ≡ 16 + 32 * old.number + length (old.rest ++ (read.begins xs told).1))
  behind xs told =
      let at = read.begins xs told in
      let b = behind_cells old.replay.version old.replay.width cells (old.rest ++ at.1) xs at.2 in
      (ap (λ m. drop (16 + 32 * m) xs) (sym read.count) ∙ b.0, omega (arith, b.1, read.count))

  pub refilled : (rest : List ℕ) → ((xs : List ℕ) → drive.bytes ≡ Some xs → rest ≡ take (length rest) (drop (16 + 32 * old.number) xs)) → HasRead cells drive (record old { rest = rest })
  refilled rest front = record {
    legal = read.legal;
    state = read.state;
    count = read.count;
    room = read.room;
    begins = λ xs told.
        let at = read.begins xs told in
        let all = drop (16 + 32 * old.number) xs in
        let parts : old.rest ++ at.1 ≡ rest ++ drop (length rest) all = sym (behind xs told).0 ∙ sym (take-append-drop (length rest) all) ∙ ap (λ (l : List ℕ). l ++ drop (length rest) all) (sym (front xs told)) in
        (at.0, drop (length rest) all, subst (λ (l : List ℕ). BeginsWith old.replay.version old.replay.width cells l xs) parts at.2);
  }

  -- The next cell was processed.
  module _ (new : ReadingView) (walked : Walked) (on : PassesOn old new walked) where
    possible : is_possible_cell old.replay.width (state_of old.replay.width cells) walked.cell ≡ true
    possible = subst (λ (s : State). is_possible_cell old.replay.width s walked.cell ≡ true) read.state on.passes.possible

    state_next : state_of old.replay.width (cells ++ walked.cell ∷ []) ≡ step old.replay.width (state_of old.replay.width cells) (entry_of walked.cell)
    state_next = cells_after-append old.replay.width empty_state cells (walked.cell ∷ [])

    state_new : new.replay.state ≡ state_of old.replay.width (cells ++ walked.cell ∷ [])
    state_new = on.passes.state ∙ ap (λ (s : State). step old.replay.width s (entry_of walked.cell)) read.state ∙ sym state_next

    legal_next : IsLegalCells old.replay.width (cells ++ walked.cell ∷ [])
    legal_next = legal-append old.replay.width empty_state cells (walked.cell ∷ []) read.legal (both_true possible refl)

    pub read_next : HasRead (cells ++ walked.cell ∷ []) drive new
    read_next = record {
      legal = subst (λ n. IsLegalCells n (cells ++ walked.cell ∷ [])) (sym on.same.width) legal_next;
      state = subst (λ n. new.replay.state ≡ state_of n (cells ++ walked.cell ∷ [])) (sym on.same.width) state_new;
      count = omega (arith, length-append cells (walked.cell ∷ []), read.count, on.number);
      room = omega (arith, length-append cells (walked.cell ∷ []), read.count, on.number, on.room);
      begins = λ xs told.
          let at = read.begins xs told in
          let next = begins_next old.replay.version old.replay.width cells walked.cell old.rest at.1 xs at.2 on.passes.fits on.passes.spelled possible in (
            at.0 ∙ sym on.same.len,
            at.1,
            subst (λ v. BeginsWith v new.replay.width (cells ++ walked.cell ∷ []) (new.rest ++ at.1) xs) (sym on.same.version)
                (subst (λ n. BeginsWith old.replay.version n (cells ++ walked.cell ∷ []) (new.rest ++ at.1) xs) (sym on.same.width)
                (subst (λ (l : List ℕ). BeginsWith old.replay.version old.replay.width (cells ++ walked.cell ∷ []) (l ++ at.1) xs) (sym on.rest) next)),
          );
    }

    pub next_walked : IsNextWalked old.replay.width cells walked
    next_walked = record {
      at = on.passes.at ∙ sym read.count;
      possible = possible;
      before = on.passes.before ∙ ap (λ (s : State). place_in s.world (object_of walked.cell)) read.state;
      after = on.passes.after ∙ sym (placed_after old.replay.width (state_of old.replay.width cells) walked.cell possible) ∙ ap (λ (s : State). place_in s.world (object_of walked.cell)) (sym state_next);
    }

  -- The commit byte at the front is clear.
  pub read_end : 1 ≤ length old.rest → slice_index old.rest 0 ≢ 1 → (xs : List ℕ) → drive.bytes ≡ Some xs → HoldsCells old.replay.version old.replay.width cells xs
  read_end some clear xs told =
      let at = read.begins xs told in
      holds_clear old.replay.version old.replay.width cells (old.rest ++ at.1) xs at.2 (omega (arith, some, length-append old.rest at.1)) (λ set. clear (sym (first_byte old.rest at.1 some) ∙ set))

  -- The cell at the front is faulty.
  pub read_fault : (e : OpenFault) → 1 ≤ length old.rest → HasAllThatIsLeft drive old → FailsAt old.replay.version old.replay.width old.most old.number old.replay.state old.rest e → FailsIn old.most drive old.replay e
  read_fault (fault.Damaged n why) some ready fails xs told oldest wanted =
      let at = read.begins xs told in
      let short : length old.rest < 33 → length (old.rest ++ at.1) < 33 = λ lt. omega (arith, lt, ready xs told at.0 lt fails.2 fails.1, (behind xs told).1, at.0) in
      record {
        version = old.replay.version;
        wanted = wanted;
        cells = cells;
        tail = old.rest ++ at.1;
        begins = at.2;
        place = omega (arith, read.count, fails.0);
        few = omega (arith, fails.0, fails.1);
        commit_byte = first_byte old.rest at.1 some ∙ fails.2;
        wrong = wrong_on old.replay.version old.replay.width (state_of old.replay.width cells) old.rest at.1 why short (subst (λ (s : State). IsWrong old.replay.version old.replay.width s old.rest why) read.state fails.3);
      }
  read_fault (fault.TooLong m) some ready fails xs told oldest wanted =
      let at = read.begins xs told in (
        fails.0,
        record {
          version = old.replay.version;
          wanted = wanted;
          cells = cells;
          tail = old.rest ++ at.1;
          begins = at.2;
          place = omega (arith, read.count, fails.1);
          commit_byte = first_byte old.rest at.1 some ∙ fails.2;
        },
      )
  read_fault fault.Memory some ready fails xs told oldest wanted = tt
  read_fault fault.Disk some ready fails xs told oldest wanted = tt
  read_fault fault.NotLog some ready fails xs told oldest wanted = absurd fails
  read_fault (fault.OldLog version width) some ready fails xs told oldest wanted = absurd fails

  pub fault_behind : (e : OpenFault) → FailsAt old.replay.version old.replay.width old.most old.number old.replay.state old.rest e → IsBehind old.most (length cells) e
  fault_behind (fault.Damaged n why) fails = (fails.0 ∙ sym read.count, omega (arith, fails.1, read.count))
  fault_behind (fault.TooLong m) fails = (fails.0, read.count ∙ fails.1)
  fault_behind fault.Memory fails = tt
  fault_behind fault.Disk fails = tt
  fault_behind fault.NotLog fails = fails
  fault_behind (fault.OldLog version width) fails = fails

  pub stop_behind : (e : OpenFault) → IsBehind old.most old.number e → IsBehind old.most (length cells) e
  stop_behind (fault.Damaged n why) at = (at.0 ∙ sym read.count, omega (arith, at.1, read.count))
  stop_behind (fault.TooLong m) at = (at.0, read.count ∙ at.1)
  stop_behind fault.Memory at = tt
  stop_behind fault.Disk at = tt
  stop_behind fault.NotLog at = at
  stop_behind (fault.OldLog version width) at = at

-- A fault after some cells is one that may be returned of their log.
pub behind_may : (oldest : ℕ) (wanted : Option ℕ) (most number : ℕ) (e : OpenFault) → IsBehind most number e → MayTell oldest wanted most e
behind_may oldest wanted most number fault.NotLog at = tt
behind_may oldest wanted most number (fault.OldLog version width) at = absurd at
behind_may oldest wanted most number (fault.Damaged n why) at = omega (arith, at.0, at.1)
behind_may oldest wanted most number (fault.TooLong limit) at = at.0
behind_may oldest wanted most number fault.Disk at = tt
behind_may oldest wanted most number fault.Memory at = tt

pub same_log-trans : (a b c : ReadingView) → SameLog a b → SameLog b c → SameLog a c
same_log-trans a b c first second = record { version = second.version ∙ first.version; width = second.width ∙ first.width; most = second.most ∙ first.most; len = second.len ∙ first.len }

pub same_log-refl : (a b : ReadingView) → b ≡ a → SameLog a b
same_log-refl a b is = record {
  version = ap (λ (r : ReadingView). r.replay.version) is;
  width = ap (λ (r : ReadingView). r.replay.width) is;
  most = ap (λ (r : ReadingView). r.most) is;
  len = ap (λ (r : ReadingView). r.len) is;
}

-- A call after a piece that decides the next cell.
module _ (drive : Drive) (old mid : ReadingView) (filled : IsFilled drive old mid) where
  same_mid : SameLog old mid
  same_mid = record {
    version = ap (λ (r : ReadingView). r.replay.version) filled.same;
    width = ap (λ (r : ReadingView). r.replay.width) filled.same;
    most = ap (λ (r : ReadingView). r.most) filled.same;
    len = ap (λ (r : ReadingView). r.len) filled.same;
  }

  state_mid : mid.replay.state ≡ old.replay.state
  state_mid = ap (λ (r : ReadingView). r.replay.state) filled.same

  number_mid : mid.number ≡ old.number
  number_mid = ap (λ (r : ReadingView). r.number) filled.same

  same_room : (new : ReadingView) → new ≡ mid → HasRoomAfter old.replay.state new.replay.state
  same_room new is = record {
    members = omega (arith, ap (λ (r : ReadingView). length r.replay.state.world) is, ap (λ (s : State). length s.world) state_mid);
    leaves = omega (arith, ap (λ (r : ReadingView). length r.replay.state.leaves) is, ap (λ (s : State). length s.leaves) state_mid);
  }

  fails_old : (e : OpenFault) → FailsIn mid.most drive mid.replay e → FailsIn old.most drive old.replay e
  fails_old e fails xs told oldest wanted =
      subst (λ m. IsFault oldest (Some old.replay.width) m xs e) same_mid.most
      (subst (λ n. IsFault oldest (Some n) mid.most xs e) same_mid.width (fails xs told oldest (subst (IsWanted oldest) (sym same_mid.version) wanted)))

  pub advances : (new : ReadingView) (result : Result (Option Walked) OpenFault) → WalksOn mid new result → Advances drive old new result
  advances new (Ok (Some walked)) on = record {
    same = same_log-trans old mid new same_mid on.same;
    grows = record { members = omega (arith, on.passes.grows.members, ap (λ (s : State). length s.world) state_mid); leaves = omega (arith, on.passes.grows.leaves, ap (λ (s : State). length s.leaves) state_mid) };
    fewer = (omega (arith, on.few, number_mid, same_mid.most), omega (arith, on.number, number_mid));
    tells = λ cells read.
        let now = filled.keeps cells read in
        (read_next cells drive mid now new walked on, subst (λ n. IsNextWalked n cells walked) same_mid.width (next_walked cells drive mid now new walked on));
  }
  advances new (Ok None) on = record {
    same = same_log-trans old mid new same_mid (same_log-refl mid new on.0);
    grows = same_room new on.0;
    fewer = tt;
    tells = λ cells read.
        let now = filled.keeps cells read in (
          subst (HasRead cells drive) (sym on.0) now,
          λ xs told. subst (λ v. HoldsCells v old.replay.width cells xs) same_mid.version (subst (λ n. HoldsCells mid.replay.version n cells xs) same_mid.width (read_end cells drive mid now filled.some on.1 xs told)),
        );
  }
  advances new (Err e) on = record {
    same = same_log-trans old mid new same_mid (same_log-refl mid new on.0);
    grows = same_room new on.0;
    fewer = tt;
    tells = λ cells read.
        let now = filled.keeps cells read in (
          subst (HasRead cells drive) (sym on.0) now,
          subst (λ m. IsBehind m (length cells) e) same_mid.most (fault_behind cells drive mid now e on.1),
          fails_old e (read_fault cells drive mid now e filled.some filled.ready on.1),
        );
  }

-- A call that read no piece.
pub advances_not : (drive : Drive) (old new : ReadingView) (e : OpenFault) → IsEmptied old new → Stops drive old e → Advances drive old new (Err e)
advances_not drive old new e is stops = subst (λ r. Advances drive old r (Err e)) (sym is) (record {
  same = record { version = refl; width = refl; most = refl; len = refl };
  grows = record { members = omega arith; leaves = omega arith };
  fewer = tt;
  tells = λ cells read. (emptied cells drive old read, stop_behind cells drive old read e stops.0, stops.1 cells read);
})

-- A piece that was read is the front of the bytes after the cells.
pub filled_by : (drive : Drive) (old : ReadingView) (buffer : List ℕ) (got : ℕ) → ReadsPiece drive (16 + 32 * old.number) (min 65537 (old.len - (16 + 32 * old.number))) buffer got → length buffer ≡ 65537 → 1 ≤ got → 17 + 32 * old.number ≤ old.len
    → IsFilled drive old (record old { rest = take got buffer })
filled_by drive old buffer got reads long some room =
    let size : length (take got buffer) ≡ got = omega (arith, length-take got buffer, reads.0, long) in
    record {
      same = refl;
      some = omega (arith, size, some);
      ready = λ xs told whole short set few. omega (arith, (reads.1 xs told).0, size, whole, short, room);
      keeps = λ cells read. refilled cells drive old read (take got buffer) (λ xs told. (reads.1 xs told).1 ∙ ap (λ n. take n (drop (16 + 32 * old.number) xs)) (sym size));
    }

-- A read into the front of a buffer.
pub piece_read : (drive : Drive) (at room most : ℕ) (buffer into rest : List ℕ) (result : Result ℕ DiskFault) → most ≡ room → length (take room buffer) ≡ room → length into ≡ length (take room buffer) → Reads drive at (take room buffer) into result
    → IfOk result (ReadsPiece drive at most (into ++ rest))
piece_read drive at room most buffer into rest (Ok n) is long same reads = (
  omega (arith, reads.0, long, is),
  λ xs told.
      let read = reads.1 xs told in
      (read.0 ∙ ap (λ (k : ℕ). min k (length xs - at)) (long ∙ sym is), take-append-le n into rest (omega (arith, reads.0, same)) ∙ read.1),
)
piece_read drive at room most buffer into rest (Err e) is long same reads = tt

-- The rest of a piece.
pub rest_is : (at filled : ℕ) (items all : List ℕ) → at ≤ filled → all ≡ items → take (filled - at) (drop at all) ≡ drop at (take filled items)
rest_is at filled items all le is =
    let whole : at + (filled - at) ≡ filled = omega (arith, le) in
    ap (λ (l : List ℕ). take (filled - at) (drop at l)) is ∙ sym (drop-take at (filled - at) items) ∙ ap (λ n. drop at (take n items)) whole

-- A fault that is passed on.
pub walks_err : (old new : ReadingView) (e : OpenFault) (result : Result (Option Walked) OpenFault) → IsErrAnd result (λ x. x ≡ e) → WalksOn old new (Err e) → WalksOn old new result
walks_err old new e (Ok x) same on = absurd same
walks_err old new e (Err x) same on = subst (λ f. WalksOn old new (Err f)) (sym same) on

pub advances_err : (drive : Drive) (old new : ReadingView) (e : OpenFault) (result : Result (Option Walked) OpenFault) → IsErrAnd result (λ x. x ≡ e) → IsEmptied old new → Stops drive old e → Advances drive old new result
advances_err drive old new e (Ok x) same is stops = absurd same
advances_err drive old new e (Err x) same is stops = subst (λ f. Advances drive old new (Err f)) (sym same) (advances_not drive old new e is stops)

-- What was read replaces a whole buffer.
pub same_items : (n : ℕ) (new old : List ℕ) → length new ≡ 65537 → length old ≡ 65537 → 65537 ≤ n → take n (new ++ drop (length new) old) ≡ new
same_items n new old long before room =
    ap (λ (l : List ℕ). take n (new ++ l)) (drop_all (length new) old (omega (arith, long, before))) ∙ ap (take n) (append-nil new) ∙ take_all n new (omega (arith, long, room))
