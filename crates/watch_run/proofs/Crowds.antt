-- Logs along which there are too many crossings.
use Rattle.std.proofs.Common.{◌≡◌, inl, inr, ℕ, ◌+◌, ◌<◌, ◌≤◌, List, [], ◌∷◌, ◌++◌, length, drop, sym, ◌∙◌, ap, subst, arith, append_assoc, append-nil, length-append}
use Rattle.std.specs.Prelude.{slice_index}
use Rattle.std.specs.List.{flat_map}
use Rattle.std.proofs.lemmas.List.{drop_at}
use Rattle.plain_list.specs.World.{World}
use Rattle.plain_list.specs.State.{empty_state}
use Rattle.cell_format.specs.declared.cell.Cell.{Cell}
use Rattle.cell_format.specs.declared.cell.Cause.{Cause}
use Rattle.cell_format.specs.Spelling.{spelling, header_text}
use Rattle.split_log.proofs.Cells.{length-header}
use Rattle.log_state.specs.Recovers.{Recovers}
use Rattle.recovery.specs.Faults.{BeginsWith, IsDamaged, IsTooLong}
use Rattle.recovery.specs.Headers.{HasHeader}
use Rattle.recovery.specs.Widths.{HasWidth}
use Rattle.recovery.proofs.HeadLemmas.{header_bytes}
use Rattle.recovery.proofs.ReadingLemmas.{behind_cells}
use Rattle.recovery.proofs.WidthLemmas.{has_width}
use Rattle.recovery.proofs.Exclusive.{IsEnd, Compared, compared, recovers_end, damaged_end, long_end}
use Rattle.run_ends.specs.Limits.{most_inspected}
use Rattle.fence_watch.specs.declared.fences.Fence.{Fence}
use Rattle.fence_watch.specs.Crossings.{cell_crossings, crossings, crossings_from, world_behind}
use Rattle.fence_watch.specs.Watches.{most_events}
use Rattle.watch_run.specs.Watching.{IsCrowded}

-- Fewer cells have no more crossings.
crossings-front : (at : ℕ) (world : World) (cells more : List Cell) (fences : List Fence) → length (crossings_from at world cells fences) ≤ length (crossings_from at world (cells ++ more) fences)
crossings-front at world [] more fences = omega arith
crossings-front at world (c ∷ cells) more fences =
    let first = length-append (cell_crossings at world c fences) (crossings_from (at + 1) (world_behind world c) cells fences) in
    let second = length-append (cell_crossings at world c fences) (crossings_from (at + 1) (world_behind world c) (cells ++ more) fences) in
    omega (arith, first, second, crossings-front (at + 1) (world_behind world c) cells more fences)

-- The bytes after the header.
module _ (v w : ℕ) (cells : List Cell) (tail bytes : List ℕ) (begins : BeginsWith v w cells tail bytes) where
  behind-header : bytes ≡ header_text v w ++ (flat_map spelling cells ++ tail)
  behind-header = begins.parts ∙ append_assoc (header_text v w) (flat_map spelling cells) tail

  pub named-version : slice_index bytes 8 ≡ v
  named-version = ap (λ (l : List ℕ). slice_index l 8) behind-header ∙ (header_bytes v w (flat_map spelling cells ++ tail)).0

  pub named-width : slice_index bytes 9 ≡ w
  named-width = ap (λ (l : List ℕ). slice_index l 9) behind-header ∙ (header_bytes v w (flat_map spelling cells ++ tail)).1

  behind-head : drop 16 bytes ≡ flat_map spelling cells ++ tail
  behind-head = ap (drop 16) behind-header ∙ drop_at (header_text v w) (flat_map spelling cells ++ tail) 16 (length-header v w)

  begins-header : 1 ≤ length tail → HasHeader v w bytes
  begins-header some = record {
    rest = flat_map spelling cells ++ tail;
    parts = behind-header;
    long = omega (arith, (behind_cells v w cells tail bytes begins).1, some);
  }

-- Two lists of cells at the front of the same bytes.
both-begin : (v w : ℕ) (first second : List Cell) (tail rest bytes : List ℕ) → BeginsWith v w first tail bytes → BeginsWith v w second rest bytes → Compared v w empty_state first second tail rest
both-begin v w first second tail rest bytes a b =
    compared v w empty_state first second tail rest a.cells_fit b.cells_fit a.legal b.legal (sym (behind-head v w first tail bytes a) ∙ behind-head v w second rest bytes b)

-- If they have the same length, they are equal.
same-front : (v w : ℕ) (first second : List Cell) (tail rest bytes : List ℕ) → BeginsWith v w first tail bytes → BeginsWith v w second rest bytes → length first ≡ length second → first ≡ second
same-front v w first second tail rest bytes a b long = elim (both-begin v w first second tail rest bytes a b) [
  | inl same ↦ same.0
  | inr other ↦ elim other [
    | inl l ↦ absurd (omega (arith, long, ap length l.second_is, length-append first (l.next ∷ l.more)))
    | inr l ↦ absurd (omega (arith, long, ap length l.second_is, length-append second (l.next ∷ l.more)))
  ]
]

-- Cells with a commit byte after them are a prefix of those at which a reading ends.
front-of_end : (v w most : ℕ) (front ends : List Cell) (rest tail bytes : List ℕ) → IsEnd v w most ends tail bytes → BeginsWith v w front rest bytes → 1 ≤ length rest → length front ≤ most
    → (more : List Cell) × (ends ≡ front ++ more)
front-of_end v w most front ends rest tail bytes end begins some few = elim (both-begin v w front ends rest tail bytes begins end.begins) [
  | inl same ↦ ([], sym same.0 ∙ sym (append-nil front))
  | inr other ↦ elim other [
    | inl l ↦ (l.next ∷ l.more, l.second_is)
    | inr l ↦
        absurd (end.stuck l.next (flat_map spelling l.more ++ rest) l.fits l.tail_is (omega (arith, some, length-append (flat_map spelling l.more) rest)) l.possible
        (omega (arith, ap length l.second_is, length-append ends (l.next ∷ l.more), few)))
  ]
]

-- Bytes that have too many crossings.
module _ (fences : List Fence) (bytes : List ℕ) (crowd : IsCrowded fences bytes) where
  pub crowd-width : HasWidth crowd.width bytes
  crowd-width = has_width crowd.version crowd.width bytes (begins-header crowd.version crowd.width crowd.cells crowd.tail bytes crowd.begins crowd.some) crowd.wanted crowd.known

  -- They have too many at the end of a reading.
  crowd-end : (v w : ℕ) (ends : List Cell) (tail : List ℕ) → IsEnd v w most_inspected ends tail bytes → most_events < length (crossings ends fences)
  crowd-end v w ends tail end =
      let version : crowd.version ≡ v = sym (named-version crowd.version crowd.width crowd.cells crowd.tail bytes crowd.begins) ∙ named-version v w ends tail bytes end.begins in
      let width : crowd.width ≡ w = sym (named-width crowd.version crowd.width crowd.cells crowd.tail bytes crowd.begins) ∙ named-width v w ends tail bytes end.begins in
      let begins : BeginsWith v w crowd.cells crowd.tail bytes = subst (λ u. BeginsWith v u crowd.cells crowd.tail bytes) width (subst (λ u. BeginsWith u crowd.width crowd.cells crowd.tail bytes) version crowd.begins) in
      let front = front-of_end v w most_inspected crowd.cells ends crowd.tail tail bytes end begins crowd.some crowd.few in
      let longer : length (crossings ends fences) ≡ length (crossings (crowd.cells ++ front.0) fences) = ap (λ (cells : List Cell). length (crossings cells fences)) front.1 in
      omega (arith, longer, crossings-front 0 [] crowd.cells front.0 fences, crowd.over)

  pub crowd-recovers : (w : ℕ) (cells : List Cell) → Recovers w cells bytes → length cells ≤ most_inspected → most_events < length (crossings cells fences)
  crowd-recovers w cells recovers few = crowd-end recovers.version w cells _ (recovers_end w most_inspected cells bytes recovers few)

  -- They have too many before a fault.
  pub crowd-damaged : (v w : ℕ) (cells : List Cell) (rest : List ℕ) (n : ℕ) (why : Cause) → BeginsWith v w cells rest bytes → n ≡ length cells → IsDamaged 1 w most_inspected bytes n why → most_events < length (crossings cells fences)
  crowd-damaged v w cells rest n why begins place d =
      let version : d.version ≡ v = sym (named-version d.version w d.cells d.tail bytes d.begins) ∙ named-version v w cells rest bytes begins in
      let same : d.cells ≡ cells = same-front v w d.cells cells d.tail rest bytes (subst (λ u. BeginsWith u w d.cells d.tail bytes) version d.begins) begins (d.place ∙ place) in
      subst (λ (l : List Cell). most_events < length (crossings l fences)) same (crowd-end d.version w d.cells d.tail (damaged_end 1 w most_inspected (omega arith) bytes n why d))

  pub crowd-long : (v w : ℕ) (cells : List Cell) (rest : List ℕ) → BeginsWith v w cells rest bytes → length cells ≡ most_inspected → IsTooLong 1 w most_inspected bytes → most_events < length (crossings cells fences)
  crowd-long v w cells rest begins place l =
      let version : l.version ≡ v = sym (named-version l.version w l.cells l.tail bytes l.begins) ∙ named-version v w cells rest bytes begins in
      let same : l.cells ≡ cells = same-front v w l.cells cells l.tail rest bytes (subst (λ u. BeginsWith u w l.cells l.tail bytes) version l.begins) begins (l.place ∙ sym place) in
      subst (λ (c : List Cell). most_events < length (crossings c fences)) same (crowd-end l.version w l.cells l.tail (long_end 1 w most_inspected (omega arith) bytes l))
