-- The history of lanes that were played stays below its limits.
use Rattle.std.proofs.Common.{◌≡◌, ◌⊎◌, inl, inr, ℕ, zero, suc, ◌+◌, ◌*◌, ◌<◌, ◌≤◌, Bool, true, false, ◌||◌, cond, List, length, take, drop, get_or, Some, refl, sym, ap, subst, ◌∙◌, arith}
use mathlib.Core.List.{IsPrefix}
use Rattle.std.specs.Prelude.{nat_lt, slice_get}
use Rattle.std.proofs.Math.Seq.{take-suc}
use Rattle.std.proofs.lemmas.Bool.{ltb-false}
use Rattle.std.proofs.lemmas.List.{take-append-drop}
use Rattle.std.proofs.lemmas.Option.{slice_get-get_or}
use Rattle.plain_list.specs.declared.entries.Entry.{Entry}
use Rattle.plain_list.specs.declared.entries.Entry.TheVariants.{Install}
use Rattle.plain_list.specs.State.{IsLegal}
use Rattle.csv_rows.specs.declared.rows.InRow.{InRow}
use Rattle.commit_book.specs.IsBook.{most_events}
use Rattle.commit_book.specs.Refusals.{has_no_room, most_events_to_begin}
use Rattle.book_lock.specs.Pass.{Known}
use Rattle.book_lock.specs.declared.origin.Origin.{Origin}
use Rattle.book_lock.proofs.Histories.{prefix_refl, prefix_length}
use Rattle.sessions.specs.Shared.{start_of, moves_of}
use Rattle.sessions.specs.Steps.{cells_at}
use Rattle.sessions.specs.declared.store.lanes.Lane.{Lane}
use Rattle.lane_history.specs.Lanes.{IsPlayedOut, GoesOn}
use Rattle.sessions.proofs.SettleLemmas.{cells-added}
use Rattle.lane_history.specs.Settled.{IsBounded, IsPlayStart}
use Rattle.lane_history.proofs.Weights.{weight, weight-all, all_below, at, at-is, below-take}
use Rattle.lane_history.proofs.Entries.{begins, calls, ends, fails, one-kind, legal-begin, open-few}
use Rattle.lane_history.proofs.Fails.{FailsAlone, alone-front, one-fail}
use Rattle.lane_history.proofs.PlayedOut.{alone}
use Rattle.lane_history.proofs.Bounds.{AreFew, size-few}
use Rattle.lane_history.proofs.Gains.{crowd}
use Rattle.lane_history.proofs.Steps.{bad, IsCalm, take-prefix}
use Rattle.lane_history.proofs.Ends.{EndPairs, settles-same, settles-pairs}
use Rattle.lane_history.proofs.Sums.{Together, together, lanes_weight, lanes-weight, rows_of, rows-few}

-- What the pass that took the lanes' passes in comes to: begins are no more than calls, none is without room, calls are at most so many, and
-- in a calm history begins are no more than ends.
pub record AreJoined (origin : Origin) (h : List Entry) (own : List ℕ) (most : ℕ) : Type 0 where
  pub fair : (n : ℕ) → weight (at begins h) own n ≤ weight (at calls h) own n
  pub room : (n : ℕ) → weight (crowd h (bad origin h)) own n ≡ 0
  pub few : weight (at calls h) own (length h) ≤ most
  pub even : IsCalm origin h → weight (at begins h) own (length h) ≤ weight (at ends h) own (length h)

joined-from : {I D O P : Type 0} (origin : Origin) (h : List Entry) (own : List ℕ) (lanes : List (Lane I D O P)) (a b : ℕ) → ((g : ℕ → ℕ) (n : ℕ) → weight g own n ≡ lanes_weight g lanes n) → Together origin h lanes a → a ≤ b → AreJoined origin h own b
joined-from origin h own lanes a b same together less = record {
  fair = λ n. let x = same (at begins h) n in let y = same (at calls h) n in let z = together.fair n in omega arith;
  room = λ n. same (crowd h (bad origin h)) n ∙ together.room n;
  few = let x = same (at calls h) (length h) in let y = together.few in omega arith;
  even = λ calm. let x = same (at begins h) (length h) in let y = same (at ends h) (length h) in let z = together.even calm in omega arith;
}

pub goes-prefix : {I D O P : Type 0} (w : ℕ) (lanes : List (Lane I D O P)) (pass last : Known) → GoesOn w lanes pass last → IsPrefix pass.seen last.seen
goes-prefix w lanes pass last (inl same) = subst (λ (k : Known). IsPrefix pass.seen k.seen) (sym same) (prefix_refl pass.seen)
goes-prefix w lanes pass last (inr after) = (settles-same w pass last after.result after.settles).0

pub joined : {I D O P : Type 0} (w : ℕ) (origin : Origin) (rows : List InRow) (sessions : List ℕ) (lanes : List (Lane I D O P)) (last : Known) (out : IsPlayedOut w origin rows sessions lanes last) → moves_of origin ≡ false
    → AreJoined origin last.seen out.pass.own (length rows)
joined w origin rows sessions lanes last out still =
    joined-from origin last.seen out.pass.own lanes (rows_of 1 rows sessions) (length rows) (λ g n. lanes-weight g out.pass.own lanes out.joined.owned n)
    (together w origin last.seen rows sessions lanes out.pass still out.played out.joined.seen (goes-prefix w lanes out.pass last out.goes_on)) (rows-few 1 0 rows sessions out.sessions_are.rise)

-- What the last pass comes to, in what it owns: it may have begun one split more than it ended.
record AreLast (origin : Origin) (h : List Entry) (own : List ℕ) (most : ℕ) : Type 0 where
  pub fair : (n : ℕ) → weight (at begins h) own n ≤ weight (at calls h) own n + weight (at ends h) own n + 1
  pub room : (n : ℕ) → weight (crowd h (bad origin h)) own n ≡ 0
  pub few : weight (at calls h) own (length h) ≤ most

last-pairs : (origin : Origin) (h : List Entry) (pass last : Known) (most : ℕ) → AreJoined origin h pass.own most → EndPairs origin h ⊥ pass last → AreLast origin h last.own most
last-pairs origin h pass last most joined pairs = record {
  fair = λ n. let x = joined.fair n in let y = pairs.one n in let z = pairs.calls_are n in omega arith;
  room = λ n. pairs.room n ∙ joined.room n;
  few = let x = joined.few in let z = pairs.calls_are (length h) in omega arith;
}

last-goes : {I D O P : Type 0} (w : ℕ) (origin : Origin) (lanes : List (Lane I D O P)) (pass last : Known) (most : ℕ) → pass.origin ≡ origin → moves_of origin ≡ false → AreJoined origin last.seen pass.own most → GoesOn w lanes pass last → AreLast origin last.seen last.own most
last-goes w origin lanes pass last most from still joined (inl same) =
    let h = last.seen in
    let now : AreJoined origin h last.own most = subst (λ (k : Known). AreJoined origin h k.own most) (sym same) joined in
    record { fair = λ n. let x = now.fair n in omega arith; room = now.room; few = now.few }
last-goes w origin lanes pass last most from still joined (inr after) = last-pairs origin last.seen pass last most joined (settles-pairs w origin last.seen still pass last after.result from after.settles (prefix_refl last.seen))

-- the cells of one entry more
next-cells : (origin : Origin) (h : List Entry) (n : ℕ) → n < length h → cells_at origin (take (suc n) h) ≤ cells_at origin (take n h) + 1
next-cells origin h n less =
    let e : Entry = get_or h n (Install 0) in
    subst (λ (l : List Entry). cells_at origin l ≤ cells_at origin (take n h) + 1) (sym (take-suc h n (Install 0) less)) (cells-added origin (take n h) e)

-- each position has an entry of one kind
one-at : (h : List Entry) (n : ℕ) → n < length h → at begins h n + at calls h n + at ends h n + at fails h n ≡ 1
one-at h n less =
    let e : Entry = get_or h n (Install 0) in
    let is : slice_get h n ≡ Some e = slice_get-get_or h n (Install 0) less in
    let b = at-is begins h n e is in
    let c = at-is calls h n e is in
    let d = at-is ends h n e is in
    let f = at-is fails h n e is in
    let kind = one-kind e in
    omega arith

-- where nothing below a bound weighs anything
below-zero : (g : ℕ → ℕ) (n p : ℕ) → all_below g n ≡ 0 → p < n → g p ≡ 0
below-zero g zero p none less = absurd (omega arith)
below-zero g (suc n) p none less = by_order (g n) (omega arith) (below-zero g n p (omega arith))
  where
    order : (a b : ℕ) → a ≤ b → (a ≡ b) ⊎ (a < b)
    order zero zero le = inl refl
    order zero (suc b) le = inr (omega arith)
    order (suc a) zero le = absurd (omega arith)
    order (suc a) (suc b) le = by_rest (order a b (omega arith))
      where
        by_rest : (a ≡ b) ⊎ (a < b) → (suc a ≡ suc b) ⊎ (suc a < suc b)
        by_rest (inl same) = inl (ap suc same)
        by_rest (inr less) = inr (omega arith)

    by_order : (x : ℕ) → g n ≡ 0 → (p < n → g p ≡ 0) → g p ≡ 0
    by_order x here more = by_case (order p n (omega arith))
      where
        by_case : (p ≡ n) ⊎ (p < n) → g p ≡ 0
        by_case (inl same) = ap g same ∙ here
        by_case (inr less) = more less

-- a begin that isn't without room had room
had-room : (kept : Bool) (cells events : ℕ) → ◌≡◌ {A = ℕ} (cond (has_no_room kept cells events) 1 0) 0 → (events ≤ most_events_to_begin kept) × (cells ≤ 16000000)
had-room kept cells events none = by_tests (nat_lt 16000000 cells) (nat_lt (most_events_to_begin kept) events) refl refl none
  where
    by_tests : (a b : Bool) → nat_lt 16000000 cells ≡ a → nat_lt (most_events_to_begin kept) events ≡ b → ◌≡◌ {A = ℕ} (cond (a || b) 1 0) 0 → (events ≤ most_events_to_begin kept) × (cells ≤ 16000000)
    by_tests true b is other none = absurd (cc none)
    by_tests false true other is none = absurd (cc none)
    by_tests false false few less none = (ltb-false (most_events_to_begin kept) events less, ltb-false 16000000 cells few)

begin-room : (origin : Origin) (h : List Entry) (n : ℕ) → n < length h → 1 ≤ at begins h n → at begins h n * bad origin h n ≡ 0 → (n ≤ most_events_to_begin origin.kept) × (cells_at origin (take n h) ≤ 16000000)
begin-room origin h n less begun none =
    let kind = one-at h n less in
    let one : at begins h n ≡ 1 = omega arith in
    let scaled : at begins h n * bad origin h n ≡ 1 * bad origin h n = ap (λ (k : ℕ). k * bad origin h n) one in
    had-room origin.kept (cells_at origin (take n h)) n (omega arith)

-- what is known of the whole history
record AreBelow (origin : Origin) (h : List Entry) (most : ℕ) : Type 0 where
  pub fair : (n : ℕ) → n ≤ length h → all_below (at begins h) n ≤ all_below (at calls h) n + all_below (at ends h) n + 1
  pub room : (n : ℕ) → n < length h → 1 ≤ at begins h n → (n ≤ most_events_to_begin origin.kept) × (cells_at origin (take n h) ≤ 16000000)
  pub few : all_below (at calls h) (length h) ≤ most
  pub alone : FailsAlone h

are-below : {I D O P : Type 0} (w : ℕ) (origin : Origin) (rows : List InRow) (sessions : List ℕ) (lanes : List (Lane I D O P)) (last : Known) → IsPlayedOut w origin rows sessions lanes last → moves_of origin ≡ false → AreBelow origin last.seen (length rows)
are-below w origin rows sessions lanes last out still =
    let h = last.seen in
    let end = last-goes w origin lanes out.pass last (length rows) out.joined.begins still (joined w origin rows sessions lanes last out still) out.goes_on in
    let whole : (g : ℕ → ℕ) (n : ℕ) → n ≤ length h → weight g last.own n ≡ all_below g n = (λ g n le. weight-all g last.own (length h) out.whole n le) in
    let none : all_below (crowd h (bad origin h)) (length h) ≡ 0 = sym (whole (crowd h (bad origin h)) (length h) (omega arith)) ∙ end.room (length h) in
    record {
      fair = λ n le.
          let b = whole (at begins h) n le in
          let c = whole (at calls h) n le in
          let e = whole (at ends h) n le in
          let fair = end.fair n in
          omega arith;
      room = λ n less begun. begin-room origin h n less begun (below-zero (crowd h (bad origin h)) (length h) n none less);
      few = let c = whole (at calls h) (length h) (omega arith) in let few = end.few in omega arith;
      alone = alone w origin rows sessions lanes last out;
    }

below-more : (g : ℕ → ℕ) (a b : ℕ) → all_below g a ≤ all_below g (a + b)
below-more g a zero = subst (λ (n : ℕ). all_below g a ≤ all_below g n) (let is : a ≡ a + 0 = omega arith in is) (omega arith)
below-more g a (suc b) =
    let rest = below-more g a b in
    subst (λ (n : ℕ). all_below g a ≤ all_below g n) (let is : suc (a + b) ≡ a + suc b = omega arith in is) (omega arith)

below-later : (g : ℕ → ℕ) (a b : ℕ) → a ≤ b → all_below g a ≤ all_below g b
below-later g a b le = by_rest (rest a b le)
  where
    rest : (a b : ℕ) → a ≤ b → (k : ℕ) × (a + k ≡ b)
    rest zero b le = (b, omega arith)
    rest (suc a) zero le = absurd (omega arith)
    rest (suc a) (suc b) le = let r = rest a b (omega arith) in let is = r.1 in (r.0, omega arith)

    by_rest : (k : ℕ) × (a + k ≡ b) → all_below g a ≤ all_below g b
    by_rest (k, is) = subst (λ (n : ℕ). all_below g a ≤ all_below g n) is (below-more g a k)

-- a size that was at most this at each begin is never much more
module _ (w : ℕ) (origin : Origin) (h : List Entry) (legal : IsLegal w (start_of origin) h) (count : ℕ) (below : AreBelow origin h count) where
  size-below : (most : ℕ) (size : ℕ → ℕ) → size 0 ≤ most → ((n : ℕ) → n < length h → size (suc n) ≤ size n + 1) → ((n : ℕ) → n < length h → 1 ≤ at begins h n → size n ≤ most) → (n : ℕ) → n ≤ length h
      → size n ≤ most + 3 + 2 * count
  size-below most size first next room n le =
      let few : AreFew most size (at begins h) (at calls h) (at ends h) (at fails h) (length h) = record { first = first; next = next; one = one-at h; room = room; fair = below.fair } in
      let most_is = size-few most size (at begins h) (at calls h) (at ends h) (at fails h) (length h) few n le in
      let front : IsLegal w (start_of origin) (take n h) = legal-begin w (start_of origin) (take n h) (drop n h) (subst (IsLegal w (start_of origin)) (sym (take-append-drop n h)) legal) in
      let alone_there : FailsAlone (take n h) = alone-front (take n h) (drop n h) (subst FailsAlone (sym (take-append-drop n h)) below.alone) in
      let splits = open-few w (start_of origin) (take n h) front in
      let failed = one-fail (take n h) alone_there in
      let b = below-take begins h n le in
      let e = below-take ends h n le in
      let f = below-take fails h n le in
      let c = below-later (at calls h) n (length h) le in
      let calls_few = below.few in
      omega arith

-- so many entries more are still fewer than the most, for each kind of history
below-most : (kept : Bool) (n rows : ℕ) → rows ≤ 65536 → n ≤ most_events_to_begin kept + 3 + 2 * rows → n < most_events kept
below-most true n rows few less = omega arith
below-most false n rows few less = omega arith

pub bounded : {I D O P : Type 0} (w : ℕ) (origin : Origin) (rows : List InRow) (sessions : List ℕ) (lanes : List (Lane I D O P)) (last : Known) → IsPlayedOut w origin rows sessions lanes last
    → IsLegal w (start_of origin) last.seen → length rows ≤ 65536 → IsPlayStart origin → IsBounded origin last.seen
bounded w origin rows sessions lanes last out legal few_rows start =
    let h = last.seen in
    let few_cells = start.few in
    let below = are-below w origin rows sessions lanes last out start.still in
    record {
      short = λ g pre.
          let le = prefix_length g h pre in
          let small = size-below w origin h legal (length rows) below (most_events_to_begin origin.kept) (λ n. n) (omega arith) (λ n less. omega arith) (λ n less begun. (below.room n less begun).0) (length g) le in
          below-most origin.kept (length g) (length rows) few_rows small;
      few = λ g pre.
          let le = prefix_length g h pre in
          let small = size-below w origin h legal (length rows) below 16000000 (λ n. cells_at origin (take n h)) (omega arith) (next-cells origin h) (λ n less begun. (below.room n less begun).1) (length g) le in
          let same : cells_at origin (take (length g) h) ≡ cells_at origin g = ap (cells_at origin) (take-prefix g h pre) in
          omega arith;
    }
