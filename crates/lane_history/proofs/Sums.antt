-- What all lanes' own positions weigh together.
use Rattle.std.proofs.Common.{◌≡◌, ◌≢◌, ℕ, zero, suc, ◌+◌, ◌*◌, ◌≤◌, ◌==◌, Bool, true, false, List, [], ◌∷◌, length, refl, sym, ap, arith}
use Rattle.std.specs.Prelude.{if◌then◌else◌}
use mathlib.Core.List.{IsPrefix}
use mathlib.Core.Logic.{dite}
use native.Mathlib.Decide.{ℕ_discrete}
use Rattle.std.proofs.Math.Nat.{add-mul}
use Rattle.plain_list.specs.declared.ops.Op.{Op}
use Rattle.plain_list.specs.declared.entries.Entry.{Entry}
use Rattle.csv_rows.specs.declared.rows.InRow.{InRow}
use Rattle.book_lock.specs.Pass.{Known}
use Rattle.book_lock.specs.Own.{times}
use Rattle.book_lock.specs.declared.origin.Origin.{Origin}
use Rattle.book_lock.proofs.Histories.{prefix_trans}
use Rattle.book_lock.proofs.Positions.{one_if, one_same, one_other}
use Rattle.sessions.specs.Shared.{moves_of}
use Rattle.sessions.specs.declared.store.lanes.Lane.{Lane}
use Rattle.lane_history.specs.SessionRows.{session_rows, session_rows_from}
use Rattle.lane_history.specs.Lanes.{HaveAllPlayed, HaveSeen, RiseFrom, owned_by}
use Rattle.lane_history.proofs.Weights.{weight, weight-nil, at}
use Rattle.lane_history.proofs.Entries.{begins, calls, ends}
use Rattle.lane_history.proofs.Gains.{crowd}
use Rattle.lane_history.proofs.Steps.{bad, IsCalm}
use Rattle.lane_history.proofs.Lanes.{lane-gains}

-- what the own positions of lanes weigh
abbrev pub lanes_weight : {I D O P : Type 0} → (ℕ → ℕ) → List (Lane I D O P) → ℕ → ℕ
lanes_weight g [] n = 0
lanes_weight g (lane ∷ lanes) n = weight g lane.pass.own n + lanes_weight g lanes n

lanes-zero : {I D O P : Type 0} (g : ℕ → ℕ) (lanes : List (Lane I D O P)) → lanes_weight g lanes 0 ≡ 0
lanes-zero g [] = refl
lanes-zero g (lane ∷ lanes) = let rest = lanes-zero g lanes in omega arith

lanes-next : {I D O P : Type 0} (g : ℕ → ℕ) (lanes : List (Lane I D O P)) (n : ℕ) → lanes_weight g lanes (suc n) ≡ lanes_weight g lanes n + owned_by n lanes * g n
lanes-next g [] n = omega arith
lanes-next g (lane ∷ lanes) n =
    let rest = lanes-next g lanes n in
    let both = add-mul (times n lane.pass.own) (owned_by n lanes) (g n) in
    omega arith

-- who took the lanes' passes in has their weight
pub lanes-weight : {I D O P : Type 0} (g : ℕ → ℕ) (own : List ℕ) (lanes : List (Lane I D O P)) → ((p : ℕ) → times p own ≡ owned_by p lanes) → (n : ℕ) → weight g own n ≡ lanes_weight g lanes n
lanes-weight g own lanes owned zero = sym (lanes-zero g lanes)
lanes-weight g own lanes owned (suc n) =
    let h = lanes-weight g own lanes owned n in
    let here : times n own * g n ≡ owned_by n lanes * g n = ap (λ (k : ℕ). k * g n) (owned n) in
    let next = lanes-next g lanes n in
    omega arith

-- how many rows sessions have
abbrev pub rows_of : ℕ → List InRow → List ℕ → ℕ
rows_of row rows [] = 0
rows_of row rows (s ∷ sessions) = length (session_rows_from row s rows) + rows_of row rows sessions

abbrev hits : ℕ → List ℕ → ℕ
hits c [] = 0
hits c (s ∷ sessions) = one_if c s + hits c sessions

hits-none : (c least : ℕ) (sessions : List ℕ) → RiseFrom least sessions → c ≤ least → hits c sessions ≡ 0
hits-none c least [] rise le = refl
hits-none c least (s ∷ sessions) (less, rise) le =
    let other = one_other c s (λ (e : c ≡ s). omega arith) in
    let rest = hits-none c s sessions rise (omega arith) in
    omega arith

hits-one : (c least : ℕ) (sessions : List ℕ) → RiseFrom least sessions → hits c sessions ≤ 1
hits-one c least [] rise = omega arith
hits-one c least (s ∷ sessions) (less, rise) = dite (ℕ_discrete c s)
    (λ (same : c ≡ s).
    let one = one_same c s same in
    let rest = hits-none c s sessions rise (omega arith) in
    omega arith)
    (λ (apart : c ≢ s).
    let none = one_other c s apart in
    let rest = hits-one c s sessions rise in
    omega arith)

rows-none : (row : ℕ) (sessions : List ℕ) → rows_of row [] sessions ≡ 0
rows-none row [] = refl
rows-none row (s ∷ sessions) = let rest = rows-none row sessions in omega arith

rows-next : (row : ℕ) (r : InRow) (rows : List InRow) (sessions : List ℕ) → rows_of row (r ∷ rows) sessions ≡ hits r.session sessions + rows_of (row + 1) rows sessions
rows-next row r rows [] = refl
rows-next row r rows (s ∷ sessions) =
    let here = by_test (r.session == s) (session_rows_from (row + 1) s rows) in
    let rest = rows-next row r rows sessions in
    omega arith
  where
    by_test : (b : Bool) (t : List (ℕ × Op)) → length (if b then (row, r.op) ∷ t else t) ≡ (if b then 1 else 0) + length t
    by_test true t = omega arith
    by_test false t = omega arith

-- sessions that rise have no more rows than there are
pub rows-few : (row least : ℕ) (rows : List InRow) (sessions : List ℕ) → RiseFrom least sessions → rows_of row rows sessions ≤ length rows
rows-few row least [] sessions rise = let none = rows-none row sessions in omega arith
rows-few row least (r ∷ rows) sessions rise =
    let next = rows-next row r rows sessions in
    let one = hits-one r.session least sessions rise in
    let rest = rows-few (row + 1) least rows sessions rise in
    omega arith

-- what the lanes come to together
pub record Together {I D O P : Type 0} (origin : Origin) (h : List Entry) (lanes : List (Lane I D O P)) (most : ℕ) : Type 0 where
  pub fair : (n : ℕ) → lanes_weight (at begins h) lanes n ≤ lanes_weight (at calls h) lanes n
  pub room : (n : ℕ) → lanes_weight (crowd h (bad origin h)) lanes n ≡ 0
  pub few : lanes_weight (at calls h) lanes (length h) ≤ most
  pub even : IsCalm origin h → lanes_weight (at begins h) lanes (length h) ≤ lanes_weight (at ends h) lanes (length h)

pub together : {I D O P : Type 0} (w : ℕ) (origin : Origin) (h : List Entry) (rows : List InRow) (sessions : List ℕ) (lanes : List (Lane I D O P)) (pass : Known) → moves_of origin ≡ false → HaveAllPlayed w origin rows sessions lanes
    → HaveSeen lanes pass → IsPrefix pass.seen h → Together origin h lanes (rows_of 1 rows sessions)
together w origin h rows [] [] pass still all seen pre = record { fair = λ n. omega arith; room = λ n. refl; few = omega arith; even = λ calm. omega arith }
together w origin h rows [] (lane ∷ lanes) pass still all seen pre = absurd all
together w origin h rows (s ∷ sessions) [] pass still all seen pre = absurd all
together w origin h rows (s ∷ sessions) (lane ∷ lanes) pass still (played, all) (has_seen, seen) pre =
    let one = lane-gains w origin h s (session_rows rows s) lane still played (prefix_trans lane.pass.seen pass.seen h has_seen pre) in
    let rest = together w origin h rows sessions lanes pass still all seen pre in
    let b0 = weight-nil (at begins h) in
    let c0 = weight-nil (at calls h) in
    let e0 = weight-nil (at ends h) in
    let r0 = weight-nil (crowd h (bad origin h)) in
    record {
      fair = λ n. let x = one.fair n in let y = rest.fair n in let b = b0 n in let c = c0 n in omega arith;
      room = λ n. let x = one.room n in let y = rest.room n in let r = r0 n in omega arith;
      few = let x = one.few in let y = rest.few in let c = c0 (length h) in omega arith;
      even = λ calm. let x = one.even calm in let y = rest.even calm in let b = b0 (length h) in let e = e0 (length h) in omega arith;
    }
