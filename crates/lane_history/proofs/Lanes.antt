-- What a lane's rows add to its own positions.
use Rattle.std.proofs.Common.{◌≡◌, ℕ, suc, ◌+◌, ◌≤◌, false, List, [], ◌∷◌, length, Option, Some, None, Err, sym, ap, subst, ◌∙◌, arith, length-append}
use mathlib.Core.List.{IsPrefix}
use Rattle.plain_list.specs.declared.ops.Op.{Op}
use Rattle.plain_list.specs.declared.entries.Entry.{Entry}
use Rattle.plain_list.specs.declared.entries.Entry.TheVariants.{Fail, Call}
use Rattle.plain_list.specs.declared.entries.Lost.TheVariants as lost
use Rattle.book_lock.specs.Pass.{Known}
use Rattle.book_lock.specs.declared.origin.Origin.{Origin}
use Rattle.book_lock.proofs.Histories.{prefix_trans}
use Rattle.sessions.specs.declared.faults.CallFault.{CallFault}
use Rattle.sessions.specs.declared.faults.CallFault.TheVariants.{Closed, Disk, HistoryFull, LogFull, Memory}
use Rattle.sessions.specs.declared.store.lanes.Lane.{Lane}
use Rattle.sessions.specs.declared.store.lanes.KeptRow.{KeptRow}
use Rattle.sessions.specs.Shared.{moves_of}
use Rattle.sessions.specs.Calls.{CallLeaves}
use Rattle.sessions.specs.Lanes.{KeepsRow, KeepsAll, Stops}
use Rattle.sessions.proofs.LanePasses.{tries-same, keeps-same, all-same, stops-same}
use Rattle.lane_history.specs.Lanes.{HasPlayedLane}
use Rattle.lane_history.proofs.Gains.{HasTried, Gains, gains-none, gains-fail, gains-call, gains-later}
use Rattle.lane_history.proofs.Rounds.{gains-called}
use Rattle.lane_history.proofs.Steps.{bad, IsCalm, length-added, puts-added}
use Rattle.lane_history.proofs.Tries.{told-tried}

-- a lane's counts from one pass to another
abbrev pub LaneGains : Origin → List Entry → List ℕ → List ℕ → ℕ → Type 0
LaneGains origin h own new most = Gains h (bad origin h) (IsCalm origin h) own new most

gains-most : (origin : Origin) (h : List Entry) (own new : List ℕ) (a b : ℕ) → a ≤ b → LaneGains origin h own new a → LaneGains origin h own new b
gains-most origin h own new a b le gains = record { fair = gains.fair; room = gains.room; few = let few = gains.few in omega arith; even = gains.even }

-- a row that is kept
keeps-gains : (w session : ℕ) (origin : Origin) (h : List Entry) (old new : Known) (row : ℕ × Op) (kept : KeptRow) → old.origin ≡ origin → moves_of origin ≡ false → KeepsRow w session old new row kept → IsPrefix new.seen h
    → LaneGains origin h old.own new.own 1
keeps-gains w session origin h old new row kept from still keeps pre =
    let called = keeps.called in
    let e : Entry = Call session row.0 row.1 in
    let mid-pre = prefix_trans keeps.mid.seen new.seen h (tries-same w keeps.done.full keeps.mid new kept.split keeps.tries).0 pre in
    let mid-from : keeps.mid.origin ≡ origin = ap (λ (k : Known). k.origin) called.leaves.0 ∙ from in
    let tried = told-tried w origin h still keeps.done.full keeps.mid new kept.split mid-from keeps.tries pre in
    gains-called h (bad origin h) (IsCalm origin h) old.own new.own (
    record {
      place = length called.before;
      session = session;
      row = row.0;
      op = row.1;
      mid = keeps.mid.own;
      puts = puts-added h old keeps.mid called.before e called.leaves.0 mid-pre;
      tried = subst (λ (n : ℕ). HasTried h (bad origin h) (IsCalm origin h) n keeps.mid.own new.own) (length-added old keeps.mid called.before e called.leaves.0) tried;
    }
    )

all-gains : (w session : ℕ) (origin : Origin) (h : List Entry) (old : Known) (rows : List (ℕ × Op)) (kept : List KeptRow) (new : Known) → old.origin ≡ origin → moves_of origin ≡ false → KeepsAll w session old rows kept new → IsPrefix new.seen h
    → LaneGains origin h old.own new.own (length rows)
all-gains w session origin h old [] [] new from still all pre = gains-none h (bad origin h) (IsCalm origin h) old.own new.own (ap (λ (k : Known). k.own) all)
all-gains w session origin h old [] (k ∷ kept) new from still all pre = absurd all
all-gains w session origin h old (r ∷ rows) [] new from still all pre = absurd all
all-gains w session origin h old (r ∷ rows) (k ∷ kept) new from still (mid, one, rest) pre =
    let mid-pre = prefix_trans mid.seen new.seen h (all-same w session mid rows kept new rest).0 pre in
    let mid-from : mid.origin ≡ origin = ap (λ (x : Known). x.origin) (keeps-same w session old mid r k one).1 ∙ from in
    gains-most origin h old.own new.own (1 + length rows) (suc (length rows)) (omega arith)
    (gains-later h (bad origin h) (IsCalm origin h) old.own mid.own new.own 1 (length rows) (keeps-gains w session origin h old mid r k from still one mid-pre)
    (all-gains w session origin h mid rows kept new mid-from still rest pre))

-- a row that was refused
refused-gains : (w session row : ℕ) (op : Op) (origin : Origin) (h : List Entry) (old new : Known) (before : List Entry) (fault : CallFault) → CallLeaves w session row op old before new (Err fault) → IsPrefix new.seen h
    → LaneGains origin h old.own new.own 1
refused-gains w session row op origin h old new before (Closed cell) is pre =
    gains-most origin h old.own new.own 0 1 (omega arith) (gains-none h (bad origin h) (IsCalm origin h) old.own new.own (ap (λ (k : Known). k.own) is))
refused-gains w session row op origin h old new before (Disk cell) (is, change) pre =
    gains-most origin h old.own new.own 0 1 (omega arith)
    (gains-fail h (bad origin h) (IsCalm origin h) old.own new.own (length before) cell (lost.Call session row op) (puts-added h old new before (Fail cell (lost.Call session row op)) is pre))
refused-gains w session row op origin h old new before HistoryFull is pre =
    gains-most origin h old.own new.own 0 1 (omega arith) (gains-none h (bad origin h) (IsCalm origin h) old.own new.own (ap (λ (k : Known). k.own) is))
refused-gains w session row op origin h old new before LogFull is pre =
    gains-most origin h old.own new.own 0 1 (omega arith) (gains-none h (bad origin h) (IsCalm origin h) old.own new.own (ap (λ (k : Known). k.own) is))
refused-gains w session row op origin h old new before (Memory None) is pre =
    gains-most origin h old.own new.own 0 1 (omega arith) (gains-none h (bad origin h) (IsCalm origin h) old.own new.own (ap (λ (k : Known). k.own) is))
refused-gains w session row op origin h old new before (Memory (Some place)) (is, at_place) pre =
    gains-call h (bad origin h) (IsCalm origin h) old.own new.own (length before) session row op (puts-added h old new before (Call session row op) is pre)

stops-gains : (w session : ℕ) (origin : Origin) (h : List Entry) (mid new : Known) (rest : List (ℕ × Op)) (fault : Option CallFault) → Stops w session mid new rest fault → IsPrefix new.seen h
    → LaneGains origin h mid.own new.own (length rest)
stops-gains w session origin h mid new [] None same pre = gains-none h (bad origin h) (IsCalm origin h) mid.own new.own (ap (λ (k : Known). k.own) same)
stops-gains w session origin h mid new [] (Some fault) none pre = absurd none
stops-gains w session origin h mid new (r ∷ rest) None none pre = absurd none
stops-gains w session origin h mid new (r ∷ rest) (Some fault) called pre =
    gains-most origin h mid.own new.own 1 (length (r ∷ rest)) (omega arith) (refused-gains w session r.0 r.1 origin h mid new called.before fault called.leaves pre)

-- a lane that was played
pub lane-gains : {I D O P : Type 0} (w : ℕ) (origin : Origin) (h : List Entry) (session : ℕ) (rows : List (ℕ × Op)) (lane : Lane I D O P) → moves_of origin ≡ false → HasPlayedLane w origin session rows lane → IsPrefix lane.pass.seen h
    → LaneGains origin h [] lane.pass.own (length rows)
lane-gains w origin h session rows lane still played pre =
    let plays = played.plays in
    let start = played.old.pass in
    let mid-pre = prefix_trans plays.mid.seen lane.pass.seen h (stops-same w played.old.session plays.mid lane.pass plays.rest lane.fault plays.stops).0 pre in
    let front = all-gains w played.old.session origin h start plays.front lane.kept.items plays.mid played.begins still plays.keeps mid-pre in
    let rest = stops-gains w played.old.session origin h plays.mid lane.pass plays.rest lane.fault plays.stops pre in
    let all = gains-later h (bad origin h) (IsCalm origin h) start.own plays.mid.own lane.pass.own (length plays.front) (length plays.rest) front rest in
    let count : length rows ≡ length plays.front + length plays.rest = ap length (sym played.rows_are ∙ plays.whole) ∙ length-append plays.front plays.rest in
    gains-most origin h [] lane.pass.own (length plays.front + length plays.rest) (length rows) (omega arith)
    (subst (λ (own : List ℕ). LaneGains origin h own lane.pass.own (length plays.front + length plays.rest)) played.own all)
