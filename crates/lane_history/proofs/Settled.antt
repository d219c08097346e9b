-- What the splits of lanes that were played and settled come to.
use Rattle.std.proofs.Common.{◌≡◌, ◌⊎◌, ℕ, ◌+◌, ◌<◌, ◌≤◌, Bool, List, [], ◌++◌, length, None, Ok, ap, subst, ◌∙◌, arith}
use mathlib.Core.List.{IsPrefix}
use Rattle.std.proofs.lemmas.List.{take_all, nil_from_length}
use Rattle.plain_list.specs.declared.entries.Entry.{Entry}
use Rattle.plain_list.specs.History.{call_count, failed_cell, world_after}
use Rattle.plain_list.specs.Size.{IsSized}
use Rattle.plain_list.specs.State.{IsLegal, state_after}
use Rattle.csv_rows.specs.declared.rows.InRow.{InRow}
use Rattle.book_lock.specs.Pass.{Known}
use Rattle.book_lock.specs.declared.origin.Origin.{Origin}
use Rattle.book_lock.proofs.Histories.{prefix_refl, prefix_length}
use Rattle.sessions.specs.Shared.{start_of, first_cells}
use Rattle.commit_book.specs.Refusals.{most_events_to_begin}
use Rattle.sessions.specs.Steps.{all_parts, cells_at}
use Rattle.sessions.specs.Settles.{Settles}
use Rattle.sessions.specs.declared.faults.Settled.{Settled}
use Rattle.sessions.specs.declared.store.lanes.Lane.{Lane}
use Rattle.lane_history.specs.Lanes.{IsPlayedOut, OwnsAll}
use Rattle.lane_history.specs.Settled.{SplitsAreDone, IsPlayStart, stray_begins}
use Rattle.lane_history.proofs.Weights.{weight-all, at, below-take, sum_of}
use Rattle.lane_history.proofs.Entries.{begins, calls, ends, calls-count, sum-append, open-few}
use Rattle.lane_history.proofs.Steps.{IsCalm, take-prefix}
use Rattle.lane_history.proofs.Ends.{EndPairs, settles-same, settles-well, all-splits-same}
use Rattle.lane_history.proofs.Bounded.{AreJoined, joined, bounded}
use Rattle.lane_history.proofs.Tidy.{stray-append, GoesStray, goes-stray}
use Rattle.lane_history.proofs.Sized.{ended-sized}

-- in a calm history that was settled well, begins are no more than ends
even-sums : (origin : Origin) (pass last : Known) (most : ℕ) → AreJoined origin last.seen pass.own most → EndPairs origin last.seen (Unit {0}) pass last → OwnsAll last → IsCalm origin last.seen
    → sum_of begins last.seen ≤ sum_of ends last.seen
even-sums origin pass last most joined pairs whole calm =
    let h = last.seen in
    let n : ℕ = length h in
    let even = joined.even calm in
    let past = pairs.past tt n (omega arith) in
    let b = weight-all (at begins h) last.own n whole n (omega arith) ∙ below-take begins h n (omega arith) ∙ ap (sum_of begins) (take_all n h (omega arith)) in
    let e = weight-all (at ends h) last.own n whole n (omega arith) ∙ below-take ends h n (omega arith) ∙ ap (sum_of ends) (take_all n h (omega arith)) in
    omega arith

-- so no split is open
none-open : (w : ℕ) (origin : Origin) (h : List Entry) → IsLegal w (start_of origin) h → sum_of begins h ≤ sum_of ends h → (state_after w (start_of origin) h).splits ≡ []
none-open w origin h legal even = let splits = open-few w (start_of origin) h legal in nil_from_length (state_after w (start_of origin) h).splits (omega arith)

-- the lanes' begins are no more than their calls
pub lanes-begins : (All : Type 0) (origin : Origin) (pass last : Known) (most : ℕ) → AreJoined origin last.seen pass.own most → EndPairs origin last.seen All pass last → OwnsAll last → IsPrefix pass.seen last.seen
    → sum_of begins pass.seen ≤ sum_of calls pass.seen
lanes-begins All origin pass last most joined pairs whole pre =
    let h = last.seen in
    let n : ℕ = length pass.seen in
    let le = prefix_length pass.seen h pre in
    let fair = joined.fair n in
    let early = pairs.early n (omega arith) in
    let same = pairs.calls_are n in
    let b = weight-all (at begins h) last.own (length h) whole n le ∙ below-take begins h n le ∙ ap (sum_of begins) (take-prefix pass.seen h pre) in
    let c = weight-all (at calls h) last.own (length h) whole n le ∙ below-take calls h n le ∙ ap (sum_of calls) (take-prefix pass.seen h pre) in
    omega arith

-- stray begins are no more than calls, and those of the splits at the end
pub few-stray : (w : ℕ) (origin : Origin) (most : ℕ) (pass last : Known) → GoesStray w origin most pass last → sum_of begins pass.seen ≤ sum_of calls pass.seen
    → stray_begins w origin.bucket (start_of origin) last.seen ≤ call_count last.seen + most
few-stray w origin most pass last goes few =
    let h = last.seen in
    let stray = stray-append w origin.bucket (start_of origin) pass.seen goes.more in
    let some = goes.few in
    let counted : call_count h ≡ sum_of calls pass.seen + sum_of calls goes.more = calls-count h ∙ ap (sum_of calls) goes.seen ∙ sum-append calls pass.seen goes.more in
    let is : stray_begins w origin.bucket (start_of origin) h ≡ stray_begins w origin.bucket (start_of origin) (pass.seen ++ goes.more) = ap (stray_begins w origin.bucket (start_of origin)) goes.seen in
    omega arith

pub settled : {I D O P : Type 0} (w : ℕ) (origin : Origin) (rows : List InRow) (sessions : List ℕ) (lanes : List (Lane I D O P)) (last : Known) (s : Settled) → (out : IsPlayedOut w origin rows sessions lanes last)
    → out.pass.parts ≡ all_parts → Settles w out.pass last (Ok s) → IsLegal w (start_of origin) last.seen → length rows ≤ 65536 → IsPlayStart origin → failed_cell last.seen ≡ None
    → SplitsAreDone w origin.bucket (start_of origin) (first_cells origin) last.seen
settled w origin rows sessions lanes last s out all settles legal few_rows start going =
    let h = last.seen in
    let pass = out.pass in
    let from = out.joined.begins in
    let limits = bounded w origin rows sessions lanes last out legal few_rows start in
    let calm : IsCalm origin h = record { going = going; bounded = limits } in
    let join = joined w origin rows sessions lanes last out start.still in
    let pairs = settles-well w origin h start.still pass last s from settles (prefix_refl h) in
    let pre = (settles-same w pass last (Ok s) settles).0 in
    let same = all-splits-same w pass settles.numbers settles.mid settles.splits in
    let ended = none-open w origin h legal (even-sums origin pass last (length rows) join pairs out.whole calm) in
    record {
      ended = ended;
      going = going;
      sized = subst (λ (k : Bool). IsSized w origin.bucket (world_after origin.world h) (state_after w (start_of origin) h).leaves ⊎ ((most_events_to_begin k < length h) ⊎ (16000000 < cells_at origin h))) start.kept
          (ended-sized w origin settles.mid last s (ap (λ (k : Known). k.origin) same.1 ∙ from) start.still (ap (λ (k : Known). k.parts) same.1 ∙ all) settles.ends ended);
      stray =
          let few = few-stray w origin 0 pass last (goes-stray w origin pass last (Ok s) from all settles) (lanes-begins (Unit {0}) origin pass last (length rows) join pairs out.whole pre) in
          omega arith;
    }
