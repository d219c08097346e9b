-- However lanes end, the begins of their history are few.
use Rattle.std.proofs.Common.{◌≡◌, ◌⊎◌, inl, inr, ℕ, ◌+◌, ◌<◌, ◌≤◌, Bool, List, [], ◌∷◌, ◌++◌, length, Ok, Err, Result, refl, sym, ap, subst, ◌∙◌, arith}
use Rattle.std.proofs.lemmas.List.{append-nil, take_all}
use Rattle.plain_list.specs.declared.entries.Entry.{Entry}
use Rattle.plain_list.specs.declared.entries.Entry.TheVariants.{Fail, Call, Begin, Install, Abandon}
use Rattle.plain_list.specs.History.{call_count}
use Rattle.plain_list.specs.Played.{IsPlayedWhole}
use Rattle.plain_list.specs.State.{IsLegal}
use Rattle.csv_rows.specs.declared.rows.InRow.{InRow}
use Rattle.book_lock.specs.Pass.{Known}
use Rattle.book_lock.specs.declared.origin.Origin.{Origin}
use Rattle.book_lock.proofs.Histories.{prefix_refl}
use Rattle.commit_book.specs.IsBook.{most_events}
use Rattle.sessions.specs.Shared.{start_of, first_cells}
use Rattle.commit_book.specs.declared.faults.BookFault.{BookFault}
use Rattle.sessions.specs.declared.faults.Settled.{Settled}
use Rattle.sessions.specs.declared.store.lanes.Lane.{Lane}
use Rattle.lane_history.specs.SessionRows.{session_rows}
use Rattle.lane_history.specs.Lanes.{IsPlayedOut, GoesOn, SettlesAfter}
use Rattle.lane_history.proofs.PlayedOut.{whole}
use Rattle.lane_history.specs.Settled.{IsWithinLimits, IsPlayStart, begin_count, stray_begins}
use Rattle.lane_history.proofs.Weights.{weight-all, at, below-take, sum_of}
use Rattle.lane_history.proofs.Entries.{begins, calls, calls-count}
use Rattle.lane_history.proofs.Settled.{lanes-begins, few-stray}
use Rattle.lane_history.proofs.Bounded.{AreJoined, joined, bounded}
use Rattle.lane_history.proofs.Ends.{settles-same, settles-pairs}
use Rattle.lane_history.proofs.Tidy.{stray-append, goes-stray, most_stray}

begins-count : (h : List Entry) → begin_count h ≡ sum_of begins h
begins-count [] = refl
begins-count (Begin number name ∷ h) = let rest = begins-count h in omega arith
begins-count (Fail cell lost ∷ h) = let rest = begins-count h in omega arith
begins-count (Call session row op ∷ h) = let rest = begins-count h in omega arith
begins-count (Install number ∷ h) = let rest = begins-count h in omega arith
begins-count (Abandon number ∷ h) = let rest = begins-count h in omega arith

at-most-one : (result : Result Settled BookFault) → most_stray result ≤ 1
at-most-one (Ok s) = omega arith
at-most-one (Err fault) = omega arith

module _ {I D O P : Type 0} (w : ℕ) (origin : Origin) (rows : List InRow) (sessions : List ℕ) (lanes : List (Lane I D O P)) (last : Known) (out : IsPlayedOut w origin rows sessions lanes last) (start : IsPlayStart origin) where
  -- where nobody settled, all begins are those of the lanes
  same-begins : last ≡ out.pass → sum_of begins last.seen ≤ sum_of calls last.seen
  same-begins same =
      let h = last.seen in
      let n : ℕ = length h in
      let join : AreJoined origin h last.own (length rows) = subst (λ (k : Known). AreJoined origin h k.own (length rows)) (sym same) (joined w origin rows sessions lanes last out start.still) in
      let fair = join.fair n in
      let b = weight-all (at begins h) last.own n out.whole n (omega arith) ∙ below-take begins h n (omega arith) ∙ ap (sum_of begins) (take_all n h (omega arith)) in
      let c = weight-all (at calls h) last.own n out.whole n (omega arith) ∙ below-take calls h n (omega arith) ∙ ap (sum_of calls) (take_all n h (omega arith)) in
      omega arith

  same-stray : last ≡ out.pass → stray_begins w origin.bucket (start_of origin) last.seen ≤ call_count last.seen + 1
  same-stray same =
      let h = last.seen in
      let stray = stray-append w origin.bucket (start_of origin) h [] in
      let is : stray_begins w origin.bucket (start_of origin) (h ++ []) ≡ stray_begins w origin.bucket (start_of origin) h = ap (stray_begins w origin.bucket (start_of origin)) (append-nil h) in
      let few = same-begins same in
      let counted = calls-count h in
      omega arith

  settled-stray : SettlesAfter w lanes out.pass last → stray_begins w origin.bucket (start_of origin) last.seen ≤ call_count last.seen + 1
  settled-stray after =
      let pass = out.pass in
      let from = out.joined.begins in
      let pairs = settles-pairs w origin last.seen start.still pass last after.result from after.settles (prefix_refl last.seen) in
      let pre = (settles-same w pass last after.result after.settles).0 in
      let fair = lanes-begins ⊥ origin pass last (length rows) (joined w origin rows sessions lanes last out start.still) pairs out.whole pre in
      let few = few-stray w origin (most_stray after.result) pass last (goes-stray w origin pass last after.result from after.all after.settles) fair in
      let one = at-most-one after.result in
      omega arith

  by_end : GoesOn w lanes out.pass last → (stray_begins w origin.bucket (start_of origin) last.seen ≤ call_count last.seen + 1) × ((begin_count last.seen ≤ call_count last.seen) ⊎ IsPlayedWhole (session_rows rows) last.seen)
  by_end (inl same) = (
    same-stray same,
    inl (let few = same-begins same in let b = begins-count last.seen in let c = calls-count last.seen in omega arith),
  )
  by_end (inr after) = (settled-stray after, inr (whole w origin rows sessions lanes last out after.calm))

  -- However the lanes end, their history stays within its limits.
  pub within_limits : IsLegal w (start_of origin) last.seen → length rows ≤ 65536 → IsWithinLimits w origin.bucket (start_of origin) (first_cells origin) rows last.seen
  within_limits legal few_rows =
      let limits = bounded w origin rows sessions lanes last out legal few_rows start in
      let ends = by_end out.goes_on in
      record { entries = subst (λ (k : Bool). length last.seen < most_events k) start.kept (limits.short last.seen (prefix_refl last.seen)); cells = limits.few last.seen (prefix_refl last.seen); stray = ends.0; begins = ends.1 }
