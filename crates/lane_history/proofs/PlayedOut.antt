-- Lanes that were played over one store: the calls of each session, the places and answers of what was kept, and the step that was lost.
use Rattle.std.proofs.Common.{◌≡◌, ◌⊎◌, inl, inr, ℕ, ◌+◌, List, [], ◌∷◌, ◌++◌, length, Some, None, refl, sym, ap, subst, ◌∙◌, append_assoc, length-append, arith}
use mathlib.Core.List.{IsPrefix, append-nil}
use Rattle.plain_list.specs.declared.ops.Op.{Op}
use Rattle.plain_list.specs.declared.entries.Entry.{Entry}
use Rattle.plain_list.specs.declared.entries.Entry.TheVariants.{Fail}
use Rattle.plain_list.specs.declared.entries.Lost.{Lost}
use Rattle.plain_list.specs.declared.entries.Lost.TheVariants as lost
use Rattle.plain_list.specs.History.{reply_at, failed_cell}
use Rattle.plain_list.specs.Played.{calls_of, IsPlayed, IsPlayedWhole}
use Rattle.plain_list.specs.State.{IsLegal}
use Rattle.csv_rows.specs.declared.rows.InRow.{InRow}
use Rattle.book_lock.specs.Pass.{Known}
use Rattle.book_lock.specs.Own.{times, Owns, IsBelow}
use Rattle.book_lock.specs.declared.origin.Origin.{Origin}
use Rattle.book_lock.proofs.Positions.{once_below-in}
use Rattle.book_lock.proofs.Histories.{prefix_trans, prefix_length}
use Rattle.sessions.specs.Shared.{start_of}
use Rattle.sessions.specs.declared.store.lanes.Lane.{Lane}
use Rattle.sessions.specs.declared.store.lanes.KeptRow.{KeptRow}
use Rattle.lane_history.specs.SessionRows.{session_rows, row_place}
use Rattle.lane_history.specs.LostSteps.{IsSplitStep, IsNextStep, LosesStep}
use Rattle.lane_history.specs.Kept.{IsRight, AreRight, AllRight}
use Rattle.lane_history.specs.Lanes.{HaveAllPlayed, HaveSeen, IsPlayedOut, AreCalmLanes}
use Rattle.lane_history.proofs.OwnEntries.{own-whole, owns-or-not, OwnsOrNot}
use Rattle.lane_history.proofs.CallsOf.{calls-append}
use Rattle.lane_history.proofs.Adds.{AddsQuiet, IsAdded, LostSo, own_of, adds-own, adds-later, adds-at}
use Rattle.lane_history.proofs.SplitAdds.{SplitLost, goes-quiet}
use Rattle.lane_history.proofs.LaneAdds.{IsLane, is-lane, LaneLost, StoodAt, HaveStood, lane-stood}
use Rattle.lane_history.proofs.Owners.{IsOf, joined-of, calls-of-lane, calls-of-none, lane-of, owner-of}
use Rattle.lane_history.proofs.Places.{place-of, reply-of}
use Rattle.lane_history.proofs.Fails.{FailsAlone, fails-at, fail-last, no-second, same-place}

calm-of : {I D O P : Type 0} (s : ℕ) (lane : Lane I D O P) (sessions : List ℕ) (lanes : List (Lane I D O P)) → AreCalmLanes lanes → IsOf s lane sessions lanes → lane.fault ≡ None
calm-of s lane [] lanes calm of = absurd of
calm-of s lane (t ∷ sessions) [] calm of = absurd of
calm-of s lane (t ∷ sessions) (l ∷ lanes) calm (inl (same, is)) = ap (λ (k : Lane _ _ _ _). k.fault) (sym is) ∙ calm.0
calm-of s lane (t ∷ sessions) (l ∷ lanes) calm (inr of) = calm-of s lane sessions lanes calm.1 of

-- what stood in a history of played sessions is right there
stood-right : (rows : List InRow) (origin : Origin) (s : ℕ) (h : List Entry) (r : ℕ × Op) (k : KeptRow) → IsPlayed (session_rows rows) h → StoodAt origin s h r k → IsRight origin.world h k
stood-right rows origin s h r k played stood = record {
  place = ap (λ (row : ℕ). row_place row h) stood.row_is ∙ place-of rows h stood.before s r.0 r.1 played stood.stands ∙ ap (λ (n : ℕ). Some n) (sym stood.place_is);
  answer = ap (reply_at origin.world h) stood.place_is ∙ reply-of origin.world h stood.before s r.0 r.1 stood.stands ∙ ap (λ a. Some a) (sym stood.answer_is);
}

are-right : (rows : List InRow) (origin : Origin) (s : ℕ) (h : List Entry) (front : List (ℕ × Op)) (kept : List KeptRow) → IsPlayed (session_rows rows) h → HaveStood origin s h front kept → AreRight origin.world h kept
are-right rows origin s h [] [] played stood = tt
are-right rows origin s h [] (k ∷ kept) played stood = absurd stood
are-right rows origin s h (r ∷ front) [] played stood = absurd stood
are-right rows origin s h (r ∷ front) (k ∷ kept) played stood = (stood-right rows origin s h r k played stood.0, are-right rows origin s h front kept played stood.1)

module _ {I D O P : Type 0} (w : ℕ) (origin : Origin) (rows : List InRow) where
  all-right : (sessions : List ℕ) (lanes : List (Lane I D O P)) (pass : Known) (h : List Entry) → HaveAllPlayed w origin rows sessions lanes → HaveSeen lanes pass → IsPrefix pass.seen h → IsPlayed (session_rows rows) h → AllRight origin.world h lanes
  all-right [] [] pass h all seen later played = tt
  all-right [] (lane ∷ lanes) pass h all seen later played = absurd all
  all-right (s ∷ sessions) [] pass h all seen later played = absurd all
  all-right (s ∷ sessions) (lane ∷ lanes) pass h all seen later played = (
    are-right rows origin s h all.0.plays.front lane.kept.items played (lane-stood w origin s (session_rows rows s) lane all.0 h (prefix_trans lane.pass.seen pass.seen h seen.0 later)),
    all-right sessions lanes pass h all.1 seen.1 later played,
  )

module _ {I D O P : Type 0} (w : ℕ) (origin : Origin) (rows : List InRow) (sessions : List ℕ) (lanes : List (Lane I D O P)) (last : Known) (out : IsPlayedOut w origin rows sessions lanes last) where
  abbrev Pass : Known
  Pass = out.pass

  pass-below : IsBelow (length Pass.seen) Pass.own
  pass-below p owns =
      let o = out.joined.owned p in
      let (s, lane, of, has) = owner-of w origin rows Pass p sessions lanes out.played (omega arith) in
      let joined = joined-of w origin rows Pass s lane sessions lanes out.played out.joined.seen of in
      let is : IsLane w origin s (session_rows rows s) lane = is-lane w origin s (session_rows rows s) lane joined.played in
      let b = is.below p has in
      let l = prefix_length lane.pass.seen Pass.seen joined.seen in
      omega arith

  pub goes : AddsQuiet (SplitLost w Pass) Pass last
  goes = goes-quiet w lanes Pass last out.goes_on

  pub pass-later : IsPrefix Pass.seen last.seen
  pass-later = adds-later (SplitLost w Pass) Pass last goes.entries goes.adds

  -- the history is what the lanes have added, in the order of its positions, and what went on behind them
  pub last-own : last.seen ≡ own_of Pass ++ goes.entries
  last-own = sym (own-whole last.own last.seen out.whole) ∙ adds-own (SplitLost w Pass) Pass last goes.entries goes.adds pass-below

  calls-last : (s : ℕ) → calls_of s last.seen ≡ calls_of s (own_of Pass)
  calls-last s = ap (calls_of s) last-own ∙ calls-append s (own_of Pass) goes.entries ∙ ap (λ (l : List (ℕ × Op)). calls_of s (own_of Pass) ++ l) (goes.quiet s) ∙ append-nil (calls_of s (own_of Pass))

  -- the calls of a lane's session
  record LaneCalls (s : ℕ) (lane : Lane I D O P) : Type 0 where
    pub is : IsLane w origin s (session_rows rows s) lane
    pub calls_are : calls_of s last.seen ≡ is.calls

  lane-calls : (s : ℕ) (lane : Lane I D O P) → IsOf s lane sessions lanes → LaneCalls s lane
  lane-calls s lane of =
      let joined = joined-of w origin rows Pass s lane sessions lanes out.played out.joined.seen of in
      let is : IsLane w origin s (session_rows rows s) lane = is-lane w origin s (session_rows rows s) lane joined.played in
      record { is = is; calls_are = calls-last s ∙ calls-of-lane w origin rows Pass s 0 lane sessions lanes out.played out.joined.seen out.sessions_are.rise of out.joined.owned ∙ is.mine }

  -- the calls of each session are a prefix of its rows
  pub played : IsPlayed (session_rows rows) last.seen
  played s = by_session (owns-or-not s sessions)
    where
      by_session : OwnsOrNot s sessions → IsPrefix (calls_of s last.seen) (session_rows rows s)
      by_session (inl has) =
          let (lane, of) = lane-of w origin rows Pass s sessions lanes out.played (omega arith) in
          let c = lane-calls s lane of in
          subst (λ (l : List (ℕ × Op)). IsPrefix l (session_rows rows s)) (sym c.calls_are) c.is.front
      by_session (inr none) =
          subst (λ (l : List (ℕ × Op)). IsPrefix l (session_rows rows s)) (sym (calls-last s ∙ calls-of-none w origin rows Pass s sessions lanes out.played out.joined.seen none out.joined.owned)) (session_rows rows s, refl)

  -- and all of them where no lane met a fault
  pub whole : AreCalmLanes lanes → IsPlayedWhole (session_rows rows) last.seen
  whole calm s = by_session (owns-or-not s sessions)
    where
      no-rows : (l : List (ℕ × Op)) → session_rows rows s ≡ l → times s sessions ≡ 0 → [] ≡ l
      no-rows [] is none = refl
      no-rows (r ∷ l) is none = let has = out.sessions_are.all s (λ e. cc (e, is)) in absurd (omega arith)

      by_session : OwnsOrNot s sessions → calls_of s last.seen ≡ session_rows rows s
      by_session (inl has) =
          let (lane, of) = lane-of w origin rows Pass s sessions lanes out.played (omega arith) in
          let c = lane-calls s lane of in
          c.calls_are ∙ c.is.calm (calm-of s lane sessions lanes calm of)
      by_session (inr none) = calls-last s ∙ calls-of-none w origin rows Pass s sessions lanes out.played out.joined.seen none out.joined.owned ∙ no-rows (session_rows rows s) refl none

  -- what the lanes kept is right: each row's place, and the answer there
  pub kept_right : AllRight origin.world last.seen lanes
  kept_right = all-right w origin rows sessions lanes Pass last.seen out.played out.joined.seen pass-later played

  -- a lane has lost this step, and no append had failed before
  record LaneLoses (before : List Entry) (l : Lost) : Type 0 where
    pub session : ℕ
    pub lane : Lane I D O P
    pub of : IsOf session lane sessions lanes
    pub lost : LaneLost w origin session (session_rows rows session) (lane-calls session lane of).is.calls before l
    pub going : failed_cell before ≡ None

  -- what is known of a failed append
  module _ (before : List Entry) (cell : ℕ) (l : Lost) (rest : List Entry) (is : last.seen ≡ before ++ Fail cell l ∷ rest) where
    added-lost : (Step : List Entry → Lost → Type 0) (seen : List Entry) → IsPrefix seen last.seen → IsAdded Step seen (length before) → Step before l × (failed_cell before ≡ None)
    added-lost Step seen later added =
        let front : IsPrefix (added.before ++ added.entry ∷ []) last.seen = prefix_trans (added.before ++ added.entry ∷ []) seen last.seen added.seen later in
        let both : added.before ++ added.entry ∷ front.0 ≡ before ++ Fail cell l ∷ rest = sym (append_assoc added.before (added.entry ∷ []) front.0) ∙ front.1 ∙ is in
        let same = same-place added.before before front.0 rest added.entry (Fail cell l) added.place both in
        subst (λ (e : Entry). LostSo Step before e) same.1 (subst (λ (b : List Entry). LostSo Step b added.entry) same.0 added.lost)

    -- what went on behind the lanes has lost the step, or a lane has
    lost-by : (SplitLost w Pass before l × (failed_cell before ≡ None)) ⊎ LaneLoses before l
    lost-by = by_owner (adds-at (SplitLost w Pass) Pass last goes.entries goes.adds (length before) mine)
      where
        mine : Owns last.own (length before)
        mine =
            let long : length last.seen ≡ length before + length (Fail cell l ∷ rest) = ap length is ∙ length-append before (Fail cell l ∷ rest) in
            let a = out.whole (length before) in
            let b = once_below-in (length before) (length last.seen) (omega arith) in
            omega arith

        by_owner : Owns Pass.own (length before) ⊎ IsAdded (SplitLost w Pass) last.seen (length before) → (SplitLost w Pass before l × (failed_cell before ≡ None)) ⊎ LaneLoses before l
        by_owner (inr added) = inl (added-lost (SplitLost w Pass) last.seen ([], append-nil last.seen) added)
        by_owner (inl owns) =
            let o = out.joined.owned (length before) in
            let (s, lane, of, has) = owner-of w origin rows Pass (length before) sessions lanes out.played (omega arith) in
            let c = lane-calls s lane of in
            let joined = joined-of w origin rows Pass s lane sessions lanes out.played out.joined.seen of in
            let lost =
            added-lost (LaneLost w origin s (session_rows rows s) c.is.calls) lane.pass.seen (prefix_trans lane.pass.seen Pass.seen last.seen joined.seen pass-later) (c.is.added (length before) has) in
            inr (record { session = s; lane = lane; of = of; lost = lost.0; going = lost.1 })

  -- each failed append stands behind a history without one
  pub alone : FailsAlone last.seen
  alone before cell l rest is = by_who (lost-by before cell l rest is)
    where
      by_who : (SplitLost w Pass before l × (failed_cell before ≡ None)) ⊎ LaneLoses before l → failed_cell before ≡ None
      by_who (inl split) = split.1
      by_who (inr lane) = lane.going

  -- what stands at the end of a history that ends with a failed append
  module _ (before : List Entry) (cell : ℕ) (l : Lost) (ends : last.seen ≡ before ++ Fail cell l ∷ []) where
    split-next : (s : Lost) → IsSplitStep w (start_of origin) before s → IsNextStep w (start_of origin) rows before s
    split-next (lost.Call t row op) is = absurd is
    split-next (lost.Begin number name) is = is
    split-next (lost.Install number) is = is
    split-next (lost.Abandon number) is = is

    lane-next : (s : ℕ) (calls : List (ℕ × Op)) → calls_of s before ≡ calls → (m : Lost) → LaneLost w origin s (session_rows rows s) calls before m → IsNextStep w (start_of origin) rows before m
    lane-next s calls are (lost.Call t row op) (same, (more, is), change) =
        let next : session_rows rows t ≡ calls_of t before ++ (row, op) ∷ more =
        ap (session_rows rows) same ∙ is ∙ ap (λ (c : List (ℕ × Op)). c ++ (row, op) ∷ more) (sym are) ∙ ap (λ (u : ℕ). calls_of u before ++ (row, op) ∷ more) (sym same) in
        (record { rest = more; next = next }, change)
    lane-next s calls are (lost.Begin number name) is = is
    lane-next s calls are (lost.Install number) is = is
    lane-next s calls are (lost.Abandon number) is = is

    pub lost-next : IsNextStep w (start_of origin) rows before l
    lost-next = by_who (lost-by before cell l [] ends)
      where
        by_who : (SplitLost w Pass before l × (failed_cell before ≡ None)) ⊎ LaneLoses before l → IsNextStep w (start_of origin) rows before l
        by_who (inl split) = split-next l (subst (λ (o : Origin). IsSplitStep w (start_of o) before l) out.joined.begins split.0)
        by_who (inr lane) =
            let c = lane-calls lane.session lane.lane lane.of in
            let calls : calls_of lane.session before ≡ c.is.calls =
            sym (append-nil (calls_of lane.session before)) ∙ sym (calls-append lane.session before (Fail cell l ∷ [])) ∙ ap (calls_of lane.session) (sym ends) ∙ c.calls_are in
            lane-next lane.session c.is.calls calls l lane.lost

  -- where an append failed: the lost step is the next row of its session, or a step of a split
  pub loses : (cell : ℕ) → IsLegal w (start_of origin) last.seen → failed_cell last.seen ≡ Some cell → LosesStep (IsNextStep w (start_of origin) rows) last.seen cell
  loses cell legal failed =
      let f = fails-at last.seen cell failed in
      let none = fail-last w (start_of origin) f.before cell f.lost f.rest (subst (IsLegal w (start_of origin)) f.entries legal)
      (no-second last.seen f.before cell f.lost f.rest alone f.entries) in
      let ends : last.seen ≡ f.before ++ Fail cell f.lost ∷ [] = f.entries ∙ ap (λ (r : List Entry). f.before ++ Fail cell f.lost ∷ r) none in
      record { before = f.before; lost = f.lost; entries = ends; going = f.going; step = lost-next f.before cell f.lost ends }
