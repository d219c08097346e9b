-- What lanes kept, by sessions.
use Rattle.std.specs.Prelude.{⊤}
use Rattle.std.proofs.Common.{◌≡◌, ◌≢◌, ℕ, ◌+◌, ◌<◌, Bool, true, false, cond, ◌==◌, List, [], ◌∷◌, ◌++◌, map, Option, Some, None, refl, sym, ap, subst, ◌∙◌, arith}
use Rattle.std.proofs.lemmas.Bool.Decides.{nat_tests}
use Rattle.std.proofs.lemmas.List.{append-nil}
use Rattle.plain_list.specs.World.{World}
use Rattle.plain_list.specs.declared.ops.Op.{Op}
use Rattle.plain_list.specs.declared.entries.Entry.{Entry}
use Rattle.csv_rows.specs.declared.rows.InRow.{InRow}
use Rattle.book_lock.specs.Pass.{Known}
use Rattle.book_lock.specs.Own.{times}
use Rattle.book_lock.specs.declared.origin.Origin.{Origin}
use Rattle.sessions.specs.declared.faults.CallFault.{CallFault}
use Rattle.sessions.specs.declared.store.lanes.Lane.{Lane}
use Rattle.sessions.specs.declared.store.lanes.KeptRow.{KeptRow}
use Rattle.sessions.specs.Lanes.{KeepsAll, Stops}
use Rattle.lane_history.specs.SessionRows.{session_rows}
use Rattle.lane_history.specs.Lanes.{HasPlayedLane, HaveAllPlayed, AreCalmLanes, AreSessions}
use Rattle.lane_history.specs.Kept.{AllRight}
use Rattle.play_run.specs.declared.lanes.LaneEnd.{LaneEnd}
use Rattle.play_run.specs.inside.Joined.{end_of, ends_of}
use Rattle.play_run.specs.inside.Answered.{kept_of, AreAnswers, HasAnswers}

-- kept rows have the numbers of the rows that were played
keeps-numbers : (w session : ℕ) (old new : Known) (rows : List (ℕ × Op)) (kept : List KeptRow) → KeepsAll w session old rows kept new → map (λ (k : KeptRow). k.row) kept ≡ map (λ (r : ℕ × Op). r.0) rows
keeps-numbers w session old new [] [] all = refl
keeps-numbers w session old new [] (k ∷ kept) all = absurd all
keeps-numbers w session old new (r ∷ rows) [] all = absurd all
keeps-numbers w session old new (r ∷ rows) (k ∷ kept) (mid, one, rest) =
    let more = keeps-numbers w session mid new rows kept rest in
    λ i. one.row_is i ∷ more i

none-left : (w session : ℕ) (mid new : Known) (rest : List (ℕ × Op)) (fault : Option CallFault) → fault ≡ None → Stops w session mid new rest fault → rest ≡ []
none-left w session mid new [] fault calm stops = refl
none-left w session mid new (r ∷ rest) None calm stops = absurd stops
none-left w session mid new (r ∷ rest) (Some fault) calm stops = absurd (cc calm)

played-numbers : {I D O P : Type 0} (w s : ℕ) (origin : Origin) (rows : List (ℕ × Op)) (lane : Lane I D O P) → HasPlayedLane w origin s rows lane → lane.fault ≡ None
    → map (λ (k : KeptRow). k.row) lane.kept.items ≡ map (λ (r : ℕ × Op). r.0) rows
played-numbers w s origin rows lane played calm =
    let plays = played.plays in
    let rest : plays.rest ≡ [] = none-left w played.old.session plays.mid lane.pass plays.rest lane.fault calm plays.stops in
    let front : plays.front ≡ rows = sym (append-nil plays.front) ∙ ap (λ (l : List (ℕ × Op)). plays.front ++ l) (sym rest) ∙ sym plays.whole ∙ played.rows_are in
    keeps-numbers w played.old.session played.old.pass plays.mid plays.front lane.kept.items plays.keeps ∙ ap (λ (l : List (ℕ × Op)). map (λ (r : ℕ × Op). r.0) l) front

-- each end answers the rows of its session
abbrev AllAnswer : World → List Entry → List InRow → List LaneEnd → Type 0
AllAnswer world h rows [] = ⊤
AllAnswer world h rows (end ∷ ends) = AreAnswers world h (session_rows rows end.session) end.kept.items × AllAnswer world h rows ends

-- how many ends are of a session
abbrev ends_count : ℕ → List LaneEnd → ℕ
ends_count s [] = 0
ends_count s (end ∷ ends) = cond (end.session == s) 1 0 + ends_count s ends

module _ (world : World) (h : List Entry) (rows : List InRow) where
  answer-last : (ends : List LaneEnd) (end : LaneEnd) → AllAnswer world h rows ends → AreAnswers world h (session_rows rows end.session) end.kept.items → AllAnswer world h rows (ends ++ end ∷ [])
  answer-last [] end all one = (one, tt)
  answer-last (x ∷ ends) end (first, all) one = (first, answer-last ends end all one)

  all-answer : {I D O P : Type 0} (w : ℕ) (origin : Origin) (sessions : List ℕ) (lanes : List (Lane I D O P)) → HaveAllPlayed w origin rows sessions lanes → AreCalmLanes lanes → AllRight world h lanes → AllAnswer world h rows (ends_of lanes)
  all-answer w origin [] [] played calm right = tt
  all-answer w origin [] (lane ∷ lanes) played calm right = absurd played
  all-answer w origin (s ∷ sessions) [] played calm right = absurd played
  all-answer w origin (s ∷ sessions) (lane ∷ lanes) (first, played) (none, calm) (good, right) =
      let at : lane.session ≡ s = first.plays.session ∙ first.session_is in
      let one : AreAnswers world h (session_rows rows lane.session) lane.kept.items =
      subst (λ (k : ℕ). AreAnswers world h (session_rows rows k) lane.kept.items) (sym at) (record { numbers = played-numbers w s origin (session_rows rows s) lane first none; right = good }) in
      answer-last (ends_of lanes) (end_of lane) (all-answer w origin sessions lanes played calm right) one

  same-session : (end : LaneEnd) (s : ℕ) → (end.session == s) ≡ true → end.session ≡ s
  same-session end s e = grind (arith, nat_tests)

  found : (s : ℕ) (ends : List LaneEnd) → AllAnswer world h rows ends → (session_rows rows s ≢ [] → 0 < ends_count s ends) → AreAnswers world h (session_rows rows s) (kept_of s ends)
  found s [] all there = subst (λ (l : List (ℕ × Op)). AreAnswers world h l []) (sym (none (session_rows rows s) refl)) (record { numbers = refl; right = tt })
    where
      none : (own : List (ℕ × Op)) → session_rows rows s ≡ own → own ≡ []
      none [] is = refl
      none (r ∷ own) is = absurd (omega (arith, there (λ e. cc (is, e))))
  found s (end ∷ ends) (first, all) there = by_test (found s ends all) (end.session == s) refl there
    where
      by_test : ((session_rows rows s ≢ [] → 0 < ends_count s ends) → AreAnswers world h (session_rows rows s) (kept_of s ends)) → (b : Bool) → (end.session == s) ≡ b → (session_rows rows s ≢ [] → 0 < cond b 1 0 + ends_count s ends) → AreAnswers world h (session_rows rows s) (cond b end.kept.items (kept_of s ends))
      by_test more true e there = subst (λ (k : ℕ). AreAnswers world h (session_rows rows k) end.kept.items) (same-session end s e) first
      by_test more false e there = more (λ some. let here = there some in omega (arith, here))

count-last : (s : ℕ) (ends : List LaneEnd) (end : LaneEnd) → ends_count s (ends ++ end ∷ []) ≡ ends_count s ends + cond (end.session == s) 1 0
count-last s [] end = omega arith
count-last s (x ∷ ends) end = omega (arith, count-last s ends end)

count-times : {I D O P : Type 0} (w : ℕ) (origin : Origin) (rows : List InRow) (s : ℕ) (sessions : List ℕ) (lanes : List (Lane I D O P)) → HaveAllPlayed w origin rows sessions lanes → ends_count s (ends_of lanes) ≡ times s sessions
count-times w origin rows s [] [] played = refl
count-times w origin rows s [] (lane ∷ lanes) played = absurd played
count-times w origin rows s (x ∷ sessions) [] played = absurd played
count-times w origin rows s (x ∷ sessions) (lane ∷ lanes) (first, played) =
    let at : cond {A = ℕ} (lane.session == s) 1 0 ≡ cond {A = ℕ} (x == s) 1 0 = ap {B = ℕ} (λ (k : ℕ). cond {A = ℕ} (k == s) 1 0) (first.plays.session ∙ first.session_is) in
    omega (arith, count-last s (ends_of lanes) (end_of lane), count-times w origin rows s sessions lanes played, at)

-- what calm lanes leave answers all rows
pub has-answers : {I D O P : Type 0} (w : ℕ) (origin : Origin) (world : World) (h : List Entry) (rows : List InRow) (sessions : List ℕ) (lanes : List (Lane I D O P)) → AreSessions rows sessions → HaveAllPlayed w origin rows sessions lanes
    → AreCalmLanes lanes → AllRight world h lanes → HasAnswers world h rows (ends_of lanes)
has-answers w origin world h rows sessions lanes are played calm right s =
    found world h rows s (ends_of lanes) (all-answer world h rows w origin sessions lanes played calm right) (λ some. omega (arith, count-times w origin rows s sessions lanes played, are.all s some))
