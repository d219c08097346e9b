-- Each position of the history is of one lane, or of what went on behind them.
use Rattle.std.proofs.Common.{◌≡◌, ◌≢◌, ◌⊎◌, inl, inr, ℕ, ◌+◌, ◌<◌, ◌≤◌, List, [], ◌∷◌, Some, refl, sym, ap, subst, ◌∙◌, arith}
use Rattle.std.specs.Prelude.{slice_get}
use Rattle.std.proofs.lemmas.Bool.{cases_eq}
use mathlib.Core.List.{IsPrefix}
use Rattle.plain_list.specs.declared.entries.Entry.{Entry}
use Rattle.plain_list.specs.Played.{calls_of}
use Rattle.csv_rows.specs.declared.rows.InRow.{InRow}
use Rattle.book_lock.specs.Pass.{Known}
use Rattle.book_lock.specs.Own.{times, Owns}
use Rattle.book_lock.specs.declared.origin.Origin.{Origin}
use Rattle.book_lock.proofs.Positions.{one_same, one_other}
use Rattle.sessions.specs.declared.store.lanes.Lane.{Lane}
use Rattle.lane_history.specs.SessionRows.{session_rows}
use Rattle.lane_history.specs.Lanes.{HasPlayedLane, HaveAllPlayed, RiseFrom, HaveSeen, owned_by}
use Rattle.lane_history.proofs.OwnEntries.{own_entries, own-seen, own-none, owns-or-not, OwnsOrNot}
use Rattle.lane_history.proofs.CallsOf.{quiet-at, Covers, calls-covered}
use Rattle.lane_history.proofs.Adds.{own_of}
use Rattle.lane_history.proofs.LaneAdds.{IsLane, is-lane}

-- the lane is that of this session
abbrev pub IsOf : {I D O P : Type 0} → ℕ → Lane I D O P → List ℕ → List (Lane I D O P) → Type 0
IsOf s lane [] lanes = ⊥
IsOf s lane (t ∷ sessions) [] = ⊥
IsOf s lane (t ∷ sessions) (l ∷ lanes) = ((t ≡ s) × (l ≡ lane)) ⊎ IsOf s lane sessions lanes

-- sessions that rise from a number are greater
pub rise-none : (s least : ℕ) (sessions : List ℕ) → RiseFrom least sessions → s ≤ least → times s sessions ≡ 0
rise-none s least [] rise le = refl
rise-none s least (t ∷ sessions) rise le = let a = rise-none s t sessions rise.1 (let lt = rise.0 in omega arith) in let b = one_other t s (λ e. let lt = rise.0 in omega arith) in omega arith

module _ {I D O P : Type 0} (w : ℕ) (origin : Origin) (rows : List InRow) (pass : Known) where
  -- an entry of a lane's own is no call of another session
  lane-quiet : (s t : ℕ) (lane : Lane I D O P) → HasPlayedLane w origin t (session_rows rows t) lane → IsPrefix lane.pass.seen pass.seen → s ≢ t → (p : ℕ) (e : Entry) → slice_get pass.seen p ≡ Some e → Owns lane.pass.own p → calls_of s (e ∷ []) ≡ []
  lane-quiet s t lane played seen apart p e at owns =
      let is : IsLane w origin t (session_rows rows t) lane = is-lane w origin t (session_rows rows t) lane played in
      let none : calls_of s (own_entries 0 lane.pass.own pass.seen) ≡ [] = ap (calls_of s) (own-seen lane.pass.own lane.pass.seen pass.seen is.below seen) ∙ is.others s apart in
      let here : p ≡ 0 + p = omega arith in
      quiet-at s 0 lane.pass.own pass.seen p e none at (subst (Owns lane.pass.own) here owns)

  lanes-quiet : (s : ℕ) (sessions : List ℕ) (lanes : List (Lane I D O P)) → HaveAllPlayed w origin rows sessions lanes → HaveSeen lanes pass → times s sessions ≡ 0 → (p : ℕ) (e : Entry) → slice_get pass.seen p ≡ Some e → 1 ≤ owned_by p lanes
      → calls_of s (e ∷ []) ≡ []
  lanes-quiet s [] [] played seen none p e at owned = absurd (omega arith)
  lanes-quiet s [] (lane ∷ lanes) played seen none p e at owned = absurd played
  lanes-quiet s (t ∷ sessions) [] played seen none p e at owned = absurd played
  lanes-quiet s (t ∷ sessions) (lane ∷ lanes) played seen none p e at owned = by_owner (lanes-quiet s sessions lanes played.1 seen.1 (omega arith) p e at) (owns-or-not p lane.pass.own)
    where
      apart : s ≢ t
      apart same = let o = one_same t s (sym same) in omega arith

      by_owner : (1 ≤ owned_by p lanes → calls_of s (e ∷ []) ≡ []) → OwnsOrNot p lane.pass.own → calls_of s (e ∷ []) ≡ []
      by_owner later (inl owns) = lane-quiet s t lane played.0 seen.0 apart p e at owns
      by_owner later (inr skips) = later (omega arith)

  -- a lane that covers its session's calls
  abbrev pub IsCovered : ℕ → List (Lane I D O P) → Lane I D O P → Type 0
  IsCovered s lanes lane = (p : ℕ) (e : Entry) → slice_get pass.seen p ≡ Some e → (Owns lane.pass.own p → 1 ≤ owned_by p lanes) × (1 ≤ owned_by p lanes → Owns lane.pass.own p ⊎ (calls_of s (e ∷ []) ≡ []))

  of-greater : (s least : ℕ) (lane : Lane I D O P) (sessions : List ℕ) (lanes : List (Lane I D O P)) → RiseFrom least sessions → IsOf s lane sessions lanes → least < s
  of-greater s least lane [] lanes rise of = absurd of
  of-greater s least lane (t ∷ sessions) [] rise of = absurd of
  of-greater s least lane (t ∷ sessions) (l ∷ lanes) rise (inl (same, is)) = let lt = rise.0 in omega arith
  of-greater s least lane (t ∷ sessions) (l ∷ lanes) rise (inr of) = let a = of-greater s t lane sessions lanes rise.1 of in let lt = rise.0 in omega arith

  covered : (s least : ℕ) (lane : Lane I D O P) (sessions : List ℕ) (lanes : List (Lane I D O P)) → HaveAllPlayed w origin rows sessions lanes → HaveSeen lanes pass → RiseFrom least sessions → IsOf s lane sessions lanes → IsCovered s lanes lane
  covered s least lane [] lanes played seen rise of = absurd of
  covered s least lane (t ∷ sessions) [] played seen rise of = absurd of
  covered s least lane (t ∷ sessions) (l ∷ lanes) played seen rise (inl (same, is)) = λ p e at. (
    (λ owns. let o : Owns l.pass.own p = subst (λ (k : Lane I D O P). Owns k.pass.own p) (sym is) owns in omega arith),
    (λ owned. by_owner p e at owned (owns-or-not p l.pass.own)),
  )
    where
      by_owner : (p : ℕ) (e : Entry) → slice_get pass.seen p ≡ Some e → 1 ≤ times p l.pass.own + owned_by p lanes → OwnsOrNot p l.pass.own → Owns lane.pass.own p ⊎ (calls_of s (e ∷ []) ≡ [])
      by_owner p e at owned (inl owns) = inl (subst (λ (k : Lane I D O P). Owns k.pass.own p) is owns)
      by_owner p e at owned (inr skips) = inr (lanes-quiet s sessions lanes played.1 seen.1 (rise-none s t sessions rise.1 (omega arith)) p e at (omega arith))
  covered s least lane (t ∷ sessions) (l ∷ lanes) played seen rise (inr of) = by_rest (covered s t lane sessions lanes played.1 seen.1 rise.1 of)
    where
      apart : s ≢ t
      apart same = let lt = of-greater s t lane sessions lanes rise.1 of in omega arith

      by_owner : (p : ℕ) (e : Entry) → slice_get pass.seen p ≡ Some e → 1 ≤ times p l.pass.own + owned_by p lanes → (1 ≤ owned_by p lanes → Owns lane.pass.own p ⊎ (calls_of s (e ∷ []) ≡ [])) → OwnsOrNot p l.pass.own
          → Owns lane.pass.own p ⊎ (calls_of s (e ∷ []) ≡ [])
      by_owner p e at owned later (inl owns) = inr (lane-quiet s t l played.0 seen.0 apart p e at owns)
      by_owner p e at owned later (inr skips) = later (omega arith)

      by_rest : IsCovered s lanes lane → IsCovered s (l ∷ lanes) lane
      by_rest rest p e at = (
        (λ owns. let a = (rest p e at).0 owns in omega arith),
        (λ owned. by_owner p e at owned (rest p e at).1 (owns-or-not p l.pass.own)),
      )

  -- a lane of these sessions was played, and its pass taken in
  pub record IsJoined (s : ℕ) (lane : Lane I D O P) : Type 0 where
    pub played : HasPlayedLane w origin s (session_rows rows s) lane
    pub seen : IsPrefix lane.pass.seen pass.seen

  pub joined-of : (s : ℕ) (lane : Lane I D O P) (sessions : List ℕ) (lanes : List (Lane I D O P)) → HaveAllPlayed w origin rows sessions lanes → HaveSeen lanes pass → IsOf s lane sessions lanes → IsJoined s lane
  joined-of s lane [] lanes played seen of = absurd of
  joined-of s lane (t ∷ sessions) [] played seen of = absurd of
  joined-of s lane (t ∷ sessions) (l ∷ lanes) played seen (inl (same, is)) = record {
    played = subst (λ (k : Lane I D O P). HasPlayedLane w origin s (session_rows rows s) k) is (subst (λ (r : ℕ). HasPlayedLane w origin r (session_rows rows r) l) same played.0);
    seen = subst (λ (k : Lane I D O P). IsPrefix k.pass.seen pass.seen) is seen.0;
  }
  joined-of s lane (t ∷ sessions) (l ∷ lanes) played seen (inr of) = joined-of s lane sessions lanes played.1 seen.1 of

  -- the calls of a lane's session are the lane's calls
  pub calls-of-lane : (s least : ℕ) (lane : Lane I D O P) (sessions : List ℕ) (lanes : List (Lane I D O P)) → HaveAllPlayed w origin rows sessions lanes → HaveSeen lanes pass → RiseFrom least sessions → IsOf s lane sessions lanes
      → ((p : ℕ) → times p pass.own ≡ owned_by p lanes) → calls_of s (own_of pass) ≡ calls_of s (own_of lane.pass)
  calls-of-lane s least lane sessions lanes played seen rise of owned =
      let joined = joined-of s lane sessions lanes played seen of in
      let is : IsLane w origin s (session_rows rows s) lane = is-lane w origin s (session_rows rows s) lane joined.played in
      calls-covered s 0 lane.pass.own pass.own pass.seen covers ∙ ap (calls_of s) (own-seen lane.pass.own lane.pass.seen pass.seen is.below joined.seen)
    where
      covers : Covers s 0 lane.pass.own pass.own pass.seen
      covers k e at =
          let here : k ≡ 0 + k = omega arith in
          let c = covered s least lane sessions lanes played seen rise of k e at in
          let o = owned k in
          subst (λ (p : ℕ). (Owns lane.pass.own p → Owns pass.own p) × (Owns pass.own p → Owns lane.pass.own p ⊎ (calls_of s (e ∷ []) ≡ []))) here
          ((λ owns. let a = c.0 owns in omega arith), (λ owns. c.1 (omega arith)))

  -- of a session without a lane there is none
  pub calls-of-none : (s : ℕ) (sessions : List ℕ) (lanes : List (Lane I D O P)) → HaveAllPlayed w origin rows sessions lanes → HaveSeen lanes pass → times s sessions ≡ 0
      → ((p : ℕ) → times p pass.own ≡ owned_by p lanes) → calls_of s (own_of pass) ≡ []
  calls-of-none s sessions lanes played seen none owned = calls-covered s 0 [] pass.own pass.seen covers ∙ ap (calls_of s) (own-none 0 [] pass.seen (λ p le. refl))
    where
      covers : Covers s 0 [] pass.own pass.seen
      covers k e at =
          let here : k ≡ 0 + k = omega arith in
          let o = owned k in
          subst (λ (p : ℕ). (Owns [] p → Owns pass.own p) × (Owns pass.own p → Owns [] p ⊎ (calls_of s (e ∷ []) ≡ []))) here
          ((λ owns. absurd (omega arith)), (λ owns. inr (lanes-quiet s sessions lanes played seen none k e at (omega arith))))

  -- a session that is named has a lane
  pub lane-of : (s : ℕ) (sessions : List ℕ) (lanes : List (Lane I D O P)) → HaveAllPlayed w origin rows sessions lanes → 0 < times s sessions → (lane : Lane I D O P) × IsOf s lane sessions lanes
  lane-of s [] lanes played has = absurd (omega arith)
  lane-of s (t ∷ sessions) [] played has = absurd played
  lane-of s (t ∷ sessions) (l ∷ lanes) played has = by_place (cases_eq t s) (lane-of s sessions lanes played.1)
    where
      by_place : (t ≡ s) ⊎ (t ≡ s → ⊥) → (0 < times s sessions → (lane : Lane I D O P) × IsOf s lane sessions lanes) → (lane : Lane I D O P) × IsOf s lane (t ∷ sessions) (l ∷ lanes)
      by_place (inl same) later = (l, inl (same, refl))
      by_place (inr apart) later = let o = one_other t s apart in let (lane, of) = later (omega arith) in (lane, inr of)

  -- a position that lanes own is of one of them
  pub owner-of : (p : ℕ) (sessions : List ℕ) (lanes : List (Lane I D O P)) → HaveAllPlayed w origin rows sessions lanes → 1 ≤ owned_by p lanes → (s : ℕ) × (lane : Lane I D O P) × IsOf s lane sessions lanes × Owns lane.pass.own p
  owner-of p [] [] played owned = absurd (omega arith)
  owner-of p [] (lane ∷ lanes) played owned = absurd played
  owner-of p (t ∷ sessions) [] played owned = absurd played
  owner-of p (t ∷ sessions) (l ∷ lanes) played owned = by_owner (owns-or-not p l.pass.own) (owner-of p sessions lanes played.1)
    where
      by_owner : OwnsOrNot p l.pass.own → (1 ≤ owned_by p lanes → (s : ℕ) × (lane : Lane I D O P) × IsOf s lane sessions lanes × Owns lane.pass.own p)
          → (s : ℕ) × (lane : Lane I D O P) × IsOf s lane (t ∷ sessions) (l ∷ lanes) × Owns lane.pass.own p
      by_owner (inl owns) later = (t, l, inl (refl, refl), owns)
      by_owner (inr skips) later = let (s, lane, of, owns) = later (omega arith) in (s, lane, inr of, owns)
