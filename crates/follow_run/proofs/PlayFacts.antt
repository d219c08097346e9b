-- A follower along turns.
use Rattle.std.proofs.Common.{◌≡◌, ◌⊎◌, inl, inr, ⊎_elim, ◌∙◌, ℕ, ◌+◌, ◌<◌, ◌≤◌, suc, Bool, true, false, List, [], ◌∷◌, ◌++◌, length, replicate, take, drop, Option, Some, is_some, Result, Ok, Err, refl, sym, ap, subst, arith, get_or, add-one, drop-cons}
use Rattle.std.specs.Prelude.{◌≢◌, IfErr, if◌then◌else◌, ◌==◌, ◌&&◌, nat_lt}
use Rattle.std.specs.Cmp.Derive.{both_true}
use Rattle.std.specs.Result.{IsErrAnd}
use Rattle.std.proofs.Math.Nat.{le-suc_iff}
use Rattle.std.proofs.Math.Seq.{take-length}
use Rattle.std.proofs.lemmas.Bool.{true≢false, and_parts, eqb-true, ltb-true, eq-eqb, lt-ltb}
use Rattle.std.proofs.lemmas.List.{take_more, append-nil, replicate-append-replicate}
use Rattle.causes.specs.Causes.{Rose}
use Rattle.disk_trait.specs.Drive.{Drive, HasNoMore, Made, MadeWell, KeepsLaws, SameFile}
use Rattle.disk_trait.specs.Moments.{LeavesNow, LeavesOnly}
use Rattle.disk_trait.proofs.Calls.{made-none, made-then}
use Rattle.disk_trait.proofs.Stretches.{started}
use Rattle.split_log.specs.LogText.{IsLog}
use Rattle.split_log.specs.LogView.{most_cells}
use Rattle.cell_format.specs.Spelling.{newest}
use Rattle.cell_format.specs.declared.cell.Cell.{Cell}
use Rattle.split_log.proofs.Commits.{joined}
use Rattle.log_state.specs.Recovers.{Recovers}
use Rattle.recovery.specs.declared.seen.OpenFault.{OpenFault}
use Rattle.recovery.specs.declared.seen.OpenFault.TheVariants as open_fault
use Rattle.recovery.specs.Wanted.{MayTell}
use Rattle.recovery.specs.Calls.{AllWentWell, StopsAtFault}
use Rattle.recovery.proofs.CallLemmas.{well-none, well-then, stops-then, stops-refused}
use Rattle.follower.specs.declared.faults.FollowFault.{FollowFault}
use Rattle.follower.specs.declared.faults.FollowFault.TheVariants as fault
use Rattle.follower.specs.declared.turns.Report.{Report}
use Rattle.follower.specs.declared.turns.Turn.{Turn}
use Rattle.follower.specs.declared.turns.Turn.TheVariants.{Send, Arrive, Ack, Restart}
use Rattle.follower.specs.Faults.{IsFree, is_drives, most_left}
use Rattle.follower.specs.Follow.{Following, after_turn, after_turns, cell_of, opened_with, reports, report_of, IsSound, AllNameSent, NamesSent, AreTurns, packets_after}
use Rattle.follower.specs.Holding.{FollowerView, HoldsFirst, LeavesFirst, RecoversFirst, IsUntold}
use Rattle.follower.specs.Turning.{CallsOfRefused, IsTurnCause, MakesCalls, MakesTurn, FailsTurn, BringsNext}
use Rattle.follower.proofs.Machine.{held-grows, packets-after, acks-after}
use Rattle.follower.proofs.Prefixes.{log-recovers, first-log}
use Rattle.follower.proofs.TurnLemmas.{told-before}
use Rattle.run_ends.specs.Status.{status_of}
use Rattle.follow_run.specs.Replica.{machine_at, calls_at, calls_of, calls_of_turns, AreLast, IsStop, LeavesFrom, follow_refusal, most_behind}
use Rattle.follow_run.specs.Playing.{PassesTurns, HasPlayed, LosesTurn, PlaysAll, StopsPlaying}

-- A refusal, passed on.
pub passed-on : {T E : Type 0} (result : Result T E) (e : E) (P : E → Type 0) → IsErrAnd result (λ x. x ≡ e) → P e → IfErr result P
passed-on (Ok x) e P is holds = tt
passed-on (Err f) e P is holds = subst P (sym is) holds

-- One more turn.
after-append : (count : ℕ) (s : Following) (turns : List Turn) (t : Turn) → after_turns count s (turns ++ t ∷ []) ≡ after_turn count (after_turns count s turns) t
after-append count s [] t = refl
after-append count s (u ∷ turns) t = after-append count (after_turn count s u) turns t

reports-append : (count : ℕ) (s : Following) (turns : List Turn) (t : Turn)
    → reports count s (turns ++ t ∷ []) ≡ reports count s turns ++ report_of (after_turn count (after_turns count s turns) t) ∷ []
reports-append count s [] t = refl
reports-append count s (u ∷ turns) t = ap (λ (l : List Report). report_of (after_turn count s u) ∷ l) (reports-append count (after_turn count s u) turns t)

calls-append : (count : ℕ) (s : Following) (turns : List Turn) (t : Turn)
    → calls_of_turns count s (turns ++ t ∷ []) ≡ calls_of_turns count s turns + calls_of count (after_turns count s turns) t
calls-append count s [] t = omega arith
calls-append count s (u ∷ turns) t = omega (arith, calls-append count (after_turn count s u) turns t)

-- No call, and calls after calls.
none-made : (old new : Drive) → HasNoMore old.calls new.calls → Made [] old new
none-made old new none all told = (all, none all told, sym (append-nil all))

-- A number of calls, and none before them.
pub none-before : (n : ℕ) → n ≡ 0 + n
none-before n = omega arith

pub well-more : (n m : ℕ) (old mid new : Drive) → MadeWell n old mid → MadeWell m mid new → MadeWell (n + m) old new
well-more n m old mid new first last =
    subst (λ (l : List Bool). Made l old new) (replicate-append-replicate n m true) (made-then (replicate n true) (replicate m true) old mid new first last)

-- The calls of a turn.
module _ (count : ℕ) (s : Following) (a b : Drive) where
  arrive-calls : (packet : ℕ) → MakesCalls count s (Arrive packet) a b → MadeWell (calls_of count s (Arrive packet)) a b
  arrive-calls packet makes = of ((cell_of packet s == s.held) && nat_lt s.held count) refl
    where
      of : (brings : Bool) → ((cell_of packet s == s.held) && nat_lt s.held count) ≡ brings → MadeWell (if brings then 4 else 0) a b
      of true is = let parts = and_parts (cell_of packet s == s.held) (nat_lt s.held count) is in makes.0 (eqb-true (cell_of packet s) s.held parts.0, ltb-true s.held count parts.1)
      of false is =
          none-made a b (makes.1 (λ brings. true≢false (sym (both_true (eq-eqb (cell_of packet s) s.held brings.0) (lt-ltb s.held count brings.1)) ∙ is)))

  turn-calls : (t : Turn) (bytes : List ℕ) → a.bytes ≡ Some bytes → MakesCalls count s t a b → MadeWell (calls_of count s t) a b
  turn-calls (Send cell) bytes told makes = none-made a b (makes.1 (λ brings. absurd brings))
  turn-calls (Arrive packet) bytes told makes = arrive-calls packet makes
  turn-calls (Ack number) bytes told makes = none-made a b (makes.1 (λ brings. absurd brings))
  turn-calls Restart bytes told makes = ⊎_elim (λ one. one) (λ more. absurd (more.0 bytes told)) makes

  turn-well : (t : Turn) → MakesCalls count s t a b → AllWentWell a b
  turn-well (Send cell) makes = well-none a b (makes.1 (λ brings. absurd brings))
  turn-well (Arrive packet) makes = record { count = calls_of count s (Arrive packet); calls = arrive-calls packet makes }
  turn-well (Ack number) makes = well-none a b (makes.1 (λ brings. absurd brings))
  turn-well Restart makes = ⊎_elim (λ one. record { count = 1; calls = one }) (λ more. record { count = 3; calls = more.1 }) makes

-- A turn that wasn't made made no call after one that failed.
refused-stops : (why : FollowFault) (a b : Drive) → CallsOfRefused why a b → StopsAtFault a b
refused-stops (fault.Strange cell) a b made = ⊎_elim (λ one. inl (record { count = 1; calls = one })) (λ three. inl (record { count = 3; calls = three })) made
refused-stops (fault.Log cause) a b made = stops-refused cause a b made
refused-stops (fault.Append cell) a b made = inr (record { went_well = made.0; calls = made.1.calls })
refused-stops fault.Disk a b made = absurd made
refused-stops fault.Memory a b made = inl (well-none a b made)

-- A fault whose refusal hasn't the status of drives isn't a drive's.
pub drives-told : (why : FollowFault) → status_of (follow_refusal why) ≢ 7 → is_drives why ≡ false
drives-told (fault.Strange cell) other = refl
drives-told (fault.Log open_fault.NotLog) other = refl
drives-told (fault.Log (open_fault.OldLog version width)) other = refl
drives-told (fault.Log (open_fault.Damaged number cause)) other = refl
drives-told (fault.Log open_fault.Disk) other = absurd (other refl)
drives-told (fault.Log open_fault.Memory) other = refl
drives-told (fault.Log (open_fault.TooLong limit)) other = refl
drives-told (fault.Append cell) other = absurd (other refl)
drives-told fault.Disk other = absurd (other refl)
drives-told fault.Memory other = refl

-- No turn loses a cell.
held-rises : (count : ℕ) (s : Following) (t : Turn) → s.held ≤ (after_turn count s t).held
held-rises count s (Send cell) = omega arith
held-rises count s (Arrive packet) = held-grows count (cell_of packet s) s.held
held-rises count s (Ack number) = omega arith
held-rises count s Restart = omega arith

-- A packet that carries the next cell carries one that exists.
brings-below : (count : ℕ) (s : Following) (t : Turn) → BringsNext count s t → s.held < count
brings-below count s (Send cell) next = absurd next
brings-below count s (Arrive packet) next = next.1
brings-below count s (Ack number) next = absurd next
brings-below count s Restart next = absurd next

-- How many cells a crash leaves after a fault, in terms of its refusal.
left-behind : (why : FollowFault) (held : ℕ) → most_left why held ≡ most_behind (follow_refusal why) held
left-behind (fault.Strange cell) held = refl
left-behind (fault.Log open_fault.NotLog) held = refl
left-behind (fault.Log (open_fault.OldLog version width)) held = refl
left-behind (fault.Log (open_fault.Damaged number cause)) held = refl
left-behind (fault.Log open_fault.Disk) held = refl
left-behind (fault.Log open_fault.Memory) held = refl
left-behind (fault.Log (open_fault.TooLong limit)) held = refl
left-behind (fault.Append cell) held = refl
left-behind fault.Disk held = refl
left-behind fault.Memory held = refl

-- At most `made`, or one more.
up_to : (n made : ℕ) → n ≤ made + 1 → (n ≤ made) ⊎ (n ≡ made + 1)
up_to n made le = let h : n ≤ suc made = omega arith in ⊎_elim (λ below. inl below) (λ last. inr (last ∙ sym (add-one made))) (le-suc_iff.0 h)

module _ (count first : ℕ) (turns : List Turn) (made : ℕ) (d : Turn) (below : made < length turns) where
  pub machine-more : machine_at count first turns (made + 1) ≡ after_turn count (machine_at count first turns made) (get_or turns made d)
  machine-more = ap (λ (l : List Turn). after_turns count (opened_with first) l) (take_more turns made d below) ∙ after-append count (opened_with first) (take made turns) (get_or turns made d)

  calls-more : calls_at count first turns (made + 1) ≡ calls_at count first turns made + calls_of count (machine_at count first turns made) (get_or turns made d)
  calls-more = ap (λ (l : List Turn). calls_of_turns count (opened_with first) l) (take_more turns made d below) ∙ calls-append count (opened_with first) (take made turns) (get_or turns made d)

  pub reports-more : reports count (opened_with first) (take (made + 1) turns)
      ≡ reports count (opened_with first) (take made turns) ++ report_of (machine_at count first turns (made + 1)) ∷ []
  reports-more =
      ap (λ (l : List Turn). reports count (opened_with first) l) (take_more turns made d below) ∙ reports-append count (opened_with first) (take made turns) (get_or turns made d)
      ∙ ap (λ (s : Following). reports count (opened_with first) (take made turns) ++ report_of s ∷ []) (sym machine-more)

  pub next-turn : drop made turns ≡ get_or turns made d ∷ drop (made + 1) turns
  next-turn = drop-cons turns made d below ∙ ap (λ (n : ℕ). get_or turns made d ∷ drop n turns) (sym (add-one made))

-- A drive's bytes stay known or unknown.
told-after : (a b : Option (List ℕ)) (bytes : List ℕ) → is_some b ≡ is_some a → a ≡ Some bytes → (now : List ℕ) × (b ≡ Some now)
told-after a b bytes same told = told-before b a bytes (sym same) told

module _ {D : Type 0} (drive : D → Drive) (w : ℕ) (cells : List Cell) (first : ℕ) (turns : List Turn) (start : Drive) where
  -- What a crash leaves now, exactly.
  pub exactly : (f : FollowerView D) → f.width ≡ w → HoldsFirst drive cells f → (bytes : List ℕ) → (drive f.disk).bytes ≡ Some bytes → LeavesNow (drive f.disk) (Recovers w (take f.state.held cells))
  exactly f width holds bytes told = subst (λ (v : ℕ). LeavesNow (drive f.disk) (Recovers v (take f.state.held cells))) width (log-recovers f.width cells holds.leading.legal f.state.held (drive f.disk) (holds.log bytes told))

  -- At least `least`, and at most `most` of them, in the newest version.
  leaves-at : (f : FollowerView D) → f.width ≡ w → HoldsFirst drive cells f → (bytes : List ℕ) → (drive f.disk).bytes ≡ Some bytes → (least most : ℕ) → least ≤ f.state.held → f.state.held ≤ most
      → LeavesNow (drive f.disk) (RecoversFirst w cells least most)
  leaves-at f width holds bytes told least most low high =
      subst (λ (v : ℕ). LeavesNow (drive f.disk) (RecoversFirst v cells least most)) width
      (first-log f.width cells holds.leading.legal f.state.held least most low high (drive f.disk) (holds.log bytes told))

  -- The text of these cells.
  log-at : (f : FollowerView D) → f.width ≡ w → HoldsFirst drive cells f → (bytes : List ℕ) → (drive f.disk).bytes ≡ Some bytes → IsLog w (take f.state.held cells) (drive f.disk)
  log-at f width holds bytes told = subst (λ (v : ℕ). IsLog v (take f.state.held cells) (drive f.disk)) width (holds.log bytes told)

  wider : (low least most : ℕ) (c : List ℕ) → least ≤ low → most ≤ length cells → RecoversFirst w cells low most c → RecoversFirst w cells least (length cells) c
  wider low least most c le few is = record { count = is.count; least_is = omega (arith, is.least_is, le); most_is = omega (arith, is.most_is, few); recovers = is.recovers; version = is.version }

  -- A follower that was just opened.
  pub played-none : (f : FollowerView D) → f.state ≡ opened_with first → f.width ≡ w → HoldsFirst drive cells f → AreTurns turns → start ≡ drive f.disk → KeepsLaws (drive f.disk) → HasPlayed drive w cells first turns 0 start f
  played-none f state width holds are here laws =
      let held : f.state.held ≡ first = ap (λ (s : Following). s.held) state in
      let sound : IsSound (opened_with first) = subst (λ (s : Following). IsSound s) state holds.sound in
      let only : (n : ℕ) → n ≤ 0 → 0 ≡ n = λ n le. omega arith in
      record {
        state = state;
        width = width;
        holds = holds;
        sound = λ n le. subst (λ (k : ℕ). IsSound (machine_at (length cells) first turns k)) (only n le) sound;
        least = λ n le. subst (λ (k : ℕ). (machine_at (length cells) first turns k).held ≤ f.state.held) (only n le) (omega (arith, held));
        sent = subst (λ (s : Following). AllNameSent (length s.packets) (length s.acks) turns) (sym state) are.each;
        told = ap (λ (e : Drive). is_some e.bytes) (sym here);
        calm = ap (λ (e : Drive). e.faults) (sym here);
        well = subst (λ (e : Drive). AllWentWell e (drive f.disk)) (sym here) (well-none (drive f.disk) (drive f.disk) (λ all told. told));
        calls = λ bytes told. subst (λ (e : Drive). MadeWell 0 e (drive f.disk)) (sym here) (made-none (drive f.disk));
        file = subst (λ (e : Drive). SameFile e (drive f.disk)) (sym here) (λ all told. told);
        passes = λ bytes told.
            let told_here : (drive f.disk).bytes ≡ Some bytes = subst (λ (e : Drive). e.bytes ≡ Some bytes) here told in
            let now : LeavesNow (drive f.disk) (RecoversFirst w cells first (length cells)) = leaves-at f width holds bytes told_here first (length cells) (omega (arith, held)) holds.few in
            subst (λ (e : Drive). PassesTurns w cells first turns 0 e (drive f.disk)) (sym here) (record {
              whole = started (drive f.disk) (RecoversFirst w cells first (length cells)) laws now;
              from = λ n le. subst (λ (k : ℕ). LeavesFrom w cells (machine_at (length cells) first turns k).held (drive f.disk)) (only n le) (record {
                moment = (drive f.disk).clock;
                ended = omega arith;
                since = λ c left. now c (laws.only_now c left);
              });
            });
      }

  module _ (made : ℕ) (f : FollowerView D) (has : HasPlayed drive w cells first turns made start f) where
    told_now : (bytes : List ℕ) → start.bytes ≡ Some bytes → (now : List ℕ) × ((drive f.disk).bytes ≡ Some now)
    told_now bytes told = told-after start.bytes (drive f.disk).bytes bytes has.told told

    -- What a stretch after these turns leaves.
    passes-on : (new : Drive) (most : ℕ) → most ≤ length cells → LeavesFirst f.width cells f.state.held most (drive f.disk) new → (bytes : List ℕ) → start.bytes ≡ Some bytes → PassesTurns w cells first turns made start new
    passes-on new most few leaves bytes told =
        let now = told_now bytes told in
        let begun = has.passes bytes told in
        let next : LeavesOnly (drive f.disk) new (RecoversFirst w cells f.state.held most) = subst (λ (v : ℕ). LeavesOnly (drive f.disk) new (RecoversFirst v cells f.state.held most)) has.width (leaves now.0 now.1) in
        record {
          whole = joined start (drive f.disk) new (RecoversFirst w cells first (length cells)) (RecoversFirst w cells f.state.held most) (RecoversFirst w cells first (length cells)) (λ c is. is)
              (λ c is. wider f.state.held first most c (has.least 0 (omega arith)) few is) begun.whole next;
          from = λ n le.
              let earlier = begun.from n le in
              record {
                moment = earlier.moment;
                ended = omega (arith, earlier.ended, next.later);
                since = λ c left. ⊎_elim (λ was. earlier.since c was) (λ is. wider f.state.held (machine_at (length cells) first turns n).held most c (has.least n le) few is) (next.before earlier.moment c earlier.ended left);
              };
        }

    pub turn-sent : (d : Turn) → made < length turns → NamesSent (length f.state.packets) (length f.state.acks) (get_or turns made d)
    turn-sent d below = (subst (λ (l : List Turn). AllNameSent (length f.state.packets) (length f.state.acks) l) (next-turn (length cells) first turns made d below) has.sent).0

    pub played-more : (g : FollowerView D) (d : Turn) → made < length turns → MakesTurn drive cells (get_or turns made d) f g → KeepsLaws (drive g.disk) → HasPlayed drive w cells first turns (made + 1) start g
    played-more g d below makes laws =
        let t : Turn = get_or turns made d in
        let count : ℕ = length cells in
        let state : g.state ≡ machine_at count first turns (made + 1) =
        makes.turns.state ∙ ap (λ (s : Following). after_turn count s t) has.state ∙ sym (machine-more count first turns made d below) in
        let more : f.state.held ≤ g.state.held = subst (λ (s : Following). f.state.held ≤ s.held) (sym makes.turns.state) (held-rises count f.state t) in
        let sent = subst (λ (l : List Turn). AllNameSent (length f.state.packets) (length f.state.acks) l) (next-turn count first turns made d below) has.sent in
        record {
          state = state;
          width = makes.turns.width ∙ has.width;
          holds = makes.turns.holds;
          sound = λ n le. ⊎_elim (λ earlier. has.sound n earlier) (λ last. subst (λ (k : ℕ). IsSound (machine_at count first turns k)) (sym last) (subst (λ (s : Following). IsSound s) state makes.turns.holds.sound)) (up_to n made le);
          least = λ n le.
              let last_held : (machine_at count first turns (made + 1)).held ≤ g.state.held = subst (λ (s : Following). s.held ≤ g.state.held) state (omega arith) in
              ⊎_elim (λ earlier. omega (arith, has.least n earlier, more)) (λ last. subst (λ (k : ℕ). (machine_at count first turns k).held ≤ g.state.held) (sym last) last_held) (up_to n made le);
          sent =
              subst (λ (s : Following). AllNameSent (length s.packets) (length s.acks) (drop (made + 1) turns)) (sym makes.turns.state)
              (subst (λ (p : ℕ). AllNameSent p (length (after_turn count f.state t).acks) (drop (made + 1) turns)) (sym (packets-after count f.state t))
              (subst (λ (a : ℕ). AllNameSent (packets_after (length f.state.packets) t) a (drop (made + 1) turns)) (sym (acks-after count f.state t)) sent.1));
          told = makes.turns.told ∙ has.told;
          calm = makes.turns.calm ∙ has.calm;
          well = well-then start (drive f.disk) (drive g.disk) has.well (turn-well count f.state (drive f.disk) (drive g.disk) t makes.turns.calls);
          calls = λ bytes told.
              let before = told_now bytes told in
              let of_turn : MadeWell (calls_of count (machine_at count first turns made) t) (drive f.disk) (drive g.disk) =
              subst (λ (s : Following). MadeWell (calls_of count s t) (drive f.disk) (drive g.disk)) has.state (turn-calls count f.state (drive f.disk) (drive g.disk) t before.0 before.1 makes.turns.calls) in
              subst (λ (n : ℕ). MadeWell n start (drive g.disk)) (sym (calls-more count first turns made d below))
              (well-more (calls_at count first turns made) (calls_of count (machine_at count first turns made) t) start (drive f.disk) (drive g.disk) (has.calls bytes told) of_turn);
          file = λ all told. has.file all (makes.turns.file all told);
          passes = λ bytes told.
              let before = told_now bytes told in
              let here = told-after (drive f.disk).bytes (drive g.disk).bytes before.0 makes.turns.told before.1 in
              let on = passes-on (drive g.disk) g.state.held makes.turns.holds.few makes.any_moment bytes told in
              let least_held : (machine_at count first turns (made + 1)).held ≤ g.state.held = subst (λ (s : Following). s.held ≤ g.state.held) state (omega arith) in
              let now = leaves-at g (makes.turns.width ∙ has.width) makes.turns.holds here.0 here.1 (machine_at count first turns (made + 1)).held count least_held makes.turns.holds.few in
              record {
                whole = on.whole;
                from = λ n le. ⊎_elim (λ earlier. on.from n earlier)
                    (λ last. subst (λ (k : ℕ). LeavesFrom w cells (machine_at count first turns k).held (drive g.disk)) (sym last) (record {
                      moment = (drive g.disk).clock;
                      ended = omega arith;
                      since = λ c left. now c (laws.only_now c left);
                    }))
                    (up_to n made le);
              };
        }

    -- The turns end here.
    pub played-all : (told : List Report) → made ≡ length turns → told ≡ reports (length cells) (opened_with first) (take made turns) → PlaysAll w cells first turns start (drive f.disk) told
    played-all told end are =
        let count : ℕ = length cells in
        record {
          reports_are = are ∙ ap (λ (l : List Turn). reports count (opened_with first) l) (ap (λ n. take n turns) end ∙ take-length turns);
          sound = subst (λ (k : ℕ). (n : ℕ) → n ≤ k → IsSound (machine_at count first turns n)) end has.sound;
          passes = λ bytes told. subst (λ (k : ℕ). PassesTurns w cells first turns k start (drive f.disk)) end (has.passes bytes told);
          exactly = λ bytes told.
              let here = told_now bytes told in
              subst (λ (k : ℕ). LeavesNow (drive f.disk) (Recovers w (take (machine_at count first turns k).held cells))) end
              (subst (λ (s : Following). LeavesNow (drive f.disk) (Recovers w (take s.held cells))) has.state (exactly f has.width has.holds here.0 here.1));
          log = λ bytes told.
              let here = told_now bytes told in
              subst (λ (k : ℕ). IsLog w (take (machine_at count first turns k).held cells) (drive f.disk)) end
              (subst (λ (s : Following). IsLog w (take s.held cells) (drive f.disk)) has.state (log-at f has.width has.holds here.0 here.1));
          calm = has.calm;
          well = has.well;
          calls = λ bytes told. subst (λ (k : ℕ). MadeWell (calls_at count first turns k) start (drive f.disk)) end (has.calls bytes told);
          file = has.file;
        }

    -- The next turn isn't made.
    module _ (d : Turn) (below : made < length turns) (disk : D) (laws : KeepsLaws (drive disk)) where
      at_now : drop made turns ≡ get_or turns made d ∷ drop (made + 1) turns
      at_now = next-turn (length cells) first turns made d below

      rose_since : Rose (drive f.disk).faults (drive disk).faults → Rose start.faults (drive disk).faults
      rose_since rose = subst (λ (n : ℕ). Rose n (drive disk).faults) has.calm rose

      untold_since : IsUntold (drive f.disk) → IsUntold start
      untold_since untold bytes told = let now = told_now bytes told in untold now.0 now.1

      opens_again : get_or turns made d ≡ Restart → (later : List Turn) × (drop made turns ≡ Restart ∷ later)
      opens_again is = (drop (made + 1) turns, at_now ∙ ap (λ (u : Turn). u ∷ drop (made + 1) turns) is)

      stop-cause : (why : FollowFault) → IsTurnCause drive cells (get_or turns made d) f disk why → ((e : OpenFault) → why ≡ fault.Log e → MayTell newest (Some w) most_cells e)
          → IsStop w (length cells) f.state (drop made turns) start (drive disk) (follow_refusal why)
      stop-cause (fault.Strange cell) is may = ((opens_again is.0, untold_since is.1), omega (arith, is.2.2))
      stop-cause (fault.Log open_fault.Disk) is may = (opens_again is.0, rose_since is.1)
      stop-cause (fault.Log open_fault.Memory) is may = tt
      stop-cause (fault.Log open_fault.NotLog) is may = (opens_again is.0, untold_since is.1)
      stop-cause (fault.Log (open_fault.OldLog version width)) is may = ((opens_again is.0, untold_since is.1), may (open_fault.OldLog version width) refl)
      stop-cause (fault.Log (open_fault.Damaged number cause)) is may = ((opens_again is.0, untold_since is.1), may (open_fault.Damaged number cause) refl)
      stop-cause (fault.Log (open_fault.TooLong limit)) is may = (opens_again is.0, untold_since is.1)
      stop-cause (fault.Append cell) is may = ((get_or turns made d, drop (made + 1) turns, at_now, is.0), is.1, rose_since is.2)
      stop-cause fault.Disk is may = absurd is
      stop-cause fault.Memory is may = tt

      few-left : (why : FollowFault) → IsTurnCause drive cells (get_or turns made d) f disk why → most_left why f.state.held ≤ length cells
      few-left (fault.Strange cell) is = has.holds.few
      few-left (fault.Log cause) is = has.holds.few
      few-left (fault.Append cell) is = let next = brings-below (length cells) f.state (get_or turns made d) is.0 in omega (arith, next)
      few-left fault.Disk is = absurd is
      few-left fault.Memory is = has.holds.few

      free_since : (why : FollowFault) → IsFree (drive f.disk) (drive disk) why → IsFree start (drive disk) why
      free_since why (inl memory) = inl memory
      free_since why (inr (inl memory)) = inr (inl memory)
      free_since why (inr (inr rose)) = inr (inr (rose_since rose))

      -- The results of its calls, if the bytes are known.
      last-calls : (why : FollowFault) (bytes : List ℕ) → (drive f.disk).bytes ≡ Some bytes → IsTurnCause drive cells (get_or turns made d) f disk why → CallsOfRefused why (drive f.disk) (drive disk)
          → (last : List Bool) × AreLast (follow_refusal why) last × Made last (drive f.disk) (drive disk)
      last-calls (fault.Strange cell) bytes told is calls = absurd (is.1 bytes told)
      last-calls (fault.Log open_fault.Disk) bytes told is calls =
          ⊎_elim (λ one. (true ∷ [], inl refl, one)) (λ (k, stops). (replicate k true ++ false ∷ [], inr (k, stops.few, refl), stops.calls)) calls.disk
      last-calls (fault.Log open_fault.Memory) bytes told is calls = (true ∷ [], inr refl, calls.other (λ e. cc e))
      last-calls (fault.Log open_fault.NotLog) bytes told is calls = absurd (is.1 bytes told)
      last-calls (fault.Log (open_fault.OldLog version width)) bytes told is calls = absurd (is.1 bytes told)
      last-calls (fault.Log (open_fault.Damaged number cause)) bytes told is calls = absurd (is.1 bytes told)
      last-calls (fault.Log (open_fault.TooLong limit)) bytes told is calls = absurd (is.1 bytes told)
      last-calls (fault.Append cell) bytes told is calls = (replicate calls.0 true ++ false ∷ [], (calls.0, calls.1.few, refl), calls.1.calls)
      last-calls fault.Disk bytes told is calls = absurd is
      last-calls fault.Memory bytes told is calls = ([], inl refl, none-made (drive f.disk) (drive disk) calls)

      stopped : (why : FollowFault) → FailsTurn drive cells (get_or turns made d) f disk why → ((bytes : List ℕ) → (drive f.disk).bytes ≡ Some bytes → IsFree (drive f.disk) (drive disk) why)
          → StopsPlaying w cells first turns start (drive disk) why
      stopped why fails free =
          let count : ℕ = length cells in
          record {
            made = made;
            part = omega arith;
            stops = record {
              cause = subst (λ (s : Following). IsStop w count s (drop made turns) start (drive disk) (follow_refusal why)) has.state
                  (stop-cause why fails.refused.cause (λ e is. subst (λ (v : ℕ). MayTell newest (Some v) most_cells e) has.width (fails.refused.may e is)));
              leaves = λ bytes told c left.
                  let now = told_now bytes told in
                  let leaves = fails.any_moment now.0 now.1 in
                  let is : RecoversFirst f.width cells f.state.held (most_left why f.state.held) c = leaves.each c (laws.counts_now (drive f.disk).clock c leaves.later left) in
                  subst (λ (s : Following). RecoversFirst w cells s.held (most_behind (follow_refusal why) s.held) c) has.state
                  (subst (λ (n : ℕ). RecoversFirst w cells f.state.held n c) (left-behind why f.state.held) (subst (λ (v : ℕ). RecoversFirst v cells f.state.held (most_left why f.state.held) c) has.width is));
              log = λ bytes told other.
                  let now = told_now bytes told in
                  let log = fails.refused.log (drives-told why other) now.0 now.1 in
                  subst (λ (s : Following). IsLog w (take s.held cells) (drive disk)) has.state (subst (λ (v : ℕ). IsLog v (take f.state.held cells) (drive disk)) has.width log);
              calls = λ bytes told.
                  let now = told_now bytes told in
                  let (last, are, calls) = last-calls why now.0 now.1 fails.refused.cause fails.refused.calls in (
                    last,
                    are,
                    subst (λ (n : ℕ). Made (replicate n true ++ last) start (drive disk)) (none-before (calls_at count first turns made))
                        (made-then (replicate (calls_at count first turns made) true) last start (drive f.disk) (drive disk) (has.calls bytes told) calls),
                  );
            };
            sound = has.sound;
            passes = λ bytes told. passes-on (drive disk) (most_left why f.state.held) (few-left why fails.refused.cause) fails.any_moment bytes told;
            calm = λ quiet. fails.refused.calm quiet ∙ has.calm;
            free = λ bytes told. let now = told_now bytes told in free_since why (free now.0 now.1);
            later = omega (arith, has.calm, fails.refused.later);
            calls = stops-then start (drive f.disk) (drive disk) has.well (refused-stops why (drive f.disk) (drive disk) fails.refused.calls);
            file = λ all told. has.file all (fails.refused.file all told);
          }

      untold_report : (g : FollowerView D) → g.disk ≡ disk → MakesTurn drive cells (get_or turns made d) f g → StopsPlaying w cells first turns start (drive disk) fault.Memory
      untold_report g same makes =
          let count : ℕ = length cells in
          let after = played-more g d below makes (subst (λ (e : D). KeepsLaws (drive e)) (sym same) laws) in
          subst (λ (e : D). StopsPlaying w cells first turns start (drive e) fault.Memory) same (record {
            made = made + 1;
            part = omega arith;
            stops = record {
              cause = tt;
              leaves = λ bytes told c left.
                  let now = told-after start.bytes (drive g.disk).bytes bytes after.told told in
                  subst (λ (s : Following). RecoversFirst w cells s.held s.held c) after.state (leaves-at g after.width after.holds now.0 now.1 g.state.held g.state.held (omega arith) (omega arith) c left);
              log = λ bytes told other.
                  let now = told-after start.bytes (drive g.disk).bytes bytes after.told told in
                  subst (λ (s : Following). IsLog w (take s.held cells) (drive g.disk)) after.state (log-at g after.width after.holds now.0 now.1);
              calls = λ bytes told.
                  let n : ℕ = calls_at count first turns (made + 1) in (
                    [],
                    inl refl,
                    subst (λ (k : ℕ). Made (replicate k true ++ []) start (drive g.disk)) (none-before n)
                        (subst (λ (l : List Bool). Made l start (drive g.disk)) (sym (append-nil (replicate n true))) (after.calls bytes told)),
                  );
            };
            sound = after.sound;
            passes = after.passes;
            calm = λ quiet. after.calm;
            free = λ bytes told. inl refl;
            later = omega (arith, after.calm);
            calls = inl after.well;
            file = after.file;
          })

      pub turn-lost : (why : FollowFault) → LosesTurn drive cells (get_or turns made d) f disk why → StopsPlaying w cells first turns start (drive disk) why
      turn-lost why loses = ⊎_elim (λ fails. stopped why fails loses.free)
          (λ (g, same, memory, makes). subst (λ (e : FollowFault). StopsPlaying w cells first turns start (drive disk) e) (sym memory) (untold_report g same makes)) loses.why
