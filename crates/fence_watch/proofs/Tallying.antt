-- A tally that follows the cells of a log continues to follow them.
use Rattle.std.proofs.Common.{◌≡◌, ℕ, zero, suc, ◌+◌, ◌-◌, ◌≤◌, ◌<◌, length, Bool, true, false, List, [], ◌∷◌, ◌++◌, map, Option, Some, None, refl, sym, ◌∙◌, ap, subst, arith, cond, ◌==◌, ◌||◌, not, append_assoc, append-nil, take, drop}
use Rattle.std.specs.Prelude.{nat_le, nat_lt}
use Rattle.std.specs.Option.{option_map_or}
use Rattle.std.proofs.lemmas.List.{take-append-le, take_all}
use Rattle.std.proofs.lemmas.Bool.{lt-ltb, eqb-true}
use Rattle.std.proofs.lemmas.Bool.Decides.{nat_tests}
use Rattle.zorder.specs.declared.points.Point.{Point}
use Rattle.zorder.specs.Region.{has_point}
use Rattle.cell_format.specs.declared.cell.Cell.{Cell}
use Rattle.cell_format.specs.declared.cell.Cell.TheVariants as cell
use Rattle.plain_list.specs.declared.world.Member.{Member}
use Rattle.plain_list.specs.declared.world.Stamped.{Stamped}
use Rattle.plain_list.specs.declared.ops.Answer.TheVariants.{Done, Present, Full, Moved, Stale, Gone, Absent}
use Rattle.plain_list.specs.Places.{IsRising, IsAbove}
use Rattle.plain_list.specs.World.{World, places_of, position_of, is_full, most_members}
use Rattle.plain_list.specs.Answer.{with_member, with_moved, without, is_change, moved_or_stale}
use Rattle.plain_list.proofs.Worlds.{length-with_member, length-with_moved}
use Rattle.log_state.specs.Recovers.{state_of}
use Rattle.recovery.specs.declared.walked.Walked.{Walked}
use Rattle.recovery.specs.Walks.{object_of, place_in, IsNextWalked}
use Rattle.fence_watch.specs.declared.fences.Fence.{Fence}
use Rattle.fence_watch.specs.declared.fences.Event.{Event}
use Rattle.fence_watch.specs.declared.counts.FenceCount.{FenceCount}
use Rattle.fence_watch.specs.declared.passages.Chart.{Chart}
use Rattle.fence_watch.specs.declared.passages.Pair.{Pair}
use Rattle.fence_watch.specs.declared.passages.Went.{Went}
use Rattle.fence_watch.specs.Fences.{lies_in, inside_of, most_fences}
use Rattle.fence_watch.specs.Crossings.{world_behind, world_after_cells, crossings_of, crossings_by, IsNextFrom}
use Rattle.fence_watch.specs.Marks.{filled}
use Rattle.fence_watch.specs.Passages.{along, turn, turns_of, count_turns, events_along, turn_at, all_turns, Charts, ShowsPassage}
use Rattle.fence_watch.specs.Guards.{AreRising}
use Rattle.fence_watch.specs.Watches.{Guard, guard_in, guard_behind, inside_behind, with_id, without_id, has_id, most_events}
use Rattle.fence_watch.specs.Counts.{fences_counted, count_by, one_more}
use Rattle.fence_watch.specs.Tallies.{TallyView, count_behind, count_in, number_behind, events_told, TalliesBy, Tallies, TalliesFrom, TalliesCells, Shows, IsPastBy, IsPast}
use Rattle.fence_watch.specs.Kept.{KeepsTally}
use Rattle.fence_watch.proofs.AlongParts.{along-none}
use Rattle.fence_watch.proofs.Passing.{events-shown, count-shown, none-events}
use Rattle.fence_watch.proofs.RisingIds.{Above, without-above}
use Rattle.fence_watch.proofs.Insides.{first-inside, more, has-inside}
use Rattle.fence_watch.proofs.Following.{after-snoc, world-of_state, rising-after, crossings-snoc, guard-behind, next-first}

-- The length of a list with one id more or less.
length-with_id : (id : ℕ) (xs : List ℕ) → length (with_id id xs) ≡ length xs + 1
length-with_id id [] = refl
length-with_id id (x ∷ xs) = by_test (nat_lt id x) (length-with_id id xs)
  where
    by_test : (b : Bool) → length (with_id id xs) ≡ length xs + 1 → length (cond b (id ∷ x ∷ xs) (x ∷ with_id id xs)) ≡ suc (length xs) + 1
    by_test true rest = let n : suc (suc (length xs)) ≡ suc (length xs) + 1 = omega arith in n
    by_test false rest = let n : suc (length (with_id id xs)) ≡ suc (length xs) + 1 = omega (arith, rest) in n

length-without_id : (id : ℕ) (xs : List ℕ) → has_id id xs ≡ true → AreRising xs → length (without_id id xs) + 1 ≡ length xs
length-without_id id [] has rising = absurd (cc has)
length-without_id id (x ∷ xs) has rising = by_test (x == id) refl has (λ later. length-without_id id xs later rising.1)
  where
    by_test : (b : Bool) → (x == id) ≡ b → (b || has_id id xs) ≡ true → (has_id id xs ≡ true → length (without_id id xs) + 1 ≡ length xs)
        → length (cond (not b) (x ∷ without_id id xs) (without_id id xs)) + 1 ≡ suc (length xs)
    by_test true same there rest =
        let gone : without_id id xs ≡ xs = without-above id xs (subst (λ n. Above n xs) (eqb-true x id same) rising.0) in
        omega (arith, ap length gone)
    by_test false same there rest = omega (arith, rest there)

-- The ids inside a fence rise.
inside-above : (f : Fence) (a : ℕ) (ms : World) → IsAbove a (places_of ms) → Above a (inside_of ms f)
inside-above f a [] above = tt
inside-above f a (m ∷ ms) above = subst (Above a) (sym (first-inside f m ms)) (by_test (has_point f.region m.at) (inside-above f a ms above.1))
  where
    by_test : (b : Bool) → Above a (inside_of ms f) → Above a (more b m.id (inside_of ms f))
    by_test true rest = (above.0, rest)
    by_test false rest = rest

pub inside-rising : (f : Fence) (ms : World) → IsRising (places_of ms) → AreRising (inside_of ms f)
inside-rising f [] rising = tt
inside-rising f (m ∷ ms) rising = subst AreRising (sym (first-inside f m ms)) (by_test (has_point f.region m.at) (inside-rising f ms rising.1))
  where
    by_test : (b : Bool) → AreRising (inside_of ms f) → AreRising (more b m.id (inside_of ms f))
    by_test true rest = (inside-above f m.id ms rising.0, rest)
    by_test false rest = rest

-- No more objects are inside than there are.
length-inside : (f : Fence) (ms : World) → length (inside_of ms f) ≤ length ms
length-inside f [] = omega arith
length-inside f (m ∷ ms) = subst (λ (l : List ℕ). length l ≤ suc (length ms)) (sym (first-inside f m ms)) (by_test (has_point f.region m.at) (length-inside f ms))
  where
    by_test : (b : Bool) → length (inside_of ms f) ≤ length ms → length (more b m.id (inside_of ms f)) ≤ suc (length ms)
    by_test true rest = omega (arith, rest)
    by_test false rest = omega (arith, rest)

length-less : (id : ℕ) (ns : World) → length (without id ns) ≤ length ns
length-less id [] = omega arith
length-less id (n ∷ ns) = by_test (not (n.id == id)) (length-less id ns)
  where
    by_test : (b : Bool) → length (without id ns) ≤ length ns → length (cond b (n ∷ without id ns) (without id ns)) ≤ suc (length ns)
    by_test true le = omega (arith, le)
    by_test false le = omega (arith, le)

-- A world after cells has at most `most_members` objects.
room : (n : ℕ) → nat_le most_members n ≡ false → n < most_members
room n e = grind (arith, nat_tests)

few-put : (m : Member) (world : World) (o : Option Stamped) (full : Bool) → is_full world ≡ full → length world ≤ most_members
    → length (cond (is_change (option_map_or Present o (cond full Full Done))) (with_member m world) world) ≤ most_members
few-put m world (Some p) full e few = few
few-put m world None true e few = few
few-put m world None false e few = omega (arith, length-with_member m world, room (length world) e)

few-move : (id : ℕ) (to : Stamped) (world : World) (o : Option Stamped) → length world ≤ most_members
    → length (cond (is_change (option_map_or (moved_or_stale to.moment) o Absent)) (with_moved id to world) world) ≤ most_members
few-move id to world None few = few
few-move id to world (Some kept) few = by_moment (nat_lt to.moment kept.moment)
  where
    by_moment : (late : Bool) → length (cond (is_change (cond late (Stale kept) (Moved kept))) (with_moved id to world) world) ≤ most_members
    by_moment true = few
    by_moment false = omega (arith, length-with_moved id to world, few)

few-drop : (id : ℕ) (world : World) (o : Option Stamped) → length world ≤ most_members → length (cond (is_change (option_map_or Gone o Absent)) (without id world) world) ≤ most_members
few-drop id world None few = few
few-drop id world (Some kept) few = omega (arith, length-less id world, few)

few-behind : (world : World) (c : Cell) → length world ≤ most_members → length (world_behind world c) ≤ most_members
few-behind world (cell.Put id at moment) few = few-put (record { id = id; at = at; moment = moment }) world (position_of world id) (is_full world) refl few
few-behind world (cell.Move id at moment) few = few-move id (record { at = at; moment = moment }) world (position_of world id) few
few-behind world (cell.Remove id) few = few-drop id world (position_of world id) few
few-behind world (cell.Begin number name) few = few
few-behind world (cell.Install number) few = few
few-behind world (cell.Abandon number) few = few

pub few-after : (world : World) (cells : List Cell) → length world ≤ most_members → length (world_after_cells world cells) ≤ most_members
few-after world [] few = few
few-after world (c ∷ cells) few = few-after (world_behind world c) cells (few-behind world c few)

-- How many objects are inside after a step.
length-behind : (id : ℕ) (before after : Option Point) (f : Fence) (ids : List ℕ) → has_id id ids ≡ lies_in f before → AreRising ids → length ids < 18446744073709551615
    → length (inside_behind id before after f ids) ≡ number_behind before after f (length ids)
length-behind id before after f ids has rising few = by_tests (lies_in f before) (lies_in f after) has
  where
    by_tests : (was is : Bool) → has_id id ids ≡ was
        → length (cond was (cond is ids (without_id id ids)) (cond is (with_id id ids) ids)) ≡ cond was (cond is (length ids) (length ids - 1)) (cond is (one_more (length ids)) (length ids))
    by_tests true true e = refl
    by_tests true false e = omega (arith, length-without_id id ids e rising)
    by_tests false true e = length-with_id id ids ∙ ap (λ b. cond b (length ids + 1) (length ids)) (sym (lt-ltb (length ids) 18446744073709551615 few))
    by_tests false false e = refl

-- A count after a cell is the count of the world after it.
count-behind : (world : World) (c : Cell) (f : Fence) → IsRising (places_of world) → length world ≤ most_members
    → count_in (world_behind world c) f ≡ count_behind (object_of c) (place_in world (object_of c)) (place_in (world_behind world c) (object_of c)) (count_in world f)
count-behind world c f rising few =
    ap (λ (g : Guard). record { fence = f; inside = length g.inside }) (guard-behind world c f rising) ∙ one (object_of c) (place_in (world_behind world c) (object_of c))
  where
    one : (o : Option ℕ) (after : Option Point) → record { fence = f; inside = length (guard_behind o (place_in world o) after (guard_in world f)).inside } ≡ count_behind o (place_in world o) after (count_in world f)
    one None after = refl
    one (Some id) after =
        ap (λ n. record { fence = f; inside = n }) (length-behind id (place_in world (Some id)) after f (inside_of world f) (has-inside f id world rising) (inside-rising f world rising) (omega (arith, few, length-inside f world)))

counts-behind : (world : World) (c : Cell) (fences : List Fence) → IsRising (places_of world) → length world ≤ most_members
    → map (count_in (world_behind world c)) fences ≡ map (count_behind (object_of c) (place_in world (object_of c)) (place_in (world_behind world c) (object_of c))) (map (count_in world) fences)
counts-behind world c [] rising few = refl
counts-behind world c (f ∷ fences) rising few = λ i. count-behind world c f rising few i ∷ counts-behind world c fences rising few i

pub counted-in : (world : World) (fences : List Fence) → fences_counted (map (count_in world) fences) ≡ fences
counted-in world [] = refl
counted-in world (f ∷ fences) = ap (λ (l : List Fence). f ∷ l) (counted-in world fences)

-- A step of an object between its positions in a world and in the world after it.
pub tallies-counts : (world : World) (c : Cell) (fences : List Fence) (at : ℕ) (before after : Option Point) (old new : TallyView) → IsRising (places_of world) → length world ≤ most_members → old.counts ≡ map (count_in world) fences
    → before ≡ place_in world (object_of c) → after ≡ place_in (world_behind world c) (object_of c) → TalliesBy at (object_of c) before after old new → new.counts ≡ map (count_in (world_behind world c)) fences
tallies-counts world c fences at before after old new rising few counts_are is_before is_after s =
    s.counts ∙ (λ i. map (count_behind (object_of c) (is_before i) (is_after i)) (counts_are i)) ∙ sym (counts-behind world c fences rising few)

-- A step along the next cell.
pub tallies-next : (at : ℕ) (start : World) (taken : List Event) (cells : List Cell) (fences : List Fence) (walked : Walked) (old new : TallyView)
    → TalliesFrom at start taken cells fences old → IsNextFrom at start cells walked → Tallies walked old new → TalliesFrom at start taken (cells ++ walked.cell ∷ []) fences new
tallies-next at start taken cells fences walked old new t n s =
    let world : World = world_after_cells start cells in
    let o : Option ℕ = object_of walked.cell in
    let counts_are : old.counts ≡ map (count_in world) fences = t.counts in
    record {
      rising = t.rising;
      few = t.few;
      events = ap (λ (l : List Event). taken ++ l) s.events
          ∙ sym (append_assoc taken old.events (events_told walked old.counts))
          ∙ (λ i. t.events i ++ crossings_by (n.at i) o (n.before i) (n.after i) ((ap fences_counted counts_are ∙ counted-in world fences) i))
          ∙ sym (crossings-snoc at start cells walked.cell fences);
      counts = tallies-counts world walked.cell fences walked.at walked.before walked.after old new (rising-after start cells t.rising) (few-after start cells t.few) counts_are n.before n.after s
          ∙ ap (λ (w : World). map (count_in w) fences) (sym (after-snoc start cells walked.cell));
    }

-- A step along the next cell of a log.
pub tallies-step : (w : ℕ) (taken : List Event) (cells : List Cell) (fences : List Fence) (walked : Walked) (old new : TallyView)
    → TalliesCells taken cells fences old → IsNextWalked w cells walked → Tallies walked old new → TalliesCells taken (cells ++ walked.cell ∷ []) fences new
tallies-step w taken cells fences walked old new t n s = tallies-next 0 [] taken cells fences walked old new t (next-first w cells walked n) s

-- The same, in terms of the state after the cells.
pub counts-told : (w : ℕ) (taken : List Event) (cells : List Cell) (fences : List Fence) (v : TallyView) → TalliesCells taken cells fences v → v.counts ≡ map (count_in (state_of w cells).world) fences
counts-told w taken cells fences v t = t.counts ∙ ap (λ (world : World). map (count_in world) fences) (sym (world-of_state w cells))

-- Turns that are filled up say nothing about fences that don't exist.
along-filled : (n : ℕ) (before after : Option Point) (counts : List FenceCount) → length (fences_counted counts) ≤ n
    → along count_by counts (filled None n (map (turn_at before after) (fences_counted counts))) ≡ along count_by counts (map (turn_at before after) (fences_counted counts))
along-filled n before after [] few = refl
along-filled zero before after (c ∷ counts) few = absurd (omega (arith, few))
along-filled (suc n) before after (c ∷ counts) few = ap (λ (l : List FenceCount). count_by c (turn_at before after c.fence) ∷ l) (along-filled n before after counts (omega (arith, few)))

along-all : (before after : Option Point) (counts : List FenceCount) → length (fences_counted counts) ≤ most_fences
    → along count_by counts (all_turns (map (turn_at before after) (fences_counted counts))) ≡ along count_by counts (map (turn_at before after) (fences_counted counts))
unfolding all_turns
along-all before after counts few = along-filled 256 before after counts few

one-count : (c : FenceCount) (was is : Bool) → count_by c (turn was is) ≡ record { fence = c.fence; inside = cond was (cond is c.inside (c.inside - 1)) (cond is (one_more c.inside) c.inside) }
one-count c true true = refl
one-count c true false = refl
one-count c false true = refl
one-count c false false = refl

along-map : (id : ℕ) (before after : Option Point) (counts : List FenceCount) → along count_by counts (map (turn_at before after) (fences_counted counts)) ≡ map (count_behind (Some id) before after) counts
along-map id before after [] = refl
along-map id before after (c ∷ counts) = λ i. one-count c (lies_in c.fence before) (lies_in c.fence after) i ∷ along-map id before after counts i

counts-shown : (id : ℕ) (o : Option ℕ) (before after : Option Point) (counts : List FenceCount) (p : List Pair) → o ≡ Some id → length (fences_counted counts) ≤ most_fences → ShowsPassage before after (fences_counted counts) p
    → along count_by counts (turns_of p) ≡ map (count_behind o before after) counts
counts-shown id o before after counts p is few shows =
    ap (along count_by counts) shows ∙ along-all before after counts few ∙ along-map id before after counts ∙ ap (λ (x : Option ℕ). map (count_behind x before after) counts) (sym is)

-- What a passage that shows both positions of a step says about its events and the counts after it.
pub record Said (went : Went) (counts : List FenceCount) (p : List Pair) : Type 0 where
  pub count : count_turns (turns_of p) ≡ length (crossings_of went.at went.id went.before went.after (fences_counted counts))
  pub told : events_along went.at went.id (fences_counted counts) (turns_of p) ≡ crossings_of went.at went.id went.before went.after (fences_counted counts)
  pub behind : along count_by counts (turns_of p) ≡ map (count_behind (Some went.id) went.before went.after) counts

pub said : (went : Went) (v : TallyView) (p : List Pair) → length (fences_counted v.counts) ≤ most_fences → Shows went v p → Said went v.counts p
said went v p few shows = record {
  count = count-shown went.at went.id (Some went.id) went.before went.after (fences_counted v.counts) p refl few shows;
  told = events-shown went.at went.id (Some went.id) went.before went.after (fences_counted v.counts) p refl few shows;
  behind = counts-shown went.id (Some went.id) went.before went.after v.counts p refl few shows;
}

abbrev pub Goes : Went → TallyView → TallyView → Type 0
Goes went old new = TalliesBy went.at (Some went.id) went.before went.after old new

abbrev pub IsPastIn : Went → TallyView → Type 0
IsPastIn went old = IsPastBy went.at (Some went.id) went.before went.after old

-- Without a crossing the tally stays unchanged.
pub stays : (went : Went) (v : TallyView) (p : List Pair) → Said went v.counts p → count_turns (turns_of p) ≡ 0 → Goes went v v
stays went v p k crossed =
    let none : crossings_of went.at went.id went.before went.after (fences_counted v.counts) ≡ [] = none-events (crossings_of went.at went.id went.before went.after (fences_counted v.counts)) (sym k.count ∙ crossed) in
    record {
      events = sym (append-nil v.events) ∙ ap (λ (l : List Event). v.events ++ l) (sym none);
      counts = sym (along-none count_by (λ c. refl) v.counts (turns_of p) crossed) ∙ k.behind;
    }

pub not-past : (went : Went) (crossed : ℕ) (v : TallyView) (p : List Pair) → Said went v.counts p → crossed ≡ count_turns (turns_of p) → length v.events + crossed ≤ most_events → IsPastIn went v → ⊥
not-past went crossed v p k counts fits over = omega (arith, k.count, counts, fits, over)

pub is-past : (went : Went) (crossed : ℕ) (v : TallyView) (p : List Pair) → Said went v.counts p → crossed ≡ count_turns (turns_of p) → most_events < length v.events + crossed → IsPastIn went v
is-past went crossed v p k counts past = omega (arith, k.count, counts, past)

-- A list that is written over as a whole.
pub rewritten : {X : Type 0} (n : ℕ) (new old : List X) → length new ≡ n → take n (new ++ drop (length new) old) ≡ new
rewritten n new old e = take-append-le n new (drop (length new) old) (omega (arith, e)) ∙ take_all n new (omega (arith, e))

-- The fences stay the same.
pub fences-behind : (o : Option ℕ) (before after : Option Point) (counts : List FenceCount) → fences_counted (map (count_behind o before after) counts) ≡ fences_counted counts
fences-behind None before after [] = refl
fences-behind (Some id) before after [] = refl
fences-behind None before after (c ∷ counts) = ap (λ (l : List Fence). c.fence ∷ l) (fences-behind None before after counts)
fences-behind (Some id) before after (c ∷ counts) = ap (λ (l : List Fence). c.fence ∷ l) (fences-behind (Some id) before after counts)

pub keeps-tallied : (went : Went) (old new : TallyView) (chart : Chart) → Goes went old new → KeepsTally old.counts chart old.events → length new.events ≤ most_events → KeepsTally new.counts chart new.events
keeps-tallied went old new chart tallies keeps fits =
    let same : fences_counted new.counts ≡ fences_counted old.counts = ap fences_counted tallies.counts ∙ fences-behind (Some went.id) went.before went.after old.counts in
    record {
      charts = subst (λ (l : List Fence). Charts l chart) (sym same) keeps.charts;
      few = subst (λ (l : List Fence). length l ≤ most_fences) (sym same) keeps.few;
      events = fits;
    }

-- A cell of a split moves no object.
same-counts : (counts : List FenceCount) → counts ≡ map (λ (c : FenceCount). c) counts
same-counts [] = refl
same-counts (c ∷ counts) = ap (λ (l : List FenceCount). c ∷ l) (same-counts counts)

nothing : (o : Option ℕ) → o ≡ None → (at : ℕ) (before after : Option Point) (fences : List Fence) → crossings_by at o before after fences ≡ []
nothing o e at before after fences = ap (λ (x : Option ℕ). crossings_by at x before after fences) e

pub split-stays : (walked : Walked) (v : TallyView) → object_of walked.cell ≡ None → Tallies walked v v
split-stays walked v none = record {
  events = sym (append-nil v.events) ∙ ap (λ (l : List Event). v.events ++ l) (sym (nothing (object_of walked.cell) none walked.at walked.before walked.after (fences_counted v.counts)));
  counts = same-counts v.counts ∙ ap (λ (x : Option ℕ). map (count_behind x walked.before walked.after) v.counts) (sym none);
}

pub split-within : (walked : Walked) (v : TallyView) → object_of walked.cell ≡ None → length v.events ≤ most_events → IsPast walked v → ⊥
split-within walked v none few past = omega (arith, past, few, ap length (nothing (object_of walked.cell) none walked.at walked.before walked.after (fences_counted v.counts)))
