-- A watch that follows the cells of a log continues to follow them.
use Rattle.std.proofs.Common.{◌≡◌, ℕ, suc, ◌+◌, length, Bool, true, false, List, [], ◌∷◌, ◌++◌, map, Option, Some, None, refl, sym, ◌∙◌, ap, subst, arith, cond, ◌==◌, append_assoc, append-nil, length-append}
use Rattle.std.specs.Prelude.{nat_lt}
use Rattle.std.specs.List.{find}
use Rattle.std.specs.Option.{option_map, option_map_or}
use Rattle.std.proofs.lemmas.Bool.{eq-eqb}
use Rattle.zorder.specs.declared.points.Point.{Point}
use Rattle.zorder.specs.Region.{has_point}
use Rattle.cell_format.specs.declared.cell.Cell.{Cell}
use Rattle.cell_format.specs.declared.cell.Cell.TheVariants as cell
use Rattle.plain_list.specs.declared.world.Member.{Member}
use Rattle.plain_list.specs.declared.world.Stamped.{Stamped}
use Rattle.plain_list.specs.declared.ops.Answer.TheVariants.{Done, Present, Full, Moved, Stale, Gone, Absent}
use Rattle.plain_list.specs.Places.{IsRising}
use Rattle.plain_list.specs.World.{World, places_of, position_of, stamped_of, member_of, is_full}
use Rattle.plain_list.specs.Answer.{with_member, with_moved, without, is_change, moved_or_stale}
use Rattle.plain_list.specs.State.{State, empty_state, step}
use Rattle.plain_list.proofs.Members.{position_of-with_member, position_of-without}
use Rattle.plain_list.proofs.Worlds.{IsRising-with_member, IsRising-with_moved, IsRising-without}
use Rattle.log_state.specs.Recovers.{state_of, cells_after, entry_of}
use Rattle.recovery.specs.declared.walked.Walked.{Walked}
use Rattle.recovery.specs.Walks.{object_of, place_in, IsNextWalked}
use Rattle.fence_watch.specs.declared.fences.Fence.{Fence}
use Rattle.fence_watch.specs.declared.fences.Event.{Event}
use Rattle.fence_watch.specs.Fences.{lies_in, inside_of}
use Rattle.fence_watch.specs.Crossings.{world_behind, world_after_cells, crossings_by, cell_crossings, crossings_from, IsNextFrom}
use Rattle.fence_watch.specs.Watches.{Guard, WatchView, fences_of, guard_behind, guard_in, with_id, without_id, inside_behind, HoldsBefore, Steps, StepsBy, FollowsFrom, FollowsCells, HoldsWorld}
use Rattle.fence_watch.proofs.Insides.{inside-put, inside-moved, inside-gone, has-inside}

-- One more cell.
pub after-snoc : (world : World) (cells : List Cell) (c : Cell) → world_after_cells world (cells ++ c ∷ []) ≡ world_behind (world_after_cells world cells) c
after-snoc world [] c = refl
after-snoc world (d ∷ cells) c = after-snoc (world_behind world d) cells c

-- A cell changes a world as its step changes the world of a state.
world-step : (w : ℕ) (s : State) (c : Cell) → (step w s (entry_of c)).world ≡ world_behind s.world c
world-step w s (cell.Put id at moment) = refl
world-step w s (cell.Move id at moment) = refl
world-step w s (cell.Remove id) = refl
world-step w s (cell.Begin number name) = refl
world-step w s (cell.Install number) = refl
world-step w s (cell.Abandon number) = refl

world-after : (w : ℕ) (s : State) (cells : List Cell) → (cells_after w s cells).world ≡ world_after_cells s.world cells
world-after w s [] = refl
world-after w s (c ∷ cells) = world-after w (step w s (entry_of c)) cells ∙ ap (λ (world : World). world_after_cells world cells) (world-step w s c)

-- The world of the state after cells is the world after them, whatever the width is.
pub world-of_state : (w : ℕ) (cells : List Cell) → (state_of w cells).world ≡ world_after_cells [] cells
world-of_state w cells = world-after w empty_state cells

-- The ids rise after a cell, whether or not it is a change.
rising-put : (m : Member) (world : World) (o : Option Stamped) → position_of world m.id ≡ o → (full : Bool) → IsRising (places_of world)
    → IsRising (places_of (cond (is_change (option_map_or Present o (cond full Full Done))) (with_member m world) world))
rising-put m world (Some p) e full rising = rising
rising-put m world None e true rising = rising
rising-put m world None e false rising = IsRising-with_member m world e rising

rising-move : (id : ℕ) (to : Stamped) (world : World) (o : Option Stamped) → IsRising (places_of world)
    → IsRising (places_of (cond (is_change (option_map_or (moved_or_stale to.moment) o Absent)) (with_moved id to world) world))
rising-move id to world None rising = rising
rising-move id to world (Some kept) rising = by_moment (nat_lt to.moment kept.moment)
  where
    by_moment : (late : Bool) → IsRising (places_of (cond (is_change (cond late (Stale kept) (Moved kept))) (with_moved id to world) world))
    by_moment true = rising
    by_moment false = IsRising-with_moved id to world rising

rising-drop : (id : ℕ) (world : World) (o : Option Stamped) → IsRising (places_of world)
    → IsRising (places_of (cond (is_change (option_map_or Gone o Absent)) (without id world) world))
rising-drop id world None rising = rising
rising-drop id world (Some kept) rising = IsRising-without id world rising

rising-behind : (world : World) (c : Cell) → IsRising (places_of world) → IsRising (places_of (world_behind world c))
rising-behind world (cell.Put id at moment) rising = rising-put (record { id = id; at = at; moment = moment }) world (position_of world id) refl (is_full world) rising
rising-behind world (cell.Move id at moment) rising = rising-move id (record { at = at; moment = moment }) world (position_of world id) rising
rising-behind world (cell.Remove id) rising = rising-drop id world (position_of world id) rising
rising-behind world (cell.Begin number name) rising = rising
rising-behind world (cell.Install number) rising = rising
rising-behind world (cell.Abandon number) rising = rising

-- The ids of a world rise after cells, whether or not these are legal.
pub rising-after : (world : World) (cells : List Cell) → IsRising (places_of world) → IsRising (places_of (world_after_cells world cells))
rising-after world [] rising = rising
rising-after world (c ∷ cells) rising = rising-after (world_behind world c) cells (rising-behind world c rising)

pub crossings-snoc : (at : ℕ) (world : World) (cells : List Cell) (c : Cell) (fences : List Fence)
    → crossings_from at world (cells ++ c ∷ []) fences ≡ crossings_from at world cells fences ++ cell_crossings (at + length cells) (world_after_cells world cells) c fences
crossings-snoc at world [] c fences =
    let same : at ≡ at + 0 = omega arith in
    append-nil (cell_crossings at world c fences) ∙ ap (λ n. cell_crossings n world c fences) same
crossings-snoc at world (d ∷ cells) c fences =
    let same : at + 1 + length cells ≡ at + suc (length cells) = omega arith in
    ap (λ (l : List Event). cell_crossings at world d fences ++ l) (crossings-snoc (at + 1) (world_behind world d) cells c fences)
    ∙ ap (λ n. cell_crossings at world d fences ++ (crossings_from (at + 1) (world_behind world d) cells fences ++ cell_crossings n (world_after_cells (world_behind world d) cells) c fences)) same
    ∙ sym (append_assoc (cell_crossings at world d fences) (crossings_from (at + 1) (world_behind world d) cells fences) (cell_crossings (at + suc (length cells)) (world_after_cells (world_behind world d) cells) c fences))

abbrev place_at : World → ℕ → Option Point
place_at world id = option_map (λ (s : Stamped). s.at) (position_of world id)

-- An object that stays at its position stays inside or outside.
stays : (id : ℕ) (p : Option Point) (f : Fence) (ids : List ℕ) → inside_behind id p p f ids ≡ ids
stays id p f ids = by_test (lies_in f p)
  where
    by_test : (b : Bool) → cond b (cond b ids (without_id id ids)) (cond b (with_id id ids) ids) ≡ ids
    by_test true = refl
    by_test false = refl

same-world : (id : ℕ) (world : World) (f : Fence) → inside_of world f ≡ inside_behind id (place_at world id) (place_at world id) f (inside_of world f)
same-world id world f = sym (stays id (place_at world id) f (inside_of world f))

abbrev at_of : Option Stamped → Option Point
at_of o = option_map (λ (s : Stamped). s.at) o

put-behind : (m : Member) (world : World) (f : Fence) → IsRising (places_of world) → (o : Option Stamped) → position_of world m.id ≡ o → (full : Bool)
    → let new : World = cond (is_change (option_map_or Present o (cond full Full Done))) (with_member m world) world in
    inside_of new f ≡ inside_behind m.id (place_at world m.id) (place_at new m.id) f (inside_of world f)
put-behind m world f rising (Some p) e full = same-world m.id world f
put-behind m world f rising None e true = same-world m.id world f
put-behind m world f rising None e false =
    let there : position_of (with_member m world) m.id ≡ Some (stamped_of m) =
    position_of-with_member m world m.id e ∙ ap (λ b. cond b (Some (stamped_of m)) (position_of world m.id)) (eq-eqb m.id m.id refl) in
    inside-put f m world e rising
    ∙ (λ i. inside_behind m.id (at_of (sym e i)) (at_of (sym there i)) f (inside_of world f))

pub moved-there : (id : ℕ) (to p : Stamped) (world : World) → position_of world id ≡ Some p → position_of (with_moved id to world) id ≡ Some to
moved-there id to p [] e = absurd (cc e)
moved-there id to p (n ∷ ns) e = by_test (n.id == id) refl e (λ later. moved-there id to p ns later)
  where
    by_test : (b : Bool) → (n.id == id) ≡ b → option_map stamped_of (cond b (Some n) (find (λ m. m.id == id) ns)) ≡ Some p
        → (position_of ns id ≡ Some p → position_of (with_moved id to ns) id ≡ Some to)
        → position_of (cond b (member_of id to) n ∷ with_moved id to ns) id ≡ Some to
    by_test true same there rest = ap (λ b. option_map stamped_of (cond b (Some (member_of id to)) (find (λ m. m.id == id) (with_moved id to ns)))) (eq-eqb id id refl)
    by_test false same there rest = ap (λ b. option_map stamped_of (cond b (Some n) (find (λ m. m.id == id) (with_moved id to ns)))) same ∙ rest there

move-behind : (id : ℕ) (to : Stamped) (world : World) (f : Fence) → IsRising (places_of world) → (o : Option Stamped) → position_of world id ≡ o
    → let new : World = cond (is_change (option_map_or (moved_or_stale to.moment) o Absent)) (with_moved id to world) world in
    inside_of new f ≡ inside_behind id (place_at world id) (place_at new id) f (inside_of world f)
move-behind id to world f rising None e = same-world id world f
move-behind id to world f rising (Some p) e = by_moment (nat_lt to.moment p.moment)
  where
    by_moment : (late : Bool) → let new : World = cond (is_change (cond late (Stale p) (Moved p))) (with_moved id to world) world in
        inside_of new f ≡ inside_behind id (place_at world id) (place_at new id) f (inside_of world f)
    by_moment true = same-world id world f
    by_moment false = inside-moved f id p to world e rising ∙ (λ i. inside_behind id (at_of (sym e i)) (at_of (sym (moved-there id to p world e) i)) f (inside_of world f))

drop-behind : (id : ℕ) (world : World) (f : Fence) → IsRising (places_of world) → (o : Option Stamped) → position_of world id ≡ o
    → let new : World = cond (is_change (option_map_or Gone o Absent)) (without id world) world in
    inside_of new f ≡ inside_behind id (place_at world id) (place_at new id) f (inside_of world f)
drop-behind id world f rising None e = same-world id world f
drop-behind id world f rising (Some p) e =
    let none : position_of (without id world) id ≡ None = position_of-without id world id ∙ ap (λ b. cond b None (position_of world id)) (eq-eqb id id refl) in
    inside-gone f id p world e rising ∙ by_test (has_point f.region p.at) ∙ (λ i. inside_behind id (at_of (sym e i)) (at_of (sym none i)) f (inside_of world f))
  where
    by_test : (b : Bool) → cond b (without_id id (inside_of world f)) (inside_of world f) ≡ cond b (cond false (inside_of world f) (without_id id (inside_of world f))) (cond false (with_id id (inside_of world f)) (inside_of world f))
    by_test true = refl
    by_test false = refl

-- A guard after a cell is the guard of the world after it.
pub guard-behind : (world : World) (c : Cell) (f : Fence) → IsRising (places_of world)
    → guard_in (world_behind world c) f ≡ guard_behind (object_of c) (place_in world (object_of c)) (place_in (world_behind world c) (object_of c)) (guard_in world f)
guard-behind world (cell.Put id at moment) f rising = ap (λ (ids : List ℕ). record { fence = f; inside = ids }) (put-behind (record { id = id; at = at; moment = moment }) world f rising (position_of world id) refl (is_full world))
guard-behind world (cell.Move id at moment) f rising = ap (λ (ids : List ℕ). record { fence = f; inside = ids }) (move-behind id (record { at = at; moment = moment }) world f rising (position_of world id) refl)
guard-behind world (cell.Remove id) f rising = ap (λ (ids : List ℕ). record { fence = f; inside = ids }) (drop-behind id world f rising (position_of world id) refl)
guard-behind world (cell.Begin number name) f rising = refl
guard-behind world (cell.Install number) f rising = refl
guard-behind world (cell.Abandon number) f rising = refl

pub fences-in : (world : World) (fences : List Fence) → fences_of (map (guard_in world) fences) ≡ fences
fences-in world [] = refl
fences-in world (f ∷ fences) = ap (λ (l : List Fence). f ∷ l) (fences-in world fences)

guards-behind : (world : World) (c : Cell) (fences : List Fence) → IsRising (places_of world)
    → map (guard_in (world_behind world c)) fences ≡ map (guard_behind (object_of c) (place_in world (object_of c)) (place_in (world_behind world c) (object_of c))) (map (guard_in world) fences)
guards-behind world c [] rising = refl
guards-behind world c (f ∷ fences) rising = λ i. guard-behind world c f rising i ∷ guards-behind world c fences rising i

-- What a walk returns of the next cell, in terms of the worlds of the crossings.
pub places-before : (w : ℕ) (cells : List Cell) (walked : Walked) → IsNextWalked w cells walked → walked.before ≡ place_in (world_after_cells [] cells) (object_of walked.cell)
places-before w cells walked n = n.before ∙ ap (λ (world : World). place_in world (object_of walked.cell)) (world-of_state w cells)

pub places-after : (w : ℕ) (cells : List Cell) (walked : Walked) → IsNextWalked w cells walked → walked.after ≡ place_in (world_behind (world_after_cells [] cells) walked.cell) (object_of walked.cell)
places-after w cells walked n = n.after ∙ ap (λ (world : World). place_in world (object_of walked.cell)) (world-of_state w (cells ++ walked.cell ∷ []) ∙ after-snoc [] cells walked.cell)

-- Cells after other cells of a log.
pub after-append : (world : World) (front cells : List Cell) → world_after_cells world (front ++ cells) ≡ world_after_cells (world_after_cells world front) cells
after-append world [] cells = refl
after-append world (c ∷ front) cells = after-append (world_behind world c) front cells

pub next-behind : (w : ℕ) (front cells : List Cell) (walked : Walked) → IsNextWalked w (front ++ cells) walked → IsNextFrom (length front) (state_of w front).world cells walked
next-behind w front cells walked n =
    let world : world_after_cells [] (front ++ cells) ≡ world_after_cells (state_of w front).world cells =
    after-append [] front cells ∙ ap (λ (start : World). world_after_cells start cells) (sym (world-of_state w front)) in
    record {
      at = n.at ∙ length-append front cells;
      before = places-before w (front ++ cells) walked n ∙ ap (λ (start : World). place_in start (object_of walked.cell)) world;
      after = places-after w (front ++ cells) walked n ∙ ap (λ (start : World). place_in (world_behind start walked.cell) (object_of walked.cell)) world;
    }

pub next-first : (w : ℕ) (cells : List Cell) (walked : Walked) → IsNextWalked w cells walked → IsNextFrom 0 [] cells walked
next-first w cells walked n = next-behind w [] cells walked n

-- A step of an object between its positions in a world and in the world after it.
pub steps-guards : (world : World) (c : Cell) (fences : List Fence) (at : ℕ) (before after : Option Point) (old new : WatchView) → IsRising (places_of world) → old.guards ≡ map (guard_in world) fences
    → before ≡ place_in world (object_of c) → after ≡ place_in (world_behind world c) (object_of c) → StepsBy at (object_of c) before after old new → new.guards ≡ map (guard_in (world_behind world c)) fences
steps-guards world c fences at before after old new rising guards_are is_before is_after s =
    s.guards ∙ (λ i. map (guard_behind (object_of c) (is_before i) (is_after i)) (guards_are i)) ∙ sym (guards-behind world c fences rising)

-- A step along the next cell.
pub follows-next : (at : ℕ) (start : World) (taken : List Event) (cells : List Cell) (fences : List Fence) (walked : Walked) (old new : WatchView)
    → FollowsFrom at start taken cells fences old → IsNextFrom at start cells walked → Steps walked old new → FollowsFrom at start taken (cells ++ walked.cell ∷ []) fences new
follows-next at start taken cells fences walked old new f n s =
    let world : World = world_after_cells start cells in
    let o : Option ℕ = object_of walked.cell in
    let guards_are : old.guards ≡ map (guard_in world) fences = f.guards in
    record {
      rising = f.rising;
      events = ap (λ (l : List Event). taken ++ l) s.events
          ∙ sym (append_assoc taken old.events (crossings_by walked.at o walked.before walked.after (fences_of old.guards)))
          ∙ (λ i. f.events i ++ crossings_by (n.at i) o (n.before i) (n.after i) ((ap fences_of guards_are ∙ fences-in world fences) i))
          ∙ sym (crossings-snoc at start cells walked.cell fences);
      guards = steps-guards world walked.cell fences walked.at walked.before walked.after old new (rising-after start cells f.rising) guards_are n.before n.after s
          ∙ ap (λ (w : World). map (guard_in w) fences) (sym (after-snoc start cells walked.cell));
    }

-- A step along the next cell of a log.
pub follows-step : (w : ℕ) (cells : List Cell) (fences : List Fence) (walked : Walked) (old new : WatchView)
    → FollowsCells cells fences old → IsNextWalked w cells walked → Steps walked old new → FollowsCells (cells ++ walked.cell ∷ []) fences new
follows-step w cells fences walked old new f n s = follows-next 0 [] [] cells fences walked old new f (next-first w cells walked n) s

holds-in : (world : World) (o : Option ℕ) (fences : List Fence) → IsRising (places_of world) → HoldsBefore o (place_in world o) (map (guard_in world) fences)
holds-in world None fences rising = tt
holds-in world (Some id) [] rising = tt
holds-in world (Some id) (f ∷ fences) rising = (has-inside f id world rising, holds-in world (Some id) fences rising)

-- A watch that holds a world may make a step of an object from its position in that world.
pub holds-world : (world : World) (o : Option ℕ) (before : Option Point) (fences : List Fence) (view : WatchView) → HoldsWorld world fences view → before ≡ place_in world o → HoldsBefore o before view.guards
holds-world world o before fences view holds is =
    subst (λ (guards : List Guard). HoldsBefore o before guards) (sym holds.guards)
    (subst (λ (p : Option Point). HoldsBefore o p (map (guard_in world) fences)) (sym is) (holds-in world o fences holds.rising))

pub world-from : (at : ℕ) (start : World) (taken : List Event) (cells : List Cell) (fences : List Fence) (view : WatchView) → FollowsFrom at start taken cells fences view → HoldsWorld (world_after_cells start cells) fences view
world-from at start taken cells fences view f = record { rising = rising-after start cells f.rising; guards = f.guards }

-- A watch that follows cells may make a step along the next one.
pub holds-from : (at : ℕ) (start : World) (taken : List Event) (cells : List Cell) (fences : List Fence) (walked : Walked) (view : WatchView)
    → FollowsFrom at start taken cells fences view → IsNextFrom at start cells walked → HoldsBefore (object_of walked.cell) walked.before view.guards
holds-from at start taken cells fences walked view f n =
    holds-world (world_after_cells start cells) (object_of walked.cell) walked.before fences view (world-from at start taken cells fences view f) n.before

pub holds-next : (w : ℕ) (cells : List Cell) (fences : List Fence) (walked : Walked) (view : WatchView)
    → FollowsCells cells fences view → IsNextWalked w cells walked → HoldsBefore (object_of walked.cell) walked.before view.guards
holds-next w cells fences walked view f n = holds-from 0 [] [] cells fences walked view f (next-first w cells walked n)
