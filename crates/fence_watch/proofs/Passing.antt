-- What the rows of two positions say about the fences that are crossed between them.
use Rattle.std.proofs.Common.{◌≡◌, ℕ, zero, suc, ◌≤◌, ◌+◌, Bool, true, false, List, [], ◌∷◌, ◌++◌, length, map, Option, Some, None, refl, sym, ◌∙◌, ap, arith, cond, ◌&&◌}
use Rattle.std.proofs.lemmas.List.{length-map}
use Rattle.std.specs.Prelude.{nat_le}
use Rattle.zorder.specs.declared.points.Point.{Point}
use Rattle.fence_watch.specs.declared.fences.Fence.{Fence}
use Rattle.fence_watch.specs.declared.fences.Event.{Event}
use Rattle.fence_watch.specs.declared.fences.Crossing.{Crossing}
use Rattle.fence_watch.specs.declared.fences.Crossing.TheVariants.{Enter, Leave}
use Rattle.fence_watch.specs.declared.passages.Pair.{Pair}
use Rattle.fence_watch.specs.Fences.{lies_in, most_fences}
use Rattle.fence_watch.specs.Slabs.{row_at}
use Rattle.fence_watch.specs.Marks.{marks_of, filled, all_marks}
use Rattle.fence_watch.proofs.MarkLemmas.{both-all, turns-all}
use Rattle.fence_watch.specs.Crossings.{crossings_of, crossings_by}
use Rattle.fence_watch.specs.Watches.{Guard, fences_of, guard_behind, with_id, without_id, has_id, HoldsBefore}
use Rattle.fence_watch.specs.Passages.{turn, both, turns, turns_of, count_turns, event_by, events_along, turn_at, all_turns, column_of, line_of, ShowsPassage}
use Rattle.fence_watch.specs.Guards.{AreRising, AllRising, behind_by, guards_along}
use Rattle.fence_watch.proofs.RisingIds.{rising-with_id, rising-without_id}

-- Both rows of a position.
and-regroup : (a b c d : Bool) → ((a && b) && (c && d)) ≡ (((a && b) && c) && d)
and-regroup true true c d = refl
and-regroup true false c d = refl
and-regroup false b c d = refl

marks-some : (p : Point) (fences : List Fence) → both (row_at p.x (map column_of fences)) (row_at p.y (map line_of fences)) ≡ map (λ (f : Fence). lies_in f (Some p)) fences
marks-some p [] = refl
marks-some p (f ∷ fences) = λ i.
    and-regroup (nat_le f.region.lo.x p.x) (nat_le p.x f.region.hi.x) (nat_le f.region.lo.y p.y) (nat_le p.y f.region.hi.y) i ∷ marks-some p fences i

-- The marks of a position, or of none.
pub marks-place : (p : Point) (fences : List Fence) (column line : List ℕ) → marks_of column ≡ all_marks (row_at p.x (map column_of fences)) → marks_of line ≡ all_marks (row_at p.y (map line_of fences))
    → both (marks_of column) (marks_of line) ≡ all_marks (map (λ (f : Fence). lies_in f (Some p)) fences)
marks-place p fences column line is_column is_line =
    (λ i. both (is_column i) (is_line i)) ∙ both-all (row_at p.x (map column_of fences)) (row_at p.y (map line_of fences)) ∙ ap all_marks (marks-some p fences)

pub shows-places : (before after : Option Point) (fences : List Fence) (was is : List ℕ) (passage : List Pair) → turns_of passage ≡ turns (marks_of was) (marks_of is)
    → marks_of was ≡ all_marks (map (λ (f : Fence). lies_in f before) fences) → marks_of is ≡ all_marks (map (λ (f : Fence). lies_in f after) fences) → ShowsPassage before after fences passage
shows-places before after fences was is passage pairs here there =
    pairs ∙ (λ i. turns (here i) (there i)) ∙ turns-all (λ (f : Fence). lies_in f before) (λ (f : Fence). lies_in f after) fences

-- Turns that are filled up say nothing about fences that don't exist.
along-filled : (id n : ℕ) (before after : Option Point) (guards : List Guard) → length (fences_of guards) ≤ n
    → guards_along id guards (filled None n (map (turn_at before after) (fences_of guards))) ≡ guards_along id guards (map (turn_at before after) (fences_of guards))
along-filled id n before after [] few = refl
along-filled id zero before after (g ∷ guards) few = absurd (omega (arith, few))
along-filled id (suc n) before after (g ∷ guards) few =
    ap (λ (l : List Guard). behind_by id g (turn_at before after g.fence) ∷ l) (along-filled id n before after guards (omega (arith, few)))

told-filled : (at id n : ℕ) (before after : Option Point) (fences : List Fence) → length fences ≤ n
    → events_along at id fences (filled None n (map (turn_at before after) fences)) ≡ events_along at id fences (map (turn_at before after) fences)
told-filled at id n before after [] few = refl
told-filled at id zero before after (f ∷ fences) few = absurd (omega (arith, few))
told-filled at id (suc n) before after (f ∷ fences) few =
    ap (λ (l : List Event). event_by at id f (turn_at before after f) ++ l) (told-filled at id n before after fences (omega (arith, few)))

none-more : (n : ℕ) → count_turns (filled None n []) ≡ 0
none-more zero = refl
none-more (suc n) = none-more n

count-filled : (n : ℕ) (ts : List (Option Crossing)) → length ts ≤ n → count_turns (filled None n ts) ≡ count_turns ts
count-filled n [] few = none-more n
count-filled zero (t ∷ ts) few = absurd (omega (arith, few))
count-filled (suc n) (None ∷ ts) few = count-filled n ts (omega (arith, few))
count-filled (suc n) (Some c ∷ ts) few = omega (arith, count-filled n ts (omega (arith, few)))

along-all : (id : ℕ) (before after : Option Point) (guards : List Guard) → length (fences_of guards) ≤ most_fences
    → guards_along id guards (all_turns (map (turn_at before after) (fences_of guards))) ≡ guards_along id guards (map (turn_at before after) (fences_of guards))
unfolding all_turns
along-all id before after guards few = along-filled id 256 before after guards few

told-all : (at id : ℕ) (before after : Option Point) (fences : List Fence) → length fences ≤ most_fences
    → events_along at id fences (all_turns (map (turn_at before after) fences)) ≡ events_along at id fences (map (turn_at before after) fences)
unfolding all_turns
told-all at id before after fences few = told-filled at id 256 before after fences few

count-all : (ts : List (Option Crossing)) → length ts ≤ most_fences → count_turns (all_turns ts) ≡ count_turns ts
unfolding all_turns
count-all ts few = count-filled 256 ts few

one-event : (at id : ℕ) (f : Fence) (was is : Bool)
    → event_by at id f (turn was is) ≡ cond was (cond is [] (record { at = at; crossing = Leave; id = id; fence = f.id } ∷ [])) (cond is (record { at = at; crossing = Enter; id = id; fence = f.id } ∷ []) [])
one-event at id f true true = refl
one-event at id f true false = refl
one-event at id f false true = refl
one-event at id f false false = refl

events-map : (at id : ℕ) (before after : Option Point) (fences : List Fence) → events_along at id fences (map (turn_at before after) fences) ≡ crossings_of at id before after fences
events-map at id before after [] = refl
events-map at id before after (f ∷ fences) = λ i. one-event at id f (lies_in f before) (lies_in f after) i ++ events-map at id before after fences i

one-guard : (id : ℕ) (g : Guard) (was is : Bool)
    → behind_by id g (turn was is) ≡ record g { inside = cond was (cond is g.inside (without_id id g.inside)) (cond is (with_id id g.inside) g.inside) }
one-guard id g true true = refl
one-guard id g true false = refl
one-guard id g false true = refl
one-guard id g false false = refl

guards-map : (id : ℕ) (before after : Option Point) (guards : List Guard) → guards_along id guards (map (turn_at before after) (fences_of guards)) ≡ map (guard_behind (Some id) before after) guards
guards-map id before after [] = refl
guards-map id before after (g ∷ guards) = λ i. one-guard id g (lies_in g.fence before) (lies_in g.fence after) i ∷ guards-map id before after guards i

-- What happens along a passage that shows two positions.
pub events-shown : (at id : ℕ) (o : Option ℕ) (before after : Option Point) (fences : List Fence) (p : List Pair) → o ≡ Some id → length fences ≤ most_fences → ShowsPassage before after fences p
    → events_along at id fences (turns_of p) ≡ crossings_by at o before after fences
events-shown at id o before after fences p is few shows =
    ap (events_along at id fences) shows ∙ told-all at id before after fences few ∙ events-map at id before after fences ∙ ap (λ (x : Option ℕ). crossings_by at x before after fences) (sym is)

pub guards-shown : (id : ℕ) (o : Option ℕ) (before after : Option Point) (guards : List Guard) (p : List Pair) → o ≡ Some id → length (fences_of guards) ≤ most_fences → ShowsPassage before after (fences_of guards) p
    → guards_along id guards (turns_of p) ≡ map (guard_behind o before after) guards
guards-shown id o before after guards p is few shows =
    ap (guards_along id guards) shows ∙ along-all id before after guards few ∙ guards-map id before after guards ∙ ap (λ (x : Option ℕ). map (guard_behind x before after) guards) (sym is)

count-events : (at id : ℕ) (before after : Option Point) (fences : List Fence) → count_turns (map (turn_at before after) fences) ≡ length (events_along at id fences (map (turn_at before after) fences))
count-events at id before after [] = refl
count-events at id before after (f ∷ fences) = by_turn (turn_at before after f) (count-events at id before after fences)
  where
    ts : List (Option Crossing)
    ts = map (turn_at before after) fences

    by_turn : (t : Option Crossing) → count_turns ts ≡ length (events_along at id fences ts) → count_turns (t ∷ ts) ≡ length (event_by at id f t ++ events_along at id fences ts)
    by_turn None e = e
    by_turn (Some c) e = let one : count_turns ts + 1 ≡ suc (length (events_along at id fences ts)) = omega (arith, e) in one

pub count-shown : (at id : ℕ) (o : Option ℕ) (before after : Option Point) (fences : List Fence) (p : List Pair) → o ≡ Some id → length fences ≤ most_fences → ShowsPassage before after fences p
    → count_turns (turns_of p) ≡ length (crossings_by at o before after fences)
count-shown at id o before after fences p is few shows =
    let len : length (map (turn_at before after) fences) ≡ length fences = length-map fences (turn_at before after) in
    ap count_turns shows ∙ count-all (map (turn_at before after) fences) (omega (arith, len, few)) ∙ count-events at id before after fences
    ∙ ap length (events-map at id before after fences ∙ ap (λ (x : Option ℕ). crossings_by at x before after fences) (sym is))

-- Without a crossing there is no event.
pub none-events : (events : List Event) → length events ≡ 0 → events ≡ []
none-events [] e = refl
none-events (x ∷ xs) e = absurd (omega (arith, e))

-- The fences stay the same.
pub fences-behind : (o : Option ℕ) (before after : Option Point) (guards : List Guard) → fences_of (map (guard_behind o before after) guards) ≡ fences_of guards
fences-behind None before after [] = refl
fences-behind (Some id) before after [] = refl
fences-behind None before after (g ∷ guards) = ap (λ (l : List Fence). g.fence ∷ l) (fences-behind None before after guards)
fences-behind (Some id) before after (g ∷ guards) = ap (λ (l : List Fence). g.fence ∷ l) (fences-behind (Some id) before after guards)

-- Rising ids stay rising, if a fence holds the object if and only if the object was in it.
pub rising-behind : (o : Option ℕ) (before after : Option Point) (guards : List Guard) → HoldsBefore o before guards → AllRising guards → AllRising (map (guard_behind o before after) guards)
rising-behind None before after [] holds rising = tt
rising-behind None before after (g ∷ guards) holds rising = (rising.0, rising-behind None before after guards tt rising.1)
rising-behind (Some id) before after [] holds rising = tt
rising-behind (Some id) before after (g ∷ guards) holds rising =
    (one (lies_in g.fence before) (lies_in g.fence after) holds.0, rising-behind (Some id) before after guards holds.1 rising.1)
  where
    one : (was is : Bool) → has_id id g.inside ≡ was → AreRising (cond was (cond is g.inside (without_id id g.inside)) (cond is (with_id id g.inside) g.inside))
    one true true has = rising.0
    one true false has = rising-without_id id g.inside rising.0
    one false true has = rising-with_id id g.inside has rising.0
    one false false has = rising.0
