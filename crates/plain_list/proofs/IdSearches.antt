-- What a binary search for an id finds in a list of rising ids, and edits at that index.
use Rattle.std.proofs.Common.{◌≡◌, ℕ, zero, suc, ◌<◌, ◌≤◌, ◌+◌, length, true, false, [], ◌∷◌, Option, Some, None, Result, Ok, Err, get_or, set, refl, ◌∙◌, ap, subst, arith, cond}
use Rattle.std.specs.Prelude.{nat_le, nat_lt}
use Rattle.std.specs.List.{remove}
use Rattle.std.specs.List.Sorted.{IsSortedBy, IsBinarySearchResult, IsSearchInRange}
use Rattle.std.specs.declared.cmp.Ordering.TheVariants.{Less, Equal, Greater}
use Rattle.std.specs.Ordering.{nat_cmp, is_lt}
use Rattle.std.specs.Option.{option_map_or}
use Rattle.std.proofs.lemmas.Grind.{common_steps}
use Rattle.std.proofs.lemmas.Bool.Decides.{nat_tests}
use Rattle.std.proofs.lemmas.Cmp.{nat_cmp_total}
use Rattle.std.proofs.lemmas.List.Sorted.{searchable_from_sorted}
use Rattle.zorder.specs.declared.points.Placed.{Placed}
use Rattle.plain_list.specs.declared.world.Stamped.{Stamped}
use Rattle.plain_list.specs.declared.world.Member.{Member}
use Rattle.plain_list.specs.declared.ops.Op.TheVariants.{Put, Move, Remove}
use Rattle.plain_list.specs.declared.ops.Answer.TheVariants.{Done, Present, Full, Moved, Stale, Gone, Absent}
use Rattle.plain_list.specs.Places.{IsRising, IsAbove}
use Rattle.plain_list.specs.World.{World, placed_of, places_of, position_of, most_members, is_full, stamped_of}
use Rattle.plain_list.specs.Answer.{after_of, is_change, moved_or_stale, with_member, without, with_moved, index_for, IsIndexFor}
use Rattle.plain_list.proofs.PlacesOf.{length-places_of, places_of-get_or}
use Rattle.plain_list.proofs.RisingPlaces as places

-- an id above which all others are is below each of them
above_at : (id : ℕ) (ms : World) (i : ℕ) (d : Member) → IsAbove id (places_of ms) → i < length ms → id < (get_or ms i d).id
above_at id ms i d above lt =
    subst (λ (m : Placed). id < m.id) (places_of-get_or ms i d) (places.above_at id (places_of ms) i (placed_of d) above (omega (arith, lt, length-places_of ms)))

-- neighbours rise
sorted_from_rising : (ms : World) → IsRising (places_of ms) → IsSortedBy (λ a b. is_lt (nat_cmp a.id b.id)) ms
sorted_from_rising ms rising = λ k d low lt.
    subst (λ (m : Placed). is_lt (nat_cmp (get_or ms (k + 1) d).id m.id) ≡ false) (places_of-get_or ms k d)
    (subst (λ (m : Placed). is_lt (nat_cmp m.id (get_or (places_of ms) k (placed_of d)).id) ≡ false) (places_of-get_or ms (k + 1) d)
    (places.sorted_from_rising (places_of ms) rising k (placed_of d) low (omega (arith, lt, length-places_of ms))))

equal_from_cmp : (a b : ℕ) → nat_cmp a b ≡ Equal → a ≡ b
equal_from_cmp a b e = grind (arith, nat_tests)

less_from_cmp : (a b : ℕ) → nat_cmp a b ≡ Less → a < b
less_from_cmp a b e = grind (arith, nat_tests)

greater_from_cmp : (a b : ℕ) → nat_cmp a b ≡ Greater → b < a
greater_from_cmp a b e = grind (arith, nat_tests)

-- an index with the lesser ids before it and the greater ones behind it is the id's, and none has the id
parted : (id : ℕ) (ms : World) (i : ℕ) → i ≤ length ms → ((k : ℕ) (d : Member) → k < i → (get_or ms k d).id < id) → ((k : ℕ) (d : Member) → i ≤ k → k < length ms → id < (get_or ms k d).id)
    → (i ≡ index_for id ms) × (position_of ms id ≡ None)
parted id [] i le less greater = (omega (arith, le), refl)
parted id (m ∷ ms) zero le less greater =
    let here : id < m.id = greater 0 m (omega arith) (omega arith) in
    let rest = parted id ms 0 (omega arith) (λ k d lt. absurd (omega (arith, lt))) (λ k d low lt. greater (suc k) d (omega arith) (omega (arith, lt))) in
    let none : position_of ms id ≡ None = rest.1 in
    (grind (arith, nat_tests, common_steps), grind (arith, nat_tests, common_steps))
parted id (m ∷ ms) (suc i) le less greater =
    let here : m.id < id = less 0 m (omega arith) in
    let rest = parted id ms i (omega (arith, le)) (λ k d lt. less (suc k) d (omega (arith, lt))) (λ k d low lt. greater (suc k) d (omega (arith, low)) (omega (arith, lt))) in
    let index : i ≡ index_for id ms = rest.0 in
    let none : position_of ms id ≡ None = rest.1 in
    (grind (arith, nat_tests, common_steps), grind (arith, nat_tests, common_steps))

pub IsIndexFor-from_search : (id : ℕ) (ms : World) (r : Result ℕ ℕ) → IsRising (places_of ms) → IsSearchInRange r (length ms) → IsBinarySearchResult (λ (m : Member). nat_cmp m.id id) ms r → IsIndexFor id ms r
IsIndexFor-from_search id ms (Ok i) rising range found = (range, λ d. equal_from_cmp (get_or ms i d).id id (found d))
IsIndexFor-from_search id ms (Err i) rising range found =
    let point = found (searchable_from_sorted nat_cmp_total (λ (m : Member). m.id) ms id (sorted_from_rising ms rising)) in
    parted id ms i range (λ k d lt. less_from_cmp (get_or ms k d).id id (point.0 k d (omega arith) lt)) (λ k d low lt. greater_from_cmp (get_or ms k d).id id (point.1 k d low lt))

-- what is found, moved and taken out at the index of an id
pub position_of-at : (ms : World) (i id : ℕ) (d : Member) → IsRising (places_of ms) → i < length ms → (get_or ms i d).id ≡ id → position_of ms id ≡ Some (stamped_of (get_or ms i d))
position_of-at [] i id d rising lt same = absurd (omega (arith, lt))
position_of-at (m ∷ ms) zero id d rising lt same = grind (arith, nat_tests, common_steps)
position_of-at (m ∷ ms) (suc i) id d rising lt same =
    let rest : position_of ms id ≡ Some (stamped_of (get_or ms i d)) = position_of-at ms i id d rising.1 (omega (arith, lt)) same in
    let above : m.id < (get_or ms i d).id = above_at m.id ms i d rising.0 (omega (arith, lt)) in
    grind (arith, nat_tests, common_steps)

with_moved-above : (id : ℕ) (to : Stamped) (ms : World) → IsAbove id (places_of ms) → with_moved id to ms ≡ ms
with_moved-above id to [] above = refl
with_moved-above id to (m ∷ ms) above =
    let rest : with_moved id to ms ≡ ms = with_moved-above id to ms above.1 in
    let here : id < m.id = above.0 in
    grind (arith, nat_tests, common_steps)

without-above : (id : ℕ) (ms : World) → IsAbove id (places_of ms) → without id ms ≡ ms
without-above id [] above = refl
without-above id (m ∷ ms) above =
    let rest : without id ms ≡ ms = without-above id ms above.1 in
    let here : id < m.id = above.0 in
    grind (arith, nat_tests, common_steps)

pub set-with_moved : (ms : World) (i : ℕ) (new d : Member) → IsRising (places_of ms) → i < length ms → (get_or ms i d).id ≡ new.id → set ms i new ≡ with_moved new.id (stamped_of new) ms
set-with_moved [] i new d rising lt same = absurd (omega (arith, lt))
set-with_moved (m ∷ ms) zero new d rising lt same =
    let rest : with_moved new.id (stamped_of new) ms ≡ ms = with_moved-above new.id (stamped_of new) ms (subst (λ n. IsAbove n (places_of ms)) same rising.0) in
    grind (arith, nat_tests, common_steps)
set-with_moved (m ∷ ms) (suc i) new d rising lt same =
    let rest : set ms i new ≡ with_moved new.id (stamped_of new) ms = set-with_moved ms i new d rising.1 (omega (arith, lt)) same in
    let above : m.id < (get_or ms i d).id = above_at m.id ms i d rising.0 (omega (arith, lt)) in
    grind (arith, nat_tests, common_steps)

pub remove-without : (ms : World) (i id : ℕ) (d : Member) → IsRising (places_of ms) → i < length ms → (get_or ms i d).id ≡ id → remove ms i ≡ without id ms
remove-without [] i id d rising lt same = absurd (omega (arith, lt))
remove-without (m ∷ ms) zero id d rising lt same =
    let rest : without id ms ≡ ms = without-above id ms (subst (λ n. IsAbove n (places_of ms)) same rising.0) in
    grind (arith, nat_tests, common_steps)
remove-without (m ∷ ms) (suc i) id d rising lt same =
    let rest : remove ms i ≡ without id ms = remove-without ms i id d rising.1 (omega (arith, lt)) same in
    let above : m.id < (get_or ms i d).id = above_at m.id ms i d rising.0 (omega (arith, lt)) in
    grind (arith, nat_tests, common_steps)

-- a put of an id that is there, and of one that is not
pub after_put-present : (m : Member) (ms : World) (p : Stamped) → position_of ms m.id ≡ Some p → after_of ms (Put m.id m.at m.moment) ≡ ms
after_put-present m ms p there = ap (λ (o : Option Stamped). cond (is_change (option_map_or Present o (cond (is_full ms) Full Done))) (with_member m ms) ms) there

pub after_put-new : (m : Member) (ms : World) → position_of ms m.id ≡ None → length ms < most_members → after_of ms (Put m.id m.at m.moment) ≡ with_member m ms
after_put-new m ms none room =
    ap (λ (o : Option Stamped). cond (is_change (option_map_or Present o (cond (is_full ms) Full Done))) (with_member m ms) ms) none
    ∙ ap (λ b. cond (is_change (cond b Full Done)) (with_member m ms) ms) (not_full (length ms) room)
  where
    not_full : (n : ℕ) → n < most_members → nat_le most_members n ≡ false
    not_full n lt = grind (arith, nat_tests)

-- a move and a removal of an id that is there
pub after_move-there : (m : Member) (ms : World) (p : Stamped) → position_of ms m.id ≡ Some p → nat_lt m.moment p.moment ≡ false → after_of ms (Move m.id m.at m.moment) ≡ with_moved m.id (stamped_of m) ms
after_move-there m ms p there fresh =
    ap (λ (o : Option Stamped). cond (is_change (option_map_or (moved_or_stale m.moment) o Absent)) (with_moved m.id (stamped_of m) ms) ms) there
    ∙ ap (λ b. cond (is_change (cond b (Stale p) (Moved p))) (with_moved m.id (stamped_of m) ms) ms) fresh

-- a move that is stale
pub after_move-stale : (m : Member) (ms : World) (p : Stamped) → position_of ms m.id ≡ Some p → nat_lt m.moment p.moment ≡ true → after_of ms (Move m.id m.at m.moment) ≡ ms
after_move-stale m ms p there stale =
    ap (λ (o : Option Stamped). cond (is_change (option_map_or (moved_or_stale m.moment) o Absent)) (with_moved m.id (stamped_of m) ms) ms) there
    ∙ ap (λ b. cond (is_change (cond b (Stale p) (Moved p))) (with_moved m.id (stamped_of m) ms) ms) stale

pub after_remove-there : (id : ℕ) (ms : World) (p : Stamped) → position_of ms id ≡ Some p → after_of ms (Remove id) ≡ without id ms
after_remove-there id ms p there = ap (λ (o : Option Stamped). cond (is_change (option_map_or Gone o Absent)) (without id ms) ms) there
