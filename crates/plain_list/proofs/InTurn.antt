-- The objects of all shards in turn, and in the order of their ids.
use Rattle.std.proofs.Common.{◌≡◌, ℕ, zero, suc, ◌<◌, Bool, true, false, List, [], ◌∷◌, ◌++◌, length, get_or, Some, sym, ◌∙◌, ap, subst, arith, add-one, cond}
use Rattle.std.specs.Cmp.{IsStrictWeakOrder}
use Rattle.std.specs.List.{All}
use Rattle.std.specs.List.Sorted.{IsPermutation, IsSortedBy}
use Rattle.std.specs.Ordering.{nat_cmp, is_lt}
use Rattle.std.proofs.lemmas.Grind.{common_steps}
use Rattle.std.proofs.lemmas.Bool.Decides.{nat_tests}
use Rattle.std.proofs.lemmas.List.Elements.{All-cons}
use Rattle.std.proofs.lemmas.List.Sorted.{All-permutation, IsPermutation-refl, IsPermutation-sym, IsPermutation-trans, IsPermutation-cons, IsPermutation-insert, IsPermutation-append_right, length_permutation, sum_by-IsPermutation}
use Rattle.plain_list.specs.declared.world.Member.{Member}
use Rattle.plain_list.specs.declared.world.Stamped.{Stamped}
use Rattle.plain_list.specs.Places.{IsRising, IsAbove}
use Rattle.plain_list.specs.World.{World, places_of, position_of, stamped_of}
use Rattle.plain_list.specs.Answer.{with_member, index_for}
use Rattle.plain_list.specs.MemberShards.{with_all, joined, in_turn}
use Rattle.plain_list.proofs.Members.{insert-index_for}
use Rattle.plain_list.proofs.Ranking.{sorted_once}

-- they are the same objects
IsPermutation-with_member : (m : Member) (world : World) → IsPermutation (m ∷ world) (with_member m world)
IsPermutation-with_member m world = subst (λ (l : World). IsPermutation (m ∷ world) l) (insert-index_for m world) (IsPermutation-insert world (index_for m.id world) m)

IsPermutation-with_all : (ms world : World) → IsPermutation (ms ++ world) (with_all ms world)
IsPermutation-with_all [] world = IsPermutation-refl world
IsPermutation-with_all (m ∷ ms) world =
    IsPermutation-trans (m ∷ (ms ++ world)) (m ∷ with_all ms world) (with_member m (with_all ms world))
    (IsPermutation-cons m (ms ++ world) (with_all ms world) (IsPermutation-with_all ms world)) (IsPermutation-with_member m (with_all ms world))

IsPermutation-joined : (shards : List World) → IsPermutation (in_turn shards) (joined shards)
IsPermutation-joined [] = IsPermutation-refl []
IsPermutation-joined (shard ∷ shards) =
    IsPermutation-trans (shard ++ in_turn shards) (shard ++ joined shards) (with_all shard (joined shards))
    (IsPermutation-append_right shard (in_turn shards) (joined shards) (IsPermutation-joined shards)) (IsPermutation-with_all shard (joined shards))

pub length-in_turn : (shards : List World) → length (joined shards) ≡ length (in_turn shards)
length-in_turn shards = length_permutation (in_turn shards) (joined shards) (IsPermutation-joined shards)

-- the order of ids
abbrev pub has_less_id : Member → Member → Bool
has_less_id m n = is_lt (nat_cmp m.id n.id)

one_way : (i j : ℕ) → is_lt (nat_cmp i j) ≡ true → is_lt (nat_cmp j i) ≡ false
one_way i j h = grind (arith, nat_tests, common_steps)

chain : (i j k : ℕ) → is_lt (nat_cmp i j) ≡ false → is_lt (nat_cmp j k) ≡ false → is_lt (nat_cmp i k) ≡ false
chain i j k g h = grind (arith, nat_tests, common_steps)

tied_ids : (i j : ℕ) → is_lt (nat_cmp i j) ≡ false → is_lt (nat_cmp j i) ≡ false → i ≡ j
tied_ids i j g h = grind (arith, nat_tests, common_steps)

has_less_id-order : IsStrictWeakOrder has_less_id
has_less_id-order = record { one_way = λ m n h. one_way m.id n.id h; chain = λ m n o g h. chain m.id n.id o.id g h }

-- a world is in that order, and each object is found in it
above_at : (id : ℕ) (ms : World) (i : ℕ) (d : Member) → IsAbove id (places_of ms) → i < length ms → id < (get_or ms i d).id
above_at id [] i d above lt = absurd (omega (arith, lt))
above_at id (m ∷ ms) zero d above lt = above.0
above_at id (m ∷ ms) (suc i) d above lt = above_at id ms i d above.1 (omega (arith, lt))

not_less : (i j : ℕ) → j < i → is_lt (nat_cmp i j) ≡ false
not_less i j lt = grind (arith, nat_tests, common_steps)

next_not_less : (ms : World) (k : ℕ) (d : Member) → IsRising (places_of ms) → suc k < length ms → has_less_id (get_or ms (suc k) d) (get_or ms k d) ≡ false
next_not_less [] k d rising lt = absurd (omega (arith, lt))
next_not_less (m ∷ ms) zero d rising lt = not_less (get_or ms 0 d).id m.id (above_at m.id ms 0 d rising.0 (omega (arith, lt)))
next_not_less (m ∷ ms) (suc k) d rising lt = next_not_less ms k d rising.1 (omega (arith, lt))

IsSortedBy-world : (ms : World) → IsRising (places_of ms) → IsSortedBy has_less_id ms
IsSortedBy-world ms rising = λ k d low lt. subst (λ j. has_less_id (get_or ms j d) (get_or ms k d) ≡ false) (sym (add-one k)) (next_not_less ms k d rising (omega (arith, lt)))

abbrev IsFoundIn : World → Member → Type 0
IsFoundIn world m = position_of world m.id ≡ Some (stamped_of m)

found_in : (ms : World) → IsRising (places_of ms) → All (IsFoundIn ms) ms
found_in [] rising = λ k d lt. absurd (omega (arith, lt))
found_in (m ∷ ms) rising =
    All-cons (IsFoundIn (m ∷ ms)) m ms (first m ms)
    (λ k d lt. behind (get_or ms k d) (above_at m.id ms k d rising.0 lt) (found_in ms rising.1 k d lt))
  where
    first : (m : Member) (ms : World) → position_of (m ∷ ms) m.id ≡ Some (stamped_of m)
    first m ms = grind (arith, nat_tests, common_steps)

    behind : (n : Member) → m.id < n.id → position_of ms n.id ≡ Some (stamped_of n) → position_of (m ∷ ms) n.id ≡ Some (stamped_of n)
    behind n lt found = grind (arith, nat_tests, common_steps)

-- what has the objects of all shards and is in that order is their world
pub in_turn_sorted : (shards : List World) (ys : World) → IsRising (places_of (joined shards)) → IsPermutation (in_turn shards) ys → IsSortedBy has_less_id ys → ys ≡ joined shards
in_turn_sorted shards ys rising shuffled sorted =
    let world = joined shards in
    let same = IsPermutation-joined shards in
    let found = found_in world rising in
    let all_found = All-permutation (IsFoundIn world) world ys (IsPermutation-trans world (in_turn shards) ys (IsPermutation-sym (in_turn shards) world same) shuffled) found in
    sorted_once has_less_id (IsFoundIn world) has_less_id-order tied ys world all_found found sorted (IsSortedBy-world world rising)
    (λ q. sum_by-IsPermutation (λ m. cond (q m) 1 0) (in_turn shards) ys shuffled ∙ sym (sum_by-IsPermutation (λ m. cond (q m) 1 0) (in_turn shards) world same))
  where
    inside : (s t : Stamped) → Some s ≡ Some t → s ≡ t
    inside s t e = cc e

    tied : (m n : Member) → IsFoundIn (joined shards) m → IsFoundIn (joined shards) n → has_less_id m n ≡ false → has_less_id n m ≡ false → m ≡ n
    tied m n fm fn mn nm =
        let id : m.id ≡ n.id = tied_ids m.id n.id mn nm in
        let kept : stamped_of m ≡ stamped_of n = inside (stamped_of m) (stamped_of n) (sym fm ∙ ap (position_of (joined shards)) id ∙ fn) in
        λ i. record { id = id i; at = (kept i).at; moment = (kept i).moment }
