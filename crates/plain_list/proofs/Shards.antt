-- What is found in a world that is dealt over shards, and changes of one shard.
use Rattle.std.proofs.Common.{◌≡◌, ◌≢◌, ℕ, zero, suc, ◌+◌, ◌<◌, ◌≤◌, length, Bool, true, false, List, [], ◌∷◌, Some, None, get_or, set, replicate, refl, sym, ◌∙◌, ap, subst, arith, cond, ◌==◌, Decides}
use Rattle.std.proofs.lemmas.Grind.{common_steps, get_or-set_at}
use Rattle.std.proofs.lemmas.Bool.Decides.{nat_tests, Decides-eqb, not_from_Decides}
use Rattle.std.proofs.lemmas.List.{length-set, set-set, set-get_or, get_or-set_same, get_or-set_other}
use Rattle.plain_list.specs.declared.world.Stamped.{Stamped}
use Rattle.plain_list.specs.declared.world.Member.{Member}
use Rattle.plain_list.specs.Places.{IsRising, IsAbove}
use Rattle.plain_list.specs.World.{World, places_of, position_of, stamped_of}
use Rattle.plain_list.specs.Answer.{with_member, with_moved, moved_to, without}
use Rattle.plain_list.specs.MemberShards.{with_all, joined}
use Rattle.plain_list.proofs.Worlds.{length-with_member}
use Rattle.plain_list.proofs.Members.{position_of-with_member, position_of-without}
use Rattle.plain_list.proofs.MemberMaps.{position_of-above, with_moved-none, without-absent, IsAbove-lower}

-- two objects of different ids may be added in either order
with_member-swap : (m n : Member) (world : World) → m.id ≢ n.id → with_member m (with_member n world) ≡ with_member n (with_member m world)
with_member-swap m n [] differ = grind (arith, nat_tests, common_steps)
with_member-swap m n (o ∷ os) differ =
    let rest : with_member m (with_member n os) ≡ with_member n (with_member m os) = with_member-swap m n os differ in
    grind (arith, nat_tests, common_steps)

position_of-with_member_other : (m : Member) (world : World) (id : ℕ) → m.id ≢ id → position_of (with_member m world) id ≡ position_of world id
position_of-with_member_other m [] id differ = grind (arith, nat_tests, common_steps)
position_of-with_member_other m (n ∷ ns) id differ =
    let rest : position_of (with_member m ns) id ≡ position_of ns id = position_of-with_member_other m ns id differ in
    grind (arith, nat_tests, common_steps)

-- an object that isn't found has another id than the first, and isn't found behind it
not_first : (n : Member) (ns : World) (id : ℕ) → position_of (n ∷ ns) id ≡ None → n.id ≢ id
not_first n ns id none = grind (arith, nat_tests, common_steps)

not_later : (n : Member) (ns : World) (id : ℕ) → position_of (n ∷ ns) id ≡ None → position_of ns id ≡ None
not_later n ns id none = grind (arith, nat_tests, common_steps)

with_moved-with_member : (id : ℕ) (to : Stamped) (m : Member) (world : World) → with_moved id to (with_member m world) ≡ with_member (moved_to id to m) (with_moved id to world)
with_moved-with_member id to m [] = refl
with_moved-with_member id to m (n ∷ ns) =
    let rest : with_moved id to (with_member m ns) ≡ with_member (moved_to id to m) (with_moved id to ns) = with_moved-with_member id to m ns in
    grind (arith, nat_tests, common_steps)

-- an object that isn't there is taken out to no effect
pub without-none : (id : ℕ) (world : World) → position_of world id ≡ None → without id world ≡ world
without-none id [] none = refl
without-none id (n ∷ ns) none =
    let rest : position_of ns id ≡ None → without id ns ≡ ns = without-none id ns in
    grind (arith, nat_tests, common_steps)

without-with_member : (m : Member) (world : World) → without m.id (with_member m world) ≡ without m.id world
without-with_member m [] = grind (arith, nat_tests, common_steps)
without-with_member m (n ∷ ns) =
    let rest : without m.id (with_member m ns) ≡ without m.id ns = without-with_member m ns in
    grind (arith, nat_tests, common_steps)

with_member-above : (m : Member) (ns : World) → IsAbove m.id (places_of ns) → with_member m ns ≡ m ∷ ns
with_member-above m [] above = refl
with_member-above m (n ∷ ns) above =
    let lt : m.id < n.id = above.0 in
    grind (arith, nat_tests, common_steps)

-- an object taken out and added again
with_member-without : (m : Member) (world : World) → IsRising (places_of world) → position_of world m.id ≡ Some (stamped_of m) → with_member m (without m.id world) ≡ world
with_member-without m [] rising found = cc
with_member-without m (n ∷ ns) rising found =
    let rest : position_of ns m.id ≡ Some (stamped_of m) → with_member m (without m.id ns) ≡ ns = with_member-without m ns rising.1 in
    let gone : n.id ≡ m.id → without m.id ns ≡ ns = λ same. without-absent m.id ns (subst (λ a. IsAbove a (places_of ns)) same rising.0) in
    let first : n.id ≡ m.id → with_member m ns ≡ m ∷ ns = λ same. with_member-above m ns (subst (λ a. IsAbove a (places_of ns)) same rising.0) in
    let none : m.id < n.id → position_of ns m.id ≡ None = λ lt. position_of-above m.id ns (IsAbove-lower m.id n.id ns (omega arith) rising.0) in
    grind (arith, nat_tests, common_steps)

-- what is found, and changed, in a world with these objects added
with_all-with_member_left : (m : Member) (ms world : World) → position_of ms m.id ≡ None → with_all (with_member m ms) world ≡ with_member m (with_all ms world)
with_all-with_member_left m [] world none = refl
with_all-with_member_left m (n ∷ ns) world none =
    let rest : with_all (with_member m ns) world ≡ with_member m (with_all ns world) = with_all-with_member_left m ns world (not_later n ns m.id none) in
    let swap : with_member n (with_member m (with_all ns world)) ≡ with_member m (with_member n (with_all ns world)) = with_member-swap n m (with_all ns world) (not_first n ns m.id none) in
    grind (arith, nat_tests, common_steps)

with_all-with_member : (m : Member) (ms world : World) → position_of ms m.id ≡ None → with_all ms (with_member m world) ≡ with_member m (with_all ms world)
with_all-with_member m [] world none = refl
with_all-with_member m (n ∷ ns) world none =
    ap (with_member n) (with_all-with_member m ns world (not_later n ns m.id none)) ∙ with_member-swap n m (with_all ns world) (not_first n ns m.id none)

with_moved-with_all : (id : ℕ) (to : Stamped) (ms world : World) → with_moved id to (with_all ms world) ≡ with_all (with_moved id to ms) (with_moved id to world)
with_moved-with_all id to [] world = refl
with_moved-with_all id to (m ∷ ms) world = with_moved-with_member id to m (with_all ms world) ∙ ap (with_member (moved_to id to m)) (with_moved-with_all id to ms world)

position_of-with_all : (ms world : World) (id : ℕ) → position_of ms id ≡ None → position_of (with_all ms world) id ≡ position_of world id
position_of-with_all [] world id none = refl
position_of-with_all (m ∷ ms) world id none = position_of-with_member_other m (with_all ms world) id (not_first m ms id none) ∙ position_of-with_all ms world id (not_later m ms id none)

position_of-with_all_left : (ms world : World) (id : ℕ) → IsRising (places_of ms) → position_of world id ≡ None → position_of (with_all ms world) id ≡ position_of ms id
position_of-with_all_left [] world id rising none = none
position_of-with_all_left (m ∷ ms) world id rising none =
    let rest : position_of (with_all ms world) id ≡ position_of ms id = position_of-with_all_left ms world id rising.1 none in
    let first : m.id ≡ id → position_of (with_all ms world) m.id ≡ None = λ same. subst (λ i. position_of (with_all ms world) i ≡ None) (sym same) (rest ∙ position_of-above id ms (subst (λ a. IsAbove a (places_of ms)) same rising.0)) in
    let added : position_of (with_all ms world) m.id ≡ None → position_of (with_member m (with_all ms world)) id ≡ cond (m.id == id) (Some (stamped_of m)) (position_of (with_all ms world) id) = position_of-with_member m (with_all ms world) id in
    let other : m.id ≢ id → position_of (with_member m (with_all ms world)) id ≡ position_of (with_all ms world) id = position_of-with_member_other m (with_all ms world) id in
    grind (arith, nat_tests, common_steps)

length-with_all : (ms world : World) → length (with_all ms world) ≡ length ms + length world
length-with_all [] world = omega arith
length-with_all (m ∷ ms) world = omega (arith, length-with_member m (with_all ms world), length-with_all ms world)

-- no shard, or none but that at an index, has the id
abbrev pub IsNowhere : ℕ → List World → Type 0
IsNowhere id shards = (index : ℕ) → position_of (get_or shards index []) id ≡ None

abbrev pub IsAtMostAt : ℕ → ℕ → List World → Type 0
IsAtMostAt here id shards = (index : ℕ) → index ≢ here → position_of (get_or shards index []) id ≡ None

behind : (here id : ℕ) (shard : World) (shards : List World) → IsAtMostAt (suc here) id (shard ∷ shards) → IsAtMostAt here id shards
behind here id shard shards most = λ index differ. most (suc index) (λ same. differ (omega (arith, same)))

zero_suc : (n : ℕ) → zero ≢ suc n
zero_suc n = λ same. omega (arith, same)

position_of-joined_none : (shards : List World) (id : ℕ) → IsNowhere id shards → position_of (joined shards) id ≡ None
position_of-joined_none [] id none = refl
position_of-joined_none (shard ∷ shards) id none = position_of-with_all shard (joined shards) id (none 0) ∙ position_of-joined_none shards id (λ index. none (suc index))

others_none : (id : ℕ) (shard : World) (shards : List World) → IsAtMostAt 0 id (shard ∷ shards) → position_of (joined shards) id ≡ None
others_none id shard shards most = position_of-joined_none shards id (λ index. most (suc index) (λ same. zero_suc index (sym same)))

pub position_of-joined : (shards : List World) (here id : ℕ) → IsRising (places_of (get_or shards here [])) → IsAtMostAt here id shards → position_of (joined shards) id ≡ position_of (get_or shards here []) id
position_of-joined [] here id rising most = refl
position_of-joined (shard ∷ shards) zero id rising most = position_of-with_all_left shard (joined shards) id rising (others_none id shard shards most)
position_of-joined (shard ∷ shards) (suc here) id rising most =
    position_of-with_all shard (joined shards) id (most 0 (zero_suc here)) ∙ position_of-joined shards here id rising (behind here id shard shards most)

pub length-joined : (shards : List World) (here : ℕ) → length (get_or shards here []) ≤ length (joined shards)
length-joined [] here = omega arith
length-joined (shard ∷ shards) zero = omega (arith, length-with_all shard (joined shards))
length-joined (shard ∷ shards) (suc here) = omega (arith, length-with_all shard (joined shards), length-joined shards here)

pub joined-replicate : (n : ℕ) → joined (replicate n []) ≡ []
joined-replicate zero = refl
joined-replicate (suc n) = joined-replicate n

-- a change of one shard is one of the world
pub joined-with_member : (m : Member) (shards : List World) (here : ℕ) → here < length shards → IsNowhere m.id shards → joined (set shards here (with_member m (get_or shards here []))) ≡ with_member m (joined shards)
joined-with_member m [] here lt none = absurd (omega (arith, lt))
joined-with_member m (shard ∷ shards) zero lt none = with_all-with_member_left m shard (joined shards) (none 0)
joined-with_member m (shard ∷ shards) (suc here) lt none =
    ap (with_all shard) (joined-with_member m shards here (omega (arith, lt)) (λ index. none (suc index))) ∙ with_all-with_member m shard (joined shards) (none 0)

pub joined-with_moved : (id : ℕ) (to : Stamped) (shards : List World) (here : ℕ) → IsAtMostAt here id shards → joined (set shards here (with_moved id to (get_or shards here []))) ≡ with_moved id to (joined shards)
joined-with_moved id to [] here most = refl
joined-with_moved id to (shard ∷ shards) zero most =
    sym (with_moved-with_all id to shard (joined shards) ∙ ap (with_all (with_moved id to shard)) (with_moved-none id to (joined shards) (others_none id shard shards most)))
joined-with_moved id to (shard ∷ shards) (suc here) most =
    let same : with_moved id to shard ≡ shard = with_moved-none id to shard (most 0 (zero_suc here)) in
    sym (with_moved-with_all id to shard (joined shards) ∙ ap (λ (s : World). with_all s (with_moved id to (joined shards))) same ∙ ap (with_all shard) (sym (joined-with_moved id to shards here (behind here id shard shards most))))

-- an object taken out of a shard is taken out of the world, which had it
module _ (m : Member) (shards : List World) (here : ℕ) (lt : here < length shards) (rising : IsRising (places_of (get_or shards here []))) (most : IsAtMostAt here m.id shards) where
  nowhere : IsNowhere m.id (set shards here (without m.id (get_or shards here [])))
  nowhere index = by_test (index == here) (Decides-eqb index here)
    where
      gone : position_of (without m.id (get_or shards here [])) m.id ≡ None
      gone =
          let is : position_of (without m.id (get_or shards here [])) m.id ≡ cond (m.id == m.id) None (position_of (get_or shards here []) m.id) = position_of-without m.id (get_or shards here []) m.id in
          grind (arith, nat_tests, common_steps)

      by_test : (b : Bool) → Decides b (index ≡ here) → position_of (get_or (set shards here (without m.id (get_or shards here []))) index []) m.id ≡ None
      by_test true tells = ap (λ (s : World). position_of s m.id) (get_or-set_at shards here index (without m.id (get_or shards here [])) [] (tells.0 refl) lt) ∙ gone
      by_test false tells =
          let differ : index ≢ here = not_from_Decides false tells refl in
          ap (λ (s : World). position_of s m.id) (get_or-set_other shards here index (without m.id (get_or shards here [])) [] differ) ∙ most index differ

  pub joined-with_member_back : position_of (get_or shards here []) m.id ≡ Some (stamped_of m) → joined shards ≡ with_member m (joined (set shards here (without m.id (get_or shards here []))))
  joined-with_member_back found =
      let shard = get_or shards here [] in
      let left = without m.id shard in
      let there : get_or (set shards here left) here [] ≡ left = get_or-set_same shards here left [] lt in
      let back : with_member m (get_or (set shards here left) here []) ≡ shard = ap (with_member m) there ∙ with_member-without m shard rising found in
      let again : set (set shards here left) here (with_member m (get_or (set shards here left) here [])) ≡ shards =
      ap (set (set shards here left) here) back ∙ (set-set shards here left shard ∙ set-get_or shards here []) in
      sym (ap joined again) ∙ joined-with_member m (set shards here left) here (omega (arith, lt, length-set shards here left)) nowhere

  pub joined-without : position_of (get_or shards here []) m.id ≡ Some (stamped_of m) → joined (set shards here (without m.id (get_or shards here []))) ≡ without m.id (joined shards)
  joined-without found =
      let left = joined (set shards here (without m.id (get_or shards here []))) in
      sym (ap (without m.id) (joined-with_member_back found) ∙ (without-with_member m left ∙ without-none m.id left (position_of-joined_none (set shards here (without m.id (get_or shards here []))) m.id nowhere)))
