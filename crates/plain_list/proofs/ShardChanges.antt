-- Shards stay shards as objects come, move and go.
use Rattle.std.proofs.Common.{◌≡◌, ◌≢◌, ℕ, zero, suc, ◌+◌, ◌-◌, ◌<◌, length, Bool, true, false, List, [], ◌∷◌, Option, Some, None, get_or, set, replicate, refl, sym, ◌∙◌, ap, subst, arith, cond, ◌==◌, if◌then◌else◌, Decides}
use Rattle.std.specs.Option.{MatchOption, is_none}
use Rattle.std.proofs.lemmas.Grind.{common_steps, get_or-set_at}
use Rattle.std.proofs.lemmas.Bool.Decides.{nat_tests, Decides-eqb, not_from_Decides}
use Rattle.std.proofs.lemmas.List.{length-set, set-get_or, get_or-set_other, get_or_default, length-replicate}
use Rattle.plain_list.specs.declared.world.Stamped.{Stamped}
use Rattle.plain_list.specs.declared.world.Member.{Member}
use Rattle.zorder.specs.Key.{IsPoint}
use Rattle.plain_list.specs.World.{World, position_of, IsWorld, most_members, stamped_of, member_of}
use Rattle.plain_list.specs.Answer.{with_member, with_moved, without}
use Rattle.plain_list.specs.MemberShards.{most_shards, shard_of, joined, IsShard, AreShards, AreMade}
use Rattle.plain_list.proofs.Worlds.{length-with_member, length-with_moved, IsRising-with_member, IsRising-with_moved, IsRising-without, IsWorld-with_member, IsWorld-with_moved, IsWorld-without}
use Rattle.plain_list.proofs.Members.{position_of-with_member, position_of-without}
use Rattle.plain_list.proofs.Shards.{IsAtMostAt, IsNowhere, position_of-joined, length-joined, joined-replicate, joined-with_member, joined-with_moved, joined-with_member_back, joined-without, without-none}

-- where one shard is replaced by another that may stand there, each is one that may stand where it does
each-set : (shards : List World) (here : ℕ) (new : World) → here < length shards → IsShard here new → ((index : ℕ) → IsShard index (get_or shards index [])) → (index : ℕ) → IsShard index (get_or (set shards here new) index [])
each-set shards here new lt is each index = by_test (index == here) (Decides-eqb index here)
  where
    by_test : (b : Bool) → Decides b (index ≡ here) → IsShard index (get_or (set shards here new) index [])
    by_test true tells = subst (IsShard index) (sym (get_or-set_at shards here index new [] (tells.0 refl) lt)) (subst (λ p. IsShard p new) (sym (tells.0 refl)) is)
    by_test false tells = subst (IsShard index) (sym (get_or-set_other shards here index new [] (not_from_Decides false tells refl))) (each index)

position_of-with_moved_none : (id : ℕ) (to : Stamped) (world : World) (other : ℕ) → position_of world other ≡ None → position_of (with_moved id to world) other ≡ None
position_of-with_moved_none id to [] other none = refl
position_of-with_moved_none id to (n ∷ ns) other none =
    let rest : position_of ns other ≡ None → position_of (with_moved id to ns) other ≡ None = position_of-with_moved_none id to ns other in
    grind (arith, nat_tests, common_steps)

IsShard-with_member : (m : Member) (ms : World) → position_of ms m.id ≡ None → IsShard (shard_of m.id) ms → IsShard (shard_of m.id) (with_member m ms)
IsShard-with_member m ms none is = record {
  rising = IsRising-with_member m ms none is.rising;
  others = λ id differ.
      let other : m.id ≢ id = λ same. differ (ap shard_of (sym same)) in
      let absent : position_of ms id ≡ None = is.others id differ in
      let found : position_of (with_member m ms) id ≡ cond (m.id == id) (Some (stamped_of m)) (position_of ms id) = position_of-with_member m ms id none in
      grind (arith, nat_tests, common_steps);
}

IsShard-with_moved : (index id : ℕ) (to : Stamped) (ms : World) → IsShard index ms → IsShard index (with_moved id to ms)
IsShard-with_moved index id to ms is = record { rising = IsRising-with_moved id to ms is.rising; others = λ other differ. position_of-with_moved_none id to ms other (is.others other differ) }

IsShard-without : (index id : ℕ) (ms : World) → IsShard index ms → IsShard index (without id ms)
IsShard-without index id ms is = record {
  rising = IsRising-without id ms is.rising;
  others = λ other differ.
      let absent : position_of ms other ≡ None = is.others other differ in
      let found : position_of (without id ms) other ≡ cond (id == other) None (position_of ms other) = position_of-without id ms other in
      grind (arith, nat_tests, common_steps);
}

-- one shard is another one, and so the world is
pub record Becomes (shards : List World) (here : ℕ) (new world : World) (size : ℕ) : Type 0 where
  pub now : joined (set shards here new) ≡ world
  pub all : AreShards (set shards here new) size

module _ (shards : List World) (size : ℕ) (all : AreShards shards size) (id : ℕ) where
  most : IsAtMostAt (shard_of id) id shards
  most = λ index differ. (all.each index).others id (λ same. differ (sym same))

  pub shard_found : position_of (get_or shards (shard_of id) []) id ≡ position_of (joined shards) id
  shard_found = sym (position_of-joined shards (shard_of id) id (all.each (shard_of id)).rising most)

  nowhere : position_of (get_or shards (shard_of id) []) id ≡ None → IsNowhere id shards
  nowhere none = λ index. by_test index (index == shard_of id) (Decides-eqb index (shard_of id))
    where
      by_test : (index : ℕ) (b : Bool) → Decides b (index ≡ shard_of id) → position_of (get_or shards index []) id ≡ None
      by_test index true tells = subst (λ p. position_of (get_or shards p []) id ≡ None) (sym (tells.0 refl)) none
      by_test index false tells = most index (not_from_Decides false tells refl)

  count-set : (new : World) → 0 < length (set shards (shard_of id) new) → length (set shards (shard_of id) new) ≡ most_shards
  count-set new lt = length-set shards (shard_of id) new ∙ all.count (omega (arith, lt, length-set shards (shard_of id) new))

  module _ (lt : shard_of id < length shards) where
    all-set : (new world : World) (count : ℕ) → joined (set shards (shard_of id) new) ≡ world → IsWorld world → count ≡ length world → IsShard (shard_of id) new → Becomes shards (shard_of id) new world count
    all-set new world count is w len shard = record {
      now = is;
      all = record { world = subst IsWorld (sym is) w; len = len ∙ ap length (sym is); count = count-set new; each = each-set shards (shard_of id) new lt shard all.each };
    }

    pub shard_same : Becomes shards (shard_of id) (get_or shards (shard_of id) []) (joined shards) size
    shard_same = all-set (get_or shards (shard_of id) []) (joined shards) size (ap joined (set-get_or shards (shard_of id) [])) all.world all.len (all.each (shard_of id))

    module _ (to : Stamped) (fits : IsPoint to.at) where
      pub shard_put : position_of (get_or shards (shard_of id) []) id ≡ None → length (joined shards) < most_members
          → Becomes shards (shard_of id) (with_member (member_of id to) (get_or shards (shard_of id) [])) (with_member (member_of id to) (joined shards)) (size + 1)
      shard_put none few =
          let m : Member = member_of id to in
          all-set (with_member m (get_or shards (shard_of id) [])) (with_member m (joined shards)) (size + 1) (joined-with_member m shards (shard_of id) lt (nowhere none))
          (IsWorld-with_member m (joined shards) all.world (sym shard_found ∙ none) few fits)
          (omega (arith, length-with_member m (joined shards), all.len))
          (IsShard-with_member m (get_or shards (shard_of id) []) none (all.each (shard_of id)))

      pub shard_moved : Becomes shards (shard_of id) (with_moved id to (get_or shards (shard_of id) [])) (with_moved id to (joined shards)) size
      shard_moved =
          all-set (with_moved id to (get_or shards (shard_of id) [])) (with_moved id to (joined shards)) size (joined-with_moved id to shards (shard_of id) most)
          (IsWorld-with_moved id to (joined shards) all.world fits)
          (omega (arith, length-with_moved id to (joined shards), all.len))
          (IsShard-with_moved (shard_of id) id to (get_or shards (shard_of id) []) (all.each (shard_of id)))

    pub shard_left : (to : Stamped) → position_of (get_or shards (shard_of id) []) id ≡ Some to → (0 < size) × Becomes shards (shard_of id) (without id (get_or shards (shard_of id) [])) (without id (joined shards)) (size - 1)
    shard_left to found =
        let m : Member = member_of id to in
        let rising = (all.each (shard_of id)).rising in
        let left : World = joined (set shards (shard_of id) (without id (get_or shards (shard_of id) []))) in
        let was : length (joined shards) ≡ length (with_member m left) = ap length (joined-with_member_back m shards (shard_of id) lt rising most found) in
        let is : left ≡ without id (joined shards) = joined-without m shards (shard_of id) lt rising most found in (
          omega (arith, all.len, was, length-with_member m left),
          all-set (without id (get_or shards (shard_of id) [])) (without id (joined shards)) (size - 1) is
              (IsWorld-without id (joined shards) all.world)
              (omega (arith, all.len, was, length-with_member m left, ap length is))
              (IsShard-without (shard_of id) id (get_or shards (shard_of id) []) (all.each (shard_of id))),
        )

    pub shard_room : length (joined shards) < most_members → length (get_or shards (shard_of id) []) < most_members
    shard_room few = omega (arith, few, length-joined shards (shard_of id))

-- a shard that was read is the one that an id is dealt to
pub record Reads (shards : List World) (id i : ℕ) (shard : World) : Type 0 where
  pub index : i ≡ shard_of id
  pub lt : i < length shards
  pub is : shard ≡ get_or shards i shard

-- one shard takes an object, or moves it
pub record Inserts (old shards : List World) (i id : ℕ) (to : Stamped) (new : World) (there : Option Stamped) (size : ℕ) : Type 0 where
  pub found : there ≡ position_of (joined old) id
  pub is : MatchOption there (joined (set shards i new) ≡ with_member (member_of id to) (joined old)) (λ _. joined (set shards i new) ≡ with_moved id to (joined old))
  pub all : AreShards (set shards i new) size

module _ {shards : List World} {size : ℕ} {id i : ℕ} {shard : World} (all : AreShards shards size) (reads : Reads shards id i shard) where
  lt : shard_of id < length shards
  lt = omega (arith, reads.lt, reads.index)

  as_read : (P : ℕ → World → Type 0) → P (shard_of id) (get_or shards (shard_of id) []) → P i shard
  as_read P p =
      let is : shard ≡ get_or shards (shard_of id) [] = reads.is ∙ (ap (λ j. get_or shards j shard) reads.index ∙ get_or_default shards (shard_of id) shard [] lt) in
      subst (λ j. P j shard) (sym reads.index) (subst (P (shard_of id)) (sym is) p)

  pub found_in : position_of shard id ≡ position_of (joined shards) id
  found_in = as_read (λ _ s. position_of s id ≡ position_of (joined shards) id) (shard_found shards size all id)

  pub room_in : length (joined shards) < most_members → length shard < most_members
  room_in few = as_read (λ _ s. length s < most_members) (shard_room shards size all id lt few)

  pub same_in : (new : World) → new ≡ shard → Becomes shards i new (joined shards) size
  same_in new is = subst (λ s. Becomes shards i s (joined shards) size) (sym is) (as_read (λ j s. Becomes shards j s (joined shards) size) (shard_same shards size all id lt))

  pub moved_in : (to : Stamped) (new : World) → IsPoint to.at → new ≡ with_moved id to shard → Becomes shards i new (with_moved id to (joined shards)) size
  moved_in to new fits is =
      subst (λ s. Becomes shards i s (with_moved id to (joined shards)) size) (sym is) (as_read (λ j s. Becomes shards j (with_moved id to s) (with_moved id to (joined shards)) size) (shard_moved shards size all id lt to fits))

  pub left_in : (to : Stamped) (new : World) → position_of shard id ≡ Some to → new ≡ without id shard → (0 < size) × Becomes shards i new (without id (joined shards)) (size - 1)
  left_in to new found is =
      subst (λ s. (0 < size) × Becomes shards i s (without id (joined shards)) (size - 1)) (sym is)
      (as_read (λ j s. position_of s id ≡ Some to → (0 < size) × Becomes shards j (without id s) (without id (joined shards)) (size - 1)) (shard_left shards size all id lt to) found)

  pub none_in : (new : World) → position_of shard id ≡ None → new ≡ without id shard → Becomes shards i new (without id (joined shards)) size
  none_in new none is =
      let there : without id shard ≡ shard = without-none id shard none in
      let nowhere : without id (joined shards) ≡ joined shards = without-none id (joined shards) (sym found_in ∙ none) in
      subst (λ w. Becomes shards i new w size) (sym nowhere) (same_in new (is ∙ there))

  pub put_in : (to : Stamped) (new : World) → IsPoint to.at → length (joined shards) < most_members → position_of shard id ≡ None → new ≡ with_member (member_of id to) shard
      → Becomes shards i new (with_member (member_of id to) (joined shards)) (size + 1)
  put_in to new fits few none is =
      let m : Member = member_of id to in
      subst (λ s. Becomes shards i s (with_member m (joined shards)) (size + 1)) (sym is)
      (as_read (λ j s. position_of s id ≡ None → Becomes shards j (with_member m s) (with_member m (joined shards)) (size + 1)) (λ absent. shard_put shards size all id lt to fits absent few) none)

-- shards that were made where there were none stand for the same world
get_or-replicate_none : (n index : ℕ) → get_or {A = World} (replicate n []) index [] ≡ []
get_or-replicate_none zero index = refl
get_or-replicate_none (suc n) zero = refl
get_or-replicate_none (suc n) (suc index) = get_or-replicate_none n index

IsShard-nil : (index : ℕ) → IsShard index []
IsShard-nil index = record { rising = tt; others = λ id differ. refl }

pub record Stand (old new : List World) (size : ℕ) : Type 0 where
  pub same : joined new ≡ joined old
  pub count : length new ≡ most_shards
  pub all : AreShards new size

replicated : (n size : ℕ) → n ≡ most_shards → size ≡ 0 → Stand [] (replicate n []) size
replicated n size is none = record {
  same = joined-replicate n;
  count = length-replicate n [] ∙ is;
  all = record {
    world = subst IsWorld (sym (joined-replicate n)) (record { rising = tt; size = omega arith; points = tt });
    len = none ∙ ap length (sym (joined-replicate n));
    count = λ lt. length-replicate n [] ∙ is;
    each = λ index. subst (IsShard index) (sym (get_or-replicate_none n index)) (IsShard-nil index);
  };
}

pub made : (old new : List World) (size : ℕ) → AreShards old size → AreMade old new → Stand old new size
made [] new size all m = subst (λ n. Stand [] n size) (sym (m.made refl)) (replicated most_shards size refl all.len)
made (s ∷ ss) new size all m = subst (λ n. Stand (s ∷ ss) n size) (sym (m.kept (omega arith))) (record { same = refl; count = all.count (omega arith); all = all })

pub below_made : {old shards : List World} {size : ℕ} (i : ℕ) → AreShards old size → AreMade old shards → i < most_shards → i < length shards
below_made {old} {shards} {size} i all are lt = omega (arith, (made old shards size all are).count)

module _ {old shards : List World} {size : ℕ} {id i : ℕ} {shard : World} (all : AreShards old size) (are : AreMade old shards) (reads : Reads shards id i shard) where
  stand : Stand old shards size
  stand = made old shards size all are

  pub found_made : position_of shard id ≡ position_of (joined old) id
  found_made = found_in stand.all reads ∙ ap (λ (w : World). position_of w id) stand.same

  pub room_made : length (joined old) < most_members → length shard < most_members
  room_made few = room_in stand.all reads (omega (arith, few, ap length stand.same))

  pub same_made : (new : World) → new ≡ shard → Becomes shards i new (joined old) size
  same_made new is = subst (λ w. Becomes shards i new w size) stand.same (same_in stand.all reads new is)

  pub inserts : (to : Stamped) (new : World) (there : Option Stamped) (more : ℕ) → IsPoint to.at → length (joined old) < most_members → there ≡ position_of shard id
      → MatchOption there (new ≡ with_member (member_of id to) shard) (λ _. new ≡ with_moved id to shard) → more ≡ (if is_none there then 1 else 0) → Inserts old shards i id to new there (size + more)
  inserts to new None more fits few none is one =
      let m : Member = member_of id to in
      let into = put_in stand.all reads to new fits (omega (arith, few, ap length stand.same)) (sym none) is in
      let put = subst (λ w. Becomes shards i new (with_member m w) (size + 1)) stand.same into in
      record { found = none ∙ found_made; is = put.now; all = subst (λ n. AreShards (set shards i new) (size + n)) (sym one) put.all }
  inserts to new (Some p) more fits few found is none =
      let moved = subst (λ w. Becomes shards i new (with_moved id to w) size) stand.same (moved_in stand.all reads to new fits is) in
      let same : size ≡ size + more = omega (arith, none) in
      record { found = found ∙ found_made; is = moved.now; all = subst (AreShards (set shards i new)) same moved.all }
