-- Worlds after the net changes of a batch.
use Rattle.std.proofs.Common.{◌≡◌, ℕ, suc, ◌<◌, ◌≤◌, Bool, true, false, cond, [], ◌∷◌, Option, Some, None, length, refl, sym, ap, ◌∙◌, arith, ◌⊎◌, inl, inr}
use Rattle.std.specs.Prelude.{◌==◌}
use Rattle.std.specs.Option.{unwrap_or}
use Rattle.std.specs.Ordering.{nat_cmp, is_eq}
use Rattle.std.proofs.lemmas.Bool.{eq-eqb}
use Rattle.std.proofs.lemmas.Bool.Decides.{nat_tests}
use Rattle.std.proofs.lemmas.Grind.{common_steps}
use Rattle.plain_list.specs.declared.world.Member.{Member}
use Rattle.plain_list.specs.declared.world.Stamped.{Stamped}
use Rattle.plain_list.specs.Places.{IsRising, IsAbove}
use Rattle.plain_list.specs.World.{World, stamped_of, member_of, places_of, position_of, IsWorld}
use Rattle.plain_list.specs.Answer.{with_member, with_moved, without}
use Rattle.plain_list.proofs.Members.{position_of-with_member, position_of-without}
use Rattle.plain_list.proofs.MemberMaps.{IsAbove-lower, position_of-above, without-absent}
use Rattle.plain_list.proofs.Worlds.{IsRising-with_member, IsRising-without}
use Rattle.point_table.specs.Drafts.{Net, left_at, after_net, LeavesAt}
use Rattle.point_table.specs.Nets.{net_of}
use Rattle.point_table.proofs.MemberSteps.{without-none}
use Rattle.point_table.proofs.TableSteps.{with_member-without}

pub position_of-gone : (id : ℕ) (world : World) → position_of (without id world) id ≡ None
position_of-gone id world = position_of-without id world id ∙ ap (λ b. cond b None (position_of world id)) (eq-eqb id id refl)

some_is : {A : Type 0} (a b : A) → Some a ≡ Some b → a ≡ b
some_is a b e = cc e

-- the first object is found, and the others have greater ids
found_first : (m : Member) (ms : World) → position_of (m ∷ ms) m.id ≡ Some (stamped_of m)
found_first m ms = grind (arith, nat_tests, common_steps)

found_later : (m : Member) (ms : World) (id : ℕ) → m.id < id → position_of (m ∷ ms) id ≡ position_of ms id
found_later m ms id less = grind (arith, nat_tests, common_steps)

below_first : (m : Member) (ms : World) (id : ℕ) → IsAbove m.id (places_of ms) → id < m.id → position_of (m ∷ ms) id ≡ None
below_first m ms id above less =
    let rest : position_of ms id ≡ None = position_of-above id ms (IsAbove-lower id m.id ms (omega arith) above) in
    grind (arith, nat_tests, common_steps)

same_member : (m n : Member) → m.id ≡ n.id → stamped_of m ≡ stamped_of n → m ≡ n
same_member m n id kept = λ i. record { id = id i; at = (kept i).at; moment = (kept i).moment }

-- worlds with the same positions are the same
pub same_worlds : (a b : World) → IsRising (places_of a) → IsRising (places_of b) → ((id : ℕ) → position_of a id ≡ position_of b id) → a ≡ b
same_worlds [] [] ra rb same = refl
same_worlds [] (n ∷ ns) ra rb same = absurd (cc (same n.id ∙ found_first n ns))
same_worlds (m ∷ ms) [] ra rb same = absurd (cc (sym (same m.id) ∙ found_first m ms))
same_worlds (m ∷ ms) (n ∷ ns) ra rb same = by_order (order m.id n.id) (same_worlds ms ns ra.1 rb.1)
  where
    order : (i j : ℕ) → (i < j) ⊎ ((j < i) ⊎ (i ≡ j))
    order i j = grind arith

    by_order : (m.id < n.id) ⊎ ((n.id < m.id) ⊎ (m.id ≡ n.id)) → (((id : ℕ) → position_of ms id ≡ position_of ns id) → ms ≡ ns) → m ∷ ms ≡ n ∷ ns
    by_order (inl less) later = absurd (cc (sym (found_first m ms) ∙ same m.id ∙ below_first n ns m.id rb.0 less))
    by_order (inr (inl less)) later = absurd (cc (sym (found_first n ns) ∙ sym (same n.id) ∙ below_first m ms n.id ra.0 less))
    by_order (inr (inr e)) later =
        let first : m ≡ n = same_member m n e (some_is (stamped_of m) (stamped_of n) (sym (found_first m ms) ∙ same m.id ∙ ap (position_of (n ∷ ns)) e ∙ found_first n ns)) in
        λ i. first i ∷ later rest i
      where
        rest : (id : ℕ) → position_of ms id ≡ position_of ns id
        rest id = by_id (order m.id id)
          where
            by_id : (m.id < id) ⊎ ((id < m.id) ⊎ (m.id ≡ id)) → position_of ms id ≡ position_of ns id
            by_id (inl less) = sym (found_later m ms id less) ∙ same id ∙ found_later n ns id (omega (arith, e, less))
            by_id (inr (inl less)) =
                position_of-above id ms (IsAbove-lower id m.id ms (omega (arith, less)) ra.0) ∙ sym (position_of-above id ns (IsAbove-lower id n.id ns (omega (arith, e, less)) rb.0))
            by_id (inr (inr is)) =
                position_of-above id ms (IsAbove-lower id m.id ms (omega (arith, is)) ra.0) ∙ sym (position_of-above id ns (IsAbove-lower id n.id ns (omega (arith, e, is)) rb.0))

pub position_of-left_at : (id : ℕ) (now : Option Stamped) (world : World) (k : ℕ) → position_of (left_at id now world) k ≡ cond (id == k) now (position_of world k)
position_of-left_at id None world k = position_of-without id world k
position_of-left_at id (Some to) world k =
    position_of-with_member (member_of id to) (without id world) k (position_of-gone id world) ∙ ap (cond (id == k) (Some to)) (position_of-without id world k) ∙ twice (id == k)
  where
    twice : (b : Bool) → cond b (Some to) (cond b None (position_of world k)) ≡ cond b (Some to) (position_of world k)
    twice true = refl
    twice false = refl

pub same_key : (a b : ℕ) → is_eq (nat_cmp a b) ≡ (a == b)
same_key a b = grind (arith, nat_tests, common_steps)

pub swap_key : (a b : ℕ) → is_eq (nat_cmp a b) ≡ (b == a)
swap_key a b = grind (arith, nat_tests, common_steps)

unwrap_if : (b : Bool) (now : Option Stamped) (o : Option (Option Stamped)) (d : Option Stamped) → cond b now (unwrap_or o d) ≡ unwrap_or (cond b (Some now) o) d
unwrap_if true now o d = refl
unwrap_if false now o d = refl

pub position_of-after_net : (net : Net) (world : World) (k : ℕ) → position_of (after_net net world) k ≡ unwrap_or (net_of net k) (position_of world k)
position_of-after_net [] world k = refl
position_of-after_net (e ∷ es) world k =
    position_of-left_at e.0 e.1 (after_net es world) k
    ∙ ap (cond (e.0 == k) e.1) (position_of-after_net es world k)
    ∙ ap (λ b. cond b e.1 (unwrap_or (net_of es k) (position_of world k))) (sym (swap_key k e.0))
    ∙ unwrap_if (is_eq (nat_cmp k e.0)) e.1 (net_of es k) (position_of world k)

pub rising-left_at : (id : ℕ) (now : Option Stamped) (world : World) → IsRising (places_of world) → IsRising (places_of (left_at id now world))
rising-left_at id None world rising = IsRising-without id world rising
rising-left_at id (Some to) world rising = IsRising-with_member (member_of id to) (without id world) (position_of-gone id world) (IsRising-without id world rising)

pub rising-after_net : (net : Net) (world : World) → IsRising (places_of world) → IsRising (places_of (after_net net world))
rising-after_net [] world rising = rising
rising-after_net (e ∷ es) world rising = rising-left_at e.0 e.1 (after_net es world) (rising-after_net es world rising)

-- one more change
pub leaves_at : (id : ℕ) (now : Option Stamped) (old new : Net) → ((k : ℕ) → net_of new k ≡ cond (is_eq (nat_cmp id k)) (Some now) (net_of old k)) → LeavesAt id now old new
leaves_at id now old new is world w =
    same_worlds (after_net new world) (left_at id now (after_net old world)) (rising-after_net new world w.rising) (rising-left_at id now (after_net old world) (rising-after_net old world w.rising)) positions
  where
    positions : (k : ℕ) → position_of (after_net new world) k ≡ position_of (left_at id now (after_net old world)) k
    positions k =
        position_of-after_net new world k
        ∙ ap (λ (o : Option (Option Stamped)). unwrap_or o (position_of world k)) (is k)
        ∙ sym (unwrap_if (is_eq (nat_cmp id k)) now (net_of old k) (position_of world k))
        ∙ ap (λ b. cond b now (unwrap_or (net_of old k) (position_of world k))) (same_key id k)
        ∙ ap (cond (id == k) now) (sym (position_of-after_net old world k))
        ∙ sym (position_of-left_at id now (after_net old world) k)

-- an object that is new
pub left_at-new : (id : ℕ) (to : Stamped) (world : World) → position_of world id ≡ None → left_at id (Some to) world ≡ with_member (member_of id to) world
left_at-new id to world none = ap (with_member (member_of id to)) (without-none id world none)

-- an object that moves
pub left_at-there : (id : ℕ) (old to : Stamped) (world : World) → IsWorld world → position_of world id ≡ Some old → left_at id (Some to) world ≡ with_moved id to world
left_at-there id old to world w there = with_member-without id old to world w there

-- one object fewer
pub length-without : (id : ℕ) (old : Stamped) (ms : World) → IsRising (places_of ms) → position_of ms id ≡ Some old → suc (length (without id ms)) ≡ length ms
length-without id old [] rising there = cc there
length-without id old (m ∷ ms) rising there =
    let rest : position_of ms id ≡ Some old → suc (length (without id ms)) ≡ length ms = length-without id old ms rising.1 in
    let gone : m.id ≤ id → id ≤ m.id → without id ms ≡ ms = λ le ge. without-absent id ms (IsAbove-lower id m.id ms ge rising.0) in
    grind (arith, nat_tests, common_steps)
