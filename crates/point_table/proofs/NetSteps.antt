-- The steps by which net changes are made in a map of objects.
use Rattle.std.proofs.Common.{◌≡◌, ℕ, Bool, true, false, cond, List, [], ◌∷◌, ◌++◌, Option, Some, None, refl, sym, ap, subst, ◌∙◌, arith, not}
use Rattle.std.specs.Prelude.{◌==◌, ◌||◌, ◌&&◌, is_some}
use Rattle.std.specs.List.{AllByRecursion}
use Rattle.std.specs.List.Sorted.{IsStrictlySortedBy}
use Rattle.std.specs.Map.{keys_of}
use Rattle.std.specs.Option.{unwrap_or, option_map}
use Rattle.std.specs.Ordering.{nat_cmp, is_eq}
use Rattle.std.specs.declared.cmp.Ordering.TheVariants.{Less}
use Rattle.std.proofs.lemmas.Map.Keys.{sorted_head, sorted_tail}
use Rattle.std.proofs.lemmas.List.Folds.{list_any-append}
use mathlib.Core.Bool.{true≢false}
use Rattle.std.proofs.lemmas.Bool.{eqb-true}
use Rattle.std.proofs.lemmas.Bool.Decides.{nat_tests}
use Rattle.std.proofs.lemmas.Grind.{common_steps}
use Rattle.plain_list.specs.declared.world.Member.{Member}
use Rattle.plain_list.specs.declared.world.Stamped.{Stamped}
use Rattle.plain_list.specs.MemberMap.{IsPut}
use Rattle.plain_list.specs.World.{World, stamped_of, member_of, position_of, IsWorld}
use Rattle.plain_list.specs.Answer.{with_moved, without}
use Rattle.plain_list.proofs.Members.{position_of-with_member, position_of-without}
use Rattle.plain_list.proofs.Worlds.{IsWorld-without}
use Rattle.point_table.specs.Drafts.{Net, after_net}
use Rattle.point_table.specs.Nets.{net_of, has_id, AreAbsent, AreNew, Touches, Adds, Removes, HasAll, Leaves, Makes, new_one, settle_at, settle_each, settled}
use Rattle.point_table.proofs.Nets.{same_worlds, position_of-after_net, rising-after_net, swap_key}

pub position_of-with_moved : (id : ℕ) (to : Stamped) (ms : World) (k : ℕ) → position_of (with_moved id to ms) k ≡ cond (id == k) (option_map (λ (_ : Stamped). to) (position_of ms k)) (position_of ms k)
position_of-with_moved id to [] k = nothing (id == k)
  where
    nothing : (b : Bool) → None ≡ cond b (option_map (λ (_ : Stamped). to) None) None
    nothing true = refl
    nothing false = refl
position_of-with_moved id to (m ∷ ms) k =
    let rest : position_of (with_moved id to ms) k ≡ cond (id == k) (option_map (λ (_ : Stamped). to) (position_of ms k)) (position_of ms k) = position_of-with_moved id to ms k in
    grind (arith, nat_tests, common_steps)

-- an insert leaves the object there
pub put_position : (id : ℕ) (to : Stamped) (there : Option Stamped) (old new : World) → IsPut id to there old new → (k : ℕ) → position_of new k ≡ cond (id == k) (Some to) (position_of old k)
put_position id to None old new put k = ap (λ (ms : World). position_of ms k) put.is ∙ position_of-with_member (member_of id to) old k (sym put.found)
put_position id to (Some kept) old new put k = ap (λ (ms : World). position_of ms k) put.is ∙ position_of-with_moved id to old k ∙ by_test (id == k) (λ e. ap (position_of old) (sym (eqb-true id k e)) ∙ sym put.found)
  where
    by_test : (b : Bool) → (b ≡ true → position_of old k ≡ Some kept) → cond b (option_map (λ (_ : Stamped). to) (position_of old k)) (position_of old k) ≡ cond b (Some to) (position_of old k)
    by_test true there = ap (option_map (λ (_ : Stamped). to)) (there refl)
    by_test false there = refl

pub has_id-push : (ms : List Member) (m : Member) (k : ℕ) → has_id (ms ++ m ∷ []) k ≡ (has_id ms k || (m.id == k))
has_id-push ms m k = list_any-append (λ (n : Member). n.id == k) ms (m ∷ []) ∙ ap (λ b. has_id ms k || b) (or_false (m.id == k))
  where
    or_false : (b : Bool) → (b || false) ≡ b
    or_false true = refl
    or_false false = refl

either_false : (a b : Bool) → (a || b) ≡ false → (a ≡ false) × (b ≡ false)
either_false true b e = absurd (true≢false e)
either_false false b e = (refl, e)

-- one of a pair of tests
one_of : (P : Type 0) (a b : Bool) → (a || b) ≡ true → (b ≡ true → P) → (a ≡ true → b ≡ false → P) → P
one_of P a true e second first = second refl
one_of P true false e second first = first refl refl
one_of P false false e second first = absurd (true≢false (sym e))

pub touches_next : (ms : List Member) (m : Member) (old mid new : World) → Touches ms old mid → ((k : ℕ) → (m.id == k) ≡ false → position_of new k ≡ position_of mid k) → (IsWorld mid → IsWorld new) → Touches (ms ++ m ∷ []) old new
touches_next ms m old mid new touches others world =
    record {
      others = λ k none. let both = either_false (has_id ms k) (m.id == k) (sym (has_id-push ms m k) ∙ none) in others k both.1 ∙ touches.others k both.0;
      world = λ is. world (touches.world is);
    }

pub adds_next : (ms : List Member) (m : Member) (there : Option Stamped) (old mid new : World) → Adds ms old mid → IsPut m.id (stamped_of m) there mid new → IsWorld new → Adds (ms ++ m ∷ []) old new
adds_next ms m there old mid new adds put world =
    record {
      touches = touches_next ms m old mid new adds.touches (λ k other. at k ∙ ap (λ b. cond b (Some (stamped_of m)) (position_of mid k)) other) (λ _. world);
      there = λ k has. one_of (is_some (position_of new k) ≡ true) (has_id ms k) (m.id == k) (sym (has_id-push ms m k) ∙ has)
          (λ here. ap (λ o. is_some o) (at k ∙ ap (λ b. cond b (Some (stamped_of m)) (position_of mid k)) here))
          (λ before other. ap (λ o. is_some o) (at k ∙ ap (λ b. cond b (Some (stamped_of m)) (position_of mid k)) other) ∙ adds.there k before);
    }
  where
    at : (k : ℕ) → position_of new k ≡ cond (m.id == k) (Some (stamped_of m)) (position_of mid k)
    at = put_position m.id (stamped_of m) there mid new put

pub removes_next : (ms : List Member) (m : Member) (old mid new : World) → Removes ms old mid → new ≡ without m.id mid → Removes (ms ++ m ∷ []) old new
removes_next ms m old mid new removes is =
    record {
      touches = touches_next ms m old mid new removes.touches (λ k other. at k ∙ ap (λ b. cond b None (position_of mid k)) other) (λ world. subst IsWorld (sym is) (IsWorld-without m.id mid world));
      gone = λ k has. one_of (position_of new k ≡ None) (has_id ms k) (m.id == k) (sym (has_id-push ms m k) ∙ has)
          (λ here. at k ∙ ap (λ b. cond b None (position_of mid k)) here)
          (λ before other. at k ∙ ap (λ b. cond b None (position_of mid k)) other ∙ removes.gone k before);
    }
  where
    at : (k : ℕ) → position_of new k ≡ cond (m.id == k) None (position_of mid k)
    at k = ap (λ (ms : World). position_of ms k) is ∙ position_of-without m.id mid k

-- what was touched is the first of these
pub touches_more : (ms more : List Member) (old new : World) → Touches ms old new → Touches (ms ++ more) old new
touches_more ms more old new touches =
    record { others = λ k none. touches.others k ((either_false (has_id ms k) (has_id more k) (sym (list_any-append (λ (n : Member). n.id == k) ms more) ∙ none)).0); world = touches.world }

-- objects that came and went
pub undone : (ms : List Member) (old mid new : World) → IsWorld old → AreAbsent old ms → Touches ms old mid → Removes ms mid new → new ≡ old
undone ms old mid new is absent touches removes =
    same_worlds new old (removes.touches.world (touches.world is)).rising is.rising (λ k. by_test k (has_id ms k) refl)
  where
    by_test : (k : ℕ) (b : Bool) → has_id ms k ≡ b → position_of new k ≡ position_of old k
    by_test k true e = removes.gone k e ∙ sym (absent k e)
    by_test k false e = removes.touches.others k e ∙ touches.others k e

pub settle_position : (id : ℕ) (now : Option Stamped) (world : World) (k : ℕ) → position_of (settle_at id now world) k ≡ cond (id == k) (settled now (position_of world k)) (position_of world k)
settle_position id None world k = position_of-without id world k
settle_position id (Some to) world k = position_of-with_moved id to world k

apart : (k : ℕ) (es : Net) → AllByRecursion (λ y. nat_cmp k y ≡ Less) (keys_of es) → net_of es k ≡ None
apart k [] all = refl
apart k (e ∷ es) all = ap (λ o. cond (is_eq o) (Some e.1) (net_of es k)) all.0 ∙ apart k es all.1

-- what the changes say of an id, the first of which is this one
net_first : (e : ℕ × Option Stamped) (es : Net) (k : ℕ) → net_of (e ∷ es) k ≡ cond (e.0 == k) (Some e.1) (net_of es k)
net_first e es k = ap (λ b. cond b (Some e.1) (net_of es k)) (swap_key k e.0)

has_after : (e : ℕ × Option Stamped) (es : Net) (world : World) → net_of es e.0 ≡ None → HasAll (e ∷ es) world → HasAll es (settle_at e.0 e.1 world)
has_after e es world none all id to found = by_test (e.0 == id) refl
  where
    by_test : (b : Bool) → (e.0 == id) ≡ b → is_some (position_of (settle_at e.0 e.1 world) id) ≡ true
    by_test true is = absurd (cc (sym found ∙ ap (net_of es) (sym (eqb-true e.0 id is)) ∙ none))
    by_test false is =
        ap (λ o. is_some o) (settle_position e.0 e.1 world id ∙ ap (λ b. cond b (settled e.1 (position_of world id)) (position_of world id)) is)
        ∙ all id to (net_first e es id ∙ ap (λ b. cond b (Some e.1) (net_of es id)) is ∙ found)

settled_there : (now : Option Stamped) (o : Option Stamped) → ((to : Stamped) → now ≡ Some to → is_some o ≡ true) → settled now o ≡ now
settled_there None o all = refl
settled_there (Some to) None all = absurd (true≢false (sym (all to refl)))
settled_there (Some to) (Some kept) all = refl

pub settle_positions : (es : Net) (world : World) → IsStrictlySortedBy nat_cmp (keys_of es) → HasAll es world → (k : ℕ) → position_of (settle_each es world) k ≡ unwrap_or (net_of es k) (position_of world k)
settle_positions [] world sorted all k = refl
settle_positions (e ∷ es) world sorted all k =
    settle_positions es (settle_at e.0 e.1 world) (sorted_tail nat_cmp e.0 (keys_of es) sorted) (has_after e es world none all) k ∙ by_test (e.0 == k) refl
  where
    none : net_of es e.0 ≡ None
    none = apart e.0 es (sorted_head nat_cmp e.0 (keys_of es) sorted)

    here : position_of (settle_at e.0 e.1 world) k ≡ cond (e.0 == k) (settled e.1 (position_of world k)) (position_of world k)
    here = settle_position e.0 e.1 world k

    by_test : (b : Bool) → (e.0 == k) ≡ b → unwrap_or (net_of es k) (position_of (settle_at e.0 e.1 world) k) ≡ unwrap_or (net_of (e ∷ es) k) (position_of world k)
    by_test true is =
        let k_is : e.0 ≡ k = eqb-true e.0 k is in
        ap (λ (o : Option (Option Stamped)). unwrap_or o (position_of (settle_at e.0 e.1 world) k)) (ap (net_of es) (sym k_is) ∙ none)
        ∙ here ∙ ap (λ b. cond b (settled e.1 (position_of world k)) (position_of world k)) is
        ∙ settled_there e.1 (position_of world k) (λ to now_is. all k to (net_first e es k ∙ ap (λ b. cond b (Some e.1) (net_of es k)) is ∙ ap Some now_is))
        ∙ sym (ap (λ (o : Option (Option Stamped)). unwrap_or o (position_of world k)) (net_first e es k ∙ ap (λ b. cond b (Some e.1) (net_of es k)) is))
    by_test false is =
        ap (unwrap_or (net_of es k)) (here ∙ ap (λ b. cond b (settled e.1 (position_of world k)) (position_of world k)) is)
        ∙ sym (ap (λ (o : Option (Option Stamped)). unwrap_or o (position_of world k)) (net_first e es k ∙ ap (λ b. cond b (Some e.1) (net_of es k)) is))

abbrev pub with_one : Option Member → List Member → List Member
with_one None ms = ms
with_one (Some m) ms = m ∷ ms

-- the objects that net changes leave and that the world does not have
abbrev pub new_of : World → Net → List Member
new_of world [] = []
new_of world (e ∷ es) = with_one (new_one world e.0 e.1) (new_of world es)

is_new : World → ℕ → Option Stamped → Bool
is_new world id now = is_some now && not (is_some (position_of world id))

new_has : (world : World) (id : ℕ) (now : Option Stamped) (ms : List Member) (k : ℕ) → has_id (with_one (new_one world id now) ms) k ≡ ((is_new world id now && (id == k)) || has_id ms k)
unfolding is_new
new_has world id None ms k = refl
new_has world id (Some to) ms k = by_test (is_some (position_of world id))
  where
    by_test : (b : Bool) → has_id (with_one (cond b None (Some (member_of id to))) ms) k ≡ ((not b && (id == k)) || has_id ms k)
    by_test true = refl
    by_test false = refl

new_absent : (world : World) (id : ℕ) (now : Option Stamped) → is_new world id now ≡ true → position_of world id ≡ None
unfolding is_new
new_absent world id None new = absurd (true≢false (sym new))
new_absent world id (Some to) new = by_position (position_of world id) refl
  where
    by_position : (o : Option Stamped) → position_of world id ≡ o → o ≡ None
    by_position None e = refl
    by_position (Some kept) e = absurd (true≢false (sym new ∙ ap (λ p. not (is_some p)) e))

is_new-there : (world : World) (id : ℕ) (now : Option Stamped) (to : Stamped) → now ≡ Some to → position_of world id ≡ None → is_new world id now ≡ true
unfolding is_new
is_new-there world id now to now_is none = ap (λ o. is_some o && not (is_some (position_of world id))) now_is ∙ ap (λ o. not (is_some o)) none

both_true : (a b : Bool) → (a && b) ≡ true → (a ≡ true) × (b ≡ true)
both_true true b e = (refl, e)
both_true false b e = absurd (true≢false (sym e))

or_true : (a b : Bool) → b ≡ true → (a || b) ≡ true
or_true true b e = refl
or_true false b e = e

some_is : {A : Type 0} (a b : A) → Some a ≡ Some b → a ≡ b
some_is a b e = cc e

of_absent : (world : World) (net : Net) → AreAbsent world (new_of world net)
of_absent world [] id has = absurd (true≢false (sym has))
of_absent world (e ∷ es) id has =
    one_of (position_of world id ≡ None) (is_new world e.0 e.1 && (e.0 == id)) (has_id (new_of world es) id) (sym (new_has world e.0 e.1 (new_of world es) id) ∙ has) (of_absent world es id)
    (λ first _. let both = both_true (is_new world e.0 e.1) (e.0 == id) first in ap (position_of world) (sym (eqb-true e.0 id both.1)) ∙ new_absent world e.0 e.1 both.0)

of_all : (world : World) (net : Net) (id : ℕ) (to : Stamped) → net_of net id ≡ Some (Some to) → position_of world id ≡ None → has_id (new_of world net) id ≡ true
of_all world [] id to found none = cc found
of_all world (e ∷ es) id to found none = new_has world e.0 e.1 (new_of world es) id ∙ by_test (e.0 == id) refl (of_all world es id to)
  where
    by_test : (b : Bool) → (e.0 == id) ≡ b → (net_of es id ≡ Some (Some to) → position_of world id ≡ None → has_id (new_of world es) id ≡ true)
        → ((is_new world e.0 e.1 && (e.0 == id)) || has_id (new_of world es) id) ≡ true
    by_test true is later =
        let now_is : e.1 ≡ Some to = some_is e.1 (Some to) (sym (net_first e es id ∙ ap (λ b. cond b (Some e.1) (net_of es id)) is) ∙ found) in
        let new : is_new world e.0 e.1 ≡ true = is_new-there world e.0 e.1 to now_is (ap (position_of world) (eqb-true e.0 id is) ∙ none) in
        ap (λ b. (b && (e.0 == id)) || has_id (new_of world es) id) new ∙ ap (λ b. b || has_id (new_of world es) id) is
    by_test false is later =
        or_true (is_new world e.0 e.1 && (e.0 == id)) (has_id (new_of world es) id) (later (sym (net_first e es id ∙ ap (λ b. cond b (Some e.1) (net_of es id)) is) ∙ found) none)

of_only : (world : World) (net : Net) (id : ℕ) → net_of net id ≡ None → has_id (new_of world net) id ≡ false
of_only world [] id none = refl
of_only world (e ∷ es) id none = new_has world e.0 e.1 (new_of world es) id ∙ by_test (e.0 == id) refl (of_only world es id)
  where
    and_false : (a : Bool) → (a && false) ≡ false
    and_false true = refl
    and_false false = refl

    by_test : (b : Bool) → (e.0 == id) ≡ b → (net_of es id ≡ None → has_id (new_of world es) id ≡ false) → ((is_new world e.0 e.1 && (e.0 == id)) || has_id (new_of world es) id) ≡ false
    by_test true is later = absurd (cc (sym (net_first e es id ∙ ap (λ b. cond b (Some e.1) (net_of es id)) is) ∙ none))
    by_test false is later =
        ap (λ b. (is_new world e.0 e.1 && b) || has_id (new_of world es) id) is ∙ ap (λ b. b || has_id (new_of world es) id) (and_false (is_new world e.0 e.1))
        ∙ later (sym (net_first e es id ∙ ap (λ b. cond b (Some e.1) (net_of es id)) is) ∙ none)

pub are_new : (world : World) (net : Net) → AreNew world net (new_of world net)
are_new world net = record { absent = of_absent world net; all = of_all world net; only = of_only world net }

-- with the new objects, all that the net changes leave are there
pub has_all : (world between : World) (net : Net) (new : List Member) → AreNew world net new → Adds new world between → HasAll net between
has_all world between net new are adds id to found = by_position (position_of world id) refl
  where
    by_has : (kept : Stamped) → position_of world id ≡ Some kept → (b : Bool) → has_id new id ≡ b → is_some (position_of between id) ≡ true
    by_has kept there true has = absurd (cc (sym there ∙ are.absent id has))
    by_has kept there false has = ap (λ o. is_some o) (adds.touches.others id has ∙ there)

    by_position : (o : Option Stamped) → position_of world id ≡ o → is_some (position_of between id) ≡ true
    by_position None none = adds.there id (are.all id to found none)
    by_position (Some kept) there = by_has kept there (has_id new id) refl

-- the world after the new objects and then all net changes
pub published : (world between after : World) (net : Net) (new : List Member) → IsWorld world → AreNew world net new → Adds new world between → Leaves net between after → Makes net world after
published world between after net new is are adds leaves =
    record {
      is = same_worlds after (after_net net world) after_world.rising (rising-after_net net world is.rising) (λ k. leaves.positions k ∙ by_net k (net_of net k) refl ∙ sym (position_of-after_net net world k));
      world = after_world;
    }
  where
    after_world : IsWorld after
    after_world = leaves.world (adds.touches.world is)

    by_net : (k : ℕ) (o : Option (Option Stamped)) → net_of net k ≡ o → unwrap_or o (position_of between k) ≡ unwrap_or o (position_of world k)
    by_net k (Some now) e = refl
    by_net k None e = adds.touches.others k (are.only k e)

-- objects that the changes do not name
settle_elsewhere : (es : Net) (world : World) (k : ℕ) → net_of es k ≡ None → position_of (settle_each es world) k ≡ position_of world k
settle_elsewhere [] world k none = refl
settle_elsewhere (e ∷ es) world k none = by_test (e.0 == k) refl (settle_elsewhere es (settle_at e.0 e.1 world) k)
  where
    by_test : (b : Bool) → (e.0 == k) ≡ b → (net_of es k ≡ None → position_of (settle_each es (settle_at e.0 e.1 world)) k ≡ position_of (settle_at e.0 e.1 world) k)
        → position_of (settle_each es (settle_at e.0 e.1 world)) k ≡ position_of world k
    by_test true is later = absurd (cc (sym (net_first e es k ∙ ap (λ b. cond b (Some e.1) (net_of es k)) is) ∙ none))
    by_test false is later =
        later (sym (net_first e es k ∙ ap (λ b. cond b (Some e.1) (net_of es k)) is) ∙ none) ∙ settle_position e.0 e.1 world k ∙ ap (λ b. cond b (settled e.1 (position_of world k)) (position_of world k)) is

still_some : (now o : Option Stamped) (to : Stamped) → now ≡ Some to → is_some o ≡ true → is_some (settled now o) ≡ true
still_some None o to e there = cc e
still_some (Some at) None to e there = absurd (true≢false (sym there))
still_some (Some at) (Some kept) to e there = refl

-- an object that moves is there afterwards
settle_keeps : (es : Net) (world : World) (k : ℕ) (to : Stamped) → IsStrictlySortedBy nat_cmp (keys_of es) → net_of es k ≡ Some (Some to) → is_some (position_of world k) ≡ true → is_some (position_of (settle_each es world) k) ≡ true
settle_keeps [] world k to sorted found there = cc found
settle_keeps (e ∷ es) world k to sorted found there = by_test (e.0 == k) refl (settle_keeps es (settle_at e.0 e.1 world) k to (sorted_tail nat_cmp e.0 (keys_of es) sorted))
  where
    here : (b : Bool) → (e.0 == k) ≡ b → position_of (settle_at e.0 e.1 world) k ≡ cond b (settled e.1 (position_of world k)) (position_of world k)
    here b is = settle_position e.0 e.1 world k ∙ ap (λ t. cond t (settled e.1 (position_of world k)) (position_of world k)) is

    said : (b : Bool) → (e.0 == k) ≡ b → cond b (Some e.1) (net_of es k) ≡ Some (Some to)
    said b is = sym (net_first e es k ∙ ap (λ t. cond t (Some e.1) (net_of es k)) is) ∙ found

    by_test : (b : Bool) → (e.0 == k) ≡ b
        → (net_of es k ≡ Some (Some to) → is_some (position_of (settle_at e.0 e.1 world) k) ≡ true → is_some (position_of (settle_each es (settle_at e.0 e.1 world)) k) ≡ true)
        → is_some (position_of (settle_each es (settle_at e.0 e.1 world)) k) ≡ true
    by_test true is later =
        let none : net_of es k ≡ None = ap (net_of es) (sym (eqb-true e.0 k is)) ∙ apart e.0 es (sorted_head nat_cmp e.0 (keys_of es) sorted) in
        ap (λ o. is_some o) (settle_elsewhere es (settle_at e.0 e.1 world) k none ∙ here true is) ∙ still_some e.1 (position_of world k) to (some_is e.1 (Some to) (said true is)) there
    by_test false is later = later (said false is) (ap (λ o. is_some o) (here false is) ∙ there)

-- with the new objects after the removals, all that the net changes leave are there
pub exchange_all : (world between : World) (net : Net) (new : List Member) → IsStrictlySortedBy nat_cmp (keys_of net) → AreNew world net new → Adds new (settle_each net world) between → HasAll net between
exchange_all world between net new sorted are adds id to found = by_position (position_of world id) refl
  where
    by_has : (kept : Stamped) → position_of world id ≡ Some kept → (b : Bool) → has_id new id ≡ b → is_some (position_of between id) ≡ true
    by_has kept there true has = absurd (cc (sym there ∙ are.absent id has))
    by_has kept there false has = ap (λ o. is_some o) (adds.touches.others id has) ∙ settle_keeps net world id to sorted found (ap (λ o. is_some o) there)

    by_position : (o : Option Stamped) → position_of world id ≡ o → is_some (position_of between id) ≡ true
    by_position None none = adds.there id (are.all id to found none)
    by_position (Some kept) there = by_has kept there (has_id new id) refl

-- the world after the removals, the new objects and then all net changes
pub exchanged : (world mid between after : World) (net : Net) (new : List Member) → IsWorld world → mid ≡ settle_each net world → (IsWorld world → IsWorld mid) → AreNew world net new → Adds new mid between → Leaves net between after
    → Makes net world after
exchanged world mid between after net new is mid_is mid_world are adds leaves =
    record {
      is = same_worlds after (after_net net world) after_world.rising (rising-after_net net world is.rising) (λ k. leaves.positions k ∙ by_net k (net_of net k) refl ∙ sym (position_of-after_net net world k));
      world = after_world;
    }
  where
    after_world : IsWorld after
    after_world = leaves.world (adds.touches.world (mid_world is))

    by_net : (k : ℕ) (o : Option (Option Stamped)) → net_of net k ≡ o → unwrap_or o (position_of between k) ≡ unwrap_or o (position_of world k)
    by_net k (Some now) e = refl
    by_net k None e = adds.touches.others k (are.only k e) ∙ ap (λ (ms : World). position_of ms k) mid_is ∙ settle_elsewhere net world k e
