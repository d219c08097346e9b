-- What calls of others leave of an object.
use Rattle.std.proofs.Common.{◌≡◌, ◌∙◌, ℕ, ◌≤◌, Bool, true, false, ◌==◌, List, [], ◌∷◌, ◌++◌, Option, Some, None, Result, Ok, Err, cond, refl, sym, ap, subst, arith}
use Rattle.std.specs.Prelude.{nat_lt}
use Rattle.std.specs.Option.{option_map_or}
use Rattle.std.proofs.lemmas.Grind.{common_steps}
use Rattle.std.proofs.lemmas.Bool.{ltb-false, eqb-true}
use Rattle.std.proofs.lemmas.Bool.Decides.{nat_tests}
use Rattle.zorder.specs.declared.points.Point.{Point}
use Rattle.plain_list.specs.declared.world.Member.{Member}
use Rattle.plain_list.specs.declared.world.Stamped.{Stamped}
use Rattle.plain_list.specs.declared.ops.Op.{Op}
use Rattle.plain_list.specs.declared.ops.Op.TheVariants.{Put, Move, Remove, Find, Within, Near}
use Rattle.plain_list.specs.declared.ops.Answer.{Answer}
use Rattle.plain_list.specs.declared.ops.Answer.TheVariants as answer
use Rattle.plain_list.specs.declared.entries.Entry.{Entry}
use Rattle.plain_list.specs.declared.entries.Entry.TheVariants.{Fail, Call, Begin, Install, Abandon}
use Rattle.plain_list.specs.World.{World, position_of, is_full}
use Rattle.plain_list.specs.Answer.{answer_of, after_of, changed, is_change, moved_or_stale, with_member, with_moved}
use Rattle.plain_list.specs.History.{world_after}
use Rattle.plain_list.proofs.Members.{position_of-with_member, position_of-without}
use Rattle.plain_list.proofs.Histories.{world_after-append}
use Rattle.book_lock.specs.Pass.{Known}
use Rattle.book_lock.specs.declared.origin.Origin.{Origin}
use Rattle.commit_book.specs.declared.book.Done.{Done}
use Rattle.sessions.specs.declared.faults.CallFault.{CallFault}
use Rattle.sessions.specs.Calls.{Called}
use Rattle.store_client.specs.declared.client.Reply.{Reply}
use Rattle.store_client.specs.Caller.{Caller}
use Rattle.store_client.specs.Asked.{Asked, Follows, before_call, before_in}
use Rattle.store_client.specs.Tending.{OrStops}
use Rattle.store_client.specs.Objects.{may_change, may_remove, HasNone, FindsBehind}

-- what is kept of an object behind a move of this one
abbrev moved_in : Bool → Stamped → Option Stamped → Option Stamped
moved_in true to (Some kept) = Some to
moved_in true to None = None
moved_in false to kept = kept

position_of-with_moved : (other : ℕ) (to : Stamped) (world : World) (id : ℕ) → position_of (with_moved other to world) id ≡ moved_in (other == id) to (position_of world id)
position_of-with_moved other to [] id = by_test (other == id)
  where
    by_test : (t : Bool) → None ≡ moved_in t to None
    by_test true = refl
    by_test false = refl
position_of-with_moved other to (n ∷ ns) id =
    let rest : position_of (with_moved other to ns) id ≡ moved_in (other == id) to (position_of ns id) = position_of-with_moved other to ns id in
    by_tests (n.id == other) refl (n.id == id) refl (other == id) refl rest
  where
    moved : Bool → World
    moved t = cond t (record { id = other; at = to.at; moment = to.moment }) n ∷ with_moved other to ns

    by_tests : (s : Bool) → (n.id == other) ≡ s → (t : Bool) → (n.id == id) ≡ t → (u : Bool) → (other == id) ≡ u → position_of (with_moved other to ns) id ≡ moved_in u to (position_of ns id)
        → position_of (moved s) id ≡ moved_in u to (position_of (n ∷ ns) id)
    by_tests true e true f true g rest = grind (arith, nat_tests, common_steps)
    by_tests true e false f false g rest = grind (arith, nat_tests, common_steps)
    by_tests false e true f false g rest = grind (arith, nat_tests, common_steps)
    by_tests false e false f true g rest = grind (arith, nat_tests, common_steps)
    by_tests false e false f false g rest = grind (arith, nat_tests, common_steps)
    by_tests true e true f false g rest = grind (arith, nat_tests, common_steps)
    by_tests true e false f true g rest = grind (arith, nat_tests, common_steps)
    by_tests false e true f true g rest = grind (arith, nat_tests, common_steps)

module _ (world : World) (id : ℕ) where
  -- what holds of a world and of what a call would make of it holds of the world after it
  after-either : (P : World → Type 0) (op : Op) → P world → (is_change (answer_of world op) ≡ true → P (changed world op)) → P (after_of world op)
  after-either P op same more = by_test (is_change (answer_of world op)) refl
    where
      by_test : (t : Bool) → is_change (answer_of world op) ≡ t → P (cond t (changed world op) world)
      by_test true is = more is
      by_test false is = same

  -- a put that is a change is of an object that isn't there
  put-new : (other : ℕ) (at : Point) (moment : ℕ) → is_change (answer_of world (Put other at moment)) ≡ true → position_of world other ≡ None
  put-new other at moment is = by_place (position_of world other) refl is
    where
      by_place : (o : Option Stamped) → position_of world other ≡ o → is_change (option_map_or answer.Present o (cond (is_full world) answer.Full answer.Done)) ≡ true → position_of world other ≡ None
      by_place None e is = e
      by_place (Some kept) e is = absurd (cc is)

  -- a call that may not change the object
  kept-by : (op : Op) → may_change id op ≡ false → position_of (after_of world op) id ≡ position_of world id
  kept-by (Put other at moment) not =
      after-either (λ after. position_of after id ≡ position_of world id) (Put other at moment) refl
      (λ is. position_of-with_member (record { id = other; at = at; moment = moment }) world id (put-new other at moment is)
      ∙ ap (λ t. cond t (Some (record { at = at; moment = moment })) (position_of world id)) not)
  kept-by (Move other at moment) not =
      after-either (λ after. position_of after id ≡ position_of world id) (Move other at moment) refl
      (λ is. position_of-with_moved other (record { at = at; moment = moment }) world id ∙ ap (λ t. moved_in t (record { at = at; moment = moment }) (position_of world id)) not)
  kept-by (Remove other) not =
      after-either (λ after. position_of after id ≡ position_of world id) (Remove other) refl
      (λ is. position_of-without other world id ∙ ap (λ t. cond t None (position_of world id)) not)
  kept-by (Find other) not = after-either (λ after. position_of after id ≡ position_of world id) (Find other) refl (λ is. refl)
  kept-by (Within region) not = after-either (λ after. position_of after id ≡ position_of world id) (Within region) refl (λ is. refl)
  kept-by (Near at k) not = after-either (λ after. position_of after id ≡ position_of world id) (Near at k) refl (λ is. refl)

-- a history without such a call leaves the object where it was
pub kept-after : (id : ℕ) (world : World) (h : List Entry) → HasNone (may_change id) h → position_of (world_after world h) id ≡ position_of world id
kept-after id world [] none = refl
kept-after id world (Call session row op ∷ h) none = kept-after id (after_of world op) h none.1 ∙ kept-by world id op none.0
kept-after id world (Begin number name ∷ h) none = kept-after id world h none
kept-after id world (Install number ∷ h) none = kept-after id world h none
kept-after id world (Abandon number ∷ h) none = kept-after id world h none
kept-after id world (Fail cell lost ∷ h) none = kept-after id world h none

module _ (world : World) (id : ℕ) where
  -- an object is where a move or a put that is a change puts it
  same-id : (id == id) ≡ true
  same-id = grind (arith, nat_tests)

  there : (moment : ℕ) (from : Stamped) (o : Option Stamped) → option_map_or (moved_or_stale moment) o answer.Absent ≡ answer.Moved from → (to : Stamped) → moved_in true to o ≡ Some to
  there moment from None is to = absurd (cc is)
  there moment from (Some kept) is to = refl

  moved-at : (at : Point) (moment : ℕ) (from : Stamped) → answer_of world (Move id at moment) ≡ answer.Moved from → position_of (after_of world (Move id at moment)) id ≡ Some (record { at = at; moment = moment })
  moved-at at moment from is =
      let to : Stamped = record { at = at; moment = moment } in
      ap (λ t. position_of (cond t (with_moved id to world) world) id) (ap is_change is)
      ∙ position_of-with_moved id to world id ∙ ap (λ t. moved_in t to (position_of world id)) same-id ∙ there moment from (position_of world id) is to

  put-at : (at : Point) (moment : ℕ) → answer_of world (Put id at moment) ≡ answer.Done → position_of (after_of world (Put id at moment)) id ≡ Some (record { at = at; moment = moment })
  put-at at moment is =
      let m : Member = record { id = id; at = at; moment = moment } in
      ap (λ t. position_of (cond t (with_member m world) world) id) (ap is_change is)
      ∙ position_of-with_member m world id (put-new world id id at moment (ap is_change is)) ∙ ap (λ t. cond t (Some (record { at = at; moment = moment })) (position_of world id)) same-id

-- the moment of an object that is there, at least this
abbrev HasSince : ℕ → Option Stamped → Type 0
HasSince since None = ⊥
HasSince since (Some kept) = since ≤ kept.moment

-- a move that is a change has no lesser moment
moved-later : (moment since : ℕ) (at : Point) (o : Option Stamped) → is_change (option_map_or (moved_or_stale moment) o answer.Absent) ≡ true → HasSince since o → HasSince since (moved_in true (record { at = at; moment = moment }) o)
moved-later moment since at None is has = has
moved-later moment since at (Some kept) is has = by_test (nat_lt moment kept.moment) refl is
  where
    by_test : (t : Bool) → nat_lt moment kept.moment ≡ t → is_change (cond t (answer.Stale kept) (answer.Moved kept)) ≡ true → since ≤ moment
    by_test true e is = absurd (cc is)
    by_test false e is = let le = ltb-false moment kept.moment e in omega (arith, le, has)

module _ (world : World) (id since : ℕ) (has : HasSince since (position_of world id)) where
  -- a call that may not remove the object
  since-put : (other : ℕ) (to : Stamped) → position_of world other ≡ None → (t : Bool) → (other == id) ≡ t → HasSince since (cond t (Some to) (position_of world id))
  since-put other to none true is = absurd (subst (HasSince since) (ap (position_of world) (sym (eqb-true other id is)) ∙ none) has)
  since-put other to none false is = has

  since-move : (other : ℕ) (at : Point) (moment : ℕ) → is_change (answer_of world (Move other at moment)) ≡ true → (t : Bool) → (other == id) ≡ t → HasSince since (moved_in t (record { at = at; moment = moment }) (position_of world id))
  since-move other at moment is true same =
      moved-later moment since at (position_of world id) (ap (λ n. is_change (option_map_or (moved_or_stale moment) (position_of world n) answer.Absent)) (sym (eqb-true other id same)) ∙ is) has
  since-move other at moment is false same = has

  since-by : (op : Op) → may_remove id op ≡ false → HasSince since (position_of (after_of world op) id)
  since-by (Put other at moment) not =
      after-either world id (λ after. HasSince since (position_of after id)) (Put other at moment) has
      (λ is.
      let none = put-new world id other at moment is in
      subst (HasSince since) (sym (position_of-with_member (record { id = other; at = at; moment = moment }) world id none)) (since-put other (record { at = at; moment = moment }) none (other == id) refl))
  since-by (Move other at moment) not =
      after-either world id (λ after. HasSince since (position_of after id)) (Move other at moment) has
      (λ is. subst (HasSince since) (sym (position_of-with_moved other (record { at = at; moment = moment }) world id)) (since-move other at moment is (other == id) refl))
  since-by (Remove other) not =
      after-either world id (λ after. HasSince since (position_of after id)) (Remove other) has
      (λ is. subst (HasSince since) (sym (position_of-without other world id ∙ ap (λ t. cond t None (position_of world id)) not)) has)
  since-by (Find other) not = after-either world id (λ after. HasSince since (position_of after id)) (Find other) has (λ is. has)
  since-by (Within region) not = after-either world id (λ after. HasSince since (position_of after id)) (Within region) has (λ is. has)
  since-by (Near at k) not = after-either world id (λ after. HasSince since (position_of after id)) (Near at k) has (λ is. has)

-- no call of a history that doesn't remove the object makes its moment less
since-after : (id since : ℕ) (world : World) (h : List Entry) → HasNone (may_remove id) h → HasSince since (position_of world id) → HasSince since (position_of (world_after world h) id)
since-after id since world [] none has = has
since-after id since world (Call session row op ∷ h) none has = since-after id since (after_of world op) h none.1 (since-by world id since has op none.0)
since-after id since world (Begin number name ∷ h) none has = since-after id since world h none has
since-after id since world (Install number ∷ h) none has = since-after id since world h none has
since-after id since world (Abandon number ∷ h) none has = since-after id since world h none has
since-after id since world (Fail cell lost ∷ h) none has = since-after id since world h none has

-- what is found of an object is where it is
found-at : (kept : Stamped) (o : Option Stamped) → option_map_or answer.At o answer.Absent ≡ answer.At kept → o ≡ Some kept
found-at kept None is = absurd (cc is)
found-at kept (Some k) is = ap Some (cc is)

-- a call that was answered: its answer is that of the list behind what was seen under the lock, and it stands there
record IsAnsweredAt (session row : ℕ) (op : Op) (old mid : Known) (before : List Entry) (told : Answer) : Type 0 where
  answer_is : told ≡ answer_of (world_after old.origin.world before) op
  seen_is : mid.seen ≡ before ++ Call session row op ∷ []

answered-at : (w : ℕ) (op : Op) (old new : Caller) (reply : Reply) (asked : Asked w op old new (Ok reply)) → IsAnsweredAt old.session old.row op old.pass asked.mid (before_in asked) reply.answer
answered-at w op old new reply asked = by_told asked.told asked.called asked.follows
  where
    by_told : (told : Result Done CallFault) (called : OrStops (Called w old.session old.row op old.pass asked.mid) old.pass asked.mid told) → Follows w asked.mid new.pass told (Ok reply)
        → IsAnsweredAt old.session old.row op old.pass asked.mid (before_call w old.session old.row op old.pass asked.mid told called) reply.answer
    by_told (Ok done) called follows = record { answer_is = follows.1 ∙ called.leaves.1.replies.answer_is; seen_is = ap (λ (k : Known). k.seen) called.leaves.0 }
    by_told (Err fault) called follows = absurd follows

-- the world behind an answered call, and what came after it
behind : (origin : Origin) (session row : ℕ) (op : Op) (before between all seen : List Entry) → seen ≡ before ++ Call session row op ∷ [] → all ≡ seen ++ between
    → world_after origin.world all ≡ world_after (after_of (world_after origin.world before) op) between
behind origin session row op before between all seen seen_is all_is =
    ap (world_after origin.world) (all_is ∙ ap (λ (l : List Entry). l ++ between) seen_is)
    ∙ world_after-append origin.world (before ++ Call session row op ∷ []) between
    ∙ ap (λ l. world_after l between) (world_after-append origin.world before (Call session row op ∷ []))

-- Two calls of a store, the second a find behind the first, and what stands between them.
module _ (w id : ℕ) (op : Op) (old mid now later : Caller) (first second : Reply) (changed_by : Asked w op old mid (Ok first)) (found : Asked w (Find id) now later (Ok second)) (one : now.pass.origin ≡ old.pass.origin)
    (between : List Entry) (stands : (before_in found) ≡ changed_by.mid.seen ++ between) where
  found-in : second.answer ≡ answer_of (world_after (after_of (world_after old.pass.origin.world (before_in changed_by)) op) between) (Find id)
  found-in =
      let put_call = answered-at w op old mid first changed_by in
      let find_call = answered-at w (Find id) now later second found in
      find_call.answer_is ∙ ap (λ (o : Origin). answer_of (world_after o.world (before_in found)) (Find id)) one
      ∙ ap (λ l. answer_of l (Find id)) (behind old.pass.origin old.session old.row op (before_in changed_by) between (before_in found) changed_by.mid.seen put_call.seen_is stands)

  -- where the first call put the object, and nothing between may have changed it, it is found there
  stays-at : (kept : Stamped) → position_of (after_of (world_after old.pass.origin.world (before_in changed_by)) op) id ≡ Some kept → HasNone (may_change id) between → second.answer ≡ answer.At kept
  stays-at kept there none = found-in ∙ ap (λ o. option_map_or answer.At o answer.Absent) (kept-after id (after_of (world_after old.pass.origin.world (before_in changed_by)) op) between none ∙ there)

-- An object that nobody else changed since is where a client's own move put it, whatever else happened.
pub own-move-stands : (w id : ℕ) (at : Point) (moment : ℕ) (from : Stamped) (old mid now later : Caller) (first second : Reply) → FindsBehind w id (Move id at moment) (may_change id) old mid now later first second
    → first.answer ≡ answer.Moved from → second.answer ≡ answer.At (record { at = at; moment = moment })
own-move-stands w id at moment from old mid now later first second behind_it told =
    let call = answered-at w (Move id at moment) old mid first behind_it.call in
    stays-at w id (Move id at moment) old mid now later first second behind_it.call behind_it.finds behind_it.one behind_it.between behind_it.stands (record { at = at; moment = moment })
    (moved-at (world_after old.pass.origin.world (before_in behind_it.call)) id at moment from (sym call.answer_is ∙ told)) behind_it.none

-- the same of its own put
pub own-put-stands : (w id : ℕ) (at : Point) (moment : ℕ) (old mid now later : Caller) (first second : Reply) → FindsBehind w id (Put id at moment) (may_change id) old mid now later first second
    → first.answer ≡ answer.Done → second.answer ≡ answer.At (record { at = at; moment = moment })
own-put-stands w id at moment old mid now later first second behind_it told =
    let call = answered-at w (Put id at moment) old mid first behind_it.call in
    stays-at w id (Put id at moment) old mid now later first second behind_it.call behind_it.finds behind_it.one behind_it.between behind_it.stands (record { at = at; moment = moment })
    (put-at (world_after old.pass.origin.world (before_in behind_it.call)) id at moment (sym call.answer_is ∙ told)) behind_it.none

-- Over two finds of an object that nobody removed between them, its moment doesn't fall.
pub moments-rise : (w id : ℕ) (a b : Stamped) (old mid now later : Caller) (first second : Reply) → FindsBehind w id (Find id) (may_remove id) old mid now later first second
    → first.answer ≡ answer.At a → second.answer ≡ answer.At b → a.moment ≤ b.moment
moments-rise w id a b old mid now later first second behind_it told_a told_b =
    let world = world_after old.pass.origin.world (before_in behind_it.call) in
    let here : position_of world id ≡ Some a = found-at a (position_of world id) (sym (answered-at w (Find id) old mid first behind_it.call).answer_is ∙ told_a) in
    let has : HasSince a.moment (position_of world id) = subst (HasSince a.moment) (sym here) (omega arith) in
    let still : HasSince a.moment (position_of (after_of world (Find id)) id) = after-either world id (λ after. HasSince a.moment (position_of after id)) (Find id) has (λ is. has) in
    let found = found-in w id (Find id) old mid now later first second behind_it.call behind_it.finds behind_it.one behind_it.between behind_it.stands in
    subst (HasSince a.moment) (found-at b _ (sym found ∙ told_b)) (since-after id a.moment (after_of world (Find id)) behind_it.between behind_it.none still)
