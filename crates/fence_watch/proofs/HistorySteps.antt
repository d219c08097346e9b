-- A tally that follows the changes of a history follows its world.
use Rattle.std.proofs.Common.{◌≡◌, ℕ, suc, ◌≤◌, Bool, true, false, List, [], ◌∷◌, ◌++◌, length, map, Option, Some, None, refl, sym, ◌∙◌, ap, subst, cond, append_assoc, append-nil}
use Rattle.std.specs.Prelude.{nat_lt, option_to_list}
use Rattle.std.specs.Option.{option_map_or}
use Rattle.std.proofs.lemmas.Grind.{flat_map-append}
use Rattle.std.proofs.lemmas.List.Concat.{flat_map-cons}
use Rattle.std.proofs.lemmas.Option.{same_Some}
use Rattle.plain_list.specs.declared.entries.Entry.{Entry}
use Rattle.plain_list.specs.declared.entries.Entry.TheVariants as entry
use Rattle.plain_list.specs.declared.object_changes.Change.{Change}
use Rattle.plain_list.specs.declared.ops.Op.{Op}
use Rattle.plain_list.specs.declared.ops.Op.TheVariants as op
use Rattle.plain_list.specs.declared.ops.Answer.TheVariants.{Done, Present, Full, Moved, Stale, Gone, Absent}
use Rattle.plain_list.specs.declared.world.Stamped.{Stamped}
use Rattle.plain_list.specs.Places.{IsRising}
use Rattle.plain_list.specs.World.{World, places_of, position_of, is_full, most_members}
use Rattle.plain_list.specs.Answer.{answer_of, after_of, moved_or_stale}
use Rattle.plain_list.specs.Changes.{change_of, changes_from, changes_of}
use Rattle.plain_list.specs.History.{world_after}
use Rattle.plain_list.proofs.ToldChanges.{after_of-no_change}
use Rattle.fence_watch.specs.declared.counts.FenceCount.{FenceCount}
use Rattle.fence_watch.specs.declared.fences.Event.{Event}
use Rattle.fence_watch.specs.declared.fences.Fence.{Fence}
use Rattle.fence_watch.specs.Crossings.{crossings_of}
use Rattle.fence_watch.specs.Tallies.{TallyView, TalliesBy, FollowsWorld, count_behind, count_in}
use Rattle.fence_watch.specs.Counts.{fences_counted}
use Rattle.fence_watch.specs.Told.{TalliesChanges, changes_crossings, counts_after}
use Rattle.fence_watch.proofs.Tallying.{counted-in, fences-behind}
use Rattle.fence_watch.proofs.WorldSteps.{follows-on}

-- The change of a call has the place of the call.
place-change_of : (place : ℕ) (world : World) (o : Op) (c : Change) → change_of place o (answer_of world o) ≡ Some c → c.place ≡ place
place-change_of place world (op.Put id at moment) c = by_place (position_of world id) (is_full world)
  where
    by_place : (o : Option Stamped) (full : Bool) → change_of place (op.Put id at moment) (option_map_or Present o (cond full Full Done)) ≡ Some c → c.place ≡ place
    by_place (Some kept) full is = absurd (cc is)
    by_place None true is = absurd (cc is)
    by_place None false is = sym (ap (λ (d : Change). d.place) (same_Some _ _ is))
place-change_of place world (op.Move id at moment) c = by_place (position_of world id)
  where
    by_moment : (kept : Stamped) (late : Bool) → change_of place (op.Move id at moment) (cond late (Stale kept) (Moved kept)) ≡ Some c → c.place ≡ place
    by_moment kept true is = absurd (cc is)
    by_moment kept false is = sym (ap (λ (d : Change). d.place) (same_Some _ _ is))

    by_place : (o : Option Stamped) → change_of place (op.Move id at moment) (option_map_or (moved_or_stale moment) o Absent) ≡ Some c → c.place ≡ place
    by_place (Some kept) = by_moment kept (nat_lt moment kept.moment)
    by_place None = λ is. absurd (cc is)
place-change_of place world (op.Remove id) c = by_place (position_of world id)
  where
    by_place : (o : Option Stamped) → change_of place (op.Remove id) (option_map_or Gone o Absent) ≡ Some c → c.place ≡ place
    by_place (Some kept) is = sym (ap (λ (d : Change). d.place) (same_Some _ _ is))
    by_place None is = absurd (cc is)
place-change_of place world (op.Find id) c = λ is. absurd (cc is)
place-change_of place world (op.Within region) c = λ is. absurd (cc is)
place-change_of place world (op.Near at k) c = λ is. absurd (cc is)

-- A tally of a world before any step.
abbrev fresh : World → List Fence → TallyView
fresh world fences = record { counts = map (count_in world) fences; events = [] }

-- The numbers of a world, along the changes of a history.
abbrev Leads : ℕ → World → List Entry → List Fence → Type 0
Leads calls world h fences =
    IsRising (places_of world) → length world ≤ most_members
    → FollowsWorld (world_after world h) fences (record { counts = counts_after (changes_from calls world h) (map (count_in world) fences); events = [] })

-- A call with this change, if any, and the history after it.
lead-call : (calls : ℕ) (world : World) (o : Op) (h : List Entry) (fences : List Fence) (told : Option Change) → change_of (suc calls) o (answer_of world o) ≡ told
    → Leads (suc calls) (after_of world o) h fences → IsRising (places_of world) → length world ≤ most_members
    → FollowsWorld (world_after (after_of world o) h) fences (record { counts = counts_after (option_to_list told ++ changes_from (suc calls) (after_of world o) h) (map (count_in world) fences); events = [] })
lead-call calls world o h fences None none leads rising few =
    let next : World = after_of world o in
    let same : next ≡ world = after_of-no_change (suc calls) world o none in
    subst (λ (before : World). FollowsWorld (world_after next h) fences (record { counts = counts_after (changes_from (suc calls) next h) (map (count_in before) fences); events = [] })) same
    (leads (subst (λ (w : World). IsRising (places_of w)) (sym same) rising) (subst (λ (w : World). length w ≤ most_members) (sym same) few))
lead-call calls world o h fences (Some c) some leads rising few =
    let next : World = after_of world o in
    let new : TallyView = record { counts = map (count_behind (Some c.id) c.before c.after) (map (count_in world) fences); events = crossings_of c.place c.id c.before c.after (fences_counted (map (count_in world) fences)) } in
    let is : change_of (suc calls) o (answer_of world o) ≡ Some (record { place = suc calls; id = c.id; before = c.before; after = c.after }) =
    some ∙ ap (λ n. Some (record { place = n; id = c.id; before = c.before; after = c.after })) (place-change_of (suc calls) world o c some) in
    let on : FollowsWorld next fences new =
    follows-on world o fences c.place c.id c.before c.after (fresh world fences) new (record { rising = rising; few = few; counts = refl }) (suc calls, is) (record { events = refl; counts = refl }) in
    subst (λ (counts : List FenceCount). FollowsWorld (world_after next h) fences (record { counts = counts_after (changes_from (suc calls) next h) counts; events = [] })) (sym on.counts)
    (leads on.rising on.few)

follows-from : (calls : ℕ) (world : World) (h : List Entry) (fences : List Fence) → Leads calls world h fences
follows-from calls world [] fences rising few = record { rising = rising; few = few; counts = refl }
follows-from calls world (entry.Begin number name ∷ h) fences rising few = follows-from calls world h fences rising few
follows-from calls world (entry.Install number ∷ h) fences rising few = follows-from calls world h fences rising few
follows-from calls world (entry.Abandon number ∷ h) fences rising few = follows-from calls world h fences rising few
follows-from calls world (entry.Fail cell lost ∷ h) fences rising few = follows-from calls world h fences rising few
follows-from calls world (entry.Call session row o ∷ h) fences rising few =
    lead-call calls world o h fences (change_of (suc calls) o (answer_of world o)) refl (follows-from (suc calls) (after_of world o) h fences) rising few

-- A tally that has followed the changes of a history follows its world.
pub follows-history : (world : World) (h : List Entry) (taken : List Event) (fences : List Fence) (v : TallyView) → TalliesChanges world taken (changes_of world h) fences v → FollowsWorld (world_after world h) fences v
follows-history world h taken fences v t =
    let at = follows-from 0 world h fences t.rising t.few in
    record { rising = at.rising; few = at.few; counts = t.counts ∙ at.counts }

-- The fences stay the same.
fences-after : (changes : List Change) (counts : List FenceCount) → fences_counted (counts_after changes counts) ≡ fences_counted counts
fences-after [] counts = refl
fences-after (c ∷ changes) counts = fences-after changes (map (count_behind (Some c.id) c.before c.after) counts) ∙ fences-behind (Some c.id) c.before c.after counts

counts-push : (changes : List Change) (c : Change) (counts : List FenceCount) → counts_after (changes ++ c ∷ []) counts ≡ map (count_behind (Some c.id) c.before c.after) (counts_after changes counts)
counts-push [] c counts = refl
counts-push (d ∷ changes) c counts = counts-push changes c (map (count_behind (Some d.id) d.before d.after) counts)

crossings-push : (changes : List Change) (c : Change) (fences : List Fence) → changes_crossings (changes ++ c ∷ []) fences ≡ changes_crossings changes fences ++ crossings_of c.place c.id c.before c.after fences
crossings-push changes c fences =
    let told : Change → List Event = λ (d : Change). crossings_of d.place d.id d.before d.after fences in
    flat_map-append told changes (c ∷ []) ∙ ap (λ (l : List Event). changes_crossings changes fences ++ l) (flat_map-cons told c [] ∙ append-nil (told c))

-- One more change.
pub tallies-change : (world : World) (taken : List Event) (changes : List Change) (fences : List Fence) (c : Change) (old new : TallyView) → TalliesChanges world taken changes fences old
    → TalliesBy c.place (Some c.id) c.before c.after old new → TalliesChanges world taken (changes ++ c ∷ []) fences new
tallies-change world taken changes fences c old new t s =
    let are : fences_counted old.counts ≡ fences = ap fences_counted t.counts ∙ fences-after changes (map (count_in world) fences) ∙ counted-in world fences in
    record {
      rising = t.rising;
      few = t.few;
      events = ap (λ (l : List Event). taken ++ l) s.events
          ∙ sym (append_assoc taken old.events (crossings_of c.place c.id c.before c.after (fences_counted old.counts)))
          ∙ (λ i. t.events i ++ crossings_of c.place c.id c.before c.after (are i))
          ∙ sym (crossings-push changes c fences);
      counts = s.counts ∙ ap (map (count_behind (Some c.id) c.before c.after)) t.counts ∙ sym (counts-push changes c (map (count_in world) fences));
    }
