-- The ids inside a fence after a change of a world.
use Rattle.std.proofs.Common.{◌≡◌, ℕ, ◌<◌, ◌≤◌, Bool, true, false, not, List, [], ◌∷◌, map, Some, None, refl, sym, ◌∙◌, ap, subst, arith, cond, ◌==◌, ◌||◌}
use Rattle.std.specs.Prelude.{nat_lt}
use Rattle.std.specs.List.{filter, find}
use Rattle.std.specs.Option.{option_map}
use Rattle.std.proofs.lemmas.Bool.{lt-ltb, eq-eqb, eqb-true}
use Rattle.std.proofs.lemmas.Bool.Decides.{nat_tests}
use Rattle.zorder.specs.declared.points.Placed.{Placed}
use Rattle.zorder.specs.Region.{has_point}
use Rattle.plain_list.specs.declared.world.Member.{Member}
use Rattle.plain_list.specs.declared.world.Stamped.{Stamped}
use Rattle.plain_list.specs.Places.{IsRising, IsAbove}
use Rattle.plain_list.specs.World.{World, places_of, position_of, stamped_of, member_of, placed_of}
use Rattle.plain_list.specs.Answer.{with_member, with_moved, without}
use Rattle.plain_list.proofs.MemberMaps.{position_of-above, with_moved-none, IsAbove-lower}
use Rattle.fence_watch.specs.declared.fences.Fence.{Fence}
use Rattle.fence_watch.specs.Fences.{lies_in, inside_of}
use Rattle.fence_watch.specs.Watches.{with_id, without_id, has_id}

nat_lt-false : (a b : ℕ) → b ≤ a → nat_lt a b ≡ false
nat_lt-false a b le = grind (arith, nat_tests)

eqb-false : (a b : ℕ) → (a ≡ b → ⊥) → (a == b) ≡ false
eqb-false a b other = by_test (a == b) refl
  where
    by_test : (x : Bool) → (a == b) ≡ x → x ≡ false
    by_test true e = absurd (other (eqb-true a b e))
    by_test false e = refl

eqb-same : (a : ℕ) → (a == a) ≡ true
eqb-same a = eq-eqb a a refl

true_false : true ≡ false → ⊥
true_false t = cc t

-- One more id, or none.
abbrev pub more : Bool → ℕ → List ℕ → List ℕ
more b id ids = cond b (id ∷ ids) ids

-- The ids inside, if an object comes first.
pub first-inside : (f : Fence) (n : Member) (ns : World) → inside_of (n ∷ ns) f ≡ more (has_point f.region n.at) n.id (inside_of ns f)
first-inside f n ns = by_test (has_point f.region n.at)
  where
    later : List Placed
    later = filter (λ (m : Placed). has_point f.region m.at) (places_of ns)

    by_test : (b : Bool) → map (λ (m : Placed). m.id) (cond b (placed_of n ∷ later) later) ≡ more b n.id (map (λ (m : Placed). m.id) later)
    by_test true = refl
    by_test false = refl

-- An id that comes before another one.
with-before : (b : Bool) (id x : ℕ) (ids : List ℕ) → id < x → with_id id ids ≡ id ∷ ids → with_id id (more b x ids) ≡ id ∷ more b x ids
with-before true id x ids lt e = λ i. cond (lt-ltb id x lt i) (id ∷ x ∷ ids) (x ∷ with_id id ids)
with-before false id x ids lt e = e

-- An id below all others.
with-least : (f : Fence) (id : ℕ) (ms : World) → IsAbove id (places_of ms) → with_id id (inside_of ms f) ≡ id ∷ inside_of ms f
with-least f id [] above = refl
with-least f id (m ∷ ms) above =
    ap (with_id id) (first-inside f m ms) ∙ with-before (has_point f.region m.at) id m.id (inside_of ms f) above.0 (with-least f id ms above.1) ∙ ap (λ (l : List ℕ). id ∷ l) (sym (first-inside f m ms))

-- An id that comes after another one.
with-behind : (b : Bool) (id x : ℕ) (ids : List ℕ) → x ≤ id → with_id id (more b x ids) ≡ more b x (with_id id ids)
with-behind true id x ids le = λ i. cond (nat_lt-false id x le i) (id ∷ x ∷ ids) (x ∷ with_id id ids)
with-behind false id x ids le = refl

without-other : (b : Bool) (id x : ℕ) (ids : List ℕ) → (x ≡ id → ⊥) → without_id id (more b x ids) ≡ more b x (without_id id ids)
without-other true id x ids other = λ i. cond (not (eqb-false x id other i)) (x ∷ without_id id ids) (without_id id ids)
without-other false id x ids other = refl

without-same : (b : Bool) (id : ℕ) (ids : List ℕ) → without_id id (more b id ids) ≡ without_id id ids
without-same true id ids = λ i. cond (not (eqb-same id i)) (id ∷ without_id id ids) (without_id id ids)
without-same false id ids = refl

without-least : (f : Fence) (id : ℕ) (ms : World) → IsAbove id (places_of ms) → without_id id (inside_of ms f) ≡ inside_of ms f
without-least f id [] above = refl
without-least f id (m ∷ ms) above =
    ap (without_id id) (first-inside f m ms)
    ∙ without-other (has_point f.region m.at) id m.id (inside_of ms f) (λ e. omega (arith, e, above.0))
    ∙ ap (more (has_point f.region m.at) m.id) (without-least f id ms above.1)
    ∙ sym (first-inside f m ms)

some-none : {A : Type 0} (x : A) → Some x ≡ None → ⊥
some-none x e = cc e

-- An object that isn't found has another id than the first one, and isn't among the others.
not_first : (n : Member) (ns : World) (id : ℕ) → position_of (n ∷ ns) id ≡ None → (n.id ≡ id → ⊥) × (position_of ns id ≡ None)
not_first n ns id none = by_test (n.id == id) refl none
  where
    by_test : (b : Bool) → (n.id == id) ≡ b → option_map stamped_of (cond b (Some n) (find (λ m. m.id == id) ns)) ≡ None → (n.id ≡ id → ⊥) × (position_of ns id ≡ None)
    by_test true same e = absurd (some-none (stamped_of n) e)
    by_test false same e = ((λ is. true_false (sym (eq-eqb n.id id is) ∙ same)), e)

-- A put of an object that isn't there.
pub inside-put : (f : Fence) (m : Member) (ns : World) → position_of ns m.id ≡ None → IsRising (places_of ns) → inside_of (with_member m ns) f ≡ cond (has_point f.region m.at) (with_id m.id (inside_of ns f)) (inside_of ns f)
inside-put f m [] none rising = first-inside f m []
inside-put f m (n ∷ ns) none rising = by_test (nat_lt m.id n.id) refl (inside-put f m ns (not_first n ns m.id none).1 rising.1)
  where
    cases : (b : Bool) (x : ℕ) (ids : List ℕ) → x ≤ m.id → more (has_point f.region n.at) x (cond b (with_id m.id ids) ids) ≡ cond b (with_id m.id (more (has_point f.region n.at) x ids)) (more (has_point f.region n.at) x ids)
    cases true x ids le = sym (with-behind (has_point f.region n.at) m.id x ids le)
    cases false x ids le = refl

    in_front : (b : Bool) → m.id < n.id → more b m.id (inside_of (n ∷ ns) f) ≡ cond b (with_id m.id (inside_of (n ∷ ns) f)) (inside_of (n ∷ ns) f)
    in_front true lt = sym (with-least f m.id (n ∷ ns) (lt, IsAbove-lower m.id n.id ns (omega (arith, lt)) rising.0))
    in_front false lt = refl

    by_test : (b : Bool) → nat_lt m.id n.id ≡ b → inside_of (with_member m ns) f ≡ cond (has_point f.region m.at) (with_id m.id (inside_of ns f)) (inside_of ns f)
        → inside_of (cond b (m ∷ n ∷ ns) (n ∷ with_member m ns)) f ≡ cond (has_point f.region m.at) (with_id m.id (inside_of (n ∷ ns) f)) (inside_of (n ∷ ns) f)
    by_test true e rest = first-inside f m (n ∷ ns) ∙ in_front (has_point f.region m.at) (lt_true m.id n.id e)
      where
        lt_true : (a c : ℕ) → nat_lt a c ≡ true → a < c
        lt_true a c t = grind (arith, nat_tests)
    by_test false e rest =
        first-inside f n (with_member m ns)
        ∙ ap (more (has_point f.region n.at) n.id) rest
        ∙ cases (has_point f.region m.at) n.id (inside_of ns f) (lt_false m.id n.id e)
        ∙ (λ i. cond (has_point f.region m.at) (with_id m.id (sym (first-inside f n ns) i)) (sym (first-inside f n ns) i))
      where
        lt_false : (a c : ℕ) → nat_lt a c ≡ false → c ≤ a
        lt_false a c t = grind (arith, nat_tests)

-- What a fence holds of an object that is found.
abbrev taken : Bool → Bool → ℕ → List ℕ → List ℕ
taken was is id ids = cond was (cond is ids (without_id id ids)) (cond is (with_id id ids) ids)

-- The position of the first object, and of a later one.
first-position : (n : Member) (ns : World) (id : ℕ) → n.id ≡ id → position_of (n ∷ ns) id ≡ Some (stamped_of n)
first-position n ns id same = λ i. option_map stamped_of (cond (eq-eqb n.id id same i) (Some n) (find (λ m. m.id == id) ns))

later-position : (n : Member) (ns : World) (id : ℕ) → (n.id ≡ id → ⊥) → position_of (n ∷ ns) id ≡ position_of ns id
later-position n ns id other = λ i. option_map stamped_of (cond (eqb-false n.id id other i) (Some n) (find (λ m. m.id == id) ns))

found-above : (k id : ℕ) (p : Stamped) (ns : World) → IsAbove k (places_of ns) → position_of ns id ≡ Some p → k < id
found-above k id p [] above e = absurd (cc e)
found-above k id p (n ∷ ns) above e = by_test (n.id == id) refl (λ later. found-above k id p ns above.1 later)
  where
    by_test : (b : Bool) → (n.id == id) ≡ b → (position_of ns id ≡ Some p → k < id) → k < id
    by_test true same rest = omega (arith, above.0, eqb-true n.id id same)
    by_test false same rest = rest (sym (later-position n ns id (λ is. true_false (sym (eq-eqb n.id id is) ∙ same))) ∙ e)

kept_same : (p q : Stamped) → Some p ≡ Some q → p ≡ q
kept_same p q e = cc e

-- A move of an object that is there.
pub inside-moved : (f : Fence) (id : ℕ) (old to : Stamped) (ns : World) → position_of ns id ≡ Some old → IsRising (places_of ns)
    → inside_of (with_moved id to ns) f ≡ taken (has_point f.region old.at) (has_point f.region to.at) id (inside_of ns f)
inside-moved f id old to [] there rising = absurd (cc there)
inside-moved f id old to (n ∷ ns) there rising = by_test (n.id == id) refl (λ later. inside-moved f id old to ns later rising.1)
  where
    here : (was is : Bool) → IsAbove id (places_of ns) → more is id (inside_of ns f) ≡ taken was is id (more was id (inside_of ns f))
    here true true above = refl
    here true false above = sym (without-same true id (inside_of ns f) ∙ without-least f id ns above)
    here false true above = sym (with-least f id ns above)
    here false false above = refl

    behind : (b was is : Bool) → n.id < id → more b n.id (taken was is id (inside_of ns f)) ≡ taken was is id (more b n.id (inside_of ns f))
    behind b true true lt = refl
    behind b true false lt = sym (without-other b id n.id (inside_of ns f) (λ e. omega (arith, e, lt)))
    behind b false true lt = sym (with-behind b id n.id (inside_of ns f) (omega (arith, lt)))
    behind b false false lt = refl

    by_test : (b : Bool) → (n.id == id) ≡ b
        → (position_of ns id ≡ Some old → inside_of (with_moved id to ns) f ≡ taken (has_point f.region old.at) (has_point f.region to.at) id (inside_of ns f))
        → inside_of (cond b (member_of id to) n ∷ with_moved id to ns) f ≡ taken (has_point f.region old.at) (has_point f.region to.at) id (inside_of (n ∷ ns) f)
    by_test true same rest =
        let is : n.id ≡ id = eqb-true n.id id same in
        let above : IsAbove id (places_of ns) = subst (λ k. IsAbove k (places_of ns)) is rising.0 in
        let where_is : stamped_of n ≡ old = kept_same (stamped_of n) old (sym (first-position n ns id is) ∙ there) in
        first-inside f (member_of id to) (with_moved id to ns)
        ∙ ap (λ (ms : World). more (has_point f.region to.at) id (inside_of ms f)) (with_moved-none id to ns (position_of-above id ns above))
        ∙ here (has_point f.region old.at) (has_point f.region to.at) above
        ∙ (λ i. taken (has_point f.region old.at) (has_point f.region to.at) id (more (has_point f.region (sym where_is i).at) (sym is i) (inside_of ns f)))
        ∙ ap (taken (has_point f.region old.at) (has_point f.region to.at) id) (sym (first-inside f n ns))
    by_test false same rest =
        let other : n.id ≡ id → ⊥ = λ is. true_false (sym (eq-eqb n.id id is) ∙ same) in
        let later : position_of ns id ≡ Some old = sym (later-position n ns id other) ∙ there in
        first-inside f n (with_moved id to ns)
        ∙ ap (more (has_point f.region n.at) n.id) (rest later)
        ∙ behind (has_point f.region n.at) (has_point f.region old.at) (has_point f.region to.at) (found-above n.id id old ns rising.0 later)
        ∙ ap (taken (has_point f.region old.at) (has_point f.region to.at) id) (sym (first-inside f n ns))

-- A removal of an object that is there.
pub inside-gone : (f : Fence) (id : ℕ) (old : Stamped) (ns : World) → position_of ns id ≡ Some old → IsRising (places_of ns)
    → inside_of (without id ns) f ≡ cond (has_point f.region old.at) (without_id id (inside_of ns f)) (inside_of ns f)
inside-gone f id old ns there rising = all ns ∙ or_same (has_point f.region old.at) refl
  where
    kept : (c : Bool) (n : Member) (ms : World) → (n.id == id) ≡ c → inside_of (without id ms) f ≡ without_id id (inside_of ms f)
        → inside_of (cond (not c) (n ∷ without id ms) (without id ms)) f ≡ without_id id (more (has_point f.region n.at) n.id (inside_of ms f))
    kept true n ms same rest = rest ∙ sym (without-same (has_point f.region n.at) id (inside_of ms f)) ∙ ap (λ (k : ℕ). without_id id (more (has_point f.region n.at) k (inside_of ms f))) (sym (eqb-true n.id id same))
    kept false n ms same rest =
        first-inside f n (without id ms) ∙ ap (more (has_point f.region n.at) n.id) rest
        ∙ sym (without-other (has_point f.region n.at) id n.id (inside_of ms f) (λ is. true_false (sym (eq-eqb n.id id is) ∙ same)))

    all : (ms : World) → inside_of (without id ms) f ≡ without_id id (inside_of ms f)
    all [] = refl
    all (n ∷ ms) = kept (n.id == id) n ms refl (all ms) ∙ ap (without_id id) (sym (first-inside f n ms))

    -- An object that isn't inside isn't among the ids.
    outside : (ms : World) → position_of ms id ≡ Some old → IsRising (places_of ms) → has_point f.region old.at ≡ false → without_id id (inside_of ms f) ≡ inside_of ms f
    outside [] e r out = refl
    outside (n ∷ ms) e r out = by_test (n.id == id) refl (λ later. outside ms later r.1 out)
      where
        by_test : (b : Bool) → (n.id == id) ≡ b → (position_of ms id ≡ Some old → without_id id (inside_of ms f) ≡ inside_of ms f) → without_id id (inside_of (n ∷ ms) f) ≡ inside_of (n ∷ ms) f
        by_test true same rest =
            let is : n.id ≡ id = eqb-true n.id id same in
            let where_is : stamped_of n ≡ old = kept_same (stamped_of n) old (sym (first-position n ms id is) ∙ e) in
            let none : inside_of (n ∷ ms) f ≡ inside_of ms f = first-inside f n ms ∙ ap (λ (b : Bool). more b n.id (inside_of ms f)) (ap (λ (s : Stamped). has_point f.region s.at) where_is ∙ out) in
            ap (without_id id) none ∙ without-least f id ms (subst (λ k. IsAbove k (places_of ms)) is r.0) ∙ sym none
        by_test false same rest =
            let other : n.id ≡ id → ⊥ = λ is. true_false (sym (eq-eqb n.id id is) ∙ same) in
            ap (without_id id) (first-inside f n ms)
            ∙ without-other (has_point f.region n.at) id n.id (inside_of ms f) other
            ∙ ap (more (has_point f.region n.at) n.id) (rest (sym (later-position n ms id other) ∙ e))
            ∙ sym (first-inside f n ms)

    or_same : (b : Bool) → has_point f.region old.at ≡ b → without_id id (inside_of ns f) ≡ cond b (without_id id (inside_of ns f)) (inside_of ns f)
    or_same true e = refl
    or_same false e = outside ns there rising e

-- An id below all others is not among them.
has-least : (f : Fence) (id : ℕ) (ms : World) → IsAbove id (places_of ms) → has_id id (inside_of ms f) ≡ false
has-least f id [] above = refl
has-least f id (m ∷ ms) above =
    ap (has_id id) (first-inside f m ms) ∙ has-other (has_point f.region m.at) id m.id (inside_of ms f) (λ e. omega (arith, e, above.0)) ∙ has-least f id ms above.1
  where
    has-other : (b : Bool) (id x : ℕ) (ids : List ℕ) → (x ≡ id → ⊥) → has_id id (more b x ids) ≡ has_id id ids
    has-other true id x ids other = ap (λ (t : Bool). t || has_id id ids) (eqb-false x id other)
    has-other false id x ids other = refl

-- An id is inside if and only if its object is in the fence.
pub has-inside : (f : Fence) (id : ℕ) (ms : World) → IsRising (places_of ms) → has_id id (inside_of ms f) ≡ lies_in f (option_map (λ (s : Stamped). s.at) (position_of ms id))
has-inside f id [] rising = refl
has-inside f id (n ∷ ns) rising = ap (has_id id) (first-inside f n ns) ∙ by_test (n.id == id) refl (has-inside f id ns rising.1)
  where
    here : (b : Bool) → (n.id == id) ≡ true → has_id id (inside_of ns f) ≡ false → has_id id (more b n.id (inside_of ns f)) ≡ b
    here true same none = ap (λ (t : Bool). t || has_id id (inside_of ns f)) same
    here false same none = none

    other : (b : Bool) → (n.id == id) ≡ false → has_id id (more b n.id (inside_of ns f)) ≡ has_id id (inside_of ns f)
    other true differ = ap (λ (t : Bool). t || has_id id (inside_of ns f)) differ
    other false differ = refl

    by_test : (b : Bool) → (n.id == id) ≡ b → has_id id (inside_of ns f) ≡ lies_in f (option_map (λ (s : Stamped). s.at) (position_of ns id))
        → has_id id (more (has_point f.region n.at) n.id (inside_of ns f)) ≡ lies_in f (option_map (λ (s : Stamped). s.at) (option_map stamped_of (cond b (Some n) (find (λ m. m.id == id) ns))))
    by_test true same rest = here (has_point f.region n.at) same (has-least f id ns (subst (λ k. IsAbove k (places_of ns)) (eqb-true n.id id same) rising.0))
    by_test false same rest = other (has_point f.region n.at) same ∙ rest
