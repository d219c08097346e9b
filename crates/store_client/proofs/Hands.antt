-- A team as its hands are hired one by one, and taken home.
use Rattle.std.proofs.Common.{◌≡◌, ◌∙◌, ℕ, ◌+◌, ◌-◌, ◌<◌, List, [], ◌∷◌, ◌++◌, length, map, reverse, get_or, ◌⊎◌, inl, inr, refl, sym, ap, subst, arith, Vec, append_assoc, length-append}
use Rattle.std.specs.Prelude.{slice_index_or}
use Rattle.std.specs.List.{All}
use Rattle.std.specs.Vec.{with_items}
use Rattle.std.proofs.lemmas.List.{append-nil, map_push, reverse-append, reverse-reverse, length-map, length-reverse, get_or-map, get_or-reverse, get_or_append_left, with_items_is}
use Rattle.std.proofs.lemmas.List.Elements.{All-nil, All-head, All-tail, All-push, All-weaker}
use Rattle.std.proofs.Math.Nat.{eq-or-lt_of_le}
use Rattle.std.proofs.Math.Seq.{get_or-append_seam}
use mathlib.Core.List.{IsPrefix}
use Rattle.sessions.proofs.StepLemmas.{prefix-later}
use Rattle.store_client.specs.Caller.{Caller, Keeps, has_joined, without_part, with_part_of}
use Rattle.store_client.specs.Teams.{session_at, without_parts, has_joined_all, TeamDid, HasHired, HasTaken, AllDid, AllKept, AreHome}
use Rattle.store_client.specs.declared.crowd.Worker.{Worker}

-- one more is joined behind the others
joined-push : (hands : List Caller) (hand old : Caller) → has_joined_all (hands ++ hand ∷ []) old ≡ has_joined (has_joined_all hands old) hand.pass
joined-push [] hand old = refl
joined-push (x ∷ hands) hand old = joined-push hands hand (has_joined old x.pass)

reverse-push : {X : Type 0} (xs : List X) (x : X) → reverse (xs ++ x ∷ []) ≡ x ∷ reverse xs
reverse-push xs x = reverse-append xs (x ∷ [])

-- the parts of less
fewer : (old : Caller) (n m : ℕ) → m ≡ n + 1 → without_part (without_parts n old) ≡ without_parts m old
fewer old n m e = ap (λ (parts : ℕ). record old { pass = record old.pass { parts = parts } }) (omega arith)

without-none : (old : Caller) → old ≡ without_parts 0 old
without-none old = ap (λ (parts : ℕ). record old { pass = record old.pass { parts = parts } }) (omega arith)

-- what holds of each place of a list and of one more behind them
each-push : {X : Type 0} (P : ℕ → X → Type 0) (xs : List X) (x : X) → ((i : ℕ) (d : X) → i < length xs → P i (get_or xs i d)) → P (length xs) x → (i : ℕ) (d : X) → i < length (xs ++ x ∷ []) → P i (get_or (xs ++ x ∷ []) i d)
each-push {X} P xs x each one i d within = by_place (eq-or-lt_of_le (omega (arith, length-append xs (x ∷ []))))
  where
    by_place : (i ≡ length xs) ⊎ (i < length xs) → P i (get_or (xs ++ x ∷ []) i d)
    by_place (inl e) = subst (λ (k : ℕ). P k (get_or (xs ++ x ∷ []) k d)) (sym e) (subst (P (length xs)) (sym (get_or-append_seam xs x [] d)) one)
    by_place (inr lt) = subst (P i) (sym (get_or_append_left xs (x ∷ []) d i lt)) (each i d lt)

one-of : {X : Type 0} (xs : List X) → 0 < length xs → X
one-of [] none = absurd (omega arith)
one-of (x ∷ xs) some = x

-- clients with a part each are joined
joined-keeps : (hands : List Caller) (old : Caller) → All (λ (hand : Caller). hand.pass.parts ≡ 1) hands → HasTaken (length hands) old (has_joined_all hands old)
joined-keeps [] old each = (refl, omega arith, refl, refl)
joined-keeps (hand ∷ hands) old each =
    let rest = joined-keeps hands (has_joined old hand.pass) (All-tail (λ (c : Caller). c.pass.parts ≡ 1) hand hands each) in
    let one : hand.pass.parts ≡ 1 = All-head (λ (c : Caller). c.pass.parts ≡ 1) hand hands each in (
      rest.0,
      rest.1 ∙ omega arith,
      rest.2,
      rest.3,
    )

-- who has taken all of a team home keeps its pass's parts
pub team-keeps : {W : Type 0} (does : W → Caller → W → Caller → Type 0) (first : ℕ) (old new : Caller) (works done : List W) → length works < old.pass.parts → TeamDid does first old new works done → Keeps old new
team-keeps does first old new works done parts team =
    let each : All (λ (hand : Caller). hand.pass.parts ≡ 1) team.hands = λ i c lt. (team.kept i c (let e = team.each in omega arith)).1 in
    let taken = joined-keeps team.hands (without_parts (length works) old) each in
    subst (Keeps old) (sym team.joined) (taken.0, (let e = team.each in let t = taken.1 in omega arith), taken.2, taken.3)

module _ {I D O W P : Type 0} where
  abbrev work_of : Worker I D O W P → W
  work_of hand = hand.work

  abbrev client_of : Worker I D O W P → Caller
  client_of hand = hand.client

  -- a read of what stands last first
  read-back : {X : Type 0} (f : Worker I D O W P → X) (team : List (Worker I D O W P)) (i : ℕ) (hand : Worker I D O W P) (x : X) → i < length team
      → get_or (map f (reverse team)) i x ≡ f (get_or team (length team - 1 - i) hand)
  read-back f team i hand x lt =
      get_or-map f (reverse team) i hand x (omega (arith, length-reverse team)) ∙ ap f (get_or-reverse team i hand lt)

  back-length : {X : Type 0} (f : Worker I D O W P → X) (team : List (Worker I D O W P)) → length (map f (reverse team)) ≡ length team
  back-length f team = length-map (reverse team) f ∙ length-reverse team

  -- some works are left, and for each of the others a hand was hired
  pub record Hiring (first : ℕ) (old : Caller) (works left : List W) (team : List (Worker I D O W P)) (now : Caller) : Type 0 where
    pub works_are : works ≡ left ++ map work_of (reverse team)
    pub fresh : (i : ℕ) (hand : Worker I D O W P) → i < length team → (slice_index_or team i hand).client ≡ with_part_of old (session_at first (length works - 1 - i))
    pub given : now ≡ without_parts (length team) old

  hiring-count : (first : ℕ) (old now : Caller) (works left : List W) (team : List (Worker I D O W P)) → Hiring first old works left team now → length works ≡ length left + length team
  hiring-count first old now works left team so_far = ap length so_far.works_are ∙ length-append left (map work_of (reverse team)) ∙ ap (λ (n : ℕ). length left + n) (back-length work_of team)

  pub hiring-none : (first : ℕ) (old : Caller) (works : List W) → Hiring first old works works [] old
  hiring-none first old works = record { works_are = sym (append-nil works); fresh = λ i hand lt. absurd (omega arith); given = without-none old }

  pub hiring-more : (first : ℕ) (old now new : Caller) (works left : List W) (work : W) (team : List (Worker I D O W P)) (hand : Worker I D O W P) → Hiring first old works (left ++ work ∷ []) team now
      → hand.work ≡ work → hand.client ≡ with_part_of now (session_at first (length left)) → new ≡ without_part now → Hiring first old works left (team ++ hand ∷ []) new
  hiring-more first old now new works left work team hand so_far does client given =
      let count : length works ≡ length (left ++ work ∷ []) + length team = hiring-count first old now works (left ++ work ∷ []) team so_far in
      let last : length (left ++ work ∷ []) ≡ length left + 1 = length-append left (work ∷ []) in
      let more : length (team ++ hand ∷ []) ≡ length team + 1 = length-append team (hand ∷ []) in
      let begun : hand.client ≡ with_part_of old (session_at first (length works - 1 - length team)) =
      client ∙ ap (λ (c : Caller). with_part_of c (session_at first (length left))) so_far.given ∙ ap (λ (n : ℕ). with_part_of old (session_at first n)) (omega arith) in
      record {
        works_are = so_far.works_are ∙ append_assoc left (work ∷ []) (map work_of (reverse team)) ∙ ap (λ (w : W). left ++ w ∷ map work_of (reverse team)) (sym does) ∙ ap (λ (hands : List (Worker I D O W P)). left ++ map work_of hands) (sym (reverse-push team hand));
        fresh = each-push (λ (i : ℕ) (other : Worker I D O W P). other.client ≡ with_part_of old (session_at first (length works - 1 - i))) team hand so_far.fresh begun;
        given = given ∙ ap without_part so_far.given ∙ fewer old (length team) (length (team ++ hand ∷ [])) more;
      }

  pub hiring-all : (first : ℕ) (old now : Caller) (works : List W) (team : List (Worker I D O W P)) → Hiring first old works [] team now → HasHired first old now works team
  hiring-all first old now works team so_far =
      let sum : length works ≡ length {A = W} [] + length team = hiring-count first old now works [] team so_far in
      let count : length works ≡ length team = omega arith in
      record {
        works_are = so_far.works_are;
        fresh = λ i hand lt. subst (λ (n : ℕ). (slice_index_or team i hand).client ≡ with_part_of old (session_at first (n - 1 - i))) count (so_far.fresh i hand lt);
        given = so_far.given;
      }

  -- some hands are left, and the others were taken home, in this order
  pub record Homing (old : Caller) (team left : List (Worker I D O W P)) (works : List W) (now : Caller) : Type 0 where
    pub home : List (Worker I D O W P)
    pub whole : team ≡ left ++ reverse home
    pub works_are : works ≡ map work_of home
    pub joined : now ≡ has_joined_all (map client_of home) old
    pub seen : All (λ (hand : Caller). IsPrefix hand.pass.seen now.pass.seen) (map client_of home)
    pub later : IsPrefix old.pass.seen now.pass.seen

  pub homing-none : (old : Caller) (team : List (Worker I D O W P)) → Homing old team team [] old
  homing-none old team = record {
    home = [];
    whole = sym (append-nil team);
    works_are = refl;
    joined = refl;
    seen = All-nil (λ (hand : Caller). IsPrefix hand.pass.seen old.pass.seen);
    later = ([], append-nil old.pass.seen);
  }

  pub homing-more : (old now new : Caller) (team left : List (Worker I D O W P)) (hand : Worker I D O W P) (works more : List W) → Homing old team (left ++ hand ∷ []) works now → new ≡ has_joined now hand.client.pass
      → IsPrefix now.pass.seen new.pass.seen → IsPrefix hand.client.pass.seen new.pass.seen → more ≡ works ++ hand.work ∷ [] → Homing old team left more new
  homing-more old now new team left hand works more so_far joins later seen added = record {
    home = so_far.home ++ hand ∷ [];
    whole = so_far.whole ∙ append_assoc left (hand ∷ []) (reverse so_far.home) ∙ ap (λ (hands : List (Worker I D O W P)). left ++ hands) (sym (reverse-push so_far.home hand));
    works_are = added ∙ ap (λ (all : List W). all ++ hand.work ∷ []) so_far.works_are ∙ sym (map_push work_of so_far.home hand);
    joined = joins ∙ ap (λ (c : Caller). has_joined c hand.client.pass) so_far.joined ∙ sym (joined-push (map client_of so_far.home) hand.client old) ∙ ap (λ (hands : List Caller). has_joined_all hands old) (sym (map_push client_of so_far.home hand));
    seen = subst (All (λ (c : Caller). IsPrefix c.pass.seen new.pass.seen)) (sym (map_push client_of so_far.home hand))
        (All-push (λ (c : Caller). IsPrefix c.pass.seen new.pass.seen) (map client_of so_far.home) hand.client
        (All-weaker (λ (c : Caller). IsPrefix c.pass.seen now.pass.seen) (λ (c : Caller). IsPrefix c.pass.seen new.pass.seen) (λ c was. prefix-later c.pass.seen now.pass.seen new.pass.seen was later) (map client_of so_far.home) so_far.seen) seen);
    later = prefix-later old.pass.seen now.pass.seen new.pass.seen so_far.later later;
  }

  pub homing-all : (old now : Caller) (team : List (Worker I D O W P)) (works : List W) → Homing old team [] works now → AreHome old now team works
  homing-all old now team works done =
      let back : done.home ≡ reverse team = sym (reverse-reverse done.home) ∙ ap reverse (sym done.whole) in
      record {
        works_are = done.works_are ∙ ap (map work_of) back;
        joined = done.joined ∙ ap (λ (hands : List (Worker I D O W P)). has_joined_all (map client_of hands) old) back;
        seen = subst (λ (hands : List (Worker I D O W P)). All (λ (c : Caller). IsPrefix c.pass.seen now.pass.seen) (map client_of hands)) back done.seen;
        later = done.later;
      }

  -- A team that was hired has worked, and each of it kept its client: `after` is what its vector holds then.
  pub record Worked (does : W → Caller → W → Caller → Type 0) (first : ℕ) (old mid : Caller) (works : List W) (team after : List (Worker I D O W P)) : Type 0 where
    pub hired : HasHired first old mid works team
    pub same : length after ≡ length team
    pub did : AllDid does team after
    pub kept : AllKept team after

  pub worked : (does : W → Caller → W → Caller → Type 0) (first : ℕ) (old mid : Caller) (works : List W) {Z : Type 0} (team : Vec (Worker I D O W P) Z) (before after : List (Worker I D O W P)) → HasHired first old mid works team.items → before ≡ team.items
      → length after ≡ length before → AllDid does before after → AllKept before after → Worked does first old mid works before (with_items team after).items
  worked does first old mid works team before after hired value same did kept =
      let written = with_items_is team after (same ∙ ap length value ∙ sym team.ok.0) in
      subst (Worked does first old mid works before) (sym written)
      (record { hired = subst (HasHired first old mid works) (sym value) hired; same = same; did = did; kept = kept })

  pub all-of-lock : (does : W → Caller → W → Caller → Type 0) (first : ℕ) (old mid : Caller) (works : List W) (team after : List (Worker I D O W P)) → Worked does first old mid works team after → All (λ (hand : Worker I D O W P). hand.client.pass.lock ≡ mid.pass.lock) after
  all-of-lock does first old mid works team after worked i d lt =
      let within : i < length team = let e = worked.same in omega arith in
      (worked.kept i d within).0 ∙ ap (λ (c : Caller). c.pass.lock) (worked.hired.fresh i d within) ∙ ap (λ (c : Caller). c.pass.lock) (sym worked.hired.given)

  module _ (does : W → Caller → W → Caller → Type 0) (first : ℕ) (old mid new : Caller) (works done : List W) (team after : List (Worker I D O W P)) (has : Worked does first old mid works team after) where
    count : length works ≡ length team
    count = ap length has.hired.works_are ∙ back-length work_of team

    module _ (i : ℕ) (lt : i < length works) (d : Worker I D O W P) where
      abbrev place : ℕ
      place = length team - 1 - i

      within : place < length team
      within = let e = count in omega arith

      begun : (slice_index_or team place d).client ≡ with_part_of old (session_at first i)
      begun = let e = count in has.hired.fresh place d within ∙ ap (λ (n : ℕ). with_part_of old (session_at first n)) (omega arith)

      work-is : (w : W) → slice_index_or works i w ≡ (slice_index_or team place d).work
      work-is w = let e = count in ap (λ (all : List W). slice_index_or all i w) has.hired.works_are ∙ read-back work_of team i d w (omega arith)

      done-is : (w : W) → done ≡ map work_of (reverse after) → slice_index_or done i w ≡ (slice_index_or after place d).work
      done-is w is =
          let e = count in
          ap (λ (all : List W). slice_index_or all i w) is ∙ read-back work_of after i d w (omega arith) ∙ ap (λ (n : ℕ). (slice_index_or after (n - 1 - i) d).work) has.same

      hand-is : (c : Caller) → slice_index_or (map client_of (reverse after)) i c ≡ (slice_index_or after place d).client
      hand-is c = let e = count in read-back client_of after i d c (omega arith) ∙ ap (λ (n : ℕ). (slice_index_or after (n - 1 - i) d).client) has.same

      hand-kept : (c : Caller) → Keeps (with_part_of old (session_at first i)) (slice_index_or (map client_of (reverse after)) i c)
      hand-kept c = subst (Keeps (with_part_of old (session_at first i))) (sym (hand-is c)) (subst (λ (b : Caller). Keeps b (slice_index_or after place d).client) begun (has.kept place d within))

    pub team-did : AreHome mid new after done → TeamDid does first old new works done
    team-did home = record {
      hands = map client_of (reverse after);
      each = let e = count in back-length client_of after ∙ has.same ∙ sym count;
      all = ap length home.works_are ∙ back-length work_of after ∙ has.same ∙ sym count;
      did = λ i w c lt.
          let d : Worker I D O W P = record { client = c; work = w } in
          let was = has.did (place i lt d) d (within i lt d) in
          simp (work-is i lt d w, done-is i lt d w home.works_are, hand-is i lt d c, sym (begun i lt d)) was;
      kept = λ i c lt. hand-kept i lt (one-of team (let e = count in omega arith)) c;
      seen = home.seen;
      later = subst (λ (m : Caller). IsPrefix m.pass.seen new.pass.seen) has.hired.given home.later;
      joined = home.joined ∙ ap (λ (m : Caller). has_joined_all (map client_of (reverse after)) m) (has.hired.given ∙ ap (λ (n : ℕ). without_parts n old) (sym count));
    }
