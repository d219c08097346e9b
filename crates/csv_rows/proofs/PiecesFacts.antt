-- Pieces of a text, one after the other.
use Rattle.std.proofs.Common.{codes, ◌-◌, ◌≡◌, ◌∙◌, ℕ, ◌+◌, ◌≤◌, List, [], ◌∷◌, ◌++◌, length, take, drop, Option, Some, None, Result, Ok, Err, refl, sym, ap, subst, arith, append_assoc, length-append, take-append-drop, get_or, ◌<◌}
use Rattle.std.proofs.Math.Seq.{take-length}
use Rattle.std.proofs.lemmas.Grind.{flat_map-append}
use Rattle.std.proofs.lemmas.List.{append-nil, drop-drop, flat_map_more, length-drop, take_more}
use Rattle.std.specs.List.{flat_map}
use Rattle.std.proofs.lemmas.Bool.{true≢false}
use Rattle.std.specs.Result.{IsErr}
use Rattle.std.proofs.lemmas.Result.{MatchResult-from_err}
use Rattle.std.specs.Io.KnownBytes.{Appends}
use Rattle.causes.specs.Causes.{Counts, Rose}
use Rattle.io_edge.specs.Puts.{Puts}
use Rattle.csv_rows.specs.Pieces.{HoldsBack, Moves}

appends-none : (a : Option (List ℕ)) → Appends a a []
appends-none None = tt
appends-none (Some xs) = sym (append-nil xs)

appends-trans : (a b c : Option (List ℕ)) (x y : List ℕ) → Appends a b x → Appends b c y → Appends a c (x ++ y)
appends-trans None b c x y h g = tt
appends-trans (Some xs) None c x y h g = absurd h
appends-trans (Some xs) (Some ys) None x y h g = absurd g
appends-trans (Some xs) (Some ys) (Some zs) x y h g = g ∙ ap (λ l. l ++ y) h ∙ append_assoc xs x y

-- nothing was put: all is held back
pub moves-none : (a : Option (List ℕ)) (text : List ℕ) → Moves a a text text
moves-none a text = record { front = []; grew = appends-none a; whole = refl }

-- all was put
pub moves-all : (a b : Option (List ℕ)) (text : List ℕ) → Appends a b text → Moves a b text []
moves-all a b text h = record { front = text; grew = h; whole = append-nil text }

pub moves-trans : (a b c : Option (List ℕ)) (text held rest : List ℕ) → Moves a b text held → Moves b c held rest → Moves a c text rest
moves-trans a b c text held rest h g = record {
  front = h.front ++ g.front;
  grew = appends-trans a b c h.front g.front h.grew g.grew;
  whole = append_assoc h.front g.front rest ∙ ap (λ l. h.front ++ l) g.whole ∙ h.whole;
}

-- more text, all of which is held back
pub moves-more : (a b : Option (List ℕ)) (text held more : List ℕ) → Moves a b text held → Moves a b (text ++ more) (held ++ more)
moves-more a b text held more h = record {
  front = h.front;
  grew = h.grew;
  whole = sym (append_assoc h.front held more) ∙ ap (λ l. l ++ more) h.whole;
}

pub moves-is : (a b : Option (List ℕ)) (text other held : List ℕ) → text ≡ other → Moves a b text held → Moves a b other held
moves-is a b text other held e h = subst (λ (l : List ℕ). Moves a b l held) e h

-- more text was pushed on what is held back
pub moves-pushed : (a b : Option (List ℕ)) (text held more pushed : List ℕ) → Moves a b text held → pushed ≡ held ++ more → Moves a b (text ++ more) pushed
moves-pushed a b text held more pushed h e = subst (λ (l : List ℕ). Moves a b (text ++ more) l) (sym e) (moves-more a b text held more h)

-- what a put of what was held back did
pub moves-lost : (a b : Option (List ℕ)) (piece : List ℕ) (n : ℕ) → n ≤ length piece → Appends a b (take n piece) → Moves a b piece (drop n piece)
moves-lost a b piece n le h = record { front = take n piece; grew = h; whole = take-append-drop n piece }

take-front : (xs ys : List ℕ) → take (length xs) (xs ++ ys) ≡ xs
take-front [] ys = refl
take-front (x ∷ xs) ys = ap (λ l. x ∷ l) (take-front xs ys)

-- a text of which a front was put and the rest lost
pub puts-lost : (a b : Option (List ℕ)) (text lost more : List ℕ) → Moves a b text lost → (n : ℕ) × (n ≤ length (text ++ more)) × Appends a b (take n (text ++ more))
puts-lost a b text lost more h =
    let whole : h.front ++ (lost ++ more) ≡ text ++ more = sym (append_assoc h.front lost more) ∙ ap (λ l. l ++ more) h.whole in
    let front : take (length h.front) (text ++ more) ≡ h.front = ap (λ l. take (length h.front) l) (sym whole) ∙ take-front h.front (lost ++ more) in
    (length h.front, omega (arith, ap length whole, length-append h.front (lost ++ more)), subst (λ (l : List ℕ). Appends a b l) (sym front) h.grew)

-- the last piece
pub puts-last : {T E : Type 0} (a b c : Option (List ℕ)) (text held : List ℕ) (result : Result T E) → Moves a b text held → Puts b c held result → Puts a c text result
puts-last a b c text held (Ok x) h g = subst (λ (l : List ℕ). Appends a c l) h.whole (appends-trans a b c h.front held h.grew g)
puts-last a b c text held (Err e) h g =
    let last = moves-lost b c held g.0 g.1 g.2 in
    subst (λ (l : List ℕ). (n : ℕ) × (n ≤ length l) × Appends a c (take n l)) (append-nil text) (puts-lost a c text (drop g.0 held) [] (moves-trans a b c text held (drop g.0 held) h last))

-- a put of these bytes, which are that text
pub puts-is : {T E : Type 0} (a b : Option (List ℕ)) (bytes text : List ℕ) (result : Result T E) → bytes ≡ text → Puts a b bytes result → Puts a b text result
puts-is a b bytes text result e h = subst (λ (l : List ℕ). Puts a b l result) e h

-- a put of all that was held back
pub holds-put : {T E : Type 0} (a b : Option (List ℕ)) (bytes held rest : List ℕ) (result : Result T E) → bytes ≡ held → rest ≡ [] → Puts a b bytes result → HoldsBack a b held rest result
holds-put a b bytes held rest (Ok x) e none h = rw none (moves-all a b held (subst (λ (l : List ℕ). Appends a b l) e h))
holds-put a b bytes held rest (Err f) e none h = (drop h.0 held, subst (λ (l : List ℕ). Moves a b l (drop h.0 l)) e (moves-lost a b bytes h.0 h.1 h.2), none)

-- a fault behind calls that went well
pub counts-lost : {T E : Type 0} (a b c : ℕ) (result : Result T E) → IsErr result → b ≡ a → b ≤ c → Rose b c → Counts a c result
counts-lost {T = T} {E = E} a b c (Ok x) err same later rose = absurd (true≢false (sym err))
counts-lost {T = T} {E = E} a b c (Err e) err same later rose = subst (λ n. Counts {T = T} {E = E} n c (Err e)) same (record { later = later; same = tt; failed = rose })

-- a fault, with the texts at which it came
pub holds-lost : {T E : Type 0} (a b : Option (List ℕ)) (text rest lost : List ℕ) (result : Result T E) → IsErr result → Moves a b text lost → rest ≡ [] → HoldsBack a b text rest result
holds-lost a b text rest lost result err h none = MatchResult-from_err result (λ _. Moves a b text rest) (λ _. (l : List ℕ) × Moves a b text l × (rest ≡ [])) err (λ _. (lost, h, none))

pub puts-fault : {T E : Type 0} (a b : Option (List ℕ)) (text lost more : List ℕ) (result : Result T E) → IsErr result → Moves a b text lost → Puts a b (text ++ more) result
puts-fault a b text lost more result err h =
    MatchResult-from_err result (λ _. Appends a b (text ++ more)) (λ _. (n : ℕ) × (n ≤ length (text ++ more)) × Appends a b (take n (text ++ more))) err (λ _. puts-lost a b text lost more h)

-- lines of these items up to an index were added behind a front
pub record HasAdded {X : Type 0} (line : X → List ℕ) (old now : Option (List ℕ)) (faults later : ℕ) (front : List ℕ) (items : List X) (index : ℕ) (held : List ℕ) : Type 0 where
  pub moved : Moves old now (front ++ flat_map line (take index items)) held
  pub same : later ≡ faults

module _ {X : Type 0} (line : X → List ℕ) (old : Option (List ℕ)) (faults : ℕ) (front : List ℕ) (items : List X) where
  pub added-none : HasAdded line old old faults faults front items 0 front
  added-none = record { moved = subst (λ (l : List ℕ). Moves old old l front) (sym (append-nil front)) (moves-none old front); same = refl }

  pub added-more : (mid now : Option (List ℕ)) (later last : ℕ) (index : ℕ) (held kept more : List ℕ) (d : X) → HasAdded line old mid faults later front items index held
      → Moves mid now held kept → last ≡ later → more ≡ kept ++ line (get_or items index d) → index < length items → HasAdded line old now faults last front items (index + 1) more
  added-more mid now later last index held kept more d h step same is lt =
      let text : (front ++ flat_map line (take index items)) ++ line (get_or items index d) ≡ front ++ flat_map line (take (index + 1) items) =
      flat_map_more line front (take index items) (get_or items index d) ∙ ap (λ (l : List X). front ++ flat_map line l) (sym (take_more items index d lt)) in
      let moved = moves-more old now (front ++ flat_map line (take index items)) kept (line (get_or items index d)) (moves-trans old mid now (front ++ flat_map line (take index items)) held kept h.moved step) in
      record {
        moved = subst (λ (l : List ℕ). Moves old now l more) text (subst (λ (l : List ℕ). Moves old now ((front ++ flat_map line (take index items)) ++ line (get_or items index d)) l) (sym is) moved);
        same = same ∙ h.same;
      }

  -- an item's line was added to what was held back
  pub added-moved : (mid now : Option (List ℕ)) (later last : ℕ) (index : ℕ) (held more : List ℕ) (d : X) → HasAdded line old mid faults later front items index held
      → Moves mid now (held ++ line (get_or items index d)) more → last ≡ later → index < length items → HasAdded line old now faults last front items (index + 1) more
  added-moved mid now later last index held more d h step same lt =
      let text : (front ++ flat_map line (take index items)) ++ line (get_or items index d) ≡ front ++ flat_map line (take (index + 1) items) =
      flat_map_more line front (take index items) (get_or items index d) ∙ ap (λ (l : List X). front ++ flat_map line l) (sym (take_more items index d lt)) in
      let begun = moves-more old mid (front ++ flat_map line (take index items)) held (line (get_or items index d)) h.moved in
      record {
        moved = moves-is old now _ _ more text (moves-trans old mid now _ (held ++ line (get_or items index d)) more begun step);
        same = same ∙ h.same;
      }

  -- all lines were added
  pub added-all : (now : Option (List ℕ)) (later index : ℕ) (held : List ℕ) → HasAdded line old now faults later front items index held → index ≡ length items → Moves old now (front ++ flat_map line items) held
  added-all now later index held h end = subst (λ (l : List X). Moves old now (front ++ flat_map line l) held) (ap (λ n. take n items) end ∙ take-length items) h.moved

  -- a fault on the way
  pub added-lost : (mid now : Option (List ℕ)) (later index : ℕ) (held lost : List ℕ) → HasAdded line old mid faults later front items index held → Moves mid now held lost
      → Moves old now (front ++ flat_map line items) (lost ++ flat_map line (drop index items))
  added-lost mid now later index held lost h step =
      let text : (front ++ flat_map line (take index items)) ++ flat_map line (drop index items) ≡ front ++ flat_map line items =
      append_assoc front (flat_map line (take index items)) (flat_map line (drop index items))
      ∙ ap (λ l. front ++ l) (sym (flat_map-append line (take index items) (drop index items)) ∙ ap (λ (l : List X). flat_map line l) (take-append-drop index items)) in
      subst (λ (l : List ℕ). Moves old now l (lost ++ flat_map line (drop index items))) text
      (moves-more old now (front ++ flat_map line (take index items)) lost (flat_map line (drop index items)) (moves-trans old mid now (front ++ flat_map line (take index items)) held lost h.moved step))

  -- a fault on the way of an item's line
  pub added-behind : (mid now : Option (List ℕ)) (later index : ℕ) (held lost : List ℕ) (d : X) → HasAdded line old mid faults later front items index held → Moves mid now (held ++ line (get_or items index d)) lost → index < length items
      → Moves old now (front ++ flat_map line items) (lost ++ flat_map line (drop (index + 1) items))
  added-behind mid now later index held lost d h step lt = added-lost now now later (index + 1) lost lost (added-moved mid now later later index held lost d h step refl lt) (moves-none now lost)

-- one more line behind a text: a piece was put, then front and detail were added, and the end is held back
pub moves-line : (a b c : Option (List ℕ)) (old kept front detail end held : List ℕ) → Moves a b old kept → Moves b c ((kept ++ front) ++ detail) held → Moves a c (old ++ (front ++ detail ++ end)) (held ++ end)
moves-line a b c old kept front detail end held h g =
    let first = moves-more a b old kept (front ++ detail) h in
    let second = moves-is b c ((kept ++ front) ++ detail) (kept ++ (front ++ detail)) held (append_assoc kept front detail) g in
    let both = moves-trans a b c (old ++ (front ++ detail)) (kept ++ (front ++ detail)) held first second in
    moves-is a c ((old ++ (front ++ detail)) ++ end) (old ++ (front ++ detail ++ end)) (held ++ end) (append_assoc old (front ++ detail) end) (moves-more a c (old ++ (front ++ detail)) held end both)

-- a listed point, written from its end to its start
pub listed-written : (id x y : List ℕ) → 59 ∷ (id ++ (58 ∷ (x ++ (58 ∷ (y ++ []))))) ≡ 59 ∷ (id ++ codes ":" ++ (x ++ codes ":" ++ y))
listed-written id x y = simp (append_assoc, append-nil)

-- a position with its moment, written from its end to its start
pub stamped-written : (old x y moment : List ℕ) (mark : ℕ) → old ++ (x ++ (mark ∷ (y ++ (mark ∷ (moment ++ []))))) ≡ old ++ x ++ (mark ∷ []) ++ y ++ (mark ∷ []) ++ moment
stamped-written old x y moment mark = simp (append_assoc, append-nil)

-- all that stands from there on in a text of this length
pub from-there : (text : List ℕ) (len at : ℕ) → length text ≡ len → take (len - at) (drop at text) ≡ drop at text
from-there text len at long = ap (λ n. take n (drop at text)) (ap (λ n. n - at) (sym long) ∙ sym (length-drop at text)) ∙ take-length (drop at text)

-- what stands behind a mark in a text of this length
pub behind-mark : (text rest : List ℕ) (len at mark : ℕ) → length text ≡ len → drop at text ≡ mark ∷ rest → take (len - (at + 1)) (drop (at + 1) text) ≡ rest
behind-mark text rest len at mark long e =
    from-there text len (at + 1) long ∙ sym (drop-drop 1 at text) ∙ ap (λ l. drop 1 l) e
