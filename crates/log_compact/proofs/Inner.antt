-- The inner names of leaves: those that were split to create them, in order, each at the first leaf under it.
use Rattle.std.proofs.Common.{◌≡◌, inl, inr, ℕ, ◌<◌, Bool, true, List, [], ◌∷◌, ◌++◌, length, refl, sym, ◌∙◌, ap, subst, arith, append_assoc}
use Rattle.std.proofs.lemmas.List.{append-nil}
use Rattle.std.proofs.lemmas.List.Sums.{fold-append}
use Rattle.std.specs.List.{AllByRecursion, flat_map}
use Rattle.zorder.specs.Name.{first_key}
use Rattle.zorder.specs.Tile.{children}
use Rattle.log_compact.specs.Fresh.{comes_before, with_name, prefixes_by, inner_names}
use Rattle.plain_list.specs.State.{ComesBySplits}
use Rattle.log_compact.specs.Walk.{new_names, all_new_names, AreShort}
use Rattle.log_compact.proofs.Order.{is_left, left-before, left-more, before-more, before-under, all-append, all-weaken, AreBefore, AreRising, rising-push, IsAmong, among-push, among-last, with_name-last, with_names, with_names-among}
use Rattle.zorder.specs.Width.{IsWidth}
use Rattle.log_compact.proofs.Forest.{Forest, none, leaf, split, forest_of, IsChild, ArePartedFrom, AreParted, children_are, Leads, leads-split, split-room}
use Rattle.log_compact.proofs.Prefixes.{is_aligned, aligned-child, prefixes_by-append, prefixes_by-child, later_prefixes, new_names-first, new_names-other}

-- Roots that may be split.
abbrev pub AreAligned : ℕ → List (List Bool) → Type 0
AreAligned w roots = AllByRecursion (λ n. is_aligned w n ≡ true) roots

aligned-children : (w : ℕ) → IsWidth w → (name : List Bool) → is_aligned w name ≡ true → (cs : List (List Bool)) → AllByRecursion (IsChild w name) cs → AreAligned w cs
aligned-children w width name aligned cs grown = all-weaken (IsChild w name) (λ n. is_aligned w n ≡ true) (λ c is. aligned-child w width name c aligned is) cs grown

-- Nothing is new at these names.
abbrev AreOld : ℕ → List (List Bool) → Type 0
AreOld w names = AllByRecursion (λ n. new_names w n ≡ []) names

-- Nothing is new at the names after the first one.
abbrev AreOldBehind : ℕ → List (List Bool) → Type 0
AreOldBehind w [] = Unit {0}
AreOldBehind w (n ∷ names) = AreOld w names

abbrev new_at_head : ℕ → List (List Bool) → List (List Bool)
new_at_head w [] = []
new_at_head w (n ∷ names) = new_names w n

old-head : (w : ℕ) (names : List (List Bool)) → AreOld w names → new_at_head w names ≡ []
old-head w [] old = refl
old-head w (n ∷ names) old = old.0

old-behind : (w : ℕ) (names : List (List Bool)) → AreOld w names → AreOldBehind w names
old-behind w [] old = tt
old-behind w (n ∷ names) old = old.1

old-others : (w : ℕ) → IsWidth w → (name : List Bool) → is_aligned w name ≡ true → (cs : List (List Bool)) → AllByRecursion (IsChild w name) cs
    → AllByRecursion (λ (c : List Bool). first_key name < first_key c) cs → AreOld w cs
old-others w width name aligned [] grown above = tt
old-others w width name aligned (c ∷ cs) grown above = (new_names-other w width name c aligned grown.0 above.0, old-others w width name aligned cs grown.1 above.1)

-- On a walk from leaf to leaf, the new names are those that were split.
walked : (w : ℕ) → IsWidth w → (roots leaves inner : List (List Bool)) → Forest w roots leaves inner → AreAligned w roots → AreOldBehind w roots → AreShort leaves
    → all_new_names w leaves ≡ new_at_head w roots ++ inner
walked w width _ _ _ none aligned old short = refl
walked w width _ _ _ (leaf n roots leaves inner f) aligned old short =
    ap (λ (l : List (List Bool)). new_names w n ++ l) (walked w width roots leaves inner f aligned.1 (old-behind w roots old) short.1 ∙ ap (λ (l : List (List Bool)). l ++ inner) (old-head w roots old))
walked w width _ _ _ (split n roots leaves inner f) aligned old short =
    let room = split-room w width n roots leaves inner f short in
    let cs = children_are w n width in
    let grown : AllByRecursion (IsChild w n) (cs.first ∷ cs.others) = subst (AllByRecursion (IsChild w n)) cs.are cs.grown in
    let old_now : AreOldBehind w (children w n ++ roots) = subst (λ (l : List (List Bool)). AreOldBehind w (l ++ roots)) (sym cs.are)
    (all-append (λ m. new_names w m ≡ []) cs.others roots (old-others w width n aligned.0 cs.others grown.1 (cs.above room)) old) in
    let aligned_now : AreAligned w (children w n ++ roots) = all-append (λ m. is_aligned w m ≡ true) (children w n) roots (aligned-children w width n aligned.0 (children w n) cs.grown) aligned.1 in
    walked w width (children w n ++ roots) leaves inner f aligned_now old_now short
    ∙ ap (λ (l : List (List Bool)). new_at_head w (l ++ roots) ++ inner) cs.are
    ∙ ap (λ (l : List (List Bool)). l ++ inner) (new_names-first w width n cs.first aligned.0 grown.0 (cs.same_key room))
    ∙ append_assoc (new_names w n) (n ∷ []) inner

-- Each of these names is left of each root.
abbrev pub AreLeft : List (List Bool) → List (List Bool) → Type 0
AreLeft names roots = AllByRecursion (λ n. ArePartedFrom n roots) names

parted-append : (names roots : List (List Bool)) → AreParted names → AreParted roots → AreLeft names roots → AreParted (names ++ roots)
parted-append [] roots first second left = second
parted-append (n ∷ names) roots first second left =
    (all-append (λ m. is_left n m ≡ true) names roots first.0 left.0, parted-append names roots first.1 second left.1)

-- A name that is left of others stays so with more bits.
left-grown : (name c : List Bool) (w : ℕ) → IsChild w name c → (roots : List (List Bool)) → ArePartedFrom name roots → ArePartedFrom c roots
left-grown name c w is [] left = tt
left-grown name c w is (r ∷ roots) left = (
  subst (λ (a : List Bool). is_left a r ≡ true) (sym is.is) (subst (λ (b : List Bool). is_left (name ++ is.bits) b ≡ true) (append-nil r) (left-more name r is.bits [] left.0)),
  left-grown name c w is roots left.1,
)

pub parted-children : (w : ℕ) → IsWidth w → (name : List Bool) (roots : List (List Bool)) → ArePartedFrom name roots → AreParted roots → AreParted (children w name ++ roots)
parted-children w width name roots left parted =
    let cs = children_are w name width in
    parted-append (children w name) roots cs.parted parted
    (all-weaken (IsChild w name) (λ c. ArePartedFrom c roots) (λ c is. left-grown name c w is roots left) (children w name) cs.grown)

-- Names that were split so far, and roots that come after all of them. The prefixes of the roots are among these names.
record IsReady (w : ℕ) (names roots : List (List Bool)) : Type 0 where
  rising : AreRising names
  before : AllByRecursion (λ r. AreBefore r names) roots
  parted : AreParted roots
  among : AllByRecursion (λ r. AllByRecursion (IsAmong names) (prefixes_by w r)) roots
  aligned : AreAligned w roots

-- With one more name.
before-push : (names : List (List Bool)) (name root : List Bool) → AreBefore root names → comes_before name root ≡ true → AreBefore root (names ++ name ∷ [])
before-push names name root before this = all-append (λ n. comes_before n root ≡ true) names (name ∷ []) before (this, tt)

before-roots : (names : List (List Bool)) (name : List Bool) (roots : List (List Bool)) → AllByRecursion (λ r. AreBefore r names) roots → ArePartedFrom name roots
    → AllByRecursion (λ r. AreBefore r (names ++ name ∷ [])) roots
before-roots names name [] before left = tt
before-roots names name (r ∷ roots) before left = (before-push names name r before.0 (left-before name r left.0), before-roots names name roots before.1 left.1)

before_child : (w : ℕ) → IsWidth w → (name c : List Bool) → IsChild w name c → comes_before name c ≡ true
before_child w width name c is = subst (λ (m : List Bool). comes_before name m ≡ true) (sym is.is) (of is.bits is.long)
  where
    of : (bits : List Bool) → length bits ≡ w → comes_before name (name ++ bits) ≡ true
    of [] long = elim width [ inl one ↦ absurd (omega arith) | inr both ↦ absurd (omega arith) ]
    of (b ∷ bits) long = before-under name b bits

before-child : (w : ℕ) → IsWidth w → (names : List (List Bool)) (name c : List Bool) → AreBefore name names → IsChild w name c → AreBefore c (names ++ name ∷ [])
before-child w width names name c before is =
    before-push names name c
    (all-weaken (λ n. comes_before n name ≡ true) (λ n. comes_before n c ≡ true)
    (λ n e. subst (λ (m : List Bool). comes_before n m ≡ true) (sym is.is) (before-more n name is.bits e)) names before)
    (before_child w width name c is)

among-child : (w : ℕ) → IsWidth w → (names : List (List Bool)) (name c : List Bool) → is_aligned w name ≡ true → AllByRecursion (IsAmong names) (prefixes_by w name) → IsChild w name c
    → AllByRecursion (IsAmong (names ++ name ∷ [])) (prefixes_by w c)
among-child w width names name c aligned among is =
    subst (AllByRecursion (IsAmong (names ++ name ∷ []))) (sym (prefixes_by-child w width name c aligned is))
    (all-append (IsAmong (names ++ name ∷ [])) (prefixes_by w name) (name ∷ []) (all-weaken (IsAmong names) (IsAmong (names ++ name ∷ [])) (λ n. among-push names name n) (prefixes_by w name) among)
    (among-last names name, tt))

ready-split : (w : ℕ) → IsWidth w → (names : List (List Bool)) (name : List Bool) (roots : List (List Bool)) → IsReady w names (name ∷ roots) → IsReady w (names ++ name ∷ []) (children w name ++ roots)
ready-split w width names name roots ready =
    let cs = children_are w name width in
    let more : List (List Bool) = names ++ name ∷ [] in
    record {
      rising = rising-push name names ready.rising ready.before.0;
      before = all-append (λ r. AreBefore r more) (children w name) roots
          (all-weaken (IsChild w name) (λ r. AreBefore r more) (λ c is. before-child w width names name c ready.before.0 is) (children w name) cs.grown)
          (before-roots names name roots ready.before.1 ready.parted.0);
      parted = parted-children w width name roots ready.parted.0 ready.parted.1;
      among = all-append (λ r. AllByRecursion (IsAmong more) (prefixes_by w r)) (children w name) roots
          (all-weaken (IsChild w name) (λ r. AllByRecursion (IsAmong more) (prefixes_by w r)) (λ c is. among-child w width names name c ready.aligned.0 ready.among.0 is) (children w name) cs.grown)
          (all-weaken (λ r. AllByRecursion (IsAmong names) (prefixes_by w r)) (λ r. AllByRecursion (IsAmong more) (prefixes_by w r))
          (λ r all. all-weaken (IsAmong names) (IsAmong more) (λ n. among-push names name n) (prefixes_by w r) all) roots ready.among.1);
      aligned = all-append (λ m. is_aligned w m ≡ true) (children w name) roots (aligned-children w width name ready.aligned.0 (children w name) cs.grown) ready.aligned.1;
    }

ready-leaf : (w : ℕ) (names : List (List Bool)) (name : List Bool) (roots : List (List Bool)) → IsReady w names (name ∷ roots) → IsReady w names roots
ready-leaf w names name roots ready =
    record { rising = ready.rising; before = ready.before.1; parted = ready.parted.1; among = ready.among.1; aligned = ready.aligned.1 }

-- The first leaf under a name that was split adds the name after the others.
put-split : (w : ℕ) → IsWidth w → (names : List (List Bool)) (name : List Bool) (roots leaves : List (List Bool)) → IsReady w names (name ∷ roots) → (bits : List Bool) → length bits ≡ w → Leads (name ++ bits) leaves
    → with_names names (flat_map (prefixes_by w) leaves) ≡ with_names (names ++ name ∷ []) (flat_map (prefixes_by w) leaves)
put-split w width names name roots leaves ready [] long below = elim width [ inl one ↦ absurd (omega arith) | inr both ↦ absurd (omega arith) ]
put-split w width names name roots leaves ready (b ∷ bits) long below =
    let more : List (List Bool) = names ++ name ∷ [] in
    let old : List (List Bool) = prefixes_by w name in
    let tail : List (List Bool) = later_prefixes w name b (bits ++ below.bits) in
    let rest : List (List Bool) = flat_map (prefixes_by w) below.rest in
    let put = λ (ns : List (List Bool)) (n : List Bool). with_name n ns in
    let text : flat_map (prefixes_by w) leaves ≡ old ++ (name ∷ tail ++ rest) =
    ap (flat_map (prefixes_by w)) below.are
    ∙ ap (λ (m : List Bool). prefixes_by w m ++ rest) (append_assoc name (b ∷ bits) below.bits)
    ∙ ap (λ (l : List (List Bool)). l ++ rest) (prefixes_by-append w name b (bits ++ below.bits) ready.aligned.0)
    ∙ append_assoc old (name ∷ tail) rest in
    let rising : AreRising more = rising-push name names ready.rising ready.before.0 in
    let among : AllByRecursion (IsAmong more) (old ++ name ∷ []) =
    all-append (IsAmong more) old (name ∷ []) (all-weaken (IsAmong names) (IsAmong more) (λ n. among-push names name n) old ready.among.0) (among-last names name, tt) in
    let once : with_names names (old ++ (name ∷ tail ++ rest)) ≡ with_names more (tail ++ rest) =
    fold-append put names old (name ∷ tail ++ rest)
    ∙ ap (λ (ns : List (List Bool)). with_names ns (name ∷ tail ++ rest)) (with_names-among names old ready.rising ready.among.0)
    ∙ ap (λ (ns : List (List Bool)). with_names ns (tail ++ rest)) (with_name-last name names ready.before.0) in
    let again : with_names more (old ++ (name ∷ tail ++ rest)) ≡ with_names more (tail ++ rest) =
    ap (with_names more) (sym (append_assoc old (name ∷ []) (tail ++ rest)))
    ∙ fold-append put more (old ++ name ∷ []) (tail ++ rest)
    ∙ ap (λ (ns : List (List Bool)). with_names ns (tail ++ rest)) (with_names-among more (old ++ name ∷ []) rising among) in
    ap (with_names names) text ∙ once ∙ sym again ∙ sym (ap (with_names more) text)

-- In order, the prefixes of the leaves are the names that were split.
ordered : (w : ℕ) → IsWidth w → (roots leaves inner : List (List Bool)) → Forest w roots leaves inner → (names : List (List Bool)) → IsReady w names roots
    → with_names names (flat_map (prefixes_by w) leaves) ≡ names ++ inner
ordered w width _ _ _ none names ready = sym (append-nil names)
ordered w width _ _ _ (leaf n roots leaves inner f) names ready =
    fold-append (λ (ns : List (List Bool)) (m : List Bool). with_name m ns) names (prefixes_by w n) (flat_map (prefixes_by w) leaves)
    ∙ ap (λ (ns : List (List Bool)). with_names ns (flat_map (prefixes_by w) leaves)) (with_names-among names (prefixes_by w n) ready.rising ready.among.0)
    ∙ ordered w width roots leaves inner f names (ready-leaf w names n roots ready)
ordered w width _ _ _ (split n roots leaves inner f) names ready =
    let (bits, below, long) = leads-split w width n roots leaves inner f in
    put-split w width names n roots leaves ready bits long below
    ∙ ordered w width (children w n ++ roots) leaves inner f (names ++ n ∷ []) (ready-split w width names n roots ready)
    ∙ append_assoc names (n ∷ []) inner

module _ (w : ℕ) (width : IsWidth w) (leaves : List (List Bool)) where
  zero_aligned : is_aligned w [] ≡ true
  zero_aligned = elim width [
    | inl one ↦ subst (λ v. is_aligned v [] ≡ true) (sym one) refl
    | inr both ↦ subst (λ v. is_aligned v [] ≡ true) (sym both) refl
  ]

  pub inner_names-forest : (inner : List (List Bool)) → Forest w ([] ∷ []) leaves inner → inner_names w leaves ≡ inner
  inner_names-forest inner f =
      ordered w width ([] ∷ []) leaves inner f [] (record { rising = tt; before = (tt, tt); parted = (tt, tt); among = (tt, tt); aligned = (zero_aligned, tt) })

  -- The inner names, from leaf to leaf.
  pub inner_names-walked : ComesBySplits w leaves → AreShort leaves → inner_names w leaves ≡ all_new_names w leaves
  inner_names-walked by short =
      let (inner, f) = forest_of w leaves by in
      inner_names-forest inner f ∙ sym (walked w width ([] ∷ []) leaves inner f (zero_aligned, tt) tt short)
