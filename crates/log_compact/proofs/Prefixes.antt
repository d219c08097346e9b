-- The prefixes of a name, and of its extensions.
use Rattle.std.proofs.Common.{◌≡◌, inl, inr, ℕ, zero, suc, ◌+◌, ◌%◌, ◌<◌, ◌≤◌, Bool, true, false, ◌&&◌, ◌==◌, List, [], ◌∷◌, ◌++◌, length, map, cond, refl, sym, ◌∙◌, ap, subst, arith, length-append}
use Rattle.std.proofs.lemmas.List.{append-nil, map-append, map-id}
use Rattle.std.proofs.lemmas.List.Elements.{filter-append}
use Rattle.std.proofs.lemmas.Bool.{ne_eqb, eq-eqb, eqb-true}
use Rattle.std.specs.List.{AllByRecursion, filter}
use Rattle.zorder.specs.Bits.{high_number}
use Rattle.zorder.specs.Name.{first_key}
use Rattle.log_compact.specs.Fresh.{proper_prefixes, prefixes_by}
use Rattle.log_compact.specs.Walk.{new_names}
use Rattle.log_compact.proofs.Order.{all-append}
use Rattle.zorder.specs.Width.{IsWidth}
use Rattle.log_compact.proofs.Forest.{IsChild}

under_both : (a : Bool) (name : List Bool) (names : List (List Bool)) → map (λ p. a ∷ p) (map (λ p. name ++ p) names) ≡ map (λ p. (a ∷ name) ++ p) names
under_both a name [] = refl
under_both a name (n ∷ names) = ap (λ (l : List (List Bool)). (a ∷ (name ++ n)) ∷ l) (under_both a name names)

-- The prefixes of an extension of a name.
pub proper_prefixes-append : (name more : List Bool) → proper_prefixes (name ++ more) ≡ proper_prefixes name ++ map (λ p. name ++ p) (proper_prefixes more)
proper_prefixes-append [] more = sym (map-id (proper_prefixes more))
proper_prefixes-append (a ∷ name) more = ap (λ (l : List (List Bool)). [] ∷ l) (
    ap (map (λ (p : List Bool). a ∷ p)) (proper_prefixes-append name more)
    ∙ map-append (λ (p : List Bool). a ∷ p) (proper_prefixes name) (map (λ p. name ++ p) (proper_prefixes more))
    ∙ ap (λ (l : List (List Bool)). map (λ p. a ∷ p) (proper_prefixes name) ++ l) (under_both a name (proper_prefixes more))
    )

-- Whether a name may be split by `w` bits.
abbrev pub is_aligned : ℕ → List Bool → Bool
is_aligned w name = length name % w == 0

-- The prefixes of an extension that are longer than the name.
abbrev pub later_prefixes : ℕ → List Bool → Bool → List Bool → List (List Bool)
later_prefixes w name b more = filter (is_aligned w) (map (λ p. name ++ p) (map (λ p. b ∷ p) (proper_prefixes more)))

pub prefixes_by-append : (w : ℕ) (name : List Bool) (b : Bool) (more : List Bool) → is_aligned w name ≡ true
    → prefixes_by w (name ++ b ∷ more) ≡ prefixes_by w name ++ name ∷ later_prefixes w name b more
prefixes_by-append w name b more aligned =
    let behind : List (List Bool) = map (λ p. name ++ p) (map (λ p. b ∷ p) (proper_prefixes more)) in
    ap (filter (is_aligned w)) (proper_prefixes-append name (b ∷ more))
    ∙ filter-append (is_aligned w) (proper_prefixes name) ((name ++ []) ∷ behind)
    ∙ ap (λ (n : List Bool). prefixes_by w name ++ filter (is_aligned w) (n ∷ behind)) (append-nil name)
    ∙ ap (λ t. prefixes_by w name ++ cond t (name ∷ filter (is_aligned w) behind) (filter (is_aligned w) behind)) aligned

-- No name between a name and its child may be split.
later-none : (w : ℕ) → IsWidth w → (name : List Bool) (b : Bool) (more : List Bool) → is_aligned w name ≡ true → length (b ∷ more) ≡ w → later_prefixes w name b more ≡ []
later-none w width name b [] aligned long = refl
later-none w (inl one) name b (c ∷ more) aligned long = absurd (omega arith)
later-none w (inr both) name b (c ∷ d ∷ more) aligned long = absurd (omega arith)
later-none w (inr both) name b (c ∷ []) aligned long =
    let even : length name % 2 ≡ 0 = subst (λ v. length name % v ≡ 0) both (eqb-true (length name % w) 0 aligned) in
    let odd : (length (name ++ b ∷ []) % w == 0) ≡ false = subst (λ v. (length (name ++ b ∷ []) % v == 0) ≡ false) (sym both)
    (ne_eqb (length (name ++ b ∷ []) % 2) 0 (λ e. absurd (omega (arith, e, length-append name (b ∷ []), even)))) in
    ap (λ t. cond t ((name ++ b ∷ []) ∷ []) []) odd

-- The prefixes of a child: those of the name, and the name.
pub prefixes_by-child : (w : ℕ) → IsWidth w → (name child : List Bool) → is_aligned w name ≡ true → IsChild w name child → prefixes_by w child ≡ prefixes_by w name ++ name ∷ []
prefixes_by-child w width name child aligned c = of c.bits c.is c.long
  where
    of : (bits : List Bool) → child ≡ name ++ bits → length bits ≡ w → prefixes_by w child ≡ prefixes_by w name ++ name ∷ []
    of [] is long = elim width [ inl one ↦ absurd (omega arith) | inr both ↦ absurd (omega arith) ]
    of (b ∷ more) is long =
        ap (prefixes_by w) is ∙ prefixes_by-append w name b more aligned
        ∙ ap (λ (l : List (List Bool)). prefixes_by w name ++ name ∷ l) (later-none w width name b more aligned long)

-- A child of a name that may be split may be split.
pub aligned-child : (w : ℕ) → IsWidth w → (name child : List Bool) → is_aligned w name ≡ true → IsChild w name child → is_aligned w child ≡ true
aligned-child w width name child aligned c =
    let long : length child ≡ length name + w = ap length c.is ∙ length-append name c.bits ∙ ap (λ n. length name + n) c.long in
    let at : length name % w ≡ 0 = eqb-true (length name % w) 0 aligned in
    eq-eqb (length child % w) 0 (elim width [
      | inl one ↦ let a : length child % 1 ≡ 0 = omega arith in subst (λ v. length child % v ≡ 0) (sym one) a
      | inr both ↦ let a : length name % 2 ≡ 0 = subst (λ v. length name % v ≡ 0) both at in
          let b : length child % 2 ≡ 0 = omega (arith, a, long, both) in subst (λ v. length child % v ≡ 0) (sym both) b
    ])

-- The number of a prefix is at most that of the name.
all-map : (P Q : List Bool → Type 0) (f : List Bool → List Bool) → ((x : List Bool) → P x → Q (f x)) → (xs : List (List Bool)) → AllByRecursion P xs → AllByRecursion Q (map f xs)
all-map P Q f g [] all = tt
all-map P Q f g (x ∷ xs) all = (g x all.0, all-map P Q f g xs all.1)

all_of : (P : List Bool → Type 0) → ((x : List Bool) → P x) → (xs : List (List Bool)) → AllByRecursion P xs
all_of P f [] = tt
all_of P f (x ∷ xs) = (f x, all_of P f xs)

prefix-le : (v : ℕ) (name : List Bool) → AllByRecursion (λ p. high_number v p ≤ high_number v name) (proper_prefixes name)
prefix-le zero name = all_of (λ p. high_number zero p ≤ high_number zero name) (λ x. omega arith) (proper_prefixes name)
prefix-le (suc i) [] = tt
prefix-le (suc i) (a ∷ name) = (
  omega arith,
  all-map (λ p. high_number i p ≤ high_number i name) (λ p. high_number (suc i) p ≤ high_number (suc i) (a ∷ name)) (λ p. a ∷ p)
      (λ x le. omega (arith, le)) (proper_prefixes name) (prefix-le i name),
)

all-filter : (P : List Bool → Type 0) (p : List Bool → Bool) (xs : List (List Bool)) → AllByRecursion P xs → AllByRecursion P (filter p xs)
all-filter P p [] all = tt
all-filter P p (x ∷ xs) all = by_test (p x) (all-filter P p xs all.1)
  where
    by_test : (b : Bool) → AllByRecursion P (filter p xs) → AllByRecursion P (cond b (x ∷ filter p xs) (filter p xs))
    by_test true rest = (all.0, rest)
    by_test false rest = rest

none_kept : (p : List Bool → Bool) (xs : List (List Bool)) → AllByRecursion (λ x. p x ≡ false) xs → filter p xs ≡ []
none_kept p [] none = refl
none_kept p (x ∷ xs) none = (λ i. cond (none.0 i) (x ∷ filter p xs) (filter p xs)) ∙ none_kept p xs none.1

both_kept : (p q : List Bool → Bool) (xs : List (List Bool)) → filter (λ x. p x && q x) xs ≡ filter q (filter p xs)
both_kept p q [] = refl
both_kept p q (x ∷ xs) = by_test (p x) (both_kept p q xs)
  where
    by_test : (b : Bool) → filter (λ x. p x && q x) xs ≡ filter q (filter p xs)
        → cond (b && q x) (x ∷ filter (λ x. p x && q x) xs) (filter (λ x. p x && q x) xs) ≡ filter q (cond b (x ∷ filter p xs) (filter p xs))
    by_test true rest = ap (λ (l : List (List Bool)). cond (q x) (x ∷ l) l) rest
    by_test false rest = rest

abbrev has_key : ℕ → List Bool → Bool
has_key k name = first_key name == k

-- The names whose first leaf this is: the prefixes with its first key.
new_names-prefixes : (w : ℕ) (leaf : List Bool) → new_names w leaf ≡ filter (has_key (first_key leaf)) (prefixes_by w leaf)
new_names-prefixes w leaf = both_kept (is_aligned w) (has_key (first_key leaf)) (proper_prefixes leaf)

prefixes-le : (w : ℕ) (name : List Bool) → AllByRecursion (λ p. first_key p ≤ first_key name) (prefixes_by w name)
unfolding first_key
prefixes-le w name = all-filter (λ p. high_number 64 p ≤ high_number 64 name) (is_aligned w) (proper_prefixes name) (prefix-le 64 name)

above_none : (k least : ℕ) → least < k → (names : List (List Bool)) → AllByRecursion (λ p. first_key p ≤ least) names → AllByRecursion (λ p. has_key k p ≡ false) names
above_none k least lt [] all = tt
above_none k least lt (n ∷ names) all = (ne_eqb (first_key n) k (λ e. absurd (omega (arith, e, lt, all.0))), above_none k least lt names all.1)

module _ (w : ℕ) (width : IsWidth w) (name child : List Bool) (aligned : is_aligned w name ≡ true) (c : IsChild w name child) where
  -- The new names at the first child of a name: those at the name, and the name.
  pub new_names-first : first_key child ≡ first_key name → new_names w child ≡ new_names w name ++ name ∷ []
  new_names-first same =
      new_names-prefixes w child
      ∙ ap (filter (has_key (first_key child))) (prefixes_by-child w width name child aligned c)
      ∙ ap (λ k. filter (has_key k) (prefixes_by w name ++ name ∷ [])) same
      ∙ filter-append (has_key (first_key name)) (prefixes_by w name) (name ∷ [])
      ∙ (λ i. sym (new_names-prefixes w name) i ++ cond (eq-eqb (first_key name) (first_key name) refl i) (name ∷ []) [])

  -- At another child nothing is new.
  pub new_names-other : first_key name < first_key child → new_names w child ≡ []
  new_names-other above =
      let k : ℕ = first_key child in
      let none : AllByRecursion (λ p. has_key k p ≡ false) (prefixes_by w name ++ name ∷ []) =
      all-append (λ p. has_key k p ≡ false) (prefixes_by w name) (name ∷ []) (above_none k (first_key name) above (prefixes_by w name) (prefixes-le w name))
      (ne_eqb (first_key name) k (λ e. absurd (omega (arith, e, above))), tt) in
      new_names-prefixes w child
      ∙ ap (filter (has_key k)) (prefixes_by-child w width name child aligned c)
      ∙ none_kept (has_key k) (prefixes_by w name ++ name ∷ []) none
