-- What is found in a box so far, as leaves and rows are passed.
use Rattle.std.proofs.Common.{◌≡◌, ℕ, ◌+◌, ◌<◌, ◌≤◌, ◌^◌, true, false, cond, List, [], ◌∷◌, ◌++◌, length, sym, ap, ◌∙◌, arith, length-append, append_assoc, Result, Ok, Err, OnOk}
use Rattle.std.specs.Prelude.{nat_le}
use Rattle.std.specs.List.Sorted.{IsPermutation}
use Rattle.std.proofs.lemmas.List.{append-nil, nil_from_length}
use Rattle.std.proofs.lemmas.List.Sorted.{length_permutation}
use Rattle.std.proofs.lemmas.Bool.Decides.{nat_tests}
use Rattle.zorder.specs.declared.points.Placed.{Placed}
use Rattle.zorder.specs.declared.points.Region.{Region}
use Rattle.zorder.specs.Region.{has_point}
use Rattle.bucket_versions.specs.declared.row.Row.{Row}
use Rattle.plain_list.specs.declared.ops.Answer.TheVariants.{Found, Many}
use Rattle.plain_list.specs.Queries.{members_in, most_listed, listed}
use Rattle.table_share.specs.Objects.{placed_of, objects_of}
use Rattle.range_query.specs.Cut.{number_in}
use Rattle.range_query.specs.Listing.{IsListing}
use Rattle.range_query.specs.declared.found.Listing.{Listing}

-- where a result is Ok, what follows from what holds then
pub on_ok : {T E A B : Type 0} (r : Result T E) → (A → B) → OnOk r A → OnOk r B
on_ok (Ok x) f a = f a
on_ok (Err e) f a = tt

-- the objects that rows that are gone stand for, where these are left
pub record Passed (region : Region) (ms : List Placed) (all left : List Row) (listing : Listing) : Type 0 where
  pub done : List Placed
  pub is : IsListing done listing
  pub rest : done ++ members_in region (objects_of left) ≡ ms ++ members_in region (objects_of all)

module _ (region : Region) (ms : List Placed) (all rows left : List Row) (r : Row) (listing : Listing) (first : rows ≡ r ∷ left) (there : has_point region (placed_of r).at ≡ true) (p : Passed region ms all rows listing) where
  next : (p.done ++ placed_of r ∷ []) ++ members_in region (objects_of left) ≡ ms ++ members_in region (objects_of all)
  next =
      append_assoc p.done (placed_of r ∷ []) (members_in region (objects_of left))
      ∙ ap (λ b. p.done ++ cond b (placed_of r ∷ members_in region (objects_of left)) (members_in region (objects_of left))) (sym there)
      ∙ ap (λ (rs : List Row). p.done ++ members_in region (objects_of rs)) (sym first) ∙ p.rest

  pub passed-fits : length ms + number_in region all < 2 ^ 64 → length p.done + 1 < 2 ^ 64
  passed-fits fits = by_length
    where
      long : length p.done + 1 + length (members_in region (objects_of left)) ≡ length ms + number_in region all
      long = omega (
        arith,
        ap length next,
        length-append (p.done ++ placed_of r ∷ []) (members_in region (objects_of left)),
        length-append p.done (placed_of r ∷ []),
        length-append ms (members_in region (objects_of all)),
      )

      by_length : length p.done + 1 < 2 ^ 64
      by_length = omega (arith, long, fits)

  pub passed-in : (new : Listing) → (IsListing p.done listing → IsListing (p.done ++ placed_of r ∷ []) new) → Passed region ms all left new
  passed-in new add = record { done = p.done ++ placed_of r ∷ []; is = add p.is; rest = next }

-- a row that is passed over
pub passed-by : (region : Region) (ms : List Placed) (all rows left : List Row) (r : Row) (listing : Listing) → rows ≡ r ∷ left → has_point region (placed_of r).at ≡ false → Passed region ms all rows listing
    → Passed region ms all left listing
passed-by region ms all rows left r listing first away p = record {
  done = p.done;
  is = p.is;
  rest = ap (λ b. p.done ++ cond b (placed_of r ∷ members_in region (objects_of left)) (members_in region (objects_of left))) (sym away)
      ∙ ap (λ (rs : List Row). p.done ++ members_in region (objects_of rs)) (sym first) ∙ p.rest;
}

-- objects that are only counted, where no more can be listed
pub counted-on : (ms more : List Placed) (old new : Listing) → new.list.items ≡ old.list.items → most_listed ≤ old.count → new.count ≡ old.count + length more → IsListing ms old → IsListing (ms ++ more) new
counted-on ms more old new same full count is = record {
  count = omega (arith, count, is.count, length-append ms more);
  items = λ few.
      let none : more ≡ [] = nil_from_length more (omega (arith, few, full, is.count, length-append ms more)) in
      same ∙ is.items (omega (arith, few, length-append ms more)) ∙ sym (append-nil ms) ∙ ap (λ xs. ms ++ xs) (sym none);
  few = omega (arith, is.few, ap length same);
}

-- the answer that a list of the objects is
pub listed-many : (ms found : List Placed) (n : ℕ) → IsPermutation ms found → n ≡ length found → most_listed < n → Many n ≡ listed ms
listed-many ms found n moved is many =
    let long : length ms ≡ n = omega (arith, is, length_permutation ms found moved) in
    let no : nat_le (length ms) most_listed ≡ false = grind (arith, nat_tests) in
    ap Many (sym long) ∙ ap (λ b. cond b (Found ms) (Many (length ms))) (sym no)

pub listed-found : (ms found list : List Placed) (n : ℕ) → IsPermutation ms found → n ≡ length found → n ≤ most_listed → list ≡ ms → Found list ≡ listed ms
listed-found ms found list n moved is few same =
    let long : length ms ≡ n = omega (arith, is, length_permutation ms found moved) in
    let yes : nat_le (length ms) most_listed ≡ true = grind (arith, nat_tests) in
    ap Found same ∙ ap (λ b. cond b (Found ms) (Many (length ms))) (sym yes)
