-- Rows of one key, of which one comes too late.
use Rattle.std.proofs.Common.{◌≡◌, ◌==◌, ◌&&◌, ◌||◌, ℕ, ◌<◌, ◌≤◌, Bool, true, false, cond, List, [], ◌∷◌, ◌++◌, refl, sym, ap, subst, ◌∙◌, arith}
use Rattle.std.specs.Prelude.{nat_lt, IsTrue}
use Rattle.std.specs.List.{All, filter}
use Rattle.std.specs.BinaryHeap.{heap_items}
use Rattle.std.proofs.lemmas.Bool.Decides.{nat_tests}
use Rattle.std.proofs.lemmas.List.{length-map}
use Rattle.zorder.specs.declared.points.Point.{Point}
use Rattle.zorder.specs.declared.points.Placed.{Placed}
use Rattle.zorder.specs.Distance.{distance}
use Rattle.zorder.specs.Key.{point_of}
use Rattle.bucket_versions.specs.declared.row.Row.{Row}
use Rattle.bucket_versions.specs.Rows.{is_below, IsAbove, IsRows}
use Rattle.plain_list.specs.Queries.{is_before}
use Rattle.plain_list.specs.AtPlaces.{AreOf}
use Rattle.table_share.specs.Objects.{placed_of, objects_of}
use Rattle.knn_query.specs.Candidates.{object_of}
use Rattle.knn_query.specs.Passes.{held, IsBeyond, Keeps}
use Rattle.knn_query.specs.declared.kept.Kept.{Kept}
use Rattle.knn_query.proofs.Cuts.{pass_skips}
use Rattle.knn_query.proofs.Passing.{back_of}

-- the rows with greater keys
abbrev pub past : ℕ → List Row → List Row
past key rows = filter (λ (s : Row). nat_lt key s.key) rows

-- a row above another one has its key and a greater id, or a greater key
above-key : (r s : Row) → IsTrue (is_below r s) → nat_lt r.key s.key ≡ false → (s.key ≡ r.key) × (r.id < s.id)
above-key r s above e = by_parts r.key r.id s.key s.id above e
  where
    by_parts : (k i l j : ℕ) → (nat_lt k l || ((k == l) && nat_lt i j)) ≡ true → nat_lt k l ≡ false → (l ≡ k) × (i < j)
    by_parts k i l j h e = (grind (arith, nat_tests), grind (arith, nat_tests))

above-lower : (r s : Row) → IsTrue (is_below r s) → r.key ≤ s.key
above-lower r s above = by_parts r.key r.id s.key s.id above
  where
    by_parts : (k i l j : ℕ) → (nat_lt k l || ((k == l) && nat_lt i j)) ≡ true → k ≤ l
    by_parts k i l j h = grind (arith, nat_tests)

-- all rows above one with a greater key have greater ones
past-all : (key : ℕ) (r : Row) (rows : List Row) → key < r.key → IsAbove r rows → past key rows ≡ rows
past-all key r [] lt above = refl
past-all key r (s ∷ rows) lt above =
    (λ i. cond (here i) (s ∷ past key rows) (past key rows)) ∙ ap (λ (rs : List Row). s ∷ rs) (past-all key r rows lt above.1)
  where
    here : nat_lt key s.key ≡ true
    here = let le : r.key ≤ s.key = above-lower r s above.0 in grind (arith, nat_tests)

-- what comes at the same point with a greater id comes too late as well
later-beyond : (kept : Kept) (r s : Row) → s.key ≡ r.key → r.id < s.id → IsBeyond kept (placed_of r) → IsBeyond kept (placed_of s)
later-beyond kept r s same later beyond = record {
  full = beyond.full;
  behind = λ i d lt. by_parts (distance (point_of r.key) kept.from) (distance (point_of s.key) kept.from) r.id s.id _ _ (ap (λ k. distance (point_of k) kept.from) same) later (beyond.behind i d lt);
}
  where
    by_parts : (d f i j e k : ℕ) → f ≡ d → i < j → (nat_lt d e || ((d == e) && nat_lt i k)) ≡ false → (nat_lt f e || ((f == e) && nat_lt j k)) ≡ false
    by_parts d f i j e k same less h = grind (arith, nat_tests)

-- so those with its key are passed over
pub past-passes : (p : Point) (k : ℕ) (places rest : List Placed) (kept : Kept) (r : Row) (rows : List Row) → kept.from ≡ p → kept.k ≡ k → IsBeyond kept (placed_of r) → IsAbove r rows → IsRows rows
    → AreOf places (objects_of rows) × Keeps p k places (objects_of rows ++ rest) kept → AreOf places (objects_of (past r.key rows)) × Keeps p k places (objects_of (past r.key rows) ++ rest) kept
past-passes p k places rest kept r [] from_is k_is beyond above rising both = both
past-passes p k places rest kept r (s ∷ rows) from_is k_is beyond above rising both = by_test (nat_lt r.key s.key) refl (past-passes p k places rest kept r rows from_is k_is beyond above.1 rising.1)
  where
    Both : List Row → Type 0
    Both rs = AreOf places (objects_of rs) × Keeps p k places (objects_of rs ++ rest) kept

    by_test : (b : Bool) → nat_lt r.key s.key ≡ b → (Both rows → Both (past r.key rows)) → Both (cond b (s ∷ past r.key rows) (past r.key rows))
    by_test true e later = subst Both (ap (λ (rs : List Row). s ∷ rs) (sym (past-all r.key s rows (grind (arith, nat_tests)) rising.0))) both
    by_test false e later =
        let same = above-key r s above.0 e in
        let late = later-beyond kept r s same.0 same.1 beyond in
        let behind : All (λ (n : Placed). is_before p (placed_of s) n ≡ false) (held kept) = subst (λ q. All (λ (n : Placed). is_before q (placed_of s) n ≡ false) (held kept)) from_is late.behind in
        later (
          back_of places (placed_of s ∷ []) (objects_of rows) both.0,
          pass_skips p k places (placed_of s) (objects_of rows ++ rest) (held kept) both.1 (omega (arith, late.full, k_is, length-map (heap_items kept.heap) object_of)) behind,
        )
