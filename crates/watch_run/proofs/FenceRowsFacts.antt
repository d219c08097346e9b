-- Fences that were read one after the other.
use Rattle.std.proofs.Common.{◌≡◌, ◌≢◌, ◌<◌, ◌==◌, ◌||◌, ◌+◌, ℕ, Bool, true, false, cond, List, [], ◌∷◌, ◌++◌, length, Option, Some, None, Ok, Err, refl, sym, subst, arith, length-append}
use Rattle.csv.specs.Records.{field_at}
use Rattle.csv_rows.specs.declared.columns.Rule.{Rule}
use Rattle.csv_rows.specs.declared.columns.Rule.TheVariants.{Between}
use Rattle.csv_rows.specs.declared.rows.Wrong.TheVariants.{Column}
use Rattle.csv_rows.specs.Columns.{keeps, number, coordinate_rule, id_rule}
use Rattle.csv_rows.specs.Fields.{first_fault, unless}
use Rattle.csv_rows.proofs.NumbersFacts.{is_between-bounds}
use Rattle.csv_rows.proofs.TablesFacts.{table-keeps}
use Rattle.fence_watch.specs.declared.fences.Fence.{Fence}
use Rattle.fence_watch.specs.Fences.{AreFences, has_fence}
use Rattle.fence_watch.proofs.MoreFences.{IsNew, fence-more}
use Rattle.watch_run.specs.FenceRows.{corner_rules, fence_at, fence_of, fence_table, fences_of_text}

-- A record of five fields has only the fields at these five places.
pub five_fields : (fields : List (List ℕ)) (a b c d e : List ℕ) → length fields ≡ 5 → field_at fields 0 ≡ Some a → field_at fields 1 ≡ Some b → field_at fields 2 ≡ Some c → field_at fields 3 ≡ Some d → field_at fields 4 ≡ Some e
    → fields ≡ a ∷ b ∷ c ∷ d ∷ e ∷ []
unfolding field_at
five_fields (z0 ∷ z1 ∷ z2 ∷ z3 ∷ z4 ∷ []) a b c d e n h0 h1 h2 h3 h4 = cc
five_fields [] a b c d e n h0 h1 h2 h3 h4 = cc h0
five_fields (z0 ∷ []) a b c d e n h0 h1 h2 h3 h4 = cc h1
five_fields (z0 ∷ z1 ∷ []) a b c d e n h0 h1 h2 h3 h4 = cc h2
five_fields (z0 ∷ z1 ∷ z2 ∷ []) a b c d e n h0 h1 h2 h3 h4 = cc h3
five_fields (z0 ∷ z1 ∷ z2 ∷ z3 ∷ []) a b c d e n h0 h1 h2 h3 h4 = cc h4
five_fields (z0 ∷ z1 ∷ z2 ∷ z3 ∷ z4 ∷ z5 ∷ fields) a b c d e n h0 h1 h2 h3 h4 = absurd (omega arith)

-- A value comes only if no column is faulty.
unless-none : (o : Option ℕ) (value v : Fence) → unless o value ≡ Ok v → (o ≡ None) × (v ≡ value)
unless-none None value v e = let same : value ≡ v = cc e in (refl, sym same)
unless-none (Some column) value v e = cc e

-- The first column and those after it.
no-fault : (column : ℕ) (rule : Rule) (rules : List Rule) (field : List ℕ) (fields : List (List ℕ)) → first_fault column (rule ∷ rules) (field ∷ fields) ≡ None → (keeps rule field ≡ true) × (first_fault (column + 1) rules fields ≡ None)
no-fault column rule rules field fields e = by_test (keeps rule field) e
  where
    by_test : (b : Bool) → cond b (first_fault (column + 1) rules fields) (Some column) ≡ None → (b ≡ true) × (first_fault (column + 1) rules fields ≡ None)
    by_test true is = (refl, is)
    by_test false is = cc is

fence-at : (earlier : List Fence) (id : ℕ) (x y a b : List ℕ) (f : Fence) → id < 18446744073709551616 → has_fence id earlier ≡ false → fence_at id x y a b ≡ Ok f → IsNew earlier f
fence-at earlier id x y a b f fits new e =
    let came = unless-none (first_fault 2 (corner_rules (number x) (number y)) (x ∷ y ∷ a ∷ b ∷ [])) _ f e in
    let least_x : Rule = Between (number x) 4294967295 in
    let least_y : Rule = Between (number y) 4294967295 in
    let at_x = no-fault 2 coordinate_rule (coordinate_rule ∷ least_x ∷ least_y ∷ []) x (y ∷ a ∷ b ∷ []) came.0 in
    let at_y = no-fault 3 coordinate_rule (least_x ∷ least_y ∷ []) y (a ∷ b ∷ []) at_x.1 in
    let at_a = no-fault 4 least_x (least_y ∷ []) a (b ∷ []) at_y.1 in
    let at_b = no-fault 5 least_y [] b [] at_a.1 in
    let in_x = is_between-bounds 0 4294967295 x at_x.0 in
    let in_y = is_between-bounds 0 4294967295 y at_y.0 in
    let in_a = is_between-bounds (number x) 4294967295 a at_a.0 in
    let in_b = is_between-bounds (number y) 4294967295 b at_b.0 in
    subst (λ (g : Fence). IsNew earlier g) (sym came.1)
    (record {
      fence = record {
        id = fits;
        box = record { x = in_a.0; y = in_b.0 };
        lo = record { x = omega (arith, in_x.1); y = omega (arith, in_y.1) };
        hi = record { x = omega (arith, in_a.1); y = omega (arith, in_b.1) };
      };
      other = new;
    })

-- The fence of a record has an id of its own.
pub fence-new : (earlier : List Fence) (fields : List (List ℕ)) (f : Fence) → fence_of earlier fields ≡ Ok f → IsNew earlier f
fence-new earlier (id ∷ x ∷ y ∷ a ∷ b ∷ []) f e = by_id (keeps id_rule id) refl e
  where
    by_other : (t : Bool) → number id < 18446744073709551616 → has_fence (number id) earlier ≡ t → cond t (Err (Column 1)) (fence_at (number id) x y a b) ≡ Ok f → IsNew earlier f
    by_other true fits there is = cc is
    by_other false fits new is = fence-at earlier (number id) x y a b f fits new is

    by_id : (t : Bool) → keeps id_rule id ≡ t → cond t (cond (has_fence (number id) earlier) (Err (Column 1)) (fence_at (number id) x y a b)) (Err (Column 1)) ≡ Ok f → IsNew earlier f
    by_id true kept is = by_other (has_fence (number id) earlier) (omega (arith, (is_between-bounds 0 18446744073709551615 id kept).1)) refl is
    by_id false kept is = cc is
fence-new earlier [] f e = cc e
fence-new earlier (a ∷ []) f e = cc e
fence-new earlier (a ∷ b ∷ []) f e = cc e
fence-new earlier (a ∷ b ∷ c ∷ []) f e = cc e
fence-new earlier (a ∷ b ∷ c ∷ d ∷ []) f e = cc e
fence-new earlier (a ∷ b ∷ c ∷ d ∷ g ∷ h ∷ fields) f e = cc e

fences-more : (fences : List Fence) (fields : List (List ℕ)) (f : Fence) → length fences < 256 → fence_of fences fields ≡ Ok f → AreFences fences → AreFences (fences ++ f ∷ [])
fences-more fences fields f few is good = fence-more fences f few (fence-new fences fields f is) good

-- The fences of a text keep the rules.
pub read-fences : (bytes : List ℕ) (fences : List Fence) → fences_of_text bytes ≡ Ok fences → AreFences fences
read-fences bytes fences is = table-keeps fence_table AreFences fences-more bytes fences (record { each = tt; distinct = tt; most = omega arith }) is
