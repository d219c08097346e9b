-- How often queries open a bucket, by the names of the leaves.
use Rattle.std.proofs.Common.{◌≡◌, ℕ, ◌+◌, ◌<◌, ◌≤◌, Bool, true, false, cond, List, [], ◌∷◌, length, Option, Some, None, Ok, Err, Result, refl, sym, ap, ◌∙◌, arith}
use Rattle.std.specs.Prelude.{nat_le, IfOk, IfErr, IfSome, IsErr}
use Rattle.std.specs.List.{count_by}
use Rattle.std.proofs.lemmas.List.{length-map}
use Rattle.std.proofs.lemmas.List.Sums.{sum_by-cons}
use Rattle.zorder.specs.declared.points.Point.{Point}
use Rattle.zorder.specs.declared.points.Placed.{Placed}
use Rattle.zorder.specs.declared.points.Region.{Region}
use Rattle.plain_list.specs.declared.ops.Op.{Op}
use Rattle.plain_list.specs.declared.ops.Op.TheVariants.{Put, Move, Remove, Find, Within, Near}
use Rattle.plain_list.specs.declared.ops.Answer.{Answer}
use Rattle.plain_list.specs.declared.ops.Answer.TheVariants.{Found}
use Rattle.index_layer.specs.Leaves.{Leaf, names_of}
use Rattle.table_share.specs.Subtree.{leaves_of}
use Rattle.range_query.specs.Cut.{is_met, leaves_met}
use Rattle.range_query.specs.Listing.{OnFound}
use Rattle.knn_query.specs.Ahead.{least_to, reach_of, OpensNear}
use Rattle.commit_book.specs.Answers.{IsUpdate}
use Rattle.sessions.specs.Opens.{listed_in, listed_by, number_met, number_within, OpensBox, OpensNearest, Opens, OpensRefused}
use Rattle.sessions.specs.declared.faults.CallFault.{CallFault}
use Rattle.sessions.specs.declared.faults.CallFault.TheVariants.{Closed, Disk, HistoryFull, LogFull, Memory}

-- the leaves that pass a test, by their names
count-names : (passes : List Bool → Bool) (leaves : List Leaf) → count_by passes (names_of leaves) ≡ length (leaves_of passes leaves)
count-names passes [] = refl
count-names passes (l ∷ leaves) = sum_by-cons (λ name. cond (passes name) 1 0) l.name (names_of leaves) ∙ by_test (passes l.name) (count-names passes leaves)
  where
    by_test : (b : Bool) → count_by passes (names_of leaves) ≡ length (leaves_of passes leaves) → cond b 1 0 + count_by passes (names_of leaves) ≡ length (cond b (l ∷ leaves_of passes leaves) (leaves_of passes leaves))
    by_test true same = omega (arith, same)
    by_test false same = omega (arith, same)

number-named : (passes : List Bool → Bool) (leaves : List Leaf) (names : List (List Bool)) → names_of leaves ≡ names → length (leaves_of passes leaves) ≡ count_by passes names
number-named passes leaves names are = sym (count-names passes leaves) ∙ ap (count_by passes) are

module _ (region : Region) (leaves : List Leaf) (names : List (List Bool)) (before now : ℕ) (are : names_of leaves ≡ names) where
  box-exact : (answer : Answer) → OnFound answer (now ≡ before + length (leaves_met region leaves)) → IfSome (listed_in answer) (λ ms. now ≡ before + number_met region names)
  box-exact (Found ms) is = is ∙ ap (λ n. before + n) (number-named (is_met region) leaves names are)
  box-exact _ is = tt

  box-listed : {E : Type 0} (result : Result Answer E) → IfOk result (λ answer. OnFound answer (now ≡ before + length (leaves_met region leaves))) → IfSome (listed_by (λ answer. answer) result) (λ ms. now ≡ before + number_met region names)
  box-listed (Ok answer) is = box-exact answer is
  box-listed (Err fault) is = tt

  pub box-opens : {E : Type 0} (result : Result Answer E) → now ≤ before + length (leaves_met region leaves) → IfOk result (λ answer. OnFound answer (now ≡ before + length (leaves_met region leaves)))
      → OpensBox region names (listed_by (λ answer. answer) result) before now
  box-opens result most exact = record {
    most = omega (arith, most, number-named (is_met region) leaves names are);
    exact = box-listed result exact;
  }

module _ (p : Point) (k : ℕ) (leaves : List Leaf) (names : List (List Bool)) (places : List Placed) (before now : ℕ) (are : names_of leaves ≡ names) (most : now ≤ before + length leaves) (near : OpensNear p k leaves before now places) where
  within-near : (d : Placed) → k ≤ length places → now ≤ before + number_within p (reach_of p k places d) names
  within-near d many = omega (arith, near d many, number-named (λ name. nat_le (least_to p name) (reach_of p k places d)) leaves names are)

  pub near-opens : (ms : List Placed) → (0 < length ms → before < now) → OpensNearest p k names places (Some ms) before now
  near-opens ms some = record { most = omega (arith, most, length-map leaves (λ (l : Leaf). l.name), ap length are); near = within-near; some = some }

  pub near-fails : {E : Type 0} (result : Result Answer E) → IsErr result → OpensNearest p k names places (listed_by (λ answer. answer) result) before now
  near-fails (Ok answer) is = absurd (cc is)
  near-fails (Err fault) is = record { most = omega (arith, most, length-map leaves (λ (l : Leaf). l.name), ap length are); near = within-near; some = tt }

-- a change or a find opens nothing
pub opens-still : (op : Op) (names : List (List Bool)) (places : List Placed) (listed : Option (List Placed)) (steps : ℕ) → IsUpdate op → Opens op names places listed steps steps
opens-still (Put id at moment) names places listed steps update = refl
opens-still (Move id at moment) names places listed steps update = refl
opens-still (Remove id) names places listed steps update = refl
opens-still (Find id) names places listed steps update = refl
opens-still (Within region) names places listed steps update = absurd update
opens-still (Near at k) names places listed steps update = absurd update

-- a call that was refused opens nothing
pub opens-none : (op : Op) (names : List (List Bool)) (places : List Placed) (steps : ℕ) → Opens op names places None steps steps
opens-none (Put id at moment) names places steps = refl
opens-none (Move id at moment) names places steps = refl
opens-none (Remove id) names places steps = refl
opens-none (Find id) names places steps = refl
opens-none (Within region) names places steps = record { most = omega arith; exact = tt }
opens-none (Near at k) names places steps = record { most = omega arith; near = λ d many. omega arith; some = tt }

pub refused-still : (fault : CallFault) (steps : ℕ) → OpensRefused fault steps steps
refused-still (Closed cell) steps = refl
refused-still (Disk cell) steps = refl
refused-still HistoryFull steps = refl
refused-still LogFull steps = refl
refused-still (Memory None) steps = refl
refused-still (Memory (Some place)) steps = tt

pub result-still : {A : Type 0} (result : Result A CallFault) (steps : ℕ) → IfErr result (λ fault. OpensRefused fault steps steps)
result-still (Ok value) steps = tt
result-still (Err fault) steps = refused-still fault steps
