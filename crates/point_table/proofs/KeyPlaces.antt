-- A name's place among names by first keys.
use Rattle.std.proofs.Common.{◌≡◌, suc, ◌≤◌, Bool, true, false, cond, List, [], ◌∷◌, length, refl, ap, arith}
use Rattle.std.specs.Prelude.{nat_lt, slice_set}
use Rattle.std.specs.List.{insert, remove}
use Rattle.std.proofs.lemmas.Bool.Decides.{nat_tests}
use Rattle.std.proofs.lemmas.Grind.{common_steps}
use Rattle.zorder.specs.Name.{first_key}
use Rattle.point_table.specs.Crowded.{marked, unmarked, key_place, has_key}

mark_step : (b : Bool) (name n : List Bool) (names : List (List Bool)) → nat_lt (first_key n) (first_key name) ≡ b
    → (has_key (key_place name names) (first_key name) names ≡ true → slice_set names (key_place name names) name ≡ marked name names)
    → has_key (cond b (suc (key_place name names)) 0) (first_key name) (n ∷ names) ≡ true → slice_set (n ∷ names) (cond b (suc (key_place name names)) 0) name ≡ marked name (n ∷ names)
mark_step true name n names e rest has =
    let later : n ∷ slice_set names (key_place name names) name ≡ n ∷ marked name names = ap (λ (l : List (List Bool)). n ∷ l) (rest has) in
    grind (arith, nat_tests, common_steps)
mark_step false name n names e rest has = grind (arith, nat_tests, common_steps)

pub set-key_place : (name : List Bool) (names : List (List Bool)) → has_key (key_place name names) (first_key name) names ≡ true → slice_set names (key_place name names) name ≡ marked name names
set-key_place name [] has = cc
set-key_place name (n ∷ names) has = mark_step (nat_lt (first_key n) (first_key name)) name n names refl (set-key_place name names) has

insert_step : (b : Bool) (name n : List Bool) (names : List (List Bool)) → nat_lt (first_key n) (first_key name) ≡ b
    → (has_key (key_place name names) (first_key name) names ≡ false → insert names (key_place name names) name ≡ marked name names)
    → has_key (cond b (suc (key_place name names)) 0) (first_key name) (n ∷ names) ≡ false → insert (n ∷ names) (cond b (suc (key_place name names)) 0) name ≡ marked name (n ∷ names)
insert_step true name n names e rest has =
    let later : n ∷ insert names (key_place name names) name ≡ n ∷ marked name names = ap (λ (l : List (List Bool)). n ∷ l) (rest has) in
    grind (arith, nat_tests, common_steps)
insert_step false name n names e rest has = grind (arith, nat_tests, common_steps)

pub insert-key_place : (name : List Bool) (names : List (List Bool)) → has_key (key_place name names) (first_key name) names ≡ false → insert names (key_place name names) name ≡ marked name names
insert-key_place name [] has = refl
insert-key_place name (n ∷ names) has = insert_step (nat_lt (first_key n) (first_key name)) name n names refl (insert-key_place name names) has

remove_step : (b : Bool) (name n : List Bool) (names : List (List Bool)) → nat_lt (first_key n) (first_key name) ≡ b
    → (has_key (key_place name names) (first_key name) names ≡ true → remove names (key_place name names) ≡ unmarked name names)
    → has_key (cond b (suc (key_place name names)) 0) (first_key name) (n ∷ names) ≡ true → remove (n ∷ names) (cond b (suc (key_place name names)) 0) ≡ unmarked name (n ∷ names)
remove_step true name n names e rest has =
    let later : n ∷ remove names (key_place name names) ≡ n ∷ unmarked name names = ap (λ (l : List (List Bool)). n ∷ l) (rest has) in
    grind (arith, nat_tests, common_steps)
remove_step false name n names e rest has = grind (arith, nat_tests, common_steps)

pub remove-key_place : (name : List Bool) (names : List (List Bool)) → has_key (key_place name names) (first_key name) names ≡ true → remove names (key_place name names) ≡ unmarked name names
remove-key_place name [] has = cc
remove-key_place name (n ∷ names) has = remove_step (nat_lt (first_key n) (first_key name)) name n names refl (remove-key_place name names) has

keep_step : (b : Bool) (name n : List Bool) (names : List (List Bool)) → nat_lt (first_key n) (first_key name) ≡ b
    → (has_key (key_place name names) (first_key name) names ≡ false → names ≡ unmarked name names)
    → has_key (cond b (suc (key_place name names)) 0) (first_key name) (n ∷ names) ≡ false → n ∷ names ≡ unmarked name (n ∷ names)
keep_step true name n names e rest has =
    let later : n ∷ names ≡ n ∷ unmarked name names = ap (λ (l : List (List Bool)). n ∷ l) (rest has) in
    grind (arith, nat_tests, common_steps)
keep_step false name n names e rest has = grind (arith, nat_tests, common_steps)

pub keep-key_place : (name : List Bool) (names : List (List Bool)) → has_key (key_place name names) (first_key name) names ≡ false → names ≡ unmarked name names
keep-key_place name [] has = refl
keep-key_place name (n ∷ names) has = keep_step (nat_lt (first_key n) (first_key name)) name n names refl (keep-key_place name names) has

pub length-marked : (name : List Bool) (names : List (List Bool)) → length (marked name names) ≤ suc (length names)
length-marked name [] = omega arith
length-marked name (n ∷ names) = grind (arith, nat_tests, common_steps, length-marked name names)

pub length-unmarked : (name : List Bool) (names : List (List Bool)) → length (unmarked name names) ≤ length names
length-unmarked name [] = omega arith
length-unmarked name (n ∷ names) = grind (arith, nat_tests, common_steps, length-unmarked name names)
