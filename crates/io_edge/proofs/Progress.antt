-- How far a loop over reads or writes has come, and one more turn of it.
use Rattle.std.proofs.Common.{◌≡◌, ℕ, ◌+◌, ◌-◌, ◌≤◌, ◌<◌, List, [], ◌++◌, length, take, drop, min, Option, sym, ap, ◌∙◌, subst, arith, length-append, drop_of_length-le}
use Rattle.std.proofs.lemmas.List.{take-append-drop, take-append-le, length-take, length-take-le, take-take, length-drop, drop-drop}
use Rattle.std.proofs.Math.Seq.{take-add, take-append_seam}
use Rattle.std.proofs.KnownBytes.{Appends-trans, Consumes-trans}
use Rattle.std.specs.Io.KnownBytes.{Appends, Consumes}
use Rattle.io_edge.specs.Reads.{ConsumesUpTo}

-- a read to the end that has `all` so far
pub record HasRead (most : ℕ) (old now : Option (List ℕ)) (all : List ℕ) (faults_old faults_now : ℕ) : Type 0 where
  pub few : length all ≤ most
  pub taken : Consumes old now all
  pub same : faults_now ≡ faults_old

-- one more piece, the first n bytes of what was filled
pub HasRead-more : {most : ℕ} {old now new : Option (List ℕ)} {all more : List ℕ} {f g h : ℕ} (n : ℕ) (filled whole rest : List ℕ) → HasRead most old now all f g
    → Consumes now new (take n filled) → n ≤ length filled → n ≤ most - length all → whole ≡ filled ++ rest → more ≡ all ++ take n whole → h ≡ g → HasRead most old new more f h
HasRead-more {most = most} {old = old} {now = now} {new = new} {all = all} {more = more} n filled whole rest read consumed within fits whole_is more_is same_count =
    let same : take n whole ≡ take n filled = ap (take n) whole_is ∙ take-append-le n filled rest within in
    let all_is : more ≡ all ++ take n filled = more_is ∙ ap (λ l. all ++ l) same in
    let P : List ℕ → Type 0 = λ l. Consumes old new l in
    record {
      few = let counted : length more ≡ length all + length (take n filled) = ap length all_is ∙ length-append all (take n filled) in
          let had = read.few in
          let short = length-take-le n filled within in omega arith;
      taken = subst P (sym all_is) (Consumes-trans old now new all (take n filled) read.taken consumed);
      same = same_count ∙ read.same;
    }

-- the turn that ends in a refusal took at most one byte above the bound
pub HasRead-end : {most : ℕ} {old now : Option (List ℕ)} {all : List ℕ} {f g : ℕ} (new : Option (List ℕ)) (bs : List ℕ) → HasRead most old now all f g
    → Consumes now new bs → length bs ≤ most - length all + 1 → ConsumesUpTo (most + 1) old new
HasRead-end {most = most} {old = old} {now = now} {all = all} new bs read consumed short =
    let had = read.few in
    let counted = length-append all bs in
    (all ++ bs, omega arith, Consumes-trans old now new all bs read.taken consumed)

-- a put that has passed on the first `at` bytes of its piece
pub record HasPut (old now : Option (List ℕ)) (piece : List ℕ) (at : ℕ) (faults_old faults_now : ℕ) : Type 0 where
  pub within : at ≤ length piece
  pub taken : Appends old now (take at piece)
  pub same : faults_now ≡ faults_old

-- the writer took the first n bytes of the rest
pub HasPut-more : {old now new : Option (List ℕ)} {piece : List ℕ} {at f g : ℕ} (n : ℕ) (rest : List ℕ) → HasPut old now piece at f g
    → rest ≡ take (length piece - at) (drop at piece) → n ≤ length rest → Appends now new (take n rest) → HasPut old new piece (at + n) f g
HasPut-more {old = old} {now = now} {new = new} {piece = piece} {at = at} n rest put rest_is within appended =
    let there = put.within in
    let left : length rest ≡ min (length piece - at) (length (drop at piece)) = ap length rest_is ∙ length-take (length piece - at) (drop at piece) in
    let first : take n rest ≡ take n (drop at piece) = ap (take n) rest_is ∙ take-take n (length piece - at) (drop at piece) (omega arith) in
    let joined : take at piece ++ take n rest ≡ take (at + n) piece = ap (λ l. take at piece ++ l) first ∙ sym (take-add at n piece) in
    let P : List ℕ → Type 0 = λ l. Appends old new l in
    record {
      within = omega arith;
      taken = subst P joined (Appends-trans old now new (take at piece) (take n rest) put.taken appended);
      same = put.same;
    }

-- a read of a source in memory gives the next n bytes
pub next_read : (left bytes part into : List ℕ) (at n : ℕ) → left ≡ drop at bytes → at ≤ length bytes → n ≡ min (length into) (length bytes - at) → part ≡ take n (drop at bytes)
    → (left ≡ take n (part ++ drop n into) ++ drop (at + n) bytes) × (n ≡ 0 → 0 < length (part ++ drop n into) → drop (at + n) bytes ≡ [])
next_read left bytes part into at n left_is there n_is part_is =
    let rest = length-drop at bytes in
    let long : length part ≡ n = ap length part_is ∙ length-take-le n (drop at bytes) (omega arith) in
    let front : take n (part ++ drop n into) ≡ part = ap (λ k. take k (part ++ drop n into)) (sym long) ∙ take-append_seam part (drop n into) in
    let behind : drop n (drop at bytes) ≡ drop (at + n) bytes = drop-drop n at bytes in
    let joined : take n (part ++ drop n into) ++ drop (at + n) bytes ≡ take n (drop at bytes) ++ drop n (drop at bytes) = ap (λ l. l ++ drop (at + n) bytes) (front ∙ part_is) ∙ ap (λ l. take n (drop at bytes) ++ l) (sym behind) in
    let whole = length-append part (drop n into) in
    let unread = length-drop n into in
    (left_is ∙ sym (take-append-drop n (drop at bytes)) ∙ sym joined, λ none some. drop_of_length-le bytes (omega arith))
