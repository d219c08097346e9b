-- How far a loop over reads or writes has come, and one more turn of it.
use Rattle.std.proofs.Common.{◌≡◌, ℕ, ◌+◌, ◌-◌, ◌≤◌, List, ◌++◌, length, take, drop, min, Option, sym, ap, ◌∙◌, subst, refl, arith, length-append, take_at, drop_at}
use Rattle.std.proofs.lemmas.List.{length-take, length-take-le, take-take, take-append-le}
use Rattle.std.proofs.Math.Seq.{take-add}
use Rattle.std.proofs.KnownBytes.{Appends-trans, Consumes-trans}
use borrow.Rule.Slice.PartMut.{put_mid}
use Rattle.std.specs.Io.KnownBytes.{Appends, Consumes}

-- A read that has filled the first `at` bytes of its room.
pub record HasFilled (old now : Option (List ℕ)) (into : List ℕ) (at : ℕ) : Type 0 where
  pub within : at ≤ length into
  pub taken : Consumes old now (take at into)

-- The reader gave the first `n` bytes of the piece after these.
pub HasFilled-more : {old now new : Option (List ℕ)} (into piece : List ℕ) (at n : ℕ) → HasFilled old now into at
    → n ≤ length piece → Consumes now new (take n piece) → HasFilled old new (put_mid at (length into - at) into piece) (at + n)
HasFilled-more {old = old} {now = now} {new = new} into piece at n filled within consumed =
    let there = filled.within in
    let front = take at into in
    let behind = drop (length into - at) (drop at into) in
    let rest = piece ++ behind in
    let after = put_mid at (length into - at) into piece in
    let after_is : after ≡ front ++ rest = refl in
    let long : length front ≡ at = length-take-le at into there in
    let whole : length after ≡ length front + length rest = ap length after_is ∙ length-append front rest in
    let part = length-append piece behind in
    let second : take n (drop at (front ++ rest)) ≡ take n piece = ap (take n) (drop_at front rest at long) ∙ take-append-le n piece behind within in
    let joined : take (at + n) after ≡ front ++ take n piece =
    ap (take (at + n)) after_is ∙ take-add at n (front ++ rest) ∙ ap (λ l. l ++ take n (drop at (front ++ rest))) (take_at front rest at long) ∙ ap (λ l. front ++ l) second in
    let P : List ℕ → Type 0 = λ l. Consumes old new l in
    record {
      within = omega (arith, there, long, whole, part, within);
      taken = subst P (sym joined) (Consumes-trans old now new front (take n piece) filled.taken consumed);
    }

-- A write that has passed on the first `at` bytes of its piece.
pub record HasPut (old now : Option (List ℕ)) (piece : List ℕ) (at : ℕ) : Type 0 where
  pub within : at ≤ length piece
  pub taken : Appends old now (take at piece)

-- The writer accepted the first `n` bytes of the rest.
pub HasPut-more : {old now new : Option (List ℕ)} {piece : List ℕ} {at : ℕ} (n : ℕ) (rest : List ℕ) → HasPut old now piece at
    → rest ≡ take (length piece - at) (drop at piece) → n ≤ length rest → Appends now new (take n rest) → HasPut old new piece (at + n)
HasPut-more {old = old} {now = now} {new = new} {piece = piece} {at = at} n rest put rest_is within appended =
    let there = put.within in
    let left : length rest ≡ min (length piece - at) (length (drop at piece)) = ap length rest_is ∙ length-take (length piece - at) (drop at piece) in
    let first : take n rest ≡ take n (drop at piece) = ap (take n) rest_is ∙ take-take n (length piece - at) (drop at piece) (omega arith) in
    let joined : take at piece ++ take n rest ≡ take (at + n) piece = ap (λ l. take at piece ++ l) first ∙ sym (take-add at n piece) in
    let P : List ℕ → Type 0 = λ l. Appends old new l in
    record { within = omega arith; taken = subst P joined (Appends-trans old now new (take at piece) (take n rest) put.taken appended) }
