-- What follows from the values that a result has.
use Rattle.std.proofs.Common.{Result, Ok, Err}
use Rattle.std.specs.Prelude.{IfOk, IfErr}

-- What holds of each value that a result may have.
pub ok-with : {A B : Type 0} (P Q : A → Type 0) → ((a : A) → P a → Q a) → (r : Result A B) → IfOk r P → IfOk r Q
ok-with P Q each (Ok a) is = each a is
ok-with P Q each (Err e) is = tt

pub err-with : {A B : Type 0} (P Q : B → Type 0) → ((e : B) → P e → Q e) → (r : Result A B) → IfErr r P → IfErr r Q
err-with P Q each (Ok a) is = tt
err-with P Q each (Err e) is = each e is
