-- Why an opening is refused, whatever it returns otherwise.
use Rattle.std.proofs.Common.{ℕ, List, Ok, Err}
use Rattle.disk_trait.specs.Drive.{Drive}
use Rattle.store_file.specs.declared.faults.NotOpened.{NotOpened}
use Rattle.store_file.specs.declared.faults.NotEither.{NotEither}
use Rattle.store_file.specs.Refused.{RefusesStoreExactly}
use Rattle.store_file.specs.Either.{RefusesEitherExactly}

module _ {A B D : Type 0} (drive : D → Drive) (w size : ℕ) (file : List ℕ) (disk : D) where
  pub file-opened : (a : A) (b : B) → RefusesStoreExactly drive w size file disk (Ok a) → RefusesStoreExactly drive w size file disk (Ok b)
  file-opened a b is = record { refused = tt; bucket = is.bucket; exact = is.exact; whole = λ sized good. tt }

  pub file-refused : (e : NotOpened D) → RefusesStoreExactly {A = A} drive w size file disk (Err e) → RefusesStoreExactly {A = B} drive w size file disk (Err e)
  file-refused e is = record { refused = is.refused; bucket = is.bucket; exact = is.exact; whole = is.whole }

module _ {A B D : Type 0} (drive : D → Drive) (w size : ℕ) (first_file second_file : List ℕ) (first second : D) where
  pub either-opened : (a : A) (b : B) → RefusesEitherExactly drive w size first_file second_file first second (Ok a) → RefusesEitherExactly drive w size first_file second_file first second (Ok b)
  either-opened a b is = record {
    refused = tt;
    bucket = is.bucket;
    one_file = is.one_file;
    exact_first = is.exact_first;
    exact_second = is.exact_second;
    whole = λ sized apart good also. tt;
  }

  pub either-refused : (e : NotEither D) → RefusesEitherExactly {A = A} drive w size first_file second_file first second (Err e)
      → RefusesEitherExactly {A = B} drive w size first_file second_file first second (Err e)
  either-refused e is = record {
    refused = is.refused;
    bucket = is.bucket;
    one_file = is.one_file;
    exact_first = is.exact_first;
    exact_second = is.exact_second;
    whole = is.whole;
  }
