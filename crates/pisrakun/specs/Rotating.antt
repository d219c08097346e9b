-- A store over two files as one value.
use Rattle.std.specs.Prelude.{◌≡◌, ◌⊎◌, ℕ, Bool, List, Option, Result, Ok, Err, ⊤}
use Rattle.atomic_table.specs.Seated.{TableId}
use Rattle.disk_trait.specs.Drive.{Drive}
use Rattle.book_lock.specs.Pass.{Known}
use Rattle.store_file.specs.Closed.{ClosesStore}
use Rattle.store_file.specs.Opened.{first_pass}
use Rattle.store_file.specs.Either.{OpensEither, RefusesEitherExactly, chosen_of, other_of}
use Rattle.store_file.specs.Rotating.{rotating_origin}
use Rattle.store_file.specs.Waiting.{Writes}
use Rattle.store_file.specs.declared.either.Which.{Which}
use Rattle.store_file.specs.declared.faults.EitherCause.TheVariants as cause
use Rattle.store_file.specs.declared.faults.NotEither.{NotEither}

-- A store was opened over one of two files, as by `open_either`, or by `open_either_at_sync` if so. The pass is that of the
-- same store, which keeps this drive of the other file.
pub record OpensRotating {D : Type 0} (drive : D → Drive) (w : ℕ) (at_sync : Bool) (bucket : ℕ) (first_file second_file : List ℕ) (first second : D)
    (which : Which) (pass : Known) (points : ℕ) (latest : Option ℕ) (records : ℕ) : Type 0 where
  pub spare : D
  pub lock : TableId
  pub begun : Known
  pub opens : Writes at_sync (λ (k : Known). OpensEither drive w bucket first_file second_file first second which lock k points latest records spare) begun
  pub pass_is : pass ≡ first_pass pass.lock (rotating_origin begun.origin)

-- A store was opened so, but there was no memory for one that keeps a second drive. It was closed, and both drives are
-- left. Such an opening isn't refused for anything else.
pub record OpensInVain {D : Type 0} (drive : D → Drive) (w : ℕ) (at_sync : Bool) (bucket : ℕ) (first_file second_file : List ℕ) (first second one two : D) : Type 0 where
  pub which : Which
  pub lock : TableId
  pub begun : Known
  pub points : ℕ
  pub latest : Option ℕ
  pub records : ℕ
  pub opens : Writes at_sync (λ (k : Known). OpensEither drive w bucket first_file second_file first second which lock k points latest records (other_of which one two)) begun
  pub closes : ClosesStore drive w (λ start. ⊤) begun (chosen_of which one two)
  pub allowed : RefusesEitherExactly {A = ⊤} drive w bucket first_file second_file first second (Ok tt)

-- When the opening is refused, for which cause, and what that leaves: as by `open_either`. Or memory runs out after that.
abbrev pub RefusesRotating : {A D : Type 0} → (D → Drive) → ℕ → Bool → ℕ → List ℕ → List ℕ → D → D → Result A (NotEither D) → Type 0
RefusesRotating drive w at_sync bucket first_file second_file first second (Ok opened) = RefusesEitherExactly {A = ⊤} drive w bucket first_file second_file first second (Ok tt)
RefusesRotating drive w at_sync bucket first_file second_file first second (Err e) =
    RefusesEitherExactly {A = ⊤} drive w bucket first_file second_file first second (Err e)
    ⊎ ((e.cause ≡ cause.Memory) × OpensInVain drive w at_sync bucket first_file second_file first second e.first e.second)
