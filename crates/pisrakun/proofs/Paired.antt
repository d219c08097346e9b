-- Why no store is opened over two files, if memory runs out for one that keeps a second drive.
use Rattle.std.proofs.Common.{◌≡◌, inr, ℕ, Bool, List, Option, Result, Ok, Err, sym, subst}
use Rattle.std.specs.Prelude.{⊤, IfErr}
use Rattle.atomic_table.specs.Seated.{TableId}
use Rattle.disk_trait.specs.Drive.{Drive}
use Rattle.book_lock.specs.Pass.{Known}
use Rattle.store_file.specs.Closed.{ClosesStore}
use Rattle.store_file.specs.Either.{OpensEither, RefusesEitherExactly, chosen_of, other_of}
use Rattle.store_file.specs.Waiting.{Writes}
use Rattle.store_file.specs.declared.either.Which.{Which}
use Rattle.store_file.specs.declared.faults.EitherCause.TheVariants as cause
use Rattle.store_file.specs.declared.faults.NotEither.{NotEither}
use Rattle.pisrakun.specs.Rotating.{OpensInVain, RefusesRotating}

module _ {D : Type 0} (drive : D → Drive) (w bucket : ℕ) (first_file second_file : List ℕ) (first second : D) where
  -- What an opening says of the pass of its store.
  abbrev Opens : Which → TableId → ℕ → Option ℕ → ℕ → D → Known → Type 0
  Opens which lock points latest records spare k = OpensEither drive w bucket first_file second_file first second which lock k points latest records spare

  module _ (at_sync : Bool) (which : Which) (lock : TableId) (pass : Known) (points : ℕ) (latest : Option ℕ) (records : ℕ) (spare : D)
      (opens : Writes at_sync (Opens which lock points latest records spare) pass) (allowed : RefusesEitherExactly {A = ⊤} drive w bucket first_file second_file first second (Ok tt)) where
    opens-in-vain : (one two : D) → other_of which one two ≡ spare → ClosesStore drive w (λ start. ⊤) pass (chosen_of which one two)
        → OpensInVain drive w at_sync bucket first_file second_file first second one two
    opens-in-vain one two other_is closes = record {
      which = which;
      lock = lock;
      begun = pass;
      points = points;
      latest = latest;
      records = records;
      opens = subst (λ (d : D). Writes at_sync (Opens which lock points latest records d) pass) (sym other_is) opens;
      closes = closes;
      allowed = allowed;
    }

    pub refuses-rotating : {A : Type 0} (r : Result A (NotEither D))
        → IfErr r (λ (e : NotEither D). (e.cause ≡ cause.Memory) × (other_of which e.first e.second ≡ spare) × ClosesStore drive w (λ start. ⊤) pass (chosen_of which e.first e.second))
        → RefusesRotating drive w at_sync bucket first_file second_file first second r
    refuses-rotating (Ok a) back = allowed
    refuses-rotating (Err e) back = inr (back.0, opens-in-vain e.first e.second back.1 back.2)
