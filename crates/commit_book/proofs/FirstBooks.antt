-- Books that just began.
use Rattle.std.proofs.Common.{◌≡◌, ℕ, List, [], ◌∷◌, ◌++◌, length, Bool, refl, sym, ap, ◌∙◌, arith}
use Rattle.index_layer.specs.Leaves.{names_of}
use Rattle.plain_list.specs.declared.entries.Entry.{Entry}
use Rattle.plain_list.specs.declared.entries.Entry.TheVariants.{Begin}
use Rattle.plain_list.specs.State.{State}
use Rattle.disk_trait.specs.Drive.{Drive}
use Rattle.kept_log.specs.Journal.{KeepsIn}
use Rattle.commit_book.specs.BookInside.{IsInside}
use Rattle.commit_book.specs.IsBook.{IsOpening}
use Rattle.commit_book.specs.SplitsView.{SplitsView}
use Rattle.commit_book.specs.declared.book.Book.TheInside.{Inside}

no_begin : (before after : List Entry) (number : ℕ) (name : List Bool) → [] ≡ before ++ Begin number name ∷ after → ⊥
no_begin [] after number name is = cc is
no_begin (e ∷ before) after number name is = cc is

-- a book with no entries, whose table is that of the state
pub inside-first : {I D P : Type 0} (drive : D → Drive) (w : ℕ) (o : State) (b : Inside I D P) → IsOpening w o → b.history.entries ≡ []
    → b.table.world ≡ o.world → names_of b.table.leaves ≡ o.leaves → b.splits ≡ record { splits = []; begun = o.begun; room = 0 } → KeepsIn drive w o [] b.journal
    → IsInside drive w o b
inside-first drive w o b opening none world names splits kept =
    record {
      opening = opening;
      legal = rw none refl;
      world = rw none world;
      names = rw none names;
      splits = rw none (ap (λ (v : SplitsView). v.splits) splits ∙ sym opening.rests);
      begun = rw none (ap (λ (v : SplitsView). v.begun) splits);
      bases = rw none (λ before after number name is found. absurd (no_begin before after number name is));
      begins = rw none (λ before after number name is. absurd (no_begin before after number name is));
      few = rw none (omega arith);
      room = λ _. omega (arith, ap (λ (v : SplitsView). length v.splits) splits);
      on_log = rw none kept;
    }
