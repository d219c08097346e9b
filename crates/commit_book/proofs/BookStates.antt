-- A book keeps what holds of it through each kind of step.
use Rattle.std.proofs.Common.{◌≡◌, ◌⊎◌, inl, inr, ℕ, ◌+◌, ◌-◌, ◌<◌, ◌≤◌, Bool, true, false, not, List, [], ◌∷◌, ◌++◌, length, length-append, Option, Some, None, refl, sym, ap, subst, ◌∙◌, arith}
use Rattle.std.specs.Prelude.{◌&&◌, ◌||◌, nat_lt, is_some}
use Rattle.std.specs.List.{AllByRecursion}
use Rattle.std.specs.Cmp.Derive.{both_true}
use Rattle.std.proofs.lemmas.Bool.{eq-eqb, false_from_ne_true}
use Rattle.std.proofs.lemmas.Bool.Decides.{nat_tests}
use mathlib.Core.Bool.{true≢false}
use Rattle.zorder.specs.SameName.{same_name, same_name-decides}
use Rattle.bucket_versions.specs.Rows.{Rows, as_base}
use Rattle.index_layer.specs.Leaves.{Leaf, AreLeaves, names_of}
use Rattle.index_layer.specs.Stands.{HasRowsOf}
use Rattle.index_layer.proofs.LeafChanges.{names_of-replaced}
use Rattle.plain_list.specs.declared.ops.Op.{Op}
use Rattle.plain_list.specs.declared.entries.Entry.{Entry}
use Rattle.plain_list.specs.declared.entries.Entry.TheVariants.{Fail, Call, Begin, Install, Abandon}
use Rattle.plain_list.specs.declared.entries.Lost.{Lost}
use Rattle.plain_list.specs.World.{World, places_of}
use Rattle.plain_list.specs.Answer.{after_of}
use Rattle.plain_list.specs.History.{world_after, failed_cell}
use Rattle.plain_list.specs.State.{State, OpenSplit, IsLegal, state_after, step, is_possible, is_free, may_split, is_splitting, split_name, split_leaf, installed, without_number}
use Rattle.plain_list.proofs.Histories.{has_failed, state_after-append, state_after-world, is_legal-push, has_failed-none, failed_cell-last}
use Rattle.disk_trait.specs.Drive.{Drive}
use Rattle.kept_log.specs.Journal.{KeepsIn, IsSinceIn, cells_in}
use Rattle.kept_log.specs.Counts.{first_in, count_after}
use Rattle.kept_log.proofs.Waiting.{in-named}
use Rattle.commit_book.specs.BookInside.{IsInside, book_of}
use Rattle.point_table.specs.Changes.{bases_of}
use Rattle.point_table.specs.Divisions.{Folds, Divides}
use Rattle.point_table.specs.TableView.{TableView}
use Rattle.commit_book.specs.IsBook.{IsBook, most_events}
use Rattle.commit_book.specs.KeptBases.{KeepsBase}
use Rattle.commit_book.specs.Room.{most_events_to_begin, most_cells_to_begin, has_no_room, BeginsInRoom}
use Rattle.commit_book.specs.declared.book.Book.TheInside.{Inside}
use Rattle.commit_book.proofs.BookSteps.{same_names}
use Rattle.commit_book.proofs.OnLog.{in-counted, in-first}
use Rattle.commit_book.proofs.Limits.{begin-less}
use Rattle.commit_book.proofs.KeptLemmas.{KeepsBases-push, BeginsInRoom-push, KeepsBase-bases, KeepsBase-begun, KeepsBase-replaced, KeepsBase-split}
use Rattle.plain_list.proofs.SplitHistories.{tidy-history, begun-number}
use Rattle.plain_list.proofs.SplitStates.{without_name-none, splitting-found, left-open, left-apart, length-without, found-push}

-- a step that is possible and free is legal after each history that hasn't failed
pub record StepsOn (w : ℕ) (o : State) (h : List Entry) (e : Entry) : Type 0 where
  pub legal : IsLegal w o (h ++ e ∷ [])
  pub after : state_after w o (h ++ e ∷ []) ≡ step w (state_after w o h) e

pub steps_on : (w : ℕ) (o : State) (h : List Entry) (e : Entry) → IsLegal w o h → has_failed h ≡ false → (is_possible w (state_after w o h) e && is_free (state_after w o h) e) ≡ true → StepsOn w o h e
steps_on w o h e legal sound may = record {
  legal = is_legal-push w o h e sound legal may;
  after = state_after-append w o h (e ∷ []);
}

-- what holds of a book whose table stands for its world
pub is_book : {I D P : Type 0} (drive : D → Drive) (w : ℕ) (b : Inside I D P) → IsInside drive w b.opening b → AreLeaves b.table.leaves → AllByRecursion (HasRowsOf (places_of b.table.world)) b.table.leaves → IsBook drive w (book_of b)
is_book drive w b inside are rows = record {
  opening = inside.opening;
  legal = inside.legal;
  stands = record {
    names_are = inside.names;
    are_leaves = are;
    rows = subst (λ (ms : World). AllByRecursion (HasRowsOf (places_of ms)) b.table.leaves) (inside.world ∙ state_after-world w b.opening b.history.entries) rows;
  };
  bases = inside.bases;
  room = inside.begins;
  few = inside.few;
  on_log = inside.on_log;
  named = λ n. in-named drive w b.opening b.history.entries b.journal n inside.on_log;
}

-- there is room where there are few cells and events
in_room : (kept : Bool) (cells events : ℕ) → cells ≤ most_cells_to_begin → events ≤ most_events_to_begin kept → has_no_room kept cells events ≡ false
in_room kept cells events few short = λ i. not_less most_cells_to_begin cells few i || not_less (most_events_to_begin kept) events short i
  where
    not_less : (m n : ℕ) → n ≤ m → nat_lt m n ≡ false
    not_less m n le = grind (arith, nat_tests)

one_more : (k l : Bool) (h : List Entry) (e : Entry) → l ≡ k → length h < most_events k → length (h ++ e ∷ []) ≤ most_events l
one_more k l h e kind few = rw kind (omega (arith, length-append h (e ∷ []), few))

module _ {I D P : Type 0} (drive : D → Drive) (w : ℕ) (o : State) (old new : Inside I D P) (inside : IsInside drive w o old)
    (going : failed_cell old.history.entries ≡ None) (on_log : KeepsIn drive w o new.history.entries new.journal) (since : IsSinceIn old.journal new.journal) (kind : new.history.kept ≡ old.history.kept) where
  abbrev pub h : List Entry
  h = old.history.entries

  abbrev pub s : State
  s = state_after w o h

  sound : has_failed h ≡ false
  sound = has_failed-none h going

  -- an entry that is no begin leaves each begin where it was
  begins-on : (e : Entry) → ((number : ℕ) (name : List Bool) → Begin number name ≡ e → ⊥) → BeginsInRoom new.history.kept (first_in new.journal) o.world (h ++ e ∷ [])
  begins-on e not_begin =
      BeginsInRoom-push old.history.kept new.history.kept (first_in old.journal) (first_in new.journal) o.world h e kind (in-first old.journal new.journal since) (λ number name is. absurd (not_begin number name is)) inside.begins

  -- a call
  pub inside-call : (session row : ℕ) (op : Op) → length h < most_events old.history.kept → new.history.entries ≡ h ++ Call session row op ∷ [] → length old.splits.splits ≤ new.history.room
      → new.table.world ≡ after_of old.table.world op → bases_of old.splits.splits new.table.leaves ≡ bases_of old.splits.splits old.table.leaves → new.splits ≡ old.splits → IsInside drive w o new
  inside-call session row op few entries room world bases splits =
      let e : Entry = Call session row op in
      let steps = steps_on w o h e inside.legal sound refl in
      record {
        opening = inside.opening;
        legal = rw entries steps.legal;
        world = rw entries (world ∙ ap (λ (ms : World). after_of ms op) inside.world ∙ sym (ap (λ (t : State). t.world) steps.after));
        names = rw entries (same_names old.splits.splits _ _ bases ∙ inside.names ∙ sym (ap (λ (t : State). t.leaves) steps.after));
        splits = rw entries (ap (λ v. v.splits) splits ∙ inside.splits ∙ sym (ap (λ (t : State). t.splits) steps.after));
        begun = rw entries (ap (λ v. v.begun) splits ∙ inside.begun ∙ sym (ap (λ (t : State). t.begun) steps.after));
        bases = rw entries (KeepsBases-push w o h e old.table.leaves new.table.leaves (record {
          begun = λ number name is. absurd (not_begin number name is);
          was = λ before after number name there now. ap (λ (t : State). split_name t.splits number) (sym steps.after) ∙ now;
          keeps = λ number name was now ms kept.
              KeepsBase-bases old.splits.splits old.table.leaves new.table.leaves ms name bases (ap (λ (os : List OpenSplit). is_splitting os name) inside.splits ∙ splitting-found s.splits number name was) kept;
        }) inside.bases);
        begins = rw entries (begins-on e not_begin);
        few = rw entries (one_more old.history.kept new.history.kept h e kind few);
        room = λ _. omega (arith, room, ap (λ v. length v.splits) splits);
        on_log = on_log;
      }
    where
      not_begin : (number : ℕ) (name : List Bool) → Begin number name ≡ Call session row op → ⊥
      not_begin number name is = cc is

  -- the begin of a split
  pub inside-begin : (name : List Bool) (bucket : Rows) → length h ≤ most_events_to_begin old.history.kept → cells_in old.journal ≤ most_cells_to_begin → AreLeaves old.table.leaves → AllByRecursion (HasRowsOf (places_of (world_after o.world h))) old.table.leaves
      → Folds name old.table.leaves new.table.leaves bucket → may_split w s name ≡ true → is_splitting s.splits name ≡ false
      → new.history.entries ≡ h ++ Begin (old.splits.begun + 1) name ∷ [] → length old.splits.splits + 1 ≤ new.history.room → new.table.world ≡ old.table.world
      → new.splits.splits ≡ old.splits.splits ++ record { number = old.splits.begun + 1; name = name } ∷ [] → new.splits.begun ≡ old.splits.begun + 1 → IsInside drive w o new
  inside-begin name bucket few cells are rows folds may none entries room world splits begun =
      let number : ℕ = old.splits.begun + 1 in
      let e : Entry = Begin number name in
      let next : number ≡ s.begun + 1 = ap (λ n. n + 1) inside.begun in
      let steps = steps_on w o h e inside.legal sound (both_true (both_true (eq-eqb number (s.begun + 1) next) may) (ap not none)) in
      let now : (state_after w o (h ++ e ∷ [])).splits ≡ s.splits ++ record { number = number; name = name } ∷ [] =
      ap (λ (t : State). t.splits) steps.after ∙ ap (λ (os : List OpenSplit). os ++ record { number = number; name = name } ∷ []) (without_name-none name s.splits none) in
      record {
        opening = inside.opening;
        legal = rw entries steps.legal;
        world = rw entries (world ∙ inside.world ∙ sym (ap (λ (t : State). t.world) steps.after));
        names = rw entries (ap names_of folds.leaves ∙ names_of-replaced name (as_base folds.leaf.bucket.rows) old.table.leaves ∙ inside.names ∙ sym (ap (λ (t : State). t.leaves) steps.after));
        splits = rw entries (splits ∙ ap (λ (os : List OpenSplit). os ++ record { number = number; name = name } ∷ []) inside.splits ∙ sym now);
        begun = rw entries (begun ∙ next ∙ sym (ap (λ (t : State). t.begun) steps.after));
        bases = rw entries (KeepsBases-push w o h e old.table.leaves new.table.leaves (record {
          begun = λ n nm is. subst (λ (nm : List Bool). KeepsBase new.table.leaves (places_of (world_after o.world h)) nm) (sym (same_begin n nm is)) begun_base;
          was = λ before after n nm there open_now. by_split before after n nm there (found-push s.splits (record { number = number; name = name }) n nm (ap (λ (os : List OpenSplit). split_name os n) (sym now) ∙ open_now));
          keeps = λ n nm was open_now ms kept.
              subst (λ (ls : List Leaf). KeepsBase ls ms nm) (sym folds.leaves) (KeepsBase-replaced old.table.leaves ms nm name (as_base folds.leaf.bucket.rows) (other nm (splitting-found s.splits n nm was)) kept);
        }) inside.bases);
        begins = rw entries (BeginsInRoom-push old.history.kept new.history.kept (first_in old.journal) (first_in new.journal) o.world h e kind (in-first old.journal new.journal since) (λ n nm is. there_was_room) inside.begins);
        few = rw entries (one_more old.history.kept new.history.kept h e kind (omega (arith, few, begin-less old.history.kept)));
        room = λ _. omega (arith, room, ap length splits, length-append old.splits.splits (record { number = number; name = name } ∷ []));
        on_log = on_log;
      }
    where
      there_was_room : has_no_room old.history.kept (count_after (first_in old.journal) o.world h) (length h) ≡ false
      there_was_room =
          in_room old.history.kept (count_after (first_in old.journal) o.world h) (length h) (omega (arith, in-counted drive w o h old.journal inside.on_log, cells)) few

      same_begin : (n : ℕ) (nm : List Bool) → Begin n nm ≡ Begin (old.splits.begun + 1) name → nm ≡ name
      same_begin n nm is = cc is

      begun_base : KeepsBase new.table.leaves (places_of (world_after o.world h)) name
      begun_base =
          subst (λ (ls : List Leaf). KeepsBase ls (places_of (world_after o.world h)) name) (sym folds.leaves)
          (KeepsBase-begun old.table.leaves (places_of (world_after o.world h)) name folds.leaf are rows folds.named)

      other : (nm : List Bool) → is_splitting s.splits nm ≡ true → same_name nm name ≡ false
      other nm is = false_from_ne_true (same_name nm name) (λ same. true≢false (sym is ∙ ap (is_splitting s.splits) ((same_name-decides nm name).0 same) ∙ none))

      by_split : (before after : List Entry) (n : ℕ) (nm : List Bool) → h ≡ before ++ Begin n nm ∷ after → (split_name s.splits n ≡ Some nm) ⊎ ((old.splits.begun + 1 ≡ n) × (name ≡ nm)) → split_name s.splits n ≡ Some nm
      by_split before after n nm there (inl was) = was
      by_split before after n nm there (inr last) =
          let least = begun-number w o before n nm after (subst (λ (g : List Entry). IsLegal w o g) there inside.legal) in
          let at_most : n ≤ s.begun = subst (λ (g : List Entry). n ≤ (state_after w o g).begun) (sym there) least in
          absurd (omega (arith, at_most, last.0, inside.begun))

  -- the install of a split
  pub inside-install : (number : ℕ) (name : List Bool) → length h < most_events old.history.kept → AreLeaves new.table.leaves → Divides w name old.table.leaves new.table.leaves
      → split_name old.splits.splits number ≡ Some name → names_of new.table.leaves ≡ split_leaf w name (names_of old.table.leaves)
      → new.history.entries ≡ h ++ Install number ∷ [] → old.history.room - 1 ≤ new.history.room → new.table.world ≡ old.table.world
      → new.splits.splits ≡ without_number number old.splits.splits → new.splits.begun ≡ old.splits.begun → IsInside drive w o new
  inside-install number name few are divides found names entries room world splits begun =
      let e : Entry = Install number in
      let open_one : split_name s.splits number ≡ Some name = ap (λ (os : List OpenSplit). split_name os number) (sym inside.splits) ∙ found in
      let steps = steps_on w o h e inside.legal sound (both_true (ap (λ (n : Option (List Bool)). is_some n) open_one) refl) in
      let tidy = tidy-history w o h inside.opening.rests inside.legal in
      record {
        opening = inside.opening;
        legal = rw entries steps.legal;
        world = rw entries (world ∙ inside.world ∙ sym (ap (λ (t : State). t.world) steps.after));
        names = rw entries (names ∙ ap (split_leaf w name) inside.names ∙ ap (λ (n : Option (List Bool)). installed w n s.leaves) (sym open_one) ∙ sym (ap (λ (t : State). t.leaves) steps.after));
        splits = rw entries (splits ∙ ap (without_number number) inside.splits ∙ sym (ap (λ (t : State). t.splits) steps.after));
        begun = rw entries (begun ∙ inside.begun ∙ sym (ap (λ (t : State). t.begun) steps.after));
        bases = rw entries (KeepsBases-push w o h e old.table.leaves new.table.leaves (record {
          begun = λ n nm is. absurd (not_begin n nm is);
          was = λ before after n nm there now. left-open s.splits number n nm (ap (λ (t : State). split_name t.splits n) (sym steps.after) ∙ now);
          keeps = λ n nm was now ms kept.
              subst (λ (ls : List Leaf). KeepsBase ls ms nm) (sym divides.leaves)
              (KeepsBase-split w old.table.leaves ms nm name _ (subst AreLeaves divides.leaves are)
              (left-apart s.splits number n name nm tidy.apart open_one (ap (λ (t : State). split_name t.splits n) (sym steps.after) ∙ now)) kept);
        }) inside.bases);
        begins = rw entries (begins-on e not_begin);
        few = rw entries (one_more old.history.kept new.history.kept h e kind few);
        room = λ _. omega (arith, room, inside.room going, ap length splits, ap length inside.splits, ap (λ (os : List OpenSplit). length (without_number number os)) inside.splits, length-without s.splits number name tidy.apart open_one);
        on_log = on_log;
      }
    where
      not_begin : (n : ℕ) (nm : List Bool) → Begin n nm ≡ Install number → ⊥
      not_begin n nm is = cc is

  -- the abandonment of a split
  pub inside-abandon : (number : ℕ) (name : List Bool) → length h < most_events old.history.kept → split_name old.splits.splits number ≡ Some name → new.table ≡ old.table
      → new.history.entries ≡ h ++ Abandon number ∷ [] → old.history.room - 1 ≤ new.history.room
      → new.splits.splits ≡ without_number number old.splits.splits → new.splits.begun ≡ old.splits.begun → IsInside drive w o new
  inside-abandon number name few found table entries room splits begun =
      let e : Entry = Abandon number in
      let open_one : split_name s.splits number ≡ Some name = ap (λ (os : List OpenSplit). split_name os number) (sym inside.splits) ∙ found in
      let steps = steps_on w o h e inside.legal sound (both_true (ap (λ (n : Option (List Bool)). is_some n) open_one) refl) in
      let tidy = tidy-history w o h inside.opening.rests inside.legal in
      record {
        opening = inside.opening;
        legal = rw entries steps.legal;
        world = rw entries (ap (λ (v : TableView). v.world) table ∙ inside.world ∙ sym (ap (λ (t : State). t.world) steps.after));
        names = rw entries (ap (λ (v : TableView). names_of v.leaves) table ∙ inside.names ∙ sym (ap (λ (t : State). t.leaves) steps.after));
        splits = rw entries (splits ∙ ap (without_number number) inside.splits ∙ sym (ap (λ (t : State). t.splits) steps.after));
        begun = rw entries (begun ∙ inside.begun ∙ sym (ap (λ (t : State). t.begun) steps.after));
        bases = rw entries (KeepsBases-push w o h e old.table.leaves new.table.leaves (record {
          begun = λ n nm is. absurd (not_begin n nm is);
          was = λ before after n nm there now. left-open s.splits number n nm (ap (λ (t : State). split_name t.splits n) (sym steps.after) ∙ now);
          keeps = λ n nm was now ms kept. subst (λ (v : TableView). KeepsBase v.leaves ms nm) (sym table) kept;
        }) inside.bases);
        begins = rw entries (begins-on e not_begin);
        few = rw entries (one_more old.history.kept new.history.kept h e kind few);
        room = λ _. omega (arith, room, inside.room going, ap length splits, ap length inside.splits, ap (λ (os : List OpenSplit). length (without_number number os)) inside.splits, length-without s.splits number name tidy.apart open_one);
        on_log = on_log;
      }
    where
      not_begin : (n : ℕ) (nm : List Bool) → Begin n nm ≡ Abandon number → ⊥
      not_begin n nm is = cc is

  -- the failed append of a step
  pub inside-fail : (cell : ℕ) (lost : Lost) → length h < most_events old.history.kept → new.history.entries ≡ h ++ Fail cell lost ∷ []
      → new.table.world ≡ old.table.world → new.table.leaves ≡ old.table.leaves
      → new.splits.splits ≡ old.splits.splits → new.splits.begun ≡ old.splits.begun → IsInside drive w o new
  inside-fail cell lost few entries world index splits begun =
      let e : Entry = Fail cell lost in
      let steps = steps_on w o h e inside.legal sound refl in
      record {
        opening = inside.opening;
        legal = rw entries steps.legal;
        world = rw entries (world ∙ inside.world ∙ sym (ap (λ (t : State). t.world) steps.after));
        names = rw entries (ap names_of index ∙ inside.names ∙ sym (ap (λ (t : State). t.leaves) steps.after));
        splits = rw entries (splits ∙ inside.splits ∙ sym (ap (λ (t : State). t.splits) steps.after));
        begun = rw entries (begun ∙ inside.begun ∙ sym (ap (λ (t : State). t.begun) steps.after));
        bases = rw entries (KeepsBases-push w o h e old.table.leaves new.table.leaves (record {
          begun = λ n nm is. absurd (not_begin n nm is);
          was = λ before after n nm there now. ap (λ (t : State). split_name t.splits n) (sym steps.after) ∙ now;
          keeps = λ n nm was now ms kept. subst (λ (ls : List Leaf). KeepsBase ls ms nm) (sym index) kept;
        }) inside.bases);
        begins = rw entries (begins-on e not_begin);
        few = rw entries (one_more old.history.kept new.history.kept h e kind few);
        room = λ none. absurd (not_none (sym (failed_cell-last h cell lost sound) ∙ ap failed_cell (sym entries) ∙ none));
        on_log = on_log;
      }
    where
      not_begin : (n : ℕ) (nm : List Bool) → Begin n nm ≡ Fail cell lost → ⊥
      not_begin n nm is = cc is

      not_none : Some cell ≡ None → ⊥
      not_none is = cc is
