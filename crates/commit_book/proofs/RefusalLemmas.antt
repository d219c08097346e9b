-- The cause that comes first, by the tests of the code.
use Rattle.std.proofs.Common.{◌≡◌, ℕ, ◌+◌, ◌<◌, ◌≤◌, Bool, true, false, cond, not, List, [], ◌∷◌, length, Option, Some, None, Result, Ok, Err, refl, sym, ap, subst, ◌∙◌, arith}
use Rattle.std.specs.Prelude.{nat_lt, ◌==◌, ◌&&◌, ◌||◌, is_some}
use Rattle.std.specs.Option.{option_map, option_map_or}
use Rattle.std.specs.Cmp.Lexicographic.{pointwise_decides}
use Rattle.std.proofs.lemmas.Bool.Decides.{nat_tests}
use mathlib.Core.Bool.{true≢false}
use Rattle.zorder.specs.SameName.{same_name, same_name-decides}
use Rattle.bucket_versions.specs.Rows.{same_row, same_rows}
use Rattle.bucket_versions.proofs.RowOrder.{same_row-eq, same_row-refl}
use Rattle.bucket_versions.specs.declared.row.Row.{Row}
use Rattle.index_layer.specs.Leaves.{Leaf, names_of, has_name, leaf_named}
use Rattle.plain_list.specs.declared.entries.Entry.{Entry}
use Rattle.plain_list.specs.State.{State, OpenSplit, split_name, is_splitting, is_leaf, state_after}
use Rattle.plain_list.specs.History.{failed_cell}
use Rattle.commit_book.specs.IsBook.{most_events}
use Rattle.kept_log.specs.Journal.{cells_in}
use Rattle.commit_book.specs.BookView.{BookView}
use Rattle.commit_book.specs.Refusals.{IsRefusedBy, IsNoFault, first_of, closed_refusal, events_refusal, call_refusal, end_refusal, room_refusal, most_cells, most_events_to_begin, most_cells_to_begin, split_number, leaf_refusal, begin_refusal, is_open, has_base, install_refusal, abandon_refusal}
use Rattle.commit_book.specs.declared.faults.BookFault.{BookFault}
use Rattle.commit_book.specs.declared.faults.BookFault.TheVariants.{Closed, HistoryFull, LogFull, Room, Splitting, Deep, NoLeaf, Stale, NotOpen}

-- two rows are one exactly where key and id are
same_row-decides : (a b : Row) → (same_row a b ≡ true → a ≡ b) × (a ≡ b → same_row a b ≡ true)
same_row-decides a b = (same_row-eq a b, λ e. ap (same_row a) (sym e) ∙ same_row-refl a)

pub same_rows-decides : (a b : List Row) → (same_rows a b ≡ true → a ≡ b) × (a ≡ b → same_rows a b ≡ true)
same_rows-decides = pointwise_decides same_row-decides

-- a check that was passed knows of no cause
pub passed : {A : Type 0} (o : Option BookFault) (value : A) → IsRefusedBy IsNoFault o (Ok value) → o ≡ None
passed (Some cause) value is = cc is
passed None value is = refl

-- what a check answers where a cause comes first
pub told_only : (A : Type 0) (o : Option BookFault) (cause : BookFault) → o ≡ Some cause → IsRefusedBy {A = A} IsNoFault o (Err cause)
told_only A o cause is = rw is refl

-- and where there is none
pub done_only : {A : Type 0} (o : Option BookFault) (value : A) → o ≡ None → IsRefusedBy IsNoFault o (Ok value)
done_only o value is = rw is tt

-- a name of a leaf, by the leaves and by their names
pub is_leaf-names_of : (name : List Bool) (leaves : List Leaf) → is_leaf (names_of leaves) name ≡ has_name name leaves
is_leaf-names_of name [] = refl
is_leaf-names_of name (l ∷ leaves) = ap (λ b. same_name l.name name || b) (is_leaf-names_of name leaves)

-- the open split of a name
pub splitting-none : (splits : List OpenSplit) (name : List Bool) → split_number splits name ≡ None → is_splitting splits name ≡ false
splitting-none [] name none = refl
splitting-none (o ∷ splits) name none = by_test (same_name o.name name) none (splitting-none splits name)
  where
    by_test : (b : Bool) → cond b (Some o.number) (split_number splits name) ≡ None → (split_number splits name ≡ None → is_splitting splits name ≡ false) → (b || is_splitting splits name) ≡ false
    by_test true some later = cc some
    by_test false rest later = later rest

pub number-none : (splits : List OpenSplit) (name : List Bool) → is_splitting splits name ≡ false → split_number splits name ≡ None
number-none [] name none = refl
number-none (o ∷ splits) name none = by_test (same_name o.name name) none (number-none splits name)
  where
    by_test : (b : Bool) → (b || is_splitting splits name) ≡ false → (is_splitting splits name ≡ false → split_number splits name ≡ None) → cond b (Some o.number) (split_number splits name) ≡ None
    by_test true some later = absurd (true≢false some)
    by_test false rest later = later rest

-- why a split doesn't begin
pub leaf-none : (w : ℕ) (s : State) (name : List Bool) → is_leaf s.leaves name ≡ false → leaf_refusal w s name ≡ Some NoLeaf
leaf-none w s name none = λ i. cond (not (none i)) (Some NoLeaf) (cond (nat_lt 64 (length name + w)) (Some Deep) (option_map Splitting (split_number s.splits name)))

pub leaf-deep : (w : ℕ) (s : State) (name : List Bool) → is_leaf s.leaves name ≡ true → 64 < length name + w → leaf_refusal w s name ≡ Some Deep
leaf-deep w s name is deep =
    (λ i. cond (not (is i)) (Some NoLeaf) (cond (nat_lt 64 (length name + w)) (Some Deep) (option_map Splitting (split_number s.splits name))))
    ∙ (λ i. cond (lt_is (length name + w) deep i) (Some Deep) (option_map Splitting (split_number s.splits name)))
  where
    lt_is : (n : ℕ) → 64 < n → nat_lt 64 n ≡ true
    lt_is n lt = grind (arith, nat_tests)

le_64 : (n : ℕ) → n ≤ 64 → nat_lt 64 n ≡ false
le_64 n le = grind (arith, nat_tests)

pub leaf-split : (w : ℕ) (s : State) (name : List Bool) → is_leaf s.leaves name ≡ true → length name + w ≤ 64 → leaf_refusal w s name ≡ option_map Splitting (split_number s.splits name)
leaf-split w s name is short =
    (λ i. cond (not (is i)) (Some NoLeaf) (cond (nat_lt 64 (length name + w)) (Some Deep) (option_map Splitting (split_number s.splits name))))
    ∙ (λ i. cond (le_64 (length name + w) short i) (Some Deep) (option_map Splitting (split_number s.splits name)))

-- where the first cause isn't, the later one comes
pub first_passed : (first later : Option BookFault) → first ≡ None → first_of first later ≡ later
first_passed first later none = ap (λ (o : Option BookFault). first_of o later) none

pub refused_later : {A : Type 0} (first later : Option BookFault) (result : Result A BookFault) → first ≡ None → IsRefusedBy IsNoFault later result → IsRefusedBy IsNoFault (first_of first later) result
refused_later first later result none is = subst (λ (o : Option BookFault). IsRefusedBy IsNoFault o result) (sym (first_passed first later none)) is

-- where neither comes
pub neither : (first later : Option BookFault) → first_of first later ≡ None → (first ≡ None) × (later ≡ None)
neither (Some cause) later none = cc none
neither None later none = (refl, none)

-- a book that is going on has seen no append fail
pub going_on : (entries : List Entry) → closed_refusal entries ≡ None → failed_cell entries ≡ None
going_on entries none = no_cell (failed_cell entries) none
  where
    no_cell : (o : Option ℕ) → option_map Closed o ≡ None → o ≡ None
    no_cell (Some n) e = cc e
    no_cell None e = refl

-- what lets a call be made
pub record MayCall (kept : Bool) (entries : List Entry) : Type 0 where
  pub going : failed_cell entries ≡ None
  pub few : length entries < most_events kept

pub may_call : (kept : Bool) (entries : List Entry) → length entries ≤ most_events kept → call_refusal kept entries ≡ None → MayCall kept entries
may_call kept entries most none =
    let both = neither (closed_refusal entries) (events_refusal kept entries) none in
    record { going = going_on entries both.0; few = by_test (length entries == most_events kept) refl both.1 }
  where
    below : (m n : ℕ) → n ≤ m → (n == m) ≡ false → n < m
    below m n le e = grind (arith, nat_tests)

    by_test : (b : Bool) → (length entries == most_events kept) ≡ b → cond b (Some HistoryFull) None ≡ None → length entries < most_events kept
    by_test true is e = cc e
    by_test false is e = below (most_events kept) (length entries) most is

-- what lets a split begin
pub record MayBegin (kept : Bool) (w : ℕ) (s : State) (entries : List Entry) (cells : ℕ) (name : List Bool) : Type 0 where
  pub going : failed_cell entries ≡ None
  pub few : length entries ≤ most_events_to_begin kept
  pub room : cells ≤ most_cells_to_begin
  pub leaf : is_leaf s.leaves name ≡ true
  pub short : length name + w ≤ 64
  pub free : is_splitting s.splits name ≡ false

pub may_begin : {D : Type 0} (w : ℕ) (b : BookView D) (name : List Bool) → begin_refusal w b name ≡ None → MayBegin b.kept w (state_after w b.opening b.entries) b.entries (cells_in b.log) name
may_begin w b name none =
    let s = state_after w b.opening b.entries in
    let cells = cells_in b.log in
    let n = length b.entries in
    let first = neither (closed_refusal b.entries) (first_of (room_refusal b.kept cells n) (leaf_refusal w s name)) none in
    let later = neither (room_refusal b.kept cells n) (leaf_refusal w s name) first.1 in
    by_room s n cells (going_on b.entries first.0) (nat_lt most_cells_to_begin cells) (nat_lt (most_events_to_begin b.kept) n) (is_leaf s.leaves name) (nat_lt 64 (length name + w)) refl refl refl refl later.0 later.1
  where
    not_lt : (m n : ℕ) → nat_lt m n ≡ false → n ≤ m
    not_lt m n e = grind (arith, nat_tests)

    no_split : (o : Option ℕ) → option_map Splitting o ≡ None → o ≡ None
    no_split (Some n) e = cc e
    no_split None e = refl

    by_room : (s : State) (n cells : ℕ) → failed_cell b.entries ≡ None → (much many leaf deep : Bool) → nat_lt most_cells_to_begin cells ≡ much → nat_lt (most_events_to_begin b.kept) (length b.entries) ≡ many
        → is_leaf s.leaves name ≡ leaf → nat_lt 64 (length name + w) ≡ deep
        → cond (much || many) (Some (Room cells n)) None ≡ None
        → cond (not leaf) (Some NoLeaf) (cond deep (Some Deep) (option_map Splitting (split_number s.splits name))) ≡ None → MayBegin b.kept w s b.entries cells name
    by_room s n cells going true many leaf deep m r l d room e = cc room
    by_room s n cells going false true leaf deep m r l d room e = cc room
    by_room s n cells going false false false deep m r l d room e = cc e
    by_room s n cells going false false true true m r l d room e = cc e
    by_room s n cells going false false true false m r l d room e = record {
      going = going;
      few = not_lt (most_events_to_begin b.kept) (length b.entries) r;
      room = not_lt most_cells_to_begin cells m;
      leaf = l;
      short = not_lt 64 (length name + w) d;
      free = splitting-none s.splits name (no_split (split_number s.splits name) e);
    }

-- what lets a split end
pub record MayEnd (kept : Bool) (entries : List Entry) (cells : ℕ) : Type 0 where
  pub going : failed_cell entries ≡ None
  pub few : length entries < most_events kept
  pub room : (cells == most_cells) ≡ false

pub may_end : (kept : Bool) (entries : List Entry) (cells : ℕ) → length entries ≤ most_events kept → end_refusal kept cells entries ≡ None → MayEnd kept entries cells
may_end kept entries cells most none =
    let both = neither (call_refusal kept entries) (cond (cells == most_cells) (Some LogFull) None) none in
    let call = may_call kept entries most both.0 in
    record { going = call.going; few = call.few; room = by_test (cells == most_cells) both.1 }
  where
    by_test : (b : Bool) → cond b (Some LogFull) None ≡ None → b ≡ false
    by_test true e = cc e
    by_test false e = refl

-- what lets a split be installed
pub record MayInstall {D : Type 0} (w : ℕ) (b : BookView D) (number : ℕ) (name : List Bool) (base : List Row) : Type 0 where
  pub may : MayEnd b.kept b.entries (cells_in b.log)
  pub is_open_one : is_open (state_after w b.opening b.entries).splits number name ≡ true
  pub has : has_base b.leaves name base ≡ true

pub may_install : {D : Type 0} (w : ℕ) (b : BookView D) (number : ℕ) (name : List Bool) (base : List Row) → length b.entries ≤ most_events b.kept
    → install_refusal w b number name base ≡ None → MayInstall w b number name base
may_install w b number name base most none =
    let it = is_open (state_after w b.opening b.entries).splits number name && has_base b.leaves name base in
    let both = neither (end_refusal b.kept (cells_in b.log) b.entries) (cond it None (Some (Stale number))) none in
    by_tests (may_end b.kept b.entries (cells_in b.log) most both.0) (is_open (state_after w b.opening b.entries).splits number name) (has_base b.leaves name base) refl refl both.1
  where
    by_tests : MayEnd b.kept b.entries (cells_in b.log) → (it has : Bool) → is_open (state_after w b.opening b.entries).splits number name ≡ it → has_base b.leaves name base ≡ has
        → cond (it && has) None (Some (Stale number)) ≡ None → MayInstall w b number name base
    by_tests may false has o b e = cc e
    by_tests may true false o b e = cc e
    by_tests may true true o b e = record { may = may; is_open_one = o; has = b }

-- what lets a split be abandoned
pub record MayAbandon {D : Type 0} (w : ℕ) (b : BookView D) (number : ℕ) : Type 0 where
  pub may : MayEnd b.kept b.entries (cells_in b.log)
  pub is_open_one : is_some (split_name (state_after w b.opening b.entries).splits number) ≡ true

pub may_abandon : {D : Type 0} (w : ℕ) (b : BookView D) (number : ℕ) → length b.entries ≤ most_events b.kept → abandon_refusal w b number ≡ None → MayAbandon w b number
may_abandon w b number most none =
    let it = is_some (split_name (state_after w b.opening b.entries).splits number) in
    let both = neither (end_refusal b.kept (cells_in b.log) b.entries) (cond it None (Some (NotOpen number))) none in
    record { may = may_end b.kept b.entries (cells_in b.log) most both.0; is_open_one = by_test it both.1 }
  where
    by_test : (b : Bool) → cond b None (Some (NotOpen number)) ≡ None → b ≡ true
    by_test true e = refl
    by_test false e = cc e

-- what there is
pub some_of : {A : Type 0} (o : Option A) → is_some o ≡ true → (a : A) × (o ≡ Some a)
some_of (Some a) is = (a, refl)
some_of None is = absurd (true≢false (sym is))

-- the base of the leaf of a name
pub has_base-named : (leaves : List Leaf) (name : List Bool) (base : List Row) (leaf : Leaf) → leaf_named name leaves ≡ Some leaf → has_base leaves name base ≡ same_rows leaf.bucket.base base
has_base-named leaves name base leaf named = ap (λ (o : Option Leaf). option_map_or (λ (l : Leaf). same_rows l.bucket.base base) o false) named

pub has_base-none : (leaves : List Leaf) (name : List Bool) (base : List Row) → has_name name leaves ≡ false → has_base leaves name base ≡ false
has_base-none leaves name base none = ap (λ (o : Option Leaf). option_map_or (λ (l : Leaf). same_rows l.bucket.base base) o false) (not_found leaves none)
  where
    not_found : (ls : List Leaf) → has_name name ls ≡ false → leaf_named name ls ≡ None
    not_found [] none = refl
    not_found (l ∷ ls) none = by_test (same_name l.name name) none (not_found ls)
      where
        by_test : (b : Bool) → (b || has_name name ls) ≡ false → (has_name name ls ≡ false → leaf_named name ls ≡ None) → cond b (Some l) (leaf_named name ls) ≡ None
        by_test true some later = absurd (true≢false some)
        by_test false rest later = later rest

-- the leaf that has a base
pub record Based (leaves : List Leaf) (name : List Bool) (base : List Row) : Type 0 where
  pub leaf : Leaf
  pub named : leaf_named name leaves ≡ Some leaf
  pub same : leaf.bucket.base ≡ base

pub has_base-leaf : (leaves : List Leaf) (name : List Bool) (base : List Row) → has_base leaves name base ≡ true → Based leaves name base
has_base-leaf leaves name base has = by_leaf (leaf_named name leaves) refl has
  where
    by_leaf : (o : Option Leaf) → leaf_named name leaves ≡ o → option_map_or (λ (l : Leaf). same_rows l.bucket.base base) o false ≡ true → Based leaves name base
    by_leaf (Some l) named same = record { leaf = l; named = named; same = (same_rows-decides l.bucket.base base).0 same }
    by_leaf None named same = absurd (true≢false (sym same))

-- the open split that has a number and a name
pub is_open-name : (splits : List OpenSplit) (number : ℕ) (name : List Bool) → is_open splits number name ≡ true → split_name splits number ≡ Some name
is_open-name splits number name is = by_name (split_name splits number) is
  where
    by_name : (o : Option (List Bool)) → option_map_or (λ (n : List Bool). same_name n name) o false ≡ true → o ≡ Some name
    by_name (Some n) is = ap (λ (m : List Bool). Some m) ((same_name-decides n name).0 is)
    by_name None is = absurd (true≢false (sym is))
