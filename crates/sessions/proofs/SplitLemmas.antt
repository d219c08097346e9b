-- The steps of a split, as their passes know them.
use Rattle.std.proofs.Common.{◌≡◌, inl, inr, ℕ, ◌+◌, Bool, true, List, [], ◌∷◌, ◌++◌, length, Option, Some, None, Result, Ok, Err, refl, sym, ap, subst, ◌∙◌}
use mathlib.Core.List.{IsPrefix}
use Rattle.std.specs.Prelude.{⊤, IsTrue, is_some, IfOk, IfErr, OnOk}
use Rattle.std.specs.Arc.{arc_value}
use Rattle.std.proofs.lemmas.List.{append-nil}
use Rattle.bucket_versions.specs.declared.row.Row.{Row}
use Rattle.bucket_versions.specs.Rows.{as_base}
use Rattle.plain_list.specs.declared.entries.Entry.{Entry}
use Rattle.plain_list.specs.declared.entries.Entry.TheVariants.{Begin, Install, Abandon}
use Rattle.plain_list.specs.declared.entries.Lost.{Lost}
use Rattle.plain_list.specs.declared.entries.Lost.TheVariants as lost
use Rattle.plain_list.specs.World.{places_of}
use Rattle.plain_list.specs.History.{world_after}
use Rattle.plain_list.specs.State.{State, state_after, split_name}
use Rattle.disk_trait.specs.Drive.{Drive}
use Rattle.kept_log.specs.Journal.{cells_in}
use Rattle.split_prepare.specs.declared.ticket.SplitTicket.{SplitTicket}
use Rattle.commit_book.specs.BookView.{BookView}
use Rattle.commit_book.specs.IsBook.{IsOpening, AreBooks}
use Rattle.commit_book.specs.KeptBases.{HasBaseOf}
use Rattle.commit_book.specs.SplitSteps.{Begins, Installs, Abandons}
use Rattle.commit_book.specs.Refusals.{IsRefusedBy, IsDisk, IsMemoryOrDisk, LeavesRefused, begin_refusal, end_refusal, install_refusal, abandon_refusal, first_of, closed_refusal, room_refusal, leaf_refusal}
use Rattle.commit_book.specs.declared.faults.BookFault.{BookFault}
use Rattle.commit_book.specs.declared.faults.BookFault.TheVariants as book
use Rattle.book_lock.specs.Pass.{Known}
use Rattle.book_lock.specs.Own.{IsBelow}
use Rattle.book_lock.specs.Ends.{MayNote, OwnsEnds}
use Rattle.book_lock.specs.declared.origin.Origin.{Origin}
use Rattle.book_lock.proofs.OwnSplits.{may_install, may_abandon}
use Rattle.sessions.specs.Shared.{origin_of, start_of}
use Rattle.sessions.specs.Steps.{WasTaken, Says, MayGive, has_entry, has_given}
use Rattle.sessions.specs.Splits.{HasBegun, BeginsSplit, InstallsSplit, AbandonsSplit, EndsOpen, GivesUp, BegunEnds, RanOut, NotInstalled, BeginsAs, SplitEnds, IsNotSplit, IsNextSplit, SamePass, begin_cause, number_of, state_of}
use Rattle.sessions.specs.declared.faults.Split.{Split}
use Rattle.sessions.specs.declared.faults.Split.TheVariants.{Installed, NotSplit}
use Rattle.sessions.proofs.Origins.{start-of-origin}
use Rattle.sessions.proofs.StepLemmas.{BookStep, may-give, says-all, stepped, step-same, same-later, prefix-later}
use Rattle.sessions.proofs.LiveSplits.{begun-rows, still_open, never-stale, never-ended}

-- the begin that was just noted
pub begun-now : {D : Type 0} (drive : D → Drive) (w : ℕ) (b mid : BookView D) (old took back : Known) (name : List Bool) (ticket : SplitTicket) → Begins w b mid name ticket → AreBooks drive w b mid
    → WasTaken drive b old took → IsBelow (length took.seen) took.own → back ≡ has_given took true mid.entries → HasBegun back ticket.number name (arc_value ticket.bucket).base
begun-now drive w b mid old took back name ticket begins books was below back_is =
    let base = (arc_value ticket.bucket).base in
    let origin_is : b.opening.world ≡ back.origin.world = ap (λ (o : Origin). o.world) was.origin ∙ ap (λ (k : Known). k.origin.world) (sym was.took_is) ∙ ap (λ (k : Known). k.origin.world) (sym back_is) in
    let seen : took.seen ++ Begin ticket.number name ∷ [] ≡ back.seen =
    ap (λ (l : List Entry). l ++ Begin ticket.number name ∷ []) (sym was.entries) ∙ sym begins.entries ∙ ap (λ (k : Known). k.seen) (sym back_is) in
    record {
      before = took.seen;
      own = took.own;
      seen = ([], append-nil (took.seen ++ Begin ticket.number name ∷ []) ∙ seen);
      own_is = ap (λ (k : Known). k.own) back_is;
      below = below;
      rows = subst (λ (world : _). HasBaseOf (places_of world) (record { name = name; bucket = as_base base })) (λ i. world_after (origin_is i) (was.entries i)) (begun-rows drive w b mid name ticket begins books);
    }

-- later it is still so
pub begun-later : (old new : Known) (number : ℕ) (name : List Bool) (base : List Row) → IsPrefix old.seen new.seen → new.own ≡ old.own → new.origin ≡ old.origin → HasBegun old number name base → HasBegun new number name base
begun-later old new number name base later own origin begun = record {
  before = begun.before;
  own = begun.own;
  seen = prefix-later (begun.before ++ Begin number name ∷ []) old.seen new.seen begun.seen later;
  own_is = own ∙ begun.own_is;
  below = begun.below;
  rows = subst (λ (o : Origin). HasBaseOf (places_of (world_after o.world begun.before)) (record { name = name; bucket = as_base base })) (sym origin) begun.rows;
}

-- so the pass may note its end
begun-install : (pass : Known) (number : ℕ) (name : List Bool) (base : List Row) → HasBegun pass number name base → MayNote pass.seen pass.own (Install number)
begun-install pass number name base begun = subst (λ (own : List ℕ). MayNote pass.seen own (Install number)) (sym begun.own_is) (may_install begun.before pass.seen begun.own number name begun.seen)

begun-abandon : (pass : Known) (number : ℕ) (name : List Bool) (base : List Row) → HasBegun pass number name base → MayNote pass.seen pass.own (Abandon number)
begun-abandon pass number name base begun = subst (λ (own : List ℕ). MayNote pass.seen own (Abandon number)) (sym begun.own_is) (may_abandon begun.before pass.seen begun.own number name begun.seen)

pub number-entry : (r : Result SplitTicket BookFault) → has_entry (number_of r) ≡ has_entry r
number-entry (Ok t) = refl
number-entry (Err (book.Disk cell)) = refl
number-entry (Err (book.Closed cell)) = refl
number-entry (Err book.HistoryFull) = refl
number-entry (Err book.LogFull) = refl
number-entry (Err book.Memory) = refl
number-entry (Err (book.Room cells events)) = refl
number-entry (Err (book.Splitting number)) = refl
number-entry (Err book.Deep) = refl
number-entry (Err book.NoLeaf) = refl
number-entry (Err (book.Stale number)) = refl
number-entry (Err (book.NotOpen number)) = refl

number-refused : (IsFree : BookFault → Type 0) (cause : Option BookFault) (r : Result SplitTicket BookFault) → IsRefusedBy IsFree cause r → IsRefusedBy IsFree cause (number_of r)
number-refused IsFree None (Ok t) refused = tt
number-refused IsFree None (Err fault) refused = refused
number-refused IsFree (Some cause) (Ok t) refused = absurd (cc refused)
number-refused IsFree (Some cause) (Err fault) refused = let same : fault ≡ cause = cc refused in ap (λ (f : BookFault). Err f) same

-- the state that the pass knows is the book's
pass-state : {D : Type 0} (drive : D → Drive) (w : ℕ) (b : BookView D) (old : Known) → origin_of drive b ≡ old.origin → IsOpening w b.opening → (h : List Entry) → state_after w b.opening h ≡ state_of w old.origin h
pass-state drive w b old origin opening h =
    let start : start_of (origin_of drive b) ≡ b.opening = start-of-origin drive w b opening in
    (λ i. state_after w (sym start i) h) ∙ (λ i. state_after w (start_of (origin i)) h)

module _ {D : Type 0} (drive : D → Drive) (w : ℕ) (b mid : BookView D) (old took back : Known) (name : List Bool) (was : WasTaken drive b old took) (books : AreBooks drive w b mid) where
  book-state : (h : List Entry) → state_after w b.opening h ≡ state_of w old.origin h
  book-state = pass-state drive w b old was.origin books.before.opening

  begin-added : (r : Result SplitTicket BookFault) → IfOk r (λ t. Begins w b mid name t) → Says (λ (number : ℕ). mid.entries ≡ b.entries ++ Begin number name ∷ []) (number_of r)
  begin-added (Ok t) ok = ok.entries
  begin-added (Err fault) ok = tt

  begin-says : (r : Result SplitTicket BookFault) → IfOk r (λ t. Begins w b mid name t) → Says (IsNextSplit w old.origin b.entries) (number_of r)
  begin-says (Ok t) ok = ok.number_is ∙ ap (λ (s : State). s.begun + 1) (book-state b.entries)
  begin-says (Err fault) ok = tt

  begin-left : (r : Result SplitTicket BookFault) → IfErr r (LeavesRefused drive (lost.Begin ((state_after w b.opening b.entries).begun + 1) name) b mid)
      → IfErr (number_of r) (LeavesRefused drive (lost.Begin ((state_of w old.origin b.entries).begun + 1) name) b mid)
  begin-left (Ok t) err = tt
  begin-left (Err fault) err = subst (λ (s : State). LeavesRefused drive (lost.Begin (s.begun + 1) name) b mid fault) (book-state b.entries) err

  begin-refused : (r : Result SplitTicket BookFault) → IsRefusedBy IsMemoryOrDisk (begin_refusal w b name) r → IsRefusedBy IsMemoryOrDisk (begin_cause w old.origin name (cells_in b.log) b.entries) (number_of r)
  begin-refused r refused =
      let cause : begin_refusal w b name ≡ begin_cause w old.origin name (cells_in b.log) b.entries =
      (λ i. first_of (closed_refusal b.entries) (first_of (room_refusal (was.origin i).kept (cells_in b.log) (length b.entries)) (leaf_refusal w (book-state b.entries i) name))) in
      subst (λ (o : Option BookFault). IsRefusedBy IsMemoryOrDisk o (number_of r)) cause (number-refused IsMemoryOrDisk (begin_refusal w b name) r refused)

  pub begun-step : (r : Result SplitTicket BookFault) → IfOk r (λ t. Begins w b mid name t) → IsRefusedBy IsMemoryOrDisk (begin_refusal w b name) r → IfErr r (LeavesRefused drive (lost.Begin ((state_after w b.opening b.entries).begun + 1) name) b mid)
      → BookStep drive IsMemoryOrDisk (begin_cause w old.origin name (cells_in b.log) b.entries) (λ (number : ℕ). Begin number name) (lost.Begin ((state_of w old.origin b.entries).begun + 1) name) b mid (number_of r)
  begun-step r ok refused err = record { refused = begin-refused r refused; added = begin-added r ok; left = begin-left r err }

  pub begun : (r : Result SplitTicket BookFault) → IfOk r (λ t. Begins w b mid name t) → IsRefusedBy IsMemoryOrDisk (begin_refusal w b name) r → IfErr r (LeavesRefused drive (lost.Begin ((state_after w b.opening b.entries).begun + 1) name) b mid)
      → back ≡ has_given took (has_entry r) mid.entries → BeginsSplit w name old back (number_of r)
  begun r ok refused err given =
      stepped drive w IsMemoryOrDisk (begin_cause w old.origin name) (λ (number : ℕ). Begin number name) (λ (h : List Entry). lost.Begin ((state_of w old.origin h).begun + 1) name) (IsNextSplit w old.origin) b mid old took back (number_of r)
      books.before was (begun-step r ok refused err) (begin-says r ok) (given ∙ ap (λ (g : Bool). has_given took g mid.entries) (sym (number-entry r)))

  -- and it has begun the split
  pub begun-notes : (r : Result SplitTicket BookFault) → IfOk r (λ t. Begins w b mid name t) → IsBelow (length took.seen) took.own → back ≡ has_given took (has_entry r) mid.entries
      → IfOk r (λ t. HasBegun back t.number name (arc_value t.bucket).base)
  begun-notes (Ok t) ok below given = begun-now drive w b mid old took back name t ok books was below given
  begun-notes (Err fault) ok below given = tt

pub begun-name : {D : Type 0} (w : ℕ) (b mid : BookView D) (name : List Bool) (r : Result SplitTicket BookFault) → IfOk r (λ t. Begins w b mid name t) → IfOk r (λ t. t.name ≡ name)
begun-name w b mid name (Ok t) ok = ok.name_is
begun-name w b mid name (Err fault) ok = tt

-- the end of a split
module _ {D : Type 0} (drive : D → Drive) (w : ℕ) (b mid : BookView D) (old took back : Known) (was : WasTaken drive b old took) (books : AreBooks drive w b mid) where
  none-said : (r : Result (Unit {0}) BookFault) → Says (λ (done : Unit {0}). ⊤) r
  none-said (Ok done) = tt
  none-said (Err fault) = tt

  end-step : (IsFree : BookFault → Type 0) (cause : Option BookFault) (e : Entry) (step : Lost) (r : Result (Unit {0}) BookFault) → cause ≡ end_refusal b.kept (cells_in b.log) b.entries → IsRefusedBy IsFree cause r
      → OnOk r (mid.entries ≡ b.entries ++ e ∷ []) → IfErr r (LeavesRefused drive step b mid) → BookStep drive IsFree (end_refusal b.kept (cells_in b.log) b.entries) (λ (done : Unit {0}). e) step b mid r
  end-step IsFree cause e step (Ok done) same refused added left = record { refused = subst (λ (o : Option BookFault). IsRefusedBy {A = Unit {0}} IsFree o (Ok done)) same refused; added = added; left = left }
  end-step IsFree cause e step (Err fault) same refused added left = record { refused = subst (λ (o : Option BookFault). IsRefusedBy {A = Unit {0}} IsFree o (Err fault)) same refused; added = tt; left = left }

  -- the split is open in the history that the pass has seen
  open-there : (number : ℕ) (name : List Bool) → split_name (state_after w b.opening b.entries).splits number ≡ Some name → IsTrue (is_some (split_name (state_of w old.origin took.seen).splits number))
  open-there number name there =
      let state : state_after w b.opening b.entries ≡ state_of w old.origin took.seen = pass-state drive w b old was.origin books.before.opening b.entries ∙ ap (state_of w old.origin) was.entries in
      subst (λ (s : State). IsTrue (is_some (split_name s.splits number))) state (subst (λ (o : Option (List Bool)). IsTrue (is_some o)) (sym there) refl)

  ended : (IsFree : BookFault → Type 0) (number : ℕ) (name : List Bool) (e : Entry) (step : Lost) (r : Result (Unit {0}) BookFault) → split_name (state_after w b.opening b.entries).splits number ≡ Some name
      → BookStep drive IsFree (end_refusal b.kept (cells_in b.log) b.entries) (λ (done : Unit {0}). e) step b mid r → back ≡ has_given took (has_entry r) mid.entries → EndsOpen w number IsFree e step old back r
  ended IsFree number name e step r there it given = record {
    step = stepped drive w IsFree (end_refusal old.origin.kept) (λ (done : Unit {0}). e) (λ (h : List Entry). step) (λ (h : List Entry) (done : Unit {0}). ⊤) b mid old took back r books.before was
        (subst (λ (o : Origin). BookStep drive IsFree (end_refusal o.kept (cells_in b.log) b.entries) (λ (done : Unit {0}). e) step b mid r) was.origin it) (none-said r) given;
    is_open = open-there number name there;
  }

installed-added : {D : Type 0} (w : ℕ) (b mid : BookView D) (number : ℕ) (name : List Bool) (r : Result (Unit {0}) BookFault) → OnOk r (Installs w b mid number name) → OnOk r (mid.entries ≡ b.entries ++ Install number ∷ [])
installed-added w b mid number name (Ok done) ok = ok.entries
installed-added w b mid number name (Err fault) ok = tt

abandoned-added : {D : Type 0} (b mid : BookView D) (number : ℕ) (r : Result (Unit {0}) BookFault) → OnOk r (Abandons b mid number) → OnOk r (mid.entries ≡ b.entries ++ Abandon number ∷ [])
abandoned-added b mid number (Ok done) ok = ok.entries
abandoned-added b mid number (Err fault) ok = tt

-- the end of a split that the pass has begun
module _ {D : Type 0} (drive : D → Drive) (w : ℕ) (b mid : BookView D) (old took : Known) (was : WasTaken drive b old took) (books : AreBooks drive w b mid) (ends : OwnsEnds took.seen took.own)
    (number : ℕ) (name : List Bool) (base : List Row) (has : HasBegun old number name base) (r : Result (Unit {0}) BookFault) where
  begun-took : HasBegun took number name base
  begun-took = begun-later old took number name base was.later (ap (λ (k : Known). k.own) was.took_is) (ap (λ (k : Known). k.origin) was.took_is) has

  origin-took : origin_of drive b ≡ took.origin
  origin-took = was.origin ∙ ap (λ (k : Known). k.origin) (sym was.took_is)

  there : split_name (state_after w b.opening b.entries).splits number ≡ Some name
  there = still_open drive w b took number name base books.before origin-took was.entries ends begun-took

  install-step : IsRefusedBy IsMemoryOrDisk (install_refusal w b number name base) r → OnOk r (Installs w b mid number name) → IfErr r (LeavesRefused drive (lost.Install number) b mid)
      → BookStep drive IsMemoryOrDisk (end_refusal b.kept (cells_in b.log) b.entries) (λ (done : Unit {0}). Install number) (lost.Install number) b mid r
  install-step refused ok err =
      end-step drive w b mid old took took was books IsMemoryOrDisk (install_refusal w b number name base) (Install number) (lost.Install number) r
      (never-stale drive w b took number name base books.before origin-took was.entries ends begun-took) refused (installed-added w b mid number name r ok) err

  pub install-may : IsRefusedBy IsMemoryOrDisk (install_refusal w b number name base) r → OnOk r (Installs w b mid number name) → IfErr r (LeavesRefused drive (lost.Install number) b mid) → MayGive took (has_entry r) mid.entries
  install-may refused ok err =
      may-give drive IsMemoryOrDisk (end_refusal b.kept (cells_in b.log) b.entries) (λ (done : Unit {0}). Install number) (lost.Install number) b mid took was.entries r (install-step refused ok err)
      (says-all (λ (done : Unit {0}). MayNote took.seen took.own (Install number)) (λ (done : Unit {0}). begun-install took number name base begun-took) r)

  pub install-ends : (back : Known) → IsRefusedBy IsMemoryOrDisk (install_refusal w b number name base) r → OnOk r (Installs w b mid number name) → IfErr r (LeavesRefused drive (lost.Install number) b mid) → back ≡ has_given took (has_entry r) mid.entries
      → EndsOpen w number IsMemoryOrDisk (Install number) (lost.Install number) old back r
  install-ends back refused ok err given = ended drive w b mid old took back was books IsMemoryOrDisk number name (Install number) (lost.Install number) r there (install-step refused ok err) given

  abandon-step : IsRefusedBy IsDisk (abandon_refusal w b number) r → OnOk r (Abandons b mid number) → IfErr r (LeavesRefused drive (lost.Abandon number) b mid)
      → BookStep drive IsDisk (end_refusal b.kept (cells_in b.log) b.entries) (λ (done : Unit {0}). Abandon number) (lost.Abandon number) b mid r
  abandon-step refused ok err =
      end-step drive w b mid old took took was books IsDisk (abandon_refusal w b number) (Abandon number) (lost.Abandon number) r
      (never-ended drive w b took number name base books.before origin-took was.entries ends begun-took) refused (abandoned-added b mid number r ok) err

  pub abandon-may : IsRefusedBy IsDisk (abandon_refusal w b number) r → OnOk r (Abandons b mid number) → IfErr r (LeavesRefused drive (lost.Abandon number) b mid) → MayGive took (has_entry r) mid.entries
  abandon-may refused ok err =
      may-give drive IsDisk (end_refusal b.kept (cells_in b.log) b.entries) (λ (done : Unit {0}). Abandon number) (lost.Abandon number) b mid took was.entries r (abandon-step refused ok err)
      (says-all (λ (done : Unit {0}). MayNote took.seen took.own (Abandon number)) (λ (done : Unit {0}). begun-abandon took number name base begun-took) r)

  pub abandon-ends : (back : Known) → IsRefusedBy IsDisk (abandon_refusal w b number) r → OnOk r (Abandons b mid number) → IfErr r (LeavesRefused drive (lost.Abandon number) b mid) → back ≡ has_given took (has_entry r) mid.entries
      → EndsOpen w number IsDisk (Abandon number) (lost.Abandon number) old back r
  abandon-ends back refused ok err given = ended drive w b mid old took back was books IsDisk number name (Abandon number) (lost.Abandon number) r there (abandon-step refused ok err) given

-- what a split leaves is the pass with more seen and own
pub begins-same : (w : ℕ) (name : List Bool) (old new : Known) (r : Result ℕ BookFault) → BeginsSplit w name old new r → SamePass old new
begins-same w name old new r step =
    step-same IsMemoryOrDisk (begin_cause w old.origin name) (λ (number : ℕ). Begin number name) (λ (h : List Entry). lost.Begin ((state_of w old.origin h).begun + 1) name) (IsNextSplit w old.origin) old new r step

pub installs-same : (w number : ℕ) (old new : Known) (r : Result (Unit {0}) BookFault) → InstallsSplit w number old new r → SamePass old new
installs-same w number old new r ends = step-same IsMemoryOrDisk (end_refusal old.origin.kept) (λ (done : Unit {0}). Install number) (λ (h : List Entry). lost.Install number) (λ (h : List Entry) (done : Unit {0}). ⊤) old new r ends.step

pub abandons-same : (w number : ℕ) (old new : Known) (r : Result (Unit {0}) BookFault) → AbandonsSplit w number old new r → SamePass old new
abandons-same w number old new r ends = step-same IsDisk (end_refusal old.origin.kept) (λ (done : Unit {0}). Abandon number) (λ (h : List Entry). lost.Abandon number) (λ (h : List Entry) (done : Unit {0}). ⊤) old new r ends.step

pub gives-same : (w number : ℕ) (old new : Known) (fault : BookFault) → GivesUp w number old new fault → SamePass old new
gives-same w number old new fault (inl (memory, step)) = abandons-same w number old new (Ok tt) step
gives-same w number old new fault (inr step) = abandons-same w number old new (Err fault) step

pub same-none : (pass : Known) → SamePass pass pass
same-none pass = (([], append-nil pass.seen), refl)

ran-same : (w number : ℕ) (mid seen : Known) → RanOut w number mid seen → SamePass mid seen
ran-same w number mid seen (inl same) = subst (SamePass mid) (sym same) (same-none mid)
ran-same w number mid seen (inr step) = installs-same w number mid seen (Err book.Memory) step

pub not-same : (w number : ℕ) (mid new : Known) (fault : BookFault) → NotInstalled w number mid new fault → SamePass mid new
not-same w number mid new fault (inl (lasting, step)) = installs-same w number mid new (Err fault) step
not-same w number mid new fault (inr (seen, ran, gives)) = same-later mid seen new (ran-same w number mid seen ran) (gives-same w number seen new fault gives)

pub split-same : (w : ℕ) (name : List Bool) (old new : Known) (split : Split) → SplitEnds w name old new split → SamePass old new
split-same w name old new (Installed number) (mid, begins, step) = same-later old mid new (begins-same w name old mid (Ok number) begins) (installs-same w number mid new (Ok tt) step)
split-same w name old new (NotSplit fault) (inl step) = begins-same w name old new (Err fault) step
split-same w name old new (NotSplit fault) (inr (number, mid, begins, not)) = same-later old mid new (begins-same w name old mid (Ok number) begins) (not-same w number mid new fault not)

-- where memory ran out in the installation, the pass has still begun the split
pub begun-still : (w number : ℕ) (name : List Bool) (base : List Row) (mid seen : Known) → HasBegun mid number name base → InstallsSplit w number mid seen (Err book.Memory) → HasBegun seen number name base
begun-still w number name base mid seen begun ends =
    let is = ends.step.leaves in
    begun-later mid seen number name base (subst (IsPrefix mid.seen) (sym (ap (λ (k : Known). k.seen) is)) ends.step.later) (ap (λ (k : Known). k.own) is) (ap (λ (k : Known). k.origin) is) begun

-- a split that was begun is given up
pub given-up : (w number : ℕ) (mid seen new : Known) (split : Split) → RanOut w number mid seen → IsNotSplit (GivesUp w number seen new) split → BegunEnds w number mid new split
given-up w number mid seen new (Installed n) ran not = absurd not
given-up w number mid seen new (NotSplit fault) ran not = inr (seen, ran, not)

-- so a split ends that was begun
pub begun-ends : (w number : ℕ) (name : List Bool) (old mid new : Known) (split : Split) → BeginsAs w name old mid number → BegunEnds w number mid new split → SplitEnds w name old new split
begun-ends w number name old mid new (Installed n) begins (same, step) = (mid, subst (BeginsAs w name old mid) (sym same) begins, subst (λ (m : ℕ). InstallsSplit w m mid new (Ok tt)) (sym same) step)
begun-ends w number name old mid new (NotSplit fault) begins not = inr (number, mid, begins, not)
