-- One step under the lock: what it leaves of a pass.
use Rattle.std.proofs.Common.{◌≡◌, inl, inr, ℕ, Bool, true, false, List, [], ◌∷◌, ◌++◌, length, Option, Some, None, Result, Ok, Err, refl, sym, ap, subst, ◌∙◌, append_assoc, arith}
use mathlib.Core.List.{IsPrefix}
use Rattle.std.specs.Prelude.{IfErr}
use Rattle.plain_list.specs.declared.ops.Op.{Op}
use Rattle.plain_list.specs.declared.entries.Entry.{Entry}
use Rattle.plain_list.specs.declared.entries.Entry.TheVariants.{Call, Begin, Fail}
use Rattle.plain_list.specs.declared.entries.Lost.{Lost}
use Rattle.plain_list.specs.State.{State}
use Rattle.disk_trait.specs.Drive.{Drive}
use Rattle.std.specs.Option.{option_map, option_map_or}
use Rattle.kept_log.specs.KeptView.{KeptView, Earlier}
use Rattle.kept_log.specs.Journal.{KeepsFrom, KeepsIn, cells_in, written_in}
use Rattle.kept_log.specs.Counts.{count_after}
use Rattle.kept_log.proofs.Moving.{unmoved-count}
use Rattle.commit_book.specs.BookView.{BookView}
use Rattle.commit_book.specs.IsBook.{IsBook}
use Rattle.commit_book.specs.Refusals.{IsRefusedBy, LeavesRefused, first_of}
use Rattle.commit_book.specs.declared.faults.BookFault.{BookFault}
use Rattle.commit_book.specs.declared.faults.BookFault.TheVariants.{Closed, Disk, HistoryFull, LogFull, Memory, Room, Splitting, Deep, NoLeaf, Stale, NotOpen}
use Rattle.book_lock.specs.Pass.{Known}
use Rattle.book_lock.specs.Ends.{MayNote}
use Rattle.book_lock.specs.declared.origin.LogStart.{LogStart}
use Rattle.sessions.specs.Shared.{origin_of, start_in, waits_in, moves_of}
use Rattle.sessions.specs.Steps.{cells_at, IsCount, WasTaken, IsStep, Leaves, Says, MayGive, has_entry, has_given, has_added, has_seen}
use Rattle.sessions.specs.Splits.{SamePass}

pub prefix-later : (xs ys zs : List Entry) → IsPrefix xs ys → IsPrefix ys zs → IsPrefix xs zs
prefix-later xs ys zs (a, p) (b, q) = (a ++ b, sym (append_assoc xs a b) ∙ ap (λ (l : List Entry). l ++ b) p ∙ q)

log-cells : {D : Type 0} (drive : D → Drive) (w : ℕ) (s : State) (h : List Entry) (log : Option (KeptView D)) → KeepsIn drive w s h log
    → option_map_or (λ (start : LogStart). start.moves) (option_map (start_in drive) log) false ≡ false
    → cells_in log ≡ count_after (option_map (λ (start : LogStart). start.cells) (option_map (start_in drive) log)) s.world h
log-cells drive w s h None keeps still = refl
log-cells drive w s h (Some log) keeps still = unmoved-count drive w s h log still keeps

-- the number of cells of a book's log, if no fresh one may replace it
pub cells-at : {D : Type 0} (drive : D → Drive) (w : ℕ) (b : BookView D) → IsBook drive w b → moves_of (origin_of drive b) ≡ false → cells_in b.log ≡ cells_at (origin_of drive b) b.entries
cells-at drive w b is still = log-cells drive w b.opening b.entries b.log is.on_log still

-- so a pass knows it that has taken the book
pub count-taken : {D : Type 0} (drive : D → Drive) (w : ℕ) (b : BookView D) (old took : Known) → IsBook drive w b → WasTaken drive b old took → IsCount old.origin took.seen (cells_in b.log)
count-taken drive w b old took is was still = cells-at drive w b is (ap moves_of was.origin ∙ still) ∙ (λ i. cells_at (was.origin i) (was.entries i))

-- where no record waits for a sync, none waits
pub none-waits : {D : Type 0} (drive : D → Drive) (w : ℕ) (s : State) (h : List Entry) (log : KeptView D) → KeepsIn drive w s h (Some log) → log.at_sync ≡ false → log.waiting ≡ []
none-waits {D = D} drive w s h log keeps once = go log.earlier keeps
  where
    go : (earlier : Option (Earlier D)) → KeepsFrom drive w s h log earlier → log.waiting ≡ []
    go None keeps = (keeps.at_once once).0
    go (Some earlier) keeps = (keeps.keeps.at_once once).0

-- then all are in the file
pub written-all : {D : Type 0} (drive : D → Drive) (w : ℕ) (b : BookView D) → IsBook drive w b → waits_in (origin_of drive b) ≡ false → written_in b.log ≡ cells_in b.log
written-all {D = D} drive w b is once = by_log b.log is.on_log once
  where
    by_log : (log : Option (KeptView D)) → KeepsIn drive w b.opening b.entries log → option_map_or (λ (start : LogStart). start.at_sync) (option_map (start_in drive) log) false ≡ false → written_in log ≡ cells_in log
    by_log None keeps once = refl
    by_log (Some log) keeps once = omega (arith, ap length (none-waits drive w b.opening b.entries log keeps once))

-- where no later cause comes, the first one does
pub first-none : (cause : Option BookFault) → first_of cause None ≡ cause
first-none (Some cause) = refl
first-none None = refl

-- a call, a begin and a failed append end no split, so anybody may note them
pub call-may : (session row : ℕ) (o : Op) (seen : List Entry) (own : List ℕ) → MayNote seen own (Call session row o)
call-may session row o seen own n (inl is) = absurd (cc is)
call-may session row o seen own n (inr is) = absurd (cc is)

pub begin-may : (number : ℕ) (name : List Bool) (seen : List Entry) (own : List ℕ) → MayNote seen own (Begin number name)
begin-may number name seen own n (inl is) = absurd (cc is)
begin-may number name seen own n (inr is) = absurd (cc is)

pub fail-may : (cell : ℕ) (lost : Lost) (seen : List Entry) (own : List ℕ) → MayNote seen own (Fail cell lost)
fail-may cell lost seen own n (inl is) = absurd (cc is)
fail-may cell lost seen own n (inr is) = absurd (cc is)

-- what holds of each value holds of the answered one
pub says-all : {A : Type 0} (P : A → Type 0) → ((value : A) → P value) → (result : Result A BookFault) → Says P result
says-all P all (Ok value) = all value
says-all P all (Err fault) = tt

-- what a step makes of the book
pub record BookStep {D A : Type 0} (drive : D → Drive) (IsFree : BookFault → Type 0) (cause : Option BookFault) (entry : A → Entry) (lost : Lost) (b mid : BookView D) (result : Result A BookFault) : Type 0 where
  pub refused : IsRefusedBy IsFree cause result
  pub added : Says (λ value. mid.entries ≡ b.entries ++ entry value ∷ []) result
  pub left : IfErr result (LeavesRefused drive lost b mid)

module _ {D A : Type 0} (drive : D → Drive) (IsFree : BookFault → Type 0) (cause : Option BookFault) (entry : A → Entry) (lost : Lost) (b mid : BookView D) (took : Known) (same : b.entries ≡ took.seen) where
  behind : (e : Entry) → mid.entries ≡ b.entries ++ e ∷ [] → mid.entries ≡ took.seen ++ e ∷ []
  behind e is = is ∙ ap (λ (l : List Entry). l ++ e ∷ []) same

  -- the book may be given back
  pub may-give : (result : Result A BookFault) → BookStep drive IsFree cause entry lost b mid result → Says (λ value. MayNote took.seen took.own (entry value)) result → MayGive took (has_entry result) mid.entries
  may-give (Ok value) step notes = (entry value, behind (entry value) step.added, notes)
  may-give (Err (Disk cell)) step notes = (Fail cell lost, behind (Fail cell lost) step.left.entries, fail-may cell lost took.seen took.own)
  may-give (Err (Closed cell)) step notes = ap (λ (x : BookView D). x.entries) step.left ∙ same
  may-give (Err HistoryFull) step notes = ap (λ (x : BookView D). x.entries) step.left ∙ same
  may-give (Err LogFull) step notes = ap (λ (x : BookView D). x.entries) step.left ∙ same
  may-give (Err Memory) step notes = ap (λ (x : BookView D). x.entries) step.left ∙ same
  may-give (Err (Room cells events)) step notes = ap (λ (x : BookView D). x.entries) step.left ∙ same
  may-give (Err (Splitting number)) step notes = ap (λ (x : BookView D). x.entries) step.left ∙ same
  may-give (Err Deep) step notes = ap (λ (x : BookView D). x.entries) step.left ∙ same
  may-give (Err NoLeaf) step notes = ap (λ (x : BookView D). x.entries) step.left ∙ same
  may-give (Err (Stale number)) step notes = ap (λ (x : BookView D). x.entries) step.left ∙ same
  may-give (Err (NotOpen number)) step notes = ap (λ (x : BookView D). x.entries) step.left ∙ same

pub adds : (old took back : Known) (entries : List Entry) (e : Entry) → old.holds ≡ false → took ≡ record old { seen = took.seen; holds = true } → entries ≡ took.seen ++ e ∷ [] → back ≡ has_given took true entries → back ≡ has_added old took.seen e
adds old took back entries e off took_is entries_is back_is = back_is ∙ (λ i. record (took_is i) { seen = entries_is i; own = (took_is i).own ++ length took.seen ∷ []; holds = sym off i })

-- who has given a book back doesn't hold the lock
pub given-free : (pass : Known) (grown : Bool) (entries : List Entry) → (has_given pass grown entries).holds ≡ false
given-free pass true entries = refl
given-free pass false entries = refl

pub sees : (old took back : Known) (entries : List Entry) → old.holds ≡ false → took ≡ record old { seen = took.seen; holds = true } → back ≡ has_given took false entries → back ≡ has_seen old took.seen
sees old took back entries off took_is back_is = back_is ∙ (λ i. record (took_is i) { holds = false }) ∙ (λ i. record old { seen = took.seen; holds = sym off i })

module _ {D A : Type 0} (drive : D → Drive) (IsFree : BookFault → Type 0) (cause : Option BookFault) (entry : A → Entry) (lost : List Entry → Lost) (b mid : BookView D) (old took back : Known) (was : WasTaken drive b old took) where
  behind-added : (e : Entry) → mid.entries ≡ b.entries ++ e ∷ [] → back ≡ has_given took true mid.entries → back ≡ has_added old took.seen e
  behind-added e is = adds old took back mid.entries e was.off was.took_is (is ∙ ap (λ (l : List Entry). l ++ e ∷ []) was.entries)

  pub left : (result : Result A BookFault) → BookStep drive IsFree cause entry (lost b.entries) b mid result → back ≡ has_given took (has_entry result) mid.entries → Leaves entry lost old took.seen back result
  left (Ok value) step given = behind-added (entry value) step.added given
  left (Err (Disk cell)) step given = behind-added (Fail cell (lost b.entries)) step.left.entries given ∙ ap (λ (l : List Entry). has_added old took.seen (Fail cell (lost l))) was.entries
  left (Err (Closed cell)) step given = sees old took back mid.entries was.off was.took_is given
  left (Err HistoryFull) step given = sees old took back mid.entries was.off was.took_is given
  left (Err LogFull) step given = sees old took back mid.entries was.off was.took_is given
  left (Err Memory) step given = sees old took back mid.entries was.off was.took_is given
  left (Err (Room cells events)) step given = sees old took back mid.entries was.off was.took_is given
  left (Err (Splitting number)) step given = sees old took back mid.entries was.off was.took_is given
  left (Err Deep) step given = sees old took back mid.entries was.off was.took_is given
  left (Err NoLeaf) step given = sees old took back mid.entries was.off was.took_is given
  left (Err (Stale number)) step given = sees old took back mid.entries was.off was.took_is given
  left (Err (NotOpen number)) step given = sees old took back mid.entries was.off was.took_is given

-- the step as the pass knows it
abbrev pub stepped : {D A : Type 0} (drive : D → Drive) (w : ℕ) (IsFree : BookFault → Type 0) (cause : ℕ → List Entry → Option BookFault) (entry : A → Entry) (lost : List Entry → Lost) (P : List Entry → A → Type 0)
    (b mid : BookView D) (old took back : Known) (result : Result A BookFault) → IsBook drive w b → WasTaken drive b old took → BookStep drive IsFree (cause (cells_in b.log) b.entries) entry (lost b.entries) b mid result
    → Says (P b.entries) result → back ≡ has_given took (has_entry result) mid.entries → IsStep IsFree cause entry lost P old back result
stepped drive w IsFree cause entry lost P b mid old took back result is was step says given = record {
  before = took.seen;
  later = was.later;
  alone = was.alone;
  cells = cells_in b.log;
  counted = count-taken drive w b old took is was;
  refused = subst (λ (h : List Entry). IsRefusedBy IsFree (cause (cells_in b.log) h) result) was.entries step.refused;
  says = subst (λ (h : List Entry). Says (P h) result) was.entries says;
  leaves = left drive IsFree (cause (cells_in b.log) b.entries) entry lost b mid old took back was result step given;
}

pub same-added : (old new : Known) (before : List Entry) (e : Entry) → IsPrefix old.seen before → new ≡ has_added old before e → SamePass old new
same-added old new before e later is = (
  prefix-later old.seen before new.seen later (e ∷ [], sym (ap (λ (k : Known). k.seen) is)),
  is ∙ (λ i. record old { seen = sym (ap (λ (k : Known). k.seen) is) i; own = sym (ap (λ (k : Known). k.own) is) i }),
)

pub same-seen : (old new : Known) (before : List Entry) → IsPrefix old.seen before → new ≡ has_seen old before → SamePass old new
same-seen old new before later is = (
  subst (IsPrefix old.seen) (sym (ap (λ (k : Known). k.seen) is)) later,
  is ∙ (λ i. record old { seen = sym (ap (λ (k : Known). k.seen) is) i; own = sym (ap (λ (k : Known). k.own) is) i }),
)

pub same-later : (a b c : Known) → SamePass a b → SamePass b c → SamePass a c
same-later a b c (p, q) (r, s) = (prefix-later a.seen b.seen c.seen p r, s ∙ (λ i. record (q i) { seen = c.seen; own = c.own }))

-- the rest of such a pass
pub same-parts : (a b : Known) → SamePass a b → b.parts ≡ a.parts
same-parts a b (p, q) = ap (λ (k : Known). k.parts) q

-- what a step leaves is the pass with more seen and own
leaves-same : {A : Type 0} (entry : A → Entry) (lost : List Entry → Lost) (old : Known) (before : List Entry) (new : Known) (result : Result A BookFault) → IsPrefix old.seen before → Leaves entry lost old before new result → SamePass old new
leaves-same entry lost old before new (Ok value) later is = same-added old new before (entry value) later is
leaves-same entry lost old before new (Err (Disk cell)) later is = same-added old new before (Fail cell (lost before)) later is
leaves-same entry lost old before new (Err (Closed cell)) later is = same-seen old new before later is
leaves-same entry lost old before new (Err HistoryFull) later is = same-seen old new before later is
leaves-same entry lost old before new (Err LogFull) later is = same-seen old new before later is
leaves-same entry lost old before new (Err Memory) later is = same-seen old new before later is
leaves-same entry lost old before new (Err (Room cells events)) later is = same-seen old new before later is
leaves-same entry lost old before new (Err (Splitting number)) later is = same-seen old new before later is
leaves-same entry lost old before new (Err Deep) later is = same-seen old new before later is
leaves-same entry lost old before new (Err NoLeaf) later is = same-seen old new before later is
leaves-same entry lost old before new (Err (Stale number)) later is = same-seen old new before later is
leaves-same entry lost old before new (Err (NotOpen number)) later is = same-seen old new before later is

pub step-same : {A : Type 0} (IsFree : BookFault → Type 0) (cause : ℕ → List Entry → Option BookFault) (entry : A → Entry) (lost : List Entry → Lost) (P : List Entry → A → Type 0) (old new : Known) (result : Result A BookFault)
    → IsStep IsFree cause entry lost P old new result → SamePass old new
step-same IsFree cause entry lost P old new result step = leaves-same entry lost old step.before new result step.later step.leaves
