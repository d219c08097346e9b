-- Calls, as their passes know them.
use Rattle.std.proofs.Common.{◌≡◌, inl, inr, ℕ, Bool, true, false, cond, List, [], ◌∷◌, ◌++◌, Option, Some, None, Result, Ok, Err, refl, sym, ap, subst, ◌∙◌}
use mathlib.Core.List.{IsPrefix}
use Rattle.std.specs.Prelude.{IfErr, IfOk, IsErrAnd, MatchResult, ⊤, ◌==◌, ◌&&◌, length}
use Rattle.std.specs.Option.{option_map}
use Rattle.std.proofs.lemmas.Bool.{and_right}
use Rattle.plain_list.specs.declared.ops.Op.{Op}
use Rattle.plain_list.specs.declared.ops.Op.TheVariants.{Put, Move, Remove, Find, Within, Near}
use Rattle.plain_list.specs.declared.ops.Answer.{Answer}
use Rattle.plain_list.specs.declared.ops.Answer.TheVariants.{Found, Many}
use Rattle.plain_list.specs.declared.entries.Entry.{Entry}
use Rattle.plain_list.specs.declared.entries.Entry.TheVariants.{Call, Fail}
use Rattle.plain_list.specs.declared.entries.Lost.{Lost}
use Rattle.plain_list.specs.declared.entries.Lost.TheVariants as lost
use Rattle.plain_list.specs.Queries.{members_in}
use Rattle.plain_list.specs.Answer.{answer_of, is_change}
use Rattle.plain_list.specs.History.{world_after, call_count}
use Rattle.plain_list.specs.State.{state_after}
use Rattle.plain_list.specs.Size.{full_leaf}
use Rattle.plain_list.specs.World.{World, places_of, IsWorld}
use Rattle.plain_list.proofs.Histories.{world_after-append}
use Rattle.zorder.specs.declared.points.Placed.{Placed}
use Rattle.index_layer.specs.Leaves.{Leaf}
use Rattle.index_layer.specs.Stands.{Stands}
use Rattle.disk_trait.specs.Drive.{Drive}
use Rattle.kept_log.specs.Journal.{cells_in, failed_cell}
use Rattle.commit_book.specs.BookView.{BookView}
use Rattle.commit_book.specs.IsBook.{AreBooks, most_events}
use Rattle.commit_book.specs.Answers.{IsUpdate, IsQuery, Notes}
use Rattle.commit_book.specs.Answers.{Replies as BookReplies}
use Rattle.commit_book.proofs.BookSteps.{query_keeps}
use Rattle.commit_book.specs.Refusals.{IsRefusedBy, IsMemory, IsMemoryOrDisk, IsDisk, LeavesRefused, first_of, call_refusal, update_refusal, most_cells}
use Rattle.commit_book.specs.declared.book.Done.{Done}
use Rattle.commit_book.specs.declared.book.Snapshot.{Snapshot}
use Rattle.commit_book.specs.declared.faults.BookFault.{BookFault}
use Rattle.commit_book.specs.declared.faults.BookFault.TheVariants as book
use Rattle.book_lock.specs.Pass.{Known}
use Rattle.book_lock.specs.declared.origin.Origin.{Origin}
use Rattle.sessions.specs.Shared.{origin_of, start_of, HasWorld}
use Rattle.sessions.specs.Steps.{WasTaken, Says, has_entry, has_given, Leaves}
use Rattle.sessions.specs.Opens.{leaves_seen, places_seen, Opens, OpensOf}
use Rattle.sessions.specs.Calls.{Updates, Looks, Called, CallLeaves, HasDone, Shows, LosesChange, IsAnswered, IsCallFault, MayCome, call_cause, call_fault, next_full, told_full}
use Rattle.sessions.specs.Splits.{SamePass}
use Rattle.sessions.specs.declared.faults.CallFault.{CallFault}
use Rattle.sessions.specs.declared.faults.CallFault.TheVariants as call
use Rattle.sessions.proofs.Origins.{same-origin, start-of-origin}
use Rattle.sessions.proofs.StepLemmas.{BookStep, first-none, stepped, same-added, same-seen}

told-update : (w : ℕ) (op : Op) (pass : Known) → IsUpdate op → told_full w op pass ≡ next_full w pass
told-update w (Put id at moment) pass is = refl
told-update w (Move id at moment) pass is = refl
told-update w (Remove id) pass is = refl
told-update w (Find id) pass is = refl
told-update w (Within region) pass is = absurd is
told-update w (Near at k) pass is = absurd is

pub told-query : (w : ℕ) (op : Op) (pass : Known) → IsQuery op → told_full w op pass ≡ None
told-query w (Put id at moment) pass is = absurd is
told-query w (Move id at moment) pass is = absurd is
told-query w (Remove id) pass is = absurd is
told-query w (Find id) pass is = absurd is
told-query w (Within region) pass is = refl
told-query w (Near at k) pass is = refl

listed-quiet : (b : Bool) (ms : List Placed) (n : ℕ) → is_change (cond b (Found ms) (Many n)) ≡ false
listed-quiet true ms n = refl
listed-quiet false ms n = refl

-- a query changes nothing
query-quiet : (world : World) (op : Op) → IsQuery op → is_change (answer_of world op) ≡ false
query-quiet world (Put id at moment) is = absurd is
query-quiet world (Move id at moment) is = absurd is
query-quiet world (Remove id) is = absurd is
query-quiet world (Find id) is = absurd is
query-quiet world (Within region) is = listed-quiet _ (members_in region (places_of world)) (length (members_in region (places_of world)))
query-quiet world (Near at k) is = refl

-- so the log is never in its way
query-cause : (origin : Origin) (op : Op) (cells : ℕ) (before : List Entry) → IsQuery op → call_cause origin op cells before ≡ call_refusal origin.kept before
query-cause origin op cells before is =
    let quiet : ((cells == most_cells) && is_change (answer_of (world_after origin.world before) op)) ≡ false =
    and_right (cells == most_cells) (is_change (answer_of (world_after origin.world before) op)) (query-quiet (world_after origin.world before) op is) in
    (λ i. first_of (call_refusal origin.kept before) (cond (quiet i) (Some book.LogFull) None)) ∙ first-none (call_refusal origin.kept before)

-- a pass that has seen a book's entries returns the leaf that the book returns
pub full-seen : {D : Type 0} (drive : D → Drive) (w : ℕ) (b mid : BookView D) (old back : Known) → origin_of drive b ≡ old.origin → AreBooks drive w b mid → back.seen ≡ mid.entries → back.origin ≡ old.origin
    → full_leaf w mid.bucket (state_after w mid.opening mid.entries) ≡ next_full w back
full-seen drive w b mid old back from books seen origin =
    let same : origin_of drive mid ≡ back.origin = same-origin drive b mid books.origin ∙ from ∙ sym origin in
    let start : start_of (origin_of drive mid) ≡ mid.opening = start-of-origin drive w mid books.after.opening in
    (λ i. full_leaf w mid.bucket (state_after w (sym start i) mid.entries)) ∙ (λ i. full_leaf w (same i).bucket (state_after w (start_of (same i)) (sym seen i)))

module _ {D : Type 0} (drive : D → Drive) (w : ℕ) (b mid : BookView D) (old took back : Known) (session row : ℕ) (op : Op) (was : WasTaken drive b old took) (books : AreBooks drive w b mid) where
  update-added : (r : Result Done BookFault) → IfOk r (λ d. BookReplies w b mid session row op d.place d.answer d.full) → Says (λ (d : Done). mid.entries ≡ b.entries ++ Call session row op ∷ []) r
  update-added (Ok d) ok = ok.notes.entries
  update-added (Err fault) ok = tt

  pub update-step : (r : Result Done BookFault) → IfOk r (λ d. BookReplies w b mid session row op d.place d.answer d.full) → IsRefusedBy IsMemoryOrDisk (update_refusal b op) r → IfErr r (LeavesRefused drive (lost.Call session row op) b mid)
      → BookStep drive IsMemoryOrDisk (call_cause old.origin op (cells_in b.log) b.entries) (λ (d : Done). Call session row op) (lost.Call session row op) b mid r
  update-step r ok refused err = record {
    refused = subst (λ (o : Origin). IsRefusedBy IsMemoryOrDisk (call_cause o op (cells_in b.log) b.entries) r) was.origin refused;
    added = update-added r ok;
    left = err;
  }

  back-full : back ≡ has_given took true mid.entries → full_leaf w mid.bucket (state_after w mid.opening mid.entries) ≡ next_full w back
  back-full given =
      full-seen drive w b mid old back was.origin books (ap (λ (k : Known). k.seen) given) (ap (λ (k : Known). k.origin) given ∙ ap (λ (k : Known). k.origin) was.took_is)

  -- the leaves of the book are those that the pass has seen
  back-names : back ≡ has_given took true mid.entries → (state_after w mid.opening mid.entries).leaves ≡ leaves_seen w back
  back-names given =
      let seen : back.seen ≡ mid.entries = ap (λ (k : Known). k.seen) given in
      let origin : back.origin ≡ old.origin = ap (λ (k : Known). k.origin) given ∙ ap (λ (k : Known). k.origin) was.took_is in
      let same : origin_of drive mid ≡ back.origin = same-origin drive b mid books.origin ∙ was.origin ∙ sym origin in
      let start : start_of (origin_of drive mid) ≡ mid.opening = start-of-origin drive w mid books.after.opening in
      (λ i. (state_after w (sym start i) mid.entries).leaves) ∙ (λ i. (state_after w (start_of (same i)) (sym seen i)).leaves)

  update-says : (r : Result Done BookFault) → IsUpdate op → IfOk r (λ d. BookReplies w b mid session row op d.place d.answer d.full) → back ≡ has_given took (has_entry r) mid.entries → Says (HasDone w old back op b.entries) r
  update-says (Ok d) update ok given = record {
    replies = record {
      place_is = ok.notes.place_is ∙ ap call_count (sym (ap (λ (k : Known). k.seen) given));
      answer_is = ok.answer_is ∙ ap (λ (o : Origin). answer_of (world_after o.world b.entries) op) was.origin;
    };
    full_is = ok.full_is ∙ back-full given ∙ sym (told-update w op back update);
  }
  update-says (Err fault) update ok given = tt

  update-loses : (r : Result Done BookFault) → IfErr r (LeavesRefused drive (lost.Call session row op) b mid) → LosesChange (world_after old.origin.world took.seen) op r
  update-loses (Ok d) err = tt
  update-loses (Err (book.Disk cell)) err =
      let world : world_after b.opening.world b.entries ≡ world_after old.origin.world took.seen = (λ i. world_after (was.origin i).world (was.entries i)) in
      subst (λ (list : World). is_change (answer_of list op) ≡ true) world err.change
  update-loses (Err (book.Closed cell)) err = tt
  update-loses (Err book.HistoryFull) err = tt
  update-loses (Err book.LogFull) err = tt
  update-loses (Err book.Memory) err = tt
  update-loses (Err (book.Room cells events)) err = tt
  update-loses (Err (book.Splitting number)) err = tt
  update-loses (Err book.Deep) err = tt
  update-loses (Err book.NoLeaf) err = tt
  update-loses (Err (book.Stale number)) err = tt
  update-loses (Err (book.NotOpen number)) err = tt

  pub updated : (r : Result Done BookFault) → IsUpdate op → IfOk r (λ d. BookReplies w b mid session row op d.place d.answer d.full) → IsRefusedBy IsMemoryOrDisk (update_refusal b op) r → IfErr r (LeavesRefused drive (lost.Call session row op) b mid)
      → back ≡ has_given took (has_entry r) mid.entries → Updates w session row op old back r
  updated r update ok refused err given = record {
    step = stepped drive w IsMemoryOrDisk (call_cause old.origin op) (λ (d : Done). Call session row op) (λ (h : List Entry). lost.Call session row op) (HasDone w old back op) b mid old took back r books.before was
        (update-step r ok refused err) (update-says r update ok given) given;
    loses = update-loses r err;
  }

-- a cause, where there is one, is of these
pub record AreCauses (P : BookFault → Type 0) (o : Option BookFault) : Type 0 where
  pub each : (cause : BookFault) → o ≡ Some cause → P cause

pub causes-none : (P : BookFault → Type 0) → AreCauses P None
causes-none P = record { each = λ cause is. absurd (cc is) }

causes-some : (P : BookFault → Type 0) (c : BookFault) → P c → AreCauses P (Some c)
causes-some P c is = record { each = λ cause same. let e : c ≡ cause = cc same in subst P e is }

pub causes-first : (P : BookFault → Type 0) (a b : Option BookFault) → AreCauses P a → AreCauses P b → AreCauses P (first_of a b)
causes-first P None b one two = two
causes-first P (Some cause) b one two = one

pub causes-if : (P : BookFault → Type 0) (b : Bool) (cause : BookFault) → P cause → AreCauses P (cond b (Some cause) None)
causes-if P true cause is = causes-some P cause is
causes-if P false cause is = causes-none P

pub causes-map : (P : BookFault → Type 0) (f : ℕ → BookFault) (o : Option ℕ) → ((n : ℕ) → P (f n)) → AreCauses P (option_map f o)
causes-map P f None is = causes-none P
causes-map P f (Some n) is = causes-some P (f n) (is n)

pub refused-cause : (A : Type 0) (IsFree P : BookFault → Type 0) (cause : Option BookFault) (fault : BookFault) → AreCauses P cause → (IsFree fault → P fault) → IsRefusedBy {A = A} IsFree cause (Err fault) → P fault
refused-cause A IsFree P None fault are free refused = free refused
refused-cause A IsFree P (Some cause) fault are free refused = let same : cause ≡ fault = cc refused in subst P same (are.each cause refl)

-- the causes of any step
pub call-causes : (P : BookFault → Type 0) (kept : Bool) (h : List Entry) → ((n : ℕ) → P (book.Closed n)) → P book.HistoryFull → AreCauses P (call_refusal kept h)
call-causes P kept h closed full =
    causes-first P (option_map book.Closed (failed_cell h)) (cond (length h == most_events kept) (Some book.HistoryFull) None) (causes-map P book.Closed (failed_cell h) closed) (causes-if P (length h == most_events kept) book.HistoryFull full)

-- any fault but of the drive
abbrev pub IsCalm : BookFault → Type 0
IsCalm (book.Disk cell) = ⊥
IsCalm (book.Closed cell) = ⊤
IsCalm book.HistoryFull = ⊤
IsCalm book.LogFull = ⊤
IsCalm book.Memory = ⊤
IsCalm (book.Room cells events) = ⊤
IsCalm (book.Splitting number) = ⊤
IsCalm book.Deep = ⊤
IsCalm book.NoLeaf = ⊤
IsCalm (book.Stale number) = ⊤
IsCalm (book.NotOpen number) = ⊤

calm-left : {D : Type 0} (drive : D → Drive) (step : Lost) (b mid : BookView D) (fault : BookFault) → IsCalm fault → mid ≡ b → LeavesRefused drive step b mid fault
calm-left drive step b mid (book.Disk cell) calm is = absurd calm
calm-left drive step b mid (book.Closed cell) calm is = is
calm-left drive step b mid book.HistoryFull calm is = is
calm-left drive step b mid book.LogFull calm is = is
calm-left drive step b mid book.Memory calm is = is
calm-left drive step b mid (book.Room cells events) calm is = is
calm-left drive step b mid (book.Splitting number) calm is = is
calm-left drive step b mid book.Deep calm is = is
calm-left drive step b mid book.NoLeaf calm is = is
calm-left drive step b mid (book.Stale number) calm is = is
calm-left drive step b mid (book.NotOpen number) calm is = is

-- so nothing was lost
pub calm-loses : (A : Type 0) (world : World) (op : Op) (fault : BookFault) → IsCalm fault → LosesChange {A = A} world op (Err fault)
calm-loses A world op (book.Disk cell) calm = absurd calm
calm-loses A world op (book.Closed cell) calm = tt
calm-loses A world op book.HistoryFull calm = tt
calm-loses A world op book.LogFull calm = tt
calm-loses A world op book.Memory calm = tt
calm-loses A world op (book.Room cells events) calm = tt
calm-loses A world op (book.Splitting number) calm = tt
calm-loses A world op book.Deep calm = tt
calm-loses A world op book.NoLeaf calm = tt
calm-loses A world op (book.Stale number) calm = tt
calm-loses A world op (book.NotOpen number) calm = tt

pub look-calm : (A : Type 0) (kept : Bool) (h : List Entry) (fault : BookFault) → IsRefusedBy {A = A} IsMemory (call_refusal kept h) (Err fault) → IsCalm fault
look-calm A kept h fault refused = refused-cause A IsMemory IsCalm (call_refusal kept h) fault (call-causes IsCalm kept h (λ n. tt) tt) (λ memory. subst IsCalm (sym memory) tt) refused

module _ {I D P : Type 0} (leaves : I → List Leaf) (drive : D → Drive) (w : ℕ) (b mid : BookView D) (old took back : Known) (session row : ℕ) (op : Op) (was : WasTaken drive b old took) (books : AreBooks drive w b mid) where
  look-added : (r : Result (Snapshot I P) BookFault) → IfOk r (λ s. Notes b mid session row op s.place) → Says (λ (s : Snapshot I P). mid.entries ≡ b.entries ++ Call session row op ∷ []) r
  look-added (Ok s) ok = ok.entries
  look-added (Err fault) ok = tt

  look-left : (r : Result (Snapshot I P) BookFault) → IsRefusedBy IsMemory (call_refusal b.kept b.entries) r → IfErr r (λ (f : BookFault). mid ≡ b) → IfErr r (LeavesRefused drive (lost.Call session row op) b mid)
  look-left (Ok s) refused err = tt
  look-left (Err fault) refused err = calm-left drive (lost.Call session row op) b mid fault (look-calm (Snapshot I P) b.kept b.entries fault refused) err

  pub look-step : (r : Result (Snapshot I P) BookFault) → IfOk r (λ s. Notes b mid session row op s.place) → IsRefusedBy IsMemory (call_refusal b.kept b.entries) r → IfErr r (λ (f : BookFault). mid ≡ b)
      → BookStep drive IsMemory (call_refusal b.kept b.entries) (λ (s : Snapshot I P). Call session row op) (lost.Call session row op) b mid r
  look-step r ok refused err = record { refused = refused; added = look-added r ok; left = look-left r refused err }

  look-says : (r : Result (Snapshot I P) BookFault) → IfOk r (λ s. Notes b mid session row op s.place) → IfOk r (λ s. Stands (leaves s.index) (places_of (world_after b.opening.world b.entries)) (state_after w mid.opening mid.entries).leaves) → HasWorld b
      → back ≡ has_given took (has_entry r) mid.entries → Says (λ (s : Snapshot I P). Shows w (leaves s.index) old back b.entries s.place) r
  look-says (Ok s) ok stands has given =
      let world : world_after b.opening.world b.entries ≡ world_after old.origin.world b.entries = ap (λ (o : Origin). world_after o.world b.entries) was.origin in
      record {
        place_is = ok.place_is ∙ ap call_count (sym (ap (λ (k : Known). k.seen) given));
        world = subst IsWorld world has.world;
        stands = subst (Stands (leaves s.index) (places_of (world_after old.origin.world b.entries))) (back-names drive w b mid old took back session row op was books given)
            (subst (λ (list : World). Stands (leaves s.index) (places_of list) (state_after w mid.opening mid.entries).leaves) world stands);
      }
  look-says (Err fault) ok stands has given = tt

  pub looked : (r : Result (Snapshot I P) BookFault) → IfOk r (λ s. Notes b mid session row op s.place) → IfOk r (λ s. Stands (leaves s.index) (places_of (world_after b.opening.world b.entries)) (state_after w mid.opening mid.entries).leaves) → HasWorld b
      → IsRefusedBy IsMemory (call_refusal b.kept b.entries) r → IfErr r (λ (f : BookFault). mid ≡ b) → back ≡ has_given took (has_entry r) mid.entries → Looks leaves w session row op old back r
  looked r ok stands has refused err given =
      stepped drive w IsMemory (λ (cells : ℕ). call_refusal old.origin.kept) (λ (s : Snapshot I P). Call session row op) (λ (h : List Entry). lost.Call session row op) (λ (h : List Entry) (s : Snapshot I P). Shows w (leaves s.index) old back h s.place) b mid old took back r
      books.before was
      (subst (λ (o : Origin). BookStep drive IsMemory (call_refusal o.kept b.entries) (λ (s : Snapshot I P). Call session row op) (lost.Call session row op) b mid r) was.origin (look-step r ok refused err))
      (look-says r ok stands has given) given

-- a call that isn't refused is answered
pub answered-ok : {A : Type 0} (IsFree : BookFault → Type 0) (op : Op) (cause : Option BookFault) (value : A) (result : Result Done CallFault) → IsRefusedBy IsFree cause (Ok value) → IsAnswered op None result → IsAnswered op cause result
answered-ok IsFree op None value result refused answered = answered
answered-ok IsFree op (Some cause) value result refused answered = absurd (cc refused)

pub answered-err : (A : Type 0) (IsFree : BookFault → Type 0) (op : Op) (cause : Option BookFault) (fault : BookFault) → (IsFree fault → MayCome op (call_fault fault)) → IsRefusedBy {A = A} IsFree cause (Err fault) → IsAnswered op cause (Err (call_fault fault))
answered-err A IsFree op None fault free refused = free refused
answered-err A IsFree op (Some cause) fault free refused = let same : fault ≡ cause = cc refused in ap (λ (f : BookFault). Err (call_fault f)) same

disk-comes : (op : Op) (fault : BookFault) → IsUpdate op → IsDisk fault → MayCome op (call_fault fault)
disk-comes op (book.Disk cell) update is = update
disk-comes op (book.Closed cell) update is = absurd is
disk-comes op book.HistoryFull update is = absurd is
disk-comes op book.LogFull update is = absurd is
disk-comes op book.Memory update is = absurd is
disk-comes op (book.Room cells events) update is = absurd is
disk-comes op (book.Splitting number) update is = absurd is
disk-comes op book.Deep update is = absurd is
disk-comes op book.NoLeaf update is = absurd is
disk-comes op (book.Stale number) update is = absurd is
disk-comes op (book.NotOpen number) update is = absurd is

pub memory-comes : (op : Op) (fault : BookFault) → fault ≡ book.Memory → MayCome op (call_fault fault)
memory-comes op fault is = subst (λ (f : BookFault). MayCome op (call_fault f)) (sym is) tt

free-comes : (op : Op) (fault : BookFault) → IsUpdate op → IsMemoryOrDisk fault → MayCome op (call_fault fault)
free-comes op fault update (inl memory) = memory-comes op fault memory
free-comes op fault update (inr disk) = disk-comes op fault update disk

pub fault-leaves : (A : Type 0) (w session row : ℕ) (op : Op) (old : Known) (before : List Entry) (new : Known) (fault : BookFault) → Leaves {A = A} (λ value. Call session row op) (λ h. lost.Call session row op) old before new (Err fault)
    → LosesChange {A = A} (world_after old.origin.world before) op (Err fault) → CallLeaves w session row op old before new (Err (call_fault fault))
fault-leaves A w session row op old before new (book.Disk cell) left loses = (left, loses)
fault-leaves A w session row op old before new (book.Closed cell) left loses = left
fault-leaves A w session row op old before new book.HistoryFull left loses = left
fault-leaves A w session row op old before new book.LogFull left loses = left
fault-leaves A w session row op old before new book.Memory left loses = left
fault-leaves A w session row op old before new (book.Room cells events) left loses = left
fault-leaves A w session row op old before new (book.Splitting number) left loses = left
fault-leaves A w session row op old before new book.Deep left loses = left
fault-leaves A w session row op old before new book.NoLeaf left loses = left
fault-leaves A w session row op old before new (book.Stale number) left loses = left
fault-leaves A w session row op old before new (book.NotOpen number) left loses = left

disk-call : (fault : BookFault) → IsDisk fault → IsCallFault fault
disk-call (book.Disk cell) is = tt
disk-call (book.Closed cell) is = absurd is
disk-call book.HistoryFull is = absurd is
disk-call book.LogFull is = absurd is
disk-call book.Memory is = absurd is
disk-call (book.Room cells events) is = absurd is
disk-call (book.Splitting number) is = absurd is
disk-call book.Deep is = absurd is
disk-call book.NoLeaf is = absurd is
disk-call (book.Stale number) is = absurd is
disk-call (book.NotOpen number) is = absurd is

pub free-call : (fault : BookFault) → IsMemoryOrDisk fault → IsCallFault fault
free-call fault (inl memory) = subst IsCallFault (sym memory) tt
free-call fault (inr disk) = disk-call fault disk

module _ (w session row : ℕ) (op : Op) (old new : Known) where
  pub change-fault : (fault : BookFault) → Updates w session row op old new (Err fault) → IsCallFault fault
  change-fault fault updates =
      let step = updates.step in
      let full : Bool = (step.cells == most_cells) && is_change (answer_of (world_after old.origin.world step.before) op) in
      refused-cause Done IsMemoryOrDisk IsCallFault (call_cause old.origin op step.cells step.before) fault
      (causes-first IsCallFault (call_refusal old.origin.kept step.before) (cond full (Some book.LogFull) None) (call-causes IsCallFault old.origin.kept step.before (λ n. tt) tt) (causes-if IsCallFault full book.LogFull tt)) (free-call fault) step.refused

  pub change-ok : (done : Done) → Updates w session row op old new (Ok done) → Called w session row op old new (Ok done)
  change-ok done updates = record {
    before = updates.step.before;
    later = updates.step.later;
    alone = updates.step.alone;
    cells = updates.step.cells;
    counted = updates.step.counted;
    answered = answered-ok IsMemoryOrDisk op (call_cause old.origin op updates.step.cells updates.step.before) done (Ok done) updates.step.refused tt;
    leaves = (updates.step.leaves, updates.step.says);
  }

  pub change-err : (fault : BookFault) → IsUpdate op → Updates w session row op old new (Err fault) → Called w session row op old new (Err (call_fault fault))
  change-err fault update updates = record {
    before = updates.step.before;
    later = updates.step.later;
    alone = updates.step.alone;
    cells = updates.step.cells;
    counted = updates.step.counted;
    answered = answered-err Done IsMemoryOrDisk op (call_cause old.origin op updates.step.cells updates.step.before) fault (free-comes op fault update) updates.step.refused;
    leaves = fault-leaves Done w session row op old updates.step.before new fault updates.step.leaves updates.loses;
  }

  pub change-answers : (before : Result Done BookFault) (after : Result Done CallFault) → IsUpdate op → Updates w session row op old new before
      → MatchResult before (λ done. after ≡ Ok done) (λ fault. IsErrAnd after (λ (f : CallFault). f ≡ call_fault fault)) → Called w session row op old new after
  change-answers (Ok done) after update updates is = subst (Called w session row op old new) (sym is) (change-ok done updates)
  change-answers (Err fault) (Ok done) update updates is = absurd is
  change-answers (Err fault) (Err f) update updates is = subst (λ (x : CallFault). Called w session row op old new (Err x)) (sym is) (change-err fault update updates)

module _ (op : Op) (old : Known) (query : IsQuery op) where
  pub cause-is : (result : Result Done CallFault) (cells : ℕ) (before : List Entry) → IsAnswered op (call_refusal old.origin.kept before) result → IsAnswered op (call_cause old.origin op cells before) result
  cause-is result cells before answered = subst (λ (o : Option BookFault). IsAnswered op o result) (sym (query-cause old.origin op cells before query)) answered

module _ {I P : Type 0} (leaves : I → List Leaf) (w session row : ℕ) (op : Op) (old new : Known) (query : IsQuery op) where
  pub look-fault : (fault : BookFault) → Looks {P = P} leaves w session row op old new (Err fault) → IsCallFault fault
  look-fault fault step =
      refused-cause (Snapshot I P) IsMemory IsCallFault (call_refusal old.origin.kept step.before) fault (call-causes IsCallFault old.origin.kept step.before (λ n. tt) tt) (λ memory. subst IsCallFault (sym memory) tt) step.refused

  pub query-err : (fault : BookFault) → Looks {P = P} leaves w session row op old new (Err fault) → Called w session row op old new (Err (call_fault fault))
  query-err fault step = record {
    before = step.before;
    later = step.later;
    alone = step.alone;
    cells = step.cells;
    counted = step.counted;
    answered = cause-is op old query (Err (call_fault fault)) step.cells step.before (answered-err (Snapshot I P) IsMemory op (call_refusal old.origin.kept step.before) fault (memory-comes op fault) step.refused);
    leaves = fault-leaves (Snapshot I P) w session row op old step.before new fault step.leaves
        (calm-loses (Snapshot I P) (world_after old.origin.world step.before) op fault (look-calm (Snapshot I P) old.origin.kept step.before fault step.refused));
  }

  pub query-memory : (shown : Snapshot I P) → Looks leaves w session row op old new (Ok shown) → Called w session row op old new (Err (call.Memory (Some shown.place)))
  query-memory shown step = record {
    before = step.before;
    later = step.later;
    alone = step.alone;
    cells = step.cells;
    counted = step.counted;
    answered = cause-is op old query (Err (call.Memory (Some shown.place))) step.cells step.before (answered-ok IsMemory op (call_refusal old.origin.kept step.before) shown (Err (call.Memory (Some shown.place))) step.refused query);
    leaves = (step.leaves, step.says.place_is);
  }

  pub query-ok : (shown : Snapshot I P) (answer : Answer) (step : Looks leaves w session row op old new (Ok shown)) → answer ≡ answer_of (world_after old.origin.world step.before) op
      → Called w session row op old new (Ok (record { place = shown.place; answer = answer; full = None }))
  query-ok shown answer step is = record {
    before = step.before;
    later = step.later;
    alone = step.alone;
    cells = step.cells;
    counted = step.counted;
    answered = cause-is op old query (Ok (record { place = shown.place; answer = answer; full = None })) step.cells step.before
        (answered-ok IsMemory op (call_refusal old.origin.kept step.before) shown (Ok (record { place = shown.place; answer = answer; full = None })) step.refused tt);
    leaves = (step.leaves, record { replies = record { place_is = step.says.place_is; answer_is = is }; full_is = sym (told-query w op new query) });
  }

  -- the objects that the pass has seen are those before the query
  query-places : (shown : Snapshot I P) (step : Looks leaves w session row op old new (Ok shown)) → places_seen new ≡ places_of (world_after old.origin.world step.before)
  query-places shown step =
      ap places_of (
      (λ i. world_after (step.leaves i).origin.world (step.leaves i).seen) ∙ world_after-append old.origin.world step.before (Call session row op ∷ []) ∙ query_keeps op (world_after old.origin.world step.before) query
      )

  pub query-opens : (shown : Snapshot I P) (listed : Option (List Placed)) (before now : ℕ) → Looks leaves w session row op old new (Ok shown) → OpensOf (leaves shown.index) op listed before now
      → Opens op (leaves_seen w new) (places_seen new) listed before now
  query-opens shown listed before now step opens =
      subst (λ (places : List Placed). Opens op (leaves_seen w new) places listed before now) (sym (query-places shown step)) (opens (places_of (world_after old.origin.world step.before)) (leaves_seen w new) step.says.world step.says.stands)

-- a call leaves the pass with more seen and own
leaves-same : (w session row : ℕ) (op : Op) (old : Known) (before : List Entry) (new : Known) (result : Result Done CallFault) → IsPrefix old.seen before → CallLeaves w session row op old before new result → SamePass old new
leaves-same w session row op old before new (Ok done) later (is, done_is) = same-added old new before (Call session row op) later is
leaves-same w session row op old before new (Err (call.Disk cell)) later (is, change) = same-added old new before (Fail cell (lost.Call session row op)) later is
leaves-same w session row op old before new (Err (call.Closed cell)) later is = same-seen old new before later is
leaves-same w session row op old before new (Err call.HistoryFull) later is = same-seen old new before later is
leaves-same w session row op old before new (Err call.LogFull) later is = same-seen old new before later is
leaves-same w session row op old before new (Err (call.Memory None)) later is = same-seen old new before later is
leaves-same w session row op old before new (Err (call.Memory (Some place))) later (is, place_is) = same-added old new before (Call session row op) later is

pub called-same : (w session row : ℕ) (op : Op) (old new : Known) (result : Result Done CallFault) → Called w session row op old new result → SamePass old new
called-same w session row op old new result called = leaves-same w session row op old called.before new result called.later called.leaves
