-- What each call on a drive in memory does to what is known of it.
use Rattle.std.specs.Prelude.{◌≡◌, ℕ, ◌+◌, ◌≤◌, nat_le, ◌&&◌, Bool, true, false, if◌then◌else◌, List, [], ◌∷◌, ◌++◌, length, take, drop, Option, Some, Result, Ok, Err, is_ok, OnOk}
use Rattle.std.proofs.Common.{refl, sym, ◌∙◌, ap, subst, arith, inl, inr}
use Rattle.std.proofs.lemmas.List.{append-nil, take_all, take-append-le, length_push}
use mathlib.Core.Bool.{true≢false}
use Rattle.disk_trait.specs.Drive.{Attach, Torn, Shortened, Follows, Only, Elapses, Writes, Cuts, Syncs}
use Rattle.disk_trait.specs.declared.disk.DiskFault.{DiskFault}
use Rattle.disk_mem.specs.declared.plans.DiskCall.TheVariants.{Write, Cut, Sync}
use Rattle.disk_mem.specs.declared.plans.Verdict.{Verdict}
use Rattle.disk_mem.specs.declared.plans.Verdict.TheVariants.{Passes, Fails, Past}
use Rattle.disk_mem.specs.Plans.{verdict_of, is_passed, is_made}
use Rattle.disk_mem.specs.Pending.{IsImage}
use Rattle.disk_mem.specs.Changes.{Change, wrote, failed_write, did_cut, failed_cut, synced, failed_sync, File, started, changed, changed_by, written}
use Rattle.disk_mem.specs.Sound.{le_or_lt}
use Rattle.disk_mem.specs.Drives.{DiskView, file_now, calls_of, drive_by, mem_drive, MakesWrite, MakesCut, MakesSync}
use Rattle.disk_mem.specs.Laws.{sound}
use Rattle.disk_trait.proofs.Itself.{torn_itself, shortened_itself}
use Rattle.disk_mem.proofs.FileLemmas.{changed_by-push}
use Rattle.disk_mem.proofs.StepLemmas.{after_write-follows, after_cut-follows, settled-only}

-- a call that leaves the file
elapses-same : (first : List ℕ) (cs : List Change) (f g : ℕ × Option (List Bool) × List Attach) → Elapses (drive_by first cs f) (drive_by first cs g)
elapses-same first cs f g = record { later = omega arith; nothing_else = λ t c le left. inl left; keeps = λ t c le left. left }

-- a call that changes or syncs
elapses-push : (first : List ℕ) (cs : List Change) (x : Change) (f g : ℕ × Option (List Bool) × List Attach) → Elapses (drive_by first cs f) (drive_by first (cs ++ x ∷ []) g)
elapses-push first cs x f g = record {
  later = omega (arith, length_push cs x);
  nothing_else = λ t c le left. elim (le_or_lt left.0 (length cs)) [
    | inl so_far ↦ inl (left.0, left.1, so_far, subst (λ (ds : List Change). IsImage (changed_by (started first) ds).pending c) (take-append-le left.0 cs (x ∷ []) so_far) left.3)
    | inr now ↦ inr (subst (λ (ds : List Change). IsImage (changed_by (started first) ds).pending c) (take_all left.0 (cs ++ x ∷ []) (omega (arith, length_push cs x, now))) left.3)
  ];
  keeps = λ t c le left. (left.0, left.1, omega (arith, length_push cs x, left.2), subst (λ (ds : List Change). IsImage (changed_by (started first) ds).pending c) (sym (take-append-le left.0 cs (x ∷ []) left.2)) left.3);
}

follows-push : (first : List ℕ) (cs : List Change) (x : Change) (step : List ℕ → List ℕ → Type 0) → Follows step (IsImage (changed_by (started first) cs).pending) (IsImage (changed (changed_by (started first) cs) x).pending) → Follows step (IsImage (changed_by (started first) cs).pending) (IsImage (changed_by (started first) (cs ++ x ∷ [])).pending)
follows-push first cs x step follows = subst (λ (f : File). Follows step (IsImage (changed_by (started first) cs).pending) (IsImage f.pending)) (sym (changed_by-push (started first) cs x)) follows

on_ok : {T : Type 0} (result : Result T DiskFault) (P Q : Type 0) → OnOk result P → (P → Q) → OnOk result Q
on_ok (Ok x) P Q holds implies = implies holds
on_ok (Err e) P Q holds implies = tt

always : {T : Type 0} (result : Result T DiskFault) (P : Type 0) → P → OnOk result P
always (Ok x) P holds = holds
always (Err e) P holds = tt

no_ok : {T : Type 0} (result : Result T DiskFault) (P : Type 0) → is_ok result ≡ false → OnOk result P
no_ok (Ok x) P failed = absurd (true≢false failed)
no_ok (Err e) P failed = tt

-- a write that reaches the file
writes-push : {T : Type 0} (first : List ℕ) (cs : List Change) (x : Change) (f g : ℕ × Option (List Bool) × List Attach) (at : ℕ) (piece : List ℕ) → Follows (Torn at (length piece)) (IsImage (changed_by (started first) cs).pending) (IsImage (changed (changed_by (started first) cs) x).pending) → (result : Result T DiskFault) → OnOk result (x ≡ wrote at piece) → Writes (drive_by first cs f) (drive_by first (cs ++ x ∷ []) g) at piece result
writes-push first cs x f g at piece follows result done = record {
  done = on_ok result (x ≡ wrote at piece) _ done (λ is xs told.
      let same : (changed_by (started first) cs).held ≡ xs = cc in
      let here : (changed_by (started first) (cs ++ x ∷ [])).held ≡ take at (changed_by (started first) cs).held ++ piece ++ drop (at + length piece) (changed_by (started first) cs).held = ap (λ (h : File). h.held) (changed_by-push (started first) cs x) ∙ ap (λ (y : Change). (changed (changed_by (started first) cs) y).held) is in
      ((changed_by (started first) (cs ++ x ∷ [])).held, refl, subst (λ (ys : List ℕ). (changed_by (started first) (cs ++ x ∷ [])).held ≡ take at ys ++ piece ++ drop (at + length piece) ys) same here));
  told = refl;
  crash = follows-push first cs x (Torn at (length piece)) follows;
  time = elapses-push first cs x f g;
}

writes-none : {T : Type 0} (first : List ℕ) (cs : List Change) (f g : ℕ × Option (List Bool) × List Attach) (at : ℕ) (piece : List ℕ) (result : Result T DiskFault) → is_ok result ≡ false → Writes (drive_by first cs f) (drive_by first cs g) at piece result
writes-none first cs f g at piece result failed = record { done = no_ok result _ failed; told = refl; crash = λ c image. (c, image, torn_itself at (length piece) c); time = elapses-same first cs f g }

low_high : (first : List ℕ) (cs : List Change) → (changed_by (started first) cs).pending.least ≤ (changed_by (started first) cs).pending.greatest
low_high first cs = omega (arith, (sound first cs).image.no_shorter, (sound first cs).image.no_longer)

writes-failed : {T : Type 0} (first : List ℕ) (cs : List Change) (f g : ℕ × Option (List Bool) × List Attach) (at : ℕ) (piece : List ℕ) → at ≤ length (changed_by (started first) cs).held → (result : Result T DiskFault) → is_ok result ≡ false → Writes (drive_by first cs f) (drive_by first (cs ++ failed_write at (length piece) ∷ []) g) at piece result
writes-failed first cs f g at piece within result failed =
    writes-push first cs (failed_write at (length piece)) f g at piece (after_write-follows (changed_by (started first) cs).pending at (length piece) (low_high first cs) (omega (arith, within, (sound first cs).image.no_longer))) result (no_ok result _ failed)

-- a write, by what becomes of it and whether there is room
writes-by : {T : Type 0} (v : Verdict) (room : Bool) (first : List ℕ) (cs : List Change) (f g : ℕ × Option (List Bool) × List Attach) (at : ℕ) (piece : List ℕ) → at ≤ length (changed_by (started first) cs).held → (result : Result T DiskFault) → is_ok result ≡ (is_passed v && room) → Writes (drive_by first cs f) (drive_by first (cs ++ (if is_made v then (if is_passed v && room then wrote at piece else failed_write at (length piece)) ∷ [] else [])) g) at piece result
writes-by Passes true first cs f g at piece within result ok =
    writes-push first cs (wrote at piece) f g at piece (after_write-follows (changed_by (started first) cs).pending at (length piece) (low_high first cs) (omega (arith, within, (sound first cs).image.no_longer))) result (always result _ refl)
writes-by Passes false first cs f g at piece within result ok = writes-failed first cs f g at piece within result ok
writes-by Fails room first cs f g at piece within result ok = writes-failed first cs f g at piece within result ok
writes-by Past room first cs f g at piece within result ok =
    subst (λ (ds : List Change). Writes (drive_by first cs f) (drive_by first ds g) at piece result) (sym (append-nil cs)) (writes-none first cs f g at piece result ok)

pub writes-made : {T : Type 0} (old new : DiskView) (at : ℕ) (piece : List ℕ) (result : Result T DiskFault) → at ≤ length (file_now old).held → MakesWrite old new at piece result → Writes (mem_drive old) (mem_drive new) at piece result
writes-made old new at piece result within makes =
    subst (λ (w : DiskView). Writes (mem_drive old) (mem_drive w) at piece result) (sym makes.after) (writes-by (verdict_of Write old.plan) (nat_le (at + length piece) old.room && nat_le (written old.changes + length piece) old.room) old.first old.changes (old.faults, calls_of old, old.attaches) _ at piece within result makes.passes)

-- a cut that reaches the file
cuts-push : {T : Type 0} (first : List ℕ) (cs : List Change) (x : Change) (f g : ℕ × Option (List Bool) × List Attach) (n : ℕ) → Follows (Shortened n) (IsImage (changed_by (started first) cs).pending) (IsImage (changed (changed_by (started first) cs) x).pending) → (result : Result T DiskFault) → OnOk result (x ≡ did_cut n) → Cuts (drive_by first cs f) (drive_by first (cs ++ x ∷ []) g) n result
cuts-push first cs x f g n follows result done = record {
  done = on_ok result (x ≡ did_cut n) _ done (λ is xs told.
      let same : (changed_by (started first) cs).held ≡ xs = cc in
      let here : (changed_by (started first) (cs ++ x ∷ [])).held ≡ take n (changed_by (started first) cs).held = ap (λ (h : File). h.held) (changed_by-push (started first) cs x) ∙ ap (λ (y : Change). (changed (changed_by (started first) cs) y).held) is in
      ap (λ (ys : List ℕ). Some ys) (here ∙ ap (take n) same));
  told = refl;
  crash = follows-push first cs x (Shortened n) follows;
  time = elapses-push first cs x f g;
}

cuts-none : {T : Type 0} (first : List ℕ) (cs : List Change) (f g : ℕ × Option (List Bool) × List Attach) (n : ℕ) (result : Result T DiskFault) → is_ok result ≡ false → Cuts (drive_by first cs f) (drive_by first cs g) n result
cuts-none first cs f g n result failed = record { done = no_ok result _ failed; told = refl; crash = λ c image. (c, image, shortened_itself n c); time = elapses-same first cs f g }

cuts-by : {T : Type 0} (v : Verdict) (first : List ℕ) (cs : List Change) (f g : ℕ × Option (List Bool) × List Attach) (n : ℕ) (result : Result T DiskFault) → is_ok result ≡ is_passed v → Cuts (drive_by first cs f) (drive_by first (cs ++ (if is_made v then (if is_passed v then did_cut n else failed_cut n) ∷ [] else [])) g) n result
cuts-by Passes first cs f g n result ok = cuts-push first cs (did_cut n) f g n (after_cut-follows (changed_by (started first) cs).pending n (low_high first cs)) result (always result _ refl)
cuts-by Fails first cs f g n result ok = cuts-push first cs (failed_cut n) f g n (after_cut-follows (changed_by (started first) cs).pending n (low_high first cs)) result (no_ok result _ ok)
cuts-by Past first cs f g n result ok =
    subst (λ (ds : List Change). Cuts (drive_by first cs f) (drive_by first ds g) n result) (sym (append-nil cs)) (cuts-none first cs f g n result ok)

pub cuts-made : {T : Type 0} (old new : DiskView) (n : ℕ) (result : Result T DiskFault) → MakesCut old new n result → Cuts (mem_drive old) (mem_drive new) n result
cuts-made old new n result makes =
    subst (λ (w : DiskView). Cuts (mem_drive old) (mem_drive w) n result) (sym makes.after) (cuts-by (verdict_of Cut old.plan) old.first old.changes (old.faults, calls_of old, old.attaches) _ n result makes.passes)

-- a sync that reaches the file: by the file behind it
syncs-push : {T : Type 0} (first : List ℕ) (cs : List Change) (x : Change) (f g : ℕ × Option (List Bool) × List Attach) (result : Result T DiskFault) → (changed (changed_by (started first) cs) x).held ≡ (changed_by (started first) cs).held → ((c : List ℕ) → IsImage (changed (changed_by (started first) cs) x).pending c → IsImage (changed_by (started first) cs).pending c) → OnOk result (Only (changed_by (started first) cs).held (IsImage (changed (changed_by (started first) cs) x).pending)) → Syncs (drive_by first cs f) (drive_by first (cs ++ x ∷ []) g) result
syncs-push first cs x f g result same crash done =
    let now : changed_by (started first) (cs ++ x ∷ []) ≡ changed (changed_by (started first) cs) x = changed_by-push (started first) cs x in
    record {
      done = on_ok result _ _ done (λ only xs told.
          let is : (changed_by (started first) cs).held ≡ xs = cc in
          λ c image. only c (subst (λ (h : File). IsImage h.pending c) now image) ∙ is);
      bytes = ap (λ (h : File). Some h.held) now ∙ ap (λ (ys : List ℕ). Some ys) same;
      crash = λ c image. crash c (subst (λ (h : File). IsImage h.pending c) now image);
      time = elapses-push first cs x f g;
    }

syncs-none : {T : Type 0} (first : List ℕ) (cs : List Change) (f g : ℕ × Option (List Bool) × List Attach) (result : Result T DiskFault) → is_ok result ≡ false → Syncs (drive_by first cs f) (drive_by first cs g) result
syncs-none first cs f g result failed = record { done = no_ok result _ failed; bytes = refl; crash = λ c image. image; time = elapses-same first cs f g }

syncs-by : {T : Type 0} (v : Verdict) (first : List ℕ) (cs : List Change) (f g : ℕ × Option (List Bool) × List Attach) (result : Result T DiskFault) → is_ok result ≡ is_passed v → Syncs (drive_by first cs f) (drive_by first (cs ++ (if is_made v then (if is_passed v then synced else failed_sync) ∷ [] else [])) g) result
syncs-by Passes first cs f g result ok =
    syncs-push first cs synced f g result refl (λ c image. subst (IsImage (changed_by (started first) cs).pending) (sym (settled-only (changed_by (started first) cs).held c image)) (sound first cs).image) (always result _ (settled-only (changed_by (started first) cs).held))
syncs-by Fails first cs f g result ok = syncs-push first cs failed_sync f g result refl (λ c image. image) (no_ok result _ ok)
syncs-by Past first cs f g result ok =
    subst (λ (ds : List Change). Syncs (drive_by first cs f) (drive_by first ds g) result) (sym (append-nil cs)) (syncs-none first cs f g result ok)

pub syncs-made : {T : Type 0} (old new : DiskView) (result : Result T DiskFault) → MakesSync old new result → Syncs (mem_drive old) (mem_drive new) result
syncs-made old new result makes =
    subst (λ (w : DiskView). Syncs (mem_drive old) (mem_drive w) result) (sym makes.after) (syncs-by (verdict_of Sync old.plan) old.first old.changes (old.faults, calls_of old, old.attaches) _ result makes.passes)
