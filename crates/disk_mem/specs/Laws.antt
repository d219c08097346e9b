-- A drive in memory obeys the laws of a drive.
use Rattle.std.specs.Prelude.{◌≡◌, ℕ, ◌≤◌, List, length, take}
use Rattle.std.proofs.Common.{sym, subst, arith}
use Rattle.std.proofs.lemmas.List.{take_all}
use Rattle.disk_trait.specs.Drive.{KeepsLaws}
use Rattle.disk_mem.specs.Pending.{IsImage}
use Rattle.disk_mem.specs.Changes.{Change, started, changed_by}
use Rattle.disk_mem.specs.Sound.{IsSound, IsSound-started, IsSound-changed_by}
use Rattle.disk_mem.specs.Drives.{DiskView, mem_drive}

-- the file after all calls
file_at-end : (first : List ℕ) (cs : List Change) (m : ℕ) (c : List ℕ) → length cs ≤ m → IsImage (changed_by (started first) (take m cs)).pending c → IsImage (changed_by (started first) cs).pending c
file_at-end first cs m c le image = subst (λ (ds : List Change). IsImage (changed_by (started first) ds).pending c) (take_all m cs le) image

file_at-now : (first : List ℕ) (cs : List Change) (c : List ℕ) → IsImage (changed_by (started first) cs).pending c → IsImage (changed_by (started first) (take (length cs) cs)).pending c
file_at-now first cs c image = subst (λ (ds : List Change). IsImage (changed_by (started first) ds).pending c) (sym (take_all (length cs) cs (omega arith))) image

pub sound : (first : List ℕ) (cs : List Change) → IsSound (changed_by (started first) cs)
sound first cs = IsSound-changed_by (started first) cs (IsSound-started first)

pub mem_laws : (d : DiskView) → KeepsLaws (mem_drive d)
mem_laws d = record {
  counts_now = λ t c le now. (length d.changes, le, omega arith, file_at-now d.first d.changes c now);
  only_now = λ c since. file_at-end d.first d.changes since.0 c since.1 since.3;
  longer = λ s t c le since. (since.0, omega (arith, le, since.1), since.2, since.3);
  held = λ xs told.
      let same : (changed_by (started d.first) d.changes).held ≡ xs = cc in
      subst (λ (ys : List ℕ). IsImage (changed_by (started d.first) d.changes).pending ys) same (sound d.first d.changes).image;
}
