-- The opening of a log with another number of cells than it had.
use Rattle.std.proofs.Common.{◌≡◌, ◌≢◌, inl, inr, ⊎_elim, ℕ, ◌≤◌, min, true, false, None, Some, length, refl, sym, ◌∙◌, ap, subst, arith}
use Rattle.std.proofs.lemmas.Bool.{true≢false}
use Rattle.cell_format.specs.Spelling.{newest}
use Rattle.disk_trait.specs.Drive.{Drive}
use Rattle.split_log.specs.LogView.{LogView, most_cells}
use Rattle.split_log.proofs.Unique.{holds-same}
use Rattle.recovery.specs.declared.seen.Seen.{Seen}
use Rattle.recovery.specs.declared.seen.OpenFault.{OpenFault}
use Rattle.recovery.specs.declared.seen.OpenFault.TheVariants as open_fault
use Rattle.recovery.specs.Opening.{CallsToOpen, KeepsCells, KeepsStanding, IsReady, RefusesWanted}
use Rattle.recovery.specs.Wanted.{MayTell}
use Rattle.follower.specs.declared.faults.FollowFault.TheVariants.{Strange, Log}
use Rattle.follower.specs.Faults.{is_drives}
use Rattle.follower.specs.Reopening.{Reopens, RefusesReopen}

pub other_count : {D : Type 0} (drive : D → Drive) (w count number : ℕ) (seen : Seen) (a : Drive) (b c : D) → c ≡ b → IsReady w seen a (drive b) → KeepsCells w a (drive b)
    → seen.cells ≢ count → number ≡ min count seen.cells → RefusesReopen w count a (drive c) (Strange number)
other_count drive w count number seen a b c back ready kept other least = subst (λ d. RefusesReopen w count a (drive d) (Strange number)) (sym back) (record {
  cause = (
    (seen.cells, other, least),
    λ bytes own told recovers count_is.
        let (found, found_count, there, log) = ready.log bytes told in
        let one : found ≡ own = holds-same there.version recovers.version w found own bytes there.holds recovers.holds in
        other (sym found_count ∙ ap length one ∙ count_is),
  );
  may = λ why is. absurd (cc is);
  told = ready.told;
  rose = λ failed. absurd (true≢false (sym failed));
  calm = λ quiet. ready.same;
  untouched = λ why is. absurd (cc is);
  later = omega (arith, ready.same);
  calls = ⊎_elim (λ whole. inl whole.1) (λ longer. inr longer.1) ready.calls;
  file = ready.file;
  any_moment = kept;
  newest = ready.newest;
})

pub same_count : {D : Type 0} (drive : D → Drive) (w count : ℕ) (seen : Seen) (a : Drive) (log : LogView D) → IsReady w seen a (drive log.disk) → KeepsCells w a (drive log.disk)
    → (log.cells ≡ seen.cells) × (log.failed ≡ None) → seen.cells ≡ count → Reopens drive w count a log
same_count drive w count seen a log ready kept is same = record {
  cells = is.0 ∙ same;
  sound = is.1;
  text = λ bytes told. let (own, own_count, recovers, text) = ready.log bytes told in (own, own_count ∙ same, recovers, text);
  told = ready.told;
  calm = ready.same;
  calls = subst (λ (n : ℕ). CallsToOpen n a (drive log.disk)) same ready.calls;
  file = ready.file;
  any_moment = kept;
  newest = ready.newest;
}

-- The drive failed if and only if that is why a log isn't opened.
drives_disk : (why : OpenFault) → is_drives (Log why) ≡ true → why ≡ open_fault.Disk
drives_disk open_fault.NotLog is = absurd (true≢false (sym is))
drives_disk (open_fault.OldLog version width) is = absurd (true≢false (sym is))
drives_disk (open_fault.Damaged cell cause) is = absurd (true≢false (sym is))
drives_disk (open_fault.TooLong most) is = absurd (true≢false (sym is))
drives_disk open_fault.Disk is = refl
drives_disk open_fault.Memory is = absurd (true≢false (sym is))

pub not_opened : (w count : ℕ) (a b : Drive) (why : OpenFault) → RefusesWanted (Some w) most_cells a b why → KeepsStanding a b → RefusesReopen w count a b (Log why)
not_opened w count a b why refused kept = record {
  cause = refused.fault.shows;
  may = λ other is. let same : why ≡ other = cc is in subst (MayTell newest (Some w) most_cells) same refused.fault.may;
  told = refused.leaves.told;
  rose = λ failed. refused.fault.rose (drives_disk why failed);
  calm = λ quiet. refused.leaves.calm (λ disk. true≢false (subst (λ e. is_drives (Log e) ≡ false) disk quiet));
  untouched = λ other is sound. let same : why ≡ other = cc is in refused.leaves.unfailed (λ disk. sound (sym same ∙ disk));
  later = kept.later;
  calls = refused.leaves.calls;
  file = refused.leaves.file;
  any_moment = kept.cells w;
  newest = refused.leaves.newest;
}
