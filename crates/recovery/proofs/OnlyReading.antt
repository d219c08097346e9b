-- Calls that only read, one after the other.
use Rattle.std.proofs.Common.{◌≡◌, ◌≢◌, ℕ, ◌≤◌, ◌∙◌, subst, arith}
use Rattle.std.specs.Prelude.{Result, Ok, Err, IfErr}
use Rattle.causes.specs.Causes.{Rose}
use Rattle.disk_trait.specs.Drive.{Drive, SameFile, Stays}
use Rattle.recovery.specs.declared.seen.OpenFault.{OpenFault}
use Rattle.recovery.specs.declared.seen.OpenFault.TheVariants.{Disk}
use Rattle.recovery.specs.declared.seen.Seen.{Seen}
use Rattle.recovery.specs.Faults.{IsInBytes}
use Rattle.recovery.specs.Found.{IsFound}
use Rattle.recovery.specs.Reading.{OnlyReads}

pub stays-trans : (a b c : Drive) → Stays a b → Stays b c → Stays a c
stays-trans a b c first second = record {
  bytes = second.bytes ∙ first.bytes;
  images = λ x left. first.images x (second.images x left);
  clock = second.clock ∙ first.clock;
  since = λ t x left. first.since t x (second.since t x left);
  keeps = λ t x left. second.keeps t x (first.keeps t x left);
  calls = λ all told. first.calls all (second.calls all told);
}

pub rose-earlier : (a b c : ℕ) → a ≤ b → Rose b c → Rose a c
rose-earlier a b c le rose = omega (arith, le, rose)

-- What was found holds of the drive before, if the calls left its bytes unchanged.
pub found_before : (oldest w most : ℕ) (a b : Drive) (seen : Seen) → b.bytes ≡ a.bytes → IsFound oldest w most b seen → IsFound oldest w most a seen
found_before oldest w most a b seen kept found = record {
  cells = found.cells;
  legal = found.legal;
  few = found.few;
  finds = found.finds;
  wanted = found.wanted;
  recovers = λ bytes told. found.recovers bytes (kept ∙ told);
  named = λ bytes told. found.named bytes (kept ∙ told);
}

-- A fault that the bytes show isn't the drive's.
pub in_bytes-other : (e : OpenFault) → IsInBytes e → e ≢ Disk
in_bytes-other e shown disk = subst IsInBytes disk shown

-- A reading whose last result isn't the drive's fault.
pub reads_sound : {T : Type 0} (a b : Drive) (result : Result T OpenFault) → Stays a b → b.faults ≡ a.faults → SameFile a b → IfErr result (λ e. e ≢ Disk) → OnlyReads a b result
reads_sound a b (Ok x) stays calm file sound = record { stays = stays; later = omega (arith, calm); same = calm; failed = λ disk. cc disk; file = file }
reads_sound a b (Err e) stays calm file sound = record { stays = stays; later = omega (arith, calm); same = λ other. calm; failed = λ disk. absurd (sound (cc disk)); file = file }
