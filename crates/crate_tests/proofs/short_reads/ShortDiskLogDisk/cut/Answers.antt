use Rattle.std.proofs.Common.{refl, inl, arith}
use Rattle.disk_trait.proofs.Itself.{shortened_itself}
use Rattle.crate_tests.proofs.short_reads.ShortDiskLogDisk.cut.Goals as goal

pub returns-clause-cuts : goal.returns-clause-cuts
returns-clause-cuts c = record {
  done = λ xs told. cc;
  told = refl;
  crash = λ x image. (x, image, shortened_itself _ x);
  time = record { later = omega arith; nothing_else = λ t x le left. inl left; keeps = λ t x le left. left };
}
