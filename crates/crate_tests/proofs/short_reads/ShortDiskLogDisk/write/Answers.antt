use Rattle.std.proofs.Common.{refl, inl, arith}
use Rattle.disk_trait.proofs.Itself.{torn_itself}
use Rattle.crate_tests.proofs.short_reads.ShortDiskLogDisk.write.Goals as goal

pub returns-clause-writes : goal.returns-clause-writes
returns-clause-writes c = record {
  done = λ xs told. cc;
  told = refl;
  crash = λ x image. (x, image, torn_itself _ _ x);
  time = record { later = omega arith; nothing_else = λ t x le left. inl left; keeps = λ t x le left. left };
}
