-- A drive whose content is unknown keeps what the trait says of each call.
use Rattle.std.proofs.Common.{ℕ, List, Ok, Err, Result, refl, inl, arith, length}
use Rattle.disk_trait.proofs.Itself.{torn_itself, shortened_itself}
use Rattle.disk_trait.specs.Drive.{Elapses, Writes, Cuts, Syncs}
use Rattle.disk_trait.specs.declared.disk.DiskFault.{DiskFault}
use Rattle.disk_file.specs.Served.{untold}

elapses : (f g : ℕ) → Elapses (untold f) (untold g)
elapses f g = record { later = omega arith; nothing_else = λ t c le left. inl left; keeps = λ t c le left. left }

pub untold-writes : {T : Type 0} (f g at : ℕ) (piece : List ℕ) (result : Result T DiskFault) → Writes (untold f) (untold g) at piece result
untold-writes f g at piece (Ok x) = record { done = λ xs told. cc; told = refl; crash = λ c left. (c, left, torn_itself at (length piece) c); time = elapses f g }
untold-writes f g at piece (Err e) = record { done = tt; told = refl; crash = λ c left. (c, left, torn_itself at (length piece) c); time = elapses f g }

pub untold-cuts : {T : Type 0} (f g len : ℕ) (result : Result T DiskFault) → Cuts (untold f) (untold g) len result
untold-cuts f g len (Ok x) = record { done = λ xs told. cc; told = refl; crash = λ c left. (c, left, shortened_itself len c); time = elapses f g }
untold-cuts f g len (Err e) = record { done = tt; told = refl; crash = λ c left. (c, left, shortened_itself len c); time = elapses f g }

pub untold-syncs : {T : Type 0} (f g : ℕ) (result : Result T DiskFault) → Syncs (untold f) (untold g) result
untold-syncs f g (Ok x) = record { done = λ xs told. cc; bytes = refl; crash = λ c left. left; time = elapses f g }
untold-syncs f g (Err e) = record { done = tt; bytes = refl; crash = λ c left. left; time = elapses f g }
