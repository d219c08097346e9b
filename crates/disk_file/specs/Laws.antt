-- A drive whose content is unknown keeps the laws of a drive.
use Rattle.disk_trait.specs.Drive.{KeepsLaws}
use Rattle.disk_file.specs.Served.{FileView, file_drive}

pub file_laws : (d : FileView) → KeepsLaws (file_drive d)
file_laws d = record { counts_now = λ t c le now. tt; only_now = λ c since. tt; longer = λ s t c le since. tt; held = λ xs told. tt }
