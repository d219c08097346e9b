pub mod FileLemmas
pub mod ScanLemmas
pub mod ImageLemmas
pub mod KeptLemmas
pub mod StepLemmas
pub mod DriveLemmas
pub mod Examples
