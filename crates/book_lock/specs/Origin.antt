-- What a value in the lock began from: the records that the types in src/origin.rt declare.
pub use Rattle.book_lock.specs.declared.origin.Origin.{Origin}
pub use Rattle.book_lock.specs.declared.origin.LogStart.{LogStart}
