pub mod Differences
pub mod MacReduction
-- The blocks of a derived key.
pub mod Deriving
