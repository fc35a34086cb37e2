-- The types of the code.
pub mod Types
-- What the arguments ask for.
pub mod Options
pub mod Asked
pub mod Arguments
pub mod Worked
pub mod Runs
pub mod Names
