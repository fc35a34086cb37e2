-- The types of the code.
pub mod Types
-- What the program promises: what has to be trusted of a run.
pub mod Arguments
pub mod Runs
pub mod Faults
-- Worked cases of these.
pub mod Worked
