-- The types of the code.
pub mod Types
-- What a line is: what has to be trusted.
pub mod Lines
-- Lines that coreutils wrote, and lines that it refused.
pub mod Worked
-- How the code reads a line, and in which layout it stands.
pub mod Reading
-- What reading a file comes to.
pub mod Files
-- What a run writes and says.
pub mod Said
-- What is printed of files, and lines that were printed.
pub mod Printing
-- What a check says.
pub mod Checking
-- How a list of lines is split.
pub mod Splitting
-- What a check of a list says.
pub mod Lists
-- How the code reads a list.
pub mod Groups
-- What is right where all is known of a folder.
pub mod Determined
-- Checks of lists, worked.
pub mod WorkedChecks
