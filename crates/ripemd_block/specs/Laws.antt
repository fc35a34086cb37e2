-- Laws for callers of the cores, and those that an `impl` cites, which may cite only what stands in
-- specs/.
pub mod WordBytes
pub mod Saved
pub mod Blocks
pub mod Pieces
