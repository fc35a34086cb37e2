pub use Rattle.ripemd_block.proofs.Library
pub mod LastDifference
pub mod Replaying
pub mod Saved
