-- The types of the code.
pub mod Types
-- The definitions that the contracts cite, of ripemd_block.
pub use Rattle.ripemd_block.specs.Standard
pub use Rattle.ripemd_block.specs.States
pub use Rattle.ripemd_block.specs.OverLists
-- What the authors published, and worked values.
pub use Rattle.ripemd_block.specs.Published
-- What has to be trusted, too: the machine of `replay`, and collisions of block functions.
pub mod Replay
pub mod Collisions
-- Worked examples of these.
pub mod Worked
-- Hashers of messages: definitions for callers.
pub mod Messages
-- Definitions about the code's own vectors: proved, with no need to trust them.
pub mod Held
-- Laws for callers: proved.
pub mod Laws
-- Laws of the machine of `replay`.
pub mod ReplayLaws
