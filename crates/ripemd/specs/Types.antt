-- The types of the code that definitions and lemmas speak of.
pub use Rattle.ripemd.specs.declared.replay.Command.{Command}
pub use Rattle.ripemd.specs.declared.replay.Command.TheVariants.{Finish, Fork, Import, Load, New, Reset, Save, Update}
pub use Rattle.ripemd.specs.declared.replay.ReplayError.{ReplayError}
pub use Rattle.ripemd.specs.declared.replay.ReplayError.TheVariants.{BadState, NoHasher, NoSaved, OutOfMemory}
pub use Rattle.ripemd.specs.declared.witness.Collision.{Collision}
pub use Rattle.ripemd.specs.declared.witness.Meeting.{Meeting}
