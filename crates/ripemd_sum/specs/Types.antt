-- The types of the code that definitions and lemmas speak of.
pub use Rattle.ripemd_sum.specs.declared.fault.ReadFault.{ReadFault}
pub use Rattle.ripemd_sum.specs.declared.fault.RunFault.{RunFault}
pub use Rattle.ripemd_sum.specs.declared.fault.RunFault.TheVariants.{Read, TooLong, Write}
pub use Rattle.ripemd_sum.specs.declared.tracked.Tracked.{Tracked}
pub use Rattle.ripemd_sum.specs.declared.variant.Variant.{Variant}
pub use Rattle.ripemd_sum.specs.declared.variant.Variant.TheVariants.{R128, R160, R256, R320}
pub use Rattle.std.specs.declared.io.Error.{Error}
