-- The types of the code that definitions and lemmas speak of.
pub use Rattle.ripemd_files.specs.declared.agreement.VariantCollision.{VariantCollision}
pub use Rattle.ripemd_files.specs.declared.digests.Content.{Content}
pub use Rattle.ripemd_files.specs.declared.digests.Content.TheVariants.{Read, Short}
pub use Rattle.ripemd_files.specs.declared.fault.Fault.{Fault}
pub use Rattle.ripemd_files.specs.declared.fault.Fault.TheVariants.{NoMemory, TooManyLines, Write}
pub use Rattle.ripemd_files.specs.declared.line.Ending.{Ending}
pub use Rattle.ripemd_files.specs.declared.line.Ending.TheVariants.{Newline, Zero}
pub use Rattle.ripemd_files.specs.declared.line.Form.{Form}
pub use Rattle.ripemd_files.specs.declared.line.Form.TheVariants.{Binary, Tagged, Text}
pub use Rattle.ripemd_files.specs.declared.line.Layout.{Layout}
pub use Rattle.ripemd_files.specs.declared.line.Layout.TheVariants.{Reversed, Standard}
pub use Rattle.ripemd_files.specs.declared.line.Line.{Line}
pub use Rattle.ripemd_files.specs.declared.line.Variant.{Variant}
pub use Rattle.ripemd_files.specs.declared.line.Variant.TheVariants.{R128, R160, R256, R320}
pub use Rattle.ripemd_files.specs.declared.list.Cursor.{Cursor}
pub use Rattle.ripemd_files.specs.declared.list.Group.{Group}
pub use Rattle.ripemd_files.specs.declared.list.Rules.{Rules}
pub use Rattle.ripemd_files.specs.declared.log.Complaint.{Complaint}
pub use Rattle.ripemd_files.specs.declared.outcome.Outcome.{Outcome}
pub use Rattle.ripemd_files.specs.declared.outcome.Outcome.TheVariants.{Broken, Digest, Refused}
pub use Rattle.ripemd_files.specs.declared.piece.Piece.{Piece}
pub use Rattle.ripemd_files.specs.declared.piece.Piece.TheVariants.{Last, Nothing, Whole}
pub use Rattle.ripemd_files.specs.declared.piece.Stage.{Stage}
pub use Rattle.ripemd_files.specs.declared.piece.Stage.TheVariants.{Among, Ended, Failed}
pub use Rattle.ripemd_files.specs.declared.printing.Style.{Style}
pub use Rattle.ripemd_files.specs.declared.reading.Parts.{Parts}
pub use Rattle.ripemd_files.specs.declared.verdict.Options.{Options}
pub use Rattle.ripemd_files.specs.declared.verdict.Tally.{Tally}
pub use Rattle.ripemd_files.specs.declared.verdict.Verdict.{Verdict}
pub use Rattle.ripemd_files.specs.declared.verdict.Verdict.TheVariants.{Differs, Matches, Missing, Unreadable}
pub use Rattle.std.specs.declared.io.Error.{Error}
