-- The types of the code that definitions and lemmas speak of.
pub use Rattle.rmdsum.specs.declared.arguments.Next.{Next}
pub use Rattle.rmdsum.specs.declared.arguments.Next.TheVariants.{Any, Operand, ShortValue, Value}
pub use Rattle.rmdsum.specs.declared.arguments.Stop.{Stop}
pub use Rattle.rmdsum.specs.declared.names.Entry.{Entry}
pub use Rattle.rmdsum.specs.declared.names.Entry.TheVariants.{Name}
pub use Rattle.rmdsum.specs.declared.names.Wrong.{Wrong}
pub use Rattle.rmdsum.specs.declared.names.Wrong.TheVariants.{Empty, Input, Unread}
pub use Rattle.rmdsum.specs.declared.refusals.Misuse.{Misuse}
pub use Rattle.rmdsum.specs.declared.refusals.Misuse.TheVariants.{ExtraOperand, ModeWithCheck, OnlyWithCheck, TagWithCheck, TextWithTag, ZeroWithCheck}
pub use Rattle.rmdsum.specs.declared.request.NameSource.{NameSource}
pub use Rattle.rmdsum.specs.declared.request.NameSource.TheVariants.{From, Operands}
pub use Rattle.rmdsum.specs.declared.request.Request.{Request}
pub use Rattle.rmdsum.specs.declared.request.Request.TheVariants.{Help, Run, Version}
pub use Rattle.rmdsum.specs.declared.request.Settings.{Settings}
pub use Rattle.rmdsum.specs.declared.request.Work.{Work}
pub use Rattle.rmdsum.specs.declared.request.Work.TheVariants.{Check, Print}
pub use Rattle.rmdsum.specs.declared.switches.Flag.{Flag}
pub use Rattle.rmdsum.specs.declared.switches.Flag.TheVariants.{Binary, IgnoreMissing, Progress, Quiet, Status, Strict, Tag, Text, Warn, Zero}
pub use Rattle.rmdsum.specs.declared.switches.Found.{Found}
pub use Rattle.rmdsum.specs.declared.switches.Found.TheVariants.{Nothing, One, Several}
pub use Rattle.rmdsum.specs.declared.switches.Parameter.{Parameter}
pub use Rattle.rmdsum.specs.declared.switches.Parameter.TheVariants.{Algorithm, FilesFrom}
pub use Rattle.rmdsum.specs.declared.switches.Switch.{Switch}
pub use Rattle.std.specs.declared.io.Error.{Error}
