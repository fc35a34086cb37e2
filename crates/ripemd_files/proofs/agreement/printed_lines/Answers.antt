use Rattle.std.proofs.Common.{refl}
use Rattle.ripemd_files.proofs.Agreeing.{match_gives, no_difference, printed_is_taken}
use Rattle.ripemd_files.proofs.agreement.printed_lines.Goals as goal

pub returns-clause-taken : goal.returns-clause-taken
returns-clause-taken g c = printed_is_taken

pub returns-clause-accepted : goal.returns-clause-accepted
returns-clause-accepted g c rules layout form variant message name found ignore_missing number verdict printed event gave =
    no_difference rules layout form variant message name printed (g.F.Folder.place c.args._folder.now) ignore_missing number found verdict event gave

pub returns-clause-matches : goal.returns-clause-matches
returns-clause-matches g c rules layout form variant message name found ignore_missing number printed event =
    match_gives rules layout form variant message name printed (g.F.Folder.place c.args._folder.now) ignore_missing number found _ event refl
