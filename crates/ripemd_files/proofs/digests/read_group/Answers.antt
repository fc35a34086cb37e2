use Rattle.ripemd_block.proofs.Library.{ℕ, List, subst, sym, IfOk-weaker}
use Rattle.ripemd_files.specs.Types.{Content, Short, Read, Outcome, Digest}
use Rattle.ripemd_files.specs.Files.{ComesTo, Follows, IsContent, Place}
use Rattle.ripemd_files.proofs.Zips.{all_first, first_through}
use Rattle.ripemd_files.proofs.digests.read_group.Goals as goal

-- what follows from the content of a file is what reading it comes to
comes_to : {File : Type 0} (place : Place File) (hash : List ℕ → List ℕ) (name : List ℕ) (content : Content) (outcome : Outcome)
    → IsContent place hash name content → Follows hash content outcome → ComesTo place hash name outcome
comes_to place hash name (Short message) (Digest digest) is follows = (message.items, is, follows)
comes_to place hash name (Read read) outcome is follows = subst (ComesTo place hash name) (sym follows) is
comes_to place hash name _ _ is follows = absurd follows

pub returns : goal.returns
returns g c =
    IfOk-weaker c.outcomes_of.result _ _ (λ outcomes follow. first_through _ _ _ _ _ _ (comes_to (g.F.Folder.place c.args.folder.now) _) c.in_ok-contents.ensures
    (all_first _ _ _ follow)) c.outcomes_of.ensures
