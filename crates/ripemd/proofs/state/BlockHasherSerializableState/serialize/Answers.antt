use Rattle.ripemd_block.proofs.Library.{◌≡◌, ◌+◌, ◌-◌, ℕ, length, arith, drop-replicate}
use Rattle.ripemd_block.specs.States.{with_tail, output_and_count}
use Rattle.ripemd_block.specs.Laws.Saved.{core_and_tail-split}
use Rattle.ripemd.proofs.state.BlockHasherSerializableState.serialize.Goals as goal

pub returns-clause-bytes : goal.returns-clause-bytes
unfolding output_and_count
returns-clause-bytes g c =
    let h = with_tail c.self.inside.core c.self.inside.buffer in
    let zeros = drop-replicate {X = ℕ} (1 + length h.tail) 64 0 in
    let left : 64 - (1 + length h.tail) ≡ 63 - length h.tail = omega arith in
    let joined = rw c.unwrap.ensures at c.from_slices.ensures.same in
    cc (core_and_tail-split g.F.ListBlockFunction.output h, zeros)
