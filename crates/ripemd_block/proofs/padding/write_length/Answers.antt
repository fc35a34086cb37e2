use Rattle.ripemd_block.proofs.Library.{arith, refl, append-nil, drop_all, drop-drop}
use Rattle.ripemd_block.proofs.padding.write_length.Goals as goal

pub returns : goal.returns
returns c =
    let block = c.args.block.now in
    let nothing = append-nil c.copy_from_slice.new.self in
    rw (drop-drop 8 56 block, drop_all 64 block (omega arith), nothing, c.copy_from_slice.ensures.after, c.to_le_bytes.ensures) refl
