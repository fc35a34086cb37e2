use Rattle.ripemd_block.proofs.Library.{◌≡◌, ◌+◌, ◌-◌, ◌≤◌, ◌++◌, length, length-append, take, drop, arith, length-take-le, length-drop, take-append-le}
use Rattle.ripemd_block.proofs.Absorbing.{filled_block, blocks_filled, left_over_filled}
use Rattle.ripemd_block.proofs.buffer.fill_block.Goals as goal

pub returns : goal.returns
returns c =
    let len = c.args.len in
    let front = c.args.front.now in
    let bytes = c.args.bytes.now in
    let room = 64 - len in
    let size : length (take len front) + room ≡ 64 = omega (arith, length-take-le len front c.requires.front.0) in
    let some : room ≤ length bytes = omega (arith, c.requires.filled) in
    let behind = drop (length front) c.args.block.now in
    let full : length (front ++ behind) ≤ len + length (take room bytes) =
    omega (arith, c.requires.front.1, length-append front behind, length-drop (length front) c.args.block.now, length-take-le room bytes some) in
    let block = filled_block len (front ++ behind) (take room bytes) full in
    let held = take-append-le len front behind c.requires.front.0 in
    record {
      filled =
          rw (c.put_behind.ensures, c.put_front.ensures, c.split_at.ensures.front, c.split_at.ensures.back, block, held)
          (blocks_filled (take len front) bytes room size some);
      rest = rw c.split_at.ensures.back (left_over_filled (take len front) bytes room size some);
    }
