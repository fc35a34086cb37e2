use Rattle.ripemd_block.proofs.Library.{◌≡◌, length, refl, rules, nil_from_length}
use Rattle.ripemd_block.specs.OverLists.{walk_over_lists}
use Rattle.ripemd_block.proofs.block_core.BlockCoreUpdateCore.update_blocks.Goals as goal
use Rattle.ripemd_block.proofs.block_core.BlockCoreUpdateCore.update_blocks.Goals.{then-not-is_empty, else-not-is_empty}

pub returns-clause-after : goal.returns-clause-after
returns-clause-after g c =
    let blocks = c.args.blocks.now in
    elim c.if-not-is_empty.branch [
      | then-not-is_empty w ↦
          let walked = walk_over_lists g.met.F.ListBlockFunction.over_lists c.self.inside.state blocks in
          rw (← c.self.view_is, w.self-inside-is, w.walk_on.ensures.value, walked) refl
      | else-not-is_empty w ↦
          let none : length blocks ≡ 0 = search (rules, w.if-not-is_empty.ensures) in
          let empty = nil_from_length blocks none in
          rw (← c.self.view_is, w.self-inside-is, empty) refl
    ]
