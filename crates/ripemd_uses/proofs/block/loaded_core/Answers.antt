use Rattle.ripemd_block.specs.Standard.{ripemd160}
use Rattle.ripemd_block.specs.Laws.Saved.{takes_every_core}
use Rattle.ripemd_uses.proofs.block.loaded_core.Goals as goal

-- any 28 bytes are the saved bytes of some core
pub unwrap-requires : goal.unwrap-requires
unwrap-requires c =
    let loaded = c.deserialize in
    takes_every_core ripemd160 c.args.saved.now loaded.result loaded.ensures.err c.told-saved c.fits-saved
