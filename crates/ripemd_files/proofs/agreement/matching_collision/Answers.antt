use Rattle.ripemd_files.specs.declared.agreement.VariantCollision.TheVariants as collisions
use Rattle.ripemd_files.proofs.Agreeing.{equal_messages}
use Rattle.ripemd_files.proofs.agreement.matching_collision.Goals as goal

pub returns-in-R128-clause-line : goal.returns-in-R128-clause-line
returns-in-R128-clause-line g c = equal_messages (g.F.Folder.place c.args._folder.now) c.args.variant _ _ _ collisions.R128 _ _ c.in-R128.is c.collision_witness.ensures.none c.map.ensures.cases

pub returns-in-R160-clause-line : goal.returns-in-R160-clause-line
returns-in-R160-clause-line g c = equal_messages (g.F.Folder.place c.args._folder.now) c.args.variant _ _ _ collisions.R160 _ _ c.in-R160.is c.collision_witness-in-R160.ensures.none c.map-in-R160.ensures.cases

pub returns-in-R256-clause-line : goal.returns-in-R256-clause-line
returns-in-R256-clause-line g c = equal_messages (g.F.Folder.place c.args._folder.now) c.args.variant _ _ _ collisions.R256 _ _ c.in-R256.is c.collision_witness-in-R256.ensures.none c.map-in-R256.ensures.cases

pub returns-in-R320-clause-line : goal.returns-in-R320-clause-line
returns-in-R320-clause-line g c = equal_messages (g.F.Folder.place c.args._folder.now) c.args.variant _ _ _ collisions.R320 _ _ c.in-R320.is c.collision_witness-in-R320.ensures.none c.map-in-R320.ensures.cases
