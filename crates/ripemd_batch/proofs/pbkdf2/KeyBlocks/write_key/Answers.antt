use Rattle.ripemd_block.proofs.Library.{◌≡◌, ℕ, ◌+◌, ◌-◌, ◌*◌, ◌%◌, ◌<◌, min, List, length, take, drop, length-take-le, length-drop, ap, refl, sym, ◌∙◌, arith, rules, subst, div_ceil}
use Rattle.ripemd_block.specs.Standard.{hash}
use Rattle.ripemd_mac.specs.Hmac.{hmac}
use Rattle.ripemd_mac.specs.Pbkdf2.{F, pbkdf2}
use Rattle.ripemd_mac.proofs.Deriving.{Written, all_written, block_begins, none_written, one_more}
use Rattle.ripemd_batch.specs.Pbkdf2.{HasBlocks, InGroup, KeyList}
use Rattle.ripemd_batch.specs.Lanes.{list_at}
use Rattle.ripemd_batch.proofs.KeyBlocks.{in_group, next_group}
use Rattle.ripemd_batch.proofs.pbkdf2.KeyBlocks.write_key.Goals as goal

pub loop-b-preserved : goal.loop-b-preserved
loop-b-preserved g c =
    let tag = hmac (hash g.D.Digest.start g.D.Digest.step g.D.Digest.output) in
    let digest : ℕ = g.D.OutputSizeUser.OUTPUT_SIZE in
    let keys = c.args.self.now in
    let i : ℕ = c.args.i in
    let size : ℕ = c.digest_size-size.result in
    let n : ℕ = length c.args.key.now in
    let b : ℕ = c.loop-b.b in
    let k : ℕ = c.self.inside.count * i + b in
    let at : ℕ = size * b in
    let end : ℕ = c.min-end.result in
    let key = c.loop-b.key in
    let group = c.begin_group.new.group in
    let own : c.self.inside.count ≡ keys.count = ap (λ (keys : KeyList). keys.count) c.self.view_is in
    let place : k ≡ keys.count * i + b = ap (λ count. count * i + b) own in
    let is : size ≡ digest = c.digest_size-size.ensures.size in
    let within : b < keys.count = rw (← own) c.loop-b-test.true in
    let inside : at < n = block_begins n size b c.digest_size-size.ensures.some (rw (is, ← c.requires.count) within) in
    let blocks : HasBlocks digest tag keys (k - k % 8) group = c.begin_group.ensures (rw place c.loop-b.invariant.group) in
    let has = in_group digest tag keys i b k group c.requires.pair within place blocks in
    let is_end : end ≡ min n (at + size) = c.min-end.ensures ∙ ap (λ len. min len (at + size)) c.loop-b.invariant.written.len in
    let room = c.write_front.auto.part in
    let behind = length-drop at key in
    record {
      group = next_group digest tag keys k (keys.count * i + (b + 1)) group blocks (omega arith);
      written = one_more _ size n b end key c.write_front.new.part (drop (end - at) (drop at key)) (list_at group (k % 8))
          c.loop-b.invariant.written inside is_end
          (room ∙ length-take-le (end - at) (drop at key) (omega (arith, behind, c.loop-b.invariant.written.len, is_end)))
          (omega (arith, length-drop (end - at) (drop at key), behind, c.loop-b.invariant.written.len, is_end, inside))
          (c.write_front.ensures ∙ search rules ∙ ap (λ m. take m (list_at group (k % 8))) (sym room)) has.block (has.size ∙ sym is);
    }

pub returns-clause-key : goal.returns-clause-key
unfolding pbkdf2
returns-clause-key g c =
    let tag = hmac (hash g.D.Digest.start g.D.Digest.step g.D.Digest.output) in
    let keys = c.args.self.now in
    let f : ℕ → List ℕ = F tag (list_at keys.passwords c.args.i) (list_at keys.salts c.args.i) keys.rounds in
    let size : ℕ = c.digest_size-size.result in
    let n : ℕ = length c.args.key.now in
    let is : size ≡ g.D.OutputSizeUser.OUTPUT_SIZE = c.digest_size-size.ensures.size in
    let end : c.loop-b.b ≡ div_ceil n size =
    search (rules, arith) ∙ ap (λ (keys : KeyList). keys.count) c.self.view_is ∙ c.requires.count ∙ ap (div_ceil n) (sym is) in
    rw (← is)
    (all_written f size n c.loop-b.key c.digest_size-size.ensures.some
    (subst (λ (b : ℕ). Written f size n b c.loop-b.key) end c.loop-b.invariant.written))

pub loop-b-init : goal.loop-b-init
loop-b-init g c =
    let keys = c.args.self.now in
    record {
      group = subst (λ n. InGroup g.D.OutputSizeUser.OUTPUT_SIZE (hmac (hash g.D.Digest.start g.D.Digest.step g.D.Digest.output)) keys n c.args.group.now) (omega arith) c.requires.group;
      written = none_written _ c.digest_size-size.result (length c.args.key.now) c.args.key.now refl;
    }

pub returns-clause-group : goal.returns-clause-group
returns-clause-group g c =
    let keys = c.args.self.now in
    let end : c.loop-b.b ≡ keys.count = search (rules, arith) ∙ ap (λ (keys : KeyList). keys.count) c.self.view_is in
    let next : keys.count * c.args.i + c.loop-b.b ≡ keys.count * (c.args.i + 1) = omega (arith, end) in
    subst (λ n. InGroup g.D.OutputSizeUser.OUTPUT_SIZE (hmac (hash g.D.Digest.start g.D.Digest.step g.D.Digest.output)) keys n c.loop-b.group) next c.loop-b.invariant.group
