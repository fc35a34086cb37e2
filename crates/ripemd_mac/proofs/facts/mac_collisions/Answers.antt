use Rattle.std.proofs.Common.{◌≡◌, ℕ, List, refl, ap, arith, slice_index}
use Rattle.ripemd.specs.Standard.{blocks, with_padding, hash}
use Rattle.ripemd.specs.Collisions.{Pair}
use Rattle.ripemd_mac.specs.Hmac.{key_block, inner_message, outer_message}
use Rattle.ripemd_mac.proofs.facts.mac_collisions.Goals as goal

pub returns : goal.returns
unfolding with_padding blocks hash key_block inner_message outer_message
returns c = record {
  agree_again = refl;
  inner = (
    refl,
    record {
      left = refl;
      right = refl;
      collide = record {
        left_place = omega arith;
        right_place = omega arith;
        same_rest = refl;
        different = λ same. omega (arith, ap (λ (pair : Pair ℕ). slice_index pair.1 0) same);
        one_step = refl;
        later_agree = λ i some less.
            let one : i ≡ 1 = omega arith in rw one refl;
      };
    },
  );
  outer = (
    (λ same. omega (arith, ap (λ (bytes : List ℕ). slice_index bytes 0) same)),
    record {
      left = refl;
      right = refl;
      collide = record {
        left_place = omega arith;
        right_place = omega arith;
        same_rest = refl;
        different = λ same. omega (arith, ap (λ (pair : Pair ℕ). slice_index pair.1 0) same);
        one_step = refl;
        later_agree = λ i some less. absurd (omega arith);
      };
    },
  );
  no_outer = λ c met. met.0 refl;
  no_inner = λ c met. omega (arith, ap (λ (bytes : List ℕ). slice_index bytes 0) met.0);
}
