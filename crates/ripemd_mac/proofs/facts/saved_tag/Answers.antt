use Rattle.std.proofs.Common.{◌≡◌, ℕ, List, [], ◌∷◌, codes, get_or, refl, sym, ◌∙◌, ap, arith, rules}
use Rattle.ripemd.specs.Standard.{word_bytes, registers_after, lines_after, compress, with_padding, blocks, partial_block}
use Rattle.ripemd.specs.States.{HashState, fed, finish, output_and_count, core_and_tail}
use Rattle.ripemd_mac.specs.Hmac.{key_block, keyed_state}
use Rattle.ripemd_mac.specs.Saved.{hmac_bytes}
use Rattle.ripemd_mac.proofs.facts.saved_tag.Goals as goal

-- the two hash states
abbrev inner : HashState
inner = record {
  words = 0xe6081cb3 ∷ 0xf2b8b5ad ∷ 0x705421c4 ∷ 0xb049affd ∷ 0x16f0e84e ∷ [];
  count = 1;
  tail = codes "Hi There";
}

abbrev outer : HashState
outer = record {
  words = 0xb9c7367c ∷ 0xe8e83770 ∷ 0xdd6e5662 ∷ 0xd8df10bc ∷ 0x99f90405 ∷ [];
  count = 1;
  tail = [];
}

pub returns : goal.returns
unfolding registers_after lines_after compress with_padding blocks partial_block fed finish output_and_count core_and_tail key_block keyed_state
returns c = record {
  saved = record {
    state = record { inner = inner; outer = outer };
    valid = search rules;
    saved = refl;
    stands = record { is = refl };
  };
  exchanged = λ other.
      let bytes = ap (hmac_bytes word_bytes) (sym other.stands.is) ∙ other.saved in
      let first : 0xb3 ≡ 0x7c = ap (λ (bs : List ℕ). get_or bs 0 0) bytes in
      omega (arith, first);
  tag = refl;
}
