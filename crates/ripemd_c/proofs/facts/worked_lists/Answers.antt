use Rattle.std.proofs.Common.{refl, rules, arith}
use Rattle.ripemd.specs.Standard.{registers_after, lines_after, compress, with_padding, blocks, hash}
use Rattle.ripemd_mac.specs.Hmac.{key_block, inner_message, outer_message, hmac}
use Rattle.ripemd_mac.specs.Pbkdf2.{U, F, pbkdf2}
use Rattle.ripemd_batch.specs.Pbkdf2.{pbkdf2_each}
use Rattle.ripemd_c.proofs.Working.{written, refused}
use Rattle.ripemd_c.proofs.facts.worked_lists.Goals as goal

pub returns-clause-lists : goal.returns-clause-lists
unfolding registers_after lines_after compress with_padding blocks hash key_block inner_message outer_message hmac
returns-clause-lists c = record {
  records = λ new done does. written (refl, refl) refl does;
  no_records = λ new done does. written (refl, refl) refl does;
  empty_records = λ new done does. written (refl, refl) refl does;
  few_bytes = λ new done does. refused done (λ fits. absurd (omega (arith, fits.1))) does;
  more_bytes = λ new done does. refused done (λ fits. absurd (omega (arith, fits.1))) does;
  little_room = λ new done does. refused done (λ fits. absurd (omega (arith, fits.0))) does;
  list = λ new done does. written refl refl does;
  no_messages = λ new done does. written refl refl does;
  less_room = λ new done does. refused done (λ fits. absurd (omega (arith, fits))) does;
  tags_of_records = λ new done does. written (refl, refl) refl does;
  tags = λ new done does. written refl refl does;
}

pub returns-clause-keys : goal.returns-clause-keys
unfolding registers_after lines_after compress with_padding blocks hash key_block inner_message outer_message hmac U F pbkdf2 pbkdf2_each
returns-clause-keys c = record {
  no_rounds_of_none = λ new done does. refused done (λ fits. absurd (fits.0.0 refl)) does;
  list = λ new done does. written ((search rules, omega arith), refl, refl) refl does;
  no_passwords = λ size few new done does. written ((search rules, omega (arith, few)), refl, search rules) refl does;
  too_long_of_none = λ new done does. refused done (λ fits. absurd (omega (arith, fits.0.1))) does;
  other_room = λ new done does. refused done (λ fits. absurd (omega (arith, fits.2))) does;
  one_salt = λ new done does. refused done (λ fits. absurd (omega (arith, fits.1))) does;
  more_salts = λ new done does. refused done (λ fits. absurd (omega (arith, fits.1))) does;
  blocks_of_list = λ new done does. written ((search rules, omega arith), refl, refl) refl does;
}
