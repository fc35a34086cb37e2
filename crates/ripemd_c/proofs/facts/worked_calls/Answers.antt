use Rattle.ripemd_block.proofs.Library.{◌≡◌, ℕ, ◌*◌, List, [], Some, Bool, IsTrue, get_or, refl, rules, arith, ◌∙◌, length-range_with_len}
use Rattle.ripemd.specs.Published.{hexadecimal}
use Rattle.ripemd.specs.Standard.{Parameters, ripemd128, ripemd160, ripemd256, ripemd320, registers_after, lines_after, compress, with_padding, blocks, hash, ripemd}
use Rattle.ripemd.specs.States.{new_state}
use Rattle.ripemd_mac.specs.Hmac.{key_block, inner_message, outer_message, hmac}
use Rattle.ripemd_mac.specs.Pbkdf2.{U, F, pbkdf2}
use Rattle.ripemd_c.specs.Variants.{digest_size, variant_of}
use Rattle.ripemd_c.specs.KeptStates.{InitsState, UpdatesState, FinalizesState}
use Rattle.ripemd_c.specs.Worked.{Gives, abc}
use Rattle.ripemd_c.proofs.Working.{written, refused, differs}
use Rattle.ripemd_c.proofs.facts.worked_calls.Goals as goal

-- a piece that is "abc", after the start
pieces : (bits : ℕ) (v : Parameters) {digest : List ℕ} (any first next : List ℕ) (begun fed : Bool) → variant_of bits ≡ Some v
    → 8 * digest_size v ≡ bits → hexadecimal (ripemd v abc) ≡ digest
    → InitsState bits any first begun → UpdatesState first abc next fed
    → IsTrue begun × IsTrue fed × Gives (FinalizesState next) (digest_size v) digest
pieces bits v {digest} any first next begun fed is eight computed init update =
    let inits = rw is at init in
    let call = rw (inits.marked, eight, is) at update in
    let all = call.kept.message (new_state v) [] inits.kept in
    let gives : Gives (FinalizesState next) (digest_size v) digest = λ new done does.
    written (length-range_with_len 0 (digest_size v)) computed ((rw (call.mark ∙ inits.marked, eight, is) at does).message tt abc all.1) in
    (inits.yes, all.0, gives)

pub returns-clause-digests : goal.returns-clause-digests
unfolding registers_after lines_after compress with_padding blocks hash
returns-clause-digests c = record {
  of128 = record { whole = λ new done does. written refl refl does; pieces = λ any first next begun fed. pieces 128 ripemd128 any first next begun fed refl refl refl };
  of160 = record { whole = λ new done does. written refl refl does; pieces = λ any first next begun fed. pieces 160 ripemd160 any first next begun fed refl refl refl };
  of256 = record { whole = λ new done does. written refl refl does; pieces = λ any first next begun fed. pieces 256 ripemd256 any first next begun fed refl refl refl };
  of320 = record { whole = λ new done does. written refl refl does; pieces = λ any first next begun fed. pieces 320 ripemd320 any first next begun fed refl refl refl };
  short = λ new done does. refused done (λ fits. absurd (omega (arith, fits))) does;
  no_variant = λ new done does. does;
}

pub returns-clause-tags : goal.returns-clause-tags
unfolding registers_after lines_after compress with_padding blocks hash key_block inner_message outer_message hmac
returns-clause-tags c = record {
  whole = λ new done does. written refl refl does;
  long = λ new done does. refused done (λ fits. absurd (omega (arith, fits))) does;
  verified = λ bytes answer does. does;
  wrong = λ answer does. differs (λ bytes. get_or bytes 0 0) answer does.0 (λ same. omega (arith, same));
  no_variant = λ answer does. does;
}

pub returns-clause-keys : goal.returns-clause-keys
unfolding registers_after lines_after compress with_padding blocks hash key_block inner_message outer_message hmac U F pbkdf2
returns-clause-keys c = record {
  no_rounds = λ new done does. refused done (λ fits. absurd (fits.0 refl)) does;
  one_round = λ new done does. written (search rules, omega arith) refl does;
  two_rounds = λ new done does. written (search rules, omega arith) refl does;
  longest = λ old new done size does. does.fits.1 (search rules, omega (arith, size));
  too_long = λ old new done size does. refused done (λ fits. absurd (omega (arith, size, fits.1))) does;
  no_bytes = λ new done does. written (search rules, omega arith) refl does;
  blocks = λ new done does. written (search rules, omega arith) refl does;
}
