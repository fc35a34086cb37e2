use Rattle.std.proofs.Common.{◌≡◌, ℕ, List, [], ◌∷◌, ◌++◌, codes, length, replicate, drop, get_or, refl, ap, subst, ◌∙◌, arith, rules}
use Rattle.ripemd.specs.Standard.{word_bytes, ripemd160, registers_after, lines_after, compress, with_padding, blocks, partial_block, hash}
use Rattle.ripemd.specs.States.{HashState, new_state, fed, finish, output_and_count, core_and_tail}
use Rattle.ripemd_block.specs.Laws.Saved.{length-core_and_tail, word_bytes_output}
use Rattle.ripemd.proofs.Saved.{tail_back}
use Rattle.ripemd_mac.specs.Laws.{inner_part, outer_part}
use Rattle.ripemd.specs.Published.{hexadecimal}
use Rattle.ripemd_mac.specs.Hmac.{KeyedState, key_block, inner_message, outer_message, hmac, keyed_state, fed_text}
use Rattle.ripemd_mac.specs.Worked.{saved_inner, saved_outer}
use Rattle.ripemd_c.specs.KeptStates.{IsSavedState, IsSavedHmac}
use Rattle.ripemd_c.specs.Worked.{forged, key, saved_bytes, soiled, soiled_bytes}
use Rattle.ripemd_c.specs.KeptBytes.{cleared}
use Rattle.ripemd_c.proofs.KeptBytes.{saved_is_clear}
use Rattle.ripemd_c.proofs.Working.{written, refused}
use Rattle.ripemd_c.proofs.facts.worked_states.Goals as goal

-- the message, and its hash state
abbrev message : List ℕ
message = replicate 64 0x61 ++ 0x62 ∷ []

abbrev after : HashState
after = record { words = 0xd42339f0 ∷ 0xce5b9f6f ∷ 0x2874a075 ∷ 0xdf67aaf1 ∷ 0xc6c1be1c ∷ []; count = 1; tail = 0x62 ∷ [] }

is_saved : IsSavedState ripemd160 after saved_bytes
unfolding output_and_count core_and_tail
is_saved = record { valid = search rules; saved = refl }

-- after another block
abbrev twice : HashState
twice = record after { count = 2 }

-- the forged bytes have a tail of 255
not_state : (h : HashState) → ¬ IsSavedState ripemd160 h forged
not_state h is =
    let size : length h.tail ≡ 255 =
    ap (λ (bs : List ℕ). get_or bs 0 0) (tail_back (word_bytes_output 5) h is.valid 28 refl forged is.saved (drop 28 forged) refl) in
    omega (arith, size, is.valid.tail.short)

-- bytes with a 7 in place of a zero after the tail are saved of no state
no_zeros : (bytes : List ℕ) (place : ℕ) → get_or bytes place 0 ≡ 7 → get_or (cleared 28 bytes) place 0 ≡ 0
    → (h : HashState) → ¬ IsSavedState ripemd160 h bytes
no_zeros bytes place seven zero h is =
    omega (arith, seven, zero, ap (λ (bs : List ℕ). get_or bs place 0) (saved_is_clear (word_bytes_output 5) refl h bytes is.valid is.saved))

no_outer : (outer : List ℕ) → ((h : HashState) → ¬ IsSavedState ripemd160 h outer) → (s : KeyedState)
    → ¬ IsSavedHmac ripemd160 s (saved_inner ++ outer)
no_outer outer none s is =
    none s.outer (record { valid = is.valid.outer; saved = outer_part (word_bytes_output 5) s is.valid (saved_inner ++ outer) is.saved })

-- an HMAC state with its hash states exchanged, and what it is saved as
abbrev exchanged : KeyedState → KeyedState
exchanged s = record { inner = s.outer; outer = s.inner }

exchanged_saved : (s : KeyedState) → IsSavedHmac ripemd160 s (saved_inner ++ saved_outer)
    → IsSavedHmac ripemd160 (exchanged s) (saved_outer ++ saved_inner)
exchanged_saved s is = record {
  valid = record { inner = is.valid.outer; outer = is.valid.inner };
  saved = cc (outer_part (word_bytes_output 5) s is.valid _ is.saved, inner_part (word_bytes_output 5) s is.valid _ is.saved);
}

-- the HMAC state of the key
abbrev start : KeyedState
start = keyed_state ripemd160.start (compress ripemd160) word_bytes key

pub returns-clause-states : goal.returns-clause-states
unfolding registers_after lines_after compress with_padding blocks partial_block hash fed finish output_and_count core_and_tail
returns-clause-states c = record {
  finalized = λ new done does. written refl refl (does.message tt message is_saved);
  updated = λ next fed does.
      let all = does.kept.message (new_state ripemd160) message is_saved in
      (all.0, λ new done gives. written refl refl ((rw does.mark at gives).message tt (message ++ 0x63 ∷ []) all.1));
  continued = λ next done does.
      let all = does.kept.state twice (record { valid = search rules; saved = refl }) in
      (all.0, λ new done gives. written refl refl ((rw does.mark at gives).state (fed (compress ripemd160) twice (codes "c")) all.1));
  saved = λ new done does. written refl refl (does.state after is_saved);
  loaded = λ any next done does.
      let keeps = does.state (fed (compress ripemd160) (new_state ripemd160) message) is_saved in
      (keeps.yes, λ new done gives. written refl refl ((rw keeps.marked at gives).message tt message keeps.kept), keeps.behind);
  short = λ new done does. refused done (λ fits. absurd (omega (arith, fits))) (does.state after is_saved);
  not_finalized = λ new done does. does.refused not_state;
  other_kind = λ new done does. does;
  other_mark = λ new done does. does;
  not_updated = λ piece new done does. let unfit = does.kept.refused.1 not_state in (unfit, does.unchanged unfit);
  short_saved = λ new done does. refused done (λ fits. absurd (omega (arith, fits))) (does.state after is_saved);
  not_saved = λ new done does. does.refused not_state;
  not_zeros = λ new done does. does.refused (no_zeros soiled_bytes 30 refl refl);
  other_variant = λ new done does. does.refused (λ h is. omega (arith, ap length is.saved, length-core_and_tail (word_bytes_output 4) h is.valid));
  no_variant = λ new done does. does;
  behind = λ first next begun fed init update. (rw init.marked at update).behind ∙ init.behind;
}

pub returns-clause-hmac_states : goal.returns-clause-hmac_states
unfolding registers_after lines_after compress with_padding blocks partial_block hash fed finish key_block keyed_state inner_message outer_message hmac
returns-clause-hmac_states c =
    let saved_for = c.saved_tag.ensures.saved in
    let there = codes "Hi There" in
    let after : KeyedState = fed_text (compress ripemd160) start there in
    let text : IsSavedHmac ripemd160 after (saved_inner ++ saved_outer) =
    subst (λ s. IsSavedHmac ripemd160 s (saved_inner ++ saved_outer)) saved_for.stands.is (record { valid = saved_for.valid; saved = saved_for.saved }) in
    let none : (s : KeyedState) → ¬ IsSavedHmac ripemd160 s (saved_inner ++ forged) = no_outer forged not_state in
    record {
      finalized = λ new done does. written refl refl (does.message key there text);
      exchanged = λ new done does. written refl refl (does.state (exchanged after) (exchanged_saved after text));
      saved = λ new done does. written refl (ap hexadecimal text.saved) (does.state after text);
      loaded = λ any next done does.
          let keeps = does.state after text in
          (keeps.yes, λ new done gives. written refl refl ((rw keeps.marked at gives).message key there keeps.kept), keeps.behind);
      short = λ new done does. refused done (λ fits. absurd (omega (arith, fits))) (does.message key there text);
      not_finalized = λ new done does. does.refused none;
      other_kind = λ answer does. does;
      other_mark = λ new done does. does;
      verified = λ bytes answer does. does.message key there text;
      not_verified = λ some answer does. does.refused none;
      not_updated = λ piece new done does. let unfit = does.kept.refused.1 none in (unfit, does.unchanged unfit);
      short_saved = λ new done does. refused done (λ fits. absurd (omega (arith, fits))) (does.state after text);
      not_saved = λ new done does. does.refused none;
      not_zeros = λ new done does. does.refused (no_outer (soiled 29 saved_outer) (no_zeros (soiled 29 saved_outer) 29 refl refl));
      no_variant = λ new done does. does;
      tagged = λ any first next begun fed init update.
          let call = rw init.marked at update in
          let all = call.kept.message start [] init.kept in
          (init.yes, all.0, λ new done does. written refl refl ((rw (call.mark ∙ init.marked) at does).message key there all.1));
    }
