-- The kept bytes of an HMAC state: two hash states.
use Rattle.std.proofs.Common.{◌≡◌, ℕ, ◌+◌, List, ◌++◌, length, take, drop, sym, ap, ◌∙◌, arith, refl, take_at, drop_at, length-take}
use Rattle.ripemd.specs.States.{core_and_tail}
use Rattle.ripemd.specs.OverLists.{IsInjectiveOutput}
use Rattle.ripemd_mac.specs.Hmac.{KeyedState}
use Rattle.ripemd_mac.specs.Saved.{IsKeyedState, hmac_bytes}
use Rattle.ripemd_mac.specs.Laws.{length-hmac_bytes}
use Rattle.ripemd_c.specs.KeptBytes.{cleared, cleared_hmac}
use Rattle.ripemd.specs.Laws.{length-core_and_tail}
use Rattle.ripemd_c.proofs.KeptBytes.{length-cleared, same_parts, saved_is_clear}

-- put together of kept hash states
pub cleared-both : (core : ℕ) (inner outer : List ℕ) → length inner ≡ core + 64
    → cleared_hmac core (inner ++ outer) ≡ cleared core inner ++ cleared core outer
cleared-both core inner outer size = rw (take_at inner outer (core + 64) size, drop_at inner outer (core + 64) size) refl

-- the first of the bytes that an HMAC state is kept as keep its inner hash state, and the others its outer one
module _ {are_words : List ℕ → Type 0} {output : List ℕ → List ℕ} {n core half : ℕ} (tells : IsInjectiveOutput are_words output n)
    (core_size : core ≡ n + 8) (half_is : half ≡ core + 64) (kept : List ℕ) (size : length kept ≡ half + half)
    (s : KeyedState) (valid : IsKeyedState are_words s) (same : hmac_bytes output s ≡ cleared_hmac core kept) where
  halves : (core_and_tail output s.inner ≡ cleared core (take half kept)) × (core_and_tail output s.outer ≡ cleared core (drop half kept))
  halves =
      let inner : List ℕ = take half kept in
      let held : length (core_and_tail output s.inner) ≡ length (cleared core inner) =
      omega (arith, length-core_and_tail tells s.inner valid.inner, length-cleared core inner, length-take half kept) in
      same_parts (core_and_tail output s.inner) (cleared core inner) (core_and_tail output s.outer) _ held (rw half_is same)

  pub inner_half : {inner : List ℕ} → inner ≡ take half kept → core_and_tail output s.inner ≡ cleared core inner
  inner_half is = halves.0 ∙ ap (cleared core) (sym is)

  pub outer_half : {outer : List ℕ} → outer ≡ drop half kept → core_and_tail output s.outer ≡ cleared core outer
  outer_half is = halves.1 ∙ ap (cleared core) (sym is)

-- the saved bytes of an HMAC state have zeros after both tails
pub saved_hmac_is_clear : {are_words : List ℕ → Type 0} {output : List ℕ → List ℕ} {n core : ℕ} → IsInjectiveOutput are_words output n
    → core ≡ n + 8 → (s : KeyedState) (bytes : List ℕ) → IsKeyedState are_words s → hmac_bytes output s ≡ bytes
    → cleared_hmac core bytes ≡ bytes
saved_hmac_is_clear {output = output} {core = core} tells size s bytes valid same = cc (
  cleared-both core (core_and_tail output s.inner) (core_and_tail output s.outer) (omega (arith, length-core_and_tail tells s.inner valid.inner, size)),
  saved_is_clear tells size s.inner _ valid.inner refl,
  saved_is_clear tells size s.outer _ valid.outer refl,
)

pub ruleset saving_hmac = (saved_hmac_is_clear, length-hmac_bytes)
