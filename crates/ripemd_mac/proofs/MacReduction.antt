-- What collisions of the inner and of the outer messages say of the texts.
use Rattle.ripemd.proofs.Library.{◌≡◌, ◌≢◌, ◌⊎◌, ◌↔◌, ℕ, sym, ap, refl, rules, ◌∙◌, arith, List, ◌++◌, Option, None, Some, Result, Ok, Err, true, false, IsErr, OnErr, IsNone, IfSome, IsSomeAnd, MatchOption, append_cancel_left, false≢true, bytes_eq-Decides, bytes_eq}
use Rattle.ripemd.specs.Collisions.{IsCollision, IsOnlyCollision}
use Rattle.ripemd.specs.declared.witness.Collision.{Collision}
use Rattle.ripemd_mac.specs.declared.reduction.MacCollision.{MacCollision}
use Rattle.ripemd_mac.specs.declared.reduction.MacCollision.TheVariants.{Inner, Outer}
use Rattle.ripemd_mac.specs.Hmac.{key_block, masked, inner_message, outer_message, hmac}
use Rattle.ripemd_mac.specs.MacCollisions.{InnerAgree, IsMacCollision}

-- whether two messages with one front are equal, or their hashes differ, is so of what follows the front, and of
-- another hash with the same bytes
pub after_front : {O : Type 0} (other : List ℕ → O) (bytes : O → List ℕ) (hash : List ℕ → List ℕ)
    → ((m : List ℕ) → bytes (other m) ≡ hash m) → ((c d : O) → bytes c ≡ bytes d → c ≡ d) → (front a b : List ℕ)
    → ((front ++ a ≡ front ++ b) ⊎ (other (front ++ a) ≢ other (front ++ b)))
    ↔ ((a ≡ b) ⊎ (hash (front ++ a) ≢ hash (front ++ b)))
after_front other bytes hash same one front a b =
    grind (arith, append_cancel_left front a b, same (front ++ a), same (front ++ b), one (other (front ++ a)) (other (front ++ b)))

module _ (hash : List ℕ → List ℕ) (key a b : List ℕ) where
  -- when there is no collision
  abbrev pub Nothing : Type 0
  Nothing = (a ≡ b) ⊎ (hmac hash key a ≢ hmac hash key b)

  pub tags_agree : InnerAgree hash key a b → hmac hash key a ≡ hmac hash key b
  unfolding hmac outer_message
  tags_agree agree = ap (λ (bs : List ℕ). hash (masked 0x5c (key_block hash key) ++ bs)) agree

  -- comparing the digests of the inner messages tells whether they agree
  pub compared : {masked_key c d x y : List ℕ} → masked_key ≡ masked 0x36 (key_block hash key)
      → c ≡ hash (masked_key ++ a) → x ≡ c → d ≡ hash (masked_key ++ b) → y ≡ d
      → (x ≡ hash (inner_message hash key a)) × (y ≡ hash (inner_message hash key b)) × ((bytes_eq x y ≡ true) ↔ InnerAgree hash key a b)
  unfolding inner_message
  compared {x = x} {y = y} is of_c of_x of_d of_y =
      (cc, cc, (λ same. cc ((bytes_eq-Decides x y).0 same), λ agree. (bytes_eq-Decides x y).1 (cc)))

  -- out of memory
  pub no_memory : {X E : Type 0} (r : Result (Option X) E) → IsErr r → bytes_eq a b ≡ false → InnerAgree hash key a b
      → ((r ≡ Ok None) ↔ Nothing) × OnErr r ((a ≢ b) × InnerAgree hash key a b)
  no_memory (Ok x) refused apart agree = absurd (cc)
  no_memory (Err e) refused apart agree =
      let differ : a ≢ b = λ same. false≢true (sym apart ∙ (bytes_eq-Decides a b).1 same) in
      (grind (arith, tags_agree agree), (differ, agree))

  module _ {S : Type 0} (start : S) (step : S → List ℕ → S) where
    -- the answer if memory suffices
    pub record IsAnswer (E : Type 0) (answer : Option (MacCollision S)) : Type 0 where
      pub none : (◌≡◌ {A = Result (Option (MacCollision S)) E} (Ok answer) (Ok None)) ↔ Nothing
      pub some : IfSome answer (IsMacCollision hash start step key a b)
      pub only : IfSome answer (λ found. (other : MacCollision S)
          → IsMacCollision hash start step key a b other → other ≡ found)

    -- it is the answer for two messages if their collisions, wrapped, are those of the tags
    wrapped : {E : Type 0} (wrap : Collision S → MacCollision S) (x y : List ℕ)
        → ((c : Collision S) → IsCollision start step x y c → IsMacCollision hash start step key a b (wrap c))
        → ((m : MacCollision S) → IsMacCollision hash start step key a b m
        → (c : Collision S) × (m ≡ wrap c) × IsCollision start step x y c)
        → (found : Option (Collision S)) (answer : Option (MacCollision S))
        → MatchOption found (answer ≡ None) (λ c. IsSomeAnd answer (λ m. m ≡ wrap c))
        → (IsNone found ↔ Nothing) → IfSome found (IsCollision start step x y) → IsOnlyCollision start step x y found
        → IsAnswer E answer
    wrapped wrap x y into back None None is none some only =
        record { none = (λ _. none.0 refl, λ _. refl); some = tt; only = tt }
    wrapped wrap x y into back None (Some m) is none some only = absurd (cc)
    wrapped wrap x y into back (Some c) None is none some only = absurd is
    wrapped wrap x y into back (Some c) (Some m) is none some only = record {
      none = (λ same. absurd (cc), λ nothing. absurd (false≢true (sym (none.1 nothing))));
      some = rw is (into c some);
      only = λ other its.
          let from = back other its in
          let same : Some c ≡ Some from.0 = only from.0 from.2 in
          from.1 ∙ ap wrap (search (rules, same)) ∙ sym is;
    }

    -- for the inner messages, if their hashes agree
    of_inner : (m : MacCollision S) → IsMacCollision hash start step key a b m → InnerAgree hash key a b
        → (c : Collision S) × (m ≡ Inner c) × IsCollision start step (inner_message hash key a) (inner_message hash key b) c
    of_inner (Inner c) is agree = (c, refl, is.1)
    of_inner (Outer c) is agree = absurd (is.0 agree)

    pub inner_answer : {E : Type 0} {masked_key : List ℕ} → masked_key ≡ masked 0x36 (key_block hash key)
        → InnerAgree hash key a b → (found : Option (Collision S)) (answer : Option (MacCollision S))
        → MatchOption found (answer ≡ None) (λ c. IsSomeAnd answer (λ m. m ≡ Inner c))
        → (IsNone found ↔ ((a ≡ b) ⊎ (hash (masked_key ++ a) ≢ hash (masked_key ++ b))))
        → IfSome found (IsCollision start step (masked_key ++ a) (masked_key ++ b))
        → IsOnlyCollision start step (masked_key ++ a) (masked_key ++ b) found → IsAnswer E answer
    unfolding inner_message
    inner_answer is agree found answer met none some only =
        let same = rw is at none in
        wrapped Inner (inner_message hash key a) (inner_message hash key b) (λ c its. (agree, its))
        (λ m its. of_inner m its agree) found answer met (grind (arith, same, tags_agree agree))
        (rw is at some) (rw is at only)

    -- for the outer messages, if the hashes of the inner ones differ
    of_outer : (m : MacCollision S) → IsMacCollision hash start step key a b m → ¬ InnerAgree hash key a b
        → (c : Collision S) × (m ≡ Outer c) × IsCollision start step (outer_message hash key a) (outer_message hash key b) c
    of_outer (Inner c) is apart = absurd (apart is.0)
    of_outer (Outer c) is apart = (c, refl, is.1)

    pub outer_answer : {E : Type 0} {masked_key c d : List ℕ} → masked_key ≡ masked 0x5c (key_block hash key)
        → c ≡ hash (inner_message hash key a) → d ≡ hash (inner_message hash key b)
        → ¬ InnerAgree hash key a b → (found : Option (Collision S)) (answer : Option (MacCollision S))
        → MatchOption found (answer ≡ None) (λ o. IsSomeAnd answer (λ m. m ≡ Outer o))
        → (IsNone found ↔ ((c ≡ d) ⊎ (hash (masked_key ++ c) ≢ hash (masked_key ++ d))))
        → IfSome found (IsCollision start step (masked_key ++ c) (masked_key ++ d))
        → IsOnlyCollision start step (masked_key ++ c) (masked_key ++ d) found → IsAnswer E answer
    unfolding hmac outer_message
    outer_answer is of_a of_b differ found answer met none some only =
        let same = rw (is, of_a, of_b) at none in
        wrapped Outer (outer_message hash key a) (outer_message hash key b) (λ o its. (differ, its))
        (λ m its. of_outer m its differ) found answer met (grind (arith, same, differ))
        (rw (is, of_a, of_b) at some) (rw (is, of_a, of_b) at only)
