use Rattle.ripemd.proofs.Library.{◌≡◌, ◌<◌, ◌≤◌, List, [], ◌∷◌, length, map, get_or, codes, string_bytes, arith, refl, bytes_eq-Decides}
use Rattle.std.proofs.lemmas.Grind.{common_steps}
use Rattle.ripemd_sum.proofs.arguments.choose_mac.Goals as goal

map-three : {X Y : Type 0} (f : X → Y) (xs : List X) {a b c : X} → 3 ≤ length xs → length xs < 4
    → a ≡ get_or xs 0 a → b ≡ get_or xs 1 b → c ≡ get_or xs 2 c → map f xs ≡ f a ∷ f b ∷ f c ∷ []
map-three f xs least most first second third = grind (arith, common_steps)

pub returns-in_err-length-in-len3-clause-chosen : goal.returns-in_err-length-in-len3-clause-chosen
returns-in_err-length-in-len3-clause-chosen c v n =
    let words = map-three string_bytes c.args.arguments.now c.in-len3.len_at_least c.in-len3.len_below c.name-item.is c.word-item.is c.text-item.is in
    rw words (grind (arith, c.in_err-length-in-len3.ensures.length n, c.as_str-in-len3-2.ensures.value))

pub returns-in_ok-length-in-len3-clause-chosen : goal.returns-in_ok-length-in-len3-clause-chosen
returns-in_ok-length-in-len3-clause-chosen c v n =
    let words = map-three string_bytes c.args.arguments.now c.in-len3.len_at_least c.in-len3.len_below c.name-item.is c.word-item.is c.text-item.is in
    let hmac = bytes_eq-Decides c.as_str.result.now (codes "hmac") in
    rw words (grind (arith, c.in_ok-length-in-len3.ensures.length n, c.in_ok-variant-in-len3.ensures v, c.as_str-in-len3.ensures.value, c.as_str-in-len3-2.ensures.value, c.as_str.ensures.value))

pub returns-in_ok-length-in-len3-clause-most : goal.returns-in_ok-length-in-len3-clause-most
returns-in_ok-length-in-len3-clause-most c = ((c.in_ok-length-in-len3.ensures.length _).0 refl).most
