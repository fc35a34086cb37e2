-- Elements put in their places, one after another.
use Rattle.ripemd_block.proofs.Library.{◌≡◌, ℕ, ◌+◌, ◌-◌, ◌<◌, ◌≤◌, min, Bor, append_assoc, length-drop, length-set, length-take-le, take-add, arith, ◌∙◌, List, [], ◌∷◌, ◌++◌, length, map, take, drop, slice_set, drop-map, get_or-map, length-map, take_more, take_more_set, take-map, map-set}
use Rattle.ripemd_batch.specs.Lanes.{PutFrom, list_at, targets}

module _ (made : List ℕ → List ℕ) (messages : List (Bor (List ℕ))) (old : List (List ℕ)) (at : ℕ) where
  -- the outputs of the first j messages are in the places from `at` on, after those before
  pub record Put (j : ℕ) (new : List (List ℕ)) : Type 0 where
    pub size : length new ≡ length old
    pub so_far : take (at + min j (length messages)) new ≡ take at old ++ take (min j (length messages)) (map made (targets messages))

  -- if the next one is put after them, so are those of the first j + 1
  pub put_next : {j : ℕ} {list new : List (List ℕ)} {a : List ℕ} → at + length messages ≤ length old → j < length messages
      → a ≡ made (list_at (targets messages) j) → new ≡ slice_set list (at + j) a → Put j list → Put (j + 1) new
  put_next {j = j} {list = list} {a = a} room in_messages next put before =
      let all : List (List ℕ) = targets messages in
      let outputs : List (List ℕ) = map made all in
      let many : length all ≡ length messages = length-map messages (λ m. m.now) in
      let here : min j (length messages) ≡ j = omega arith in
      let more : min (j + 1) (length messages) ≡ j + 1 = omega arith in
      let behind : at + (j + 1) ≡ at + j + 1 = omega arith in
      let front = take_more_set list (at + j) a (omega (arith, before.size)) in
      let taken = take_more outputs j [] (omega (arith, many, length-map all made)) in
      rw put (record {
        size = length-set list (at + j) a ∙ before.size;
        so_far = cc (append_assoc (take at old) (take j outputs) (a ∷ []), get_or-map made all j [] [] (omega (arith, many)));
      })

  pub put_no_more : {j : ℕ} {list : List (List ℕ)} → length messages ≤ j → Put j list → Put (j + 1) list
  put_no_more {j = j} no_more before =
      let same : min (j + 1) (length messages) ≡ min j (length messages) = omega arith in
      record { size = before.size; so_far = rw same before.so_far }

  -- and so are those of a part of the messages
  pub put_part : {j next : ℕ} {list new : List (List ℕ)} (n end : ℕ) → next ≡ j + n → j < length messages
      → end ≡ min (j + n) (length messages) → PutFrom (at + j) (map made (targets (take (end - j) (drop j messages)))) list new
      → Put j list → Put next new
  put_part {j = j} n end is_next in_messages is_end part before =
      let k : ℕ = end - j in
      let all : List (List ℕ) = targets messages in
      let outputs : List (List ℕ) = map made all in
      let these : map made (targets (take k (drop j messages))) ≡ take k (drop j outputs) = simp (drop-map, take-map) in
      let size : length (take k (drop j outputs)) ≡ k =
      length-take-le k (drop j outputs) (omega (arith, length-drop j outputs, length-map all made, length-map messages (λ m. m.now))) in
      let here : min j (length messages) ≡ j = omega arith in
      let whole : min (j + n) (length messages) ≡ j + k = omega arith in
      let behind : at + (j + k) ≡ at + j + k = omega arith in
      rw is_next (record {
        size = part.0 ∙ before.size;
        so_far = cc (part.1, append_assoc (take at old) (take j outputs) (take k (drop j outputs)), take-add j k outputs);
      })

pub ruleset putting = (map-set)
