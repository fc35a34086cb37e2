-- A digest has the length of its variant, and consists of bytes.
use Rattle.ripemd_block.proofs.Library.{◌≡◌, ◌⊎◌, ℕ, zero, suc, ◌+◌, ◌≤◌, List, [], ◌∷◌, ◌++◌, length, take, drop, Option, inl, inr, refl, sym, ◌∙◌, arith, slice_get, length-append, length-take, length-drop, length-set, fold, to_le_bytes, w32}
use Rattle.hex.specs.Hex.{IsBytes}
use Rattle.ripemd_block.specs.Standard.{word_bytes, Line, left_line, right_line, Lines, Parameters, compress, double_state, exchange, from_place, joint_state, lines_after, lines_from, registers_after, ripemd128, ripemd160, step, word_sums, blocks, hash, padded_message}
use Rattle.ripemd_block.specs.Laws.WordBytes.{length-word_bytes}
use Rattle.ripemd.specs.Standard.{ripemd}
use Rattle.ripemd_files.specs.Types.{Variant, R128, R160}
use Rattle.ripemd_files.specs.Lines.{size_of}
use Rattle.ripemd_files.specs.Files.{parameters_of}

-- ---- the length

length-sums : (xs ys : List ℕ) → length xs ≡ length ys → length (word_sums xs ys) ≡ length xs
length-sums [] ys same = refl
length-sums (x ∷ xs) ys same = grind (arith, length-sums xs)

length-from_place : (k : ℕ) (xs : List ℕ) → length (from_place k xs) ≡ length xs
length-from_place k xs = omega (arith, length-append (drop k xs) (take k xs), length-take k xs, length-drop k xs)

length-step : (f : ℕ → ℕ → ℕ → ℕ) (x k s n : ℕ) (registers : List ℕ) → (n ≡ 4) ⊎ (n ≡ 5) → length registers ≡ n
    → length (step f x k s registers) ≡ n
length-step f x k s n registers is long = grind arith

length-registers : (line : Line) (block : List ℕ) (r count n : ℕ) (registers : List ℕ) → (n ≡ 4) ⊎ (n ≡ 5) → length registers ≡ n
    → length (registers_after line block r count registers) ≡ n
unfolding registers_after
length-registers line block r zero n registers is long = long
length-registers line block r (suc count) n registers is long =
    grind (arith, length-step, length-registers line block r count n registers is long)

-- both lines have so many registers
abbrev AreLong : ℕ → Lines → Type 0
AreLong n l = (length l.left ≡ n) × (length l.right ≡ n)

long-exchange : (n : ℕ) (place : Option ℕ) (l : Lines) → AreLong n l → AreLong n (exchange place l)
long-exchange n place l long = grind (arith, length-set)

long-lines : (v : Parameters) (block : List ℕ) (n r : ℕ) (l : Lines) → (n ≡ 4) ⊎ (n ≡ 5) → AreLong n l → AreLong n (lines_after v block r l)
unfolding lines_after
long-lines v block n zero l is long = long
long-lines v block n (suc r) l is long =
    let (left, right) = long-lines v block n r l is long in
    long-exchange n (slice_get v.exchanges r) _
    (length-registers left_line block r 16 n _ is left, length-registers (right_line v.rounds) block r 16 n _ is right)

long-from : (v : Parameters) (state : List ℕ) → v.registers ≤ length state → AreLong v.registers (lines_from v state)
long-from v state within = grind (arith, length-take, length-drop)

length-joint : (state left right : List ℕ) → length left ≡ length state → length right ≡ length state → length (joint_state state left right) ≡ length state
length-joint state left right a b =
    let sum : length (word_sums (from_place 1 state) (from_place 2 left)) ≡ length state = grind (arith, length-sums, length-from_place 1 state, length-from_place 2 left) in
    length-sums (word_sums (from_place 1 state) (from_place 2 left)) (from_place 3 right) (sum ∙ sym b ∙ sym (length-from_place 3 right)) ∙ sum

length-double : (n : ℕ) (state left right : List ℕ) → length state ≡ n + n → length left ≡ n → length right ≡ n
    → length (double_state state left right) ≡ length state
length-double n state left right whole a b = grind (arith, length-sums, length-append)

length-compress : (variant : Variant) (state block : List ℕ) → length state ≡ length (parameters_of variant).start
    → length (compress (parameters_of variant) state block) ≡ length (parameters_of variant).start
unfolding compress
length-compress R128 state block long =
    let are = long-lines ripemd128 block 4 4 (lines_from ripemd128 state) (inl refl) (long-from ripemd128 state (omega (arith, long))) in
    grind (arith, length-joint state _ _ (are.0 ∙ sym long) (are.1 ∙ sym long))
length-compress R160 state block long =
    let are = long-lines ripemd160 block 5 5 (lines_from ripemd160 state) (inr refl) (long-from ripemd160 state (omega (arith, long))) in
    length-joint state _ _ (are.0 ∙ sym long) (are.1 ∙ sym long) ∙ long
length-compress variant state block long =
    let v = parameters_of variant in
    let are = long-lines v block v.registers v.rounds (lines_from v state) (grind arith) (long-from v state (omega (arith, long))) in
    length-double v.registers state _ _ long are.0 are.1 ∙ long

length-walk : (variant : Variant) (state : List ℕ) (bs : List (List ℕ)) → length state ≡ length (parameters_of variant).start
    → length (fold (compress (parameters_of variant)) state bs) ≡ length (parameters_of variant).start
length-walk variant state [] long = long
length-walk variant state (b ∷ bs) long = grind (arith, length-compress variant state b long, length-walk variant (compress (parameters_of variant) state b) bs)

pub length-ripemd : (variant : Variant) (message : List ℕ) → length (ripemd (parameters_of variant) message) ≡ size_of variant
unfolding hash
length-ripemd variant message =
    let words = fold (compress (parameters_of variant)) (parameters_of variant).start (blocks (padded_message message)) in
    grind (arith, length-word_bytes words, length-walk variant (parameters_of variant).start (blocks (padded_message message)) refl)

-- ---- the bytes

bytes-append : (xs ys : List ℕ) → IsBytes xs → IsBytes ys → IsBytes (xs ++ ys)
bytes-append [] ys a b i = b i
bytes-append (x ∷ xs) ys a b zero = a zero
bytes-append (x ∷ xs) ys a b (suc i) = bytes-append xs ys (λ j. a (suc j)) b i

bytes-word : (w : ℕ) → IsBytes (to_le_bytes w32 w)
bytes-word w (suc (suc (suc (suc i)))) = omega arith
bytes-word w _ = omega arith

bytes-words : (words : List ℕ) → IsBytes (word_bytes words)
bytes-words [] i = omega arith
bytes-words (w ∷ words) i = bytes-append (to_le_bytes w32 w) (word_bytes words) (bytes-word w) (bytes-words words) i

pub bytes-ripemd : (variant : Variant) (message : List ℕ) → IsBytes (ripemd (parameters_of variant) message)
unfolding hash
bytes-ripemd variant message = bytes-words _
