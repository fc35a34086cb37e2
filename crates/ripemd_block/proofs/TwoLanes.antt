-- Vectors of two lanes.
use Rattle.ripemd_block.proofs.Library.{◌≡◌, ℕ, zero, suc, ◌<◌, ap, ◌∙◌, arith, List, [], length, get_or, map, range_with_len, length-map, get_or-map, fill_by_all}
use Rattle.ripemd_block.specs.Standard.{Parameters, lines_after, lines_from, compress}
use Rattle.ripemd_block.specs.Code.{both_lines, lane}
use Rattle.ripemd_block.proofs.Stepping.{compress_from}

-- what holds of lanes 0 and 1 holds of each lane
pub each_lane : (P : ℕ → Type 0) → P 0 → P 1 → (j : ℕ) → j < 2 → P j
each_lane P left right zero small = left
each_lane P left right (suc zero) small = right
each_lane P left right (suc (suc j)) small = absurd (omega arith)

-- the state after a block, from the registers of both lines before and after all rounds
pub compress_in_lanes : {state left right last_left last_right : List ℕ}
    (v : Parameters) (block : List ℕ) (start end : List (List ℕ))
    → both_lines left right ≡ lines_from v state
    → lane start 0 ≡ left → lane start 1 ≡ right
    → both_lines (lane end 0) (lane end 1)
    ≡ lines_after v block v.rounds (both_lines (lane start 0) (lane start 1))
    → last_left ≡ lane end 0 → last_right ≡ lane end 1
    → v.combination state last_left last_right ≡ compress v state block
compress_in_lanes v block start end from left_start right_start after left_end right_end =
    let same = after ∙ ap (lines_after v block v.rounds) (rw (left_start, right_start) from) in
    rw (left_end, right_end) (compress_from (record { same = same }))

-- the words of registers in a lane, one by one
pub lane_is : (registers : List (List ℕ)) (j : ℕ)
    → lane registers j ≡ map (λ i. get_or (get_or registers i []) j 0) (range_with_len 0 (length registers))
lane_is registers j =
    fill_by_all (λ i. get_or (get_or registers i []) j 0) (lane registers j) (length registers) 0
    (length-map registers (λ v. get_or v j 0)) (λ k within. get_or-map (λ v. get_or v j 0) registers k [] 0 within)
