-- Collisions of a block function (this repository's own): one place in each of the walks of two
-- messages, where different pairs of state and block lead to the same state.
use Rattle.std.specs.Prelude.{◌≡◌, ◌≢◌, ℕ, ◌+◌, ◌-◌, ◌<◌, List, [], length, take, slice_index_or, Option, Some}
use Rattle.ripemd_block.specs.Standard.{padded_message, blocks, walk}
use Rattle.ripemd.specs.Types.{Meeting, Collision}

-- a state and the block that comes next
abbrev pub Pair : Type 0 → Type 0
Pair S = S × List ℕ

-- the state after that block
abbrev pub state_after : {S : Type 0} → (S → List ℕ → S) → Pair S → S
state_after step pair = step pair.0 pair.1

-- the pair at a place of a walk through blocks: the state after the blocks before it, and its block
abbrev pub pair_at : {S : Type 0} → S → (S → List ℕ → S) → List (List ℕ) → ℕ → Pair S
pair_at start step bs place = (walk step start (take place bs), slice_index_or bs place [])

-- two walks collide at place j of the one and place k of the other: equally many blocks follow both, the
-- pairs differ, their steps lead to one state, and the pairs at all later places agree
pub record CollideAt {S : Type 0} (start : S) (step : S → List ℕ → S) (xs ys : List (List ℕ)) (j k : ℕ) : Type 0 where
  pub left_place : j < length xs
  pub right_place : k < length ys
  pub same_rest : length xs - j ≡ length ys - k
  pub different : pair_at start step xs j ≢ pair_at start step ys k
  pub one_step : state_after step (pair_at start step xs j) ≡ state_after step (pair_at start step ys k)
  pub later_agree : (i : ℕ) → 0 < i → i < length xs - j
      → pair_at start step xs (j + i) ≡ pair_at start step ys (k + i)

-- the pair of a meeting
abbrev pub pair_of : {S : Type 0} → Meeting S → Pair S
pair_of meeting = (meeting.state, meeting.block)

-- two meetings are a collision of messages a and b: each is of its message's walk through all blocks
-- of the padded message, and there these walks collide
pub record IsCollision {S : Type 0} (start : S) (step : S → List ℕ → S) (a b : List ℕ) (c : Collision S) : Type 0 where
  pub left : pair_of c.left ≡ pair_at start step (blocks (padded_message a)) c.left.place
  pub right : pair_of c.right ≡ pair_at start step (blocks (padded_message b)) c.right.place
  pub collide : CollideAt start step (blocks (padded_message a)) (blocks (padded_message b))
      c.left.place c.right.place

-- every collision of messages a and b is this answer
abbrev pub IsOnlyCollision : {S : Type 0} → S → (S → List ℕ → S) → List ℕ → List ℕ → Option (Collision S) → Type 0
IsOnlyCollision start step a b answer = (c : Collision _) → IsCollision start step a b c → answer ≡ Some c
