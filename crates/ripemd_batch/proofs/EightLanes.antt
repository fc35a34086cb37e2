-- What holds of each of eight, four or sixteen places holds of all of them.
use Rattle.std.proofs.Common.{ℕ, ◌<◌, below_none, below_more}

module _ (P : ℕ → Type 0) where
  pub below_four : P 0 → P 1 → P 2 → P 3 → (j : ℕ) → j < 4 → P j
  below_four p0 p1 p2 p3 = below_more P 3 (below_more P 2 (below_more P 1 (below_more P 0 (below_none P) p0) p1) p2) p3

  pub below_eight : P 0 → P 1 → P 2 → P 3 → P 4 → P 5 → P 6 → P 7 → (j : ℕ) → j < 8 → P j
  below_eight p0 p1 p2 p3 p4 p5 p6 p7 =
      below_more P 7 (below_more P 6 (below_more P 5 (below_more P 4 (below_four p0 p1 p2 p3) p4) p5) p6) p7

  pub below_sixteen : P 0 → P 1 → P 2 → P 3 → P 4 → P 5 → P 6 → P 7
      → P 8 → P 9 → P 10 → P 11 → P 12 → P 13 → P 14 → P 15 → (k : ℕ) → k < 16 → P k
  below_sixteen a0 a1 a2 a3 a4 a5 a6 a7 b0 b1 b2 b3 b4 b5 b6 b7 =
      below_more P 15 (below_more P 14 (below_more P 13 (below_more P 12
      (below_more P 11 (below_more P 10 (below_more P 9 (below_more P 8 (below_eight a0 a1 a2 a3 a4 a5 a6 a7) b0) b1) b2) b3) b4) b5) b6) b7
