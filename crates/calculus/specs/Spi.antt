-- What document 01 promises of SPIs. Proved in proofs/Spi. Assumes nothing.
use Rattle.std.specs.Prelude.{ℕ, ◌≤◌, ◌≡◌, true}
use Rattle.calculus.specs.Number.{is_node, spi}

pub record Spis : Type 0 where
  -- "0 to 255 are reserved": no pair of nodes has one of them
  pub unreserved : (a b : ℕ) → is_node a ≡ true → is_node b ≡ true → 256 ≤ (spi a b).0
  -- two pairs of nodes have two SPIs
  pub injective : (a b c d : ℕ) → is_node a ≡ true → is_node b ≡ true → is_node c ≡ true → is_node d ≡ true
      → spi a b ≡ spi c d → (a ≡ c) × (b ≡ d)
