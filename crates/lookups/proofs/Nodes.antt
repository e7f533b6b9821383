-- What the test that a number is a node's says. Assumes nothing.
use mathlib.Core.Path.{◌≡◌}
use mathlib.Core.Bool.{true}
use Prim.Native.Nat.{ℕ, ◌≤◌}
use Rattle.calculus.specs.Number.{is_node}
use Rattle.calculus.proofs.Tests.{within_bounds}

pub node_bounds : (a : ℕ) → is_node a ≡ true → (1 ≤ a) × (a ≤ 32)
node_bounds a e = within_bounds 1 32 a e
