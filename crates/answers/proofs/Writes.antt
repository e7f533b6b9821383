-- Laws of texts written where there is room for them. Assumes nothing.
use mathlib.Core.Path.{◌≡◌}
use mathlib.Core.List.{List}
use Prim.Native.Nat.{ℕ, ◌+◌, ◌≤◌}
use native.Mathlib.Omega.{arith}
use borrow.Author.Tests.{le-leb}
use lib.ListN.{length}
use Rattle.answers.specs.Write.{Writes, Written}
use Rattle.answers.specs.declared.put.Output.{Output}
use Rattle.answers.specs.Put.{Put, Adds}

module _ {room : ℕ} {l text m : List ℕ} {at p : ℕ} (h : at + room ≤ length l) where
  -- what a caller that knows of the room knows
  pub put_writes : Writes room l at text m p → Put l at text m p × (length text ≤ room)
  put_writes x =
      let e = le-leb (at + room) (length l) h in
      let place : p ≡ at + length text = rw e at x.place in
      (record { place = place; bytes = rw e at x.left }, omega (arith, x.few))

-- the same of an output that holds its place
pub written_adds : {room : ℕ} {s t : Output} {text : List ℕ} → s.at + room ≤ length s.out.now → Written room s text t → Adds s text t
written_adds h x = record { put = (put_writes h x.writes).0; size = x.size; same = x.same }
