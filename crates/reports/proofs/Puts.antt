-- Texts put into the lent output. Assumes nothing.
use mathlib.Core.Path.{◌≡◌, ap, ◌∙◌}
use mathlib.Core.List.{List}
use Prim.Native.Nat.{ℕ, ◌+◌, ◌≤◌}
use lib.ListN.{length}
use lib.Seq.{length-sets}
use Rattle.answers.specs.Write.{Writes}
use Rattle.answers.proofs.Writes.{put_writes}
use Rattle.reports.specs.Puts.{Puts}

-- what was written, there being room
pub puts_written : {room : ℕ} {l s m : List ℕ} {at p : ℕ} → at + room ≤ length l → Writes room l at s m p → Puts room l at s m p
puts_written h x = let y = put_writes h x in record { put = y.0; few = y.1 }

pub puts_size : {k : ℕ} {l s m : List ℕ} {at p : ℕ} → Puts k l at s m p → length m ≡ length l
puts_size {l = l} {s = s} {at = at} x = ap length x.put.bytes ∙ length-sets l at s
