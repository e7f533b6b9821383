-- No SPI is reserved, and no two pairs of nodes share one. `spis` is the promise. Assumes nothing.
use mathlib.Core.Path.{ap}
use native.Mathlib.Omega.{arith}
use Rattle.calculus.specs.Spi.{Spis}
use Rattle.calculus.proofs.Tests.{within_bounds}

pub spis : Spis
spis =
    record {
      unreserved = λ a b p q. rw (p, q) (omega arith);
      injective = λ a b c d p q r s e.
          let e' = rw (p, q, r, s) at (ap (λ x. x.0) e) in
          let ha = within_bounds 1 32 a p in
          let hb = within_bounds 1 32 b q in
          let hc = within_bounds 1 32 c r in
          let hd = within_bounds 1 32 d s in
          (omega (arith, e'), omega (arith, e'));
    }
