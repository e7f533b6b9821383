-- Match: what holds of the peer of every row that fits holds of the one found. Assumes nothing.
use mathlib.Core.Path.{◌≡◌, refl, ap}
use mathlib.Core.Bool.{Bool, true, false}
use mathlib.Core.List.{List, [], ◌∷◌, reverse}
use Prim.Native.Nat.{ℕ}
use lib.Dec.{eqb}
use Rattle.std.specs.Prelude.{Option, Some, None, option_and_then}
use Rattle.std.specs.List.{find}
use Rattle.calculus.proofs.Tests.{either}
use Rattle.calculus.specs.declared.packet.Packet.{Packet}
use Rattle.calculus.specs.declared.session.Peers.{Peers}
use Rattle.calculus.specs.declared.session.Row.{Row}
use Rattle.model.specs.Lists.{All}
use Rattle.model.specs.Row.{named, fits, newest}
use Rattle.model.proofs.Lists.{all_reverse}

module _ (out : Bool) (a : ℕ) (p : Packet) where
  module _ (R : ℕ → Type 0) where
    -- of the peer, if there is one
    abbrev pub OfPeers : Option Peers → Type 0
    OfPeers None = Unit
    OfPeers (Some x) = R x.first

    of_named : (q : ℕ) → R q → OfPeers (named q)
    of_named q h = either OfPeers (eqb q 0) (λ e. tt) (λ e. h)

    of_found : (rows : List Row) → All (λ r. fits out a p r ≡ true → R r.peers.first) rows → OfPeers (option_and_then (λ r. named r.peers.first) (find (fits out a p) rows))
    of_found [] h = tt
    of_found (r ∷ rows) h =
        either (λ (x : Option Row). OfPeers (option_and_then (λ y. named y.peers.first) x)) (fits out a p r)
        (λ e. of_named r.peers.first (h.0 e))
        (λ e. of_found rows h.1)

    pub of_newest : (rows : List Row) → All (λ r. fits out a p r ≡ true → R r.peers.first) rows → OfPeers (newest rows out a p)
    of_newest rows h = of_found (reverse rows) (all_reverse _ rows h)

  none_found : (rows : List Row) → All (λ r. fits out a p r ≡ false) rows → find (fits out a p) rows ≡ None
  none_found [] h = refl
  none_found (r ∷ rows) h = rw h.0 (none_found rows h.1)

  pub none_newest : (rows : List Row) → All (λ r. fits out a p r ≡ false) rows → newest rows out a p ≡ None
  none_newest rows h = ap (option_and_then (λ (r : Row). named r.peers.first)) (none_found (reverse rows) (all_reverse _ rows h))
