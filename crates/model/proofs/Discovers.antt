-- What is discovered on a wire, and where. Assumes nothing.
use mathlib.Core.Path.{◌≡◌, refl}
use mathlib.Core.Bool.{Bool, true, false, or-true}
use Prim.Native.Nat.{ℕ, ◌<◌}
use borrow.Author.Tests.{eq-eqb, ne_eqb, leb-false}
use Rattle.calculus.proofs.Tests.{never}
use Rattle.calculus.specs.declared.packet.Payload.{Payload}
use Rattle.calculus.specs.declared.packet.Payload.TheVariants.{Req, Rep, Disc, Done, Data}
use Rattle.calculus.specs.declared.session.Session.{Session}
use Rattle.model.specs.Rules.{discovers, last_point, is_exhausted}

pub discovers_disc : (gateway : Bool) (server a : ℕ) (y : Payload) → discovers gateway server a y ≡ true → y ≡ Disc (last_point y)
discovers_disc gateway server a (Req e) h = never h
discovers_disc gateway server a (Rep e) h = never h
discovers_disc gateway server a (Disc p) h = refl
discovers_disc gateway server a Done h = never h
discovers_disc gateway server a (Data tag) h = never h

-- the server discovers every Disc but its own
pub server_discovers : (gateway : Bool) (server a p : ℕ) → (a ≡ p → ⊥) → a ≡ server → discovers gateway server a (Disc p) ≡ true
server_discovers gateway server a p n e = rw (ne_eqb a p n, eq-eqb a server e) (or-true gateway)

pub not_exhausted : (s : Session) → is_exhausted s ≡ false → s.begun < 8
not_exhausted s e = leb-false _ s.begun e
