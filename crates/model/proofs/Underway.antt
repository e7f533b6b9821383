-- What a set-up can still take: where its one item that is neither a wait nor Data can be, and how many of its steps can follow there.
-- Assumes nothing.
use mathlib.Core.Path.{◌≡◌}
use mathlib.Core.Bool.{false}
use Prim.Native.Nat.{ℕ, ◌+◌, ◌-◌, ◌*◌, ◌≤◌, ◌<◌}
use Rattle.std.specs.Prelude.{Some}
use Rattle.calculus.specs.declared.network.Network.{Network}
use Rattle.calculus.specs.declared.packet.Payload.TheVariants.{Req, Rep, Disc, Done}
use Rattle.calculus.specs.declared.packet.Header.{Header}
use Rattle.calculus.specs.declared.packet.Side.TheVariants.{Responder, Initiator}
use Rattle.calculus.specs.declared.packet.Item.{Item}
use Rattle.calculus.specs.declared.packet.Item.TheVariants.{Wire, Out, Up, Est, Auth, Grant, Ack}
use Rattle.model.specs.Network.{is_gateway}
use Rattle.model.specs.Packet.{hop_limit, under}
use Rattle.model.specs.Rules.{establishment_limit}
use Rattle.model.specs.Termination.{trip_steps, establishment_steps, ceiling}
use Rattle.model.proofs.Trips.{bare_with, Trip}
use Rattle.model.proofs.Points.{walk, points, Between}

-- with n steps taken and k to go in establishment b, the ceiling leaves those to come and the Done's
abbrev pub Leaves : ℕ → ℕ → ℕ → Type 0
Leaves b n k = establishment_steps * (establishment_limit - b) + establishment_limit * trip_steps + k + n ≤ ceiling

module _ (net : Network) (c d : ℕ) where
  abbrev point : ℕ → ℕ
  point i = points net c d i

  -- the client is a host, and not the server
  pub record Ends : Type 0 where
    pub no_gateway : is_gateway net c ≡ false
    pub apart : c ≡ d → ⊥

  -- with b establishments begun, a Disc at a with h hops left knows the point where it will be discovered
  pub record Discovering (b n a h : ℕ) : Type 0 where
    pub between : Between net c d b
    pub before : point b ≡ d → ⊥
    pub few : b ≤ establishment_limit
    pub arrives : walk net d (point b) h a ≡ point (b + 1)
    -- its steps are the next establishment's first, of which one is taken for each hop
    pub leaves : establishment_steps * (establishment_limit - b) + establishment_limit * trip_steps + h + n ≤ ceiling + hop_limit

  -- establishment b, between the points i and b
  pub record Begun (b i : ℕ) : Type 0 where
    pub between : Between net c d b
    pub number : b ≡ i + 1
    pub few : b ≤ establishment_limit

  -- the server is the last point: a Done is on its way back, at x, which is point k, or in the tunnel out of it
  pub record Returning (b x k : ℕ) : Type 0 where
    pub between : Between net c d b
    pub server : point b ≡ d
    pub here : x ≡ point k
    pub least : 1 ≤ k
    pub most : k ≤ b

  -- an item of the set-up, with b establishments begun and n steps taken. Nothing is said of rows
  pub data Underway (b n : ℕ) : Item → Type 0 where
    discovering : (a h : ℕ) → Discovering b n a h → Underway b n (Wire a (bare_with c d (Disc (point b)) h))
    establishing : (i : ℕ) → Begun b i → Leaves b n (6 + trip_steps + trip_steps) → Underway b n (Est (point b) (point i) b)
    requesting : {j : ℕ} {x : Item} (i : ℕ) → Begun b i → Trip (point b) (point i) (Req b) j x → Leaves b n (5 + trip_steps + j) → Underway b n x
    responder_auth : (i : ℕ) → Begun b i → Leaves b n (5 + trip_steps) → Underway b n (Auth (point i) (point b) b Responder)
    responder_grant : (i : ℕ) → Begun b i → Leaves b n (4 + trip_steps) → Underway b n (Grant (point i) (point b) b Responder)
    replying : {j : ℕ} {x : Item} (i : ℕ) → Begun b i → Trip (point i) (point b) (Rep b) j x → Leaves b n (3 + j) → Underway b n x
    initiator_auth : (i : ℕ) → Begun b i → Leaves b n 3 → Underway b n (Auth (point b) (point i) b Initiator)
    initiator_grant : (i : ℕ) → Begun b i → Leaves b n 2 → Underway b n (Grant (point b) (point i) b Initiator)
    acknowledging : (i : ℕ) → Begun b i → Leaves b n 1 → Underway b n (Ack (point b) b)
    -- a Done with the inner count m, at x, point k, or in the tunnel out of there: a way for each tunnel from there to the client
    done_out : (m x k : ℕ) → m ≤ hop_limit → Returning b x k → trip_steps * k + n ≤ ceiling → Underway b n (Out x (bare_with d c Done m))
    done_on_wire : (m k : ℕ) (h : Header) (y : ℕ) → m ≤ hop_limit → Returning b h.from k
        → trip_steps * (k - 1) + (h.hops + 2) + n ≤ ceiling → Underway b n (Wire y (under (bare_with d c Done m) (Some h)))
    done_up : (m k : ℕ) (h : Header) (y : ℕ) → m ≤ hop_limit → Returning b h.from k
        → trip_steps * (k - 1) + 1 + n ≤ ceiling → Underway b n (Up y (under (bare_with d c Done m) (Some h)))
    -- with no tunnel out of a point it is on its last way
    done_bare : {j : ℕ} {x : Item} → Trip d c Done j x → j < trip_steps → j + n ≤ ceiling → Underway b n x
