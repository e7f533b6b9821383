-- The tunnel points of a session, which the network and its ends tell, and the rows that stand between them: each row by itself, so
-- that any of them may be missing. Assumes nothing.
use mathlib.Core.Path.{◌≡◌, refl, sym, ap, ◌∙◌}
use mathlib.Core.Bool.{true, false, cond, and-true, and-false}
use mathlib.Core.List.{List}
use Prim.Native.Nat.{ℕ, zero, suc, ◌+◌, ◌-◌, ◌≤◌, ◌<◌}
use native.Mathlib.Omega.{arith}
use native.Mathlib.Decide.{dec_lt}
use borrow.Author.Tests.{eqb-true, eq-eqb, ne_eqb}
use Rattle.std.specs.Prelude.{None}
use Rattle.calculus.proofs.Tests.{never}
use Rattle.calculus.specs.declared.network.Network.{Network}
use Rattle.std.specs.Prelude.{Option, Some, None}
use Rattle.calculus.specs.declared.network.NextHop.{NextHop}
use Rattle.calculus.specs.declared.network.NextHop.TheVariants.{Exact, Default}
use Rattle.calculus.specs.declared.packet.Payload.TheVariants.{Disc, Done}
use Rattle.calculus.specs.declared.packet.Packet.{Packet}
use Rattle.calculus.specs.declared.session.Row.{Row}
use Rattle.model.specs.Lists.{All}
use Rattle.model.specs.Network.{is_gateway, next_hop}
use Rattle.model.specs.Packet.{hop_limit, bare, concerns}
use Rattle.model.specs.Row.{out_row, in_row, fits, newest}
use Rattle.model.specs.Rules.{discovers}
use Rattle.model.proofs.Lists.{all_map}
use Rattle.model.proofs.Match.{OfPeers, of_newest, none_newest}

-- ---- the points

-- the next node, or 0, from where no node is met
abbrev pub next_node : Option NextHop → ℕ
next_node (Some (Exact next)) = next
next_node (Some (Default next)) = next
next_node None = 0

-- the node that discovers a Disc(p) for d with h hops left at a, or 0
unfoldable pub walk : Network → ℕ → ℕ → ℕ → ℕ → ℕ
walk net d p zero a = cond (discovers (is_gateway net a) d a (Disc p)) a 0
walk net d p (suc h) a = cond (discovers (is_gateway net a) d a (Disc p)) a (walk net d p h (next_node (next_hop net a d)))

-- the i-th tunnel point between c and d: c, and then what each one's Disc comes to
unfoldable pub points : Network → ℕ → ℕ → ℕ → ℕ
points net c d zero = c
points net c d (suc i) = walk net d (points net c d i) hop_limit (points net c d i)

module _ (net : Network) (d p : ℕ) where
  pub walk_found : (h a : ℕ) → discovers (is_gateway net a) d a (Disc p) ≡ true → walk net d p h a ≡ a
  unfolding walk
  walk_found zero a e = rw e
  walk_found (suc h) a e = rw e

  pub walk_on : (h a : ℕ) → (h ≡ 0 → ⊥) → discovers (is_gateway net a) d a (Disc p) ≡ false
      → walk net d p (h - 1) (next_node (next_hop net a d)) ≡ walk net d p h a
  unfolding walk
  walk_on zero a n e = absurd (n refl)
  walk_on (suc h) a n e = let k : suc h - 1 ≡ h = omega arith in rw (e, k)

module _ (net : Network) (c d : ℕ) where
  abbrev point : ℕ → ℕ
  point i = points net c d i

  pub points_next : (i e : ℕ) → e ≡ i + 1 → point e ≡ walk net d (point i) hop_limit (point i)
  unfolding points
  points_next i zero h = absurd (omega arith)
  points_next i (suc e) h = let w : e ≡ i = omega arith in ap (λ (z : ℕ). walk net d (point z) hop_limit (point z)) w

  pub after_client : (i : ℕ) → (point i ≡ c → ⊥) → 1 ≤ i
  unfolding points
  after_client zero h = absurd (h refl)
  after_client (suc i) h = omega arith

  -- the server is none of the first k points, the client none of those from 1 to k
  pub record Between (k : ℕ) : Type 0 where
    pub server : (i : ℕ) → i < k → point i ≡ d → ⊥
    pub client : (i : ℕ) → 1 ≤ i → i ≤ k → point i ≡ c → ⊥

  pub between_next : (k : ℕ) → Between k → (point k ≡ d → ⊥) → (point (k + 1) ≡ c → ⊥) → Between (k + 1)
  between_next k h s t = record { server = λ i m. first i (dec_lt i k) m; client = λ i l m. last i l m (dec_lt k i) }
    where
      first : (i : ℕ) → Dec (i < k) → i < k + 1 → point i ≡ d → ⊥
      first i (yes p) m e = h.server i p e
      first i (no p) m e = let w : k ≡ i = omega arith in s (ap point w ∙ e)

      last : (i : ℕ) → 1 ≤ i → i ≤ k + 1 → Dec (k < i) → point i ≡ c → ⊥
      last i l m (yes p) e = let w : k + 1 ≡ i = omega arith in t (ap point w ∙ e)
      last i l m (no p) e = h.client i l (omega arith) e

  -- from two equal points on all are equal
  same_later : (m i j : ℕ) → point i ≡ point j → (a b : ℕ) → a ≡ m + i → b ≡ m + j → point a ≡ point b
  unfolding points
  same_later zero i j e a b x y =
      let v : a ≡ i = omega arith in
      let w : j ≡ b = omega arith in
      ap point v ∙ e ∙ ap point w
  same_later (suc m) i j e a b x y = same_later m (suc i) (suc j) (ap (λ (z : ℕ). walk net d z hop_limit z) e) a b (omega arith) (omega arith)

  -- before the server every point is met once
  once : (k : ℕ) → Between k → point k ≡ d → (i j : ℕ) → point i ≡ point j → j ≤ k → i < j → ⊥
  once k h e i j w m n =
      h.server (k - j + i) (omega arith) (same_later (k - j) i j w (k - j + i) k refl (omega arith) ∙ e)

  pub met_once : (k : ℕ) → Between k → point k ≡ d → (i j : ℕ) → point i ≡ point j → i ≤ k → j ≤ k → i ≡ j
  met_once k h e i j w m n = go (dec_lt i j) (dec_lt j i)
    where
      go : Dec (i < j) → Dec (j < i) → i ≡ j
      go (yes p) q = absurd (once k h e i j w n p)
      go (no p) (yes q) = absurd (once k h e j i (sym w) m q)
      go (no p) (no q) = omega arith

  -- ---- the rows

  -- a row of establishment e, which is between the points i and e = i + 1, b being begun
  pub data Chained (b : ℕ) : Row → Type 0 where
    responder_out : (i e : ℕ) → e ≡ i + 1 → e ≤ b → Chained b (out_row (point i) c d (point e) e)
    responder_in : (i e : ℕ) → e ≡ i + 1 → e ≤ b → Chained b (in_row (point i) d c (point e) e)
    initiator_out : (i e : ℕ) → e ≡ i + 1 → e ≤ b → Chained b (out_row (point e) d c (point i) e)
    initiator_in : (i e : ℕ) → e ≡ i + 1 → e ≤ b → Chained b (in_row (point e) c d (point i) e)

  pub chained_more : (b b' : ℕ) → b ≤ b' → (r : Row) → Chained b r → Chained b' r
  chained_more b b' h r (responder_out i e w m) = responder_out i e w (omega arith)
  chained_more b b' h r (responder_in i e w m) = responder_in i e w (omega arith)
  chained_more b b' h r (initiator_out i e w m) = initiator_out i e w (omega arith)
  chained_more b b' h r (initiator_in i e w m) = initiator_in i e w (omega arith)

-- ---- rows that fit

module _ (net : Network) (c d b : ℕ) where
  abbrev row : Row → Type 0
  row = Chained net c d b

  module _ (x : ℕ) (p : Packet) where
    -- every filter has the client in it
    other_ends : (p.source ≡ c → ⊥) → (p.destination ≡ c → ⊥) → (r : Row) → row r → fits true x p r ≡ false
    other_ends s t r (responder_out i e w m) = simp (ne_eqb c p.source (λ w. s (sym w)), and-false)
    other_ends s t r (responder_in i e w m) = refl
    other_ends s t r (initiator_out i e w m) = simp (ne_eqb c p.destination (λ w. t (sym w)), and-false)
    other_ends s t r (initiator_in i e w m) = refl

    -- the first establishment's packets skip its rows, and there are no others
    first_skipped : b ≡ 1 → concerns p.payload b ≡ true → (r : Row) → row r → fits true x p r ≡ false
    first_skipped o k r (responder_out i e w m) = let v : e ≡ b = omega arith in rw (v, k) (simp and-false)
    first_skipped o k r (responder_in i e w m) = refl
    first_skipped o k r (initiator_out i e w m) = let v : e ≡ b = omega arith in rw (v, k) (simp and-false)
    first_skipped o k r (initiator_in i e w m) = refl

    -- neither Req nor Rep of establishment b goes through a tunnel
    pub never_tunnelled : (i : ℕ) → b ≡ i + 1 → Between net c d b → concerns p.payload b ≡ true
        → ((points net c d i ≡ c → ⊥) → (p.source ≡ c → ⊥) × (p.destination ≡ c → ⊥)) → (rows : List Row) → All row rows
        → newest rows true x p ≡ None
    never_tunnelled zero o h k f rows rs =
        none_newest true x p rows (all_map row _ (first_skipped (omega arith) k) rows rs)
    never_tunnelled (suc i) o h k f rows rs =
        let g = f (h.client (suc i) (omega arith) (omega arith)) in none_newest true x p rows (all_map row _ (other_ends g.0 g.1) rows rs)

  -- the tunnel that a Done comes out of at y, from x
  pub record Through (y x : ℕ) : Type 0 where
    pub place : ℕ
    pub near : y ≡ points net c d place
    pub number : ℕ
    pub far : x ≡ points net c d number
    pub follows : number ≡ place + 1
    pub few : number ≤ b

  module _ (apart : c ≡ d → ⊥) (y : ℕ) where
    passed_row : (r : Row) → row r → fits false y (bare d c Done) r ≡ true → Through y r.peers.first
    passed_row r (responder_out i e w m) f = never f
    passed_row r (responder_in i e w m) f =
        record { place = i; near = sym (eqb-true (points net c d i) y (simp (eq-eqb d d refl, eq-eqb c c refl, and-true) at f)); number = e; far = refl; follows = w; few = m }
    passed_row r (initiator_out i e w m) f = never f
    passed_row r (initiator_in i e w m) f = never (sym (simp (ne_eqb c d apart, and-false)) ∙ f)

    pub passed : (rows : List Row) → All row rows → OfPeers false y (bare d c Done) (Through y) (newest rows false y (bare d c Done))
    passed rows rs = of_newest false y (bare d c Done) (Through y) rows (all_map row _ passed_row rows rs)
