-- The weights of a set-up: the waits that an item is to use up, the places that it holds, whether it is neither a wait nor Data, the rows
-- that it will add, of any establishments; and how many of these are begun. Assumes nothing.
use mathlib.Core.Path.{◌≡◌, refl, subst, ◌∙◌}
use mathlib.Core.Bool.{Bool, true, false, cond, not, ◌&&◌, and-false}
use mathlib.Core.List.{List}
use Prim.Native.Nat.{ℕ, zero, suc, ◌+◌, ◌*◌, ◌≤◌}
use native.Mathlib.Nat.{zero-add}
use native.Mathlib.Omega.{arith}
use native.Mathlib.Decide.{ℕ_discrete}
use lib.Dec.{eqb}
use borrow.Author.Tests.{eq-eqb, ne_eqb, le-leb, lt-leb}
use Rattle.std.specs.Prelude.{Option, Some, None}
use Rattle.calculus.proofs.Tests.{within_bounds, either}
use Rattle.calculus.specs.declared.effect.Wait.{Wait}
use Rattle.calculus.specs.declared.effect.Wait.TheVariants.{Establishment}
use Rattle.calculus.specs.declared.packet.Payload.{Payload}
use Rattle.calculus.specs.declared.packet.Payload.TheVariants.{Req, Rep, Disc, Done, Data}
use Rattle.calculus.specs.declared.packet.Packet.{Packet}
use Rattle.calculus.specs.declared.packet.Side.{Side}
use Rattle.calculus.specs.declared.packet.Side.TheVariants.{Responder, Initiator}
use Rattle.calculus.specs.declared.packet.Item.{Item}
use Rattle.calculus.specs.declared.packet.Item.TheVariants.{Wire, Out, Up, Est, Auth, Grant, Ack, Dwait, Ewait}
use Rattle.calculus.specs.declared.packet.Slot.{Slot}
use Rattle.calculus.specs.declared.session.Row.{Row}
use Rattle.calculus.specs.declared.session.Stage.{Stage}
use Rattle.model.specs.Lists.{tally, up_from}
use Rattle.model.specs.Packet.{is_data}
use Rattle.model.specs.Item.{is_wait, is_that_wait, is_data_item}
use Rattle.model.specs.Requests.{is_unused}
use Rattle.model.specs.Termination.{is_active}
use Rattle.model.specs.SetUp.{is_set_up_item, is_grant, Pends, wait_of_packet, wait_of}
use Rattle.calculus.specs.Number.{within}
use Rattle.model.proofs.Checks.{one, one_le}
use Rattle.model.proofs.Lists.{tally_append, tally_each, up_append, up_length}
use Rattle.model.proofs.Weights.{count, every, weigh, counted, weigh_le, weigh_sum}

-- ---- the weights

-- an item's weight, by the weight of its packet, of an est's node and establishment, of the side of an auth and a grant, of an ack's
-- node, of a wait
abbrev weight : (Packet → ℕ) → (ℕ → ℕ → ℕ) → (Side → ℕ → ℕ → ℕ → ℕ) → (ℕ → ℕ) → ℕ → Item → ℕ
weight packet est side ack wait (Wire a p) = packet p
weight packet est side ack wait (Out a p) = packet p
weight packet est side ack wait (Up a p) = packet p
weight packet est side ack wait (Est a b e) = est a e
weight packet est side ack wait (Auth a q e s) = side s a q e
weight packet est side ack wait (Grant a q e s) = side s a q e
weight packet est side ack wait (Ack a e) = ack a
weight packet est side ack wait (Dwait a) = wait
weight packet est side ack wait (Ewait a e) = wait

-- it is the wait v
unfoldable pub waits : Wait → Item → ℕ
waits v i = count (is_that_wait v) i

-- dwait(a) and ewait(a, e)
abbrev both_waits : Wait → ℕ → ℕ → ℕ
both_waits v a e = waits v (Dwait a) + waits v (Ewait a e)

abbrev packet_uses : Wait → Payload → ℕ → ℕ → ℕ
packet_uses v (Req e) from to = both_waits v from e
packet_uses v (Rep e) from to = both_waits v to e
packet_uses v (Disc p) from to = 0
packet_uses v Done from to = 0
packet_uses v (Data tag) from to = 0

abbrev side_uses : Wait → Side → ℕ → ℕ → ℕ → ℕ
side_uses v Responder a q e = both_waits v q e
side_uses v Initiator a q e = waits v (Dwait a)

-- it, or what comes of it, is to use up the wait v
unfoldable pub uses : Wait → Item → ℕ
uses v i =
    weight (λ p. packet_uses v p.payload p.source p.destination) (λ a e. waits v (Dwait a)) (side_uses v) (λ a. waits v (Dwait a)) 0 i

abbrev pub packet_space : Payload → ℕ
packet_space (Req e) = 1
packet_space (Rep e) = 1
packet_space (Disc p) = 3
packet_space Done = 1
packet_space (Data tag) = 0

abbrev side_space : Side → ℕ
side_space Responder = 1
side_space Initiator = 2

-- the places of the set-up that it, and what comes of it, holds at most
unfoldable pub space : Item → ℕ
space i = weight (λ p. packet_space p.payload) (λ a e. 2) (λ s a q e. side_space s) (λ a. 2) 1 i

-- it is a packet with Data
unfoldable pub carries : Item → ℕ
carries i = count is_data_item i

-- it is neither a wait nor Data
unfoldable pub active : Item → ℕ
active i = count is_active i

abbrev packet_due : (ℕ → Bool) → Payload → ℕ
packet_due w (Req e) = 4 * one (w e)
packet_due w (Rep e) = 2 * one (w e)
packet_due w (Disc p) = 0
packet_due w Done = 0
packet_due w (Data tag) = 0

abbrev side_due : (ℕ → Bool) → Side → ℕ → ℕ
side_due w Responder e = 4 * one (w e)
side_due w Initiator e = 2 * one (w e)

-- the rows that its establishment, if w holds of it, will still add: two at the responder, then two at the initiator
unfoldable pub due : (ℕ → Bool) → Item → ℕ
due w i = weight (λ p. packet_due w p.payload) (λ a e. 4 * one (w e)) (λ s a q e. side_due w s e) (λ a. 0) 0 i

-- the rows of those establishments
abbrev pub rows_of : (ℕ → Bool) → List Row → ℕ
rows_of w l = tally (λ r. w r.establishment) l

-- how many of them are begun, n being begun
abbrev pub begun_of : (ℕ → Bool) → ℕ → ℕ
begun_of w n = tally w (up_from 0 n)

-- every establishment
abbrev pub each : ℕ → Bool
each e = true

-- the places that an unused session keeps for its set-up
abbrev pub spare : Stage → ℕ
spare g = cond (is_unused g) 3 0

-- ---- the waits that are wanted

-- the item is to use up the wait, if there is one
abbrev pub Wanted : Item → Option Wait → Type 0
Wanted i None = Unit
Wanted i (Some v) = 1 ≤ uses v i

packet_wanted : (a from : ℕ) (y : Payload) (i : Item) → ((v : Wait) → uses v i ≡ packet_uses v y from a) → Wanted i (wait_of_packet a y)
unfolding waits
packet_wanted a from (Req e) i h = tt
packet_wanted a from (Rep e) i h = rw (h (Establishment a e), eq-eqb a a refl, eq-eqb e e refl) (omega arith)
packet_wanted a from (Disc p) i h = tt
packet_wanted a from Done i h = tt
packet_wanted a from (Data tag) i h = tt

pub wanted : (i : Item) → Wanted i (wait_of i)
unfolding uses waits
wanted (Wire a p) = packet_wanted p.destination p.source p.payload (Wire a p) (λ v. refl)
wanted (Out a p) = packet_wanted p.destination p.source p.payload (Out a p) (λ v. refl)
wanted (Up a p) = packet_wanted p.destination p.source p.payload (Up a p) (λ v. refl)
wanted (Est a b e) = tt
wanted (Auth a q e side) = tt
wanted (Grant a q e side) = tt
wanted (Ack a e) = rw (eq-eqb a a refl) (omega arith)
wanted (Dwait a) = tt
wanted (Ewait a e) = tt

-- a wait that an item is to use up pends, if as many do as are used up
pub pends : (i : Item) (l : List (Option Slot)) → ((v : Wait) → uses v i ≤ weigh (waits v) l) → (v : Option Wait) → Wanted i v → Pends l v
unfolding waits
pends i l h None k = tt
pends i l h (Some v) k = omega (arith, h v, counted (is_that_wait v) l)

-- ---- the places held

packet_space_lem : (y : Payload) → cond (not (is_data y)) 1 0 ≤ packet_space y
packet_space_lem (Req e) = omega arith
packet_space_lem (Rep e) = omega arith
packet_space_lem (Disc p) = omega arith
packet_space_lem Done = omega arith
packet_space_lem (Data tag) = omega arith

side_space_lem : (s : Side) → 1 ≤ side_space s
side_space_lem Responder = omega arith
side_space_lem Initiator = omega arith

pub set_up_space : (i : Item) → count is_set_up_item i ≤ space i
unfolding space
set_up_space (Wire a p) = packet_space_lem p.payload
set_up_space (Out a p) = packet_space_lem p.payload
set_up_space (Up a p) = packet_space_lem p.payload
set_up_space (Est a b e) = omega arith
set_up_space (Auth a q e side) = side_space_lem side
set_up_space (Grant a q e side) = side_space_lem side
set_up_space (Ack a e) = omega arith
set_up_space (Dwait a) = omega arith
set_up_space (Ewait a e) = omega arith

pub active_space : (i : Item) → active i ≤ space i
unfolding active
active_space i = go (is_set_up_item i) (is_wait i) (set_up_space i)
  where
    go : (p w : Bool) {k : ℕ} → cond p 1 0 ≤ k → cond (p && not w) 1 0 ≤ k
    go true true h = omega arith
    go true false h = h
    go false w h = omega arith

-- an item is the set-up's, or Data
set_up_or_data : (i : Item) → 1 ≤ space i + carries i
unfolding carries
set_up_or_data i = go (is_data_item i) (set_up_space i)
  where
    go : (d : Bool) {k : ℕ} → cond (not d) 1 0 ≤ k → 1 ≤ k + cond d 1 0
    go true h = omega arith
    go false h = omega arith

pub pending : (l : List (Option Slot)) → weigh every l ≤ weigh space l + weigh carries l
pending l = omega (arith, weigh_le every (λ i. space i + carries i) set_up_or_data l, weigh_sum space carries l)

-- ---- the rows to come

side_due_lem : (s : Side) (e : ℕ) → 2 ≤ side_due each s e
side_due_lem Responder e = omega arith
side_due_lem Initiator e = omega arith

-- a grant adds two rows
pub grant_due : (i : Item) → count is_grant i + count is_grant i ≤ due each i
unfolding due
grant_due (Wire a p) = omega arith
grant_due (Out a p) = omega arith
grant_due (Up a p) = omega arith
grant_due (Est a b e) = omega arith
grant_due (Auth a q e side) = omega arith
grant_due (Grant a q e side) = side_due_lem side e
grant_due (Ack a e) = omega arith
grant_due (Dwait a) = omega arith
grant_due (Ewait a e) = omega arith

pub grant_active : (i : Item) → count is_grant i ≤ active i
unfolding active
grant_active (Wire a p) = omega arith
grant_active (Out a p) = omega arith
grant_active (Up a p) = omega arith
grant_active (Est a b e) = omega arith
grant_active (Auth a q e side) = omega arith
grant_active (Grant a q e side) = omega arith
grant_active (Ack a e) = omega arith
grant_active (Dwait a) = omega arith
grant_active (Ewait a e) = omega arith

-- ---- what is begun

pub begun_next : (w : ℕ → Bool) (n : ℕ) → begun_of w (n + 1) ≡ begun_of w n + one (w (n + 1))
unfolding up_from
begun_next w n = rw (up_append 0 n 1, zero-add) (omega (arith, tally_append w (up_from 0 n) (up_from n 1)))

pub begun_each : (n : ℕ) → begun_of each n ≡ n
begun_each n = tally_each (up_from 0 n) ∙ up_length 0 n

within_more : (n e : ℕ) → one (within 1 n e) ≤ one (within 1 (n + 1) e)
within_more n e =
    either (λ (x : ℕ). x ≤ one (within 1 (n + 1) e)) (within 1 n e)
    (λ h.
    let b = within_bounds 1 n e h in
    rw (le-leb 1 e b.0, le-leb e (n + 1) (omega (arith, b))) (omega arith))
    (λ h. omega arith)

-- an establishment begins once
pub begun_once : (e n : ℕ) → begun_of (λ f. eqb f e) n ≤ one (within 1 n e)
unfolding up_from
begun_once e zero = omega arith
begun_once e (suc n) =
    subst (λ (m : ℕ). begun_of (λ f. eqb f e) m ≤ one (within 1 m e)) (omega arith)
    (go (ℕ_discrete (n + 1) e) (begun_next (λ f. eqb f e) n) (begun_once e n))
  where
    go : Dec (n + 1 ≡ e) → begun_of (λ f. eqb f e) (n + 1) ≡ begun_of (λ f. eqb f e) n + one (eqb (n + 1) e) → begun_of (λ f. eqb f e) n ≤ one (within 1 n e)
        → begun_of (λ f. eqb f e) (n + 1) ≤ one (within 1 (n + 1) e)
    go (yes w) b h =
        let none : begun_of (λ f. eqb f e) n ≤ 0 = simp (lt-leb e n (omega arith), and-false) at h in
        rw (le-leb 1 e (omega arith), le-leb e (n + 1) (omega arith)) (omega (arith, b, none, one_le (eqb (n + 1) e)))
    go (no w) b h = omega (arith, rw (ne_eqb (n + 1) e w) at b, h, within_more n e)
