-- Request #103: how many steps a set-up can take, and what is left in the end. Proved in proofs/Termination. Assumes nothing.
use Rattle.std.specs.Prelude.{ℕ, ◌+◌, ◌*◌, ◌≤◌, ◌≡◌, Bool, true, false, cond, not, ◌&&◌, List, [], ◌∷◌, eqb, length, Some, None}
use Rattle.std.specs.Prelude as std
use Rattle.std.proofs.Math.Option.{Option, none, some}
use Rattle.calculus.specs.Number.{is_session}
use Rattle.calculus.specs.declared.packet.Item.{Item}
use Rattle.calculus.specs.declared.packet.Slot.{Slot}
use Rattle.calculus.specs.declared.state.Part.{Part}
use Rattle.calculus.specs.declared.state.State.{State}
use Rattle.forms.specs.Text.{Form, node, route, «open», step, send, close, show, net, take_down, text}
use Rattle.forms.specs.Read.{read}
use Rattle.model.specs.Lists.{All}
use Rattle.model.specs.Packet.{hop_limit}
use Rattle.model.specs.Item.{is_wait, how_many_items, OfSlot}
use Rattle.model.specs.Rules.{establishment_limit}
use Rattle.model.specs.State.{fresh, load, found_item}
use Rattle.model.specs.Requests.{spent}
use Rattle.model.specs.Calls.{answered, Call, roomy_call, call, is_accepted, after, is_own}
use Rattle.model.specs.SetUp.{is_set_up_item}

-- ---- the ceiling

-- a packet on a wire: a step for each hop, and one that takes it off the wire
abbrev pub wire_steps : ℕ
wire_steps = hop_limit + 1

-- a packet's trip, bare or through one tunnel: out, wire, up
abbrev pub trip_steps : ℕ
trip_steps = 1 + wire_steps + 1

-- the Disc, est, the Req, the responder's auth and grant, the Rep, the initiator's auth and grant, ack
abbrev pub establishment_steps : ℕ
establishment_steps = wire_steps + 1 + trip_steps + 1 + 1 + trip_steps + 1 + 1 + 1

-- "8 establishments of 111 steps and a Done through 8 tunnels of 36", which #107 makes 109 and 35. Instead of the Done one more Disc
-- can come, which takes fewer
abbrev pub ceiling : ℕ
ceiling = establishment_limit * establishment_steps + establishment_limit * trip_steps

-- ---- the count

-- a step of the item that was found, if one was, is counted
abbrev pub is_counted : std.Option (ℕ × Slot) → Bool
is_counted None = false
is_counted (Some (at, s)) = is_set_up_item s.item

-- what an accepted call of a session with the items l makes of its count n: "since its open on all items but Data"
abbrev pub form_count : List (std.Option Slot) → ℕ → Option Form → ℕ
form_count l n (some (node a k has needs)) = n
form_count l n (some (route a b next)) = n
form_count l n (some («open» u c d)) = 0
form_count l n (some (step u k)) = cond (is_counted (found_item k l)) (n + 1) n
form_count l n (some (send u w tag)) = n
form_count l n (some (close u)) = n
form_count l n (some show) = n
form_count l n (some net) = n
form_count l n (some (take_down u e)) = n
form_count l n none = n

-- what the call c on the state s makes of session u's count n
abbrev pub call_count : ℕ → State → ℕ → Call → ℕ
call_count u s n c = cond (is_own u c && is_accepted (call s c).refusal) (form_count (load s u).items n (read c.line)) n

-- session u's count after the calls cs, which find it at n
unfoldable pub set_up_steps : ℕ → State → ℕ → List Call → ℕ
set_up_steps u s n [] = n
set_up_steps u s n (c ∷ cs) = set_up_steps u (call s c).state (call_count u s n c) cs

-- ---- what is left

-- "neither a wait nor Data"
abbrev pub is_active : Item → Bool
is_active i = is_set_up_item i && not (is_wait i)

-- "only waits and Data items are left", unless the numbers are spent
abbrev pub Settled : Part → Type 0
Settled t = spent t ≡ false → how_many_items is_active t.items ≡ 0

-- a step call of session u for each item that is neither a wait nor Data
abbrev pub active_steps : ℕ → List (std.Option Slot) → List Call
active_steps u [] = []
active_steps u (None ∷ l) = active_steps u l
active_steps u (Some x ∷ l) = cond (is_active x.item) (roomy_call (text (step u x.number.0)) ∷ active_steps u l) (active_steps u l)

-- the state after rounds: in each come calls of anyone, and then those items are stepped
unfoldable pub after_rounds : ℕ → State → List (List Call) → State
after_rounds u s [] = s
after_rounds u s (cs ∷ rounds) =
    let r = after s cs in
    after_rounds u (after r (active_steps u (load r u).items)) rounds

-- the line is an open of session u
abbrev pub form_opens : ℕ → Option Form → Bool
form_opens u (some (node a k has needs)) = false
form_opens u (some (route a b next)) = false
form_opens u (some («open» v c d)) = eqb v u
form_opens u (some (step v k)) = false
form_opens u (some (send v w tag)) = false
form_opens u (some (close v)) = false
form_opens u (some show) = false
form_opens u (some net) = false
form_opens u (some (take_down v e)) = false
form_opens u none = false

abbrev pub opens : ℕ → Call → Bool
opens u c = form_opens u (read c.line)

-- ---- the promise

-- of session u after the calls cs
pub record Terminates (cs : List Call) (u : ℕ) : Type 0 where
  -- "At most 1,176 of them are ever accepted, in any order and mixed with anything of others", which #107 makes 1,152
  pub bounded : set_up_steps u fresh 0 cs ≤ ceiling
  -- "Unless the session's numbers are spent, any pending item that is neither a wait nor Data can be stepped": its step call is not
  -- refused
  pub progress :
      let s = after fresh cs in
      let t = load s u in
      spent t ≡ false → (size : ℕ) → 65536 ≤ size
      → All (OfSlot (λ x. is_active x.item ≡ true → (answered s (text (step u x.number.0)) size).refusal ≡ none)) t.items
  -- "so in the end only waits and Data items are left": after as many rounds as the ceiling leaves steps, whatever is called in them
  -- except an open of the session, which begins anew
  pub settles : (rounds : List (List Call)) → All (All (λ c. opens u c ≡ false)) rounds → ceiling ≤ set_up_steps u fresh 0 cs + length rounds
      → Settled (load (after_rounds u (after fresh cs) rounds) u)

pub record Termination : Type 0 where
  pub figures : (trip_steps ≡ 35) × (establishment_steps ≡ 109) × (ceiling ≡ 1152)
  -- after any list of calls, node and route calls anywhere in it
  pub holds : (cs : List Call) (u : ℕ) → is_session u ≡ true → Terminates cs u
