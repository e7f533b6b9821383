-- What a line asks, by cases: whose it is, and what it can change. Assumes nothing.
use mathlib.Core.Path.{◌≡◌, refl, ◌∙◌}
use mathlib.Core.Bool.{Bool, true, false, ◌&&◌}
use mathlib.Core.List.{List, [], ◌∷◌}
use mathlib.Core.Option.{Option, none, some}
use Prim.Native.Nat.{ℕ}
use lib.Dec.{eqb}
use lib.ListN.{length, set, length-set}
use Rattle.std.specs.Prelude.{Err, Ok}
use Rattle.calculus.specs.Number.{is_node, is_destination, within, is_session, is_item, is_establishment, is_tag, sender_of}
use Rattle.calculus.proofs.Tests.{both, never, either}
use Rattle.calculus.specs.declared.answer.Refusal.{Refusal}
use Rattle.calculus.specs.declared.answer.Refusal.TheVariants.{Unreadable, Range}
use Rattle.calculus.specs.declared.network.Kind.{Kind}
use Rattle.calculus.specs.declared.network.Network.{Network}
use Rattle.calculus.specs.declared.request.Request as request
use Rattle.calculus.specs.declared.request.Request.TheVariants.{Node, Route, Open, Step, Send, Close, Show, Net, Drop}
use Rattle.calculus.specs.declared.request.Sender.{Sender}
use Rattle.calculus.specs.declared.state.Part.{Part}
use Rattle.calculus.specs.declared.state.State.{State}
use Rattle.forms.specs.Text.{Form, node, route, «open», step, send, close, show, net, take_down}
use Rattle.forms.specs.Request.{rising, holding, no_credentials, Asked, in_range, reading, asked}
use Rattle.model.specs.Row.{stands}
use Rattle.model.specs.Requests.{Move, open_move, step_move, send_move, close_move, drop_move, performed}
use Rattle.model.specs.State.{load}
use Rattle.model.proofs.Checks.{IsWritten}
use Rattle.model.specs.Calls.{one_answer, requested, form_gives_network, form_names}

-- the session of a request, 0 if it has none
abbrev pub session_in : request.Request → ℕ
session_in (Node a k has needs) = 0
session_in (Route a b n) = 0
session_in (Open u c d) = u.0
session_in (Step u k) = u.0
session_in (Send u w tag) = u.0
session_in (Close u) = u.0
session_in Show = 0
session_in Net = 0
session_in (Drop u e) = u.0

-- the move of a session's request; other requests have none
abbrev pub own_move : Network → (ℕ → ℕ → Bool) → request.Request → Part → Move
own_move n standing (Node a k has needs) t = Err Unreadable
own_move n standing (Route a b next) t = Err Unreadable
own_move n standing (Open u c d) t = open_move n c d t
own_move n standing (Step u k) t = step_move n standing k.0 t
own_move n standing (Send u w tag) t = send_move w tag t
own_move n standing (Close u) t = close_move t
own_move n standing Show t = Err Unreadable
own_move n standing Net t = Err Unreadable
own_move n standing (Drop u e) t = drop_move e t

-- what holds of every request's move
pub own_cases : (P : Move → Type 0) (n : Network) (standing : ℕ → ℕ → Bool) (q : request.Request) (t : Part) → P (Err Unreadable)
    → ((c d : ℕ) → P (open_move n c d t)) → ((k : ℕ) → P (step_move n standing k t)) → ((w : Sender) (tag : ℕ) → P (send_move w tag t)) → P (close_move t)
    → ((e : ℕ) → P (drop_move e t)) → P (own_move n standing q t)
own_cases P n standing (Node a k has needs) t other opens steps sends closes drops = other
own_cases P n standing (Route a b next) t other opens steps sends closes drops = other
own_cases P n standing (Open u c d) t other opens steps sends closes drops = opens c d
own_cases P n standing (Step u k) t other opens steps sends closes drops = steps k.0
own_cases P n standing (Send u w tag) t other opens steps sends closes drops = sends w tag
own_cases P n standing (Close u) t other opens steps sends closes drops = closes
own_cases P n standing Show t other opens steps sends closes drops = other
own_cases P n standing Net t other opens steps sends closes drops = other
own_cases P n standing (Drop u e) t other opens steps sends closes drops = drops e

-- the move that session u's request makes
abbrev pub move_in : State → ℕ → request.Request → Move
move_in s u q = own_move s.network (stands s.users false) q (load s u)

pub requested_own : (s : State) (q : request.Request) → is_session (session_in q) ≡ true
    → requested s q ≡ one_answer (performed s (session_in q) (move_in s (session_in q) q))
unfolding requested
requested_own s (Node a k has needs) e = never e
requested_own s (Route a b n) e = never e
requested_own s (Open u c d) e = refl
requested_own s (Step u k) e = refl
requested_own s (Send u w tag) e = refl
requested_own s (Close u) e = refl
requested_own s Show e = never e
requested_own s Net e = never e
requested_own s (Drop u k) e = refl

-- a line that gives the network names no session
pub not_own : (u : ℕ) (o : Option Form) → form_gives_network o ≡ true → form_names u o ≡ false
not_own u none e = refl
not_own u (some (node a k has needs)) e = refl
not_own u (some (route a b n)) e = refl
not_own u (some («open» v c d)) e = never e
not_own u (some (step v k)) e = never e
not_own u (some (send v w tag)) e = never e
not_own u (some (close v)) e = never e
not_own u (some show) e = refl
not_own u (some net) e = refl
not_own u (some (take_down v k)) e = never e

-- a set of credentials
abbrev pub IsSet : List Bool → Type 0
IsSet s = length s ≡ 64

holding_length : (ns : List ℕ) (s : List Bool) → length (holding s ns) ≡ length s
holding_length [] s = refl
holding_length (n ∷ ns) s = holding_length ns (set s n true) ∙ length-set s n true

-- what a line of the form o, or of none, asks
pub data Meaning (o : Option Form) : Asked → Type 0 where
  refuses : (r : Refusal) → IsWritten r → Meaning o (Err r)
  gives_node : (a : ℕ) (k : Kind) (has needs : List Bool) → IsSet has → IsSet needs → form_gives_network o ≡ true
      → Meaning o (Ok (Node a k has needs))
  gives_route : (a b n : ℕ) → form_gives_network o ≡ true → Meaning o (Ok (Route a b n))
  of_session : (q : request.Request) → is_session (session_in q) ≡ true → ((u : ℕ) → form_names u o ≡ eqb (session_in q) u) → Meaning o (Ok q)
  shows : ((u : ℕ) → form_names u o ≡ false) → Meaning o (Ok Show)
  gives_back : ((u : ℕ) → form_names u o ≡ false) → Meaning o (Ok Net)

-- a request whose numbers are in range, or refusal 2
ranged : {o : Option Form} (ok : Bool) (q : request.Request) → (ok ≡ true → Meaning o (Ok q)) → Meaning o (in_range ok q)
ranged true q f = f refl
ranged false q f = refuses Range refl

meaning_form : (f : Form) → Meaning (some f) (reading f)
meaning_form (node a k has needs) =
    either (Meaning (some (node a k has needs))) (is_node a && (rising 0 has && rising 0 needs))
    (λ e. gives_node a k _ _ (holding_length has no_credentials) (holding_length needs no_credentials) refl)
    (λ e. refuses Range refl)
meaning_form (route a b n) =
    ranged (is_node a && (is_destination b && is_node n)) _ (λ e. gives_route a b n refl)
meaning_form («open» u c d) =
    ranged (is_session u && (is_node c && is_node d)) _ (λ e. of_session (Open (record { 0 = u }) c d) (both (is_session u) _ e).0 (λ v. refl))
meaning_form (step u k) =
    ranged (is_session u && is_item k) _ (λ e. of_session (Step (record { 0 = u }) (record { 0 = k })) (both (is_session u) _ e).0 (λ v. refl))
meaning_form (send u w tag) =
    ranged (is_session u && (within 0 1 w && is_tag tag)) _
    (λ e. of_session (Send (record { 0 = u }) (sender_of w) tag) (both (is_session u) _ e).0 (λ v. refl))
meaning_form (close u) = ranged (is_session u) _ (λ e. of_session (Close (record { 0 = u })) e (λ v. refl))
meaning_form show = shows (λ u. refl)
meaning_form net = gives_back (λ u. refl)
meaning_form (take_down u e) =
    ranged (is_session u && is_establishment e) _ (λ k. of_session (Drop (record { 0 = u }) e) (both (is_session u) _ k).0 (λ v. refl))

pub meaning : (o : Option Form) → Meaning o (asked o)
meaning none = refuses Unreadable refl
meaning (some f) = meaning_form f
