-- The numbers that a session's answers carry are its next ones, with none left out and none twice. Assumes nothing.
use mathlib.Core.Path.{◌≡◌, refl}
use mathlib.Core.List.{List, []}
use Prim.Native.Nat.{ℕ, ◌+◌}
use native.Mathlib.Omega.{arith}
use lib.Dec.{ltb}
use Rattle.std.specs.Prelude.{Ok, Err}
use Rattle.calculus.proofs.Tests.{either}
use Rattle.calculus.specs.declared.effect.Outcome.{Outcome}
use Rattle.calculus.specs.declared.effect.Outcome.TheVariants.{Wrote, WroteByDefault, WroteTwo, Lost, Denied, Opened, Delivered}
use Rattle.calculus.specs.declared.effect.Effect.{Effect}
use Rattle.calculus.specs.declared.network.Network.{Network}
use Rattle.calculus.specs.declared.request.Request as request
use Rattle.calculus.specs.declared.state.Part.{Part}
use Rattle.forms.specs.Read.{read}
use Rattle.forms.specs.Request.{Asked, asked}
use Rattle.model.specs.Lists.{up_from}
use Rattle.model.specs.Row.{are_nodes}
use Rattle.model.specs.State.{answer_of, written_count, applied, session_after}
use Rattle.model.specs.Requests.{Move, opening, open_move, stepped, sending, send_move, closing, close_move, dropping, drop_move, step_at, step_move}
use Rattle.model.specs.Calls.{Call}
use Rattle.model.specs.Noninterference.{numbers_in, numbers_in_lines}
use Rattle.model.proofs.Checks.{checked_either}
use Rattle.model.proofs.Steps.{step_either}
use Rattle.model.proofs.Asked.{own_move, own_cases}
use Rattle.model.proofs.Local.{Seen, seen_move, seen_parsed, local}

-- as many numbers as the part's last number grew by, those after it
pub record Issued (t t' : Part) (l : List ℕ) : Type 0 where
  pub many : ℕ
  pub last : t'.session.last.0 ≡ t.session.last.0 + many
  pub carried : l ≡ up_from t.session.last.0 many

abbrev Issues : Part → Seen → Type 0
Issues t x = Issued t x.part (numbers_in_lines x.lines)

abbrev IssuesMove : Part → Move → Type 0
IssuesMove t m = Issues t (seen_move t m)

pub issued_none : (t : Part) → Issued t t []
unfolding up_from
issued_none t = record { many = 0; last = omega arith; carried = refl }

-- the answer of an outcome carries the numbers of the items written
answer_numbers : (n : ℕ) (o : Outcome) → numbers_in (Ok (answer_of n o)) ≡ up_from n (written_count o)
unfolding up_from
answer_numbers n (Wrote i) = refl
answer_numbers n (WroteByDefault i) = refl
answer_numbers n (WroteTwo i j) = let e : n + 2 ≡ n + 1 + 1 = omega arith in rw e
answer_numbers n (Lost k) = refl
answer_numbers n Denied = refl
answer_numbers n Opened = refl
answer_numbers n (Delivered tag) = refl

module _ (t : Part) where
  step_issues : (at : ℕ) (f : Effect) → IssuesMove t (Ok (stepped t at f))
  unfolding stepped applied session_after
  step_issues at f = record { many = written_count f.outcome; last = refl; carried = answer_numbers t.session.last.0 f.outcome }

  move_issues : (n : Network) (q : request.Request) → IssuesMove t (own_move n are_nodes q t)
  unfolding open_move opening send_move sending close_move closing drop_move dropping up_from
  move_issues n q =
      own_cases (IssuesMove t) n are_nodes q t (issued_none t)
      (λ c d. checked_either (IssuesMove t) (λ r. issued_none t) _ (λ e. record { many = 1; last = refl; carried = refl }))
      (λ k. step_either n are_nodes k t (λ o. IssuesMove t) (λ o r. issued_none t) (λ at s e p. step_issues at _))
      (λ w tag. checked_either (IssuesMove t) (λ r. issued_none t) _ (λ e. record { many = 1; last = refl; carried = refl }))
      (checked_either (IssuesMove t) (λ r. issued_none t) _ (λ e. record { many = 0; last = omega arith; carried = refl }))
      (λ e. checked_either (IssuesMove t) (λ r. issued_none t) _ (λ k. record { many = 0; last = omega arith; carried = refl }))

  parsed_issues : (n : Network) (p : Asked) → Issues t (seen_parsed n t p)
  parsed_issues n (Ok q) = move_issues n q
  parsed_issues n (Err r) = issued_none t

  pub local_issues : (n : Network) (c : Call) → Issues t (local n t c)
  unfolding local
  local_issues n c =
      either (Issues t) (ltb c.size 65536) (λ e. issued_none t) (λ e. parsed_issues n (asked (read c.line)))
