-- One call: what the code makes of the pieces is the reply to the call. Assumes nothing.
use mathlib.Core.Path.{◌≡◌, ◌∙◌}
use mathlib.Core.List.{List}
use Prim.Native.Nat.{ℕ, ◌≤◌}
use native.Mathlib.Nat.{zero-add}
use native.Mathlib.Omega.{arith}
use borrow.Author.Tests.{le-ltb}
use lib.ListN.{length}
use lib.Seq.{sets-eq}
use Rattle.std.specs.Prelude.{Result}
use Rattle.calculus.specs.declared.answer.Refusal.{Refusal}
use Rattle.calculus.specs.declared.state.Part.{Part}
use Rattle.calculus.specs.declared.state.State.{State}
use Rattle.forms.specs.Read.{read}
use Rattle.forms.specs.Request.{Asked, asked}
use Rattle.model.specs.State.{load, store}
use Rattle.model.specs.Calls as calls
use Rattle.model.specs.Calls.{answered, refusal_in, lines_text, lines_of}
use Rattle.model.specs.Turn.{session_of, report_of, lines_as, Turned, shared_with}
use Rattle.model.proofs.Turns.{reply_of, turn_whole}
use Rattle.answers.specs.Write.{Writes}
use Rattle.reports.proofs.Puts.{puts_written}
use Rattle.simulator.specs.Line.{line_turned}
use Rattle.simulator.specs.Reply.{status_of, Replies}

-- a reply whose lines are put at the front
replies : {out left : List ℕ} {n : ℕ} (m : calls.Reply) → 65536 ≤ length out → Writes 65536 out 0 (lines_of m) left n
    → Replies out m left (record { state = m.state; written = n; status = status_of m.refusal })
replies {out} {n = n} m h r =
    let p = puts_written h r in
    let e : n ≡ length (lines_of m) = omega (arith, p.put.place) in
    record {
      reply = rw e;
      output = p.put.bytes ∙ rw zero-add at (sets-eq (lines_of m) out 0 (omega (arith, p.few)));
    }

-- the line is read as r, which is about session u, and t is its part; x is what the line answers and leaves
module _ (s : State) (line : List ℕ) (r : Asked) (er : r ≡ asked (read line)) (u : ℕ) (eu : u ≡ session_of r) (t : Part)
    (et : t ≡ load s (session_of r)) where
  abbrev x : Turned
  x = line_turned s t r

  answered_turn : (size : ℕ) → 65536 ≤ size → answered s line size ≡ reply_of s r x
  unfolding answered
  answered_turn size h = rw (le-ltb size 65536 h, ← er, et) (turn_whole s r)

  pub replied : {out left : List ℕ} → 65536 ≤ length out → {written : ℕ}
      → Writes 65536 out 0 (lines_text (lines_as s.network x.users x.answer (report_of r))) left written
      → (shared : State) → shared ≡ shared_with s x → (part : Part) → part ≡ x.part → (next : State) → next ≡ store shared u part
      → (status : Result Unit Refusal) → status ≡ status_of (refusal_in x.answer)
      → Replies out (answered s line (length out)) left (record { state = next; written = written; status = status })
  unfolding store
  replied {out} h p shared es part ep next en status e =
      rw (answered_turn (length out) h, en, es, ep, e, eu) (replies (reply_of s r x) h p)
