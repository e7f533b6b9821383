-- The loop over the lines of a text: the pieces that the code has hold the state that the calls so far leave. Assumes nothing.
use mathlib.Core.Path.{◌≡◌, refl, ◌∙◌}
use mathlib.Core.Bool.{Bool, true, false, cond, ◌||◌}
use mathlib.Core.List.{List, append_assoc}
use Rattle.std.specs.Prelude.{Some, None}
use Prim.Native.Nat.{ℕ, zero, suc, ◌+◌, ◌-◌, ◌≤◌}
use native.Mathlib.Omega.{arith}
use borrow.Author.Tests.{ltb-false}
use lib.Dec.{ltb}
use lib.ListN.{length, get_or, set, take, drop, length-drop}
use lib.Seq.{sets-eq, drop-drop}
use Rattle.calculus.specs.declared.state.Part.{Part}
use Rattle.calculus.specs.declared.state.State.{State}
use Rattle.calculus.proofs.Tests.{clash, within_bounds}
use Rattle.forms.specs.declared.line.Line.{Line}
use Rattle.forms.specs.Line.{next_line}
use Rattle.forms.specs.Read.{read}
use Rattle.forms.specs.Request.{Asked, asked}
use Rattle.forms.proofs.Splits.{Inside, line_inside}
use Rattle.model.specs.Batch.{Batch, is_over, is_over_at, next_call, one_more, answered_lines, answered_text}
use Rattle.model.specs.Calls.{answered, replied_to, lines_text, lines_of}
use Rattle.model.specs.Turn.{session_of, report_of, lines_as, Turned, shared_with, Parts, Held}
use Rattle.model.proofs.Batch.{lines_over, lines_more}
use Rattle.model.proofs.Parts.{Sized, Whole, Numbered}
use Rattle.model.proofs.Turns.{Further, held_further, held_whole}
use Rattle.answers.specs.Write.{Writes}
use Rattle.reports.specs.Puts.{Puts}
use Rattle.reports.proofs.Puts.{puts_written, puts_size}
use Rattle.simulator.specs.Batch.{Answers}
use Rattle.simulator.specs.Line.{line_turned}
use Rattle.simulator.proofs.Range.{asked_session}

-- how far the text is read and the output written, at the state that is reached
abbrev reached : State → List ℕ → ℕ → ℕ → Batch
reached s out from written = record { state = s; read = from; out = out; written = written }

-- the calls so far lead from s to `state`, which the code holds in pieces: the parts, and in `now` what all sessions share. What are
-- left are `fuel` lines at most
pub record Answering (s : State) (text out₀ out : List ℕ) (now : State) (parts : List Part) (from written : ℕ) : Type 0 where
  pub state : State
  pub fuel : ℕ
  pub same : answered_text s text out₀ ≡ answered_lines fuel text (reached state out from written)
  pub enough : length text ≤ from + fuel
  pub sized : Sized state
  pub held : Held state now.opened now.network parts now.users
  pub size : length out ≡ length out₀
  pub room : written ≤ length out

-- ---- the next call

or_false : (a b : Bool) → (a || b) ≡ false → a ≡ false
or_false true b e = e
or_false false b e = refl

or_true : (a : Bool) → (a || true) ≡ true
or_true true = refl
or_true false = refl

-- the line of the next call: it stands inside the text, and the output has room for its answers
pub record Next (text : List ℕ) (from room stop next : ℕ) : Type 0 where
  pub goes_on : is_over_at text from room ≡ false
  pub found : next_line text from ≡ Some (record { stop = stop; next = next })
  pub inside : Inside text from stop next
  pub roomy : 65536 ≤ room

pub next_found : (text : List ℕ) (from room : ℕ) (x : Line) → next_call text from room ≡ Some x → Next text from room x.stop x.next
next_found text from room x = go (is_over_at text from room) refl
  where
    go : (b : Bool) → is_over_at text from room ≡ b → cond b None (next_line text from) ≡ Some x → Next text from room x.stop x.next
    go true e q = clash cc
    go false e q =
        record { goes_on = e; found = q; inside = line_inside text from x q; roomy = ltb-false room 65536 (or_false _ _ e) }

call_none : (text : List ℕ) (from room : ℕ) → next_call text from room ≡ None → is_over_at text from room ≡ true
call_none text from room = go (is_over_at text from room) refl
  where
    go : (b : Bool) → is_over_at text from room ≡ b → cond b None (next_line text from) ≡ None → is_over_at text from room ≡ true
    go true e q = e
    go false e q = rw q (or_true (ltb room 65536))

-- ---- one line more

-- r is what the line from `from` to `stop` is read as
pub record Reads (text : List ℕ) (from stop : ℕ) (r : Asked) : Type 0 where
  pub same : r ≡ asked (read (take (stop - from) (drop from text)))

pub reads_numbered : {text : List ℕ} {from stop : ℕ} {r : Asked} → Reads text from stop r → (1 ≤ session_of r) × (session_of r ≤ 8)
reads_numbered {text} {from} {stop} x = rw x.same (within_bounds 1 8 _ (asked_session (read (take (stop - from) (drop from text)))))

-- the line is a call: its answers, put into the output, are those of the call
module _ (s : State) (text out : List ℕ) (from written stop next : ℕ) (r : Asked) where
  one_more_lem : ltb (length out - written) 65536 ≡ false → Reads text from stop r
      → {most : ℕ} {out' : List ℕ} {written' : ℕ} → Puts most out written (lines_of (replied_to s r)) out' written' → written + most ≤ length out
      → one_more text (reached s out from written) (Some (record { stop = stop; next = next })) ≡ reached (replied_to s r).state out' next written'
  unfolding one_more answered
  one_more_lem h e p fits =
      let d : length (drop written out) ≡ length out - written = length-drop written out in
      let lines = lines_of (replied_to s r) in
      let o = p.put.bytes ∙ sets-eq lines out written (omega (arith, p.few)) ∙ append_assoc (take written out) lines (drop (written + length lines) out) in
      rw (d, h, ← e.same, p.put.place, o, drop-drop (length lines) written out)

module _ {s : State} {text out₀ out : List ℕ} {now : State} {parts : List Part} {from written : ℕ}
    (w : Answering s text out₀ out now parts from written) where
  pub answering_more : {stop next : ℕ} → Next text from (length out - written) stop next → (r : Asked) → Reads text from stop r
      → (u : ℕ) → u ≡ session_of r → (z : Part) (x : Turned) → x ≡ line_turned now (get_or parts (u - 1) z) r
      → (now' : State) → now' ≡ shared_with now x → (t : Part) → t ≡ x.part → {out' : List ℕ} {written' : ℕ}
      → Writes 65536 out written (lines_text (lines_as now.network x.users x.answer (report_of r))) out' written'
      → Answering s text out₀ out' now' (set parts (u - 1) t) next written'
  answering_more {stop} {next} f r reads u eu z x ex now' en t et {out'} {written'} p = go w.fuel w.same w.enough
    where
      numbered : Numbered (session_of r)
      numbered = let h = reads_numbered reads in record { least = h.0; most = h.1 }

      further : Further w.state r now.network parts x
      further = held_further w.sized w.held r numbered x z (rw eu at ex)

      fits : written + 65536 ≤ length out
      fits = omega (arith, f.roomy)

      puts : Puts 65536 out written (lines_of (replied_to w.state r)) out' written'
      puts = rw further.lines (puts_written fits p)

      one : one_more text (reached w.state out from written) (Some (record { stop = stop; next = next })) ≡ reached (replied_to w.state r).state out' next written'
      one = one_more_lem w.state text out from written stop next r (or_false _ _ f.goes_on) reads puts fits

      go : (k : ℕ) → answered_text s text out₀ ≡ answered_lines k text (reached w.state out from written) → length text ≤ from + k
          → Answering s text out₀ out' now' (set parts (u - 1) t) next written'
      go zero q h = absurd (omega (arith, f.inside))
      go (suc k) q h =
          record {
            state = (replied_to w.state r).state;
            fuel = k;
            same = q ∙ lines_more k text (reached w.state out from written) f.goes_on ∙ rw (f.found, one);
            enough = omega (arith, f.inside);
            sized = further.sized;
            held = rw (en, et, eu) further.held;
            size = puts_size puts ∙ w.size;
            room = omega (arith, fits, puts.few, puts.put.place, puts_size puts);
          }

-- ---- before the first line, and behind the last

pub answering_first : (s : State) (text out : List ℕ) {parts : List Part} → Sized s → Parts s parts → Answering s text out out s parts 0 0
answering_first s text out h p =
    record {
      state = s;
      fuel = length text;
      same = refl;
      enough = omega arith;
      sized = h;
      held = record { opens = refl; network = refl; own = p; shared = refl };
      size = refl;
      room = omega arith;
    }

pub answering_last : {s : State} {text out₀ out : List ℕ} {now : State} {parts : List Part} {from written : ℕ}
    → Answering s text out₀ out now parts from written → next_call text from (length out - written) ≡ None
    → (r : State) → Sized r → Held r now.opened now.network parts now.users
    → Answers out (record { state = r; read = from; written = written }) (answered_text s text out₀)
answering_last {text = text} {out = out} {from = from} {written = written} w none r hr p =
    let q = w.same ∙ lines_over w.fuel text (reached w.state out from written) (call_none text from (length out - written) none) in
    let e = held_whole w.sized hr w.held p.own in
    let same : r ≡ w.state = rw (← p.opens, ← p.network, ← p.shared) at e in
    rw (q, same) (record { answered = refl; output = refl })
