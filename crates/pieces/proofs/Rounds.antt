-- What `finish` and `advance` come to. Assumes nothing.
use mathlib.Core.Path.{◌≡◌, refl, sym, ap, ◌∙◌}
use mathlib.Core.Bool.{true, false}
use mathlib.Core.List.{List}
use Prim.Native.Nat.{ℕ, ◌+◌, ◌-◌, ◌≤◌, min}
use native.Mathlib.Omega.{arith}
use borrow.Author.Tests.{eq-eqb, ne_eqb}
use lib.ListN.{length, take, drop}
use lib.Seq.{slice, length-slice}
use Rattle.calculus.specs.declared.state.State.{State}
use Rattle.model.specs.Calls.{answered}
use Rattle.simulator.specs.declared.call.Reply.{Reply}
use Rattle.simulator.specs.Reply.{Replies}
use Rattle.pieces.specs.declared.Progress.{Progress}
use Rattle.pieces.specs.Progress.{stream_at, is_end, answered_into, ended, advanced, Advances}
use Rattle.pieces.proofs.Spans.{part, part_held, part_more}

-- ---- `finish`

-- the tail is answered
abbrev over_with : Reply → Progress
over_with r = record { state = r.state; from = 0; to = 0; wants = false; over = true; written = r.written }

module _ (s : State) (from to : ℕ) (l out : List ℕ) (k : to ≤ length l) where
  pub finish_none : to - from ≡ 0
      → Advances (ended (stream_at s from to l) l out) l out (record { state = s; from = 0; to = 0; wants = false; over = true; written = 0 })
  unfolding ended
  finish_none e =
      let z = eq-eqb (length (slice from to l)) 0 (length-slice from to l k ∙ e) in
      record { progress = rw z; buffer = refl; output = rw z }

  pub finish_call : (to - from ≡ 0 → ⊥) → {left : List ℕ} {r : Reply}
      → Replies out (answered s (take (to - from) (drop from l)) (length out)) left r
      → Advances (ended (stream_at s from to l) l out) l left (over_with r)
  unfolding ended
  finish_call e w =
      let z = ne_eqb (length (slice from to l)) 0 (λ q. e (sym (length-slice from to l k) ∙ q)) in
      let m = rw part at w in
      record { progress = rw z (ap over_with m.reply); buffer = refl; output = rw z m.output }

-- ---- `advance`

-- the places that the code puts into the buffer
module _ (p : Progress) (got : ℕ) (l out : List ℕ) (t f : ℕ) (et : t ≡ min p.to (length l)) (ef : f ≡ min p.from t) where
  pub advance_end : is_end p got ≡ true → {left : List ℕ} {r : Progress} → Advances (ended (stream_at p.state f t l) l out) l left r
      → Advances (advanced p got l out) l left r
  unfolding advanced
  advance_end e w = rw e (rw (ef, et, part_held p.from p.to l) at w)

  pub advance_more : is_end p got ≡ false → (g : ℕ) → g ≡ min got (length l - t) → {l' left : List ℕ} {r : Progress}
      → Advances (answered_into (stream_at p.state f (t + g) l) (t + g) l out) l' left r → Advances (advanced p got l out) l' left r
  unfolding advanced
  advance_more e g eg w =
      let to : t + g ≡ min (p.to + got) (length l) = omega arith in
      rw e (rw (to, ef, et, part_more p.from p.to got l) at w)
