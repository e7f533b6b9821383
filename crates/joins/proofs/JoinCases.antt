-- A file read, and a refusal written. Assumes nothing.
use mathlib.Core.Path.{◌≡◌, refl, sym, ap, subst, ◌∙◌}
use mathlib.Core.Bool.{true, false}
use mathlib.Core.List.{List, [], ◌∷◌}
use Prim.Native.Nat.{ℕ, ◌-◌, ◌≤◌}
use native.Mathlib.Nat.{zero-add}
use native.Mathlib.Omega.{arith}
use borrow.Author.Tests.{le-ltb, le-leb}
use lib.ListN.{length, take, drop}
use lib.Seq.{sets-eq, take_at}
use Rattle.calculus.specs.declared.network.Network.{Network}
use Rattle.calculus.specs.declared.state.State.{State}
use Rattle.forms.specs.Text.{net, text, list_text}
use Rattle.answers.specs.Write.{Writes}
use Rattle.model.specs.NetworkText.{network_text, network_lines}
use Rattle.model.specs.Calls.{reported, answered}
use Rattle.model.specs.State.{fresh}
use Rattle.model.specs.Batch.{answered_text}
use Rattle.model.specs.Join.{same_text, is_network_text}
use Rattle.model.proofs.GivenBack.{given_back}
use Rattle.model.proofs.FileRead.{FileGives, file_read}
use Rattle.model.proofs.Union.{sorted_text}
use Rattle.simulator.specs.Batch.{Answers}
use Rattle.simulator.specs.declared.calls.Answered.{Answered}
use Rattle.simulator.specs.Reply.{Replies}
use Rattle.simulator.specs.declared.call.Reply.{Reply}
use Rattle.joins.specs.Front.{Front}
use Rattle.model.specs.Union.{IsTextOf}
use Rattle.joins.specs.declared.text.NetworkText.{NetworkText}

-- ---- what is written

-- a refusal's line has room
pub line_front : {out line left : List ℕ} {next : ℕ} → Writes 32 out 0 line left next → 65536 ≤ length out → Front out line left next
line_front {out} {line} {left} {next} w h =
    let room = le-leb 32 (length out) (omega arith) in
    let size : next ≡ length line = w.place ∙ rw (room, zero-add (length line)) in
    let few : length line ≤ length out = omega (arith, w.few) in
    record { size = size; bytes = w.left ∙ rw room (rw zero-add at (sets-eq line out 0 (omega arith))) }

-- ---- a file

-- what `calls` leaves of a fresh state by the file
pub calls_read : (t out : List ℕ) {s : State} {left : List ℕ} {r : Answered} → s ≡ fresh → 70976 ≤ length out
    → Answers left r (answered_text s t out) → FileGives t r.state.network
calls_read t out {s} {left} {r} e h w =
    let same : r.state ≡ (answered_text fresh t out).state = ap (λ (x : Answered). x.state) w.answered ∙ ap (λ (x : State). (answered_text x t out).state) e in
    subst (λ (x : State). FileGives t x.network) (sym same) (file_read t out h)

-- the state's network, asked for
module _ (s : State) (line : List ℕ) {out left : List ℕ} {r : Reply} (e : line ≡ text net) (h : 65536 ≤ length out)
    (w : Replies out (answered s line (length out)) left r) where
  asked : answered s line (length out) ≡ reported s (network_lines s.network)
  asked = ap (λ (l : List ℕ). answered s l (length out)) e ∙ given_back.written s (length out) ∙ rw (le-ltb (length out) 65536 h)

  pub asked_length : r.written ≡ length (network_text s.network)
  asked_length = ap (λ (x : Reply). x.written) w.reply ∙ rw asked

  -- the lent part of the output, from its front to behind the text
  pub asked_text : take (r.written - 0) (drop 0 left) ≡ network_text s.network
  asked_text =
      let t = network_text s.network in
      ap (take (r.written - 0)) (w.output ∙ rw asked) ∙ take_at t (drop (length t) out) (r.written - 0) (omega (arith, asked_length))

pub net_text : text net ≡ 40 ∷ 110 ∷ 101 ∷ 116 ∷ 41 ∷ []
unfolding text list_text
net_text = refl

-- a file that is the text of the network that was read from it is sorted, and no other is
pub file_sorted : {t : List ℕ} {n : Network} → FileGives t n → same_text t (network_text n) ≡ true → is_network_text t ≡ true
file_sorted r e = sym r.sorted ∙ e

pub file_unsorted : {t : List ℕ} {n : Network} → FileGives t n → same_text t (network_text n) ≡ false → is_network_text t ≡ false
file_unsorted r e = sym r.sorted ∙ e

-- the text and the network of a value of this type are one another's
pub text_of : (x : NetworkText) → IsTextOf x.text.now x.network
text_of x = subst (IsTextOf x.text.now) (sym x.given) (sorted_text x.text.now x.sorted)
