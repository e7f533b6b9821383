-- A file read by the simulator's `calls`, with 5 bytes of room for the answer to each place's line. `file_read` is the law. Assumes nothing.
use mathlib.Core.Path.{◌≡◌, refl, sym, ap, subst, ◌∙◌}
use mathlib.Core.Bool.{Bool, true, false}
use mathlib.Core.List.{List, [], ◌∷◌, ◌++◌, map, append-nil}
use Prim.Native.Nat.{ℕ, ◌+◌, ◌≤◌}
use native.Mathlib.Omega.{arith}
use Rattle.std.specs.Prelude.{Option, Some, None}
use lib.ListN.{length, get_or, take, drop, length-append}
use lib.Seq.{take_at, take-append_seam}
use Rattle.calculus.specs.Table.{entries_from, of_some}
use Rattle.calculus.specs.declared.network.Network.{Network}
use Rattle.calculus.specs.declared.state.State.{State}
use Rattle.calculus.proofs.Tests.{Way, is, isnt, way, never, not_so}
use Rattle.forms.specs.Bytes.{bytes, joined}
use Rattle.forms.specs.Text.{Form}
use Rattle.forms.specs.Answer.{answer_text}
use Rattle.forms.specs.Line.{lines}
use Rattle.forms.proofs.FormLines.{lines_forms, lines_forms_append}
use Rattle.forms.proofs.Joined.{lines_append}
use Rattle.model.specs.NetworkText.{node_entry, node_form, route_entry, route_form, network_forms, network_text}
use Rattle.model.specs.State.{fresh}
use Rattle.model.specs.Calls.{lines_of, replies, roomy_call}
use Rattle.model.specs.Batch.{Batch, answered_text}
use Rattle.model.specs.Texts.{after_lines, answers_to, NoNewline, AnswersText}
use Rattle.model.specs.GivenBack.{Consistent, fresh_with}
use Rattle.model.specs.Join.{same_text, network_in, is_network_text}
use Rattle.model.proofs.Tables.{total_constant, entries_width}
use Rattle.model.proofs.Gives.{Gives, none_left, one_more, line_of}
use Rattle.model.proofs.Fills.{text_gives}
use Rattle.model.proofs.GivenBack.{text_calls, given_back}
use Rattle.model.proofs.Texts.{texts}
use Rattle.model.proofs.Unfinished.{Total, total_append, lines_unfinished}
use Rattle.model.proofs.Pairs.{text_equal, text_itself}

-- ---- the answers to a network's text

-- the answer to a form that is accepted
abbrev ok_line : Form → List ℕ
ok_line f = bytes "(ok)\n"

gives_answers : {s t : State} {fs : List Form} → Gives s fs t → joined (map lines_of (replies s (map line_of fs))) ≡ joined (map ok_line fs)
unfolding replies answer_text
gives_answers none_left = refl
gives_answers (one_more e g) = rw (e, gives_answers g)

ok_most : {A : Type 0} (f : A → Form) (x : Option A) → length (joined (map ok_line (of_some f x))) ≤ 5
ok_most f None = omega arith
ok_most f (Some x) = omega arith

ok_width : (n : Network) → Consistent n → length (joined (map ok_line (network_forms n))) ≤ 5440
ok_width n h =
    let fs = entries_from node_form 1 n.nodes in
    let gs = entries_from route_form 0 n.routes in
    let nodes = entries_width ok_line (λ j. 5) node_form 1 n.nodes None (λ j w. ok_most (node_entry (1 + j)) (get_or n.nodes j None)) in
    let routes = entries_width ok_line (λ j. 5) route_form 0 n.routes None (λ p w. ok_most (route_entry (0 + p)) (get_or n.routes p None)) in
    rw (lines_append ok_line fs gs, length-append (joined (map ok_line fs)) (joined (map ok_line gs)))
    (omega (arith, nodes, routes, h.nodes, h.routes, total_constant 5 1 (length n.nodes), total_constant 5 0 (length n.routes)))

-- behind an unfinished line, one more byte finishes none
one_line : (u : List ℕ) → NoNewline u → length (lines (u ++ 0 ∷ [])) ≡ 1
unfolding lines
one_line [] e = refl
one_line (c ∷ u) e = ap length (lines_unfinished (c ∷ u) (0 ∷ []) (omega arith) e)

module _ (n : Network) (h : Consistent n) (out : List ℕ) (w : 70976 ≤ length out) where
  abbrev read : Batch
  read = answered_text fresh (network_text n) out

  answers : AnswersText fresh (network_text n) out read
  answers = texts.each fresh (network_text n) out

  answers_width : length (answers_to fresh (lines (network_text n))) ≤ 5440
  answers_width = rw (text_calls n h, gives_answers (text_gives n h)) (ok_width n h)

  written_width : read.written ≤ 5440
  written_width =
      let a = answers in
      let rest = lines (drop read.read (network_text n) ++ []) in
      let e = ap (λ (t : Total). length t.written) (total_append fresh [] a.answered rest) in
      let f = rw (append-nil (network_text n)) at (a.first []) in
      omega (
        arith,
        a.written,
        e,
        ap (λ (ls : List (List ℕ)). length (answers_to fresh ls)) f,
        answers_width,
        length-append (answers_to fresh a.answered) (answers_to (after_lines fresh a.answered) rest),
      )

  all_answered : answers.answered ≡ lines (network_text n)
  unfolding lines
  all_answered =
      let a = answers in
      let ls = lines (network_text n) in
      let rest = lines (drop read.read (network_text n) ++ 0 ∷ []) in
      let e : ls ++ (0 ∷ []) ∷ [] ≡ a.answered ++ rest =
      rw (lines_forms (network_forms n)) (sym (lines_forms_append (network_forms n) (0 ∷ [])) ∙ a.first (0 ∷ [])) in
      let one = one_line (drop read.read (network_text n)) (a.all (omega (arith, written_width))) in
      let same : length a.answered ≡ length ls = omega (arith, one, ap length e, length-append ls ((0 ∷ []) ∷ []), length-append a.answered rest) in
      sym (take_at a.answered rest (length ls) same) ∙ ap (take (length ls)) (sym e) ∙ take-append_seam ls ((0 ∷ []) ∷ [])

  text_read : read.state ≡ fresh_with n
  text_read = answers.state ∙ ap (after_lines fresh) all_answered ∙ given_back.again n h

-- ---- a file

pub in_consistent : (t : List ℕ) → Consistent (network_in t)
unfolding network_in
in_consistent t = given_back.consistent (map roomy_call (lines t))

pub text_in : (n : Network) → Consistent n → network_in (network_text n) ≡ n
unfolding network_in
text_in n h = ap (λ (s : State). s.network) (given_back.again n h)

pub text_sorted : (n : Network) → Consistent n → is_network_text (network_text n) ≡ true
unfolding is_network_text
text_sorted n h = ap (λ (m : Network). same_text (network_text n) (network_text m)) (text_in n h) ∙ text_itself (network_text n)

sorted_read : (t out : List ℕ) → 70976 ≤ length out → is_network_text t ≡ true → (answered_text fresh t out).state.network ≡ network_in t
unfolding is_network_text
sorted_read t out w e =
    ap (λ (x : List ℕ). (answered_text fresh x out).state.network) (text_equal t (network_text (network_in t)) e)
    ∙ ap (λ (s : State). s.network) (text_read (network_in t) (in_consistent t) out w)

-- the network n that was read from the file t: it is the file's, if that is the text of one
pub record FileGives (t : List ℕ) (n : Network) : Type 0 where
  pub consistent : Consistent n
  pub sorted : same_text t (network_text n) ≡ is_network_text t
  pub network : is_network_text t ≡ true → n ≡ network_in t

pub file_read : (t out : List ℕ) → 70976 ≤ length out → FileGives t (answered_text fresh t out).state.network
unfolding is_network_text
file_read t out w = record { consistent = consistent; sorted = go (way (is_network_text t)); network = sorted_read t out w }
  where
    n : Network
    n = (answered_text fresh t out).state.network

    consistent : Consistent n
    consistent =
        let a = texts.each fresh t out in
        subst (λ (s : State). Consistent s.network) (sym a.state) (given_back.consistent (map roomy_call a.answered))

    go : Way (is_network_text t) → same_text t (network_text n) ≡ is_network_text t
    go (is e) = ap (λ (m : Network). same_text t (network_text m)) (sorted_read t out w e)
    go (isnt e) =
        not_so (same_text t (network_text n)) (λ f. never (sym e ∙ ap is_network_text (text_equal t (network_text n) f) ∙ text_sorted n consistent)) ∙ sym e
