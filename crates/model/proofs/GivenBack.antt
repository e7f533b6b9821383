-- A network's text, read on a fresh state, gives that network again. Assumes nothing.
use mathlib.Core.Path.{◌≡◌, refl, sym, ap, ◌∙◌}
use mathlib.Core.Bool.{cond}
use mathlib.Core.List.{List, map, map-map}
use Prim.Native.Nat.{ℕ, ◌+◌, ◌≤◌, ◌<◌}
use native.Mathlib.Nat.{zero-add}
use native.Mathlib.Omega.{arith}
use lib.Dec.{ltb, eqb}
use lib.ListN.{length, get_or, length-append}
use Rattle.std.specs.Prelude.{Option, Some, None}
use Rattle.calculus.specs.Table.{entries_from}
use Rattle.calculus.proofs.Tests.{neither, within_bounds}
use Rattle.calculus.specs.declared.network.Network.{Network}
use Rattle.calculus.specs.declared.network.Node.{Node}
use Rattle.calculus.specs.declared.state.State.{State}
use Rattle.forms.specs.Bytes.{decimal, digits_of, joined}
use Rattle.forms.specs.Text.{net, text, form_line}
use Rattle.forms.specs.Line.{lines}
use Rattle.forms.proofs.Decimal.{width_most}
use Rattle.forms.proofs.FormLines.{lines_forms}
use Rattle.forms.proofs.Joined.{lines_append}
use Rattle.forms.proofs.LineWidths.{node_width, route_width}
use Rattle.forms.proofs.ReadAgain.{net_read}
use Rattle.model.specs.Lists.{All}
use Rattle.model.specs.Network.{place_at, place_destination}
use Rattle.model.specs.NetworkText.{node_entry, node_form, route_entry, route_form, network_forms, network_lines, network_text}
use Rattle.model.specs.State.{fresh}
use Rattle.model.specs.Calls.{reported, short, answered, requested, replies, roomy_call}
use Rattle.model.specs.Texts.{after_lines}
use Rattle.model.specs.GivenBack.{IsPlace, Consistent, fresh_with, AnsweredOk, GivenBack}
use Rattle.model.proofs.Tables.{total, one_width, entries_width}
use Rattle.model.proofs.Nodes.{nodes_range, place_is}
use Rattle.model.proofs.Reached.{reached}
use Rattle.model.proofs.Ordered.{text_ordered}
use Rattle.model.proofs.Gives.{line_of, gives_after, gives_ok}
use Rattle.model.proofs.Fills.{place_routed, text_gives}

-- ---- the longest lines

-- of node a
abbrev node_most : ℕ → ℕ
node_most a = 391 + length (decimal a)

-- of the route at place p, its next node having two digits: there is none from a node to itself
abbrev route_most : ℕ → ℕ
route_most p = cond (eqb (place_at p) (place_destination p)) 0 (13 + (length (decimal (place_at p)) + length (decimal (place_destination p))))

nodes_most : total node_most 1 32 ≡ 12567
unfolding total decimal digits_of
nodes_most = refl

routes_most : total route_most 0 1056 ≡ 16809
unfolding total decimal digits_of
routes_most = refl

-- ---- the text of a consistent network

module _ (n : Network) (h : Consistent n) where
  pub text_calls : map roomy_call (lines (network_text n)) ≡ map line_of (network_forms n)
  text_calls = ap (map roomy_call) (lines_forms (network_forms n)) ∙ map-map roomy_call text (network_forms n)

  text_again : after_lines fresh (lines (network_text n)) ≡ fresh_with n
  text_again = rw text_calls (gives_after (text_gives n h))

  text_accepted : All AnsweredOk (replies fresh (map roomy_call (lines (network_text n))))
  text_accepted = rw text_calls (gives_ok (text_gives n h))

  -- ---- how long it is

  node_most_lem : (j : ℕ) → length (joined (map form_line (node_form (1 + j) (get_or n.nodes j None)))) ≤ node_most (1 + j)
  node_most_lem j = go (get_or n.nodes j None) (place_is n h j)
    where
      go : (x : Option Node) → IsPlace x → length (joined (map form_line (node_form (1 + j) x))) ≤ node_most (1 + j)
      go None g = omega arith
      go (Some x) g =
          one_width form_line (node_most (1 + j)) (node_entry (1 + j) x)
          (simp length-append (omega (arith, node_width (1 + j) x.kind x.has x.needs g.has g.needs)))

  route_most_lem : (p : ℕ) → p < 1056 → length (joined (map form_line (route_form p (get_or n.routes p None)))) ≤ route_most p
  route_most_lem p w = go (get_or n.routes p None) refl
    where
      go : (x : Option ℕ) → get_or n.routes p None ≡ x → length (joined (map form_line (route_form p x))) ≤ route_most p
      go None e = omega arith
      go (Some next) e =
          let a = place_at p in
          let b = place_destination p in
          let r = place_routed n h p next w e in
          let apart = (neither (eqb a b) (eqb a next) r.1).0 in
          let by = within_bounds 1 32 next (nodes_range n a b next r.0).by in
          one_width form_line (route_most p) (route_entry p next)
          (rw apart (simp length-append (omega (arith, route_width a b next, width_most 1 next (omega arith)))))

  text_width : length (network_text n) ≤ 29376
  text_width =
      let fs = entries_from node_form 1 n.nodes in
      let gs = entries_from route_form 0 n.routes in
      let nodes = rw h.nodes at (entries_width form_line node_most node_form 1 n.nodes None (λ j w. node_most_lem j)) in
      let routes = rw h.routes at (entries_width form_line route_most route_form 0 n.routes None (λ p w. rw (zero-add p) (route_most_lem p (omega arith)))) in
      rw (lines_append form_line fs gs, length-append (joined (map form_line fs)) (joined (map form_line gs)))
      (omega (arith, nodes, routes, nodes_most, routes_most))

-- ---- the promise

net_written : (s : State) (size : ℕ)
    → answered s (text net) size ≡ cond (ltb size 65536) (short s) (reported s (network_lines s.network))
unfolding answered requested
net_written s size = rw net_read

-- a text gives one network
text_same : (n m : Network) → Consistent n → Consistent m → network_text n ≡ network_text m → n ≡ m
text_same n m h k e =
    ap (λ (s : State). s.network)
    (sym (text_again n h) ∙ ap (λ (t : List ℕ). after_lines fresh (lines t)) e ∙ text_again m k)

pub given_back : GivenBack
given_back =
    record {
      written = net_written;
      ordered = text_ordered;
      consistent = λ cs. (reached cs).consistent;
      again = text_again;
      accepts = text_accepted;
      equal = λ n m h k. (ap network_text, text_same n m h k);
      fits = text_width;
    }
