-- The forms of a network's text are in order. Assumes nothing.
use mathlib.Core.Path.{refl}
use mathlib.Core.List.{List, [], ◌∷◌}
use Prim.Native.Nat.{ℕ, ◌<◌}
use native.Mathlib.Omega.{arith}
use Rattle.std.specs.Prelude.{Option}
use Rattle.calculus.specs.Table.{entries_from}
use Rattle.calculus.specs.declared.network.Network.{Network}
use Rattle.calculus.specs.declared.network.Node.{Node}
use Rattle.model.specs.Lists.{All, Rising}
use Rattle.model.specs.Network.{place_at, place_destination}
use Rattle.model.specs.NetworkText.{node_entry, node_form, route_entry, route_form, network_forms}
use Rattle.model.specs.GivenBack.{form_key}
use Rattle.model.proofs.Tables.{some_all, entries_all}
use Rattle.model.proofs.Rising.{before_cons, Before, rising_append, rising_somes}

routes_rise : (i j x y : ℕ) → i < j → Before form_key (route_entry i x) (route_entry j y)
routes_rise i j x y h =
    before_cons (place_at i) (place_at j) (place_destination i ∷ []) (place_destination j ∷ []) (omega arith)
    (λ e. before_cons (place_destination i) (place_destination j) [] [] (omega arith) (λ f. absurd (omega arith)))

-- any node's form comes before all routes' forms
node_first : (a : ℕ) (x : Node) (l : List (Option ℕ)) → All (Before form_key (node_entry a x)) (entries_from route_form 0 l)
node_first a x l =
    entries_all (Before form_key (node_entry a x)) route_form 0 l (λ p next i j. some_all (Before form_key (node_entry a x)) (route_entry p) next (λ y. refl))

pub text_ordered : (n : Network) → Rising form_key (network_forms n)
text_ordered n =
    rising_append form_key (entries_from node_form 1 n.nodes) (entries_from route_form 0 n.routes)
    (rising_somes form_key node_entry (λ a b x y h. before_cons a b [] [] (omega arith) (λ e. absurd (omega arith))) 1 n.nodes)
    (rising_somes form_key route_entry routes_rise 0 n.routes)
    (entries_all _ node_form 1 n.nodes (λ a x i j. some_all _ (node_entry a) x (λ y. node_first a y n.routes)))
