-- The listings hold: both sides compute to the same bytes. Assumes nothing.
use mathlib.Core.Path.{refl}
use mathlib.Core.List.{reverse_aux, reverse}
use Rattle.forms.specs.Bytes.{decimal, digits_of}
use Rattle.forms.specs.Line.{lines}
use Rattle.forms.specs.Text.{list_text, text}
use Rattle.forms.specs.Read.{starts, scan, number, list, fields, has_at, kind_at, node_at, plain_form, form_of, read}
use Rattle.forms.specs.Answer.{answer_text, association_line}
use Rattle.calculus.specs.Table.{entries_from}
use Rattle.model.specs.Network as network
use Rattle.model.specs.Network.{next_hop, covers, has_all_needed}
use Rattle.model.specs.Row.{how_many, admits, users_of, with_users}
use Rattle.model.specs.Rules.{wire_rule, out_rule, up_rule, est_rule, auth_rule, grant_rule, ack_rule, rule}
use Rattle.model.specs.State.{load, store, found_item, use_up, put_item, items_after, session_after, applied}
use Rattle.model.specs.Requests.{checked, node_turn, route_turn, opening, open_move, stepped, step_at, step_move, sending, send_move, closing, close_move, dropping, drop_move, changed, performed, shown}
use Rattle.model.specs.Calls.{requested, answered, replies, after}
use Rattle.model.specs.Termination.{set_up_steps, after_rounds}
use Rattle.model.specs.Drop.{events}
use Rattle.model.specs.Join.{same_text, network_in, is_network_text, together, somewhere, lines_from, join}
use Rattle.model.specs.JoinListings.{JoinListings}
use Rattle.model.specs.ListingsHold.{Listings}

joins_hold : JoinListings
unfolding decimal digits_of lines list_text text starts scan number list fields has_at kind_at node_at plain_form form_of read answer_text network.node_at checked node_turn route_turn entries_from requested answered after same_text network_in is_network_text together somewhere lines_from join
joins_hold = record { joined = refl; clash = refl; unsorted = refl; unread = refl; short = refl }

pub listings_hold : Listings
unfolding decimal digits_of list_text text starts scan number list fields has_at kind_at node_at plain_form form_of read answer_text association_line network.node_at next_hop covers has_all_needed how_many admits users_of with_users wire_rule out_rule up_rule est_rule auth_rule grant_rule ack_rule rule load store found_item use_up put_item items_after session_after applied checked node_turn route_turn opening open_move stepped step_at step_move sending send_move closing close_move dropping drop_move changed performed shown entries_from requested answered replies after set_up_steps after_rounds events
listings_hold = record { a_to_i = refl; lowest_b = refl; lowest_f = refl; further = refl; hop_counts = refl; drops = refl; drop_events = refl; views = refl; steps = refl; further_steps = refl; rounds = refl; joins = joins_hold }
