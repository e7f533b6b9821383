-- The listings hold: what each call writes, what session 1 holds at some moments of them, and how many of its steps are counted. Proved
-- in proofs/Listings. Assumes nothing.
use Rattle.std.specs.Prelude.{ℕ, ◌≡◌, Bool, true, false, cond, ◌&&◌, ◌||◌, List, [], ◌∷◌, map, ltb, eqb, take, replicate, Option, Some, None, Ok, Err}
use Rattle.std.proofs.Math.Option.{some}
use Rattle.calculus.specs.declared.packet.Header.{Header}
use Rattle.calculus.specs.declared.packet.Item.{Item}
use Rattle.calculus.specs.declared.packet.Item.TheVariants.{Wire, Out, Ack, Dwait, Ewait}
use Rattle.calculus.specs.declared.packet.Packet.{Packet}
use Rattle.calculus.specs.declared.packet.Payload.{Payload}
use Rattle.calculus.specs.declared.packet.Payload.TheVariants.{Rep, Disc, Done, Data}
use Rattle.calculus.specs.declared.packet.Slot.{Slot}
use Rattle.calculus.specs.declared.request.Request as request
use Rattle.calculus.specs.declared.request.Request.TheVariants.{Node, Route, Open, Step, Send, Close, Show, Net, Drop}
use Rattle.calculus.specs.declared.session.Row.{Row}
use Rattle.calculus.specs.declared.session.Stage.{Stage}
use Rattle.calculus.specs.declared.state.State.{State}
use Rattle.forms.specs.Read.{read}
use Rattle.forms.specs.Request.{asked, Asked}
use Rattle.model.specs.Item.{is_wait}
use Rattle.model.specs.State.{fresh, load}
use Rattle.model.specs.Calls.{Call, call, lines_of, after, replies, roomy_call}
use Rattle.model.specs.Noninterference.{View, view}
use Rattle.model.specs.Termination.{set_up_steps, after_rounds}
use Rattle.model.specs.Drop.{granted, removed, events}
use Rattle.model.specs.DropListings.{at_every_place, middle_of_three, next_is_the_second, drop_listings}
use Rattle.model.specs.HopListings.{round_in_tunnels, hop_listings}
use Rattle.model.specs.JoinListings.{JoinListings}
use Rattle.model.specs.Listings.{Exchange, Listing, listings, listing_a, listing_b, listing_c, listing_f, through_gateway, data_in_first_of_three, bare_out_again, three_tunnels, waits_left, further_examples}

-- ---- what is written

abbrev pub call_of : Exchange → Call
call_of e = roomy_call e.line

-- what each call writes, from a fresh state on
abbrev pub outputs : Listing → List (List ℕ)
outputs l = map lines_of (replies fresh (map call_of l))

-- what each is to write
abbrev pub expected : Listing → List (List ℕ)
expected l = map (λ e. e.written) l

-- ---- the lowest item

-- the lower of two numbers, where 0 is none
abbrev pub lower : ℕ → ℕ → ℕ
lower n m = cond (eqb m 0) n (cond (eqb n 0) m (cond (ltb n m) n m))

-- "the lowest item that isn't a wait", or 0
abbrev pub lowest : List (Option Slot) → ℕ
lowest [] = 0
lowest (None ∷ l) = lowest l
lowest (Some x ∷ l) = lower (cond (is_wait x.item) 0 x.number.0) (lowest l)

-- a step is one of the session's lowest item
abbrev pub steps_lowest : State → request.Request → Bool
steps_lowest s (Node a k has needs) = true
steps_lowest s (Route a b n) = true
steps_lowest s (Open u c d) = true
steps_lowest s (Step u k) = eqb k.0 (lowest (load s u.0).items)
steps_lowest s (Send u w tag) = true
steps_lowest s (Close u) = true
steps_lowest s Show = true
steps_lowest s Net = true
steps_lowest s (Drop u e) = true

abbrev pub parsed_lowest : State → Asked → Bool
parsed_lowest s (Ok q) = steps_lowest s q
parsed_lowest s (Err r) = true

abbrev pub only_lowest : State → Listing → Bool
only_lowest s [] = true
only_lowest s (e ∷ l) = parsed_lowest s (asked (read e.line)) && only_lowest (call s (call_of e)).state l

-- ---- what session 1 holds

-- the calls of a listing, and what session 1 sees of itself behind them
pub record Moment : Type 0 where
  pub calls : Listing
  pub sees : View

abbrev pub seen_behind : Listing → View
seen_behind l = view (after fresh (map call_of l)) 1

-- an item with its number, a packet and a row, as document 01 lists their parts, with #108's counts
abbrev pub item : ℕ → Item → Slot
item k i = record { number = record { 0 = k }; item = i }

abbrev pub packet : ℕ → ℕ → Payload → ℕ → Option Header → Packet
packet from to y hops h = record { source = from; destination = to; payload = y; hops = hops; header = h }

abbrev pub header : ℕ → ℕ → ℕ → ℕ → Option Header
header from to spi hops = Some (record { from = from; to = to; spi = record { 0 = spi }; hops = hops })

abbrev pub in_no_tunnel : Option Header
in_no_tunnel = None

abbrev pub row : ℕ → Bool → ℕ → ℕ → ℕ → ℕ → Row
row a out from to q e = record { node = a; out = out; source = from; destination = to; peers = record { first = q }; establishment = e }

-- B before its ack is stepped: the ack names its establishment
abbrev pub before_ack : Moment
before_ack =
    record {
      calls = take 20 listing_b;
      sees = record {
        stage = Stage.SettingUp;
        ends = some (1, 2);
        items = item 3 (Dwait 2) ∷ item 18 (Ack 2 1) ∷ [];
        rows = row 1 true 1 2 2 1 ∷ row 1 false 2 1 2 1 ∷ row 2 true 2 1 1 1 ∷ row 2 false 1 2 1 1 ∷ [];
        begun = 1;
        last = 18;
      };
    }

abbrev pub end_of_b : Moment
end_of_b =
    record {
      calls = listing_b;
      sees = record {
        stage = Stage.Open;
        ends = some (1, 2);
        items = [];
        rows = row 1 true 1 2 2 1 ∷ row 1 false 2 1 2 1 ∷ row 2 true 2 1 1 1 ∷ row 2 false 1 2 1 1 ∷ [];
        begun = 1;
        last = 22;
      };
    }

abbrev pub end_of_f : Moment
end_of_f =
    record {
      calls = listing_f;
      sees = record {
        stage = Stage.Denied;
        ends = some (1, 2);
        items = item 3 (Dwait 2) ∷ item 6 (Ewait 2 1) ∷ [];
        rows = [];
        begun = 1;
        last = 10;
      };
    }

-- C after step 13: the data is on the wire with its header, which has the SPI of what 2 receives from 1
abbrev pub middle_of_c : Moment
middle_of_c =
    record {
      calls = take 16 listing_c;
      sees = record {
        stage = Stage.SettingUp;
        ends = some (1, 2);
        items = item 3 (Dwait 2) ∷ item 12 (Out 1 (packet 1 2 (Rep 1) 32 in_no_tunnel)) ∷ item 6 (Ewait 2 1)
            ∷ item 14 (Wire 1 (packet 1 2 (Data 77) 32 (header 1 2 288 32))) ∷ [];
        rows = row 1 true 1 2 2 1 ∷ row 1 false 2 1 2 1 ∷ [];
        begun = 1;
        last = 14;
      };
    }

-- C at its end: a lost packet leaves the stage
abbrev pub end_of_c : Moment
end_of_c =
    record {
      calls = listing_c;
      sees = record {
        stage = Stage.SettingUp;
        ends = some (1, 2);
        items = item 3 (Dwait 2) ∷ item 12 (Out 1 (packet 1 2 (Rep 1) 32 in_no_tunnel)) ∷ item 6 (Ewait 2 1) ∷ [];
        rows = row 1 true 1 2 2 1 ∷ row 1 false 2 1 2 1 ∷ [];
        begun = 1;
        last = 16;
      };
    }

-- with two gateways, after the first ack: its Disc has used one of its 32 hops; of data in the first tunnel the header has, and the data
-- none
abbrev pub disc_of_an_ack : Moment
disc_of_an_ack =
    record {
      calls = data_in_first_of_three;
      sees = record {
        stage = Stage.SettingUp;
        ends = some (1, 4);
        items = item 20 (Wire 3 (packet 1 4 (Disc 2) 31 in_no_tunnel)) ∷ item 23 (Wire 2 (packet 1 4 (Data 77) 32 (header 1 2 288 31))) ∷ [];
        rows = row 1 true 1 4 2 1 ∷ row 1 false 4 1 2 1 ∷ row 2 true 4 1 1 1 ∷ row 2 false 1 4 1 1 ∷ [];
        begun = 1;
        last = 23;
      };
    }

-- and at the end, with three tunnels
abbrev pub end_of_three_tunnels : Moment
end_of_three_tunnels =
    record {
      calls = three_tunnels;
      sees = record {
        stage = Stage.Open;
        ends = some (1, 4);
        items = [];
        rows = row 1 true 1 4 2 1 ∷ row 1 false 4 1 2 1 ∷ row 2 true 4 1 1 1 ∷ row 2 false 1 4 1 1
            ∷ row 2 true 1 4 3 2 ∷ row 2 false 4 1 3 2 ∷ row 3 true 4 1 2 2 ∷ row 3 false 1 4 2 2
            ∷ row 3 true 1 4 4 3 ∷ row 3 false 4 1 4 3 ∷ row 4 true 4 1 3 3 ∷ row 4 false 1 4 3 3
            ∷ [];
        begun = 3;
        last = 66;
      };
    }

-- with one gateway, after the Done's up there: its header is off, and it is to go out again
abbrev pub sent_out_again : Moment
sent_out_again =
    record {
      calls = take 46 through_gateway;
      sees = record {
        stage = Stage.SettingUp;
        ends = some (1, 3);
        items = item 41 (Out 2 (packet 3 1 Done 32 in_no_tunnel)) ∷ [];
        rows = row 1 true 1 3 2 1 ∷ row 1 false 3 1 2 1 ∷ row 2 true 3 1 1 1 ∷ row 2 false 1 3 1 1
            ∷ row 2 true 1 3 3 2 ∷ row 2 false 3 1 3 2 ∷ row 3 true 3 1 2 2 ∷ row 3 false 1 3 2 2
            ∷ [];
        begun = 2;
        last = 41;
      };
    }

-- and after that out: with one hop less, under a header that brings its own 32
abbrev pub fewer_by_sending : Moment
fewer_by_sending =
    record {
      calls = take 47 through_gateway;
      sees = record {
        stage = Stage.SettingUp;
        ends = some (1, 3);
        items = item 42 (Wire 2 (packet 3 1 Done 31 (header 2 1 257 32))) ∷ [];
        rows = sent_out_again.sees.rows;
        begun = 2;
        last = 42;
      };
    }

-- data with no tunnel on from gateway 2 has one hop less as well
abbrev pub fewer_bare : Moment
fewer_bare =
    record {
      calls = take 38 bare_out_again;
      sees = record {
        stage = Stage.SettingUp;
        ends = some (1, 4);
        items = item 20 (Wire 3 (packet 1 4 (Disc 2) 31 in_no_tunnel)) ∷ item 26 (Wire 2 (packet 1 4 (Data 77) 31 in_no_tunnel)) ∷ [];
        rows = disc_of_an_ack.sees.rows;
        begun = 1;
        last = 26;
      };
    }

-- on the circle, before data is sent out again for the 33rd time; the Disc that the third ack wrote is a new packet
abbrev pub before_the_33rd : Moment
before_the_33rd =
    record {
      calls = take 193 round_in_tunnels;
      sees = record {
        stage = Stage.SettingUp;
        ends = some (1, 4);
        items = item 60 (Wire 2 (packet 1 4 (Disc 2) 32 in_no_tunnel)) ∷ item 188 (Out 2 (packet 1 4 (Data 77) 0 in_no_tunnel)) ∷ [];
        rows = row 1 true 1 4 2 1 ∷ row 1 false 4 1 2 1 ∷ row 2 true 4 1 1 1 ∷ row 2 false 1 4 1 1
            ∷ row 2 true 1 4 3 2 ∷ row 2 false 4 1 3 2 ∷ row 3 true 4 1 2 2 ∷ row 3 false 1 4 2 2
            ∷ row 3 true 1 4 2 3 ∷ row 3 false 4 1 2 3 ∷ row 2 true 4 1 3 3 ∷ row 2 false 1 4 3 3
            ∷ [];
        begun = 3;
        last = 188;
      };
    }

-- where the Req is lost: waits and Data
abbrev pub only_waits_and_data : Moment
only_waits_and_data =
    record {
      calls = waits_left;
      sees = record {
        stage = Stage.SettingUp;
        ends = some (1, 2);
        items = item 3 (Dwait 2) ∷ item 9 (Wire 1 (packet 1 2 (Data 77) 32 in_no_tunnel)) ∷ item 6 (Ewait 2 1) ∷ [];
        rows = [];
        begun = 1;
        last = 9;
      };
    }

-- with three tunnels, after the drop of the middle one: the rows of the others stay in their order, and all else is as it was
abbrev pub middle_dropped : Moment
middle_dropped =
    record {
      calls = take 82 middle_of_three;
      sees = record {
        stage = Stage.Open;
        ends = some (1, 4);
        items = item 72 (Wire 2 (packet 1 4 (Data 77) 31 (header 2 3 321 32))) ∷ [];
        rows = row 1 true 1 4 2 1 ∷ row 1 false 4 1 2 1 ∷ row 2 true 4 1 1 1 ∷ row 2 false 1 4 1 1
            ∷ row 3 true 1 4 4 3 ∷ row 3 false 4 1 4 3 ∷ row 4 true 4 1 3 3 ∷ row 4 false 1 4 3 3
            ∷ [];
        begun = 3;
        last = 72;
      };
    }

-- after the drop of the only tunnel so far
abbrev pub only_one_dropped : Moment
only_one_dropped =
    record {
      calls = take 33 next_is_the_second;
      sees = record {
        stage = Stage.SettingUp;
        ends = some (1, 4);
        items = item 20 (Wire 3 (packet 1 4 (Disc 2) 31 in_no_tunnel)) ∷ [];
        rows = [];
        begun = 1;
        last = 20;
      };
    }

abbrev pub moments : List Moment
moments = before_ack ∷ end_of_b ∷ end_of_f ∷ middle_of_c ∷ end_of_c ∷ disc_of_an_ack ∷ end_of_three_tunnels ∷ sent_out_again ∷ fewer_by_sending ∷ fewer_bare ∷ before_the_33rd
    ∷ only_waits_and_data ∷ middle_dropped ∷ only_one_dropped ∷ []

-- ---- how many steps session 1 took

abbrev pub steps_behind : Listing → ℕ
steps_behind l = set_up_steps 1 fresh 0 (map call_of l)

-- ---- the promise

pub record Listings : Type 0 where
  -- "A to I are checked inside the logic as one list under one theorem"
  pub a_to_i : map outputs listings ≡ map expected listings
  -- B and F: "then only stepping the lowest item that isn't a wait"
  pub lowest_b : only_lowest fresh listing_b ≡ true
  pub lowest_f : only_lowest fresh listing_f ≡ true
  pub further : map outputs further_examples ≡ map expected further_examples
  -- #108's
  pub hop_counts : map outputs hop_listings ≡ map expected hop_listings
  -- #109's
  pub drops : map outputs drop_listings ≡ map expected drop_listings
  -- what Drops asks for can be met: both grants, and then the drop; the drops that are refused between are no events
  pub drop_events : events fresh (map call_of at_every_place) ≡ granted 1 1 ∷ granted 1 1 ∷ removed ∷ []
  -- what no answer shows: stages, ends, items with their contents, rows in their order of age
  pub views : map (λ m. seen_behind m.calls) moments ≡ map (λ m. m.sees) moments
  -- #103's count behind A to I: C's steps of Data are not in it, A's second open begins it anew, H's close and session 2 leave it
  pub steps : map steps_behind listings ≡ 0 ∷ 20 ∷ 9 ∷ 9 ∷ 20 ∷ 8 ∷ 33 ∷ 20 ∷ 0 ∷ []
  -- and before that open, with three tunnels, and where only waits and Data are left: refused steps are not in it
  pub further_steps : map steps_behind (take 10 listing_a ∷ three_tunnels ∷ waits_left ∷ []) ≡ 2 ∷ 60 ∷ 5 ∷ []
  -- #103's rounds: in 20 of them, with nothing called between, B's set-up comes from its open to its end
  pub rounds : view (after_rounds 1 (after fresh (map call_of (take 5 listing_b))) (replicate 20 [])) 1 ≡ end_of_b.sees
  -- #106's joins of small files
  pub joins : JoinListings
