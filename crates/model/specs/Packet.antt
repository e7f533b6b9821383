-- Packets: what is asked of a header, of the hop counts and of a payload. Assumes nothing.
use Rattle.std.specs.Prelude.{ℕ, ◌-◌, Bool, true, false, cond, eqb, Option, None, is_none, option_map, unwrap_or}
use Rattle.calculus.specs.declared.packet.Payload.{Payload}
use Rattle.calculus.specs.declared.packet.Payload.TheVariants.{Req, Rep, Disc, Done, Data}
use Rattle.calculus.specs.declared.packet.Header.{Header}
use Rattle.calculus.specs.declared.packet.Packet.{Packet}

-- the hops that a count starts with
abbrev pub hop_limit : ℕ
hop_limit = 32

-- ---- packets

-- a new packet from a to b, with no header: it "starts with 32"
abbrev pub bare : ℕ → ℕ → Payload → Packet
bare a b y = record { source = a; destination = b; payload = y; hops = hop_limit; header = None }

-- the packet with this header in place of its own, or with none
abbrev pub under : Packet → Option Header → Packet
under p h = record p { header = h }

-- "t being the header's to, or the destination if bare"
abbrev pub target : Packet → ℕ
target p = unwrap_or (option_map (λ h. h.to) p.header) p.destination

-- ---- hop counts (request #108)

-- the count in use, document 01's h: the header's, "used while it is on", and "A bare packet uses its inner count throughout"
abbrev pub hops_left : Packet → ℕ
hops_left p = unwrap_or (option_map (λ h. h.hops) p.header) p.hops

-- none are left: document 01's "h = 0"
abbrev pub no_hops_left : Packet → Bool
no_hops_left p = eqb (hops_left p) 0

-- the header with one taken from its count
abbrev pub shorter : Header → Header
shorter h = record h { hops = h.hops - 1 }

-- the packet with one taken from the count in use; no rule asks it of a count of 0, which would stay
abbrev pub fewer : Packet → Packet
fewer p =
    record p {
      hops = cond (is_none p.header) (p.hops - 1) p.hops;
      header = option_map shorter p.header;
    }

-- ---- payloads

abbrev pub is_data : Payload → Bool
is_data (Req e) = false
is_data (Rep e) = false
is_data (Disc p) = false
is_data Done = false
is_data (Data tag) = true

-- "Data or Done"
abbrev pub is_data_or_done : Payload → Bool
is_data_or_done (Req e) = false
is_data_or_done (Rep e) = false
is_data_or_done (Disc p) = false
is_data_or_done Done = true
is_data_or_done (Data tag) = true

-- Req(e) or Rep(e), of that e
abbrev pub concerns : Payload → ℕ → Bool
concerns (Req f) e = eqb f e
concerns (Rep f) e = eqb f e
concerns (Disc p) e = false
concerns Done e = false
concerns (Data tag) e = false
