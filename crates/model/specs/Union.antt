-- The join of two networks' texts is the text of the network of both, or a clash (document 02, #106). Proved in proofs/Union. Assumes nothing.
use Rattle.std.specs.Prelude.{ℕ, ◌≤◌, ◌<◌, ◌≡◌, true, false, cond, ◌&&◌, List, [], ◌↔◌, length, take}
use Rattle.std.proofs.Math.Option.{none, some}
use Rattle.calculus.specs.declared.answer.Refusal.TheVariants.{Clash, Unsorted}
use Rattle.calculus.specs.declared.network.Network.{Network}
use Rattle.model.specs.Network.{node_at, given, route_to, is_routed}
use Rattle.model.specs.NetworkText.{network_text}
use Rattle.model.specs.GivenBack.{Consistent}
use Rattle.model.specs.Join.{File, is_sorted, union, refused_join, network_reply, join}

-- t is the text of n, a network as calls leave it
pub record IsTextOf (t : List ℕ) (n : Network) : Type 0 where
  pub consistent : Consistent n
  pub same : t ≡ network_text n

-- what the networks share is the same in both: each node, and the next hop of each at and destination. Numbers out of range name no node,
-- and the place of another route or none
pub record Agree (n m : Network) : Type 0 where
  pub nodes : (a : ℕ) → given n a ≡ true → given m a ≡ true → node_at n a ≡ node_at m a
  pub routes : (a b : ℕ) → is_routed n a b ≡ true → is_routed m a b ≡ true → route_to n a b ≡ route_to m a b

-- the first k bytes of a file
abbrev pub cut_to : ℕ → File → File
cut_to k none = none
cut_to k (some t) = some (take k t)

pub record Union : Type 0 where
  -- "15 unsorted, exactly if a file can't be read or isn't as #101 writes it": one that is read is sorted exactly if it is a network's text
  pub sorted : (t : List ℕ) → (is_sorted (some t) ≡ true) ↔ ((n : Network) × IsTextOf t n)
  -- and the join is refused 15 exactly if one of the two is not
  pub unsorted : (f g : File) (size : ℕ) → 65536 ≤ size → ((join f g size).refusal ≡ some Unsorted) ↔ ((is_sorted f && is_sorted g) ≡ false)
  -- "14 clash, exactly if a shared node differs or a shared at and destination has two next hops"; else it is the text of the network of both
  pub clashes : (n m : Network) (size : ℕ) → Consistent n → Consistent m → 65536 ≤ size → (Agree n m → ⊥)
      → join (some (network_text n)) (some (network_text m)) size ≡ refused_join Clash
  pub joins : (n m : Network) (size : ℕ) → Consistent n → Consistent m → 65536 ≤ size → Agree n m
      → join (some (network_text n)) (some (network_text m)) size ≡ network_reply (union n m)
  -- "every node and route of either"
  pub nodes : (n m : Network) (a : ℕ) → Consistent n → Consistent m → node_at (union n m) a ≡ cond (given n a) (node_at n a) (node_at m a)
  pub routes : (n m : Network) (a b : ℕ) → Consistent n → Consistent m
      → route_to (union n m) a b ≡ cond (is_routed n a b) (route_to n a b) (route_to m a b)
  -- it is a network as calls leave it, so that what GivenBack says of a text holds of the join: it can be read again, and joined again
  pub consistent : (n m : Network) → Consistent n → Consistent m → Consistent (union n m)
  -- a join has at most 29,376 bytes, so it fits into the lent output
  pub fits : (f g : File) (size : ℕ) → length (join f g size).text ≤ 29376
  -- it is all one which file is named first
  pub symmetric : (f g : File) (size : ℕ) → join f g size ≡ join g f size
  -- a network joined with itself, or with the empty one, is given back
  pub itself : (n : Network) (size : ℕ) → Consistent n → 65536 ≤ size
      → join (some (network_text n)) (some (network_text n)) size ≡ network_reply n
  pub empty : (n : Network) (size : ℕ) → Consistent n → 65536 ≤ size → join (some (network_text n)) (some []) size ≡ network_reply n
  -- no network's text is longer than 29,376 bytes, so of a longer file a part that is longer too is refused as the whole is
  pub cut : (f g : File) (k size : ℕ) → 29376 < k → join (cut_to k f) (cut_to k g) size ≡ join f g size
