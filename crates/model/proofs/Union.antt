-- The join of two networks' texts is the text of the network of both, or a clash. Assumes nothing.
use mathlib.Core.Path.{◌≡◌, refl, sym, ap, ◌∙◌}
use mathlib.Core.Bool.{Bool, true, false, cond, ◌&&◌, and_comm}
use mathlib.Core.List.{List}
use mathlib.Core.Logic.{◌↔◌}
use mathlib.Core.Option.{none, some}
use Prim.Native.Nat.{ℕ, ◌≤◌, ◌<◌}
use native.Mathlib.Omega.{arith}
use borrow.Author.Tests.{le-ltb, leb-true, leb-false}
use lib.Dec.{leb, ltb}
use lib.ListN.{length, take}
use lib.Seq.{take_all, length-take-le}
use Rattle.calculus.proofs.Tests.{Way, is, isnt, way, either, never, not_so, clash as apart}
use Rattle.calculus.specs.declared.answer.Refusal.TheVariants.{Clash, Unsorted}
use Rattle.calculus.specs.declared.network.Network.{Network}
use Rattle.forms.specs.Bytes.{decimal, digits_of}
use Rattle.forms.specs.Text.{list_text}
use Rattle.forms.specs.Answer.{answer_text}
use Rattle.model.specs.NetworkText.{network_text}
use Rattle.model.specs.State.{fresh}
use Rattle.model.specs.GivenBack.{Consistent}
use Rattle.model.specs.Join.{File, network_in, is_network_text, is_sorted, file_network, clash, union, JoinReply, refused_join, short_join, network_reply, join_networks, join}
use Rattle.model.specs.Union.{IsTextOf, Agree, cut_to, Union}
use Rattle.model.proofs.Consistent.{consistent_fresh}
use Rattle.model.proofs.GivenBack.{given_back}
use Rattle.model.proofs.Pairs.{text_equal}
use Rattle.model.proofs.Clash.{clash_exactly}
use Rattle.model.proofs.FileRead.{in_consistent, text_in, text_sorted}
use Rattle.model.proofs.Both.{union_node, union_route, union_consistent, union_comm, union_itself, union_empty, agree_empty, empty_text}

-- ---- the join of networks

agree_itself : (n : Network) → Agree n n
agree_itself n = record { nodes = λ a i j. refl; routes = λ a b i j. refl }

agree_sym : (n m : Network) → Agree n m → Agree m n
agree_sym n m g = record { nodes = λ a i j. sym (g.nodes a j i); routes = λ a b i j. sym (g.routes a b j i) }

clash_back : (n m : Network) → Consistent n → Consistent m → clash n m ≡ false → clash m n ≡ false
clash_back n m h k e = (clash_exactly m n k h).1 (agree_sym n m ((clash_exactly n m h k).0 e))

module _ (n m : Network) (h : Consistent n) (k : Consistent m) where
  agree_joined : Agree n m → join_networks n m ≡ network_reply (union n m)
  agree_joined g = rw ((clash_exactly n m h k).1 g)

  joined_comm : join_networks n m ≡ join_networks m n
  joined_comm = go (way (clash n m)) (way (clash m n))
    where
      go : Way (clash n m) → Way (clash m n) → join_networks n m ≡ join_networks m n
      go (isnt e) f = rw (e, clash_back n m h k e) (ap network_reply (union_comm n m h k ((clash_exactly n m h k).0 e)))
      go (is e) (is f) = rw (e, f)
      go (is e) (isnt f) = never (sym (clash_back m n k h f) ∙ e)

-- ---- a file

-- whatever a file has, its network is one that calls leave
file_consistent : (f : File) → Consistent (file_network f)
file_consistent none = consistent_fresh
file_consistent (some t) = in_consistent t

pub sorted_text : (t : List ℕ) → is_network_text t ≡ true → IsTextOf t (network_in t)
unfolding is_network_text
sorted_text t e = record { consistent = in_consistent t; same = text_equal t (network_text (network_in t)) e }

sorted_exactly : (t : List ℕ) → (is_network_text t ≡ true) ↔ ((n : Network) × IsTextOf t n)
sorted_exactly t = (λ e. (network_in t, sorted_text t e), λ w. rw w.1.same (text_sorted w.0 w.1.consistent))

-- no network's text is so long
long_unsorted : (t : List ℕ) → 29376 < length t → is_network_text t ≡ false
long_unsorted t h =
    not_so (is_network_text t) (λ e. let w = sorted_text t e in omega (arith, ap length w.same, given_back.fits (network_in t) w.consistent))

-- ---- the join

text_join : (n m : Network) (size : ℕ) → Consistent n → Consistent m → 65536 ≤ size
    → join (some (network_text n)) (some (network_text m)) size ≡ join_networks n m
unfolding join
text_join n m size h k e = rw (le-ltb size 65536 e, text_sorted n h, text_sorted m k, text_in n h, text_in m k)

agree_join : (n m : Network) (size : ℕ) → Consistent n → Consistent m → 65536 ≤ size → Agree n m
    → join (some (network_text n)) (some (network_text m)) size ≡ network_reply (union n m)
agree_join n m size h k e g = text_join n m size h k e ∙ agree_joined n m h k g

clash_join : (n m : Network) (size : ℕ) → Consistent n → Consistent m → 65536 ≤ size → (Agree n m → ⊥)
    → join (some (network_text n)) (some (network_text m)) size ≡ refused_join Clash
clash_join n m size h k e g = text_join n m size h k e ∙ either (λ r. r ≡ refused_join Clash) (clash n m) (λ c. refl) (λ c. absurd (g ((clash_exactly n m h k).0 c)))

-- which refusal a join of sorted files can have
joined_sorted : (n m : Network) → (join_networks n m).refusal ≡ some Unsorted → ⊥
joined_sorted n m = go (clash n m)
  where
    go : (b : Bool) → (cond b (refused_join Clash) (network_reply (union n m))).refusal ≡ some Unsorted → ⊥
    go true e = apart (cc e)
    go false e = apart (cc e)

unsorted_exactly : (f g : File) (size : ℕ) → 65536 ≤ size → ((join f g size).refusal ≡ some Unsorted) ↔ ((is_sorted f && is_sorted g) ≡ false)
unfolding join
unsorted_exactly f g size h = rw (le-ltb size 65536 h) (go (way (is_sorted f && is_sorted g)))
  where
    n : Network
    n = file_network f

    m : Network
    m = file_network g

    go : Way (is_sorted f && is_sorted g)
        → ((cond (is_sorted f && is_sorted g) (join_networks n m) (refused_join Unsorted)).refusal ≡ some Unsorted) ↔ ((is_sorted f && is_sorted g) ≡ false)
    go (is e) = rw e (λ r. absurd (joined_sorted n m r), λ w. never (sym w))
    go (isnt e) = rw e (λ r. refl, λ w. refl)

join_comm : (f g : File) (size : ℕ) → join f g size ≡ join g f size
unfolding join
join_comm f g size = rw (and_comm (is_sorted f) (is_sorted g), joined_comm (file_network f) (file_network g) (file_consistent f) (file_consistent g))

-- a refusal's line is short, and a text of a network fits
abbrev Fits : JoinReply → Type 0
Fits r = length r.text ≤ 29376

join_fits : (f g : File) (size : ℕ) → length (join f g size).text ≤ 29376
unfolding join answer_text list_text decimal digits_of
join_fits f g size =
    let n = file_network f in
    let m = file_network g in
    either Fits (ltb size 65536) (λ e. omega arith)
    (λ e. either Fits (is_sorted f && is_sorted g)
    (λ s. either Fits (clash n m) (λ c. omega arith) (λ c. given_back.fits (union n m) (union_consistent n m (file_consistent f) (file_consistent g))))
    (λ s. omega arith))

unsorted_join : (f g : File) (size : ℕ) → is_sorted f ≡ false → join f g size ≡ cond (ltb size 65536) short_join (refused_join Unsorted)
unfolding join
unsorted_join f g size e = rw e

-- the part of a file is all of it, or neither is sorted
cut_first : (f g : File) (k size : ℕ) → 29376 < k → join (cut_to k f) g size ≡ join f g size
cut_first none g k size h = refl
cut_first (some t) g k size h = go (way (leb (length t) k))
  where
    go : Way (leb (length t) k) → join (some (take k t)) g size ≡ join (some t) g size
    go (is e) = ap (λ (l : List ℕ). join (some l) g size) (take_all k t (leb-true (length t) k e))
    go (isnt e) =
        let long = leb-false (length t) k e in
        unsorted_join (some (take k t)) g size (long_unsorted (take k t) (omega (arith, length-take-le k t (omega arith))))
        ∙ sym (unsorted_join (some t) g size (long_unsorted t (omega arith)))

cut_join : (f g : File) (k size : ℕ) → 29376 < k → join (cut_to k f) (cut_to k g) size ≡ join f g size
cut_join f g k size h =
    cut_first f (cut_to k g) k size h ∙ join_comm f (cut_to k g) size ∙ cut_first g f k size h ∙ join_comm g f size

-- ---- the theorem

pub unions : Union
unions =
    record {
      sorted = sorted_exactly;
      unsorted = unsorted_exactly;
      clashes = clash_join;
      joins = agree_join;
      nodes = λ n m a h k. union_node n m h k a;
      routes = λ n m a b h k. union_route n m h k a b;
      consistent = union_consistent;
      fits = join_fits;
      symmetric = join_comm;
      itself = λ n size h e. agree_join n n size h h e (agree_itself n) ∙ ap network_reply (union_itself n h);
      empty = λ n size h e.
          ap (λ (t : List ℕ). join (some (network_text n)) (some t) size) (sym empty_text)
          ∙ agree_join n fresh.network size h consistent_fresh e (agree_empty n)
          ∙ ap network_reply (union_empty n h);
      cut = cut_join;
    }
