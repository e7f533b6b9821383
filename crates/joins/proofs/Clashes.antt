-- The lines of two networks' texts, compared place by place. Assumes nothing.
use mathlib.Core.Path.{◌≡◌, refl, sym, ◌∙◌}
use mathlib.Core.Bool.{true, false, ◌||◌}
use mathlib.Core.List.{List, []}
use Prim.Native.Nat.{ℕ, ◌+◌}
use lib.ListN.{length}
use Rattle.calculus.specs.declared.network.Network.{Network}
use Rattle.model.specs.Join as model
use Rattle.model.specs.Join.{somewhere}
use Rattle.model.specs.Union.{IsTextOf}
use Rattle.joins.proofs.LinesRead.{Unread, lines_left, LineRead, text_unread}

-- k lines of each are read, and no two of them clash
pub record Searching (n m : Network) (a b : List ℕ) (i j k : ℕ) : Type 0 where
  pub first : Unread a i (lines_left n k)
  pub second : Unread b j (lines_left m k)
  pub same : model.clash n m ≡ somewhere model.differ (lines_left n k) (lines_left m k)

pub searching_none : {n m : Network} {a b : List ℕ} → IsTextOf a n × IsTextOf b m → Searching n m a b 0 0 0
searching_none g = record { first = text_unread g.0; second = text_unread g.1; same = refl }

module _ {n m : Network} {a b : List ℕ} {i j k : ℕ} (s : Searching n m a b i j k) where
  pub searching_all : lines_left n k ≡ [] → false ≡ model.clash n m
  unfolding somewhere
  searching_all e = sym (s.same ∙ rw e)

  module _ {x y : List ℕ} (p : LineRead n a k i x) (q : LineRead m b k j y) where
    next_search : model.clash n m ≡ (model.differ x y || somewhere model.differ (lines_left n (k + 1)) (lines_left m (k + 1)))
    unfolding somewhere
    next_search = s.same ∙ rw (p.line, q.line)

    pub searching_more : {i₁ j₁ : ℕ} → i₁ ≡ i + length x → j₁ ≡ j + length y → model.differ x y ≡ false → Searching n m a b i₁ j₁ (k + 1)
    searching_more u v e = rw (u, v) record { first = p.more; second = q.more; same = next_search ∙ rw e }

    pub searching_stop : model.differ x y ≡ true → true ≡ model.clash n m
    searching_stop e = sym (next_search ∙ rw e)
