-- The lines of two networks' texts, put one after the other: the text of the union. Assumes nothing.
use mathlib.Core.Path.{◌≡◌, refl, ap, ◌∙◌}
use mathlib.Core.List.{List, [], ◌∷◌, ◌++◌, append_assoc}
use Prim.Native.Nat.{ℕ, ◌+◌, ◌≤◌, ◌<◌}
use native.Mathlib.Omega.{arith}
use borrow.Author.Tests.{lt-ltb}
use lib.ListN.{length, take, drop, length-append, length-drop}
use lib.Seq.{length-take-le, take-add, take-length, drop-drop, take_at, drop_at, take-append_seam}
use Rattle.std.specs.Prelude.{Option, Some, None, IfSome}
use Rattle.std.specs.Option.{option_or}
use Rattle.std.specs.Borrow.{Bor}
use Rattle.calculus.specs.declared.network.Network.{Network}
use Rattle.forms.specs.Bytes.{joined}
use Rattle.model.specs.Join.{place_lines, together, union}
use Rattle.model.specs.NetworkText.{network_text}
use Rattle.model.specs.Union.{IsTextOf}
use Rattle.model.proofs.GivenBack.{given_back}
use Rattle.model.proofs.Union.{unions}
use Rattle.model.proofs.PlaceLines.{first_of, union_places, text_places}
use Rattle.joins.specs.Front.{Front}
use Rattle.joins.specs.Merge.{line_of}
use Rattle.joins.proofs.LinesRead.{Unread, unread_all, unread_less, lines_left, LineRead, text_unread}

-- ---- the whole text

module _ {n m : Network} {a b : List ℕ} (g : IsTextOf a n × IsTextOf b m) where
  pub whole_lines : network_text (union n m) ≡ joined (together first_of (place_lines n) (place_lines m))
  whole_lines = text_places (union n m) ∙ ap joined (union_places n m g.0.consistent g.1.consistent)

  pub whole_width : length (network_text (union n m)) ≤ 29376
  whole_width = given_back.fits (union n m) (unions.consistent n m g.0.consistent g.1.consistent)

-- ---- the first of two lines

pub next_or : (x y : Option (Bor (List ℕ))) → IfSome x (λ l. 0 < length l.now) → line_of (option_or x y) ≡ first_of (line_of x) (line_of y)
next_or None y h = refl
next_or (Some l) y h = rw (lt-ltb 0 (length l.now) h)

-- ---- the lines put

-- the lines of the first k places are read, and the first of each two is put
pub record Merging (n m : Network) (a b out₀ out : List ℕ) (i j end k : ℕ) : Type 0 where
  pub first : Unread a i (lines_left n k)
  pub second : Unread b j (lines_left m k)
  pub whole : Unread (network_text (union n m)) end (together first_of (lines_left n k) (lines_left m k))
  pub width : length (network_text (union n m)) ≤ length out₀
  pub bytes : out ≡ take end (network_text (union n m)) ++ drop end out₀

pub merging_none : {n m : Network} {a b out : List ℕ} → IsTextOf a n × IsTextOf b m → 65536 ≤ length out → Merging n m a b out out 0 0 0 0
merging_none g h =
    record {
      first = text_unread g.0;
      second = text_unread g.1;
      whole = unread_all (whole_lines g);
      width = omega (arith, whole_width g);
      bytes = refl;
    }

module _ {n m : Network} {a b out₀ out : List ℕ} {i j end k : ℕ} (s : Merging n m a b out₀ out i j end k) where
  abbrev text : List ℕ
  text = network_text (union n m)

  front : length (take end text) ≡ end
  front = length-take-le end text s.whole.inside

  pub merging_size : length out ≡ length out₀
  merging_size =
      let w = s.whole.inside in
      omega (arith, ap length s.bytes, length-append (take end text) (drop end out₀), front, length-drop end out₀, s.width)

  pub merging_all : lines_left n k ≡ [] → Front out₀ text out end
  unfolding together
  merging_all e =
      let left : drop end text ≡ [] = s.whole.rest ∙ rw e in
      let all : end ≡ length text = omega (arith, s.whole.inside, length-drop end text, ap length left) in
      record { size = all; bytes = s.bytes ∙ rw (all, take-length) }

  module _ {x y line : List ℕ} (p : LineRead n a k i x) (q : LineRead m b k j y) (e : line ≡ first_of x y) where
    next_line : Unread text end (line ∷ together first_of (lines_left n (k + 1)) (lines_left m (k + 1)))
    unfolding together
    next_line = rw e (rw (p.line, q.line) at s.whole)

    pub merging_end : end + length line ≤ length text
    merging_end = (unread_less next_line).inside

    -- the part of the output from `end` on that the line takes is lent, and comes back as the line
    pub merging_more : {i₁ j₁ size : ℕ} {part : List ℕ} → i₁ ≡ i + length x → j₁ ≡ j + length y → size ≡ length line → part ≡ line
        → Merging n m a b out₀ (take end out ++ (part ++ drop size (drop end out))) i₁ j₁ (end + length line) (k + 1)
    merging_more u v z w =
        let put : take end out ≡ take end text = ap (take end) s.bytes ∙ take_at (take end text) (drop end out₀) end front in
        let old : drop end out ≡ drop end out₀ = ap (drop end) s.bytes ∙ drop_at (take end text) (drop end out₀) end front in
        let more : take (end + length line) text ≡ take end text ++ line = take-add end (length line) text ∙ rw (next_line.rest, take-append_seam) in
        rw (u, v) record {
          first = p.more;
          second = q.more;
          whole = unread_less next_line;
          width = s.width;
          bytes = rw (w, z, put, old, more, drop-drop, append_assoc);
        }

    -- without a line the output stays
    pub merging_on : {i₁ j₁ : ℕ} → i₁ ≡ i + length x → j₁ ≡ j + length y → line ≡ [] → Merging n m a b out₀ out i₁ j₁ end (k + 1)
    merging_on u v z =
        let w : Unread text end ([] ∷ together first_of (lines_left n (k + 1)) (lines_left m (k + 1))) = rw z at next_line in
        rw (u, v) record {
          first = p.more;
          second = q.more;
          whole = record { inside = w.inside; rest = w.rest };
          width = s.width;
          bytes = s.bytes;
        }
