-- A line whose newline has not come, and one that is too long: what comes of what is kept comes of it. For `Stream`. Assumes nothing.
use mathlib.Core.Path.{◌≡◌, refl, ap, ◌∙◌}
use mathlib.Core.Bool.{Bool, true, false, cond}
use mathlib.Core.List.{List, [], ◌∷◌, ◌++◌, append_assoc, append-nil}
use mathlib.Core.Option.{none}
use Prim.Native.Nat.{ℕ, zero, suc, ◌<◌}
use native.Mathlib.Omega.{arith}
use borrow.Author.Tests.{ltb-true, ltb-false, lt-leb}
use lib.Dec.{ltb, eqb}
use lib.ListN.{length, take, length-append}
use lib.Seq.{length-take-le, take_all}
use Rattle.calculus.specs.declared.state.State.{State}
use Rattle.calculus.proofs.Tests.{Way, is, isnt, way, clash}
use Rattle.forms.specs.Line.{line_length, with_first, lines}
use Rattle.forms.specs.Read.{read}
use Rattle.model.specs.Calls.{Reply, answered, lines_of, after, replies}
use Rattle.model.specs.Texts.{after_lines, answers_to, NoNewline}
use Rattle.model.specs.Stream.{has_line, too_long, kept}
use Rattle.model.proofs.Newlines.{line_length_most}

-- what comes of the lines ls from s on, where w is written already
pub record Total : Type 0 where
  pub state : State
  pub written : List ℕ

abbrev pub total : State → List ℕ → List (List ℕ) → Total
total s w ls = record { state = after_lines s ls; written = w ++ answers_to s ls }

-- ---- lines one after the other

pub total_append : (s : State) (w : List ℕ) (ls ms : List (List ℕ)) → total s w (ls ++ ms) ≡ total (after_lines s ls) (w ++ answers_to s ls) ms
unfolding after replies
total_append s w [] ms = rw (append-nil w)
total_append s w (l ∷ ls) ms =
    let r = answered s l 65536 in
    rw (← append_assoc w (lines_of r) (answers_to r.state (ls ++ ms)), ← append_assoc w (lines_of r) (answers_to r.state ls))
    (total_append r.state (w ++ lines_of r) ls ms)

-- ---- a line whose newline has not come

-- u in front of the first of the lines
abbrev behind_of : List ℕ → List (List ℕ) → List (List ℕ)
behind_of u [] = u ∷ []
behind_of u (l ∷ ls) = (u ++ l) ∷ ls

lines_behind : (c : ℕ) (u more : List ℕ) → NoNewline (c ∷ u) → lines ((c ∷ u) ++ more) ≡ behind_of (c ∷ u) (lines more)
unfolding lines line_length
lines_behind c [] more e = go (eqb c 10) e (lines more)
  where
    go : (b : Bool) → ◌≡◌ {A = ℕ} (cond b 0 1) 1 → (ls : List (List ℕ)) → cond b ([] ∷ ls) (with_first c ls) ≡ behind_of (c ∷ []) ls
    go true e ls = clash e
    go false e [] = refl
    go false e (l ∷ ls) = refl
lines_behind c (d ∷ u) more e = go (eqb c 10) e (lines_behind d u more)
  where
    put : (ls : List (List ℕ)) → with_first c (behind_of (d ∷ u) ls) ≡ behind_of (c ∷ d ∷ u) ls
    put [] = refl
    put (l ∷ ls) = refl

    go : (b : Bool) → cond b 0 (suc (line_length (d ∷ u))) ≡ suc (length (d ∷ u)) → (NoNewline (d ∷ u) → lines ((d ∷ u) ++ more) ≡ behind_of (d ∷ u) (lines more))
        → cond b ([] ∷ lines ((d ∷ u) ++ more)) (with_first c (lines ((d ∷ u) ++ more))) ≡ behind_of (c ∷ d ∷ u) (lines more)
    go true e ih = absurd (omega arith)
    go false e ih = ap (with_first c) (ih (omega arith)) ∙ put (lines more)

pub lines_unfinished : (u more : List ℕ) → 0 < length u → NoNewline u → lines (u ++ more) ≡ behind_of u (lines more)
lines_unfinished [] more h e = absurd (omega arith)
lines_unfinished (c ∷ u) more h e = lines_behind c u more e

-- the front of it has no newline either
pub take_unfinished : (n : ℕ) (u : List ℕ) → NoNewline u → NoNewline (take n u)
unfolding line_length
take_unfinished zero u e = refl
take_unfinished (suc n) [] e = refl
take_unfinished (suc n) (c ∷ u) e = go (eqb c 10) e (take_unfinished n u)
  where
    go : (b : Bool) → cond b 0 (suc (line_length u)) ≡ suc (length u) → (NoNewline u → NoNewline (take n u))
        → cond b 0 (suc (line_length (take n u))) ≡ suc (length (take n u))
    go true e ih = absurd (omega arith)
    go false e ih = ap suc (ih (omega arith))

-- ---- a line that is too long

-- no form is so long
beyond_a_form : 400 < too_long
beyond_a_form = omega arith

read_long : (l : List ℕ) → 400 < length l → read l ≡ none
unfolding read
read_long l h = rw (lt-leb (length l) 400 h)

answered_long : (s : State) (l m : List ℕ) → 400 < length l → 400 < length m → answered s l 65536 ≡ answered s m 65536
unfolding answered
answered_long s l m h k = rw (read_long l h, read_long m k)

total_long : (s : State) (w l m : List ℕ) (ls : List (List ℕ)) → 400 < length l → 400 < length m → total s w (l ∷ ls) ≡ total s w (m ∷ ls)
unfolding after replies
total_long s w l m ls h k =
    ap {B = Total} (λ (r : Reply). record { state = after_lines r.state ls; written = w ++ (lines_of r ++ answers_to r.state ls) }) (answered_long s l m h k)

pub total_kept : (s : State) (w u more : List ℕ) → total s w (lines (kept u ++ more)) ≡ total s w (lines (u ++ more))
total_kept s w u more = go (way (has_line u)) (way (ltb too_long (length u)))
  where
    same : NoNewline u → too_long < length u → (ls : List (List ℕ)) → total s w (behind_of (take too_long u) ls) ≡ total s w (behind_of u ls)
    same e h [] = total_long s w (take too_long u) u [] (simp (length-take-le too_long u (omega arith)) (omega arith)) (omega arith)
    same e h (l ∷ ls) = total_long s w (take too_long u ++ l) (u ++ l) ls (simp (length-append, length-take-le too_long u (omega arith)) (omega arith)) (simp length-append (omega arith))

    go : Way (has_line u) → Way (ltb too_long (length u)) → total s w (lines (kept u ++ more)) ≡ total s w (lines (u ++ more))
    go (is e) v = rw e
    go (isnt e) (isnt f) = rw (e, take_all too_long u (ltb-false too_long (length u) f))
    go (isnt e) (is f) =
        let h = ltb-true too_long (length u) f in
        let n : NoNewline u = omega (arith, line_length_most u, ltb-false (line_length u) (length u) e) in
        rw (e, lines_unfinished (take too_long u) more (simp (length-take-le too_long u (omega arith)) (omega arith)) (take_unfinished too_long u n), lines_unfinished u more (omega arith) n)
        (same n h (lines more))
