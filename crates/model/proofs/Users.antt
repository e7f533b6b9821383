-- The users of an association, as rows raise and lower them, and the rows that name it, counted. Assumes nothing.
use mathlib.Core.Path.{◌≡◌, refl, sym, ◌∙◌}
use mathlib.Core.Bool.{Bool, true, false, cond, not, ◌||◌}
use mathlib.Core.List.{List, [], ◌∷◌, ◌++◌}
use Prim.Native.Nat.{ℕ, ◌+◌, ◌≤◌, ◌<◌}
use native.Mathlib.Omega.{arith}
use lib.ListN.{length, get_or, set, length-set}
use lib.Seq.{get_or-set_same, get_or-set_other}
use borrow.Author.Tests.{lt-ltb}
use Rattle.std.specs.List.{list_any}
use Rattle.calculus.proofs.Tests.{never, either}
use Rattle.calculus.specs.declared.session.Row.{Row}
use Rattle.model.specs.Lists.{fold, tally, those}
use Rattle.model.specs.Row.{names, admits, how_many, users_place, are_nodes, users_of, with_users, one_more, one_less, raised, lowered}
use Rattle.model.proofs.Checks.{one, one_le}
use Rattle.model.proofs.Lists.{tally_append, tally_split}
use Rattle.model.proofs.Places.{same_parts, one_place, place_below}

-- ---- rows counted

module _ (out : Bool) (a q : ℕ) where
  pub many_append : (l m : List Row) → how_many out a q (l ++ m) ≡ how_many out a q l + how_many out a q m
  unfolding how_many
  many_append l m = tally_append (names out a q) l m

  -- the rows that f holds of, and the others, are all
  pub many_split : (f : Row → Bool) (l : List Row) → how_many out a q (those f l) + how_many out a q (those (λ r. not (f r)) l) ≡ how_many out a q l
  unfolding how_many
  many_split f l = tally_split f (names out a q) l

  pub many_length : (l : List Row) → how_many out a q l ≤ length l
  unfolding how_many
  many_length [] = omega arith
  many_length (r ∷ l) = omega (arith, many_length l, one_le (names out a q r))

pub admits_some : (a q : ℕ) (l : List Row) → admits l a q ≡ true → 1 ≤ how_many false a q l
unfolding admits how_many
admits_some a q [] e = never e
admits_some a q (r ∷ l) e = go (names false a q r) (admits_some a q l) e
  where
    go : (b : Bool) → (list_any (names false a q) l ≡ true → 1 ≤ tally (names false a q) l) → (b || list_any (names false a q) l) ≡ true
        → 1 ≤ one b + tally (names false a q) l
    go true h k = omega arith
    go false h k = omega (arith, h k)

-- ---- users, as one row changes them

with_length : (f : ℕ → ℕ) (l : List ℕ) (r : Row) → length (with_users f l r) ≡ length l
unfolding with_users
with_length f l r =
    either (λ (x : List ℕ). length x ≡ length l) (are_nodes r.node r.peers.first) (λ e. length-set l _ _) (λ e. refl)

-- the place of the users of the association that the row names
abbrev row_place : Row → ℕ
row_place r = users_place r.out r.node r.peers.first

module _ (out : Bool) (a q : ℕ) (h : are_nodes a q ≡ true) where
  abbrev at : ℕ
  at = users_place out a q

  with_users_lem : (f : ℕ → ℕ) (l : List ℕ) (r : Row) → length l ≡ 2048
      → users_of (with_users f l r) out a q ≡ cond (names out a q r) (f (users_of l out a q)) (users_of l out a q)
  unfolding users_of with_users
  with_users_lem f l r hl = rw h (go (are_nodes r.node r.peers.first) refl (names out a q r) refl)
    where
      go : (b : Bool) → are_nodes r.node r.peers.first ≡ b → (c : Bool) → names out a q r ≡ c
          → get_or (cond b (set l (row_place r) (f (get_or l (row_place r) 0))) l) at 0 ≡ cond c (f (get_or l at 0)) (get_or l at 0)
      go true k true e =
          let n = same_parts r.out r.node r.peers.first out a q e in
          rw (n.0, n.1, n.2) (get_or-set_same l at (f (get_or l at 0)) 0 (omega (arith, place_below out a q h)))
      go true k false e = get_or-set_other l (row_place r) at _ 0 (λ w. never (sym e ∙ one_place r.out r.node r.peers.first out a q k h (sym w)))
      go false k true e =
          let n = same_parts r.out r.node r.peers.first out a q e in
          never (sym k ∙ rw (n.1, n.2) h)
      go false k false e = refl

-- ---- users, as a list of rows raises and lowers them

pub fold_length : (f : ℕ → ℕ) (rs : List Row) (l : List ℕ) → length (fold (with_users f) l rs) ≡ length l
fold_length f [] l = refl
fold_length f (r ∷ rs) l = fold_length f rs (with_users f l r) ∙ with_length f l r

more_one : (b : Bool) (n : ℕ) → n < 65535 → cond b (one_more n) n ≡ n + one b
more_one true n h = rw (lt-ltb n 65535 h) (omega arith)
more_one false n h = omega arith

less_one : (b : Bool) (n : ℕ) → one b ≤ n → cond b (one_less n) n + one b ≡ n
less_one true n h = omega arith
less_one false n h = omega arith

module _ (out : Bool) (a q : ℕ) (h : are_nodes a q ≡ true) where
  pub raised_users : (rs : List Row) (l : List ℕ) → length l ≡ 2048 → users_of l out a q + length rs ≤ 65535
      → users_of (raised l rs) out a q ≡ users_of l out a q + how_many out a q rs
  unfolding how_many
  raised_users [] l hl k = omega arith
  raised_users (r ∷ rs) l hl k =
      let e = with_users_lem out a q h one_more l r hl ∙ more_one (names out a q r) (users_of l out a q) (omega arith) in
      let b = one_le (names out a q r) in
      omega (arith, raised_users rs (with_users one_more l r) (with_length one_more l r ∙ hl) (omega arith))

  pub lowered_users : (rs : List Row) (l : List ℕ) → length l ≡ 2048 → how_many out a q rs ≤ users_of l out a q
      → users_of (lowered l rs) out a q + how_many out a q rs ≡ users_of l out a q
  unfolding how_many
  lowered_users [] l hl k = omega arith
  lowered_users (r ∷ rs) l hl k =
      let e = with_users_lem out a q h one_less l r hl in
      let d = less_one (names out a q r) (users_of l out a q) (omega arith) in
      omega (arith, lowered_users rs (with_users one_less l r) (with_length one_less l r ∙ hl) (omega arith))
