-- What a move leaves: a whole part, rows that change as it says, and a session that only an open brings into use. Assumes nothing.
use mathlib.Core.Path.{◌≡◌, refl, sym, ◌∙◌}
use mathlib.Core.Bool.{Bool, true, false}
use mathlib.Core.List.{List, [], ◌++◌, append-nil}
use Prim.Native.Nat.{ℕ, ◌+◌, ◌-◌, ◌≤◌, ◌<◌}
use native.Mathlib.Omega.{arith}
use native.Mathlib.Decide.{dec_lt}
use native.Mathlib.Nat.{add-zero}
use lib.ListN.{length, take, length-take}
use lib.Seq.{sets, length-sets}
use Rattle.std.specs.Prelude.{Ok, Err}
use Rattle.calculus.proofs.Tests.{never}
use Rattle.std.specs.Prelude.{Option, Some, None}
use Rattle.calculus.specs.declared.effect.Effect.{Effect}
use Rattle.calculus.specs.declared.network.Network.{Network}
use Rattle.calculus.specs.declared.packet.Item.{Item}
use Rattle.calculus.specs.declared.request.Sender.{Sender}
use Rattle.calculus.specs.declared.session.Row.{Row}
use Rattle.calculus.specs.declared.session.Stage.{Stage}
use Rattle.calculus.specs.declared.state.Part.{Part}
use Rattle.model.specs.Lists.{those}
use Rattle.model.specs.Row.{held, is_of, is_other, how_many}
use Rattle.model.specs.State.{placed, added_rows, session_after, applied}
use Rattle.model.specs.Requests.{Change, Move, no_rows, unused, next_number, with_item, opening, open_move, stepped, step_move, sending, send_move, closing, close_move, dropping, drop_move, step_at}
use Rattle.model.proofs.Checks.{checked_either}
use Rattle.model.proofs.Steps.{step_either}
use Rattle.model.proofs.Parts.{Whole}
use Rattle.model.proofs.Lists.{take_sets, take_those}
use Rattle.model.proofs.Users.{many_append, many_split}
use Rattle.model.proofs.Weights.{length_put, length_after}

-- ---- rows held

placed_length : (n : ℕ) (f : Option (Row × Row)) → length (placed n f) ≤ 32 - n
placed_length n f = simp length-take (omega arith)

none_placed : {A : Type 0} (n : ℕ) (l : List A) → 32 ≤ n → take (32 - n) l ≡ []
none_placed n l h = let e : 32 - n ≡ 0 = omega arith in rw e

held_placed : (rows : List Row) → length rows ≡ 32 → (n : ℕ) (f : Option (Row × Row))
    → take (n + length (placed n f)) (sets rows n (placed n f)) ≡ take n rows ++ placed n f
held_placed rows h n f = go (dec_lt n 32)
  where
    go : Dec (n < 32) → take (n + length (placed n f)) (sets rows n (placed n f)) ≡ take n rows ++ placed n f
    go (yes p) = take_sets rows (placed n f) n (omega (arith, placed_length n f, h))
    go (no p) = rw (none_placed n (added_rows f) (omega arith), add-zero, append-nil)

pub held_applied : (t : Part) → Whole t → (at : ℕ) (f : Effect) → held (applied t at f) ≡ held t ++ placed t.session.rows f.added
unfolding applied session_after
held_applied t h at f = held_placed t.rows h.rows t.session.rows f.added

pub applied_whole : (t : Part) → Whole t → (at : ℕ) (f : Effect) → Whole (applied t at f)
unfolding applied
applied_whole t h at f =
    omega (
      arith,
      h,
      length_after t.items t.session.last.0 at f,
      length-sets t.rows t.session.rows (placed t.session.rows f.added),
    )

pub none_added : (f : Option (Row × Row)) → length (added_rows f) ≤ 0 → added_rows f ≡ []
none_added None h = refl
none_added (Some (r, q)) h = absurd (omega arith)

-- a drop leaves the rows of the other establishments
pub held_dropping : (e : ℕ) (t : Part) → held (dropping e t) ≡ those (is_other e) (held t)
unfolding dropping
held_dropping e t = take_those (is_other e) t.session.rows t.rows

pub dropping_whole : (e : ℕ) (t : Part) → Whole t → Whole (dropping e t)
unfolding dropping
dropping_whole e t h = omega (arith, h, length-sets t.rows 0 (those (is_other e) (held t)))

-- ---- moves

-- the part t' is left of t, with the change c
pub record Fair (t t' : Part) (c : Change) : Type 0 where
  pub whole : Whole t'
  pub rows : (out : Bool) (a q : ℕ)
      → how_many out a q (held t') + how_many out a q c.went ≡ how_many out a q (held t) + how_many out a q c.came
  pub went : (out : Bool) (a q : ℕ) → how_many out a q c.went ≤ how_many out a q (held t)
  pub came : length c.came ≤ 32
  -- it is an open that brings a session into use
  pub opens : c.opens ≡ false → unused t ≡ true → unused t' ≡ true

abbrev pub FairMove : Part → Move → Type 0
FairMove t (Err r) = Unit
FairMove t (Ok m) = Fair t m.part m.change

module _ (t : Part) (h : Whole t) where
  fair_stepped : unused t ≡ false → (at : ℕ) (f : Effect) → FairMove t (Ok (stepped t at f))
  unfolding stepped how_many
  fair_stepped u at f =
      record {
        whole = applied_whole t h at f;
        rows = λ out a q. rw (held_applied t h at f) (omega (arith, many_append out a q (held t) (placed t.session.rows f.added)));
        went = λ out a q. omega arith;
        came = omega (arith, placed_length t.session.rows f.added);
        opens = λ o e. never (sym u ∙ e);
      }

  pub fair_step : (n : Network) (standing : ℕ → ℕ → Bool) (k : ℕ) → FairMove t (step_move n standing k t)
  fair_step n standing k = step_either n standing k t (λ o. FairMove t) (λ o r. tt) (λ at s e p. fair_stepped p.used at _)

  fair_item : (g : Stage) (c d : ℕ) (i : Item) (opens : Bool) → (opens ≡ false → unused t ≡ false) → Fair t (with_item t g c d i) (no_rows opens)
  unfolding how_many
  fair_item g c d i opens u =
      record {
        whole = omega (arith, h, length_put t.items (next_number t) i);
        rows = λ out a q. omega arith;
        went = λ out a q. omega arith;
        came = omega arith;
        opens = λ o e. never (sym (u o) ∙ e);
      }

  pub fair_open : (n : Network) (c d : ℕ) → FairMove t (open_move n c d t)
  unfolding open_move opening
  fair_open n c d = checked_either (FairMove t) (λ r. tt) _ (λ e. fair_item _ _ _ _ _ (λ o. never (sym o)))

  pub fair_send : (w : Sender) (tag : ℕ) → FairMove t (send_move w tag t)
  unfolding send_move sending
  fair_send w tag = checked_either (FairMove t) (λ r. tt) _ (λ e. fair_item _ _ _ _ _ (λ o. e.0))

  pub fair_close : FairMove t (close_move t)
  unfolding close_move closing
  fair_close =
      checked_either (FairMove t) (λ r. tt) _
      (λ e.
      record {
        whole = omega arith;
        rows = λ out a q. omega arith;
        went = λ out a q. omega arith;
        came = omega arith;
        opens = λ o e. refl;
      })

  pub fair_drop : (e : ℕ) → FairMove t (drop_move e t)
  unfolding drop_move how_many
  fair_drop e =
      checked_either (FairMove t) (λ r. tt) _
      (λ k.
      record {
        whole = dropping_whole e t h;
        rows = λ out a q. rw (held_dropping e t) (omega (arith, many_split out a q (is_of e) (held t)));
        went = λ out a q. omega (arith, many_split out a q (is_of e) (held t));
        came = omega arith;
        opens = λ o u. never (sym k.0 ∙ u);
      })
