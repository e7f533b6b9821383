-- How many bytes numbers take, and lines of up to three. Assumes nothing.
use mathlib.Core.List.{[], ◌∷◌}
use Prim.Native.Nat.{ℕ, ◌^◌, ◌≤◌, ◌<◌}
use native.Mathlib.Omega.{arith}
use lib.ListN.{length, length-append}
use Rattle.calculus.specs.Answer.{refusal_number}
use Rattle.calculus.specs.declared.answer.Refusal as refusal
use Rattle.calculus.specs.declared.answer.Refusal.TheVariants as refusals
use Rattle.forms.specs.Bytes.{bytes, decimal}
use Rattle.forms.specs.Text.{list_text}
use Rattle.forms.specs.Answer.{line_text}
use Rattle.forms.proofs.Decimal.{width_most}
use Rattle.forms.proofs.Lists.{list_end, width_list}

pub width_number : (n : ℕ) → n < 2 ^ 32 → length (decimal n) ≤ 10
width_number n h = width_most 9 n (omega arith)

pub width_byte : (n : ℕ) → n < 2 ^ 8 → length (decimal n) ≤ 3
width_byte n h = width_most 2 n (omega arith)

-- a refusal's number
pub refusal_small : (r : refusal.Refusal) → refusal_number r < 2 ^ 32
refusal_small refusals.Short = omega arith
refusal_small refusals.Unreadable = omega arith
refusal_small refusals.Range = omega arith
refusal_small refusals.Double = omega arith
refusal_small refusals.Unknown = omega arith
refusal_small refusals.Late = omega arith
refusal_small refusals.Taken = omega arith
refusal_small refusals.Idle = omega arith
refusal_small refusals.Same = omega arith
refusal_small refusals.Gateway = omega arith
refusal_small refusals.Spent = omega arith
refusal_small refusals.NoItem = omega arith
refusal_small refusals.Waiting = omega arith
refusal_small refusals.Full = omega arith
refusal_small refusals.Clash = omega arith
refusal_small refusals.Unsorted = omega arith
refusal_small refusals.Busy = omega arith
refusal_small refusals.NoSuchTunnel = omega arith

-- ---- the rest of a line, behind its word

pub width_one : (n : ℕ) → n < 2 ^ 32 → length (line_text [] (n ∷ [])) ≤ 13
width_one n h = omega (arith, length-append (list_text (n ∷ [])) (bytes "\n"), width_list n [], list_end, width_number n h)

pub width_two : (n m : ℕ) → n < 2 ^ 32 → m < 2 ^ 32 → length (line_text [] (n ∷ m ∷ [])) ≤ 24
width_two n m h g =
    omega (
      arith,
      length-append (list_text (n ∷ m ∷ [])) (bytes "\n"),
      width_list n (m ∷ []),
      width_list m [],
      list_end,
      width_number n h,
      width_number m g,
    )

pub width_three : (a b c : ℕ) → a < 2 ^ 8 → b < 2 ^ 16 → c < 2 ^ 16 → length (line_text [] (a ∷ b ∷ c ∷ [])) ≤ 18
width_three a b c h g k =
    omega (
      arith,
      length-append (list_text (a ∷ b ∷ c ∷ [])) (bytes "\n"),
      width_list a (b ∷ c ∷ []),
      width_list b (c ∷ []),
      width_list c [],
      list_end,
      width_byte a h,
      width_most 4 b (omega arith),
      width_most 4 c (omega arith),
    )
