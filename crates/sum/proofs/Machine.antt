-- The numbers of one sample in an i64: how large each is, and how an i64's sign tells which constructor it has. Assumes nothing.
use mathlib.Core.Path.{◌≡◌, refl, ap}
use mathlib.Core.Bool.{true, false, true≢false}
use Prim.Native.Nat.{ℕ, zero, suc, ◌+◌, ◌≤◌, ◌<◌, ◌^◌}
use native.Mathlib.Nat.{le_of_lt, le_trans, zero-add}
use native.Mathlib.Omega.{arith}
use borrow.Author.Tests.{ltb-true}
use lib.Dec.{lit≤}
use lib.IntN.{ℤ, pos, negsuc, nat_abs, ◌+ℤ◌, ◌-ℤ◌, ◌*ℤ◌}
use lib.Signed.{mag, lt_z}
use mir.Syntax.{w64}
use mir.Val.{SFits}
use Rattle.word.specs.Word.{signed_of}
use Rattle.word.proofs.Sizes.{sub_ind, size_add, size_minus, size_mul, fits}
use Rattle.word.proofs.Number.{size}
use Rattle.sum.specs.Floor.{floor}
use Rattle.sum.specs.Fraction.{above}
use Rattle.sum.proofs.Floors.{size_floor}

-- ---- sizes

-- two points, a time step and samples left are words
pub record Words (from to step left : ℕ) : Type 0 where
  pub from16 : from < 2 ^ 16
  pub to16 : to < 2 ^ 16
  pub step16 : step < 2 ^ 16
  pub left16 : left < 2 ^ 16

module _ {from to step left : ℕ} (k : Words from to step left) where
  size_turn : nat_abs (signed_of to -ℤ signed_of from) ≤ 2 ^ 16
  size_turn = size_minus (signed_of to) (signed_of from) (size to k.to16) (size from k.from16)

  size_end : nat_abs (signed_of to *ℤ pos step) ≤ 2 ^ 31
  size_end = size_mul (signed_of to) (pos step) (size to k.to16) (le_of_lt k.step16)

  size_back : nat_abs ((signed_of to -ℤ signed_of from) *ℤ pos left) ≤ 2 ^ 32
  size_back = size_mul (signed_of to -ℤ signed_of from) (pos left) size_turn (le_of_lt k.left16)

  pub size_above : nat_abs (above (signed_of from) (signed_of to) step left) ≤ 2 ^ 33
  size_above = le_trans (size_minus (signed_of to *ℤ pos step) ((signed_of to -ℤ signed_of from) *ℤ pos left) size_end size_back) (lit≤ tt)

  pub fits_turn : SFits w64 (signed_of to -ℤ signed_of from)
  fits_turn = fits w64 _ size_turn tt

  pub fits_end : SFits w64 (signed_of to *ℤ pos step)
  fits_end = fits w64 _ size_end tt

  pub fits_back : SFits w64 ((signed_of to -ℤ signed_of from) *ℤ pos left)
  fits_back = fits w64 _ size_back tt

  pub fits_above : SFits w64 (above (signed_of from) (signed_of to) step left)
  fits_above = fits w64 _ size_above tt

-- S·f over any denominator, and the offset
module _ (s o : ℕ) (hs : s < 2 ^ 16) (ho : o < 2 ^ 16) (n : ℤ) (hn : nat_abs n ≤ 2 ^ 33) (d : ℕ) where
  pub size_product : nat_abs (signed_of s *ℤ n) ≤ 2 ^ 48
  size_product = size_mul (signed_of s) n (size s hs) hn

  pub size_scaled : nat_abs (floor (signed_of s *ℤ n) d) ≤ 2 ^ 48
  size_scaled = size_floor (signed_of s *ℤ n) d size_product

  pub size_total : nat_abs (floor (signed_of s *ℤ n) d +ℤ signed_of o) ≤ 2 ^ 48 + 2 ^ 15
  size_total = size_add (floor (signed_of s *ℤ n) d) (signed_of o) size_scaled (size o ho)

-- ---- signs

none_below : {P : Type 0} (a : ℕ) → a < 0 → P
none_below a h = absurd (omega arith)

pub is_neg : (z : ℤ) → lt_z z (pos 0) ≡ true → z ≡ negsuc (mag z)
is_neg (pos a) h = none_below a (ltb-true a 0 h)
is_neg (negsuc a) h = refl

pub is_pos : (z : ℤ) → lt_z z (pos 0) ≡ false → z ≡ pos (mag z)
is_pos (pos a) h = refl
is_pos (negsuc a) h = absurd (true≢false h)

-- −1 − z turns the negative numbers and the others round
pub turned_up : (z : ℤ) → lt_z z (pos 0) ≡ true → negsuc 0 -ℤ z ≡ pos (mag z)
turned_up (pos a) h = none_below a (ltb-true a 0 h)
turned_up (negsuc a) h = sub_ind (λ z. z ≡ pos a) (suc a) 1 (λ h. absurd (omega arith)) (λ h. ap pos (omega arith))

pub turned_down : (a : ℕ) → negsuc 0 -ℤ pos a ≡ negsuc a
turned_down zero = refl
turned_down (suc a) = ap (λ (n : ℕ). negsuc (suc n)) (zero-add a)
