-- How large integers are: a bound on a sum, a difference or a product, by bounds on its parts, and what fits a signed width.
-- Assumes nothing.
use Rattle.std.proofs.Common.{◌≡◌, ℕ, zero, suc, ◌+◌, ◌-◌, ◌*◌, ◌^◌, ◌<◌, ◌≤◌, Bool, true, false, cond, not, T, ltb, ℤ, pos, negsuc, ◌+ℤ◌, ◌-ℤ◌, ◌*ℤ◌, neg_ℤ, nat_abs, refl, ap, ◌∙◌, le_refl, mul-le-mul, arith, ltb→lt, nltb→le, to_z-of_z, SFits, to_z, of_z}
use native.Mathlib.Nat.{le-suc}
use lib.IntN.{sub_ℕ}
use lib.Signed.{mag}
use mir.Syntax.{Width}
use mir.Val.{hbits}

-- a − b, by whichever is larger
pub sub_ind : (P : ℤ → Type 0) (a b : ℕ) → (a < b → P (negsuc (b - suc a))) → (b ≤ a → P (pos (a - b))) → P (sub_ℕ a b)
sub_ind P a b f g = by (ltb a b) (λ t. f (ltb→lt a b t)) (λ t. g (nltb→le a b t))
  where
    by : (c : Bool) → (T c → P (negsuc (b - suc a))) → (T (not c) → P (pos (a - b))) → P (cond c (negsuc (b - suc a)) (pos (a - b)))
    by true f g = f tt
    by false f g = g tt

size_sub : (a b : ℕ) → nat_abs (sub_ℕ a b) ≤ a + b
size_sub a b = sub_ind (λ z. nat_abs z ≤ a + b) a b (λ h. omega arith) (λ h. omega arith)

pub size_add : (x y : ℤ) {m n : ℕ} → nat_abs x ≤ m → nat_abs y ≤ n → nat_abs (x +ℤ y) ≤ m + n
size_add (pos a) (pos b) h k = omega arith
size_add (pos a) (negsuc b) h k = omega (arith, size_sub a (suc b))
size_add (negsuc a) (pos b) h k = omega (arith, size_sub b (suc a))
size_add (negsuc a) (negsuc b) h k = omega arith

pub size_neg : (x : ℤ) → nat_abs (neg_ℤ x) ≡ nat_abs x
size_neg (pos zero) = refl
size_neg (pos (suc a)) = refl
size_neg (negsuc a) = refl

pub size_minus : (x y : ℤ) {m n : ℕ} → nat_abs x ≤ m → nat_abs y ≤ n → nat_abs (x -ℤ y) ≤ m + n
size_minus x y h k = size_add x (neg_ℤ y) h (rw size_neg k)

pub size_mul : (x y : ℤ) {m n : ℕ} → nat_abs x ≤ m → nat_abs y ≤ n → nat_abs (x *ℤ y) ≤ m * n
size_mul (pos a) (pos b) h k = mul-le-mul h k
size_mul (pos a) (negsuc b) h k = rw size_neg (mul-le-mul h k)
size_mul (negsuc a) (pos b) h k = rw size_neg (mul-le-mul h k)
size_mul (negsuc a) (negsuc b) h k = mul-le-mul h k

mag_size : (x : ℤ) → mag x ≤ nat_abs x
mag_size (pos a) = le_refl a
mag_size (negsuc a) = le-suc a

-- an integer of size at most m fits a signed width whose half is above m
pub fits : (w : Width) (x : ℤ) {m : ℕ} → nat_abs x ≤ m → T (ltb m (2 ^ hbits w)) → SFits w x
fits w x {m} h t = let s = mag_size x in let l = ltb→lt m (2 ^ hbits w) t in record { sfits = omega arith }

-- a local of a signed width holds bits; read back, they are the integer that was put in
pub back : (w : Width) {x : ℤ} (y : ℤ) {m : ℕ} → x ≡ y → nat_abs y ≤ m → T (ltb m (2 ^ hbits w)) → to_z w (of_z w x) ≡ y
back w y e h t = ap (λ (z : ℤ). to_z w (of_z w z)) e ∙ to_z-of_z (fits w y h t)

-- the same of an integer that is known to fit, as a call's result is
pub kept : (w : Width) (z : ℤ) → mag z < 2 ^ hbits w → to_z w (of_z w z) ≡ z
kept w z h = to_z-of_z (record { sfits = h })
