-- The floor is what its record says, and nothing else is; what follows for factors, sizes and the order. Assumes nothing.
use mathlib.Core.Path.{◌≡◌, sym, ap}
use Prim.Native.Nat.{ℕ, ◌+◌, ◌*◌, ◌-◌, ◌≤◌, ◌<◌}
use native.Mathlib.Nat.{div-add-mod', mod-lt, div-le_self, le_trans, lt_of_mul-lt-mul_right, mul-le-mul_right, mul-lt-mul_of_pos_right, mul-pos}
use native.Mathlib.Omega.{arith}
use lib.IntN.{ℤ, pos, negsuc, nat_abs, ◌+ℤ◌, ◌*ℤ◌}
use lib.Signed.{◌≤ℤ◌}
use Rattle.word.proofs.Split.{up, dn, of_add, of_mul, le_split, le_join, lt_split, lt_join, eq_join}
use Rattle.sum.specs.Floor.{floor, IsFloor, ceil, IsCeil}

-- floor x d · d ≤ x < floor x d · d + d, in the two parts of each integer
pub of_floor : (x : ℤ) (d : ℕ) → 0 < d → (up (floor x d) * d + dn x ≤ up x + dn (floor x d) * d) × (up x + dn (floor x d) * d < up (floor x d) * d + d + dn x)
of_floor (pos a) d h = omega (arith, div-add-mod' a d, mod-lt a h)
of_floor (negsuc a) d h = omega (arith, div-add-mod' a d, mod-lt a h)

pub floor_is : (n : ℤ) (d : ℕ) → 0 < d → IsFloor n d (floor n d)
floor_is n d h = let q = floor n d in record {
  low = le_join (q *ℤ pos d) n (omega (arith, of_mul q (pos d), of_floor n d h));
  high = lt_join n ((q +ℤ pos 1) *ℤ pos d) (omega (arith, of_mul (q +ℤ pos 1) (pos d), ap (λ (k : ℕ). k * d) (of_add q (pos 1)), of_floor n d h));
}

-- two integers whose multiples of d lie less than d apart one way: q ≤ r
near : (q r : ℤ) (d : ℕ) → up q * d + dn r * d < up r * d + d + dn q * d → up q + dn r ≤ up r + dn q
near q r d h = omega (arith, lt_of_mul-lt-mul_right d {m = up q + dn r} {n = up r + 1 + dn q} (omega arith))

pub floor_unique : (n : ℤ) (d : ℕ) (q : ℤ) → 0 < d → IsFloor n d q → q ≡ floor n d
floor_unique n d q h f = let r = floor n d in
    eq_join q r (omega (
      arith,
      near q r d (omega (arith, of_floor n d h, le_split (q *ℤ pos d) n f.low, of_mul q (pos d))),
      near r q d (omega (arith, of_floor n d h, lt_split n ((q +ℤ pos 1) *ℤ pos d) f.high, of_mul (q +ℤ pos 1) (pos d), ap (λ (k : ℕ). k * d) (of_add q (pos 1)))),
    ))

pub floor_mono : (m n : ℤ) (d : ℕ) → 0 < d → m ≤ℤ n → floor m d ≤ℤ floor n d
floor_mono m n d h l = le_join (floor m d) (floor n d) (near (floor m d) (floor n d) d (omega (arith, of_floor m d h, of_floor n d h, le_split m n l)))

-- a factor of both sides goes
pub floor_cancel : (x : ℤ) (k d : ℕ) → 0 < k → 0 < d → floor (x *ℤ pos d) (k * d) ≡ floor x k
floor_cancel x k d hk hd = let q = floor x k in let f = of_floor x k hk in
    sym (floor_unique (x *ℤ pos d) (k * d) q (mul-pos hk hd) (record {
      low = le_join (q *ℤ pos (k * d)) (x *ℤ pos d) (omega (arith, of_mul q (pos (k * d)), of_mul x (pos d), mul-le-mul_right d f.0));
      high = lt_join (x *ℤ pos d) ((q +ℤ pos 1) *ℤ pos (k * d)) (omega (arith, of_mul x (pos d), of_mul (q +ℤ pos 1) (pos (k * d)), ap (λ (n : ℕ). n * (k * d)) (of_add q (pos 1)), mul-lt-mul_of_pos_right f.1 hd));
    }))

-- a whole number is its own floor
pub floor_one : (x : ℤ) → floor x 1 ≡ x
floor_one (pos a) = ap pos (omega arith)
floor_one (negsuc a) = ap negsuc (omega arith)

-- rounded up is what its record says
pub ceil_is : (n d : ℕ) → 0 < d → IsCeil n d (ceil n d)
ceil_is n d h = record { enough = omega (arith, div-add-mod' (n + (d - 1)) d, mod-lt (n + (d - 1)) h); least = omega (arith, div-add-mod' (n + (d - 1)) d, mod-lt (n + (d - 1)) h) }

pub ceil_unique : (n d q : ℕ) → 0 < d → IsCeil n d q → q ≡ ceil n d
ceil_unique n d q h c =
    let r = ceil_is n d h in
    omega (
      arith,
      lt_of_mul-lt-mul_right d {m = q} {n = ceil n d + 1} (omega (arith, c.least, r.enough)),
      lt_of_mul-lt-mul_right d {m = ceil n d} {n = q + 1} (omega (arith, c.enough, r.least)),
    )

pub size_floor : (x : ℤ) (d : ℕ) {m : ℕ} → nat_abs x ≤ m → nat_abs (floor x d) ≤ m
size_floor (pos a) d h = le_trans (div-le_self a d) h
size_floor (negsuc a) d h = omega (arith, div-le_self a d)
