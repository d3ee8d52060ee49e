-- Fractions in order: along a segment they go one way, from the first point's value to the second's. Assumes nothing.
use mathlib.Core.Path.{ap}
use mathlib.Core.Bool.{Bool, true, false, not}
use mathlib.Core.Logic.{◌⊎◌, inl, inr}
use Prim.Native.Nat.{ℕ, ◌+◌, ◌*◌, ◌≤◌, ◌<◌}
use native.Mathlib.Nat.{le_of_lt, mul-le-mul_right}
use native.Mathlib.Omega.{arith}
use lib.Dec.{T, leb, leb→le, nleb→lt}
use lib.IntN.{ℤ, pos, ◌-ℤ◌, ◌*ℤ◌}
use lib.Signed.{◌≤ℤ◌}
use Rattle.word.proofs.Split.{up, dn, of_minus, of_mul, le_split, le_join, eq_join}
use Rattle.sum.specs.Fraction.{whole, above, along, Same, Order}

pub either : (a b : ℤ) → (a ≤ℤ b) ⊎ (b ≤ℤ a)
either a b = by (leb (up a + dn b) (up b + dn a)) (leb→le (up a + dn b) (up b + dn a)) (nleb→lt (up a + dn b) (up b + dn a))
  where
    by : (t : Bool) → (T t → up a + dn b ≤ up b + dn a) → (T (not t) → up b + dn a < up a + dn b) → (a ≤ℤ b) ⊎ (b ≤ℤ a)
    by true f g = inl (le_join a b (f tt))
    by false f g = inr (le_join b a (le_of_lt (g tt)))

-- all of the step left: f is the point before
pub at_start : (a b : ℤ) (d : ℕ) → Same (along a b d d) (whole a)
at_start a b d = record {
  same = eq_join _ _ (omega (arith, of_mul (above a b d d) (pos 1), of_minus (b *ℤ pos d) ((b -ℤ a) *ℤ pos d), of_mul b (pos d), of_mul (b -ℤ a) (pos d), ap (λ (k : ℕ). k * d) (of_minus b a), of_mul a (pos d)));
}

-- none of it left: f is the point after
pub at_end : (a b : ℤ) (d : ℕ) → Same (along a b d 0) (whole b)
at_end a b d = record {
  same = eq_join _ _ (omega (arith, of_mul (above a b d 0) (pos 1), of_minus (b *ℤ pos d) ((b -ℤ a) *ℤ pos 0), of_mul (b -ℤ a) (pos 0)));
}

-- t·m against t·(m + e), by the sign of t
more : (x y m e : ℕ) → y ≤ x → x * m + y * (m + e) ≤ x * (m + e) + y * m
more x y m e h = omega (arith, mul-le-mul_right e h)

-- with more samples left f is nearer to the first point: lower where the segment climbs, higher where it drops
pub climbs : (a b : ℤ) (d m e : ℕ) → a ≤ℤ b → above a b d (m + e) ≤ℤ above a b d m
climbs a b d m e l = let t = b -ℤ a in
    le_join (above a b d (m + e)) (above a b d m)
    (omega (arith, of_minus (b *ℤ pos d) (t *ℤ pos m), of_minus (b *ℤ pos d) (t *ℤ pos (m + e)), of_mul t (pos m), of_mul t (pos (m + e)), more (up t) (dn t) m e (omega (arith, le_split a b l, of_minus b a))))

pub drops : (a b : ℤ) (d m e : ℕ) → b ≤ℤ a → above a b d m ≤ℤ above a b d (m + e)
drops a b d m e l = let t = b -ℤ a in
    le_join (above a b d m) (above a b d (m + e))
    (omega (arith, of_minus (b *ℤ pos d) (t *ℤ pos m), of_minus (b *ℤ pos d) (t *ℤ pos (m + e)), of_mul t (pos m), of_mul t (pos (m + e)), more (dn t) (up t) m e (omega (arith, le_split b a l, of_minus b a))))

-- over one denominator the order is that of the numerators
pub over_one : {x y : ℤ} (d : ℕ) → x ≤ℤ y → Order (record { num = x; den = d }) (record { num = y; den = d })
over_one {x} {y} d l = record { order = le_join (x *ℤ pos d) (y *ℤ pos d) (omega (arith, of_mul x (pos d), of_mul y (pos d), mul-le-mul_right d (le_split x y l))) }
