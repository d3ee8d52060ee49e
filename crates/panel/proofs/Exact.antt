-- Floats that are exact: a float times or over a literal, by the fraction that it equals; a whole number over a power of two. Assumes nothing.
use mathlib.Core.Path.{◌≡◌, refl, sym, ap, ◌∙◌, subst}
use mathlib.Core.Bool.{Bool, true, false, cond}
use Prim.Native.Nat.{ℕ, suc, ◌+◌, ◌-◌, ◌*◌, ◌^◌, ◌≤◌, ◌<◌}
use native.Mathlib.Nat.{mul_assoc, mul_comm, mul-mul-mul_comm, mul-one, mul-pos, zero-lt-suc, lt_of_lt_of_le, lt_of_le_of_lt, mul-le-mul}
use native.Mathlib.Omega.{arith}
use lib.Dec.{lit<, eqb, eqb-suc-zero}
use lib.IntN.{ℤ, pos, negsuc, nat_abs}
use lib.Pow.{pow-add, pow_pos, pow_mono, shl_lt}
use lib.Ieee.{Float, nan, inf, fin, Format, binary64, up, down, unlike, round, mul, div, of_int}
use lib.Ieee.Fits.{up_pos, down_pos}
use lib.Ieee.Exact.{HasValue, round_exact}
use lib.Ieee.Back.{round_whole}
use lib.Ieee.Scale.{round_same}
use mir.Syntax.{w32}
use mir.Val.{to_z, of_z}
use Rattle.word.specs.Word.{signed_of}
use Rattle.word.proofs.Sizes.{back}
use Rattle.word.proofs.Number.{size}
use Rattle.panel.specs.Shown.{ratio, Times}

-- ---- one operation

-- the sign of a product or quotient whose second part is not negative
plus : (s t : Bool) → t ≡ s → unlike t false ≡ s
plus true true e = refl
plus false false e = refl
plus true false e = e
plus false true e = e

cross : (x c a p b d : ℕ) → x * c ≡ a * p → x * b * (c * d) ≡ a * b * (p * d)
cross x c a p b d h = mul-mul-mul_comm x b c d ∙ ap (λ (n : ℕ). n * (b * d)) h ∙ mul-mul-mul_comm a p b d

-- x · (n · 2 ^ g), for an x of the size a / c
mul_lit : (f : Format) (x : Float) (s : Bool) (a c n : ℕ) (g : ℤ) → 0 < c → HasValue x s a c → mul f x (fin false n g) ≡ round f s (a * (n * up g)) (c * down g)
unfolding mul
mul_lit f nan s a c n g C v = elim v [ ]
mul_lit f (inf _) s a c n g C v = elim v [ ]
mul_lit f (fin t m e) s a c n g C v =
    ap (λ (b : Bool). round f b (m * up e * (n * up g)) (down e * down g)) (plus s t v.0)
    ∙ round_same f s (m * up e * (n * up g)) (down e * down g) (a * (n * up g)) (c * down g) (mul-pos (down_pos e) (down_pos g)) (mul-pos C (down_pos g))
    (cross (m * up e) c a (down e) (n * up g) (down g) v.1)

-- x / (n · 2 ^ g), for an n above 0
div_lit : (f : Format) (x : Float) (s : Bool) (a c n : ℕ) (g : ℤ) → 0 < c → HasValue x s a c → div f x (fin false (suc n) g) ≡ round f s (a * down g) (c * (suc n * up g))
unfolding div
div_lit f nan s a c n g C v = elim v [ ]
div_lit f (inf _) s a c n g C v = elim v [ ]
div_lit f (fin t m e) s a c n g C v =
    let k = suc n * up g in
    let K : 0 < k = mul-pos (zero-lt-suc n) (up_pos g) in
    ap (λ (b : Bool). cond b (cond (eqb m 0) nan (inf (unlike t false))) (round f (unlike t false) (m * up e * down g) (k * down e))) (eqb-suc-zero n)
    ∙ ap (λ (b : Bool). round f b (m * up e * down g) (k * down e)) (plus s t v.0)
    ∙ round_same f s (m * up e * down g) (k * down e) (a * down g) (c * k) (mul-pos K (down_pos e)) (mul-pos C K)
    (cross (m * up e) c a (down e) (down g) k v.1 ∙ ap (λ (z : ℕ). a * down g * z) (mul_comm (down e) k))

-- ---- the panel's two scales, of either sign

abbrev pub by_volts : ℤ → Float
by_volts z = div binary64 (mul binary64 (of_int binary64 z) (fin false 5 (pos 1))) (fin false 1 (pos 15))

abbrev pub by_factor : ℤ → Float
by_factor z = div binary64 (of_int binary64 z) (fin false 1 (pos 8))

tenths : (s : Bool) (n : ℕ) → n ≤ 32768
    → div binary64 (mul binary64 (round binary64 s n 1) (fin false 5 (pos 1))) (fin false 1 (pos 15)) ≡ round binary64 s (n * 10) 32768
tenths s n h =
    ap (λ (x : Float). div binary64 x (fin false 1 (pos 15))) (mul_lit binary64 (round binary64 s n 1) s n 1 5 (pos 1) (lit< tt) (round_whole binary64 s n (omega arith)))
    ∙ div_lit binary64 (round binary64 s (n * 10) 1) s (n * 10) 1 0 (pos 15) (lit< tt) (round_whole binary64 s (n * 10) (omega arith))
    ∙ ap (λ (a : ℕ). round binary64 s a 32768) (mul-one (n * 10))

parts : (s : Bool) (n : ℕ) → n ≤ 32768 → div binary64 (round binary64 s n 1) (fin false 1 (pos 8)) ≡ round binary64 s (n * 1) 256
parts s n h = div_lit binary64 (round binary64 s n 1) s n 1 0 (pos 8) (lit< tt) (round_whole binary64 s n (omega arith))

pub volts_is : (z : ℤ) → nat_abs z ≤ 32768 → by_volts z ≡ ratio z 10 32768
unfolding of_int ratio
volts_is (pos n) h = tenths false n h
volts_is (negsuc n) h = tenths true (suc n) h

pub factor_is : (z : ℤ) → nat_abs z ≤ 32768 → by_factor z ≡ ratio z 1 256
unfolding of_int ratio
factor_is (pos n) h = parts false n h
factor_is (negsuc n) h = parts true (suc n) h

-- ---- exactness

-- a number of at most 53 digits over 2 ^ k
over : (s : Bool) (q k : ℕ) → q < 2 ^ 53 → k ≤ 1074 → HasValue (round binary64 s q (2 ^ k)) s q (2 ^ k)
over s q k h l =
    round_exact binary64 s q (2 ^ k) q (1074 - k) (pow_pos k) h
    (lt_of_lt_of_le (shl_lt 53 (1074 - k) h) (pow_mono (room k)))
    (ap (λ (n : ℕ). q * n) (ap (λ (n : ℕ). 2 ^ n) (sym (meet k l)) ∙ pow-add 2 (1074 - k) k) ∙ sym (mul_assoc q (2 ^ (1074 - k)) (2 ^ k)))
  where
    room : (k : ℕ) → 53 + (1074 - k) ≤ 2098
    room k = omega arith

    meet : (k : ℕ) → k ≤ 1074 → 1074 - k + k ≡ 1074
    meet k l = omega arith

-- THE FLOAT TIMES 2 ^ k IS EXACTLY z TIMES i
pub ratio_exact : (z : ℤ) (i k : ℕ) → nat_abs z ≤ 32768 → i ≤ 10 → k ≤ 1074 → Times (ratio z i (2 ^ k)) (2 ^ k) z i
unfolding ratio
ratio_exact (pos n) i k h I K = over false (n * i) k (lt_of_le_of_lt (mul-le-mul {n₁ = n} {m₁ = i} h I) (lit< tt)) K
ratio_exact (negsuc n) i k h I K = over true (suc n * i) k (lt_of_le_of_lt (mul-le-mul {n₁ = suc n} {m₁ = i} h I) (lit< tt)) K

-- so of what the code computes from a word's number, read back from its local
module _ (by : ℤ → Float) (i k : ℕ) (is : (z : ℤ) → nat_abs z ≤ 32768 → by z ≡ ratio z i (2 ^ k)) (I : i ≤ 10) (K : k ≤ 1074) where
  pub meets : (w : ℕ) (z : ℤ) → w < 2 ^ 16 → z ≡ signed_of w
      → (by (to_z w32 (of_z w32 z)) ≡ ratio (signed_of w) i (2 ^ k)) × Times (by (to_z w32 (of_z w32 z))) (2 ^ k) (signed_of w) i
  meets w z h e =
      let p : by (to_z w32 (of_z w32 z)) ≡ ratio (signed_of w) i (2 ^ k) = ap by (back w32 _ e (size w h) tt) ∙ is (signed_of w) (size w h) in
      (p, subst (λ (y : Float). Times y (2 ^ k) (signed_of w) i) (sym p) (ratio_exact (signed_of w) i k (size w h) I K))

-- a whole number up to 2 ^ 53 as a float
pub whole_exact : (n : ℕ) → n ≤ 2 ^ 53 → Times (of_int binary64 (pos n)) 1 (pos n) 1
unfolding of_int
whole_exact n h = subst (λ (a : ℕ). HasValue (round binary64 false n 1) false a 1) (sym (mul-one n)) (round_whole binary64 false n h)
