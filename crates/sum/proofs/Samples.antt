-- Laws of the sum in both editions, before its range is checked: it goes with the fraction's value alone, in its order or against it by the
-- sign of S. Each is shown of one floor, brought to one denominator, where the floor keeps the order; and what an edition scales keeps values,
-- order and points. Assumes nothing.
use mathlib.Core.Path.{◌≡◌, refl, sym, ap, ◌∙◌}
use mathlib.Core.Logic.{◌⊎◌, inl, inr}
use Prim.Native.Nat.{ℕ, zero, suc, ◌+◌, ◌*◌, ◌-◌, ◌≤◌, ◌<◌}
use native.Mathlib.Nat.{mul-le-mul_left, mul-pos}
use native.Mathlib.Omega.{arith}
use lib.Dec.{eqb-suc-zero}
use lib.IntN.{ℤ, pos, negsuc, ◌+ℤ◌, ◌*ℤ◌}
use lib.Signed.{◌≤ℤ◌, ≤ℤ_refl}
use Rattle.word.specs.Word.{signed_of}
use Rattle.word.proofs.Split.{up, dn, of_add, of_mul, le_split, le_join, eq_join}
use Rattle.sum.specs.Floor.{floor}
use Rattle.sum.specs.Fraction.{Fraction, whole, along, fraction, Same, Order}
use Rattle.sum.specs.Sample.{once_of, cut, sum_of, sample_of, settled}
use Rattle.sum.specs.declared.Edition.{Edition}
use Rattle.sum.specs.declared.Edition.TheVariants.{First, Second}
use Rattle.sum.specs.Order.{Rises, Falls, Between}
use Rattle.sum.proofs.Floors.{floor_one, floor_cancel, floor_mono}
use Rattle.sum.proofs.Fractions.{either, at_start, at_end, climbs, drops, over_one}

-- (S·x)·d is S·(x·d)
assoc : (S x : ℤ) (d : ℕ) → (S *ℤ x) *ℤ pos d ≡ S *ℤ (x *ℤ pos d)
assoc S x d = eq_join _ _ (omega (arith, of_mul (S *ℤ x) (pos d), ap (λ (k : ℕ). k * d) (of_mul S x), of_mul S (x *ℤ pos d), ap (λ (k : ℕ). up S * k) (of_mul x (pos d)), ap (λ (k : ℕ). dn S * k) (of_mul x (pos d))))

-- the floor of S·f/256, over f's denominator times d
wide : (S : ℤ) (f : Fraction) (d : ℕ) → 0 < f.den → 0 < d → floor (S *ℤ (f.num *ℤ pos d)) (256 * f.den * d) ≡ floor (S *ℤ f.num) (256 * f.den)
wide S f d hf hd = ap (λ (z : ℤ). floor z (256 * f.den * d)) (sym (assoc S f.num d)) ∙ floor_cancel (S *ℤ f.num) (256 * f.den) d (omega arith) hd

module _ (S o : ℤ) (f g : Fraction) (hf : 0 < f.den) (hg : 0 < g.den) where
  -- both sums over the one denominator
  left : floor (S *ℤ (f.num *ℤ pos g.den)) (256 * f.den * g.den) +ℤ o ≡ once_of S f o
  left = ap (λ (z : ℤ). z +ℤ o) (wide S f g.den hf hg)

  right : floor (S *ℤ (g.num *ℤ pos f.den)) (256 * f.den * g.den) +ℤ o ≡ once_of S g o
  right = ap (λ (z : ℤ). z +ℤ o) (ap (floor (S *ℤ (g.num *ℤ pos f.den))) (omega arith) ∙ wide S g f.den hg hf)

  same_once : Same f g → once_of S f o ≡ once_of S g o
  same_once e = sym left ∙ ap (λ (z : ℤ). floor (S *ℤ z) (256 * f.den * g.den) +ℤ o) e.same ∙ right

-- a factor keeps the order, or turns it round; a summand keeps it
times_pos : (s : ℕ) (x y : ℤ) → x ≤ℤ y → (pos s *ℤ x) ≤ℤ (pos s *ℤ y)
times_pos s x y l = le_join (pos s *ℤ x) (pos s *ℤ y) (omega (arith, of_mul (pos s) x, of_mul (pos s) y, mul-le-mul_left s (le_split x y l)))

times_neg : (s : ℕ) (x y : ℤ) → x ≤ℤ y → (negsuc s *ℤ y) ≤ℤ (negsuc s *ℤ x)
times_neg s x y l = le_join (negsuc s *ℤ y) (negsuc s *ℤ x) (omega (arith, of_mul (negsuc s) x, of_mul (negsuc s) y, mul-le-mul_left (suc s) (le_split x y l)))

plus : (x y o : ℤ) → x ≤ℤ y → (x +ℤ o) ≤ℤ (y +ℤ o)
plus x y o l = le_join (x +ℤ o) (y +ℤ o) (omega (arith, le_split x y l, of_add x o, of_add y o))

module _ (s : ℕ) (o : ℤ) (f g : Fraction) (hf : 0 < f.den) (hg : 0 < g.den) (l : Order f g) where
  room : 0 < 256 * f.den * g.den
  room = mul-pos (omega arith) hg

  pub rises_once : once_of (pos s) f o ≤ℤ once_of (pos s) g o
  rises_once = rw (← left (pos s) o f g hf hg, ← right (pos s) o f g hf hg) (plus _ _ o (floor_mono _ _ (256 * f.den * g.den) room (times_pos s _ _ l.order)))

  pub falls_once : once_of (negsuc s) g o ≤ℤ once_of (negsuc s) f o
  falls_once = rw (← left (negsuc s) o f g hf hg, ← right (negsuc s) o f g hf hg) (plus _ _ o (floor_mono _ _ (256 * f.den * g.den) room (times_neg s _ _ l.order)))

-- ---- what an edition scales

cut_some : (ed : Edition) (f : Fraction) → 0 < f.den → 0 < (cut ed f).den
cut_some First f h = h
cut_some Second f h = omega arith

pub cut_whole : (ed : Edition) (v : ℤ) → cut ed (whole v) ≡ whole v
cut_whole First v = refl
cut_whole Second v = ap whole (floor_one v)

module _ (f g : Fraction) (hf : 0 < f.den) (hg : 0 < g.den) where
  -- both cuts over the one denominator
  cut_left : floor (f.num *ℤ pos g.den) (f.den * g.den) ≡ floor f.num f.den
  cut_left = floor_cancel f.num f.den g.den hf hg

  cut_right : floor (g.num *ℤ pos f.den) (f.den * g.den) ≡ floor g.num g.den
  cut_right = ap (floor (g.num *ℤ pos f.den)) (omega arith) ∙ floor_cancel g.num g.den f.den hg hf

  cut_same : (ed : Edition) → Same f g → Same (cut ed f) (cut ed g)
  cut_same First e = e
  cut_same Second e =
      record { same = ap (λ (z : ℤ). z *ℤ pos 1) (sym cut_left ∙ ap (λ (z : ℤ). floor z (f.den * g.den)) e.same ∙ cut_right) }

  cut_order : (ed : Edition) → Order f g → Order (cut ed f) (cut ed g)
  cut_order First l = l
  cut_order Second l = over_one 1 (rw (← cut_left, ← cut_right) (floor_mono _ _ (f.den * g.den) (mul-pos hf hg) l.order))

-- ---- both editions

-- EQUAL FRACTIONS GIVE EQUAL SUMS
pub same_sum : (ed : Edition) (S o : ℤ) (f g : Fraction) → 0 < f.den → 0 < g.den → Same f g → sum_of ed S f o ≡ sum_of ed S g o
same_sum ed S o f g hf hg e = same_once S o (cut ed f) (cut ed g) (cut_some ed f hf) (cut_some ed g hg) (cut_same f g hf hg ed e)

-- MONOTONE IN f: with S not negative the sum goes with f, with S negative against it
module _ (ed : Edition) (s : ℕ) (o : ℤ) (f g : Fraction) (hf : 0 < f.den) (hg : 0 < g.den) (l : Order f g) where
  pub rises : sum_of ed (pos s) f o ≤ℤ sum_of ed (pos s) g o
  rises = rises_once s o (cut ed f) (cut ed g) (cut_some ed f hf) (cut_some ed g hg) (cut_order f g hf hg ed l)

  pub falls : sum_of ed (negsuc s) g o ≤ℤ sum_of ed (negsuc s) f o
  falls = falls_once s o (cut ed f) (cut ed g) (cut_some ed f hf) (cut_some ed g hg) (cut_order f g hf hg ed l)

-- AT A POINT'S OWN VALUE EVERY EDITION GIVES DOCUMENT 01'S SUM
pub at_whole : (ed : Edition) (S o v : ℤ) → sum_of ed S (whole v) o ≡ once_of S (whole v) o
at_whole ed S o v = ap (λ (f : Fraction). once_of S f o) (cut_whole ed v)

-- AT m = Δt THE SUM IS THE POINT'S OWN, whatever comes after it
pub at_point : (ed : Edition) (S o a b : ℤ) (step : ℕ) → sum_of ed S (fraction a b step step) o ≡ sum_of ed S (whole a) o
at_point ed S o a b zero = refl
at_point ed S o a b (suc k) = rw (eqb-suc-zero k) (same_sum ed S o (along a b (suc k) (suc k)) (whole a) (omega arith) (omega arith) (at_start a b (suc k)))

pub point_sample : (ed : Edition) (scale from to step offset to' left' : ℕ) → sample_of ed scale from to step step offset ≡ sample_of ed scale from to' 0 left' offset
point_sample ed scale from to step offset to' left' = ap settled (at_point ed (signed_of scale) (signed_of offset) (signed_of from) (signed_of to) step)

-- a point's own sample is the same in every edition
pub own_sample : (ed : Edition) (scale v offset : ℕ) → sample_of ed scale v v 0 0 offset ≡ sample_of First scale v v 0 0 offset
own_sample ed scale v offset = ap settled (at_whole ed (signed_of scale) (signed_of offset) (signed_of v))

-- ALONG A SEGMENT THE SUM GOES ONE WAY, over the samples left
module _ (ed : Edition) (a b o : ℤ) (d : ℕ) (h : 0 < d) where
  by_sign : (S : ℤ) → (a ≤ℤ b) ⊎ (b ≤ℤ a) → Rises (λ m. sum_of ed S (along a b d m) o) ⊎ Falls (λ m. sum_of ed S (along a b d m) o)
  by_sign (pos s) (inl l) = inr (record { down_to = λ m e. rises ed s o (along a b d (m + e)) (along a b d m) h h (over_one d (climbs a b d m e l)) })
  by_sign (pos s) (inr l) = inl (record { up_to = λ m e. rises ed s o (along a b d m) (along a b d (m + e)) h h (over_one d (drops a b d m e l)) })
  by_sign (negsuc s) (inl l) = inl (record { up_to = λ m e. falls ed s o (along a b d (m + e)) (along a b d m) h h (over_one d (climbs a b d m e l)) })
  by_sign (negsuc s) (inr l) = inr (record { down_to = λ m e. falls ed s o (along a b d m) (along a b d (m + e)) h h (over_one d (drops a b d m e l)) })

pub one_way : (ed : Edition) (S o a b : ℤ) (step : ℕ) → Rises (λ m. sum_of ed S (fraction a b step m) o) ⊎ Falls (λ m. sum_of ed S (fraction a b step m) o)
one_way ed S o a b zero = inl (record { up_to = λ m e. ≤ℤ_refl _ })
one_way ed S o a b (suc k) = rw (eqb-suc-zero k) (by_sign ed a b o (suc k) (omega arith) S (either a b))

-- WITHIN A SEGMENT EVERY SUM LIES BETWEEN THOSE OF ITS TWO POINTS
module _ (ed : Edition) (S o a b : ℤ) (d m : ℕ) (h : 0 < d) (l : m ≤ d) where
  abbrev at : ℕ → ℤ
  at k = sum_of ed S (along a b d k) o

  first : at d ≡ sum_of ed S (whole a) o
  first = same_sum ed S o (along a b d d) (whole a) h (omega arith) (at_start a b d)

  second : at 0 ≡ sum_of ed S (whole b) o
  second = same_sum ed S o (along a b d 0) (whole b) h (omega arith) (at_end a b d)

  pub between_points : Between (sum_of ed S (whole a) o) (at m) (sum_of ed S (whole b) o)
  between_points = rw (← first, ← second) (go (by_sign ed a b o d h S (either a b)))
    where
      to_d : m + (d - m) ≡ d
      to_d = omega arith

      from_0 : 0 + m ≡ m
      from_0 = omega arith

      go : Rises at ⊎ Falls at → Between (at d) (at m) (at 0)
      go (inl r) = inr (rw from_0 at (r.up_to 0 m), rw to_d at (r.up_to m (d - m)))
      go (inr f) = inl (rw to_d at (f.down_to m (d - m)), rw from_0 at (f.down_to 0 m))
