-- The laws of the sine and of the quarter wave: each product but the lowest words' is below 32768 × 16384, by the four cases of signs,
-- and the quarters are equations of the counter's quotients, by its bit 14. Assumes nothing.
use Rattle.std.specs.Prelude.{None}
use mathlib.Core.Path.{◌≡◌, sym, ap, ◌∙◌}
use mathlib.Core.Bool.{Bool, true, false, cond}
use mathlib.Core.List.{List}
use Prim.Native.Nat.{ℕ, suc, ◌+◌, ◌*◌, ◌-◌, ◌/◌, ◌%◌, ◌≤◌, ◌<◌}
use native.Mathlib.Nat.{mul-le-mul}
use native.Mathlib.Omega.{arith}
use borrow.Author.Tests.{le-ltb, eq-eqb, ne_eqb}
use lib.IntN.{ℤ, pos, negsuc, neg_ℤ, ◌*ℤ◌}
use Rattle.word.specs.Word.{signed_of}
use Rattle.word.proofs.Sizes.{sub_ind}
use Rattle.word.proofs.Split.{up, dn, up_neg, dn_neg, of_mul, le_split, le_join}
use Rattle.word.proofs.Number.{low, negative, halves}
use Rattle.sum.specs.declared.Side.TheVariants.{Within}
use Rattle.sum.specs.Floor.{floor}
use Rattle.sum.specs.Sample.{side_of, settled}
use Rattle.sum.specs.Product.{product_of}
use Rattle.sum.proofs.Floors.{floor_is}
use Rattle.wave.specs.Sine.{index, backwards, negates, entry, wave_at, wave_word}
use Rattle.wave.specs.Laws.{InWave, SinesRight, QuartersRight, WordsInRange}

-- ---- the range

-- z goes from −d to u
abbrev Between : ℕ → ℕ → ℤ → Type 0
Between d u z = (dn z ≤ d) × (up z ≤ u)

-- the one pair whose product is too large
abbrev Lowest : ℤ → ℤ → Type 0
Lowest S x = (S ≡ negsuc 32767) × (x ≡ negsuc 16383)

word_range : (w : ℕ) → w < 65536 → Between 32768 32767 (signed_of w)
word_range w k = halves w (λ h. rw (low w h) (omega arith, omega arith)) (λ h. rw (negative w h k) (omega arith, omega arith))

wave_range : (x : ℤ) → InWave x → Between 16384 16384 x
wave_range (pos a) r = (omega arith, omega (arith, le_split (pos a) (pos 16384) r.most))
wave_range (negsuc a) r = (omega (arith, le_split (negsuc 16383) (negsuc a) r.least), omega arith)

inside : (z : ℤ) → Between 32768 32767 z → side_of z ≡ Within
unfolding side_of
inside (pos n) b = rw (le-ltb 32767 n b.1)
inside (negsuc n) b = rw (le-ltb 32767 n (omega arith))

floor_inside : (z : ℤ) → dn z ≤ up z + 32768 * 16384 → up z < dn z + 32768 * 16384 → side_of (floor z 16384) ≡ Within
floor_inside (pos n) l h = inside (pos (n / 16384)) (omega arith, omega arith)
floor_inside (negsuc n) l h = inside (negsuc (n / 16384)) (omega arith, omega arith)

-- two sizes, not both the largest; `sub_ind` tells m < 32768 from 32768 ≤ m
below : (m n : ℕ) → m ≤ 32768 → n ≤ 16384 → (m ≡ 32768 → n ≡ 16384 → ⊥) → m * n < 32768 * 16384
below m n hm hn d =
    sub_ind (λ _. m * n < 32768 * 16384) m 32768
    (λ l. omega (arith, mul-le-mul {n₁ = m} {n₂ = 32767} (omega arith) hn))
    (λ l. sub_ind (λ _. m * n < 32768 * 16384) n 16384
    (λ k. omega (arith, mul-le-mul {m₁ = n} {m₂ = 16383} hm (omega arith)))
    (λ k. absurd (d (omega arith) (omega arith))))

sizes : (S x : ℤ) → Between 32768 32767 S → Between 16384 16384 x → (Lowest S x → ⊥)
    → (up S * dn x + dn S * up x ≤ 32768 * 16384) × (up S * up x + dn S * dn x < 32768 * 16384)
sizes (pos a) (pos b) s r d = (omega arith, omega (arith, mul-le-mul s.1 r.1))
sizes (pos a) (negsuc b) s r d = (omega (arith, mul-le-mul s.1 r.0), omega arith)
sizes (negsuc a) (pos b) s r d = (omega (arith, mul-le-mul s.0 r.1), omega arith)
sizes (negsuc a) (negsuc b) s r d =
    (omega arith, omega (arith, below (suc a) (suc b) s.0 r.0 (λ e f. d (ap negsuc (omega arith), ap negsuc (omega arith)))))

product_inside : (S x : ℤ) → Between 32768 32767 S → Between 16384 16384 x → (Lowest S x → ⊥) → side_of (floor (S *ℤ x) 16384) ≡ Within
product_inside S x s r d = let k = sizes S x s r d in floor_inside (S *ℤ x) (omega (arith, of_mul S x)) (omega (arith, of_mul S x))

too_large : (amplitude : ℕ) (x : ℤ) → signed_of amplitude ≡ neg_ℤ (pos 32768) → x ≡ neg_ℤ (pos 16384) → product_of amplitude x ≡ None
unfolding side_of
too_large amplitude x e f = ap (λ (S : ℤ). settled (floor (S *ℤ x) 16384)) e ∙ ap (λ (y : ℤ). settled (floor (negsuc 32767 *ℤ y) 16384)) f

-- ---- the quarters

-- a counter below 0x8000, and one from there up
plain : (waves : List ℕ) (c counter : ℕ) → counter < 0x8000 → wave_word waves c counter ≡ wave_at waves c (entry counter)
unfolding wave_word
plain waves c counter h = rw (ne_eqb (counter / 0x8000 % 2) 1 (λ e. omega arith))

turned : (waves : List ℕ) (c counter : ℕ) → counter < 0x8000 → wave_word waves c (counter + 0x8000) ≡ neg_ℤ (wave_at waves c (entry (counter + 0x8000)))
unfolding wave_word
turned waves c counter h = rw (eq-eqb ((counter + 0x8000) / 0x8000 % 2) 1 (omega arith))

-- with bit 14 clear, and with it set
forward : (counter : ℕ) → counter / 0x4000 % 2 ≡ 0 → entry counter ≡ counter / 16 % 1024
forward counter e = rw (ne_eqb (counter / 0x4000 % 2) 1 (λ f. omega arith))

backward : (counter : ℕ) → counter / 0x4000 % 2 ≡ 1 → entry counter ≡ 1023 - counter / 16 % 1024
backward counter e = rw (eq-eqb (counter / 0x4000 % 2) 1 e)

mirror : (counter : ℕ) → counter < 0x8000 → entry (0x7FFF - counter) ≡ entry counter
mirror counter h =
    sub_ind (λ _. entry (0x7FFF - counter) ≡ entry counter) counter 0x4000
    (λ l. omega (arith, backward (0x7FFF - counter) (omega arith), forward counter (omega arith)))
    (λ l. omega (arith, forward (0x7FFF - counter) (omega arith), backward counter (omega arith)))

again : (counter : ℕ) → counter < 0x8000 → entry (counter + 0x8000) ≡ entry counter
again counter h =
    sub_ind (λ _. entry (counter + 0x8000) ≡ entry counter) counter 0x4000
    (λ l. omega (arith, forward (counter + 0x8000) (omega arith), forward counter (omega arith)))
    (λ l. omega (arith, backward (counter + 0x8000) (omega arith), backward counter (omega arith)))

-- ---- the words

in_table : (b : Bool) (i : ℕ) → i < 1024 → cond b (1023 - i) i < 1024
in_table true i h = omega arith
in_table false i h = h

negated_in_wave : (x : ℤ) → InWave x → InWave (neg_ℤ x)
negated_in_wave x r = record {
  least = le_join (negsuc 16383) (neg_ℤ x) (omega (arith, up_neg x, dn_neg x, le_split x (pos 16384) r.most));
  most = le_join (neg_ℤ x) (pos 16384) (omega (arith, up_neg x, dn_neg x, le_split (negsuc 16383) x r.least));
}

either_in_wave : (b : Bool) (x : ℤ) → InWave x → InWave (cond b (neg_ℤ x) x)
either_in_wave true x r = negated_in_wave x r
either_in_wave false x r = r

-- ---- the laws

pub sines_right : SinesRight
unfolding SinesRight
sines_right amplitude k x r = record {
  near = floor_is (signed_of amplitude *ℤ x) 16384 (omega arith);
  within = product_inside (signed_of amplitude) x (word_range amplitude k) (wave_range x r);
  beyond = too_large amplitude x;
}

pub quarters_right : QuartersRight
unfolding QuartersRight
quarters_right waves c counter h = record {
  mirrored = plain waves c (0x7FFF - counter) (omega arith) ∙ ap (wave_at waves c) (mirror counter h) ∙ sym (plain waves c counter h);
  negated = turned waves c counter h ∙ ap (λ (i : ℕ). neg_ℤ (wave_at waves c i)) (again counter h) ∙ ap neg_ℤ (sym (plain waves c counter h));
}

pub words_in_range : WordsInRange
unfolding WordsInRange wave_word
words_in_range waves c r counter = either_in_wave (negates counter) (wave_at waves c (entry counter)) (r (entry counter) (in_table (backwards counter) (index counter) (omega arith)))
