-- Integers for `omega`, which reads ℕ only: z is up z − dn z, and each operation, order and equation of integers is one of those two parts.
-- A product is a sum of monomials, which `omega` multiplies out; a fact times a factor has to be handed over multiplied. Assumes nothing.
use Rattle.std.proofs.Common.{◌≡◌, ℕ, zero, suc, ◌+◌, ◌*◌, ◌<◌, ◌≤◌, ℤ, pos, negsuc, ◌+ℤ◌, ◌-ℤ◌, ◌*ℤ◌, neg_ℤ, ◌≤ℤ◌, ◌<ℤ◌, refl, ap, arith, le→leb, ltb→lt, lt→ltb, leb→le}
use lib.IntN.{sub_ℕ}
use Rattle.word.proofs.Sizes.{sub_ind}

abbrev pub up : ℤ → ℕ
up (pos a) = a
up (negsuc a) = 0

abbrev pub dn : ℤ → ℕ
dn (pos a) = 0
dn (negsuc a) = suc a

-- ---- operations
of_sub : (a b : ℕ) → up (sub_ℕ a b) + b ≡ dn (sub_ℕ a b) + a
of_sub a b = sub_ind (λ z. up z + b ≡ dn z + a) a b (λ h. omega arith) (λ h. omega arith)

pub of_add : (x y : ℤ) → up (x +ℤ y) + (dn x + dn y) ≡ dn (x +ℤ y) + (up x + up y)
of_add (pos a) (pos b) = omega arith
of_add (pos a) (negsuc b) = omega (arith, of_sub a (suc b))
of_add (negsuc a) (pos b) = omega (arith, of_sub b (suc a))
of_add (negsuc a) (negsuc b) = omega arith

pub up_neg : (x : ℤ) → up (neg_ℤ x) ≡ dn x
up_neg (pos zero) = refl
up_neg (pos (suc a)) = refl
up_neg (negsuc a) = refl

pub dn_neg : (x : ℤ) → dn (neg_ℤ x) ≡ up x
dn_neg (pos zero) = refl
dn_neg (pos (suc a)) = refl
dn_neg (negsuc a) = refl

pub of_minus : (x y : ℤ) → up (x -ℤ y) + (dn x + up y) ≡ dn (x -ℤ y) + (up x + dn y)
of_minus x y = omega (arith, of_add x (neg_ℤ y), up_neg y, dn_neg y)

pub of_mul : (x y : ℤ) → up (x *ℤ y) + (up x * dn y + dn x * up y) ≡ dn (x *ℤ y) + (up x * up y + dn x * dn y)
of_mul (pos a) (pos b) = omega arith
of_mul (pos a) (negsuc b) = omega (arith, up_neg (pos (a * suc b)), dn_neg (pos (a * suc b)))
of_mul (negsuc a) (pos b) = omega (arith, up_neg (pos (suc a * b)), dn_neg (pos (suc a * b)))
of_mul (negsuc a) (negsuc b) = omega arith

-- ---- orders and equations
pub le_split : (x y : ℤ) → x ≤ℤ y → up x + dn y ≤ up y + dn x
le_split (pos a) (pos b) h = omega (arith, leb→le a b h.le)
le_split (pos a) (negsuc b) h = absurd h.le
le_split (negsuc a) (pos b) h = omega arith
le_split (negsuc a) (negsuc b) h = omega (arith, leb→le b a h.le)

pub le_join : (x y : ℤ) → up x + dn y ≤ up y + dn x → x ≤ℤ y
le_join (pos a) (pos b) h = record { le = le→leb a b (omega arith) }
le_join (pos a) (negsuc b) h = absurd (no a b h)
  where
    no : (a b : ℕ) → a + suc b ≤ 0 + 0 → ⊥
    no a b h = omega arith
le_join (negsuc a) (pos b) h = record { le = tt }
le_join (negsuc a) (negsuc b) h = record { le = le→leb b a (omega arith) }

pub lt_split : (x y : ℤ) → x <ℤ y → up x + dn y < up y + dn x
lt_split (pos a) (pos b) h = omega (arith, ltb→lt a b h.lt)
lt_split (pos a) (negsuc b) h = absurd h.lt
lt_split (negsuc a) (pos b) h = omega arith
lt_split (negsuc a) (negsuc b) h = omega (arith, ltb→lt b a h.lt)

pub lt_join : (x y : ℤ) → up x + dn y < up y + dn x → x <ℤ y
lt_join (pos a) (pos b) h = record { lt = lt→ltb a b (omega arith) }
lt_join (pos a) (negsuc b) h = absurd (no a b h)
  where
    no : (a b : ℕ) → a + suc b < 0 + 0 → ⊥
    no a b h = omega arith
lt_join (negsuc a) (pos b) h = record { lt = tt }
lt_join (negsuc a) (negsuc b) h = record { lt = lt→ltb b a (omega arith) }

pub eq_join : (x y : ℤ) → up x + dn y ≡ up y + dn x → x ≡ y
eq_join (pos a) (pos b) h = ap pos (omega arith)
eq_join (pos a) (negsuc b) h = absurd (no a b h)
  where
    no : (a b : ℕ) → a + suc b ≡ 0 + 0 → ⊥
    no a b h = omega arith
eq_join (negsuc a) (pos b) h = absurd (no a b h)
  where
    no : (a b : ℕ) → 0 + 0 ≡ b + suc a → ⊥
    no a b h = omega arith
eq_join (negsuc a) (negsuc b) h = ap negsuc (omega arith)
