-- f, 'an exact fraction': in a segment, and at a point.
use Rattle.std.specs.Prelude.{cond, ◌≡◌, ℕ, eqb, ℤ, pos, ◌-ℤ◌, ◌*ℤ◌, ◌≤ℤ◌}

-- num / den
pub record Fraction : Type 0 where
  pub num : ℤ
  pub den : ℕ

abbrev pub whole : ℤ → Fraction
whole v = record { num = v; den = 1 }

-- f = V(n+1) − (V(n+1) − V(n))·m/Δt, all of it times Δt
abbrev pub above : ℤ → ℤ → ℕ → ℕ → ℤ
above from to step left = to *ℤ pos step -ℤ (to -ℤ from) *ℤ pos left

abbrev pub along : ℤ → ℤ → ℕ → ℕ → Fraction
along from to step left = record { num = above from to step left; den = step }

-- at a point with Δt 0 f is that V, and elsewhere it lies along the segment
abbrev pub fraction : ℤ → ℤ → ℕ → ℕ → Fraction
fraction from to step left = cond (eqb step 0) (whole from) (along from to step left)

-- two fractions have the same value, or are in order: both sides times both denominators
pub record Same (f g : Fraction) : Type 0 where
  pub same : f.num *ℤ pos g.den ≡ g.num *ℤ pos f.den

pub record Order (f g : Fraction) : Type 0 where
  pub order : (f.num *ℤ pos g.den) ≤ℤ (g.num *ℤ pos f.den)
