-- The words of the laws: going one way, and lying between.
use Rattle.std.specs.Prelude.{◌⊎◌, ℕ, ◌+◌, ℤ, ◌≤ℤ◌}

-- as its argument grows the function never falls, or never rises
pub record Rises (g : ℕ → ℤ) : Type 0 where
  pub up_to : (m e : ℕ) → g m ≤ℤ g (m + e)

pub record Falls (g : ℕ → ℤ) : Type 0 where
  pub down_to : (m e : ℕ) → g (m + e) ≤ℤ g m

-- y lies between x and z, whichever of them is the lower
abbrev pub Between : ℤ → ℤ → ℤ → Type 0
Between x y z = ((x ≤ℤ y) × (y ≤ℤ z)) ⊎ ((z ≤ℤ y) × (y ≤ℤ x))
