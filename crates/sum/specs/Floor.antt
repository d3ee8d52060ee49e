-- 'floor toward minus infinity': an integer over a positive number, rounded down; and of plain numbers the quotient rounded up.
use Rattle.std.specs.Prelude.{ℕ, ◌+◌, ◌*◌, ◌-◌, ◌/◌, ◌≤◌, ◌<◌, ℤ, pos, negsuc, ◌+ℤ◌, ◌*ℤ◌, ◌≤ℤ◌, ◌<ℤ◌}

-- negsuc a is −(a + 1): the d numbers below 0 go to −1, the d below those to −2, and so on
abbrev pub floor : ℤ → ℕ → ℤ
floor (pos a) d = pos (a / d)
floor (negsuc a) d = negsuc (a / d)

-- what makes q the floor of n/d: q·d ≤ n < (q + 1)·d. `floor n d` is such a q, and the only one (proofs/Floors)
pub record IsFloor (n : ℤ) (d : ℕ) (q : ℤ) : Type 0 where
  pub low : (q *ℤ pos d) ≤ℤ n
  pub high : n <ℤ ((q +ℤ pos 1) *ℤ pos d)

-- 'rounded up': the least number whose multiple of d is not below n
abbrev pub ceil : ℕ → ℕ → ℕ
ceil n d = (n + (d - 1)) / d

-- what makes q that: n ≤ q·d < n + d. `ceil n d` is such a q, and the only one (proofs/Floors)
pub record IsCeil (n d q : ℕ) : Type 0 where
  pub enough : n ≤ q * d
  pub least : q * d < n + d
