-- Document 02, Six, shown 'once over both, before the range check'.
use Rattle.std.specs.Prelude.{◌≡◌, ℕ, suc, ℤ, pos, negsuc, neg_ℤ, ◌+ℤ◌, ◌-ℤ◌, ◌*ℤ◌, ◌≤ℤ◌}
use Rattle.word.specs.Word.{signed_of}
use Rattle.sum.specs.Floor.{floor, ceil}
use Rattle.sum.specs.Fraction.{Fraction, fraction}
use Rattle.sum.specs.Sample.{once_of, sum_of, settled, total_of, sample_of}
use Rattle.sum.specs.declared.Edition.TheVariants.{First, Second}

-- 'Edition 1 must stay for the old benches': a sum of words, and its sample, in edition 1 are by document 01's formula. Above them every
-- definition hands the edition on, and none looks at it
pub record AsBefore (scale from to step left offset : ℕ) : Type 0 where
  pub total : total_of First scale from to step left offset ≡ once_of (signed_of scale) (fraction (signed_of from) (signed_of to) step left) (signed_of offset)
  pub sample : sample_of First scale from to step left offset
      ≡ settled (once_of (signed_of scale) (fraction (signed_of from) (signed_of to) step left) (signed_of offset))

-- 'edition 1 minus edition 2', of one sample
abbrev pub minus : ℕ → ℕ → ℕ → ℕ → ℕ → ℕ → ℤ
minus scale from to step left offset = total_of First scale from to step left offset -ℤ total_of Second scale from to step left offset

-- 'lies between 0 and the scale factor's size rounded up, on the side of the factor's sign'; S stands for S/256
abbrev pub Near : ℤ → ℤ → Type 0
Near (pos s) d = (pos 0 ≤ℤ d) × (d ≤ℤ pos (ceil s 256))
Near (negsuc s) d = (neg_ℤ (pos (ceil (suc s) 256)) ≤ℤ d) × (d ≤ℤ pos 0)

pub record TwoRoundings : Type 0 where
  -- edition 2 is floor(S·floor(f)/256) + offset
  pub twice : (S : ℤ) (f : Fraction) (offset : ℤ) → sum_of Second S f offset ≡ floor (S *ℤ floor f.num f.den) 256 +ℤ offset
  -- 'they agree at every table point': all of its time step left, or at the end point
  pub points : (scale from to step offset : ℕ) → total_of First scale from to step step offset ≡ total_of Second scale from to step step offset
  -- 'and wherever S is 0x0100'
  pub one : (from to step left offset : ℕ) → total_of First 0x0100 from to step left offset ≡ total_of Second 0x0100 from to step left offset
  pub near : (scale from to step left offset : ℕ) → Near (signed_of scale) (minus scale from to step left offset)
