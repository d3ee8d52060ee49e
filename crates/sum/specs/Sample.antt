-- 'The sum and its rounding'; and document 02, Six: 'The second hardware edition cuts f to a whole number (floor) before scaling, then cuts
-- again. Edition 1 must stay for the old benches.'
use Rattle.std.specs.Prelude.{cond, ℕ, ◌*◌, ℤ, pos, neg_ℤ, ◌+ℤ◌, ◌*ℤ◌, Option, Some, None}
use Rattle.std.specs.Int.Signed.{lt_z}
use Rattle.word.specs.Word.{signed_of, word_of}
use Rattle.sum.specs.Floor.{floor}
use Rattle.sum.specs.Fraction.{Fraction, whole, fraction}
use Rattle.sum.specs.declared.Edition.{Edition}
use Rattle.sum.specs.declared.Edition.TheVariants.{First, Second}
use Rattle.sum.specs.declared.Side.{Side}
use Rattle.sum.specs.declared.Side.TheVariants.{Below, Within, Above}

-- floor(S·f/256) + offset, the floor applied once
abbrev pub once_of : ℤ → Fraction → ℤ → ℤ
once_of S f offset = floor (S *ℤ f.num) (256 * f.den) +ℤ offset

-- what is scaled: in edition 1 f itself, in edition 2 f cut to a whole number
abbrev pub cut : Edition → Fraction → Fraction
cut First f = f
cut Second f = whole (floor f.num f.den)

-- the sum of an edition
abbrev pub sum_of : Edition → ℤ → Fraction → ℤ → ℤ
sum_of edition S f offset = once_of S (cut edition f) offset

-- only this last sum is checked: −32768..32767
unfoldable pub side_of : ℤ → Side
side_of z = cond (lt_z z (neg_ℤ (pos 32768))) Below (cond (lt_z (pos 32767) z) Above Within)

abbrev pub on_side : Side → ℤ → Option ℕ
on_side Below z = None
on_side Within z = Some (word_of z)
on_side Above z = None

abbrev pub settled : ℤ → Option ℕ
settled z = on_side (side_of z) z

-- the same of words: S, offset and the two points signed, Δt and the samples left plain
abbrev pub total_of : Edition → ℕ → ℕ → ℕ → ℕ → ℕ → ℕ → ℤ
total_of edition scale from to step left offset = sum_of edition (signed_of scale) (fraction (signed_of from) (signed_of to) step left) (signed_of offset)

abbrev pub sample_of : Edition → ℕ → ℕ → ℕ → ℕ → ℕ → ℕ → Option ℕ
sample_of edition scale from to step left offset = settled (total_of edition scale from to step left offset)
