-- `word::signed`: the word's bits read as a signed number are the definition's.
use Rattle.std.proofs.Common.{◌≡◌, ◌<◌, ◌^◌, ℕ, sym, ap, ◌∙◌, arith, w16, w32, to_z, negsuc, le-ltb}
use mir.Facts.{to_z_pos}
use Rattle.word.specs.Word.{signed_of}
use Rattle.word.proofs.Sizes.{back, kept}
use Rattle.word.proofs.Number.{low, negative, halves, size}
use Rattle.word.proofs.signed.Goals as goal

-- a word's bits, as the cast reads them
bits : (w : ℕ) → w < 2 ^ 16 → to_z w16 w ≡ signed_of w
bits w k =
    halves w (λ h. to_z_pos w16 h ∙ sym (low w h))
    (λ h. rw (le-ltb w 0x8000 h) (ap negsuc (omega arith)) ∙ sym (negative w h k))

pub returns : goal.returns
returns c =
    back w32 _ (c.from.ensures ∙ kept w16 _ c.cast_signed.type_inv ∙ c.cast_signed.ensures ∙ bits _ c.ranges.word.fits)
    (size _ c.ranges.word.fits) tt
