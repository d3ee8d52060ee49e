-- `wave::wave_word`: the negative of the word read fits an i32, and is the definition's.
use mathlib.Core.Path.{◌≡◌, ap, ◌∙◌}
use Prim.Native.Nat.{ℕ, ◌≤◌, ◌<◌, ◌^◌}
use lib.IntN.{ℤ, pos, neg_ℤ, nat_abs, ◌-ℤ◌, +ℤ_idl}
use mir.Syntax.{w32}
use mir.Val.{to_z, of_z}
use Rattle.word.specs.Word.{signed_of}
use Rattle.word.proofs.Sizes.{size_neg, fits, back}
use Rattle.word.proofs.Number.{size}
use Rattle.wave.specs.Sine.{wave_at, wave_word, entry}
use Rattle.wave.proofs.wave_word.Goals as goal

-- the word w that is read, its number r, and what the definition reads, z
module _ (w : ℕ) (r z : ℤ) (h : w < 2 ^ 16) (e : r ≡ signed_of w) (f : signed_of w ≡ z) where
  size_read : nat_abs z ≤ 0x8000
  size_read = rw (← f) (size w h)

  negative_is : pos 0 -ℤ to_z w32 (of_z w32 r) ≡ neg_ℤ z
  negative_is = +ℤ_idl _ ∙ ap neg_ℤ (back w32 z (e ∙ f) size_read tt)

  negative_size : nat_abs (neg_ℤ z) ≤ 0x8000
  negative_size = rw (size_neg z) size_read

pub overflow_sub-result : goal.overflow_sub-result
overflow_sub-result c =
    let a = c.args in
    let f : signed_of c.get.result ≡ wave_at a.waves.now a.c (entry a.counter) = cc in
    rw (negative_is _ _ _ c.get.type_inv c.signed-v.ensures f) (fits w32 _ (negative_size _ _ _ c.get.type_inv c.signed-v.ensures f) tt)

pub returns-then-counter-eq1 : goal.returns-then-counter-eq1
unfolding wave_word
returns-then-counter-eq1 c =
    let a = c.args in
    let f : signed_of c.get.result ≡ wave_at a.waves.now a.c (entry a.counter) = cc in
    rw c.if-counter-eq1.true
    (back w32 _ (negative_is _ _ _ c.get.type_inv c.signed-v.ensures f) (negative_size _ _ _ c.get.type_inv c.signed-v.ensures f) tt)
