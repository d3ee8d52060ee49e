-- Words as signed numbers: their size, and that a word and its number name each other. Assumes nothing.
use Rattle.std.proofs.Common.{◌≡◌, ℕ, suc, ◌+◌, ◌-◌, ◌<◌, ◌≤◌, Bool, true, false, not, T, ltb, ℤ, pos, negsuc, ◌-ℤ◌, nat_abs, refl, ap, ◌∙◌, arith, ltb→lt, nltb→le, ltb-false, le-ltb, lt-ltb}
use lib.Signed.{lt_z}
use Rattle.word.specs.Word.{signed_of, word_of, grown}
use Rattle.word.proofs.Sizes.{sub_ind}

-- a word below 0x8000, and one from there up
pub low : (w : ℕ) → w < 0x8000 → signed_of w ≡ pos w
unfolding signed_of
low w h = rw (lt-ltb w 0x8000 h)

pub high : (w : ℕ) → 0x8000 ≤ w → signed_of w ≡ pos w -ℤ pos 0x10000
unfolding signed_of
high w h = rw (le-ltb w 0x8000 h)

-- and below 0x10000, as a negative number
pub negative : (w : ℕ) → 0x8000 ≤ w → w < 0x10000 → signed_of w ≡ negsuc (0xFFFF - w)
negative w h k = high w h ∙ sub_ind (λ z. z ≡ negsuc (0xFFFF - w)) w 0x10000 (λ l. ap negsuc (omega arith)) (λ l. absurd (omega arith))

pub halves : {P : Type 0} (w : ℕ) → (w < 0x8000 → P) → (0x8000 ≤ w → P) → P
halves {P} w f g = by (ltb w 0x8000) (ltb→lt w 0x8000) (nltb→le w 0x8000)
  where
    by : (b : Bool) → (T b → w < 0x8000) → (T (not b) → 0x8000 ≤ w) → P
    by true p q = f (p tt)
    by false p q = g (q tt)

pub size : (w : ℕ) → w < 0x10000 → nat_abs (signed_of w) ≤ 0x8000
size w k = halves w (λ h. rw (low w h) (omega arith)) (λ h. rw (negative w h k) (omega arith))

-- the word of a word's number is the word
pub word_of_signed : (w : ℕ) → w < 0x10000 → word_of (signed_of w) ≡ w
word_of_signed w k = halves w (λ h. rw (low w h)) (λ h. rw (negative w h k) (omega arith))

-- the number of a number's word is the number, from −32768 to 32767
pub signed_of_word : (z : ℤ) → lt_z z (negsuc 32767) ≡ false → lt_z (pos 32767) z ≡ false → (signed_of (word_of z) ≡ z) × (word_of z < 0x10000)
signed_of_word (pos n) l h = let k = ltb-false 32767 n h in (low n (omega arith), omega arith)
signed_of_word (negsuc n) l h =
    let k = ltb-false 32767 n l in
    (negative (0x10000 - suc n) (omega arith) (omega arith) ∙ ap negsuc (omega arith), omega arith)

-- a counter: one more, and at 65,535 round to 0
pub grows : (n : ℕ) → n < 65535 → grown n ≡ n + 1
grows n h = omega arith

pub goes_round : grown 65535 ≡ 0
goes_round = refl
