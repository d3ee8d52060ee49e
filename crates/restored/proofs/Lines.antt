-- The saved text has one line for each frame (`lines_are`), and a line is read back as the write of the words that it was made of.
use Rattle.std.specs.Prelude.{Some}
-- Assumes nothing.
use mathlib.Core.Path.{◌≡◌, refl, ap, ◌∙◌}
use mathlib.Core.Bool.{Bool, true, false, ◌&&◌, cond}
use mathlib.Core.List.{List, [], ◌∷◌, ◌++◌, map, append-nil, append_assoc}
use Prim.Native.Nat.{ℕ, zero, suc, ◌+◌, ◌*◌, ◌-◌, ◌/◌, ◌≤◌, ◌<◌}
use native.Mathlib.Omega.{arith}
use lib.Dec.{eqb}
use lib.ListN.{length, get_or}
use borrow.Author.Tests.{eq-eqb, ne_eqb, le-leb}
use Rattle.word.specs.Every.{every}
use Rattle.digits.specs.Digits.{is_digit, all_digits, byte_at, word_at, hex2}
use Rattle.digits.proofs.Back.{Small, text_digits, text_first, text_length, text_words}
use Rattle.line.specs.declared.Frame.TheVariants.{Write}
use Rattle.line.specs.Frame.{words_of, frame_of, write_frame}
use Rattle.line.specs.Session.{lines_from, lines_of}
use Rattle.line.proofs.Frames.{frame_named}
use Rattle.saved.specs.declared.Span.{Span}
use Rattle.saved.specs.Saved.{words_at, frames, frame_text, text_of, saved_text}
use Rattle.saved.proofs.Text.{length_words_at}
use Rattle.saved.proofs.Frames.{frames_are}
use Rattle.restored.specs.Restored.{LinesAre}

-- ---- the lines of the text

-- no digit is LF
line_first : (x p s : List ℕ) → all_digits x ≡ true → lines_from p (x ++ 10 ∷ s) ≡ (p ++ x) ∷ lines_from [] s
unfolding lines_from every
line_first [] p s d = cc (append-nil p)
line_first (b ∷ x) p s d = go (is_digit b) refl d (line_first x (p ++ b ∷ []) s)
  where
    go : (t : Bool) → is_digit b ≡ t → t && every is_digit x ≡ true → (every is_digit x ≡ true → lines_from (p ++ b ∷ []) (x ++ 10 ∷ s) ≡ ((p ++ b ∷ []) ++ x) ∷ lines_from [] s)
        → cond (eqb b 10) (p ∷ lines_from [] (x ++ 10 ∷ s)) (lines_from (p ++ b ∷ []) (x ++ 10 ∷ s)) ≡ (p ++ b ∷ x) ∷ lines_from [] s
    go true e d r =
        rw (ne_eqb b 10 (λ f. cc))
        (cc (r d, append_assoc p (b ∷ []) x))
    go false e d r = absurd cc

lines_of_lem : (s : List ℕ) (l : List Span) → lines_of (text_of s l) ≡ map (frame_text s) l
unfolding text_of lines_from frame_text
lines_of_lem s [] = refl
lines_of_lem s (x ∷ l) =
    cc (
      append_assoc (frame_text s x) (10 ∷ []) (text_of s l),
      line_first (frame_text s x) [] (text_of s l) (text_digits 0x01 x.first (words_at s x.first x.count)),
      lines_of_lem s l,
    )

one_each : (s : List ℕ) → lines_of (saved_text s) ≡ map (frame_text s) frames
unfolding saved_text
one_each s = lines_of_lem s frames

many_lines : (s : List ℕ) (l : List Span) → length (map (frame_text s) l) ≡ length l
many_lines s [] = refl
many_lines s (x ∷ l) = ap suc (many_lines s l)

-- ONE LINE FOR EACH FRAME, 173 in all
pub lines_are : LinesAre
lines_are = record { each = one_each; many = λ s. ap length (one_each s) ∙ many_lines s frames ∙ frames_are.lines }

-- ---- a line, read back

small_words_at : (s : List ℕ) → ((a : ℕ) → get_or s a 0 < 65536) → (a n : ℕ) → Small (words_at s a n)
unfolding words_at
small_words_at s h a zero = tt
small_words_at s h a (suc n) = (h a, small_words_at s h (suc a) n)

-- the write that a line of its length says
write_read : (s : List ℕ) (n : ℕ) → length s ≡ 6 + 4 * n → n ≤ 64 → write_frame s ≡ Some (Write (word_at s 2) n)
unfolding write_frame
write_read s n l h =
    let e : (length s - 6) / 4 ≡ n = omega arith in
    rw (e, eq-eqb (length s) (6 + 4 * n) l, le-leb n 64 h)

module _ (s : List ℕ) (x : Span) where
  pub frame_is : x.first < 65536 → x.count ≤ 64 → frame_of (frame_text s x) ≡ Some (Write x.first x.count)
  unfolding frame_text byte_at hex2
  frame_is h k =
      let ws : List ℕ = words_at s x.first x.count in
      let n : length (words_at s x.first x.count) ≡ x.count = length_words_at s x.first x.count in
      cc (
        frame_named (frame_text s x) 1 (text_digits 0x01 x.first ws) refl,
        write_read (frame_text s x) x.count (cc (text_length 0x01 x.first ws)) k,
        text_first 0x01 x.first ws h,
      )

  pub words_are : ((a : ℕ) → get_or s a 0 < 65536) → words_of x.count (frame_text s x) ≡ words_at s x.first x.count
  unfolding frame_text
  words_are h =
      let ws : List ℕ = words_at s x.first x.count in
      cc (length_words_at s x.first x.count, text_words 0x01 x.first ws (small_words_at s h x.first x.count))
