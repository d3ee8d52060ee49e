-- Frames by their name, the bounds on what they carry, and what a frame does to the card. Assumes nothing.
use Rattle.std.specs.Prelude.{Option, Some, None}
use mathlib.Core.Path.{◌≡◌, ◌∙◌, ap, sym, refl, subst}
use mathlib.Core.Bool.{Bool, true, false, cond}
use mathlib.Core.List.{List}
use Prim.Native.Nat.{ℕ, zero, suc, ◌+◌, ◌*◌, ◌≤◌}
use native.Mathlib.Omega.{arith}
use borrow.Author.Tests.{leb-true}
use Rattle.std.proofs.lemmas.Bool.{cond_both}
use lib.Dec.{leb, eqb, ltb}
use lib.ListN.{length, set, take, replicate, length-set}
use lib.Seq.{sets, length-take-le}
use Rattle.digits.specs.Digits.{all_digits, byte_at, word_at, hex2, hex4, hex_all}
use Rattle.map.specs.Map.{region_of}
use Rattle.card.specs.declared.Card.{Card}
use Rattle.card.specs.Card.{State}
use Rattle.card.proofs.Ticks.{same_state}
use Rattle.transfer.specs.declared.Reply.{Reply}
use Rattle.transfer.specs.Word.{read_word}
use Rattle.transfer.specs.Transfer.{Out, Filled, number_of, processed_of, reply_of, read_words, read_in, read_of, bad_count, readable}
use Rattle.line.specs.declared.Frame.{Frame}
use Rattle.line.specs.declared.Frame.TheVariants.{Write, Read, Ticks, Event}
use Rattle.line.specs.Frame.{words_in, named, frame_of, write_frame, read_frame, ticks_frame, event_frame}
use Rattle.line.specs.Answer.{head_of, read_text, outputs_of, outputs_text, wrote, ticked, on_frame, step_of, Puts, Answers}
use Rattle.digits.proofs.Digits.{then_at, length_hex2}
use Rattle.line.proofs.Heads.{length_head_of, length_read}
use Rattle.map.specs.declared.Region.{Region}

-- ---- frames by their name

pub frame_named : (s : List ℕ) (b : ℕ) → all_digits s ≡ true → byte_at s 0 ≡ b → frame_of s ≡ named b s
unfolding frame_of
frame_named s b h e = rw (h, e)

pub step_is : (w : List ℕ) (st : State) (s : List ℕ) (f : Option Frame) → frame_of s ≡ f → step_of w st s ≡ on_frame w st s f
unfolding step_of
step_is w st s f e = ap (λ (g : Option Frame). on_frame w st s g) e

-- ---- a frame's count is at most 64

abbrev pub small : Option Frame → Type 0
small (Some (Write st n)) = n ≤ 64
small (Some (Read st n)) = n ≤ 64
small (Some (Ticks n)) = Unit {0}
small (Some (Event e)) = Unit {0}
small None = Unit {0}

small_cond : (q : Bool) (a b : Option Frame) → small a → small b → small (cond q a b)
small_cond true a b p r = p
small_cond false a b p r = r

small_write : (q : Bool) (st n : ℕ) → leb n 64 ≡ q → small (cond q (Some (Write st n)) None)
small_write true st n e = leb-true n 64 e
small_write false st n e = tt

small_read : (q : Bool) (st n : ℕ) → leb n 64 ≡ q → small (cond q (Some (Read st n)) None)
small_read true st n e = leb-true n 64 e
small_read false st n e = tt

pub small_frame : (s : List ℕ) → small (frame_of s)
unfolding frame_of write_frame read_frame ticks_frame event_frame
small_frame s =
    small_cond (all_digits s) _ None
    (small_cond (eqb (byte_at s 0) 1) _ _ (small_cond (eqb (length s) (6 + 4 * words_in s)) _ None (small_write _ (word_at s 2) (words_in s) refl) tt)
    (small_cond (eqb (byte_at s 0) 2) _ _ (small_cond (eqb (length s) 10) _ None (small_read _ (word_at s 2) (word_at s 6) refl) tt)
    (small_cond (eqb (byte_at s 0) 3) _ _ (small_cond (eqb (length s) 6) (Some (Ticks (word_at s 2))) None tt tt)
    (small_cond (eqb (byte_at s 0) 4) _ _ (small_cond (eqb (length s) 4) (Some (Event (byte_at s 2))) None tt tt) tt))))
    tt

-- ---- a read processes at most as many words as it was asked for, and the slice keeps its length

-- what a read of n words more, after i of them, has
pub record Within (most len : ℕ) (f : Filled) : Type 0 where
  pub done : processed_of f.answer ≤ most
  pub size : length f.words ≡ len

read_within : (s : List ℕ) (k : Card) (a last i n : ℕ) (ws : List ℕ) → Within (i + n) (length ws) (read_words s k a last i n ws)
unfolding read_words
read_within s k a last i zero ws = record { done = omega arith; size = refl }
read_within s k a last i (suc n) ws =
    let v : ℕ = read_word s k a in
    let h = read_within s k (a + 1) last (i + 1) n (set ws i v) in
    cond_both (ltb last a) _ _ (Within (i + suc n) (length ws))
    (λ _. record { done = omega arith; size = refl })
    (λ _. record { done = omega (arith, h.done); size = h.size ∙ length-set ws i v })

in_within : (s : List ℕ) (k : Card) (start count : ℕ) (ws : List ℕ) (f : Option Region) → Within (0 + count) (length ws) (read_in s k start count ws f)
in_within s k start count ws None = record { done = omega arith; size = refl }
in_within s k start count ws (Some r) = cond_both (readable r.access) _ _ (Within (0 + count) (length ws)) (λ _. read_within s k start r.last 0 count ws) (λ _. record { done = omega arith; size = refl })

pub read_bounds : (s : List ℕ) (k : Card) (start count : ℕ) (ws : List ℕ) → Within (0 + count) (length ws) (read_of s k start count ws)
unfolding read_of
read_bounds s k start count ws = cond_both (bad_count count (length ws)) _ _ (Within (0 + count) (length ws)) (λ _. record { done = omega arith; size = refl }) (λ _. in_within s k start count ws (region_of start))

-- ---- the answers, piece by piece

pub length_outputs : (name : ℕ) (k : Card) → length (outputs_text name k) ≡ 18
unfolding outputs_text hex_all hex4 hex2
length_outputs name k = refl

pub outputs_put : (o : List ℕ) (at name : ℕ) (k : Card) {o' : List ℕ}
    → o' ≡ sets (sets o at (hex2 name)) (at + 2) (hex_all (take 4 (outputs_of k))) → Puts (outputs_text name k) at o o' (at + 18)
unfolding outputs_text
outputs_put o at name k p =
    record {
      buffer = then_at o at (hex2 name) (hex_all (outputs_of k)) refl p (ap (λ (n : ℕ). at + n) (sym (length_hex2 name)));
      ends = ap (λ (n : ℕ). at + n) (sym (length_outputs name k));
      short = omega arith;
    }

pub ticked_answers : (st : State) (name at : ℕ) {k : Card} {s l o o' : List ℕ} {to : ℕ}
    → k ≡ st.card → l ≡ st.tables → s ≡ st.settings → Puts (outputs_text name k) at o o' to → Answers (ticked name st) at o o' s l (record { card = k; end = to })
ticked_answers st name at {o = o} {o'} {to} p q r h =
    record { same = same_state st p q r; puts = subst (λ (x : Card). Puts (outputs_text name x) at o o' to) p h }

pub wrote_answers : (d : Out) (at : ℕ) {k : Card} {s l o o' : List ℕ}
    → k ≡ d.state.card → l ≡ d.state.tables → s ≡ d.state.settings → o' ≡ sets o at (head_of 0x81 (number_of d.answer) (processed_of d.answer))
    → Answers (wrote d) at o o' s l (record { card = k; end = at + 8 })
wrote_answers d at p q r h =
    record {
      same = same_state d.state p q r;
      puts = record {
        buffer = h;
        ends = ap (λ (z : ℕ). at + z) (sym (length_head_of 0x81 (number_of d.answer) (processed_of d.answer)));
        short = omega arith;
      };
    }

-- a read of up to 64 words into 64
module _ (s : List ℕ) (k : Card) (start count : ℕ) (few : count ≤ 64) {a : Reply} {n : ℕ} (ae : a ≡ reply_of start (read_of s k start count (replicate 64 0)).answer) (ne : n ≡ processed_of a.answer) where
  pub read_few : n ≤ 64
  read_few =
      let b = read_bounds s k start count (replicate 64 0) in
      let e : n ≡ processed_of (read_of s k start count (replicate 64 0)).answer = ne ∙ ap (λ (r : Reply). processed_of r.answer) ae in
      omega (arith, b.done, e)

  pub read_put : (o : List ℕ) (at : ℕ) {number : ℕ} {ws o₁ o₂ : List ℕ}
      → ws ≡ (read_of s k start count (replicate 64 0)).words → number ≡ number_of a.answer
      → o₁ ≡ sets o at (head_of 0x82 number n) → o₂ ≡ sets o₁ (at + 8) (hex_all (take n ws))
      → Puts (read_text (read_of s k start count (replicate 64 0))) at o o₂ (at + 8 + 4 * n)
  read_put o at {number} {ws} {o₁} {o₂} we x p q =
      let f : Filled = read_of s k start count (replicate 64 0) in
      let b = read_bounds s k start count (replicate 64 0) in
      let m : n ≡ processed_of f.answer = ne ∙ ap (λ (r : Reply). processed_of r.answer) ae in
      let y : number ≡ number_of f.answer = x ∙ ap (λ (r : Reply). number_of r.answer) ae in
      let z : length (replicate {A = ℕ} 64 0) ≡ 64 = refl in
      let l : length (take (processed_of f.answer) f.words) ≡ processed_of f.answer = length-take-le _ f.words (omega (arith, b.done, b.size)) in
      let h : List ℕ = head_of 0x82 (number_of f.answer) (processed_of f.answer) in
      let w : List ℕ = hex_all (take (processed_of f.answer) f.words) in
      record {
        buffer =
            then_at o at h w
            (p ∙ ap (λ (v : ℕ). sets o at (head_of 0x82 v n)) y ∙ ap (λ (v : ℕ). sets o at (head_of 0x82 (number_of f.answer) v)) m)
            (q ∙ ap (λ (v : ℕ). sets o₁ (at + 8) (hex_all (take v ws))) m ∙ ap (λ (v : List ℕ). sets o₁ (at + 8) (hex_all (take (processed_of f.answer) v))) we)
            (ap (λ (v : ℕ). at + v) (sym (length_head_of 0x82 (number_of f.answer) (processed_of f.answer))));
        ends = omega (arith, length_read 0x82 (number_of f.answer) (processed_of f.answer) (take (processed_of f.answer) f.words), l, m);
        short = omega (arith, read_few);
      }

pub bad_put : (o : List ℕ) (at : ℕ) {o' : List ℕ} → o' ≡ sets o at (hex2 0xFF) → Puts (hex2 0xFF) at o o' (at + 2)
bad_put o at h = record { buffer = h; ends = ap (λ (n : ℕ). at + n) (sym (length_hex2 0xFF)); short = omega arith }
