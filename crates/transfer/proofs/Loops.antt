-- One turn of the loops of the transfers, and what a good count is, over plain values. Assumes nothing.
use Rattle.std.specs.Prelude.{Option, Some, None, Result, Ok, Err, ok_or}
use mathlib.Core.Path.{◌≡◌, refl, sym, ap, ◌∙◌}
use mathlib.Core.Bool.{Bool, true, false, cond}
use mathlib.Core.List.{List, ◌++◌}
use Prim.Native.Nat.{ℕ, zero, suc, ◌+◌, ◌-◌, ◌<◌, ◌≤◌}
use native.Mathlib.Numerals.{add-one}
use native.Mathlib.Omega.{arith}
use borrow.Author.Tests.{lt-ltb, le-ltb}
use lib.Dec.{ltb}
use lib.ListN.{length, get_or, set, take, drop, drop_of_length-le, length-set}
use lib.Seq.{drop-cons, length-take-le}
use Rattle.std.proofs.lemmas.List.{take-append-drop, set-append_left}
use Rattle.std.proofs.lemmas.Bool.Decides.{nat_tests}
use Rattle.card.specs.declared.Card.{Card}
use Rattle.card.specs.Card.{State}
use Rattle.transfer.specs.Word.{One, write_word, read_word}
use Rattle.transfer.specs.Transfer.{Out, out, go_on, write_words, Filled, filled, read_words, bad_count, read_in, read_of, readable}
use Rattle.transfer.specs.declared.Refusal.{Refusal}
use Rattle.map.specs.declared.Region.{Region}
use Rattle.map.specs.Map.{region_of}
use Rattle.transfer.specs.declared.Refusal.TheVariants.{BadCount, NoRegion, NoAccess, Beyond}

-- ---- writes

-- the words after place i, once the word there has come to `o`
abbrev pub after : One → ℕ → ℕ → List ℕ → ℕ → Out
after o start last ws i = go_on o.verdict o.state i (write_words o.state (start + (i + 1)) last (i + 1) (drop (i + 1) ws))

module _ (st : State) (start last : ℕ) (ws : List ℕ) (i : ℕ) where
  pub write_end : length ws ≤ i → write_words st (start + i) last i (drop i ws) ≡ out st (Ok i)
  unfolding write_words
  write_end h = rw (drop_of_length-le ws {i = i} h)

  pub write_beyond : i < length ws → last < start + i → write_words st (start + i) last i (drop i ws) ≡ out st (Err (Beyond i))
  unfolding write_words
  write_beyond h r = rw (drop-cons ws i 0 h, lt-ltb last (start + i) r)

  -- the word at place i lies in the region
  pub write_one : i < length ws → start + i ≤ last
      → write_words st (start + i) last i (drop i ws) ≡ after (write_word st (start + i) (get_or ws i 0)) start last ws i
  unfolding write_words
  write_one h r =
      let q : start + (i + 1) ≡ start + i + 1 = omega arith in
      rw (drop-cons ws i 0 h, le-ltb last (start + i) r, q, add-one i)

-- ---- reads

module _ (s : List ℕ) (k : Card) (start last count i : ℕ) (ws : List ℕ) where
  pub read_end : count ≤ i → read_words s k (start + i) last i (count - i) ws ≡ filled ws (Ok i)
  unfolding read_words
  read_end h = let z : count - i ≡ zero = omega arith in rw z

  pub read_beyond : i < count → last < start + i → read_words s k (start + i) last i (count - i) ws ≡ filled ws (Err (Beyond i))
  unfolding read_words
  read_beyond h r = let f : count - i ≡ suc (count - (i + 1)) = omega arith in rw (f, lt-ltb last (start + i) r)

  pub read_on : i < count → start + i ≤ last
      → read_words s k (start + i) last i (count - i) ws ≡ read_words s k (start + (i + 1)) last (i + 1) (count - (i + 1)) (set ws i (read_word s k (start + i)))
  unfolding read_words
  read_on h r =
      let n : count - i ≡ suc (count - (i + 1)) = omega arith in
      let q : start + (i + 1) ≡ start + i + 1 = omega arith in
      rw (n, le-ltb last (start + i) r, q)

-- words that lie behind those to be read stay
read_split : (s : List ℕ) (k : Card) (last a i n : ℕ) (xs ys : List ℕ) → i + n ≤ length xs
    → read_words s k a last i n (xs ++ ys) ≡ filled ((read_words s k a last i n xs).words ++ ys) (read_words s k a last i n xs).answer
unfolding read_words
read_split s k last a i zero xs ys h = refl
read_split s k last a i (suc n) xs ys h =
    rw (set-append_left xs ys i (read_word s k a) (omega arith))
    (go (ltb last a) (read_words s k (a + 1) last (i + 1) n (set xs i (read_word s k a))) (read_split s k last (a + 1) (i + 1) n (set xs i (read_word s k a)) ys (omega (arith, length-set xs i (read_word s k a)))))
  where
    go : (b : Bool) (g : Filled) {f : Filled} → f ≡ filled (g.words ++ ys) g.answer → cond b (filled (xs ++ ys) (Err (Beyond i))) f ≡ filled ((cond b (filled xs (Err (Beyond i))) g).words ++ ys) (cond b (filled xs (Err (Beyond i))) g).answer
    go true g e = refl
    go false g e = e

-- so a read into the first words of a slice is one into those words alone
pub read_front : (s : List ℕ) (k : Card) (start last count : ℕ) (ws : List ℕ) → count ≤ length ws
    → read_words s k start last 0 count ws
    ≡ filled ((read_words s k start last 0 (length (take count ws)) (take count ws)).words ++ drop count ws) (read_words s k start last 0 (length (take count ws)) (take count ws)).answer
read_front s k start last count ws h =
    let l : length (take count ws) ≡ count = length-take-le count ws h in
    ap (read_words s k start last 0 count) (sym (take-append-drop count ws))
    ∙ rw l (read_split s k last start 0 count (take count ws) (drop count ws) (omega arith))

-- ---- a count that number 1 lets by

pub good_count : {b : Bool} (count len : ℕ) → b ≡ bad_count count len → b ≡ false → (count ≤ len) × (count ≤ 16381)
good_count count len p q = (grind (arith, nat_tests), grind (arith, nat_tests))

-- ---- a read, by what numbers 1 and 2 leave to be answered

module _ (s : List ℕ) (k : Card) (start count : ℕ) (ws : List ℕ) where
  abbrev pub read_entered : Result Region Refusal → Filled
  read_entered (Ok r) =
      cond (readable r.access)
      (filled ((read_words s k start r.last 0 (length (take count ws)) (take count ws)).words ++ drop count ws) (read_words s k start r.last 0 (length (take count ws)) (take count ws)).answer)
      (filled ws (Err NoAccess))
  read_entered (Err e) = filled ws (Err e)

  pub read_by_entry : read_of s k start count ws ≡ read_entered (cond (bad_count count (length ws)) (Err BadCount) (ok_or (region_of start) NoRegion))
  unfolding read_of
  read_by_entry = go (bad_count count (length ws)) refl (region_of start)
    where
      go : (b : Bool) → bad_count count (length ws) ≡ b → (f : Option Region) → cond b (filled ws (Err BadCount)) (read_in s k start count ws f) ≡ read_entered (cond b (Err BadCount) (ok_or f NoRegion))
      go true h f = refl
      go false h None = refl
      go false h (Some r) = ap (λ (x : Filled). cond (readable r.access) x (filled ws (Err NoAccess))) (read_front s k start r.last count ws (good_count count (length ws) (sym h) refl).0)
