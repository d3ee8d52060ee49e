-- The words of a read are filled in one after the other, up to the region's end (`was_read`). Assumes nothing.
use Rattle.std.specs.Prelude.{Option, Some, None, Result, Err, Ok}
use mathlib.Core.Path.{◌≡◌, refl, sym, ap, ◌∙◌}
use mathlib.Core.Bool.{Bool, true, false, cond}
use mathlib.Core.List.{List}
use Prim.Native.Nat.{ℕ, zero, suc, ◌+◌, ◌≤◌, ◌<◌}
use native.Mathlib.Omega.{arith}
use lib.Dec.{ltb}
use lib.ListN.{length, get_or, set, length-set}
use lib.Seq.{get_or-set_same, get_or-set_other}
use Rattle.map.specs.declared.Region.{Region}
use Rattle.map.specs.Map.{region_of}
use Rattle.card.specs.declared.Card.{Card}
use Rattle.card.specs.Card.{State}
use Rattle.transfer.specs.Word.{read_word}
use Rattle.transfer.specs.Transfer.{Filled, number_of, processed_of, bad_count, readable, filled, read_words, read_in, read_of}
use Rattle.transfer.proofs.Loops.{good_count}
use Rattle.history.specs.History.{read_back}
use Rattle.history.specs.Numbers.{first, once, read_refusal, Given, Once, Stopped, All}
use Rattle.history.proofs.Writing.{Ends, whole, stop}
use Rattle.transfer.specs.declared.Refusal.{Refusal}
use Rattle.transfer.specs.declared.Refusal.TheVariants.{BadCount, NoRegion, NoAccess, Beyond}

record Scan (q : Region) (s : List ℕ) (k : Card) (a i n : ℕ) (ws : List ℕ) (o : Filled) : Type 0 where
  many : ℕ
  count : processed_of o.answer ≡ i + many
  few : many ≤ n
  long : length o.words ≡ length ws
  before : (j : ℕ) → j < i → get_or o.words j 0 ≡ get_or ws j 0
  words : (j : ℕ) → j < many → get_or o.words (i + j) 0 ≡ read_word s k (a + j)
  rest : (j : ℕ) → i + many ≤ j → get_or o.words j 0 ≡ get_or ws j 0
  passes : (j : ℕ) → j < many → read_refusal (Some q) a j ≡ 0
  ends : Ends n many (number_of o.answer) (read_refusal (Some q) a many)

read_first : (q : Region) (a : ℕ) (b : Bool) → ltb q.last a ≡ b → read_refusal (Some q) a 0 ≡ cond b 4 0
read_first q a b e = let f : a + 0 ≡ a = omega arith in rw (f, e)

read_later : (q : Region) (a j : ℕ) → read_refusal (Some q) (a + 1) j ≡ read_refusal (Some q) a (suc j)
read_later q a j = let e : a + 1 + j ≡ a + suc j = omega arith in cc

-- no further word is filled in
halted : (q : Region) (s : List ℕ) (k : Card) (a i n : ℕ) (ws : List ℕ) (w : Result ℕ Refusal) → processed_of w ≡ i → Ends n 0 (number_of w) (read_refusal (Some q) a 0)
    → Scan q s k a i n ws (filled ws w)
halted q s k a i n ws w e f =
    record {
      many = 0;
      count = omega arith;
      few = omega arith;
      long = refl;
      before = λ j h. refl;
      words = λ j h. absurd (omega arith);
      rest = λ j h. refl;
      passes = λ j h. absurd (omega arith);
      ends = f;
    }

scan : (q : Region) (s : List ℕ) (k : Card) (a i n : ℕ) (ws : List ℕ) → i + n ≤ length ws → Scan q s k a i n ws (read_words s k a q.last i n ws)
unfolding read_words
scan q s k a i zero ws h = halted q s k a i 0 ws (Ok i) refl (whole refl refl)
scan q s k a i (suc n) ws h = go (ltb q.last a) refl (scan q s k (a + 1) (i + 1) n next (rw (length-set ws i (read_word s k a)) (omega arith)))
  where
    next : List ℕ
    next = set ws i (read_word s k a)

    others : (j : ℕ) → (j ≡ i → ⊥) → get_or next j 0 ≡ get_or ws j 0
    others j d = get_or-set_other ws i j (read_word s k a) 0 d

    go : (b : Bool) → ltb q.last a ≡ b → Scan q s k (a + 1) (i + 1) n next (read_words s k (a + 1) q.last (i + 1) n next)
        → Scan q s k a i (suc n) ws (cond b (filled ws (Err (Beyond i))) (read_words s k (a + 1) q.last (i + 1) n next))
    go true e r = halted q s k a i (suc n) ws (Err (Beyond i)) refl (stop (omega arith) (sym (read_first q a true e)) (omega arith))
    go false e r =
        record {
          many = suc r.many;
          count = omega (arith, r.count);
          few = omega (arith, r.few);
          long = r.long ∙ length-set ws i (read_word s k a);
          before = λ j f. r.before j (omega arith) ∙ others j (λ d. absurd (omega arith));
          words = words;
          rest = λ j f. r.rest j (omega arith) ∙ others j (λ d. absurd (omega arith));
          passes = passes;
          ends = later r.ends;
        }
      where
        o : Filled
        o = read_words s k (a + 1) q.last (i + 1) n next

        words : (j : ℕ) → j < suc r.many → get_or o.words (i + j) 0 ≡ read_word s k (a + j)
        words zero f =
            let x : i + 0 ≡ i = omega arith in
            let y : a ≡ a + 0 = omega arith in
            cc (r.before i (omega arith), get_or-set_same ws i (read_word s k a) 0 (omega arith))
        words (suc j) f =
            let x : i + suc j ≡ i + 1 + j = omega arith in
            let y : a + 1 + j ≡ a + suc j = omega arith in
            cc (r.words j (omega arith))

        passes : (j : ℕ) → j < suc r.many → read_refusal (Some q) a j ≡ 0
        passes zero f = read_first q a false e
        passes (suc j) f = sym (read_later q a j) ∙ r.passes j (omega arith)

        later : Ends n r.many (number_of o.answer) (read_refusal (Some q) (a + 1) r.many) → Ends (suc n) (suc r.many) (number_of o.answer) (read_refusal (Some q) a (suc r.many))
        later (whole f g) = whole (omega arith) g
        later (stop f g j) = stop (omega arith) (g ∙ read_later q a r.many) j

pub record ReadSo (r : Option Region) (st : State) (start count : ℕ) (ws : List ℕ) (o : Filled) : Type 0 where
  pub given : Given (first (once readable r count ws)) (read_refusal r start) count (number_of o.answer) (processed_of o.answer)
  pub long : length o.words ≡ length ws
  pub words : (i : ℕ) → i < processed_of o.answer → get_or o.words i 0 ≡ read_back st (start + i)
  pub rest : (i : ℕ) → processed_of o.answer ≤ i → get_or o.words i 0 ≡ get_or ws i 0

nothing_read : (r : Option Region) (st : State) (start count : ℕ) (ws : List ℕ) (w : Result ℕ Refusal) → first (once readable r count ws) ≡ number_of w → 1 ≤ number_of w → processed_of w ≡ 0
    → ReadSo r st start count ws (filled ws w)
nothing_read r st start count ws w e f g =
    record { given = Once e f g; long = refl; words = λ i h. absurd (omega arith); rest = λ i h. refl }

pub was_read : (st : State) (start count : ℕ) (ws : List ℕ) → ReadSo (region_of start) st start count ws (read_of st.settings st.card start count ws)
unfolding read_of
was_read st start count ws = go (bad_count count (length ws)) refl (region_of start)
  where
    scanned : (q : Region) (o : Filled) → first (once readable (Some q) count ws) ≡ 0 → Scan q st.settings st.card start 0 count ws o → ReadSo (Some q) st start count ws o
    scanned q o e r =
        record {
          given = by r.ends;
          long = r.long;
          words = λ i h. let x : 0 + i ≡ i = omega arith in cc (r.words i (omega (arith, r.count)));
          rest = λ i h. r.rest i (omega (arith, r.count));
        }
      where
        m : r.many ≡ processed_of o.answer
        m = omega (arith, r.count)

        by : Ends count r.many (number_of o.answer) (read_refusal (Some q) start r.many)
            → Given (first (once readable (Some q) count ws)) (read_refusal (Some q) start) count (number_of o.answer) (processed_of o.answer)
        by (whole f g) = All e (λ i h. r.passes i (omega arith)) g (omega arith)
        by (stop f g h) = Stopped e (omega arith) (λ i j. r.passes i (omega arith)) (ap (read_refusal (Some q) start) (sym m) ∙ sym g) h

    may : (q : Region) → bad_count count (length ws) ≡ false → (b : Bool) → readable q.access ≡ b
        → ReadSo (Some q) st start count ws (cond b (read_words st.settings st.card start q.last 0 count ws) (filled ws (Err NoAccess)))
    may q e true f =
        let l = good_count count (length ws) (sym e) refl in
        scanned q (read_words st.settings st.card start q.last 0 count ws) (rw (e, f)) (scan q st.settings st.card start 0 count ws (omega (arith, l.0)))
    may q e false f = nothing_read (Some q) st start count ws (Err NoAccess) (rw (e, f)) (omega arith) refl

    go : (b : Bool) → bad_count count (length ws) ≡ b → (r : Option Region) → ReadSo r st start count ws (cond b (filled ws (Err BadCount)) (read_in st.settings st.card start count ws r))
    go true e r = nothing_read r st start count ws (Err BadCount) (rw e) (omega arith) refl
    go false e None = nothing_read None st start count ws (Err NoRegion) (rw e) (omega arith) refl
    go false e (Some q) = may q e (readable q.access) refl
