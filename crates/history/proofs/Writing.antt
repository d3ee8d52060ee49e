-- The words of a write are done one after the other until one is refused, and its number is the first of its cases (`written`). Whatever
-- holds word by word of the words done holds of the write (`write_by`). Assumes nothing.
use Rattle.std.specs.Prelude.{Option, Some, None, Result, Ok, Err}
use mathlib.Core.Path.{◌≡◌, refl, sym, ap, ◌∙◌}
use mathlib.Core.Bool.{Bool, true, false, not, cond}
use mathlib.Core.List.{List, [], ◌∷◌}
use Prim.Native.Nat.{ℕ, zero, suc, ◌+◌, ◌≤◌, ◌<◌}
use native.Mathlib.Omega.{arith}
use lib.Dec.{ltb}
use lib.ListN.{length, take}
use lib.Seq.{length-take-le, take-take, get_or-take}
use borrow.Author.Tests.{ltb-false, le-ltb}
use Rattle.map.specs.declared.Region.{Region}
use Rattle.map.specs.Map.{region_of, register_of}
use Rattle.map.specs.Register.{allowed}
use Rattle.map.specs.Settings.{is_fixed}
use Rattle.map.proofs.Values.{accepted_is}
use Rattle.card.specs.Card.{State}
use Rattle.transfer.specs.declared.Why.{Why}
use Rattle.transfer.specs.declared.Why.TheVariants.{Fixed, Value, Held, Running}
use Rattle.transfer.specs.Word.{held_at, running_at, judge_of, effect_of, perform_of, on_verdict, write_word}
use Rattle.transfer.specs.Transfer.{Out, out, why_number, number_of, processed_of, bad_count, writable, go_on, write_words, write_in, write_of}
use Rattle.transfer.proofs.Loops.{good_count}
use Rattle.history.specs.History.{words_done, done_from}
use Rattle.history.specs.Numbers.{case, first, once, to_write, write_refusal, Given, Once, Stopped, All}
use Rattle.history.proofs.Words.{Passed, passed}
use Rattle.transfer.specs.declared.Refusal.{Refusal}
use Rattle.transfer.specs.declared.Refusal.TheVariants.{BadCount, NoRegion, NoAccess, Beyond, Word}

-- ---- a word that comes to be written

abbrev verdict_number : Result Unit Why → ℕ
verdict_number (Ok tt) = 0
verdict_number (Err why) = why_number why

pub why_high : (why : Why) → 5 ≤ why_number why
why_high Fixed = omega arith
why_high Value = omega arith
why_high Held = omega arith
why_high Running = omega arith

judged : (q : Region) (st : State) (a v : ℕ) → ltb q.last a ≡ false → first (to_write (Some q) st a v) ≡ verdict_number (judge_of st.settings st.card (register_of a) v)
unfolding judge_of
judged q st a v e =
    rw (e, accepted_is a v)
    (go (is_fixed (register_of a)) (allowed (register_of a) v) (held_at st.settings (register_of a) v) (running_at st.card (register_of a)))
  where
    go : (f w h r : Bool) → first (case 4 false ∷ case 5 f ∷ case 6 (not w) ∷ case 7 h ∷ case 8 r ∷ [])
        ≡ verdict_number (cond f (Err Fixed) (cond (not w) (Err Value) (cond h (Err Held) (cond r (Err Running) (Ok tt)))))
    go true w h r = refl
    go false false h r = refl
    go false true true r = refl
    go false true false true = refl
    go false true false false = refl

-- ---- the words of a write

-- each word lies in the region and is accepted, those before it done
abbrev pub AllDone : Region → State → ℕ → List ℕ → Type 0
AllDone q st a [] = Unit
AllDone q st a (v ∷ vs) = ((a ≤ q.last) × (judge_of st.settings st.card (register_of a) v ≡ Ok tt)) × AllDone q (perform_of st a (effect_of (register_of a) v)) (a + 1) vs

-- after n of `long` words: none is left, or word n is refused with r
pub data Ends (long n number r : ℕ) : Type 0 where
  whole : n ≡ long → number ≡ 0 → Ends long n number r
  stop : n < long → number ≡ r → 1 ≤ number → Ends long n number r

record Walk (q : Region) (st : State) (a i : ℕ) (vs : List ℕ) (o : Out) : Type 0 where
  many : ℕ
  count : processed_of o.answer ≡ i + many
  few : many ≤ length vs
  state : o.state ≡ done_from st a (take many vs)
  all : AllDone q st a (take many vs)
  ends : Ends (length vs) many (number_of o.answer) (write_refusal (Some q) st a vs many)

-- word 0 is the first; word j + 1 is word j of the rest
module _ (q : Region) (st : State) (a v : ℕ) (vs : List ℕ) where
  refusal_first : write_refusal (Some q) st a (v ∷ vs) 0 ≡ first (to_write (Some q) st a v)
  refusal_first = let e : a + 0 ≡ a = omega arith in cc

  refusal_later : (j : ℕ) → write_refusal (Some q) (perform_of st a (effect_of (register_of a) v)) (a + 1) vs j ≡ write_refusal (Some q) st a (v ∷ vs) (suc j)
  refusal_later j =
      let e : a + 1 + j ≡ a + suc j = omega arith in
      cc

walk : (q : Region) (st : State) (a i : ℕ) (vs : List ℕ) → Walk q st a i vs (write_words st a q.last i vs)
unfolding write_words write_word
walk q st a i [] = record { many = 0; count = omega arith; few = omega arith; state = refl; all = tt; ends = whole refl refl }
walk q st a i (v ∷ vs) = go (ltb q.last a) refl (judge_of st.settings st.card (register_of a) v) refl (walk q next (a + 1) (i + 1) vs)
  where
    next : State
    next = perform_of st a (effect_of (register_of a) v)

    halt : (w : Result ℕ Refusal) → processed_of w ≡ i → number_of w ≡ first (to_write (Some q) st a v) → 1 ≤ number_of w → Walk q st a i (v ∷ vs) (out st w)
    halt w e f g =
        record { many = 0; count = omega arith; few = omega arith; state = refl; all = tt; ends = stop (omega arith) (f ∙ sym (refusal_first q st a v vs)) g }

    later : (n number : ℕ) → Ends (length vs) n number (write_refusal (Some q) next (a + 1) vs n) → Ends (suc (length vs)) (suc n) number (write_refusal (Some q) st a (v ∷ vs) (suc n))
    later n number (whole e f) = whole (omega arith) f
    later n number (stop e f g) = stop (omega arith) (f ∙ refusal_later q st a v vs n) g

    go : (b : Bool) → ltb q.last a ≡ b → (d : Result Unit Why) → judge_of st.settings st.card (register_of a) v ≡ d
        → Walk q next (a + 1) (i + 1) vs (write_words next (a + 1) q.last (i + 1) vs)
        → Walk q st a i (v ∷ vs) (cond b (out st (Err (Beyond i))) (go_on (on_verdict d st a v).verdict (on_verdict d st a v).state i (write_words (on_verdict d st a v).state (a + 1) q.last (i + 1) vs)))
    go true e d f r = halt (Err (Beyond i)) refl (rw e) (omega arith)
    go false e (Ok tt) f r =
        record {
          many = suc r.many;
          count = omega (arith, r.count);
          few = omega (arith, r.few);
          state = r.state;
          all = ((ltb-false q.last a e, f), r.all);
          ends = later r.many (number_of (write_words next (a + 1) q.last (i + 1) vs).answer) r.ends;
        }
    go false e (Err why) f r = halt (Err (Word why i)) refl (cc (judged q st a v e)) (omega (arith, why_high why))

-- a word that was done was not refused
done_passes : (q : Region) (st : State) (a : ℕ) (vs : List ℕ) (n : ℕ) → n ≤ length vs → AllDone q st a (take n vs) → (i : ℕ) → i < n → write_refusal (Some q) st a vs i ≡ 0
done_passes q st a (v ∷ vs) (suc n) h d zero j = cc (refusal_first q st a v vs, judged q st a v (le-ltb q.last a d.0.0))
done_passes q st a (v ∷ vs) (suc n) h d (suc i) j =
    sym (refusal_later q st a v vs i) ∙ done_passes q (perform_of st a (effect_of (register_of a) v)) (a + 1) vs n (omega arith) d.1 i (omega arith)
done_passes q st a _ n h d i j = absurd (omega arith)

-- ---- a write

-- what a write of the words in the region r comes to
pub record Resulted (r : Option Region) (st : State) (start count : ℕ) (ws : List ℕ) (o : Out) : Type 0 where
  pub given : Given (first (once writable r count ws)) (write_refusal r st start ws) count (number_of o.answer) (processed_of o.answer)
  pub done : o.state ≡ done_from st start (take (processed_of o.answer) ws)
  pub all : (q : Region) → r ≡ Some q → AllDone q st start (take (processed_of o.answer) ws)

nothing_done : (r : Option Region) (st : State) (start count : ℕ) (ws : List ℕ) (w : Result ℕ Refusal) → first (once writable r count ws) ≡ number_of w → 1 ≤ number_of w → processed_of w ≡ 0
    → Resulted r st start count ws (out st w)
nothing_done r st start count ws w e f g =
    record { given = Once e f g; done = cc; all = λ q h. rw g tt }

-- the words that are handed on are the first `count` of the lent ones
module _ (q : Region) (st : State) (start count : ℕ) (ws : List ℕ) (long : count ≤ length ws) (free : first (once writable (Some q) count ws) ≡ 0) where
  same_refusal : (i : ℕ) → i < count → write_refusal (Some q) st start (take count ws) i ≡ write_refusal (Some q) st start ws i
  same_refusal i h = rw (take-take i count ws (omega arith), get_or-take count ws i 0 h)

  walked : (o : Out) → Walk q st start 0 (take count ws) o → Resulted (Some q) st start count ws o
  walked o y =
      record {
        given = go y.ends;
        done = cc same;
        all = λ p e. rw (← same) (let d : q ≡ p = cc in rw d at y.all);
      }
    where
      n : ℕ
      n = y.many

      l : length (take count ws) ≡ count
      l = length-take-le count ws long

      m : n ≡ processed_of o.answer
      m = omega (arith, y.count)

      same : take n (take count ws) ≡ take (processed_of o.answer) ws
      same = take-take n count ws (omega (arith, y.few, l)) ∙ ap (λ (k : ℕ). take k ws) m

      passes : (i : ℕ) → i < n → write_refusal (Some q) st start ws i ≡ 0
      passes i h = sym (same_refusal i (omega (arith, y.few, l))) ∙ done_passes q st start (take count ws) n y.few y.all i h

      go : Ends (length (take count ws)) n (number_of o.answer) (write_refusal (Some q) st start (take count ws) n)
          → Given (first (once writable (Some q) count ws)) (write_refusal (Some q) st start ws) count (number_of o.answer) (processed_of o.answer)
      go (whole e f) = All free (λ i h. passes i (omega (arith, l))) f (omega (arith, l))
      go (stop e f g) =
          Stopped free (omega (arith, l)) (λ i h. passes i (omega arith))
          (ap (write_refusal (Some q) st start ws) (sym m) ∙ sym (same_refusal n (omega (arith, l))) ∙ sym f) g

pub written : (st : State) (start count : ℕ) (ws : List ℕ) → Resulted (region_of start) st start count ws (write_of st start count ws)
unfolding write_of
written st start count ws = go (bad_count count (length ws)) refl (region_of start)
  where
    may : (q : Region) → bad_count count (length ws) ≡ false → (b : Bool) → writable q.access ≡ b
        → Resulted (Some q) st start count ws (cond b (write_words st start q.last 0 (take count ws)) (out st (Err NoAccess)))
    may q e true f =
        walked q st start count ws (good_count count (length ws) (sym e) refl).0 (rw (e, f)) (write_words st start q.last 0 (take count ws)) (walk q st start 0 (take count ws))
    may q e false f = nothing_done (Some q) st start count ws (Err NoAccess) (rw (e, f)) (omega arith) refl

    go : (b : Bool) → bad_count count (length ws) ≡ b → (r : Option Region) → Resulted r st start count ws (cond b (out st (Err BadCount)) (write_in st start count ws r))
    go true e r = nothing_done r st start count ws (Err BadCount) (rw e) (omega arith) refl
    go false e None = nothing_done None st start count ws (Err NoRegion) (rw e) (omega arith) refl
    go false e (Some q) = may q e (writable q.access) refl

-- a write that starts in no region does no word
pub no_region : (st : State) (start count : ℕ) (ws : List ℕ) → region_of start ≡ None → words_done st start count ws ≡ []
unfolding write_of
no_region st start count ws e = rw e (go (bad_count count (length ws)))
  where
    go : (b : Bool) → take (processed_of (cond b (out st (Err BadCount)) (out st (Err NoRegion))).answer) ws ≡ []
    go true = refl
    go false = refl

-- ---- what holds word by word

-- a rule of words done from an address on, from a state to a state: it holds of no words
module _ (R : State → ℕ → List ℕ → State → Type 0) (none : (st : State) (a : ℕ) → R st a [] st) where
  -- and of one more word that has passed, in a region up to last
  abbrev More : ℕ → Type 0
  More last =
      (st : State) (a v : ℕ) (vs : List ℕ) (z : State) → a ≤ last → Passed st.settings st.card (register_of a) v
      → R (perform_of st a (effect_of (register_of a) v)) (a + 1) vs z → R st a (v ∷ vs) z

  all_by : (q : Region) → More q.last → (st : State) (a : ℕ) (vs : List ℕ) → AllDone q st a vs → R st a vs (done_from st a vs)
  all_by q m st a [] d = none st a
  all_by q m st a (v ∷ vs) d =
      m st a v vs _ d.0.0 (passed st.settings st.card (register_of a) v d.0.1)
      (all_by q m (perform_of st a (effect_of (register_of a) v)) (a + 1) vs d.1)

  -- WHAT HOLDS WORD BY WORD IN A REGION HOLDS OF A WRITE THAT STARTS IN IT
  pub write_within : (st : State) (start count : ℕ) (ws : List ℕ) → ((q : Region) → region_of start ≡ Some q → More q.last)
      → R st start (words_done st start count ws) (write_of st start count ws).state
  write_within st start count ws more = rw y.done (go (region_of start) refl y)
    where
      done : List ℕ
      done = words_done st start count ws

      y : Resulted (region_of start) st start count ws (write_of st start count ws)
      y = written st start count ws

      go : (r : Option Region) → region_of start ≡ r → Resulted r st start count ws (write_of st start count ws) → R st start done (done_from st start done)
      go (Some q) e y = all_by q (more q e) st start done (y.all q refl)
      go None e y = rw (no_region st start count ws e) (none st start)

  -- AND WHAT HOLDS WORD BY WORD ANYWHERE
  pub write_by : ((st : State) (a v : ℕ) (vs : List ℕ) (z : State) → Passed st.settings st.card (register_of a) v
      → R (perform_of st a (effect_of (register_of a) v)) (a + 1) vs z → R st a (v ∷ vs) z)
      → (st : State) (start count : ℕ) (ws : List ℕ) → R st start (words_done st start count ws) (write_of st start count ws).state
  write_by more st start count ws = write_within st start count ws (λ q e x a v vs z l p r. more x a v vs z p r)
