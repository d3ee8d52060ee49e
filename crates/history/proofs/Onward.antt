-- Writing on: a write of ws and then vs is the write of ws and, that being answered 0, the write of vs from the address it gave (`parts`); so a
-- refused write is mended by writing on (`mended`). With them all of request Seven, of what the calls hand back and leave (`stops`). Assumes
-- nothing.
use Rattle.std.specs.Prelude.{Some, Result, Ok, Err}
use mathlib.Core.Path.{◌≡◌, refl, sym, ap, ◌∙◌, subst}
use mathlib.Core.Bool.{Bool, true, false, cond}
use mathlib.Core.List.{List, [], ◌∷◌, ◌++◌}
use Prim.Native.Nat.{ℕ, suc, ◌+◌, ◌≤◌}
use native.Mathlib.Omega.{arith}
use lib.Dec.{eqb, ltb}
use lib.ListN.{length, length-append}
use lib.Seq.{take_all}
use borrow.Author.Tests.{not-false, le-ltb, ne_eqb, eq-eqb}
use Rattle.map.specs.declared.Region.{Region}
use Rattle.map.specs.Map.{region_of, register_of}
use Rattle.map.proofs.Regions.{lies, same_region}
use Rattle.card.specs.Card.{State}
use Rattle.transfer.specs.declared.Why.{Why}
use Rattle.transfer.specs.declared.Why.TheVariants.{Fixed, Value, Held, Running}
use Rattle.transfer.specs.declared.Reply.{Reply}
use Rattle.transfer.specs.Word.{effect_of, perform_of, write_word}
use Rattle.transfer.specs.Transfer.{Out, out, number_of, processed_of, reply_of, bad_count, writable, go_on, write_words, write_of, Reads}
use Rattle.transfer.proofs.Stops.{address_is}
use Rattle.history.specs.History.{words_done, done_from}
use Rattle.history.specs.Numbers.{first, once, write_refusal, Given, Once, Stopped, All}
use Rattle.history.specs.Stops.{done_by, Call, Writes, WritesAll, reply, after, WritesOn, Follow, Both, WriteStops, ReadStops, InParts, Stops}
use Rattle.history.proofs.Writing.{AllDone, written}
use Rattle.history.proofs.Numbers.{write_answered, read_answered}
use Rattle.history.proofs.Stops.{all_done, write_stops_at, read_stops_at, once_free, done_length, done_below, read_below}
use Rattle.transfer.specs.declared.Refusal.{Refusal}
use Rattle.transfer.specs.declared.Refusal.TheVariants.{NoAccess, Beyond, Word}

-- ---- the words

-- the rest of the words follows those that are all done
abbrev follow : Out → Out → Out
follow o rest = cond (eqb (number_of o.answer) 0) rest o

stays : (why : Why) (st : State) (i : ℕ) (rest : Out) → out st (Err (Word why i)) ≡ follow (out st (Err (Word why i))) rest
stays Fixed st i rest = refl
stays Value st i rest = refl
stays Held st i rest = refl
stays Running st i rest = refl

-- the words ws and then vs, one list after the other
abbrev listed : State → ℕ → ℕ → ℕ → List ℕ → List ℕ → Out
listed st a last i ws vs = follow (write_words st a last i ws) (write_words (write_words st a last i ws).state (a + length ws) last (i + length ws) vs)

words_join : (st : State) (a last i : ℕ) (ws vs : List ℕ) → write_words st a last i (ws ++ vs) ≡ listed st a last i ws vs
unfolding write_words
words_join st a last i [] vs =
    let e : a + 0 ≡ a = omega arith in
    let f : i + 0 ≡ i = omega arith in
    rw (e, f)
words_join st a last i (v ∷ ws) vs = go (ltb last a) (write_word st a v).verdict (words_join (write_word st a v).state (a + 1) last (i + 1) ws vs)
  where
    next : State
    next = (write_word st a v).state

    go : (b : Bool) (d : Result Unit Why) → write_words next (a + 1) last (i + 1) (ws ++ vs) ≡ listed next (a + 1) last (i + 1) ws vs
        → cond b (out st (Err (Beyond i))) (go_on d next i (write_words next (a + 1) last (i + 1) (ws ++ vs)))
        ≡ follow (cond b (out st (Err (Beyond i))) (go_on d next i (write_words next (a + 1) last (i + 1) ws)))
        (write_words (cond b (out st (Err (Beyond i))) (go_on d next i (write_words next (a + 1) last (i + 1) ws))).state (a + suc (length ws)) last (i + suc (length ws)) vs)
    go true d r = refl
    go false (Ok tt) r =
        let e : a + suc (length ws) ≡ a + 1 + length ws = omega arith in
        let f : i + suc (length ws) ≡ i + 1 + length ws = omega arith in
        rw (e, f) r
    go false (Err why) r = stays why next i _

-- x is y with p more words done
record CountsOn (p : ℕ) (x y : Out) : Type 0 where
  state : x.state ≡ y.state
  number : number_of x.answer ≡ number_of y.answer
  words : processed_of x.answer ≡ p + processed_of y.answer

-- words are never answered 1 to 3, so all are counted on
words_counted : (p : ℕ) (st : State) (a last i : ℕ) (vs : List ℕ) → CountsOn p (write_words st a last (p + i) vs) (write_words st a last i vs)
unfolding write_words
words_counted p st a last i [] = record { state = refl; number = refl; words = refl }
words_counted p st a last i (v ∷ vs) = go (ltb last a) (write_word st a v).verdict (words_counted p (write_word st a v).state (a + 1) last (i + 1) vs)
  where
    next : State
    next = (write_word st a v).state

    go : (b : Bool) (d : Result Unit Why) → CountsOn p (write_words next (a + 1) last (p + (i + 1)) vs) (write_words next (a + 1) last (i + 1) vs)
        → CountsOn p (cond b (out st (Err (Beyond (p + i)))) (go_on d next (p + i) (write_words next (a + 1) last (p + i + 1) vs)))
        (cond b (out st (Err (Beyond i))) (go_on d next i (write_words next (a + 1) last (i + 1) vs)))
    go true d r = record { state = refl; number = refl; words = refl }
    go false (Ok tt) r = let e : p + i + 1 ≡ p + (i + 1) = omega arith in rw e r
    go false (Err why) r = record { state = refl; number = refl; words = refl }

-- words that are all done are all done again
words_done_lem : (q : Region) (st : State) (a i : ℕ) (vs : List ℕ) → AllDone q st a vs → write_words st a q.last i vs ≡ out (done_from st a vs) (Ok (i + length vs))
unfolding write_words write_word
words_done_lem q st a i [] d = ap (λ (n : ℕ). out st (Ok n)) (omega arith)
words_done_lem q st a i (v ∷ vs) d =
    let e : i + 1 + length vs ≡ i + suc (length vs) = omega arith in
    rw (le-ltb q.last a d.0.0, d.0.1)
    (cc (words_done_lem q (perform_of st a (effect_of (register_of a) v)) (a + 1) (i + 1) vs d.1))

-- ---- whole writes in a region that may be written

abbrev write_all : State → ℕ → List ℕ → Out
write_all st start ws = write_of st start (length ws) ws

good : (n : ℕ) → 1 ≤ n → n ≤ 16381 → bad_count n n ≡ false
good n f g = rw (ne_eqb n 0 (λ e. absurd (omega arith)), le-ltb 16381 n g, le-ltb n n (omega arith))

in_region_lem : (q : Region) → writable q.access ≡ true → (st : State) (a : ℕ) (ws : List ℕ) → region_of a ≡ Some q → 1 ≤ length ws → length ws ≤ 16381
    → write_all st a ws ≡ write_words st a q.last 0 ws
unfolding write_of
in_region_lem q may st a ws e f g = rw (good (length ws) f g, e, may, take_all (length ws) ws (omega arith))

shut : (q : Region) → writable q.access ≡ false → (st : State) (a : ℕ) (ws : List ℕ) → region_of a ≡ Some q → 1 ≤ length ws → length ws ≤ 16381
    → write_all st a ws ≡ out st (Err NoAccess)
unfolding write_of
shut q n st a ws e f g = rw (good (length ws) f g, e, n)

module _ (st : State) (start : ℕ) (ws vs : List ℕ) (some : 1 ≤ length ws) (h : Follow start (length ws) vs) where
  abbrev q : Region
  q = h.region

  abbrev o : Out
  o = write_all st start ws

  long : length (ws ++ vs) ≡ length ws + length vs
  long = length-append ws vs

  -- vs from the address after ws, as a write of its own
  rest_is : writable q.access ≡ true → (x : State) → write_all x (start + length ws) vs ≡ write_words x (start + length ws) q.last 0 vs
  rest_is may x =
      let l = lies start q h.found in
      in_region_lem q may x (start + length ws) vs (same_region start (start + length ws) q h.found (omega arith) h.inside) h.some (omega (arith, h.count))

  joined : writable q.access ≡ true
      → write_all st start (ws ++ vs) ≡ cond (eqb (number_of o.answer) 0) (write_words o.state (start + length ws) q.last (0 + length ws) vs) o
  joined may =
      cc (
        in_region_lem q may st start (ws ++ vs) h.found (omega (arith, long)) (omega (arith, long, h.count)),
        words_join st start q.last 0 ws vs,
        in_region_lem q may st start ws h.found some (omega (arith, h.count)),
      )

  go_on_lem : number_of o.answer ≡ 0 → CountsOn (length ws) (write_all st start (ws ++ vs)) (write_all o.state (start + length ws) vs)
  go_on_lem e = go (writable q.access) refl
    where
      go : (b : Bool) → writable q.access ≡ b → CountsOn (length ws) (write_all st start (ws ++ vs)) (write_all o.state (start + length ws) vs)
      go true may =
          let n : 0 + length ws ≡ length ws + 0 = omega arith in
          rw (joined may, eq-eqb (number_of o.answer) 0 e, rest_is may o.state, n) (words_counted (length ws) o.state (start + length ws) q.last 0 vs)
      go false n = let d = ap (λ (x : Out). number_of x.answer) (shut q n st start ws h.found some (omega (arith, h.count))) in absurd (omega arith)

  stop : 1 ≤ number_of o.answer → write_all st start (ws ++ vs) ≡ o
  stop e = grind (arith, joined, shut, long)

-- ---- a write that is answered anything

module _ (st : State) (start count : ℕ) (ws vs : List ℕ) where
  abbrev was : Out
  was = write_of st start count ws

  abbrev done : List ℕ
  done = words_done st start count ws

  p_is : processed_of was.answer ≡ length done
  p_is = sym (done_length st start count ws)

  -- a word was done, so the region may be written
  may_write : (q : Region) → region_of start ≡ Some q → 1 ≤ length done → writable q.access ≡ true
  may_write q e h = go (written st start count ws).given
    where
      at_once : first (once writable (region_of start) count ws) ≡ 0 → writable q.access ≡ true
      at_once f = not-false (writable q.access) (rw e at (once_free writable (region_of start) count ws f).1)

      go : Given (first (once writable (region_of start) count ws)) (write_refusal (region_of start) st start ws) count (number_of was.answer) (processed_of was.answer)
          → writable q.access ≡ true
      go (Once a b c) = absurd (omega (arith, p_is))
      go (Stopped a b c d g) = at_once a
      go (All a b c d) = at_once a

  -- the words done, written by themselves, are answered 0 and leave the same
  again : (l : List ℕ) → done ≡ l → Follow start (length l) vs → CountsOn (length l) (write_all st start (l ++ vs)) (write_all (done_from st start l) (start + length l) vs)
  again [] e f =
      let z : start + 0 ≡ start = omega arith in
      rw z record { state = refl; number = refl; words = omega arith }
  again (v ∷ l) e f =
      let n : 1 ≤ length (v ∷ l) = omega arith in
      let may = may_write f.region f.found (omega (arith, ap length e)) in
      let y =
      in_region_lem f.region may st start (v ∷ l) f.found n (omega (arith, f.count))
      ∙ words_done_lem f.region st start 0 (v ∷ l) (subst (AllDone f.region st start) e ((written st start count ws).all f.region f.found)) in
      subst (λ (x : State). CountsOn (length (v ∷ l)) (write_all st start (v ∷ l ++ vs)) (write_all x (start + length (v ∷ l)) vs)) (cc)
      (go_on_lem st start (v ∷ l) vs n f cc)

-- ---- the calls, by their promise

module _ (st : State) (start count : ℕ) (ws : List ℕ) (x : Call) (h : Writes st start count ws x) where
  reply_is : reply x ≡ reply_of start (write_of st start count ws).answer
  reply_is = cc

  after_is : after x ≡ (write_of st start count ws).state
  after_is =
      let e : (write_of st start count ws).state.card ≡ x.back.card = cc in
      rw (h.1, h.2, sym e)

  write_stops : WriteStops st start count ws x
  write_stops =
      record {
        answered = rw (reply_is, after_is) (write_answered st start count ws);
        at = rw reply_is (write_stops_at st start count ws);
        done = rw (reply_is, after_is) (done_below st start count ws);
      }

read_stops : (st : State) (start count : ℕ) (ws : List ℕ) (r : Reply) (vs : List ℕ) → Reads st.settings st.card start count ws r vs → ReadStops st start count ws r vs
read_stops st start count ws r vs h =
    record {
      answered = rw (h.0, h.1) (read_answered st start count ws);
      at = rw h.0 (read_stops_at st start count ws);
      done = rw (h.0, h.1) (read_below st start count ws);
    }

module _ (st : State) (start count : ℕ) (ws vs : List ℕ) (x : Call) (h : Writes st start count ws x) where
  abbrev one : Out
  one = write_of st start count ws

  abbrev p : ℕ
  p = processed_of one.answer

  -- what holds of the words holds of the calls: the address follows the words done
  both : (l : List ℕ) (y z : Call) → WritesOn x vs y → WritesAll st start (l ++ vs) z
      → CountsOn p (write_all st start (l ++ vs)) (write_all one.state (start + p) vs) → Both z x y
  both l y z f g c =
      let r = reply_is st start count ws x h in
      let a : (reply x).address ≡ start + p = cc (address_is start one.answer) in
      let f' : WritesAll one.state (start + p) vs y = rw (sym (after_is st start count ws x h), sym a) f in
      let whole : Result ℕ Refusal = (write_all st start (l ++ vs)).answer in
      let rest : Result ℕ Refusal = (write_all one.state (start + p) vs).answer in
      let ry = reply_is _ _ _ _ y f' in
      let rz = reply_is _ _ _ _ z g in
      record {
        leaves = cc (after_is _ _ _ _ z g, after_is _ _ _ _ y f');
        number = rw (rz, ry) c.number;
        address = rw (rz, ry) (omega (arith, address_is start whole, address_is (start + p) rest, c.words));
        processed = rw (rz, ry, r) c.words;
      }

  -- A REFUSED WRITE IS MENDED
  mended : Follow start (processed_of (reply x).answer) vs → (y z : Call) → WritesOn x vs y → WritesAll st start (done_by (reply x) ws ++ vs) z → Both z x y
  mended k y z f g =
      let r : processed_of (reply x).answer ≡ p = cc (reply_is st start count ws x h) in
      let e : length (words_done st start count ws) ≡ p = done_length st start count ws in
      let c = again st start count ws vs _ refl (rw e (rw r at k)) in
      both (words_done st start count ws) y z f (rw r at g) (rw (e, sym (written st start count ws).done) at c)

-- IN PARTS
parts : (st : State) (start : ℕ) (ws vs : List ℕ) → 1 ≤ length ws → Follow start (length ws) vs
    → (z x : Call) → WritesAll st start (ws ++ vs) z → WritesAll st start ws x → InParts vs z x
parts st start ws vs some k z x g h =
    let r = reply_is st start (length ws) ws x h in
    let n : number_of (reply x).answer ≡ number_of (write_all st start ws).answer = cc in
    record {
      on = λ e y f.
          let e' = sym n ∙ e in
          let n' = all_done start (length ws) _ _ (write_all st start ws).answer (written st start (length ws) ws).given e' in
          both st start (length ws) ws vs x h ws y z f g (rw n' (go_on_lem st start ws vs some k e'));
      stopped = λ e.
          let s = stop st start ws vs some k (omega (arith, n)) in
          (cc (reply_is _ _ _ _ z g), cc (after_is _ _ _ _ z g, after_is st start (length ws) ws x h));
    }

-- WHERE IT STOPPED
pub stops : Stops
stops = record { write = write_stops; read = read_stops; parts = parts; mended = mended }
