-- Where a transfer stopped: the address that it gives (`write_stops_at`, `read_stops_at`), and what a write has done, and a read has read,
-- below it (`done_below`, `read_below`). Assumes nothing.
use Rattle.std.specs.Prelude.{Option, Some, None, Result, Err, Ok}
use mathlib.Core.Path.{◌≡◌, refl, ap, ◌∙◌}
use mathlib.Core.Bool.{Bool, true, false, not, ◌&&◌, ◌||◌}
use mathlib.Core.List.{List, [], ◌∷◌}
use Prim.Native.Nat.{ℕ, zero, suc, ◌+◌, ◌-◌, ◌≤◌, ◌<◌}
use native.Mathlib.Omega.{arith}
use lib.Dec.{eqb, leb, ltb}
use lib.ListN.{length, get_or, take}
use lib.Seq.{length-take-le, take-take, get_or-take}
use borrow.Author.Tests.{ltb-true, ltb-false, lt-ltb, le-leb, lt-leb, eq-eqb, ne_eqb}
use Rattle.map.specs.declared.Region.{Region}
use Rattle.map.specs.declared.Register.{Register}
use Rattle.map.specs.declared.Access.{Access}
use Rattle.map.specs.Map.{region_of, register_of, accepted_at}
use Rattle.map.specs.Settings.{is_fixed, is_setting}
use Rattle.map.proofs.Regions.{lies, same_region}
use Rattle.card.specs.Card.{State}
use Rattle.transfer.specs.Word.{effect_of, perform_of, held_at, running_at}
use Rattle.transfer.specs.Transfer.{Out, number_of, processed_of, address_of, reply_of, writable, readable, write_of, read_of}
use Rattle.transfer.proofs.Stops.{address_is, write_fits, read_fits}
use Rattle.history.specs.History.{Write, read_back, words_done, done_from}
use Rattle.history.specs.Numbers.{Case, case, first, once, lacks, to_write, write_refusal, read_refusal, Given, Once, Stopped, All}
use Rattle.history.specs.Counted.{WordDone, EachDone, CountedIsDone}
use Rattle.history.specs.Settings.{word_left, left_at}
use Rattle.history.specs.Counts.{does_at}
use Rattle.history.specs.Stops.{StopsAt, word_for, below, DoneBelow, ReadBelow}
use Rattle.history.proofs.Addresses.{manual_register}
use Rattle.history.proofs.Writing.{why_high, Resulted, written, no_region}
use Rattle.history.proofs.Reading.{was_read}
use Rattle.history.proofs.Manual.{own, alone, inside}
use Rattle.history.proofs.Settings.{settings_kept}
use Rattle.history.proofs.Counted.{counted_is_done}
use Rattle.transfer.specs.declared.Refusal.{Refusal}
use Rattle.transfer.specs.declared.Refusal.TheVariants.{Beyond, Word}

-- ---- the address

once_at_start : (start : ℕ) (w : Result ℕ Refusal) → 1 ≤ number_of w → number_of w ≤ 3 → address_of start w ≡ start
once_at_start start (Ok n) f g = absurd (omega arith)
once_at_start start (Err (Beyond n)) f g = absurd (omega arith)
once_at_start start (Err (Word why n)) f g = absurd (omega (arith, why_high why))
once_at_start start _ f g = refl

once_low : (may : Access → Bool) (r : Option Region) (count : ℕ) (ws : List ℕ) → first (once may r count ws) < 4
once_low may r count ws = grind arith

-- a word is refused with 4 beyond the region, and only there
abbrev FourBeyond : (ℕ → ℕ) → ℕ → ℕ → Type 0
FourBeyond f start last = (i : ℕ) → (f i ≡ 4 → last < start + i) × (f i ≡ 0 → start + i ≤ last)

not_4 : (f w h r : Bool) → first (case 5 f ∷ case 6 w ∷ case 7 h ∷ case 8 r ∷ []) ≡ 4 → ⊥
not_4 true w h r e = omega arith
not_4 false true h r e = omega arith
not_4 false false true r e = omega arith
not_4 false false false true e = omega arith
not_4 false false false false e = omega arith

module _ (last a : ℕ) where
  beyond_alone : (rest : List Case) → (first rest ≡ 4 → ⊥) → (first (case 4 (ltb last a) ∷ rest) ≡ 4 → last < a) × (first (case 4 (ltb last a) ∷ rest) ≡ 0 → a ≤ last)
  beyond_alone rest n = grind arith

four_beyond : (q : Region) (x : State) (a v : ℕ) → (first (to_write (Some q) x a v) ≡ 4 → q.last < a) × (first (to_write (Some q) x a v) ≡ 0 → a ≤ q.last)
four_beyond q x a v = beyond_alone q.last a rest (not_4 (is_fixed r) (not (accepted_at a v)) (held_at x.settings r v) (running_at x.card r))
  where
    r : Register
    r = register_of a

    rest : List Case
    rest = case 5 (is_fixed r) ∷ case 6 (not (accepted_at a v)) ∷ case 7 (held_at x.settings r v) ∷ case 8 (running_at x.card r) ∷ []

-- a transfer of count words from `start` on with the answer w, refused at once with o, and its word i with f i
module _ (start count o : ℕ) (f : ℕ → ℕ) (w : Result ℕ Refusal) (g : Given o f count (number_of w) (processed_of w)) where
  pub all_done : number_of w ≡ 0 → processed_of w ≡ count
  all_done e = grind arith

  after_last : o < 4 → (last : ℕ) → start ≤ last → FourBeyond f start last → number_of w ≡ 4 → start + processed_of w ≡ last + 1
  after_last low last l four e = go g
    where
      by : (p n : ℕ) → p ≡ n → f p ≡ 4 → ((i : ℕ) → i < p → f i ≡ 0) → start + p ≡ last + 1
      by p zero z d c = let y = (four p).0 d in absurd (omega arith)
      by p (suc n) z d c = omega (arith, (four p).0 d, (four n).1 (c n (omega arith)))

      go : Given o f count (number_of w) (processed_of w) → start + processed_of w ≡ last + 1
      go (Once a b c) = absurd (omega arith)
      go (Stopped a b c d h) = by (processed_of w) (processed_of w) refl (cc) c
      go (All a b c d) = absurd (omega arith)

  stops_at : o < 4 → ((q : Region) → region_of start ≡ Some q → FourBeyond f start q.last) → (start < 65536 → start + processed_of w < 65536) → StopsAt start count (reply_of start w)
  stops_at low four fits =
      record {
        once = once_at_start start w;
        all = λ e. cc (address_is start w, all_done e);
        beyond = λ q e n. address_is start w ∙ after_last low q.last (lies start q e).1 (four q e) n;
        sum = address_is start w;
        fits = λ h. rw (address_is start w) (fits h);
      }

pub write_stops_at : (st : State) (start count : ℕ) (ws : List ℕ) → StopsAt start count (reply_of start (write_of st start count ws).answer)
write_stops_at st start count ws =
    stops_at start count _ (write_refusal (region_of start) st start ws) _ (written st start count ws).given (once_low writable (region_of start) count ws) four (write_fits st start count ws)
  where
    four : (q : Region) → region_of start ≡ Some q → FourBeyond (write_refusal (region_of start) st start ws) start q.last
    four q e i = rw e (four_beyond q (done_from st start (take i ws)) (start + i) (get_or ws i 0))

pub read_stops_at : (st : State) (start count : ℕ) (ws : List ℕ) → StopsAt start count (reply_of start (read_of st.settings st.card start count ws).answer)
read_stops_at st start count ws =
    stops_at start count _ (read_refusal (region_of start) start) _ (was_read st start count ws).given (once_low readable (region_of start) count ws) four
    (read_fits st.settings st.card start count ws)
  where
    four : (q : Region) → region_of start ≡ Some q → FourBeyond (read_refusal (region_of start) start) start q.last
    four q e i = rw e (beyond_alone q.last (start + i) [] (λ g. omega arith))

-- ---- by address

does_at_lem : (b a : ℕ) (vs : List ℕ) → does_at b a vs ≡ leb a b && ltb b (a + length vs)
does_at_lem b a [] = grind arith
does_at_lem b a (v ∷ vs) = rw (does_at_lem b (a + 1) vs) (go (ltb a b) refl (ltb b a) refl)
  where
    end : a + 1 + length vs ≡ a + suc (length vs)
    end = omega arith

    go : (x : Bool) → ltb a b ≡ x → (y : Bool) → ltb b a ≡ y → eqb a b || (leb (a + 1) b && ltb b (a + 1 + length vs)) ≡ leb a b && ltb b (a + suc (length vs))
    go true e y f = let d = ltb-true a b e in rw (ne_eqb a b (λ z. absurd (omega arith)), le-leb a b (omega arith), le-leb (a + 1) b (omega arith), end)
    go false e true f = let d = ltb-true b a f in rw (ne_eqb a b (λ z. absurd (omega arith)), lt-leb a b (omega arith), lt-leb (a + 1) b (omega arith))
    go false e false f =
        let d : a ≡ b = omega (arith, ltb-false a b e, ltb-false b a f) in
        rw (eq-eqb a b d, le-leb a b (omega arith), lt-ltb b (a + suc (length vs)) (omega arith))

-- of words each of them done, the word at place i finds those before it done
each_at : (x : State) (a : ℕ) (vs : List ℕ) (y : State) → EachDone x a vs y → (i : ℕ) → i < length vs
    → WordDone (done_from x a (take i vs)) (a + i) (get_or vs i 0) (done_from x a (take (suc i) vs))
each_at x a [] y d i h = absurd (omega arith)
each_at x a (v ∷ vs) y d zero h = let e : a + 0 ≡ a = omega arith in rw e d.0
each_at x a (v ∷ vs) y d (suc i) h = let e : a + suc i ≡ a + 1 + i = omega arith in rw e (each_at (perform_of x a (effect_of (register_of a) v)) (a + 1) vs y d.1 i (omega arith))

-- a transfer that is not refused at once has its words, and its region the access
module _ (may : Access → Bool) (r : Option Region) (count : ℕ) (ws : List ℕ) (free : first (once may r count ws) ≡ 0) where
  pub once_free : (count ≤ length ws) × (lacks may r ≡ false)
  once_free = grind arith

-- what is done at other addresses leaves a setting as it is, unless it is the erase
left_else : (b a : ℕ) (vs : List ℕ) (w : ℕ) → (a ≤ b → b < a + length vs → ⊥) → (a ≤ 0x4201 → 0x4201 < a + length vs → ⊥) → left_at b a vs w ≡ w
unfolding word_left
left_else b a [] w h k = refl
left_else b a (v ∷ vs) w h k =
    rw (ne_eqb a b (λ d. h (omega arith) (omega arith)), ne_eqb a 0x4201 (λ d. k (omega arith) (omega arith)))
    (left_else b (a + 1) vs w (λ x y. h (omega arith) (omega arith)) (λ x y. k (omega arith) (omega arith)))

module _ (st : State) (start count : ℕ) (ws : List ℕ) where
  abbrev o : Out
  o = write_of st start count ws

  abbrev p : ℕ
  p = processed_of o.answer

  -- the address that it gives
  abbrev stop : ℕ
  stop = address_of start o.answer

  few : p ≤ length ws
  few = go (written st start count ws).given
    where
      go : Given (first (once writable (region_of start) count ws)) (write_refusal (region_of start) st start ws) count (number_of o.answer) p → p ≤ length ws
      go (Once a b c) = omega arith
      go (Stopped a b c d e) = omega (arith, (once_free writable (region_of start) count ws a).0)
      go (All a b c d) = omega (arith, (once_free writable (region_of start) count ws a).0)

  pub done_length : length (words_done st start count ws) ≡ processed_of (write_of st start count ws).answer
  done_length = length-take-le p ws few

  stop_is : stop ≡ start + p
  stop_is = address_is start o.answer

  at_stop : stop - start ≡ p
  at_stop = omega (arith, stop_is)

  word_at_lem : length st.settings ≡ 16960 → (i : ℕ) → i < p → WordDone (done_from st start (take i ws)) (start + i) (get_or ws i 0) (done_from st start (take (suc i) ws))
  unfolding CountedIsDone
  word_at_lem l i h =
      rw (take-take i p ws (omega arith), take-take (suc i) p ws (omega arith), get_or-take p ws i 0 h) at
      (each_at st start (words_done st start count ws) _ (counted_is_done st l start count ws) i (omega (arith, done_length)))

  each_below : length st.settings ≡ 16960 → (a : ℕ) → start ≤ a → a < stop → WordDone (below st start ws a) a (word_for start ws a) (below st start ws (a + 1))
  each_below l a f g =
      let e : start + (a - start) ≡ a = omega arith in
      let n : a + 1 - start ≡ suc (a - start) = omega arith in
      rw n (rw e at (word_at_lem l (a - start) (omega (arith, stop_is))))

  refused_there : (n : ℕ) → Given (first (once writable (region_of start) count ws)) (write_refusal (region_of start) st start ws) count n p → 4 ≤ n
      → first (to_write (region_of start) (done_from st start (take p ws)) (start + p) (get_or ws p 0)) ≡ n
  refused_there n (Once a b c) h = absurd (omega (arith, once_low writable (region_of start) count ws))
  refused_there n (Stopped a b c d e) h = d
  refused_there n (All a b c d) h = absurd (omega arith)

  -- a write that does the erase does nothing else, and stops at the manual trigger, which is no setting
  no_erase : is_setting (register_of (start + p)) ≡ true → start ≤ 0x4201 → 0x4201 < start + p → ⊥
  no_erase i f g = go (region_of start) refl (written st start count ws)
    where
      go : (r : Option Region) → region_of start ≡ r → Resulted r st start count ws o → ⊥
      go None e y = let n = ap length (no_region st start count ws e) in omega (arith, n, done_length)
      go (Some q) e y =
          let n = done_length in
          let m = inside q st start (words_done st start count ws) (y.all q refl) (omega arith) in
          let l = lies start q e in
          let z = alone 0x4201 q own.0 (same_region start 0x4201 q e (omega arith) (omega arith)) in
          let a : start + p ≡ 0x4202 = omega arith in
          cc manual_register

  stays : length st.settings ≡ 16960 → is_setting (register_of (start + p)) ≡ true → read_back o.state (start + p) ≡ read_back st (start + p)
  stays l i =
      settings_kept.kept st l (start + p) i (Write start count ws ∷ [])
      ∙ left_else (start + p) start (words_done st start count ws) (read_back st (start + p)) (λ f g. absurd (omega (arith, g, done_length)))
      (λ f g. no_erase i f (omega (arith, g, done_length)))

  pub done_below : DoneBelow st start ws (reply_of start (write_of st start count ws).answer) (write_of st start count ws).state
  done_below =
      let y = written st start count ws in
      record {
        addresses = λ a. cc (does_at_lem a start (words_done st start count ws), done_length, stop_is);
        each = each_below;
        leaves = cc at_stop;
        kept = λ l i. rw stop_is (stays l (rw (← stop_is) i));
        refused = λ h. rw (at_stop, stop_is, y.done) (refused_there _ y.given h);
      }

pub read_below : (st : State) (start count : ℕ) (ws : List ℕ)
    → ReadBelow st start (reply_of start (read_of st.settings st.card start count ws).answer) (read_of st.settings st.card start count ws).words
read_below st start count ws a f g =
    let w : Result ℕ Refusal = (read_of st.settings st.card start count ws).answer in
    let e : start + (a - start) ≡ a = omega arith in
    cc ((was_read st start count ws).words (a - start) (omega (arith, g, address_is start w)))
