-- The course of a channel from a trigger on, by an invariant in six cases: the load to come, the start to come, running, running free,
-- at rest after the end, nothing started. Each tick goes from case to case, giving the samples that are due (`ticked`); what happens between the ticks
-- leaves the case as it is (`kept`). Times are sums, t + n ≡ d, so that nothing is subtracted. Assumes nothing.
use mathlib.Core.Path.{◌≡◌, refl, ap, sym, ◌∙◌}
use mathlib.Core.Bool.{Bool, true, false}
use mathlib.Core.Logic.{inl, inr}
use mathlib.Core.List.{List, [], ◌∷◌}
use Prim.Native.Nat.{ℕ, suc, ◌+◌, ◌*◌, ◌-◌, ◌≤◌, ◌<◌}
use native.Mathlib.Omega.{arith}
use native.Mathlib.Nat.{add-zero, add-suc, suc-add}
use native.Mathlib.Numerals.{add-one}
use lib.Dec.{leb, eqb}
use lib.ListN.{length}
use borrow.Author.Tests.{leb-true, leb-false, eq-eqb, ne_eqb, eqb-true, eqb-false}
use Rattle.sum.specs.declared.Edition.{Edition}
use Rattle.map.specs.Addresses.{table_at, ramp_map_at, enable_at}
use Rattle.channel.specs.declared.Place.{Place}
use Rattle.channel.specs.declared.Shown.{Shown}
use Rattle.channel.specs.declared.Signal.{Signal}
use Rattle.channel.specs.declared.Ramp.{Ramp}
use Rattle.channel.specs.declared.Ramp.TheVariants.{Still}
use Rattle.channel.specs.declared.Phase.{Phase}
use Rattle.channel.specs.declared.Phase.TheVariants.{Rest, Counting, Running, FreeRunning}
use Rattle.channel.specs.Ramp.{way, ended, onward, given}
use Rattle.channel.specs.Channel.{Side, side, word, first_of, with, with_signal, phase_of, loaded_for, blank, load, tick_of}
use Rattle.course.specs.Points.{SameTable}
use Rattle.course.specs.Course.{Act, Tick, Elsewhere, Output, Clear, act, run, ticks_in, held_on}
use Rattle.course.specs.Follows.{table_for, total_for, place_for, sample_for, free_for, Plays, signal_for}
use Rattle.course.proofs.Copies.{copied_in}
use Rattle.course.proofs.Acts.{tick_rest, elsewhere_in, written_phase, written_level, written_loaded, written_counter, act_length}
use Rattle.course.proofs.Tables.{same_enter, same_next, same_sample}
use Rattle.course.proofs.Walk.{placed, place_first, place_step, place_more, place_last}
use Rattle.course.proofs.Moves.{move_start, move_give, free_give, tick_made, tick_still, tick_load, tick_off, tick_wait, tick_free_wait, tick_count}
use Rattle.course.proofs.Signals.{Counted, signal_counted, first_made, next_made, free_made}

-- ---- the load, for level v under the settings w

module _ (c v : ℕ) (w : List ℕ) where
  -- what it leaves
  pub record Held (x : Side) : Type 0 where
    pub loaded : x.channel.loaded ≡ loaded_for w c v
    pub table : SameTable x.tables (first_of c) w (table_for w c v)

  pub loads : (x : Side) → 128 * c + 128 ≤ length x.tables → Held (load w x.tables c x.channel v)
  unfolding load
  loads x r =
      record {
        loaded = refl;
        table = λ i h. copied_in 128 w (table_at c (word w (ramp_map_at c v))) x.tables (first_of c) i h (omega arith);
      }

  pub load_phase : (x : Side) → (load w x.tables c x.channel v).channel.phase ≡ Counting (record { 0 = 10 }) Still
  unfolding load
  load_phase x = refl

  load_shown : (x : Side) → (load w x.tables c x.channel v).channel.shown ≡ blank x.channel.shown
  unfolding load
  load_shown x = refl

  load_signal : (x : Side) → (load w x.tables c x.channel v).channel.signal ≡ x.channel.signal
  unfolding load
  load_signal x = refl

-- ---- a trigger of level v sets the countdown d; the settings w are held on tick d − 10, and A00 is a on tick d

module _ (ed : Edition) (c v : ℕ) (w : List ℕ) (a d : ℕ) where
  -- the table's first word among the settings, T, and the place of sample k
  abbrev from : ℕ
  from = table_for w c v

  abbrev T : ℕ
  T = total_for w c v

  abbrev spot : ℕ → Place
  spot k = place_for w c v k

  -- what holds of the channel t ticks after the trigger
  pub data Course (t : ℕ) (x : Side) : Type 0 where
    -- the load is to come
    waits : (n : ℕ) (o : Ramp) → t + n ≡ d → 10 < n → x.channel.level ≡ v → x.channel.phase ≡ Counting (record { 0 = n }) o → Course t x
    -- loaded, and the start is to come
    starts : (n : ℕ) → t + n ≡ d → 1 ≤ n → n ≤ 10 → Held c v w x → x.channel.phase ≡ Counting (record { 0 = n }) Still → Course t x
    -- sample k was the last, and the next comes in r ticks
    runs : (k r : ℕ) → a ≡ 1 → t + r ≡ d + 10 * (k + 1) → 1 ≤ r → r ≤ 10 → k < T → Held c v w x → Counted ed c v w k x.channel.signal
        → x.channel.phase ≡ Running (way (spot k) r 10) → Course t x
    -- the same, the end's sample or one after it
    frees : (k r : ℕ) → a ≡ 1 → free_for w c v ≡ true → t + r ≡ d + 10 * (k + 1) → 1 ≤ r → r ≤ 10 → T ≤ k → Held c v w x
        → Counted ed c v w k x.channel.signal → x.channel.phase ≡ FreeRunning (way (spot T) r 10) → Course t x
    -- the end was reached
    rests : a ≡ 1 → free_for w c v ≡ false → d + 10 * T ≤ t → Held c v w x → x.channel.phase ≡ Rest → Course t x
    -- nothing started
    off : (a ≡ 1 → ⊥) → d ≤ t → Held c v w x → x.channel.phase ≡ Rest → Course t x

  -- the channel after a tick under the settings z, with the wave tables u
  abbrev pub next_tick : List ℕ → List ℕ → Side → Side
  next_tick z u x = tick_of ed z u x.tables c x.channel

  -- what the tick after t ticks does
  pub record Ticked (t : ℕ) (z u : List ℕ) (x : Side) : Type 0 where
    pub course : Course (t + 1) (next_tick z u x)
    pub aborted : t + 11 ≡ d → (next_tick z u x).channel.shown ≡ blank x.channel.shown
    pub held : t + 11 ≡ d → (next_tick z u x).channel.signal ≡ x.channel.signal
    pub sample : a ≡ 1 → (k : ℕ) → k ≤ T → t + 1 ≡ d + 10 * k → (next_tick z u x).channel.shown ≡ sample_for ed w c v k x.channel.shown
    pub silent : d ≤ t + 10 → (a ≡ 1 → (k : ℕ) → k ≤ T → t + 1 ≡ d + 10 * k → ⊥) → (next_tick z u x).channel.shown ≡ x.channel.shown
    pub made : a ≡ 1 → (k : ℕ) → Plays w c v k → t + 1 ≡ d + 10 * k
        → (next_tick z u x).channel.signal ≡ signal_for ed u w c v k (next_tick z u x).channel.shown.amplitude x.channel.signal
    pub still : d ≤ t + 10 → (a ≡ 1 → (k : ℕ) → Plays w c v k → t + 1 ≡ d + 10 * k → ⊥) → (next_tick z u x).channel.signal ≡ x.channel.signal

  -- the same copy, another phase, another ramp value and another signal
  held_with : (x : Side) (p : Phase) (s : Shown) (g : Signal) → Held c v w x → Held c v w (side (with_signal (with x.channel p s) g) x.tables)
  held_with x p s g h = record { loaded = h.loaded; table = h.table }

  -- ---- a sample of the ramp

  -- where the ramp goes from sample k
  abbrev past : ℕ → Phase
  past k = phase_of (onward (loaded_for w c v) 10 (spot k))

  -- the channel once sample k is given
  abbrev sampled_at : ℕ → List ℕ → Side → Side
  sampled_at k u x =
      let s : Shown = sample_for ed w c v k x.channel.shown in
      side (with_signal (with x.channel (past k) s) (signal_for ed u w c v k s.amplitude x.channel.signal)) x.tables

  gave : (k t : ℕ) (x : Side) → a ≡ 1 → k ≤ T → t ≡ d + 10 * k → Held c v w x → Counted ed c v w k x.channel.signal → x.channel.phase ≡ past k → Course t x
  unfolding ended
  gave k t x y h q e n f = go (leb T k) refl (free_for w c v) refl
    where
      go : (b : Bool) → leb T k ≡ b → (i : Bool) → free_for w c v ≡ i → Course t x
      go true g true m =
          let kT : k ≡ T = omega (arith, leb-true) in
          frees k 10 y m (omega arith) (omega arith) (omega arith) (omega arith) e n
          (f ∙ rw (kT, eq-eqb (spot T).left.0 0 (place_last w from T refl), m))
      go true g false m = rests y m (omega (arith, leb-true)) e (f ∙ rw (eq-eqb (spot k).left.0 0 (place_last w from k (omega (arith, leb-true))), m))
      go false g i m =
          let j : 1 ≤ (spot k).left.0 = place_more w from k (omega (arith, leb-false)) in
          runs k 10 y (omega arith) (omega arith) (omega arith) (omega (arith, leb-false)) e n
          (f ∙ rw (ne_eqb (spot k).left.0 0 (λ q. absurd (omega arith))))

  -- a tick that gives sample k of the ramp, and no other
  sampled : (k t : ℕ) (z u : List ℕ) (x : Side) → a ≡ 1 → k ≤ T → t + 1 ≡ d + 10 * k → Held c v w x → next_tick z u x ≡ sampled_at k u x → Ticked t z u x
  sampled k t z u x y h q e o =
      record {
        course = rw o (gave k (t + 1) (sampled_at k u x) y h q (held_with x _ _ _ e) (signal_counted ed c v w u _ x.channel.signal k) refl);
        aborted = λ b. absurd (omega arith);
        held = λ b. absurd (omega arith);
        sample = λ b j i g. let kj : k ≡ j = omega arith in rw (← kj) (ap (λ (n : Side). n.channel.shown) o);
        silent = λ m n. absurd (n y k h q);
        made = λ b j i g. let kj : k ≡ j = omega arith in rw (← kj, o);
        still = λ m n. absurd (n y k (inl h) q);
      }

  -- a tick that gives none
  unsampled : (t : ℕ) (z u : List ℕ) (x x' : Side) → d ≤ t + 10 → next_tick z u x ≡ x' → x'.channel.shown ≡ x.channel.shown
      → x'.channel.signal ≡ x.channel.signal → Course (t + 1) x' → (a ≡ 1 → (k : ℕ) → Plays w c v k → t + 1 ≡ d + 10 * k → ⊥) → Ticked t z u x
  unsampled t z u x x' b o s g y n =
      record {
        course = rw o y;
        aborted = λ i. absurd (omega arith);
        held = λ i. absurd (omega arith);
        sample = λ i j k g. absurd (n i j (inl k) g);
        silent = λ m i. rw o s;
        made = λ i j k g. absurd (n i j k g);
        still = λ m i. rw o g;
      }

  -- the start, and the sample after sample k, read from the copy
  first_given : (z u : List ℕ) (x : Side) (n : ℕ) → Held c v w x → x.channel.phase ≡ Counting (record { 0 = n }) Still → n ≤ 1 → word z (enable_at c) ≡ 1
      → next_tick z u x ≡ sampled_at 0 u x
  unfolding given
  first_given z u x n h f g e =
      rw (
        tick_made ed z x.tables c x.channel u _ (move_start ed z x.tables c x.channel n Still f g e),
        h.loaded,
        same_enter x.tables (first_of c) w from h.table 0 (omega arith),
        place_first w from,
        same_sample x.tables (first_of c) w from h.table ed (loaded_for w c v) (spot 0) (placed w from 0),
        first_made ed c v w u _ x.channel.signal,
      )

  next_given : (z u : List ℕ) (x : Side) (k r : ℕ) → Held c v w x → Counted ed c v w k x.channel.signal → x.channel.phase ≡ Running (way (spot k) r 10)
      → r ≤ 1 → k < T → next_tick z u x ≡ sampled_at (k + 1) u x
  unfolding given
  next_given z u x k r h n f g i =
      rw (
        tick_made ed z x.tables c x.channel u _ (move_give ed z x.tables c x.channel (spot k) r f g),
        h.loaded,
        same_next x.tables (first_of c) w from h.table (spot k)
            ((placed w from k).inner (place_more w from k i)),
        place_step w from k i,
        same_sample x.tables (first_of c) w from h.table ed (loaded_for w c v) (spot (k + 1)) (placed w from (k + 1)),
        next_made ed c v w u _ x.channel.signal k i n,
      )

  -- ---- a sample of the free run

  abbrev free_at : ℕ → List ℕ → Side → Side
  free_at k u x =
      side
      (with_signal (with x.channel (FreeRunning (way (spot T) 10 10)) x.channel.shown) (signal_for ed u w c v k x.channel.shown.amplitude x.channel.signal))
      x.tables

  free_given : (z u : List ℕ) (x : Side) (k r : ℕ) → Held c v w x → Counted ed c v w k x.channel.signal → x.channel.phase ≡ FreeRunning (way (spot T) r 10)
      → r ≤ 1 → T ≤ k → free_for w c v ≡ true → next_tick z u x ≡ free_at (k + 1) u x
  free_given z u x k r h n f g i e =
      rw (
        tick_made ed z x.tables c x.channel u _ (free_give ed z x.tables c x.channel (spot T) r f g),
        h.loaded,
        free_made ed c v w u x.channel.shown.amplitude x.channel.signal k i e n,
      )

  free_sampled : (k t : ℕ) (z u : List ℕ) (x : Side) → a ≡ 1 → free_for w c v ≡ true → T < k → t + 1 ≡ d + 10 * k → Held c v w x
      → next_tick z u x ≡ free_at k u x → Ticked t z u x
  free_sampled k t z u x y m h q e o =
      record {
        course =
            rw o
            (frees k 10 y m (omega arith) (omega arith) (omega arith) (omega arith) (held_with x _ _ _ e)
            (signal_counted ed c v w u x.channel.shown.amplitude x.channel.signal k) refl);
        aborted = λ b. absurd (omega arith);
        held = λ b. absurd (omega arith);
        sample = λ b j i g. absurd (omega arith);
        silent = λ b n. ap (λ (i : Side). i.channel.shown) o;
        made = λ b j i g. let kj : k ≡ j = omega arith in rw (← kj, o);
        still = λ b n. absurd (n y k (inr m) q);
      }

  -- ---- any tick

  -- after the end no sample is given, but for free run
  no_more : (t k : ℕ) → free_for w c v ≡ false → d + 10 * T ≤ t → Plays w c v k → t + 1 ≡ d + 10 * k → ⊥
  no_more t k e h (inl g) q = omega arith
  no_more t k e h (inr g) q = cc

  pub ticked : (t : ℕ) (z u : List ℕ) (x : Side) → 128 * c + 128 ≤ length x.tables → (t + 11 ≡ d → z ≡ w) → (t + 1 ≡ d → word z (enable_at c) ≡ a)
      → Course t x → Ticked t z u x
  ticked t z u x m lo en (off y h e f) =
      unsampled t z u x x (omega arith) (tick_rest ed z x.tables c x.channel u f) refl refl (off y (omega arith) e f) (λ i k j o. y i)
  ticked t z u x m lo en (rests y i h e f) =
      unsampled t z u x x (omega arith) (tick_rest ed z x.tables c x.channel u f) refl refl (rests y i (omega arith) e f) (λ b k j o. no_more t k i h j o)
  ticked t z u x m lo en (runs k r y q p b h e n f) = go (leb r 1) refl
    where
      go : (i : Bool) → leb r 1 ≡ i → Ticked t z u x
      go true g = sampled (k + 1) t z u x y (omega arith) (omega (arith, leb-true)) e (next_given z u x k r e n f (omega (arith, leb-true)) h)
      go false g =
          let r1 : 1 < r = omega (arith, leb-false) in
          unsampled t z u x _ (omega arith) (tick_wait ed z x.tables c x.channel u (spot k) r f r1) refl refl
          (runs k (r - 1) y (omega arith) (omega arith) (omega arith) h (held_with x _ _ _ e) n refl)
          (λ i j o s. omega arith)
  ticked t z u x m lo en (frees k r y i q p b h e n f) = go (leb r 1) refl
    where
      go : (j : Bool) → leb r 1 ≡ j → Ticked t z u x
      go true g = free_sampled (k + 1) t z u x y i (omega arith) (omega (arith, leb-true)) e (free_given z u x k r e n f (omega (arith, leb-true)) h i)
      go false g =
          let r1 : 1 < r = omega (arith, leb-false) in
          unsampled t z u x _ (omega arith) (tick_free_wait ed z x.tables c x.channel u (spot T) r f r1) refl refl
          (frees k (r - 1) y i (omega arith) (omega arith) (omega arith) h (held_with x _ _ _ e) n refl)
          (λ l j o s. omega arith)
  ticked t z u x m lo en (starts n q p b e f) = go (leb n 1) refl (eqb a 1) refl
    where
      go : (i : Bool) → leb n 1 ≡ i → (j : Bool) → eqb a 1 ≡ j → Ticked t z u x
      go true g true y =
          sampled 0 t z u x (eqb-true a 1 y) (omega arith) (omega (arith, leb-true)) e
          (first_given z u x n e f (omega (arith, leb-true)) (en (omega (arith, leb-true)) ∙ eqb-true a 1 y))
      go true g false y =
          let no : a ≡ 1 → ⊥ = eqb-false a 1 y in
          unsampled t z u x _ (omega arith)
          (tick_off ed z x.tables c x.channel u n Still f (omega (arith, leb-true)) (λ i. no (sym (en (omega (arith, leb-true))) ∙ i))) refl refl
          (off no (omega (arith, leb-true)) (held_with x _ _ _ e) refl)
          (λ i j k o. no i)
      go false g j y =
          let n1 : 1 < n = omega (arith, leb-false) in
          unsampled t z u x _ (omega arith) (tick_still ed z x.tables c x.channel u n f n1 (λ i. absurd (omega arith))) refl refl
          (starts (n - 1) (omega arith) (omega arith) (omega arith) (held_with x _ _ _ e) refl)
          (λ i j k o. omega arith)
  ticked t z u x m lo en (waits n o q p e f) = go (leb n 11) refl
    where
      early : (t + 11 ≡ d → (next_tick z u x).channel.shown ≡ blank x.channel.shown) → (t + 11 ≡ d → (next_tick z u x).channel.signal ≡ x.channel.signal)
          → Course (t + 1) (next_tick z u x) → Ticked t z u x
      early s g y =
          record {
            course = y;
            aborted = s;
            held = g;
            sample = λ i j k b. absurd (omega arith);
            silent = λ i j. absurd (omega arith);
            made = λ i j k b. absurd (omega arith);
            still = λ i j. absurd (omega arith);
          }

      go : (i : Bool) → leb n 11 ≡ i → Ticked t z u x
      go true g =
          let n1 : n ≡ 11 = omega (arith, leb-true) in
          let y : next_tick z u x ≡ load w x.tables c x.channel v = tick_load ed z x.tables c x.channel u n o f n1 ∙ rw (e, lo (omega arith)) in
          early (λ i. rw y (load_shown c v w x)) (λ i. rw y (load_signal c v w x)) (rw y (starts 10 (omega arith) (omega arith) (omega arith) (loads c v w x m) (load_phase c v w x)))
      go false g =
          let n1 : 11 < n = omega (arith, leb-false) in
          let y = tick_count ed z x.tables c x.channel u n o f n1 in
          early (λ i. absurd (omega arith)) (λ i. absurd (omega arith)) (rw y.3 (waits (n - 1) y.0 (omega arith) (omega arith) e refl))

  -- ---- between the ticks

  -- what leaves level, phase, copy and counter leaves the course as it is
  kept : (t : ℕ) (x x' : Side) → x'.channel.level ≡ x.channel.level → x'.channel.loaded ≡ x.channel.loaded → x'.channel.phase ≡ x.channel.phase
      → x'.channel.signal.counter ≡ x.channel.signal.counter → SameTable x'.tables (first_of c) x.tables (first_of c) → Course t x → Course t x'
  kept t x x' i p q j s y = go y
    where
      same : Held c v w x → Held c v w x'
      same h = record { loaded = cc; table = λ n g. s n g ∙ h.table n g }

      as_counted : (k : ℕ) → Counted ed c v w k x.channel.signal → Counted ed c v w k x'.channel.signal
      as_counted k n e = j ∙ n e

      go : Course t x → Course t x'
      go (waits n o u b e f) = waits n o u b (cc) cc
      go (starts n u b g e f) = starts n u b g (same e) cc
      go (runs k r y u b g h e n f) = runs k r y u b g h (same e) (as_counted k n) cc
      go (frees k r y m u b g h e n f) = frees k r y m u b g h (same e) (as_counted k n) cc
      go (rests y m h e f) = rests y m h (same e) cc
      go (off y h e f) = off y h (same e) cc

  pub beside_elsewhere : (t : ℕ) (x : Side) (l : List ℕ) → 128 * c + 128 ≤ length x.tables → Course t x → Course t (act ed c x (Elsewhere l))
  beside_elsewhere t x l m y = kept t x (act ed c x (Elsewhere l)) refl refl refl refl (elsewhere_in c x.tables l m) y

  pub beside_output : (t : ℕ) (x : Side) (o : ℕ) → Course t x → Course t (act ed c x (Output o))
  beside_output t x o y =
      kept t x (act ed c x (Output o)) (written_level o x.channel) (written_loaded o x.channel) (written_phase o x.channel)
      (written_counter o x.channel) (λ i h. refl) y

  pub beside_clear : (t : ℕ) (x : Side) → Course t x → Course t (act ed c x Clear)
  beside_clear t x y = kept t x (act ed c x Clear) refl refl refl refl (λ i h. refl) y

  -- ---- any acts

  -- what the acts to come hold: the settings at the load, and the enable at the start
  pub record Ahead (t : ℕ) (s z : List ℕ) (xs : List Act) : Type 0 where
    pub loads : (n : ℕ) → t + suc n + 10 ≡ d → held_on s z (suc n) xs ≡ w
    pub enabled : (n : ℕ) → t + suc n ≡ d → word (held_on s z (suc n) xs) (enable_at c) ≡ a

  pub course_run : (t : ℕ) (s z : List ℕ) (x : Side) (xs : List Act) → 128 * c + 128 ≤ length x.tables → Ahead t s z xs → Course t x
      → Course (t + ticks_in xs) (run ed c x xs)
  course_run t s z x [] m h y = rw add-zero y
  course_run t s z x (Tick o u ∷ xs) m h y =
      rw (add-suc, ← suc-add, ← add-one)
      (course_run (t + 1) s z (act ed c x (Tick o u)) xs (rw (act_length ed c x (Tick o u)) m)
      (record { loads = λ n q. h.loads (suc n) (omega arith); enabled = λ n q. h.enabled (suc n) (omega arith) })
      (ticked t o u x m (λ q. h.loads 0 (omega arith)) (λ q. h.enabled 0 (omega arith)) y).course)
  course_run t s z x (Elsewhere l ∷ xs) m h y =
      course_run t s z (act ed c x (Elsewhere l)) xs (rw (act_length ed c x (Elsewhere l)) m) (record { loads = h.loads; enabled = h.enabled }) (beside_elsewhere t x l m y)
  course_run t s z x (Output o ∷ xs) m h y = course_run t s z (act ed c x (Output o)) xs m (record { loads = h.loads; enabled = h.enabled }) (beside_output t x o y)
  course_run t s z x (Clear ∷ xs) m h y = course_run t s z (act ed c x Clear) xs m (record { loads = h.loads; enabled = h.enabled }) (beside_clear t x y)
