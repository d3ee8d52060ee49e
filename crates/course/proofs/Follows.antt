-- Demand 3 holds of every channel, trigger and acts (`trigger_followed`): the trigger sets the course, the acts keep it, and each field of the
-- statement is read off its case. Assumes nothing.
use mathlib.Core.Path.{◌≡◌, refl}
use mathlib.Core.Bool.{Bool, true, false}
use mathlib.Core.List.{List}
use Prim.Native.Nat.{ℕ, suc, ◌+◌, ◌*◌, ◌-◌, ◌≤◌, ◌<◌}
use native.Mathlib.Omega.{arith}
use native.Mathlib.Nat.{zero-add}
use lib.Dec.{leb}
use lib.ListN.{length}
use borrow.Author.Tests.{leb-true, leb-false}
use Rattle.sum.specs.declared.Edition.{Edition}
use Rattle.map.specs.Addresses.{delay_at, enable_at}
use Rattle.channel.specs.declared.Channel.{Channel}
use Rattle.channel.specs.declared.Ramp.TheVariants.{Still}
use Rattle.channel.specs.declared.Phase.TheVariants.{Rest, Counting, Running, FreeRunning}
use Rattle.channel.specs.Ramp.{way}
use Rattle.channel.specs.Channel.{Side, side, word, ramp_of, load, countdown, triggered}
use Rattle.channel.proofs.Counts as counts
use Rattle.course.specs.Course.{Act, Tick, act, run, ticks_in, held_on}
use Rattle.course.specs.Follows.{total_for, place_for, free_for, Follows, TriggerFollowed}
use Rattle.course.proofs.Copies.{trigger_length}
use Rattle.course.proofs.Acts.{run_length, held_next}
use Rattle.course.proofs.Course.{Held, Course, waits, starts, runs, frees, rests, off, Ahead, Ticked, loads, load_phase, ticked, course_run}

-- a load sets the course, 10 ticks before the start
load_starts : (ed : Edition) (c v : ℕ) (s : List ℕ) (a : ℕ) (l : List ℕ) (ch : Channel) → 128 * c + 128 ≤ length l → Course ed c v s a 10 0 (load s l c ch v)
load_starts ed c v s a l ch m =
    starts 10 (omega arith) (omega arith) (omega arith) (loads c v s (side ch l) m) (load_phase c v s (side ch l))

module _ (ed : Edition) (s l : List ℕ) (c : ℕ) (ch : Channel) (v : ℕ) (room : 128 * c + 128 ≤ length l) (xs : List Act) (z : List ℕ) where
  abbrev d : ℕ
  d = countdown s c v

  -- the settings that are loaded, and A00 at the start
  abbrev w : List ℕ
  w = held_on s z (d - 10) xs

  abbrev a : ℕ
  a = word (held_on s z d xs) (enable_at c)

  abbrev now : Side
  now = run ed c (triggered s l c ch v) xs

  -- a trigger sets the course
  pub course_trigger : (e : ℕ) → Course ed c v w e d 0 (triggered s l c ch v)
  course_trigger e = go (leb (word s (delay_at c v)) 10) refl
    where
      go : (b : Bool) → leb (word s (delay_at c v)) 10 ≡ b → Course ed c v w e d 0 (triggered s l c ch v)
      go true q =
          let h : word s (delay_at c v) ≤ 10 = omega (arith, leb-true) in
          let d10 : countdown s c v ≡ 10 = omega arith in
          rw (counts.at_once s l c ch v h, d10) (load_starts ed c v s e l ch room)
      go false q =
          let h : 10 < word s (delay_at c v) = omega (arith, leb-false) in
          rw (counts.later s l c ch v h) (waits (word s (delay_at c v)) (ramp_of ch.phase) (omega arith) h refl refl)

  pub ahead : Ahead ed c v w a d 0 s z xs
  ahead =
      record {
        loads = λ n q. let e : d - 10 ≡ suc n = omega arith in rw e;
        enabled = λ n q. let e : d ≡ suc n = omega arith in rw e;
      }

  pub course_now : Course ed c v w a d (ticks_in xs) now
  course_now = rw zero-add at (course_run ed c v w a d 0 s z (triggered s l c ch v) xs (rw (trigger_length s l c ch v) room) ahead (course_trigger a))

  pub tick_now : (u : List ℕ) → Ticked ed c v w a d (ticks_in xs) z u now
  tick_now u =
      ticked ed c v w a d (ticks_in xs) z u now
      (rw (run_length ed c (triggered s l c ch v) xs, trigger_length s l c ch v) room)
      (λ q. let e : d - 10 ≡ suc (ticks_in xs) = omega arith in rw (e, held_next s z (ticks_in xs) xs (omega arith)))
      (λ q. let e : d ≡ suc (ticks_in xs) = omega arith in rw (e, held_next s z (ticks_in xs) xs (omega arith)))
      course_now

  held_of : d ≤ ticks_in xs + 10 → (x : Side) → Course ed c v w a d (ticks_in xs) x → Held c v w x
  held_of h x (waits n o q p e f) = absurd (omega arith)
  held_of h x (starts n q p b e f) = e
  held_of h x (runs k r y q p b g e n f) = e
  held_of h x (frees k r y m q p b g e n f) = e
  held_of h x (rests y m g e f) = e
  held_of h x (off y g e f) = e

  count_of : d ≤ ticks_in xs + 10 → (n : ℕ) → 1 ≤ n → ticks_in xs + n ≡ d → (x : Side) → Course ed c v w a d (ticks_in xs) x
      → x.channel.phase ≡ Counting (record { 0 = n }) Still
  count_of h n g u x (waits m o q p e f) = absurd (omega arith)
  count_of h n g u x (starts m q p b e f) = let nm : n ≡ m = omega arith in rw nm f
  count_of h n g u x (runs k r y q p b i e j f) = absurd (omega arith)
  count_of h n g u x (frees k r y m q p b i e j f) = absurd (omega arith)
  count_of h n g u x (rests y m i e f) = absurd (omega arith)
  count_of h n g u x (off y i e f) = absurd (omega arith)

  run_of : a ≡ 1 → (k j : ℕ) → k < total_for w c v → j < 10 → ticks_in xs ≡ d + 10 * k + j
      → (x : Side) → Course ed c v w a d (ticks_in xs) x → x.channel.phase ≡ Running (way (place_for w c v k) (10 - j) 10)
  run_of y k j h g u x (waits n o q p e f) = absurd (omega arith)
  run_of y k j h g u x (starts n q p b e f) = absurd (omega arith)
  run_of y k j h g u x (runs i r t q p b m e n f) =
      let ki : k ≡ i = omega arith in
      let jr : 10 - j ≡ r = omega arith in
      rw (ki, jr) f
  run_of y k j h g u x (frees i r t o q p b m e n f) = absurd (omega arith)
  run_of y k j h g u x (rests t o m e f) = absurd (omega arith)
  run_of y k j h g u x (off t m e f) = absurd (t y)

  rest_of : a ≡ 1 → free_for w c v ≡ false → d + 10 * total_for w c v ≤ ticks_in xs → (x : Side) → Course ed c v w a d (ticks_in xs) x → x.channel.phase ≡ Rest
  rest_of y i h x (waits n o q p e f) = absurd (omega arith)
  rest_of y i h x (starts n q p b e f) = absurd (omega arith)
  rest_of y i h x (runs k r t q p b g e n f) = absurd (omega arith)
  rest_of y i h x (frees k r t o q p b g e n f) = absurd cc
  rest_of y i h x (rests t o g e f) = f
  rest_of y i h x (off t g e f) = f

  free_of : a ≡ 1 → free_for w c v ≡ true → (k j : ℕ) → total_for w c v ≤ k → j < 10 → ticks_in xs ≡ d + 10 * k + j
      → (x : Side) → Course ed c v w a d (ticks_in xs) x → x.channel.phase ≡ FreeRunning (way (place_for w c v (total_for w c v)) (10 - j) 10)
  free_of y i k j h g u x (waits n o q p e f) = absurd (omega arith)
  free_of y i k j h g u x (starts n q p b e f) = absurd (omega arith)
  free_of y i k j h g u x (runs m r t q p b o e n f) = absurd (omega arith)
  free_of y i k j h g u x (frees m r t o q p b l e n f) = let jr : 10 - j ≡ r = omega arith in rw jr f
  free_of y i k j h g u x (rests t o m e f) = absurd cc
  free_of y i k j h g u x (off t m e f) = absurd (t y)

  off_of : (a ≡ 1 → ⊥) → d ≤ ticks_in xs → (x : Side) → Course ed c v w a d (ticks_in xs) x → x.channel.phase ≡ Rest
  off_of y h x (waits n o q p e f) = absurd (omega arith)
  off_of y h x (starts n q p b e f) = absurd (omega arith)
  off_of y h x (runs k r t q p b g e n f) = absurd (y t)
  off_of y h x (frees k r t o q p b g e n f) = absurd (y t)
  off_of y h x (rests t o g e f) = f
  off_of y h x (off t g e f) = f

  follows : (u : List ℕ) → Follows ed c v d w a (ticks_in xs) u now (act ed c now (Tick z u))
  follows u =
      record {
        loaded = λ h. (held_of h now course_now).loaded;
        table = λ h. (held_of h now course_now).table;
        aborted = (tick_now u).aborted;
        held = (tick_now u).held;
        sample = (tick_now u).sample;
        silent = (tick_now u).silent;
        made = (tick_now u).made;
        still = (tick_now u).still;
        counts = λ h n g q. count_of h n g q now course_now;
        runs = λ y k j h g q. run_of y k j h g q now course_now;
        rests = λ y i h. rest_of y i h now course_now;
        frees = λ y i k j h g q. free_of y i k j h g q now course_now;
        off = λ y h. off_of y h now course_now;
      }

-- Demand 3 of one channel
pub trigger_followed : TriggerFollowed
unfolding TriggerFollowed
trigger_followed ed s l c ch level room xs z w = follows ed s l c ch level room xs z w
