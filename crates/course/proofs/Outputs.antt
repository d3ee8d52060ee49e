-- The amplitudes and the outputs of a ramp follow from what was loaded and what stood there just before the start (`outputs_follow`): each
-- sample sets such a word or holds it, and between samples it stays, since no output write is taken while a ramp runs or free-runs. This is
-- said once of any word of a channel (`Traced`), then of the two. Assumes nothing.
use Rattle.std.specs.Prelude.{Option, None}
use mathlib.Core.Path.{◌≡◌, refl, ap, ◌∙◌}
use mathlib.Core.Bool.{Bool, true, false, cond}
use mathlib.Core.Logic.{inl, inr}
use mathlib.Core.List.{List, [], ◌∷◌}
use Prim.Native.Nat.{ℕ, zero, suc, ◌+◌, ◌*◌, ◌-◌, ◌≤◌, ◌<◌, min}
use native.Mathlib.Omega.{arith}
use native.Mathlib.Nat.{zero-add, add-zero, add-suc, suc-add}
use native.Mathlib.Numerals.{add-one}
use lib.Dec.{leb}
use lib.ListN.{length}
use borrow.Author.Tests.{leb-true, leb-false, le-leb}
use Rattle.map.specs.Addresses.{enable_at}
use Rattle.sum.specs.declared.Edition.{Edition}
use Rattle.channel.specs.declared.Shown.{Shown}
use Rattle.channel.specs.declared.Signal.{Signal}
use Rattle.channel.specs.declared.Channel.{Channel}
use Rattle.channel.specs.Ramp.{hold}
use Rattle.channel.specs.Channel.{Side, word, ramp_of, going, countdown, triggered}
use Rattle.course.specs.Course.{Act, Tick, Elsewhere, Output, Clear, act, run, ticks_in, until, held_on, waves_on}
use Rattle.course.specs.Follows.{total_for, sum_for, Plays}
use Rattle.course.specs.Outputs.{latest, amplitude_for, output_for, MoreToCome, Outputs, OutputsFollow}
use Rattle.course.proofs.Copies.{trigger_length}
use Rattle.course.proofs.Acts.{act_length, before_all, waves_next, not_written}
use Rattle.course.proofs.Signals.{same_sound, signal_output}
use Rattle.course.proofs.Course.{Course, waits, starts, runs, frees, rests, off, Ahead, Ticked, ticked, beside_elsewhere, beside_output, beside_clear}
use Rattle.course.proofs.Follows.{course_trigger, ahead, tick_now}

module _ (ed : Edition) (c v : ℕ) (w : List ℕ) (d : ℕ) where
  abbrev T : ℕ
  T = total_for w c v

  goes_plays : (k : ℕ) → MoreToCome w c v k → Plays w c v k
  goes_plays k (inl h) = inl (omega arith)
  goes_plays k (inr e) = inr e

  plays_goes : (k : ℕ) → Plays w c v (suc k) → MoreToCome w c v k
  plays_goes k (inl h) = inl (omega arith)
  plays_goes k (inr e) = inr e

  -- ---- any word of a channel, o before the start, of which each sample makes a sum or holds it

  module _ (of : Channel → ℕ) (sums : ℕ → Option ℕ) (o : ℕ) where
    -- the word t ticks after the trigger, while samples are to come
    Traced : ℕ → Side → Type 0
    Traced t x = (k j : ℕ) → MoreToCome w c v k → j < 10 → t ≡ d + 10 * k + j → of x.channel ≡ latest sums o k

    -- what the tick after t ticks makes of it
    record Reads (t : ℕ) (now later : Side) : Type 0 where
      pub made : (k : ℕ) → Plays w c v k → t + 1 ≡ d + 10 * k → of later.channel ≡ hold (sums k) (of now.channel)
      pub still : d ≤ t + 10 → ((k : ℕ) → Plays w c v k → t + 1 ≡ d + 10 * k → ⊥) → of later.channel ≡ of now.channel

    -- just after a sample
    sample_out : (t : ℕ) (x x' : Side) → Reads t x x' → Traced t x → (t + 1 ≡ d → of x.channel ≡ o)
        → (k : ℕ) → Plays w c v k → t + 1 ≡ d + 10 * k → of x'.channel ≡ latest sums o k
    unfolding Traced
    sample_out t x x' y r b zero h e = cc (y.made 0 h e, b (omega arith))
    sample_out t x x' y r b (suc k) h e =
        cc (y.made (suc k) h e, r k 9 (plays_goes k h) (omega arith) (omega arith))

    tick_out : (t : ℕ) (x x' : Side) → Reads t x x' → Traced t x → (t + 1 ≡ d → of x.channel ≡ o) → Traced (t + 1) x'
    unfolding Traced
    tick_out t x x' y r b k zero h g e = sample_out t x x' y r b k (goes_plays k h) (omega arith)
    tick_out t x x' y r b k (suc j) h g e = y.still (omega arith) (λ i u n. omega arith) ∙ r k j h (omega arith) (omega arith)

    same_out : (t : ℕ) (x x' : Side) → of x'.channel ≡ of x.channel → Traced t x → Traced t x'
    unfolding Traced
    same_out t x x' e y k j h g q = e ∙ y k j h g q

    -- an output write is not taken while samples are to come
    not_taken : (t : ℕ) (x : Side) (u : ℕ) → going (ramp_of x.channel.phase) ≡ true → Traced t x → Traced t (act ed c x (Output u))
    not_taken t x u e y = same_out t x (act ed c x (Output u)) (ap of (not_written u x.channel e)) y

    output_out : (t : ℕ) (x : Side) (u : ℕ) → Course ed c v w 1 d t x → Traced t x → Traced t (act ed c x (Output u))
    unfolding Traced
    output_out t x u (waits n i q p g f) y k j h b s = absurd (omega arith)
    output_out t x u (starts n q p i g f) y k j h b s = absurd (omega arith)
    output_out t x u (runs m r a q p i g e n f) y k j h b s = not_taken t x u (cc) y k j h b s
    output_out t x u (frees m r a z q p i g e n f) y k j h b s = not_taken t x u (cc) y k j h b s
    output_out t x u (rests a e q g f) y k j (inl h) b s = absurd (omega arith)
    output_out t x u (rests a e q g f) y k j (inr h) b s = absurd cc
    output_out t x u (off a q g f) y k j h b s = absurd (a refl)

  -- ---- the amplitude and the output, a and o before the start, u k being the wave tables of sample k

  abbrev amplitude : Channel → ℕ
  amplitude ch = ch.shown.amplitude

  abbrev output : Channel → ℕ
  output ch = ch.signal.output

  -- the sums that move the amplitude: after the end's sample it is held
  abbrev moves : ℕ → Option ℕ
  moves k = cond (leb k T) (sum_for ed w c v k) None

  moves_latest : (a k : ℕ) → latest moves a k ≡ amplitude_for ed w c v a k
  moves_latest a zero =
      let e : 0 ≡ min 0 T = omega arith in
      rw (le-leb 0 T (omega arith)) cc
  moves_latest a (suc k) = go (leb (suc k) T) refl (moves_latest a k)
    where
      go : (b : Bool) → leb (suc k) T ≡ b → latest moves a k ≡ amplitude_for ed w c v a k
          → hold (cond b (sum_for ed w c v (suc k)) None) (latest moves a k) ≡ amplitude_for ed w c v a (suc k)
      go true e r =
          let p : min k T ≡ k = omega (arith, leb-true) in
          let q : suc k ≡ min (suc k) T = omega (arith, leb-true) in
          cc
      go false e r = let p : min k T ≡ min (suc k) T = omega (arith, leb-false) in cc

  module _ (u : ℕ → List ℕ) (a o : ℕ) where
    -- what stands there before the start
    abbrev Before : Channel → Type 0
    Before ch = (amplitude ch ≡ a) × (output ch ≡ o)

    -- the two, t ticks after the trigger
    record Both (t : ℕ) (x : Side) : Type 0 where
      pub moved : Traced amplitude moves a t x
      pub made : Traced output (output_for ed u w c v a) o t x

    -- a tick under the settings z, with the wave tables q
    module _ (t : ℕ) (z q : List ℕ) (x : Side) (y : Ticked ed c v w 1 d t z q x) (r : Both t x) (b : t + 1 ≡ d → Before x.channel)
        (waves : (k : ℕ) → t + 1 ≡ d + 10 * k → q ≡ u k) where
      abbrev later : Side
      later = act ed c x (Tick z q)

      amplitude_reads : Reads amplitude moves a t x later
      amplitude_reads =
          record {
            made = λ k h e. go k (leb k T) refl e;
            still = λ h n. cc (y.silent h (λ i k j e. n k (inl j) e));
          }
        where
          go : (k : ℕ) (i : Bool) → leb k T ≡ i → t + 1 ≡ d + 10 * k
              → later.channel.shown.amplitude ≡ hold (cond i (sum_for ed w c v k) None) x.channel.shown.amplitude
          go k true g e = ap (λ (s : Shown). s.amplitude) (y.sample refl k (omega (arith, leb-true)) e)
          go k false g e = cc (y.silent (omega arith) (λ i j h p. omega (arith, leb-false)))

      just_amplitude_lem : (k : ℕ) → Plays w c v k → t + 1 ≡ d + 10 * k → later.channel.shown.amplitude ≡ amplitude_for ed w c v a k
      just_amplitude_lem k h e = sample_out amplitude moves a t x later amplitude_reads r.moved (λ i. (b i).0) k h e ∙ moves_latest a k

      output_reads : Reads output (output_for ed u w c v a) o t x later
      output_reads =
          record {
            made = λ k h e.
                ap (λ (g : Signal). g.output) (y.made refl k h e) ∙ signal_output ed c v w q later.channel.shown.amplitude x.channel.signal k
                ∙ ap (λ (n : Option ℕ). hold n x.channel.signal.output) (same_sound ed c v w k q (u k) _ _ (waves k e) (just_amplitude_lem k h e));
            still = λ h n. cc (y.still h (λ i k j e. n k j e));
          }

      just_output_lem : (k : ℕ) → Plays w c v k → t + 1 ≡ d + 10 * k → later.channel.signal.output ≡ latest (output_for ed u w c v a) o k
      just_output_lem k h e = sample_out output (output_for ed u w c v a) o t x later output_reads r.made (λ i. (b i).1) k h e

      tick_both : Both (t + 1) later
      tick_both =
          record {
            moved = tick_out amplitude moves a t x later amplitude_reads r.moved (λ i. (b i).0);
            made = tick_out output (output_for ed u w c v a) o t x later output_reads r.made (λ i. (b i).1);
          }

    same_both : (t : ℕ) (x x' : Side) → amplitude x'.channel ≡ amplitude x.channel → output x'.channel ≡ output x.channel → Both t x → Both t x'
    same_both t x x' e f y =
        record { moved = same_out amplitude moves a t x x' e y.moved; made = same_out output (output_for ed u w c v a) o t x x' f y.made }

    -- any acts
    traced_run : (t : ℕ) (s z q : List ℕ) (x : Side) (xs : List Act) → 128 * c + 128 ≤ length x.tables → Ahead ed c v w 1 d t s z xs
        → ((n : ℕ) → t + suc n ≡ d → Before (run ed c x (until (suc n) xs)).channel)
        → ((n k : ℕ) → t + suc n ≡ d + 10 * k → waves_on q (suc n) xs ≡ u k)
        → Course ed c v w 1 d t x → Both t x → Both (t + ticks_in xs) (run ed c x xs)
    traced_run t s z q x [] m h b f e y = rw add-zero y
    traced_run t s z q x (Tick i j ∷ xs) m h b f e y =
        let k : Ticked ed c v w 1 d t i j x = ticked ed c v w 1 d t i j x m (λ g. h.loads 0 (omega arith)) (λ g. h.enabled 0 (omega arith)) e in
        rw (add-suc, ← suc-add, ← add-one)
        (traced_run (t + 1) s z q (act ed c x (Tick i j)) xs (rw (act_length ed c x (Tick i j)) m)
        (record { loads = λ n g. h.loads (suc n) (omega arith); enabled = λ n g. h.enabled (suc n) (omega arith) })
        (λ n g. b (suc n) (omega arith))
        (λ n l g. f (suc n) l (omega arith))
        k.course
        (tick_both t i j x k y (λ g. b 0 (omega arith)) (λ l g. f 0 l (omega arith))))
    traced_run t s z q x (Elsewhere l ∷ xs) m h b f e y =
        traced_run t s z q (act ed c x (Elsewhere l)) xs (rw (act_length ed c x (Elsewhere l)) m) (record { loads = h.loads; enabled = h.enabled }) b f
        (beside_elsewhere ed c v w 1 d t x l m e) (same_both t x (act ed c x (Elsewhere l)) refl refl y)
    traced_run t s z q x (Output i ∷ xs) m h b f e y =
        traced_run t s z q (act ed c x (Output i)) xs m (record { loads = h.loads; enabled = h.enabled }) b f
        (beside_output ed c v w 1 d t x i e)
        (record { moved = output_out amplitude moves a t x i e y.moved; made = output_out output (output_for ed u w c v a) o t x i e y.made })
    traced_run t s z q x (Clear ∷ xs) m h b f e y =
        traced_run t s z q (act ed c x Clear) xs m (record { loads = h.loads; enabled = h.enabled }) b f
        (beside_clear ed c v w 1 d t x e) (same_both t x (act ed c x Clear) refl refl y)

module _ (ed : Edition) (s l : List ℕ) (c : ℕ) (ch : Channel) (v : ℕ) (room : 128 * c + 128 ≤ length l) (xs : List Act) (z q : List ℕ)
    (on : word (held_on s z (countdown s c v) xs) (enable_at c) ≡ 1) where
  abbrev d' : ℕ
  d' = countdown s c v

  abbrev w' : List ℕ
  w' = held_on s z (d' - 10) xs

  abbrev u' : ℕ → List ℕ
  u' k = waves_on q (d' + 10 * k) xs

  abbrev now : Side
  now = run ed c (triggered s l c ch v) xs

  -- the channel just before the start
  abbrev before : Channel
  before = (run ed c (triggered s l c ch v) (until d' xs)).channel

  abbrev a' : ℕ
  a' = before.shown.amplitude

  abbrev o' : ℕ
  o' = before.signal.output

  ahead_on : Ahead ed c v w' 1 d' 0 s z xs
  ahead_on = rw (← on) (ahead ed s l c ch v room xs z)

  tick_on : Ticked ed c v w' 1 d' (ticks_in xs) z q now
  tick_on = rw (← on) (tick_now ed s l c ch v room xs z q)

  until_start : (ys : List Act) → ys ≡ until d' xs → Before ed c v w' d' u' a' o' (run ed c (triggered s l c ch v) ys).channel
  until_start ys e = (
    cc,
    cc,
  )

  traced : Both ed c v w' d' u' a' o' (ticks_in xs) now
  unfolding Traced
  traced =
      rw zero-add at
      (traced_run ed c v w' d' u' a' o' 0 s z q (triggered s l c ch v) xs (rw (trigger_length s l c ch v) room) ahead_on
      (λ n e. let i : suc n ≡ d' = omega arith in until_start (until (suc n) xs) cc)
      (λ n k e. let i : suc n ≡ d' + 10 * k = omega arith in cc)
      (course_trigger ed s l c ch v room xs z 1)
      (record { moved = λ m j h g e. absurd (omega arith); made = λ m j h g e. absurd (omega arith) }))

  before_start : ticks_in xs + 1 ≡ d' → Before ed c v w' d' u' a' o' now.channel
  before_start e =
      let i : suc (ticks_in xs) ≡ d' = omega arith in
      until_start xs (cc (before_all (ticks_in xs) xs (omega arith)))

  waves_now : (k : ℕ) → ticks_in xs + 1 ≡ d' + 10 * k → q ≡ u' k
  waves_now k e =
      let i : suc (ticks_in xs) ≡ d' + 10 * k = omega arith in
      cc (waves_next q (ticks_in xs) xs (omega arith))

  outputs : Outputs ed c v d' w' u' a' o' (ticks_in xs) now (act ed c now (Tick z q))
  unfolding Traced
  outputs =
      record {
        amplitude = λ k j h g e. traced.moved k j h g e ∙ moves_latest ed c v w' d' a' k;
        output = traced.made;
        just_amplitude = just_amplitude_lem ed c v w' d' u' a' o' (ticks_in xs) z q now tick_on traced before_start waves_now;
        just_output = just_output_lem ed c v w' d' u' a' o' (ticks_in xs) z q now tick_on traced before_start waves_now;
      }

-- Each amplitude of a ramp is its sample's sum or, where that overflows, the amplitude before; each output is the sum, or the sine of the
-- amplitude, or, where that overflows, the output before
pub outputs_follow : OutputsFollow
unfolding OutputsFollow
outputs_follow ed s l c ch level room xs z w on = outputs ed s l c ch level room xs z w on
