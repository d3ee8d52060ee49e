-- The sine over histories (`sines_over_histories`): what course proves of every tick and counter, for the states that the card comes to, and
-- what wave proves of every product, for the wave tables that it comes to. Assumes nothing.
use Rattle.std.specs.Prelude.{None}
use mathlib.Core.Path.{◌≡◌, refl, ap}
use mathlib.Core.Bool.{Bool, true, false}
use mathlib.Core.List.{List}
use Prim.Native.Nat.{ℕ, ◌+◌, ◌*◌, ◌%◌, ◌<◌}
use native.Mathlib.Omega.{arith}
use lib.IntN.{ℤ, pos, negsuc}
use lib.ListN.{length}
use Rattle.word.specs.Word.{signed_of}
use Rattle.word.proofs.Split.{dn}
use Rattle.sum.specs.declared.Edition.{Edition}
use Rattle.sum.specs.Product.{product_of}
use Rattle.wave.specs.Sine.{wave_word, sine_of}
use Rattle.wave.specs.Laws.{InWave, SinesRight, WordsInRange}
use Rattle.wave.proofs.Laws.{sines_right, words_in_range}
use Rattle.map.specs.Addresses.{phase_at, phase_map_at}
use Rattle.channel.specs.declared.Channel.{Channel}
use Rattle.channel.specs.Ramp.{is_sine, free_runs}
use Rattle.channel.specs.Channel.{word, ramp_of, tone_for, move_of}
use Rattle.course.specs.Follows.{counter_for, CounterClosed}
use Rattle.course.specs.Plain.{as_output, is_free, PlainTick, PlainTicks}
use Rattle.course.proofs.Signals.{counter_closed}
use Rattle.course.proofs.Plain.{plain_ticks}
use Rattle.card.specs.Card.{State, channel_of}
use Rattle.card.specs.Reset.{waves_reset, fresh_of}
use Rattle.history.specs.History.{Act}
use Rattle.history.specs.Sound.{Words, Sound}
use Rattle.history.specs.Waves.{waves_in}
use Rattle.history.specs.Sines.{Lowest, SinesOverHistories}
use Rattle.history.proofs.Waves.{waves_right}

-- ---- plain ticks

-- free run is one of sine mode
never_free : (mode : ℕ) (free : Bool) → is_sine mode ≡ false → (free ≡ true → free_runs mode ≡ true) → free ≡ false
never_free mode true e f = absurd (cc (f refl))
never_free mode false e f = refl

plain : (w : List ℕ) (st : State) → Sound st → (c : ℕ) → c < 4
    → let ch : Channel = channel_of st.card c in
    is_sine ch.loaded.tone.mode ≡ false → PlainTick st.card.edition st.settings w st.tables c ch (move_of st.card.edition st.settings st.tables c (as_output ch))
unfolding PlainTicks
plain w st h c b e =
    let ch : Channel = channel_of st.card c in
    plain_ticks st.card.edition st.settings w st.tables c ch e (never_free ch.loaded.tone.mode (is_free (ramp_of ch.phase)) e (h.card.channels c).free)

-- ---- the counter

counter : (s : List ℕ) → Words s → (c level k : ℕ) → counter_for s c level k ≡ ((tone_for s c level).phase + k * (tone_for s c level).frequency) % 65536
unfolding CounterClosed
counter s h c level k = counter_closed s c level k (h.small (phase_at c (word s (phase_map_at c level))))

-- ---- the one product out of range

-- a number that cannot but be −(n + 1) is it
must_be : (z : ℤ) (n : ℕ) → ((z ≡ negsuc n → ⊥) → ⊥) → z ≡ negsuc n
must_be (pos a) n d = absurd (d (λ e. let f = ap dn e in omega arith))
must_be (negsuc a) n d = grind arith

only_lowest : (amplitude : ℕ) → amplitude < 65536 → (x : ℤ) → InWave x → product_of amplitude x ≡ None → Lowest amplitude x
unfolding SinesRight
only_lowest amplitude k x r e = (must_be (signed_of amplitude) 32767 (λ d. fits (λ q. d q.0)), must_be x 16383 (λ d. fits (λ q. d q.1)))
  where
    fits : (Lowest amplitude x → ⊥) → ⊥
    fits d =
        cc ((sines_right amplitude k x r).within d)

only_product_lem : (ed : Edition) (s l w : List ℕ) → length w ≡ 4096 → (xs : List Act) (c : ℕ) → c < 4 → (counter amplitude : ℕ) → amplitude < 65536
    → let waves : List ℕ = waves_in (fresh_of ed s l) (waves_reset w) xs in
    sine_of waves c counter amplitude ≡ None → Lowest amplitude (wave_word waves c counter)
unfolding WordsInRange
only_product_lem ed s l w n xs c b counter amplitude k =
    let waves : List ℕ = waves_in (fresh_of ed s l) (waves_reset w) xs in
    only_lowest amplitude k (wave_word waves c counter) (words_in_range waves c (waves_right.inside ed s l w n xs c b) counter)

-- THE SINE OVER HISTORIES
pub sines_over_histories : SinesOverHistories
sines_over_histories = record { plain = plain; counter = counter; only_product = only_product_lem }
