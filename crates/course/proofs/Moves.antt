-- One tick of a channel in each phase, as an equation: first what its ramp does (`move_of`), then, where it gives a sample, what that makes
-- of the signal. Assumes nothing.
use mathlib.Core.Path.{◌≡◌, ◌∙◌}
use mathlib.Core.Bool.{true, false}
use mathlib.Core.List.{List}
use Prim.Native.Nat.{ℕ, ◌-◌, ◌≤◌, ◌<◌}
use native.Mathlib.Omega.{arith}
use borrow.Author.Tests.{lt-ltb, le-ltb, ne_eqb}
use Rattle.sum.specs.declared.Edition.{Edition}
use Rattle.map.specs.Addresses.{enable_at}
use Rattle.channel.specs.declared.Place.{Place}
use Rattle.channel.specs.declared.Shown.{Shown}
use Rattle.channel.specs.declared.Gave.{Gave}
use Rattle.channel.specs.declared.Gave.TheVariants.{OfFreeRun}
use Rattle.channel.specs.declared.Ramp.{Ramp}
use Rattle.channel.specs.declared.Ramp.TheVariants.{Still}
use Rattle.channel.specs.declared.Phase.TheVariants.{Rest, Counting, Running, FreeRunning}
use Rattle.channel.specs.declared.Channel.{Channel}
use Rattle.channel.specs.Ramp.{enter, next, way, given, advance}
use Rattle.channel.specs.Signal.{make_of}
use Rattle.channel.specs.Channel.{Side, Move, side, move, quiet, moved_on, word, first_of, with, load, start, count_to, move_at, move_of, sounded_side, tick_of}
use Rattle.channel.proofs.Counts as counts

module _ (ed : Edition) (s l : List ℕ) (c : ℕ) (ch : Channel) where
  -- ---- the ramp

  counting : (n : ℕ) (o : Ramp) → ch.phase ≡ Counting (record { 0 = n }) o → move_of ed s l c ch ≡ count_to ed (n - 1) o s l c ch
  unfolding move_at
  counting n o e = cc

  move_still : (n : ℕ) → ch.phase ≡ Counting (record { 0 = n }) Still → 1 < n → (n ≡ 11 → ⊥)
      → move_of ed s l c ch ≡ quiet (side (with ch (Counting (record { 0 = n - 1 }) Still) ch.shown) l)
  unfolding advance
  move_still n e h g = counting n Still e ∙ counts.on ed s l c ch Still n h g

  move_load : (n : ℕ) (o : Ramp) → ch.phase ≡ Counting (record { 0 = n }) o → n ≡ 11 → move_of ed s l c ch ≡ quiet (load s l c ch ch.level)
  move_load n o e h = counting n o e ∙ counts.at_load ed s l c ch o n h

  move_off : (n : ℕ) (o : Ramp) → ch.phase ≡ Counting (record { 0 = n }) o → n ≤ 1 → (word s (enable_at c) ≡ 1 → ⊥)
      → move_of ed s l c ch ≡ quiet (side (with ch Rest ch.shown) l)
  unfolding start
  move_off n o e h g = counting n o e ∙ counts.at_start ed s l c ch o n h ∙ rw (ne_eqb (word s (enable_at c)) 1 g)

  pub move_start : (n : ℕ) (o : Ramp) → ch.phase ≡ Counting (record { 0 = n }) o → n ≤ 1 → word s (enable_at c) ≡ 1
      → move_of ed s l c ch ≡ moved_on ch l (given ed true l (first_of c) ch.loaded 10 (enter l (first_of c) 0) ch.shown)
  unfolding start
  move_start n o e h g = counting n o e ∙ counts.at_start ed s l c ch o n h ∙ rw g

  move_wait : (p : Place) (r : ℕ) → ch.phase ≡ Running (way p r 10) → 1 < r
      → move_of ed s l c ch ≡ quiet (side (with ch (Running (way p (r - 1) 10)) ch.shown) l)
  unfolding move_at advance
  move_wait p r e h = rw (e, lt-ltb 1 r h)

  pub move_give : (p : Place) (r : ℕ) → ch.phase ≡ Running (way p r 10) → r ≤ 1
      → move_of ed s l c ch ≡ moved_on ch l (given ed false l (first_of c) ch.loaded 10 (next l (first_of c) p) ch.shown)
  unfolding move_at advance
  move_give p r e h = rw (e, le-ltb 1 r h)

  free_wait : (p : Place) (r : ℕ) → ch.phase ≡ FreeRunning (way p r 10) → 1 < r
      → move_of ed s l c ch ≡ quiet (side (with ch (FreeRunning (way p (r - 1) 10)) ch.shown) l)
  unfolding move_at advance
  free_wait p r e h = rw (e, lt-ltb 1 r h)

  pub free_give : (p : Place) (r : ℕ) → ch.phase ≡ FreeRunning (way p r 10) → r ≤ 1
      → move_of ed s l c ch ≡ move (with ch (FreeRunning (way p 10 10)) ch.shown) l OfFreeRun
  unfolding move_at advance
  free_give p r e h = rw (e, le-ltb 1 r h)

  -- ---- and the signal, made with the wave tables u

  module _ (u : List ℕ) where
    pub tick_made : (m : Move) → move_of ed s l c ch ≡ m → tick_of ed s u l c ch ≡ sounded_side u c m
    unfolding tick_of
    tick_made m e = cc

    -- where no sample is given it stays
    tick_quiet : (x : Side) → move_of ed s l c ch ≡ quiet x → tick_of ed s u l c ch ≡ x
    unfolding make_of
    tick_quiet x e = tick_made (quiet x) e

    pub tick_still : (n : ℕ) → ch.phase ≡ Counting (record { 0 = n }) Still → 1 < n → (n ≡ 11 → ⊥)
        → tick_of ed s u l c ch ≡ side (with ch (Counting (record { 0 = n - 1 }) Still) ch.shown) l
    tick_still n e h g = tick_quiet _ (move_still n e h g)

    pub tick_load : (n : ℕ) (o : Ramp) → ch.phase ≡ Counting (record { 0 = n }) o → n ≡ 11 → tick_of ed s u l c ch ≡ load s l c ch ch.level
    tick_load n o e h = tick_quiet _ (move_load n o e h)

    pub tick_off : (n : ℕ) (o : Ramp) → ch.phase ≡ Counting (record { 0 = n }) o → n ≤ 1 → (word s (enable_at c) ≡ 1 → ⊥)
        → tick_of ed s u l c ch ≡ side (with ch Rest ch.shown) l
    tick_off n o e h g = tick_quiet _ (move_off n o e h g)

    pub tick_wait : (p : Place) (r : ℕ) → ch.phase ≡ Running (way p r 10) → 1 < r
        → tick_of ed s u l c ch ≡ side (with ch (Running (way p (r - 1) 10)) ch.shown) l
    tick_wait p r e h = tick_quiet _ (move_wait p r e h)

    pub tick_free_wait : (p : Place) (r : ℕ) → ch.phase ≡ FreeRunning (way p r 10) → 1 < r
        → tick_of ed s u l c ch ≡ side (with ch (FreeRunning (way p (r - 1) 10)) ch.shown) l
    tick_free_wait p r e h = tick_quiet _ (free_wait p r e h)

    -- a countdown above 11 falls by one, whatever an older ramp or free run does
    pub tick_count : (n : ℕ) (o : Ramp) → ch.phase ≡ Counting (record { 0 = n }) o → 11 < n
        → (y : Ramp) × (v : Shown) × (g : Gave) × (tick_of ed s u l c ch ≡ sounded_side u c (move (with ch (Counting (record { 0 = n - 1 }) y) v) l g))
    tick_count n o e h = (_, _, _, tick_made _ (counting n o e ∙ counts.on ed s l c ch o n (omega arith) (λ q. absurd (omega arith))))
