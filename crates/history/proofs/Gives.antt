-- What a tick gives, what is told of it, and what the second pass makes of it: where no sum is out of range, nothing out of range is told
-- (`in_told`), and A39 stays or counts a product of the sine (`made_in`). Assumes nothing.
use Rattle.std.specs.Prelude.{Option, Some, None}
use mathlib.Core.Path.{◌≡◌, refl}
use mathlib.Core.Bool.{Bool, true, false, cond}
use mathlib.Core.Logic.{◌⊎◌, inl, inr}
use mathlib.Core.List.{List, [], ◌∷◌}
use Prim.Native.Nat.{ℕ, ◌-◌}
use lib.Dec.{ltb, eqb}
use Rattle.sum.specs.declared.Edition.{Edition}
use Rattle.wave.specs.Sine.{sine_of}
use Rattle.map.specs.Addresses.{enable_at}
use Rattle.word.specs.Word.{grown, lasting}
use Rattle.channel.specs.declared.Place.{Place}
use Rattle.channel.specs.declared.Tone.{Tone}
use Rattle.channel.specs.declared.Signal.{Signal}
use Rattle.channel.specs.declared.Loaded.{Loaded}
use Rattle.channel.specs.declared.Moved.{Moved}
use Rattle.channel.specs.declared.Ramp.{Ramp}
use Rattle.channel.specs.declared.Ramp.TheVariants.{Still, Going, Free}
use Rattle.channel.specs.declared.Phase.{Phase}
use Rattle.channel.specs.declared.Phase.TheVariants.{Rest, Counting, Running, FreeRunning}
use Rattle.channel.specs.declared.Gave.{Gave}
use Rattle.channel.specs.declared.Gave.TheVariants.{NoSample, OfRamp, OfFreeRun}
use Rattle.channel.specs.declared.Channel.{Channel}
use Rattle.channel.specs.Ramp.{enter, next, way, is_sine, given, sooner, unsampled, advance}
use Rattle.channel.specs.Signal.{overflows, sine_after, signal_after, counter_at, counter_next, make_of}
use Rattle.channel.specs.Channel.{side, move, quiet, word, with, first_of, loads_at, load, start, count_to, move_at, moved_on, loaded_for}
use Rattle.history.specs.Story.{Happening, Load, Sample, FreeSample, sample, by_ramp, by_start, in_phase}
use Rattle.history.specs.InRange.{out_before_load, sample_among}

-- ---- what a tick gives, and what is told of it

-- no sum out of range; a sample of a free run is a sine
abbrev pub GaveIn : Tone → Gave → Type 0
GaveIn t NoSample = Unit
GaveIn t (OfRamp f u) = overflows u ≡ false
GaveIn t OfFreeRun = is_sine t.mode ≡ true

pub data Tells : Gave → List Happening → Type 0 where
  nothing : Tells NoSample []
  loaded : (ld : Loaded) → Tells NoSample (Load ld ∷ [])
  sampled : (w : List ℕ) (f : Bool) (p : Place) (u : Option ℕ) → Tells (OfRamp f u) (Sample w f p u ∷ [])
  freed : (w : List ℕ) → Tells OfFreeRun (FreeSample w ∷ [])

module _ (ed : Edition) (w z l : List ℕ) (c : ℕ) (ch : Channel) where
  ramp_tells : (r : Ramp) → Tells (advance ed l (first_of c) ch.loaded r ch.shown).gave (by_ramp ed w l c ch r)
  unfolding advance given
  ramp_tells Still = nothing
  ramp_tells (Going r) = go (ltb 1 r.wait.0)
    where
      p : Place
      p = next l (first_of c) r.place

      go : (b : Bool) → Tells (cond b (unsampled (Going (sooner r)) ch.shown) (given ed false l (first_of c) ch.loaded r.period.0 p ch.shown)).gave
          (cond b [] (sample ed w false l c ch p))
      go true = nothing
      go false = sampled w false p _
  ramp_tells (Free r) = go (ltb 1 r.wait.0)
    where
      go : (b : Bool) → Tells (cond b (unsampled (Free (sooner r)) ch.shown) (record { ramp = Free (way r.place r.period.0 r.period.0); shown = ch.shown; gave = OfFreeRun })).gave
          (cond b [] (FreeSample w ∷ []))
      go true = nothing
      go false = freed w

  start_tells : Tells (start ed z l c ch).gave (by_start ed w z l c ch)
  unfolding start given
  start_tells = go (eqb (word z (enable_at c)) 1)
    where
      p : Place
      p = enter l (first_of c) 0

      go : (b : Bool) → Tells (cond b (moved_on ch l (given ed true l (first_of c) ch.loaded (lasting 1) p ch.shown)) (quiet (side (with ch Rest ch.shown) l))).gave
          (cond b (sample ed w true l c ch p) [])
      go true = sampled w true p _
      go false = nothing

  pub move_tells : (p : Phase) → Tells (move_at ed p z l c ch).gave (in_phase ed p w z l c ch)
  unfolding move_at count_to
  move_tells Rest = nothing
  move_tells (Counting n older) = go (eqb (n.0 - 1) 0) (loads_at (n.0 - 1))
    where
      m : Moved
      m = advance ed l (first_of c) ch.loaded older ch.shown

      go : (a b : Bool)
          → Tells (cond a (start ed z l c ch) (cond b (quiet (load z l c ch ch.level)) (move (with ch (Counting (record { 0 = n.0 - 1 }) m.ramp) m.shown) l m.gave))).gave
          (cond a (by_start ed w z l c ch) (cond b (Load (loaded_for z c ch.level) ∷ []) (by_ramp ed w l c ch older)))
      go true b = start_tells
      go false true = loaded _
      go false false = ramp_tells older
  move_tells (Running r) = ramp_tells (Going r)
  move_tells (FreeRunning r) = ramp_tells (Free r)

-- so nothing out of range is told
pub in_told : (t : Tone) (g : Gave) (hs : List Happening) → Tells g hs → GaveIn t g → out_before_load hs ≡ false
in_told t _ _ nothing h = refl
in_told t _ _ (loaded ld) h = refl
in_told t _ _ (sampled w f p u) h = rw h
in_told t _ _ (freed w) h = refl

-- ---- what is made of it: A39 stays, or the sine's product is out of range

abbrev gave_sample : Gave → Bool
gave_sample NoSample = false
gave_sample (OfRamp f u) = true
gave_sample OfFreeRun = true

sample_told : (g : Gave) (hs : List Happening) → Tells g hs → gave_sample g ≡ true → sample_among hs ≡ true
sample_told _ _ nothing h = h
sample_told _ _ (loaded ld) h = h
sample_told _ _ (sampled w f p u) h = refl
sample_told _ _ (freed w) h = refl

module _ (c : ℕ) (w : List ℕ) where
  pub record Product (t : Tone) (a : ℕ) (y z : Signal) : Type 0 where
    pub sine : is_sine t.mode ≡ true
    pub product : sine_of w c z.counter a ≡ None
    pub grows : z.overflow ≡ grown y.overflow

  sine_in : (t : Tone) → is_sine t.mode ≡ true → (n a : ℕ) (y : Signal)
      → ((sine_after w c n a false y).overflow ≡ y.overflow) ⊎ Product t a y (sine_after w c n a false y)
  sine_in t h n a y = go (sine_of w c n a) refl
    where
      go : (r : Option ℕ) → sine_of w c n a ≡ r → ((signal_after r false n y).overflow ≡ y.overflow) ⊎ Product t a y (signal_after r false n y)
      go (Some d) e = inl refl
      go None e = inr (record { sine = h; product = e; grows = refl })

  -- the sample g is given
  abbrev pub Made : Gave → Tone → ℕ → Signal → Signal → Type 0
  Made g t a y z = (z.overflow ≡ y.overflow) ⊎ ((gave_sample g ≡ true) × Product t a y z)

  given_so : {A B : Type 0} → A ⊎ B → A ⊎ ((true ≡ true) × B)
  given_so (inl x) = inl x
  given_so (inr y) = inr (refl, y)

  pub made_in : (g : Gave) (t : Tone) → GaveIn t g → (a : ℕ) (y : Signal) → Made g t a y (make_of w c g t a y)
  unfolding make_of
  made_in NoSample t h a y = inl refl
  made_in (OfRamp f (Some d)) t h a y = go (is_sine t.mode) refl
    where
      go : (b : Bool) → is_sine t.mode ≡ b
          → Made (OfRamp f (Some d)) t a y (cond b (sine_after w c (counter_at f t y.counter) a false y) (signal_after (Some d) false y.counter y))
      go true e = given_so (sine_in t e (counter_at f t y.counter) a y)
      go false e = inl refl
  made_in (OfRamp f None) t h a y = absurd cc
  made_in OfFreeRun t h a y = given_so (sine_in t h (counter_next t y.counter) a y)

  pub made_told : (g : Gave) (hs : List Happening) → Tells g hs → (t : Tone) (a : ℕ) (y z : Signal) → Made g t a y z
      → (z.overflow ≡ y.overflow) ⊎ ((sample_among hs ≡ true) × Product t a y z)
  made_told g hs k t a y z (inl e) = inl e
  made_told g hs k t a y z (inr (m, p)) = inr (sample_told g hs k m, p)

-- of a channel, from x to y, hs being what is told of the tick
abbrev pub Counted : ℕ → List ℕ → List Happening → Channel → Channel → Type 0
Counted c w hs x y =
    (y.signal.overflow ≡ x.signal.overflow) ⊎ ((sample_among hs ≡ true) × Product c w x.loaded.tone y.shown.amplitude x.signal y.signal)
