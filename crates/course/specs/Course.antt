-- What happens to channel c between triggers: ticks, and what is done to it or beside it between the ticks.
use Rattle.std.specs.Prelude.{cond, List, [], ◌∷◌, ℕ, zero, suc, eqb, length}
use Rattle.sum.specs.declared.Edition.{Edition}
use Rattle.channel.specs.declared.Channel.{Channel}
use Rattle.word.specs.Copy.{copied}
use Rattle.channel.specs.Channel.{Side, side, first_of, runs_of, tick_of, output_to, overflow_cleared}

pub data Act : Type 0 where
  -- a tick, under the settings held then and with the wave tables lent to it
  Tick : List ℕ → List ℕ → Act
  -- the loaded tables of other channels become those of this list
  Elsewhere : List ℕ → Act
  -- a word is written to the output
  Output : ℕ → Act
  -- the overflow count is cleared
  Clear : Act

-- the tables become l', as many words as before, but channel c's 128 words stay
unfoldable pub elsewhere : ℕ → List ℕ → List ℕ → List ℕ
elsewhere c l l' = cond (eqb (length l') (length l)) (copied 128 l (first_of c) l' (first_of c)) l

-- 'only while no ramp runs', 'also in free run'
unfoldable pub written : ℕ → Channel → Channel
written v ch = cond (runs_of ch) ch (output_to ch v)

abbrev pub act : Edition → ℕ → Side → Act → Side
act edition c x (Tick s w) = tick_of edition s w x.tables c x.channel
act edition c x (Elsewhere l) = side x.channel (elsewhere c x.tables l)
act edition c x (Output v) = side (written v x.channel) x.tables
act edition c x Clear = side (overflow_cleared x.channel) x.tables

abbrev pub run : Edition → ℕ → Side → List Act → Side
run edition c x [] = x
run edition c x (y ∷ ys) = run edition c (act edition c x y) ys

-- the ticks among the acts
abbrev pub ticks_in : List Act → ℕ
ticks_in [] = 0
ticks_in (Tick s w ∷ xs) = suc (ticks_in xs)
ticks_in (Elsewhere l ∷ xs) = ticks_in xs
ticks_in (Output v ∷ xs) = ticks_in xs
ticks_in (Clear ∷ xs) = ticks_in xs

-- the acts before the n-th tick; none before the 0-th, which is the trigger
abbrev pub until : ℕ → List Act → List Act
until zero xs = []
until (suc n) [] = []
until (suc zero) (Tick s w ∷ xs) = []
until (suc (suc n)) (Tick s w ∷ xs) = Tick s w ∷ until (suc n) xs
until (suc n) (Elsewhere l ∷ xs) = Elsewhere l ∷ until (suc n) xs
until (suc n) (Output v ∷ xs) = Output v ∷ until (suc n) xs
until (suc n) (Clear ∷ xs) = Clear ∷ until (suc n) xs

-- the settings held on the n-th tick: s on the 0-th, which is the trigger; z, those of the tick that follows the acts, where they have none
abbrev pub held_on : List ℕ → List ℕ → ℕ → List Act → List ℕ
held_on s z zero xs = s
held_on s z (suc n) [] = z
held_on s z (suc zero) (Tick u w ∷ xs) = u
held_on s z (suc (suc n)) (Tick u w ∷ xs) = held_on s z (suc n) xs
held_on s z (suc n) (Elsewhere l ∷ xs) = held_on s z (suc n) xs
held_on s z (suc n) (Output v ∷ xs) = held_on s z (suc n) xs
held_on s z (suc n) (Clear ∷ xs) = held_on s z (suc n) xs

-- the wave tables of the n-th tick; z, those of the tick that follows the acts, where they have none
abbrev pub waves_on : List ℕ → ℕ → List Act → List ℕ
waves_on z zero xs = z
waves_on z (suc n) [] = z
waves_on z (suc zero) (Tick u w ∷ xs) = w
waves_on z (suc (suc n)) (Tick u w ∷ xs) = waves_on z (suc n) xs
waves_on z (suc n) (Elsewhere l ∷ xs) = waves_on z (suc n) xs
waves_on z (suc n) (Output v ∷ xs) = waves_on z (suc n) xs
waves_on z (suc n) (Clear ∷ xs) = waves_on z (suc n) xs
