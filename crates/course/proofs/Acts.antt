-- What one act leaves as it was. A tick changes neither the level nor, but for a load, what is loaded; a tick at rest changes nothing;
-- what is no tick leaves phase, level, loaded words, counter and the channel's table. Assumes nothing.
use mathlib.Core.Path.{◌≡◌, refl, ◌∙◌}
use mathlib.Core.Bool.{Bool, true, false, cond}
use mathlib.Core.List.{List, [], ◌∷◌}
use Prim.Native.Nat.{ℕ, zero, suc, ◌+◌, ◌*◌, ◌-◌, ◌≤◌, ◌<◌}
use native.Mathlib.Omega.{arith}
use lib.Dec.{eqb}
use lib.ListN.{length}
use borrow.Author.Tests.{eqb-true, eq-eqb}
use Rattle.sum.specs.declared.Edition.{Edition}
use Rattle.map.specs.Addresses.{enable_at}
use Rattle.channel.specs.declared.Phase.{Phase}
use Rattle.channel.specs.declared.Phase.TheVariants.{Rest, Counting}
use Rattle.channel.specs.declared.Ramp.{Ramp}
use Rattle.channel.specs.declared.Shown.{Shown}
use Rattle.channel.specs.declared.Gave.{Gave}
use Rattle.channel.specs.declared.Channel.{Channel}
use Rattle.channel.specs.Signal.{make_of}
use Rattle.channel.specs.Channel.{Side, Move, side, move, word, with, first_of, lead, loads_at, runs_of, load, start, count_to, move_at, tick_of, triggered}
use Rattle.course.specs.Points.{SameTable}
use Rattle.course.specs.Course.{Act, Tick, Elsewhere, Output, elsewhere, written, act, run, ticks_in, until, held_on, waves_on}
use Rattle.course.proofs.Copies.{choose, copied_length, copied_in, copied_same, tick_length, tick_out, trigger_length, trigger_out}

-- ---- a tick

module _ (ed : Edition) (s l : List ℕ) (c : ℕ) (ch : Channel) where
  pub tick_rest : (w : List ℕ) → ch.phase ≡ Rest → tick_of ed s w l c ch ≡ side ch l
  unfolding tick_of move_at make_of
  tick_rest w e = rw e

  abbrev SameLevel : Move → Type 0
  SameLevel x = x.channel.level ≡ ch.level

  start_level : SameLevel (start ed s l c ch)
  unfolding start
  start_level = choose SameLevel (eqb (word s (enable_at c)) 1) _ _ refl refl

  load_level : (load s l c ch ch.level).channel.level ≡ ch.level
  unfolding load
  load_level = refl

  move_level : (f : Phase) → SameLevel (move_at ed f s l c ch)
  unfolding move_at count_to
  move_level (Counting n older) = choose SameLevel (eqb (n.0 - 1) 0) _ _ start_level (choose SameLevel (loads_at (n.0 - 1)) _ _ load_level refl)
  move_level _ = refl

  pub tick_level : (w : List ℕ) → (tick_of ed s w l c ch).channel.level ≡ ch.level
  unfolding tick_of
  tick_level w = move_level ch.phase

  -- no load is reached
  pub record Kept (x : Side) : Type 0 where
    pub loaded : x.channel.loaded ≡ ch.loaded
    pub tables : x.tables ≡ l

  abbrev KeptIn : Move → Type 0
  KeptIn x = Kept (side x.channel x.tables)

  start_kept : KeptIn (start ed s l c ch)
  unfolding start
  start_kept = choose KeptIn (eqb (word s (enable_at c)) 1) _ _ (record { loaded = refl; tables = refl }) (record { loaded = refl; tables = refl })

  count_kept : (n : ℕ) (older : Ramp) → (n ≡ 11 → ⊥) → KeptIn (count_to ed (n - 1) older s l c ch)
  unfolding count_to
  count_kept n older h = go (eqb (n - 1) 0) (loads_at (n - 1)) refl _ _ _ _
    where
      go : (a b : Bool) → loads_at (n - 1) ≡ b → (x : Move) (p : Phase) (t : Shown) (g : Gave)
          → KeptIn (cond a (start ed s l c ch) (cond b x (move (with ch p t) l g)))
      go true b e x p t g = start_kept
      go false true e x p t g = absurd (h (omega (arith, eqb-true (n - 1) lead e)))
      go false false e x p t g = record { loaded = refl; tables = refl }

  move_kept : (f : Phase) → ((n : ℕ) (older : Ramp) → f ≡ Counting (record { 0 = n }) older → n ≡ 11 → ⊥) → KeptIn (move_at ed f s l c ch)
  unfolding move_at
  move_kept (Counting n older) h = count_kept n.0 older (h n.0 older refl)
  move_kept _ h = record { loaded = refl; tables = refl }

  -- unless the countdown stands at 11, a tick changes neither what is loaded nor the tables
  pub tick_kept : (w : List ℕ) → ((n : ℕ) (older : Ramp) → ch.phase ≡ Counting (record { 0 = n }) older → n ≡ 11 → ⊥) → Kept (tick_of ed s w l c ch)
  unfolding tick_of
  tick_kept w h = let k : KeptIn (move_at ed ch.phase s l c ch) = move_kept ch.phase h in record { loaded = k.loaded; tables = k.tables }

-- ---- the tables changed elsewhere

-- no word is two channels'
apart : (b c i : ℕ) → (b ≡ c → ⊥) → i < 128 → first_of b ≤ first_of c + i → first_of c + i < first_of b + 128 → ⊥
apart b c i o h f g = o (omega arith)

pub elsewhere_length : (c : ℕ) (l l' : List ℕ) → length (elsewhere c l l') ≡ length l
unfolding elsewhere
elsewhere_length c l l' = grind (arith, copied_length, eqb-true)

-- the channel's own words stay
pub elsewhere_in : (c : ℕ) (l l' : List ℕ) → 128 * c + 128 ≤ length l → SameTable (elsewhere c l l') (first_of c) l (first_of c)
unfolding elsewhere
elsewhere_in c l l' r i h = grind (arith, copied_in, eqb-true)

-- a list that has as many words, and the channel's own as they were, is reached
pub elsewhere_is : (c : ℕ) (l l' : List ℕ) → length l' ≡ length l → SameTable l' (first_of c) l (first_of c) → elsewhere c l l' ≡ l'
unfolding elsewhere
elsewhere_is c l l' e h = rw (eq-eqb (length l') (length l) e) (copied_same 128 l (first_of c) l' (first_of c) h)

-- another channel's tick or trigger changes the tables elsewhere
module _ (s l : List ℕ) (b c : ℕ) (ch : Channel) (other : b ≡ c → ⊥) where
  pub tick_elsewhere : (ed : Edition) (w : List ℕ) → elsewhere c l (tick_of ed s w l b ch).tables ≡ (tick_of ed s w l b ch).tables
  tick_elsewhere ed w =
      elsewhere_is c l (tick_of ed s w l b ch).tables (tick_length s l b ch ed w)
      (λ i h. tick_out s l b ch ed w (first_of c + i) (λ f g. apart b c i other h f g))

  pub trigger_elsewhere : (level : ℕ) → elsewhere c l (triggered s l b ch level).tables ≡ (triggered s l b ch level).tables
  trigger_elsewhere level =
      elsewhere_is c l (triggered s l b ch level).tables (trigger_length s l b ch level)
      (λ i h. trigger_out s l b ch level (first_of c + i) (λ f g. apart b c i other h f g))

-- ---- any act

pub act_length : (ed : Edition) (c : ℕ) (x : Side) (y : Act) → length (act ed c x y).tables ≡ length x.tables
act_length ed c x (Tick s w) = tick_length s x.tables c x.channel ed w
act_length ed c x (Elsewhere l) = elsewhere_length c x.tables l
act_length ed c x _ = refl

pub run_length : (ed : Edition) (c : ℕ) (x : Side) (ys : List Act) → length (run ed c x ys).tables ≡ length x.tables
run_length ed c x [] = refl
run_length ed c x (y ∷ ys) = run_length ed c (act ed c x y) ys ∙ act_length ed c x y

-- ---- a word written to the output leaves all but output and amplitude, and is not taken while a ramp runs or free-runs

module _ (v : ℕ) (ch : Channel) where
  pub written_phase : (written v ch).phase ≡ ch.phase
  unfolding written
  written_phase = grind arith

  pub written_level : (written v ch).level ≡ ch.level
  unfolding written
  written_level = choose (λ (x : Channel). x.level ≡ ch.level) (runs_of ch) _ _ refl refl

  pub written_counter : (written v ch).signal.counter ≡ ch.signal.counter
  unfolding written
  written_counter = choose (λ (x : Channel). x.signal.counter ≡ ch.signal.counter) (runs_of ch) _ _ refl refl

  pub written_loaded : (written v ch).loaded ≡ ch.loaded
  unfolding written
  written_loaded = choose (λ (x : Channel). x.loaded ≡ ch.loaded) (runs_of ch) _ _ refl refl

  pub not_written : runs_of ch ≡ true → written v ch ≡ ch
  unfolding written
  not_written e = rw e

-- ---- acts without a tick

-- acts without a tick leave channel c's words
pub untimed_table : (ed : Edition) (c : ℕ) (x : Side) (ys : List Act) → ticks_in ys ≡ 0 → 128 * c + 128 ≤ length x.tables → SameTable (run ed c x ys).tables (first_of c) x.tables (first_of c)
untimed_table ed c x [] e h i f = refl
untimed_table ed c x (Tick s w ∷ ys) e h i f = absurd (omega arith)
untimed_table ed c x (Elsewhere l ∷ ys) e h i f =
    untimed_table ed c (act ed c x (Elsewhere l)) ys e (rw (elsewhere_length c x.tables l) h) i f ∙ elsewhere_in c x.tables l h i f
untimed_table ed c x (y ∷ ys) e h i f = untimed_table ed c (act ed c x y) ys e h i f

-- and its ramp, copy and pending level
pub untimed_ramp : (ed : Edition) (c : ℕ) (x : Side) (ys : List Act) → ticks_in ys ≡ 0
    → ((run ed c x ys).channel.phase ≡ x.channel.phase) × ((run ed c x ys).channel.loaded ≡ x.channel.loaded) × ((run ed c x ys).channel.level ≡ x.channel.level)
untimed_ramp ed c x [] e = (refl, refl, refl)
untimed_ramp ed c x (Tick s w ∷ ys) e = absurd (omega arith)
untimed_ramp ed c x (Output v ∷ ys) e =
    let r = untimed_ramp ed c (act ed c x (Output v)) ys e in
    (r.0 ∙ written_phase v x.channel, r.1 ∙ written_loaded v x.channel, r.2 ∙ written_level v x.channel)
untimed_ramp ed c x (y ∷ ys) e = untimed_ramp ed c (act ed c x y) ys e

-- ---- the acts before a tick, and the settings held on it

-- the acts before a tick that does not come are all of them
pub before_all : (n : ℕ) (xs : List Act) → ticks_in xs ≤ n → until (suc n) xs ≡ xs
before_all n [] h = refl
before_all zero (Tick s w ∷ xs) h = absurd (omega arith)
before_all (suc n) (Tick s w ∷ xs) h = cc (before_all n xs (omega arith))
before_all n (y ∷ xs) h = cc (before_all n xs h)

-- and the settings are those of the tick that comes after them
pub held_next : (s z : List ℕ) (n : ℕ) (xs : List Act) → ticks_in xs ≤ n → held_on s z (suc n) xs ≡ z
held_next s z n [] h = refl
held_next s z zero (Tick u w ∷ xs) h = absurd (omega arith)
held_next s z (suc n) (Tick u w ∷ xs) h = held_next s z n xs (omega arith)
held_next s z n (y ∷ xs) h = held_next s z n xs h

-- and so are the wave tables
pub waves_next : (z : List ℕ) (n : ℕ) (xs : List Act) → ticks_in xs ≤ n → waves_on z (suc n) xs ≡ z
waves_next z n [] h = refl
waves_next z zero (Tick u w ∷ xs) h = absurd (omega arith)
waves_next z (suc n) (Tick u w ∷ xs) h = waves_next z n xs (omega arith)
waves_next z n (y ∷ xs) h = waves_next z n xs h
