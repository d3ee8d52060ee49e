-- When a channel loads: a tick takes one microsecond from its countdown, a trigger sets it, and it loads where that comes to 10. So what
-- the card shows changes exactly where a load is told (`advanced_active`, `trigger_active`). Assumes nothing.
use Rattle.std.specs.Prelude.{Some}
use mathlib.Core.Path.{◌≡◌, refl, sym, ap, ◌∙◌}
use mathlib.Core.Bool.{Bool, true, false, ◌||◌, cond, or-true, or-false}
use mathlib.Core.List.{List, [], ◌∷◌, ◌++◌}
use Prim.Native.Nat.{ℕ, zero, suc, ◌+◌, ◌-◌, ◌<◌}
use native.Mathlib.Omega.{arith}
use lib.Dec.{ltb, eqb}
use borrow.Author.Tests.{eqb-true}
use Rattle.sum.specs.declared.Edition.{Edition}
use Rattle.map.specs.Map.{base}
use Rattle.map.specs.Addresses.{enable_at}
use Rattle.word.specs.Word.{grown, lasting}
use Rattle.channel.specs.declared.Moved.{Moved}
use Rattle.channel.specs.declared.Ramp.{Ramp}
use Rattle.channel.specs.declared.Ramp.TheVariants.{Still, Going, Free}
use Rattle.channel.specs.declared.Phase.{Phase}
use Rattle.channel.specs.declared.Phase.TheVariants.{Rest, Counting, Running, FreeRunning}
use Rattle.channel.specs.declared.Channel.{Channel}
use Rattle.channel.specs.Ramp.{enter, given, advance}
use Rattle.channel.specs.Channel.{Move, move, quiet, word, with, first_of, lead, loads_at, to_start, just_loaded, load, loaded_for, start, phase_of, count_to, move_at, tick_of, countdown}
use Rattle.card.specs.declared.Card.{Card}
use Rattle.card.specs.Card.{State, channel_of, with_channels, count_of, on_some}
use Rattle.card.specs.Active.{cause}
use Rattle.card.specs.Trigger.{struck, trigger_of}
use Rattle.card.specs.Tick.{advanced}
use Rattle.course.proofs.Copies.{choose}
use Rattle.history.specs.History.{Act, Tick, Write, words_done}
use Rattle.history.specs.Story.{Happening, Load, Output, Clear, by_ramp, by_start, in_phase, by_trigger, by_word, by_words, in_tick, at_trigger}
use Rattle.history.specs.Active.{load_among, loads_by, loads_by_counting, loads_before, loads_at_trigger}
use Rattle.history.proofs.Cards.{count_keeps}
use Rattle.history.proofs.Tracks.{tick_turn, tick_same, trigger_turn, trigger_same}
use Rattle.history.proofs.Countdowns.{triggered_counts}

-- ---- some channel of four

-- the same of each of them
pub some_same : (f g : ℕ → Bool) → ((c : ℕ) → c < 4 → f c ≡ g c) → on_some f ≡ on_some g
some_same f g e = rw (e 0 (omega arith), e 1 (omega arith), e 2 (omega arith), e 3 (omega arith))

pub some_none : (f : ℕ → Bool) → ((c : ℕ) → c < 4 → f c ≡ false) → on_some f ≡ false
some_none f e = some_same f (λ c. false) e

pub some_one : (f : ℕ → Bool) (c : ℕ) → c < 4 → f c ≡ true → on_some f ≡ true
some_one f zero h e = rw e
some_one f (suc zero) h e = rw (e, or-true (f 0))
some_one f (suc (suc zero)) h e = rw (e, or-true (f 0 || f 1))
some_one f (suc (suc (suc zero))) h e = rw (e, or-true (f 0 || f 1 || f 2))
some_one f (suc (suc (suc (suc c)))) h e = absurd (omega arith)

-- ---- the loads of an act

or_swap : (a b c d : Bool) → a || b || (c || d) ≡ a || c || (b || d)
or_swap true b c d = refl
or_swap false true true d = refl
or_swap false true false d = refl
or_swap false false c d = refl

some_or : (f g : ℕ → Bool) → on_some (λ c. f c || g c) ≡ on_some f || on_some g
some_or f g =
    cc (or_swap (f 0) (g 0) (f 1) (g 1), or_swap (f 0 || f 1) (g 0 || g 1) (f 2) (g 2), or_swap (f 0 || f 1 || f 2) (g 0 || g 1 || g 2) (f 3) (g 3))

pub load_append : (hs js : List Happening) → load_among (hs ++ js) ≡ load_among hs || load_among js
load_append [] js = refl
load_append (Load ld ∷ hs) js = refl
load_append (y ∷ hs) js = load_append hs js

-- words done are no loads
pub words_load : (c a : ℕ) (vs : List ℕ) → load_among (by_words c a vs) ≡ false
words_load c a [] = refl
words_load c a (v ∷ vs) = load_append (by_word c a v) (by_words c (a + 1) vs) ∙ rw (go (eqb a (base c + 0xA04)) (eqb a (base c + 0xA39)), words_load c (a + 1) vs)
  where
    go : (p q : Bool) → load_among (cond p (Output v ∷ []) (cond q (Clear ∷ []) [])) ≡ false
    go true q = refl
    go false true = refl
    go false false = refl

-- THE LOADS OF AN ACT ARE THOSE BY COUNTING AND THOSE AT ITS TRIGGER
pub loads_told : (st : State) (x : Act) → loads_by st x ≡ loads_before st x || loads_at_trigger st x
loads_told st (Tick waves event) =
    some_same _ _ (λ c h. load_append (in_tick waves st c) (at_trigger st (Tick waves event) c))
    ∙ some_or (λ c. load_among (in_tick waves st c)) (λ c. load_among (at_trigger st (Tick waves event) c))
loads_told st (Write start count ws) =
    some_same _ _
    (λ c h. load_append (at_trigger st (Write start count ws) c) (by_words c start (words_done st start count ws))
    ∙ ap (λ (b : Bool). load_among (at_trigger st (Write start count ws) c) || b) (words_load c start (words_done st start count ws))
    ∙ or-false (load_among (at_trigger st (Write start count ws) c)))
loads_told st _ = refl

-- ---- a channel's tick

module _ (ed : Edition) (u s l : List ℕ) (c : ℕ) (ch : Channel) where
  -- samples are no loads
  abbrev NoLoad : List Happening → Type 0
  NoLoad hs = load_among hs ≡ false

  pub ramp_loads : (r : Ramp) → NoLoad (by_ramp ed u l c ch r)
  ramp_loads Still = refl
  ramp_loads (Going w) = choose NoLoad (ltb 1 w.wait.0) _ _ refl refl
  ramp_loads (Free w) = choose NoLoad (ltb 1 w.wait.0) _ _ refl refl

  pub start_loads : NoLoad (by_start ed u s l c ch)
  start_loads = choose NoLoad (eqb (word s (enable_at c)) 1) _ _ refl refl

  -- A TICK LOADS WHERE THE COUNTDOWN REACHES 10
  pub tick_loads : (p : Phase) → load_among (in_phase ed p u s l c ch) ≡ loads_at (to_start p - 1)
  tick_loads Rest = refl
  tick_loads (Counting n older) = go (eqb (n.0 - 1) 0) refl (loads_at (n.0 - 1)) refl
    where
      none : eqb (n.0 - 1) 0 ≡ true → loads_at (n.0 - 1) ≡ false
      none e = rw (eqb-true (n.0 - 1) 0 e)

      go : (a : Bool) → eqb (n.0 - 1) 0 ≡ a → (b : Bool) → loads_at (n.0 - 1) ≡ b
          → load_among (cond a (by_start ed u s l c ch) (cond b (Load (loaded_for s c ch.level) ∷ []) (by_ramp ed u l c ch older))) ≡ b
      go true e b f = start_loads ∙ sym (none e) ∙ f
      go false e true f = refl
      go false e false f = ramp_loads older
  tick_loads (Running w) = ramp_loads (Going w)
  tick_loads (FreeRunning w) = ramp_loads (Free w)

module _ (ed : Edition) (s l : List ℕ) (c : ℕ) (ch : Channel) where
  ramp_counts : (r : Ramp) → to_start (phase_of r) ≡ 0
  ramp_counts Still = refl
  ramp_counts (Going w) = refl
  ramp_counts (Free w) = refl

  start_counts : to_start (start ed s l c ch).channel.phase ≡ 0
  unfolding start
  start_counts = choose (λ (x : Move). to_start x.channel.phase ≡ 0) (eqb (word s (enable_at c)) 1) _ _
      (ramp_counts (given ed true l (first_of c) ch.loaded (lasting 1) (enter l (first_of c) 0) ch.shown).ramp) refl

  -- A TICK TAKES ONE MICROSECOND FROM THE COUNTDOWN
  pub tick_counts : (p : Phase) → ch.phase ≡ p → to_start (move_at ed p s l c ch).channel.phase ≡ to_start p - 1
  unfolding move_at count_to load
  tick_counts Rest e = rw e
  tick_counts (Counting n older) e = go (eqb (n.0 - 1) 0) refl (loads_at (n.0 - 1)) refl
    where
      o : Moved
      o = advance ed l (first_of c) ch.loaded older ch.shown

      go : (a : Bool) → eqb (n.0 - 1) 0 ≡ a → (b : Bool) → loads_at (n.0 - 1) ≡ b
          → to_start (cond a (start ed s l c ch) (cond b (quiet (load s l c ch ch.level)) (move (with ch (Counting (record { 0 = n.0 - 1 }) o.ramp) o.shown) l o.gave))).channel.phase
          ≡ n.0 - 1
      go true e b f = start_counts ∙ sym (eqb-true (n.0 - 1) 0 e)
      go false e true f = sym (eqb-true (n.0 - 1) lead f)
      go false e false f = refl
  tick_counts (Running w) e = ramp_counts (advance ed l (first_of c) ch.loaded (Going w) ch.shown).ramp
  tick_counts (FreeRunning w) e = ramp_counts (advance ed l (first_of c) ch.loaded (Free w) ch.shown).ramp

-- ---- the card

module _ (waves : List ℕ) (st : State) where
  pub advanced_counts : (c : ℕ) → c < 4 → to_start (channel_of (advanced waves st).card c).phase ≡ to_start (channel_of st.card c).phase - 1
  unfolding tick_of
  advanced_counts c h =
      cc (
        tick_same waves st c (tick_turn waves st c h),
        tick_counts st.card.edition st.settings (tick_turn waves st c h).mid c (channel_of st.card c) (channel_of st.card c).phase refl,
      )

  counting_told : (c : ℕ) → c < 4 → just_loaded (channel_of (advanced waves st).card c).phase ≡ load_among (in_tick waves st c)
  counting_told c h = cc (advanced_counts c h, tick_loads st.card.edition waves st.settings st.tables c (channel_of st.card c) (channel_of st.card c).phase)

  -- A TICK SHOWS THE PENDING TRIGGER WHERE SOME CHANNEL LOADS BY COUNTING
  pub advanced_active : (advanced waves st).card.active ≡ cond (loads_by_counting waves st) st.card.pending st.card.active
  unfolding advanced
  advanced_active = cc (some_same _ _ counting_told)

  pub advanced_pending : (advanced waves st).card.pending ≡ st.card.pending
  unfolding advanced
  advanced_pending = refl

pub trigger_loads : (s : List ℕ) (c level : ℕ) → load_among (by_trigger (Some level) s c) ≡ loads_at (countdown s c level)
trigger_loads s c level = grind arith

module _ (st : State) (level event : ℕ) where
  trigger_told : (c : ℕ) → c < 4 → just_loaded (channel_of (trigger_of st level event).card c).phase ≡ load_among (by_trigger (Some level) st.settings c)
  trigger_told c h =
      ap (λ (ch : Channel). just_loaded ch.phase) (sym (trigger_same st level event c (trigger_turn st level c h)))
      ∙ ap loads_at (triggered_counts st.settings _ c (channel_of st.card c) level)
      ∙ sym (trigger_loads st.settings c level)

  -- A TRIGGER SHOWS ITSELF WHERE SOME CHANNEL LOADS AT ONCE, AND IS KEPT
  pub trigger_active : (trigger_of st level event).card.active ≡ cond (on_some (λ c. load_among (by_trigger (Some level) st.settings c))) (cause level event) st.card.active
  unfolding trigger_of
  trigger_active =
      let k : Card = with_channels st.card (struck st level).channels in
      cc (some_same _ _ trigger_told, count_keeps k level (grown (count_of k level)) (λ (x : Card). x.active) refl)

  pub trigger_pending : (trigger_of st level event).card.pending ≡ cause level event
  unfolding trigger_of
  trigger_pending = refl
