-- What a channel loads is for the level that 0x4210 then shows (`loads_named`): every channel's pending level is the card's. Assumes nothing.
use Rattle.std.specs.Prelude.{Option, Some, None}
use mathlib.Core.Path.{◌≡◌, refl, sym, ap, ◌∙◌}
use mathlib.Core.Bool.{Bool, true, false, cond}
use mathlib.Core.List.{List, [], ◌∷◌}
use Prim.Native.Nat.{ℕ, ◌-◌, ◌<◌}
use native.Mathlib.Omega.{arith}
use lib.Dec.{eqb}
use lib.ListN.{length}
use Rattle.sum.specs.declared.Edition.{Edition}
use Rattle.channel.specs.declared.Ramp.TheVariants.{Going, Free}
use Rattle.channel.specs.declared.Phase.{Phase}
use Rattle.channel.specs.declared.Phase.TheVariants.{Rest, Counting, Running, FreeRunning}
use Rattle.channel.specs.declared.Channel.{Channel}
use Rattle.channel.specs.Channel.{Side, loads_at, load, loaded_for, countdown, triggered}
use Rattle.card.specs.declared.Cause.{Cause}
use Rattle.card.specs.Card.{State, channel_of}
use Rattle.card.specs.Trigger.{trigger_of}
use Rattle.card.specs.Tick.{advanced}
use Rattle.card.specs.Reset.{card_reset, fresh_of}
use Rattle.course.proofs.Copies.{choose}
use Rattle.course.proofs.Acts.{tick_level}
use Rattle.history.specs.History.{Act, Tick, Write, Ask, HandIn, Renew, edition_by, act, acts, read_back, trigger_by}
use Rattle.history.specs.Triggers.{event_by}
use Rattle.history.specs.Story.{Happening, Load, by_ramp, by_start, in_phase, by_trigger, in_tick, at_trigger}
use Rattle.history.specs.Countdowns.{just_before}
use Rattle.history.specs.Active.{load_among, LoadsNamed}
use Rattle.history.proofs.Parts.{write_part, part_keeps}
use Rattle.history.proofs.Story.{four_fresh}
use Rattle.history.proofs.Tracks.{tick_turn, tick_same, advanced_four, quiet_tick, trigger_turn, trigger_same, trigger_four, trigger_is}
use Rattle.history.proofs.Loads.{some_one, ramp_loads, start_loads, advanced_active, advanced_pending, trigger_pending}
use Rattle.history.proofs.Active.{write_keeps, shown_active, reads}

-- ---- every channel's pending level is the card's

record Levels (st : State) : Type 0 where
  four : length st.card.channels ≡ 4
  same : (c : ℕ) → c < 4 → (channel_of st.card c).level ≡ st.card.pending.level

reset_levels : (ed : Edition) (s l : List ℕ) → Levels (fresh_of ed s l)
unfolding card_reset
reset_levels ed s l = record { four = four; same = λ c h. ap (λ (ch : Channel). ch.level) (four_fresh ed c h) ∙ level }
  where
    four : length (card_reset ed).channels ≡ 4
    four = refl

    level : 0 ≡ (card_reset ed).pending.level
    level = refl

tick_levels : (waves : List ℕ) (st : State) → Levels st → Levels (advanced waves st)
tick_levels waves st h =
    record {
      four = advanced_four waves st;
      same =
          λ c i. cc (
            tick_same waves st c (tick_turn waves st c i),
            tick_level st.card.edition st.settings (tick_turn waves st c i).mid c (channel_of st.card c) waves,
            h.same c i,
            advanced_pending waves st,
          );
    }

triggered_level : (s l : List ℕ) (c : ℕ) (ch : Channel) (level : ℕ) → (triggered s l c ch level).channel.level ≡ level
unfolding triggered load
triggered_level s l c ch level = choose (λ (x : Side). x.channel.level ≡ level) (loads_at (countdown s c level)) _ _ refl refl

trigger_levels : (st : State) (level event : ℕ) → Levels (trigger_of st level event)
trigger_levels st level event =
    record {
      four = trigger_four st level event;
      same =
          λ c i. cc (
            trigger_same st level event c (trigger_turn st level c i),
            triggered_level st.settings (trigger_turn st level c i).mid c (channel_of st.card c) level,
            trigger_pending st level event,
          );
    }

write_levels : (st : State) (start count : ℕ) (ws : List ℕ) → trigger_by st (Write start count ws) ≡ None → Levels st → Levels (act st (Write start count ws))
write_levels st start count ws e h =
    record {
      four = (write_part 0 (omega arith) st start count ws h.four e).settled;
      same =
          λ c i. (part_keeps c st (act st (Write start count ws)) (write_part c i st start count ws h.four e)).level
          ∙ h.same c i
          ∙ sym (ap (λ (t : Cause × Cause). t.1.level) (write_keeps st start count ws e));
    }

act_levels : (st : State) (x : Act) → Levels st → Levels (act st x)
act_levels st x h = go (trigger_by st x) refl
  where
    quiet : (y : Act) → trigger_by st y ≡ None → Levels (act st y)
    quiet (Tick waves event) e = rw (quiet_tick waves st event e) (tick_levels waves st h)
    quiet (Write start count ws) e = write_levels st start count ws e h
    quiet (Ask what) e = h
    quiet (HandIn to ws) e = h
    quiet (Renew how) e = reset_levels (edition_by how st.card.edition) st.settings st.tables

    go : (r : Option ℕ) → trigger_by st x ≡ r → Levels (act st x)
    go (Some l) e = rw (trigger_is st x l e) (trigger_levels (just_before st x) l (event_by x))
    go None e = quiet x e

acts_levels : (st : State) (xs : List Act) → Levels st → Levels (acts st xs)
acts_levels st [] h = h
acts_levels st (x ∷ xs) h = acts_levels (act st x) xs (act_levels st x h)

-- ---- what is loaded

-- a load by counting is for the channel's pending level
module _ (ed : Edition) (u s l : List ℕ) (c : ℕ) (ch : Channel) where
  pub counting_load : (p : Phase) → load_among (in_phase ed p u s l c ch) ≡ true → in_phase ed p u s l c ch ≡ Load (loaded_for s c ch.level) ∷ []
  counting_load Rest e = absurd cc
  counting_load (Counting n older) e = go (eqb (n.0 - 1) 0) (loads_at (n.0 - 1)) e
    where
      ld : List Happening
      ld = Load (loaded_for s c ch.level) ∷ []

      go : (a b : Bool) → load_among (cond a (by_start ed u s l c ch) (cond b ld (by_ramp ed u l c ch older))) ≡ true → cond a (by_start ed u s l c ch) (cond b ld (by_ramp ed u l c ch older)) ≡ ld
      go true b e = absurd (cc (start_loads ed u s l c ch))
      go false true e = refl
      go false false e = absurd (cc (ramp_loads ed u s l c ch older))
  counting_load (Running w) e = absurd (cc (ramp_loads ed u s l c ch (Going w)))
  counting_load (FreeRunning w) e = absurd (cc (ramp_loads ed u s l c ch (Free w)))

-- a load at a trigger is for the trigger's level
trigger_load : (s : List ℕ) (c level : ℕ) → load_among (by_trigger (Some level) s c) ≡ true → by_trigger (Some level) s c ≡ Load (loaded_for s c level) ∷ []
trigger_load s c level = grind arith

module _ (st : State) (h : Levels st) where
  named_counting : (waves : List ℕ) (c : ℕ) → c < 4 → load_among (in_tick waves st c) ≡ true
      → in_tick waves st c ≡ Load (loaded_for st.settings c (read_back (advanced waves st) 0x4210)) ∷ []
  named_counting waves c i e =
      cc (counting_load st.card.edition waves st.settings st.tables c (channel_of st.card c) (channel_of st.card c).phase e, h.same c i, shown)
    where
      shown : read_back (advanced waves st) 0x4210 ≡ st.card.pending.level
      shown =
          ap (λ (t : Cause). t.level) (reads (advanced waves st) ∙ advanced_active waves st)
          ∙ rw (some_one (λ d. load_among (in_tick waves st d)) c i e)

  named_trigger : (x : Act) (c : ℕ) → c < 4 → load_among (at_trigger st x c) ≡ true
      → at_trigger st x c ≡ Load (loaded_for st.settings c (read_back (act st x) 0x4210)) ∷ []
  named_trigger x c i e = go (trigger_by st x) refl e
    where
      shown : (level : ℕ) → trigger_by st x ≡ Some level → read_back (act st x) 0x4210 ≡ level
      shown level f =
          ap (λ (t : Cause). t.level) (reads (act st x) ∙ shown_active st x level f)
          ∙ rw (some_one (λ d. load_among (at_trigger st x d)) c i e)

      go : (r : Option ℕ) → trigger_by st x ≡ r → load_among (by_trigger r st.settings c) ≡ true
          → by_trigger (trigger_by st x) st.settings c ≡ Load (loaded_for st.settings c (read_back (act st x) 0x4210)) ∷ []
      go (Some level) f g = rw (shown level f, f) (trigger_load st.settings c level g)
      go None f g = absurd cc

-- WHAT A CHANNEL LOADS IS FOR THE LEVEL THAT 0x4210 THEN SHOWS
pub loads_named : LoadsNamed
unfolding LoadsNamed
loads_named ed s l xs =
    let h = acts_levels (fresh_of ed s l) xs (reset_levels ed s l) in
    record { counting = named_counting (acts (fresh_of ed s l) xs) h; trigger = named_trigger (acts (fresh_of ed s l) xs) h }
