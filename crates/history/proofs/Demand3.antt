-- Demand 3 holds of the card (`demand3_card`): a history without triggers is tracked by acts of channel c, and so demand 3 of one channel,
-- proved in `course`, is that of the card's channel. Assumes nothing.
use mathlib.Core.Path.{◌≡◌, refl, sym, fun_ext, ◌∙◌}
use mathlib.Core.List.{List, ◌++◌}
use Prim.Native.Nat.{ℕ, zero, suc, ◌+◌, ◌*◌, ◌-◌, ◌≤◌, ◌<◌}
use native.Mathlib.Omega.{arith}
use lib.ListN.{length}
use Rattle.sum.specs.declared.Edition.{Edition}
use Rattle.map.specs.Addresses.{enable_at}
use Rattle.channel.specs.Channel.{Side, side, word, countdown, triggered, tick_of}
use Rattle.card.specs.Card.{State, channel_of}
use Rattle.card.specs.Trigger.{trigger_of}
use Rattle.card.specs.Tick.{advanced}
use Rattle.card.proofs.Ticks.{trigger_settings}
use Rattle.course.specs.Course as C
use Rattle.course.specs.Follows.{Follows}
use Rattle.course.specs.Follows as F
use Rattle.course.proofs.Acts.{run_length, before_all}
use Rattle.course.proofs.Appends.{run_append, ticks_append, before_first}
use Rattle.course.proofs.Follows.{trigger_followed}
use Rattle.course.specs.Outputs.{Outputs, OutputsFollow}
use Rattle.course.proofs.Outputs.{outputs_follow}
use Rattle.history.specs.History.{Act, Tick, act, acts, ticks_in, until, waves_on}
use Rattle.history.specs.Triggers.{event_by}
use Rattle.history.specs.Countdowns.{just_before}
use Rattle.history.specs.Demand3.{side_at, Demand3}
use Rattle.history.proofs.Editions.{quiet_edition}
use Rattle.history.proofs.Tracks.{until_untimed, held_untimed, waves_untimed, held_end, waves_end, TickTurn, tick_turn, quiet_tick, tick_same, TriggerTurn, trigger_turn, trigger_goes, trigger_four, Tracked, tracked, trigger_is, before_room}

-- what is so now, and what the next tick does
join : (ed : Edition) (c level d : ℕ) (s : List ℕ) (a t : ℕ) (u : List ℕ) (now x y later z : Side) → y.channel ≡ now.channel → later.channel ≡ z.channel
    → Follows ed c level d s a t u now x → Follows ed c level d s a t u y later → Follows ed c level d s a t u now z
join ed c level d s a t u now x y later z e f p q =
    record {
      loaded = p.loaded;
      table = p.table;
      aborted = λ h. rw (e, f) at (q.aborted h);
      held = λ h. rw (e, f) at (q.held h);
      sample = λ h k i j. rw (e, f) at (q.sample h k i j);
      silent = λ h i. rw (e, f) at (q.silent h i);
      made = λ h k i j. rw (e, f) at (q.made h k i j);
      still = λ h i. rw (e, f) at (q.still h i);
      counts = p.counts;
      runs = p.runs;
      rests = p.rests;
      frees = p.frees;
      off = p.off;
    }

same_follows : (ed : Edition) (c level d d' : ℕ) (s s' : List ℕ) (a a' t t' : ℕ) (u : List ℕ) (now now' later : Side) → d ≡ d' → s ≡ s' → a ≡ a' → t ≡ t' → now ≡ now'
    → Follows ed c level d s a t u now later → Follows ed c level d' s' a' t' u now' later
same_follows ed c level d d' s s' a a' t t' u now now' later e₁ e₂ e₃ e₄ e₅ f = rw (e₁, e₂, e₃, e₄, e₅) at f

-- the trigger of the state `from`, then a tracked history, then channel c's turn in a tick with these wave tables
module _ (ed : Edition) (c : ℕ) (inside : c < 4) (from : State) (level event : ℕ) (k : State) (is : k ≡ trigger_of from level event) (xs : List Act)
    (y : TriggerTurn from level c) (r : Tracked ed c k xs) (own : (acts k xs).card.edition ≡ ed) (waves : List ℕ) (w : TickTurn waves (acts k xs) c) where
  -- the side at the trigger, the acts after it, and those before the tick's turn
  abbrev s : List ℕ
  s = from.settings

  abbrev z : List ℕ
  z = (acts k xs).settings

  abbrev set_off : Side
  set_off = triggered s y.mid c (channel_of from.card c) level

  abbrev zs : List C.Act
  zs = y.after ++ r.doings

  abbrev all : List C.Act
  all = zs ++ w.before

  room_mid : 512 ≤ length from.tables → 128 * c + 128 ≤ length y.mid
  room_mid h =
      let e : length y.mid ≡ length from.tables =
      cc (y.comes ed, run_length ed c (side (channel_of from.card c) from.tables) y.before) in
      omega arith

  settings_same : s ≡ k.settings
  settings_same = cc (is, trigger_settings from level event)

  held_zs : (n : ℕ) → C.held_on s z n zs ≡ (acts k (until n xs)).settings
  held_zs zero = settings_same
  held_zs (suc n) = held_untimed s z n y.after r.doings y.none_after ∙ r.held s z refl n

  held_all : (n : ℕ) → C.held_on s z n all ≡ (acts k (until n xs)).settings
  held_all n = held_end s z n zs w.before w.none ∙ held_zs n

  ticks_zs : C.ticks_in zs ≡ ticks_in xs
  ticks_zs = ticks_append y.after r.doings ∙ omega (arith, y.none_after, r.same_ticks)

  ticks_all : C.ticks_in all ≡ ticks_in xs
  ticks_all = ticks_append zs w.before ∙ omega (arith, w.none, ticks_zs)

  runs_zs : C.run ed c set_off zs ≡ side_at (acts k xs) c
  runs_zs =
      cc (run_append ed c set_off y.after r.doings, trigger_goes from level event c y ed, is)

  runs_all : C.run ed c set_off all ≡ side (channel_of (acts k xs).card c) w.mid
  runs_all = cc (run_append ed c set_off zs w.before, runs_zs, w.comes ed)

  -- the tick is one of this edition
  tick_own : (tick_of ed z waves w.mid c (channel_of (acts k xs).card c)).channel ≡ channel_of (advanced waves (acts k xs)).card c
  tick_own = cc (own, tick_same waves (acts k xs) c w)

  same_delay : countdown s c level ≡ countdown k.settings c level
  same_delay = cc settings_same

  -- demand 3 of the channel after the acts ys, where their settings, ticks and side are the card's
  by_channel : 512 ≤ length from.tables → (ys : List C.Act) (now : Side) → ((n : ℕ) → C.held_on s z n ys ≡ (acts k (until n xs)).settings)
      → C.ticks_in ys ≡ ticks_in xs → C.run ed c set_off ys ≡ now
      → Follows ed c level (countdown k.settings c level) (acts k (until (countdown k.settings c level - 10) xs)).settings
      (word (acts k (until (countdown k.settings c level) xs)).settings (enable_at c)) (ticks_in xs) waves now (C.act ed c now (C.Tick z waves))
  unfolding F.TriggerFollowed
  by_channel h ys now f t e =
      same_later
      (same_follows ed c level _ _ _ _ _ _ _ _ waves _ _ _ same_delay
      (cc (f (countdown s c level - 10), same_delay))
      (cc (f (countdown s c level), same_delay))
      t e
      (trigger_followed ed s y.mid c (channel_of from.card c) level (room_mid h) ys z waves))
    where
      same_later : {d : ℕ} {u : List ℕ} {a t : ℕ} → Follows ed c level d u a t waves now (C.act ed c (C.run ed c set_off ys) (C.Tick z waves))
          → Follows ed c level d u a t waves now (C.act ed c now (C.Tick z waves))
      same_later g = rw e at g

  follows : 512 ≤ length from.tables → (later : State) → later ≡ advanced waves (acts k xs)
      → Follows ed c level (countdown k.settings c level) (acts k (until (countdown k.settings c level - 10) xs)).settings
      (word (acts k (until (countdown k.settings c level) xs)).settings (enable_at c)) (ticks_in xs) waves (side_at (acts k xs) c) (side_at later c)
  follows h later e =
      join ed c level _ _ _ _ waves (side_at (acts k xs) c) _ (side (channel_of (acts k xs).card c) w.mid) _ (side_at later c) refl
      (cc tick_own)
      (by_channel h zs (side_at (acts k xs) c) held_zs ticks_zs runs_zs)
      (by_channel h all (side (channel_of (acts k xs).card c) w.mid) held_all ticks_all runs_all)

  -- ---- the outputs

  passes_zs : (n : ℕ) → (C.run ed c set_off (C.until (suc n) zs)).channel ≡ channel_of (acts k (until (suc n) xs)).card c
  passes_zs n =
      cc (until_untimed n y.after r.doings y.none_after, run_append ed c set_off y.after (C.until (suc n) r.doings), trigger_goes from level event c y ed, is, r.passes n)

  -- before the tick's turn: where the acts have no n-th tick, they are all before it
  passes_all : (n : ℕ) → (C.run ed c set_off (C.until (suc n) all)).channel ≡ channel_of (acts k (until (suc n) xs)).card c
  passes_all n = grind (arith, before_first, passes_zs, before_all, ticks_all, ticks_zs, runs_all)

  waves_zs : (n : ℕ) → C.waves_on waves (suc n) zs ≡ waves_on waves (suc n) xs
  waves_zs n = waves_untimed waves n y.after r.doings y.none_after ∙ r.waves waves n

  waves_all : (n : ℕ) → C.waves_on waves (suc n) all ≡ waves_on waves (suc n) xs
  waves_all n = waves_end waves n zs w.before w.none ∙ waves_zs n

  by_outputs : 512 ≤ length from.tables → word (acts k (until (countdown k.settings c level) xs)).settings (enable_at c) ≡ 1
      → (ys : List C.Act) (now : Side) → ((n : ℕ) → C.held_on s z n ys ≡ (acts k (until n xs)).settings)
      → ((n : ℕ) → C.waves_on waves (suc n) ys ≡ waves_on waves (suc n) xs)
      → ((n : ℕ) → (C.run ed c set_off (C.until (suc n) ys)).channel ≡ channel_of (acts k (until (suc n) xs)).card c)
      → C.ticks_in ys ≡ ticks_in xs → C.run ed c set_off ys ≡ now
      → Outputs ed c level (countdown k.settings c level) (acts k (until (countdown k.settings c level - 10) xs)).settings
      (λ n. waves_on waves (countdown k.settings c level + 10 * n) xs)
      (channel_of (acts k (until (countdown k.settings c level) xs)).card c).shown.amplitude
      (channel_of (acts k (until (countdown k.settings c level) xs)).card c).signal.output (ticks_in xs) now (C.act ed c now (C.Tick z waves))
  unfolding OutputsFollow
  by_outputs h on ys now f u g t e =
      rw (
        sym same_delay,
        sym (f (countdown s c level - 10)),
        sym same_waves,
        sym (at_start (countdown s c level) (omega arith)),
        sym t,
        sym e,
      )
      (outputs_follow ed s y.mid c (channel_of from.card c) level (room_mid h) ys z waves
      (cc (f (countdown s c level), same_delay, on)))
    where
      at_start : (n : ℕ) → 1 ≤ n → (C.run ed c set_off (C.until n ys)).channel ≡ channel_of (acts k (until n xs)).card c
      at_start zero i = absurd (omega arith)
      at_start (suc n) i = g n

      on_tick : (n : ℕ) → 1 ≤ n → C.waves_on waves n ys ≡ waves_on waves n xs
      on_tick zero i = absurd (omega arith)
      on_tick (suc n) i = u n

      same_waves : ◌≡◌ {A = ℕ → List ℕ} (λ n. C.waves_on waves (countdown s c level + 10 * n) ys) (λ n. waves_on waves (countdown s c level + 10 * n) xs)
      same_waves = fun_ext (λ n. on_tick (countdown s c level + 10 * n) (omega arith))

  outputs : 512 ≤ length from.tables → (later : State) → later ≡ advanced waves (acts k xs)
      → word (acts k (until (countdown k.settings c level) xs)).settings (enable_at c) ≡ 1
      → Outputs ed c level (countdown k.settings c level) (acts k (until (countdown k.settings c level - 10) xs)).settings
      (λ n. waves_on waves (countdown k.settings c level + 10 * n) xs)
      (channel_of (acts k (until (countdown k.settings c level) xs)).card c).shown.amplitude
      (channel_of (acts k (until (countdown k.settings c level) xs)).card c).signal.output (ticks_in xs) (side_at (acts k xs) c) (side_at later c)
  outputs h later e on =
      let p = by_outputs h on zs (side_at (acts k xs) c) held_zs waves_zs passes_zs ticks_zs runs_zs in
      let q = by_outputs h on all (side (channel_of (acts k xs).card c) w.mid) held_all waves_all passes_all ticks_all runs_all in
      record {
        amplitude = p.amplitude;
        output = p.output;
        just_amplitude = λ j i g. cc (same_later, q.just_amplitude j i g);
        just_output = λ j i g. cc (same_later, q.just_output j i g);
      }
    where
      same_later : channel_of later.card c ≡ (C.act ed c (side (channel_of (acts k xs).card c) w.mid) (C.Tick z waves)).channel
      same_later = cc tick_own

-- DEMAND 3 OF THE CARD
pub demand3_card : Demand3
unfolding Demand3
demand3_card st room x level is xs waves event quiet none c inside =
    let k = just_before st x in
    let t = trigger_is st x level is in
    let ed = (act st x).card.edition in
    let r = tracked ed c inside (act st x) xs refl (rw t (trigger_four k level (event_by x))) quiet in
    let own = quiet_edition (act st x) xs quiet in
    let y = trigger_turn k level c inside in
    let w = tick_turn waves (acts (act st x) xs) c inside in
    let later = act (acts (act st x) xs) (Tick waves event) in
    let e = quiet_tick waves (acts (act st x) xs) event none in
    (follows ed c inside k level (event_by x) (act st x) t xs y r own waves w (rw (before_room st x) room) later e, outputs ed c inside k level (event_by x) (act st x) t xs y r own waves w (rw (before_room st x) room) later e)
