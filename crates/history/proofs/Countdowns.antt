-- Every accepted trigger sets every countdown anew (`countdowns_set`), and until the load an older ramp, or an older free run, goes on as if
-- no trigger had come (`older_goes_on`). Assumes nothing.
use Rattle.std.specs.Prelude.{Some, None}
use mathlib.Core.Path.{◌≡◌, refl, sym, ap, ◌∙◌}
use mathlib.Core.Bool.{Bool, true, false, cond}
use mathlib.Core.List.{List}
use Prim.Native.Nat.{ℕ, ◌+◌, ◌*◌, ◌-◌, ◌≤◌, ◌<◌}
use native.Mathlib.Omega.{arith}
use lib.ListN.{length}
use borrow.Author.Tests.{ne_eqb, eqb-true}
use Rattle.sum.specs.declared.Edition.{Edition}
use Rattle.sum.specs.declared.Edition.TheVariants.{First}
use Rattle.channel.specs.declared.Moved.{Moved}
use Rattle.channel.specs.declared.Shown.{Shown}
use Rattle.channel.specs.declared.Loaded.{Loaded}
use Rattle.channel.specs.declared.Ramp.{Ramp}
use Rattle.channel.specs.declared.Ramp.TheVariants.{Still, Going, Free}
use Rattle.channel.specs.declared.Phase.{Phase}
use Rattle.channel.specs.declared.Phase.TheVariants.{Counting}
use Rattle.channel.specs.declared.Channel.{Channel}
use Rattle.channel.specs.Ramp.{next, given, advance}
use Rattle.channel.specs.Signal.{make_of}
use Rattle.channel.specs.Channel.{Side, side, moved_on, first_of, lead, to_start, loads_at, load, ramp_of, phase_of, going, count_to, move_at, move_of, sounded_side, tick_of, countdown, triggered}
use Rattle.card.specs.declared.Card.{Card}
use Rattle.card.specs.Card.{State, channel_of, on_all}
use Rattle.card.specs.Trigger.{trigger_of}
use Rattle.card.specs.Tick.{advanced}
use Rattle.card.proofs.All.{two_passes}
use Rattle.course.specs.Points.{SameTable}
use Rattle.course.specs.Course as C
use Rattle.course.proofs.Acts.{tick_elsewhere, trigger_elsewhere, untimed_table}
use Rattle.course.proofs.Tables.{same_next, same_sample}
use Rattle.course.proofs.Walk.{placed_next}
use Rattle.history.specs.History.{Act, Write, act, trigger_by}
use Rattle.history.specs.Sound.{Sound, RampSound}
use Rattle.history.specs.Triggers.{event_by}
use Rattle.history.specs.Countdowns.{just_before, CountdownsSet, RampKept, stepped, GoesOn, OlderGoesOn}
use Rattle.history.specs.Demand3.{side_at}
use Rattle.history.proofs.Channels.{ramp_sound, ramp_phase}
use Rattle.history.proofs.Turns.{Turn, mid_length}
use Rattle.history.proofs.Parts.{write_part, part_keeps}
use Rattle.history.proofs.Tracks.{TickTurn, tick_turn, tick_same, TriggerTurn, trigger_turn, trigger_same, trigger_is, struck_settings, before_room}

-- ---- the countdowns

pub triggered_counts : (s l : List ℕ) (c : ℕ) (ch : Channel) (level : ℕ) → to_start (triggered s l c ch level).channel.phase ≡ countdown s c level
unfolding triggered load
triggered_counts s l c ch level = go (loads_at (countdown s c level)) refl
  where
    counting : Side
    counting = side (record { phase = Counting (record { 0 = countdown s c level }) (ramp_of ch.phase); level = level; loaded = ch.loaded; shown = ch.shown; signal = ch.signal }) l

    go : (b : Bool) → loads_at (countdown s c level) ≡ b → to_start (cond b (load s l c ch level) counting).channel.phase ≡ countdown s c level
    go true e = sym (eqb-true (countdown s c level) lead e)
    go false e = refl

-- the settings that a trigger leaves
same_countdown : (st : State) (x : Act) (level c : ℕ) → trigger_by st x ≡ Some level → countdown (act st x).settings c level ≡ countdown (just_before st x).settings c level
same_countdown st x level c e = cc (struck_settings st x level e)

-- the channel that a trigger leaves
pub struck_channel : (st : State) (x : Act) (level : ℕ) → trigger_by st x ≡ Some level → (c : ℕ) (h : c < 4)
    → channel_of (act st x).card c
    ≡ (triggered (just_before st x).settings (trigger_turn (just_before st x) level c h).mid c (channel_of (just_before st x).card c) level).channel
struck_channel st x level e c h =
    cc (trigger_is st x level e, trigger_same (just_before st x) level (event_by x) c (trigger_turn (just_before st x) level c h))

-- EVERY ACCEPTED TRIGGER SETS EVERY COUNTDOWN ANEW
pub countdowns_set : CountdownsSet
unfolding CountdownsSet
countdowns_set st x level e c h =
    ap (λ (ch : Channel). to_start ch.phase) (struck_channel st x level e c h)
    ∙ triggered_counts (just_before st x).settings _ c (channel_of (just_before st x).card c) level
    ∙ sym (same_countdown st x level c e)

-- ---- the copy

-- a turn that leaves the tables leaves channel c's words, whatever the other channels do in theirs
module _ (f : ℕ → List ℕ → Channel → Side)
    (beside : (b c : ℕ) (l : List ℕ) (ch : Channel) → (b ≡ c → ⊥) → C.elsewhere c l (f b l ch).tables ≡ (f b l ch).tables) (k : Card) (l : List ℕ) (c : ℕ) where
  turn_table : (y : Turn f beside k l c) → (f c y.mid (channel_of k c)).tables ≡ y.mid → 128 * c + 128 ≤ length l
      → SameTable (on_all f k l).tables (first_of c) l (first_of c)
  turn_table y e room i h =
      cc (
        y.goes First,
        untimed_table First c (f c y.mid (channel_of k c)) y.after y.none_after (omega (arith, ap length e, mid_length f beside k l c y)) i h,
        y.comes First,
        untimed_table First c (side (channel_of k c) l) y.before y.none room i h,
      )

-- ---- a trigger

-- what a trigger that does not load leaves of a channel
record Left (l : List ℕ) (ch : Channel) (x : Side) : Type 0 where
  ramp : ramp_of x.channel.phase ≡ ramp_of ch.phase
  loaded : x.channel.loaded ≡ ch.loaded
  shown : x.channel.shown ≡ ch.shown
  signal : x.channel.signal ≡ ch.signal
  tables : x.tables ≡ l

later_leaves : (s l : List ℕ) (c : ℕ) (ch : Channel) (level : ℕ) → lead < countdown s c level → Left l ch (triggered s l c ch level)
unfolding triggered
later_leaves s l c ch level h =
    rw (ne_eqb (countdown s c level) lead (λ d. absurd (omega arith))) (record { ramp = refl; loaded = refl; shown = refl; signal = refl; tables = refl })

module _ (st : State) (x : Act) (level : ℕ) (e : trigger_by st x ≡ Some level) (c : ℕ) (h : c < 4) (far : lead < countdown (act st x).settings c level) where
  abbrev k : State
  k = just_before st x

  abbrev y : TriggerTurn k level c
  y = trigger_turn k level c h

  leaves : Left y.mid (channel_of k.card c) (triggered k.settings y.mid c (channel_of k.card c) level)
  leaves = later_leaves k.settings y.mid c (channel_of k.card c) level (rw (same_countdown st x level c e) at far)

  trigger_table : 512 ≤ length st.tables → SameTable (act st x).tables (first_of c) k.tables (first_of c)
  unfolding trigger_of
  trigger_table room i g =
      cc (
        trigger_is st x level e,
        turn_table (λ b l ch. triggered k.settings l b ch level) (λ b d l ch o. trigger_elsewhere k.settings l b d ch o level) k.card k.tables c y leaves.tables (omega (arith, before_room st x)) i g,
      )

  -- what it leaves of the channel, it leaves of the card's
  trigger_leaves : {A : Type 0} (of : Channel → A) → of (triggered k.settings y.mid c (channel_of k.card c) level).channel ≡ of (channel_of k.card c)
      → of (channel_of (act st x).card c) ≡ of (channel_of k.card c)
  trigger_leaves of f = ap of (struck_channel st x level e c h) ∙ f

  trigger_keeps : 512 ≤ length st.tables → RampKept c k (act st x)
  trigger_keeps room =
      record {
        ramp = trigger_leaves (λ (ch : Channel). ramp_of ch.phase) leaves.ramp;
        loaded = trigger_leaves (λ (ch : Channel). ch.loaded) leaves.loaded;
        table = trigger_table room;
      }

  trigger_shows : (channel_of (act st x).card c).shown ≡ (channel_of k.card c).shown
  trigger_shows = trigger_leaves (λ (ch : Channel). ch.shown) leaves.shown

  trigger_sounds : (channel_of (act st x).card c).signal ≡ (channel_of k.card c).signal
  trigger_sounds = trigger_leaves (λ (ch : Channel). ch.signal) leaves.signal

-- ---- a tick

module _ (ed : Edition) (l m : List ℕ) (c : ℕ) (same : SameTable m (first_of c) l (first_of c)) (ld : Loaded) (s : Shown) where
  same_advance : (r : Ramp) → RampSound r → advance ed m (first_of c) ld r s ≡ advance ed l (first_of c) ld r s
  unfolding advance given
  same_advance (Going r) h =
      rw (
        same_next m (first_of c) l (first_of c) same r.place h.inner,
        same_sample m (first_of c) l (first_of c) same ed ld (next l (first_of c) r.place) (placed_next l (first_of c) r.place h.inner),
      )
  same_advance _ h = refl

-- what one tick makes of a channel's ramp and of its value, over the tables l
abbrev step : Edition → List ℕ → ℕ → Channel → Moved
step ed l c ch = advance ed l (first_of c) ch.loaded (ramp_of ch.phase) ch.shown

-- a channel's tick that is no load and no start, with the wave tables w
record Moves (ed : Edition) (w l : List ℕ) (c : ℕ) (ch : Channel) (x : Side) : Type 0 where
  ramp : ramp_of x.channel.phase ≡ (step ed l c ch).ramp
  shown : x.channel.shown ≡ (step ed l c ch).shown
  signal : x.channel.signal ≡ make_of w c (step ed l c ch).gave ch.loaded.tone (step ed l c ch).shown.amplitude ch.signal
  loaded : x.channel.loaded ≡ ch.loaded
  tables : x.tables ≡ l

module _ (ed : Edition) (w s l : List ℕ) (c : ℕ) (ch : Channel) where
  -- with a countdown beside it
  counting_moves : (p : Phase) → ch.phase ≡ p → 11 < to_start p → Moves ed w l c ch (sounded_side w c (move_at ed p s l c ch))
  unfolding move_at count_to
  counting_moves (Counting n older) e h =
      rw (ne_eqb (n.0 - 1) 0 (λ d. absurd (omega arith)), ne_eqb (n.0 - 1) lead (λ d. absurd (omega arith)))
      (record { ramp = rw e; shown = rw e; signal = rw e; loaded = refl; tables = refl })
  counting_moves _ e h = absurd (omega arith)

  -- with none
  on_moves : (r : Ramp) → ramp_of ch.phase ≡ r → Moves ed w l c ch (sounded_side w c (moved_on ch l (advance ed l (first_of c) ch.loaded r ch.shown)))
  on_moves r e = record { ramp = rw e (ramp_phase _); shown = rw e; signal = rw e; loaded = refl; tables = refl }

  going_moves : (r : Ramp) → going r ≡ true → (p : Phase) → ch.phase ≡ p → p ≡ phase_of r → Moves ed w l c ch (sounded_side w c (move_at ed p s l c ch))
  unfolding move_at
  going_moves Still g p e f = absurd cc
  going_moves (Going v) g p e f = rw f (on_moves (Going v) cc)
  going_moves (Free v) g p e f = rw f (on_moves (Free v) cc)

module _ (waves : List ℕ) (st : State) (h : Sound st) (c : ℕ) (inside : c < 4) where
  abbrev ch : Channel
  ch = channel_of st.card c

  abbrev turn : TickTurn waves st c
  turn = tick_turn waves st c inside

  tick_table : (tick_of st.card.edition st.settings waves turn.mid c ch).tables ≡ turn.mid → SameTable (advanced waves st).tables (first_of c) st.tables (first_of c)
  unfolding advanced
  tick_table e i g =
      cc (
        two_passes waves st,
        turn_table (λ b l ch. tick_of st.card.edition st.settings waves l b ch) (λ b d l ch o. tick_elsewhere st.settings l b d ch o st.card.edition waves) st.card st.tables c turn e (omega (arith, h.tables.many)) i g,
      )

  goes : Moves st.card.edition waves turn.mid c ch (sounded_side waves c (move_of st.card.edition st.settings turn.mid c ch)) → GoesOn waves c st (advanced waves st)
  unfolding tick_of
  goes m =
      record {
        ramp = ap (λ (x : Channel). ramp_of x.phase) (sym (tick_same waves st c turn)) ∙ m.ramp ∙ ap (λ (x : Moved). x.ramp) e;
        shown = ap (λ (x : Channel). x.shown) (sym (tick_same waves st c turn)) ∙ m.shown ∙ ap (λ (x : Moved). x.shown) e;
        signal =
            ap (λ (x : Channel). x.signal) (sym (tick_same waves st c turn))
            ∙ m.signal
            ∙ ap (λ (x : Moved). make_of waves c x.gave ch.loaded.tone x.shown.amplitude ch.signal) e;
        loaded = cc (tick_same waves st c turn);
        table = tick_table m.tables;
      }
    where
      same : SameTable turn.mid (first_of c) st.tables (first_of c)
      same = rw (turn.comes st.card.edition) at (untimed_table st.card.edition c (side ch st.tables) turn.before turn.none (omega (arith, h.tables.many)))

      e : step st.card.edition turn.mid c ch ≡ stepped c st
      e = same_advance st.card.edition st.tables turn.mid c same ch.loaded ch.shown (ramp_of ch.phase) (ramp_sound ch.phase (h.card.channels c).phase)

  -- a ramp, and a free run, with no countdown beside it
  goes_alone : (r : Ramp) → going r ≡ true → ch.phase ≡ phase_of r → GoesOn waves c st (advanced waves st)
  goes_alone r g f = goes (going_moves st.card.edition waves st.settings turn.mid c ch r g ch.phase refl f)

-- ---- a write

write_keeps_ramp : (st : State) → Sound st → (start count : ℕ) (ws : List ℕ) → trigger_by st (Write start count ws) ≡ None → (c : ℕ) → c < 4
    → RampKept c st (act st (Write start count ws))
write_keeps_ramp st h start count ws e c i =
    let p = write_part c i st start count ws h.card.four e in
    let r = part_keeps c st (act st (Write start count ws)) p in
    record {
      ramp = ap ramp_of r.phase;
      loaded = r.loaded;
      table = λ n g. cc (p.runs st.card.edition, untimed_table st.card.edition c (side_at st c) p.acts p.none (omega (arith, h.tables.many)) n g);
    }

-- UNTIL THE LOAD AN OLDER RAMP GOES ON
pub older_goes_on : OlderGoesOn
older_goes_on =
    record {
      trigger = λ st h x level e c i f. trigger_keeps st x level e c i f (omega (arith, h.tables.many));
      shown = trigger_shows;
      signal = trigger_sounds;
      counting = λ w st h c i f. goes w st h c i (counting_moves st.card.edition w st.settings _ c (channel_of st.card c) (channel_of st.card c).phase refl f);
      running = λ w st h c i r f. goes_alone w st h c i (Going r) refl f;
      free = λ w st h c i r f. goes_alone w st h c i (Free r) refl f;
      write = write_keeps_ramp;
    }
