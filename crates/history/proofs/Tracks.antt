-- A tick and a trigger of the card, seen from channel c: both passes of a tick are its turn, as `two_passes` of `card` has it; and a history
-- without triggers, which is a few acts of the channel, told apart by what they tick (`tracked`). Assumes nothing.
use Rattle.std.specs.Prelude.{Some, None}
use mathlib.Core.Path.{◌≡◌, refl, sym, ap, ◌∙◌}
use mathlib.Core.List.{List, [], ◌∷◌, ◌++◌}
use Prim.Native.Nat.{ℕ, zero, suc, ◌+◌, ◌<◌}
use native.Mathlib.Omega.{arith}
use lib.ListN.{length}
use Rattle.sum.specs.declared.Edition.{Edition}
use Rattle.channel.specs.Channel.{Side, side, tick_of, triggered}
use Rattle.card.specs.declared.Card.{Card}
use Rattle.card.specs.Card.{State, channel_of, with_channels, count_of, on_all}
use Rattle.card.specs.Trigger.{struck, trigger_of}
use Rattle.card.specs.Tick.{second_pass, advanced}
use Rattle.word.specs.Word.{grown}
use Rattle.card.proofs.All.{two_passes}
use Rattle.card.proofs.Ticks.{advanced_settings, trigger_settings}
use Rattle.course.specs.Course as C
use Rattle.course.proofs.Acts.{tick_elsewhere, trigger_elsewhere, run_length, held_next, waves_next}
use Rattle.course.proofs.Appends.{run_append, ticks_append, waves_first, held_later, waves_later, before_later}
use Rattle.history.specs.History.{Act, Tick, Write, Ask, HandIn, Renew, act, acts, trigger_by, Quiet, ticks_in, until, waves_on}
use Rattle.history.specs.Triggers.{event_by}
use Rattle.history.specs.Countdowns.{just_before}
use Rattle.history.specs.Demand3.{side_at}
use Rattle.history.proofs.Cards.{count_channels}
use Rattle.history.proofs.Turns.{Turn, turn}
use Rattle.history.proofs.Editions.{act_edition}
use Rattle.history.proofs.Parts.{Part, write_part}
use Rattle.history.proofs.Manual.{manual_write}

-- ---- acts without ticks, before other acts or after them

pub held_untimed : (s z : List ℕ) (n : ℕ) (xs ys : List C.Act) → C.ticks_in xs ≡ 0 → C.held_on s z (suc n) (xs ++ ys) ≡ C.held_on s z (suc n) ys
held_untimed s z n xs ys e =
    let d : suc n ≡ suc (C.ticks_in xs + n) = omega arith in
    cc (held_later s z n xs ys)

pub waves_untimed : (z : List ℕ) (n : ℕ) (xs ys : List C.Act) → C.ticks_in xs ≡ 0 → C.waves_on z (suc n) (xs ++ ys) ≡ C.waves_on z (suc n) ys
waves_untimed z n xs ys e =
    let d : suc n ≡ suc (C.ticks_in xs + n) = omega arith in
    cc (waves_later z n xs ys)

pub until_untimed : (n : ℕ) (xs ys : List C.Act) → C.ticks_in xs ≡ 0 → C.until (suc n) (xs ++ ys) ≡ xs ++ C.until (suc n) ys
until_untimed n xs ys e =
    let d : suc n ≡ suc (C.ticks_in xs + n) = omega arith in
    cc (before_later n xs ys)

pub held_end : (s z : List ℕ) (n : ℕ) (xs ys : List C.Act) → C.ticks_in ys ≡ 0 → C.held_on s z n (xs ++ ys) ≡ C.held_on s z n xs
held_end s z (suc n) [] ys e = held_next s z n ys (omega arith)
held_end s z (suc (suc n)) (C.Tick u w ∷ xs) ys e = held_end s z (suc n) xs ys e
held_end s z (suc n) (C.Elsewhere l ∷ xs) ys e = held_end s z (suc n) xs ys e
held_end s z (suc n) (C.Output v ∷ xs) ys e = held_end s z (suc n) xs ys e
held_end s z (suc n) (C.Clear ∷ xs) ys e = held_end s z (suc n) xs ys e
held_end s z _ xs ys e = refl

-- the wave tables: where the first acts have no n-th tick, they are those of the tick that comes after all
pub waves_end : (z : List ℕ) (n : ℕ) (xs ys : List C.Act) → C.ticks_in ys ≡ 0 → C.waves_on z (suc n) (xs ++ ys) ≡ C.waves_on z (suc n) xs
waves_end z n xs ys e = grind (arith, waves_first, waves_next, ticks_append)

-- ---- a tick and a trigger of the card, on channel c

abbrev pub TickTurn : List ℕ → State → ℕ → Type 0
TickTurn waves st c = Turn (λ b l ch. tick_of st.card.edition st.settings waves l b ch) (λ b d l ch o. tick_elsewhere st.settings l b d ch o st.card.edition waves) st.card st.tables c

pub tick_turn : (waves : List ℕ) (st : State) (c : ℕ) → c < 4 → TickTurn waves st c
tick_turn waves st c h = turn (λ b l ch. tick_of st.card.edition st.settings waves l b ch) (λ b d l ch o. tick_elsewhere st.settings l b d ch o st.card.edition waves) st.card st.tables c h

pub quiet_tick : (waves : List ℕ) (st : State) (event : ℕ) → trigger_by st (Tick waves event) ≡ None → act st (Tick waves event) ≡ advanced waves st
unfolding advanced
quiet_tick waves st event e = rw e

pub advanced_four : (waves : List ℕ) (st : State) → length (advanced waves st).card.channels ≡ 4
unfolding advanced second_pass
advanced_four waves st = refl

-- what the turn leaves is the card's channel after the tick
pub tick_goes : (waves : List ℕ) (st : State) (c : ℕ) (y : TickTurn waves st c)
    → (ed : Edition) → C.run ed c (tick_of st.card.edition st.settings waves y.mid c (channel_of st.card c)) y.after ≡ side_at (advanced waves st) c
unfolding advanced
tick_goes waves st c y ed = cc (y.goes ed, two_passes waves st)

pub tick_same : (waves : List ℕ) (st : State) (c : ℕ) (y : TickTurn waves st c)
    → (tick_of st.card.edition st.settings waves y.mid c (channel_of st.card c)).channel ≡ channel_of (advanced waves st).card c
unfolding advanced
tick_same waves st c y = cc (two_passes waves st)

abbrev pub TriggerTurn : State → ℕ → ℕ → Type 0
TriggerTurn st level c = Turn (λ b l ch. triggered st.settings l b ch level) (λ b d l ch o. trigger_elsewhere st.settings l b d ch o level) st.card st.tables c

pub trigger_turn : (st : State) (level c : ℕ) → c < 4 → TriggerTurn st level c
trigger_turn st level c h = turn (λ b l ch. triggered st.settings l b ch level) (λ b d l ch o. trigger_elsewhere st.settings l b d ch o level) st.card st.tables c h

pub trigger_goes : (st : State) (level event c : ℕ) (y : TriggerTurn st level c)
    → (ed : Edition) → C.run ed c (triggered st.settings y.mid c (channel_of st.card c) level) y.after ≡ side_at (trigger_of st level event) c
unfolding trigger_of
trigger_goes st level event c y ed =
    let k : Card = with_channels st.card (struck st level).channels in
    y.goes ed ∙ rw (count_channels k level (grown (count_of k level)))

pub trigger_same : (st : State) (level event c : ℕ) (y : TriggerTurn st level c)
    → (triggered st.settings y.mid c (channel_of st.card c) level).channel ≡ channel_of (trigger_of st level event).card c
unfolding trigger_of
trigger_same st level event c y =
    let k : Card = with_channels st.card (struck st level).channels in
    y.same ∙ rw (count_channels k level (grown (count_of k level)))

pub trigger_four : (st : State) (level event : ℕ) → length (trigger_of st level event).card.channels ≡ 4
unfolding trigger_of on_all
trigger_four st level event =
    let k : Card = with_channels st.card (struck st level).channels in
    rw (count_channels k level (grown (count_of k level)))

-- ---- a history without triggers, on channel c

pub record Tracked (ed : Edition) (c : ℕ) (st : State) (xs : List Act) : Type 0 where
  pub doings : List C.Act
  pub same_ticks : C.ticks_in doings ≡ ticks_in xs
  pub runs : C.run ed c (side_at st c) doings ≡ side_at (acts st xs) c
  pub held : (s z : List ℕ) → (acts st xs).settings ≡ z → (n : ℕ) → C.held_on s z (suc n) doings ≡ (acts st (until (suc n) xs)).settings
  pub waves : (z : List ℕ) (n : ℕ) → C.waves_on z (suc n) doings ≡ waves_on z (suc n) xs
  pub passes : (n : ℕ) → (C.run ed c (side_at st c) (C.until (suc n) doings)).channel ≡ channel_of (acts st (until (suc n) xs)).card c
  pub settled : length (acts st xs).card.channels ≡ 4

module _ (ed : Edition) (c : ℕ) (inside : c < 4) where
  after_tick : (waves : List ℕ) (st : State) (event : ℕ) (xs : List Act) → st.card.edition ≡ ed → act st (Tick waves event) ≡ advanced waves st → TickTurn waves st c → Tracked ed c (act st (Tick waves event)) xs
      → Tracked ed c st (Tick waves event ∷ xs)
  after_tick waves st event xs own q y r =
      record {
        doings = y.before ++ (C.Tick st.settings waves ∷ rest);
        same_ticks =
            ticks_append y.before (C.Tick st.settings waves ∷ rest)
            ∙ omega (arith, y.none, y.none_after, ticks_append y.after r.doings, r.same_ticks);
        runs = ticked r.doings ∙ r.runs;
        held = held;
        waves = lent;
        passes = passes;
        settled = r.settled;
      }
    where
      rest : List C.Act
      rest = y.after ++ r.doings

      -- the tick, and what is done from there on
      ticked : (zs : List C.Act) → C.run ed c (side_at st c) (y.before ++ (C.Tick st.settings waves ∷ (y.after ++ zs))) ≡ C.run ed c (side_at (act st (Tick waves event)) c) zs
      ticked zs =
          cc (
            run_append ed c (side_at st c) y.before (C.Tick st.settings waves ∷ (y.after ++ zs)),
            y.comes ed,
            run_append ed c (tick_of ed st.settings waves y.mid c (channel_of st.card c)) y.after zs,
            own,
            tick_goes waves st c y ed,
          )

      passes : (n : ℕ) → (C.run ed c (side_at st c) (C.until (suc n) (y.before ++ (C.Tick st.settings waves ∷ rest)))).channel
          ≡ channel_of (acts st (until (suc n) (Tick waves event ∷ xs))).card c
      passes zero =
          ap (λ (zs : List C.Act). (C.run ed c (side_at st c) zs).channel) (until_untimed 0 y.before (C.Tick st.settings waves ∷ rest) y.none)
          ∙ ap (λ (x : Side). x.channel) (run_append ed c (side_at st c) y.before [] ∙ y.comes ed)
      passes (suc n) =
          cc (
            until_untimed (suc n) y.before (C.Tick st.settings waves ∷ rest) y.none,
            until_untimed n y.after r.doings y.none_after,
            ticked (C.until (suc n) r.doings),
            r.passes n,
          )

      held : (s z : List ℕ) → (acts st (Tick waves event ∷ xs)).settings ≡ z → (n : ℕ)
          → C.held_on s z (suc n) (y.before ++ (C.Tick st.settings waves ∷ rest)) ≡ (acts st (until (suc n) (Tick waves event ∷ xs))).settings
      held s z e zero = held_untimed s z 0 y.before (C.Tick st.settings waves ∷ rest) y.none
      held s z e (suc n) =
          held_untimed s z (suc n) y.before (C.Tick st.settings waves ∷ rest) y.none
          ∙ held_untimed s z n y.after r.doings y.none_after
          ∙ r.held s z e n

      lent : (z : List ℕ) (n : ℕ) → C.waves_on z (suc n) (y.before ++ (C.Tick st.settings waves ∷ rest)) ≡ waves_on z (suc n) (Tick waves event ∷ xs)
      lent z zero = waves_untimed z 0 y.before (C.Tick st.settings waves ∷ rest) y.none
      lent z (suc n) =
          waves_untimed z (suc n) y.before (C.Tick st.settings waves ∷ rest) y.none
          ∙ waves_untimed z n y.after r.doings y.none_after
          ∙ r.waves z n

  after_write : (st : State) (start count : ℕ) (ws : List ℕ) (xs : List Act) → Part c st (act st (Write start count ws)) → Tracked ed c (act st (Write start count ws)) xs
      → Tracked ed c st (Write start count ws ∷ xs)
  after_write st start count ws xs p r =
      record {
        doings = p.acts ++ r.doings;
        same_ticks = ticks_append p.acts r.doings ∙ omega (arith, p.none, r.same_ticks);
        runs = cc (run_append ed c (side_at st c) p.acts r.doings, p.runs ed);
        held = λ s z e n. held_untimed s z n p.acts r.doings p.none ∙ r.held s z e n;
        waves = λ z n. waves_untimed z n p.acts r.doings p.none ∙ r.waves z n;
        passes =
            λ n. cc (until_untimed n p.acts r.doings p.none, run_append ed c (side_at st c) p.acts (C.until (suc n) r.doings), p.runs ed, r.passes n);
        settled = r.settled;
      }

  pub tracked : (st : State) (xs : List Act) → st.card.edition ≡ ed → length st.card.channels ≡ 4 → Quiet st xs → Tracked ed c st xs
  tracked st [] own f q = record { doings = []; same_ticks = refl; runs = refl; held = λ s z e n. sym e; waves = λ z n. refl; passes = λ n. refl; settled = f }
  tracked st (Tick waves event ∷ xs) own f q =
      let e = quiet_tick waves st event q.0.no_trigger in
      after_tick waves st event xs own e (tick_turn waves st c inside) (tracked (act st (Tick waves event)) xs (act_edition st (Tick waves event) ∙ own) (rw e (advanced_four waves st)) q.1)
  tracked st (Write start count ws ∷ xs) own f q =
      let p = write_part c inside st start count ws f q.0.no_trigger in
      after_write st start count ws xs p (tracked (act st (Write start count ws)) xs (act_edition st (Write start count ws) ∙ own) p.settled q.1)
  tracked st (Ask what ∷ xs) own f q =
      let r = tracked st xs own f q.1 in
      record { doings = r.doings; same_ticks = r.same_ticks; runs = r.runs; held = r.held; waves = r.waves; passes = r.passes; settled = r.settled }
  tracked st (HandIn to ws ∷ xs) own f q =
      let r = tracked st xs own f q.1 in
      record { doings = r.doings; same_ticks = r.same_ticks; runs = r.runs; held = r.held; waves = r.waves; passes = r.passes; settled = r.settled }
  tracked st (Renew how ∷ xs) own f q = absurd cc

-- ---- the trigger

pub advanced_room : (waves : List ℕ) (st : State) → length (advanced waves st).tables ≡ length st.tables
advanced_room waves st =
    let y = tick_turn waves st 0 (omega arith) in
    cc (
      tick_goes waves st 0 y st.card.edition,
      run_length st.card.edition 0 (tick_of st.card.edition st.settings waves y.mid 0 (channel_of st.card 0)) y.after,
      run_length st.card.edition 0 (side (channel_of st.card 0) y.mid) (C.Tick st.settings waves ∷ []),
      y.comes st.card.edition,
      run_length st.card.edition 0 (side_at st 0) y.before,
    )

-- AN ACT THAT IS A TRIGGER TRIGGERS THE STATE THAT IT COMES TO
pub trigger_is : (st : State) (x : Act) (level : ℕ) → trigger_by st x ≡ Some level → act st x ≡ trigger_of (just_before st x) level (event_by x)
trigger_is st (Tick waves event) level e = rw (advanced_settings waves st, e)
trigger_is st (Write start count ws) level e = manual_write st start count ws level e
trigger_is st _ level e = absurd cc

pub struck_settings : (st : State) (x : Act) (level : ℕ) → trigger_by st x ≡ Some level → (act st x).settings ≡ (just_before st x).settings
struck_settings st x level e = cc (trigger_is st x level e, trigger_settings (just_before st x) level (event_by x))

pub before_settings : (st : State) (x : Act) → (just_before st x).settings ≡ st.settings
before_settings st (Tick waves event) = advanced_settings waves st
before_settings st _ = refl

pub before_room : (st : State) (x : Act) → length (just_before st x).tables ≡ length st.tables
before_room st (Tick waves event) = advanced_room waves st
before_room st _ = refl
