-- A ramp loaded under settings that pass has no sum out of range until the next load (`never_out`): every act but that load keeps channel c as
-- the load left it, ramp and copy, in the sense of `Under`. Assumes nothing.
use Rattle.std.specs.Prelude.{Option, Some, None}
use mathlib.Core.Path.{◌≡◌, refl, sym, ap, ◌∙◌}
use mathlib.Core.Bool.{Bool, true, false, ◌||◌}
use mathlib.Core.List.{List, [], ◌∷◌, ◌++◌}
use Prim.Native.Nat.{ℕ, ◌+◌, ◌*◌, ◌≤◌, ◌<◌}
use native.Mathlib.Omega.{arith}
use lib.Dec.{eqb}
use lib.ListN.{length}
use Rattle.std.proofs.lemmas.Bool.{or_parts}
use Rattle.sum.specs.declared.Edition.{Edition}
use Rattle.map.specs.Map.{base}
use Rattle.channel.specs.declared.Channel.{Channel}
use Rattle.channel.specs.Signal.{overflows}
use Rattle.channel.specs.Channel.{Side, side, loads_at, load, start, tick_of, countdown, triggered}
use Rattle.card.specs.declared.Card.{Card}
use Rattle.card.specs.declared.Cause.{Cause}
use Rattle.card.specs.Card.{State, channel_of}
use Rattle.card.specs.Trigger.{trigger_of}
use Rattle.card.specs.Tick.{advanced}
use Rattle.card.proofs.Ticks.{advanced_settings}
use Rattle.course.specs.Course as C
use Rattle.course.proofs.Copies.{choose, tick_length, trigger_length}
use Rattle.course.proofs.Acts.{untimed_table}
use Rattle.profile.specs.Laws.{InRange, OneVerdict}
use Rattle.profile.proofs.Right.{verdict_right, one_verdict}
use Rattle.history.specs.History.{Act, Tick, Write, Ask, HandIn, Renew, edition_by, act, acts, words_done, trigger_by, Words16}
use Rattle.history.specs.Sound.{Sound}
use Rattle.history.specs.Triggers.{event_by}
use Rattle.history.specs.Countdowns.{just_before}
use Rattle.history.specs.Demand3.{side_at}
use Rattle.history.specs.Story.{Happening, Load, Sample, by_tick, by_trigger, by_word, by_words, in_tick, at_trigger, happens, story}
use Rattle.history.specs.Active.{load_among}
use Rattle.history.specs.InRange.{out_before_load, PassedLoad, NoSumCounted, NeverOut}
use Rattle.history.proofs.Addresses.{overflow_register}
use Rattle.history.proofs.Sound.{one_sound}
use Rattle.history.proofs.Turns.{Turn, mid_length}
use Rattle.history.proofs.Parts.{write_part}
use Rattle.history.proofs.Tracks.{TickTurn, tick_turn, tick_same, tick_goes, trigger_turn, trigger_goes, trigger_is, advanced_room, before_settings, before_room, quiet_tick}
use Rattle.history.proofs.Story.{same_tick, four_fresh}
use Rattle.history.proofs.Countdowns.{struck_channel}
use Rattle.history.proofs.Loads.{load_append, words_load, tick_loads, trigger_loads, trigger_pending}
use Rattle.history.proofs.Gives.{Counted}
use Rattle.history.proofs.Under.{counts_load, Under, resting, untimed_under, triggered_under, load_under, tick_under, tick_told, tick_counted}

-- ---- the card's channel c

or_left : (a b : Bool) → a || b ≡ true → b ≡ false → a ≡ true
or_left true b e f = refl
or_left false b e f = absurd cc

abbrev In : List Happening → Type 0
In hs = out_before_load hs ≡ false

in_append : (hs js : List Happening) → In hs → In js → In (hs ++ js)
in_append [] js p q = q
in_append (Load ld ∷ hs) js p q = refl
in_append (Sample w f x u ∷ hs) js p q = let r = or_parts (overflows u) (out_before_load hs) p in rw r.0 (in_append hs js r.1 q)
in_append (y ∷ hs) js p q = in_append hs js p q

-- what comes after a load is not looked at
in_load : (hs js : List Happening) → load_among hs ≡ true → In hs → In (hs ++ js)
in_load [] js l p = absurd cc
in_load (Load ld ∷ hs) js l p = refl
in_load (Sample w f x u ∷ hs) js l p = let r = or_parts (overflows u) (out_before_load hs) p in rw r.0 (in_load hs js l r.1)
in_load (y ∷ hs) js l p = in_load hs js l p

-- triggers and words give no samples
trigger_in : (r : Option ℕ) (s : List ℕ) (c : ℕ) → In (by_trigger r s c)
trigger_in (Some l) s c = choose In (loads_at (countdown s c l)) _ _ refl refl
trigger_in None s c = refl

words_in_lem : (c a : ℕ) (vs : List ℕ) → In (by_words c a vs)
words_in_lem c a [] = refl
words_in_lem c a (v ∷ vs) =
    in_append (by_word c a v) (by_words c (a + 1) vs)
    (choose In (eqb a (base c + 0xA04)) _ _ refl (choose In (eqb a (base c + 0xA39)) _ _ refl refl))
    (words_in_lem c (a + 1) vs)

-- a turn of channel c: what is so of it where its turn comes, and of the card's channel once all have had theirs
module _ (s : List ℕ) (c v : ℕ) (f : ℕ → List ℕ → Channel → Side)
    (beside : (b c : ℕ) (l : List ℕ) (ch : Channel) → (b ≡ c → ⊥) → C.elsewhere c l (f b l ch).tables ≡ (f b l ch).tables) (k : Card) (l : List ℕ)
    (y : Turn f beside k l c) (room : 128 * c + 128 ≤ length l) where
  comes_under : (ed : Edition) → Under s c v (side (channel_of k c) l) → Under s c v (side (channel_of k c) y.mid)
  comes_under ed u = rw (← (y.comes ed)) (untimed_under s c v ed (side (channel_of k c) l) y.before y.none room u)

  goes_under : (ed : Edition) → length (f c y.mid (channel_of k c)).tables ≡ length y.mid → (z : Side) → C.run ed c (f c y.mid (channel_of k c)) y.after ≡ z
      → Under s c v (f c y.mid (channel_of k c)) → Under s c v z
  goes_under ed e z g u = rw (← g) (untimed_under s c v ed _ y.after y.none_after (omega (arith, mid_length f beside k l c y)) u)

module _ (s : List ℕ) (c v : ℕ) (inside : c < 4) where
  abbrev UnderIn : State → Type 0
  UnderIn y = Under s c v (side_at y c)

  -- an accepted trigger, if channel c is so once it has come to it
  struck_so : (y : State) (level event : ℕ) → 512 ≤ length y.tables
      → (let t = trigger_turn y level c inside in Under s c v (triggered y.settings t.mid c (channel_of y.card c) level)) → UnderIn (trigger_of y level event)
  struck_so y level event room u =
      let t = trigger_turn y level c inside in
      let ed = y.card.edition in
      goes_under s c v _ _ y.card y.tables t (omega arith) ed (trigger_length y.settings t.mid c (channel_of y.card c) level) _ (trigger_goes y level event c t ed) u

  -- one that does not load it
  struck_under : (y : State) (level event : ℕ) → 512 ≤ length y.tables → loads_at (countdown y.settings c level) ≡ false → UnderIn y → UnderIn (trigger_of y level event)
  struck_under y level event room l u =
      let t = trigger_turn y level c inside in
      struck_so y level event room
      (triggered_under s c v y.settings (side (channel_of y.card c) t.mid) level l (comes_under s c v _ _ y.card y.tables t (omega arith) y.card.edition u))

  -- a tick, likewise
  ticked_so : (w : List ℕ) (y : State) → 512 ≤ length y.tables
      → (let t = tick_turn w y c inside in Under s c v (tick_of y.card.edition y.settings w t.mid c (channel_of y.card c))) → UnderIn (advanced w y)
  ticked_so w y room u =
      let t = tick_turn w y c inside in
      let ed = y.card.edition in
      goes_under s c v _ _ y.card y.tables t (omega arith) ed (tick_length y.settings t.mid c (channel_of y.card c) ed w) _ (tick_goes w y c t ed) u

  -- in range in both editions, since a fresh card of the other may come
  module _ (fits : (ed : Edition) → InRange ed s c v) where
    module _ (w : List ℕ) (y : State) (h : Sound y) (u : UnderIn y) where
      abbrev ed : Edition
      ed = y.card.edition

      abbrev ch : Channel
      ch = channel_of y.card c

      abbrev t : TickTurn w y c
      t = tick_turn w y c inside

      mid : Under s c v (side ch t.mid)
      mid = comes_under s c v _ _ y.card y.tables t (omega (arith, h.tables.many)) ed u

      advanced_under : load_among (in_tick w y c) ≡ false → UnderIn (advanced w y)
      advanced_under l =
          ticked_so w y (omega (arith, h.tables.many))
          (tick_under s c v ed (fits ed) y.settings w (side ch t.mid) mid (sym (tick_loads ed w y.settings y.tables c ch ch.phase) ∙ l))

      advanced_in : In (in_tick w y c)
      advanced_in = tick_told s c v ed (fits ed) y.settings w (side_at y c) u

      -- the turn comes over other tables, and tells the same
      same_told : by_tick ed w y.settings t.mid c ch ≡ in_tick w y c
      same_told =
          same_tick ed w y.settings y.tables t.mid c ch
          (rw (t.comes ed) at (untimed_table ed c (side_at y c) t.before t.none (omega (arith, h.tables.many))))
          ch.phase (h.card.channels c).phase

      advanced_counted : Counted c w (in_tick w y c) ch (channel_of (advanced w y).card c)
      advanced_counted =
          rw (← same_told)
          (rw (← (tick_same w y c t))
          (tick_counted s c v ed (fits ed) y.settings w (side ch t.mid) mid))

    -- ---- any act

    act_in : (y : State) → Sound y → UnderIn y → (z : Act) → In (happens c y z)
    act_in y h u (Tick w event) = in_append (in_tick w y c) _ (advanced_in w y h u) (trigger_in (trigger_by y (Tick w event)) y.settings c)
    act_in y h u (Write start count ws) =
        in_append (at_trigger y (Write start count ws) c) _ (trigger_in (trigger_by y (Write start count ws)) y.settings c) (words_in_lem c start (words_done y start count ws))
    act_in y h u _ = refl

    act_under : (y : State) → Sound y → UnderIn y → (z : Act) → load_among (happens c y z) ≡ false → UnderIn (act y z)
    act_under y h u (Tick w event) l = go (trigger_by y (Tick w event)) refl
      where
        two : (load_among (in_tick w y c) ≡ false) × (load_among (at_trigger y (Tick w event) c) ≡ false)
        two = or_parts _ _ (sym (load_append (in_tick w y c) (at_trigger y (Tick w event) c)) ∙ l)

        go : (r : Option ℕ) → trigger_by y (Tick w event) ≡ r → UnderIn (act y (Tick w event))
        go (Some level) e =
            rw (trigger_is y (Tick w event) level e)
            (struck_under (advanced w y) level event (omega (arith, advanced_room w y, h.tables.many))
            (ap (λ (z : List ℕ). loads_at (countdown z c level)) (advanced_settings w y) ∙ sym (trigger_loads y.settings c level) ∙ (rw e at two.1))
            (advanced_under w y h u two.0))
        go None e = rw (quiet_tick w y event e) (advanced_under w y h u two.0)
    act_under y h u (Write start count ws) l = go (trigger_by y (Write start count ws)) refl
      where
        two : (load_among (at_trigger y (Write start count ws) c) ≡ false) × (load_among (by_words c start (words_done y start count ws)) ≡ false)
        two = or_parts _ _ (sym (load_append (at_trigger y (Write start count ws) c) (by_words c start (words_done y start count ws))) ∙ l)

        go : (r : Option ℕ) → trigger_by y (Write start count ws) ≡ r → UnderIn (act y (Write start count ws))
        go (Some level) e =
            rw (trigger_is y (Write start count ws) level e)
            (struck_under y level 0xFE (omega (arith, h.tables.many)) (sym (trigger_loads y.settings c level) ∙ (rw e at two.0)) u)
        go None e =
            let p = write_part c inside y start count ws h.card.four e in
            rw (← (p.runs y.card.edition)) (untimed_under s c v y.card.edition (side_at y c) p.acts p.none (omega (arith, h.tables.many)) u)
    act_under y h u (Renew how) l = resting (cc (four_fresh (edition_by how y.card.edition) c inside))
    act_under y h u _ l = u

    -- until the next load
    acts_in : (y : State) → Sound y → UnderIn y → (ys : List Act) → Words16 ys → In (story c y ys)
    acts_in y h u [] w = refl
    acts_in y h u (z ∷ zs) w =
        let r = one_sound y z zs w h in
        go (load_among (happens c y z)) refl (λ l. acts_in (act y z) r.0 (act_under y h u z l) zs r.1)
      where
        go : (b : Bool) → load_among (happens c y z) ≡ b → (load_among (happens c y z) ≡ false → In (story c (act y z) zs)) → In (happens c y z ++ story c (act y z) zs)
        go true q ih = in_load (happens c y z) _ q (act_in y h u z)
        go false q ih = in_append (happens c y z) _ (act_in y h u z) (ih q)

    acts_under : (y : State) → Sound y → UnderIn y → (ys : List Act) → Words16 ys → load_among (story c y ys) ≡ false → Sound (acts y ys) × UnderIn (acts y ys)
    acts_under y h u [] w l = (h, u)
    acts_under y h u (z ∷ zs) w l =
        let two = or_parts _ _ (sym (load_append (happens c y z) (story c (act y z) zs)) ∙ l) in
        let r = one_sound y z zs w h in
        acts_under (act y z) r.0 (act_under y h u z two.0) zs r.1 two.1

-- ---- the load

module _ (c : ℕ) (inside : c < 4) where
  -- at a trigger
  struck_load : (y : State) (level event : ℕ) → 512 ≤ length y.tables → loads_at (countdown y.settings c level) ≡ true
      → Under y.settings c level (side_at (trigger_of y level event) c)
  unfolding triggered
  struck_load y level event room l =
      let t = trigger_turn y level c inside in
      struck_so y.settings c level inside y level event room
      (rw l (load_under y.settings c level (side (channel_of y.card c) t.mid) (omega (arith, mid_length _ _ y.card y.tables c t))))

  -- by counting
  counted_load : (w : List ℕ) (y : State) → 512 ≤ length y.tables → load_among (in_tick w y c) ≡ true
      → Under y.settings c (channel_of y.card c).level (side_at (advanced w y) c)
  counted_load w y room l =
      let ch = channel_of y.card c in
      let t = tick_turn w y c inside in
      ticked_so y.settings c ch.level inside w y room
      (rw (counts_load y.card.edition y.settings w t.mid c ch (sym (tick_loads y.card.edition w y.settings y.tables c ch ch.phase) ∙ l))
      (load_under y.settings c ch.level (side ch t.mid) (omega (arith, mid_length _ _ y.card y.tables c t))))

  -- the level of a load, and what it leaves
  record LoadOf (st : State) (x : Act) : Type 0 where
    level : ℕ
    small : level < 32
    under : Under st.settings c level (side_at (act st x) c)

  trigger_small : (st : State) (x : Act) (level : ℕ) → trigger_by st x ≡ Some level → Sound (act st x) → level < 32
  trigger_small st x level e h =
      rw (← (ap (λ (k : Cause). k.level) (ap (λ (z : State). z.card.pending) (trigger_is st x level e) ∙ trigger_pending (just_before st x) level (event_by x)))) h.card.pending.level

  at_trigger_lem : (st : State) (x : Act) (level : ℕ) → trigger_by st x ≡ Some level → Sound st → Sound (act st x) → loads_at (countdown st.settings c level) ≡ true → LoadOf st x
  at_trigger_lem st x level e h g l =
      record {
        level = level;
        small = trigger_small st x level e g;
        under =
            rw (trigger_is st x level e)
            (rw (before_settings st x) at (struck_load (just_before st x) level (event_by x) (omega (arith, before_room st x, h.tables.many)) (rw (before_settings st x) l)));
      }

  load_of : (st : State) → Sound st → (x : Act) → Sound (act st x) → load_among (happens c st x) ≡ true → LoadOf st x
  load_of st h (Tick w event) g l = go (trigger_by st (Tick w event)) refl (sym (load_append (in_tick w st c) (at_trigger st (Tick w event) c)) ∙ l)
    where
      room : 512 ≤ length st.tables
      room = omega (arith, h.tables.many)

      go : (r : Option ℕ) → trigger_by st (Tick w event) ≡ r → load_among (in_tick w st c) || load_among (by_trigger (trigger_by st (Tick w event)) st.settings c) ≡ true → LoadOf st (Tick w event)
      go (Some level) e q = by (loads_at (countdown st.settings c level)) refl
        where
          by : (b : Bool) → loads_at (countdown st.settings c level) ≡ b → LoadOf st (Tick w event)
          by true d = at_trigger_lem st (Tick w event) level e h g d
          by false d =
              record {
                level = (channel_of st.card c).level;
                small = (h.card.channels c).level;
                under =
                    rw (trigger_is st (Tick w event) level e)
                    (struck_under st.settings c (channel_of st.card c).level inside (advanced w st) level event (omega (arith, advanced_room w st, room))
                    (cc (advanced_settings w st))
                    (counted_load w st room (or_left _ _ q (rw e (trigger_loads st.settings c level ∙ d)))));
              }
      go None e q =
          record {
            level = (channel_of st.card c).level;
            small = (h.card.channels c).level;
            under = rw (quiet_tick w st event e) (counted_load w st room (or_left _ _ q (rw e)));
          }
  load_of st h (Write start count ws) g l = go (trigger_by st (Write start count ws)) refl at_once
    where
      words : List Happening
      words = by_words c start (words_done st start count ws)

      at_once : load_among (by_trigger (trigger_by st (Write start count ws)) st.settings c) ≡ true
      at_once = or_left _ _ (sym (load_append (at_trigger st (Write start count ws) c) words) ∙ l) (words_load c start (words_done st start count ws))

      go : (r : Option ℕ) → trigger_by st (Write start count ws) ≡ r → load_among (by_trigger (trigger_by st (Write start count ws)) st.settings c) ≡ true → LoadOf st (Write start count ws)
      go (Some level) e q = at_trigger_lem st (Write start count ws) level e h g (sym (trigger_loads st.settings c level) ∙ (rw e at q))
      go None e q = absurd cc
  load_of st h (Ask what) g l = absurd cc
  load_of st h (HandIn to ws) g l = absurd cc
  load_of st h (Renew how) g l = absurd cc

-- ---- from the load on

-- a trigger, with a load or without, leaves the signal and the amplitude
triggered_keeps : (z l : List ℕ) (c : ℕ) (ch : Channel) (level : ℕ)
    → ((triggered z l c ch level).channel.signal ≡ ch.signal) × ((triggered z l c ch level).channel.shown.amplitude ≡ ch.shown.amplitude)
unfolding triggered load
triggered_keeps z l c ch level = grind arith

module _ (c : ℕ) (st : State) (x : Act) (p : PassedLoad c st x) where
  sound : Sound (act st x)
  sound = (one_sound st x [] p.words p.sound).0

  abbrev from : LoadOf c p.inside st x
  from = load_of c p.inside st p.sound x sound p.loads

  -- the verdict is one for both editions
  fits : (ed : Edition) → InRange ed st.settings c from.level
  unfolding OneVerdict
  fits ed = (verdict_right ed st.settings).passes (one_verdict ed st.card.edition st.settings ∙ p.passed) c from.level p.inside from.small

  sums_in : (ys : List Act) → Words16 ys → In (story c (act st x) ys)
  sums_in ys w = acts_in st.settings c from.level p.inside fits (act st x) sound from.under ys w

  module _ (ys : List Act) (words : Words16 ys) (none : load_among (story c (act st x) ys) ≡ false) (w : List ℕ) (event : ℕ) where
    abbrev y : State
    y = acts (act st x) ys

    moved : Counted c w (in_tick w y c) (channel_of y.card c) (channel_of (advanced w y).card c)
    moved =
        let r = acts_under st.settings c from.level p.inside fits (act st x) sound from.under ys words none in
        advanced_counted st.settings c from.level p.inside fits w y r.0 r.1

    -- the event leaves what is counted
    event_keeps : Counted c w (in_tick w y c) (channel_of y.card c) (channel_of (act y (Tick w event)).card c)
    event_keeps = go (trigger_by y (Tick w event)) refl
      where
        go : (r : Option ℕ) → trigger_by y (Tick w event) ≡ r → Counted c w (in_tick w y c) (channel_of y.card c) (channel_of (act y (Tick w event)).card c)
        go (Some level) e =
            let k = triggered_keeps (advanced w y).settings (trigger_turn (advanced w y) level c p.inside).mid c (channel_of (advanced w y).card c) level in
            rw (struck_channel y (Tick w event) level e c p.inside, k.0, k.1) moved
        go None e = rw (quiet_tick w y event e) moved

    ticked : NoSumCounted c w y (act y (Tick w event))
    ticked = grind (arith, event_keeps, overflow_register)

-- A RAMP LOADED UNDER SETTINGS THAT PASS HAS NO SUM OUT OF RANGE, UNTIL THE NEXT LOAD
pub never_out : NeverOut
never_out = record { sums = sums_in; count = ticked }
