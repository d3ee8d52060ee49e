-- 0x4210 and 0x4211 show the last trigger after which some channel has loaded (`active_right`): a trigger that is replaced before never
-- shows (`never_shows`), any other shows on the tick of its first load (`shown_on_time`). Assumes nothing.
use Rattle.std.specs.Prelude.{Option, Some, None}
use mathlib.Core.Path.{◌≡◌, refl, sym, ap, ◌∙◌}
use mathlib.Core.Bool.{Bool, true, false, ◌||◌, cond, or-false}
use mathlib.Core.List.{List, [], ◌∷◌}
use Prim.Native.Nat.{ℕ, zero, suc, ◌+◌, ◌-◌, ◌≤◌, ◌<◌}
use native.Mathlib.Omega.{arith}
use lib.Dec.{eqb, leb, leb-suc-suc, leb-suc-zero}
use lib.ListN.{length}
use borrow.Author.Tests.{eq-eqb, ne_eqb, eqb-true, eqb-false, le-leb, leb-true, leb-false}
use Rattle.map.specs.Addresses.{delay_at}
use Rattle.channel.specs.Channel.{word, lead, to_start, loads_at, countdown, output_to, overflow_cleared}
use Rattle.card.specs.declared.Cause.{Cause}
use Rattle.card.specs.declared.Card.{Card}
use Rattle.card.specs.Card.{State, channel_of}
use Rattle.card.specs.Active.{cause}
use Rattle.card.specs.Tick.{advanced}
use Rattle.card.specs.Reset.{card_reset, fresh_of}
use Rattle.transfer.specs.Transfer.{write_of}
use Rattle.course.proofs.Copies.{choose}
use Rattle.history.specs.History.{Act, Tick, Write, Ask, HandIn, Renew, act, acts, words_done, manual_among, trigger_by, is_reset, Quiet, ticks_in}
use Rattle.history.specs.Effects.{Does, Keeps, Outputs, ClearsOverflow, ClearsCount, Erases, Idles, Triggers}
use Rattle.history.specs.Triggers.{event_by}
use Rattle.history.specs.Story.{in_tick, at_trigger}
use Rattle.history.specs.Countdowns.{just_before, CountdownsSet}
use Rattle.history.specs.Active.{load_among, loads_by, loads_in, loads_by_counting, loads_before, loads_at_trigger, loads_after, active_in, at_reset, active_after, last_loaded, ActiveRight, LastTrigger, NeverShows, shortest, first_load, ShownOnTime}
use Rattle.history.proofs.Addresses.{level_register, event_register}
use Rattle.history.proofs.Cards.{channel_keeps, count_keeps}
use Rattle.history.proofs.Effects.{passed_does}
use Rattle.history.proofs.Writing.{write_by}
use Rattle.history.proofs.Parts.{none_first, write_part, part_keeps}
use Rattle.history.proofs.Tracks.{advanced_four, quiet_tick, trigger_four, trigger_is, struck_settings, before_settings}
use Rattle.history.proofs.Countdowns.{countdowns_set}
use Rattle.history.proofs.Loads.{some_none, some_one, loads_told, advanced_counts, tick_loads, advanced_active, advanced_pending, trigger_loads, trigger_active, trigger_pending}

-- ---- an act

abbrev pub causes : Card → Cause × Cause
causes k = (k.active, k.pending)

word_keeps : (st : State) (a v : ℕ) (y : State) → (a ≡ 0x4202 → ⊥) → Does st a v y → causes y.card ≡ causes st.card
word_keeps st a v y n (Keeps i e) = cc
word_keeps st a v y n (Outputs c h i f e) = cc (channel_keeps st.card c (output_to (channel_of st.card c) v) causes refl)
word_keeps st a v y n (ClearsOverflow c h i e) = cc (channel_keeps st.card c (overflow_cleared (channel_of st.card c)) causes refl)
word_keeps st a v y n (ClearsCount l h i e) = cc (count_keeps st.card l 0 causes refl)
word_keeps st a v y n (Erases i f e) = cc
word_keeps st a v y n (Idles i f e) = cc
word_keeps st a v y n (Triggers i f e) = absurd (n i)

-- a write that is no trigger leaves both
pub write_keeps : (st : State) (start count : ℕ) (ws : List ℕ) → manual_among start (words_done st start count ws) ≡ None
    → causes (write_of st start count ws).state.card ≡ causes st.card
write_keeps =
    write_by (λ st a vs z. manual_among a vs ≡ None → causes z.card ≡ causes st.card) (λ st a q. refl)
    (λ st a v vs z p r q. let y = none_first a v vs q in r y.1 ∙ word_keeps st a v _ y.0 (passed_does st a v p))

-- what is shown just before an act's trigger
before_active : (st : State) (x : Act) → (just_before st x).card.active ≡ cond (loads_before st x) st.card.pending st.card.active
before_active st (Tick waves event) = advanced_active waves st
before_active st _ = refl

module _ (st : State) (x : Act) (level : ℕ) (e : trigger_by st x ≡ Some level) where
  -- an act that is a trigger keeps it, and shows it where some channel loads at once
  kept_pending : (act st x).card.pending ≡ cause level (event_by x)
  kept_pending = cc (trigger_is st x level e, trigger_pending (just_before st x) level (event_by x))

  pub shown_active : (act st x).card.active ≡ cond (loads_at_trigger st x) (cause level (event_by x)) (just_before st x).card.active
  shown_active =
      ap (λ (z : State). z.card.active) (trigger_is st x level e)
      ∙ trigger_active (just_before st x) level (event_by x)
      ∙ rw (before_settings st x, e)

-- the later of two, or the one before it
or_else : (later once : Bool) (t a : Cause) → cond later t (cond once t a) ≡ cond (once || later) t a
or_else true true t a = refl
or_else true false t a = refl
or_else false true t a = refl
or_else false false t a = refl

-- where a later one shows, what was before does not matter
settled : (t p a : Cause) (before once later : Bool)
    → cond (once || later) t (cond (before || once || later) p a) ≡ cond (once || later) t (cond before p a)
settled t p a before true later = refl
settled t p a before false true = refl
settled t p a true false false = refl
settled t p a false false false = refl

-- an act, and whether some channel loads after it
act_shown : (st : State) (x : Act) (later : Bool)
    → cond later (act st x).card.pending (act st x).card.active
    ≡ active_after (trigger_by st x) x (loads_at_trigger st x || later)
    (cond (loads_by st x || later) st.card.pending st.card.active)
unfolding card_reset
act_shown st x later =
    cc (go (trigger_by st x) refl, loads_told st x)
  where
    p : Cause
    p = st.card.pending

    a : Cause
    a = st.card.active

    still : (later : Bool) (y : Card) → causes y ≡ causes st.card → cond later y.pending y.active ≡ cond later p a
    still later y e = ap (λ (t : Cause × Cause). cond later t.1 t.0) e

    quiet : (y : Act) → trigger_by st y ≡ None
        → cond later (act st y).card.pending (act st y).card.active ≡ active_after None y later (cond (loads_before st y || later) p a)
    quiet (Tick waves event) e = rw (quiet_tick waves st event e, advanced_pending waves st, advanced_active waves st) (or_else later (loads_by_counting waves st) p a)
    quiet (Write start count ws) e = still later (act st (Write start count ws)).card (write_keeps st start count ws e)
    quiet (Renew how) e = choose (λ (x : Cause). x ≡ at_reset) later at_reset at_reset refl refl
    quiet _ e = refl

    go : (h : Option ℕ) → trigger_by st x ≡ h
        → cond later (act st x).card.pending (act st x).card.active
        ≡ active_after (trigger_by st x) x (loads_at_trigger st x || later) (cond (loads_before st x || loads_at_trigger st x || later) p a)
    go (Some l) e =
        rw (kept_pending st x l e, shown_active st x l e, before_active st x)
        (cc (or_else later (loads_at_trigger st x) (cause l (event_by x)) (cond (loads_before st x) p a), settled (cause l (event_by x)) p a (loads_before st x) (loads_at_trigger st x) later))
    go None e = quiet x e ∙ rw (e, or-false (loads_before st x))

-- ---- after any history

-- what is shown after acts, of what was shown and pending before them
acts_shown : (st : State) (xs : List Act) → (acts st xs).card.active ≡ last_loaded st xs (cond (loads_in st xs) st.card.pending st.card.active)
acts_shown st [] = refl
acts_shown st (x ∷ xs) = cc (acts_shown (act st x) xs, act_shown st x (loads_in (act st x) xs))

pub reads : (st : State) → active_in st ≡ st.card.active
reads st = rw (level_register, event_register)

-- 0x4210 AND 0x4211 SHOW THE LAST ACCEPTED TRIGGER AFTER WHICH SOME CHANNEL HAS LOADED
pub active_right : ActiveRight
unfolding ActiveRight card_reset
active_right ed s l xs =
    cc (
      reads (acts (fresh_of ed s l) xs),
      acts_shown (fresh_of ed s l) xs,
      choose (λ (x : Cause). x ≡ at_reset) (loads_in (fresh_of ed s l) xs) at_reset at_reset refl refl,
    )

-- ---- a trigger on its way

quiet_last : (st : State) (xs : List Act) → Quiet st xs → (old : Cause) → last_loaded st xs old ≡ old
quiet_last st [] q old = refl
quiet_last st (x ∷ xs) q old = quiet_last (act st x) xs q.1 _ ∙ go x q.0.no_trigger q.0.no_reset
  where
    go : (y : Act) → trigger_by st y ≡ None → is_reset y ≡ false → active_after (trigger_by st y) y (loads_after st y xs) old ≡ old
    go (Tick waves event) e f = rw e
    go (Write start count ws) e f = rw e
    go (Ask what) e f = refl
    go (HandIn to ws) e f = refl
    go (Renew how) e f = absurd cc

module _ (st : State) (x : Act) (level : ℕ) (xs : List Act) (h : LastTrigger st x level xs) where
  abbrev t : Cause
  t = cause level (event_by x)

  -- the trigger where some channel has loaded after it, else what was shown before it
  shown_while : active_in (acts (act st x) xs) ≡ cond (loads_after st x xs) t (active_in (just_before st x))
  shown_while =
      reads (acts (act st x) xs)
      ∙ acts_shown (act st x) xs
      ∙ quiet_last (act st x) xs h.1 _
      ∙ rw (kept_pending st x level h.0, shown_active st x level h.0) (or_else (loads_in (act st x) xs) (loads_at_trigger st x) t (just_before st x).card.active)
      ∙ ap (cond (loads_after st x xs) t) (sym (reads (just_before st x)))

  meanwhile : loads_after st x xs ≡ false → active_in (acts (act st x) xs) ≡ active_in (just_before st x)
  meanwhile e = shown_while ∙ rw e

  -- the state that the next trigger y finds
  abbrev z : State
  z = acts (act st x) xs

  afterwards : loads_after st x xs ≡ false → (y : Act) (l : ℕ) → trigger_by z y ≡ Some l → loads_before z y ≡ false → (ys : List Act)
      → active_in (acts z (y ∷ ys)) ≡ last_loaded z (y ∷ ys) (active_in (just_before st x))
  afterwards e y l f g ys =
      cc (
        reads (acts z (y ∷ ys)),
        acts_shown z (y ∷ ys),
        loads_told z y,
        go (trigger_by z y) f (loads_before z y) g (loads_at_trigger z y) (loads_in (act z y) ys),
        reads z,
        meanwhile e,
      )
    where
      go : (r : Option ℕ) → r ≡ Some l → (before : Bool) → before ≡ false → (once later : Bool)
          → active_after r y (once || later) (cond (before || once || later) z.card.pending z.card.active) ≡ active_after r y (once || later) z.card.active
      go r f before g once later = rw f (settled (cause l (event_by y)) z.card.pending z.card.active before once later ∙ rw g)

-- A TRIGGER THAT IS REPLACED BEFORE ANY CHANNEL LOADS NEVER SHOWS
pub never_shows : NeverShows
never_shows = record { meanwhile = meanwhile; afterwards = afterwards }

-- ---- the tick of the first load

-- every countdown is at least m + 11, and one is that
record First (st : State) (m : ℕ) : Type 0 where
  all : (c : ℕ) → c < 4 → m + 11 ≤ to_start (channel_of st.card c).phase
  one : ℕ
  inside : one < 4
  at : to_start (channel_of st.card one).phase ≡ m + 11

-- a state with the same countdowns
same_first : (x y : State) (m : ℕ) → ((c : ℕ) → c < 4 → to_start (channel_of y.card c).phase ≡ to_start (channel_of x.card c).phase) → First x m → First y m
same_first x y m e f = record { all = λ c h. rw (e c h) (f.all c h); one = f.one; inside = f.inside; at = e f.one f.inside ∙ f.at }

module _ (waves : List ℕ) (st : State) where
  abbrev left : ℕ → ℕ
  left c = to_start (channel_of st.card c).phase

  reached : (c : ℕ) → load_among (in_tick waves st c) ≡ loads_at (left c - 1)
  reached c = tick_loads st.card.edition waves st.settings st.tables c (channel_of st.card c) (channel_of st.card c).phase

  -- the first load comes on the next tick
  next_loads : First st 0 → loads_by_counting waves st ≡ true
  next_loads f = some_one (λ c. load_among (in_tick waves st c)) f.one f.inside (reached f.one ∙ eq-eqb (left f.one - 1) lead (omega (arith, f.at)))

  -- or on a later one
  next_waits : (m : ℕ) → First st (suc m) → loads_by_counting waves st ≡ false
  next_waits m f = some_none (λ c. load_among (in_tick waves st c)) (λ c h. reached c ∙ ne_eqb (left c - 1) lead (λ e. absurd (omega (arith, f.all c h))))

  next_first : (m : ℕ) → First st (suc m) → First (advanced waves st) m
  next_first m f =
      record {
        all = λ c h. omega (arith, advanced_counts waves st c h, f.all c h);
        one = f.one;
        inside = f.inside;
        at = omega (arith, advanced_counts waves st f.one f.inside, f.at);
      }

-- no trigger, no load at it
no_trigger_lem : (st : State) (x : Act) → trigger_by st x ≡ None → loads_at_trigger st x ≡ false
no_trigger_lem st x e = rw e

-- THE FIRST LOAD COMES ON TICK m + 1
first_load_lem : (st : State) (xs : List Act) → length st.card.channels ≡ 4 → Quiet st xs → (m : ℕ) → First st m → loads_in st xs ≡ leb (suc m) (ticks_in xs)
first_load_lem st [] f q m r = sym (leb-suc-zero m)
first_load_lem st (Tick waves event ∷ xs) f q zero r = rw (loads_told st (Tick waves event), next_loads waves st r) (sym (le-leb 1 (suc (ticks_in xs)) (omega arith)))
first_load_lem st (Tick waves event ∷ xs) f q (suc m) r =
    let e = quiet_tick waves st event q.0.no_trigger in
    rw (loads_told st (Tick waves event), next_waits waves st m r, no_trigger_lem st (Tick waves event) q.0.no_trigger)
    (first_load_lem (act st (Tick waves event)) xs (rw e (advanced_four waves st)) q.1 m (rw e (next_first waves st m r))
    ∙ sym (leb-suc-suc (suc m) (ticks_in xs)))
first_load_lem st (Write start count ws ∷ xs) f q m r =
    let e = q.0.no_trigger in
    rw (loads_told st (Write start count ws), no_trigger_lem st (Write start count ws) e)
    (first_load_lem (act st (Write start count ws)) xs (write_part 0 (omega arith) st start count ws f e).settled q.1 m
    (same_first st (act st (Write start count ws)) m (λ c h. ap to_start (part_keeps c st _ (write_part c h st start count ws f e)).phase) r))
first_load_lem st (Renew how ∷ xs) f q m r = absurd cc
first_load_lem st (y ∷ xs) f q m r = first_load_lem st xs f q.1 m r

-- one of the four delays is the shortest
record Shortest (s : List ℕ) (level : ℕ) : Type 0 where
  one : ℕ
  inside : one < 4
  at : word s (delay_at one level) ≡ shortest s level

shortest_one : (s : List ℕ) (level : ℕ) → Shortest s level
shortest_one s level = go (eqb (d 0) m) refl (eqb (d 1) m) refl (eqb (d 2) m) refl
  where
    d : ℕ → ℕ
    d c = word s (delay_at c level)

    m : ℕ
    m = shortest s level

    go : (a : Bool) → eqb (d 0) m ≡ a → (b : Bool) → eqb (d 1) m ≡ b → (c : Bool) → eqb (d 2) m ≡ c → Shortest s level
    go true e b f c g = record { one = 0; inside = omega arith; at = eqb-true (d 0) m e }
    go false e true f c g = record { one = 1; inside = omega arith; at = eqb-true (d 1) m f }
    go false e false f true g = record { one = 2; inside = omega arith; at = eqb-true (d 2) m g }
    go false e false f false g = record { one = 3; inside = omega arith; at = last (eqb-false (d 0) m e) (eqb-false (d 1) m f) (eqb-false (d 2) m g) }
      where
        last : (d 0 ≡ m → ⊥) → (d 1 ≡ m → ⊥) → (d 2 ≡ m → ⊥) → d 3 ≡ m
        last x y z = omega arith

shortest_all : (s : List ℕ) (level c : ℕ) → c < 4 → shortest s level ≤ word s (delay_at c level)
shortest_all s level (suc (suc (suc (suc c)))) h = absurd (omega arith)
shortest_all s level _ h = omega arith

module _ (st : State) (x : Act) (level : ℕ) (xs : List Act) (h : LastTrigger st x level xs) where
  abbrev k : State
  k = act st x

  abbrev m : ℕ
  m = shortest k.settings level

  counts : (c : ℕ) → c < 4 → to_start (channel_of k.card c).phase ≡ countdown k.settings c level
  unfolding CountdownsSet
  counts = countdowns_set st x level h.0

  at_once : (c : ℕ) → load_among (at_trigger st x c) ≡ loads_at (countdown k.settings c level)
  at_once c =
      cc (trigger_loads st.settings c level, struck_settings st x level h.0, before_settings st x)

  -- some delay is 10 or less: the load at the trigger itself
  now : m ≤ 10 → loads_at_trigger st x ≡ true
  now i =
      let y = shortest_one k.settings level in
      some_one (λ c. load_among (at_trigger st x c)) y.one y.inside (at_once y.one ∙ eq-eqb (countdown k.settings y.one level) lead (omega (arith, y.at)))

  -- all are longer: no load then, and the first one on tick m − 10
  not_now : 10 < m → loads_at_trigger st x ≡ false
  not_now i = some_none (λ c. load_among (at_trigger st x c)) (λ c j. at_once c ∙ ne_eqb (countdown k.settings c level) lead (λ e. absurd (omega (arith, shortest_all k.settings level c j))))

  first : 10 < m → First k (m - 11)
  first i =
      let y = shortest_one k.settings level in
      record {
        all = λ c j. omega (arith, counts c j, shortest_all k.settings level c j);
        one = y.one;
        inside = y.inside;
        at = omega (arith, counts y.one y.inside, y.at);
      }

  on_time_lem : loads_after st x xs ≡ leb (first_load k.settings level) (ticks_in xs)
  on_time_lem = go (leb m 10) refl
    where
      four : length k.card.channels ≡ 4
      four = rw (trigger_is st x level h.0) (trigger_four (just_before st x) level (event_by x))

      go : (b : Bool) → leb m 10 ≡ b → loads_after st x xs ≡ leb (m - lead) (ticks_in xs)
      go true e = let i = leb-true m 10 e in rw (now i) (sym (le-leb (m - lead) (ticks_in xs) (omega arith)))
      go false e =
          let i = leb-false m 10 e in
          let d : suc (m - 11) ≡ m - lead = omega arith in
          rw (not_now i) (cc (first_load_lem k xs four h.1 (m - 11) (first i)))

-- ANY OTHER SHOWS ON THE TICK OF ITS FIRST LOAD
pub shown_on_time : ShownOnTime
shown_on_time =
    record {
      loads = on_time_lem;
      shows = λ st x level xs h. cc (shown_while st x level xs h, on_time_lem st x level xs h);
    }
