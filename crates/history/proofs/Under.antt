-- A channel from a load under settings that pass to the next: it holds the copy, and its ramp stands at one of the samples that the check speaks
-- of, or it has none to give (`Under`). A tick gives no sum out of range then (`tick_told`, `tick_counted`). Assumes nothing.
use mathlib.Core.Path.{◌≡◌, refl, ap, ◌∙◌}
use mathlib.Core.Bool.{Bool, true, false, cond}
use mathlib.Core.Logic.{inl}
use mathlib.Core.List.{List}
use Prim.Native.Nat.{ℕ, ◌+◌, ◌*◌, ◌-◌, ◌≤◌, ◌<◌}
use native.Mathlib.Omega.{arith}
use native.Mathlib.Nat.{le-max_left}
use lib.Dec.{ltb, eqb}
use lib.ListN.{length}
use borrow.Author.Tests.{ne_eqb, eqb-true, eqb-false, ltb-true, ltb-false}
use Rattle.std.proofs.lemmas.Bool.{and_parts}
use Rattle.sum.specs.declared.Edition.{Edition}
use Rattle.map.specs.Addresses.{delay_at, enable_at}
use Rattle.word.specs.Word.{lasting}
use Rattle.word.specs.declared.Micros.{Micros}
use Rattle.channel.specs.declared.Place.{Place}
use Rattle.channel.specs.declared.Way.{Way}
use Rattle.channel.specs.declared.Signal.{Signal}
use Rattle.channel.specs.declared.Loaded.{Loaded}
use Rattle.channel.specs.declared.Moved.{Moved}
use Rattle.channel.specs.declared.Ramp.{Ramp}
use Rattle.channel.specs.declared.Ramp.TheVariants.{Still, Going, Free}
use Rattle.channel.specs.declared.Phase.{Phase}
use Rattle.channel.specs.declared.Phase.TheVariants.{Rest, Counting, Running, FreeRunning}
use Rattle.channel.specs.declared.Channel.{Channel}
use Rattle.channel.specs.Ramp.{enter, next, sample_at, way, ended, onward, given, advance}
use Rattle.channel.specs.Signal.{overflows}
use Rattle.channel.specs.Channel.{Side, Move, side, move, quiet, counting, word, with, with_signal, first_of, lead, loads_at, to_start, ramp_of, phase_of, load, start, count_to, move_at, move_of, tick_of, loaded_for, countdown, triggered}
use Rattle.course.specs.Points.{SameTable}
use Rattle.course.specs.Follows.{table_for, total_for, place_for, sine_for, free_for}
use Rattle.course.specs.Course as C
use Rattle.course.proofs.Copies.{choose}
use Rattle.course.proofs.Acts.{untimed_table, untimed_ramp}
use Rattle.course.proofs.Tables.{same_enter, same_next, same_sample}
use Rattle.course.proofs.Walk.{placed, place_first, place_step, place_more, place_last}
use Rattle.course.proofs.Moves.{tick_load}
use Rattle.course.proofs.Course.{Held, loads}
use Rattle.profile.specs.Laws.{InRange}
use Rattle.history.specs.Story.{by_tick}
use Rattle.history.specs.InRange.{out_before_load}
use Rattle.history.proofs.Channels.{ramp_phase}
use Rattle.history.proofs.Loads.{tick_loads}
use Rattle.history.proofs.Named.{counting_load}
use Rattle.history.proofs.Gives.{GaveIn, move_tells, in_told, made_in, made_told, Counted}

-- ---- a load, by counting

pub counts_load : (ed : Edition) (z w l : List ℕ) (c : ℕ) (ch : Channel) → loads_at (to_start ch.phase - 1) ≡ true → tick_of ed z w l c ch ≡ load z l c ch ch.level
counts_load ed z w l c ch = go ch.phase refl
  where
    go : (p : Phase) → ch.phase ≡ p → loads_at (to_start p - 1) ≡ true → tick_of ed z w l c ch ≡ load z l c ch ch.level
    go (Counting n older) e q = let d = eqb-true (n.0 - 1) lead q in tick_load ed z l c ch w n.0 older e (omega arith)
    go Rest e q = absurd cc
    go (Running r) e q = absurd cc
    go (FreeRunning r) e q = absurd cc

-- what is told of it is no sample
load_told : (ed : Edition) (w z l : List ℕ) (c : ℕ) (ch : Channel) → loads_at (to_start ch.phase - 1) ≡ true → out_before_load (by_tick ed w z l c ch) ≡ false
load_told ed w z l c ch q =
    rw (counting_load ed w z l c ch ch.phase (tick_loads ed w z l c ch ch.phase ∙ q))

-- a countdown that is set and does not load stands above 10
not_load : (z : List ℕ) (c level : ℕ) → loads_at (countdown z c level) ≡ false → lead < countdown z c level
not_load z c level l = let d = eqb-false (countdown z c level) lead l in omega (arith, le-max_left lead (word z (delay_at c level)))

-- ---- one channel, from a load for level v under the settings s to the next

module _ (s : List ℕ) (c v : ℕ) where
  abbrev pub T : ℕ
  T = total_for s c v

  abbrev pub spot : ℕ → Place
  spot k = place_for s c v k

  -- the channel holds the copy
  abbrev pub Holds : Side → Type 0
  Holds x = Held c v s x

  -- a sample before the last
  pub record BeforeLast (p : Place) : Type 0 where
    pub number : ℕ
    pub before : number < T
    pub here : p ≡ spot number

  abbrev pub Ours : Ramp → Type 0
  Ours Still = Unit
  Ours (Going r) = BeforeLast r.place
  Ours (Free r) = free_for s c v ≡ true

  -- the ramp, if any, is that of the copy; after a reset there is none, and none can start before the next load
  pub data Under (x : Side) : Type 0 where
    holding : Holds x → Ours (ramp_of x.channel.phase) → Under x
    resting : x.channel.phase ≡ Rest → Under x
    waiting : (n : Micros) → x.channel.phase ≡ Counting n Still → lead < n.0 → Under x

  -- ---- what is no tick

  -- phase, copy and words decide
  kept_under : (x y : Side) → y.channel.phase ≡ x.channel.phase → y.channel.loaded ≡ x.channel.loaded
      → SameTable y.tables (first_of c) x.tables (first_of c) → Under x → Under y
  kept_under x y e f g (holding h o) = holding (record { loaded = cc; table = λ i k. g i k ∙ h.table i k }) (rw e o)
  kept_under x y e f g (resting d) = resting cc
  kept_under x y e f g (waiting n d l) = waiting n (cc) l

  pub untimed_under : (ed : Edition) (x : Side) (ys : List C.Act) → C.ticks_in ys ≡ 0 → 128 * c + 128 ≤ length x.tables → Under x → Under (C.run ed c x ys)
  untimed_under ed x ys e h u = let r = untimed_ramp ed c x ys e in kept_under x (C.run ed c x ys) r.0 r.1 (untimed_table ed c x ys e h) u

  -- a trigger that does not load
  pub triggered_under : (z : List ℕ) (x : Side) (level : ℕ) → loads_at (countdown z c level) ≡ false → Under x → Under (triggered z x.tables c x.channel level)
  unfolding triggered
  triggered_under z x level l u = rw l (go u)
    where
      far : lead < countdown z c level
      far = not_load z c level l

      waits : ramp_of x.channel.phase ≡ Still → Under (side (counting x.channel level (countdown z c level)) x.tables)
      waits e = waiting (record { 0 = countdown z c level }) (cc) far

      go : Under x → Under (side (counting x.channel level (countdown z c level)) x.tables)
      go (holding h o) = holding (record { loaded = h.loaded; table = h.table }) o
      go (resting d) = waits (ap ramp_of d)
      go (waiting n d g) = waits (ap ramp_of d)

  -- the load
  pub load_under : (x : Side) → 128 * c + 128 ≤ length x.tables → Under (load s x.tables c x.channel v)
  unfolding load
  load_under x r = holding (loads c v s x r) tt

  -- ---- the samples of a card of an edition, all of them in range

  module _ (ed : Edition) (fits : InRange ed s c v) where
    sum_in : (x : Side) → Holds x → (k : ℕ) → k ≤ T → overflows (sample_at ed x.tables (first_of c) x.channel.loaded (spot k)) ≡ false
    sum_in x h k g =
        rw h.loaded (ap overflows (same_sample x.tables (first_of c) s (table_for s c v) h.table ed (loaded_for s c v) (spot k) (placed s (table_for s c v) k)) ∙ fits k g)

    record Steps (ld : Loaded) (m : Moved) : Type 0 where
      ours : Ours m.ramp
      gave : GaveIn ld.tone m.gave

    -- the ramp once sample k is given
    onward_ours : (ld : Loaded) (period k : ℕ) → ld ≡ loaded_for s c v → k ≤ T → Ours (onward ld period (spot k))
    unfolding ended
    onward_ours ld period k e h = go (eqb (spot k).left.0 0) refl
      where
        free : (r : Way) (b : Bool) → free_for s c v ≡ b → Ours (cond b (Free r) Still)
        free r true q = q
        free r false q = tt

        less : (b : Bool) → ltb k T ≡ b → eqb (spot k).left.0 0 ≡ false → k < T
        less true r q = ltb-true k T r
        less false r q = absurd (eqb-false (spot k).left.0 0 q (place_last s (table_for s c v) k (omega (arith, ltb-false))))

        go : (b : Bool) → eqb (spot k).left.0 0 ≡ b → Ours (cond b (ended ld period (spot k)) (Going (way (spot k) period period)))
        go true q = rw e (free _ (free_for s c v) refl)
        go false q = record { number = k; before = less (ltb k T) refl q; here = refl }

    sample_steps : (x : Side) → Holds x → (isFirst : Bool) (period k : ℕ) → k ≤ T → (p : Place) → p ≡ spot k
        → Steps x.channel.loaded (given ed isFirst x.tables (first_of c) x.channel.loaded period p x.channel.shown)
    unfolding given
    sample_steps x h isFirst period k g p e = rw e (record { ours = onward_ours x.channel.loaded period k h.loaded g; gave = sum_in x h k g })

    next_spot : (x : Side) → Holds x → (k : ℕ) → k < T → next x.tables (first_of c) (spot k) ≡ spot (k + 1)
    next_spot x h k g =
        same_next x.tables (first_of c) s (table_for s c v) h.table (spot k) ((placed s (table_for s c v) k).inner (place_more s (table_for s c v) k g))
        ∙ place_step s (table_for s c v) k g

    first_spot : (x : Side) → Holds x → enter x.tables (first_of c) 0 ≡ spot 0
    first_spot x h = same_enter x.tables (first_of c) s (table_for s c v) h.table 0 (omega arith) ∙ place_first s (table_for s c v)

    ramp_steps_lem : (x : Side) → Holds x → (r : Ramp) → Ours r → Steps x.channel.loaded (advance ed x.tables (first_of c) x.channel.loaded r x.channel.shown)
    unfolding advance
    ramp_steps_lem x h Still o = record { ours = tt; gave = tt }
    ramp_steps_lem x h (Going r) o =
        choose (Steps x.channel.loaded) (ltb 1 r.wait.0) _ _ (record { ours = o; gave = tt })
        (sample_steps x h false r.period.0 (o.number + 1) (omega (arith, o.before)) _
        (cc (next_spot x h o.number o.before)))
    ramp_steps_lem x h (Free r) o =
        choose (Steps x.channel.loaded) (ltb 1 r.wait.0) _ _ (record { ours = o; gave = tt })
        (record { ours = o; gave = rw h.loaded (and_parts (sine_for s c v) _ o).0 })

    -- ---- a tick's first pass

    record Safe (ch : Channel) (m : Move) : Type 0 where
      under : Under (side m.channel m.tables)
      gave : GaveIn ch.loaded.tone m.gave
      loaded : m.channel.loaded ≡ ch.loaded
      signal : m.channel.signal ≡ ch.signal

    -- the ramp moves on, in a phase that it runs in
    step_safe : (x : Side) → Holds x → (f : Ramp → Phase) → ((r : Ramp) → ramp_of (f r) ≡ r) → (m : Moved) → Steps x.channel.loaded m
        → Safe x.channel (move (with x.channel (f m.ramp) m.shown) x.tables m.gave)
    step_safe x h f e m y =
        record {
          under = holding (record { loaded = h.loaded; table = h.table }) (rw (e m.ramp) y.ours);
          gave = y.gave;
          loaded = refl;
          signal = refl;
        }

    start_safe : (z : List ℕ) (x : Side) → Holds x → Safe x.channel (start ed z x.tables c x.channel)
    unfolding start
    start_safe z x h =
        choose (Safe x.channel) (eqb (word z (enable_at c)) 1) _ _
        (step_safe x h phase_of ramp_phase _ (sample_steps x h true (lasting 1) 0 (omega arith) _ (first_spot x h)))
        (record { under = holding (record { loaded = h.loaded; table = h.table }) tt; gave = tt; loaded = refl; signal = refl })

    -- no load is reached
    move_safe : (z : List ℕ) (x : Side) → Under x → (p : Phase) → x.channel.phase ≡ p → loads_at (to_start p - 1) ≡ false
        → Safe x.channel (move_at ed p z x.tables c x.channel)
    unfolding move_at count_to advance
    move_safe z x (holding h o) Rest e l = record { under = holding (record { loaded = h.loaded; table = h.table }) o; gave = tt; loaded = refl; signal = refl }
    move_safe z x (holding h o) (Counting n older) e l = go (eqb (n.0 - 1) 0)
      where
        m : Moved
        m = advance ed x.tables (first_of c) x.channel.loaded older x.channel.shown

        go : (b : Bool) → Safe x.channel (cond b (start ed z x.tables c x.channel)
            (cond (loads_at (n.0 - 1)) (quiet (load z x.tables c x.channel x.channel.level))
            (move (with x.channel (Counting (record { 0 = n.0 - 1 }) m.ramp) m.shown) x.tables m.gave)))
        go true = start_safe z x h
        go false = rw l (step_safe x h (Counting (record { 0 = n.0 - 1 })) (λ r. refl) m (ramp_steps_lem x h older (rw e at o)))
    move_safe z x (holding h o) (Running r) e l = step_safe x h phase_of ramp_phase _ (ramp_steps_lem x h (Going r) (rw e at o))
    move_safe z x (holding h o) (FreeRunning r) e l = step_safe x h phase_of ramp_phase _ (ramp_steps_lem x h (Free r) (rw e at o))
    move_safe z x (resting d) p e l =
        let f : p ≡ Rest = cc in
        rw f (record { under = resting d; gave = tt; loaded = refl; signal = refl })
    move_safe z x (waiting n d g) p e l =
        let f : p ≡ Counting n Still = cc in
        let k : loads_at (n.0 - 1) ≡ false = rw f at l in
        let q = eqb-false (n.0 - 1) lead k in
        rw (f, ne_eqb (n.0 - 1) 0 (λ b. absurd (omega arith)), k)
        (record { under = waiting (record { 0 = n.0 - 1 }) refl (omega arith); gave = tt; loaded = refl; signal = refl })

    -- ---- the whole tick

    -- what the second pass makes is no part of it
    sounded_under : (ch : Channel) (l : List ℕ) (g : Signal) → Under (side ch l) → Under (side (with_signal ch g) l)
    sounded_under ch l g u = kept_under (side ch l) (side (with_signal ch g) l) refl refl (λ i h. refl) u

    module _ (z w : List ℕ) (x : Side) (u : Under x) where
      safe : loads_at (to_start x.channel.phase - 1) ≡ false → Safe x.channel (move_of ed z x.tables c x.channel)
      safe none = move_safe z x u x.channel.phase refl none

      pub tick_under : loads_at (to_start x.channel.phase - 1) ≡ false → Under (tick_of ed z w x.tables c x.channel)
      unfolding tick_of
      tick_under none = sounded_under _ _ _ (safe none).under

      -- with a load or without
      pub tick_told : out_before_load (by_tick ed w z x.tables c x.channel) ≡ false
      tick_told = go (loads_at (to_start x.channel.phase - 1)) refl
        where
          go : (b : Bool) → loads_at (to_start x.channel.phase - 1) ≡ b → out_before_load (by_tick ed w z x.tables c x.channel) ≡ false
          go true q = load_told ed w z x.tables c x.channel q
          go false q = in_told x.channel.loaded.tone _ _ (move_tells ed w z x.tables c x.channel x.channel.phase) (safe q).gave

      pub tick_counted : Counted c w (by_tick ed w z x.tables c x.channel) x.channel (tick_of ed z w x.tables c x.channel).channel
      unfolding tick_of load
      tick_counted = go (loads_at (to_start x.channel.phase - 1)) refl
        where
          go : (b : Bool) → loads_at (to_start x.channel.phase - 1) ≡ b
              → Counted c w (by_tick ed w z x.tables c x.channel) x.channel (tick_of ed z w x.tables c x.channel).channel
          go true q = inl (ap (λ (y : Side). y.channel.signal.overflow) (counts_load ed z w x.tables c x.channel q))
          go false q =
              rw ((safe q).loaded, (safe q).signal)
              (made_told c w _ _ (move_tells ed w z x.tables c x.channel x.channel.phase) x.channel.loaded.tone _ x.channel.signal _
              (made_in c w _ x.channel.loaded.tone (safe q).gave _ x.channel.signal))
