-- Ticks add up, and no tick touches a setting. Assumes nothing.
use Rattle.std.specs.Prelude.{Option, Some, None}
use mathlib.Core.Path.{◌≡◌, refl, ap, ◌∙◌}
use mathlib.Core.List.{List}
use Prim.Native.Nat.{ℕ, zero, suc, ◌+◌, ◌-◌, ◌≤◌, ◌<◌}
use native.Mathlib.Nat.{zero-add, suc-add}
use native.Mathlib.Omega.{arith}
use Rattle.card.specs.declared.Card.{Card}
use Rattle.card.specs.Card.{State, state}
use Rattle.card.specs.Trigger.{trigger_of, accepted_of, on_event}
use Rattle.card.specs.Tick.{advanced, tick_with, ticks}

-- TICKS (a + b) IS TICKS b AFTER TICKS a
pub ticks_add : (w : List ℕ) (a b : ℕ) (st : State) → ticks w (a + b) st ≡ ticks w b (ticks w a st)
unfolding ticks
ticks_add w zero b st = ap (λ (n : ℕ). ticks w n st) (zero-add b)
ticks_add w (suc a) b st = ap (λ (n : ℕ). ticks w n st) (suc-add a b) ∙ ticks_add w a b (advanced w st)

-- ---- no tick and no trigger touches a setting

pub advanced_settings : (w : List ℕ) (st : State) → (advanced w st).settings ≡ st.settings
unfolding advanced
advanced_settings w st = refl

pub trigger_settings : (st : State) (level event : ℕ) → (trigger_of st level event).settings ≡ st.settings
unfolding trigger_of
trigger_settings st level event = refl

-- A TICK TOUCHES NO SETTING, WHATEVER ITS EVENT
pub tick_settings : (w : List ℕ) (st : State) (event : ℕ) → (tick_with w st event).settings ≡ st.settings
unfolding advanced
tick_settings w st event = go (accepted_of st.settings event)
  where
    go : (h : Option ℕ) → (on_event h (advanced w st) event).settings ≡ st.settings
    go (Some level) = trigger_settings (advanced w st) level event
    go None = refl

-- NOR DO N TICKS
pub ticks_settings : (w : List ℕ) (n : ℕ) (st : State) → (ticks w n st).settings ≡ st.settings
unfolding ticks advanced
ticks_settings w zero st = refl
ticks_settings w (suc n) st = ticks_settings w n (advanced w st)

-- a tick with the null event is a tick without one
pub no_event : (w : List ℕ) (st : State) → tick_with w st 0xFE ≡ advanced w st
unfolding accepted_of
no_event w st = refl

-- a state whose parts are those of another over the same settings
pub same_state : {k : Card} {s l : List ℕ} (st : State) → k ≡ st.card → l ≡ st.tables → s ≡ st.settings → state k s l ≡ st
same_state {k} {s} {l} st p q r =
    ap (λ (x : Card). state x s l) p ∙ ap (λ (x : List ℕ). state st.card s x) q ∙ ap (λ (x : List ℕ). state st.card x st.tables) r

-- one of n ticks, of which i are done
pub one_more : (w : List ℕ) (n i : ℕ) (st : State) → i < n → ticks w (n - i) st ≡ ticks w (n - (i + 1)) (advanced w st)
unfolding ticks
one_more w n i st h = let e : n - i ≡ suc (n - (i + 1)) = omega arith in ap (λ (m : ℕ). ticks w m st) e

-- all done
pub all_done : (w : List ℕ) (n i : ℕ) (st : State) → i ≤ n → n ≤ i → st ≡ ticks w (n - i) st
unfolding ticks
all_done w n i st g h = let e : 0 ≡ n - i = omega arith in ap (λ (m : ℕ). ticks w m st) e
