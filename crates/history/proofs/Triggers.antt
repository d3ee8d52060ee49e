-- The triggers of a history are those of the paper's rule (`trigger_rule`), and the image shows who holds an event (`image_right`). Assumes
-- nothing.
use Rattle.std.specs.Prelude.{Some, None}
use mathlib.Core.Path.{◌≡◌, refl, ap, ◌∙◌}
use mathlib.Core.Bool.{Bool, true, false, cond}
use mathlib.Core.List.{List, [], ◌∷◌}
use Prim.Native.Nat.{ℕ, zero, suc, ◌+◌, ◌<◌}
use native.Mathlib.Omega.{arith}
use lib.Dec.{eqb}
use lib.ListN.{length, get_or}
use borrow.Author.Tests.{eq-eqb, ne_eqb, eqb-true, eqb-false}
use Rattle.slots.specs.Slots.{level_of, holder_of, image_at}
use Rattle.slots.proofs.Holders.{level_held, nobody_if, holder_level}
use Rattle.channel.specs.Channel.{word}
use Rattle.card.specs.Card.{State}
use Rattle.card.specs.Trigger.{accepted_of}
use Rattle.history.specs.History.{Act, Tick, Write, read_back, words_done, manual_among, trigger_by}
use Rattle.history.specs.Sound.{Sound}
use Rattle.history.specs.Triggers.{Holds, ByClock, ByHand, Accepted, TriggerRule, ImageRight}
use Rattle.history.proofs.Addresses.{clock_register, image_register}

-- ---- the rule of clock events

reads_enable : (st : State) → read_back st 0x4200 ≡ word st.settings 0x4200
reads_enable st = rw clock_register

clock_accepted : (st : State) → Sound st → (event level : ℕ) → ByClock st event level → accepted_of st.settings event ≡ Some level
unfolding accepted_of
clock_accepted st h event level b =
    let e = eq-eqb (word st.settings 0x4200) 1 (cc (reads_enable st)) in
    rw (ne_eqb event 0xFE b.real, e)
    (cc (holder_level st.settings h.settings.one event b.held.slot b.real b.held.inside b.held.holds))

clock_only : (st : State) (event level : ℕ) → accepted_of st.settings event ≡ Some level → ByClock st event level
unfolding accepted_of
clock_only st event level = go (eqb event 0xFE) refl (eqb (word st.settings 0x4200) 1) refl
  where
    go : (a : Bool) → eqb event 0xFE ≡ a → (b : Bool) → eqb (word st.settings 0x4200) 1 ≡ b
        → cond a None (cond b (holder_of st.settings event) None) ≡ Some level → ByClock st event level
    go false e true f g =
        let y = level_held st.settings event 32 level g in
        record {
          real = eqb-false event 0xFE e;
          enabled = reads_enable st ∙ eqb-true (word st.settings 0x4200) 1 f;
          held = record { slot = y.slot; inside = y.inside; of = y.level; holds = y.stored };
        }
    go true e b f g = absurd cc
    go false e false f g = absurd cc

-- ---- the rule of words done at 0x4202

hand_accepted : (a : ℕ) (vs : List ℕ) (level n : ℕ) → n < length vs → a + n ≡ 0x4202 → get_or vs n 0 ≡ level → manual_among a vs ≡ Some level
hand_accepted a [] level n h e f = absurd (omega arith)
hand_accepted a (v ∷ vs) level zero h e f = rw (eq-eqb a 0x4202 (omega arith)) (ap Some f)
hand_accepted a (v ∷ vs) level (suc n) h e f = rw (ne_eqb a 0x4202 (λ d. absurd (omega arith))) (hand_accepted (a + 1) vs level n (omega arith) (omega arith) f)

hand_only : (a : ℕ) (vs : List ℕ) (level : ℕ) → manual_among a vs ≡ Some level → ByHand a vs level
hand_only a [] level e = absurd cc
hand_only a (v ∷ vs) level e = go (eqb a 0x4202) refl e (hand_only (a + 1) vs level)
  where
    later : ByHand (a + 1) vs level → ByHand a (v ∷ vs) level
    later y = record { place = suc y.place; inside = omega (arith, y.inside); address = omega (arith, y.address); word = y.word }

    go : (b : Bool) → eqb a 0x4202 ≡ b → cond b (Some v) (manual_among (a + 1) vs) ≡ Some level
        → (manual_among (a + 1) vs ≡ Some level → ByHand (a + 1) vs level) → ByHand a (v ∷ vs) level
    go true d f r = record { place = 0; inside = omega arith; address = omega (arith, eqb-true a 0x4202 d); word = cc }
    go false d f r = later (r f)

accepted : (st : State) → Sound st → (x : Act) (level : ℕ) → Accepted st x level → trigger_by st x ≡ Some level
accepted st h (Tick waves event) level b = clock_accepted st h event level b
accepted st h (Write start count ws) level b = hand_accepted start (words_done st start count ws) level b.place b.inside b.address b.word
accepted st h _ level b = elim b [ ]

only : (st : State) (x : Act) (level : ℕ) → trigger_by st x ≡ Some level → Accepted st x level
only st (Tick waves event) level e = clock_only st event level e
only st (Write start count ws) level e = hand_only start (words_done st start count ws) level e
only st _ level e = absurd cc

-- THE TRIGGERS OF A HISTORY ARE THOSE OF THE RULE
pub trigger_rule : TriggerRule
trigger_rule = record { accepted = accepted; only = only }

-- ---- the event image

-- THE IMAGE SHOWS WHO HOLDS AN EVENT
pub image_right : ImageRight
unfolding ImageRight
image_right st h event i =
    record {
      held = λ level n y. rw (image_register event i, ne_eqb event 0xFE n) (cc (holder_level st.settings h.settings.one event y.slot n y.inside y.holds));
      null = λ e. rw (image_register event i, eq-eqb event 0xFE e);
      free = λ n. rw (image_register event i) (go (eqb event 0xFE) (none n));
    }
  where
    none : ((level : ℕ) → Holds st.settings level event → ⊥) → holder_of st.settings event ≡ None
    none n = nobody_if st.settings event 32 (λ s f g. absurd (n (level_of s) (record { slot = s; inside = f; of = refl; holds = g })))

    go : (b : Bool) → holder_of st.settings event ≡ None → cond b 0 (image_at (holder_of st.settings event)) ≡ 0
    go true e = refl
    go false e = rw e
