-- Only a fresh card has an edition of its own: a tick changes none, a word done does not, and a reset keeps it (`edition_kept`). Assumes nothing.
use Rattle.std.specs.Prelude.{Option, Some, None}
use mathlib.Core.Path.{◌≡◌, refl, ◌∙◌}
use mathlib.Core.Bool.{false}
use mathlib.Core.List.{List, [], ◌∷◌}
use Prim.Native.Nat.{ℕ, zero, suc}
use Rattle.map.specs.Map.{register_of}
use Rattle.channel.specs.declared.Channel.{Channel}
use Rattle.card.specs.declared.Card.{Card}
use Rattle.card.specs.Card.{State, with_channel, with_channels, with_count}
use Rattle.card.specs.Trigger.{struck, trigger_of, accepted_of, on_event}
use Rattle.card.specs.Tick.{advanced, tick_with, ticks}
use Rattle.card.specs.Reset.{card_reset}
use Rattle.transfer.specs.declared.Effect.{Effect}
use Rattle.transfer.specs.declared.Effect.TheVariants.{Output, ClearOverflow, ClearCount, Trigger}
use Rattle.transfer.specs.Word.{effect_of, perform_of}
use Rattle.transfer.specs.Transfer.{write_of}
use Rattle.history.specs.History.{Act, Tick, Write, Ask, HandIn, Renew, act, acts, is_reset, Quiet}
use Rattle.history.specs.Editions.{edition_after, last_chosen, EditionKept}
use Rattle.history.proofs.Cards.{channel_keeps, count_keeps}
use Rattle.history.proofs.Writing.{write_by}

channel_edition : (k : Card) (c : ℕ) (ch : Channel) → (with_channel k c ch).edition ≡ k.edition
channel_edition k c ch = channel_keeps k c ch (λ (x : Card). x.edition) refl

count_edition : (k : Card) (level n : ℕ) → (with_count k level n).edition ≡ k.edition
count_edition k level n = count_keeps k level n (λ (x : Card). x.edition) refl

-- ---- ticks

trigger_edition : (st : State) (level event : ℕ) → (trigger_of st level event).card.edition ≡ st.card.edition
unfolding trigger_of
trigger_edition st level event = count_edition (with_channels st.card (struck st level).channels) level _

pub advanced_edition : (w : List ℕ) (st : State) → (advanced w st).card.edition ≡ st.card.edition
unfolding advanced
advanced_edition w st = refl

pub tick_edition : (w : List ℕ) (st : State) (event : ℕ) → (tick_with w st event).card.edition ≡ st.card.edition
tick_edition w st event = go (accepted_of (advanced w st).settings event)
  where
    go : (h : Option ℕ) → (on_event h (advanced w st) event).card.edition ≡ st.card.edition
    go (Some level) = trigger_edition (advanced w st) level event ∙ advanced_edition w st
    go None = advanced_edition w st

pub ticks_edition : (w : List ℕ) (n : ℕ) (st : State) → (ticks w n st).card.edition ≡ st.card.edition
unfolding ticks
ticks_edition w zero st = refl
ticks_edition w (suc n) st = ticks_edition w n (advanced w st) ∙ advanced_edition w st

-- ---- words done

done_edition : (st : State) (a : ℕ) (e : Effect) → (perform_of st a e).card.edition ≡ st.card.edition
done_edition st a (Output c v) = channel_edition st.card c _
done_edition st a (ClearOverflow c) = channel_edition st.card c _
done_edition st a (ClearCount level) = count_edition st.card level 0
done_edition st a (Trigger level) = trigger_edition st level 0xFE
done_edition st a _ = refl

pub write_edition : (st : State) (start count : ℕ) (ws : List ℕ) → (write_of st start count ws).state.card.edition ≡ st.card.edition
write_edition = write_by (λ st a vs z. z.card.edition ≡ st.card.edition) (λ st a. refl) (λ st a v vs z p e. e ∙ done_edition st a (effect_of (register_of a) v))

-- ---- acts

pub act_edition : (st : State) (x : Act) → (act st x).card.edition ≡ edition_after x st.card.edition
unfolding card_reset
act_edition st (Tick waves event) = tick_edition waves st event
act_edition st (Write start count ws) = write_edition st start count ws
act_edition st _ = refl

acts_edition : (st : State) (xs : List Act) → (acts st xs).card.edition ≡ last_chosen xs st.card.edition
acts_edition st [] = refl
acts_edition st (x ∷ xs) = cc (acts_edition (act st x) xs, act_edition st x)

-- with no reset and no fresh card among them it stays
pub quiet_edition : (st : State) (xs : List Act) → Quiet st xs → (acts st xs).card.edition ≡ st.card.edition
quiet_edition st [] q = refl
quiet_edition st (x ∷ xs) q = quiet_edition (act st x) xs q.1 ∙ act_edition st x ∙ go x q.0.no_reset
  where
    go : (y : Act) → is_reset y ≡ false → edition_after y st.card.edition ≡ st.card.edition
    go (Tick waves event) e = refl
    go (Write start count ws) e = refl
    go (Ask what) e = refl
    go (HandIn to ws) e = refl
    go (Renew how) e = absurd cc

-- CHOSEN WITH THE FRESH CARD, THE EDITION STAYS
pub edition_kept : EditionKept
edition_kept = record { kept = acts_edition; fresh = λ st ed. refl; reset = λ st. refl }
