-- A write in channel c's block touches that channel alone (`frame`), and a write anywhere keeps the lengths (`lengths_kept`): each word
-- does so by its register, and so the whole write. A read has no state in its answer, so it changes the lent words only. Assumes nothing.
use mathlib.Core.Path.{◌≡◌, refl, ◌∙◌}
use mathlib.Core.List.{List}
use Prim.Native.Nat.{ℕ, ◌≤◌}
use native.Mathlib.Omega.{arith}
use lib.ListN.{set, length-set}
use lib.Seq.{get_or-set_other}
use Rattle.map.specs.declared.Register.{Register}
use Rattle.map.specs.declared.Register.TheVariants as R
use Rattle.map.specs.Map.{register_of}
use Rattle.slots.proofs.Fills.{erased_length}
use Rattle.channel.specs.declared.Channel.{Channel}
use Rattle.channel.specs.Channel.{word, output_to, overflow_cleared}
use Rattle.card.specs.declared.Card.{Card}
use Rattle.card.specs.Card.{State, state, channel_of, with_channel, on_all}
use Rattle.card.specs.Trigger.{trigger_of}
use Rattle.transfer.specs.declared.Effect.{Effect}
use Rattle.transfer.specs.declared.Effect.TheVariants.{Keep, Erase, Trigger}
use Rattle.transfer.specs.Word.{effect_of, perform_of}
use Rattle.course.proofs.Copies.{trigger_length}
use Rattle.history.specs.Frame.{InBlock, But, Frame, SameLengths, LengthsKept}
use Rattle.history.proofs.Registers.{Own, own, region_ends}
use Rattle.history.proofs.Cards.{channel_other, channel_either, channel_keeps}
use Rattle.history.proofs.Writing.{write_within, write_by}

-- ---- one word

-- other settings of the block alone
but_settings : (c : ℕ) (x : State) (s : List ℕ) → ((a : ℕ) → (InBlock c a → ⊥) → word s a ≡ word x.settings a) → But c x (state x.card s x.tables)
but_settings c x s h =
    record {
      others = λ j d. refl;
      phase = refl;
      level = refl;
      loaded = refl;
      place = refl;
      counter = refl;
      counts = refl;
      active = refl;
      pending = refl;
      tables = refl;
      settings = h;
    }

pub but_none : (c : ℕ) (x : State) → But c x x
but_none c x = but_settings c x x.settings (λ a d. refl)

pub but_then : (c : ℕ) (x y z : State) → But c x y → But c y z → But c x z
but_then c x y z p q =
    record {
      others = λ j d. q.others j d ∙ p.others j d;
      phase = cc;
      level = cc;
      loaded = cc;
      place = cc;
      counter = cc;
      counts = cc;
      active = cc;
      pending = cc;
      tables = cc;
      settings = λ a d. q.settings a d ∙ p.settings a d;
    }

module _ (c : ℕ) (x : State) where
  but_kept : (a v : ℕ) → InBlock c a → But c x (perform_of x a (Keep v))
  but_kept a v i = but_settings c x (set x.settings a v) (λ b d. get_or-set_other x.settings a b v 0 (λ e. d (rw e i)))

  -- the channel's output, its amplitude and its overflow count
  but_shown : (ch : Channel) → ch.phase ≡ (channel_of x.card c).phase → ch.level ≡ (channel_of x.card c).level → ch.loaded ≡ (channel_of x.card c).loaded
      → ch.shown.place ≡ (channel_of x.card c).shown.place → ch.signal.counter ≡ (channel_of x.card c).signal.counter
      → But c x (state (with_channel x.card c ch) x.settings x.tables)
  but_shown ch p q r u n =
      record {
        others = λ j d. channel_other x.card c ch j d;
        phase = channel_either x.card c ch (λ y. y.phase ≡ (channel_of x.card c).phase) p refl;
        level = channel_either x.card c ch (λ y. y.level ≡ (channel_of x.card c).level) q refl;
        loaded = channel_either x.card c ch (λ y. y.loaded ≡ (channel_of x.card c).loaded) r refl;
        place = channel_either x.card c ch (λ y. y.shown.place ≡ (channel_of x.card c).shown.place) u refl;
        counter = channel_either x.card c ch (λ y. y.signal.counter ≡ (channel_of x.card c).signal.counter) n refl;
        counts = channel_keeps x.card c ch (λ (k : Card). k.counts) refl;
        active = channel_keeps x.card c ch (λ (k : Card). k.active) refl;
        pending = channel_keeps x.card c ch (λ (k : Card). k.pending) refl;
        tables = refl;
        settings = λ b d. refl;
      }

  but_done : (r : Register) (a v : ℕ) → Own c r → InBlock c a → But c x (perform_of x a (effect_of r v))
  but_done (R.Setting s) a v o i = but_kept a v i
  but_done (R.Fixed s) a v o i = but_none c x
  but_done (R.Output d) a v o i = rw o (but_shown (output_to (channel_of x.card c) v) refl refl refl refl refl)
  but_done (R.Status d f) a v o i = but_none c x
  but_done (R.Overflow d) a v o i = rw o (but_shown (overflow_cleared (channel_of x.card c)) refl refl refl refl refl)
  but_done R.Unlisted a v o i = but_none c x
  but_done _ a v o i = elim o [ ]

-- A WRITE IN CHANNEL c'S BLOCK TOUCHES THAT CHANNEL ALONE
pub frame : Frame
unfolding Frame
frame c h st start count ws i =
    write_within (λ x a vs z. start ≤ a → But c x z) (λ x a f. but_none c x) st start count ws
    (λ q e x a v vs z l p r f. let m = region_ends c start q h i e in
    let b : InBlock c a = (omega arith, omega arith) in
    but_then c x (perform_of x a (effect_of (register_of a) v)) z (but_done c x (register_of a) a v (own c a h b) b) (r (omega arith)))
    (omega arith)

-- ---- the lengths

same_then : (x y z : State) → SameLengths x y → SameLengths y z → SameLengths x z
same_then x y z p q = record { settings = cc; tables = cc }

pub trigger_lengths : (x : State) (level event : ℕ) → SameLengths x (trigger_of x level event)
unfolding trigger_of on_all
trigger_lengths x level event =
    record {
      settings = refl;
      tables =
          trigger_length x.settings _ 3 _ level
          ∙ trigger_length x.settings _ 2 _ level
          ∙ trigger_length x.settings _ 1 _ level
          ∙ trigger_length x.settings x.tables 0 _ level;
    }

pub lengths_done : (x : State) (a : ℕ) (e : Effect) → SameLengths x (perform_of x a e)
lengths_done x a (Keep v) = record { settings = length-set x.settings a v; tables = refl }
lengths_done x a Erase = record { settings = erased_length x.settings; tables = refl }
lengths_done x a (Trigger level) = trigger_lengths x level 0xFE
lengths_done x a _ = record { settings = refl; tables = refl }

-- A WRITE KEEPS THE LENGTHS
pub lengths_kept : LengthsKept
unfolding LengthsKept
lengths_kept =
    write_by (λ x a vs z. SameLengths x z) (λ x a. record { settings = refl; tables = refl })
    (λ x a v vs z p r. same_then x (perform_of x a (effect_of (register_of a) v)) z (lengths_done x a (effect_of (register_of a) v)) r)
