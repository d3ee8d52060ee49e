-- Demand 1, of its parts; 7 by who holds the event. Assumes nothing.
use Rattle.std.specs.Prelude.{Option, Some, None}
use mathlib.Core.Path.{◌≡◌, refl}
use mathlib.Core.Bool.{Bool, true, false, not, ◌&&◌}
use mathlib.Core.List.{List}
use Prim.Native.Nat.{ℕ}
use lib.Dec.{eqb}
use borrow.Author.Tests.{ne_eqb, eqb-false}
use Rattle.map.specs.declared.Register.TheVariants as R
use Rattle.slots.specs.Slots.{other_of}
use Rattle.slots.proofs.Holders.{level_held, held_some}
use Rattle.transfer.specs.Word.{is_level, held_at}
use Rattle.profile.proofs.Right.{verdict_right}
use Rattle.history.specs.Demand1.{HeldElsewhere, Demand1}
use Rattle.history.proofs.Numbers.{write_answered, read_answered}
use Rattle.history.proofs.Effects.{all_effects}
use Rattle.history.proofs.Counted.{counted_is_done}
use Rattle.history.proofs.Waves.{wave_tables}
use Rattle.history.proofs.Saves.{save_answered}

module _ (s : List ℕ) (level event : ℕ) where
  held : held_at s (R.Slot level) event ≡ true → HeldElsewhere s level event
  held = go (eqb event 0xFE) refl (other_of s event level) refl
    where
      go : (b : Bool) → eqb event 0xFE ≡ b → (h : Option ℕ) → other_of s event level ≡ h → not b && is_level h ≡ true → HeldElsewhere s level event
      go false e (Some m) f g =
          let y = level_held s event level m f in
          record {
            real = eqb-false event 0xFE e;
            other = m;
            different = y.other;
            held = record { slot = y.slot; inside = y.inside; of = y.level; holds = y.stored };
          }
      go false e None f g = absurd cc
      go true e h f g = absurd cc

  held_only : HeldElsewhere s level event → held_at s (R.Slot level) event ≡ true
  held_only h =
      let y = held_some s event level h.held.slot h.held.inside h.held.holds (λ e. h.different cc) in
      rw (ne_eqb event 0xFE h.real, y.is)

-- DEMAND 1
pub demand1 : Demand1
demand1 =
    record {
      write = write_answered;
      read = read_answered;
      effects = all_effects;
      counted = counted_is_done;
      tables = wave_tables;
      saves = λ st buffer. save_answered st.settings buffer;
      checks = λ st. verdict_right st.card.edition st.settings;
      seven = held;
      seven_only = held_only;
    }
