-- No line changes the edition, and no saved line tells it (`lines_and_editions`). Assumes nothing.
use Rattle.std.specs.Prelude.{Option, Some}
use mathlib.Core.Path.{◌≡◌, refl, ◌∙◌}
use mathlib.Core.List.{List, [], ◌∷◌}
use Prim.Native.Nat.{ℕ}
use Rattle.card.specs.Card.{State}
use Rattle.card.specs.Reset.{waves_reset, card_reset, fresh_of}
use Rattle.line.specs.declared.Frame.{Frame}
use Rattle.line.specs.declared.Frame.TheVariants.{Write, Ticks, Event}
use Rattle.line.specs.Frame.{words_of, frame_of}
use Rattle.line.specs.Answer.{on_frame, step_of}
use Rattle.line.specs.Session.{lines_of, played_of, session}
use Rattle.saved.specs.Saved.{saved_text, save_of}
use Rattle.history.specs.History.{acts}
use Rattle.history.proofs.Editions.{write_edition, tick_edition, ticks_edition}
use Rattle.restored.specs.Editions.{LinesAndEditions}
use Rattle.restored.proofs.Restored.{equal_lines}

frame_edition : (w : List ℕ) (st : State) (s : List ℕ) (f : Option Frame) → (on_frame w st s f).state.card.edition ≡ st.card.edition
frame_edition w st s (Some (Write start n)) = write_edition st start n (words_of n s)
frame_edition w st s (Some (Ticks n)) = ticks_edition w n st
frame_edition w st s (Some (Event e)) = tick_edition w st e
frame_edition w st s _ = refl

played_edition : (w : List ℕ) (st : State) (ls : List (List ℕ)) → (played_of w st ls).card.edition ≡ st.card.edition
unfolding played_of step_of
played_edition w st [] = refl
played_edition w st (l ∷ ls) = played_edition w (on_frame w st l (frame_of l)).state ls ∙ frame_edition w st l (frame_of l)

-- a save is of the lines alone
same_save : (s t o : List ℕ) → saved_text s ≡ saved_text t → save_of s o ≡ save_of t o
unfolding save_of
same_save s t o e = cc

-- THE LINE PROGRAM'S CARD STAYS EDITION 1, AND SAVED LINES CARRY NO EDITION
pub lines_and_editions : LinesAndEditions
unfolding card_reset session
lines_and_editions =
    record {
      first = λ s l w input. refl;
      kept = λ ed s l w text. played_edition (waves_reset w) (fresh_of ed s l) (lines_of text);
      equal = λ ed ed' s l s' l' xs ys e o. same_save _ _ o (equal_lines.equal (acts (fresh_of ed s l) xs) (acts (fresh_of ed' s' l') ys) e);
    }
