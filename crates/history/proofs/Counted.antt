-- A word counted is a word done, at every address (`counted_is_done`): by what each word does, and by what it leaves at its own address.
-- Assumes nothing.
use mathlib.Core.Path.{◌≡◌, refl, ◌∙◌}
use mathlib.Core.Bool.{true}
use Prim.Native.Nat.{ℕ}
use lib.ListN.{length}
use borrow.Author.Tests.{eq-eqb}
use Rattle.map.specs.Map.{register_of}
use Rattle.map.specs.Settings.{is_setting}
use Rattle.card.specs.Card.{State}
use Rattle.transfer.specs.Word.{effect_of}
use Rattle.history.specs.History.{read_back}
use Rattle.history.specs.Effects.{Does}
use Rattle.history.specs.Settings.{word_left}
use Rattle.history.specs.Counted.{EachDone, CountedIsDone}
use Rattle.history.proofs.Effects.{passed_does}
use Rattle.history.proofs.Writing.{write_by}
use Rattle.history.proofs.Frame.{lengths_done}
use Rattle.history.proofs.Settings.{word_left_lem, setting_reads}

-- a setting's word reads back as soon as it is done
reads_back : (x : State) (a v : ℕ) (y : State) → length x.settings ≡ 16960 → Does x a v y → is_setting (register_of a) ≡ true → read_back y a ≡ v
unfolding word_left
reads_back x a v y l d i = setting_reads a i y ∙ word_left_lem a i x a v y l d ∙ rw (eq-eqb a a refl)

-- A WORD COUNTED IS A WORD DONE
pub counted_is_done : CountedIsDone
unfolding CountedIsDone
counted_is_done st l start count ws =
    write_by (λ x a vs z. length x.settings ≡ 16960 → EachDone x a vs z) (λ x a h. refl)
    (λ x a v vs z p r h.
    let d = passed_does x a v p in
    (record { does = d; there = reads_back x a v _ h d }, r ((lengths_done x a (effect_of (register_of a) v)).settings ∙ h)))
    st start count ws l
