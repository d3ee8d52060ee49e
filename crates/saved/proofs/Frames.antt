-- The frames are the list written out, in address order, 173 lines and 38,079 bytes whatever the settings are (`frames_are`): so 10
-- depends on the buffer's length alone. Assumes nothing.
use Rattle.std.specs.Prelude.{Ok, Err}
use mathlib.Core.Path.{◌≡◌, ◌∙◌, refl}
use mathlib.Core.Bool.{false}
use mathlib.Core.List.{List}
use Prim.Native.Nat.{ℕ, ◌≤◌, ◌<◌}
use borrow.Author.Tests.{lt-ltb, le-ltb}
use lib.Dec.{ltb}
use lib.ListN.{length}
use lib.Seq.{sets}
use Rattle.map.specs.Map.{channel_rows, card_rows, block, regions}
use Rattle.saved.specs.Saved.{holding, fixed_from, spans, cut, frames_of, frames, saved_text, kept, save_of}
use Rattle.saved.specs.Laws.{FramesAre}
use Rattle.saved.proofs.Text.{length_text}
use Rattle.saved.specs.declared.Refusal.TheVariants.{TooShort}

pub frames_are : FramesAre
unfolding saved_text frames frames_of cut spans holding fixed_from regions block channel_rows card_rows
frames_are = record { list = refl; order = refl; lines = refl; bytes = refl; always = λ s. length_text s frames }

all_bytes : (s : List ℕ) → length (saved_text s) ≡ 38079
all_bytes s = frames_are.always s ∙ frames_are.bytes

-- a buffer that is too short, and one that is not
module _ (s o : List ℕ) where
  pub too_short : length o < 38079 → save_of s o ≡ kept o (Err TooShort)
  unfolding save_of
  too_short h = rw (all_bytes s, lt-ltb (length o) 38079 h)

  pub has_room : 38079 ≤ length o → save_of s o ≡ kept (sets o 0 (saved_text s)) (Ok (length (saved_text s)))
  unfolding save_of
  has_room h = let e : ltb (length o) (length (saved_text s)) ≡ false = rw (all_bytes s) (le-ltb (length o) 38079 h) in rw e
