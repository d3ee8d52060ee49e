-- What an answer tells is so: `refused_in` of it holds exactly where the line's frame was refused. Assumes nothing.
use Rattle.std.specs.Prelude.{Result, Err, Ok, None, Option, Some}
use mathlib.Core.Path.{◌≡◌, refl, ◌∙◌}
use mathlib.Core.Bool.{not}
use mathlib.Core.List.{List, ◌++◌}
use Prim.Native.Nat.{ℕ, ◌<◌}
use native.Mathlib.Omega.{arith}
use lib.Dec.{eqb}
use lib.ListN.{take, replicate}
use Rattle.digits.specs.Digits.{byte_at, hex2, hex4, hex_all}
use Rattle.digits.proofs.Back.{hex2_read, byte_behind}
use Rattle.card.specs.Card.{State}
use Rattle.transfer.specs.declared.Why.TheVariants as W
use Rattle.transfer.specs.Transfer.{Filled, number_of, processed_of, write_of, read_of}
use Rattle.line.specs.declared.Frame.{Frame}
use Rattle.line.specs.declared.Frame.TheVariants.{Write, Read, Ticks, Event}
use Rattle.line.specs.Frame.{words_of, frame_of}
use Rattle.line.specs.Answer.{head_of, outputs_text, on_frame, step_of, refused_frame, refused_in}
use Rattle.transfer.specs.declared.Refusal.{Refusal}
use Rattle.transfer.specs.declared.Refusal.TheVariants.{BadCount, NoRegion, NoAccess, Beyond, Word}

number_small : (a : Result ℕ Refusal) → number_of a < 256
number_small (Ok n) = omega arith
number_small (Err BadCount) = omega arith
number_small (Err NoRegion) = omega arith
number_small (Err NoAccess) = omega arith
number_small (Err (Beyond n)) = omega arith
number_small (Err (Word W.Fixed n)) = omega arith
number_small (Err (Word W.Value n)) = omega arith
number_small (Err (Word W.Held n)) = omega arith
number_small (Err (Word W.Running n)) = omega arith

-- a name and a number, read from the front of an answer
module _ (name number : ℕ) (r : List ℕ) where
  front_name : name < 256 → byte_at (hex2 name ++ (hex2 number ++ r)) 0 ≡ name
  front_name h = hex2_read name (hex2 number ++ r) h

  front_number : number < 256 → byte_at (hex2 name ++ (hex2 number ++ r)) 2 ≡ number
  unfolding hex2
  front_number h = byte_behind (hex2 name) (hex2 number ++ r) 0 ∙ hex2_read number r h

-- an answer to a transfer, and what follows its head
write_tells : (a : Result ℕ Refusal) → refused_in (head_of 0x81 (number_of a) (processed_of a)) ≡ not (eqb (number_of a) 0)
unfolding head_of
write_tells a = rw (front_name 0x81 (number_of a) (hex4 (processed_of a)) (omega arith), front_number 0x81 (number_of a) (hex4 (processed_of a)) (number_small a))

read_tells : (a : Result ℕ Refusal) (ws : List ℕ) → refused_in (head_of 0x82 (number_of a) (processed_of a) ++ hex_all ws) ≡ not (eqb (number_of a) 0)
unfolding head_of hex2
read_tells a ws =
    let r : List ℕ = hex4 (processed_of a) ++ hex_all ws in
    let e : byte_at (hex2 0x82 ++ (hex2 (number_of a) ++ r)) 0 ≡ 0x82 = front_name 0x82 (number_of a) r (omega arith) in
    let f : byte_at (hex2 0x82 ++ (hex2 (number_of a) ++ r)) 2 ≡ number_of a = front_number 0x82 (number_of a) r (number_small a) in
    rw (e, f)

frame_tells : (w : List ℕ) (st : State) (s : List ℕ) (f : Option Frame) → refused_in (on_frame w st s f).text ≡ refused_frame st s f
unfolding outputs_text byte_at hex2
frame_tells w st s (Some (Write start count)) = write_tells (write_of st start count (words_of count s)).answer
frame_tells w st s (Some (Read start count)) =
    let f : Filled = read_of st.settings st.card start count (replicate 64 0) in
    read_tells f.answer (take (processed_of f.answer) f.words)
frame_tells w st s (Some (Ticks n)) = refl
frame_tells w st s (Some (Event e)) = refl
frame_tells w st s None = refl

-- EVERY LINE THAT IS NOT ANSWERED 0 IS TOLD BY ITS ANSWER, and no other
pub refused_right : (w : List ℕ) (st : State) (s : List ℕ) → refused_in (step_of w st s).text ≡ refused_frame st s (frame_of s)
unfolding step_of
refused_right w st s = frame_tells w st s (frame_of s)
