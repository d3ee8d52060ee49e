-- How long an answer's head is, alone and with the words read after it. Assumes nothing.
use mathlib.Core.Path.{◌≡◌, refl, ◌∙◌}
use mathlib.Core.List.{List, ◌++◌}
use Prim.Native.Nat.{ℕ, ◌+◌, ◌*◌}
use native.Mathlib.Omega.{arith}
use lib.ListN.{length, length-append}
use Rattle.digits.specs.Digits.{hex2, hex4, hex_all}
use Rattle.digits.proofs.Digits.{length_hex_all}
use Rattle.line.specs.Answer.{head_of}

pub length_head_of : (a b c : ℕ) → length (head_of a b c) ≡ 8
unfolding head_of hex2 hex4
length_head_of a b c = refl

pub length_read : (a b c : ℕ) (ws : List ℕ) → length (head_of a b c ++ hex_all ws) ≡ 8 + 4 * length ws
length_read a b c ws = length-append (head_of a b c) (hex_all ws) ∙ omega (arith, length_head_of a b c, length_hex_all ws)
