-- Words that are all set, and the scale factors of one channel after the other. Assumes nothing.
use Rattle.std.proofs.Common.{◌≡◌, refl, sym, ◌∙◌, ℕ, zero, suc, ◌+◌, ◌<◌, List, length, replicate, add-one, arith}
use Rattle.std.proofs.lemmas.List.{ext_get_or, length-replicate, get_or-replicate}
use Rattle.slots.specs.Slots.{filled, erased}
use Rattle.slots.proofs.Fills.{filled_length, filled_in}
use Rattle.card.specs.Reset.{scales_reset, settings_reset}

-- a list of n words that is set whole
pub all_filled : (n : ℕ) (l x : List ℕ) → length l ≡ n → x ≡ replicate (length l) 0 → x ≡ filled n l 0 0
all_filled n l x h e =
    e
    ∙ ext_get_or 0 (replicate (length l) 0) (filled n l 0 0)
    (length-replicate (length l) 0 ∙ sym (filled_length n l 0 0))
    (λ i b. let k : i < length l = rw length-replicate at b in get_or-replicate (length l) i 0 0 k ∙ sym (filled_in n l 0 0 i (omega arith) (omega arith) (omega arith)))

-- those of the first n channels
unfoldable pub scaled : ℕ → List ℕ → List ℕ
scaled zero s = s
scaled (suc n) s = scales_reset n (scaled n s)

pub none_scaled : (s : List ℕ) → s ≡ scaled 0 s
unfolding scaled
none_scaled s = refl

pub more_scaled : (n : ℕ) (s : List ℕ) → scales_reset n (scaled n s) ≡ scaled (n + 1) s
unfolding scaled
more_scaled n s = rw add-one

pub all_scaled : (s : List ℕ) → erased (scaled 4 (filled 0x4240 s 0 0)) ≡ settings_reset s
unfolding scaled settings_reset
all_scaled s = refl
