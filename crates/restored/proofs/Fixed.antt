-- The fixed words are table 0 and entry 0 of the scale factors and of the offsets (`place_of`), so they are the same on any two cards whose
-- settings are sound (`fixed_same`): a rule of the rows that the paper lists once. Assumes nothing.
use mathlib.Core.Path.{◌≡◌, refl, sym, ◌∙◌}
use mathlib.Core.Bool.{Bool, true, false}
use mathlib.Core.List.{List}
use Prim.Native.Nat.{ℕ, ◌+◌, ◌/◌, ◌%◌, ◌<◌, ◌≤◌}
use native.Mathlib.Omega.{arith}
use lib.Dec.{ltb}
use borrow.Author.Tests.{ltb-true, ltb-false}
use Rattle.map.specs.declared.Setting.{Setting}
use Rattle.map.specs.Map.{Row, Hit, hit, miss, scan, settings, channel_rows, card_rows, named_in, register_of}
use Rattle.map.specs.Settings.{is_fixed}
use Rattle.map.specs.Addresses.{table_at, scale_at, offset_at}
use Rattle.map.proofs.Rows.{hits, All, scan_all}
use Rattle.map.proofs.Blocks.{in_card, channel_register}
use Rattle.channel.specs.Channel.{word}
use Rattle.saved.proofs.Covered.{first_fixed}
use Rattle.history.specs.Sound.{Words}

-- where a fixed word is, from a channel's base
data Place (o : ℕ) : Type 0 where
  table : o < 128 → Place o
  scale : o ≡ 0x860 → Place o
  offset : o ≡ 0x8A0 → Place o

-- a row's fixed words are there
abbrev Placed : Row → Type 0
Placed r = (c o : ℕ) → is_fixed (r.meaning c o) ≡ true → Place (r.region.first + o)

-- of a row of settings from f on the first n are fixed
first : (f n : ℕ) (s : ℕ → Setting) → ((o : ℕ) → o < n → Place (f + o)) → (c o : ℕ) → is_fixed (settings n s c o) ≡ true → Place (f + o)
first f n s p c o e = p o (ltb-true o n (sym (first_fixed n s c o) ∙ e))

-- of the other rows none is
free : (f : ℕ) (s : ℕ → Setting) (c o : ℕ) → is_fixed (settings 0 s c o) ≡ true → Place (f + o)
free f s = first f 0 s (λ o h. absurd (omega arith))

never : (o : ℕ) → false ≡ true → Place o
never o e = absurd cc

channel_placed : All Placed channel_rows
unfolding channel_rows
channel_placed = (
  first _ 128 _ (λ o h. table (omega arith)),
  (free _ _, (free _ _, (first _ 1 _ (λ o h. scale (omega arith)), (free _ _, (first _ 1 _ (λ o h. offset (omega arith)), (free _ _, (free _ _, (free _ _, (free _ _, (free _ _, (free _ _, (free _ _, ((λ c o. never _), ((λ c o. never _), ((λ c o. never _), ((λ c o. never _), ((λ c o. never _), ((λ c o. never _), ((λ c o. never _), tt))))))))))))))))))),
)

card_placed : All Placed card_rows
unfolding card_rows
card_placed = (
  (λ c o. never _),
  ((λ c o. never _), (free _ _, ((λ c o. never _), ((λ c o. never _), ((λ c o. never _), ((λ c o. never _), ((λ c o. never _), tt))))))),
)

place_in : (l : List Row) → All Placed l → (h : Hit) (c x : ℕ) → scan l x ≡ h → is_fixed (named_in h c x) ≡ true → Place x
place_in l p (hit r) c x e f = grind (arith, hits, scan_all)
place_in l p miss c x e f = never x f

-- a fixed word is in a channel's block, at one of these places
place_of : (a : ℕ) → is_fixed (register_of a) ≡ true → (a < 0x4000) × Place (a % 0x1000)
place_of a = go (ltb a 0x4000) refl
  where
    beyond : 0x4000 ≤ a → Place a → ⊥
    beyond h (table e) = omega arith
    beyond h (scale e) = omega arith
    beyond h (offset e) = omega arith

    go : (b : Bool) → ltb a 0x4000 ≡ b → is_fixed (register_of a) ≡ true → (a < 0x4000) × Place (a % 0x1000)
    go true e f =
        let h = ltb-true a 0x4000 e in
        (h, place_in channel_rows channel_placed (scan channel_rows (a % 0x1000)) (a / 0x1000) (a % 0x1000) refl (rw (channel_register a h) at f))
    go false e f =
        let h = ltb-false a 0x4000 e in
        absurd (beyond h (place_in card_rows card_placed (scan card_rows a) (a / 0x1000) a refl (rw (in_card a h) at f)))

-- THE FIXED WORDS ARE THE SAME
pub fixed_same : (s t : List ℕ) → Words s → Words t → (a : ℕ) → is_fixed (register_of a) ≡ true → word s a ≡ word t a
fixed_same s t v w a f = let p = place_of a f in go p.0 p.1
  where
    -- by its place in the block
    same : (x y : ℕ) → x ≡ y → word s x ≡ word t x → word s y ≡ word t y
    same x y e h = rw e at h

    go : a < 0x4000 → Place (a % 0x1000) → word s a ≡ word t a
    go h (table e) =
        same (table_at (a / 0x1000) 0 + a % 0x1000) a (omega arith) (v.table0 (a / 0x1000) (a % 0x1000) (omega arith) e ∙ sym (w.table0 (a / 0x1000) (a % 0x1000) (omega arith) e))
    go h (scale e) = same (scale_at (a / 0x1000) 0) a (omega arith) (v.scale0 (a / 0x1000) (omega arith) ∙ sym (w.scale0 (a / 0x1000) (omega arith)))
    go h (offset e) = same (offset_at (a / 0x1000) 0) a (omega arith) (v.offset0 (a / 0x1000) (omega arith) ∙ sym (w.offset0 (a / 0x1000) (omega arith)))
