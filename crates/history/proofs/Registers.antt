-- The words of a channel's block: settings, the channel's own output, status and overflow count, and nothing of the card's; and a region
-- that begins in the block ends in it; and which words are settings (`settings_are`). Each is a rule of the rows. Assumes nothing.
use Rattle.std.specs.Prelude.{Some}
use mathlib.Core.Path.{◌≡◌, refl}
use mathlib.Core.Bool.{Bool, true, false, not, ◌&&◌}
use Prim.Native.Nat.{ℕ, ◌+◌, ◌-◌, ◌/◌, ◌%◌, ◌<◌}
use native.Mathlib.Omega.{arith}
use lib.Dec.{ltb}
use borrow.Author.Tests.{ltb-true, ltb-false}
use Rattle.map.specs.declared.Region.{Region}
use Rattle.map.specs.declared.Setting.{Setting}
use Rattle.map.specs.declared.Register.{Register}
use Rattle.map.specs.declared.Register.TheVariants as R
use Rattle.map.specs.Map.{Row, Hit, hit, miss, scan, channel_rows, card_rows, base, settings, named_in, found_in, region_of, register_of}
use Rattle.map.specs.Settings.{is_setting}
use Rattle.map.proofs.Rows.{All, scan_all}
use Rattle.map.proofs.Order.{scan_short}
use Rattle.map.proofs.Blocks.{raise, channel_short, in_channel, in_card, channel_register}
use Rattle.history.specs.Effects.{read_write, excepted, SettingsAre}
use Rattle.history.specs.Frame.{InBlock}

-- a register that channel c's block may have
abbrev pub Own : ℕ → Register → Type 0
Own c (R.Setting s) = Unit
Own c (R.Fixed s) = Unit
Own c (R.Output d) = d ≡ c
Own c (R.Status d f) = d ≡ c
Own c (R.Overflow d) = d ≡ c
Own c (R.Slot l) = ⊥
Own c (R.Image e) = ⊥
Own c R.Erase = ⊥
Own c R.Manual = ⊥
Own c R.ActiveLevel = ⊥
Own c R.ActiveEvent = ⊥
Own c (R.Count l) = ⊥
Own c R.Unlisted = Unit

abbrev Owns : Row → Type 0
Owns r = (c o : ℕ) → Own c (r.meaning c o)

setting : (fixed : ℕ) (s : ℕ → Setting) (c o : ℕ) → Own c (settings fixed s c o)
setting fixed s c o = grind arith

channel_owns : All Owns channel_rows
unfolding channel_rows
channel_owns = (
  setting 128 _,
  (setting 0 _, (setting 0 _, (setting 1 _, (setting 0 _, (setting 1 _, (setting 0 _, (setting 0 _, (setting 0 _, (setting 0 _, (setting 0 _, (setting 0 _, (setting 0 _, ((λ c o. refl), ((λ c o. refl), ((λ c o. refl), ((λ c o. refl), ((λ c o. refl), ((λ c o. refl), ((λ c o. refl), tt))))))))))))))))))),
)

owned : (h : Hit) (c o : ℕ) → scan channel_rows o ≡ h → Own c (named_in h c o)
owned (hit r) c o e = scan_all Owns channel_rows channel_owns o r e c (o - r.region.first)
owned miss c o e = tt

-- THE REGISTERS OF A CHANNEL'S BLOCK ARE ITS OWN
pub own : (c a : ℕ) → c < 4 → InBlock c a → Own c (register_of a)
own c a h i =
    let d : a / 0x1000 ≡ c = omega arith in
    rw (channel_register a (omega arith), d) (owned (scan channel_rows (a % 0x1000)) c (a % 0x1000) refl)

-- ---- the region

ends : (h : Hit) (b o : ℕ) (q : Region) → scan channel_rows o ≡ h → found_in (raise b h) ≡ Some q → q.last < b + 0x1000
ends (hit r) b o q e f =
    let s = scan_short 0x1000 channel_rows channel_short o r e in
    let l : b + r.region.last ≡ q.last = cc in
    omega arith
ends miss b o q e f = absurd cc

-- A REGION THAT HOLDS AN ADDRESS OF THE BLOCK ENDS IN THE BLOCK
pub region_ends : (c a : ℕ) (q : Region) → c < 4 → InBlock c a → region_of a ≡ Some q → q.last < base c + 0x1000
region_ends c a q h i e =
    let d : a / 0x1000 ≡ c = omega arith in
    ends (scan channel_rows (a % 0x1000)) (base c) (a % 0x1000) q refl (rw (in_channel a (omega arith), d) at e)

-- ---- the settings

-- a setting's register is one of three
pub data Kept (r : Register) : Type 0 where
  plain : (s : Setting) → r ≡ R.Setting s → Kept r
  fixed : (s : Setting) → r ≡ R.Fixed s → Kept r
  slot : (l : ℕ) → r ≡ R.Slot l → Kept r

pub kept : (r : Register) → is_setting r ≡ true → Kept r
kept (R.Setting s) e = plain s refl
kept (R.Fixed s) e = fixed s refl
kept (R.Slot l) e = slot l refl
kept _ e = absurd cc

-- a row's words are settings, if it is RW and they are not excepted
abbrev Plain : Row → Type 0
Plain r = (c o : ℕ) → is_setting (r.meaning c o) ≡ read_write (Some r.region) && not (excepted (r.meaning c o))

plain_row : (n : ℕ) (s : ℕ → Setting) (c o : ℕ) → is_setting (settings n s c o) ≡ true && not (excepted (settings n s c o))
plain_row n s c o = grind arith

channel_plain : All Plain channel_rows
unfolding channel_rows
channel_plain = (
  plain_row 128 _,
  (plain_row 0 _, (plain_row 0 _, (plain_row 1 _, (plain_row 0 _, (plain_row 1 _, (plain_row 0 _, (plain_row 0 _, (plain_row 0 _, (plain_row 0 _, (plain_row 0 _, (plain_row 0 _, (plain_row 0 _, ((λ c o. refl), ((λ c o. refl), ((λ c o. refl), ((λ c o. refl), ((λ c o. refl), ((λ c o. refl), ((λ c o. refl), tt))))))))))))))))))),
)

card_plain : All Plain card_rows
unfolding card_rows
card_plain = (
  (λ c o. refl),
  ((λ c o. refl), (plain_row 0 _, ((λ c o. refl), ((λ c o. refl), ((λ c o. refl), ((λ c o. refl), ((λ c o. refl), tt))))))),
)

-- SETTINGS ARE THE RW WORDS EXCEPT A04, A39 AND THE LEVEL COUNTS
pub settings_are : SettingsAre
unfolding SettingsAre
settings_are a = go (ltb a 0x4000) refl
  where
    in_channel_rows : (h : Hit) (b x : ℕ) → scan channel_rows x ≡ h
        → is_setting (named_in (raise b h) (a / 0x1000) a) ≡ read_write (found_in (raise b h)) && not (excepted (named_in (raise b h) (a / 0x1000) a))
    in_channel_rows (hit r) b x e = scan_all Plain channel_rows channel_plain x r e (a / 0x1000) (a - (b + r.region.first))
    in_channel_rows miss b x e = refl

    in_card_rows : (h : Hit) → scan card_rows a ≡ h → is_setting (named_in h (a / 0x1000) a) ≡ read_write (found_in h) && not (excepted (named_in h (a / 0x1000) a))
    in_card_rows (hit r) e = scan_all Plain card_rows card_plain a r e (a / 0x1000) (a - r.region.first)
    in_card_rows miss e = refl

    go : (b : Bool) → ltb a 0x4000 ≡ b → is_setting (register_of a) ≡ read_write (region_of a) && not (excepted (register_of a))
    go true e = rw (in_channel a (ltb-true a 0x4000 e)) (in_channel_rows (scan channel_rows (a % 0x1000)) (base (a / 0x1000)) (a % 0x1000) refl)
    go false e = rw (in_card a (ltb-false a 0x4000 e)) (in_card_rows (scan card_rows a) refl)
