-- The column 'Accepted values' is what the register alone accepts: one agreement for each row that the paper lists. Assumes nothing.
use mathlib.Core.Path.{◌≡◌, refl, sym, ◌∙◌}
use mathlib.Core.Bool.{Bool, true, false, cond}
use mathlib.Core.List.{List}
use Prim.Native.Nat.{ℕ, ◌/◌, ◌%◌, ◌<◌, ◌≤◌, ◌-◌}
use lib.Dec.{ltb, eqb}
use borrow.Author.Tests.{lt-ltb, le-ltb}
use Rattle.std.proofs.Common.{inl, inr}
use Rattle.std.proofs.lemmas.Bool.{cases_lt}
use Rattle.map.specs.declared.Setting.{Setting}
use Rattle.map.specs.declared.Setting.TheVariants as S
use Rattle.map.specs.declared.Register.TheVariants as R
use Rattle.map.specs.Register.{allowed, allowed_setting}
use Rattle.map.specs.Map.{Row, Hit, hit, miss, scan, channel_rows, card_rows, settings, point, named_in, accepted_in, accepted_at, register_of}
use Rattle.map.proofs.Rows.{All, scan_all}
use Rattle.map.proofs.Blocks.{in_card, channel_register, channel_accepted}

-- fixed or not, a setting accepts what its kind accepts
same_kind : (fixed : ℕ) (s : ℕ → Setting) (c o v : ℕ) → allowed (settings fixed s c o) v ≡ allowed_setting (s o) v
same_kind fixed s c o v = go (ltb o fixed)
  where
    go : (b : Bool) → allowed (cond b (R.Fixed (s o)) (R.Setting (s o))) v ≡ allowed_setting (s o) v
    go true = refl
    go false = refl

-- V and the time step accept any value
any_point : (o v : ℕ) → allowed_setting (point o) v ≡ true
any_point o v = go (eqb (o % 2) 0)
  where
    go : (b : Bool) → allowed_setting (cond b S.Value S.Step) v ≡ true
    go true = refl
    go false = refl

-- a row's two columns agree
abbrev Agrees : Row → Type 0
Agrees r = (c o v : ℕ) → r.accepted o v ≡ allowed (r.meaning c o) v

scan_agrees : (l : List Row) → All Agrees l → (c a v : ℕ) → accepted_in (scan l a) a v ≡ allowed (named_in (scan l a) c a) v
scan_agrees l g c a v = go (scan l a) refl
  where
    go : (h : Hit) → scan l a ≡ h → accepted_in h a v ≡ allowed (named_in h c a) v
    go (hit r) e = scan_all Agrees l g a r e c (a - r.region.first) v
    go miss e = refl

kind : (fixed : ℕ) (s : Setting) (c o v : ℕ) → allowed_setting s v ≡ allowed (settings fixed (λ n. s) c o) v
kind fixed s c o v = sym (same_kind fixed (λ n. s) c o v)

channel_agrees : All Agrees channel_rows
unfolding channel_rows
channel_agrees = (
  (λ c o v. sym (same_kind 128 point c o v ∙ any_point o v)),
  ((kind 0 S.RampMap), ((kind 0 S.ScaleMap), ((kind 1 S.Scale), ((kind 0 S.OffsetMap), ((kind 1 S.Offset), ((kind 0 S.Delay), ((kind 0 S.FrequencyMap), ((kind 0 S.Frequency), ((kind 0 S.PhaseMap), ((kind 0 S.Phase), ((kind 0 S.WaveformEnable), ((kind 0 S.WaveformMode), ((λ c o v. refl), ((λ c o v. refl), ((λ c o v. refl), ((λ c o v. refl), ((λ c o v. refl), ((λ c o v. refl), ((λ c o v. refl), tt))))))))))))))))))),
)

card_agrees : All Agrees card_rows
unfolding card_rows
card_agrees = ((λ c o v. refl), ((λ c o v. refl), ((kind 0 S.ClockEnable), ((λ c o v. refl), ((λ c o v. refl), ((λ c o v. refl), ((λ c o v. refl), ((λ c o v. refl), tt))))))))

-- THE REGISTER SAYS WHAT THE TABLE ACCEPTS, at every address
pub accepted_is : (a v : ℕ) → accepted_at a v ≡ allowed (register_of a) v
accepted_is a v = elim (cases_lt a 0x4000) [
  | inl h ↦ rw (channel_accepted a h v, channel_register a h) (scan_agrees channel_rows channel_agrees (a / 0x1000) (a % 0x1000) v)
  | inr h ↦ rw (in_card a h) (scan_agrees card_rows card_agrees (a / 0x1000) a v)
]

-- ---- a word of a row of settings, by its offset in the region

pub fixed : (n : ℕ) (s : ℕ → Setting) (c o : ℕ) → o < n → R.Fixed (s o) ≡ settings n s c o
fixed n s c o h = rw (lt-ltb o n h)

pub free : (n : ℕ) (s : ℕ → Setting) (c o : ℕ) → n ≤ o → R.Setting (s o) ≡ settings n s c o
free n s c o h = rw (le-ltb o n h)
