-- The register names something exactly where the table has a region. Assumes nothing.
use mathlib.Core.Path.{◌≡◌, refl, sym, ◌∙◌}
use mathlib.Core.Bool.{Bool, true, false, cond}
use mathlib.Core.List.{List}
use Prim.Native.Nat.{ℕ, ◌-◌, ◌/◌, ◌%◌}
use lib.Dec.{ltb}
use Rattle.std.proofs.Common.{inl, inr}
use Rattle.std.proofs.lemmas.Bool.{cases_lt}
use Rattle.map.specs.declared.Setting.{Setting}
use Rattle.map.specs.declared.Register.TheVariants as R
use Rattle.map.specs.Map.{Row, Hit, hit, miss, scan, channel_rows, card_rows, settings, found_in, named_in, region_of, register_of, named, in_region}
use Rattle.map.proofs.Rows.{All, scan_all}
use Rattle.map.proofs.Blocks.{raise, in_channel, in_card, channel_register}

abbrev Names : Row → Type 0
Names r = (c o : ℕ) → named (r.meaning c o) ≡ true

setting : (fixed : ℕ) (s : ℕ → Setting) (c o : ℕ) → named (settings fixed s c o) ≡ true
setting fixed s c o = go (ltb o fixed)
  where
    go : (b : Bool) → named (cond b (R.Fixed (s o)) (R.Setting (s o))) ≡ true
    go true = refl
    go false = refl

channel_names : All Names channel_rows
unfolding channel_rows
channel_names = (
  setting 128 _,
  (setting 0 _, (setting 0 _, (setting 1 _, (setting 0 _, (setting 1 _, (setting 0 _, (setting 0 _, (setting 0 _, (setting 0 _, (setting 0 _, (setting 0 _, (setting 0 _, ((λ c o. refl), ((λ c o. refl), ((λ c o. refl), ((λ c o. refl), ((λ c o. refl), ((λ c o. refl), ((λ c o. refl), tt))))))))))))))))))),
)

card_names : All Names card_rows
unfolding card_rows
card_names = ((λ c o. refl), ((λ c o. refl), (setting 0 _, ((λ c o. refl), ((λ c o. refl), ((λ c o. refl), ((λ c o. refl), ((λ c o. refl), tt))))))))

-- over one table: the scan hits a row exactly where it names a word
over : (l : List Row) → All Names l → (c a : ℕ) → named (named_in (scan l a) c a) ≡ in_region (found_in (scan l a))
over l p c a = go (scan l a) refl
  where
    go : (h : Hit) → scan l a ≡ h → named (named_in h c a) ≡ in_region (found_in h)
    go (hit r) e = scan_all Names l p a r e c (a - r.region.first)
    go miss e = refl

raise_found : (b : ℕ) (h : Hit) → in_region (found_in (raise b h)) ≡ in_region (found_in h)
raise_found b (hit r) = refl
raise_found b miss = refl

-- THE REGISTERS AGREE WITH THE REGIONS, at every address
pub agree : (a : ℕ) → named (register_of a) ≡ in_region (region_of a)
agree a = elim (cases_lt a 0x4000) [
  | inl h ↦
      rw (channel_register a h, in_channel a h)
      (over channel_rows channel_names (a / 0x1000) (a % 0x1000) ∙ sym (raise_found _ (scan channel_rows (a % 0x1000))))
  | inr h ↦ rw (in_card a h) (over card_rows card_names (a / 0x1000) a)
]
