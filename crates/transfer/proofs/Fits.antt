-- A word that is kept has its place: every address that keeps one lies among the settings lent. Assumes nothing.
use mathlib.Core.Path.{◌≡◌, refl}
use mathlib.Core.Bool.{true}
use Prim.Native.Nat.{ℕ, ◌<◌}
use lib.Dec.{eqb}
use Rattle.std.proofs.lemmas.Bool.{cond_both}
use Rattle.map.specs.declared.Register.{Register}
use Rattle.map.specs.declared.Register.TheVariants as R
use Rattle.map.specs.Map.{named, register_of}
use Rattle.map.proofs.Room.{named_below}
use Rattle.transfer.specs.declared.Effect.TheVariants.{Erase, Nothing}
use Rattle.transfer.specs.Word.{effect_of, Fits}

-- WHAT A WORD DOES FITS, at every address
pub fits : (a v : ℕ) → Fits a (effect_of (register_of a) v)
fits a v = go (register_of a) (named_below a)
  where
    go : (r : Register) → (named r ≡ true → a < 16960) → Fits a (effect_of r v)
    go (R.Setting s) h = h refl
    go (R.Fixed s) h = tt
    go (R.Output c) h = tt
    go (R.Status c f) h = tt
    go (R.Overflow c) h = tt
    go (R.Slot l) h = h refl
    go (R.Image e) h = tt
    go R.Erase h = cond_both (eqb v 1) Erase Nothing (Fits a) (λ _. tt) (λ _. tt)
    go R.Manual h = tt
    go R.ActiveLevel h = tt
    go R.ActiveEvent h = tt
    go (R.Count l) h = tt
    go R.Unlisted h = tt
