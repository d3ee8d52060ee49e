-- An accepted word does one of seven things, by its address (`all_effects`): the other registers refuse every word. Assumes nothing.
use Rattle.std.specs.Prelude.{Option}
use mathlib.Core.Path.{◌≡◌, refl}
use mathlib.Core.Bool.{Bool, true, false, cond}
use Prim.Native.Nat.{ℕ, ◌≤◌}
use native.Mathlib.Omega.{arith}
use lib.Dec.{eqb}
use borrow.Author.Tests.{eqb-true, eqb-false, leb-true}
use Rattle.map.specs.declared.Register.{Register}
use Rattle.map.specs.declared.Register.TheVariants as R
use Rattle.map.specs.Map.{register_of}
use Rattle.map.proofs.Values.{accepted_is}
use Rattle.card.specs.Card.{State}
use Rattle.transfer.specs.declared.Effect.TheVariants as E
use Rattle.transfer.specs.Word.{effect_of, perform_of}
use Rattle.history.specs.Numbers.{first, to_write}
use Rattle.history.specs.Effects.{Does, Keeps, Outputs, ClearsOverflow, ClearsCount, Erases, Idles, Triggers, AllEffects}
use Rattle.history.proofs.Addresses.{Sits, sits}
use Rattle.history.proofs.Words.{Passed}
use Rattle.map.specs.declared.Region.{Region}

module _ (x : State) (a v : ℕ) where
  erase : (b : Bool) → eqb v 1 ≡ b → v ≤ 1 → a ≡ 0x4201 → Does x a v (perform_of x a (cond b E.Erase E.Nothing))
  erase true e h i = Erases i (eqb-true v 1 e) refl
  erase false e h i = let d = eqb-false v 1 e in Idles i (omega arith) refl

  by_register : (r : Register) → register_of a ≡ r → Sits r a → Passed x.settings x.card r v → Does x a v (perform_of x a (effect_of r v))
  by_register (R.Setting s) e i p = Keeps (rw e) refl
  by_register (R.Output c) e i p = Outputs c i.0 i.1 p.still refl
  by_register (R.Overflow c) e i p = ClearsOverflow c i.0 i.1 refl
  by_register (R.Slot l) e i p = Keeps (rw e) refl
  by_register R.Erase e i p = erase (eqb v 1) refl (leb-true v 1 p.value) i
  by_register R.Manual e i p = Triggers i (leb-true v 31 p.value) refl
  by_register (R.Count l) e i p = ClearsCount l i.0 i.1 refl
  by_register _ e i p = absurd cc

  pub passed_does : Passed x.settings x.card (register_of a) v → Does x a v (perform_of x a (effect_of (register_of a) v))
  passed_does p = by_register (register_of a) refl (sits a) p

-- a word that is not refused has passed
not_refused : (r : Option Region) (x : State) (a v : ℕ) → first (to_write r x a v) ≡ 0 → Passed x.settings x.card (register_of a) v
not_refused r x a v e = grind (arith, accepted_is)

-- EVERY ACCEPTED WORD DOES ONE OF THE SEVEN
pub all_effects : AllEffects
unfolding AllEffects
all_effects r x a v e = passed_does x a v (not_refused r x a v e)
