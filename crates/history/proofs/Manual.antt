-- A write that does a word at 0x4202 is a trigger of that word's level and nothing else: 0x4202 is a region of one word, so the write
-- starts there and does that word alone. Assumes nothing.
use Rattle.std.specs.Prelude.{Option, Some, None}
use mathlib.Core.Path.{◌≡◌, refl, ◌∙◌}
use mathlib.Core.Bool.{Bool, true, false, cond}
use mathlib.Core.List.{List, [], ◌∷◌}
use Prim.Native.Nat.{ℕ, suc, ◌+◌, ◌≤◌, ◌<◌}
use native.Mathlib.Omega.{arith}
use lib.Dec.{eqb}
use lib.ListN.{length}
use borrow.Author.Tests.{eqb-true}
use Rattle.map.specs.declared.Access.TheVariants as A
use Rattle.map.specs.declared.Region.{Region}
use Rattle.map.specs.Map.{scan, card_rows, region_of, register_of}
use Rattle.map.proofs.Blocks.{in_card}
use Rattle.map.proofs.Regions.{lies, same_region}
use Rattle.card.specs.Card.{State}
use Rattle.card.specs.Trigger.{trigger_of}
use Rattle.transfer.specs.Word.{effect_of, perform_of}
use Rattle.transfer.specs.Transfer.{write_of}
use Rattle.history.specs.History.{words_done, done_from, manual_among}
use Rattle.history.proofs.Addresses.{manual_register}
use Rattle.history.proofs.Writing.{AllDone, Resulted, written, no_region}

-- a region of one word that is only written: such are the erase and the manual trigger
abbrev pub Own : ℕ → Type 0
Own a = region_of a ≡ Some (record { first = a; last = a; access = A.Write })

pub own : Own 0x4201 × Own 0x4202
unfolding card_rows scan
own = (rw (in_card 0x4201 (omega arith)), rw (in_card 0x4202 (omega arith)))

pub alone : (a : ℕ) (q : Region) → Own a → region_of a ≡ Some q → (q.first ≡ a) × (q.last ≡ a)
alone a q o e = (first, last)
  where
    same : Some (record { first = a; last = a; access = A.Write }) ≡ Some q
    same = cc

    first : q.first ≡ a
    first = cc (same)

    last : q.last ≡ a
    last = cc (same)

-- where a word done at 0x4202 stands among the words done
reaches : (a v : ℕ) (vs : List ℕ) → manual_among a vs ≡ Some v → (a ≤ 0x4202) × (0x4202 < a + length vs)
reaches a v [] e = absurd cc
reaches a v (w ∷ vs) e = go (eqb a 0x4202) refl e (reaches (a + 1) v vs)
  where
    go : (b : Bool) → eqb a 0x4202 ≡ b → cond b (Some w) (manual_among (a + 1) vs) ≡ Some v
        → (manual_among (a + 1) vs ≡ Some v → (a + 1 ≤ 0x4202) × (0x4202 < a + 1 + length vs)) → (a ≤ 0x4202) × (0x4202 < a + suc (length vs))
    go true f e r = let d = eqb-true a 0x4202 f in (omega arith, omega arith)
    go false f e r = let y = r e in (omega (arith, y.0), omega (arith, y.1))

-- all words done lie in the region
pub inside : (q : Region) (st : State) (a : ℕ) (vs : List ℕ) → AllDone q st a vs → 1 ≤ length vs → a + length vs ≤ q.last + 1
inside q st a [] d h = absurd (omega arith)
inside q st a (v ∷ []) d h = omega (arith, d.0.0)
inside q st a (v ∷ w ∷ vs) d h = omega (arith, inside q (perform_of st a (effect_of (register_of a) v)) (a + 1) (w ∷ vs) d.1 (omega arith))

-- the one word from 0x4202 on
one_word : (st : State) (a v : ℕ) (vs : List ℕ) → a ≡ 0x4202 → length vs ≤ 1 → manual_among a vs ≡ Some v → done_from st a vs ≡ trigger_of st v 0xFE
one_word st a v [] e h f = absurd cc
one_word st a v (w ∷ []) e h f = rw e (cc (manual_register, rw e at f))
one_word st a v (w ∷ x ∷ vs) e h f = absurd (omega arith)

-- A WRITE THAT DOES A WORD AT 0x4202 STARTS THERE AND DOES THAT WORD ALONE
pub record Alone (start : ℕ) (done : List ℕ) : Type 0 where
  pub here : start ≡ 0x4202
  pub few : length done ≤ 1

pub manual_alone : (st : State) (start count : ℕ) (ws : List ℕ) (v : ℕ) → manual_among start (words_done st start count ws) ≡ Some v → Alone start (words_done st start count ws)
manual_alone st start count ws v f = go (region_of start) refl (written st start count ws)
  where
    go : (r : Option Region) → region_of start ≡ r → Resulted r st start count ws (write_of st start count ws) → Alone start (words_done st start count ws)
    go None e y = absurd (cc (no_region st start count ws e))
    go (Some q) e y =
        let p = reaches start v (words_done st start count ws) f in
        let i = inside q st start (words_done st start count ws) (y.all q refl) (omega arith) in
        let x = lies start q e in
        let z = alone 0x4202 q own.1 (same_region start 0x4202 q e (omega arith) (omega arith)) in
        record { here = omega arith; few = omega arith }

-- AND IS THE MANUAL TRIGGER
pub manual_write : (st : State) (start count : ℕ) (ws : List ℕ) (v : ℕ)
    → manual_among start (words_done st start count ws) ≡ Some v → (write_of st start count ws).state ≡ trigger_of st v 0xFE
manual_write st start count ws v f =
    let y = manual_alone st start count ws v f in
    (written st start count ws).done ∙ one_word st start v (words_done st start count ws) y.here y.few f
