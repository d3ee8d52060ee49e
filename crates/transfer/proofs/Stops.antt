-- The address of the first word not done: start + processed in every case (`address_is`), and it fits 16 bits, since no region reaches
-- past the level counts (`write_fits`, `read_fits`). Assumes nothing.
use Rattle.std.specs.Prelude.{Option, Some, None, Result, Ok, Err}
use mathlib.Core.Path.{◌≡◌, refl}
use mathlib.Core.Bool.{Bool, true, false, cond}
use mathlib.Core.List.{List, [], ◌∷◌}
use Prim.Native.Nat.{ℕ, zero, suc, ◌+◌, ◌≤◌, ◌<◌}
use native.Mathlib.Omega.{arith}
use borrow.Author.Tests.{ltb-false}
use Rattle.std.proofs.lemmas.Bool.{cond_both}
use lib.Dec.{ltb}
use lib.ListN.{length, set, take}
use Rattle.map.specs.declared.Region.{Region}
use Rattle.map.specs.Map.{region_of}
use Rattle.map.proofs.Regions.{lies}
use Rattle.map.proofs.Room.{region_below}
use Rattle.card.specs.declared.Card.{Card}
use Rattle.card.specs.Card.{State}
use Rattle.transfer.specs.Word.{write_word, read_word}
use Rattle.transfer.specs.Transfer.{processed_of, address_of, bad_count, writable, readable, Out, out, go_on, write_words, write_in, write_of, Filled, filled, read_words, read_in, read_of}
use Rattle.transfer.specs.declared.Why.{Why}
use Rattle.transfer.specs.declared.Refusal.{Refusal}
use Rattle.transfer.specs.declared.Refusal.TheVariants.{BadCount, NoRegion, NoAccess, Beyond, Word}

pub address_is : (start : ℕ) (w : Result ℕ Refusal) → address_of start w ≡ start + processed_of w
address_is start (Ok n) = refl
address_is start (Err BadCount) = omega arith
address_is start (Err NoRegion) = omega arith
address_is start (Err NoAccess) = omega arith
address_is start (Err (Beyond n)) = refl
address_is start (Err (Word why n)) = refl

-- words from address a on, after i of them, stop at the latest where the region has ended
abbrev StopsBy : ℕ → ℕ → ℕ → Result ℕ Refusal → Type 0
StopsBy a i last w = a + processed_of w ≤ i + (last + 1)

write_stops : (st : State) (a last i : ℕ) (vs : List ℕ) → a ≤ last + 1 → StopsBy a i last (write_words st a last i vs).answer
unfolding write_words
write_stops st a last i [] h = omega arith
write_stops st a last i (v ∷ vs) h =
    cond_both (ltb last a) _ _ (λ (o : Out). StopsBy a i last o.answer)
    (λ _. omega arith)
    (λ e. let l = ltb-false last a e in go (write_word st a v).verdict (write_stops next (a + 1) last (i + 1) vs (omega arith)))
  where
    next : State
    next = (write_word st a v).state

    go : (d : Result Unit Why) → StopsBy (a + 1) (i + 1) last (write_words next (a + 1) last (i + 1) vs).answer
        → StopsBy a i last (go_on d next i (write_words next (a + 1) last (i + 1) vs)).answer
    go (Ok tt) r = omega arith
    go (Err why) r = omega arith

read_stops : (s : List ℕ) (k : Card) (a last i n : ℕ) (ws : List ℕ) → a ≤ last + 1 → StopsBy a i last (read_words s k a last i n ws).answer
unfolding read_words
read_stops s k a last i zero ws h = omega arith
read_stops s k a last i (suc n) ws h =
    cond_both (ltb last a) _ _ (λ (f : Filled). StopsBy a i last f.answer)
    (λ _. omega arith)
    (λ e. let l = ltb-false last a e in omega (arith, read_stops s k (a + 1) last (i + 1) n (set ws i (read_word s k a)) (omega arith)))

-- ---- the whole transfer

-- whatever a transfer from `start` on comes to, o for a bad count and f of the region that is found: it stops within 16 bits
module _ {O : Type 0} (answer : O → Result ℕ Refusal) (start : ℕ) (o : O) (f : Option Region → O) where
  stops_low : start < 65536 → processed_of (answer o) ≡ 0 → processed_of (answer (f None)) ≡ 0
      → ((q : Region) → start ≤ q.last + 1 → StopsBy start 0 q.last (answer (f (Some q))))
      → (b : Bool) → start + processed_of (answer (cond b o (f (region_of start)))) < 65536
  stops_low h y z g true = omega arith
  stops_low h y z g false = by (region_of start) refl
    where
      by : (r : Option Region) → region_of start ≡ r → start + processed_of (answer (f r)) < 65536
      by None e = omega arith
      by (Some q) e =
          let l = lies start q e in
          let b = region_below start q e in
          omega (arith, g q (omega arith))

pub write_fits : (st : State) (start count : ℕ) (ws : List ℕ) → start < 65536 → start + processed_of (write_of st start count ws).answer < 65536
unfolding write_of
write_fits st start count ws h =
    stops_low (λ (o : Out). o.answer) start (out st (Err BadCount)) (write_in st start count ws) h refl refl
    (λ q g. cond_both (writable q.access) _ _ (λ (o : Out). StopsBy start 0 q.last o.answer) (λ _. write_stops st start q.last 0 (take count ws) g) (λ _. omega arith))
    (bad_count count (length ws))

pub read_fits : (s : List ℕ) (k : Card) (start count : ℕ) (ws : List ℕ) → start < 65536 → start + processed_of (read_of s k start count ws).answer < 65536
unfolding read_of
read_fits s k start count ws h =
    stops_low (λ (f : Filled). f.answer) start (filled ws (Err BadCount)) (read_in s k start count ws) h refl refl
    (λ q g. cond_both (readable q.access) _ _ (λ (f : Filled). StopsBy start 0 q.last f.answer) (λ _. read_stops s k start q.last 0 count ws g) (λ _. omega arith))
    (bad_count count (length ws))
