-- A transfer's answer is in one row of the table (`write_answered`, `read_answered`), and no answer is in two (`one_row`). Assumes nothing.
use Rattle.std.specs.Prelude.{Option, Some, None, Result}
use mathlib.Core.Path.{◌≡◌, refl}
use mathlib.Core.Bool.{Bool, true, false, not}
use mathlib.Core.List.{List, [], ◌∷◌}
use Prim.Native.Nat.{ℕ, ◌+◌, ◌/◌, ◌%◌, ◌≤◌, ◌<◌}
use native.Mathlib.Omega.{arith}
use lib.Dec.{ltb}
use lib.ListN.{get_or, take}
use borrow.Author.Tests.{ltb-false}
use Rattle.map.specs.declared.Access.{Access}
use Rattle.map.specs.declared.Region.{Region}
use Rattle.map.specs.declared.Register.{Register}
use Rattle.map.specs.declared.Register.TheVariants as R
use Rattle.map.specs.Map.{channel_rows, base, region_of, register_of, accepted_at}
use Rattle.map.specs.Settings.{is_fixed}
use Rattle.map.proofs.Rows.{found}
use Rattle.map.proofs.Blocks.{channel_ordered, in_channel}
use Rattle.map.proofs.Regions.{lies, same_region}
use Rattle.card.specs.declared.Card.{Card}
use Rattle.card.specs.Card.{State}
use Rattle.transfer.specs.Word.{held_at, running_at}
use Rattle.transfer.specs.Transfer.{number_of, processed_of, writable, write_of, read_of}
use Rattle.history.specs.History.{done_from}
use Rattle.history.specs.Numbers.{case, first, once, to_write, write_refusal, Given, Once, Stopped, All, Exact, WriteAnswered, ReadAnswered}
use Rattle.history.proofs.Addresses.{Sits, sits}
use Rattle.history.proofs.Writing.{written}
use Rattle.history.proofs.Reading.{was_read}
use Rattle.transfer.specs.declared.Refusal.{Refusal}

-- the words before a refused one are not refused
clash : {P : Type 0} (f : ℕ → ℕ) (p n : ℕ) → f p ≡ n → 1 ≤ n → f p ≡ 0 → P
clash f p n e h z = absurd (omega arith)

one_row : (o : ℕ) (f : ℕ → ℕ) (count n p m q : ℕ) → Given o f count n p → Given o f count m q → (n ≡ m) × (p ≡ q)
one_row o f count n p m q (Once a b c) (Once d e g) = (omega arith, omega arith)
one_row o f count n p m q (Once a b c) (Stopped d e g h i) = absurd (omega arith)
one_row o f count n p m q (Once a b c) (All d e g h) = absurd (omega arith)
one_row o f count n p m q (Stopped a b c d e) (Once g h i) = absurd (omega arith)
one_row o f count n p m q (Stopped a b c d e) (Stopped g h i j k) = grind arith
one_row o f count n p m q (Stopped a b c d e) (All g h i j) = clash f p n d e (h p b)
one_row o f count n p m q (All a b c d) (Once g h i) = absurd (omega arith)
one_row o f count n p m q (All a b c d) (Stopped g h i j k) = clash f q m j k (b q h)
one_row o f count n p m q (All a b c d) (All g h i j) = (omega arith, omega arith)

exactly : (o : ℕ) (f : ℕ → ℕ) (count : ℕ) (w : Result ℕ Refusal) → Given o f count (number_of w) (processed_of w) → Exact o f count w
exactly o f count w g = record { given = g; only = λ n p h. one_row o f count n p (number_of w) (processed_of w) h g }

-- ---- 8 is of A04, a region of one word

output_alone : (c : ℕ) → c < 4 → (q : Region) → region_of (base c + 0xA04) ≡ Some q → q.first ≡ base c + 0xA04
unfolding channel_rows
output_alone c h q e =
    let d : (base c + 0xA04) / 0x1000 ≡ c = omega arith in
    let m : (base c + 0xA04) % 0x1000 ≡ 0xA04 = omega arith in
    let f = found 0 channel_rows channel_ordered 13 0xA04 (omega arith) (omega arith) (omega arith) in
    cc (rw (in_channel (base c + 0xA04) (omega arith), d, m, f) at e)

-- the address of an output whose ramp runs
record Output (a : ℕ) : Type 0 where
  channel : ℕ
  inside : channel < 4
  is : a ≡ base channel + 0xA04

running_output : (k : Card) (r : Register) (a : ℕ) → Sits r a → running_at k r ≡ true → Output a
running_output k (R.Output c) a i e = record { channel = c; inside = i.0; is = i.1 }
running_output k _ a i e = absurd cc

-- a word refused with 8 is at an output, in the region
eighth : (q : Region) (x : State) (a v : ℕ) → first (to_write (Some q) x a v) ≡ 8 → (a ≤ q.last) × Output a
eighth q x a v =
    go (ltb q.last a) refl (is_fixed (register_of a)) (not (accepted_at a v)) (held_at x.settings (register_of a) v) (running_at x.card (register_of a)) refl
  where
    go : (b : Bool) → ltb q.last a ≡ b → (f w h k : Bool) → running_at x.card (register_of a) ≡ k
        → first (case 4 b ∷ case 5 f ∷ case 6 w ∷ case 7 h ∷ case 8 k ∷ []) ≡ 8 → (a ≤ q.last) × Output a
    go false e false false false true i g = (ltb-false q.last a e, running_output x.card (register_of a) a (sits a) i)
    go false e false false false false i g = absurd (omega arith)
    go false e false false true k i g = absurd (omega arith)
    go false e false true h k i g = absurd (omega arith)
    go false e true w h k i g = absurd (omega arith)
    go true e f w h k i g = absurd (omega arith)

-- without a region 1 or 2 is given
no_region_once : (may : Access → Bool) (count : ℕ) (ws : List ℕ) → 1 ≤ first (once may None count ws)
no_region_once may count ws = grind arith

eight_alone : (st : State) (start count : ℕ) (ws : List ℕ) (p : ℕ)
    → Given (first (once writable (region_of start) count ws)) (write_refusal (region_of start) st start ws) count 8 p → p ≡ 0
eight_alone st start count ws p (Once a b c) = c
eight_alone st start count ws p (Stopped a b c d e) = go (region_of start) refl a d
  where
    at_output : (q : Region) → region_of start ≡ Some q → (start + p ≤ q.last) × Output (start + p) → p ≡ 0
    at_output q f y =
        let l = lies start q f in
        let o = y.1 in
        let z = output_alone o.channel o.inside q (rw o.is at (same_region start (start + p) q f (omega arith) y.0)) in
        omega (arith, o.is)

    go : (r : Option Region) → region_of start ≡ r → first (once writable r count ws) ≡ 0 → write_refusal r st start ws p ≡ 8 → p ≡ 0
    go None f g h = let z = no_region_once writable count ws in absurd (omega arith)
    go (Some q) f g h = at_output q f (eighth q (done_from st start (take p ws)) (start + p) (get_or ws p 0) h)
eight_alone st start count ws p (All a b c d) = absurd (omega arith)

eight_first : (st : State) (start count : ℕ) (ws : List ℕ) (n p : ℕ)
    → Given (first (once writable (region_of start) count ws)) (write_refusal (region_of start) st start ws) count n p → n ≡ 8 → p ≡ 0
eight_first st start count ws n p g e = eight_alone st start count ws p (rw e at g)

-- EVERY TRANSFER GETS ITS NUMBER, EXACTLY IN ITS CASE
pub write_answered : (st : State) (start count : ℕ) (ws : List ℕ) → WriteAnswered st start count ws (write_of st start count ws)
write_answered st start count ws =
    let y = written st start count ws in
    record { exact = exactly _ _ count _ y.given; done = y.done; eight = eight_first st start count ws _ _ y.given }

pub read_answered : (st : State) (start count : ℕ) (ws : List ℕ) → ReadAnswered st start count ws (read_of st.settings st.card start count ws)
read_answered st start count ws =
    let y = was_read st start count ws in
    record { exact = exactly _ _ count _ y.given; long = y.long; words = y.words; rest = y.rest }
