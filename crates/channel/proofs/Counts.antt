-- A countdown that falls by one and one that a trigger sets, as the code tells the cases apart. Assumes nothing.
use Rattle.std.proofs.Common.{◌≡◌, ℕ, ◌-◌, ◌<◌, ◌≤◌, List, ap, arith, eq-eqb, ne_eqb}
use Rattle.sum.specs.declared.Edition.{Edition}
use Rattle.map.specs.Addresses.{delay_at}
use Rattle.channel.specs.declared.Channel.{Channel}
use Rattle.channel.specs.declared.Ramp.{Ramp}
use Rattle.channel.specs.declared.Phase.TheVariants.{Counting}
use Rattle.channel.specs.Ramp.{advance}
use Rattle.channel.specs.Channel.{side, move, quiet, with, word, first_of, lead, load, start, count_to, countdown, counting, triggered}

module _ (ed : Edition) (s l : List ℕ) (c : ℕ) (ch : Channel) (older : Ramp) (n : ℕ) where
  -- the countdown reaches 0, reaches 10, or neither
  pub at_start : n ≤ 1 → count_to ed (n - 1) older s l c ch ≡ start ed s l c ch
  unfolding count_to
  at_start h = rw (eq-eqb (n - 1) 0 (omega arith))

  pub at_load : n ≡ 11 → count_to ed (n - 1) older s l c ch ≡ quiet (load s l c ch ch.level)
  unfolding count_to
  at_load h = rw (ne_eqb (n - 1) 0 (λ e. absurd (omega arith)), eq-eqb (n - 1) lead (omega arith))

  pub on : 1 < n → (n ≡ 11 → ⊥)
      → count_to ed (n - 1) older s l c ch
      ≡ move (with ch (Counting (record { 0 = n - 1 }) (advance ed l (first_of c) ch.loaded older ch.shown).ramp) (advance ed l (first_of c) ch.loaded older ch.shown).shown) l (advance ed l (first_of c) ch.loaded older ch.shown).gave
  unfolding count_to
  on h k = rw (ne_eqb (n - 1) 0 (λ e. absurd (omega arith)), ne_eqb (n - 1) lead (λ e. k (omega arith)))

module _ (s l : List ℕ) (c : ℕ) (ch : Channel) (level : ℕ) where
  -- a delay of at most 10 loads at once; a longer one counts
  pub at_once : word s (delay_at c level) ≤ 10 → triggered s l c ch level ≡ load s l c ch level
  unfolding triggered
  at_once h = rw (eq-eqb (countdown s c level) lead (omega arith))

  pub later : 10 < word s (delay_at c level)
      → triggered s l c ch level ≡ side (counting ch level (word s (delay_at c level))) l
  unfolding triggered
  later h =
      let e : countdown s c level ≡ word s (delay_at c level) = omega arith in
      rw (ne_eqb (countdown s c level) lead (λ q. absurd (omega arith)))
      (ap (λ (d : ℕ). side (counting ch level d) l) e)
