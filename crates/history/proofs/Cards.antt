-- A card with one channel changed: that channel, and the others; a card with one count changed. Assumes nothing.
use mathlib.Core.Path.{◌≡◌, refl}
use Prim.Native.Nat.{ℕ, ◌<◌}
use native.Mathlib.Omega.{arith}
use lib.ListN.{length, set, length-set}
use lib.Seq.{get_or-set_same, get_or-set_other, set_out}
use borrow.Author.Tests.{lt-ltb}
use Rattle.channel.specs.declared.Channel.{Channel}
use Rattle.card.specs.declared.Card.{Card}
use Rattle.card.specs.Card.{no_channel, channel_of, with_channel, with_count}

module _ (k : Card) (c : ℕ) (ch : Channel) where
  pub channel_other : (j : ℕ) → (j ≡ c → ⊥) → channel_of (with_channel k c ch) j ≡ channel_of k j
  channel_other j d = grind (arith, get_or-set_other)

  -- what is so of the new channel and of the old one
  pub channel_either : (P : Channel → Type 0) → P ch → P (channel_of k c) → P (channel_of (with_channel k c ch) c)
  channel_either P p q = grind (arith, set_out, get_or-set_same)

  -- the new channel, where the card has four
  pub channel_same : c < 4 → length k.channels ≡ 4 → channel_of (with_channel k c ch) c ≡ ch
  channel_same h l = rw (lt-ltb c 4 h) (get_or-set_same k.channels c ch no_channel (omega arith))

  -- what the new channel leaves as it is in the changed card, it leaves
  pub channel_keeps : {A : Type 0} (f : Card → A) → f (record { edition = k.edition; channels = set k.channels c ch; counts = k.counts; active = k.active; pending = k.pending }) ≡ f k
      → f (with_channel k c ch) ≡ f k
  channel_keeps f e = grind arith

  pub channel_many : length (with_channel k c ch).channels ≡ length k.channels
  channel_many = channel_keeps (λ (x : Card). length x.channels) (length-set k.channels c ch)

module _ (k : Card) (level n : ℕ) where
  -- the same of another count
  pub count_keeps : {A : Type 0} (f : Card → A) → f (record { edition = k.edition; channels = k.channels; counts = set k.counts level n; active = k.active; pending = k.pending }) ≡ f k
      → f (with_count k level n) ≡ f k
  count_keeps f e = grind arith

  pub count_channels : (with_count k level n).channels ≡ k.channels
  count_channels = count_keeps (λ (x : Card). x.channels) refl

  pub count_many : length (with_count k level n).counts ≡ length k.counts
  count_many = count_keeps (λ (x : Card). length x.counts) (length-set k.counts level n)
