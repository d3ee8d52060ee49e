-- 'Checked examples': the starred cases of samples, one row each; and the cases of document 02, Six.
use Rattle.std.specs.Prelude.{List, [], ◌∷◌, ℕ, ◌-◌, Option, Some, None}
use Rattle.sum.specs.Ramp.{Point, ramp, ramp_steps}
use Rattle.sum.specs.declared.Edition.TheVariants.{First, Second}

-- a ramp's scale word, offset and points, and what it gives: its samples, and T
pub record Case : Type 0 where
  pub scale : ℕ
  pub offset : ℕ
  pub points : List Point
  pub samples : List (Option ℕ)
  pub steps : ℕ

abbrev case : ℕ → ℕ → List Point → List (Option ℕ) → ℕ → Case
case s o ps g t = record { scale = s; offset = o; points = ps; samples = g; steps = t }

-- a point, a sample's word, and the word of a negative number
abbrev pt : ℕ → ℕ → Point
pt v dt = record { value = v; step = dt }

abbrev w : ℕ → Option ℕ
w n = Some n

abbrev neg : ℕ → ℕ
neg n = 0x10000 - n

abbrev pub starred_samples : List Case
starred_samples =
    case 0x0100 0 (pt 0 4 ∷ pt 400 2 ∷ pt 100 0 ∷ []) (w 0 ∷ w 100 ∷ w 200 ∷ w 300 ∷ w 400 ∷ w 250 ∷ w 100 ∷ []) 6
    ∷ case 0x0080 0 (pt 0 4 ∷ pt 400 2 ∷ pt 100 0 ∷ []) (w 0 ∷ w 50 ∷ w 100 ∷ w 150 ∷ w 200 ∷ w 125 ∷ w 50 ∷ []) 6
    ∷ case 0xFF00 10 (pt 0 4 ∷ pt 400 2 ∷ pt 100 0 ∷ []) (w 10 ∷ w (neg 90) ∷ w (neg 190) ∷ w (neg 290) ∷ w (neg 390) ∷ w (neg 240) ∷ w (neg 90) ∷ []) 6
    ∷ case 0x0100 0 (pt 0 3 ∷ pt 10 0 ∷ []) (w 0 ∷ w 3 ∷ w 6 ∷ w 10 ∷ []) 3
    ∷ case 0xFF00 0 (pt 0 3 ∷ pt 10 0 ∷ []) (w 0 ∷ w (neg 4) ∷ w (neg 7) ∷ w (neg 10) ∷ []) 3
    ∷ case 0x0200 1 (pt 16383 0 ∷ []) (w 32767 ∷ []) 0
    ∷ case 0x0200 2 (pt 16383 0 ∷ []) (None ∷ []) 0
    ∷ case 0x0200 0 (pt (neg 16384) 0 ∷ []) (w (neg 32768) ∷ []) 0
    ∷ case 0x0200 (neg 1) (pt (neg 16384) 0 ∷ []) (None ∷ []) 0
    ∷ case 0x0200 (neg 32767) (pt 32767 0 ∷ []) (w 32767 ∷ []) 0
    ∷ []

-- a case with what its ramp gives, in edition 1
abbrev pub samples_given : Case → Case
samples_given c = case c.scale c.offset c.points (ramp First c.scale c.offset c.points) (ramp_steps c.points)

-- Six: a ramp's scale word and points, and its samples in edition 1 and in edition 2
pub record TwoCase : Type 0 where
  pub scale : ℕ
  pub points : List Point
  pub first : List (Option ℕ)
  pub second : List (Option ℕ)

abbrev two : ℕ → List Point → List (Option ℕ) → List (Option ℕ) → TwoCase
two s ps g h = record { scale = s; points = ps; first = g; second = h }

-- the request's own: 'sample 2 is 13 in edition 1 and 12 in edition 2'. Then, with a factor of 511/256 either way, sample 2 reaches the bound of
-- 2 and sample 0 the bound of 0
abbrev pub starred_editions : List TwoCase
starred_editions =
    two 0x0200 (pt 0 3 ∷ pt 10 0 ∷ []) (w 0 ∷ w 6 ∷ w 13 ∷ w 20 ∷ []) (w 0 ∷ w 6 ∷ w 12 ∷ w 20 ∷ [])
    ∷ two 0x01FF (pt 1 3 ∷ pt 2 0 ∷ []) (w 1 ∷ w 2 ∷ w 3 ∷ w 3 ∷ []) (w 1 ∷ w 1 ∷ w 1 ∷ w 3 ∷ [])
    ∷ two (neg 0x01FF) (pt 0 3 ∷ pt 1 0 ∷ []) (w 0 ∷ w (neg 1) ∷ w (neg 2) ∷ w (neg 2) ∷ []) (w 0 ∷ w 0 ∷ w 0 ∷ w (neg 2) ∷ [])
    ∷ []

-- a case with what its ramp gives, offset 0, in each
abbrev pub editions_given : TwoCase → TwoCase
editions_given c = two c.scale c.points (ramp First c.scale 0 c.points) (ramp Second c.scale 0 c.points)
