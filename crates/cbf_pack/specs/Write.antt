-- The octets of pixels, written. Nothing here is part of what the public calls promise.
use Rattle.std.specs.Prelude.{ℕ, ◌+◌, ◌^◌, ◌<◌, ◌≤◌, ◌≡◌, List, [], ◌∷◌, length, ℤ, nat_abs}
use Rattle.std.proofs.lemmas.List.Edits.{sets}
use Rattle.cbf_pixels.specs.Pixels.{pack_from}
use Rattle.cbf_measure.specs.Measure.{part}
use Rattle.cbf_measure.specs.Window.{WindowRun}

-- a pixel of some type
abbrev pub Small : ℤ → Type 0
Small z = nat_abs z < 2 ^ 33

abbrev pub AllSmall : List ℤ → Type 0
AllSmall [] = Unit {0}
AllSmall (z ∷ zs) = Small z × AllSmall zs

-- the octets of the n pixels from k on, after last, have room from at on
pub record Writable (ps : List ℤ) (k n : ℕ) (last : ℤ) (out : List ℕ) (at : ℕ) : Type 0 where
  pub small : AllSmall ps
  pub before : Small last
  pub pixels : k + n ≤ length ps
  pub room : at + length (pack_from last (part ps k n)) ≤ length out

abbrev pub WritableAll : List ℤ → ℤ → List ℕ → ℕ → Type 0
WritableAll ps last out at = Writable ps 0 (length ps) last out at

-- pixels of some type in the window of last, in blocks of 32
pub record InOneWindow (ps : List ℤ) (last : ℤ) : Type 0 where
  pub small : AllSmall ps
  pub before : Small last
  pub run : WindowRun ps 0 last (length ps)

-- they were written there, giving out', and the next ones go to next
pub record Wrote (ps : List ℤ) (k n : ℕ) (last : ℤ) (out : List ℕ) (at : ℕ) (out' : List ℕ) (next : ℕ) : Type 0 where
  pub octets : out' ≡ sets out at (pack_from last (part ps k n))
  pub after : next ≡ at + length (pack_from last (part ps k n))

abbrev pub WroteAll : List ℤ → ℤ → List ℕ → ℕ → List ℕ → ℕ → Type 0
WroteAll ps last out at out' next = Wrote ps 0 (length ps) last out at out' next

-- the same, with octets behind them that are written over later, at most limit: without those it is clean
pub record WroteOver (ps : List ℤ) (k n : ℕ) (last : ℤ) (out : List ℕ) (at : ℕ) (out' : List ℕ) (next limit : ℕ) : Type 0 where
  pub clean : List ℕ
  pub wrote : Wrote ps k n last out at clean next
  pub behind : List ℕ
  pub few : length behind ≤ limit
  pub seven : length behind ≤ 7
  pub is : out' ≡ sets clean next behind
