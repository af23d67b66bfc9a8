-- Sections of a read file, by number from 0. The span of a section is the first `width i` bytes of its item.
use Rattle.std.specs.Prelude.{Option, None, Some}
use mathlib.Core.List.{List, [], ◌∷◌}
use Prim.Native.Nat.{ℕ, zero, suc, ◌+◌, ◌≤◌}
use lib.ListN.{length}
use Rattle.cbf_walk.specs.Reading.{Item}

module _ {Info : Type 0} where
  abbrev pub nth_or : Option Info → ℕ → (ℕ → Option Info) → Option Info
  nth_or None n go = go n
  nth_or (Some i) zero go = Some i
  nth_or (Some i) (suc n) go = go n

  abbrev pub start_or : Option Info → ℕ → ℕ → (ℕ → ℕ) → ℕ
  start_or None n k go = k + go n
  start_or (Some i) zero k go = 0
  start_or (Some i) (suc n) k go = k + go n

module _ {St Info : Type 0} where
  -- the nth section, from 0
  unfoldable pub nth : ℕ → List (Item St Info) → Option Info
  nth n [] = None
  nth n (it ∷ its) = nth_or it.info n (λ m. nth m its)

  -- how many bytes stand before the nth section: all, where there is none
  unfoldable pub start_of : ℕ → List (Item St Info) → ℕ
  start_of n [] = 0
  start_of n (it ∷ its) = start_or it.info n (length it.bytes) (λ m. start_of m its)

-- each span lies in its item
abbrev pub SpanIn : {Info : Type 0} → (Info → ℕ) → Option Info → ℕ → Type 0
SpanIn width None n = Unit {0}
SpanIn width (Some i) n = width i ≤ n

unfoldable pub Spans : {St Info : Type 0} → (Info → ℕ) → List (Item St Info) → Type 0
Spans width [] = Unit {0}
Spans width (it ∷ its) = SpanIn width it.info (length it.bytes) × Spans width its
