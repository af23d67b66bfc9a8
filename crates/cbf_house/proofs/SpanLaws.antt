-- The pieces of a span in house form, and its length. Assumes nothing.
use mathlib.Core.Path.{◌≡◌, ap}
use mathlib.Core.List.{List, [], ◌∷◌, ◌++◌, append_assoc}
use Prim.Native.Nat.{ℕ, ◌+◌, ◌≤◌}
use native.Mathlib.Omega.{arith}
use lib.ListN.{length, length-append}
use Rattle.cbf_format.specs.declared.Description.{Description}
use Rattle.cbf_format.specs.Sections.{opening, closing, marker}
use Rattle.cbf_format.specs.House.{ended, ended_lines, house_lines, house}
use Rattle.cbf_format.proofs.HouseSections.{length-house}
use Rattle.cbf_house.specs.Head.{head_text}
use Rattle.cbf_house.proofs.HeadLaws.{head-short}

four-parts : (o e m os c : List ℕ)
    → o ++ (e ++ (13 ∷ 10 ∷ (m ++ (os ++ (13 ∷ 10 ∷ c)))))
    ≡ (o ++ (e ++ (13 ∷ 10 ∷ m))) ++ (os ++ (13 ∷ 10 ∷ c))
four-parts o e m os c = simp append_assoc

module _ (d : Description) {size : ℕ} (os : List ℕ) (e : size ≡ length os) where
  -- the head, the octets, a line end and the closing boundary
  pub span-parts : house d os ≡ head_text d size ++ (os ++ ((13 ∷ 10 ∷ []) ++ closing))
  unfolding house head_text
  span-parts = rw e (four-parts (ended opening) (ended_lines (house_lines (length os) d)) marker os closing)

  pub span-size : length (house d os) ≡ length (head_text d size) + size + 33
  span-size =
      let h = head_text d size in
      let c : List ℕ = 13 ∷ 10 ∷ closing in
      omega (arith, e, ap length span-parts, length-append h (os ++ c), length-append os c)

-- how long a span is at most
pub house-short : (d : Description) (os : List ℕ) → length (house d os) ≤ 566 + length os
unfolding head_text
house-short d os =
    let lines = ended_lines (house_lines (length os) d) in
    omega (
      arith,
      length-house d os,
      head-short d (length os),
      length-append (ended opening) (lines ++ (13 ∷ 10 ∷ marker)),
      length-append lines (13 ∷ 10 ∷ marker),
    )
