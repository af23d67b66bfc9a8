-- Many sections rewritten at once.
use mathlib.Core.Path.{◌≡◌}
use Rattle.std.specs.Prelude.{Option, None, Some}
use mathlib.Core.List.{List, [], ◌∷◌, ◌++◌}
use Prim.Native.Nat.{ℕ, zero, suc, ◌+◌, ◌≤◌, ◌<◌}
use lib.ListN.{length, drop}
use lib.Seq.{slice}
use Rattle.cbf_walk.specs.Parsers.{ok, Parser, hd}
use Rattle.cbf_walk.specs.Reading.{Item}
use Rattle.cbf_walk.specs.Exchange.{Exchange}

-- for each section, by its number and by what was read of it: whether it stays, or its new span and what is then read
-- of it
abbrev pub Chosen : Type 0 → Type 0
Chosen Info = Option (List ℕ × Info)

abbrev pub Choice : Type 0 → Type 0
Choice Info = ℕ → Info → Chosen Info

module _ {Info : Type 0} where
  -- what is read of a section then, and its item's bytes, of which the first k are the span
  abbrev pub chosen_info : Chosen Info → Info → Info
  chosen_info None i = i
  chosen_info (Some wv) i = wv.1

  abbrev pub chosen_item : Chosen Info → ℕ → List ℕ → List ℕ
  chosen_item None k b = b
  chosen_item (Some wv) k b = wv.0 ++ drop k b

module _ {St Info : Type 0} (width : Info → ℕ) where
  abbrev pub renewed : Chosen Info → Item St Info → Info → Item St Info
  renewed o it i =
      record { bytes = chosen_item o (width i) it.bytes; info = Some (chosen_info o i); next = it.next }

  abbrev pub rewrite_or : Choice Info → Option Info → ℕ → Item St Info → (ℕ → List (Item St Info)) → List (Item St Info)
  rewrite_or c None n it go = it ∷ go n
  rewrite_or c (Some i) n it go = renewed (c n i) it i ∷ go (suc n)

  -- each section as it is chosen, where the first of these has number n; every other item as it was
  unfoldable pub rewrite : Choice Info → ℕ → List (Item St Info) → List (Item St Info)
  rewrite c n [] = []
  rewrite c n (it ∷ its) = rewrite_or c it.info n it (λ m. rewrite c m its)

-- first c, and then d, which sees what c gave
module _ {Info : Type 0} where
  abbrev pub then_or : (List ℕ × Info) → Chosen Info → Chosen Info
  then_or wv None = Some wv
  then_or wv (Some e) = Some e

  abbrev pub after_or : Choice Info → ℕ → Info → Chosen Info → Chosen Info
  after_or d n i None = d n i
  after_or d n i (Some wv) = then_or wv (d n wv.1)

  abbrev pub and_then : Choice Info → Choice Info → Choice Info
  and_then c d n i = after_or d n i (c n i)

-- ---- the spans that are chosen

module _ {Info : Type 0} where
  abbrev pub span_or : (Info → ℕ) → Chosen Info → ℕ → Info → List Exchange → List Exchange
  span_or width None at i xs = xs
  span_or width (Some wv) at i xs = record { from = at; to = at + width i; new = wv.0 } ∷ xs

  abbrev pub spans_or : (Info → ℕ) → Choice Info → Option Info → ℕ → ℕ → (ℕ → List Exchange) → List Exchange
  spans_or width c None n at go = go n
  spans_or width c (Some i) n at go = span_or width (c n i) at i (go (suc n))

module _ {St Info : Type 0} where
  -- the spans, of items whose bytes start at a place
  unfoldable pub chosen_spans : (Info → ℕ) → Choice Info → ℕ → ℕ → List (Item St Info) → List Exchange
  chosen_spans width c n at [] = []
  chosen_spans width c n at (it ∷ its) =
      spans_or width c it.info n at (λ m. chosen_spans width c m (at + length it.bytes) its)

  abbrev pub before_or : Option Info → ℕ → Item St Info → (ℕ → List (Item St Info)) → List (Item St Info)
  before_or None m it go = it ∷ go m
  before_or (Some i) zero it go = []
  before_or (Some i) (suc m) it go = it ∷ go m

  -- the items before section m
  unfoldable pub before : ℕ → List (Item St Info) → List (Item St Info)
  before m [] = []
  before m (it ∷ its) = before_or it.info m it (λ k. before k its)

-- the new span of section i is read where the old one was, with the same state after it, and begins with the same byte
pub record Lawful {St Info : Type 0} (step : St → Parser (Option Info × St)) (width : Info → ℕ)
    (i : Info) (wv : List ℕ × Info) : Type 0 where
  pub reads : (st t : St) (b r : List ℕ) → step st (b ++ r) ≡ ok (Some i, t) (length b)
      → step st ((wv.0 ++ drop (width i) b) ++ r) ≡ ok (Some wv.1, t) (length (wv.0 ++ drop (width i) b))
  pub some_byte : 0 < length wv.0
  pub same_byte : (st t : St) (b r q : List ℕ) → step st (b ++ r) ≡ ok (Some i, t) (length b)
      → hd (wv.0 ++ q) ≡ hd (b ++ r)

-- of a file and a new one: `ys` of the new file stand where `xs` of the file stood, with what those were exchanged for,
-- and the bytes before each of them, from the place `at` (`at'` in the new file) or from the one before, are the same
pub record SameBefore (file new : List ℕ) (at : ℕ) (x : Exchange) (at' : ℕ) (y : Exchange) : Type 0 where
  pub in_order : at ≤ x.from
  pub new_order : at' ≤ y.from
  pub same : slice at' y.from new ≡ slice at x.from file
  pub not_less : y.from ≤ y.to
  pub is_new : slice y.from y.to new ≡ x.new

abbrev pub SameOutside : List ℕ → List ℕ → ℕ → List Exchange → ℕ → List Exchange → Type 0
SameOutside file new at [] at' [] = drop at' new ≡ drop at file
SameOutside file new at [] at' (y ∷ ys) = ⊥
SameOutside file new at (x ∷ xs) at' [] = ⊥
SameOutside file new at (x ∷ xs) at' (y ∷ ys) =
    SameBefore file new at x at' y × SameOutside file new x.to xs y.to ys
