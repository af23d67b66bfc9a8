-- Induction over items, and where spans lie. Assumes nothing.
use mathlib.Core.Path.{◌≡◌, ap}
use Rattle.std.specs.Prelude.{Option, None, Some}
use Rattle.std.proofs.lemmas.Option.{none-some}
use mathlib.Core.List.{List, [], ◌∷◌, ◌++◌}
use Prim.Native.Nat.{ℕ, zero, suc, ◌+◌, ◌≤◌}
use native.Mathlib.Omega.{arith}
use lib.ListN.{length, length-append}
use Rattle.cbf_walk.specs.Parsers.{ok, Parser}
use Rattle.cbf_walk.specs.Reading.{Item, flat}
use Rattle.cbf_walk.proofs.Good.{Good}
use Rattle.cbf_walk.proofs.Sections.{nth, start_of, Spans}

-- an item of these bytes and next state
abbrev pub item : {St Info : Type 0} → Item St Info → Option Info → Item St Info
item it o = record { bytes = it.bytes; info = o; next = it.next }

-- induction over items, where the first is a section or is none
module _ {St Info : Type 0} where
  abbrev pub Plain : (List (Item St Info) → Type 0) → Type 0
  Plain P = (it : Item St Info) (its : List (Item St Info)) → P its → P (item it None ∷ its)

  abbrev pub Section : (List (Item St Info) → Type 0) → Type 0
  Section P = (it : Item St Info) (a : Info) (its : List (Item St Info)) → P its → P (item it (Some a) ∷ its)

  pub by-items : (P : List (Item St Info) → Type 0) → P [] → Plain P → Section P → (its : List (Item St Info)) → P its
  by-items P e p s [] = e
  by-items P e p s (it ∷ its) = go it.info (by-items P e p s its)
    where
      go : (o : Option Info) → P its → P (item it o ∷ its)
      go None ih = p it its ih
      go (Some a) ih = s it a its ih

-- ---- spans

module _ {St Info : Type 0} (width : Info → ℕ) where
  -- a span lies in the file
  abbrev Inside : List (Item St Info) → Type 0
  Inside its = (n : ℕ) (i : Info) → nth n its ≡ Some i → Spans width its → start_of n its + width i ≤ length (flat its)

  pub span-inside : (its : List (Item St Info)) → Inside its
  unfolding flat nth start_of Spans
  span-inside = by-items Inside
      (λ n i e g. absurd (none-some i e))
      (λ it its ih n i e g. omega (arith, ih n i e g.1, length-append it.bytes (flat its))) go
    where
      go : Section Inside
      go it a its ih zero i e g =
          let q : a ≡ i = cc in omega (arith, ap width q, g.0, length-append it.bytes (flat its))
      go it a its ih (suc n) i e g = omega (arith, ih n i e g.1, length-append it.bytes (flat its))

  -- good items have their spans, where the step sees to it
  pub spans : (step : St → Parser (Option Info × St)) (due : St → Option ℕ)
      → ((st t : St) (b r : List ℕ) (i : Info) → step st (b ++ r) ≡ ok (Some i, t) (length b) → width i ≤ length b)
      → (its : List (Item St Info)) (st : St) → Good step due st its → Spans width its
  unfolding flat Good Spans
  spans step due in-it = by-items (λ its. (st : St) → Good step due st its → Spans width its)
      (λ st g. tt)
      (λ it its ih st g. (tt, ih it.next g.2))
      (λ it a its ih st g. (in-it st it.next it.bytes (flat its) a g.0, ih it.next g.2))
