-- Items that stepping gives.
use mathlib.Core.Path.{◌≡◌}
use Rattle.std.specs.Prelude.{Option, None}
use mathlib.Core.List.{List, [], ◌∷◌, ◌++◌}
use Prim.Native.Nat.{ℕ, ◌<◌}
use lib.ListN.{length, take, drop}
use Rattle.cbf_walk.specs.Parsers.{ok, Parser}
use Rattle.cbf_walk.specs.Reading.{Item, flat}

-- the items are what stepping from a state gives
unfoldable pub Good : {St Info : Type 0} → (St → Parser (Option Info × St)) → (St → Option ℕ) → St → List (Item St Info) → Type 0
Good step due st [] = due st ≡ None
Good step due st (it ∷ its) =
    (step st (it.bytes ++ flat its) ≡ ok (it.info, it.next) (length it.bytes)) × (0 < length it.bytes) × Good step due it.next its

-- the item of a step that took n bytes at `at`
abbrev pub item_at : {St Info : Type 0} → List ℕ → ℕ → Option Info × St → ℕ → Item St Info
item_at s at o n = record { bytes = take n (drop at s); info = o.0; next = o.1 }
