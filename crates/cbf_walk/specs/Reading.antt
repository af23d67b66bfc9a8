-- Reading a file step by step, for any step: the items that were read, each with the very bytes that its step took,
-- or a refusal.
use Rattle.std.specs.Prelude.{◌≡◌, List, [], ◌∷◌, ◌++◌, ℕ, zero, suc, ◌+◌, ◌-◌, ◌≤◌, length, take, drop}
use Rattle.std.specs.Prelude.{Option, None, Some}
use Rattle.cbf_walk.specs.Parsers.{Res, bad, cut, ok, Parser}

-- what one step took, what it says of a section (if it was one), and the state after it
pub record Item (St Info : Type 0) : Type 0 where
  pub bytes : List ℕ
  pub info : Option Info
  pub next : St

-- refused k p: refusal k at the place p of the file
pub data Reading (A : Type 0) : Type 0 where
  refused : ℕ → ℕ → Reading A
  good : List A → Reading A

-- an item, then what reading on gave
abbrev pub cons : {A : Type 0} → A → Reading A → Reading A
cons a (refused k p) = refused k p
cons a (good l) = good (a ∷ l)

-- the items put together again
unfoldable pub flat : {St Info : Type 0} → List (Item St Info) → List ℕ
flat [] = []
flat (it ∷ its) = it.bytes ++ flat its

-- `ended` is the refusal of a file that ends too early. A state in which the file may not end has something open:
-- `due` says how many bytes back it began.
module _ {St Info : Type 0} (ended : ℕ) where
  -- the file ends after a step
  abbrev pub late : ℕ → Option ℕ → Reading (Item St Info)
  late off None = good []
  late off (Some d) = refused ended (off - d)

  -- the file ends inside a step: refused where that step began, or where what is open began
  abbrev pub broke : ℕ → Option ℕ → Reading (Item St Info)
  broke off None = refused ended off
  broke off (Some d) = refused ended (off - d)

  -- the step from the place `off`, on the bytes s, gave r: `go` reads on
  abbrev pub turn : ℕ → Option ℕ → List ℕ → Res (Option Info × St) → (ℕ → St → List ℕ → Reading (Item St Info)) → Reading (Item St Info)
  turn off d s (bad k p) go = refused k (off + p)
  turn off d s cut go = broke off d
  turn off d s (ok o n) go = cons (record { bytes = take n s; info = o.0; next = o.1 }) (go (off + n) o.1 (drop n s))

  -- read the bytes from the place `off` on, in a state. The first number bounds the steps. With as many steps as
  -- bytes the second line is never the answer, where each step moves: more steps then change nothing (`fuel` in the
  -- laws).
  unfoldable pub read_f : (St → Parser (Option Info × St)) → (St → Option ℕ) → ℕ → ℕ → St → List ℕ → Reading (Item St Info)
  read_f step due zero off st [] = late off (due st)
  read_f step due zero off st (x ∷ xs) = refused ended 0
  read_f step due (suc f) off st [] = late off (due st)
  read_f step due (suc f) off st (x ∷ xs) = turn off (due st) (x ∷ xs) (step st (x ∷ xs)) (λ o t s. read_f step due f o t s)

-- ---- a loop that reads: the whole file s, a place `at` in it, and a bound f that is never met

-- items, then what reading on gave
unfoldable pub onto : {A : Type 0} → List A → Reading A → Reading A
onto [] r = r
onto (a ∷ l) r = cons a (onto l r)

module _ {St Info : Type 0} (ended : ℕ) (step : St → Parser (Option Info × St)) (due : St → Option ℕ) (f : ℕ) (s : List ℕ) where
  -- what reading on from `at` gives
  abbrev pub from : ℕ → St → Reading (Item St Info)
  from at st = read_f ended step due f at st (drop at s)

  -- from the state st₀ at 0, reading has come to the state st at `at`, and has read the items `done`
  pub record Reached (st₀ : St) (done : List (Item St Info)) (at : ℕ) (st : St) : Type 0 where
    pub so_far : read_f ended step due f 0 st₀ s ≡ onto done (from at st)
    pub behind : flat done ≡ take at s
    pub inside : at ≤ length s
