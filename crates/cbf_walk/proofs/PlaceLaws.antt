-- Which numbers a parser refuses with, and that the place lies in its bytes: for each combinator, and for reading.
-- Assumes nothing.
use mathlib.Core.Path.{◌≡◌, refl, subst}
use Rattle.std.specs.Prelude.{Option, None, Some}
use mathlib.Core.Bool.{Bool, true, false, cond}
use mathlib.Core.List.{List, [], ◌∷◌}
use Prim.Native.Nat.{ℕ, zero, suc, ◌+◌, ◌≤◌}
use native.Mathlib.Omega.{arith}
use lib.ListN.{length, take, drop, length-drop}
use Rattle.cbf_walk.specs.Parsers.{Res, bad, cut, ok, Parser, ret, plus, counted, screen_or, screen, blame}
use Rattle.cbf_walk.specs.Parsers.{onward, then, bind}
use Rattle.cbf_walk.proofs.Tame.{Tame}
use Rattle.cbf_walk.specs.Reading.{Item, Reading, refused, good, cons, late, broke, turn, read_f}
use Rattle.cbf_walk.proofs.ParserLaws.{unbind}

-- ---- what is said of values: P holds of each value that a parser gives, and of the count of the bytes that it took

abbrev pub Gives : {A : Type 0} → (A → ℕ → Type 0) → Parser A → Type 0
Gives {A} P p = (s : List ℕ) (a : A) (n : ℕ) → p s ≡ ok a n → P a n

pub bind-gives : {A B : Type 0} {P : A → ℕ → Type 0} (Q : B → ℕ → Type 0) (p : Parser A) (f : A → Parser B) → Gives P p
    → ((a : A) (n : ℕ) → P a n → Gives (λ c m. Q c (n + m)) (f a)) → Gives Q (bind p f)
bind-gives Q p f gp gf s c n e =
    let u = unbind p f s c n e in
    subst (Q c) u.sum (gf u.val u.first (gp s u.val u.first u.did) (drop u.first s) c u.second u.then_did)

-- ---- refusals, with a number of which `number` holds

module _ (number : ℕ → Type 0) where
  -- a refusal is one of these, at one of the first m bytes or at their end
  abbrev pub Within : {A : Type 0} → ℕ → Res A → Type 0
  Within m (bad k p) = number k × (p ≤ m)
  Within m cut = Unit {0}
  Within m (ok a n) = Unit {0}

  -- the same of what a test says
  pub data TestWithin (m : ℕ) : Option (ℕ × ℕ) → Type 0 where
    passes : TestWithin m None
    refuses : {k p : ℕ} → number k → p ≤ m → TestWithin m (Some (k, p))

  -- the same of a file that is read
  abbrev pub ReadingWithin : {A : Type 0} → ℕ → Reading A → Type 0
  ReadingWithin m (refused k p) = number k × (p ≤ m)
  ReadingWithin m (good l) = Unit {0}

  -- a parser refuses in the bytes that it is given
  pub record RefusesWithin {A : Type 0} (p : Parser A) : Type 0 where
    pub places : (s : List ℕ) → Within (length s) (p s)

module _ {number : ℕ → Type 0} where
  pub cond-within : {m : ℕ} (b : Bool) {o o' : Option (ℕ × ℕ)} → TestWithin number m o → TestWithin number m o' → TestWithin number m (cond b o o')
  cond-within true t t' = t
  cond-within false t t' = t'

  module _ {A : Type 0} where
    pub ret-within : (a : A) → RefusesWithin number (ret a)
    ret-within a = record { places = λ s. tt }

    pub cut-within : RefusesWithin number {A = A} (λ s. cut)
    cut-within = record { places = λ s. tt }

    pub counted-within : {p : Parser A} → RefusesWithin number p → RefusesWithin number (λ s. counted (p s))
    counted-within {p} r = record { places = λ s. go (length s) (p s) (r.places s) }
      where
        go : (m : ℕ) (x : Res A) → Within number m x → Within number m (counted x)
        go m (bad k q) h = h
        go m cut h = tt
        go m (ok a n) h = tt

    -- the test refuses in the bytes that were taken
    pub screen-within : (c : A → Option (ℕ × ℕ)) {p : Parser A} → Tame p → RefusesWithin number p → Gives (λ a n. TestWithin number n (c a)) p
        → RefusesWithin number (λ s. screen c (p s))
    screen-within c {p} t r g = record { places = λ s. go s (p s) refl (r.places s) }
      where
        tested : (m n : ℕ) → n ≤ m → (a : A) (o : Option (ℕ × ℕ)) → TestWithin number n o → Within number m (screen_or o a n)
        tested m n l a o passes = tt
        tested m n l a o (refuses h q) = (h, omega arith)

        go : (s : List ℕ) (x : Res A) → p s ≡ x → Within number (length s) x → Within number (length s) (screen c x)
        go s (bad k q) e h = h
        go s cut e h = tt
        go s (ok a n) e h = tested (length s) n (t.within s a n e) a (c a) (g s a n e)

    pub blame-within : (k : ℕ) → number k → (p : Parser A) → RefusesWithin number (λ s. blame k (p s))
    blame-within k h p = record { places = λ s. go (length s) (p s) }
      where
        go : (m : ℕ) (x : Res A) → Within number m (blame k x)
        go m (bad j q) = (h, omega arith)
        go m cut = (h, omega arith)
        go m (ok a n) = tt

    pub onward-within : {p : Parser A} → RefusesWithin number p → RefusesWithin number (onward p)
    onward-within {p} r = record { places = go }
      where
        go : (s : List ℕ) → Within number (length s) (onward p s)
        go [] = tt
        go (x ∷ xs) = r.places (x ∷ xs)

  pub bind-within : {A B : Type 0} (p : Parser A) (f : A → Parser B) → Tame p → RefusesWithin number p → ((a : A) → RefusesWithin number (f a))
      → RefusesWithin number (bind p f)
  bind-within {A} {B} p f t rp rf = record { places = λ s. go s (p s) refl (rp.places s) }
    where
      later : (m n l : ℕ) → n + l ≤ m → (x : Res B) → Within number l x → Within number m (plus n x)
      later m n l e (bad k q) h = (h.0, omega (arith, e, h.1))
      later m n l e cut h = tt
      later m n l e (ok c j) h = tt

      go : (s : List ℕ) (x : Res A) → p s ≡ x → Within number (length s) x → Within number (length s) (then x f s)
      go s (bad k q) e h = h
      go s cut e h = tt
      go s (ok a n) e h =
          later (length s) n (length (drop n s)) (omega (arith, t.within s a n e, length-drop n s)) (f a (drop n s)) ((rf a).places (drop n s))

  -- ---- reading

  module _ {St Info : Type 0} (ended : ℕ) (step : St → Parser (Option Info × St)) (due : St → Option ℕ) (is_number : number ended)
      (tame : (st : St) → Tame (step st)) (inside : (st : St) → RefusesWithin number (step st)) (m : ℕ) where
    late-within : (off : ℕ) → off ≤ m → (d : Option ℕ) → ReadingWithin number m (late {St = St} {Info = Info} ended off d)
    late-within off l None = tt
    late-within off l (Some d) = (is_number, omega arith)

    broke-within : (off : ℕ) → off ≤ m → (d : Option ℕ) → ReadingWithin number m (broke {St = St} {Info = Info} ended off d)
    broke-within off l None = (is_number, l)
    broke-within off l (Some d) = (is_number, omega arith)

    cons-within : (it : Item St Info) (r : Reading (Item St Info)) → ReadingWithin number m r → ReadingWithin number m (cons it r)
    cons-within it (refused k p) h = h
    cons-within it (good l) h = tt

    -- from the place `off` in a file of m bytes
    pub read-within : (f off : ℕ) (st : St) (s : List ℕ) → off + length s ≤ m → ReadingWithin number m (read_f ended step due f off st s)
    unfolding read_f
    read-within zero off st [] l = late-within off (omega arith) (due st)
    read-within zero off st (x ∷ xs) l = (is_number, omega arith)
    read-within (suc f) off st [] l = late-within off (omega arith) (due st)
    read-within (suc f) off st (x ∷ xs) l = go (step st (x ∷ xs)) refl ((inside st).places (x ∷ xs)) (λ o t s l. read-within f o t s l)
      where
        go : (y : Res (Option Info × St)) → step st (x ∷ xs) ≡ y → Within number (length (x ∷ xs)) y
            → ((o : ℕ) (t : St) (s : List ℕ) → o + length s ≤ m → ReadingWithin number m (read_f ended step due f o t s))
            → ReadingWithin number m (turn ended off (due st) (x ∷ xs) y (λ o t s. read_f ended step due f o t s))
        go (bad k p) e h ih = (h.0, omega (arith, l, h.1))
        go cut e h ih = broke-within off (omega arith) (due st)
        go (ok o n) e h ih =
            cons-within (record { bytes = take n (x ∷ xs); info = o.0; next = o.1 }) (read_f ended step due f (off + n) o.1 (drop n (x ∷ xs)))
            (ih (off + n) o.1 (drop n (x ∷ xs)) (omega (arith, l, (tame st).within (x ∷ xs) o n e, length-drop n (x ∷ xs))))
