-- One part of a list stored behind another. Assumes nothing.
use Prim.Native.Nat.{ℕ, suc, ◌+◌}
use native.Mathlib.Omega.{arith}
use mathlib.Core.Path.{◌≡◌, ap, ◌∙◌, sym}
use mathlib.Core.List.{List, [], ◌∷◌, ◌++◌}
use lib.ListN.{length, set}
use lib.Seq.{sets}

-- one run of stores after another
pub sets-append : {A : Type 0} (l : List A) (i : ℕ) (a b : List A) → sets (sets l i a) (i + length a) b ≡ sets l i (a ++ b)
sets-append l i [] b = ap (λ (k : ℕ). sets l k b) (omega arith)
sets-append l i (x ∷ a) b = ap (λ (k : ℕ). sets (sets (set l i x) (suc i) a) k b) (omega arith) ∙ sets-append (set l i x) (suc i) a b

-- the same, by the number of the first
pub sets_then : (l : List ℕ) (i n : ℕ) (xs ys : List ℕ) → length xs ≡ n → sets (sets l i xs) (i + n) ys ≡ sets l i (xs ++ ys)
sets_then l i n xs ys e = ap (λ (k : ℕ). sets (sets l i xs) (i + k) ys) (sym e) ∙ sets-append l i xs ys
