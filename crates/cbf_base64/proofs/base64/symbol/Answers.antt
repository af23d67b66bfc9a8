-- By the range that the byte is in.
use Rattle.std.proofs.Common.{Bool, true, false, ◌&&◌, ℕ, ◌≡◌, ◌≤◌, refl, arith, leb}
use borrow.Author.Tests.{leb-true, le-leb, ne_eqb}
use mathlib.Core.Logic.{⊎_elim}
use Rattle.cbf_format.specs.Base64.{symbol}
use Rattle.cbf_format.specs.declared.Symbol.TheVariants.{Other}
use Rattle.cbf_base64.proofs.base64.symbol.Goals as goal

-- a byte in a range, and one outside it
within : (a b x : ℕ) → a ≤ x → x ≤ b → (leb a x && leb x b) ≡ true
within a b x h l = rw (le-leb a x h, le-leb x b l)

outside : (a b x : ℕ) → (a ≤ x → x ≤ b → ⊥) → (leb a x && leb x b) ≡ false
outside a b x h = go (leb a x) refl (leb x b) refl
  where
    go : (s : Bool) → leb a x ≡ s → (t : Bool) → leb x b ≡ t → (s && t) ≡ false
    go true p true q = absurd (h (leb-true a x p) (leb-true x b q))
    go true p false q = refl
    go false p t q = refl

other : (x : ℕ) → (x ≡ 43 → ⊥) → (x ≡ 47 → ⊥) → (x ≡ 61 → ⊥) → (x ≡ 9 → ⊥) → (x ≡ 32 → ⊥)
    → (65 ≤ x → x ≤ 90 → ⊥) → (97 ≤ x → x ≤ 122 → ⊥) → (48 ≤ x → x ≤ 57 → ⊥) → Other ≡ symbol x
unfolding symbol
other x n43 n47 n61 n9 n32 upper lower digit =
    rw (
      outside 65 90 x upper,
      outside 97 122 x lower,
      outside 48 57 x digit,
      ne_eqb x 43 n43,
      ne_eqb x 47 n47,
      ne_eqb x 61 n61,
      ne_eqb x 9 n9,
      ne_eqb x 32 n32,
    )

pub returns-in-43 : goal.returns-in-43
unfolding symbol
returns-in-43 c = rw c.in-43.is

pub returns-in-47 : goal.returns-in-47
unfolding symbol
returns-in-47 c = rw c.in-47.is

pub returns-in-61 : goal.returns-in-61
unfolding symbol
returns-in-61 c = rw c.in-61.is

pub returns-in-9 : goal.returns-in-9
unfolding symbol
returns-in-9 c = ⊎_elim (λ e. rw e) (λ e. rw e) c.in-9.is

pub returns-in-48-to-57 : goal.returns-in-48-to-57
unfolding symbol
returns-in-48-to-57 c =
    let x = c.args.b in
    rw (outside 65 90 x (λ h l. omega arith), outside 97 122 x (λ h l. omega arith), within 48 57 x (omega arith) (omega arith))

pub returns-in-65-to-90 : goal.returns-in-65-to-90
unfolding symbol
returns-in-65-to-90 c = rw (within 65 90 c.args.b (omega arith) (omega arith))

pub returns-in-97-to-122 : goal.returns-in-97-to-122
unfolding symbol
returns-in-97-to-122 c =
    let x = c.args.b in
    rw (outside 65 90 x (λ h l. omega arith), within 97 122 x (omega arith) (omega arith))

pub returns-in_default : goal.returns-in_default
returns-in_default c =
    other c.args.b (λ e. omega arith) (λ e. omega arith) (λ e. omega arith) (λ e. grind arith) (λ e. grind arith)
    (λ h l. omega arith) (λ h l. omega arith) (λ h l. omega arith)

pub returns-in_default-2 : goal.returns-in_default-2
returns-in_default-2 c =
    other c.args.b (λ e. omega arith) (λ e. omega arith) (λ e. omega arith) (λ e. grind arith) (λ e. grind arith)
    (λ h l. omega arith) (λ h l. omega arith) (λ h l. omega arith)

pub returns-in_default-3 : goal.returns-in_default-3
returns-in_default-3 c =
    other c.args.b (λ e. omega arith) (λ e. omega arith) (λ e. omega arith) (λ e. grind arith) (λ e. grind arith)
    (λ h l. omega arith) (λ h l. omega arith) (λ h l. omega arith)

pub returns-in_default-4 : goal.returns-in_default-4
returns-in_default-4 c =
    other c.args.b (λ e. omega arith) (λ e. omega arith) (λ e. omega arith) (λ e. grind arith) (λ e. grind arith)
    (λ h l. omega arith) (λ h l. omega arith) (λ h l. omega arith)
