-- Printed numbers of at most 10 digits: they are read as the numbers they were printed from, and their bytes are text
-- with no blank. Assumes nothing.
use mathlib.Core.Path.{◌≡◌, refl, ap, ◌∙◌}
use Rattle.std.specs.Prelude.{None, Some}
use mathlib.Core.Bool.{Bool, true, false, cond}
use mathlib.Core.List.{List, [], ◌∷◌, ◌++◌}
use Prim.Native.Nat.{ℕ, zero, suc, ◌+◌, ◌-◌, ◌*◌, ◌/◌, ◌%◌, ◌^◌, ◌≤◌, ◌<◌}
use native.Mathlib.Nat.{pow-suc}
use native.Mathlib.Omega.{arith}
use lib.Dec.{leb, ltb}
use borrow.Author.Tests.{le-leb, leb-true, lt-ltb, ltb-true, ne_eqb}
use lib.ListN.{length, length-append}
use Rattle.cbf_format.specs.Text.{digit, skip, add_end, trim_end, trim}
use Rattle.cbf_format.specs.Lines.{refused_byte}
use Rattle.cbf_format.specs.Values.{digits, decimal, decimal_number}
use Rattle.cbf_format.specs.Listing.{digits_of, printed}
use Rattle.cbf_format.proofs.LineTame.{and-true}

-- ---- digits

undigits : (x : ℕ) (t : List ℕ) → digits (x ∷ t) ≡ true → (48 ≤ x) × (x ≤ 57) × (digits t ≡ true)
undigits x t h =
    let a = and-true (digit x) (digits t) h in
    let b = and-true (leb 48 x) (leb x 57) a.0 in
    (leb-true 48 x b.0, leb-true x 57 b.1, a.1)

is_digit : (x : ℕ) → 48 ≤ x → x ≤ 57 → digit x ≡ true
is_digit x l h = rw (le-leb 48 x l, le-leb x 57 h)

decimal-end : (n : ℕ) (t : List ℕ) (x : ℕ) → decimal n (t ++ (x ∷ [])) ≡ decimal n t * 10 + (x - 48)
decimal-end n [] x = refl
decimal-end n (y ∷ t) x = decimal-end (n * 10 + (y - 48)) t x

digits-end : (t : List ℕ) (x : ℕ) → digits t ≡ true → digit x ≡ true → digits (t ++ (x ∷ [])) ≡ true
digits-end [] x h k = rw k
digits-end (y ∷ t) x h k = let a = and-true (digit y) (digits t) h in rw (a.0, digits-end t x a.1 k)

-- ---- printed numbers

-- what a printed number of at most k digits is
pub record Decimal (k n : ℕ) (t : List ℕ) : Type 0 where
  pub value : decimal 0 t ≡ n
  pub all_digits : digits t ≡ true
  pub most : length t ≤ k
  pub least : 0 < length t

one : (k n : ℕ) → n < 10 → Decimal (suc k) n ((48 + n) ∷ [])
one k n h = record { value = omega arith; all_digits = rw (is_digit (48 + n) (omega arith) (omega arith)); most = omega arith; least = omega arith }

digits_of-decimal : (k f n : ℕ) → n < 10 ^ suc k → k ≤ f → Decimal (suc k) n (digits_of (suc f) n)
unfolding digits_of
digits_of-decimal zero f n h l =
    let b : n < 10 = omega (arith, pow-suc 10 0) in
    rw (lt-ltb n 10 b) (one 0 n b)
digits_of-decimal (suc k) zero n h l = absurd (let z : ⊥ = omega arith in z)
digits_of-decimal (suc k) (suc f) n h l = go (ltb n 10) refl (λ h. digits_of-decimal k f (n / 10) h (omega arith))
  where
    go : (b : Bool) → ltb n 10 ≡ b → (n / 10 < 10 ^ suc k → Decimal (suc k) (n / 10) (digits_of (suc f) (n / 10)))
        → Decimal (suc (suc k)) n (cond b ((48 + n) ∷ []) (digits_of (suc f) (n / 10) ++ ((48 + n % 10) ∷ [])))
    go true q ih = one (suc k) n (ltb-true n 10 q)
    go false q ih =
        let u = ih (omega (arith, pow-suc 10 (suc k))) in
        let t = digits_of (suc f) (n / 10) in
        let a = length-append t ((48 + n % 10) ∷ []) in
        record {
          value = decimal-end 0 t (48 + n % 10) ∙ rw u.value (omega arith);
          all_digits = digits-end t (48 + n % 10) u.all_digits (is_digit (48 + n % 10) (omega arith) (omega arith));
          most = omega arith;
          least = omega arith;
        }

pub decimal-printed : (n : ℕ) → n < 10_000_000_000 → Decimal 10 n (printed n)
decimal-printed n h = digits_of-decimal 9 19 n h (omega arith)

pub number-printed : (n : ℕ) → n < 10_000_000_000 → decimal_number (printed n) ≡ Some n
unfolding decimal_number
number-printed n h =
    let u = decimal-printed n h in
    rw (le-leb 1 (length (printed n)) u.least, le-leb (length (printed n)) 10 u.most, u.all_digits) (ap (λ (k : ℕ). Some k) u.value)

-- ---- their bytes

pub refused-digits : (limit i : ℕ) (t : List ℕ) → digits t ≡ true → i + length t ≤ limit → refused_byte limit i t ≡ None
refused-digits limit i [] h l = refl
refused-digits limit i (x ∷ t) h l =
    let d = undigits x t h in
    rw (ne_eqb x 9 (λ e. omega arith), le-leb 32 x (omega (arith, d.0)), le-leb x 126 (omega (arith, d.1)), lt-ltb i limit (omega arith))
    (refused-digits limit (suc i) t d.2 (omega arith))

skip-digits : (t : List ℕ) → digits t ≡ true → skip t ≡ t
skip-digits [] h = refl
skip-digits (x ∷ t) h = let d = undigits x t h in rw (ne_eqb x 9 (λ e. omega arith), ne_eqb x 32 (λ e. omega arith))

trim_end-digits : (t : List ℕ) → digits t ≡ true → trim_end t ≡ t
trim_end-digits [] h = refl
trim_end-digits (x ∷ t) h = let d = undigits x t h in ap (add_end x) (trim_end-digits t d.2) ∙ end t d.0
  where
    end : (t : List ℕ) → 48 ≤ x → add_end x t ≡ x ∷ t
    end [] l = rw (ne_eqb x 9 (λ e. omega arith), ne_eqb x 32 (λ e. omega arith))
    end (y ∷ t) l = refl

pub trim_digits : (t : List ℕ) → digits t ≡ true → trim t ≡ t
trim_digits t h = ap trim_end (skip-digits t h) ∙ trim_end-digits t h
