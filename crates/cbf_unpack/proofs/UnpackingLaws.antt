-- What the public calls answer in each case, and what they leave in the lent output. Assumes nothing.
use Prim.Native.Nat.{ℕ, ◌*◌, ◌<◌, ◌≤◌}
use mathlib.Core.Path.{◌≡◌, refl, sym, ap, ◌∙◌}
use mathlib.Core.List.{List, ◌++◌}
use mathlib.Core.Bool.{true, false}
use lib.ListN.{length, drop}
use lib.IntN.{ℤ}
use borrow.Author.Tests.{le-leb, lt-leb}
use Rattle.cbf_pixels.specs.declared.ElementType.{ElementType}
use Rattle.cbf_pixels.specs.declared.Compression.{Compression}
use Rattle.cbf_pixels.specs.declared.Compression.TheVariants.{Uncompressed}
use Rattle.cbf_pixels.specs.Uncompressed.{octets_per, is_signed, unpack_uncompressed}
use borrow.Author.Rules.{rules}
use Rattle.std.specs.Prelude.{Result, Ok, Err, IsOk}
use Rattle.cbf_answers.specs.declared.Refusal.{Refusal}
use Rattle.cbf_answers.specs.Answers.{Outcome, gives, refuses, outcome, written}
use Rattle.cbf_answers.specs.Limits.{pixel_limit}
use Rattle.cbf_pixels.specs.PixelCalls.{unpack_pixels, is_some, pixels_of, unpack_outcome, unpack_output}
use Rattle.cbf_unpack.proofs.UncompressedLaws.{read_some_lem, read_none}

-- ---- unpacking

module _ (c : Compression) (t : ElementType) (n : ℕ) (os : List ℕ) (out : List ℤ) where
  -- the outcome o, with out' left in the output
  unfoldable pub Unpacked : Outcome → List ℤ → Type 0
  Unpacked o out' = (o ≡ unpack_outcome c t n os (length out)) × (out' ≡ unpack_output c t n os out)

  pub unpack-bad : {r : Refusal} → r ≡ record { number = 13; place = 0 } → n ≤ pixel_limit → is_some (unpack_pixels c t n os) ≡ false
      → Unpacked (outcome (Err r)) out
  unfolding Unpacked unpack_outcome unpack_output written
  unpack-bad q h e = rw (q, le-leb n pixel_limit h, e) (refl, refl)

  pub unpack-no-room : {r : Refusal} → r ≡ record { number = 15; place = 0 } → n ≤ pixel_limit → is_some (unpack_pixels c t n os) ≡ true
      → length out < n → Unpacked (outcome (Err r)) out
  unfolding Unpacked unpack_outcome unpack_output written
  unpack-no-room q h e r = rw (q, le-leb n pixel_limit h, e, lt-leb n (length out) r) (refl, refl)

  pub unpack-done : (out' : List ℤ) → n ≤ pixel_limit → is_some (unpack_pixels c t n os) ≡ true → n ≤ length out → out'
      ≡ pixels_of (unpack_pixels c t n os) ++ drop n out → Unpacked (gives n) out'
  unfolding Unpacked unpack_outcome unpack_output written
  unpack-done out' h e r q = rw (le-leb n pixel_limit h, e, le-leb n (length out) r) (refl, q)

-- what the search looks for where there are too many pixels
pub many_answer : (c : Compression) (t : ElementType) (n room : ℕ) (os : List ℕ) (r : Refusal) → r ≡ record { number = 13; place = 0 } → pixel_limit < n
    → refuses r.number r.place ≡ unpack_outcome c t n os room
unfolding unpack_outcome
many_answer c t n room os r q h = rw (q, lt-leb n pixel_limit h) refl

pub many_output : (c : Compression) (t : ElementType) (n : ℕ) (os : List ℕ) (out : List ℤ) → pixel_limit < n → out ≡ unpack_output c t n os out
unfolding unpack_outcome unpack_output written
many_output c t n os out h = rw (lt-leb n pixel_limit h) refl

-- whether uncompressed octets unpack is a matter of their number
pub uncompressed-some : (t : ElementType) (n w : ℕ) (os : List ℕ) → w ≡ octets_per t → length os ≡ w * n → is_some (unpack_pixels Uncompressed t n os) ≡ true
unfolding unpack_pixels unpack_uncompressed
uncompressed-some t n w os e h = read_some_lem (is_signed t) (octets_per t) n os (h ∙ ap (λ (k : ℕ). k * n) e)

pub uncompressed-none : (t : ElementType) (n w : ℕ) (os : List ℕ) → w ≡ octets_per t → (length os ≡ w * n → ⊥)
    → is_some (unpack_pixels Uncompressed t n os) ≡ false
unfolding unpack_pixels unpack_uncompressed
uncompressed-none t n w os e h = read_none (is_signed t) (octets_per t) n os (λ l. h (l ∙ ap (λ (k : ℕ). k * n) (sym e)))

-- what unpacking as many uncompressed pixels as there are octets for leaves in the output
pub uncompressed-output : (t : ElementType) (n : ℕ) (os : List ℕ) (out : List ℤ) → n ≤ pixel_limit → length os ≡ octets_per t * n → n ≤ length out
    → unpack_output Uncompressed t n os out ≡ pixels_of (unpack_uncompressed t n os) ++ drop n out
unfolding Unpacked unpack_pixels
uncompressed-output t n os out h e r = sym (unpack-done Uncompressed t n os out (pixels_of (unpack_uncompressed t n os)
    ++ drop n out) h (uncompressed-some t n (octets_per t) os refl e) r refl).1

-- where there are as many as the pixels take, and room for these, nothing is refused
pub uncompressed-ok : (t : ElementType) (n room : ℕ) (os : List ℕ) (r : Result ℕ Refusal) → n ≤ pixel_limit → length os ≡ octets_per t * n → n ≤ room
    → outcome r ≡ unpack_outcome Uncompressed t n os room → IsOk r
unfolding unpack_outcome
uncompressed-ok t n room os r h e m q =
    go r (q ∙ rw (le-leb n pixel_limit h, uncompressed-some t n (octets_per t) os refl e, le-leb n room m) refl)
  where
    go : (r : Result ℕ Refusal) → outcome r ≡ gives n → IsOk r
    go (Ok m) p = search rules
    go (Err x) p = cc
