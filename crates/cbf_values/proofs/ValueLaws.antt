-- The laws of a value that may run over lines: its steps, its blanks at both ends, and the number it is. Assumes
-- nothing.
use Rattle.std.proofs.Common.{◌≡◌, refl, sym, ap, ◌∙◌, Bool, true, false, not, ◌||◌, ◌&&◌, List, [], ◌∷◌, ◌++◌, append_assoc}
use Rattle.std.proofs.Common.{ℕ, suc, ◌+◌, ◌-◌, ◌<◌, ◌≤◌, arith, tests, eqb, length, get_or, take, drop, None, Some}
use borrow.Author.Tests.{ne_eqb, eqb-true, le-leb, lt-leb}
use Rattle.std.proofs.lemmas.List.{take_rest, take_more, take_all, drop_more, drop_all, drop-take, take-take, drop-drop}
use Rattle.std.proofs.lemmas.List.{length-take, length-drop}
use Rattle.std.proofs.Math.Bool.{and-false}
use Rattle.cbf_format.proofs.LineTame.{and-true}
use Rattle.cbf_format.specs.Text.{blank, digit, lowers, same, skip, add_end, trim_end, trim}
use Rattle.cbf_format.specs.Values.{digits, decimal, decimal_number}
use Rattle.cbf_values.specs.Value.{Within, in_text, after_13, in_blanks, joined_from, joined, end_byte}
use Rattle.cbf_values.specs.Value.{blank_or_end, PartOf, RestOf}

-- ---- bytes

pub end-other : (x : ℕ) → eqb x 13 ≡ false → eqb x 10 ≡ false → end_byte x ≡ false
end-other x p q = rw (p, q)

line-feed : (x : ℕ) → eqb x 10 ≡ true → end_byte x ≡ true
line-feed x e = ap end_byte (eqb-true x 10 e)

-- a byte differs from one at which a test says otherwise
pub differs : (test : ℕ → Bool) (b : Bool) (x k : ℕ) → test x ≡ b → test k ≡ not b → eqb x k ≡ false
differs test b x k p q = ne_eqb x k (λ e. never b (sym p ∙ ap test e ∙ q))
  where
    never : (b : Bool) → b ≡ not b → ⊥
    never true h = cc
    never false h = cc

-- ---- the steps of joined_from

-- the first byte fails a test, where there is one
abbrev pub Lacks : (ℕ → Bool) → List ℕ → Type 0
Lacks test [] = Unit {0}
Lacks test (x ∷ t) = test x ≡ false

pub after-return : (t : List ℕ) → Lacks (λ x. eqb x 10) t → joined_from after_13 t ≡ joined_from in_blanks t
unfolding joined_from
after-return [] h = refl
after-return (x ∷ t) h = rw h

-- what a byte adds to the text, and the state after it: itself, a space, or nothing
pub data Adds (x : ℕ) : List ℕ → Within → Type 0 where
  itself : end_byte x ≡ false → Adds x (x ∷ []) in_text
  a_space : (w : Within) → end_byte x ≡ true → Adds x (32 ∷ []) w
  nothing : (w : Within) → blank_or_end x ≡ true → Adds x [] w

pub record Step (w : Within) (x : ℕ) : Type 0 where
  pub bytes : List ℕ
  pub after : Within
  pub adds : Adds x bytes after
  pub steps : (t : List ℕ) → joined_from w (x ∷ t) ≡ bytes ++ joined_from after t

step-text : (x : ℕ) → Step in_text x
unfolding joined_from
step-text x = go (eqb x 13) refl (eqb x 10) refl
  where
    go : (a : Bool) → eqb x 13 ≡ a → (b : Bool) → eqb x 10 ≡ b → Step in_text x
    go true e b f = record { bytes = 32 ∷ []; after = after_13; adds = a_space after_13 (rw e); steps = λ t. rw e }
    go false e true f = record { bytes = 32 ∷ []; after = in_blanks; adds = a_space in_blanks (rw (e, f)); steps = λ t. rw (e, f) }
    go false e false f = record { bytes = x ∷ []; after = in_text; adds = itself (rw (e, f)); steps = λ t. rw (e, f) }

step-blanks : (x : ℕ) → Step in_blanks x
unfolding joined_from
step-blanks x = go (eqb x 10) refl (eqb x 13) refl (blank x) refl
  where
    go : (a : Bool) → eqb x 10 ≡ a → (b : Bool) → eqb x 13 ≡ b → (d : Bool) → blank x ≡ d → Step in_blanks x
    go true e b f d g = record { bytes = 32 ∷ []; after = in_blanks; adds = a_space in_blanks (line-feed x e); steps = λ t. rw e }
    go false e true f d g = record { bytes = 32 ∷ []; after = after_13; adds = a_space after_13 (rw f); steps = λ t. rw (e, f) }
    go false e false f true g = record { bytes = []; after = in_blanks; adds = nothing in_blanks (rw (e, f, g)); steps = λ t. rw (e, f, g) }
    go false e false f false g = record { bytes = x ∷ []; after = in_text; adds = itself (rw (e, f)); steps = λ t. rw (e, f, g) }

step-13 : (x : ℕ) → Step after_13 x
unfolding joined_from
step-13 x = go (eqb x 10) refl
  where
    go : (a : Bool) → eqb x 10 ≡ a → Step after_13 x
    go true e = record { bytes = []; after = in_blanks; adds = nothing in_blanks (ap (λ (b : Bool). b || blank x) (line-feed x e)); steps = λ t. rw e }
    go false e = let s = step-blanks x in record { bytes = s.bytes; after = s.after; adds = s.adds; steps = λ t. after-return (x ∷ t) e ∙ s.steps t }

pub step : (w : Within) (x : ℕ) → Step w x
step in_text x = step-text x
step after_13 x = step-13 x
step in_blanks x = step-blanks x

pub joined-byte : (x : ℕ) (t : List ℕ) → end_byte x ≡ false → joined (x ∷ t) ≡ x ∷ joined t
unfolding joined joined_from
joined-byte x t h = rw (differs end_byte false x 13 h refl, differs end_byte false x 10 h refl)

pub joined-13 : (x : ℕ) (t : List ℕ) → x ≡ 13 → joined (x ∷ t) ≡ 32 ∷ joined_from after_13 t
unfolding joined joined_from
joined-13 x t e = rw e

pub joined-10 : (x : ℕ) (t : List ℕ) → x ≡ 10 → joined (x ∷ t) ≡ 32 ∷ joined_from in_blanks t
unfolding joined joined_from
joined-10 x t e = rw e

pub blanks-over : (t : List ℕ) → Lacks blank t → joined_from in_blanks t ≡ joined t
unfolding joined joined_from
blanks-over [] h = refl
blanks-over (x ∷ t) h = go (eqb x 10) refl (eqb x 13) refl
  where
    go : (a : Bool) → eqb x 10 ≡ a → (b : Bool) → eqb x 13 ≡ b → joined_from in_blanks (x ∷ t) ≡ joined_from in_text (x ∷ t)
    go true e b f = rw (eqb-true x 10 e)
    go false e true f = rw (e, f)
    go false e false f = rw (e, f, h)

pub in-blanks-blank : (x : ℕ) (t : List ℕ) → blank x ≡ true → joined_from in_blanks (x ∷ t) ≡ joined_from in_blanks t
unfolding joined_from
in-blanks-blank x t h = rw (differs blank true x 10 h refl, differs blank true x 13 h refl, h)

pub skip-blank : (x : ℕ) (t : List ℕ) → blank x ≡ true → skip (x ∷ t) ≡ skip t
skip-blank x t h = rw h

pub skip-other : (x : ℕ) (t : List ℕ) → blank x ≡ false → skip (x ∷ t) ≡ x ∷ t
skip-other x t h = rw h

blanks-skipped : (t : List ℕ) → joined_from in_blanks t ≡ joined (skip t)
blanks-skipped [] = blanks-over [] tt
blanks-skipped (x ∷ t) = go (blanks-skipped t) (blank x) refl
  where
    go : joined_from in_blanks t ≡ joined (skip t) → (b : Bool) → blank x ≡ b → joined_from in_blanks (x ∷ t) ≡ joined (skip (x ∷ t))
    go rest true e = in-blanks-blank x t e ∙ rest ∙ ap joined (sym (skip-blank x t e))
    go rest false e = blanks-over (x ∷ t) e ∙ ap joined (sym (skip-other x t e))

-- ---- the first character

pub first_none : (t : List ℕ) → length t ≡ 0 → joined t ≡ []
unfolding joined joined_from
first_none [] h = refl
first_none (x ∷ t) h = absurd (omega arith)

-- a line end of two bytes, or of one, and the blanks after it
pub first_two : (t : List ℕ) → 2 ≤ length t → get_or t 0 0 ≡ 13 → get_or t 1 0 ≡ 10
    → joined t ≡ 32 ∷ joined (skip (take (length t - 2) (drop 2 t)))
unfolding joined_from
first_two [] l e f = absurd (omega arith)
first_two (x ∷ []) l e f = absurd (omega arith)
first_two (x ∷ y ∷ t) l e f = rw (take_rest (x ∷ y ∷ t) 2, joined-13 x (y ∷ t) e, f, blanks-skipped t)

pub first_return : (t : List ℕ) → 1 ≤ length t → get_or t 0 0 ≡ 13 → (2 ≤ length t → get_or t 1 0 ≡ 10 → ⊥)
    → joined t ≡ 32 ∷ joined (skip (take (length t - 1) (drop 1 t)))
first_return [] l e f = absurd (omega arith)
first_return (x ∷ t) l e f =
    rw (take_rest (x ∷ t) 1, joined-13 x t e, after-return t (lone t (λ h. f (omega arith))), blanks-skipped t)
  where
    lone : (t : List ℕ) → (1 ≤ length t → get_or t 0 0 ≡ 10 → ⊥) → Lacks (λ x. eqb x 10) t
    lone [] f = tt
    lone (y ∷ t) f = ne_eqb y 10 (f (omega arith))

pub first_feed : (t : List ℕ) → 1 ≤ length t → get_or t 0 0 ≡ 10
    → joined t ≡ 32 ∷ joined (skip (take (length t - 1) (drop 1 t)))
first_feed [] l e = absurd (omega arith)
first_feed (x ∷ t) l e = rw (take_rest (x ∷ t) 1, joined-10 x t e, blanks-skipped t)

pub first_other : (t : List ℕ) → 1 ≤ length t → (get_or t 0 0 ≡ 13 → ⊥) → (get_or t 0 0 ≡ 10 → ⊥)
    → joined t ≡ get_or t 0 0 ∷ joined (take (length t - 1) (drop 1 t))
first_other [] l p q = absurd (omega arith)
first_other (x ∷ t) l p q = rw (take_rest (x ∷ t) 1, joined-byte x t (end-other x (ne_eqb x 13 p) (ne_eqb x 10 q)))

-- ---- the blanks at both ends

pub not_end : (x : ℕ) → blank_or_end x ≡ false → end_byte x ≡ false
not_end x h = grind (arith, tests)

not-blank : (x : ℕ) → blank_or_end x ≡ false → blank x ≡ false
not-blank x h = grind (arith, tests)

blank-here : (x : ℕ) → blank_or_end x ≡ true → end_byte x ≡ false → blank x ≡ true
blank-here x h o = grind (arith, tests)

-- a byte that is no blank and no line end is read as itself, and the text after it as if it stood alone
from_byte : (w : Within) (x : ℕ) (t : List ℕ) → blank_or_end x ≡ false → joined_from w (x ∷ t) ≡ x ∷ joined t
unfolding joined
from_byte w x t h = let s = step w x in s.steps t ∙ go s.bytes s.after s.adds
  where
    go : (e : List ℕ) (v : Within) → Adds x e v → e ++ joined_from v t ≡ x ∷ joined_from in_text t
    go e v (itself o) = refl
    go e v (a_space w o) = let z = sym (not_end x h) ∙ o in cc
    go e v (nothing w o) = let z = sym h ∙ o in cc

-- a blank or a line end gives nothing or a blank
off-front : (w : Within) (x : ℕ) (t : List ℕ) → blank_or_end x ≡ true → skip (joined_from w (x ∷ t)) ≡ skip (joined_from (step w x).after t)
off-front w x t h = let s = step w x in ap skip (s.steps t) ∙ go s.bytes s.after s.adds (joined_from s.after t)
  where
    go : (e : List ℕ) (v : Within) → Adds x e v → (l : List ℕ) → skip (e ++ l) ≡ skip l
    go e v (itself o) l = skip-blank x l (blank-here x h o)
    go e v (a_space w o) l = refl
    go e v (nothing w o) l = refl

skip-any : (w : Within) (t : List ℕ) → skip (joined_from w t) ≡ skip (joined t)
unfolding joined joined_from
skip-any w [] = refl
skip-any w (x ∷ t) = go (λ v. skip-any v t) (blank_or_end x) refl
  where
    go : ((v : Within) → skip (joined_from v t) ≡ skip (joined t)) → (b : Bool) → blank_or_end x ≡ b
        → skip (joined_from w (x ∷ t)) ≡ skip (joined_from in_text (x ∷ t))
    go rest true h = off-front w x t h ∙ rest (step w x).after ∙ sym (off-front in_text x t h ∙ rest (step in_text x).after)
    go rest false h = ap skip (from_byte w x t h ∙ sym (from_byte in_text x t h))

front : (x : ℕ) (t : List ℕ) → blank_or_end x ≡ true → skip (joined (x ∷ t)) ≡ skip (joined t)
unfolding joined
front x t h = off-front in_text x t h ∙ skip-any (step in_text x).after t

trim_end-append : (e a b : List ℕ) → trim_end a ≡ trim_end b → trim_end (e ++ a) ≡ trim_end (e ++ b)
trim_end-append [] a b h = h
trim_end-append (x ∷ e) a b h = ap (add_end x) (trim_end-append e a b h)

off-back : (w : Within) (x : ℕ) → blank_or_end x ≡ true → trim_end (joined_from w (x ∷ [])) ≡ []
unfolding joined_from
off-back w x h = let s = step w x in ap trim_end (s.steps []) ∙ go s.bytes s.after s.adds
  where
    go : (e : List ℕ) (v : Within) → Adds x e v → trim_end (e ++ []) ≡ []
    go e v (itself o) = rw (blank-here x h o)
    go e v (a_space w o) = refl
    go e v (nothing w o) = refl

back_from : (w : Within) (t : List ℕ) (x : ℕ) → blank_or_end x ≡ true → trim_end (joined_from w (t ++ (x ∷ []))) ≡ trim_end (joined_from w t)
unfolding joined_from
back_from w [] x h = off-back w x h
back_from w (y ∷ t) x h =
    let s = step w y in
    ap trim_end (s.steps (t ++ (x ∷ [])))
    ∙ trim_end-append s.bytes (joined_from s.after (t ++ (x ∷ []))) (joined_from s.after t) (back_from s.after t x h)
    ∙ sym (ap trim_end (s.steps t))

-- the blanks may be dropped at the end first
trim-skip : (t : List ℕ) → trim t ≡ skip (trim_end t)
trim-skip [] = refl
trim-skip (x ∷ t) = go (trim-skip t) (blank x) refl
  where
    blank-first : (l : List ℕ) → blank x ≡ true → skip l ≡ skip (add_end x l)
    blank-first [] e = rw e
    blank-first (y ∷ l) e = sym (skip-blank x (y ∷ l) e)

    other-first : (l : List ℕ) → blank x ≡ false → add_end x l ≡ skip (add_end x l)
    other-first [] e = rw e (sym (skip-other x [] e))
    other-first (y ∷ l) e = sym (skip-other x (y ∷ l) e)

    go : trim t ≡ skip (trim_end t) → (b : Bool) → blank x ≡ b → trim (x ∷ t) ≡ skip (trim_end (x ∷ t))
    go rest true e = ap trim_end (skip-blank x t e) ∙ rest ∙ blank-first (trim_end t) e
    go rest false e = ap trim_end (skip-other x t e) ∙ other-first (trim_end t) e

back : (t : List ℕ) (x : ℕ) → blank_or_end x ≡ true → trim (joined (t ++ (x ∷ []))) ≡ trim (joined t)
unfolding joined
back t x h = trim-skip (joined (t ++ (x ∷ []))) ∙ ap skip (back_from in_text t x h) ∙ sym (trim-skip (joined t))

pub split_from : (w : Within) (a : List ℕ) (x : ℕ) (b : List ℕ) → blank_or_end x ≡ false → joined_from w (a ++ (x ∷ b)) ≡ joined_from w a ++ (x ∷ joined b)
unfolding joined_from
split_from w [] x b h = from_byte w x b h
split_from w (y ∷ a) x b h =
    let s = step w y in
    s.steps (a ++ (x ∷ b))
    ∙ ap (λ (l : List ℕ). s.bytes ++ l) (split_from s.after a x b h)
    ∙ sym (append_assoc s.bytes (joined_from s.after a) (x ∷ joined b))
    ∙ ap (λ (l : List ℕ). l ++ (x ∷ joined b)) (sym (s.steps a))

trim_end-last : (l : List ℕ) (x : ℕ) → blank x ≡ false → trim_end (l ++ (x ∷ [])) ≡ l ++ (x ∷ [])
trim_end-last [] x h = rw h
trim_end-last (y ∷ l) x h = ap (add_end y) (trim_end-last l x h) ∙ kept l
  where
    kept : (l : List ℕ) → add_end y (l ++ (x ∷ [])) ≡ y ∷ (l ++ (x ∷ []))
    kept [] = refl
    kept (z ∷ l) = refl

-- a byte at the front; the last byte; neither is a blank
pub first_off : (t : List ℕ) → 1 ≤ length t → blank_or_end (get_or t 0 0) ≡ true
    → trim (joined (take (length t - 1) (drop 1 t))) ≡ trim (joined t)
first_off [] l h = absurd (omega arith)
first_off (x ∷ t) l h = rw (take_rest (x ∷ t) 1) (sym (ap trim_end (front x t h)))

pub split_last : (t : List ℕ) → 1 ≤ length t → t ≡ take (length t - 1) t ++ (get_or t (length t - 1) 0 ∷ [])
split_last t l = sym (take_all (length t - 1 + 1) t (omega arith)) ∙ take_more t (length t - 1) 0 (omega arith)

pub last_off : (t : List ℕ) → 1 ≤ length t → blank_or_end (get_or t (length t - 1) 0) ≡ true
    → trim (joined (take (length t - 1) t)) ≡ trim (joined t)
last_off t l h = sym (back (take (length t - 1) t) (get_or t (length t - 1) 0) h)
    ∙ ap (λ (l : List ℕ). trim (joined l)) (sym (split_last t l))

pub trim_over : (t : List ℕ) → (0 < length t → blank_or_end (get_or t 0 0) ≡ false)
    → (0 < length t → blank_or_end (get_or t (length t - 1) 0) ≡ false) → trim (joined t) ≡ joined t
unfolding joined joined_from
trim_over [] p q = refl
trim_over (x ∷ t) p q =
    let s : List ℕ = take (length (x ∷ t) - 1) (x ∷ t) in
    let y : ℕ = get_or (x ∷ t) (length (x ∷ t) - 1) 0 in
    let j : joined (x ∷ t) ≡ joined s ++ (y ∷ []) = ap joined (split_last (x ∷ t) (omega arith))
    ∙ split_from in_text s y [] (q (omega arith)) in
    let o = p (omega arith) in
    ap (λ (l : List ℕ). trim_end (skip l)) (joined-byte x t (not_end x o))
    ∙ ap trim_end (skip-other x (joined t) (not-blank x o))
    ∙ ap trim_end (sym (joined-byte x t (not_end x o)) ∙ j)
    ∙ trim_end-last (joined s) y (not-blank y (q (omega arith)))
    ∙ sym j

pub trim_nothing : (t : List ℕ) → length t < 1 → trim (joined t) ≡ joined t
trim_nothing t h = trim_over t (λ l. absurd (omega arith)) (λ l. absurd (omega arith))

-- ---- a part of a text

-- all of it, a part of it, and a part of a part
pub part_whole : (t : List ℕ) → PartOf t t
part_whole t = record { at = 0; inside = omega arith; stands = sym (take_all (0 + length t) t (omega arith)) }

pub part_between : (t : List ℕ) (m n : ℕ) → m + n ≤ length t → PartOf t (take n (drop m t))
part_between t m n h =
    let l : length (take n (drop m t)) ≡ n = omega (arith, length-take n (drop m t), length-drop m t) in
    record { at = m; inside = rw l h; stands = rw l (sym (drop-take m n t)) }

pub part_in : {t r s : List ℕ} → PartOf t r → PartOf r s → PartOf t s
part_in {t} {r} {s} p q =
    let n : ℕ = q.at + length s in
    let i = p.inside in
    let j = q.inside in
    record {
      at = p.at + q.at;
      inside = omega arith;
      stands =
          q.stands
          ∙ ap (λ (l : List ℕ). drop q.at (take n l)) p.stands
          ∙ ap (drop q.at) (sym (drop-take p.at n (take (p.at + length r) t)))
          ∙ ap (λ (l : List ℕ). drop q.at (drop p.at l)) (take-take (p.at + n) (p.at + length r) t (omega arith))
          ∙ drop-drop q.at p.at (take (p.at + n) t)
          ∙ ap (λ (k : ℕ). drop (p.at + q.at) (take k t)) {x = p.at + n} {y = p.at + q.at + length s} (omega arith);
    }

-- the rest of a text: all of it, what is left after n bytes, and the rest of a rest
pub rest_whole : (t : List ℕ) → RestOf t 0 t
rest_whole t = record { next = 0; passed = omega arith; inside = omega arith; stands = refl }

pub rest_after : (t : List ℕ) (n : ℕ) → n ≤ length t → RestOf t n (take (length t - n) (drop n t))
rest_after t n h = record { next = n; passed = omega arith; inside = h; stands = take_rest t n }

pub rest_in : {t r s : List ℕ} {m n : ℕ} (k : ℕ) → k ≤ m + n → RestOf t m r → RestOf r n s → RestOf t k s
rest_in {t} {r} {s} {m} {n} k h p q =
    let l : length r ≡ length t - p.next = ap length p.stands ∙ length-drop p.next t in
    let i = p.inside in
    let j = q.inside in
    let a = p.passed in
    let b = q.passed in
    record {
      next = p.next + q.next;
      passed = omega arith;
      inside = omega arith;
      stands = q.stands ∙ ap (drop q.next) p.stands ∙ drop-drop q.next p.next t;
    }

-- the rest after a line end of two bytes, or of one, and the blanks after it
pub rest_two : (t r : List ℕ) → 2 ≤ length t → RestOf (take (length t - 2) (drop 2 t)) 0 r → RestOf t 1 r
rest_two t r h = rest_in 1 (omega arith) (rest_after t 2 h)

pub rest_one : (t r : List ℕ) → 1 ≤ length t → RestOf (take (length t - 1) (drop 1 t)) 0 r → RestOf t 1 r
rest_one t r h = rest_in 1 (omega arith) (rest_after t 1 h)

-- ---- comparing with a word

joined-some : (x : ℕ) (t : List ℕ) → same [] (lowers (joined (x ∷ t))) ≡ false
unfolding joined joined_from
joined-some x t = go (eqb x 13) refl (eqb x 10) refl
  where
    go : (a : Bool) → eqb x 13 ≡ a → (b : Bool) → eqb x 10 ≡ b → same [] (lowers (joined_from in_text (x ∷ t))) ≡ false
    go true e b f = rw e
    go false e true f = rw (e, f)
    go false e false f = rw (e, f)

pub word_over : (word : List ℕ) (i : ℕ) (l : List ℕ) → i < length word → l ≡ [] → same (drop i word) (lowers l) ≡ false
word_over word i l h e = rw (e, drop_more word i 0 h)

pub word_ends : (word : List ℕ) (i : ℕ) (t : List ℕ) → length word ≤ i → same (drop i word) (lowers (joined t)) ≡ eqb (length t) 0
unfolding joined joined_from
word_ends word i [] h = rw (drop_all i word h)
word_ends word i (x ∷ t) h = rw (drop_all i word h) (joined-some x t ∙ sym (ne_eqb (suc (length t)) 0 (λ e. omega arith)))

-- ---- the number that a value is

digit-other : (x : ℕ) → digit x ≡ true → end_byte x ≡ false
digit-other x h = grind (arith, tests)

joined-digits : (s : List ℕ) → digits s ≡ true → joined s ≡ s
unfolding joined joined_from
joined-digits [] h = refl
joined-digits (x ∷ t) h =
    let b = and-true (digit x) (digits t) h in
    joined-byte x t (digit-other x b.0) ∙ ap (λ (l : List ℕ). x ∷ l) (joined-digits t b.1)

-- a line end and the space that it is read as are no digits
digits-joined : (s : List ℕ) → digits (joined s) ≡ digits s
unfolding joined joined_from
digits-joined [] = refl
digits-joined (x ∷ t) = go (digits-joined t) (eqb x 13) refl (eqb x 10) refl
  where
    go : digits (joined t) ≡ digits t → (a : Bool) → eqb x 13 ≡ a → (b : Bool) → eqb x 10 ≡ b → digits (joined (x ∷ t)) ≡ digits (x ∷ t)
    go rest true e b f = rw (eqb-true x 13 e)
    go rest false e true f = rw (eqb-true x 10 f)
    go rest false e false f = ap digits (joined-byte x t (end-other x e f)) ∙ ap (λ (b : Bool). digit x && b) rest

number-none : (s : List ℕ) → digits s ≡ false → decimal_number s ≡ None
unfolding decimal_number
number-none s h = rw (h, and-false)

-- a number has no line end in it
number-joined : (s : List ℕ) → decimal_number (joined s) ≡ decimal_number s
number-joined s = go (digits s) refl
  where
    go : (b : Bool) → digits s ≡ b → decimal_number (joined s) ≡ decimal_number s
    go true e = ap decimal_number (joined-digits s e)
    go false e = number-none (joined s) (digits-joined s ∙ e) ∙ sym (number-none s e)

pub no_number_short : (s : List ℕ) → length s < 1 → decimal_number (joined s) ≡ None
unfolding decimal_number
no_number_short s h = number-joined s ∙ rw (lt-leb 1 (length s) h)

pub no_number_long : (s : List ℕ) → 10 < length s → decimal_number (joined s) ≡ None
unfolding decimal_number
no_number_long s h = number-joined s ∙ rw (lt-leb (length s) 10 h, and-false)

-- the byte at i is no digit
pub no_number_over : (s : List ℕ) (i : ℕ) → i < length s → digits (drop i s) ≡ digits s → digit (get_or s i 0) ≡ false
    → decimal_number (joined s) ≡ None
no_number_over s i l e h = number-joined s ∙ number-none s (sym e ∙ rw (drop_more s i 0 l, h))

-- all of the bytes are passed
pub number_whole : (s : List ℕ) (i n : ℕ) → 1 ≤ length s → length s ≤ 10 → length s ≤ i → digits (drop i s) ≡ digits s
    → decimal n (drop i s) ≡ decimal 0 s → decimal_number (joined s) ≡ Some n
unfolding decimal_number
number_whole s i n l h over d v =
    let o : drop i s ≡ [] = drop_all i s over in
    number-joined s ∙ rw (le-leb 1 (length s) l, le-leb (length s) 10 h, ← d, o) (ap Some (sym v ∙ ap (decimal n) o))

pub ruleset first_laws = (first_none, first_two, first_return, first_feed, first_other)

pub ruleset trim_laws = (first_off, last_off, trim_over, trim_nothing)
