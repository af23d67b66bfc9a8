-- Lines and runs of bytes are tame, a line moves, and a text line is no longer than its limit. Assumes nothing.
use mathlib.Core.Path.{◌≡◌, refl, sym, ap, ◌∙◌}
use Rattle.std.specs.Prelude.{Option, None, Some}
use Rattle.std.proofs.lemmas.Option.{none-some}
use mathlib.Core.Bool.{Bool, true, false, ◌&&◌, cond}
use mathlib.Core.List.{List, [], ◌∷◌, ◌++◌}
use Prim.Native.Nat.{ℕ, suc, ◌+◌, ◌≤◌, ◌<◌}
use native.Mathlib.Omega.{arith}
use lib.Dec.{leb, ltb, eqb}
use borrow.Author.Tests.{le-leb, leb-true, ltb-true, eq-eqb, eqb-true}
use lib.ListN.{length, take, length-append}
use lib.Seq.{take_at}
use Rattle.cbf_walk.specs.Parsers.{Res, bad, cut, ok, hd}
use Rattle.cbf_walk.proofs.Tame.{Tame, Moves}
use Rattle.cbf_walk.proofs.ParserLaws.{hd-app, bad≢ok, cut≢ok, ok-val, ok-num, unscreen, screen-tame, counted-tame}
use Rattle.cbf_format.specs.Text.{textual, same}
use Rattle.cbf_format.specs.Lines.{end_length, add_byte, line_or, line, refused_byte, text_line, only_end, line_end}
use Rattle.cbf_format.specs.Lines.{exactly, literal, semicolon, semicolon_line}
use Rattle.cbf_format.specs.Headers.{or_malformed, malformed, header_line}

-- ---- a line

end_length-pos : (o : Option ℕ) → 0 < end_length o
end_length-pos None = omega arith
end_length-pos (Some y) = go (eqb y 10)
  where
    go : (b : Bool) → 0 < cond b 2 1
    go true = omega arith
    go false = omega arith

end_length-le : (s : List ℕ) → end_length (hd s) ≤ suc (length s)
end_length-le [] = omega arith
end_length-le (y ∷ s) = go (eqb y 10)
  where
    go : (b : Bool) → cond b 2 1 ≤ suc (suc (length s))
    go true = omega arith
    go false = omega arith

-- a byte, and then the rest of a line
pub unadd : (x : ℕ) (r : Res (List ℕ)) (t : List ℕ) (n : ℕ) → add_byte x r ≡ ok t n → (t' : List ℕ) × (m : ℕ) × (r ≡ ok t' m) × (t ≡ x ∷ t') × (n ≡ suc m)
unadd x (bad k p) t n e = absurd (bad≢ok e)
unadd x cut t n e = absurd (cut≢ok e)
unadd x (ok t' m) t n e = (t', m, refl, sym (ok-val e), sym (ok-num e))

pub line-pos : Moves line
line-pos x xs t n e = go (eqb x 10) (eqb x 13) e
  where
    go : (u v : Bool) → line_or u v x xs (line xs) ≡ ok t n → 0 < n
    go true v e = omega (arith, ok-num e)
    go false true e = omega (arith, ok-num e, end_length-pos (hd xs))
    go false false e = omega (arith, (unadd x (line xs) t n e).4)

pub line-tame : Tame line
line-tame = record { within = within; near = near }
  where
    within : (s t : List ℕ) (n : ℕ) → line s ≡ ok t n → n ≤ length s
    within [] t n e = omega (arith, ok-num e)
    within (x ∷ xs) t n e = go (eqb x 10) (eqb x 13) e (λ t n e. within xs t n e)
      where
        go : (u v : Bool) → line_or u v x xs (line xs) ≡ ok t n → ((t : List ℕ) (n : ℕ) → line xs ≡ ok t n → n ≤ length xs) → n ≤ suc (length xs)
        go true v e ih = omega (arith, ok-num e)
        go false true e ih = omega (arith, ok-num e, end_length-le xs)
        go false false e ih = let u = unadd x (line xs) t n e in omega (arith, u.4, ih u.0 u.1 u.2)

    near : (b r r' t : List ℕ) → hd r ≡ hd r' → line (b ++ r) ≡ ok t (length b) → line (b ++ r') ≡ ok t (length b)
    near [] [] [] t e h = h
    near [] [] (x ∷ r') t e h = let z : ◌≡◌ {A = ℕ} 0 1 = cc in absurd (omega arith)
    near [] (x ∷ r) r' t e h = let z = line-pos x r t 0 h in absurd (let z' : ⊥ = omega arith in z')
    near (x ∷ b) r r' t e h = go (eqb x 10) (eqb x 13) h (λ t h. near b r r' t e h)
      where
        go : (u v : Bool) → line_or u v x (b ++ r) (line (b ++ r)) ≡ ok t (suc (length b))
            → ((t : List ℕ) → line (b ++ r) ≡ ok t (length b) → line (b ++ r') ≡ ok t (length b))
            → line_or u v x (b ++ r') (line (b ++ r')) ≡ ok t (suc (length b))
        go true v h ih = h
        go false true h ih = ap (λ (o : Option ℕ). ok [] (end_length o)) (sym (hd-app b r r' e)) ∙ h
        go false false h ih =
            let u = unadd x (line (b ++ r)) t (suc (length b)) h in
            let n : u.1 ≡ length b = omega (arith, u.4) in
            let q : line (b ++ r') ≡ ok u.0 (length b) = ih u.0 (u.2 ∙ ap (λ (k : ℕ). ok u.0 k) n) in
            rw q (ap (λ (z : List ℕ). ok z (suc (length b))) (sym u.3))

-- a line that is not empty begins with its first byte
pub line-hd : (s : List ℕ) (x : ℕ) (t : List ℕ) (n : ℕ) → line s ≡ ok (x ∷ t) n → hd s ≡ Some x
line-hd [] x t n e = let z : ◌≡◌ {A = ℕ} 0 1 = cc in absurd (omega arith)
line-hd (y ∷ s) x t n e = go (eqb y 10) (eqb y 13) e
  where
    go : (u v : Bool) → line_or u v y s (line s) ≡ ok (x ∷ t) n → Some y ≡ Some x
    go true v e = let z : ◌≡◌ {A = ℕ} 0 1 = cc in absurd (omega arith)
    go false true e = let z : ◌≡◌ {A = ℕ} 0 1 = cc in absurd (omega arith)
    go false false e = let u = unadd y (line s) (x ∷ t) n e in let q : x ∷ t ≡ y ∷ u.0 = u.3 in cc

-- ---- lines that are tested

pub text_line-tame : (limit : ℕ) → Tame (text_line limit)
unfolding text_line
text_line-tame limit = screen-tame (refused_byte limit 0) line-tame

-- the first byte of an accepted text line from column i on, and the rest
pub unrefused : (limit i x : ℕ) (t : List ℕ) → refused_byte limit i (x ∷ t) ≡ None → (textual x ≡ true) × (i < limit) × (refused_byte limit (suc i) t ≡ None)
unrefused limit i x t h = go (textual x) refl (ltb i limit) refl h
  where
    go : (a : Bool) → textual x ≡ a → (b : Bool) → ltb i limit ≡ b → cond a (cond b (refused_byte limit (suc i) t) (Some (2, i))) (Some (3, i)) ≡ None
        → (textual x ≡ true) × (i < limit) × (refused_byte limit (suc i) t ≡ None)
    go true p true q h = (p, ltb-true i limit q, h)
    go true p false q h = absurd (none-some (2, i) (sym h))
    go false p b q h = absurd (none-some (3, i) (sym h))

bytes-short : (limit i : ℕ) (t : List ℕ) → i ≤ limit → refused_byte limit i t ≡ None → i + length t ≤ limit
bytes-short limit i [] h e = omega arith
bytes-short limit i (x ∷ t) h e = let u = unrefused limit i x t e in omega (arith, bytes-short limit (suc i) t u.1 u.2)

-- an accepted text line has at most `limit` characters
pub text_line-short : (limit : ℕ) (s t : List ℕ) (n : ℕ) → text_line limit s ≡ ok t n → length t ≤ limit
unfolding text_line
text_line-short limit s t n e = omega (arith, bytes-short limit 0 t (omega arith) (unscreen (refused_byte limit 0) (line s) t n e).1)

pub line_end-tame : Tame line_end
unfolding line_end
line_end-tame = screen-tame only_end (counted-tame line-tame)

pub semicolon_line-tame : (limit : ℕ) → Tame (semicolon_line limit)
unfolding semicolon_line
semicolon_line-tame limit = screen-tame (semicolon limit) line-tame

pub header_line-tame : (limit : ℕ) (first : Bool) → Tame (header_line limit first)
unfolding header_line
header_line-tame limit first = screen-tame (λ t. or_malformed (refused_byte limit 0 t) (malformed first t)) line-tame

-- ---- runs of bytes

pub unoctets : (k : ℕ) (s os : List ℕ) (n : ℕ) → exactly k s ≡ ok os n → (k ≤ length s) × (os ≡ take k s) × (n ≡ k)
unfolding exactly
unoctets k s os n e = go (leb k (length s)) refl e
  where
    go : (b : Bool) → leb k (length s) ≡ b → cond b (ok (take k s) k) (bad 9 (length s)) ≡ ok os n → (k ≤ length s) × (os ≡ take k s) × (n ≡ k)
    go true q h = (leb-true _ _ q, sym (ok-val h), sym (ok-num h))
    go false q h = absurd (bad≢ok h)

pub octets-ok : (b r : List ℕ) → exactly (length b) (b ++ r) ≡ ok b (length b)
unfolding exactly
octets-ok b r = rw (le-leb (length b) (length (b ++ r)) (omega (arith, length-append b r)), take_at b r (length b) refl)

pub octets-tame : (k : ℕ) → Tame (exactly k)
octets-tame k = record {
  within = λ s os n e. let u = unoctets k s os n e in omega (arith, u.0, u.2);
  near = λ b r r' os e h.
      let u = unoctets k (b ++ r) os (length b) h in
      let q : os ≡ b = u.1 ∙ rw (← u.2) (take_at b r (length b) refl) in
      rw (← u.2, q) (octets-ok b r');
}

pub word-tame : (w : List ℕ) → Tame (literal w)
unfolding literal
word-tame w = screen-tame (λ t. cond (same t w) None (Some (9, 0))) (octets-tame (length w))

-- ---- the same bytes

pub and-true : (a b : Bool) → a && b ≡ true → (a ≡ true) × (b ≡ true)
and-true true b h = (refl, h)
and-true false b h = let z : ◌≡◌ {A = ℕ} 0 1 = cc in absurd (omega arith)

pub same-eq : (s t : List ℕ) → same s t ≡ true → s ≡ t
same-eq [] [] h = refl
same-eq [] (y ∷ t) h = let z : ◌≡◌ {A = ℕ} 0 1 = cc in absurd (omega arith)
same-eq (x ∷ s) [] h = let z : ◌≡◌ {A = ℕ} 0 1 = cc in absurd (omega arith)
same-eq (x ∷ s) (y ∷ t) h =
    let u = and-true (eqb x y) (same s t) h in
    let p : x ≡ y = eqb-true x y u.0 in
    let q : s ≡ t = same-eq s t u.1 in
    (λ i. p i ∷ q i)

pub same_refl : (s : List ℕ) → same s s ≡ true
same_refl [] = refl
same_refl (x ∷ s) = rw (eq-eqb x x refl) (same_refl s)

pub word_ok : (w r : List ℕ) → literal w (w ++ r) ≡ ok w (length w)
unfolding literal
word_ok w r = rw (octets-ok w r, same_refl w)
