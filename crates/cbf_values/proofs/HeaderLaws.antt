-- Which of a list of words a text is, and what stands in a pair of quotes. Assumes nothing.
use Rattle.std.proofs.Common.{◌≡◌, refl, sym, ap, ◌∙◌, Bool, true, false, cond, not, List, [], ◌∷◌, ◌++◌, map, option_map, position, Bor}
use Rattle.std.proofs.Common.{ℕ, suc, ◌+◌, ◌-◌, ◌<◌, ◌≤◌, arith, tests, ltb, eqb, length, get_or, take, drop, None, Some}
use Rattle.std.specs.List.{position_or_len}
use borrow.Author.Tests.{eq-eqb, ne_eqb}
use Rattle.cbf_format.specs.Text.{lowers, same}
use Rattle.cbf_format.specs.Values.{one_of, add_quoted, end_quote, unquote}
use Rattle.cbf_values.specs.Value.{joined, joined_from, in_text, blank_or_end}
use Rattle.cbf_values.proofs.ValueLaws.{not_end, joined-byte, split_from, split_last}

-- the place of the word that the text is, counted from k
pub one_of_place : (k : ℕ) (ws : List (Bor (List ℕ))) (t : List ℕ)
    → one_of k (map (λ w. w.now) ws) t ≡ option_map (λ i. k + i) (position (λ (w : Bor (List ℕ)). same w.now (lowers t)) ws)
one_of_place k [] t = refl
one_of_place k (w ∷ ws) t = by (same w.now (lowers t)) (one_of_place (suc k) ws t)
  where
    first : ℕ
    first = position_or_len (λ (w : Bor (List ℕ)). same w.now (lowers t)) ws

    by : (b : Bool) → one_of (suc k) (map (λ w. w.now) ws) t ≡ option_map (λ i. suc k + i) (cond (ltb first (length ws)) (Some first) None)
        → cond b (Some k) (one_of (suc k) (map (λ w. w.now) ws) t)
        ≡ option_map (λ i. k + i) (cond (ltb (cond (not b) (1 + first) 0) (suc (length ws))) (Some (cond (not b) (1 + first) 0)) None)
    by true rest = grind (arith, tests)
    by false rest = grind (arith, tests, rest)

-- ---- quotes

-- a text with one more byte at its end
add-end : (b : Bool) (y : ℕ) (t : List ℕ) → add_quoted y (cond b (Some t) None) ≡ cond b (Some (y ∷ t)) None
add-end false y t = refl
add-end true y t = refl

end-quote : (t : List ℕ) (x : ℕ) → end_quote (t ++ (x ∷ [])) ≡ cond (eqb x 34) (Some t) None
end-quote [] x = refl
end-quote (y ∷ []) x = add-end (eqb x 34) y []
end-quote (y ∷ z ∷ t) x = ap (add_quoted y) (end-quote (z ∷ t) x) ∙ add-end (eqb x 34) y (z ∷ t)

-- a value with no quote in front; with one alone; with one in front and none at its end; with both
pub no_quote : (t : List ℕ) → (0 < length t → blank_or_end (get_or t 0 0) ≡ false) → (0 < length t → get_or t 0 0 ≡ 34 → ⊥)
    → Some (joined t) ≡ unquote (joined t)
unfolding joined joined_from
no_quote [] p e = refl
no_quote (x ∷ t) p e = rw (joined-byte x t (not_end x (p (omega arith))), ne_eqb x 34 (e (omega arith)))

after-quote : (x : ℕ) (t : List ℕ) → x ≡ 34 → unquote (joined (x ∷ t)) ≡ end_quote (joined t)
after-quote x t e = rw (e, joined-byte 34 t refl)

pub quote_alone : (t : List ℕ) → length t ≡ 1 → get_or t 0 0 ≡ 34 → None ≡ unquote (joined t)
unfolding joined joined_from
quote_alone [] l e = absurd (omega arith)
quote_alone (x ∷ []) l e = sym (after-quote x [] e)
quote_alone (x ∷ y ∷ t) l e = absurd (omega arith)

inner : (t : List ℕ) → 2 ≤ length t → get_or t 0 0 ≡ 34 → blank_or_end (get_or t (length t - 1) 0) ≡ false
    → unquote (joined t) ≡ cond (eqb (get_or t (length t - 1) 0) 34) (Some (joined (take (length t - 1 - 1) (drop 1 t)))) None
unfolding joined joined_from
inner [] l e h = absurd (omega arith)
inner (x ∷ t) l e h =
    let n : length (x ∷ t) - 1 ≡ suc (length t - 1) = omega arith in
    let m : length (x ∷ t) - 1 - 1 ≡ length t - 1 = omega arith in
    let o = rw n at h in
    rw (m, n, after-quote x t e)
    (ap (λ (l : List ℕ). end_quote (joined l)) (split_last t (omega arith))
    ∙ ap end_quote (split_from in_text (take (length t - 1) t) (get_or t (length t - 1) 0) [] o)
    ∙ end-quote (joined (take (length t - 1) t)) (get_or t (length t - 1) 0))

pub quote_open : (t : List ℕ) → 2 ≤ length t → get_or t 0 0 ≡ 34 → blank_or_end (get_or t (length t - 1) 0) ≡ false
    → (get_or t (length t - 1) 0 ≡ 34 → ⊥) → None ≡ unquote (joined t)
quote_open t l e h f = sym (inner t l e h ∙ rw (ne_eqb (get_or t (length t - 1) 0) 34 f))

pub quotes : (t : List ℕ) → 2 ≤ length t → get_or t 0 0 ≡ 34 → blank_or_end (get_or t (length t - 1) 0) ≡ false
    → get_or t (length t - 1) 0 ≡ 34 → Some (joined (take (length t - 1 - 1) (drop 1 t))) ≡ unquote (joined t)
quotes t l e h f = sym (inner t l e h ∙ rw (eq-eqb (get_or t (length t - 1) 0) 34 f))

pub ruleset quote_laws = (no_quote, quote_alone, quote_open, quotes)
