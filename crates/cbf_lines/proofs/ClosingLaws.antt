-- What follows the octets of a section, at a place of the file: line ends, the line of `;` and blanks, the closing
-- boundary. Assumes nothing.
use mathlib.Core.Path.{◌≡◌, refl, sym, ap, ◌∙◌, subst}
use mathlib.Core.Logic.{◌⊎◌, inl, inr, ⊎_elim}
use Rattle.std.specs.Prelude.{Option, None, Some}
use mathlib.Core.Bool.{Bool, true, false, ◌&&◌, ◌||◌, cond, and-false}
use mathlib.Core.List.{List, [], ◌∷◌, ◌++◌}
use Prim.Native.Nat.{ℕ, suc, ◌+◌, ◌-◌, ◌≤◌, ◌<◌}
use native.Mathlib.Omega.{arith}
use native.Mathlib.Numerals.{add-one}
use borrow.Author.Tests.{le-leb, lt-leb, lt-ltb, le-ltb, ltb-true, ltb-false, ne_eqb, eqb-true, eqb-false}
use lib.Dec.{leb, ltb, eqb}
use lib.ListN.{length, take, drop, get_or, length-append, length-drop, take-append-drop, drop_of_length-le}
use lib.Seq.{slice, length-take-le, drop-append-le, drop-cons, drop-drop, get_or-drop, get_or-take}
use lib.Seq.{length-slice}
use Rattle.cbf_walk.specs.Parsers.{Res, bad, cut, ok, Parser, hd, plus, then, bind, counted, screen, ret}
use Rattle.cbf_format.specs.Text.{blank, blanks, textual, same}
use Rattle.cbf_format.specs.Lines.{end_length, add_byte, line, only_end, line_end, exactly, literal, semicolon}
use Rattle.cbf_format.specs.Lines.{semicolon_line}
use Rattle.cbf_format.specs.Sections.{closing, last_boundary, after_span, closed}
use Rattle.cbf_lines.specs.declared.closing.Ending.{Ending}
use Rattle.cbf_lines.specs.Text.{Run}
use Rattle.cbf_lines.specs.Closing.{next_at, ended_at, closed_at}
use Rattle.cbf_lines.proofs.LineLaws.{line-good, textual-inside}

pub no_place_lem : {i : ℕ} → Some i ≡ None → ⊥
no_place_lem e = let z : ◌≡◌ {A = ℕ} 0 1 = cc in omega arith

pub same_place : {i j : ℕ} → Some i ≡ Some j → i ≡ j
same_place e = cc

-- ---- a line end

-- the bytes begin with a line end of n bytes
pub record Ends (s : List ℕ) (n : ℕ) : Type 0 where
  pub empty : line s ≡ ok [] n
  pub some_byte : 1 ≤ n
  pub inside : n ≤ length s

ends-10 : (xs : List ℕ) → Ends (10 ∷ xs) 1
ends-10 xs = record { empty = refl; some_byte = omega arith; inside = omega arith }

ends-13 : (xs : List ℕ) → Ends (13 ∷ xs) (end_length (hd xs))
ends-13 [] = record { empty = refl; some_byte = omega arith; inside = omega arith }
ends-13 (y ∷ ys) = record { empty = refl; some_byte = (go (eqb y 10)).0; inside = (go (eqb y 10)).1 }
  where
    go : (t : Bool) → (1 ≤ cond t 2 1) × (cond t 2 1 ≤ suc (suc (length ys)))
    go true = (omega arith, omega arith)
    go false = (omega arith, omega arith)

-- any other byte is one of the line's text
goes_on : (x : ℕ) (xs : List ℕ) → (x ≡ 10 → ⊥) → (x ≡ 13 → ⊥) → line (x ∷ xs) ≡ add_byte x (line xs)
goes_on x xs n10 n13 = rw (ne_eqb x 10 n10, ne_eqb x 13 n13)

first_byte : (x : ℕ) (xs : List ℕ) → ((n : ℕ) × Ends (x ∷ xs) n) ⊎ (line (x ∷ xs) ≡ add_byte x (line xs))
first_byte x xs = go (eqb x 10) refl (eqb x 13) refl
  where
    go : (s : Bool) → eqb x 10 ≡ s → (t : Bool) → eqb x 13 ≡ t → ((n : ℕ) × Ends (x ∷ xs) n) ⊎ (line (x ∷ xs) ≡ add_byte x (line xs))
    go true p t q = inl (1, subst (λ (y : ℕ). Ends (y ∷ xs) 1) (sym (eqb-true x 10 p)) (ends-10 xs))
    go false p true q = inl (end_length (hd xs), subst (λ (y : ℕ). Ends (y ∷ xs) (end_length (hd xs))) (sym (eqb-true x 13 q)) (ends-13 xs))
    go false p false q = inr (goes_on x xs (eqb-false x 10 p) (eqb-false x 13 q))

module _ (at : ℕ) (s : List ℕ) where
  pub line-end-there : {n : ℕ} → Ends s n → Some (at + n) ≡ next_at at (line_end s)
  unfolding line_end
  line-end-there {n} e = rw (e.empty, le-leb 1 n e.some_byte)

  line-end-not : (x : ℕ) (r : Res (List ℕ)) → line s ≡ add_byte x r → None ≡ next_at at (line_end s)
  unfolding line_end
  line-end-not x r e = rw e (go r)
    where
      go : (r : Res (List ℕ)) → None ≡ next_at at (screen only_end (counted (add_byte x r)))
      go (bad k p) = refl
      go cut = refl
      go (ok t n) = refl

-- the same at a place of the file
module _ (file : List ℕ) (at : ℕ) where
  pub line-end-past : length file ≤ at → None ≡ next_at at (line_end (drop at file))
  unfolding line_end
  line-end-past h = rw (drop_of_length-le file {i = at} h)

  module _ (h : at < length file) where
    here : get_or file at 0 ∷ drop (at + 1) file ≡ drop at file
    here = rw add-one (sym (drop-cons file at 0 h))

    pub at-10 : get_or file at 0 ≡ 10 → Ends (drop at file) 1
    at-10 e = subst (λ (s : List ℕ). Ends s 1) (ap (λ (x : ℕ). x ∷ drop (at + 1) file) (sym e) ∙ here) (ends-10 (drop (at + 1) file))

    pub at-13 : get_or file at 0 ≡ 13 → Ends (drop at file) (end_length (hd (drop (at + 1) file)))
    at-13 e =
        subst (λ (s : List ℕ). Ends s (end_length (hd (drop (at + 1) file)))) (ap (λ (x : ℕ). x ∷ drop (at + 1) file)
        (sym e) ∙ here) (ends-13 (drop (at + 1) file))

    pub at_other : (get_or file at 0 ≡ 10 → ⊥) → (get_or file at 0 ≡ 13 → ⊥) → None ≡ next_at at (line_end (drop at file))
    at_other n10 n13 =
        line-end-not at (drop at file) (get_or file at 0) (line (drop (at + 1) file)) (ap line (sym here) ∙ goes_on (get_or file at 0) (drop (at + 1) file) n10 n13)

  -- a line end lies in the file
  pub line-end-inside : {i : ℕ} → at ≤ length file → Some i ≡ next_at at (line_end (drop at file)) → i ≤ length file
  unfolding line_end
  line-end-inside {i} h e = go (drop at file) (omega (arith, length-drop at file)) e
    where
      go : (s : List ℕ) → at + length s ≤ length file → Some i ≡ next_at at (line_end s) → i ≤ length file
      go [] l q = absurd (no_place_lem q)
      go (x ∷ xs) l q = ⊎_elim there not (first_byte x xs)
        where
          there : ((n : ℕ) × Ends (x ∷ xs) n) → i ≤ length file
          there e =
              let z : i ≡ at + e.0 = same_place (q ∙ sym (line-end-there at (x ∷ xs) e.1)) in
              let k = e.1.inside in
              omega arith

          not : line (x ∷ xs) ≡ add_byte x (line xs) → i ≤ length file
          not e = absurd (no_place_lem (q ∙ sym (line-end-not at (x ∷ xs) x (line xs) e)))

-- a line's end, with the file or with a line end
module _ (file : List ℕ) (at : ℕ) where
  pub ended-file : length file ≤ at → Some at ≡ ended_at at (drop at file)
  ended-file h = sym (ap (ended_at at) (drop_of_length-le file {i = at} h))

  pub ended-line : at < length file → next_at at (line_end (drop at file)) ≡ ended_at at (drop at file)
  ended-line h = sym (ap (ended_at at) (sym (here file at h)) ∙ ap (λ (s : List ℕ). next_at at (line_end s)) (here file at h))

-- what the answer says of the line from there on
pub record EndsAt (file : List ℕ) (at next : ℕ) : Type 0 where
  pub taken : ℕ
  pub place : next ≡ at + taken
  pub empty : line (drop at file) ≡ ok [] taken
  pub inside : next ≤ length file

pub record GoesOn (file : List ℕ) (at : ℕ) : Type 0 where
  pub byte : at < length file
  pub more : List ℕ
  pub taken : ℕ
  pub reads : line (drop at file) ≡ ok (get_or file at 0 ∷ more) taken

module _ (file : List ℕ) (at : ℕ) (inside : at ≤ length file) where
  -- a line end, or a byte of the line's text
  abbrev EndOrByte : Option ℕ → Type 0
  EndOrByte r = ((n : ℕ) × Ends (drop at file) n × (r ≡ Some (at + n))) ⊎
      ((line (drop at file) ≡ add_byte (get_or file at 0) (line (drop (at + 1) file))) × (r ≡ None))

  module _ (h : at < length file) where
    by_first : (r : Option ℕ) → r ≡ ended_at at (drop at file) → EndOrByte r
    by_first r q = ⊎_elim there not (first_byte (get_or file at 0) (drop (at + 1) file))
      where
        e : r ≡ next_at at (line_end (drop at file))
        e = q ∙ sym (ended-line file at h)

        there : ((n : ℕ) × Ends (get_or file at 0 ∷ drop (at + 1) file) n) → EndOrByte r
        there v =
            let w : Ends (drop at file) v.0 = subst (λ (s : List ℕ). Ends s v.0) (here file at h) v.1 in
            inl (v.0, w, e ∙ sym (line-end-there at (drop at file) w))

        not : line (get_or file at 0 ∷ drop (at + 1) file) ≡ add_byte (get_or file at 0) (line (drop (at + 1) file))
            → EndOrByte r
        not v =
            let w : line (drop at file) ≡ add_byte (get_or file at 0) (line (drop (at + 1) file)) = ap line (sym (here file at h)) ∙ v in
            inr (w, e ∙ sym (line-end-not at (drop at file) (get_or file at 0) (line (drop (at + 1) file)) w))

  pub ended_at_lem : {next : ℕ} → Some next ≡ ended_at at (drop at file) → EndsAt file at next
  ended_at_lem {next} q = go (ltb at (length file)) refl
    where
      go : (t : Bool) → ltb at (length file) ≡ t → EndsAt file at next
      go true p =
          let h = ltb-true at (length file) p in
          ⊎_elim
          (λ v. let z : next ≡ at + v.0 = same_place v.2 in let k = v.1.inside in record {
            taken = v.0;
            place =
                z;
            empty = v.1.empty;
            inside = omega (arith, length-drop at file);
          })
          (λ v. absurd (no_place_lem v.1)) (by_first h (Some next) q)
      go false p =
          let h : length file ≤ at = ltb-false at (length file) p in
          let z : next ≡ at = same_place (q ∙ sym (ended-file file at h)) in
          record { taken = 0; place = omega arith; empty = ap line (drop_of_length-le file {i = at} h); inside = omega arith }

  pub ended-not : None ≡ ended_at at (drop at file) → GoesOn file at
  ended-not q = go (ltb at (length file)) refl
    where
      go : (t : Bool) → ltb at (length file) ≡ t → GoesOn file at
      go true p =
          let h = ltb-true at (length file) p in
          let g = line-good (drop (at + 1) file) in
          ⊎_elim (λ v. absurd (no_place_lem (sym v.2))) (λ v. record {
            byte = h;
            more = g.0;
            taken = suc g.1;
            reads
                = v.0 ∙ ap (add_byte (get_or file at 0)) g.2.reads;
          }) (by_first h None q)
      go false p = absurd (no_place_lem (ended-file file at (ltb-false at (length file) p) ∙ sym q))

-- ---- the line of `;` and blanks

-- a line with a text before it
abbrev pub ahead : List ℕ → Res (List ℕ) → Res (List ℕ)
ahead t (bad k p) = bad k p
ahead t cut = cut
ahead t (ok u n) = ok (t ++ u) (length t + n)

ahead_none : (r : Res (List ℕ)) → r ≡ ahead [] r
ahead_none (bad k p) = refl
ahead_none cut = refl
ahead_none (ok u n) = let z : n ≡ 0 + n = omega arith in ap (ok u) z

ahead-one : (x : ℕ) (t : List ℕ) (r : Res (List ℕ)) → add_byte x (ahead t r) ≡ ahead (x ∷ t) r
ahead-one x t (bad k p) = refl
ahead-one x t cut = refl
ahead-one x t (ok u n) = let z : suc (length t + n) ≡ suc (length t) + n = omega arith in ap (ok (x ∷ (t ++ u))) z

pub and_both : (s t : Bool) → (s && t) ≡ true → (s ≡ true) × (t ≡ true)
and_both true t e = (refl, e)
and_both false t e = absurd (let w : ◌≡◌ {A = ℕ} 0 1 = cc in omega arith)

-- bytes of text
abbrev pub texts : List ℕ → Bool
texts [] = true
texts (x ∷ t) = textual x && texts t

pub line-ahead : (bs s : List ℕ) → texts bs ≡ true → line (bs ++ s) ≡ ahead bs (line s)
line-ahead [] s e = ahead_none (line s)
line-ahead (x ∷ bs) s e =
    let b = and_both (textual x) (texts bs) e in
    let w = textual-inside x b.0 in
    rw (w.0, w.1) (ap (add_byte x) (line-ahead bs s b.1) ∙ ahead-one x bs (line s))

pub blank-textual : (x : ℕ) → blank x ≡ true → textual x ≡ true
blank-textual x e = go (eqb x 9) (eqb x 32) refl e
  where
    go : (p q : Bool) → eqb x 32 ≡ q → (p || q) ≡ true → (p || (leb 32 x && leb x 126)) ≡ true
    go true q h e = refl
    go false true h e = let z : x ≡ 32 = eqb-true x 32 h in rw (le-leb 32 x (omega arith), le-leb x 126 (omega arith))
    go false false h e = absurd (let w : ◌≡◌ {A = ℕ} 0 1 = cc in omega arith)

blanks-texts : (bs : List ℕ) → blanks bs ≡ true → texts bs ≡ true
blanks-texts [] e = refl
blanks-texts (x ∷ bs) e = let b = and_both (blank x) (blanks bs) e in rw (blank-textual x b.0) (blanks-texts bs b.1)

blanks-more : (bs t : List ℕ) → blanks bs ≡ true → blanks (bs ++ t) ≡ blanks t
blanks-more [] t e = refl
blanks-more (x ∷ bs) t e = let b = and_both (blank x) (blanks bs) e in rw b.0 (blanks-more bs t b.1)

-- `;`, then blanks, then these bytes
module _ (limit at : ℕ) (bs s : List ℕ) (b : blanks bs ≡ true) where
  semicolon-there : {n : ℕ} → line s ≡ ok [] n → length bs < limit → Some (at + (suc (length bs) + n)) ≡ next_at at (semicolon_line limit (59 ∷ (bs ++ s)))
  unfolding semicolon_line
  semicolon-there {n} e h =
      let l : length (bs ++ []) < limit = omega (arith, length-append bs []) in
      let z : suc (length bs) + n ≡ suc (length bs + n) = omega arith in
      rw (line-ahead bs s (blanks-texts bs b), e, blanks-more bs [] b, lt-ltb (length (bs ++ [])) limit l) (ap (λ (k : ℕ). Some (at + k)) z)

  semicolon-long : limit ≤ length bs → None ≡ next_at at (semicolon_line limit (59 ∷ (bs ++ s)))
  unfolding semicolon_line
  semicolon-long h = rw (line-ahead bs s (blanks-texts bs b)) (go (line s))
    where
      go : (r : Res (List ℕ)) → None ≡ next_at at (screen (semicolon limit) (add_byte 59 (ahead bs r)))
      go (bad k p) = refl
      go cut = refl
      go (ok t n) = rw (blanks-more bs t b, le-ltb (length (bs ++ t)) limit (omega (arith, length-append bs t)), and-false)

  semicolon-more : (x : ℕ) (r : Res (List ℕ)) → blank x ≡ false → line s ≡ add_byte x r → None ≡ next_at at (semicolon_line limit (59 ∷ (bs ++ s)))
  unfolding semicolon_line
  semicolon-more x r f e = rw (line-ahead bs s (blanks-texts bs b), e) (go r)
    where
      go : (r : Res (List ℕ)) → None ≡ next_at at (screen (semicolon limit) (add_byte 59 (ahead bs (add_byte x r))))
      go (bad k p) = refl
      go cut = refl
      go (ok t n) = rw (blanks-more bs (x ∷ t) b, f)

-- another line
module _ (limit at : ℕ) (s : List ℕ) where
  semicolon-empty : {n : ℕ} → line s ≡ ok [] n → None ≡ next_at at (semicolon_line limit s)
  unfolding semicolon_line
  semicolon-empty e = rw e

  semicolon-not : (x : ℕ) (r : Res (List ℕ)) → (x ≡ 59 → ⊥) → line s ≡ add_byte x r → None ≡ next_at at (semicolon_line limit s)
  unfolding semicolon_line
  semicolon-not x r d e = rw e (go r)
    where
      go : (r : Res (List ℕ)) → None ≡ next_at at (screen (semicolon limit) (add_byte x r))
      go (bad k p) = refl
      go cut = refl
      go (ok t n) = rw (ne_eqb x 59 d)

-- a run of blanks, as a text
all-blanks : (l : List ℕ) → ((i : ℕ) → i < length l → blank (get_or l i 0) ≡ true) → blanks l ≡ true
all-blanks [] h = refl
all-blanks (x ∷ l) h = rw (h 0 (omega arith)) (all-blanks l (λ i k. h (suc i) (omega arith)))

run-blanks : (file : List ℕ) {from to r : ℕ} → Run blank file from to r → to ≤ length file → blanks (slice from r file) ≡ true
run-blanks file {from} {to} {r} run h = all-blanks (slice from r file) each
  where
    each : (i : ℕ) → i < length (slice from r file) → blank (get_or (slice from r file) i 0) ≡ true
    each i k =
        let l = run.high in
        let m : from + i < r = omega (arith, length-slice from r file (omega arith)) in
        rw (get_or-drop from (take r file) i 0, get_or-take r file (from + i) 0 m) (run.each (from + i) (omega arith) m)

pub slice-then : (file : List ℕ) (from to : ℕ) → from ≤ to → to ≤ length file → slice from to file ++ drop to file ≡ drop from file
slice-then file from to h k =
    sym (drop-append-le from (take to file) (drop to file) (omega (arith, length-take-le to file k))) ∙ ap (drop from) (take-append-drop to file)

-- the same at a place of the file
module _ (file : List ℕ) (limit at : ℕ) where
  pub semicolon-past : length file ≤ at → None ≡ next_at at (semicolon_line limit (drop at file))
  semicolon-past h = semicolon-empty limit at (drop at file) {n = 0} (ap line (drop_of_length-le file {i = at} h))

  module _ (h : at < length file) where
    pub no-semicolon : (get_or file at 0 ≡ 59 → ⊥) → None ≡ next_at at (semicolon_line limit (drop at file))
    no-semicolon d =
        subst (λ (s : List ℕ). None ≡ next_at at (semicolon_line limit s)) (here file at h)
        (⊎_elim (λ e. semicolon-empty limit at s₀ e.1.empty) (λ e. semicolon-not limit at s₀ x (line xs) d e) (first_byte x xs))
      where
        x : ℕ
        x = get_or file at 0

        xs : List ℕ
        xs = drop (at + 1) file

        s₀ : List ℕ
        s₀ = x ∷ xs

    module _ (e : get_or file at 0 ≡ 59) {to : ℕ} (run : Run blank file (at + 1) (length file) to) where
      abbrev bs : List ℕ
      bs = slice (at + 1) to file

      length-bs : length bs ≡ to - (at + 1)
      length-bs = length-slice (at + 1) to file run.high

      bs-blank : blanks bs ≡ true
      bs-blank = run-blanks file run (omega arith)

      parts : 59 ∷ (bs ++ drop to file) ≡ drop at file
      parts = ap (λ (s : List ℕ). 59 ∷ s) (slice-then file (at + 1) to run.low run.high) ∙ ap (λ (x : ℕ). x ∷ drop (at + 1) file) (sym e) ∙ here file at h

      pub semicolon-too-long : limit < to - at → None ≡ next_at at (semicolon_line limit (drop at file))
      semicolon-too-long l =
          subst (λ (s : List ℕ). None ≡ next_at at (semicolon_line limit s)) parts
          (semicolon-long limit at bs (drop to file) bs-blank (let q = length-bs in omega arith))

      fits : to - at ≤ limit → length bs < limit
      fits l = let q = length-bs in let g = run.low in omega arith

      ended : {n : ℕ} → line (drop to file) ≡ ok [] n → to - at ≤ limit → Some (to + n) ≡ next_at at (semicolon_line limit (drop at file))
      ended {n} q l =
          let g = run.low in
          let z : to + n ≡ at + (suc (length bs) + n) = omega (arith, length-bs) in
          subst (λ (s : List ℕ). Some (to + n) ≡ next_at at (semicolon_line limit s)) parts
          (ap Some z ∙ semicolon-there limit at bs (drop to file) bs-blank q (fits l))

      semicolon-last : to ≡ length file → to - at ≤ limit → Some to ≡ next_at at (semicolon_line limit (drop at file))
      semicolon-last q l =
          let z : to ≡ to + 0 = omega arith in
          ap Some z ∙ ended {n = 0} (ap line (drop_of_length-le file {i = to} (omega arith))) l

      semicolon-onward : to < length file → to - at ≤ limit → next_at to (line_end (drop to file)) ≡ next_at at (semicolon_line limit (drop at file))
      semicolon-onward q l = ⊎_elim there not (first_byte x xs)
        where
          x : ℕ
          x = get_or file to 0

          xs : List ℕ
          xs = drop (to + 1) file

          there : ((n : ℕ) × Ends (x ∷ xs) n) → next_at to (line_end (drop to file)) ≡ next_at at (semicolon_line limit (drop at file))
          there v =
              let w : Ends (drop to file) v.0 = subst (λ (s : List ℕ). Ends s v.0) (here file to q) v.1 in
              sym (line-end-there to (drop to file) w) ∙ ended w.empty l

          not : line (x ∷ xs) ≡ add_byte x (line xs) → next_at to (line_end (drop to file)) ≡ next_at at (semicolon_line limit (drop at file))
          not v =
              let w : line (drop to file) ≡ add_byte x (line xs) = ap line (sym (here file to q)) ∙ v in
              sym (line-end-not to (drop to file) x (line xs) w)
              ∙ subst (λ (s : List ℕ). None ≡ next_at at (semicolon_line limit s)) parts (semicolon-more limit at bs
              (drop to file) bs-blank x (line xs) (run.stops q) w)

      pub semicolon-ended : to - at ≤ limit → ended_at to (drop to file) ≡ next_at at (semicolon_line limit (drop at file))
      semicolon-ended l = go (ltb to (length file)) refl
        where
          go : (t : Bool) → ltb to (length file) ≡ t → ended_at to (drop to file) ≡ next_at at (semicolon_line limit (drop at file))
          go true p = let h = ltb-true to (length file) p in sym (ended-line file to h) ∙ semicolon-onward h l
          go false p =
              let h = ltb-false to (length file) p in
              let g = run.high in
              sym (ended-file file to h) ∙ semicolon-last (omega arith) l

-- ---- one after the other

next-plus : {B : Type 0} (at n : ℕ) (r : Res B) → next_at at (plus n r) ≡ next_at (at + n) r
next-plus at n (bad k p) = refl
next-plus at n cut = refl
next-plus at n (ok b m) = let z : at + (n + m) ≡ at + n + m = omega arith in ap Some z

module _ {A B : Type 0} (file : List ℕ) (at : ℕ) where
  then-missing : (f : A → Parser B) (r : Res A) → None ≡ next_at at r → None ≡ next_at at (then r f (drop at file))
  then-missing f (bad k p) e = refl
  then-missing f cut e = refl
  then-missing f (ok a n) e = absurd (no_place_lem (sym e))

  then_next : (q : Parser B) (r : Res A) {i : ℕ} → Some i ≡ next_at at r → next_at i (q (drop i file)) ≡ next_at at (then r (λ e. q) (drop at file))
  then_next q (bad k p) e = absurd (no_place_lem e)
  then_next q cut e = absurd (no_place_lem e)
  then_next q (ok a n) {i} e =
      let z : i ≡ at + n = same_place e in
      rw (z, drop-drop n at file) (sym (next-plus at n (q (drop (at + n) file))))

-- what follows the span
module _ (file : List ℕ) (limit at : ℕ) where
  pub after-span-missing : None ≡ next_at at (line_end (drop at file)) → None ≡ next_at at (after_span limit (drop at file))
  unfolding after_span
  after-span-missing e = then-missing file at (λ t. semicolon_line limit) (line_end (drop at file)) e

  pub after-span-next : {i : ℕ} → Some i ≡ next_at at (line_end (drop at file))
      → next_at i (semicolon_line limit (drop i file)) ≡ next_at at (after_span limit (drop at file))
  unfolding after_span
  after-span-next e = then_next file at (semicolon_line limit) (line_end (drop at file)) e

-- ---- the closing boundary

-- just these bytes, at a place of the file
module _ (w file : List ℕ) (at : ℕ) where
  pub word-short : length file - at < length w → None ≡ next_at at (literal w (drop at file))
  unfolding literal exactly
  word-short h = rw (lt-leb (length w) (length (drop at file)) (omega (arith, length-drop at file)))

  pub word_at : (to : ℕ) → to ≡ at + length w → to ≤ length file → (t : Bool) → same (take (to - at) (drop at file)) w ≡ t
      → cond t (Some to) None ≡ next_at at (literal w (drop at file))
  unfolding literal exactly
  word_at to e h t q = rw (le-leb (length w) (length (drop at file)) (omega (arith, length-drop at file)), e)
      (go t (ap (λ (n : ℕ). same (take n (drop at file)) w) width ∙ q))
    where
      width : length w ≡ to - at
      width = omega arith

      go : (t : Bool) → same (take (length w) (drop at file)) w ≡ t
          → cond t (Some (at + length w)) None ≡ next_at at (screen (λ u. cond (same u w) None (Some (9, 0))) (ok (take (length w) (drop at file)) (length w)))
      go true q = rw q
      go false q = rw q

-- a span up to a place, and what was read there
abbrev ending : ℕ → Option ℕ → Option Ending
ending to None = None
ending to (Some next) = Some (record { to = to; next = next })

-- the line end and the boundary, and then what follows the span
module _ (file : List ℕ) (limit at : ℕ) where
  after : (List ℕ × ℕ) → Parser ℕ
  after wn = bind (after_span limit) (λ e. ret wn.1)

  wrong : None ≡ next_at at (last_boundary (drop at file)) → None ≡ closed_at at (closed limit (drop at file))
  unfolding closed after
  wrong e = go (last_boundary (drop at file)) e
    where
      go : (r : Res (List ℕ)) → None ≡ next_at at r → None ≡ closed_at at (then (counted r) after (drop at file))
      go (bad k p) e = refl
      go cut e = refl
      go (ok t n) e = absurd (no_place_lem (sym e))

  span : {to : ℕ} → Some to ≡ next_at at (last_boundary (drop at file))
      → ending to (next_at to (after_span limit (drop to file))) ≡ closed_at at (closed limit (drop at file))
  unfolding closed after
  span {to} e = go (last_boundary (drop at file)) e
    where
      last : (n : ℕ) (r : Res (List ℕ)) → ending (at + n) (next_at (at + n) r) ≡ closed_at at (plus n (then r (λ e. ret n) (drop (at + n) file)))
      last n (bad k p) = refl
      last n cut = refl
      last n (ok t m) = let z : at + n + m ≡ at + (n + (m + 0)) = omega arith in ap (λ (m : ℕ). ending (at + n) (Some m)) z

      go : (r : Res (List ℕ)) → Some to ≡ next_at at r → ending to (next_at to (after_span limit (drop to file)))
          ≡ closed_at at (then (counted r) after (drop at file))
      go (bad k p) e = absurd (no_place_lem e)
      go cut e = absurd (no_place_lem e)
      go (ok t n) e =
          let z : to ≡ at + n = same_place e in
          rw (z, drop-drop n at file) (last n (after_span limit (drop (at + n) file)))

  pub closed-no-end : None ≡ next_at at (line_end (drop at file)) → None ≡ closed_at at (closed limit (drop at file))
  unfolding last_boundary
  closed-no-end e = wrong (then-missing file at (λ t. literal closing) (line_end (drop at file)) e)

  module _ {i : ℕ} (e : Some i ≡ next_at at (line_end (drop at file))) where
    boundary : next_at i (literal closing (drop i file)) ≡ next_at at (last_boundary (drop at file))
    unfolding last_boundary
    boundary = then_next file at (literal closing) (line_end (drop at file)) e

    pub closed-short : length file - i < length closing → None ≡ closed_at at (closed limit (drop at file))
    closed-short h = wrong (word-short closing file i h ∙ boundary)

    module _ {to : ℕ} (t : to ≡ i + length closing) (h : to ≤ length file) where
      pub closed-other : same (take (to - i) (drop i file)) closing ≡ false → None ≡ closed_at at (closed limit (drop at file))
      closed-other s = wrong (word_at closing file i to t h false s ∙ boundary)

      pub closed-span : same (take (to - i) (drop i file)) closing ≡ true → (r : Option ℕ) → r
          ≡ next_at to (after_span limit (drop to file)) → ending to r ≡ closed_at at (closed limit (drop at file))
      closed-span s r q = ap (ending to) q ∙ span (word_at closing file i to t h true s ∙ boundary)
