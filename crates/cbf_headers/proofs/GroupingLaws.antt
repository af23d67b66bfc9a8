-- A header's value and the file: the text that its lines make is the value as it lies in the file, joined. Assumes
-- nothing.
use mathlib.Core.Path.{◌≡◌, refl, sym, ap, subst, ◌∙◌}
use mathlib.Core.Logic.{◌⊎◌, inl, inr, ⊎_elim}
use Rattle.std.specs.Prelude.{Option, None, Some}
use mathlib.Core.Bool.{Bool, true, false, cond, not}
use mathlib.Core.List.{List, [], ◌∷◌, ◌++◌, append-nil, append_assoc}
use Prim.Native.Nat.{ℕ, zero, suc, ◌+◌, ◌-◌, ◌<◌, ◌≤◌}
use native.Mathlib.Omega.{arith}
use native.Mathlib.Numerals.{add-one}
use lib.Dec.{eqb}
use lib.ListN.{length, take, drop, get_or}
use lib.Seq.{slice, slice-cons, slice_empty, drop-nil, drop-drop, drop_at, drop-append-le, length-take-le, take-add}
use borrow.Author.Tests.{eq-eqb, eqb-true}
use Rattle.cbf_walk.specs.Parsers.{Res, bad, cut, ok, Parser, hd, ret, counted, onward}
use Rattle.cbf_format.specs.Text.{blank, skip, trim}
use Rattle.cbf_format.specs.Lines.{line, line_or, end_length, refused_byte}
use Rattle.cbf_walk.proofs.ParserLaws.{cut≢ok, ok-val, unbind, uncount, unscreen, unonward}
use Rattle.cbf_format.specs.Headers.{name_byte, add_name, split_colon, some_name, continues, malformed, or_malformed}
use Rattle.cbf_format.specs.Headers.{header_line, HeaderLines, add_line, more_lines, header_lines, Grouped, group}
use Rattle.cbf_lines.specs.Text.{Run}
use Rattle.cbf_headers.specs.HeaderParts.{Fresh}
use Rattle.cbf_values.specs.Value.{in_blanks, joined_from, joined, end_byte}
use Rattle.cbf_values.proofs.ValueLaws.{Lacks, differs, end-other, joined-byte, joined-13, joined-10, after-return}
use Rattle.cbf_values.proofs.ValueLaws.{blanks-over, in-blanks-blank, skip-blank, skip-other}

-- ---- a line, and the line end after it

-- a line end is read as a space where no 10 follows it, and is no blank
record Ends (e : List ℕ) : Type 0 where
  reads : (r : List ℕ) → Lacks (λ x. eqb x 10) r → joined (e ++ r) ≡ 32 ∷ joined_from in_blanks r
  other : (r : List ℕ) → Lacks blank (e ++ r)

-- no byte of a line end is in t
abbrev Plain : List ℕ → Type 0
Plain t = (k : ℕ) (r : List ℕ) → joined (drop k t ++ r) ≡ drop k t ++ joined r

record Split (s t : List ℕ) (n : ℕ) : Type 0 where
  plain : Plain t
  starts : take (length t) s ≡ t
  ends : (drop n s ≡ []) ⊎ ((e : List ℕ) × (take n s ≡ t ++ e) × Ends e)

abbrev SplitOf : List ℕ → Res (List ℕ) → Type 0
SplitOf s (bad k p) = Unit {0}
SplitOf s cut = Unit {0}
SplitOf s (ok t n) = Split s t n

nil-plain : Plain []
nil-plain k r = rw (drop-nil {A = ℕ} k)

cons-plain : (x : ℕ) (t : List ℕ) → end_byte x ≡ false → Plain t → Plain (x ∷ t)
cons-plain x t h p zero r = joined-byte x (t ++ r) h ∙ ap (λ (l : List ℕ). x ∷ l) (p 0 r)
cons-plain x t h p (suc k) r = p k r

ends-10 : (x : ℕ) → x ≡ 10 → Ends (x ∷ [])
ends-10 x e = record { reads = λ r h. joined-10 x r e; other = λ r. rw e }

ends-13 : (x : ℕ) → x ≡ 13 → Ends (x ∷ [])
ends-13 x e =
    record { reads = λ r h. joined-13 x r e ∙ ap (λ (l : List ℕ). 32 ∷ l) (after-return r h); other = λ r. rw e }

ends-both : (x y : ℕ) → x ≡ 13 → y ≡ 10 → Ends (x ∷ y ∷ [])
unfolding joined_from
ends-both x y e f = record { reads = λ r h. joined-13 x (y ∷ r) e ∙ rw f; other = λ r. rw e }

return-split : (x : ℕ) (xs : List ℕ) → x ≡ 13 → Split (x ∷ xs) [] (end_length (hd xs))
return-split x [] e = record { plain = nil-plain; starts = refl; ends = inl refl }
return-split x (y ∷ xs) e = go (eqb y 10) refl
  where
    go : (b : Bool) → eqb y 10 ≡ b → Split (x ∷ y ∷ xs) [] (cond (eqb y 10) 2 1)
    go true f =
        rw f (record
        { plain = nil-plain; starts = refl; ends = inr (x ∷ y ∷ [], refl, ends-both x y e (eqb-true y 10 f)) })
    go false f = rw f (record { plain = nil-plain; starts = refl; ends = inr (x ∷ [], refl, ends-13 x e) })

splits : (s : List ℕ) → SplitOf s (line s)
splits [] = record { plain = nil-plain; starts = refl; ends = inl refl }
splits (x ∷ xs) = go (eqb x 10) refl (eqb x 13) refl (line xs) (splits xs)
  where
    go : (a : Bool) → eqb x 10 ≡ a → (b : Bool) → eqb x 13 ≡ b → (r : Res (List ℕ)) → SplitOf xs r
        → SplitOf (x ∷ xs) (line_or a b x xs r)
    go true e b f r p =
        record { plain = nil-plain; starts = refl; ends = inr (x ∷ [], refl, ends-10 x (eqb-true x 10 e)) }
    go false e true f r p = return-split x xs (eqb-true x 13 f)
    go false e false f (bad k q) p = tt
    go false e false f cut p = tt
    go false e false f (ok t n) p =
        record {
          plain = cons-plain x t (end-other x f e) p.plain;
          starts = ap (λ (l : List ℕ). x ∷ l) p.starts;
          ends = ⊎_elim (λ z. inl z) (λ w. inr (w.0, ap (λ (l : List ℕ). x ∷ l) w.1, w.2)) p.ends;
        }

split : (s t : List ℕ) (n : ℕ) → line s ≡ ok t n → Split s t n
split s t n h = subst (λ (r : Res (List ℕ)). SplitOf s r) h (splits s)

-- ---- a line and those that continue its value

-- the text that continuation lines give
abbrev pub continued : List (List ℕ) → List ℕ
continued [] = []
continued (c ∷ cs) = 32 ∷ (skip c ++ continued cs)

-- a line with the text t and lines with the texts cs that continue it lie one after another from the start of s; the
-- last text ends at m and its line at n
pub data Continued : List ℕ → List ℕ → List (List ℕ) → ℕ → ℕ → Type 0 where
  alone : {s t : List ℕ} {n : ℕ} → line s ≡ ok t n → Continued s t [] (length t) n
  onto : {s t c : List ℕ} {cs : List (List ℕ)} {n m l : ℕ} → line s ≡ ok t n → continues c ≡ true
      → Continued (drop n s) c cs m l → Continued s t (c ∷ cs) (n + m) (n + l)

-- what lies in the file after the first text, up to the end of the last
record Raw (s t : List ℕ) (cs : List (List ℕ)) (m : ℕ) : Type 0 where
  rest : List ℕ
  plain : Plain t
  lies : take m s ≡ t ++ rest
  other : Lacks blank rest
  reads : joined rest ≡ continued cs

in-blanks-skip : (c r : List ℕ) → Plain c → Lacks blank r → joined_from in_blanks (c ++ r) ≡ skip c ++ joined r
in-blanks-skip [] r p h = blanks-over r h
in-blanks-skip (x ∷ c) r p h = go (in-blanks-skip c r (λ k. p (suc k)) h) (blank x) refl
  where
    go : joined_from in_blanks (c ++ r) ≡ skip c ++ joined r → (b : Bool) → blank x ≡ b
        → joined_from in_blanks (x ∷ (c ++ r)) ≡ skip (x ∷ c) ++ joined r
    go i true e = in-blanks-blank x (c ++ r) e ∙ i ∙ ap (λ (l : List ℕ). l ++ joined r) (sym (skip-blank x c e))
    go i false e = blanks-over (x ∷ (c ++ r)) e ∙ p 0 r ∙ ap (λ (l : List ℕ). l ++ joined r) (sym (skip-other x c e))

lacks-10 : (c r : List ℕ) → continues c ≡ true → Lacks (λ x. eqb x 10) (c ++ r)
lacks-10 [] r h = cc
lacks-10 (x ∷ c) r h = differs blank true x 10 h refl

first_line : {s t : List ℕ} {cs : List (List ℕ)} {m l : ℕ} → Continued s t cs m l → (n : ℕ) × (line s ≡ ok t n)
first_line (alone {n = n} h) = (n, h)
first_line (onto {n = n} h b r) = (n, h)

-- no line that continues lies at the file's end
not-at-end : {s c : List ℕ} {cs : List (List ℕ)} {m l : ℕ} → s ≡ [] → continues c ≡ true → Continued s c cs m l → ⊥
not-at-end {s = s} {c = c} e h r =
    let f = first_line r in
    let g : ok [] 0 ≡ ok c f.0 = sym (ap line e) ∙ f.1 in
    let n : [] ≡ c = cc in
    let b : ◌≡◌ {A = Bool} false true = ap continues n ∙ h in
    let z : ◌≡◌ {A = ℕ} 0 1 = cc in
    omega arith

raw : {s t : List ℕ} {cs : List (List ℕ)} {m l : ℕ} → Continued s t cs m l → Raw s t cs m
unfolding joined joined_from
raw (alone {s = s} {t = t} {n = n} h) =
    let p = split s t n h in
    record { rest = []; plain = p.plain; lies = p.starts ∙ sym (append-nil t); other = tt; reads = refl }
raw (onto {s = s} {t = t} {c = c} {cs = cs} {n = n} {m = m} h b r) = go (raw r) (split s t n h)
  where
    go : Raw (drop n s) c cs m → Split s t n → Raw s t (c ∷ cs) (n + m)
    go i p = ⊎_elim (λ z. absurd (not-at-end z b r)) lined p.ends
      where
        lined : (e : List ℕ) × (take n s ≡ t ++ e) × Ends e → Raw s t (c ∷ cs) (n + m)
        lined w =
            record {
              rest = w.0 ++ (c ++ i.rest);
              plain = p.plain;
              lies = take-add n m s ∙ ap (λ (l : List ℕ). l ++ take m (drop n s)) w.1
                  ∙ ap (λ (l : List ℕ). (t ++ w.0) ++ l) i.lies ∙ append_assoc t w.0 (c ++ i.rest);
              other = w.2.other (c ++ i.rest);
              reads =
                  w.2.reads (c ++ i.rest) (lacks-10 c i.rest b)
                  ∙ ap (λ (l : List ℕ). 32 ∷ l) (in-blanks-skip c i.rest i.plain i.other)
                  ∙ ap (λ (l : List ℕ). 32 ∷ (skip c ++ l)) i.reads;
            }

-- the text of the lines from k on is what lies there, joined
pub continued-joined : {s t : List ℕ} {cs : List (List ℕ)} {m l : ℕ} → Continued s t cs m l → (k : ℕ) → k ≤ length t
    → drop k t ++ continued cs ≡ joined (drop k (take m s))
continued-joined {t = t} c k h =
    let w = raw c in
    ap (λ (l : List ℕ). drop k t ++ l) (sym w.reads)
    ∙ sym (w.plain k w.rest)
    ∙ ap joined (sym (drop-append-le k t w.rest h) ∙ ap (drop k) (sym w.lies))

-- one more line
pub continued-more : {s t : List ℕ} {cs : List (List ℕ)} {m l : ℕ} → Continued s t cs m l → (c : List ℕ) (n : ℕ)
    → line (drop l s) ≡ ok c n → continues c ≡ true → Continued s t (cs ++ (c ∷ [])) (l + length c) (l + n)
continued-more (alone h) c n e b = onto h b (alone e)
continued-more {s = s} {t = t} (onto {c = d} {cs = cs} {n = i} {m = m} {l = l} h b r) c n e f =
    let q = continued-more r c n (ap line (drop-drop l i s) ∙ e) f in
    let x : i + (l + length c) ≡ i + l + length c = omega arith in
    let y : i + (l + n) ≡ i + l + n = omega arith in
    subst (λ (z : ℕ × ℕ). Continued s t (d ∷ (cs ++ (c ∷ []))) z.0 z.1) (λ j. (x j, y j)) (onto h b q)

-- ---- headers from their lines

abbrev pub texts : List (ℕ × List ℕ) → List (List ℕ)
texts [] = []
texts (l ∷ ls) = l.1 ∷ texts ls

abbrev Each : List (List ℕ) → Type 0
Each [] = Unit {0}
Each (c ∷ cs) = (continues c ≡ true) × Each cs

each : {s t : List ℕ} {cs : List (List ℕ)} {m l : ℕ} → Continued s t cs m l → Each cs
each (alone h) = tt
each (onto h b r) = (b, each r)

group-continued : (cs rest : List (ℕ × List ℕ)) → Each (texts cs) → (group rest).text ≡ [] → group (cs ++ rest)
    ≡ record { headers = (group rest).headers; text = continued (texts cs) }
group-continued [] rest h e = ap (λ (t : List ℕ). record { headers = (group rest).headers; text = t }) e
group-continued (c ∷ cs) rest h e =
    rw h.0 (ap (λ (g : Grouped). record { headers = g.headers; text = 32 ∷ (skip c.1 ++ g.text) })
    (group-continued cs rest h.1 e))

-- the name, and what follows the colon
abbrev ColonOf : List ℕ → Option (List ℕ × List ℕ) → Type 0
ColonOf t None = Unit {0}
ColonOf t (Some nv) = (nv.1 ≡ drop (suc (length nv.0)) t) × (suc (length nv.0) ≤ length t)

colons : (t : List ℕ) → ColonOf t (split_colon t)
colons [] = tt
colons (x ∷ t) = go (eqb x 58) (name_byte x) (split_colon t) (colons t)
  where
    go : (a b : Bool) (r : Option (List ℕ × List ℕ)) → ColonOf t r
        → ColonOf (x ∷ t) (cond a (Some ([], t)) (cond b (add_name x r) None))
    go true b r p = (refl, omega arith)
    go false false r p = tt
    go false true None p = tt
    go false true (Some nv) p = (p.0, omega (arith, p.1))

module _ (at : ℕ) (t : List ℕ) (name value : List ℕ) (b : continues t ≡ false) (h : split_colon t ≡ Some (name, value))
  where
    -- a header's line ends the text before it
    pub header-text : (ls : List (ℕ × List ℕ)) → (group ((at, t) ∷ ls)).text ≡ []
    header-text ls = rw (b, h)

    module _ (file : List ℕ) (p : ℕ) (fits : p ≤ length file) (cs : List (ℕ × List ℕ)) {m l : ℕ}
        (lies : Continued (drop p file) t (texts cs) m l) where
      part : (k : ℕ) → drop k (take m (drop p file)) ≡ slice (p + k) (p + m) file
      part k =
          ap (drop k)
          (sym (drop_at (take p file) (take m (drop p file)) p (length-take-le p file fits))
          ∙ ap (drop p) (sym (take-add p m file)))
          ∙ drop-drop k p (take (p + m) file)

      -- the value before its blanks are dropped: what lies in the file from after the colon up to the end of the
      -- last line's text
      pub value-lies : value ++ continued (texts cs) ≡ joined (slice (p + suc (length name)) (p + m) file)
      value-lies =
          let c = subst (λ (r : Option (List ℕ × List ℕ)). ColonOf t r) h (colons t) in
          ap (λ (v : List ℕ). v ++ continued (texts cs)) c.0
          ∙ continued-joined lies (suc (length name)) c.1
          ∙ ap joined (part (suc (length name)))

      -- the header that a line and those that continue it make
      pub header-lies : (rest : List (ℕ × List ℕ)) → (group rest).text ≡ [] → group ((at, t) ∷ (cs ++ rest))
          ≡ record {
            headers = record {
              at = at;
              name = name;
              value =
                  trim (joined (slice (p + suc (length name)) (p + m) file));
            } ∷ (group rest).headers;
            text = [];
          }
      header-lies rest e =
          rw (b, h)
          (rw (group-continued cs rest (each lies) e)
          (ap (λ (v : List ℕ). record
          { headers = record { at = at; name = name; value = trim v } ∷ (group rest).headers; text = [] })
          value-lies))

-- ---- header lines as they are read

-- no refusal 5: the line continues, or has a name
pub header-line : (limit : ℕ) (first : Bool) (s t : List ℕ) (n : ℕ) → header_line limit first s ≡ ok t n
    → (line s ≡ ok t n) × (malformed first t ≡ false)
unfolding header_line
header-line limit first s t n h =
    let u = unscreen (λ t. or_malformed (refused_byte limit 0 t) (malformed first t)) (line s) t n h in
    (u.0, well (refused_byte limit 0 t) (malformed first t) u.1)
  where
    well : (r : Option (ℕ × ℕ)) (b : Bool) → or_malformed r b ≡ None → b ≡ false
    well (Some r) b e = cc
    well None true e = cc
    well None false e = refl

pub header-name : (first : Bool) (x : ℕ) (t : List ℕ) → malformed first (x ∷ t) ≡ false → continues (x ∷ t) ≡ false
    → (nv : List ℕ × List ℕ) × (split_colon (x ∷ t) ≡ Some nv)
header-name first x t h b = go (split_colon (x ∷ t)) refl
  where
    named : not (some_name (split_colon (x ∷ t))) ≡ false
    named = ap (λ (z : Bool). cond z first (not (some_name (split_colon (x ∷ t))))) (sym b) ∙ h

    go : (r : Option (List ℕ × List ℕ)) → split_colon (x ∷ t) ≡ r
        → (nv : List ℕ × List ℕ) × (split_colon (x ∷ t) ≡ Some nv)
    go None e =
        let z : ◌≡◌ {A = Bool} true false = ap (λ (r : Option (List ℕ × List ℕ)). not (some_name r)) (sym e) ∙ named in
        cc
    go (Some nv) e = (nv, e)

-- lines that lie one after another in s from at on
pub data Lying (s : List ℕ) : ℕ → List (ℕ × List ℕ) → Type 0 where
  done : {at : ℕ} → Lying s at []
  next : {at n : ℕ} {t : List ℕ} {ls : List (ℕ × List ℕ)} → line (drop at s) ≡ ok t n → Lying s (at + n) ls
      → Lying s at ((at, t) ∷ ls)

-- the lines that continue the line t at at, and those after them
pub record Taken (s : List ℕ) (at : ℕ) (t : List ℕ) (ls : List (ℕ × List ℕ)) : Type 0 where
  pub more : List (ℕ × List ℕ)
  pub rest : List (ℕ × List ℕ)
  pub end : ℕ
  pub size : ℕ
  pub both : ls ≡ more ++ rest
  pub lies : Continued (drop at s) t (texts more) end size
  pub after : Lying s (at + size) rest
  pub fresh : Fresh rest

-- where they lie from v on
taken-at : {s : List ℕ} {at n v : ℕ} {t : List ℕ} {ls : List (ℕ × List ℕ)} → line (drop at s) ≡ ok t n → Lying s v ls
    → v ≡ at + n → Taken s at t ls
taken-at {n = n} {t = t} h done q =
    record { more = []; rest = []; end = length t; size = n; both = refl; lies = alone h; after = done; fresh = tt }
taken-at {s = s} {at = at} {n = n} {v = v} {t = t} h (next {n = m} {t = c} {ls = ls} e r) q =
    go (continues c) refl (taken-at {at = v} {n = m} {v = v + m} {t = c} {ls = ls} e r refl)
  where
    go : (b : Bool) → continues c ≡ b → Taken s v c ls → Taken s at t ((v, c) ∷ ls)
    go false f w =
        record {
          more = [];
          rest = (v, c) ∷ ls;
          end = length t;
          size = n;
          both = refl;
          lies = alone h;
          after = subst (λ (z : ℕ). Lying s z ((v, c) ∷ ls)) q (next e r);
          fresh = f;
        }
    go true f w =
        record {
          more = (v, c) ∷ w.more;
          rest = w.rest;
          end = n + w.end;
          size = n + w.size;
          both = ap (λ (z : List (ℕ × List ℕ)). (v, c) ∷ z) w.both;
          lies = onto h f (subst (λ (z : List ℕ). Continued z c (texts w.more) w.end w.size)
              (ap (λ (k : ℕ). drop k s) q ∙ sym (drop-drop n at s)) w.lies);
          after =
              let p : v + w.size ≡ at + (n + w.size) = omega (arith, q) in
              subst (λ (z : ℕ). Lying s z w.rest) p w.after;
          fresh = w.fresh;
        }

pub taken : {s : List ℕ} {at n : ℕ} {t : List ℕ} {ls : List (ℕ × List ℕ)} → line (drop at s) ≡ ok t n
    → Lying s (at + n) ls → Taken s at t ls
taken h l = taken-at h l refl

-- lines with text, none of them malformed
abbrev pub Formed : Bool → List (ℕ × List ℕ) → Type 0
Formed first [] = Unit {0}
Formed first ((at, []) ∷ ls) = ⊥
Formed first ((at, x ∷ t) ∷ ls) = (malformed first (x ∷ t) ≡ false) × Formed false ls

-- the header lines that are read lie one after another
pub lines-lie : (limit f : ℕ) (first : Bool) (at : ℕ) (s r : List ℕ) (hs : HeaderLines) (n : ℕ) → drop at s ≡ r
    → header_lines limit f first at r ≡ ok hs n → Lying s at hs.lines × Formed first hs.lines
unfolding header_lines
lines-lie limit zero first at s r hs n d h = absurd (cut≢ok h)
lines-lie limit (suc f) first at s r hs n d h =
    let one : Parser (List ℕ × ℕ) = λ r. counted (header_line limit first r) in
    let u = unbind (onward one) (more_lines (λ m. header_lines limit f false m) at) r hs n h in
    let c = uncount (header_line limit first r) u.val u.first (unonward one r u.val u.first u.did) in
    let l = header-line limit first r u.val.0 u.first c.0 in
    go (λ hs k e. lines-lie limit f false (at + u.first) s (drop u.first r) hs k
    (sym (drop-drop u.first at s) ∙ ap (drop u.first) d) e)
    u.val.0 u.val.1 u.second c.1 l.0 l.1 u.then_did
  where
    go : {k : ℕ} → ((hs : HeaderLines) (m : ℕ) → header_lines limit f false (at + k) (drop k r) ≡ ok hs m
        → Lying s (at + k) hs.lines × Formed false hs.lines) → (t : List ℕ) (i m : ℕ) → i ≡ k → line r ≡ ok t k
        → malformed first t ≡ false → more_lines (λ m. header_lines limit f false m) at (t, i) (drop k r) ≡ ok hs m
        → Lying s at hs.lines × Formed first hs.lines
    go {k = k} rest [] i m e l w h =
        let q : record { lines = []; empty = at } ≡ hs = ok-val h in
        subst (λ (z : HeaderLines). Lying s at z.lines × Formed first z.lines) q (done, tt)
    go {k = k} rest (x ∷ t) i m e l w h =
        let u = unbind (header_lines limit f false (at + i)) (λ hs. ret (add_line at (x ∷ t) hs)) (drop k r) hs m h in
        let q : add_line at (x ∷ t) u.val ≡ hs = ok-val u.then_did in
        let b = rest u.val u.first (ap (λ (z : ℕ). header_lines limit f false (at + z) (drop k r)) (sym e) ∙ u.did) in
        subst (λ (z : HeaderLines). Lying s at z.lines × Formed first z.lines) q (next (ap line d ∙ l) b.0, (w, b.1))

pub fresh-text : (first : Bool) (ls : List (ℕ × List ℕ)) → Formed first ls → Fresh ls → (group ls).text ≡ []
fresh-text first [] w h = refl
fresh-text first ((at, []) ∷ ls) w h = absurd w
fresh-text first ((at, x ∷ t) ∷ ls) w h = let q = header-name first x t w.0 h in
    header-text at (x ∷ t) q.0.0 q.0.1 h q.1 ls

formed-rest : (first : Bool) (more rest : List (ℕ × List ℕ)) → Formed first (more ++ rest) → (b : Bool) × Formed b rest
formed-rest first [] rest w = (first, w)
formed-rest first ((at, []) ∷ more) rest w = absurd w
formed-rest first ((at, x ∷ t) ∷ more) rest w = formed-rest false more rest w.1

-- the header that a line with a name makes with the lines that continue it, and the headers after them
module _ (s : List ℕ) (at n : ℕ) (t : List ℕ) (name value : List ℕ) (ls : List (ℕ × List ℕ))
    (h : line (drop at s) ≡ ok t n) (lying : Lying s (at + n) ls) where
  pub header-turn : at ≤ length s → continues t ≡ false → split_colon t ≡ Some (name, value) → Formed false ls
      → (w : Taken s at t ls) × (group ((at, t) ∷ ls) ≡ record {
        headers = record {
          at = at;
          name = name;
          value =
              trim (joined (slice (at + suc (length name)) (at + w.end) s));
        } ∷ (group w.rest).headers;
        text = [];
      })
  header-turn fits b c formed =
      let w = taken h lying in
      let f = formed-rest false w.more w.rest (subst (λ (z : List (ℕ × List ℕ)). Formed false z) w.both formed) in
      let e = fresh-text f.0 w.rest f.1 w.fresh in (
        w,
        ap (λ (z : List (ℕ × List ℕ)). group ((at, t) ∷ z)) w.both
            ∙ header-lies at t name value b c s at fits w.more w.lies w.rest e,
      )

-- ---- the colon in the file

module _ (file : List ℕ) (to : ℕ) (fits : to ≤ length file) (i : ℕ) (lt : i < to) (colon : get_or file i 0 ≡ 58) where
  colon-from : (n from : ℕ) → from + n ≡ i → ((j : ℕ) → from ≤ j → j < i → name_byte (get_or file j 0) ≡ true)
      → split_colon (slice from to file) ≡ Some (slice from i file, slice (i + 1) to file)
  colon-from zero from e each =
      let z : from ≡ i = omega arith in
      ap (λ (k : ℕ). split_colon (slice k to file)) z
      ∙ ap split_colon (slice-cons i to file 0 lt fits)
      ∙ rw (eq-eqb (get_or file i 0) 58 colon)
      (λ j. Some (sym (ap (λ (k : ℕ). slice k i file) z ∙ slice_empty i file) j, slice (sym (add-one i) j) to file))
  colon-from (suc n) from e each =
      let x = get_or file from 0 in
      let b : name_byte x ≡ true = each from (omega arith) (omega arith) in
      let o : eqb x 58 ≡ false = differs name_byte true x 58 b refl in
      ap split_colon (slice-cons from to file 0 (omega arith) fits)
      ∙ rw (o, b)
      (ap (add_name x) (colon-from n (suc from) (omega arith) (λ j l h. each j (omega arith) h))
      ∙ ap (λ (l : List ℕ). Some (l, slice (i + 1) to file))
      (sym (slice-cons from i file 0 (omega arith) (omega arith))))

  -- the name is what stands before the colon, and the value what stands after it
  pub colon-split : (from : ℕ) → Run name_byte file from to i
      → split_colon (slice from to file) ≡ Some (slice from i file, slice (i + 1) to file)
  colon-split from run = colon-from (i - from) from (omega (arith, run.low)) run.each
