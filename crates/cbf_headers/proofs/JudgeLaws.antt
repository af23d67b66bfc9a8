-- Judging the headers one after another: what each header does to the values found, and what is left. Assumes nothing.
use mathlib.Core.Path.{◌≡◌, refl, sym, ap, ◌∙◌, subst}
use Rattle.std.specs.Prelude.{Option, None, Some, is_some, Result, Ok, Err}
use mathlib.Core.Bool.{Bool, true, false, cond}
use mathlib.Core.List.{List, [], ◌∷◌}
use Prim.Native.Nat.{ℕ, ◌+◌, ◌-◌, ◌<◌, ◌≤◌, ◌^◌}
use native.Mathlib.Omega.{arith}
use Rattle.cbf_format.specs.declared.KnownHeader.{KnownHeader}
use Rattle.cbf_format.specs.declared.KnownHeader.TheVariants.{TransferEncoding, Size, Elements, ContentType, Kind}
use Rattle.cbf_format.specs.declared.KnownHeader.TheVariants.{ByteOrder, Id, Fastest, Second, Third}
use Rattle.cbf_format.specs.Text.{trim}
use Rattle.cbf_format.specs.Headers.{Header, Grouped, group}
use Rattle.cbf_format.specs.Values.{known_headers, header_named, value_of}
use Rattle.cbf_format.specs.Descriptions.{same_header, look, put, judge_header, judge_on, judge}
use Rattle.cbf_values.specs.Value.{joined}
use Rattle.cbf_values.specs.KnownValue.{InRangeOf}
use Rattle.cbf_headers.specs.Found.{found_of, field_of, InRange}
use Rattle.cbf_headers.specs.HeaderParts.{HeadersHere, HeaderParts}
use Rattle.cbf_headers.specs.Judge.{judged_at}
use Rattle.cbf_headers.specs.declared.found.Found.{Found}
use Rattle.cbf_headers.proofs.HeadersLaws.{lines_none}
use Rattle.cbf_format.specs.Descriptions as D

-- ---- the values found

found-field : (fs : List (KnownHeader × ℕ)) (k : KnownHeader) → field_of k (found_of fs) ≡ look k fs
found-field fs TransferEncoding = refl
found-field fs Size = refl
found-field fs Elements = refl
found-field fs ContentType = refl
found-field fs Kind = refl
found-field fs ByteOrder = refl
found-field fs Id = refl
found-field fs Fastest = refl
found-field fs Second = refl
found-field fs Third = refl

field_is : {values : Found} (fs : List (KnownHeader × ℕ)) → values ≡ found_of fs → (k : KnownHeader)
    → field_of k values ≡ look k fs
field_is fs e k = ap (field_of k) e ∙ found-field fs k

range-none : {values : Found} → values ≡ found_of [] → InRange values
range-none e = record { each = λ k. subst InRangeOf (sym (field_is [] e k)) (omega arith) }

-- one value more, in range
range-more : {values more : Found} (k : KnownHeader) (n : ℕ) (fs : List (KnownHeader × ℕ)) → values ≡ found_of fs
    → more ≡ found_of ((k, n) ∷ fs) → InRange values → n < 2 ^ 31 → InRange more
range-more k n fs e w h l =
    record { each = λ j. subst InRangeOf (sym (field_is ((k, n) ∷ fs) w j)) (go j (same_header j k)) }
  where
    go : (j : KnownHeader) (b : Bool) → InRangeOf (cond b (Some n) (look j fs))
    go j true = l
    go j false = subst InRangeOf (field_is fs e j) (h.each j)

-- ---- the loop

-- what the answer says of all the headers
abbrev pub Answers : List ℕ → ℕ → ℕ → Result Found ℕ → Type 0
Answers file from empty r = (h : HeadersHere file from empty) → r ≡ judged_at h.at (judge (group h.lines).headers [])

-- what is left of the headers h, where those before at gave fs
pub record Left (file : List ℕ) (from empty at : ℕ) (fs : List (KnownHeader × ℕ))
    (h : HeadersHere file from empty) : Type 0 where
  pub on : HeadersHere file at empty
  pub same_start : on.at ≡ h.at
  pub judged : judge (group h.lines).headers [] ≡ judge (group on.lines).headers fs

-- the loop's invariant
pub record Judging (file : List ℕ) (from empty at : ℕ) (values : Found) : Type 0 where
  pub fs : List (KnownHeader × ℕ)
  pub holds : values ≡ found_of fs
  pub range : InRange values
  pub left : (h : HeadersHere file from empty) → Left file from empty at fs h

-- none is judged
pub judging-none : {values : Found} (file : List ℕ) (from empty : ℕ) → values ≡ found_of []
    → Judging file from empty from values
judging-none file from empty e = record {
  fs = [];
  holds = e;
  range = range-none e;
  left = λ h. record { on = h; same_start = refl; judged = refl };
}

-- all are judged
pub judging-all : {file : List ℕ} {from empty at : ℕ} {values : Found} → Judging file from empty at values → empty ≤ at
    → Answers file from empty (Ok values)
unfolding judge
judging-all {file} t e h =
    let l = t.left h in
    let o = l.on in
    let n : o.lines ≡ [] =
    lines_none file o.at o.limit o.e o.after o.first o.m o.lines o.here (omega (arith, o.is_from, o.is_empty)) in
    ap Ok t.holds
    ∙ ap (judged_at h.at) (sym (l.judged ∙ ap (λ (ls : List (ℕ × List ℕ)). judge (group ls).headers t.fs) n))

module _ {file : List ℕ} {from empty at : ℕ} {values : Found} {name value : List ℕ} {next : ℕ}
    (t : Judging file from empty at values)
    (ps : (h : HeadersHere file at empty) → HeaderParts file at empty h name value next)
  where
    -- the header, m bytes after the start
    abbrev header_at : ℕ → Header
    header_at m = record { at = m; name = name; value = trim (joined value) }

    -- what it gives
    abbrev judged_here : ℕ → D.Judged
    judged_here m = judge_header (header_at m) (header_named known_headers name) t.fs

    first-judged : (h : HeadersHere file from empty)
        → judge (group h.lines).headers [] ≡ judge_on (λ fs. judge (group (ps (t.left h).on).rest).headers fs)
        (judged_here (t.left h).on.m)
    unfolding judge
    first-judged h = (t.left h).judged ∙ ap (λ (g : Grouped). judge g.headers t.fs) (ps (t.left h).on).grouped

    next-headers : (h : HeadersHere file at empty) → HeadersHere file next empty
    next-headers h =
        let p = ps h in
        record {
          at = h.at;
          limit = h.limit;
          after = h.after;
          first = false;
          m = next - h.at;
          e = h.e;
          lines = p.rest;
          is_from = omega (arith, h.is_from, p.moves);
          is_empty = h.is_empty;
          here = p.here;
          fresh = p.fresh;
          inside = h.inside;
        }

    judging-on : (fs : List (KnownHeader × ℕ)) (vs : Found) → vs ≡ found_of fs → InRange vs
        → ((m : ℕ) → judged_here m ≡ D.found fs)
        → Judging file from empty next vs
    unfolding next-headers
    judging-on fs vs e g q = record {
      fs = fs;
      holds = e;
      range = g;
      left = λ h. record {
        on = next-headers (t.left h).on;
        same_start = (t.left h).same_start;
        judged = first-judged h
            ∙ ap (judge_on (λ fs. judge (group (ps (t.left h).on).rest).headers fs)) (q (t.left h).on.m);
      };
    }

    judging-refused : ((m : ℕ) → judged_here m ≡ D.refused_at m) → Answers file from empty (Err at)
    judging-refused q h =
        let o = (t.left h).on in
        let w : judge (group h.lines).headers [] ≡ D.refused_at o.m =
        first-judged h ∙ ap (judge_on (λ fs. judge (group (ps o).rest).headers fs)) (q o.m) in
        let p : at ≡ h.at + o.m = omega (arith, o.is_from, (t.left h).same_start) in
        ap Err p ∙ ap (judged_at h.at) (sym w)

    -- another header is passed over
    pub judging-other : None ≡ header_named known_headers name → Judging file from empty next values
    judging-other e =
        judging-on t.fs values t.holds t.range
        (λ m. ap (λ (n : Option KnownHeader). judge_header (header_at m) n t.fs) (sym e))

    module _ {k : KnownHeader} (e : Some k ≡ header_named known_headers name) where
      known-judged : (o : Option ℕ) → o ≡ field_of k values → (m : ℕ)
          → judged_here m ≡ put m k o (value_of k (trim (joined value))) t.fs
      known-judged o w m =
          ap (λ (n : Option KnownHeader). judge_header (header_at m) n t.fs) (sym e)
          ∙ ap (λ (o : Option ℕ). put m k o (value_of k (trim (joined value))) t.fs) (sym (w ∙ field_is t.fs t.holds k))

      -- a repeated header
      pub judging-repeated : is_some (field_of k values) ≡ true → Answers file from empty (Err at)
      judging-repeated z = go (field_of k values) refl z
        where
          go : (o : Option ℕ) → o ≡ field_of k values → is_some o ≡ true → Answers file from empty (Err at)
          go None w z = cc
          go (Some old) w z = judging-refused (λ m. known-judged (Some old) w m)

      module _ (z : is_some (field_of k values) ≡ false) where
        new-judged : (m : ℕ) → judged_here m ≡ put m k None (value_of k (trim (joined value))) t.fs
        new-judged m = go (field_of k values) refl z
          where
            go : (o : Option ℕ) → o ≡ field_of k values → is_some o ≡ false
                → judged_here m ≡ put m k None (value_of k (trim (joined value))) t.fs
            go None w z = known-judged None w m
            go (Some old) w z = cc

        -- a bad value
        pub judging-bad : None ≡ value_of k (trim (joined value)) → Answers file from empty (Err at)
        judging-bad w = judging-refused (λ m. new-judged m ∙ ap (λ (v : Option ℕ). put m k None v t.fs) (sym w))

        -- a good one
        pub judging-number : {n : ℕ} {more : Found} → Some n ≡ value_of k (trim (joined value)) → n < 2 ^ 31
            → more ≡ found_of ((k, n) ∷ t.fs)
            → Judging file from empty next more
        judging-number {n} {more} w l a =
            judging-on ((k, n) ∷ t.fs) more a (range-more k n t.fs t.holds a t.range l)
            (λ m. new-judged m ∙ ap (λ (v : Option ℕ). put m k None v t.fs) (sym w))
