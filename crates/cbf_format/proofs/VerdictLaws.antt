-- What a description that a section's headers gave is: each number within its bounds, and the counts agree. Assumes
-- nothing.
use mathlib.Core.Path.{◌≡◌, refl, sym, ap, ◌∙◌, subst}
use Rattle.std.specs.Prelude.{Option, None, Some}
use Rattle.std.proofs.lemmas.Option.{none-some}
use mathlib.Core.Bool.{Bool, true, false, ◌&&◌, cond}
use mathlib.Core.List.{List, [], ◌∷◌}
use Prim.Native.Nat.{ℕ, ◌≤◌}
use native.Mathlib.Omega.{arith}
use lib.Dec.{leb}
use lib.ListN.{get_or}
use borrow.Author.Tests.{leb-true, eqb-true}
use Rattle.cbf_answers.specs.Limits.{file_limit, pixel_limit}
use Rattle.cbf_format.specs.Headers.{Header, HeaderLines, group}
use Rattle.cbf_format.specs.declared.KnownHeader.{KnownHeader}
use Rattle.cbf_format.specs.declared.KnownHeader.TheVariants.{TransferEncoding, Size, Elements, ContentType}
use Rattle.cbf_format.specs.declared.KnownHeader.TheVariants.{Kind, ByteOrder, Id, Fastest, Second, Third}
use Rattle.cbf_format.specs.Values.{decimal_number, between, known_headers, header_named, value_of}
use Rattle.cbf_format.specs.declared.Description.{Description}
use Rattle.cbf_format.specs.Descriptions.{Judged, refused_at, found, ordinal, same_header, look, put}
use Rattle.cbf_format.specs.Descriptions.{judge_header, judge_on as judged_on, judge, size_agrees, dimensions_agree}
use Rattle.cbf_format.specs.Descriptions.{optional, or_zero, description, agrees, Verdict, headers_refused}
use Rattle.cbf_format.specs.Descriptions.{describes, described, verdict_of, verdict}
use Rattle.cbf_format.proofs.LineTame.{and-true}

-- ---- known headers that are the same

same-header : (j k : KnownHeader) → same_header j k ≡ true → j ≡ k
same-header j k e = sym (back j) ∙ ap at (eqb-true (ordinal j) (ordinal k) e) ∙ back k
  where
    at : ℕ → KnownHeader
    at n = get_or known_headers n TransferEncoding

    back : (h : KnownHeader) → at (ordinal h) ≡ h
    back TransferEncoding = refl
    back Size = refl
    back Elements = refl
    back ContentType = refl
    back Kind = refl
    back ByteOrder = refl
    back Id = refl
    back Fastest = refl
    back Second = refl
    back Third = refl

-- ---- what the headers say

-- each number that was found is the value of its header
abbrev Valued : List (KnownHeader × ℕ) → Type 0
Valued fs = (k : KnownHeader) (n : ℕ) → look k fs ≡ Some n → (v : List ℕ) × (value_of k v ≡ Some n)

abbrev JudgedValued : Judged → Type 0
JudgedValued (refused_at p) = Unit {0}
JudgedValued (found fs) = Valued fs

judge-valued : (hs : List Header) (fs : List (KnownHeader × ℕ)) → Valued fs → JudgedValued (judge hs fs)
unfolding judge
judge-valued [] fs w = w
judge-valued (h ∷ hs) fs w = on (judge_header h (header_named known_headers h.name) fs)
    (header (header_named known_headers h.name)) (λ r w. judge-valued hs r w)
  where
    value : (k : KnownHeader) (old v : Option ℕ) → value_of k h.value ≡ v → JudgedValued (put h.at k old v fs)
    value k (Some n) v q = tt
    value k None None q = tt
    value k None (Some n) q = λ j m e. by j m (same_header j k) refl e
      where
        by : (j : KnownHeader) (m : ℕ) (b : Bool) → same_header j k ≡ b → cond b (Some n) (look j fs) ≡ Some m → (v : List ℕ) × (value_of j v ≡ Some m)
        by j m true p e = (h.value, ap (λ (z : KnownHeader). value_of z h.value) (same-header j k p) ∙ q ∙ e)
        by j m false p e = w j m e

    header : (o : Option KnownHeader) → JudgedValued (judge_header h o fs)
    header None = w
    header (Some k) = value k (look k fs) (value_of k h.value) refl

    on : (j : Judged) → JudgedValued j → ((r : List (KnownHeader × ℕ)) → Valued r → JudgedValued (judge hs r)) → JudgedValued (judged_on (λ r. judge hs r) j)
    on (refused_at p) v ih = tt
    on (found r) v ih = ih r v

between-most : (least most : ℕ) (o : Option ℕ) (n : ℕ) → between least most o ≡ Some n → n ≤ most
between-most least most None n e = absurd (none-some n e)
between-most least most (Some m) n e = go (leb least m && leb m most) refl e
  where
    go : (b : Bool) → leb least m && leb m most ≡ b → cond b (Some m) None ≡ Some n → n ≤ most
    go true q h =
        let p : m ≡ n = cc in
        omega (arith, leb-true m most (and-true (leb least m) (leb m most) q).1)
    go false q h = absurd (none-some n h)

-- a description that the headers may give
pub record Known (d : Description) : Type 0 where
  pub id_in : d.id ≤ 2_147_483_647
  pub fastest_in : d.fastest ≤ pixel_limit
  pub second_in : d.second ≤ pixel_limit
  pub third_in : d.third ≤ pixel_limit
  pub size_in : d.size ≤ file_limit
  pub few : d.elements ≤ pixel_limit
  pub agree : dimensions_agree (optional d.fastest) (optional d.second) (optional d.third) d.elements ≡ true

abbrev Sound : Verdict → Type 0
Sound (headers_refused k p) = Unit {0}
Sound (describes d) = Known d × (size_agrees d.compression d.kind d.size d.elements ≡ true)

verdict-sound : (hs : HeaderLines) → Sound (verdict hs)
unfolding verdict
verdict-sound hs = go (judge (group hs.lines).headers []) (judge-valued (group hs.lines).headers [] (λ k n e. absurd (none-some n e)))
  where
    -- a number that was found is at most its header's bound, and so is 0
    bounds : (fs : List (KnownHeader × ℕ)) → Valued fs → (k : KnownHeader) (least most : ℕ)
        → ((v : List ℕ) → value_of k v ≡ between least most (decimal_number v))
        → or_zero (look k fs) ≤ most
    bounds fs w k least most b = go (look k fs) refl
      where
        go : (o : Option ℕ) → look k fs ≡ o → or_zero o ≤ most
        go None q = omega arith
        go (Some n) q = let v = w k n q in between-most least most (decimal_number v.0) n (sym (b v.0) ∙ v.1)

    agreed : (e n k : ℕ) (fs : List (KnownHeader × ℕ)) (b : Bool) → agrees (description e n k fs) ≡ b → look Size fs ≡ Some n
        → look Elements fs ≡ Some k → Valued fs
        → Sound (cond b (describes (description e n k fs)) (headers_refused 7 hs.empty))
    agreed e n k fs true q g h w =
        let d = description e n k fs in
        let agreed = dimensions_agree (optional d.fastest) (optional d.second) (optional d.third) k in
        let a = and-true (size_agrees d.compression d.kind n k) agreed q in (
          record {
            id_in = bounds fs w Id 1 2_147_483_647 (λ v. refl);
            fastest_in = bounds fs w Fastest 1 pixel_limit (λ v. refl);
            second_in = bounds fs w Second 1 pixel_limit (λ v. refl);
            third_in = bounds fs w Third 1 pixel_limit (λ v. refl);
            size_in = subst (λ (o : Option ℕ). or_zero o ≤ file_limit) g (bounds fs w Size 0 file_limit (λ v. refl));
            few = subst (λ (o : Option ℕ). or_zero o ≤ pixel_limit) h (bounds fs w Elements 0 pixel_limit (λ v. refl));
            agree = a.1;
          },
          a.0,
        )
    agreed e n k fs false q g h w = tt

    all : (e n k : Option ℕ) (fs : List (KnownHeader × ℕ)) → look Size fs ≡ n → look Elements fs ≡ k → Valued fs
        → Sound (described hs.empty e n k fs)
    all (Some e) (Some n) (Some k) fs p q w = agreed e n k fs (agrees (description e n k fs)) refl p q w
    all None n k fs p q w = tt
    all (Some e) None k fs p q w = tt
    all (Some e) (Some n) None fs p q w = tt

    go : (j : Judged) → JudgedValued j → Sound (verdict_of hs.empty j)
    go (refused_at p) w = tt
    go (found fs) w = all (look TransferEncoding fs) (look Size fs) (look Elements fs) fs refl refl w

module _ (hs : HeaderLines) (d : Description) (e : verdict hs ≡ describes d) where
  -- every description that headers gave is one
  pub known : Known d
  known = (subst Sound e (verdict-sound hs)).0

  pub size-agrees : size_agrees d.compression d.kind d.size d.elements ≡ true
  size-agrees = (subst Sound e (verdict-sound hs)).1
