-- Many sections rewritten at once: the new items are good, one rewriting after another is one rewriting, choices that
-- agree give the same items, which sections there are then and where, and the new file. Assumes nothing.
use mathlib.Core.Path.{◌≡◌, refl, sym, ap, ◌∙◌}
use Rattle.std.specs.Prelude.{Option, None, Some}
use mathlib.Core.List.{List, [], ◌∷◌, ◌++◌, append_assoc}
use Prim.Native.Nat.{ℕ, zero, suc, ◌+◌, ◌≤◌}
use native.Mathlib.Nat.{not-suc-le-zero}
use native.Mathlib.Omega.{arith}
use lib.ListN.{length, drop, length-append, take-append-drop}
use lib.Seq.{slice, drop_at, take_at, drop-append-le, take-append-add, drop-append-add}
use Rattle.cbf_walk.specs.Parsers.{Parser, hd}
use Rattle.cbf_walk.specs.Reading.{Item, flat}
use Rattle.cbf_walk.specs.Exchange.{Exchange, exchanged}
use Rattle.cbf_walk.proofs.Tame.{Tame}
use Rattle.cbf_walk.proofs.Good.{Good}
use Rattle.cbf_walk.proofs.Sections.{nth, start_of, Spans}
use Rattle.cbf_walk.proofs.Choices.{Chosen, Choice, chosen_info, chosen_item, renewed, rewrite, then_or, after_or}
use Rattle.cbf_walk.proofs.Choices.{and_then, span_or, chosen_spans, before, Lawful, SameBefore, SameOutside}
use Rattle.cbf_walk.proofs.ParserLaws.{hd-app}
use Rattle.cbf_walk.proofs.SectionLaws.{item, Plain, Section, by-items}

abbrev Items : Type 0 → Type 0 → Type 0
Items St Info = List (Item St Info)

-- ---- which sections there are, and where

abbrev pub info_then : {Info : Type 0} → Choice Info → ℕ → Option Info → Option Info
info_then c n None = None
info_then c n (Some i) = Some (chosen_info (c n i) i)

module _ {St Info : Type 0} (width : Info → ℕ) (c : Choice Info) where
  -- each section keeps its number
  abbrev NumbersKept : Items St Info → Type 0
  NumbersKept its = (n m : ℕ) → nth m (rewrite width c n its) ≡ info_then c (n + m) (nth m its)

  pub nth-rewrite : (its : Items St Info) → NumbersKept its
  unfolding nth rewrite
  nth-rewrite = by-items NumbersKept (λ n m. refl) (λ it its ih. ih) go
    where
      go : Section NumbersKept
      go it a its ih n zero = let z : n ≡ n + 0 = omega arith in ap (λ (k : ℕ). Some (chosen_info (c k a) a)) z
      go it a its ih n (suc m) =
          let z : suc n + m ≡ n + suc m = omega arith in ih (suc n) m ∙ ap (λ (k : ℕ). info_then c k (nth m its)) z

  -- a section starts behind what stands before it, rewritten
  abbrev Starts : Items St Info → Type 0
  Starts its = (n m : ℕ) → start_of m (rewrite width c n its) ≡ length (flat (rewrite width c n (before m its)))

  pub start-rewrite : (its : Items St Info) → Starts its
  unfolding flat start_of rewrite before
  start-rewrite = by-items Starts (λ n m. refl) (λ it its ih n m. more it.bytes n m its (ih n m)) go
    where
      more : (b : List ℕ) (n m : ℕ) (its : Items St Info) {k : ℕ} → k ≡ length (flat (rewrite width c n (before m its)))
          → length b + k ≡ length (b ++ flat (rewrite width c n (before m its)))
      more b n m its e = omega (arith, e, length-append b (flat (rewrite width c n (before m its))))

      go : Section Starts
      go it a its ih n zero = refl
      go it a its ih n (suc m) = more (chosen_item (c n a) (width a) it.bytes) (suc n) m its (ih (suc n) m)

-- ---- the new items are good

module _ {St Info : Type 0} (step : St → Parser (Option Info × St)) (due : St → Option ℕ) (width : Info → ℕ)
    (tame : (st : St) → Tame (step st)) (c : Choice Info) where
  -- each chosen span is lawful, where the first of these sections has number n
  abbrev pub AllLawful : ℕ → Items St Info → Type 0
  AllLawful n its =
      (m : ℕ) (i : Info) (wv : List ℕ × Info) → nth m its ≡ Some i → c (n + m) i ≡ Some wv → Lawful step width i wv

  abbrev SameStart : St → Items St Info → Items St Info → Type 0
  SameStart st new its = Good step due st new × (hd (flat new) ≡ hd (flat its))

  abbrev StaysGood : Items St Info → Type 0
  StaysGood its = (st : St) (n : ℕ) → AllLawful n its → Good step due st its → SameStart st (rewrite width c n its) its

  -- and the file begins with the same byte
  pub rewrite-good : (its : Items St Info) → StaysGood its
  unfolding flat nth rewrite Good
  rewrite-good = by-items StaysGood (λ st n l g. (g, refl)) plain go
    where
      later : (st : St) (it : Item St Info) (its new : Items St Info) → Good step due st (it ∷ its)
          → SameStart it.next new its → SameStart st (it ∷ new) (it ∷ its)
      later st it its new g ih = (
        ((tame st).near it.bytes (flat its) (flat new) (it.info, it.next) (sym ih.1) g.0, g.1, ih.0),
        hd-app it.bytes _ _ ih.1,
      )

      plain : Plain StaysGood
      plain it its ih st n l g = later st (item it None) its (rewrite width c n its) g (ih it.next n l g.2)

      go : Section StaysGood
      go it a its ih st n l g = by (c n a) refl
        where
          new : Items St Info
          new = rewrite width c (suc n) its

          rest : SameStart it.next new its
          rest =
              ih it.next (suc n)
              (λ m i wv e q.
              let z : n + suc m ≡ suc n + m = omega arith in l (suc m) i wv e (ap (λ (k : ℕ). c k i) z ∙ q))
              g.2

          kept : SameStart st (item it (Some a) ∷ new) (item it (Some a) ∷ its)
          kept = later st (item it (Some a)) its new g rest

          by : (o : Chosen Info) → c n a ≡ o
              → SameStart st (renewed width o (item it (Some a)) a ∷ new) (item it (Some a) ∷ its)
          by None q = kept
          by (Some wv) q =
              let u = l 0 a wv refl (let z : n + 0 ≡ n = omega arith in ap (λ (k : ℕ). c k a) z ∙ q) in
              let w = wv.0 in
              let end = drop (width a) it.bytes in
              let reads = u.reads st it.next it.bytes (flat new) kept.0.0 in (
                (reads, omega (arith, u.some_byte, length-append w end), rest.0),
                ap hd (append_assoc w end (flat new)) ∙ u.same_byte st it.next it.bytes (flat its) _ g.0,
              )

-- ---- one rewriting after another

module _ {St Info : Type 0} (width : Info → ℕ) (c d : Choice Info)
    (spans : (n : ℕ) (i : Info) (wv : List ℕ × Info) → c n i ≡ Some wv → width wv.1 ≡ length wv.0) where
  abbrev OneRewriting : Items St Info → Type 0
  OneRewriting its = (n : ℕ) → rewrite width d n (rewrite width c n its) ≡ rewrite width (and_then c d) n its

  -- is one rewriting
  pub rewrite-then : (its : Items St Info) → OneRewriting its
  unfolding rewrite
  rewrite-then = by-items OneRewriting (λ n. refl) (λ it its ih n. λ k. item it None ∷ ih n k) go
    where
      go : Section OneRewriting
      go it a its ih n = λ k. by (c n a) refl k ∷ ih (suc n) k
        where
          by : (o : Chosen Info) → c n a ≡ o
              → (let it' = renewed width o (item it (Some a)) a in
              let i = chosen_info o a in
              renewed width (d n i) it' i ≡ renewed width (after_or d n a o) (item it (Some a)) a)
          by None q = refl
          by (Some wv) q = twice (d n wv.1)
            where
              end : List ℕ
              end = drop (width a) it.bytes

              z : drop (width wv.1) (wv.0 ++ end) ≡ end
              z = drop_at wv.0 end (width wv.1) (sym (spans n a wv q))

              twice : (o : Chosen Info)
                  → renewed width o (renewed width (Some wv) (item it (Some a)) a) wv.1
                  ≡ renewed width (then_or wv o) (item it (Some a)) a
              twice None = refl
              twice (Some e) = λ k. record { bytes = e.0 ++ z k; info = Some e.1; next = it.next }

-- ---- choices that agree

module _ {St Info : Type 0} (width : Info → ℕ) (c d : Choice Info) where
  abbrev Agrees : Items St Info → Type 0
  Agrees its = (n : ℕ) → ((m : ℕ) (i : Info) → nth m its ≡ Some i → c (n + m) i ≡ d (n + m) i)
      → rewrite width c n its ≡ rewrite width d n its

  -- give the same items
  pub rewrite-same : (its : Items St Info) → Agrees its
  unfolding rewrite nth
  rewrite-same = by-items Agrees (λ n h. refl) (λ it its ih n h. λ k. item it None ∷ ih n h k) go
    where
      go : Section Agrees
      go it a its ih n h =
          let z : n + 0 ≡ n = omega arith in
          let e : c n a ≡ d n a = ap (λ (j : ℕ). c j a) (sym z) ∙ h 0 a refl ∙ ap (λ (j : ℕ). d j a) z in
          let on = ih (suc n) (λ m i q.
          let y : n + suc m ≡ suc n + m = omega arith in
          ap (λ (j : ℕ). c j i) (sym y) ∙ h (suc m) i q ∙ ap (λ (j : ℕ). d j i) y) in
          λ k. renewed width (e k) (item it (Some a)) a ∷ on k

-- ---- the new file

-- the bytes up to a place, and those from there on
slice-drop : (a b : ℕ) (l : List ℕ) → a ≤ b → slice a b l ++ drop b l ≡ drop a l
slice-drop zero b l h = take-append-drop b l
slice-drop (suc a) zero l h = absurd (not-suc-le-zero h)
slice-drop (suc a) (suc b) [] h = refl
slice-drop (suc a) (suc b) (x ∷ l) h = slice-drop a b l (omega arith)

-- a new file that is the same outside is the file with these bytes exchanged
pub same-exchanged : (file new : List ℕ) (at : ℕ) (xs : List Exchange) (at' : ℕ) (ys : List Exchange)
    → SameOutside file new at xs at' ys → exchanged at xs file ≡ drop at' new
unfolding exchanged
same-exchanged file new at [] at' [] s = sym s
same-exchanged file new at [] at' (y ∷ ys) s = absurd s
same-exchanged file new at (x ∷ xs) at' [] s = absurd s
same-exchanged file new at (x ∷ xs) at' (y ∷ ys) s =
    let h = s.0 in
    (λ k. sym h.same k ++ (sym h.is_new k ++ same-exchanged file new x.to xs y.to ys s.1 k))
    ∙ ap (λ (z : List ℕ). slice at' y.from new ++ z) (slice-drop y.from y.to new h.not_less)
    ∙ slice-drop at' y.from new h.new_order

module _ {St Info : Type 0} (width : Info → ℕ) (c : Choice Info)
    (again : (n : ℕ) (i : Info) (wv : List ℕ × Info) → c n i ≡ Some wv
    → (width wv.1 ≡ length wv.0) × (c n wv.1 ≡ Some wv)) where
  -- items behind the p bytes `pre` of a file, and, rewritten, behind the p' bytes `pre'` of the new one; what `pre` has
  -- from `at` on is the same as what `pre'` has from `at'` on
  record Behind (its its' : Items St Info) (file new pre pre' : List ℕ) (at at' p p' : ℕ) : Type 0 where
    pub file_is : file ≡ pre ++ flat its
    pub new_is : new ≡ pre' ++ flat its'
    pub p_is : p ≡ length pre
    pub p'_is : p' ≡ length pre'
    pub at_in : at ≤ p
    pub at'_in : at' ≤ p'
    pub same : drop at' pre' ≡ drop at pre

  -- an item more
  further : {its its' : Items St Info} {it it' : Item St Info} {file new : List ℕ} (pre pre' : List ℕ)
      {at at' to to' p p' : ℕ} → Behind (it ∷ its) (it' ∷ its') file new pre pre' at at' p p'
      → let b = it.bytes in
      let b' = it'.bytes in
      to ≤ p + length b → to' ≤ p' + length b' → drop to' (pre' ++ b') ≡ drop to (pre ++ b)
      → Behind its its' file new (pre ++ b) (pre' ++ b') to to' (p + length b) (p' + length b')
  unfolding flat
  further {its} {its'} {it} {it'} pre pre' h l l' e = record {
    file_is = h.file_is ∙ sym (append_assoc pre it.bytes (flat its));
    new_is = h.new_is ∙ sym (append_assoc pre' it'.bytes (flat its'));
    p_is = omega (arith, h.p_is, length-append pre it.bytes);
    p'_is = omega (arith, h.p'_is, length-append pre' it'.bytes);
    at_in = l;
    at'_in = l';
    same = e;
  }

  -- of the same bytes in both
  passed : {its its' : Items St Info} {it : Item St Info} {file new : List ℕ} (pre pre' : List ℕ) {at at' p p' : ℕ}
      → Behind (it ∷ its) (it ∷ its') file new pre pre' at at' p p'
      → let b = it.bytes in Behind its its' file new (pre ++ b) (pre' ++ b) at at' (p + length b) (p' + length b)
  passed {it} pre pre' {at} {at'} h =
      further pre pre' h (omega (arith, h.at_in)) (omega (arith, h.at'_in))
      (drop-append-le at' pre' it.bytes (omega (arith, h.p'_is, h.at'_in))
      ∙ ap (λ (z : List ℕ). z ++ it.bytes) h.same
      ∙ sym (drop-append-le at pre it.bytes (omega (arith, h.p_is, h.at_in))))

  -- a chosen span more
  module _ (its its' : Items St Info) (it : Item St Info) (a : Info) (wv : List ℕ × Info) (file new pre pre' : List ℕ)
      (at at' p p' : ℕ) (wide : width wv.1 ≡ length wv.0) (span-in : width a ≤ length it.bytes)
      (h : Behind (it ∷ its) (renewed width (Some wv) it a ∷ its') file new pre pre' at at' p p') where
    abbrev w : List ℕ
    w = wv.0

    abbrev end : List ℕ
    end = drop (width a) it.bytes

    chosen-before : SameBefore file new at (record { from = p; to = p + width a; new = w }) at'
        (record { from = p'; to = p' + width wv.1; new = w })
    unfolding flat
    chosen-before =
        let e : new ≡ pre' ++ (w ++ (end ++ flat its')) =
        h.new_is ∙ ap (λ (z : List ℕ). pre' ++ z) (append_assoc w end (flat its')) in
        record {
          in_order = h.at_in;
          new_order = h.at'_in;
          same =
              ap (λ (z : List ℕ). slice at' p' z) e ∙ ap (drop at') (take_at pre' _ p' (sym h.p'_is)) ∙ h.same
              ∙ sym (ap (λ (z : List ℕ). slice at p z) h.file_is ∙ ap (drop at) (take_at pre _ p (sym h.p_is)));
          not_less = omega arith;
          is_new =
              rw (e, h.p'_is, wide, take-append-add, take_at w (end ++ flat its') (length w) refl)
              (drop_at pre' w (length pre') refl);
        }

    chosen-further : Behind its its' file new (pre ++ it.bytes) (pre' ++ (w ++ end)) (p + width a) (p' + width wv.1)
        (p + length it.bytes) (p' + length (w ++ end))
    chosen-further =
        further pre pre' h (omega arith) (omega (arith, wide, length-append w end))
        (rw (h.p_is, h.p'_is, drop-append-add pre, drop-append-add pre') (drop_at w end (width wv.1) (sym wide)))

  abbrev SameBehind : Items St Info → Type 0
  SameBehind its = (n : ℕ) (file new pre pre' : List ℕ) (at at' p p' : ℕ) → Spans width its
      → Behind its (rewrite width c n its) file new pre pre' at at' p p'
      → SameOutside file new at (chosen_spans width c n p its) at' (chosen_spans width c n p' (rewrite width c n its))

  same-behind : (its : Items St Info) → SameBehind its
  unfolding flat rewrite chosen_spans Spans
  same-behind = by-items SameBehind last
      (λ it its ih n file new pre pre' at at' p p' g h. ih n file new _ _ at at' _ _ g.1 (passed pre pre' h)) go
    where
      last : SameBehind []
      last n file new pre pre' at at' p p' g h =
          ap (drop at') h.new_is ∙ drop-append-le at' pre' [] (omega (arith, h.p'_is, h.at'_in))
          ∙ ap (λ (z : List ℕ). z ++ []) h.same
          ∙ sym (ap (drop at) h.file_is ∙ drop-append-le at pre [] (omega (arith, h.p_is, h.at_in)))

      go : Section SameBehind
      go it a its ih n file new pre pre' at at' p p' g h = by (c n a) refl h
        where
          rest : Items St Info
          rest = rewrite width c (suc n) its

          by : (o : Chosen Info) → c n a ≡ o
              → Behind (item it (Some a) ∷ its) (renewed width o (item it (Some a)) a ∷ rest)
              file new pre pre' at at' p p'
              → SameOutside file new at (span_or width o p a (chosen_spans width c (suc n) (p + length it.bytes) its))
              at' (chosen_spans width c n p' (renewed width o (item it (Some a)) a ∷ rest))
          by None q h = rw q (ih (suc n) file new _ _ at at' _ _ g.1 (passed pre pre' h))
          by (Some wv) q h =
              let z = again n a wv q in
              rw z.1 (
                chosen-before its rest (item it (Some a)) a wv file new pre pre' at at' p p' z.0 g.0 h,
                ih (suc n) file new _ _ _ _ _ _ g.1
                    (chosen-further its rest (item it (Some a)) a wv file new pre pre' at at' p p' z.0 g.0 h),
              )

  -- the new file has the chosen spans exchanged, and every other byte is in its place
  pub rewrite-outside : (its : Items St Info) (n : ℕ) → Spans width its
      → SameOutside (flat its) (flat (rewrite width c n its)) 0 (chosen_spans width c n 0 its)
      0 (chosen_spans width c n 0 (rewrite width c n its))
  rewrite-outside its n g =
      same-behind its n (flat its) (flat (rewrite width c n its)) [] [] 0 0 0 0 g
      (record {
        file_is = refl;
        new_is = refl;
        p_is = refl;
        p'_is = refl;
        at_in = omega arith;
        at'_in = omega arith;
        same = refl;
      })

  pub rewrite-file : (its : Items St Info) (n : ℕ) → Spans width its
      → flat (rewrite width c n its) ≡ exchanged 0 (chosen_spans width c n 0 its) (flat its)
  rewrite-file its n g =
      sym (same-exchanged (flat its) (flat (rewrite width c n its)) 0 _ 0 _ (rewrite-outside its n g))
