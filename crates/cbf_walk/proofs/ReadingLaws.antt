-- Reading gives items exactly where they are good and put together are the file; and what a loop that reads needs.
-- Assumes nothing.
use mathlib.Core.Path.{◌≡◌, refl, sym, ap, ◌∙◌, subst}
use Rattle.std.specs.Prelude.{Option, None, Some}
use mathlib.Core.List.{List, [], ◌∷◌, ◌++◌, append_assoc, append-nil}
use Prim.Native.Nat.{ℕ, zero, suc, ◌+◌, ◌-◌, ◌≤◌, ◌<◌}
use native.Mathlib.Nat.{not-suc-le-zero}
use native.Mathlib.Omega.{arith}
use lib.ListN.{length, take, drop, get_or, length-append, length-drop, take-append-drop, drop_of_length-le}
use lib.Seq.{length-take-le, drop_at, take_at, drop-cons, drop-drop, take-add}
use Rattle.cbf_walk.specs.Parsers.{Res, bad, cut, ok, Parser}
use Rattle.cbf_walk.proofs.Tame.{Tame, Moves}
use Rattle.cbf_walk.specs.Reading.{Item, Reading, refused, good, cons, flat, late, broke, turn, read_f, onto}
use Rattle.cbf_walk.specs.Reading.{from as from_of, Reached as ReachedOf}
use Rattle.cbf_walk.proofs.Good.{Good, item_at}

pub refused≢good : {A : Type 0} {k p : ℕ} {l : List A} → refused k p ≡ good l → ⊥
refused≢good e = let z : ◌≡◌ {A = ℕ} 0 1 = cc in omega arith

module _ {St Info : Type 0} where
  pub flat_append : (a b : List (Item St Info)) → flat (a ++ b) ≡ flat a ++ flat b
  unfolding flat
  flat_append [] b = refl
  flat_append (it ∷ a) b = ap (λ (z : List ℕ). it.bytes ++ z) (flat_append a b) ∙ sym (append_assoc it.bytes (flat a) (flat b))

module _ {St Info : Type 0} (ended : ℕ) (step : St → Parser (Option Info × St)) (due : St → Option ℕ) where
  abbrev Read : ℕ → ℕ → St → List ℕ → Reading (Item St Info)
  Read f off st s = read_f ended step due f off st s

  -- at the end of the file
  pub end_read : (f off : ℕ) (st : St) → read_f ended step due f off st [] ≡ late ended off (due st)
  unfolding read_f
  end_read zero off st = refl
  end_read (suc f) off st = refl

  -- one turn
  pub one-turn : (f off : ℕ) (st : St) (s : List ℕ) → 0 < length s
      → read_f ended step due (suc f) off st s ≡ turn ended off (due st) s (step st s) (λ o t r. read_f ended step due f o t r)
  unfolding read_f
  one-turn f off st [] h = absurd (not-suc-le-zero h)
  one-turn f off st (x ∷ xs) h = refl

  step-read : (f off : ℕ) (st : St) (b r : List ℕ) (o : Option Info × St) → 0 < length b → step st (b ++ r) ≡ ok o (length b)
      → Read (suc f) off st (b ++ r) ≡ cons (record { bytes = b; info = o.0; next = o.1 }) (Read f (off + length b) o.1 r)
  unfolding read_f
  step-read f off st [] r o h e = absurd (not-suc-le-zero h)
  step-read f off st (x ∷ b) r o h e = rw e (rw (take_at (x ∷ b) r (length (x ∷ b)) refl, drop_at (x ∷ b) r (length (x ∷ b)) refl))

  -- good items are what reading gives of their bytes
  pub complete : (its : List (Item St Info)) (f off : ℕ) (st : St) → Good step due st its → length (flat its) ≤ f
      → read_f ended step due f off st (flat its) ≡ good its
  unfolding flat Good
  complete [] f off st g h = end_read f off st ∙ ap (late ended off) g
  complete (it ∷ its) zero off st g h = absurd (omega (arith, length-append it.bytes (flat its), h, g.1))
  complete (it ∷ its) (suc f) off st g h =
      step-read f off st it.bytes (flat its) (it.info, it.next) g.1 g.0
      ∙ ap (cons it) (complete its f (off + length it.bytes) it.next g.2 (omega (arith, length-append it.bytes (flat its), h, g.1)))

  -- what reading to good items says
  Says : St → List ℕ → List (Item St Info) → Type 0
  Says st s its = Good step due st its × (flat its ≡ s)

  at-end : (off : ℕ) (st : St) (d : Option ℕ) → due st ≡ d → (its : List (Item St Info)) → late ended off d ≡ good its → Says st [] its
  unfolding Says flat Good
  at-end off st None q [] e = (q, refl)
  at-end off st None q (it ∷ its) e = let z : ◌≡◌ {A = ℕ} 0 1 = cc in absurd (omega arith)
  at-end off st (Some d) q its e = absurd (refused≢good e)

  module _ (moves : (st : St) → Moves (step st)) where
    -- with as many steps as bytes, more steps change nothing: the bound is never met
    pub fuel : (f f' off : ℕ) (st : St) (s : List ℕ) → length s ≤ f → length s ≤ f' → read_f ended step due f off st s ≡ read_f ended step due f' off st s
    unfolding read_f
    fuel zero f' off st [] h h' = sym (end_read f' off st)
    fuel (suc f) f' off st [] h h' = sym (end_read f' off st)
    fuel zero f' off st (x ∷ xs) h h' = absurd (not-suc-le-zero h)
    fuel (suc f) zero off st (x ∷ xs) h h' = absurd (not-suc-le-zero h')
    fuel (suc f) (suc f') off st (x ∷ xs) h h' = go (step st (x ∷ xs)) refl (λ off st s h h'. fuel f f' off st s h h')
      where
        go : (y : Res (Option Info × St)) → step st (x ∷ xs) ≡ y
            → ((off : ℕ) (st : St) (s : List ℕ) → length s ≤ f → length s ≤ f' → Read f off st s ≡ Read f' off st s)
            → turn ended off (due st) (x ∷ xs) y (λ o t s. Read f o t s) ≡ turn ended off (due st) (x ∷ xs) y (λ o t s. Read f' o t s)
        go (bad k p) q ih = refl
        go cut q ih = refl
        go (ok o n) q ih =
            let s = x ∷ xs in
            let m : 0 < n = moves st x xs o n q in
            let l : length (drop n s) ≤ length xs = omega (arith, length-drop n s, m) in
            ap (cons (record { bytes = take n s; info = o.0; next = o.1 })) (ih (off + n) o.1 (drop n s) (omega (arith, l, h)) (omega (arith, l, h')))

    -- one turn, with the same bound after it
    pub turned : (f off : ℕ) (st : St) (s : List ℕ) → 0 < length s → length s ≤ f
        → read_f ended step due f off st s ≡ turn ended off (due st) s (step st s) (λ o t r. read_f ended step due f o t r)
    turned f off st s h e = fuel f (suc f) off st s e (omega arith) ∙ one-turn f off st s h

    module _ (tame : (st : St) → Tame (step st)) where
      stepped : (st : St) (x : ℕ) (xs : List ℕ) (o : Option Info × St) (n : ℕ) → step st (x ∷ xs) ≡ ok o n
          → (r : Reading (Item St Info)) → ((is : List (Item St Info)) → r ≡ good is → Says o.1 (drop n (x ∷ xs)) is)
          → (its : List (Item St Info)) → cons (record { bytes = take n (x ∷ xs); info = o.0; next = o.1 }) r ≡ good its → Says st (x ∷ xs) its
      unfolding Says flat Good
      stepped st x xs o n q (refused k p) ih its e = absurd (refused≢good e)
      stepped st x xs o n q (good is) ih its e =
          let s = x ∷ xs in
          let l : length (take n s) ≡ n = length-take-le n s ((tame st).within s o n q) in
          let i = ih is refl in
          let whole : take n s ++ flat is ≡ s = ap (λ (t : List ℕ). take n s ++ t) i.1 ∙ take-append-drop n s in
          let all : record { bytes = take n s; info = o.0; next = o.1 } ∷ is ≡ its = cc in
          subst (λ (z : List (Item St Info)). Says st s z) all
          ((ap (step st) whole ∙ q ∙ ap (λ (k : ℕ). ok o k) (sym l), omega (arith, l, moves st x xs o n q), i.0), whole)

      -- what reading gives is good items, which put together are the file
      pub sound : (f off : ℕ) (st : St) (s : List ℕ) (its : List (Item St Info)) → read_f ended step due f off st s
          ≡ good its → Good step due st its × (flat its ≡ s)
      unfolding read_f Says
      sound zero off st [] its e = at-end off st (due st) refl its e
      sound zero off st (x ∷ xs) its e = absurd (refused≢good e)
      sound (suc f) off st [] its e = at-end off st (due st) refl its e
      sound (suc f) off st (x ∷ xs) its e = go (step st (x ∷ xs)) refl (λ o t s is. sound f o t s is) e
        where
          go : (y : Res (Option Info × St)) → step st (x ∷ xs) ≡ y
              → ((o : ℕ) (t : St) (s : List ℕ) (is : List (Item St Info)) → Read f o t s ≡ good is → Says t s is)
              → turn ended off (due st) (x ∷ xs) y (λ o t s. Read f o t s) ≡ good its → Says st (x ∷ xs) its
          go (bad k p) q ih e = absurd (refused≢good e)
          go cut q ih e = inside (due st) e
            where
              inside : (d : Option ℕ) → broke ended off d ≡ good its → Says st (x ∷ xs) its
              inside None e = absurd (refused≢good e)
              inside (Some d) e = absurd (refused≢good e)
          go (ok o n) q ih e = stepped st x xs o n q (Read f (off + n) o.1 (drop n (x ∷ xs))) (λ is h. ih (off + n) o.1 (drop n (x ∷ xs)) is h) its e

-- ---- what a loop that reads needs: the whole file s, a place `at` in it, and a bound f that is never met

module _ {A : Type 0} where
  pub onto-more : (l : List A) (a : A) (r : Reading A) → onto l (cons a r) ≡ onto (l ++ (a ∷ [])) r
  unfolding onto
  onto-more [] a r = refl
  onto-more (b ∷ l) a r = ap (cons b) (onto-more l a r)

  pub onto-refused : (l : List A) (k p : ℕ) → onto l (refused k p) ≡ refused k p
  unfolding onto
  onto-refused [] k p = refl
  onto-refused (b ∷ l) k p = ap (cons b) (onto-refused l k p)

  pub onto-end : (l : List A) → onto l (good []) ≡ good l
  unfolding onto
  onto-end [] = refl
  onto-end (b ∷ l) = ap (cons b) (onto-end l)

  -- items before a good reading are its first ones
  pub onto-good : (a : List A) (r : Reading A) (l : List A) → onto a r ≡ good l → (b : List A) × (l ≡ a ++ b)
  unfolding onto
  onto-good [] r l e = (l, refl)
  onto-good (x ∷ a) r l e = go (onto a r) (λ m h. onto-good a r m h) e
    where
      go : (y : Reading A) → ((m : List A) → y ≡ good m → (b : List A) × (m ≡ a ++ b)) → cons x y ≡ good l → (b : List A) × (l ≡ x ∷ (a ++ b))
      go (refused k p) ih e = absurd (refused≢good e)
      go (good m) ih e =
          let h : l ≡ x ∷ m = cc in
          let i = ih m refl in
          (i.0, h ∙ ap (λ (z : List A). x ∷ z) i.1)

module _ {St Info : Type 0} (ended : ℕ) (step : St → Parser (Option Info × St)) (due : St → Option ℕ) (f : ℕ) (s : List ℕ) where
  abbrev from : ℕ → St → Reading (Item St Info)
  from at st = from_of ended step due f s at st

  abbrev Reached : St → List (Item St Info) → ℕ → St → Type 0
  Reached st₀ done at st = ReachedOf ended step due f s st₀ done at st

  pub reached-start : (st₀ : St) → Reached st₀ [] 0 st₀
  unfolding flat onto
  reached-start st₀ = record { so_far = refl; behind = refl; inside = omega arith }

  module _ (moves : (st : St) → Moves (step st)) (tame : (st : St) → Tame (step st)) (enough : length s ≤ f)
      (at : ℕ) (st : St) where
    pub from_end : length s ≤ at → from at st ≡ late ended at (due st)
    from_end h = ap (read_f ended step due f at st) (drop_of_length-le s h) ∙ end_read ended step due f at st

    module _ (more : at < length s) where
      from-turn : from at st ≡ turn ended at (due st) (drop at s) (step st (drop at s)) (λ o t r. read_f ended step due f o t r)
      from-turn = turned ended step due moves f at st (drop at s) (omega (arith, length-drop at s)) (omega (arith, length-drop at s))

      pub from-bad : (k p : ℕ) → step st (drop at s) ≡ bad k p → from at st ≡ refused k (at + p)
      from-bad k p e = from-turn ∙ rw e

      pub from_cut : step st (drop at s) ≡ cut → from at st ≡ broke ended at (due st)
      from_cut e = from-turn ∙ rw e

      module _ (o : Option Info × St) (n : ℕ) (e : step st (drop at s) ≡ ok o n) where
        pub from-ok : from at st ≡ cons (item_at s at o n) (from (at + n) o.1)
        from-ok = from-turn ∙ rw (e, drop-drop)

        -- the step moved, and stayed in the file
        pub moved : (0 < n) × (at + n ≤ length s)
        moved = (
          moves st (get_or s at 0) (drop (suc at) s) o n (ap (step st) (sym (drop-cons s at 0 more)) ∙ e),
          omega (arith, more, length-drop at s, (tame st).within (drop at s) o n e),
        )

    module _ {st₀ : St} {done : List (Item St Info)} (r : Reached st₀ done at st) where
      pub reached-end : length s ≤ at → due st ≡ None → read_f ended step due f 0 st₀ s ≡ good done
      reached-end h e = r.so_far ∙ ap (onto done) (from_end h ∙ ap (late ended at) e) ∙ onto-end done

      pub reached-late : length s ≤ at → (d : ℕ) → due st ≡ Some d → read_f ended step due f 0 st₀ s ≡ refused ended (at - d)
      reached-late h d e = r.so_far ∙ ap (onto done) (from_end h ∙ ap (late ended at) e) ∙ onto-refused done ended (at - d)

      pub reached-bad : at < length s → (k p : ℕ) → step st (drop at s) ≡ bad k p → read_f ended step due f 0 st₀ s ≡ refused k (at + p)
      reached-bad more k p e = r.so_far ∙ ap (onto done) (from-bad more k p e) ∙ onto-refused done k (at + p)

      pub reached-cut : at < length s → step st (drop at s) ≡ cut → read_f ended step due f 0 st₀ s ≡ broke ended at (due st)
      reached-cut more e = r.so_far ∙ ap (onto done) (from_cut more e) ∙ go (due st)
        where
          go : (d : Option ℕ) → onto done (broke ended at d) ≡ broke ended at d
          go None = onto-refused done ended at
          go (Some d) = onto-refused done ended (at - d)

      pub reached-ok : at < length s → (o : Option Info × St) (n : ℕ) → step st (drop at s) ≡ ok o n
          → Reached st₀ (done ++ (item_at s at o n ∷ [])) (at + n) o.1
      unfolding flat
      reached-ok more o n e = record {
        so_far = r.so_far ∙ ap (onto done) (from-ok more o n e) ∙ onto-more done (item_at s at o n) (from (at + n) o.1);
        behind = flat_append done (item_at s at o n ∷ []) ∙ rw (append-nil, r.behind) (sym (take-add at n s));
        inside = (moved more o n e).1;
      }
