-- What a success of each combinator says, and that each is tame and moves where its parts do. Assumes nothing.
use mathlib.Core.Path.{◌≡◌, refl, sym, ap, ◌∙◌}
use Rattle.std.specs.Prelude.{Option, None, Some}
use Rattle.std.proofs.lemmas.Option.{none-some}
use mathlib.Core.List.{List, [], ◌∷◌, ◌++◌, append_assoc}
use Prim.Native.Nat.{ℕ, ◌+◌, ◌≤◌}
use native.Mathlib.Omega.{arith}
use lib.ListN.{length, take, drop, length-drop, take-append-drop}
use lib.Seq.{length-take-le, drop-append-le, drop_at}
use Rattle.cbf_walk.specs.Parsers.{Res, bad, cut, ok, Parser, hd, ret, plus, counted, screen_or, screen, blame}
use Rattle.cbf_walk.specs.Parsers.{onward, then, bind}
use Rattle.cbf_walk.proofs.Tame.{Tame, Moves}

pub hd-app : (b r r' : List ℕ) → hd r ≡ hd r' → hd (b ++ r) ≡ hd (b ++ r')
hd-app [] r r' e = e
hd-app (x ∷ b) r r' e = refl

-- what a success of `bind` says
pub record Unbound {A B : Type 0} (p : Parser A) (f : A → Parser B) (s : List ℕ) (c : B) (n : ℕ) : Type 0 where
  pub val : A
  pub first : ℕ
  pub second : ℕ
  pub did : p s ≡ ok val first
  pub then_did : f val (drop first s) ≡ ok c second
  pub sum : first + second ≡ n

module _ {A : Type 0} where
  pub bad≢ok : {k p n : ℕ} {a : A} → bad k p ≡ ok a n → ⊥
  bad≢ok e = let z : ◌≡◌ {A = ℕ} 0 1 = cc in omega arith

  pub cut≢ok : {n : ℕ} {a : A} → cut ≡ ok a n → ⊥
  cut≢ok e = let z : ◌≡◌ {A = ℕ} 0 1 = cc in omega arith

  pub ok-val : {a a' : A} {n n' : ℕ} → ok a n ≡ ok a' n' → a ≡ a'
  ok-val e = cc

  pub ok-num : {a a' : A} {n n' : ℕ} → ok a n ≡ ok a' n' → n ≡ n'
  ok-num e = cc

module _ {A B : Type 0} (p : Parser A) (f : A → Parser B) where
  pub unbind : (s : List ℕ) (c : B) (n : ℕ) → bind p f s ≡ ok c n → Unbound p f s c n
  unbind s c n e = go (p s) refl e
    where
      go2 : (a : A) (k : ℕ) → p s ≡ ok a k → (x : Res B) → f a (drop k s) ≡ x → plus k x ≡ ok c n → Unbound p f s c n
      go2 a k e₁ (bad j q) e₂ h = absurd (bad≢ok h)
      go2 a k e₁ cut e₂ h = absurd (cut≢ok h)
      go2 a k e₁ (ok c' m) e₂ h = record { val = a; first = k; second = m; did = e₁; then_did = cc; sum = cc }

      go : (x : Res A) → p s ≡ x → then x f s ≡ ok c n → Unbound p f s c n
      go (bad k q) e₁ h = absurd (bad≢ok h)
      go cut e₁ h = absurd (cut≢ok h)
      go (ok a k) e₁ h = go2 a k e₁ (f a (drop k s)) refl h

  -- one parser, then the other, on the bytes that they take
  pub bind_ok : (b r : List ℕ) {a : A} {c : B} {m : ℕ} → p (b ++ r) ≡ ok a (length b) → f a r ≡ ok c m → bind p f (b ++ r) ≡ ok c (length b + m)
  bind_ok b r {a} {c} {m} e₁ e₂ = rw e₁ (rw (drop_at b r (length b) refl) (rw e₂))

  -- the same, by counts
  pub bind-at : (s r : List ℕ) {a : A} {c : B} (n : ℕ) {m : ℕ} → p s ≡ ok a n → drop n s ≡ r → f a r ≡ ok c m → bind p f s ≡ ok c (n + m)
  bind-at s r n e₁ e e₂ = rw e₁ (rw e (rw e₂))

  pub bind-tame : Tame p → ((a : A) → Tame (f a)) → Tame (bind p f)
  bind-tame tp tf = record {
    within = λ s c n e. let u = unbind s c n e in
        let h₁ : u.first ≤ length s = tp.within s u.val u.first u.did in
        let h₂ : u.second ≤ length (drop u.first s) = (tf u.val).within (drop u.first s) c u.second u.then_did in
        omega (arith, u.sum, h₁, simp length-drop at h₂);
    near = λ b r r' c e h. near b r r' c e (unbind (b ++ r) c (length b) h);
  }
    where
      near : (b r r' : List ℕ) (c : B) → hd r ≡ hd r' → Unbound p f (b ++ r) c (length b) → bind p f (b ++ r') ≡ ok c (length b)
      near b r r' c e u =
          let k = u.first in
          let k≤ : k ≤ length b = omega (arith, u.sum) in
          let lt : length (take k b) ≡ k = length-take-le k b k≤ in
          let ld : length (drop k b) ≡ u.second = length-drop k b ∙ omega (arith, u.sum) in
          let s₁ : (q : List ℕ) → take k b ++ (drop k b ++ q) ≡ b ++ q = λ q. sym (append_assoc (take k b) (drop k b)
          q) ∙ ap (λ (l : List ℕ). l ++ q) (take-append-drop k b) in
          let d₁ : p (take k b ++ (drop k b ++ r)) ≡ ok u.val (length (take k b)) = ap p (s₁ r) ∙ u.did ∙ ap (λ (j : ℕ). ok u.val j) (sym lt) in
          let d₂ : p (take k b ++ (drop k b ++ r')) ≡ ok u.val (length (take k b)) = tp.near (take k b) (drop k b
          ++ r) (drop k b ++ r') u.val (hd-app (drop k b) r r' e) d₁ in
          let f₁ : f u.val (drop k b ++ r) ≡ ok c (length (drop k b)) = ap (f u.val)
          (sym (drop-append-le k b r k≤)) ∙ u.then_did ∙ ap (λ (j : ℕ). ok c j) (sym ld) in
          let f₂ : f u.val (drop k b ++ r') ≡ ok c (length (drop k b)) = (tf u.val).near (drop k b) r r' c e f₁ in
          ap (bind p f) (sym (s₁ r')) ∙ bind_ok (take k b) (drop k b ++ r') d₂ f₂ ∙ ap (λ (j : ℕ). ok c j) (omega (arith, lt, ld, u.sum))

  pub bind-moves : Moves p → Moves (bind p f)
  bind-moves m x xs c n e =
      let u = unbind (x ∷ xs) c n e in
      omega (arith, u.sum, m x xs u.val u.first u.did)

module _ {A : Type 0} where
  pub ret-tame : (a : A) → Tame (ret a)
  ret-tame a = record {
    within = λ s a' n e. let z : 0 ≡ n = ok-num e in omega arith;
    near = λ b r r' a' e h. h;
  }

  pub cut-tame : Tame {A = A} (λ s. cut)
  cut-tame = record { within = λ s a n e. absurd (cut≢ok e); near = λ b r r' a e h. absurd (cut≢ok h) }

  -- ---- a parser with its count

  pub uncount : (x : Res A) (a : A × ℕ) (n : ℕ) → counted x ≡ ok a n → (x ≡ ok a.0 n) × (a.1 ≡ n)
  uncount (bad k q) a n e = absurd (bad≢ok e)
  uncount cut a n e = absurd (cut≢ok e)
  uncount (ok a' m) a n e =
      let v : ◌≡◌ {A = A × ℕ} (a', m) a = ok-val e in
      let k : m ≡ n = ok-num e in
      let w : a' ≡ a.0 = ap (λ (x : A × ℕ). x.0) v in
      (cc, sym (ap (λ (x : A × ℕ). x.1) v) ∙ k)

  pub counted-ok : {x : Res A} {a : A} {n : ℕ} → x ≡ ok a n → counted x ≡ ok (a, n) n
  counted-ok e = ap counted e

  pub counted-tame : {p : Parser A} → Tame p → Tame (λ s. counted (p s))
  counted-tame {p} t = record {
    within = λ s a n e. t.within s a.0 n (uncount (p s) a n e).0;
    near = λ b r r' a e h. let u = uncount (p (b ++ r)) a (length b) h in
        counted-ok (t.near b r r' a.0 e u.0) ∙ (λ i. ok (a.0, sym u.1 i) (length b));
  }

  pub counted-moves : (p : Parser A) → Moves p → Moves (λ s. counted (p s))
  counted-moves p m x xs a n e = m x xs a.0 n (uncount (p (x ∷ xs)) a n e).0

  -- ---- a parser whose value is tested

  pub unscreen : (c : A → Option (ℕ × ℕ)) (x : Res A) (a : A) (n : ℕ) → screen c x ≡ ok a n → (x ≡ ok a n) × (c a ≡ None)
  unscreen c (bad k q) a n e = absurd (bad≢ok e)
  unscreen c cut a n e = absurd (cut≢ok e)
  unscreen c (ok b m) a n e = go (c b) refl e
    where
      go : (o : Option (ℕ × ℕ)) → c b ≡ o → screen_or o b m ≡ ok a n → (ok b m ≡ ok a n) × (c a ≡ None)
      go None q h = (h, let z : b ≡ a = ok-val h in ap c (sym z) ∙ q)
      go (Some k) q h = absurd (bad≢ok h)

  pub screen-tame : (c : A → Option (ℕ × ℕ)) {p : Parser A} → Tame p → Tame (λ s. screen c (p s))
  screen-tame c {p} t = record {
    within = λ s a n e. t.within s a n (unscreen c (p s) a n e).0;
    near = λ b r r' a e h. let u = unscreen c (p (b ++ r)) a (length b) h in
        rw (t.near b r r' a e u.0) (ap (λ (o : Option (ℕ × ℕ)). screen_or o a (length b)) u.1);
  }

  pub screen-moves : (c : A → Option (ℕ × ℕ)) (p : Parser A) → Moves p → Moves (λ s. screen c (p s))
  screen-moves c p m x xs a n e = m x xs a n (unscreen c (p (x ∷ xs)) a n e).0

  -- ---- a parser with one refusal

  pub unblame : (k : ℕ) (x : Res A) (a : A) (n : ℕ) → blame k x ≡ ok a n → x ≡ ok a n
  unblame k (bad j q) a n e = absurd (bad≢ok e)
  unblame k cut a n e = absurd (bad≢ok e)
  unblame k (ok b m) a n e = e

  pub blame-tame : (k : ℕ) {p : Parser A} → Tame p → Tame (λ s. blame k (p s))
  blame-tame k {p} t = record {
    within = λ s a n e. t.within s a n (unblame k (p s) a n e);
    near = λ b r r' a e h. rw (t.near b r r' a e (unblame k (p (b ++ r)) a (length b) h));
  }

  -- ---- a parser that needs a byte

  pub unonward : (p : Parser A) (s : List ℕ) (a : A) (n : ℕ) → onward p s ≡ ok a n → p s ≡ ok a n
  unonward p [] a n e = absurd (cut≢ok e)
  unonward p (x ∷ s) a n e = e

  pub onward-tame : {p : Parser A} → Tame p → Tame (onward p)
  onward-tame {p} t = record { within = within; near = near }
    where
      within : (s : List ℕ) (a : A) (n : ℕ) → onward p s ≡ ok a n → n ≤ length s
      within [] a n e = absurd (cut≢ok e)
      within (x ∷ xs) a n e = t.within (x ∷ xs) a n e

      near : (b r r' : List ℕ) (a : A) → hd r ≡ hd r' → onward p (b ++ r) ≡ ok a (length b) → onward p (b ++ r') ≡ ok a (length b)
      near [] [] r' a e h = absurd (cut≢ok h)
      near [] (x ∷ xs) [] a e h = absurd (none-some x (sym e))
      near [] (x ∷ xs) (y ∷ ys) a e h = t.near [] (x ∷ xs) (y ∷ ys) a e h
      near (x ∷ b) r r' a e h = t.near (x ∷ b) r r' a e h
