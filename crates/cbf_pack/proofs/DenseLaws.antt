-- Differences in one store of eight octets, and what is written over later. Assumes nothing.
use Prim.Native.Nat.{ℕ, zero, suc, ◌+◌, ◌*◌, ◌-◌, ◌/◌, ◌%◌, ◌^◌, ◌<◌, ◌≤◌}
use native.Mathlib.Omega.{arith}
use mathlib.Core.Path.{◌≡◌, refl, sym, ap, ap₂, ◌∙◌, subst}
use mathlib.Core.Bool.{Bool, true, false}
use mathlib.Core.List.{List, [], ◌∷◌, ◌++◌, append_assoc, append-nil}
use lib.Dec.{ltb}
use lib.ListN.{length, drop, get_or, set, length-append, length-drop}
use lib.Seq.{sets, length-sets, set-set, set_comm, length-take-le}
use lib.IntN.{ℤ, pos, negsuc, nat_abs, ◌+ℤ◌}
use lib.Signed.{mag}
use mir.Syntax.{w64}
use mir.Val.{to_z, of_z}
use borrow.Author.Tests.{ltb-true, ltb-false}
use Rattle.cbf_pixels.specs.Octets.{octets, bits}
use Rattle.cbf_pixels.specs.Pixels.{pack_difference, pack_from}
use Rattle.cbf_measure.specs.Measure.{over, part}
use Rattle.cbf_pack.specs.Write.{Small, Writable, Wrote, WroteOver}
use Rattle.cbf_pack.specs.Dense.{packing_forms, stored_as, form_length, PutOver}
use Rattle.cbf_pack.specs.declared.dense.Forms.{Forms}
use Rattle.cbf_measure.proofs.PartsLaws.{last_of}
use Rattle.cbf_pixels.proofs.Numbers.{length-octets}
use Rattle.cbf_pixels.proofs.Bounds.{from-bounds}
use Rattle.cbf_octets.proofs.OctetsLaws.{octets-add}
use Rattle.cbf_answers.proofs.Stores.{sets-append}
use Rattle.cbf_pixels.proofs.Forms.{form1, form2, form4, form-size}
use Rattle.cbf_measure.proofs.RangeLaws.{over_no, over_yes}
use Rattle.cbf_pack.proofs.WriteLaws.{octets-block, octets-mod, lifted, lifted-is, lifted-bits, gap, wrote-length, wrote_as, wrote-word}
use Rattle.cbf_pack.proofs.WriteLaws.{Upto, upto-none, upto-writable, upto-more, upto-one, wrote_none}
use Rattle.cbf_pack.proofs.WriteLaws.{writable_then}

-- ---- the forms

pub form_is : (f : Forms) (n c : ℕ) → f ≡ packing_forms → c ≤ 2 → n < 2 ^ 33
    → (get_or f.shift c 0 < 64) × (n * 2 ^ get_or f.shift c 0 % 18446744073709551616 + get_or f.escapes c 0 ≡ stored_as c n)
    × (stored_as c n < 2 ^ 63) × (get_or f.length c 0 ≡ form_length c)
unfolding stored_as form_length
form_is f n c e h l = rw e (go c h)
  where
    go : (c : ℕ) → c ≤ 2 → (get_or packing_forms.shift c 0 < 64)
        × (n * 2 ^ get_or packing_forms.shift c 0 % 18446744073709551616 + get_or packing_forms.escapes c 0 ≡ stored_as c n)
        × (stored_as c n < 2 ^ 63) × (get_or packing_forms.length c 0 ≡ form_length c)
    go zero h = (omega arith, omega arith, omega arith, refl)
    go (suc zero) h = (omega arith, omega arith, omega arith, refl)
    go (suc (suc zero)) h = (omega arith, omega arith, omega arith, refl)
    go (suc (suc (suc c))) h = let y : ⊥ = omega arith in absurd y

-- ---- a difference, raised by 2^32

pub raised_is : (d : ℤ) (r : ℕ) → nat_abs d < 2147483648 → pos r ≡ d +ℤ pos 4294967296 → r ≡ lifted d 4294967296
raised_is d r h e = ap mag (e ∙ lifted-is d 4294967296 (omega arith))

low-1 : (d : ℤ) → nat_abs d < 128 → lifted d 4294967296 % 256 ≡ bits 1 d
unfolding bits
low-1 (pos m) h = omega arith
low-1 (negsuc m) h = omega arith

low-2 : (d : ℤ) → nat_abs d < 32768 → lifted d 4294967296 % 65536 ≡ bits 2 d
unfolding bits
low-2 (pos m) h = omega arith
low-2 (negsuc m) h = omega arith

-- the octets of the number that is stored
pub record Stored (d : ℤ) (m size : ℕ) : Type 0 where
  pub behind : List ℕ
  pub is : octets 8 m ≡ pack_difference d ++ behind
  pub long : size ≡ length (pack_difference d)
  pub some : 0 < size

stored-1 : (d : ℤ) → nat_abs d < 128 → Stored d (lifted d 4294967296) 1
stored-1 d h =
    let n = lifted d 4294967296 in
    let f = form1 d h in
    record {
      behind = octets 7 (n / 256 ^ 1);
      is = octets-add 1 7 n ∙ ap (λ (l : List ℕ). l ++ octets 7 (n / 256 ^ 1)) (octets-mod 1 n ∙ ap (octets 1) (low-1 d h) ∙ sym f.is);
      long = form-size f;
      some = omega arith;
    }

stored-3 : (d : ℤ) → 128 ≤ nat_abs d → nat_abs d < 32768 → Stored d (lifted d 4294967296 * 256 + 128) 3
unfolding octets
stored-3 d g h =
    let n = lifted d 4294967296 in
    let m = n * 256 + 128 in
    let f = form2 d g h in
    let a : m % 256 ≡ 128 = omega arith in
    let q : m / 256 ^ 1 ≡ n = omega arith in
    let r = octets 5 (n / 256 ^ 2) in
    let u : octets 1 m ≡ octets 1 128 = octets-mod 1 m ∙ ap (octets 1) a in
    let v : octets 7 n ≡ octets 2 (bits 2 d) ++ r = octets-add 2 5 n ∙ ap (λ (l : List ℕ). l ++ r) (octets-mod 2 n ∙ ap (octets 2) (low-2 d h)) in
    record {
      behind = r;
      is = octets-add 1 7 m ∙ ap₂ (λ (x y : List ℕ). x ++ y) u (ap (octets 7) q ∙ v) ∙ sym (append_assoc (octets 1 128) (octets 2 (bits 2 d)) r)
          ∙ ap (λ (l : List ℕ). l ++ r) (sym f.is);
      long = form-size f;
      some = omega arith;
    }

escapes-3 : (n : ℕ) → octets 3 (n * 16777216 + 8388736) ≡ octets 1 128 ++ octets 2 32768
unfolding octets
escapes-3 n = octets-block 3 n 8388736

stored-7 : (d : ℤ) → 32768 ≤ nat_abs d → nat_abs d < 2147483648 → Stored d (lifted d 4294967296 * 16777216 + 8388736) 7
stored-7 d g h =
    let n = lifted d 4294967296 in
    let m = n * 16777216 + 8388736 in
    let f = form4 d g h in
    let q : m / 256 ^ 3 ≡ n = omega arith in
    let r = octets 1 (n / 256 ^ 4) in
    let v : octets 5 n ≡ octets 4 (bits 4 d) ++ r = octets-add 4 1 n ∙ ap (λ (l : List ℕ). l ++ r)
    (octets-mod 4 n ∙ ap (octets 4) (lifted-bits d 4294967296 4 (omega arith) refl)) in
    record {
      behind = r;
      is =
          octets-add 3 5 m ∙ ap₂ (λ (x y : List ℕ). x ++ y) (escapes-3 n) (ap (octets 5) q ∙ v)
          ∙ sym (append_assoc (octets 1 128 ++ octets 2 32768) (octets 4 (bits 4 d)) r)
          ∙ ap (λ (l : List ℕ). l ++ r) (sym f.is);
      long = form-size f;
      some = omega arith;
    }

pub stored : (d : ℤ) (n c : ℕ) → nat_abs d < 2147483648 → n ≡ lifted d 4294967296 → c ≡ over d 128 + over d 32768 → Stored d (stored_as c n) (form_length c)
unfolding stored_as form_length
stored d n c h e f = go (ltb (nat_abs d) 128) refl (ltb (nat_abs d) 32768) refl
  where
    with-form : (k : ℕ) → over d 128 + over d 32768 ≡ k → Stored d (stored_as k (lifted d 4294967296)) (form_length k) → Stored d (stored_as c n) (form_length c)
    with-form k q = subst (λ (x : ℕ). Stored d (stored_as k (lifted d 4294967296)) (form_length k) → Stored d (stored_as x n) (form_length x))
        (sym (f ∙ q)) (subst (λ (y : ℕ). Stored d (stored_as k (lifted d 4294967296)) (form_length k) → Stored d (stored_as k y) (form_length k)) (sym e)
        (λ s. s))

    go : (s : Bool) → ltb (nat_abs d) 128 ≡ s → (t : Bool) → ltb (nat_abs d) 32768 ≡ t → Stored d (stored_as c n) (form_length c)
    go true p true q = with-form 0 (omega (arith, over_no d 128 p, over_no d 32768 q)) (stored-1 d (ltb-true (nat_abs d) 128 p))
    go true p false q = let y : ⊥ = omega (arith, ltb-true (nat_abs d) 128 p, ltb-false (nat_abs d) 32768 q) in absurd y
    go false p true q = with-form 1 (omega (arith, over_yes d 128 p, over_no d 32768 q)) (stored-3 d (ltb-false (nat_abs d) 128 p) (ltb-true (nat_abs d) 32768 q))
    go false p false q = with-form 2 (omega (arith, over_yes d 128 p, over_yes d 32768 q)) (stored-7 d (ltb-false (nat_abs d) 32768 q) h)

pub put-stored : {d : ℤ} {m size : ℕ} (out : List ℕ) (at : ℕ) (out' : List ℕ) (next : ℕ) → Stored d m size → out' ≡ sets out at (octets 8 m)
    → next ≡ at + size → PutOver d out at out' next
put-stored {d} {m} {size} out at out' next s e a =
    let l = length-append (pack_difference d) s.behind in
    let k : length (pack_difference d ++ s.behind) ≡ 8 = ap length (sym s.is) ∙ length-octets 8 m in
    record {
      behind = s.behind;
      few = omega (arith, s.long, s.some);
      octets = e ∙ ap (sets out at) s.is;
      long = omega arith;
      after = omega (arith, s.long);
    }

-- a difference of fifteen octets is all that is written
pub put-far : (d : ℤ) (out : List ℕ) (at : ℕ) (out' : List ℕ) (next : ℕ) → 7 ≤ length (pack_difference d) → (next ≡ at + length (pack_difference d))
    × (out' ≡ sets out at (pack_difference d)) → PutOver d out at out' next
put-far d out at out' next h e =
    record {
      behind = [];
      few = omega arith;
      octets = e.1 ∙ ap (sets out at) (sym (append-nil (pack_difference d)));
      long = omega (arith, length-append (pack_difference d) []);
      after = e.0;
    }

-- ---- written over

sets-swap : (l : List ℕ) (p q : ℕ) (y : ℕ) (g : List ℕ) → p < q → set (sets l q g) p y ≡ sets (set l p y) q g
sets-swap l p q y [] h = refl
sets-swap l p q y (x ∷ g) h =
    sets-swap (set l q x) p (suc q) y g (omega arith) ∙ ap (λ (o : List ℕ). sets o (suc q) g) (set_comm l q p x y (λ e. omega arith))

pub sets-cover : (l : List ℕ) (p : ℕ) (g ys : List ℕ) → length g ≤ length ys → sets (sets l p g) p ys ≡ sets l p ys
sets-cover l p [] ys h = refl
sets-cover l p (x ∷ g) [] h = let y : ⊥ = omega arith in absurd y
sets-cover l p (x ∷ g) (y ∷ ys) h =
    ap (λ (o : List ℕ). sets o (suc p) ys) (sets-swap (set l p x) p (suc p) y g (omega arith) ∙ ap (λ (o : List ℕ). sets o (suc p) g) (set-set l p x y))
    ∙ sets-cover (set l p y) (suc p) g ys (omega arith)

-- ---- pixels written one after another, with octets behind them that are written over later

pub record Along (ps : List ℤ) (k n : ℕ) (last : ℤ) (out : List ℕ) (at j : ℕ) (out' : List ℕ) (prev : ℤ) (next limit : ℕ) : Type 0 where
  pub clean : List ℕ
  pub upto : Upto ps k n last out at j clean prev next
  pub behind : List ℕ
  pub few : length behind ≤ limit
  pub seven : length behind ≤ 7
  pub is : out' ≡ sets clean next behind

pub along-none : {ps : List ℤ} {k n : ℕ} {last : ℤ} {out : List ℕ} {at : ℕ} {prev : ℤ} {next limit : ℕ} → prev ≡ last → next ≡ at
    → Along ps k n last out at 0 out prev next limit
along-none {out = out} e q = record { clean = out; upto = upto-none e q; behind = []; few = omega arith; seven = omega arith; is = refl }

along-length : {ps : List ℤ} {k n : ℕ} {last : ℤ} {out : List ℕ} {at j : ℕ} {out' : List ℕ} {prev : ℤ} {next limit : ℕ}
    (a : Along ps k n last out at j out' prev next limit) → length out' ≡ length a.clean
along-length {next = next} a = ap length a.is ∙ length-sets a.clean next a.behind

pub along-same : {ps : List ℤ} {k n : ℕ} {last : ℤ} {out : List ℕ} {at j : ℕ} {out' : List ℕ} {prev : ℤ} {next limit : ℕ}
    → Along ps k n last out at j out' prev next limit → length out' ≡ length out
along-same a = along-length a ∙ wrote-length a.upto.wrote

module _ {ps : List ℤ} {k n : ℕ} {last : ℤ} {out : List ℕ} {at : ℕ} (w : Writable ps k n last out at) {j : ℕ} {out' : List ℕ} {prev : ℤ} {next limit : ℕ}
    (a : Along ps k n last out at j out' prev next limit) (m i : ℕ) (e : i ≡ k + j) (l : j + m ≤ n) where
  -- the next m have room
  pub along-writable : Writable ps i m prev out' next
  along-writable =
      let v = upto-writable w a.upto m i e l in
      record { small = v.small; before = v.before; pixels = v.pixels; room = omega (arith, v.room, along-length a) }

  -- each takes an octet
  pub along-room : next + m ≤ length out'
  along-room =
      let v = along-writable in
      let s = (from-bounds prev (part ps i m)).0 in
      omega (arith, v.room, v.pixels, length-take-le m (drop i ps) (omega (arith, v.pixels, length-drop i ps)))

pub along_one : {ps : List ℤ} {k n : ℕ} {last : ℤ} {out : List ℕ} {at j : ℕ} {out' : List ℕ} {prev : ℤ} {next : ℕ} → Writable ps k n last out at
    → Along ps k n last out at j out' prev next 7
    → (i : ℕ) → i ≡ k + j → j + 1 ≤ n → {out'' : List ℕ} {next' : ℕ} → PutOver (to_z w64 (of_z w64 (gap ps i prev))) out' next out'' next'
    → Along ps k n last out at (j + 1) out'' (to_z w64 (of_z w64 (get_or ps i (pos 0)))) next' 7
along_one {ps} {k} {n} {last} {out} {at} {j} {out'} {prev} {next} w a i e l {out''} {next'} p =
    let d = pack_difference (to_z w64 (of_z w64 (gap ps i prev))) in
    record {
      clean = sets a.clean next d;
      upto = upto-one w a.upto i e l (p.after, refl);
      behind = p.behind;
      few = p.few;
      seven = p.few;
      is =
          p.octets
          ∙ ap (λ (o : List ℕ). sets o next (d ++ p.behind)) a.is
          ∙ sets-cover a.clean next a.behind (d ++ p.behind) (omega (arith, a.few, p.long))
          ∙ sym (sets-append a.clean next d p.behind)
          ∙ ap (λ (x : ℕ). sets (sets a.clean next d) x p.behind) (sym p.after);
    }

-- n of them
pub along-all : {ps : List ℤ} {k n N : ℕ} {last : ℤ} {out : List ℕ} {at j : ℕ} {out' : List ℕ} {prev : ℤ} {next limit : ℕ}
    → Along ps k N (to_z w64 (of_z w64 last)) out at j out' prev next limit → Small last → n ≡ j
    → WroteOver ps k n last out at out' next limit
along-all a h e =
    record { clean = a.clean; wrote = wrote-word h (wrote_as a.upto.wrote e refl refl); behind = a.behind; few = a.few; seven = a.seven; is = a.is }

-- ---- parts

-- fewer have room too
pub writable-few : {ps : List ℤ} {k n : ℕ} {last : ℤ} {out : List ℕ} {at : ℕ} → Writable ps k n last out at → (m : ℕ) → m ≤ n → Writable ps k m last out at
unfolding last_of
writable-few {ps} {k} {n} {last} {out} {at} w m l =
    let q : k + 0 ≡ k = omega arith in
    subst (λ (r : ℕ). Writable ps r m last out at) q (writable_then ps k last out at n 0 m out at w (omega arith) (wrote_none ps k last out at at refl))

-- nothing more was written
pub over_none : {ps : List ℤ} {k n : ℕ} {last : ℤ} {out : List ℕ} {at : ℕ} {out' : List ℕ} {next : ℕ} → Wrote ps k n last out at out' next
    → (limit : ℕ) → WroteOver ps k n last out at out' next limit
over_none {out' = out'} w limit = record { clean = out'; wrote = w; behind = []; few = omega arith; seven = omega arith; is = refl }

pub over-limit : {ps : List ℤ} {k n : ℕ} {last : ℤ} {out : List ℕ} {at : ℕ} {out' : List ℕ} {next limit : ℕ}
    → WroteOver ps k n last out at out' next limit → (limit' : ℕ) → limit ≤ limit' → WroteOver ps k n last out at out' next limit'
over-limit w limit' l = record { clean = w.clean; wrote = w.wrote; behind = w.behind; few = omega (arith, w.few); seven = w.seven; is = w.is }

pub over_word : {ps : List ℤ} {k n : ℕ} {last : ℤ} {out : List ℕ} {at : ℕ} {out' : List ℕ} {next limit : ℕ} → Small last
    → WroteOver ps k n (to_z w64 (of_z w64 last)) out at out' next limit → WroteOver ps k n last out at out' next limit
over_word h w = record { clean = w.clean; wrote = wrote-word h w.wrote; behind = w.behind; few = w.few; seven = w.seven; is = w.is }

-- a part that is written over what was behind
wrote-cover : {ps : List ℤ} {k n : ℕ} {last : ℤ} {at : ℕ} {out out' : List ℕ} {next : ℕ} (clean behind : List ℕ) → Wrote ps k n last out at out' next
    → out ≡ sets clean at behind → length behind ≤ n → k + n ≤ length ps
    → Wrote ps k n last clean at out' next
wrote-cover {ps} {k} {n} {last} {at} clean behind w e l h =
    let xs = pack_from last (part ps k n) in
    let s = (from-bounds last (part ps k n)).0 in
    record {
      octets =
          w.octets ∙ ap (λ (o : List ℕ). sets o at xs) e
          ∙ sets-cover clean at behind xs (omega (arith, length-take-le n (drop k ps) (omega (arith, length-drop k ps))));
      after = w.after;
    }

pub along-more : {ps : List ℤ} {k n : ℕ} {last : ℤ} {out : List ℕ} {at : ℕ} → Writable ps k n last out at
    → {j : ℕ} {out' : List ℕ} {prev : ℤ} {next limit : ℕ} (a : Along ps k n last out at j out' prev next limit) (m i : ℕ)
    → i ≡ k + j → j + m ≤ n → length a.behind ≤ m → (i' : ℕ) {out'' : List ℕ} {next' limit' : ℕ} → i' + 1 ≡ k + (j + m) → 0 < m
    → WroteOver ps i m prev out' next out'' next' limit'
    → Along ps k n last out at (j + m) out'' (to_z w64 (of_z w64 (get_or ps i' (pos 0)))) next' limit'
along-more {ps} {k} {n} w a m i e l b i' q p o =
    record {
      clean = o.clean;
      upto = upto-more w a.upto m i e l i' q p (wrote-cover a.clean a.behind o.wrote a.is b (omega (arith, w.pixels)));
      behind = o.behind;
      few = o.few;
      seven = o.seven;
      is = o.is;
    }

-- all of them: nothing is left behind
pub along-end : {ps : List ℤ} {last : ℤ} {out : List ℕ} {at j : ℕ} {out' : List ℕ} {prev : ℤ} {next : ℕ}
    → Along ps 0 (length ps) last out at j out' prev next (length ps - j) → length ps ≤ j → Wrote ps 0 (length ps) last out at out' next
along-end {ps} {next = next} a h = wrote_as a.upto.wrote (omega (arith, a.upto.few))
    (a.is ∙ ap (sets a.clean next) (none a.behind (omega (arith, a.few)))) refl
  where
    none : (l : List ℕ) → length l ≡ 0 → l ≡ []
    none [] e = refl
    none (x ∷ l) e = let y : ⊥ = omega arith in absurd y

pub over-as : {ps : List ℤ} {k n : ℕ} {last : ℤ} {out : List ℕ} {at : ℕ} {out' : List ℕ} {next limit n' : ℕ} {out'' : List ℕ} {next' limit' : ℕ}
    → WroteOver ps k n last out at out' next limit → n' ≡ n → out'' ≡ out' → next' ≡ next → limit ≤ limit'
    → WroteOver ps k n' last out at out'' next' limit'
over-as w e f g l =
    record {
      clean = w.clean;
      wrote = wrote_as w.wrote e refl g;
      behind = w.behind;
      few = omega (arith, w.few);
      seven = w.seven;
      is = f ∙ w.is ∙ ap (λ (x : ℕ). sets w.clean x w.behind) (sym g);
    }
