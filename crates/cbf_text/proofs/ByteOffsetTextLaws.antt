-- A pass over the pixels of a text: what holds at each turn, what a part requires and what it leaves, and the end.
-- Assumes nothing.
use Prim.Native.Nat.{ℕ, ◌+◌, ◌-◌, ◌^◌, ◌<◌, ◌≤◌}
use native.Mathlib.Omega.{arith}
use mathlib.Core.Path.{◌≡◌, refl, sym, ap, ◌∙◌, subst}
use mathlib.Core.List.{List, [], ◌∷◌, ◌++◌, append-nil}
use mathlib.Core.Bool.{Bool, true, false}
use Rattle.std.specs.Prelude.{Option, None, Some}
use Rattle.std.proofs.lemmas.Option.{none-some}
use lib.Dec.{eqb, lit<}
use lib.ListN.{length, take, drop, length-append}
use lib.Seq.{sets, slice, sets-eq, length-sets, length-take-le}
use lib.IntN.{ℤ, pos}
use lib.Signed.{mag}
use mir.Syntax.{w64}
use mir.Val.{to_z, of_z}
use borrow.Author.Tests.{eqb-true}
use Rattle.cbf_pixels.specs.declared.ElementType.{ElementType}
use Rattle.cbf_octets.specs.declared.Part.{Part}
use Rattle.cbf_pixels.specs.Pixels.{within, least, greatest, unpack_from, unpack_byte_offset}
use Rattle.cbf_pixels.specs.PixelCalls.{is_some, pixels_of}
use Rattle.cbf_octets.specs.Rest.{rest, onto_pixels, Behind}
use Rattle.cbf_validate.specs.Validate.{Valid}
use Rattle.cbf_unpack.specs.Fill.{Fillable, FilledPart}
use Rattle.cbf_pixels.proofs.Integers.{within-small, held}
use Rattle.cbf_answers.proofs.Stores.{sets-append}
use Rattle.cbf_octets.proofs.RestLaws.{some-onto, rest_end_lem}
use Rattle.cbf_validate.proofs.ValidateLaws.{zero-within}
use Rattle.cbf_unpack.proofs.FillLaws.{onto-onto, onto-nil, rest-empty}
use Rattle.cbf_letters.specs.Octets.{text_octets}
use Rattle.cbf_text.specs.TextWindow.{content, Holds, Refilled, fresh}
use Rattle.cbf_text.proofs.TextWindowLaws.{fresh-holds}
use Rattle.cbf_text.specs.ByteOffsetText.{PartSays, pass_output}
use Rattle.cbf_text.specs.declared.text_window.Window.{Window}

-- ---- pixels so far: of all pixels those that are left come after z

-- they were validated
pub record Validated (t : ElementType) (all left : Option (List ℤ)) (out₀ out : List ℤ) (z : ℤ) : Type 0 where
  pub same : is_some all ≡ is_some left
  pub kept : out ≡ out₀
  pub typed : within (least t) (greatest t) z ≡ true

-- k of them were written
pub record Written (all left : Option (List ℤ)) (out₀ out : List ℤ) (z : ℤ) (k : ℕ) : Type 0 where
  pub pixels : List ℤ
  pub many : length pixels ≡ k
  pub wrote : out ≡ sets out₀ 0 pixels
  pub says : all ≡ onto_pixels pixels left
  pub small : mag z < 2 ^ 32

pub record Done (writing : Bool) (t : ElementType) (all left : Option (List ℤ)) (out₀ out : List ℤ) (z : ℤ) (k : ℕ) : Type 0 where
  pub validated : writing ≡ false → Validated t all left out₀ out z
  pub written : writing ≡ true → Written all left out₀ out z k

-- octets that remain after the last pixel
remain : (t : ElementType) (z : ℤ) (l : List ℕ) → 0 < length l → is_some (unpack_from (least t) (greatest t) z 0 l) ≡ false
unfolding unpack_from is_some
remain t z [] h = let y : ⊥ = omega arith in absurd y
remain t z (o ∷ l) h = refl

by_bool : {X : Type 0} (b : Bool) → (b ≡ false → X) → (b ≡ true → X) → X
by_bool false f g = f refl
by_bool true f g = g refl

module _ {writing : Bool} {t : ElementType} {all left : Option (List ℤ)} {out₀ out : List ℤ} {z : ℤ} {k : ℕ} (d : Done writing t all left out₀ out z k) where
  pub left-same : is_some all ≡ is_some left
  left-same =
      by_bool writing (λ e. (d.validated e).same) (λ e. let w = d.written e in ap is_some w.says ∙ some-onto w.pixels left)

  pub done-length : length out ≡ length out₀
  done-length =
      by_bool writing (λ e. ap length (d.validated e).kept) (λ e. let w = d.written e in ap length w.wrote ∙ length-sets out₀ 0 w.pixels)

  pub done-small : mag z < 2 ^ 32
  done-small = by_bool writing (λ e. within-small t z (d.validated e).typed) (λ e. (d.written e).small)

-- ---- one part
module _ {writing : Bool} {t : ElementType} {all : Option (List ℤ)} {os tail : List ℕ} {ended : Bool} {out₀ out out' : List ℤ} {z : ℤ} {i n k : ℕ} {r : Option Part}
    (b : Behind ended tail) (d : Done writing t all (rest t os tail z i n) out₀ out z k) (s : PartSays writing t os ended z i n k out out' r) where
  -- a part that does not unpack: nothing was written
  pub part-fails : r ≡ None → (false ≡ is_some all) × (writing ≡ false) × (out' ≡ out₀)
  part-fails g =
      by_bool writing
      (λ e. let v = s.valid e in let o = d.validated e in let w = rw g at v.0 in (sym (o.same ∙ w tail b), e, v.1 ∙ o.kept))
      (λ e. let f = s.filled e in let q : Some f.0 ≡ None = sym f.1 ∙ g in absurd (none-some f.0 (sym q)))

  module _ {p : Part} (g : r ≡ Some p) where
    valid_part : writing ≡ false → Valid t os ended z i n p
    valid_part e = rw g at (s.valid e).0

    filled_part : writing ≡ true → FilledPart os ended z i n k out out' p
    filled_part e = let f = s.filled e in let q : f.0 ≡ p = cc (f.1, g) in rw q at f.2

    pub part-few : (p.count ≤ n) × (p.last.next ≤ length os)
    part-few = by_bool writing (λ e. let v = valid_part e in (v.few, v.inside)) (λ e. let f = filled_part e in (f.few, f.inside))

    pub part_then_lem : (writing ≡ true → is_some all ≡ true)
        → Done writing t all (rest t os tail p.last.pixel p.last.next (n - p.count)) out₀ out' p.last.pixel (k + p.count)
    part_then_lem a =
        record {
          validated = λ e.
              let v = valid_part e in
              let o = d.validated e in
              record { same = o.same ∙ v.passed tail b; kept = (s.valid e).1 ∙ o.kept; typed = v.typed };
          written = λ e.
              let f = filled_part e in
              let o = d.written e in
              let l = rest t os tail p.last.pixel p.last.next (n - p.count) in
              let here : k ≡ 0 + length o.pixels = omega (arith, o.many) in
              record {
                pixels = o.pixels ++ f.pixels;
                many = omega (arith, length-append o.pixels f.pixels, o.many, f.many);
                wrote = f.wrote ∙ ap (λ (x : List ℤ). sets x k f.pixels) o.wrote
                    ∙ ap (λ (x : ℕ). sets (sets out₀ 0 o.pixels) x f.pixels) here ∙ sets-append out₀ 0 o.pixels
                    f.pixels;
                says = o.says ∙ ap (onto_pixels o.pixels) (f.leads t tail b (sym (left-same d) ∙ a e)) ∙ onto-onto o.pixels f.pixels l;
                small = f.after;
              };
        }

-- ---- the text

-- what is left to unpack after z: n pixels, of what the window holds
abbrev pub left_of : ElementType → List ℕ → ℕ → Window → ℤ → ℕ → Option (List ℤ)
left_of t file to w z n = rest t (take w.have w.octets) (take w.left (text_octets file w.at to)) z w.next n

-- what holds at each turn
pub record Passing (t : ElementType) (file : List ℕ) (from to count : ℕ) (writing : Bool) (all : Option (List ℤ))
    (out₀ out : List ℤ) (w : Window) (z : ℤ) (k : ℕ) : Type 0 where
  pub holds : Holds file to w
  pub low : from ≤ w.at
  pub few : k ≤ count
  pub done : Done writing t all (left_of t file to w z (count - k)) out₀ out z k

module _ {t : ElementType} {file : List ℕ} {from to count : ℕ} {writing : Bool} {all : Option (List ℤ)} {out₀ out : List ℤ} where
  -- the window was filled again
  pub refilled : {w r : Window} {z : ℤ} {k : ℕ} → Passing t file from to count writing all out₀ out w z k → Refilled file to w r
      → Passing t file from to count writing all out₀ out r z k
  unfolding rest
  refilled {z = z} {k = k} s R =
      record {
        holds = R.holds;
        low = omega (arith, s.low, R.onward);
        few = s.few;
        done = subst (λ (l : List ℕ). Done writing t all (unpack_from (least t) (greatest t) z (count - k) l) out₀ out z k) (sym R.same) s.done;
      }

  module _ {w : Window} {z : ℤ} {k : ℕ} (s : Passing t file from to count writing all out₀ out w z k) where
    -- the octets of the window
    pub there : length (take w.have w.octets) ≡ w.have
    there = length-take-le w.have w.octets s.holds.high

    behind : Behind (eqb w.left 0) (take w.left (text_octets file w.at to))
    behind e = ap (λ (n : ℕ). take n (text_octets file w.at to)) (eqb-true w.left 0 e)

    -- the end: all pixels are passed
    module _ (h : count ≤ k) where
      none_left : count - k ≡ 0
      none_left = omega arith

      ended_is : Done writing t all (left_of t file to w z 0) out₀ out z k
      ended_is = subst (λ (n : ℕ). Done writing t all (left_of t file to w z n) out₀ out z k) none_left s.done

      pub ends : w.left ≡ 0 → eqb w.next w.have ≡ is_some all
      ends e =
          sym (left-same ended_is
          ∙ ap (λ (n : ℕ). is_some (rest t (take w.have w.octets) (take n (text_octets file w.at to)) z w.next 0)) e
          ∙ rest_end_lem t (take w.have w.octets) z w.next (omega (arith, there, s.holds.low))
          ∙ ap (eqb w.next) there)

      pub ends-not : (w.left ≡ 0 → ⊥) → false ≡ is_some all
      unfolding rest
      ends-not e =
          sym (left-same ended_is
          ∙ remain t z (content file to w)
          (omega (
            arith,
            length-append (slice w.next w.have w.octets)
                (take w.left (text_octets file w.at to)),
            length-take-le w.left (text_octets file w.at to)
                s.holds.enough,
          )))

      pub output : (writing ≡ true → (count ≤ length out₀) × (is_some all ≡ true)) → out ≡ pass_output writing all count out₀
      unfolding pixels_of
      output a =
          by_bool writing
          (λ e. rw e (s.done.validated e).kept)
          (λ e.
          let o = ended_is.written e in
          let ps = o.pixels in
          let m : 0 + length ps ≡ count = omega (arith, o.many, s.few) in
          let q : all ≡ Some (ps ++ []) = o.says ∙ ap (onto_pixels ps) (rest-empty t (take w.have w.octets)
          (take w.left (text_octets file w.at to)) z w.next (sym (left-same ended_is) ∙ (a e).1)) in
          rw e
          (o.wrote
          ∙ sets-eq ps out₀ 0 (omega (arith, (a e).0))
          ∙ ap (λ (n : ℕ). ps ++ drop n out₀) m
          ∙ ap (λ (x : List ℤ). x ++ drop count out₀) (sym (append-nil ps) ∙ ap pixels_of (sym q))))

    -- the next part
    module _ (f : w.next ≡ 0) where
      here : Done writing t all (rest t (take w.have w.octets) (take w.left (text_octets file w.at to)) z 0 (count - k)) out₀ out z k
      here = subst (λ (n : ℕ). Done writing t all (rest t (take w.have w.octets)
          (take w.left (text_octets file w.at to)) z n (count - k)) out₀ out z k) f s.done

      pub fillable : count ≤ length out₀ → is_some all ≡ true → Fillable (take w.have w.octets) (eqb w.left 0) z 0
          (count - k) × (k + (count - k) ≤ length out)
      fillable l a = (
        record {
          type = t;
          tail = take w.left (text_octets file w.at to);
          last = behind;
          unpacks = sym (left-same here) ∙ a;
          before = done-small here;
        },
        omega (arith, done-length here, s.few),
      )

      module _ {out' : List ℤ} {r : Option Part} (ps : PartSays writing t (take w.have w.octets) (eqb w.left 0) z 0 (count - k) k out out' r) where
        pub turn-fails : r ≡ None → (false ≡ is_some all) × (out' ≡ pass_output writing all count out₀)
        turn-fails g = let q = part-fails behind here ps g in (q.0, rw q.1 q.2)

        module _ {p : Part} (g : r ≡ Some p) where
          pub turned : (writing ≡ true → is_some all ≡ true)
              → Passing t file from to count writing all out₀ out' (record {
                octets = w.octets;
                at = w.at;
                left = w.left;
                next = p.last.next;
                have = w.have;
              }) (to_z w64 (of_z w64 p.last.pixel)) (k + p.count)
          turned a =
              let d = part_then_lem behind here ps g a in
              let m = part-few behind here ps g in
              let c : count - k - p.count ≡ count - (k + p.count) = omega arith in
              let v : to_z w64 (of_z w64 p.last.pixel) ≡ p.last.pixel = held p.last.pixel (omega (arith, done-small d)) in
              record {
                holds = record {
                  low = omega (arith, m.1, there);
                  high = s.holds.high;
                  begun = s.holds.begun;
                  enough = s.holds.enough;
                  wide = s.holds.wide;
                };
                low = s.low;
                few = omega (arith, m.0, s.few);
                done = rw (v, ← c) d;
              }

-- before the first turn
pub starts : (t : ElementType) (file : List ℕ) (from to size count : ℕ) (writing : Bool) (out : List ℤ)
    {w : Window} → w ≡ fresh from size → from ≤ to → size ≤ length (text_octets file from to)
    → Passing t file from to count writing (unpack_byte_offset t count (take size (text_octets file from to))) out out w (pos 0) 0
unfolding rest unpack_byte_offset
starts t file from to size count writing out q h l =
    let c : count - 0 ≡ count = omega arith in
    let all = unpack_from (least t) (greatest t) (pos 0) count (take size (text_octets file from to)) in
    rw q
    (record {
      holds = fresh-holds h l;
      low = omega arith;
      few = omega arith;
      done = rw c
          (record {
            validated = λ _. record { same = refl; kept = refl; typed = zero-within t };
            written = λ _. record { pixels = []; many = refl; wrote = refl; says = onto-nil all; small = lit< tt };
          });
    })
