-- One section as a choice of sections, and what is answered for a frame. Assumes nothing.
use mathlib.Core.Path.{◌≡◌, refl, sym, ap, subst}
use mathlib.Core.Bool.{false}
use mathlib.Core.List.{List, [], ◌∷◌}
use Prim.Native.Nat.{ℕ, ◌≤◌}
use native.Mathlib.Omega.{arith}
use borrow.Author.Tests.{eq-eqb, ne_eqb}
use lib.ListN.{length}
use lib.Seq.{slice, take-length}
use lib.IntN.{ℤ}
use Rattle.cbf_pixels.specs.Pixels.{pack_byte_offset}
use Rattle.cbf_answers.specs.Answers.{Outcome, refuses}
use Rattle.cbf_answers.specs.Limits.{pixel_limit}
use Rattle.cbf_pixels.proofs.Bounds.{packed-limit}
use Rattle.cbf_measure.specs.Measure.{size_of}
use Rattle.std.specs.Prelude.{Option, None, Some, Ok, Err, ok_or}
use Rattle.cbf_answers.specs.declared.Refusal.{Refusal}
use Rattle.cbf_rewrite.specs.declared.rewrite.Chosen.{Chosen}
use Rattle.cbf_pack.proofs.PackingLaws.{measured, outside, all_small}
use Rattle.cbf_format.specs.declared.Description.{Description}
use Rattle.cbf_format.specs.House.{only}
use Rattle.cbf_format.proofs.ReplacementLaws.{replaced-same}
use Rattle.cbf_reader.specs.declared.whole_file.SectionFound.{SectionFound}
use Rattle.cbf_reader.proofs.LoopLaws.{before-count}
use Rattle.cbf_answers.proofs.Rooms.{Says, refusal}
use Rattle.cbf_format.specs.ReplaceCalls.{frame_fits, replace_fitting}
use Rattle.cbf_house.specs.Span.{Packed}
use Rattle.cbf_rewrite.proofs.RewriteLaws.{SaysFile}
use Rattle.cbf_rewrite.specs.Rewrite.{sections_of, chosen_frames, new_octets, rewritten, ChosenSections, Rewritable}
use Rattle.cbf_replace.specs.NewFile.{one_replaced, SectionThere}
use Rattle.cbf_format.specs.Files as F

-- ---- one section

module _ {limit : ℕ} {file : List ℕ} {number : ℕ} {f : SectionFound} (there : SectionThere limit file number f)
    (frame : List ℤ) where
  -- it is the only one that is chosen, with the whole of the frames
  abbrev pub one : ℕ → List Chosen
  one size = record { number = number; end = length frame; size = size } ∷ []

  all-of-it : slice 0 (length frame) frame ≡ frame
  all-of-it = take-length frame

  pub one-rewritable : {size : ℕ} → Packed frame size → length frame ≤ pixel_limit
      → Rewritable limit file (one size) frame f
  unfolding ChosenSections
  one-rewritable {size} k few =
      record {
        its = there.its;
        accepted = there.accepted;
        number = number;
        here = there.here;
        few = omega arith;
        choices = (
          record {
            above = omega (arith, before-count there.here);
            there = there.there;
            low = omega arith;
            high = omega arith;
            packed = subst (λ (f : List ℤ). Packed f size) (sym all-of-it) k;
            few = omega (arith, k.counted, packed-limit frame few);
          },
          tt,
        );
      }

  pub one-rewritten : (size : ℕ) → rewritten limit file (one size) frame ≡ one_replaced limit file number (pack_byte_offset frame)
  unfolding chosen_frames new_octets
  one-rewritten size =
      replaced-same file (sections_of (F.read limit file))
      (new_octets (chosen_frames 0 (one size) frame)) (only number (pack_byte_offset frame))
      (λ n. ap (λ (f : List ℤ). only number (pack_byte_offset f) n) all-of-it)

-- ---- a frame that was measured

pub err-none : (o : Option ℕ) (e x : Refusal) → ok_or o e ≡ Err x → (o ≡ None) × (x ≡ e)
err-none None e x h = (refl, cc)
err-none (Some n) e x h = cc

pub ok-some : (o : Option ℕ) (e : Refusal) (n : ℕ) → ok_or o e ≡ Ok n → o ≡ Some n
ok-some None e n h = cc
ok-some (Some m) e n h = cc

-- ---- what is answered

module _ (d : Description) (frame : List ℤ) (new old : List ℕ) where
  abbrev pub SaysFitting : Outcome → List ℕ → Type 0
  SaysFitting said out = Says (replace_fitting d frame new (length old)) new old said out

  unfit : frame_fits d frame ≡ false → SaysFitting (refuses 14 0) old
  unfolding replace_fitting
  unfit e = refusal new old (sym (rw e refl))

  pub wrong-count : (length frame ≡ d.elements → ⊥) → SaysFitting (refuses 14 0) old
  unfolding frame_fits
  wrong-count h = unfit (rw (ne_eqb (length frame) d.elements h) refl)

  pub pixel-outside : length frame ≡ d.elements → None ≡ size_of d.kind frame → SaysFitting (refuses 14 0) old
  unfolding frame_fits
  pixel-outside e h = unfit (rw (eq-eqb (length frame) d.elements e, outside d.kind frame old h) refl)

  pub frame-packed : {n : ℕ} → Some n ≡ size_of d.kind frame → Packed frame n
  frame-packed {n} h =
      let m = measured d.kind frame old n h in
      record { small = all_small d.kind frame m.0; counted = sym m.1 }

  pub frame-fits : {n : ℕ} {said : Outcome} {out : List ℕ} → length frame ≡ d.elements
      → Some n ≡ size_of d.kind frame → {made : List ℕ} → made ≡ new → SaysFile made old said out
      → SaysFitting said out
  unfolding replace_fitting frame_fits
  frame-fits {n} {said} {out} e h is u =
      rw (eq-eqb (length frame) d.elements e, (measured d.kind frame old n h).0)
      (subst (λ (l : List ℕ). SaysFile l old said out) is u)
