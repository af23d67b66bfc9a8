-- A BASE64 section of an accepted file: where its text stands, that it is good, and that its octets are the
-- section's. Assumes nothing.
use mathlib.Core.Path.{◌≡◌, sym, ap, ◌∙◌}
use mathlib.Core.Bool.{true}
use mathlib.Core.List.{List}
use Prim.Native.Nat.{ℕ, ◌+◌, ◌-◌, ◌≤◌, ◌<◌}
use native.Mathlib.Omega.{arith}
use lib.ListN.{length, take, drop, get_or, length-take, length-drop}
use lib.Seq.{slice, get_or-drop}
use Rattle.cbf_format.specs.declared.Encoding.TheVariants.{Base64}
use Rattle.cbf_format.specs.Listing.{Placed, position}
use Rattle.cbf_format.proofs.Slices.{slice-take}
use Rattle.cbf_format.proofs.OctetLaws.{DataAt, position_in, octet-count}
use Rattle.cbf_letters.specs.Octets.{text_byte, text_octets, TextOf}
use Rattle.cbf_letters.specs.Letters.{sixes, sixes_octets}
use Rattle.cbf_letters.proofs.SixesLaws.{base64-octets}
use Rattle.cbf_letters.proofs.LettersLaws.{base64-good}

pub text_of : {limit : ℕ} {file : List ℕ} {p : Placed} → DataAt limit file p → p.section.description.encoding ≡ Base64
    → TextOf file p (p.boundary + p.section.width - 31)
text_of {limit} {file} {p} d e =
    let r = rw e at d.read_data in
    go (base64-octets limit size (drop d.at file) d.found d.took r) (base64-good limit size (drop d.at file) d.found d.took r)
  where
    size : ℕ
    size = p.section.description.size

    n : ℕ
    n = d.found.width - 31

    to : ℕ
    to = p.boundary + p.section.width - 31

    go : (d.found.lead ≡ 0) × (31 ≤ d.found.width) × (d.found.width ≤ length (drop d.at file)) × (length d.found.octets ≡ size)
        × (d.found.octets ≡ take size (sixes_octets (sixes (take n (drop d.at file)))))
        → ((i : ℕ) → i < n → text_byte (get_or (drop d.at file) i 0) ≡ true) → TextOf file p to
    go b good =
        let at : d.at ≡ position p = omega (arith, d.first, b.0) in
        let wide : position p + n ≡ to = omega (arith, d.end, at, b.1) in
        let text : take n (drop d.at file) ≡ slice (position p) to file =
        ap (λ (k : ℕ). take n (drop k file)) at ∙ sym (slice-take file (position p) n (position_in d)) ∙ ap (λ (k : ℕ). slice (position p) k file) wide in
        let octets : p.section.octets ≡ take size (text_octets file (position p) to) = d.octets ∙ b.4
        ∙ ap (λ (l : List ℕ). take size (sixes_octets (sixes l))) text in
        record {
          end = omega (arith, d.end, b.1);
          begun = omega (arith, wide);
          inside = omega (arith, wide, at, b.1, b.2, length-drop d.at file, position_in d);
          good_text = λ i h k.
              let m : d.at + (i - d.at) ≡ i = omega (arith, at) in rw (get_or-drop d.at file (i - d.at) 0, m) at
              (good (i - d.at) (omega (arith, at, wide)));
          enough = omega (arith, octet-count d, ap length octets, length-take size (text_octets file (position p) to));
          octets = octets;
        }
