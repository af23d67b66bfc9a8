-- Where the octets of a section are in the file: for the contracts of the private functions. Nothing here is part of
-- what the public calls promise.
use Rattle.std.specs.Prelude.{◌≡◌, List, ℕ, ◌+◌, ◌*◌, ◌≤◌, length}
use Rattle.std.proofs.Math.Seq.{slice}
use Rattle.cbf_answers.specs.Limits.{pixel_limit}
use Rattle.cbf_pixels.specs.Uncompressed.{octets_per}
use Rattle.cbf_pixels.specs.declared.Compression.TheVariants.{Uncompressed}
use Rattle.cbf_format.specs.declared.Encoding.TheVariants.{Binary, Base64}
use Rattle.cbf_format.specs.Listing.{Placed, position}
use Rattle.cbf_reader.specs.Walk.{SectionOf}
use Rattle.cbf_format.specs.declared.Section.{Section}
use Rattle.cbf_letters.specs.Octets.{TextOf}

-- BINARY: the octets are a part of the file
pub record InFile (file : List ℕ) (p : Placed) : Type 0 where
  pub octets : p.section.octets ≡ slice (position p) (position p + p.section.description.size) file
  pub inside : position p + p.section.description.size ≤ length file

-- a section of the code with the octets that it stands for
pub record FrameOf (file : List ℕ) (p : Placed) (s : Section) : Type 0 where
  pub is : SectionOf file p s
  pub binary : p.section.description.encoding ≡ Binary → InFile file p
  pub base64 : p.section.description.encoding ≡ Base64 → (to : ℕ) × TextOf file p to
  pub few : p.section.description.elements ≤ pixel_limit
  pub whole : p.section.description.compression ≡ Uncompressed
      → p.section.description.size ≡ p.section.description.elements * octets_per p.section.description.kind
