-- The values of the known headers as the code keeps them.
use Rattle.std.specs.Prelude.{List, ℕ, Option}
use Rattle.cbf_format.specs.declared.KnownHeader.{KnownHeader}
use Rattle.cbf_format.specs.declared.KnownHeader.TheVariants.{TransferEncoding, Size, Elements, ContentType, Kind}
use Rattle.cbf_format.specs.declared.KnownHeader.TheVariants.{ByteOrder, Id, Fastest, Second, Third}
use Rattle.cbf_format.specs.Descriptions.{look}
use Rattle.cbf_values.specs.KnownValue.{InRangeOf}
use Rattle.cbf_headers.specs.declared.found.Found.{Found}

-- the first value of each known header in a list
abbrev pub found_of : List (KnownHeader × ℕ) → Found
found_of fs =
    record {
      encoding = look TransferEncoding fs;
      size = look Size fs;
      elements = look Elements fs;
      compression = look ContentType fs;
      kind = look Kind fs;
      order = look ByteOrder fs;
      id = look Id fs;
      fastest = look Fastest fs;
      second = look Second fs;
      third = look Third fs;
    }

-- the field of a known header
abbrev pub field_of : KnownHeader → Found → Option ℕ
field_of TransferEncoding f = f.encoding
field_of Size f = f.size
field_of Elements f = f.elements
field_of ContentType f = f.compression
field_of Kind f = f.kind
field_of ByteOrder f = f.order
field_of Id f = f.id
field_of Fastest f = f.fastest
field_of Second f = f.second
field_of Third f = f.third

-- each value is below 2^31
pub record InRange (values : Found) : Type 0 where
  pub each : (k : KnownHeader) → InRangeOf (field_of k values)
