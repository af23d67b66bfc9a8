-- Document 01's sample, its section replaced by 5 and 205, is itself: by computation.
use mathlib.Core.Path.{◌≡◌, refl}
use mathlib.Core.List.{[], ◌∷◌}
use lib.IntN.{pos}
use Rattle.cbf_walk.specs.Exchange.{exchanged}
use Rattle.cbf_walk.specs.Reading.{read_f}
use Rattle.cbf_pixels.specs.Pixels.{pack_byte_offset, pack_from, pack_difference, pack_by, widths, within, all_within}
use Rattle.cbf_answers.specs.Answers.{gives}
use Rattle.cbf_format.specs.Lines.{text_line, line_end, exactly, literal, semicolon_line}
use Rattle.cbf_format.specs.Headers.{header_line, header_lines}
use Rattle.cbf_format.specs.Values.{decimal_number}
use Rattle.cbf_format.specs.Descriptions.{judge, verdict, headers}
use Rattle.cbf_format.specs.Sections.{last_boundary, after_span, closed, binary_data, section}
use Rattle.cbf_format.specs.Files.{due, step, identified, read}
use Rattle.cbf_format.specs.Listing.{digits_of, sections, numbered}
use Rattle.cbf_format.specs.House.{ended_lines, house_lines, house, replaced_file}
use Rattle.cbf_format.proofs.Examples.{sample}
use Rattle.cbf_answers.specs.Rooms.{room_for}
use Rattle.cbf_format.specs.ReplaceCalls.{frame_fits, room_for_file, replace_fitting, replace_outcome, replaced_by}
use Rattle.cbf_pixels.specs.Octets as O

pub sample-replaced : replaced_by sample (read 80 sample) 1 (pos 5 ∷ pos 205 ∷ []) ≡ sample
unfolding sample read read_f step due text_line line_end exactly literal semicolon_line header_line header_lines judge
    verdict headers last_boundary after_span closed binary_data section identified decimal_number sections numbered
    house ended_lines house_lines digits_of replaced_file exchanged replaced_by pack_byte_offset pack_from pack_difference
    pack_by widths O.half O.bits O.octets
sample-replaced = refl

pub sample-answer : replace_outcome sample (read 80 sample) 1 (pos 5 ∷ pos 205 ∷ []) 401 ≡ gives 401
unfolding sample read read_f step due text_line line_end exactly literal semicolon_line header_line header_lines judge
    verdict headers last_boundary after_span closed binary_data section identified decimal_number sections numbered
    house ended_lines house_lines digits_of replaced_file exchanged replace_outcome replace_fitting room_for_file room_for
    frame_fits within all_within pack_byte_offset pack_from pack_difference pack_by widths O.half O.bits O.octets
sample-answer = refl
