-- The limits that document 01 sets, each here only.
use Rattle.std.specs.Prelude.{ℕ}

-- "Text line: at most 80 characters, line end not counted"
abbrev pub line_limit : ℕ
line_limit = 80

-- "File and result file: at most 1,073,741,824 bytes", and so no more lines
abbrev pub file_limit : ℕ
file_limit = 1_073_741_824

-- "Pixels in a section: at most 67,108,864"
abbrev pub pixel_limit : ℕ
pixel_limit = 67_108_864
