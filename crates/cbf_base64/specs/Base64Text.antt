-- What the lines of a BASE64 text say, at a place of the file.
use Rattle.std.specs.Prelude.{cond, List, ℕ, ◌+◌, ◌≤◌, ltb, Option, None, Some, Result, Ok, Err}
use Rattle.cbf_answers.specs.Limits.{file_limit}
use Rattle.cbf_answers.specs.declared.Refusal.{Refusal}
use Rattle.cbf_walk.specs.Parsers.{Res, bad, cut, ok}
use Rattle.cbf_format.specs.Text.{textual, same}
use Rattle.cbf_format.specs.Base64.{Letters}
use Rattle.cbf_format.specs.Sections.{closing}
use Rattle.cbf_base64.specs.Base64.{groups_from, bytes_from}
use Rattle.cbf_base64.specs.declared.base64.Groups.{Groups}
use Rattle.cbf_base64.specs.declared.base64_text.Base64Line.{Base64Line}
use Rattle.cbf_base64.specs.declared.base64_text.Base64Line.TheVariants.{Closing, Text}
use Rattle.cbf_base64.specs.declared.base64_text.Base64Text.{Base64Text}
use Rattle.cbf_format.specs.Reads.{read_at}
use Rattle.cbf_format.specs.declared.Stop.{Stop}

-- a line is the closing boundary
abbrev pub closing_at : ℕ → Res (List ℕ) → Option ℕ
closing_at at (bad k p) = None
closing_at at cut = None
closing_at at (ok t n) = cond (same t closing) (Some (at + n)) None

-- of a byte that is no symbol, or one too many
abbrev pub refused_number : ℕ → ℕ → ℕ → ℕ
refused_number b column limit = cond (textual b) (cond (ltb column limit) 10 2) 3

-- a line of the text, after the symbols g. No line is cut.
abbrev pub base64_line_at : ℕ → Groups → Res (List ℕ) → Result Base64Line Refusal
base64_line_at at g (bad k p) = Err (record { number = k; place = at + p })
base64_line_at at g cut = Err (record { number = 11; place = at })
base64_line_at at g (ok t n) = Ok (cond (same t closing) (Closing (at + n)) (Text (bytes_from g t) (at + n)))

-- there are no more symbols than bytes before them
abbrev pub FewOfLine : Result Base64Line Refusal → Type 0
FewOfLine (Err r) = 0 ≤ 0
FewOfLine (Ok (Closing n)) = 0 ≤ 0
FewOfLine (Ok (Text g n)) = g.letters + g.pads ≤ n

-- the text that starts at a place, from what the lines from `next` on give after the symbols g
abbrev pub letters_at : ℕ → ℕ → Groups → Res Letters → Result Base64Text Stop
letters_at at next g r =
    read_at next (λ l n. record { groups = groups_from g l.symbols; closing = at + l.closing; next = next + n }) r

abbrev pub FewOfText : Result Base64Text Stop → Type 0
FewOfText (Err s) = 0 ≤ 0
FewOfText (Ok t) = t.groups.letters + t.groups.pads ≤ file_limit
